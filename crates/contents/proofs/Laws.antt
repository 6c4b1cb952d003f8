-- What the project cites of questions put in turn, of a sheet's contents and of writing a sheet. The proofs are in Lemmas. Assumes nothing.
use Rattle.std.specs.Prelude.{ℕ, suc, ◌+◌, ◌*◌, ◌<◌, ◌≤◌, ◌≡◌, refl, true, false, ◌↔◌, eqb, length, get_or, set, take}
use mathlib.Core.List.{List, [], ◌∷◌, ◌++◌, Memᴰ}
use Rattle.std.proofs.Common.{ltb-true, lt-ltb}
use Rattle.lists.proofs.TestLaws.{same_test, both_iff}
use Rattle.numbers.specs.Little.{Bytes}
use Rattle.std.specs.Prelude.{map, Option, Some, None, is_some, IfSome}
use Rattle.std.specs.Option.{unwrap_or}
use Rattle.std.proofs.Common.{Bor, sym, ◌∙◌}
use Rattle.std.proofs.lemmas.List.{length-map}
use Rattle.contents.specs.Contents.{Part, codes_of, bodies_of, names, has, find, with_part, count_at, contents_size, split, contents_of, chain, join, Writable, together}
use Rattle.contents.specs.Asking.{answer}
use Rattle.contents.specs.Questions.{top_code, is_count, rising, codes_right, contents_questions}
use Rattle.contents.specs.Laid.{Laid}
use Rattle.contents.specs.Places.{layout_of, no_parts, place_of, is_there, cut_of, Located}
use Rattle.contents.proofs.Lemmas.Asked.{Numbered}
use Rattle.contents.proofs.Lemmas.Refused as Refused
use Rattle.contents.specs.declared.Refusal.{Refusal}
use Rattle.contents.specs.Refusals.{number}
use Rattle.contents.proofs.Lemmas.Laid as Laying
use Rattle.contents.proofs.Lemmas.Codes as Codes
use Rattle.contents.proofs.Lemmas.Parts as Parts
use Rattle.contents.proofs.Lemmas.Entries as Entries
use Rattle.contents.proofs.Lemmas.Joined as Joined
use Rattle.contents.proofs.Lemmas.Places as Places
use Rattle.contents.proofs.Lemmas.Written as Written
use Rattle.contents.proofs.Lemmas.Filled as Filled
use Rattle.contents.proofs.Lemmas.With as With
-- ---- answers: one question, one list after another, and questions put to one thing after another

pub use Rattle.contents.proofs.Lemmas.Asked.{Numbered, numbered_append, none_asked, asked_yes, asked_no, asked_iff}
pub use Rattle.contents.proofs.Lemmas.Asked.{append_yes, append_no, append_iff}
pub use Rattle.contents.proofs.Lemmas.Codes.{in_order}
pub use Rattle.contents.proofs.Lemmas.Turns.{turn_numbered, turn_none, turn_more, turn_stop, turn_at, turn_of}

-- ---- the contents

-- what the answer 0 to questions 1 to 3 says
pub contents_numbered : (s : List ℕ) → Numbered (contents_questions s)
contents_numbered = Laying.contents_numbered

pub laid_iff : (s : List ℕ) → (answer (contents_questions s) ≡ 0) ↔ Laid s
laid_iff = Laying.laid_iff

pub count_iff : (k : ℕ) → (is_count k ≡ true) ↔ ((1 ≤ k) × (k ≤ top_code))
count_iff = Laying.count_iff

-- each of these lists, and the same with this code at its end
abbrev pub or_with : ℕ → List (List ℕ) → List (List ℕ)
or_with code [] = []
or_with code (codes ∷ lists) = codes ∷ (codes ++ (code ∷ [])) ∷ or_with code lists

-- Question 2 takes these lists of codes and no other.
pub codes_iff : (codes : List ℕ) → (codes_right codes ≡ true)
    ↔ Memᴰ codes (or_with 7 (((1 ∷ []) ∷ (1 ∷ 5 ∷ []) ∷ (1 ∷ 4 ∷ []) ∷ (1 ∷ 4 ∷ 5 ∷ []) ∷ [])
    ++ or_with 6 ((1 ∷ 2 ∷ []) ∷ (1 ∷ 2 ∷ 5 ∷ []) ∷ (1 ∷ 2 ∷ 4 ∷ []) ∷ (1 ∷ 2 ∷ 4 ∷ 5 ∷ []) ∷ (1 ∷ 2 ∷ 3 ∷ []) ∷ (1 ∷ 2 ∷ 3 ∷ 5 ∷ []) ∷ (1 ∷ 2 ∷ 3 ∷ 4 ∷ []) ∷ (1 ∷ 2 ∷ 3 ∷ 4 ∷ 5 ∷ []) ∷ [])))
unfolding codes_right
codes_iff = Codes.codes_iff

-- codes that question 2 takes: at least one, at most as many as there are, each at most the top code
module _ (codes : List ℕ) (right : codes_right codes ≡ true) where
  pub codes_some : 1 ≤ length codes
  codes_some = Codes.codes_some codes right

  pub codes_few : length codes ≤ top_code
  codes_few = Codes.codes_few codes right

  pub one_there : names codes 1 ≡ true
  one_there = Codes.one_there codes right

  -- part 3 is there only with part 2
  pub two_there : names codes 3 ≡ true → names codes 2 ≡ true
  two_there = Codes.two_there codes right

  -- and so is part 6
  pub six_with_two : names codes 6 ≡ true → names codes 2 ≡ true
  six_with_two = Codes.six_with_two codes right

  pub codes_positive : (i : ℕ) → i < length codes → 0 < get_or codes i 0
  codes_positive = Codes.codes_positive codes right

  pub codes_most : (i : ℕ) → get_or codes i 0 ≤ top_code
  codes_most = Codes.codes_most codes right

-- Parts of right codes are those that are there, code by code.
pub in_order_lem : (parts : List Part) → codes_right (codes_of parts) ≡ true → parts ≡ in_order 1 top_code parts
in_order_lem = Codes.in_order_lem

-- no code stands twice: under its own code a part is found
pub find_own : (parts : List Part) → codes_right (codes_of parts) ≡ true → (i : ℕ) → i < length parts
    → find parts (get_or (codes_of parts) i 0) ≡ get_or (bodies_of parts) i []
find_own = Codes.find_own

pub split_length : (s : List ℕ) → length (split s) ≡ count_at s
split_length = Parts.split_length

pub find_none : (parts : List Part) (code : ℕ) → has parts code ≡ false → find parts code ≡ []
find_none = Parts.find_none

-- Parts of any codes, with a body under a code: that body stands under it, and under every other code what stood there.
module _ (code : ℕ) (body : List ℕ) (parts : List Part) where
  pub with_found : find (with_part code body parts) code ≡ body
  with_found = Parts.with_found code body parts

  pub with_there : has (with_part code body parts) code ≡ true
  with_there = Parts.with_there code body parts

  pub with_other_found : (other : ℕ) → eqb code other ≡ false → find (with_part code body parts) other ≡ find parts other
  with_other_found other e = Parts.with_other_found code body other e parts

  pub with_other_there : (other : ℕ) → eqb code other ≡ false → has (with_part code body parts) other ≡ has parts other
  with_other_there other e = Parts.with_other_there code body other e parts

  -- Beside part 2 any of the codes may stand.
  pub with_right : 0 < code → code ≤ top_code → has parts 2 ≡ true → codes_right (codes_of parts) ≡ true
      → codes_right (codes_of (with_part code body parts)) ≡ true
  with_right some within = Codes.with_right code body within parts some

  -- Putting it there again changes nothing, and neither does a part's own body.
  pub with_twice : with_part code body (with_part code body parts) ≡ with_part code body parts
  with_twice = With.with_twice code body parts

  -- Where there was none, there is one part more, and its bytes.
  pub with_more : has parts code ≡ false
      → (length (with_part code body parts) ≡ suc (length parts))
      × (length (chain (bodies_of (with_part code body parts))) ≡ length (chain (bodies_of parts)) + length body)
  with_more = With.with_more code body parts

  pub with_bytes : Bytes body → ((i : ℕ) → Bytes (get_or (bodies_of parts) i [])) → (i : ℕ) → Bytes (get_or (bodies_of (with_part code body parts)) i [])
  with_bytes b = With.with_bytes code body b parts

pub with_own : (code : ℕ) (parts : List Part) → codes_right (codes_of parts) ≡ true → has parts code ≡ true → with_part code (find parts code) parts ≡ parts
unfolding codes_right
with_own code parts right = With.with_own code 0 parts ((both_iff (rising 0 (codes_of parts)) _).0 right).0

-- The parts of a list of bytes are lists of bytes.
pub find_bytes : (s : List ℕ) → Bytes s → (code : ℕ) → Bytes (find (split s) code)
find_bytes = Parts.find_bytes

-- ---- joining and splitting

-- Join then split gives the parts back, of any number and any codes.
pub split_join : (parts : List Part) → Writable parts → split (join parts) ≡ parts
split_join = Joined.split_join

-- Split then join gives a sheet back, byte for byte, where its contents are right.
pub join_split : (s : List ℕ) → Bytes s → Laid s → join (split s) ≡ s
join_split s b l = Joined.join_split s l b

-- The contents of a joined sheet pass questions 1 to 3.
pub join_laid : (parts : List Part) → Writable parts → codes_right (codes_of parts) ≡ true → Laid (join parts)
join_laid = Joined.join_laid

pub join_length : (parts : List Part) → length (join parts) ≡ contents_size (length parts) + length (chain (bodies_of parts))
join_length = Entries.join_length

-- Of bodies that are lists of bytes it is one too.
pub join_bytes : (parts : List Part) → ((i : ℕ) → Bytes (get_or (bodies_of parts) i [])) → Bytes (join parts)
join_bytes = Written.join_bytes

-- bodies of at most `most` bytes each
pub chain_most : (most : ℕ) (bodies : List (List ℕ)) → ((i : ℕ) → i < length bodies → length (get_or bodies i []) ≤ most)
    → length (chain bodies) ≤ most * length bodies
chain_most = Parts.chain_most

-- ---- where the parts lie, by a layout

-- The bytes at the place of a code are its part's, and the place is above 0 exactly where the part is there.
pub layout_part : (s : List ℕ) → Laid s → (code : ℕ) → cut_of s (place_of (layout_of s) code) ≡ find (split s) code
layout_part s laid code = (Places.layout_at s laid code).0

pub layout_located : (s : List ℕ) → Laid s → (code : ℕ)
    → Located s (split s) code (place_of (layout_of s) code).offset (place_of (layout_of s) code).length
layout_located s laid code = (Places.layout_at s laid code).1

pub layout_there : (s : List ℕ) → Laid s → (code : ℕ) → is_there (layout_of s) code ≡ has (split s) code
layout_there s laid code =
    let at = (layout_located s laid code).there in
    same_test (is_there (layout_of s) code) (has (split s) code) (λ e. at.0 (ltb-true _ _ e)) (λ e. lt-ltb _ _ (at.1 e))

-- without parts
pub none_part : (s : List ℕ) (code : ℕ) → cut_of s (place_of no_parts code) ≡ []
none_part s code = rw (Places.place_none code) (Places.cut_nowhere s)

pub none_located : (s : List ℕ) (code : ℕ) → Located s [] code (place_of no_parts code).offset (place_of no_parts code).length
none_located s code = rw (Places.place_none code) (Places.located_none s [] code refl)

-- ---- codes and bodies, apart and together

module _ (codes : List ℕ) (bodies : List (List ℕ)) (same : length codes ≡ length bodies) where
  pub together_codes : codes_of (together codes bodies) ≡ codes
  together_codes = Parts.together_codes codes bodies same

  pub together_bodies : bodies_of (together codes bodies) ≡ bodies
  together_bodies = Parts.together_bodies codes bodies same

pub together_parts : (parts : List Part) → together (codes_of parts) (bodies_of parts) ≡ parts
together_parts = Parts.together_parts

-- ---- for whoever writes a sheet

pub contents_length : (codes sizes : List ℕ) → length codes ≡ length sizes → length (contents_of codes sizes) ≡ contents_size (length codes)
contents_length = Entries.contents_length

-- one turn of a loop that fills an array: v is what it is filled with
pub fill_turn : {A : Type 0} (d : A) (l v : List A) (i : ℕ) (a : A) → i < length l → i < length v → a ≡ get_or v i d → take i l ≡ take i v
    → take (i + 1) (set l i a) ≡ take (i + 1) v
fill_turn = Filled.fill_turn

-- ---- refusals

-- No refusal has the number 0, which is success.
pub numbered_from_one : (r : Refusal) → 0 < number r
numbered_from_one r = Refused.numbered_from_one r

-- ---- what is found under a code

-- where there is no such part, nothing
pub part_found : (parts : List Part) (code : ℕ) (o : Option (Bor (List ℕ))) (d : Bor (List ℕ)) → d.now ≡ [] → is_some o ≡ has parts code
    → IfSome o (λ b. b.now ≡ find parts code) → (unwrap_or o d).now ≡ find parts code
part_found parts code (Some b) d e there body = body
part_found parts code None d e there body = e ∙ sym (find_none parts code (sym there))

-- the codes of parts that are held apart
pub has_named : (codes : List ℕ) (bodies : List (Bor (List ℕ))) → length codes ≡ length bodies → (code : ℕ)
    → has (together codes (map (λ x. x.now) bodies)) code ≡ names codes code
has_named codes bodies same code =
    let long : length codes ≡ length (map (λ (x : Bor (List ℕ)). x.now) bodies) = rw length-map same in
    rw (together_codes codes (map (λ (x : Bor (List ℕ)). x.now) bodies) long)
