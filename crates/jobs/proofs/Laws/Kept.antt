-- The parts that scheduling keeps: what is known of them, and how the code has them. Assumes nothing.
use Rattle.std.specs.Prelude.{ℕ, suc, ◌+◌, ◌*◌, ◌≤◌, ◌≡◌, Bool, true, false, cond, ◌&&◌, List, [], ◌∷◌, ◌++◌, ltb, eqb, length, get_or}
use Rattle.std.proofs.Math.Path.{refl}
use Rattle.std.proofs.Common.{sym, ap, ◌∙◌, true≢false, append-nil, arith, lt-ltb}
use Rattle.std.proofs.lemmas.Bool.{false≢true}
use Rattle.lists.proofs.TestLaws.{by_cases, and_left, and_right}
use Rattle.numbers.specs.Little.{Bytes}
use Rattle.marks.specs.Good.{GoodMarks}
use Rattle.marks.proofs.PairLaws.{none_good}
use Rattle.contents.specs.Contents.{Part, ◌holds◌, codes_of, bodies_of, find, has, split, chain, marks_part, schedule_part, index_part, edition_part, popups_part, counts_part, shape_part}
use Rattle.contents.specs.Questions.{codes_right}
use Rattle.contents.proofs.Laws.{find_none, find_bytes, one_there, in_order_lem, with_other_found, with_other_there, with_found, with_there, with_more, with_bytes}
use Rattle.parts.specs.Questions.{mark_count, choice_in, is_choice, is_popups}
use Rattle.bodies.specs.Questions.{count_of, edition_of, shape_of}
use Rattle.bodies.specs.Fitting.{Fitting}
use Rattle.parts.proofs.Laws.{choice_long, popups_iff}
use Rattle.sheet.specs.Questions.{check}
use Rattle.sheet.proofs.Laws.{accepted_iff}
use Rattle.jobs.specs.Jobs.{part_if, carried, kept_parts, kept_size, with_counts}
use Rattle.jobs.specs.Steps.{kept_from, PopupsLent, PartsLent}
use Rattle.jobs.proofs.Laws.Listed.{size_append, size_if, append_bytes, if_bytes, counts_between}

-- Parts that may be kept beside n marks: behind part 1, and behind parts 1 to 3, with counts and without, their codes are right; they hold no
-- schedule, no index and no counts; they are right themselves; and keeping them again keeps them all.
pub record KeptRight (n : ℕ) (kept : List Part) : Type 0 where
  pub behind_one : codes_right (1 ∷ codes_of kept) ≡ true
  pub behind_three : (counted : Bool) (counts : List ℕ) → codes_right (1 ∷ 2 ∷ 3 ∷ codes_of (with_counts counted counts kept)) ≡ true
  pub no_schedule : has kept 2 ≡ false
  pub no_index : has kept 3 ≡ false
  pub no_counts : has kept 6 ≡ false
  pub edition_right : has kept 4 ≡ true → is_choice (edition_part kept) ≡ true
  pub popups_right : has kept 5 ≡ true → is_popups (popups_part kept) n ≡ true
  pub shape_right : has kept 7 ≡ true → is_choice (shape_part kept) ≡ true
  pub again : kept_parts kept ≡ kept
  pub bytes : (i : ℕ) → Bytes (get_or (bodies_of kept) i [])

-- a test that both truth values pass
abbrev either : (Bool → Bool) → Bool
either test = test true && test false

either_at : (test : Bool → Bool) → either test ≡ true → (b : Bool) → test b ≡ true
either_at test h true = and_left (test true) (test false) h
either_at test h false = and_right (test true) (test false) h

-- ---- parts 4, 5 and 7, by which of them are there

module _ (x y z : List ℕ) where
  abbrev parts_by : Bool → Bool → Bool → List Part
  parts_by e p v = part_if e 4 x ++ (part_if p 5 y ++ part_if v 7 z)

  -- a code that none of them has
  unnamed : (e p v : Bool) (code : ℕ) → eqb 4 code ≡ false → eqb 5 code ≡ false → eqb 7 code ≡ false → has (parts_by e p v) code ≡ false
  unnamed true true true code a b c = rw (a, b, c)
  unnamed true true false code a b c = rw (a, b)
  unnamed true false true code a b c = rw (a, c)
  unnamed true false false code a b c = rw a
  unnamed false true true code a b c = rw (b, c)
  unnamed false true false code a b c = rw b
  unnamed false false true code a b c = rw c
  unnamed false false false code a b c = refl

  -- what is found under each code that they may have, and whether it is there
  abbrev Under : ℕ → Bool → List ℕ → List Part → Type 0
  Under code there body parts = (has parts code ≡ there) × (find parts code ≡ cond there body [])

  under_4 : (e p v : Bool) → Under 4 e x (parts_by e p v)
  under_4 true p v = (refl, refl)
  under_4 false true true = (refl, refl)
  under_4 false true false = (refl, refl)
  under_4 false false true = (refl, refl)
  under_4 false false false = (refl, refl)

  under_5 : (e p v : Bool) → Under 5 p y (parts_by e p v)
  under_5 true true v = (refl, refl)
  under_5 true false true = (refl, refl)
  under_5 true false false = (refl, refl)
  under_5 false true v = (refl, refl)
  under_5 false false true = (refl, refl)
  under_5 false false false = (refl, refl)

  under_7 : (e p v : Bool) → Under 7 v z (parts_by e p v)
  under_7 true true true = (refl, refl)
  under_7 true true false = (refl, refl)
  under_7 true false true = (refl, refl)
  under_7 true false false = (refl, refl)
  under_7 false true true = (refl, refl)
  under_7 false true false = (refl, refl)
  under_7 false false true = (refl, refl)
  under_7 false false false = (refl, refl)

  -- a part that is right where it is there is right where it is found
  right_under : (test : List ℕ → Bool) (code : ℕ) {there : Bool} {body : List ℕ} (parts : List Part) → Under code there body parts
      → (there ≡ true → test body ≡ true) → has parts code ≡ true → test (find parts code) ≡ true
  right_under test code {there} {body} parts u right h =
      let yes : there ≡ true = sym u.0 ∙ h in
      let is : cond there body [] ≡ body = rw yes in
      rw (u.1, is) (right yes)

  -- a change to part 5 comes to that part alone
  carried_by : (change : List ℕ → List ℕ) (e p v : Bool) → carried (parts_by e p v) change ≡ part_if e 4 x ++ (part_if p 5 (change y) ++ part_if v 7 z)
  carried_by change true true true = refl
  carried_by change true true false = refl
  carried_by change true false true = refl
  carried_by change true false false = refl
  carried_by change false true true = refl
  carried_by change false true false = refl
  carried_by change false false true = refl
  carried_by change false false false = refl

  behind_one_by : (e p v : Bool) → codes_right (1 ∷ codes_of (parts_by e p v)) ≡ true
  unfolding codes_right
  behind_one_by e p =
      either_at _
      (either_at (λ p. either (λ v. codes_right (1 ∷ codes_of (parts_by e p v))))
      (either_at (λ e. either (λ p. either (λ v. codes_right (1 ∷ codes_of (parts_by e p v))))) refl e) p)

  behind_three_by : (counts : List ℕ) (c e p v : Bool) → codes_right (1 ∷ 2 ∷ 3 ∷ codes_of (with_counts c counts (parts_by e p v))) ≡ true
  unfolding codes_right
  behind_three_by counts c e p =
      either_at _
      (either_at (λ p. either (λ v. codes_right (1 ∷ 2 ∷ 3 ∷ codes_of (with_counts c counts (parts_by e p v)))))
      (either_at (λ e. either (λ p. either (λ v. codes_right (1 ∷ 2 ∷ 3 ∷ codes_of (with_counts c counts (parts_by e p v))))))
      (either_at (λ c. either (λ e. either (λ p. either (λ v. codes_right (1 ∷ 2 ∷ 3 ∷ codes_of (with_counts c counts (parts_by e p v))))))) refl c) e) p)

  kept_by : (n : ℕ) (e p v : Bool) → (e ≡ true → is_choice x ≡ true) → (p ≡ true → is_popups y n ≡ true) → (v ≡ true → is_choice z ≡ true)
      → Bytes x → Bytes y → Bytes z → KeptRight n (parts_by e p v)
  kept_by n e p v right-x right-y right-z bytes-x bytes-y bytes-z =
      record {
        behind_one = behind_one_by e p v;
        behind_three = λ counted counts. behind_three_by counts counted e p v;
        no_schedule = unnamed e p v 2 refl refl refl;
        no_index = unnamed e p v 3 refl refl refl;
        no_counts = unnamed e p v 6 refl refl refl;
        edition_right = right_under is_choice 4 (parts_by e p v) (under_4 e p v) right-x;
        popups_right = right_under (λ l. is_popups l n) 5 (parts_by e p v) (under_5 e p v) right-y;
        shape_right = right_under is_choice 7 (parts_by e p v) (under_7 e p v) right-z;
        again = carried_by (λ q. q) e p v;
        bytes = append_bytes (part_if e 4 x) _ (if_bytes e 4 x bytes-x) (append_bytes (part_if p 5 y) _ (if_bytes p 5 y bytes-y) (if_bytes v 7 z bytes-z));
      }

-- ---- as the code has them

-- what an empty body names is what no body does
choice_from_lem : (body : List ℕ) → choice_in (cond (ltb 0 (length body)) body []) ≡ choice_in body
choice_from_lem [] = refl
choice_from_lem (x ∷ body) = rw (lt-ltb 0 (suc (length body)) (omega arith))

module _ (edition : List ℕ) (there : Bool) (popups shape : List ℕ) where
  pub kept_uncounted : has (kept_from edition there popups shape) 6 ≡ false
  kept_uncounted = unnamed edition popups shape (ltb 0 (length edition)) there (ltb 0 (length shape)) 6 refl refl refl

  pub carried_from : (change : List ℕ → List ℕ) → carried (kept_from edition there popups shape) change ≡ kept_from edition there (change popups) shape
  carried_from change = carried_by edition popups shape change (ltb 0 (length edition)) there (ltb 0 (length shape))

  -- the edition, the shape and the popups are those that are lent
  pub kept_popups_from : popups_part (kept_from edition there popups shape) ≡ cond there popups []
  kept_popups_from = (under_5 edition popups shape (ltb 0 (length edition)) there (ltb 0 (length shape))).1

  pub kept_edition_from : edition_of (kept_from edition there popups shape) ≡ choice_in edition
  kept_edition_from = ap choice_in (under_4 edition popups shape (ltb 0 (length edition)) there (ltb 0 (length shape))).1 ∙ choice_from_lem edition

  pub kept_shape_from : shape_of (kept_from edition there popups shape) ≡ choice_in shape
  kept_shape_from = ap choice_in (under_7 edition popups shape (ltb 0 (length edition)) there (ltb 0 (length shape))).1 ∙ choice_from_lem shape

none_bytes : Bytes []
none_bytes i = omega arith

pub kept_none : (n : ℕ) → KeptRight n []
kept_none n =
    kept_by [] [] [] n false false false (λ h. absurd (false≢true h)) (λ h. absurd (false≢true h)) (λ h. absurd (false≢true h)) none_bytes none_bytes none_bytes

-- ---- of an accepted sheet

-- a part that names 1 or 2, where it is there, is there where it has a byte
module _ (parts : List Part) (code : ℕ) (right : has parts code ≡ true → is_choice (find parts code) ≡ true) where
  choice_there : has parts code ≡ ltb 0 (length (find parts code))
  choice_there =
      by_cases (has parts code)
      (λ e. e ∙ sym (lt-ltb 0 (length (find parts code)) (omega (arith, choice_long (find parts code) (right e)))))
      (λ e. rw (e, find_none parts code e))

  choice_short : length (find parts code) ≤ 1
  choice_short =
      by_cases (has parts code) (λ e. omega (arith, choice_long (find parts code) (right e))) (λ e. rw (find_none parts code e) (omega arith))

module _ (s : List ℕ) (ok : check s ≡ 0) where
  fit : Fitting (split s)
  fit = ((accepted_iff s).0 ok).fitting

  pub edition_short : length (edition_part (split s)) ≤ 1
  edition_short = choice_short (split s) 4 fit.edition_right

  pub shape_short : length (shape_part (split s)) ≤ 1
  shape_short = choice_short (split s) 7 fit.shape_right

  -- part 5 changed, and as it is
  pub carried_is : (change : List ℕ → List ℕ)
      → carried (split s) change ≡ kept_from (edition_part (split s)) (has (split s) 5) (change (popups_part (split s))) (shape_part (split s))
  carried_is change = rw (choice_there (split s) 4 fit.edition_right, choice_there (split s) 7 fit.shape_right)

  pub carried_right : Bytes s → (n : ℕ) (change : List ℕ → List ℕ) → (has (split s) 5 ≡ true → is_popups (change (popups_part (split s))) n ≡ true)
      → Bytes (change (popups_part (split s))) → KeptRight n (carried (split s) change)
  carried_right bytes n change p b =
      kept_by (edition_part (split s)) (change (popups_part (split s))) (shape_part (split s)) n (has (split s) 4) (has (split s) 5) (has (split s) 7)
      fit.edition_right p fit.shape_right (find_bytes s bytes 4) b (find_bytes s bytes 7)

  pub kept_right : Bytes s → KeptRight (count_of (split s)) (kept_parts (split s))
  kept_right bytes = carried_right bytes (count_of (split s)) (λ q. q) fit.popups_right (find_bytes s bytes 5)

-- the edition and the shape are those of the sheet, and so are the popups
module _ (parts : List Part) (change : List ℕ → List ℕ) where
  own : (code : ℕ) → cond (has parts code) (find parts code) [] ≡ find parts code
  own code = by_cases (has parts code) (λ e. rw e) (λ e. rw (e, find_none parts code e))

  pub carried_edition : edition_of (carried parts change) ≡ edition_of parts
  carried_edition =
      ap choice_in ((under_4 (edition_part parts) (change (popups_part parts)) (shape_part parts) (has parts 4) (has parts 5) (has parts 7)).1 ∙ own 4)

  pub carried_shape : shape_of (carried parts change) ≡ shape_of parts
  carried_shape =
      ap choice_in ((under_7 (edition_part parts) (change (popups_part parts)) (shape_part parts) (has parts 4) (has parts 5) (has parts 7)).1 ∙ own 7)

  pub carried_popups : popups_part (carried parts change) ≡ cond (has parts 5) (change (popups_part parts)) []
  carried_popups = (under_5 (edition_part parts) (change (popups_part parts)) (shape_part parts) (has parts 4) (has parts 5) (has parts 7)).1

pub kept_edition : (parts : List Part) → edition_of (kept_parts parts) ≡ edition_of parts
kept_edition parts = carried_edition parts (λ q. q)

pub kept_shape : (parts : List Part) → shape_of (kept_parts parts) ≡ shape_of parts
kept_shape parts = carried_shape parts (λ q. q)

pub kept_popups : (parts : List Part) → popups_part (kept_parts parts) ≡ popups_part parts
kept_popups parts = carried_popups parts (λ q. q) ∙ own parts (λ q. q) 5

-- as the code lends them: the bytes of parts 4 and 7, and part 5's with the change, where it is there
pub carried_lent : (s : List ℕ) → check s ≡ 0 → (change : List ℕ → List ℕ) {e : List ℕ} {there : Bool} {q v : List ℕ} → e ≡ edition_part (split s)
    → there ≡ has (split s) 5 → (there ≡ true → q ≡ change (popups_part (split s))) → v ≡ shape_part (split s) → kept_from e there q v ≡ carried (split s) change
carried_lent s ok change {e} {there} {q} {v} is-e is-there is-q is-v =
    rw (is-e, is-v)
    (same (edition_part (split s)) there q (change (popups_part (split s))) (shape_part (split s)) is-q
    ∙ ap (λ (t : Bool). kept_from (edition_part (split s)) t (change (popups_part (split s))) (shape_part (split s))) is-there ∙ sym (carried_is s ok change))
  where
    same : (e : List ℕ) (there : Bool) (q r v : List ℕ) → (there ≡ true → q ≡ r) → kept_from e there q v ≡ kept_from e there r v
    same e true q r v h = rw (h refl)
    same e false q r v h = refl

-- what is lent of popups
pub popups_lent : (there : Bool) (q : List ℕ) (n : ℕ) → (there ≡ true → is_popups q n ≡ true) → (there ≡ false → q ≡ []) → PopupsLent there q n
popups_lent true q n right none = let p = (popups_iff q n).0 (right refl) in record { sized = p.0; each = p.1 }
popups_lent false q n right none = rw (none refl) (record { sized = refl; each = (none_good n).each })

-- of each 10 bytes of the contents, and its own
choice_size : (code : ℕ) (body : List ℕ) → length body ≤ 1 → kept_size (part_if (ltb 0 (length body)) code body) ≡ 11 * length body
choice_size code body h = size_if (ltb 0 (length body)) code body ∙ one body h
  where
    one : (body : List ℕ) → length body ≤ 1 → cond (ltb 0 (length body)) (10 + length body) 0 ≡ 11 * length body
    one [] h = refl
    one (x ∷ []) h = refl
    one (x ∷ y ∷ body) h = absurd (omega arith)

pub lent_kept_size : {marks edition : List ℕ} {there : Bool} {popups shape : List ℕ} {n : ℕ} → PartsLent marks edition there popups shape n
    → kept_size (kept_from edition there popups shape) ≡ 11 * length edition + cond there (10 + 4 * n) 0 + 11 * length shape
lent_kept_size {marks} {edition} {there} {popups} {shape} {n} lent =
    omega (
      arith,
      size_append (part_if (ltb 0 (length edition)) 4 edition) (part_if there 5 popups ++ part_if (ltb 0 (length shape)) 7 shape),
      size_append (part_if there 5 popups) (part_if (ltb 0 (length shape)) 7 shape),
      choice_size 4 edition lent.edition_short,
      size_if there 5 popups ∙ rows there lent.popups_lent.sized,
      choice_size 7 shape lent.shape_short,
    )
  where
    rows : (there : Bool) → length popups ≡ cond there (4 * n) 0 → cond there (10 + length popups) 0 ≡ cond there (10 + 4 * n) 0
    rows true e = rw e
    rows false e = refl

-- marks that pass 4 to 6 are a sheet, alone or with parts that are kept
pub alone_fits : (marks : List ℕ) (kept : List Part) → GoodMarks marks (mark_count marks) → length marks ≡ 11 * mark_count marks
    → KeptRight (mark_count marks) kept → Fitting ((1 holds marks) ∷ kept)
alone_fits marks kept good long right =
    record {
      marks = good;
      marks_long = long;
      schedule_long = λ e. absurd (true≢false (sym e ∙ right.no_schedule));
      index_long = λ e. absurd (true≢false (sym e ∙ right.no_index));
      edition_right = right.edition_right;
      popups_right = right.popups_right;
      shape_right = right.shape_right;
      schedule_right = λ e. absurd (true≢false (sym e ∙ right.no_schedule));
      index_right = λ e. absurd (true≢false (sym e ∙ right.no_index));
      counts_right = λ e. absurd (true≢false (sym e ∙ right.no_counts));
    }

-- ---- beside counts

-- what is found beside them is what is found without
pub beside_found : (parts : List Part) (counted : Bool) (counts : List ℕ) (code : ℕ) → eqb 6 code ≡ false
    → find (with_counts counted counts parts) code ≡ find parts code
beside_found parts true counts code e = with_other_found 6 counts parts code e
beside_found parts false counts code e = refl

pub beside_there : (parts : List Part) (counted : Bool) (counts : List ℕ) (code : ℕ) → eqb 6 code ≡ false
    → has (with_counts counted counts parts) code ≡ has parts code
beside_there parts true counts code e = with_other_there 6 counts parts code e
beside_there parts false counts code e = refl

-- and they are there where they are wanted
pub counts_there : (parts : List Part) (counted : Bool) (counts : List ℕ) → has parts 6 ≡ false → has (with_counts counted counts parts) 6 ≡ counted
counts_there parts true counts none = with_there 6 counts parts
counts_there parts false counts none = none

pub counts_found : (parts : List Part) (counts : List ℕ) → find (with_counts true counts parts) 6 ≡ counts
counts_found parts counts = with_found 6 counts parts

pub carried_beside : (parts : List Part) (counted : Bool) (counts : List ℕ) (change : List ℕ → List ℕ)
    → carried (with_counts counted counts parts) change ≡ carried parts change
carried_beside parts counted counts change =
    rw (
      beside_there parts counted counts 4 refl,
      beside_there parts counted counts 5 refl,
      beside_there parts counted counts 7 refl,
      beside_found parts counted counts 4 refl,
      beside_found parts counted counts 5 refl,
      beside_found parts counted counts 7 refl,
    )

pub kept_beside : (parts : List Part) (counted : Bool) (counts : List ℕ) → kept_parts (with_counts counted counts parts) ≡ kept_parts parts
kept_beside parts counted counts = carried_beside parts counted counts (λ q. q)

-- Of bodies that are lists of bytes they are so with counts too.
pub beside_bytes : (parts : List Part) (counted : Bool) (c : List ℕ) → Bytes c → ((i : ℕ) → Bytes (get_or (bodies_of parts) i []))
    → (i : ℕ) → Bytes (get_or (bodies_of (with_counts counted c parts)) i [])
beside_bytes parts true c b each = with_bytes 6 c parts b each
beside_bytes parts false c b each = each

-- With counts there is one part more, and their bytes.
pub beside_sized : (parts : List Part) (counted : Bool) (c : List ℕ) → has parts 6 ≡ false → length c ≡ 170
    → 10 * length (with_counts counted c parts) + length (chain (bodies_of (with_counts counted c parts))) ≡ kept_size parts + cond counted 180 0
beside_sized parts true c none long = let more = with_more 6 c parts none in omega (arith, more.0, more.1, long)
beside_sized parts false c none long = omega arith

-- ---- a whole sheet: parts 1 to 3, and what is kept

pub kept_whole : (parts : List Part) → codes_right (codes_of parts) ≡ true → has parts 2 ≡ true → has parts 3 ≡ true
    → parts ≡ (1 holds marks_part parts) ∷ (2 holds schedule_part parts) ∷ (3 holds index_part parts) ∷ with_counts (has parts 6) (counts_part parts) (kept_parts parts)
kept_whole parts right two three =
    in_order_lem parts right
    ∙ rw (
      one_there (codes_of parts) right,
      two,
      three,
      append-nil (part_if (has parts 7) 7 (shape_part parts)),
      counts_between (has parts 4) (has parts 5) (has parts 7) (edition_part parts) (popups_part parts) (counts_part parts) (shape_part parts) (has parts 6),
    )
