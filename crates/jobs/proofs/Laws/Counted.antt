-- The sheet that counting writes, as the code has it: contents, the bodies of the sheet that is counted, with its counts before part 7; and how counting ends.
-- Assumes nothing.
use Rattle.std.specs.Prelude.{ℕ, zero, suc, ◌+◌, ◌*◌, ◌-◌, ◌/◌, ◌<◌, ◌≤◌, ◌≡◌, refl, Bool, false, ◌⊎◌, get_or, take, drop}
use Rattle.std.proofs.Math.Path.{sym, ap}
use Rattle.std.proofs.Common.{◌∙◌, arith, length-append, length-drop, take_at}
use Rattle.std.proofs.Math.Bool.{true}
use mathlib.Core.List.{List, [], ◌∷◌, ◌++◌, append_assoc, append-nil}
use Rattle.std.proofs.Math.Dec.{leb}
use Rattle.std.proofs.Math.ListN.{length, length-map}
use Rattle.std.proofs.lemmas.List.Edits.{sets}
use Rattle.std.proofs.Math.Seq.{drop_at}
use Rattle.lists.proofs.StoreLaws.{sets_append}
use Rattle.lists.proofs.TestLaws.{by_cases}
use Rattle.numbers.specs.Little.{Bytes}
use Rattle.numbers.proofs.Laws.{bytes_take, bytes_drop}
use Rattle.counting.specs.Counts.{counts_of}
use Rattle.counting.proofs.Laws.{counts_length, counts_bytes}
use Rattle.contents.specs.Contents.{Part, ◌holds◌, codes_of, bodies_of, sizes_of, has, with_part, contents_size, count_at, code_at, offset_at, length_at, body_at, first_parts, split, contents_of, chain, join, marks_part, schedule_part, index_part, edition_part, popups_part, shape_part}
use Rattle.contents.specs.Asking.{◌asks◌, answer}
use Rattle.contents.specs.Questions.{codes_right}
use Rattle.contents.proofs.Laws.{asked_no, append_yes, append_no, one_there, in_order_lem, find_none, split_length, with_more, with_bytes, join_length, join_bytes, contents_length}
use Rattle.bodies.specs.Fitting.{Fitting}
use Rattle.parts.proofs.Laws.{popups_iff, popups_enough, choice_long}
use Rattle.bodies.proofs.Laws.{popups_good, fitting_writable}
use Rattle.sheet.specs.Questions.{sheet_count, check_questions, check}
use Rattle.sheet.proofs.Laws.{check_numbered, accepted_iff, sheet_again}
use Rattle.jobs.specs.declared.Answer.{Answer}
use Rattle.jobs.specs.Jobs.{outcome, part_if, counts_in, with_own_counts, count_checks, count_job}
use Rattle.jobs.specs.Answers.{refusal, Gives}
use Rattle.jobs.specs.Counted.{MeetsCounting}
use Rattle.jobs.specs.Steps.{codes_from, sizes_from}
use Rattle.jobs.proofs.Laws.Outcomes.{outcome_same, refused_gives}
use Rattle.jobs.proofs.Laws.Listed.{parts_chain, chain_if, append_bytes, if_bytes, counts_between, listed, listed_codes, listed_sizes}
use Rattle.jobs.proofs.Laws.Counting.{count_numbered, count_asked, counted_accepted, count_questions, count_meets}

-- ---- a sheet with part 2 and without part 6

-- the codes and sizes of its parts with part 6, and the contents that list them
abbrev pub counted_codes : List ℕ → List ℕ
counted_codes s = codes_from (has (split s) 3) (has (split s) 4) (has (split s) 5) true (has (split s) 7)

abbrev pub counted_sizes : List ℕ → List ℕ
counted_sizes s = sizes_from (sheet_count s) (has (split s) 3) (has (split s) 4) (has (split s) 5) true (has (split s) 7)

abbrev pub counted_head : List ℕ → List ℕ
counted_head s = contents_of (counted_codes s) (counted_sizes s)

module _ (s : List ℕ) (bytes : Bytes s) (ok : check s ≡ 0) (two : has (split s) 2 ≡ true) (none : has (split s) 6 ≡ false) where
  abbrev parts : List Part
  parts = split s

  abbrev counts : List ℕ
  counts = counts_in (split s)

  fits : Fitting (split s)
  fits = ((accepted_iff s).0 ok).fitting

  right : codes_right (codes_of (split s)) ≡ true
  right = ((accepted_iff s).0 ok).laid.codes

  counts_long : length counts ≡ 170
  counts_long = counts_length (marks_part (split s)) (schedule_part (split s)) (popups_part (split s)) (sheet_count s)

  -- its parts, with counts or without
  abbrev parts_with : Bool → List Part
  parts_with counted =
      listed (marks_part parts) (schedule_part parts) (index_part parts) (edition_part parts) (popups_part parts) counts (shape_part parts) (has parts 3) (has parts 4) (has parts 5) counted (has parts 7)

  without : split s ≡ parts_with false
  without = in_order_lem parts right ∙ rw (one_there (codes_of parts) right, two, none, append-nil (part_if (has parts 7) 7 (shape_part parts)))

  -- part 6 comes before part 7
  with_counts_lem : with_part 6 counts (split s) ≡ parts_with true
  with_counts_lem =
      ap (with_part 6 counts) without
      ∙ ap (λ (l : List Part). (1 holds marks_part parts) ∷ (2 holds schedule_part parts) ∷ l)
      (past (has parts 3) _ ∙ ap (λ (l : List Part). part_if (has parts 3) 3 (index_part parts) ++ l)
      (counts_between (has parts 4) (has parts 5) (has parts 7) (edition_part parts) (popups_part parts) counts (shape_part parts) true))
    where
      past : (index : Bool) (l : List Part) → with_part 6 counts (part_if index 3 (index_part parts) ++ l) ≡ part_if index 3 (index_part parts) ++ with_part 6 counts l
      past true l = refl
      past false l = refl

  pub counted_codes_lem : counted_codes s ≡ codes_of (with_part 6 (counts_in (split s)) (split s))
  counted_codes_lem =
      sym (ap codes_of with_counts_lem ∙ listed_codes (marks_part parts) (schedule_part parts) (index_part parts) (edition_part parts) (popups_part parts) counts (shape_part parts) (has parts 3) (has parts 4) (has parts 5) true (has parts 7))

  pub counted_sizes_lem : counted_sizes s ≡ sizes_of (bodies_of (with_part 6 (counts_in (split s)) (split s)))
  counted_sizes_lem =
      sym
      (ap (λ (l : List Part). sizes_of (bodies_of l)) with_counts_lem
      ∙ listed_sizes (marks_part parts) (schedule_part parts) (index_part parts) (edition_part parts) (popups_part parts) counts (shape_part parts) (has parts 3) (has parts 4) (has parts 5) true (has parts 7)
      (sheet_count s) fits.marks_long (fits.schedule_long two) fits.index_long (λ h. choice_long (edition_part parts) (fits.edition_right h))
      (λ h. ((popups_iff (popups_part parts) (sheet_count s)).0 (fits.popups_right h)).0) (λ h. counts_long) (λ h. choice_long (shape_part parts) (fits.shape_right h)))

  -- the bodies before part 7, and then that one; the counts stand between
  abbrev before7 : List Part
  before7 =
      (1 holds marks_part parts) ∷ (2 holds schedule_part parts) ∷ (part_if (has parts 3) 3 (index_part parts) ++ (part_if (has parts 4) 4 (edition_part parts) ++ part_if (has parts 5) 5 (popups_part parts)))

  last_chain : chain (bodies_of (part_if (has parts 7) 7 (shape_part parts))) ≡ shape_part parts
  last_chain = chain_if (has parts 7) 7 (shape_part parts) ∙ by_cases (has parts 7) (λ e. rw e) (λ e. rw (e, find_none parts 7 e))

  bare_chain : chain (bodies_of (split s)) ≡ chain (bodies_of before7) ++ shape_part parts
  bare_chain =
      ap (λ (l : List Part). chain (bodies_of l)) (without ∙ regrouped)
      ∙ parts_chain before7 (part_if (has parts 7) 7 (shape_part parts)) ∙ ap (λ (l : List ℕ). chain (bodies_of before7) ++ l) last_chain
    where
      regrouped : parts_with false ≡ before7 ++ part_if (has parts 7) 7 (shape_part parts)
      regrouped = ap (λ (l : List Part). (1 holds marks_part parts) ∷ (2 holds schedule_part parts) ∷ l) (simp append_assoc)

  pub counted_chain : chain (bodies_of (with_part 6 (counts_in (split s)) (split s))) ≡ chain (bodies_of before7) ++ (counts_in (split s) ++ shape_part (split s))
  unfolding chain
  counted_chain =
      ap (λ (l : List Part). chain (bodies_of l)) (with_counts_lem ∙ regrouped)
      ∙ parts_chain before7 ((6 holds counts) ∷ part_if (has parts 7) 7 (shape_part parts))
      ∙ ap (λ (l : List ℕ). chain (bodies_of before7) ++ (counts ++ l)) last_chain
    where
      regrouped : parts_with true ≡ before7 ++ ((6 holds counts) ∷ part_if (has parts 7) 7 (shape_part parts))
      regrouped = ap (λ (l : List Part). (1 holds marks_part parts) ∷ (2 holds schedule_part parts) ∷ l) (simp append_assoc)

  -- a sheet's bodies are its bytes behind its contents
  pub own_bodies : drop (contents_size (count_at s)) s ≡ chain (bodies_of (split s))
  unfolding join
  own_bodies =
      ap (drop (contents_size (count_at s))) (sym (sheet_again s bytes ok))
      ∙ drop_at (contents_of (codes_of parts) (sizes_of (bodies_of parts))) (chain (bodies_of parts)) (contents_size (count_at s)) long
    where
      long : length (contents_of (codes_of parts) (sizes_of (bodies_of parts))) ≡ contents_size (count_at s)
      long =
          contents_length (codes_of parts) (sizes_of (bodies_of parts)) (simp length-map)
          ∙ ap contents_size (simp length-map (split_length s))

  -- what lies before part 7: its bytes are the last of the sheet
  pub bodies_before : take (length s - contents_size (count_at s) - length (shape_part (split s))) (drop (contents_size (count_at s)) s) ≡ chain (bodies_of before7)
  bodies_before =
      let whole : drop (contents_size (count_at s)) s ≡ chain (bodies_of before7) ++ shape_part parts = own_bodies ∙ bare_chain in
      let size : length s - contents_size (count_at s) - length (shape_part parts) ≡ length (chain (bodies_of before7)) =
      omega (arith, ap length whole, length-append (chain (bodies_of before7)) (shape_part parts), length-drop (contents_size (count_at s)) s) in
      rw (whole, size) (take_at (chain (bodies_of before7)) (shape_part parts) (length (chain (bodies_of before7))) refl)

  -- what counting writes: contents, the sheet's bodies before part 7, its counts, and part 7
  pub counted_is : with_own_counts s ≡ counted_head s ++ (chain (bodies_of before7) ++ (counts_in (split s) ++ shape_part (split s)))
  unfolding join
  counted_is = rw (counted_codes_lem, counted_sizes_lem, counted_chain)

  pub counted_long : length (with_own_counts s) ≡ length s + 180
  counted_long =
      let more = with_more 6 counts parts none in
      omega (arith, join_length (with_part 6 counts parts), join_length parts, ap length (sheet_again s bytes ok), more.0, more.1, counts_long)

  -- its contents have one entry more
  pub counted_start : contents_size (length (counted_codes s)) ≡ contents_size (count_at s) + 10
  counted_start =
      let more = (with_more 6 counts parts none).0 in
      let long : length (counted_codes s) ≡ suc (count_at s) =
      ap length counted_codes_lem ∙ simp length-map (more ∙ ap suc (split_length s)) in
      omega arith

  head_long : length (counted_head s) ≡ contents_size (length (counted_codes s))
  head_long =
      contents_length (counted_codes s) (counted_sizes s)
      (ap length counted_codes_lem ∙ (simp length-map) ∙ sym (ap length counted_sizes_lem))

  -- Written one after another they are what counting writes. The sheet's contents end 10 bytes before the new ones.
  counted_stores : (out : List ℕ) (start : ℕ) → start ≡ contents_size (length (counted_codes s)) → {own : List ℕ} {end last : ℕ} → own ≡ chain (bodies_of before7)
      → end ≡ start + length own → last ≡ end + length (counts_in (split s))
      → sets (sets (sets (sets out 0 (counted_head s)) start own) end (counts_in (split s))) last (shape_part (split s)) ≡ sets out 0 (with_own_counts s)
  counted_stores out start is-start {own} {end} {last} is-own is-end is_last =
      let at : 0 + length (counted_head s) ≡ start = ap (λ (k : ℕ). 0 + k) head_long ∙ omega (arith, is-start) in
      let headed = sets out 0 (counted_head s) in
      sym
      (ap (sets out 0) (counted_is ∙ ap (λ (l : List ℕ). counted_head s ++ (l ++ (counts ++ shape_part parts))) (sym is-own))
      ∙ sets_append out 0 (counted_head s) (own ++ (counts ++ shape_part parts))
      ∙ ap (λ (k : ℕ). sets headed k (own ++ (counts ++ shape_part parts))) at
      ∙ sets_append headed start own (counts ++ shape_part parts)
      ∙ ap (λ (k : ℕ). sets (sets headed start own) k (counts ++ shape_part parts)) (sym is-end)
      ∙ sets_append (sets headed start own) end counts (shape_part parts)
      ∙ ap (λ (k : ℕ). sets (sets (sets headed start own) end counts) k (shape_part parts)) (sym is_last))

  -- the same from what each step of the code gave: which parts are there, how many marks, the contents, the bodies, the counts and part 7
  module _ {index edition popups shape : Bool} (is-index : index ≡ has (split s) 3) (is-edition : edition ≡ has (split s) 4) (is-popups : popups ≡ has (split s) 5)
      (is-shape : shape ≡ has (split s) 7) {start : ℕ} (is-start : start ≡ contents_size (length (codes_from index edition popups true shape))) where
    starts : start ≡ contents_size (length (counted_codes s))
    starts = rw (is-index, is-edition, is-popups, is-shape) at is-start

    start_is : start ≡ contents_size (count_at s) + 10
    start_is = starts ∙ counted_start

    -- the bodies lie in the sheet, and part 7 at its end
    pub bodies_within : (start - 10 ≤ length s - length (shape_part (split s))) × (length (shape_part (split s)) ≤ length s)
    bodies_within =
        let long = ap length (own_bodies ∙ bare_chain) in
        let more = length-append (chain (bodies_of before7)) (shape_part parts) in
        let behind = length-drop (contents_size (count_at s)) s in
        (omega (arith, start_is, long, more, behind, ((accepted_iff s).0 ok).laid.whole.inside), omega (arith, long, more, behind))

    pub counted_written : (before : List ℕ) {n end last : ℕ} {body own tail headed copied counted left : List ℕ} → n ≡ sheet_count s
        → body ≡ take (length s - length (shape_part (split s)) - (start - 10)) (drop (start - 10) s) → own ≡ counts_in (split s) → tail ≡ shape_part (split s)
        → headed ≡ sets before 0 (contents_of (codes_from index edition popups true shape) (sizes_from n index edition popups true shape))
        → end ≡ start + length body → copied ≡ sets headed start body → last ≡ end + length own → counted ≡ sets copied end own → left ≡ sets counted last tail
        → left ≡ sets before 0 (with_own_counts s)
    counted_written before {body = body} is-n is_body is-own is-tail is-headed is-end is-copied is_last is-counted is-left =
        let from : start - 10 ≡ contents_size (count_at s) = omega (arith, start_is) in
        let size : length s - length (shape_part parts) - contents_size (count_at s) ≡ length s - contents_size (count_at s) - length (shape_part parts) = omega arith in
        let is : body ≡ chain (bodies_of before7) = is_body ∙ rw (from, size) bodies_before in
        rw (is-left, is-counted, is-copied, is-headed, is-own, is-tail, is-n, is-index, is-edition, is-popups, is-shape)
        (counted_stores before start starts is is-end (rw is-own at is_last))

-- ---- the bytes that counting writes are bytes, for every list of bytes

first_bytes : (s : List ℕ) → Bytes s → (k i : ℕ) → Bytes (get_or (bodies_of (first_parts s k)) i [])
first_bytes s b zero i = λ j. omega arith
first_bytes s b (suc k) i =
    append_bytes (first_parts s k) _ (first_bytes s b k)
    (if_bytes true (code_at s k) (body_at s k) (bytes_take (length_at s k) (drop (offset_at s k) s) (bytes_drop (offset_at s k) s b))) i

pub counted_bytes : (s : List ℕ) → Bytes s → Bytes (with_own_counts s)
unfolding split
counted_bytes s b =
    join_bytes (with_part 6 (counts_in (split s)) (split s))
    (with_bytes 6 (counts_in (split s)) (split s) (counts_bytes (marks_part (split s)) (schedule_part (split s)) (popups_part (split s)) (sheet_count s)) (first_bytes s b (count_at s)))

-- ---- how counting ends

-- with both of its contracts, by the first
pub count_whole : {s : List ℕ} → Bytes s → {before : List ℕ} {r : Answer} {out : List ℕ} → Gives (count_job s (length before)) before r out
    → Gives (count_job s (length before)) before r out × MeetsCounting s r out
count_whole {s} b {before} gives = (gives, count_meets s b (counted_bytes s b) before gives)

module _ (s before : List ℕ) {r : Answer} where
  -- a sheet that is not accepted
  pub count_refused : {number : ℕ} → number ≡ check s → 0 < number → r ≡ refusal number → Gives (count_job s (length before)) before r before
  unfolding count_job count_checks check
  count_refused {number} e some is =
      refused_gives (count_questions s (length before)) (length (with_own_counts s)) (with_own_counts s) before number
      (append_no (count_checks s) _ (count_numbered s) (omega (arith, first)) ∙ first) some is
    where
      first : answer (count_checks s) ≡ number
      first = append_no (check_questions s) _ (check_numbered s) (omega arith) ∙ sym e

  -- one without part 2
  pub count_unscheduled : check s ≡ 0 → has (split s) 2 ≡ false → r ≡ refusal 10 → Gives (count_job s (length before)) before r before
  unfolding count_job count_checks check
  count_unscheduled ok lacks is =
      refused_gives (count_questions s (length before)) (length (with_own_counts s)) (with_own_counts s) before 10
      (append_no (count_checks s) _ (count_numbered s) (omega (arith, first)) ∙ first) (omega arith) is
    where
      first : answer (count_checks s) ≡ 10
      first = append_yes (check_questions s) _ (check_numbered s) ok ∙ asked_no 10 _ lacks

  -- and any other, of which 13 is all that is left to ask
  pub count_roomed : {out : List ℕ} → check s ≡ 0 → has (split s) 2 ≡ true → (w : List ℕ) → with_own_counts s ≡ w
      → Gives (outcome ((13 asks leb (length w) (length before)) ∷ []) (length w) w) before r out → Gives (count_job s (length before)) before r out
  unfolding count_job
  count_roomed ok two w is gives =
      let same : count_job s (length before) ≡ outcome ((13 asks leb (length w) (length before)) ∷ []) (length w) w =
      ap (λ (l : List ℕ). outcome (count_checks s ++ ((13 asks leb (length l) (length before)) ∷ [])) (length l) l) is
      ∙ outcome_same (count_checks s ++ ((13 asks leb (length w) (length before)) ∷ [])) ((13 asks leb (length w) (length before)) ∷ []) (length w) w
      (append_yes (count_checks s) _ (count_numbered s) (count_asked s ok two)) in
      rw same gives

-- ---- what counting's code knows of an accepted sheet

module _ (s : List ℕ) (ok : check s ≡ 0) where
  pub sheet_small : Bytes s → length s < 4294967296
  sheet_small bytes =
      rw (sheet_again s bytes ok) at (fitting_writable (split s) ((accepted_iff s).0 ok).fitting ((accepted_iff s).0 ok).laid.codes).size_fits

  -- its marks, schedule and popups are what counting asks for
  pub count_ready : has (split s) 2 ≡ true → {a b q : List ℕ} → a ≡ marks_part (split s) → b ≡ schedule_part (split s) → q ≡ popups_part (split s)
      → ((length a / 11 ≤ 4096) × (11 * (length a / 11) ≤ length a) × (14 * (length a / 11) ≤ length b))
      × ((length q ≡ 0) ⊎ (4 * (length a / 11) ≤ length q))
  count_ready two is-a is_b is-q =
      let fits : Fitting (split s) = ((accepted_iff s).0 ok).fitting in
      let long = fits.schedule_long two in
      rw (is-a, is_b, is-q) (
        (fits.marks.few, fits.marks.there, omega (arith, long)),
        popups_enough (popups_good (split s) (sheet_count s) fits.popups_right),
      )

-- and of them it makes the sheet's counts
pub count_own : (s : List ℕ) {a b q own : List ℕ} → a ≡ marks_part (split s) → b ≡ schedule_part (split s) → q ≡ popups_part (split s)
    → own ≡ counts_of a b q (length a / 11) → own ≡ counts_in (split s)
count_own s is-a is_b is-q is = rw (is-a, is_b, is-q) at is

pub counted_small : (s : List ℕ) → Bytes s → check s ≡ 0 → has (split s) 2 ≡ true → length (with_own_counts s) < 4294967296
counted_small s bytes ok two = sheet_small (with_own_counts s) (counted_accepted s ok two) (counted_bytes s bytes)
