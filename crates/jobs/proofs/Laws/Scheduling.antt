-- Scheduling: the written pieces are the sheet that is defined, and each way out answers as the job says. Assumes nothing.
use Prim.Native.Nat.{ℕ, suc, ◌+◌, ◌-◌, ◌*◌, ◌<◌, ◌≤◌}
use Rattle.std.specs.Prelude.{◌≡◌, refl, Bool, true, false, ltb, leb}
use Rattle.std.proofs.Math.Path.{sym, ap}
use Rattle.std.proofs.Common.{ap₂, ◌∙◌, inl, inr, leb-true, le-leb, ltb-true, lt-ltb, length-drop, take_at, drop_at, length-take-le}
use Rattle.std.proofs.Math.Bool.{cond}
use Rattle.std.proofs.lemmas.Bool.{false≢true}
use mathlib.Core.List.{List, [], ◌∷◌, ◌++◌, append_assoc}
use native.Mathlib.Omega.{arith}
use borrow.Rule.Slice.PartMut.{mid_of, put_mid}
use Rattle.std.proofs.Math.ListN.{length, take, drop, length-append}
use Rattle.std.proofs.Math.Seq.{sets, sets-eq, length-sets, take-append-add, drop-append-add, drop-drop}
use Rattle.lists.specs.Stores.{over}
use Rattle.lists.proofs.TestLaws.{both_iff}
use Rattle.lists.proofs.StoreLaws.{sets_append, over_sets}
use Rattle.marks.specs.Pairs.{GoodPopups}
use Rattle.elimination.specs.Reel.{Reel, schedule_of}
use Rattle.elimination.proofs.Schedule.{schedule_length}
use Rattle.index.specs.Index.{index_of, index_bytes}
use Rattle.index.proofs.Laws as Index
use Rattle.indexing.specs.Buffer.{with_index}
use Rattle.counting.specs.Counts.{counts_of}
use Rattle.counting.proofs.Laws.{counts_length}
use Rattle.contents.specs.Contents.{Part, ◌holds◌, codes_of, bodies_of, has, sizes_of, contents_size, contents_of, chain, join, popups_part}
use Rattle.contents.specs.Asking.{Question, answer}
use Rattle.contents.proofs.Laws.{Numbered, none_asked, append_yes, append_no, append_iff, contents_length, join_length}
use Rattle.parts.specs.Questions.{mark_count, choice_in}
use Rattle.bodies.specs.Questions.{edition_of, shape_of}
use Rattle.jobs.specs.declared.Answer.{Answer}
use Rattle.jobs.specs.Jobs.{outcome, part_if, with_counts, new_schedule, new_index, new_counts, new_parts, scheduled_from, scheduled_size, has_room, scheduling_questions, scheduling_job}
use Rattle.jobs.specs.Answers.{refusal, Gives}
use Rattle.jobs.specs.Steps.{kept_from, PopupsLent, PartsLent, codes_from, sizes_from, bare_from, results_over}
use Rattle.jobs.proofs.Laws.Outcomes.{refused_gives, written_gives}
use Rattle.jobs.proofs.Laws.Listed.{parts_chain, chain_if, counts_between, listed, listed_codes, listed_sizes, same_many, few_listed}
use Rattle.jobs.proofs.Laws.Kept.{beside_sized, kept_uncounted, kept_edition_from, kept_shape_from, kept_popups_from}

-- ---- the written pieces

-- part 2 and then part 3, behind the marks
pub results_are : (r : Reel) (a₀ : List ℕ) {a₁ a₂ : List ℕ} → length r.marks ≡ 11 * r.count
    → a₁ ≡ r.marks ++ (schedule_of r ++ drop (25 * r.count) a₀) → a₂ ≡ with_index a₁ r.count → a₂ ≡ results_over r a₀
unfolding results_over
results_are r a₀ {a₁} {a₂} long first second =
    let n = r.count in
    let s = r.marks in
    let p = schedule_of r in
    let rest = drop (25 * n) a₀ in
    let p-long : length p ≡ 14 * n = schedule_length r in
    let both_long : length (s ++ p) ≡ 25 * n = omega (arith, length-append s p) in
    let whole : a₁ ≡ (s ++ p) ++ rest = first ∙ sym (append_assoc s p rest) in
    let marks : take (11 * n) a₁ ≡ s = rw first (take_at s (p ++ rest) (11 * n) long) in
    let behind : drop (11 * n) a₁ ≡ p ++ rest = rw first (drop_at s (p ++ rest) (11 * n) long) in
    let schedule : take (14 * n) (drop (11 * n) a₁) ≡ p = rw behind (take_at p rest (14 * n) p-long) in
    let front : take (25 * n) a₁ ≡ s ++ p = rw whole (take_at (s ++ p) rest (25 * n) both_long) in
    let end : 27 * n ≡ length (s ++ p) + 2 * n = omega arith in
    let sum : 25 * n + 2 * n ≡ 27 * n = omega arith in
    let back : drop (27 * n) a₁ ≡ drop (27 * n) a₀ =
    ap (drop (27 * n)) whole ∙ ap (λ (k : ℕ). drop k ((s ++ p) ++ rest)) end ∙ drop-append-add (s ++ p) rest (2 * n)
    ∙ drop-drop (2 * n) (25 * n) a₀ ∙ ap (λ (k : ℕ). drop k a₀) sum in
    let index : List ℕ = index_bytes (index_of s p n) in
    let is : a₂ ≡ (s ++ p) ++ (index ++ drop (27 * n) a₀) = rw (marks, schedule, front, back) at second in
    is ∙ append_assoc s p (index ++ drop (27 * n) a₀)

index_long : (s : List ℕ) (n edition shape : ℕ) (popups : List ℕ) → n ≤ 4096
    → length (index_bytes (index_of s (schedule_of (record { marks = s; count = n; edition = edition; shape = shape; popups = popups })) n)) ≡ 2 * n
index_long s n edition shape popups few =
    Index.index_long s (schedule_of (record { marks = s; count = n; edition = edition; shape = shape; popups = popups })) n (omega (arith, few))

-- n marks, and parts that are kept
module _ (s : List ℕ) (n : ℕ) (few : n ≤ 4096) (long : length s ≡ 11 * n) where
  count_is : mark_count s ≡ n
  count_is = omega (arith, long)

  abbrev schedule : ℕ → ℕ → List ℕ → List ℕ
  schedule edition shape popups = schedule_of (record { marks = s; count = n; edition = edition; shape = shape; popups = popups })

  abbrev index : ℕ → ℕ → List ℕ → List ℕ
  index edition shape popups = index_bytes (index_of s (schedule edition shape popups) n)

  abbrev results : ℕ → ℕ → List ℕ → List ℕ
  results edition shape popups = schedule edition shape popups ++ index edition shape popups

  schedule_sized : (edition shape : ℕ) (popups : List ℕ) → length (schedule edition shape popups) ≡ 14 * n
  schedule_sized edition shape popups = schedule_length (record { marks = s; count = n; edition = edition; shape = shape; popups = popups })

  results_long : (edition shape : ℕ) (popups : List ℕ) → length (results edition shape popups) ≡ 16 * n
  results_long edition shape popups =
      omega (arith, length-append (schedule edition shape popups) (index edition shape popups), schedule_sized edition shape popups, index_long s n edition shape popups few)

  -- the bodies of what is written: the marks, their results, what is kept, and the counts
  bodies_are : (kept : List Part) (counted : Bool)
      → chain (bodies_of (new_parts s kept counted))
      ≡ s ++ (results (edition_of kept) (shape_of kept) (popups_part kept) ++ chain (bodies_of (with_counts counted (new_counts s kept) kept)))
  unfolding chain
  bodies_are kept counted =
      let rest = chain (bodies_of (with_counts counted (new_counts s kept) kept)) in
      let e = edition_of kept in
      let f = shape_of kept in
      let q = popups_part kept in
      ap (λ (k : ℕ). s ++ (schedule_of (record { marks = s; count = k; edition = e; shape = f; popups = q })
      ++ (index_bytes (index_of s (schedule_of (record { marks = s; count = k; edition = e; shape = f; popups = q })) k) ++ rest))) count_is
      ∙ ap (λ (l : List ℕ). s ++ l) (sym (append_assoc (schedule e f q) (index e f q) rest))

  pub sheet_long : (kept : List Part) (counted : Bool) → has kept 6 ≡ false → length (join (new_parts s kept counted)) ≡ scheduled_size n kept counted
  sheet_long kept counted none =
      let r = results (edition_of kept) (shape_of kept) (popups_part kept) in
      let others = with_counts counted (new_counts s kept) kept in
      let more = beside_sized kept counted (new_counts s kept) none (counts_length s (new_schedule s kept) (popups_part kept) (mark_count s)) in
      omega (
        arith,
        join_length (new_parts s kept counted),
        ap length (bodies_are kept counted),
        length-append s (r ++ chain (bodies_of others)),
        length-append r (chain (bodies_of others)),
        results_long (edition_of kept) (shape_of kept) (popups_part kept),
        long,
        more,
      )

  -- ---- as the code writes them: the contents, be they any, the marks, and what is kept, `body`
  module _ (head : List ℕ) (edition shape : ℕ) (popups body : List ℕ) where
    -- where the marks begin
    abbrev begin : ℕ
    begin = length head

    abbrev reel : Reel
    reel = record { marks = s; count = n; edition = edition; shape = shape; popups = popups }

    -- all of it, once parts 2 and 3 are written
    abbrev pub whole : List ℕ
    whole = head ++ (s ++ (results edition shape popups ++ body))

    pub whole_long : length whole ≡ begin + 27 * n + length body
    whole_long =
        omega (
          arith,
          length-append head (s ++ (results edition shape popups ++ body)),
          length-append s (results edition shape popups ++ body),
          length-append (results edition shape popups) body,
          results_long edition shape popups,
          long,
        )

    module _ (o₀ : List ℕ) (room : begin + 27 * n + length body ≤ length o₀) where
      -- what stays between the marks and what is kept, and behind it
      abbrev between : List ℕ
      between = take (16 * n) (drop (11 * n + begin) o₀)

      abbrev past : List ℕ
      past = drop (27 * n + begin + length body) o₀

      between_long : length between ≡ 16 * n
      between_long = length-take-le (16 * n) (drop (11 * n + begin) o₀) (omega (arith, length-drop (11 * n + begin) o₀))

      -- the contents, the marks, and what is kept
      pub begun : {o₁ o₂ o₃ : List ℕ} → o₁ ≡ sets o₀ 0 head → o₂ ≡ sets o₁ begin s → o₃ ≡ sets o₂ (begin + 27 * n) body
          → o₃ ≡ head ++ (s ++ (between ++ (body ++ past)))
      unfolding over
      begun {o₁} {o₂} {o₃} e f g =
          let start : List ℕ = head ++ s in
          let start-long : length start ≡ 11 * n + begin = omega (arith, length-append head s) in
          let behind : List ℕ = drop (11 * n + begin) o₀ in
          let from : 0 + length head ≡ begin = omega arith in
          let both : sets o₀ 0 start ≡ sets (sets o₀ 0 head) begin s = rw from at (sets_append o₀ 0 head s) in
          let o_is : o₂ ≡ start ++ behind = rw (f, e, ← both, over_sets start o₀ (omega (arith, start-long)), start-long) in
          let o-long : length o₂ ≡ length o₀ = rw (f, e) (length-sets (sets o₀ 0 head) begin s ∙ length-sets o₀ 0 head) in
          let at : begin + 27 * n ≡ length start + 16 * n = omega (arith, start-long) in
          let end : begin + 27 * n + length body ≡ length start + (16 * n + length body) = omega (arith, start-long) in
          let sum : 11 * n + begin + (16 * n + length body) ≡ 27 * n + begin + length body = omega arith in
          let front : take (begin + 27 * n) o₂ ≡ start ++ between = rw (o_is, at) (take-append-add start behind (16 * n)) in
          let back : drop (begin + 27 * n + length body) o₂ ≡ past =
          rw (o_is, end) (drop-append-add start behind (16 * n + length body)) ∙ drop-drop (16 * n + length body) (11 * n + begin) o₀
          ∙ ap (λ (i : ℕ). drop i o₀) sum in
          g ∙ sets-eq body o₂ (begin + 27 * n) (omega (arith, o-long))
          ∙ rw (front, back)
          (append_assoc (start ++ between) body past ∙ append_assoc start between (body ++ past)
          ∙ append_assoc head s (between ++ (body ++ past)))

      -- what a call is lent that is lent the bodies, and all of it once it has written parts 2 and 3
      module _ (from end : ℕ) {o : List ℕ} (from_is : from ≡ begin) (end_is : end ≡ begin + 27 * n + length body)
          (o_is : o ≡ head ++ (s ++ (between ++ (body ++ past)))) where
        abbrev middle : List ℕ
        middle = s ++ (between ++ body)

        middle_long : length middle ≡ end - from
        middle_long = omega (arith, length-append s (between ++ body), length-append between body, between_long)

        all : o ≡ head ++ (middle ++ past)
        all = o_is ∙ ap (λ (l : List ℕ). head ++ l) (rw (append_assoc s (between ++ body) past, append_assoc between body past))

        behind : drop from o ≡ middle ++ past
        behind = rw (from_is, all) (drop_at head (middle ++ past) begin refl)

        lent : mid_of from (end - from) o ≡ middle
        lent = rw behind (take_at middle past (end - from) middle_long)

        pub lent_long : length (mid_of from (end - from) o) ≡ 27 * n + length body
        lent_long = rw lent (omega (arith, middle_long))

        pub marks_first : take (11 * n) (mid_of from (end - from) o) ≡ s
        marks_first = rw lent (take_at s (between ++ body) (11 * n) long)

        -- what is kept is behind the 27 bytes of each mark
        pub kept_last : (i : ℕ) → drop (27 * n + i) (mid_of from (end - from) o) ≡ drop i body
        kept_last i =
            let at : 27 * n + i ≡ length s + (16 * n + i) = omega (arith, long) in
            let past-it : 16 * n + i ≡ length between + i = omega (arith, between_long) in
            rw (lent, at) (drop-append-add s (between ++ body) (16 * n + i) ∙ rw past-it (drop-append-add between body i))

        pub results_put : {t : List ℕ} → t ≡ results_over reel (mid_of from (end - from) o) → put_mid from (end - from) o t ≡ over whole o₀
        unfolding over results_over
        results_put {t} t-is =
            let p = schedule edition shape popups in
            let front : take from o ≡ head = rw (from_is, all) (take_at head (middle ++ past) begin refl) in
            let rest : drop (end - from) (drop from o) ≡ past = rw behind (drop_at middle past (end - from) middle_long) in
            let none : 27 * n + 0 ≡ 27 * n = omega arith in
            let last : drop (27 * n) (mid_of from (end - from) o) ≡ body = rw none at (kept_last 0) in
            let size : length whole ≡ 27 * n + begin + length body = omega (arith, whole_long) in
            rw (
              front,
              rest,
              t-is,
              last,
              size,
              append_assoc head (s ++ (results edition shape popups ++ body)) past,
              append_assoc s (results edition shape popups ++ body) past,
              append_assoc p (index edition shape popups) body,
              append_assoc s (p ++ (index edition shape popups ++ body)) past,
            )

    -- Read from a buffer that holds it: the marks, the schedule, and what is kept from any place on.
    module _ (o : List ℕ) where
      abbrev tail : List ℕ
      tail = drop (length whole) o

      laid_out : over whole o ≡ head ++ (s ++ (schedule edition shape popups ++ (index edition shape popups ++ (body ++ tail))))
      unfolding over
      laid_out =
          rw (
            append_assoc head (s ++ (results edition shape popups ++ body)) tail,
            append_assoc s (results edition shape popups ++ body) tail,
            append_assoc (results edition shape popups) body tail,
            append_assoc (schedule edition shape popups) (index edition shape popups) (body ++ tail),
          )

      pub marks_read : take (11 * n) (drop begin (over whole o)) ≡ s
      marks_read = rw (laid_out, drop_at head _ begin refl) (take_at s _ (11 * n) long)

      pub schedule_read : take (14 * n) (drop (begin + 11 * n) (over whole o)) ≡ schedule edition shape popups
      schedule_read =
          let at : begin + 11 * n ≡ length head + length s = omega (arith, long) in
          rw (laid_out, at, drop-append-add head _ (length s), drop_at s _ (length s) refl) (take_at (schedule edition shape popups) _ (14 * n) (schedule_sized edition shape popups))

      pub body_read : (first last : List ℕ) → body ≡ first ++ last → take (length last) (drop (begin + 27 * n + length first) (over whole o)) ≡ last
      body_read first last is =
          let p = schedule edition shape popups in
          let t = index edition shape popups in
          let at : begin + 27 * n + length first ≡ length head + (length s + (length p + (length t + length first))) =
          omega (arith, long, schedule_sized edition shape popups, index_long s n edition shape popups few) in
          let behind : drop (begin + 27 * n + length first) (over whole o) ≡ last ++ tail =
          ap (drop (begin + 27 * n + length first)) laid_out
          ∙ ap (λ (k : ℕ). drop k (head ++ (s ++ (p ++ (t ++ (body ++ tail)))))) at
          ∙ drop-append-add head (s ++ (p ++ (t ++ (body ++ tail)))) (length s + (length p + (length t + length first)))
          ∙ drop-append-add s (p ++ (t ++ (body ++ tail))) (length p + (length t + length first))
          ∙ drop-append-add p (t ++ (body ++ tail)) (length t + length first) ∙ drop-append-add t (body ++ tail) (length first)
          ∙ ap (λ (l : List ℕ). drop (length first) (l ++ tail)) is ∙ ap (drop (length first)) (append_assoc first last tail)
          ∙ drop_at first (last ++ tail) (length first) refl in
          rw behind (take_at last tail (length last) refl)

-- ---- from what is lent

pub lent_good : (there : Bool) {q : List ℕ} {n : ℕ} → PopupsLent there q n → GoodPopups q n
lent_good true l = record { sized = inr l.sized; each = l.each }
lent_good false l = record { sized = inl l.sized; each = l.each }

-- what is lent of a part that is not there is empty
none_lent : (there : Bool) (q : List ℕ) {n : ℕ} → PopupsLent there q n → cond there q [] ≡ q
none_lent true q l = refl
none_lent false [] l = refl
none_lent false (x ∷ q) l = absurd (omega (arith, l.sized))

choice_lent : (body : List ℕ) → cond (ltb 0 (length body)) body [] ≡ body
choice_lent [] = refl
choice_lent (x ∷ body) = rw (lt-ltb 0 (suc (length body)) (omega arith))

-- where it is there, it has one byte
choice_one : (body : List ℕ) → length body ≤ 1 → ltb 0 (length body) ≡ true → length body ≡ 1
choice_one body h e = omega (arith, ltb-true 0 (length body) e)

-- What is lent of a buffer `o` from `from` to `end`, in which the contents, n marks, part 4 and part 5 stand: it begins with the marks and
-- ends with the popups, and once parts 2 and 3 are written in it the buffer holds the sheet up to parts 6 and 7.
pub record Standing (s : List ℕ) (n : ℕ) (b : List ℕ) (there : Bool) (q v : List ℕ) (counted : Bool) (o₀ o : List ℕ) (from end : ℕ) : Type 0 where
  pub marks : take (11 * n) (mid_of from (end - from) o) ≡ s
  pub long : length (mid_of from (end - from) o) ≡ 27 * n + length b + length q
  pub popups : drop (27 * n + length b) (mid_of from (end - from) o) ≡ q
  pub put : (t : List ℕ) → t ≡ results_over (record { marks = s; count = n; edition = choice_in b; shape = choice_in v; popups = q }) (mid_of from (end - from) o)
      → put_mid from (end - from) o t ≡ over (bare_from s b there q v counted) o₀

module _ (s : List ℕ) (n : ℕ) (few : n ≤ 4096) (long : length s ≡ 11 * n) where
  -- the sizes of parts 1 to 3 and of the counts, whatever is kept
  module _ (kept : List Part) where
    new_schedule_sized : length (new_schedule s kept) ≡ 14 * n
    new_schedule_sized = rw (count_is s n few long) (schedule_sized s n few long (edition_of kept) (shape_of kept) (popups_part kept))

    new_index_sized : length (new_index s kept) ≡ 2 * n
    new_index_sized = rw (count_is s n few long) (index_long s n (edition_of kept) (shape_of kept) (popups_part kept) few)

    new_counts_sized : length (new_counts s kept) ≡ 170
    new_counts_sized = counts_length s (new_schedule s kept) (popups_part kept) (mark_count s)

module _ {s b : List ℕ} {there : Bool} {q v : List ℕ} {n : ℕ} (lent : PartsLent s b there q v n) (counted : Bool) where
  few : n ≤ 4096
  few = lent.good.few

  long : length s ≡ 11 * n
  long = lent.long

  abbrev others : List Part
  others = kept_from b there q v

  abbrev edition_there : Bool
  edition_there = ltb 0 (length b)

  abbrev shape_there : Bool
  shape_there = ltb 0 (length v)

  abbrev pub lent_codes : List ℕ
  lent_codes = codes_from true edition_there there counted shape_there

  abbrev pub lent_sizes : List ℕ
  lent_sizes = sizes_from n true edition_there there counted shape_there

  abbrev pub lent_head : List ℕ
  lent_head = contents_of lent_codes lent_sizes

  -- where the marks begin
  abbrev pub lent_begin : ℕ
  lent_begin = contents_size (length lent_codes)

  pub begin_few : lent_begin ≤ 72
  begin_few = omega (arith, few_listed true edition_there there counted shape_there)

  -- all parts, one by one
  parts_are : new_parts s others counted
      ≡ listed s (new_schedule s others) (new_index s others) b q (new_counts s others) v true edition_there there counted shape_there
  parts_are =
      ap (λ (l : List Part). (1 holds s) ∷ (2 holds new_schedule s others) ∷ (3 holds new_index s others) ∷ l)
      (counts_between edition_there there shape_there b q (new_counts s others) v counted)

  lent_codes_lem : codes_of (new_parts s others counted) ≡ lent_codes
  lent_codes_lem =
      ap codes_of parts_are
      ∙ listed_codes s (new_schedule s others) (new_index s others) b q (new_counts s others) v true edition_there there counted shape_there

  lent_sizes_lem : sizes_of (bodies_of (new_parts s others counted)) ≡ lent_sizes
  lent_sizes_lem =
      ap (λ (l : List Part). sizes_of (bodies_of l)) parts_are
      ∙ listed_sizes s (new_schedule s others) (new_index s others) b q (new_counts s others) v true edition_there there counted shape_there n
      long (new_schedule_sized s n few long others) (λ e. new_index_sized s n few long others) (choice_one b lent.edition_short) (rows there lent.popups_lent) (λ e. new_counts_sized s n few long others) (choice_one v lent.shape_short)
    where
      rows : (there : Bool) → PopupsLent there q n → there ≡ true → length q ≡ 4 * n
      rows true l e = l.sized
      rows false l e = absurd (false≢true e)

  head_long : length lent_head ≡ lent_begin
  head_long = contents_length lent_codes lent_sizes (same_many n true edition_there there counted shape_there)

  -- what is kept, and the counts between: part 4, part 5, part 6 and part 7
  behind_chain : chain (bodies_of (with_counts counted (new_counts s others) others)) ≡ b ++ (q ++ (cond counted (new_counts s others) [] ++ v))
  behind_chain =
      ap (λ (l : List Part). chain (bodies_of l)) (counts_between edition_there there shape_there b q (new_counts s others) v counted)
      ∙ parts_chain (part_if edition_there 4 b) _
      ∙ ap₂ ◌++◌ (chain_if edition_there 4 b ∙ choice_lent b)
      (parts_chain (part_if there 5 q) _
      ∙ ap₂ ◌++◌ (chain_if there 5 q ∙ none_lent there q lent.popups_lent)
      (parts_chain (part_if counted 6 (new_counts s others)) _
      ∙ ap₂ ◌++◌ (chain_if counted 6 (new_counts s others)) (chain_if shape_there 7 v ∙ choice_lent v)))

  -- the sheet up to parts 6 and 7, and with them
  bare_is : bare_from s b there q v counted ≡ whole s n few long lent_head (choice_in b) (choice_in v) q (b ++ q)
  bare_is =
      ap₂ (λ (l m : List ℕ). contents_of l m ++ (s ++ (new_schedule s others ++ (new_index s others ++ (b ++ q))))) lent_codes_lem lent_sizes_lem
      ∙ ap (λ (l : List ℕ). lent_head ++ (s ++ l)) (sym (append_assoc (new_schedule s others) (new_index s others) (b ++ q)))
      ∙ rw (count_is s n few long, kept_edition_from b there q v, kept_shape_from b there q v, kept_popups_from b there q v, none_lent there q lent.popups_lent)

  bare_whole : bare_from s b there q v counted ++ (cond counted (new_counts s others) [] ++ v) ≡ scheduled_from s others counted
  unfolding join chain
  bare_whole =
      let head = contents_of (codes_of (new_parts s others counted)) (sizes_of (bodies_of (new_parts s others counted))) in
      let c = cond counted (new_counts s others) [] in
      regrouped head s (new_schedule s others) (new_index s others) b q (c ++ v)
      ∙ ap (λ (l : List ℕ). head ++ (s ++ (new_schedule s others ++ (new_index s others ++ l)))) (sym behind_chain)
    where
      regrouped : (h a p t b q l : List ℕ) → (h ++ (a ++ (p ++ (t ++ (b ++ q))))) ++ l ≡ h ++ (a ++ (p ++ (t ++ (b ++ (q ++ l)))))
      regrouped h a p t b q l = simp append_assoc

  abbrev bare_size : ℕ
  bare_size = lent_begin + 27 * n + length b + length q

  bare_long : length (bare_from s b there q v counted) ≡ bare_size
  bare_long = ap length bare_is ∙ omega (arith, whole_long s n few long lent_head (choice_in b) (choice_in v) q (b ++ q), head_long, length-append b q)

  pub lent_size : scheduled_size n others counted ≡ lent_begin + 27 * n + length b + length q + cond counted 170 0 + length v
  lent_size =
      let c = cond counted (new_counts s others) [] in
      omega (
        arith,
        sheet_long s n few long others counted (kept_uncounted b there q v),
        ap length bare_whole,
        length-append (bare_from s b there q v counted) (c ++ v),
        length-append c v,
        bare_long,
        sized counted,
      )
    where
      sized : (counted : Bool) → length (cond counted (new_counts s others) []) ≡ cond counted 170 0
      sized true = new_counts_sized s n few long others
      sized false = refl

  -- the contents, the marks, part 4 and part 5 are written, and all but the contents is lent
  pub standing : (o₀ : List ℕ) → lent_begin + 27 * n + length b + length q ≤ length o₀ → {o₁ o₂ o₃ o₄ : List ℕ} {from end : ℕ} → o₁ ≡ sets o₀ 0 lent_head
      → o₂ ≡ sets o₁ lent_begin s → o₃ ≡ sets o₂ (lent_begin + 27 * n) b → o₄ ≡ sets o₃ (lent_begin + 27 * n + length b) q → from ≡ lent_begin
      → end ≡ lent_begin + 27 * n + length b + length q → Standing s n b there q v counted o₀ o₄ from end
  standing o₀ room {o₁} {o₂} {o₃} {o₄} {from} {end} e f g h from_is end_is =
      let edition = choice_in b in
      let shape = choice_in v in
      let body = b ++ q in
      let fits : length lent_head + 27 * n + length body ≤ length o₀ = omega (arith, head_long, length-append b q) in
      let begins : from ≡ length lent_head = from_is ∙ sym head_long in
      let ends : end ≡ length lent_head + 27 * n + length body = omega (arith, head_long, length-append b q) in
      let stands = begun s n few long lent_head edition shape q body o₀ fits {o₁ = o₁} {o₂ = o₂} {o₃ = o₄} e (rw head_long f)
      (rw (head_long, sets_append o₂ (lent_begin + 27 * n) b q, ← g) h) in
      record {
        marks = marks_first s n few long lent_head edition shape q body o₀ fits from end begins ends stands;
        long = omega (arith, lent_long s n few long lent_head edition shape q body o₀ fits from end begins ends stands, length-append b q);
        popups = kept_last s n few long lent_head edition shape q body o₀ fits from end begins ends stands (length b) ∙ drop_at b q (length b) refl;
        put = λ t t-is. rw bare_is (results_put s n few long lent_head edition shape q body o₀ fits from end begins ends stands {t = t} t-is);
      }

  -- What is read of the sheet up to parts 6 and 7, for its counts: the marks, the schedule and the popups. And once the counts and part 7 are
  -- written behind it, the buffer holds the sheet.
  module _ (o₀ : List ℕ) where
    abbrev held : List ℕ
    held = over (bare_from s b there q v counted) o₀

    pub popups_read : {from end : ℕ} → from ≡ lent_begin + 27 * n + length b → end ≡ from + length q → take (end - from) (drop from held) ≡ q
    popups_read {from} {end} from_is end_is =
        let behind : from ≡ length lent_head + 27 * n + length b = omega (arith, head_long) in
        let size : end - from ≡ length q = omega (arith, end_is) in
        rw (bare_is, size, behind) (body_read s n few long lent_head (choice_in b) (choice_in v) q (b ++ q) o₀ b q refl)

    pub counts_read : {start from end : ℕ} → start ≡ lent_begin → from ≡ lent_begin + 27 * n + length b → end ≡ from + length q
        → counts_of (take (11 * n) (drop start held)) (take (14 * n) (drop (start + 11 * n) held)) (take (end - from) (drop from held)) n ≡ new_counts s others
    counts_read {start} {from} {end} start_is from_is end_is =
        let edition = choice_in b in
        let shape = choice_in v in
        let at : start ≡ length lent_head = start_is ∙ sym head_long in
        rw (popups_read from_is end_is, bare_is, at, marks_read s n few long lent_head edition shape q (b ++ q) o₀, schedule_read s n few long lent_head edition shape q (b ++ q) o₀)
        (rw (count_is s n few long, kept_edition_from b there q v, kept_shape_from b there q v, kept_popups_from b there q v, none_lent there q lent.popups_lent))

    -- `c` is what is written of counts, none where they are not wanted, and `at` where part 7 goes
    pub sheet_put : scheduled_size n others counted ≤ length o₀ → {c o p : List ℕ} {end at : ℕ} → c ≡ cond counted (new_counts s others) []
        → end ≡ lent_begin + 27 * n + length b + length q → o ≡ sets held end c → at ≡ end + length c → p ≡ sets o at v
        → p ≡ over (scheduled_from s others counted) o₀
    sheet_put room {c} {o} {p} {end} {at} c-is end_is o_is at-is p-is =
        let bare = bare_from s b there q v counted in
        let behind : end ≡ 0 + length bare = omega (arith, bare_long, end_is) in
        let whole_is : bare ++ (c ++ v) ≡ scheduled_from s others counted = ap (λ (l : List ℕ). bare ++ (l ++ v)) c-is ∙ bare_whole in
        let fits : length (bare ++ (c ++ v)) ≤ length o₀ =
        omega (arith, ap length whole_is, sheet_long s n few long others counted (kept_uncounted b there q v), room) in
        p-is ∙ ap (λ (l : List ℕ). sets l at v) o_is ∙ ap (λ (k : ℕ). sets (sets held end c) k v) at-is
        ∙ sym (sets_append held end c v)
        ∙ ap (λ (l : List ℕ). sets l end (c ++ v)) (sym (over_sets bare o₀ (omega (arith, length-append bare (c ++ v), fits))))
        ∙ ap (λ (k : ℕ). sets (sets o₀ 0 bare) k (c ++ v)) behind
        ∙ sym (sets_append o₀ 0 bare (c ++ v)) ∙ over_sets (bare ++ (c ++ v)) o₀ fits ∙ ap (λ (l : List ℕ). over l o₀) whole_is

-- ---- the ways out

module _ (n : ℕ) (kept : List Part) (counted : Bool) (work room : ℕ) where
  pub room_there : has_room n kept counted work room ≡ true → (32 * n + 1024 ≤ work) × (scheduled_size n kept counted ≤ room)
  room_there e =
      let p = (both_iff (leb (32 * n + 1024) work) (leb (scheduled_size n kept counted) room)).0 e in
      (leb-true (32 * n + 1024) work p.0, leb-true (scheduled_size n kept counted) room p.1)

  pub there_room : 32 * n + 1024 ≤ work → scheduled_size n kept counted ≤ room → has_room n kept counted work room ≡ true
  there_room p q =
      (both_iff (leb (32 * n + 1024) work) (leb (scheduled_size n kept counted) room)).1
      (le-leb (32 * n + 1024) work p, le-leb (scheduled_size n kept counted) room q)

-- a job that asks `checks` before 13
module _ (checks : List Question) (numbered : Numbered checks) (marks : List ℕ) (others : List Part) (counted : Bool) (work : ℕ) where
  pub room_asked : (room : ℕ) → answer checks ≡ 0 → answer (scheduling_questions checks marks others counted work room) ≡ cond (has_room (mark_count marks) others counted work room) 0 13
  unfolding scheduling_questions answer
  room_asked room e = append_yes checks _ numbered e

  pub checks_passed : (room : ℕ) → answer (scheduling_questions checks marks others counted work room) ≡ 0 → answer checks ≡ 0
  unfolding scheduling_questions
  checks_passed room e = ((append_iff checks _ numbered).0 e).0

  pub stopped : (buffer : List ℕ) {r : Answer} {number : ℕ} → number ≡ answer checks → 0 < number → r ≡ refusal number
      → Gives (scheduling_job checks marks others counted work (length buffer)) buffer r buffer
  unfolding scheduling_job scheduling_questions
  stopped buffer {r} {number} e some is =
      refused_gives (scheduling_questions checks marks others counted work (length buffer)) (length (scheduled_from marks others counted)) (scheduled_from marks others counted) buffer number
      (append_no checks _ numbered (omega arith) ∙ sym e) some is

-- once these are answered with yes, 13 is all that is left to ask
pub passed : (checks : List Question) → Numbered checks → (marks : List ℕ) (others : List Part) (counted : Bool) (work room : ℕ) → answer checks ≡ 0
    → scheduling_job checks marks others counted work room ≡ scheduling_job [] marks others counted work room
unfolding scheduling_job outcome
passed checks numbered marks others counted work room e =
    rw (room_asked checks numbered marks others counted work room e, room_asked [] tt marks others counted work room none_asked)

-- and so the job gives what is given once they are
pub once_passed : (checks : List Question) → Numbered checks → answer checks ≡ 0 → (work : ℕ) {l marks : List ℕ} {k others : List Part} {c counted : Bool} {before left : List ℕ}
    {r : Answer} → l ≡ marks → k ≡ others → c ≡ counted → Gives (scheduling_job [] l k c work (length before)) before r left
    → Gives (scheduling_job checks marks others counted work (length before)) before r left
once_passed checks numbered ok work {l} {marks} {k} {others} {c} {counted} {before} e f h given =
    rw (passed checks numbered marks others counted work (length before) ok, ← e, ← f, ← h) given

-- and the job that asks 13 alone, of n marks
module _ (s : List ℕ) (n : ℕ) (few : n ≤ 4096) (long : length s ≡ 11 * n) (others : List Part) (counted : Bool) (none : has others 6 ≡ false) (work : ℕ)
    (buffer : List ℕ) where
  last_asked : answer (scheduling_questions [] s others counted work (length buffer)) ≡ cond (has_room n others counted work (length buffer)) 0 13
  last_asked = rw (count_is s n few long) at (room_asked [] tt s others counted work (length buffer) none_asked)

  pub no_room : {r : Answer} → has_room n others counted work (length buffer) ≡ false → r ≡ refusal 13 → Gives (scheduling_job [] s others counted work (length buffer)) buffer r buffer
  unfolding scheduling_job
  no_room short is =
      refused_gives (scheduling_questions [] s others counted work (length buffer)) (length (scheduled_from s others counted)) (scheduled_from s others counted) buffer 13 (rw short at last_asked) (omega arith) is

  pub sheet_written : {r : Answer} → has_room n others counted work (length buffer) ≡ true → r ≡ record { number = 0; value = scheduled_size n others counted }
      → {left : List ℕ} → left ≡ over (scheduled_from s others counted) buffer → Gives (scheduling_job [] s others counted work (length buffer)) buffer r left
  unfolding scheduling_job
  sheet_written room is bytes =
      written_gives (scheduling_questions [] s others counted work (length buffer)) (length (scheduled_from s others counted)) (scheduled_from s others counted) buffer (rw room at last_asked)
      (rw (sheet_long s n few long others counted none) is) bytes
