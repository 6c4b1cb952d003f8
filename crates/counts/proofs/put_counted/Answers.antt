-- `counts::put_counted`: 13, or the contents, the bodies of the sheet before part 7, its counts and part 7, which make the sheet with its counts. Assumes nothing.
-- ---- the sheet
use Prim.Native.Nat.{ℕ, ◌+◌, ◌-◌, ◌*◌, ◌≤◌}
use mathlib.Core.Logic.{◌⊎◌}
use mathlib.Core.Path.{◌≡◌, refl, ap, ◌∙◌}
use mathlib.Core.Bool.{true}
use mathlib.Core.List.{List, []}
use native.Mathlib.Omega.{arith}
use lib.ListN.{length, take, drop, length-drop}
use lib.Seq.{length-take-le}
use Rattle.numbers.specs.Little.{Bytes}
use Rattle.counting.specs.Counts.{counts_of}
use Rattle.counting.proofs.Laws.{counts_length}
use Rattle.elimination.specs.Reel.{Reel}
use Rattle.contents.specs.Contents.{has, find, split, contents_size, schedule_part, shape_part}
use Rattle.contents.specs.Places.{place_of, cut_of, is_there}
use Rattle.contents.proofs.Laws.{none_asked}
use Rattle.bodies.specs.Questions.{reel_of}
use Rattle.sheet.specs.Questions.{check}
use Rattle.sheet.proofs.Laws.{layout_part, layout_there}
use Rattle.jobs.specs.Jobs.{counts_in, with_own_counts}
use Rattle.jobs.specs.Steps.{codes_from}
use Rattle.jobs.proofs.Laws.Rooms.{no_room, wrote}
use Rattle.jobs.proofs.Laws.Counted.{counted_long, counted_small, count_ready, count_own, bodies_within, counted_written}
use Rattle.counts.proofs.put_counted.Goals as goal
use Rattle.counts.proofs.put_counted.Goals.{After-is_there-4, Start}

part_is : (k : Start) {l : List ℕ} (code : ℕ) → l ≡ cut_of k.args.sheet.now.bytes.now (place_of k.args.sheet.now.layout code) → l ≡ find (split k.args.sheet.now.bytes.now) code
part_is k code e = e ∙ layout_part k.args.sheet.now.bytes.now k.args.sheet.now.passed k.args.sheet.now.laid code

there : (k : Start) (code : ℕ) → is_there k.args.sheet.now.layout code ≡ has (split k.args.sheet.now.bytes.now) code
there k code = layout_there k.args.sheet.now.bytes.now k.args.sheet.now.passed k.args.sheet.now.laid code

-- ---- the counts

-- the sheet's own reel and schedule are what counting asks for
may_count : (s : List ℕ) → check s ≡ 0 → has (split s) 2 ≡ true → {r : Reel} {schedule : List ℕ} → r ≡ reel_of (split s) → schedule ≡ schedule_part (split s)
    → ((r.count ≤ 4096) × (11 * r.count ≤ length r.marks) × (14 * r.count ≤ length schedule)) × ((length r.popups ≡ 0) ⊎ (4 * r.count ≤ length r.popups))
may_count s ok two e f = rw (e, f) (count_ready s ok two refl refl refl)

-- and of them it makes the sheet's counts
counts_are : (s : List ℕ) {r : Reel} {schedule counts : List ℕ} → r ≡ reel_of (split s) → schedule ≡ schedule_part (split s)
    → counts ≡ counts_of r.marks schedule r.popups r.count → counts ≡ counts_in (split s)
counts_are s e f is = count_own s refl refl refl (rw (e, f) at is)

-- ---- the needs

-- the sheet's own contents end 10 bytes before the new ones, and part 7 is its end
within : (h : After-is_there-4) → Bytes h.args.sheet.now.bytes.now → {start : ℕ}
    → start ≡ contents_size (length (codes_from h.is_there.result h.is_there-2.result h.is_there-3.result true h.is_there-4.result))
    → (start - 10 ≤ length h.args.sheet.now.bytes.now - length h.cut-shape.result.now) × (length h.cut-shape.result.now ≤ length h.args.sheet.now.bytes.now)
within h bytes e =
    let s = h.args.sheet.now.bytes.now in
    let there : (code : ℕ) → is_there h.args.sheet.now.layout code ≡ has (split s) code = λ code. layout_there s h.args.sheet.now.passed h.args.sheet.now.laid code in
    let w = bodies_within s bytes h.args.sheet.now.passed h.requires.1 h.requires.2 (h.is_there.ensures ∙ there 3) (h.is_there-2.ensures ∙ there 4)
    (h.is_there-3.ensures ∙ there 5) (h.is_there-4.ensures ∙ there 7) e in
    let long = ap length (h.cut-shape.ensures ∙ layout_part s h.args.sheet.now.passed h.args.sheet.now.laid 7) in
    (omega (arith, w.0, w.1, long), omega (arith, w.1, long))

-- the bodies before part 7
copied : (s v : List ℕ) (start : ℕ) → (start - 10 ≤ length s - length v) × (length v ≤ length s)
    → length (take (length s - length v - (start - 10)) (drop (start - 10) s)) ≡ length s - length v - (start - 10)
copied s v start w = length-take-le _ (drop (start - 10) s) (omega (arith, w.0, w.1, length-drop (start - 10) s))

pub returns-then-out-size : goal.returns-then-out-size
returns-then-out-size c =
    let s = c.args.sheet.now.bytes.now in
    let w = with_own_counts s in
    let long = counted_long s c.requires.0 c.args.sheet.now.passed c.requires.1 c.requires.2 in
    no_room [] tt (length w) w _ none_asked (omega (arith, long, c.if-out-size.true)) refl

pub counts_of-counts-requires : goal.counts_of-counts-requires
counts_of-counts-requires c =
    let k = (goal.at.counts_of-counts-requires c).Start in
    let may =
    may_count c.args.sheet.now.bytes.now c.args.sheet.now.passed c.requires.1 c.reel-reel.ensures.reel (part_is k 2 c.cut-schedule.ensures) in
    record { n_bound = may.0; popups_there = may.1 }

-- ---- the contents

pub put_head-start-requires : goal.put_head-start-requires
put_head-start-requires c =
    let k = (goal.at.put_head-start-requires c).Start in
    let h = (goal.at.put_head-start-requires c).After-is_there-4 in
    let may =
    may_count c.args.sheet.now.bytes.now c.args.sheet.now.passed c.requires.1 c.reel-reel.ensures.reel (part_is k 2 c.cut-schedule.ensures) in
    (may.0.0, omega (arith, within h c.requires.0 refl, c.if-out-size.false))

pub overflow_sub-rest : goal.overflow_sub-rest
overflow_sub-rest c = (within (goal.at.overflow_sub-rest c).After-is_there-4 c.requires.0 c.put_head-start.ensures.0).1

pub slice_bounds-put-count : goal.slice_bounds-put-count
slice_bounds-put-count c = (within (goal.at.slice_bounds-put-count c).After-is_there-4 c.requires.0 c.put_head-start.ensures.0).0

pub slice_bounds-put-start : goal.slice_bounds-put-start
slice_bounds-put-start c =
    let w = within (goal.at.slice_bounds-put-start c).After-is_there-4 c.requires.0 c.put_head-start.ensures.0 in
    omega (arith, w.0, w.1)

pub put-end-requires : goal.put-end-requires
put-end-requires c =
    let w = within (goal.at.put-end-requires c).After-is_there-4 c.requires.0 c.put_head-start.ensures.0 in
    omega (arith, copied c.args.sheet.now.bytes.now c.cut-shape.result.now c.put_head-start.result w, w, c.if-out-size.false)

pub put-last-requires : goal.put-last-requires
put-last-requires c =
    let w = within (goal.at.put-last-requires c).After-is_there-4 c.requires.0 c.put_head-start.ensures.0 in
    omega (arith, copied c.args.sheet.now.bytes.now c.cut-shape.result.now c.put_head-start.result w, w, c.put-end.ensures.0, c.if-out-size.false)

pub put-requires : goal.put-requires
put-requires c =
    let w = within (goal.at.put-requires c).After-is_there-4 c.requires.0 c.put_head-start.ensures.0 in
    let sized : length c.counts_of-counts.result ≡ 170 = ap length c.counts_of-counts.ensures ∙ counts_length _ _ _ _ in
    let first = c.put-end.ensures.0 ∙ ap (λ (n : ℕ). c.put_head-start.result + n) (copied c.args.sheet.now.bytes.now c.cut-shape.result.now c.put_head-start.result w) in
    let second = c.put-last.ensures.0 ∙ ap (λ (n : ℕ). c.put-end.result + n) sized in
    omega (arith, w.0, w.1, first, second, c.if-out-size.false)

pub overflow_cast-result : goal.overflow_cast-result
overflow_cast-result c =
    let s = c.args.sheet.now.bytes.now in
    let bytes : Bytes s = c.requires.0 in
    omega (arith, counted_long s bytes c.args.sheet.now.passed c.requires.1 c.requires.2, counted_small s bytes c.args.sheet.now.passed c.requires.1)

pub returns : goal.returns
returns c =
    let k = (goal.at.returns c).Start in
    let s = c.args.sheet.now.bytes.now in
    let bytes : Bytes s = c.requires.0 in
    let long = counted_long s bytes c.args.sheet.now.passed c.requires.1 c.requires.2 in
    let shape_is : c.cut-shape.result.now ≡ shape_part (split s) = part_is k 7 c.cut-shape.ensures in
    let w = with_own_counts s in
    let start = c.put_head-start.result in
    wrote [] tt (length w) w _ none_asked (omega (arith, long, c.if-out-size.false)) refl (rw long)
    (counted_written s bytes c.args.sheet.now.passed c.requires.1 c.requires.2 (c.is_there.ensures ∙ there k 3) (c.is_there-2.ensures ∙ there k 4)
    (c.is_there-3.ensures ∙ there k 5) (c.is_there-4.ensures ∙ there k 7) c.put_head-start.ensures.0 _
    (ap (λ (r : Reel). r.count) c.reel-reel.ensures.reel) (ap (λ (l : List ℕ). take (length s - length l - (start - 10)) (drop (start - 10) s)) shape_is)
    (counts_are s c.reel-reel.ensures.reel (part_is k 2 c.cut-schedule.ensures) c.counts_of-counts.ensures) shape_is c.put_head-start.ensures.1
    c.put-end.ensures.0 c.put-end.ensures.1 c.put-last.ensures.0 c.put-last.ensures.1 c.put.ensures.1)
