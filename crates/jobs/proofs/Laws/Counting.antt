-- Counting: the counts of every accepted sheet with part 6 are what Counted claims, and so is what counting writes. Assumes nothing.
use Prim.Native.Nat.{ℕ, suc, ◌+◌, ◌*◌, ◌^◌, ◌<◌, ◌≤◌}
use Rattle.std.specs.Prelude.{◌≡◌, refl, true, false, ◌&&◌, List, [], ◌∷◌, ◌++◌, leb, eqb, ℤ, pos, negsuc, nat_abs, length, take, drop}
use Rattle.std.proofs.Common.{sym, ap, ◌∙◌, arith, le-leb}
use Rattle.std.proofs.Math.Bool.{Bool}
use Rattle.std.proofs.Math.IntN.{+ℤ_invr}
use Rattle.std.specs.Int.Signed.{le_z, mag}
use Rattle.lists.specs.Stores.{over}
use Rattle.lists.specs.Tests.{how_many}
use Rattle.lists.proofs.TestLaws.{many_same}
use Rattle.numbers.specs.Little.{Bytes}
use Rattle.marks.specs.Marks.{x_at, y_at, apart}
use Rattle.marks.proofs.Laws.{place_fits, distance_most}
use Rattle.elimination.specs.Records.{value_at}
use Rattle.counting.specs.Lives.{lives}
use Rattle.counting.specs.Counts.{stops, groups, lives_at_stop, in_group, living_count}
use Rattle.counting.proofs.Laws.{count_reads, count_falls}
use Rattle.turns.proofs.Laws.{turned_0}
use Rattle.contents.specs.Contents.{Part, codes_of, has, find, split, join, with_part, marks_part, schedule_part, popups_part}
use Rattle.contents.specs.Asking.{Question, ◌asks◌, answer}
use Rattle.contents.specs.Questions.{codes_right}
use Rattle.contents.proofs.Laws.{Numbered, numbered_append, none_asked, asked_iff, append_iff, find_none, find_bytes, split_join, with_found, with_there, with_other_found, with_other_there, with_right, with_twice, with_own}
use Rattle.bodies.specs.Fitting.{Fitting}
use Rattle.bodies.proofs.Laws.{fitting_writable}
use Rattle.sheet.specs.Questions.{sheet_count, sheet_shape, check_questions, check}
use Rattle.sheet.proofs.Laws.{check_numbered, accepted_iff, join_accepted, sheet_again}
use Rattle.bitmap.specs.Map.{map_bytes, is_set}
use Rattle.bitmap.specs.Facts.{Shows}
use Rattle.bitmap.proofs.Laws.{map_shows, shown_set}
use Rattle.zoom.specs.declared.Zoom.TheVariants.{Stop}
use Rattle.zoom.specs.Zoom.{scale_of, stop_scale, scale}
use Rattle.reaching.specs.Questions.{question11, view_questions}
use Rattle.reaching.specs.Shown.{place_at, reaches, shown}
use Rattle.reaching.proofs.Laws.{reaches_iff}
use Rattle.jobs.specs.declared.Answer.{Answer}
use Rattle.jobs.specs.Jobs.{outcome, wrote, after, counts_in, with_own_counts, count_checks, count_job, shown_in, view_job}
use Rattle.jobs.specs.Answers.{Gives}
use Rattle.jobs.specs.Counted.{count_in, everything, CountsRight, MeetsCounting}
use Rattle.jobs.proofs.Laws.Outcomes.{outcome_yes, all_yes, value_is, kept_bytes}

-- ---- a view of everything reaches every mark

in_range : (z : ℤ) → mag z < 32768 → (le_z (negsuc 32767) z ≡ true) × (le_z z (pos 32767) ≡ true)
in_range (pos a) h = (refl, le-leb a 32767 (omega arith))
in_range (negsuc a) h = (le-leb a 32767 (omega arith), refl)

apart_self : (z : ℤ) → apart z z ≡ 0
apart_self z = ap nat_abs (+ℤ_invr z)

all_reached : (shape : ℕ) (s : List ℕ) → Bytes s → (k m : ℕ) → reaches shape s k everything m ≡ true
unfolding question11
all_reached shape s b k m =
    let x = in_range (x_at s m) (place_fits s (11 * m) b).sfits in
    let y = in_range (y_at s m) (place_fits s (11 * m + 2) b).sfits in
    (reaches_iff shape s k everything m refl).1
    (record {
      x = x_at s m;
      y = y_at s m;
      from_x0 = x.0;
      to_x1 = x.1;
      from_y0 = y.0;
      to_y1 = y.1;
      near = rw (turned_0 (place_at s m), apart_self (x_at s m), apart_self (y_at s m)) (omega (arith, distance_most shape 0 0));
    })

stop_scale_lem : (stop : ℕ) → stop < 17 → scale (scale_of (Stop stop)) ≡ 2 ^ stop
unfolding scale_of stop_scale
stop_scale_lem stop h = rw (le-leb stop 16 (omega arith))

-- ---- every accepted sheet with part 6

module _ (s : List ℕ) (bytes : Bytes s) (ok : check s ≡ 0) (there : has (split s) 6 ≡ true) where
  abbrev marks : List ℕ
  marks = marks_part (split s)

  abbrev schedule : List ℕ
  schedule = schedule_part (split s)

  abbrev popups : List ℕ
  popups = popups_part (split s)

  fits : Fitting (split s)
  fits = ((accepted_iff s).0 ok).fitting

  counts_are : (stop group : ℕ) → stop < stops → group < groups → count_in s stop group ≡ living_count marks schedule popups (sheet_count s) stop group
  counts_are stop group h l =
      rw (fits.counts_right there) (count_reads marks schedule popups (sheet_count s) stop group (omega (arith, fits.marks.few)) h l)

  counts_fall : has (split s) 5 ≡ false → (stop group : ℕ) → suc stop < stops → group < groups → count_in s (suc stop) group ≤ count_in s stop group
  counts_fall none stop group h l =
      rw (counts_are (suc stop) group h l, counts_are stop group (omega arith) l, find_none (split s) 5 none) (count_falls marks schedule (sheet_count s) stop group)

  counts_viewed : (stop group : ℕ) → stop < stops → group < groups → (buffer : List ℕ) → answer (view_questions s everything (Stop stop) (length buffer)) ≡ 0
      → count_in s stop group
      ≡ how_many (λ m. in_group marks group m && is_set (after (view_job s everything (Stop stop) (length buffer)) buffer) m) (sheet_count s)
  unfolding view_job outcome after over living_count lives_at_stop shown_in shown
  counts_viewed stop group h l buffer taken =
      counts_are stop group h l ∙ many_same _ _ (sheet_count s) same
    where
      show : ℕ → Bool
      show = shown_in s everything (Stop stop)

      left : List ℕ
      left = after (view_job s everything (Stop stop) (length buffer)) buffer

      left_is : left ≡ map_bytes show (sheet_count s) ++ drop (length (map_bytes show (sheet_count s))) buffer
      left_is = rw taken

      shows : Shows show (sheet_count s) left
      shows = rw left_is (map_shows show (sheet_count s) _)

      and_yes : (b : Bool) → (b && true) ≡ b
      and_yes true = refl
      and_yes false = refl

      same : (m : ℕ) → m < sheet_count s → (in_group marks group m && lives_at_stop schedule popups stop m) ≡ (in_group marks group m && is_set left m)
      same m k =
          ap (λ (b : Bool). in_group marks group m && b)
          (sym (shown_set shows m k ∙ rw (stop_scale_lem stop h, all_reached (sheet_shape s) marks (find_bytes s bytes 1) (2 ^ stop) m) (and_yes (lives (value_at schedule m) popups (2 ^ stop) m))))

  pub counts_right : CountsRight s
  counts_right = record { counts = counts_are; falls = counts_fall; viewed = counts_viewed }

-- ---- counting

pub count_numbered : (s : List ℕ) → Numbered (count_checks s)
unfolding count_checks
count_numbered s = numbered_append (check_questions s) _ (check_numbered s) (omega arith, tt)

pub count_asked : (s : List ℕ) → check s ≡ 0 → has (split s) 2 ≡ true → answer (count_checks s) ≡ 0
unfolding count_checks check
count_asked s ok two = (append_iff (check_questions s) _ (check_numbered s)).1 (ok, (asked_iff 10 (has (split s) 2) [] (omega arith)).1 (two, none_asked))

asked_count : (s : List ℕ) → answer (count_checks s) ≡ 0 → (check s ≡ 0) × (has (split s) 2 ≡ true)
unfolding count_checks check
asked_count s e =
    let a = (append_iff (check_questions s) _ (check_numbered s)).0 e in
    (a.0, ((asked_iff 10 (has (split s) 2) [] (omega arith)).0 a.1).0)

module _ (s : List ℕ) (ok : check s ≡ 0) (two : has (split s) 2 ≡ true) where
  abbrev counts : List ℕ
  counts = counts_in (split s)

  abbrev parts : List Part
  parts = with_part 6 counts (split s)

  own : Fitting (split s)
  own = ((accepted_iff s).0 ok).fitting

  found : (code : ℕ) → eqb 6 code ≡ false → find parts code ≡ find (split s) code
  found = with_other_found 6 counts (split s)

  named : (code : ℕ) → eqb 6 code ≡ false → has parts code ≡ has (split s) code
  named = with_other_there 6 counts (split s)

  counted_right : codes_right (codes_of parts) ≡ true
  counted_right = with_right 6 counts (split s) (omega arith) (omega arith) two ((accepted_iff s).0 ok).laid.codes

  -- the same parts fit one another with their counts
  counted_fits : Fitting parts
  counted_fits =
      record {
        marks = rw (found 1 refl) own.marks;
        marks_long = rw (found 1 refl) own.marks_long;
        schedule_long = λ h. rw (found 1 refl, found 2 refl) (own.schedule_long (rw (named 2 refl) at h));
        index_long = λ h. rw (found 1 refl, found 3 refl) (own.index_long (rw (named 3 refl) at h));
        edition_right = λ h. rw (found 4 refl) (own.edition_right (rw (named 4 refl) at h));
        popups_right = λ h. rw (found 1 refl, found 5 refl) (own.popups_right (rw (named 5 refl) at h));
        shape_right = λ h. rw (found 7 refl) (own.shape_right (rw (named 7 refl) at h));
        schedule_right = λ h. rw (found 1 refl, found 2 refl, found 4 refl, found 5 refl, found 7 refl) (own.schedule_right (rw (named 2 refl) at h));
        index_right = λ h. rw (found 1 refl, found 2 refl, found 3 refl) (own.index_right (rw (named 3 refl) at h));
        counts_right = λ h. rw (found 1 refl, found 2 refl, found 5 refl) (with_found 6 counts (split s));
      }

  pub counted_accepted : check (with_own_counts s) ≡ 0
  counted_accepted = join_accepted parts counted_right counted_fits

  pub counted_parts : split (with_own_counts s) ≡ parts
  counted_parts = split_join parts (fitting_writable parts counted_fits counted_right)

  counts_again : with_own_counts (with_own_counts s) ≡ with_own_counts s
  counts_again =
      let same : counts_in parts ≡ counts = rw (found 1 refl, found 2 refl, found 5 refl) in
      rw (counted_parts, same, with_twice 6 counts (split s))

  -- a sheet that has part 6 has these counts
  pub counted_same : Bytes s → has (split s) 6 ≡ true → with_own_counts s ≡ s
  counted_same bytes there =
      ap (λ (c : List ℕ). join (with_part 6 c (split s))) (sym (own.counts_right there))
      ∙ ap join (with_own 6 (split s) ((accepted_iff s).0 ok).laid.codes there) ∙ sheet_again s bytes ok

-- ---- over the job

abbrev pub count_questions : List ℕ → ℕ → List Question
count_questions s room = count_checks s ++ ((13 asks leb (length (with_own_counts s)) room) ∷ [])

pub count_wrote : (s : List ℕ) (room : ℕ) → answer (count_checks s) ≡ 0 → length (with_own_counts s) ≤ room → count_job s room ≡ wrote (with_own_counts s)
unfolding count_job
count_wrote s room e fits =
    outcome_yes (count_questions s room) (length (with_own_counts s)) (with_own_counts s)
    ((append_iff (count_checks s) _ (count_numbered s)).1 (e, (asked_iff 13 (leb (length (with_own_counts s)) room) [] (omega arith)).1 (le-leb _ room fits, none_asked)))

pub count_meets : (s : List ℕ) → Bytes s → Bytes (with_own_counts s) → (before : List ℕ) {r : Answer} {out : List ℕ}
    → Gives (count_job s (length before)) before r out → MeetsCounting s r out
unfolding count_job
count_meets s bytes written-bytes before {r} {out} gives =
    record {
      accepted = λ z. rw (written z) (counted_accepted s (yes z).0 (yes z).1);
      there = λ z. rw (written z, counted_parts s (yes z).0 (yes z).1) (with_there 6 (counts_in (split s)) (split s));
      others = λ z code e. rw (written z, counted_parts s (yes z).0 (yes z).1) (with_other_found 6 (counts_in (split s)) (split s) code e);
      right = λ z. rw (written z) (right z);
      same = λ z there. rw (written z) (counted_same s (yes z).0 (yes z).1 bytes there);
      again = λ z room fits. rw (written z) (again z room (rw (value z) at fits));
    }
  where
    questions : List Question
    questions = count_questions s (length before)

    all : r.number ≡ 0 → answer questions ≡ 0
    all z = all_yes questions (length (with_own_counts s)) (with_own_counts s) before gives z

    yes : r.number ≡ 0 → (check s ≡ 0) × (has (split s) 2 ≡ true)
    yes z = asked_count s ((append_iff (count_checks s) _ (count_numbered s)).0 (all z)).0

    written : r.number ≡ 0 → take r.value out ≡ with_own_counts s
    written z = kept_bytes questions (with_own_counts s) before gives z

    value : r.number ≡ 0 → r.value ≡ length (with_own_counts s)
    value z = value_is questions (length (with_own_counts s)) (with_own_counts s) before gives z

    right : r.number ≡ 0 → CountsRight (with_own_counts s)
    right z =
        counts_right (with_own_counts s) written-bytes (counted_accepted s (yes z).0 (yes z).1)
        (rw (counted_parts s (yes z).0 (yes z).1) (with_there 6 (counts_in (split s)) (split s)))

    again : r.number ≡ 0 → (room : ℕ) → length (with_own_counts s) ≤ room → count_job (with_own_counts s) room ≡ wrote (with_own_counts s)
    again z room fits =
        let twice = counts_again s (yes z).0 (yes z).1 in
        let two : has (split (with_own_counts s)) 2 ≡ true = rw (counted_parts s (yes z).0 (yes z).1, named s (yes z).0 (yes z).1 2 refl) (yes z).1 in
        count_wrote (with_own_counts s) room (count_asked (with_own_counts s) (counted_accepted s (yes z).0 (yes z).1) two) (rw twice fits) ∙ ap wrote twice
