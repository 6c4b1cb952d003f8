-- Each of questions 4 to 9, 19, 21, 23 and 24 decides its statement, so the answer 0 is what Fitting says.
use Rattle.std.specs.Prelude.{ℕ, ◌*◌, ◌≡◌, refl, Bool, true, false, List, ◌↔◌, eqb, length}
use Rattle.std.proofs.lemmas.Bool.{false≢true}
use Rattle.std.proofs.Common.{inr, arith, eqb-true, eq-eqb}
use Rattle.lists.proofs.TestLaws.{both_iff, by_cases}
use Rattle.marks.specs.Pairs.{GoodPopups}
use Rattle.marks.proofs.PairLaws.{none_good}
use Rattle.index.specs.Index.{is_index}
use Rattle.counting.specs.Counts.{is_counts, counts_of}
use Rattle.counting.proofs.Laws.{is_counts_iff}
use Rattle.contents.specs.Contents.{Part, has, find, marks_part, schedule_part, index_part, popups_part, counts_part}
use Rattle.contents.specs.Asking.{answer, if_there}
use Rattle.contents.proofs.Laws.{none_asked, asked_iff, append_iff, find_none}
use Rattle.parts.specs.Questions.{part1_questions, is_schedule, is_choice, is_popups}
use Rattle.parts.proofs.Laws.{part1_numbered, part1_iff, popups_iff}
use Rattle.bodies.specs.Questions.{count_of, reel_of, is_sized, question7, is_chosen, question19, question21, question24, question8, question9, question23, last_questions, body_questions}
use Rattle.bodies.specs.Fitting.{Fitting}

-- where it is not there, it is empty, and each popup is 0
pub popups_good : (parts : List Part) (n : ℕ) → (has parts 5 ≡ true → is_popups (popups_part parts) n ≡ true) → GoodPopups (popups_part parts) n
popups_good parts n right =
    by_cases (has parts 5) (λ e. let h = (popups_iff (popups_part parts) n).0 (right e) in record { sized = inr h.0; each = h.1 })
    (λ e. rw (find_none parts 5 e) (none_good n))

-- a question about a part that may not be there
there_iff : (there test : Bool) → (if_there there test ≡ true) ↔ (there ≡ true → test ≡ true)
there_iff true test = ((λ h e. h), (λ h. h refl))
there_iff false test = ((λ h e. absurd (false≢true e)), (λ h. refl))

sized_iff : (there : Bool) (size wanted : ℕ) → (is_sized there size wanted ≡ true) ↔ (there ≡ true → size ≡ wanted)
unfolding is_sized
sized_iff there size wanted = (
  (λ e h. eqb-true size wanted ((there_iff there (eqb size wanted)).0 e h)),
  (λ f. (there_iff there (eqb size wanted)).1 (λ h. eq-eqb size wanted (f h))),
)

pub sizes_iff : (parts : List Part)
    → (question7 parts ≡ true) ↔ ((has parts 2 ≡ true → length (schedule_part parts) ≡ 14 * count_of parts) × (has parts 3 ≡ true → length (index_part parts) ≡ 2 * count_of parts))
unfolding question7
sizes_iff parts =
    let schedule = sized_iff (has parts 2) (length (schedule_part parts)) (14 * count_of parts) in
    let index = sized_iff (has parts 3) (length (index_part parts)) (2 * count_of parts) in (
      (λ e. let h = (both_iff (is_sized (has parts 2) (length (schedule_part parts)) (14 * count_of parts)) _).0 e in (schedule.0 h.0, index.0 h.1)),
      (λ h. (both_iff (is_sized (has parts 2) (length (schedule_part parts)) (14 * count_of parts)) _).1 (schedule.1 h.0, index.1 h.1)),
    )

pub popups_asked : (parts : List Part) → (question21 parts ≡ true) ↔ (has parts 5 ≡ true → is_popups (popups_part parts) (count_of parts) ≡ true)
unfolding question21
popups_asked parts = there_iff (has parts 5) (is_popups (popups_part parts) (count_of parts))

chosen_iff : (parts : List Part) (code : ℕ) → (is_chosen parts code ≡ true) ↔ (has parts code ≡ true → is_choice (find parts code) ≡ true)
unfolding is_chosen
chosen_iff parts code = there_iff (has parts code) (is_choice (find parts code))

-- part 6 is its counts, byte for byte
counts_asked : (parts : List Part)
    → (question23 parts ≡ true) ↔ (has parts 6 ≡ true → counts_part parts ≡ counts_of (marks_part parts) (schedule_part parts) (popups_part parts) (count_of parts))
unfolding question23
counts_asked parts =
    let body = counts_part parts in
    let there = there_iff (has parts 6) (is_counts body (marks_part parts) (schedule_part parts) (popups_part parts) (count_of parts)) in
    let same = is_counts_iff body (marks_part parts) (schedule_part parts) (popups_part parts) (count_of parts) in
    ((λ e h. same.0 (there.0 e h)), (λ f. there.1 (λ h. same.1 (f h))))

pub fitting_iff : (parts : List Part) → (answer (body_questions parts) ≡ 0) ↔ Fitting parts
unfolding body_questions last_questions question19 question24 question8 question9
fitting_iff parts = (there, back)
  where
    scheduled : Bool
    scheduled = is_schedule (reel_of parts) (schedule_part parts)

    indexed : Bool
    indexed = is_index (marks_part parts) (schedule_part parts) (index_part parts) (count_of parts)

    there : answer (body_questions parts) ≡ 0 → Fitting parts
    there e =
        let b = (append_iff (part1_questions (marks_part parts)) _ (part1_numbered (marks_part parts))).0 e in
        let c = (asked_iff 7 (question7 parts) _ (omega arith)).0 b.1 in
        let sizes = (sizes_iff parts).0 c.0 in
        let g = (asked_iff 19 (question19 parts) _ (omega arith)).0 c.1 in
        let p = (asked_iff 21 (question21 parts) _ (omega arith)).0 g.1 in
        let s = (asked_iff 24 (question24 parts) _ (omega arith)).0 p.1 in
        let d = (asked_iff 8 (question8 parts) _ (omega arith)).0 s.1 in
        let f = (asked_iff 9 (question9 parts) _ (omega arith)).0 d.1 in
        let h = (asked_iff 23 (question23 parts) _ (omega arith)).0 f.1 in
        record {
          marks = ((part1_iff (marks_part parts)).0 b.0).0;
          marks_long = ((part1_iff (marks_part parts)).0 b.0).1;
          schedule_long = sizes.0;
          index_long = sizes.1;
          edition_right = (chosen_iff parts 4).0 g.0;
          popups_right = (popups_asked parts).0 p.0;
          shape_right = (chosen_iff parts 7).0 s.0;
          schedule_right = (there_iff (has parts 2) scheduled).0 d.0;
          index_right = (there_iff (has parts 3) indexed).0 f.0;
          counts_right = (counts_asked parts).0 h.0;
        }

    back : Fitting parts → answer (body_questions parts) ≡ 0
    back f =
        (append_iff (part1_questions (marks_part parts)) _ (part1_numbered (marks_part parts))).1 (
          (part1_iff (marks_part parts)).1 (f.marks, f.marks_long),
          (asked_iff 7 (question7 parts) _ (omega arith)).1 (
            (sizes_iff parts).1 (f.schedule_long, f.index_long),
            (asked_iff 19 (question19 parts) _ (omega arith)).1 (
              (chosen_iff parts 4).1 f.edition_right,
              (asked_iff 21 (question21 parts) _ (omega arith)).1 (
                (popups_asked parts).1 f.popups_right,
                (asked_iff 24 (question24 parts) _ (omega arith)).1 (
                  (chosen_iff parts 7).1 f.shape_right,
                  (asked_iff 8 (question8 parts) _ (omega arith)).1 (
                    (there_iff (has parts 2) scheduled).1 f.schedule_right,
                    (asked_iff 9 (question9 parts) _ (omega arith)).1 (
                      (there_iff (has parts 3) indexed).1 f.index_right,
                      (asked_iff 23 (question23 parts) _ (omega arith)).1 ((counts_asked parts).1 f.counts_right, none_asked),
                    ),
                  ),
                ),
              ),
            ),
          ),
        )
