-- Parts that pass questions 2 and 4 to 9 are small: no body has more than 14 bytes a mark.
use Rattle.std.specs.Prelude.{ℕ, zero, suc, ◌*◌, ◌<◌, ◌≤◌, ◌≡◌, true, List, [], length, get_or}
use Rattle.std.proofs.Common.{ap, ◌∙◌, arith}
use Rattle.std.proofs.lemmas.List.{length-map}
use Rattle.lists.proofs.TestLaws.{by_cases}
use Rattle.counting.proofs.Laws.{counts_length}
use Rattle.contents.specs.Contents.{Part, codes_of, bodies_of, has, find, marks_part, schedule_part, edition_part, popups_part, shape_part, Writable}
use Rattle.contents.specs.Questions.{top_code, codes_right}
use Rattle.contents.proofs.Laws.{codes_few, codes_positive, codes_most, find_none, find_own, chain_most, join_length}
use Rattle.bodies.specs.Questions.{count_of}
use Rattle.bodies.specs.Fitting.{Fitting}
use Rattle.parts.proofs.Laws.{choice_long, popups_iff}

-- the most bytes of a body
abbrev most : ℕ
most = 14 * 4096

module _ (parts : List Part) (fits : Fitting parts) where
  -- of a part that may not be there
  if_there_lem : (code size : ℕ) → size ≤ most → (has parts code ≡ true → length (find parts code) ≡ size) → length (find parts code) ≤ most
  if_there_lem code size small long = by_cases (has parts code) (λ e. omega (arith, long e)) (λ e. rw (find_none parts code e) (omega arith))

  part_small : (code : ℕ) → 0 < code → code ≤ top_code → length (find parts code) ≤ most
  part_small zero some few = absurd (omega arith)
  part_small (suc zero) some few = omega (arith, fits.marks.few, fits.marks_long)
  part_small (suc (suc zero)) some few = if_there_lem 2 (14 * count_of parts) (omega (arith, fits.marks.few)) fits.schedule_long
  part_small (suc (suc (suc zero))) some few = if_there_lem 3 (2 * count_of parts) (omega (arith, fits.marks.few)) fits.index_long
  part_small (suc (suc (suc (suc zero)))) some few = if_there_lem 4 1 (omega arith) (λ e. choice_long (edition_part parts) (fits.edition_right e))
  part_small (suc (suc (suc (suc (suc zero))))) some few =
      if_there_lem 5 (4 * count_of parts) (omega (arith, fits.marks.few)) (λ e. ((popups_iff (popups_part parts) (count_of parts)).0 (fits.popups_right e)).0)
  part_small (suc (suc (suc (suc (suc (suc zero)))))) some few =
      if_there_lem 6 170 (omega arith) (λ e. ap length (fits.counts_right e) ∙ counts_length (marks_part parts) (schedule_part parts) (popups_part parts) (count_of parts))
  part_small (suc (suc (suc (suc (suc (suc (suc zero))))))) some few = if_there_lem 7 1 (omega arith) (λ e. choice_long (shape_part parts) (fits.shape_right e))
  part_small (suc (suc (suc (suc (suc (suc (suc (suc code)))))))) some few = absurd (omega arith)

  pub fitting_writable : codes_right (codes_of parts) ≡ true → Writable parts
  fitting_writable right =
      let few : length parts ≤ top_code = rw length-map at (codes_few (codes_of parts) right) in
      let size = chain_most most (bodies_of parts) (each right) in
      let many : length (bodies_of parts) ≡ length parts = length-map parts _ in
      record {
        count_fits = omega arith;
        codes_fit = λ i. omega (arith, codes_most (codes_of parts) right i);
        size_fits = omega (arith, join_length parts, size, many);
      }
    where
      each : codes_right (codes_of parts) ≡ true → (i : ℕ) → i < length (bodies_of parts) → length (get_or (bodies_of parts) i []) ≤ most
      each right i l =
          let k : i < length parts = rw length-map at l in
          let c : i < length (codes_of parts) = rw length-map k in
          rw (← find_own parts right i k)
          (part_small (get_or (codes_of parts) i 0) (codes_positive (codes_of parts) right i c) (codes_most (codes_of parts) right i))
