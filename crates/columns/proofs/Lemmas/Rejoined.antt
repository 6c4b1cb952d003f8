-- A list that is read as marks, or as columns, and laid out again in the same way is the list.
use Rattle.std.specs.Prelude.{ℕ, suc, ◌+◌, ◌*◌, ◌≤◌, ◌<◌, ◌≡◌, length, drop}
use Rattle.std.proofs.Common.{sym, ap, ◌∙◌, mul-le-mul_left, arith, take-add, drop-drop}
use mathlib.Core.List.{List, ◌++◌}
use Rattle.std.proofs.Math.ListN.{take}
use Rattle.std.proofs.Math.Seq.{take_all}
use Rattle.numbers.specs.Little.{Bytes}
use Rattle.numbers.proofs.Laws.{write_back}
use Rattle.columns.specs.Columns.{mark_of, as_marks, in_marks, column, entry, as_columns, in_columns}
use Rattle.columns.proofs.Lemmas.Pieces.{pieces_same, pieces_cut}

-- a run of s and the run behind it
joined : (s : List ℕ) (a b i j : ℕ) {head tail : List ℕ} → j ≡ i + a → head ≡ take a (drop i s) → tail ≡ take b (drop j s)
    → head ++ tail ≡ take (a + b) (drop i s)
joined s a b i j e h t = rw (h, t, e, take-add a b (drop i s), drop-drop a i s)

module _ (s : List ℕ) (bytes : Bytes s) (n : ℕ) (size : length s ≡ 11 * n) where
  -- ---- marks

  mark_cut : (m : ℕ) → m < n → mark_of (in_marks s) m ≡ take 11 (drop (11 * m) s)
  mark_cut m l =
      let z : 11 * m + 0 ≡ 11 * m = omega arith in
      joined s 2 9 (11 * m + 0) (11 * m + 2) (omega arith) (write_back 2 s (11 * m + 0) bytes (omega arith))
      (joined s 2 7 (11 * m + 2) (11 * m + 4) (omega arith) (write_back 2 s (11 * m + 2) bytes (omega arith))
      (joined s 2 5 (11 * m + 4) (11 * m + 6) (omega arith) (write_back 2 s (11 * m + 4) bytes (omega arith))
      (joined s 2 3 (11 * m + 6) (11 * m + 8) (omega arith) (write_back 2 s (11 * m + 6) bytes (omega arith))
      (joined s 1 2 (11 * m + 8) (11 * m + 9) (omega arith) (write_back 1 s (11 * m + 8) bytes (omega arith))
      (write_back 2 s (11 * m + 9) bytes (omega arith))))))
      ∙ ap (λ (i : ℕ). take 11 (drop i s)) z

  pub marks_again : as_marks (in_marks s) n ≡ s
  unfolding as_marks
  marks_again =
      pieces_same (mark_of (in_marks s)) (λ m. take 11 (drop (11 * m) s)) n mark_cut ∙ pieces_cut 11 s n ∙ take_all (11 * n) s (omega arith)

  -- ---- columns

  column_cut : (w start : ℕ) → start + w * n ≤ 11 * n → column w (entry w start s) n ≡ take (w * n) (drop start s)
  column_cut w start h =
      pieces_same _ _ n
      (λ m l.
      let k : w * suc m ≤ w * n = mul-le-mul_left w l in
      let t : w * suc m ≡ w * m + w = omega arith in
      write_back w s (start + w * m) bytes (omega arith) ∙ ap (take w) (sym (drop-drop (w * m) start s)))
      ∙ pieces_cut w (drop start s) n

  pub columns_again : as_columns (in_columns s n) n ≡ s
  unfolding as_columns
  columns_again =
      joined s (2 * n) (9 * n) 0 (2 * n) (omega arith) (column_cut 2 0 (omega arith))
      (rest 2 7 9 2 4 (omega arith) (omega arith) (omega arith)
      (rest 2 5 7 4 6 (omega arith) (omega arith) (omega arith)
      (rest 2 3 5 6 8 (omega arith) (omega arith) (omega arith)
      (rest 1 2 3 8 9 (omega arith) (omega arith) (omega arith)
      (column_cut 2 (9 * n) (omega arith))))))
      ∙ take_all (2 * n + 9 * n) s (omega arith)
    where
      rest : (w b ab start next : ℕ) {tail : List ℕ} → next * n ≡ start * n + w * n → start * n + w * n ≤ 11 * n → ab * n ≡ w * n + b * n
          → tail ≡ take (b * n) (drop (next * n) s)
          → column w (entry w (start * n) s) n ++ tail ≡ take (ab * n) (drop (start * n) s)
      rest w b ab start next e h f t =
          rw f (joined s (w * n) (b * n) (start * n) (next * n) e (column_cut w (start * n) h) t)
