-- Rows of bytes, one behind the other: marks are rows of 11 bytes.
use Rattle.std.specs.Prelude.{ℕ, zero, suc, ◌+◌, ◌*◌, List, [], ◌++◌, take, drop}

-- the first n
unfoldable pub rows : (ℕ → List ℕ) → ℕ → List ℕ
rows row zero = []
rows row (suc n) = rows row n ++ row n

-- row m of a list of rows of w bytes
abbrev pub row_at : ℕ → List ℕ → ℕ → List ℕ
row_at w s m = take w (drop (w * m) s)

-- the same rows without row m: those before it, and those behind it
unfoldable pub without : ℕ → List ℕ → ℕ → List ℕ
without w s m = take (w * m) s ++ drop (w * m + w) s
