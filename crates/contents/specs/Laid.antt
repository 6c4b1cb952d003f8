-- What is known of contents that are right: questions 1 to 3 as statements, for the proofs of whoever goes on with the sheet.
use Rattle.std.specs.Prelude.{ℕ, ◌<◌, ◌≤◌, ◌≡◌, true, List, length}
use Rattle.contents.specs.Contents.{codes_of, count_at, offset_at, start_at, contents_size, split}
use Rattle.contents.specs.Questions.{top_code, codes_right}

-- 1: the contents are whole.
pub record Whole (s : List ℕ) : Type 0 where
  pub some : 1 ≤ count_at s
  pub few : count_at s ≤ top_code
  pub inside : contents_size (count_at s) ≤ length s

-- 1 to 3: the contents are right.
pub record Laid (s : List ℕ) : Type 0 where
  pub whole : Whole s
  pub codes : codes_right (codes_of (split s)) ≡ true
  pub offsets : (i : ℕ) → i < count_at s → offset_at s i ≡ start_at s i
  pub ends : start_at s (count_at s) ≡ length s
