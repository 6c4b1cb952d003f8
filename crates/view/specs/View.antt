-- What a view gives. `s` is part 1 of a sheet, `p` part 2, `q` part 5, `t` part 3 and `n` the number of marks.
use Rattle.std.specs.Prelude.{ℕ, ◌≤◌, ◌≡◌, Bool, true, List, ◌++◌, length, drop}
use Rattle.marks.specs.Pairs.{GoodPopups}
use Rattle.index.specs.Index.{is_index}
use Rattle.index.specs.Check.{Checkable}
use Rattle.bitmap.specs.Map.{map_size, map_bytes, count_shown}

-- What the caller must ensure: the parts are those of a sheet that questions 7, 21 and 9 accept, and the map has room.
pub record Viewable (s p q t map : List ℕ) (n : ℕ) : Type 0 where
  pub whole : Checkable s p t n
  pub index_right : is_index s p t n ≡ true
  pub popups : GoodPopups q n
  pub room : map_size n ≤ length map

-- What the call gives: the map's bytes, with those after them as they were, and the count `r`.
pub record Viewed (shown : ℕ → Bool) (n : ℕ) (before after : List ℕ) (r : ℕ) : Type 0 where
  pub map_is : after ≡ map_bytes shown n ++ drop (map_size n) before
  pub count_is : r ≡ count_shown shown n
