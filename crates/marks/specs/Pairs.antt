-- 02, request 9: popups and the pair value. `shape` is 1 or 2, `s` is part 1 of a sheet, `q` part 5, empty where it is not there, and `m` a mark's number.
use Rattle.std.specs.Prelude.{ℕ, ◌+◌, ◌*◌, ◌<◌, ◌≤◌, ◌≡◌, cond, List, ◌⊎◌, length}
use Rattle.numbers.specs.Little.{le_at}
use Rattle.fractions.specs.declared.Fraction.{Fraction}
use Rattle.fractions.specs.Order.{less}
use Rattle.marks.specs.Marks.{larger, touching}

-- "Part 5 gives each mark k, 4 bytes: it isn't there while 64z is below k." Without part 5 it is there from the start: k is 0.
abbrev pub popup_size : ℕ
popup_size = 4

abbrev pub popup_at : List ℕ → ℕ → ℕ
popup_at q m = le_at 4 q (popup_size * m)

-- "k²/4096"
abbrev pub popup_value : ℕ → Fraction
popup_value k = record { num = k * k; den = 4096 }

-- "The pair value becomes the larger of the touching value and both k²/4096; a popup fraction is kept only where it exceeds the touching value."
-- The larger of both is that of the larger k.
unfoldable pub pair_of : Fraction → ℕ → Fraction
pair_of f k = cond (less f (popup_value k)) (popup_value k) f

unfoldable pub pair_value : ℕ → List ℕ → List ℕ → ℕ → ℕ → Fraction
pair_value shape s q a b = pair_of (touching shape s a b) (larger (popup_at q a) (popup_at q b))

-- mark m's popup can be read, and is right
pub record GoodPopup (q : List ℕ) (m : ℕ) : Type 0 where
  pub there : (length q ≡ 0) ⊎ (popup_size * m + popup_size ≤ length q)
  pub small : popup_at q m ≤ 65536

-- what 21 says of part 5 of n marks, where it is there: "21 where part 5 isn't 4n bytes or a k exceeds 65,536"
pub record GoodPopups (q : List ℕ) (n : ℕ) : Type 0 where
  pub sized : (length q ≡ 0) ⊎ (length q ≡ popup_size * n)
  pub each : (m : ℕ) → m < n → popup_at q m ≤ 65536
