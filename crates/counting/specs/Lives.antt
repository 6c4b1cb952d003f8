-- Who lives at a zoom. `q` is part 5 of a sheet, empty where it is not there, and `m` a mark's number.
use Rattle.std.specs.Prelude.{ℕ, Bool, ◌&&◌, List, leb}
use Rattle.fractions.specs.declared.Value.{Value}
use Rattle.zoom.specs.Living.{lives_at}
use Rattle.marks.specs.Pairs.{popup_at}

-- 02, request 9: "it isn't there while 64z is below k"; without part 5 each k is 0
unfoldable pub popped_up : List ℕ → ℕ → ℕ → Bool
popped_up q k m = leb (popup_at q m) k

-- "Living also needs z² at least the mark's own popup value." `v` is its removal value.
unfoldable pub lives : Value → List ℕ → ℕ → ℕ → Bool
lives v q k m = lives_at k v && popped_up q k m
