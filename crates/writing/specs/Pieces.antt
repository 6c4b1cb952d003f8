-- Bytes in two pieces.
use Rattle.std.specs.Prelude.{ℕ, List, [], ◌++◌, Option, Some, None}
use Rattle.writing.specs.declared.Pieces.{Pieces}

-- all of them
abbrev pub joined : Pieces → List ℕ
joined p = p.first.now ++ p.second.now

-- none where they are not there
abbrev pub joined_if : Option Pieces → List ℕ
joined_if None = []
joined_if (Some p) = joined p
