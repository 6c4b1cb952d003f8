-- The parts that are held: their codes and bodies are a caller's.
use Rattle.std.specs.Prelude.{List, map}
use Rattle.contents.specs.Contents.{Part, together}
use Rattle.bodies.specs.declared.held.Held.{Held}

-- one by one
abbrev pub parts_of : Held → List Part
parts_of h = together h.codes.now (map (λ x. x.now) h.bodies.now)
