-- `bodies::held::Held::has_sizes` meets its contract: the parts are found by their codes. Assumes nothing.
use Rattle.bodies.specs.Questions.{question7}
use Rattle.bodies.proofs.held.Held.has_sizes.Goals as goal

pub returns-then-is_sized : goal.returns-then-is_sized
unfolding question7
returns-then-is_sized c =
    rw (← c.args.self.now.marked.counted, ← c.is_sized.ensures, c.if-is_sized.true) c.is_sized-then-is_sized.ensures

pub returns-else-is_sized : goal.returns-else-is_sized
unfolding question7
returns-else-is_sized c =
    rw (← c.args.self.now.marked.counted, ← c.is_sized.ensures, c.if-is_sized.false)
