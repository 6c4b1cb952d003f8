-- `index::beats` meets its contract: the values are those that the records name. Assumes nothing.
use Rattle.index.specs.Index.{beats}
use Rattle.index.proofs.beats.Goals as goal

pub returns : goal.returns
unfolding beats
returns c = rw (← c.value_at-v.ensures, ← c.value_at-w.ensures) c.outlasts.ensures
