-- `index::Span::join` meets its contract, by what its calls ensure. Assumes nothing.
use native.Mathlib.Numerals.{add-one}
use Rattle.index.specs.Check.{join_spans}
use Rattle.index.proofs.Span.join.Goals as goal

pub returns : goal.returns
unfolding join_spans
returns c = cc (add-one c.args.key)
