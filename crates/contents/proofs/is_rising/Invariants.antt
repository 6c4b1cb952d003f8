-- `contents::is_rising` meets its contract: what is left rises from the last code passed. Assumes nothing.
use mathlib.Core.Path.{◌≡◌}
use lib.ListN.{drop}
use Rattle.contents.specs.Questions.{rising}
use Rattle.contents.proofs.is_rising.Given as goal

abbrev pub invariant-loop-code : goal.invariant-loop-code
invariant-loop-code l = rising l.low (drop l.code-index l.codes) ≡ rising 0 l.codes
