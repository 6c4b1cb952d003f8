-- `bitmap::word_at` meets its contract: the bytes past `end` count as 0, as Words says. Assumes nothing.
use mathlib.Core.Path.{◌∙◌}
use native.Mathlib.Omega.{arith}
use Rattle.bitmap.proofs.Words.{word_short, word_whole}
use Rattle.bitmap.proofs.word_at.Goals as goal

pub returns-then-left-lt8 : goal.returns-then-left-lt8
returns-then-left-lt8 c = c.read.ensures.0 ∙ word_short _ _ _ (omega arith) (omega arith)

pub returns : goal.returns
returns c = c.read-2.ensures.0 ∙ word_whole _ _ c.args.end (omega arith)
