-- `listing::put_first_line` meets its contract: the word, the space and the number are the line. Assumes nothing.
use mathlib.Core.Path.{◌∙◌}
use native.Mathlib.Omega.{arith}
use lib.ListN.{length-set}
use Rattle.text.specs.Text.{Wrote}
use Rattle.text.proofs.Laws.{wrote_length}
use Rattle.listing.proofs.Laws.{first_line}
use Rattle.listing.proofs.put_first_line.Goals as goal
use Rattle.listing.proofs.put_first_line.Goals.{After-put-next}

-- the word
word : (c : After-put-next) → let a = c.args in
    Wrote a.out.now c.put-next.new.out 0 a.word.now c.put-next.result
word c = record { holds = c.put-next.ensures.1; ends = c.put-next.ensures.0 }

pub put_number-requires : goal.put_number-requires
put_number-requires c =
    simp length-set (omega (arith, (word (goal.at.put_number-requires c).After-put-next).ends, wrote_length (word (goal.at.put_number-requires c).After-put-next), c.requires))

pub shape_of-out : goal.shape_of-out
shape_of-out c =
    wrote_length c.put_number.ensures ∙ simp length-set (wrote_length (word (goal.at.shape_of-out c).After-put-next))

pub returns : goal.returns
returns c = first_line _ _ (word (goal.at.returns c).After-put-next) c.put_number.ensures
