-- `parts::check_mark` meets its contract: what is asked are the fields that were read. Assumes nothing.
use Rattle.parts.proofs.check_mark.Goals as goal

pub returns : goal.returns
returns c = rw (c.kind_at.ensures, c.written_radius_at.ensures) at c.check_fields.ensures
