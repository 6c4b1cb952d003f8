-- `logs::check_fields`: what is asked are the fields that were read. Assumes nothing.
use Rattle.logs.proofs.check_fields.Goals as goal

pub returns : goal.returns
returns c = rw (c.read-kind.ensures.0, c.read_u16-radius.ensures) at c.check_fields.ensures
