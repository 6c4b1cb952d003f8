-- `logs::put_record`: two places and the last 7 bytes of the mark, one behind the other. Assumes nothing.
use Rattle.logs.proofs.Lemmas.Writing.{record_put}
use Rattle.logs.proofs.put_record.Goals as goal

pub returns : goal.returns
returns c =
    let at-put = c in
    let at-put-place2 = at-put in
    let at-read-u162 = at-put-place2 in
    let at-put-place = at-read-u162 in
    let at-read-u16 = at-put-place in
    let start = at-read-u16 in
    record_put start.args.s.now _ start.args.m at-read-u16.read_u16.ensures at-read-u162.read_u16-2.ensures
    at-put-place.put_place.ensures at-put-place2.put_place-2.ensures at-put.put.ensures.1
