-- `logs::put_mark`: two places and the last 7 bytes of the record, one behind the other. Assumes nothing.
use Rattle.logs.proofs.Lemmas.Writing.{mark_put}
use native.Mathlib.Omega.{arith}
use Rattle.logs.proofs.put_mark.Goals as goal

pub place_bits-x-requires : goal.place_bits-x-requires
place_bits-x-requires c =
    (omega (arith, c.requires.0.long), (c.requires.0.each c.args.r c.requires.1).x.place)

pub place_bits-y-requires : goal.place_bits-y-requires
place_bits-y-requires c =
    (omega (arith, c.requires.0.long), (c.requires.0.each c.args.r c.requires.1).y.place)

pub returns : goal.returns
returns c =
    let at-put = c in
    let at-write2 = at-put in
    let at-write = at-write2 in
    let at-place-bits2 = at-write in
    let at-place-bits = at-place-bits2 in
    let start = at-place-bits in
    mark_put start.args.s.now _ start.args.r at-place-bits.place_bits-x.ensures at-place-bits2.place_bits-y.ensures
    at-write.write.ensures at-write2.write-2.ensures at-put.put.ensures.1
