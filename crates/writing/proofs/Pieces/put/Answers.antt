-- `writing::Pieces::put`: one run of stores after another. Assumes nothing.
use Rattle.std.proofs.Common.{sym, ◌∙◌, arith, length-append}
use Rattle.lists.proofs.StoreLaws.{sets_append}
use Rattle.writing.proofs.Pieces.put.Goals as goal

pub put-middle-requires : goal.put-middle-requires
put-middle-requires c =
    omega (arith, length-append c.args.self.first.now c.args.self.second.now, c.requires)

pub put-requires : goal.put-requires
put-requires c =
    omega (arith, length-append c.args.self.first.now c.args.self.second.now, c.requires, c.put-middle.ensures.0)

pub returns : goal.returns
returns c =
    let first = c.args.self.first.now in
    let second = c.args.self.second.now in (
      omega (arith, length-append first second, c.put-middle.ensures.0, c.put.ensures.0),
      rw (c.put-middle.ensures.0, c.put-middle.ensures.1) at c.put.ensures.1 ∙ sym (sets_append c.args.out.now c.args.at first second),
    )
