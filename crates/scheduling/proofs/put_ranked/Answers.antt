-- `scheduling::put_ranked` meets its contract: the rows of the sorted keys are the marks in the order of rank. Assumes nothing.
use mathlib.Core.Path.{◌∙◌}
use Rattle.scheduling.proofs.Filling.{ranks, in_rank}
use native.Mathlib.Omega.{arith}
use Rattle.scheduling.proofs.put_ranked.Goals as goal

pub put_rows-requires : goal.put_rows-requires
put_rows-requires c =
    let r = c.args.reel.now in
    record {
      long = omega (arith, c.sort.ensures.long, c.put_keys.ensures.long, c.requires.0);
      by_index = ((ranks r.edition r.marks.now r.good.few c.put_keys.ensures.keys c.sort.ensures).inside, c.requires.1);
    }

pub returns : goal.returns
returns c =
    let r = c.args.reel.now in
    record {
      long = c.put_rows.ensures.long ∙ c.sort.ensures.long ∙ c.put_keys.ensures.long;
      in_rank = in_rank (ranks r.edition r.marks.now r.good.few c.put_keys.ensures.keys c.sort.ensures) c.put_rows.ensures;
    }
