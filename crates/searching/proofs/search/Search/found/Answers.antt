-- `searching::Search::found` meets its contract: the leader is what was found, or nobody is. Assumes nothing.
use mathlib.Core.Path.{refl}
use native.Mathlib.Omega.{arith}
use Rattle.searching.proofs.Steps.{searched_nobody, searched}
use Rattle.searching.proofs.search.Search.found.Goals as goal

pub returns-then-best-eq0 : goal.returns-then-best-eq0
returns-then-best-eq0 c = record { found = λ shape x. searched_nobody c.if-best-eq0.true x }

pub returns : goal.returns
returns c =
    record {
      found = λ shape x.
          searched (record { num = c.args.best.num; den = c.args.best.den; eliminator = c.read_u16-number.result }) refl c.read_u16-number.ensures (omega arith) c.requires
          (omega (arith, c.if-best-eq0.false)) x;
    }
