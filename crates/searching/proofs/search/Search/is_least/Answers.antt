-- `searching::Search::is_least` meets its contract: it is not above the popup value. Assumes nothing.
use mathlib.Core.Path.{◌≡◌, refl}
use mathlib.Core.Bool.{Bool, true, false, not, cond}
use Rattle.searching.specs.Search.{is_least}
use Rattle.searching.proofs.search.Search.is_least.Goals as goal

not_cond : (b : Bool) → not b ≡ cond b false true
not_cond true = refl
not_cond false = refl

pub returns : goal.returns
unfolding is_least
returns c = rw (c.less_small.ensures, c.value.ensures, c.args.self.now.popup_is) (not_cond _)
