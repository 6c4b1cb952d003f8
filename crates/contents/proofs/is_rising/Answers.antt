-- `contents::is_rising` meets its contract: what is left rises from the last code passed. Assumes nothing.
use Rattle.std.proofs.Common.{refl, sym, ◌∙◌, arith}
use Rattle.contents.proofs.Lemmas.Codes.{rising_on, rising_stops, rising_past}
use Rattle.contents.proofs.is_rising.Goals as goal

pub loop-code-init : goal.loop-code-init
loop-code-init c = refl

pub loop-code-preserved : goal.loop-code-preserved
loop-code-preserved c =
    let l = c.loop-code in
    rising_on l.low c.args.codes.now l.code-index (omega arith) (omega arith) (omega arith) ∙ l.invariant

pub returns-then-code-low : goal.returns-then-code-low
returns-then-code-low c =
    let l = c.loop-code in
    let stops = rising_stops l.low c.args.codes.now l.code-index (omega arith) in
    grind (arith, stops)

pub returns : goal.returns
returns c =
    let l = c.loop-code in
    sym (rising_past l.low c.args.codes.now l.code-index (omega arith)) ∙ l.invariant
