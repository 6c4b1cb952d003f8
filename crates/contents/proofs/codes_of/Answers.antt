-- `contents::codes_of` meets its contract: the codes of the entries before i stand in the array. Assumes nothing.
use mathlib.Core.Path.{◌≡◌, refl, sym, ◌∙◌}
use lib.ListN.{length, length-set}
use lib.ListN.{length-map}
use lib.Seq.{take-length}
use Rattle.contents.specs.Contents.{codes_of, count_at, split}
use Rattle.contents.proofs.Lemmas.Parts.{split_length, split_code}
use Rattle.contents.proofs.Lemmas.Filled.{fill_turn}
use native.Mathlib.Omega.{arith}
use Rattle.contents.proofs.codes_of.Goals as goal

pub loop-i-init : goal.loop-i-init
loop-i-init c = (refl, refl)

pub loop-i-preserved : goal.loop-i-preserved
loop-i-preserved c =
    let l = c.loop-i in
    let s = c.args.s.now in
    let code = c.code_at.ensures ∙ sym (split_code s l.i (omega arith)) in
    (simp length-set l.invariant.0, fill_turn 0 l.codes (codes_of (split s)) l.i _ (omega arith) (rw (length-map, split_length s) (omega arith)) code l.invariant.1)

pub returns : goal.returns
returns c =
    let l = c.loop-i in
    let s = c.args.s.now in
    let all : count_at s ≡ l.i = omega arith in
    let many : length (codes_of (split s)) ≡ l.i = rw (length-map, split_length s) all in
    (l.invariant.0, rw all (l.invariant.1 ∙ rw (← many) (take-length (codes_of (split s)))))
