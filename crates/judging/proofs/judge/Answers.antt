-- `judging::judge` meets its contract: the table is that of the whole index, the list is whole or no radius is above the bound, and nobody
-- clashes exactly where the judge accepts. Assumes nothing.
use mathlib.Core.Path.{refl, ◌∙◌}
use native.Mathlib.Omega.{arith}
use Rattle.clashing.proofs.Laws.Clash.{limit_small, proposable}
use Rattle.judging.proofs.Lemmas.Clear.{judge_clear}
use Rattle.judging.proofs.Lemmas.Listing.{fillable, whole_table, listed_front, listed_widest}
use Rattle.judging.proofs.judge.Goals as goal

pub fill-requires : goal.fill-requires
fill-requires c = fillable c.requires refl

pub invariant_of-proposal : goal.invariant_of-proposal
invariant_of-proposal c = record {
  passed = proposable c.requires.asked;
  limits_small = λ m l. limit_small c.requires.asked c.fill.ensures.bytes l;
}

pub is_all_clear-requires : goal.is_all_clear-requires
is_all_clear-requires c = record {
  splits = whole_table c.requires c.fill.ensures;
  small = c.pick_bound-bound.ensures;
  listed = listed_front c.in-Some.ensures.fits c.in-Some.ensures.listed;
}

pub is_all_clear-requires-in-None : goal.is_all_clear-requires-in-None
is_all_clear-requires-in-None c = record {
  splits = whole_table c.requires c.fill.ensures;
  small = omega arith;
  listed = listed_widest c.requires.asked.marks;
}

pub returns-in-Some : goal.returns-in-Some
returns-in-Some c =
    c.is_all_clear.ensures ∙ judge_clear c.requires.asked c.fill.ensures.bytes

pub returns-in-None : goal.returns-in-None
returns-in-None c =
    c.is_all_clear-in-None.ensures ∙ judge_clear c.requires.asked c.fill.ensures.bytes
