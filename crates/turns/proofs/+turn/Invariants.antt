use Rattle.turns.proofs.+turn.Given as goal

abbrev pub decreases-turn : goal.decreases-turn
decreases-turn l = l.quarters
