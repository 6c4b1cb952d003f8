use Rattle.judging.proofs.trial.Trial.+search.Given as goal

abbrev pub decreases-search : goal.decreases-search
decreases-search l = l.size
