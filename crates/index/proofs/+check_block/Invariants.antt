use Rattle.index.proofs.+check_block.Given as goal

abbrev pub decreases-check_block : goal.decreases-check_block
decreases-check_block l = l.size
