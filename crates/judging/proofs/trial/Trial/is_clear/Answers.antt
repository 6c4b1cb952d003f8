-- `judging::trial::Trial::is_clear` meets its contract: a mark is listed, or its radius is within the bound and it is in the index. Assumes nothing.
use Rattle.elimination.specs.Lent.{lent}
use Rattle.judging.proofs.Lemmas.Listing.{judgeable, subjected, same_shape, large_found, searchable, clear_is}
use Rattle.judging.proofs.trial.Trial.is_clear.Goals as goal
use Rattle.judging.proofs.trial.Trial.is_clear.Goals.{After-subject_of-q}
use Rattle.judging.specs.Search.{Judgeable}

judged : (h : After-subject_of-q) → (let tr = h.args.self.now in Judgeable (lent tr.proposal.reel) tr.proposal.schedule.now tr.index.now)
judged h =
    let tr = h.args.self.now in judgeable {r = lent tr.proposal.reel} tr.proposal.reel.good tr.proposal.passed tr.index_long tr.index_right

pub is_large_clear-requires : goal.is_large_clear-requires
is_large_clear-requires c =
    let j = judged (goal.at.is_large_clear-requires c).After-subject_of-q in
    let is = c.subject_of-q.ensures.0 in
    (subjected j c.requires.0 c.requires.1 is, c.requires.0.listed.marks, same_shape j c.requires.0 c.requires.1 is)

pub search-requires : goal.search-requires
search-requires c =
    searchable (judged (goal.at.search-requires c).After-subject_of-q) c.requires.0 c.requires.1 c.subject_of-q.ensures.0 c.subject_of-q.ensures.1

pub returns-then-is_large_clear : goal.returns-then-is_large_clear
returns-then-is_large_clear c =
    clear_is (judged (goal.at.returns-then-is_large_clear c).After-subject_of-q) c.requires.0 c.requires.1 c.subject_of-q.ensures.0
    (rw c.if-is_large_clear.true at c.is_large_clear.ensures) c.search.ensures

pub returns-else-is_large_clear : goal.returns-else-is_large_clear
returns-else-is_large_clear c =
    rw c.if-is_large_clear.false
    (large_found (judged (goal.at.returns-else-is_large_clear c).After-subject_of-q) c.requires.0 c.requires.1 c.subject_of-q.ensures.0 (rw c.if-is_large_clear.false at c.is_large_clear.ensures))
