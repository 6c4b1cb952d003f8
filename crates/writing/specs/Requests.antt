-- What is asked of scheduling, and what is written of it.
use Rattle.std.specs.Prelude.{ℕ, true, List, is_some, ltb, length}
use Rattle.contents.specs.Contents.{Part, contents_size}
use Rattle.jobs.specs.Steps.{kept_from, codes_from, bare_from}
use Rattle.writing.specs.declared.request.Request.{Request}
use Rattle.writing.specs.Pieces.{joined, joined_if}

-- the parts that are kept
abbrev pub kept_of : Request → List Part
kept_of r = kept_from r.edition.now (is_some r.popups) (joined_if r.popups) r.shape.now

-- what stands of the sheet before its parts 6 and 7
abbrev pub bare_of : Request → List ℕ
bare_of r = bare_from (joined r.marks) r.edition.now (is_some r.popups) (joined_if r.popups) r.shape.now r.counted

-- where its marks start
abbrev pub begin_of : Request → ℕ
begin_of r = contents_size (length (codes_from true (ltb 0 (length r.edition.now)) (is_some r.popups) r.counted (ltb 0 (length r.shape.now))))
