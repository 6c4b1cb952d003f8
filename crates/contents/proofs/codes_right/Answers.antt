-- `contents::codes_right` meets its contract: the tests in their order. Assumes nothing.
use Rattle.std.proofs.Common.{◌≡◌, ◌&&◌}
use Rattle.contents.specs.Contents.{names}
use Rattle.contents.specs.Questions.{rising}
use Rattle.contents.proofs.Lemmas.Codes.{by_tests}
use Rattle.contents.proofs.codes_right.Goals as goal
use Rattle.contents.proofs.codes_right.Goals.{then-is_rising, else-is_rising}

pub returns-then-names-2 : goal.returns-then-names-2
returns-then-names-2 c =
    let v : c.if-is_rising.value ≡ rising 0 c.args.codes.now && names c.args.codes.now 1 = elim c.if-is_rising.branch [ then-is_rising w ↦ cc | else-is_rising w ↦ cc ] in
    rw (by_tests c.args.codes.now, ← v, c.if-names.true, ← c.names-then-names.ensures, c.if-names-2.true)

pub returns-then-not-names : goal.returns-then-not-names
returns-then-not-names c =
    let v : c.if-is_rising.value ≡ rising 0 c.args.codes.now && names c.args.codes.now 1 = elim c.if-is_rising.branch [ then-is_rising w ↦ cc | else-is_rising w ↦ cc ] in
    rw (by_tests c.args.codes.now, ← v, c.if-names.true, ← c.names-then-names.ensures, c.if-names-2.false, ← c.names-else-names-2.ensures, c.if-not-names.true, c.names-then-not-names.ensures)

pub returns-else-not-names : goal.returns-else-not-names
returns-else-not-names c =
    let v : c.if-is_rising.value ≡ rising 0 c.args.codes.now && names c.args.codes.now 1 = elim c.if-is_rising.branch [ then-is_rising w ↦ cc | else-is_rising w ↦ cc ] in
    rw (by_tests c.args.codes.now, ← v, c.if-names.true, ← c.names-then-names.ensures, c.if-names-2.false, ← c.names-else-names-2.ensures, c.if-not-names.false)

pub returns-else-names : goal.returns-else-names
returns-else-names c =
    let v : c.if-is_rising.value ≡ rising 0 c.args.codes.now && names c.args.codes.now 1 = elim c.if-is_rising.branch [ then-is_rising w ↦ cc | else-is_rising w ↦ cc ] in
    rw (by_tests c.args.codes.now, ← v, c.if-names.false)
