-- `joining::put_contents` meets its contract: what is left of the entries makes the whole, whatever was written so far. Assumes nothing.
use Rattle.std.proofs.Common.{◌≡◌, ℕ, ◌+◌, ◌++◌, ◌∷◌, [], refl, ◌∙◌, length, drop, drop_of_length-le, length-append, arith}
use denote.Ref.{Bor}
use Rattle.std.proofs.lemmas.Slice.Zip.{zip_turn, zip_end}
use Rattle.contents.specs.Contents.{contents_size, entries}
use Rattle.joining.specs.Writing.{entries_turn, contents_sets}
use Rattle.joining.proofs.put_contents.Goals as goal

pub loop-code-preserved : goal.loop-code-preserved
loop-code-preserved c =
    let a = c.args in
    let l = c.loop-code in
    let i = length l.yielded in
    let p : Bor ℕ × Bor ℕ = (c.in-Some.field-0-0, c.in-Some.field-0-1) in
    let (h, k, code, size) = zip_turn a.codes.now a.sizes.now l.yielded c.into_iter-code-iterator.result l.code-iterator c.next.new.self c.next.result
    (cc) (cc) l.yielded_by p c.in-Some.is c.next.ensures.steps in
    let more : length (l.yielded ++ p ∷ []) ≡ i + 1 = length-append l.yielded (p ∷ []) in
    let next : l.at + 10 ≡ contents_size (i + 1) = omega arith in
    rw (more, next, size 0) (
      refl,
      c.put_entry.auto.out ∙ l.invariant.1,
      omega (arith, c.requires.by_index i),
      entries_turn l.out i l.offset a.codes.now a.sizes.now h k (rw (l.invariant.0, code 0, size 0) at c.put_entry.ensures)
          ∙ rw l.invariant.0 at l.invariant.3,
    )

pub returns : goal.returns
unfolding entries
returns c =
    let a = c.args in
    let l = c.loop-code in
    let i = length l.yielded in
    let e = zip_end a.codes.now a.sizes.now l.yielded c.into_iter-code-iterator.result l.code-iterator c.next.new.self c.next.result
    (cc) (cc) l.yielded_by c.in-None.is c.next.ensures.steps in
    let none : drop i a.codes.now ≡ [] = drop_of_length-le a.codes.now (omega arith) in
    (refl, rw none at l.invariant.3 ∙ contents_sets a.out.now a.codes.now a.sizes.now c.write.ensures)
