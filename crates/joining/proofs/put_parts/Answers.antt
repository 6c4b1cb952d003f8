-- `joining::put_parts` meets its contract: the contents end where the first body starts. Assumes nothing.
use mathlib.Core.Path.{◌≡◌, sym, ◌∙◌}
use mathlib.Core.List.{map}
use lib.ListN.{length, length-map}
use Rattle.contents.specs.Contents.{sizes_of}
use Rattle.joining.specs.Writing.{together_size, parts_sets, size_below}
use native.Mathlib.Omega.{arith}
use Rattle.joining.proofs.put_parts.Goals as goal

pub put_contents-start-requires : goal.put_contents-start-requires
put_contents-start-requires c =
    let codes = c.args.codes.now in
    let bodies = map (λ x. x.now) c.args.bodies.now in
    let e = c.as_slice.ensures.value ∙ c.sizes_of-sizes.ensures in
    let size = together_size codes bodies (rw length-map c.requires.codes_len.0) in
    let many : length (sizes_of bodies) ≡ length codes = rw (length-map, length-map) (sym c.requires.codes_len.0) in
    record { codes_len_bound = (omega arith, rw e many, omega arith); by_index = λ i. rw e (size_below bodies 4294967296 (omega arith) i) }

pub put_bodies-requires : goal.put_bodies-requires
put_bodies-requires c =
    let put = c.put_contents-start in
    omega (arith, together_size c.args.codes.now (map (λ x. x.now) c.args.bodies.now) (rw length-map c.requires.codes_len.0), put.ensures.0, put.auto.out)

pub returns : goal.returns
returns c =
    let codes = c.args.codes.now in
    let bodies = map (λ x. x.now) c.args.bodies.now in
    let same : length codes ≡ length bodies = rw length-map c.requires.codes_len.0 in
    let e = c.as_slice.ensures.value ∙ c.sizes_of-sizes.ensures in
    let put = c.put_contents-start.ensures in
    let wrote = c.put_bodies.ensures in
    (wrote.0 ∙ rw put.0 (sym (together_size codes bodies same)), parts_sets codes bodies same c.args.out.now (put.0, rw e at put.1) wrote.1)
