-- `viewing::view_at`: question 13, and then what the search shows. Assumes nothing.
use Prim.Native.Nat.{ℕ, ◌/◌}
use mathlib.Core.Path.{◌≡◌, refl, ap, ◌∙◌}
use mathlib.Core.List.{List}
use lib.ListN.{length}
use native.Mathlib.Omega.{arith}
use Rattle.std.specs.Int.{div_ceil}
use Rattle.contents.specs.Contents.{find, split, marks_part}
use Rattle.contents.specs.Places.{place_of, cut_of}
use Rattle.contents.proofs.Laws.{layout_part}
use Rattle.sheet.specs.Questions.{sheet_count}
use Rattle.sheet.proofs.Laws.{accepted_iff}
use Rattle.bitmap.specs.Map.{map_size}
use Rattle.jobs.proofs.Laws.Viewing.{view_no_room, view_written, viewable}
use Rattle.viewing.proofs.Lemmas.{rounded_up}
use Rattle.viewing.proofs.view_at.Goals as goal
use Rattle.viewing.proofs.view_at.Goals.{Start}

-- what is cut by the layout is the part
is : (s : Start) (code : ℕ) {l : List ℕ} → l ≡ cut_of s.args.sheet.now.bytes.now (place_of s.args.sheet.now.layout code) → l ≡ find (split s.args.sheet.now.bytes.now) code
is s code e = e ∙ rw s.args.sheet.now.laid (layout_part s.args.sheet.now.bytes.now ((accepted_iff _).0 s.args.sheet.now.passed).laid code)

-- the room that is asked for is a bit for each mark
room_is : (s : List ℕ) {marks : List ℕ} {room : ℕ} → room ≡ div_ceil (length marks / 11) 8 → marks ≡ marks_part (split s) → room ≡ map_size (sheet_count s)
room_is s e f = e ∙ (rounded_up _ ∙ ap (λ (l : List ℕ). map_size (length l / 11)) f)

pub returns-then-map-div_ceil : goal.returns-then-map-div_ceil
returns-then-map-div_ceil c =
    let s = (goal.at.returns-then-map-div_ceil c).Start in
    view_no_room _ _ _ _ (omega (arith, c.if-map-div_ceil.true, room_is c.args.sheet.now.bytes.now c.div_ceil.ensures (is s 1 c.cut-marks.ensures))) refl

pub show-requires : goal.show-requires
show-requires c =
    let s = (goal.at.show-requires c).Start in
    let marks_are = is s 1 c.cut-marks.ensures in
    record {
      viewable = rw (marks_are, is s 2 c.cut-schedule.ensures, is s 3 c.cut-index.ensures, is s 5 c.cut-popups.ensures) (
        viewable c.args.sheet.now.bytes.now _ c.args.sheet.now.passed c.requires.sheet_value.0
            (omega (arith, c.if-map-div_ceil.false, room_is c.args.sheet.now.bytes.now c.div_ceil.ensures marks_are)),
        c.requires.sheet_value.1,
      );
      window_value = (c.requires.shape_value.1, c.requires.shape_value.2);
    }

pub returns : goal.returns
returns c =
    let s = (goal.at.returns c).Start in
    let marks_are = is s 1 c.cut-marks.ensures in
    view_written _ _ _ _ (omega (arith, c.if-map-div_ceil.false, room_is c.args.sheet.now.bytes.now c.div_ceil.ensures marks_are))
    (rw (c.requires.shape_value.0, marks_are, is s 2 c.cut-schedule.ensures, is s 5 c.cut-popups.ensures) at c.show.ensures) refl
