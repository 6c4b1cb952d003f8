-- `report::print` meets its contract: the first 'no' is printed, or else the schedule worked out afresh, which says what the process makes
-- of the marks. Assumes nothing.
use Rattle.std.proofs.Common.{◌≡◌, sym, arith, rules}
use Rattle.numbers.specs.Little.{Bytes}
use Rattle.contents.specs.Asking.{answer}
use Rattle.contents.proofs.Laws.{numbered_from_one}
use Rattle.report.specs.Text.{print_questions}
use Rattle.report.proofs.Lemmas.Printed.{prints_refusal, taken_accepted, reel_few, taken_printable, prints_listing}
use Rattle.report.proofs.print.Goals as goal
use Rattle.report.proofs.print.Goals.{In-Ok}

input_bytes : (c : In-Ok) → Bytes c.args.input.now
input_bytes c i = (c.type_inv.input i).fits

-- no question said 'no'
yes : (c : In-Ok) → answer (print_questions c.args.input.now) ≡ 0
yes c = sym c.in-Ok.ensures.number

pub invariant_of-sheet : goal.invariant_of-sheet
invariant_of-sheet c = record { passed = taken_accepted _ (yes (goal.at.invariant_of-sheet c).In-Ok); laid = c.in-Ok.ensures.layout }

pub schedule-requires : goal.schedule-requires
schedule-requires c =
    let p = (goal.at.schedule-requires c).In-Ok in
    let few = reel_few _ (input_bytes p) (yes p) c.reel-reel.ensures.reel in
    record {
      good = c.reel-reel.result.good;
      popped = c.reel-reel.ensures.popped;
      work_room = omega (arith, c.requires.work_room, few);
      out_room = omega (arith, c.requires.schedule_room, few);
    }

pub put_listing-requires : goal.put_listing-requires
put_listing-requires c =
    let p = (goal.at.put_listing-requires c).In-Ok in
    let is = c.reel-reel.ensures.reel in (
      taken_printable _ (input_bytes p) (yes p) is _ c.schedule.ensures,
      omega (arith, c.requires.out_room, reel_few _ (input_bytes p) (yes p) is),
    )

pub returns-in-Ok : goal.returns-in-Ok
returns-in-Ok c =
    let p = (goal.at.returns-in-Ok c).In-Ok in
    prints_listing _ (input_bytes p) (yes p) c.reel-reel.ensures.reel _ c.schedule.ensures _ _ (search rules) c.requires.out_room c.put_listing.ensures

pub returns-in-Err : goal.returns-in-Err
returns-in-Err c =
    prints_refusal _ c.in-Err.ensures.number (numbered_from_one c.in-Err.refusal) _ _ (omega (arith, c.requires.out_room)) (rw (c.from.ensures, c.number.ensures) at c.put_first_line.ensures)
