-- What a refusal tells. Assumes nothing.
use Rattle.std.proofs.Common.{◌<◌, lit<}
use Rattle.contents.specs.declared.Refusal.{Refusal}
use Rattle.contents.specs.declared.Refusal.TheVariants.{Contents, Codes, Bodies, MarksSize, Kind, Radius, Sizes, Schedule, Index, Unindexed, WindowOrder, Zoom, Room, Unprintable, Packed, Place, NoSuchMark, TooManyMarks, Edition, Window, Popups, NotOurs, Counts, Shape}
use Rattle.contents.specs.Refusals.{number}

pub numbered_from_one : (r : Refusal) → 0 < number r
numbered_from_one Contents = lit< tt
numbered_from_one Codes = lit< tt
numbered_from_one Bodies = lit< tt
numbered_from_one MarksSize = lit< tt
numbered_from_one Kind = lit< tt
numbered_from_one Radius = lit< tt
numbered_from_one Sizes = lit< tt
numbered_from_one Schedule = lit< tt
numbered_from_one Index = lit< tt
numbered_from_one Unindexed = lit< tt
numbered_from_one WindowOrder = lit< tt
numbered_from_one Zoom = lit< tt
numbered_from_one Room = lit< tt
numbered_from_one Unprintable = lit< tt
numbered_from_one Packed = lit< tt
numbered_from_one Place = lit< tt
numbered_from_one NoSuchMark = lit< tt
numbered_from_one TooManyMarks = lit< tt
numbered_from_one Edition = lit< tt
numbered_from_one Window = lit< tt
numbered_from_one Popups = lit< tt
numbered_from_one NotOurs = lit< tt
numbered_from_one Counts = lit< tt
numbered_from_one Shape = lit< tt
