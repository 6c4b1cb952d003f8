-- What a call refuses, and what it tells of that.
use Rattle.std.specs.Prelude.{ℕ, Result, Ok, Err}
use Rattle.contents.specs.declared.Refusal.{Refusal}
use Rattle.contents.specs.declared.Refusal.TheVariants.{Contents, Codes, Bodies, MarksSize, Kind, Radius, Sizes, Schedule, Index, Unindexed, WindowOrder, Zoom, Room, Unprintable, Packed, Place, NoSuchMark, TooManyMarks, Edition, Window, Popups, NotOurs, Counts, Shape}

-- the numbers of 01, and of 02 from 15 on
abbrev pub number : Refusal → ℕ
number Contents = 1
number Codes = 2
number Bodies = 3
number MarksSize = 4
number Kind = 5
number Radius = 6
number Sizes = 7
number Schedule = 8
number Index = 9
number Unindexed = 10
number WindowOrder = 11
number Zoom = 12
number Room = 13
number Unprintable = 14
number Packed = 15
number Place = 16
number NoSuchMark = 17
number TooManyMarks = 18
number Edition = 19
number Window = 20
number Popups = 21
number NotOurs = 22
number Counts = 23
number Shape = 24

-- "0 is success. The first 'no' gives its number."
abbrev pub told : {A : Type 0} → Result A Refusal → ℕ
told (Ok x) = 0
told (Err r) = number r
