-- 02, request 5: "Add a mark, given as its six fields, at the end, or take out mark m, whereupon higher numbers drop by one." `s` is the
-- marks' bytes.
use Rattle.std.specs.Prelude.{ℕ, List, ◌++◌}
use Rattle.marks.specs.declared.Mark.{Mark}
use Rattle.numbers.specs.Little.{le_bytes}
use Rattle.marks.specs.Marks.{mark_size, mark_bytes}
use Rattle.marks.specs.Pairs.{popup_size}
use Rattle.rows.specs.Rows.{without}

-- "Add a mark .. at the end"
unfoldable pub added : List ℕ → Mark → List ℕ
added s mark = s ++ mark_bytes mark

-- "take out mark m"
unfoldable pub taken_out : List ℕ → ℕ → List ℕ
taken_out s m = without mark_size s m

-- 02, request 9: "Scheduling, adding and taking out carry part 5 along; adding names the new mark's k." `q` is part 5, where it is there.
unfoldable pub added_popup : List ℕ → ℕ → List ℕ
added_popup q k = q ++ le_bytes popup_size k

unfoldable pub taken_out_popup : List ℕ → ℕ → List ℕ
taken_out_popup q m = without popup_size q m
