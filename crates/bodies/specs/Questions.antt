-- Questions 4 to 9, 19, 21, 23 and 24, each by its number: those of the bodies. Checking a sheet and putting parts together ask the same.
use Rattle.std.specs.Prelude.{ℕ, ◌*◌, Bool, ◌&&◌, List, [], ◌∷◌, ◌++◌, length, eqb}
use Rattle.elimination.specs.Records.{record_size}
use Rattle.elimination.specs.Reel.{Reel}
use Rattle.index.specs.Index.{index_entry_size, is_index}
use Rattle.counting.specs.Counts.{is_counts}
use Rattle.contents.specs.Contents.{Part, has, find, marks_part, schedule_part, index_part, edition_part, popups_part, counts_part, shape_part}
use Rattle.contents.specs.Asking.{Question, ◌asks◌, if_there}
use Rattle.parts.specs.Questions.{mark_count, reel_from, part1_questions, is_schedule, choice_in, is_choice, is_popups}

-- ---- of a sheet's parts

-- n: how many marks there are
abbrev pub count_of : List Part → ℕ
count_of parts = mark_count (marks_part parts)

-- the edition that they are ranked by
abbrev pub edition_of : List Part → ℕ
edition_of parts = choice_in (edition_part parts)

-- the shape of their labels
abbrev pub shape_of : List Part → ℕ
shape_of parts = choice_in (shape_part parts)

-- the reel that they hold
abbrev pub reel_of : List Part → Reel
reel_of parts = reel_from (edition_of parts) (shape_of parts) (popups_part parts) (marks_part parts)

-- a part that is there has this size
unfoldable pub is_sized : Bool → ℕ → ℕ → Bool
is_sized there size wanted = if_there there (eqb size wanted)

-- 7. "Are parts 2 and 3, if present, 14n and 2n bytes?"
unfoldable pub question7 : List Part → Bool
question7 parts =
    is_sized (has parts 2) (length (schedule_part parts)) (record_size * count_of parts) && is_sized (has parts 3) (length (index_part parts)) (index_entry_size * count_of parts)

-- a part that is there names 1 or 2
unfoldable pub is_chosen : List Part → ℕ → Bool
is_chosen parts code = if_there (has parts code) (is_choice (find parts code))

-- 19. "after 7, 19 where part 4 isn't one byte of 1 or 2"
unfoldable pub question19 : List Part → Bool
question19 parts = is_chosen parts 4

-- 21. "after 19, 21 where part 5 isn't 4n bytes or a k exceeds 65,536"
unfoldable pub question21 : List Part → Bool
question21 parts = if_there (has parts 5) (is_popups (popups_part parts) (count_of parts))

-- 24. "after 21, 24 where part 7 isn't one byte of 1 or 2"
unfoldable pub question24 : List Part → Bool
question24 parts = is_chosen parts 7

-- 8. "Is each schedule record the 'never' record, or else ..?"
unfoldable pub question8 : List Part → Bool
question8 parts = if_there (has parts 2) (is_schedule (reel_of parts) (schedule_part parts))

-- 9. "Is part 3 the tree that parts 1 and 2 give?"
unfoldable pub question9 : List Part → Bool
question9 parts = if_there (has parts 3) (is_index (marks_part parts) (schedule_part parts) (index_part parts) (count_of parts))

-- 23. "after 9, wherever that is asked, 23 where part 6 isn't 170 bytes with those counts"
unfoldable pub question23 : List Part → Bool
question23 parts = if_there (has parts 6) (is_counts (counts_part parts) (marks_part parts) (schedule_part parts) (popups_part parts) (count_of parts))

-- ---- in their order

-- 7, 19, 21, 24, 8, 9 and 23: the edition, the popups and the shape are asked about before the ranks and the pair values that go by them
unfoldable pub last_questions : List Part → List Question
last_questions parts =
    (7 asks question7 parts) ∷ (19 asks question19 parts) ∷ (21 asks question21 parts) ∷ (24 asks question24 parts) ∷ (8 asks question8 parts) ∷ (9 asks question9 parts) ∷ (23 asks question23 parts) ∷ []

-- 4 to 9, with 19 "after 7", 21 "after 19" and 24 "after 21", and 23 "after 9"
unfoldable pub body_questions : List Part → List Question
body_questions parts = part1_questions (marks_part parts) ++ last_questions parts
