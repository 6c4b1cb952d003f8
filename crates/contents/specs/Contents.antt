-- 01, "The sheet: contents, then bodies": a sheet is a list of parts, each a body under a code. `s` is a sheet's bytes.
use Rattle.std.specs.Prelude.{ℕ, zero, suc, ◌+◌, ◌*◌, ◌^◌, ◌<◌, Bool, false, cond, ◌||◌, List, [], ◌∷◌, ◌++◌, map, length, get_or, take, drop, ltb, eqb}
use Rattle.numbers.specs.Little.{le_at, le_bytes}

pub record Part : Type 0 where
  pub code : ℕ
  pub body : List ℕ

infix 20 ◌holds◌
abbrev pub ◌holds◌ : ℕ → List ℕ → Part
code holds body = record { code = code; body = body }

-- ---- the parts of a list

abbrev pub codes_of : List Part → List ℕ
codes_of parts = map (λ (p : Part). p.code) parts

abbrev pub bodies_of : List Part → List (List ℕ)
bodies_of parts = map (λ (p : Part). p.body) parts

abbrev pub sizes_of : List (List ℕ) → List ℕ
sizes_of bodies = map length bodies

-- the body under this code; a part that is not there counts as empty
abbrev pub find : List Part → ℕ → List ℕ
find [] code = []
find (p ∷ parts) code = cond (eqb p.code code) p.body (find parts code)

-- Does a list name this code?
abbrev pub names : List ℕ → ℕ → Bool
names [] code = false
names (c ∷ codes) code = eqb c code || names codes code

-- Is there a part of this code?
abbrev pub has : List Part → ℕ → Bool
has parts code = names (codes_of parts) code

-- 01: "Part 1: the marks." "Part 2: the schedule." "Part 3: the index."
abbrev pub marks_part : List Part → List ℕ
marks_part parts = find parts 1

abbrev pub schedule_part : List Part → List ℕ
schedule_part parts = find parts 2

abbrev pub index_part : List Part → List ℕ
index_part parts = find parts 3

-- 02: "Part 4, one byte, names edition 1 or 2"
abbrev pub edition_part : List Part → List ℕ
edition_part parts = find parts 4

-- 02: "Part 5 gives each mark k, 4 bytes"
abbrev pub popups_part : List Part → List ℕ
popups_part parts = find parts 5

-- 02: "Part 6 holds 85 counts of 2 bytes"
abbrev pub counts_part : List Part → List ℕ
counts_part parts = find parts 6

-- 02: "Part 7, one byte, names 1 disk or 2 square"
abbrev pub shape_part : List Part → List ℕ
shape_part parts = find parts 7

-- the same parts with this body under this code: in its place where there is such a part, and else where its code belongs
abbrev pub with_part : ℕ → List ℕ → List Part → List Part
with_part code body [] = (code holds body) ∷ []
with_part code body (p ∷ parts) =
    cond (ltb p.code code) (p ∷ with_part code body parts) ((code holds body) ∷ cond (eqb p.code code) parts (p ∷ parts))

-- ---- reading

-- "Contents: number of parts (2 bytes, 1 to 3), then per part 10 bytes: code (2), offset (4), length (4)." By 02 there are up to 7 parts.
-- Entries are counted from 0.
abbrev pub count_size : ℕ
count_size = 2

abbrev pub entry_size : ℕ
entry_size = 10

-- how many bytes the contents of k parts take: where entry k would start
abbrev pub contents_size : ℕ → ℕ
contents_size k = entry_size * k + count_size

abbrev pub count_at : List ℕ → ℕ
count_at s = le_at 2 s 0

abbrev pub code_at : List ℕ → ℕ → ℕ
code_at s i = le_at 2 s (contents_size i)

abbrev pub offset_at : List ℕ → ℕ → ℕ
offset_at s i = le_at 4 s (contents_size i + 2)

abbrev pub length_at : List ℕ → ℕ → ℕ
length_at s i = le_at 4 s (contents_size i + 6)

-- "The first body starts right after the contents, each next one where the last ended": where body i has to start.
unfoldable pub start_at : List ℕ → ℕ → ℕ
start_at s zero = contents_size (count_at s)
start_at s (suc i) = offset_at s i + length_at s i

abbrev pub body_at : List ℕ → ℕ → List ℕ
body_at s i = take (length_at s i) (drop (offset_at s i) s)

-- the first k parts of a sheet
abbrev pub first_parts : List ℕ → ℕ → List Part
first_parts s zero = []
first_parts s (suc k) = first_parts s k ++ ((code_at s k holds body_at s k) ∷ [])

-- the parts of a sheet
unfoldable pub split : List ℕ → List Part
split s = first_parts s (count_at s)

-- ---- writing

abbrev pub entry : ℕ → ℕ → ℕ → List ℕ
entry code offset size = le_bytes 2 code ++ (le_bytes 4 offset ++ le_bytes 4 size)

-- the entries of parts of these codes and sizes, of which the first has this offset
unfoldable pub entries : ℕ → List ℕ → List ℕ → List ℕ
entries offset [] sizes = []
entries offset (code ∷ codes) [] = []
entries offset (code ∷ codes) (size ∷ sizes) = entry code offset size ++ entries (offset + size) codes sizes

-- the contents, which depend on the codes and the sizes alone
unfoldable pub contents_of : List ℕ → List ℕ → List ℕ
contents_of codes sizes = le_bytes 2 (length codes) ++ entries (contents_size (length codes)) codes sizes

-- the bodies, one after the other
unfoldable pub chain : List (List ℕ) → List ℕ
chain [] = []
chain (body ∷ bodies) = body ++ chain bodies

-- the sheet of these parts
unfoldable pub join : List Part → List ℕ
join parts = contents_of (codes_of parts) (sizes_of (bodies_of parts)) ++ chain (bodies_of parts)

-- parts whose number, codes, offsets and lengths fit the fields that hold them
pub record Writable (parts : List Part) : Type 0 where
  pub count_fits : length parts < 2 ^ 16
  pub codes_fit : (i : ℕ) → get_or (codes_of parts) i 0 < 2 ^ 16
  pub size_fits : length (join parts) < 2 ^ 32

-- ---- codes and bodies that are given apart

-- the parts of these codes and bodies, one by one
abbrev pub together : List ℕ → List (List ℕ) → List Part
together [] bodies = []
together (code ∷ codes) [] = []
together (code ∷ codes) (body ∷ bodies) = (code holds body) ∷ together codes bodies
