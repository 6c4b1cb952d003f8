-- What the contracts of the check cite. `s` is part 1, `p` part 2 and `t` part 3, whose n numbers are counted from 0.
use Rattle.std.specs.Prelude.{ℕ, suc, ◌+◌, ◌*◌, ◌<◌, ◌≤◌, max, min, ◌≡◌, Bool, true, false, cond, List, length, Option, Some, None}
use Rattle.marks.specs.Marks.{mark_size}
use Rattle.elimination.specs.Records.{record_size}
use Rattle.index.specs.Index.{beats, axis_key, index_entry_size}
use Rattle.index.specs.Valid.{top, low, is_tree}
use Rattle.index.specs.Blocks.{entry_at}
use Rattle.index.specs.declared.Span.{Span}
use Rattle.index.specs.declared.Keys.{Keys}

-- ---- what the check finds of a block

-- A coordinate and a number have 16 bits each, so every key is below this.
abbrev pub key_bound : ℕ
key_bound = 4294967296

-- the least key of a list, and one past the greatest
unfoldable pub span_of : (ℕ → ℕ) → List ℕ → Span
span_of k l = record { low = low k key_bound l; high = top k l }

-- its keys by x and by y
unfoldable pub keys_of : List ℕ → List ℕ → Keys
keys_of s l = record { x = span_of (axis_key s true) l; y = span_of (axis_key s false) l }

-- these, where it is a tree
unfoldable pub keys_found : List ℕ → List ℕ → Bool → List ℕ → Option Keys
keys_found s p axis l = cond (is_tree (beats p) (axis_key s) axis l) (Some (keys_of s l)) None

-- the span of two halves and a root with the key k
unfoldable pub join_spans : ℕ → Span → Span → Span
join_spans k a b = record { low = min k (min a.low b.low); high = max (suc k) (max a.high b.high) }

-- the keys by one axis
abbrev pub side : Bool → Keys → Span
side axis k = cond axis k.x k.y

-- the keys of two halves and a root with the keys kx and ky
unfoldable pub join_keys : ℕ → ℕ → Keys → Keys → Keys
join_keys kx ky a b = record { x = join_spans kx a.x b.x; y = join_spans ky a.y b.y }

-- ---- what the functions need

-- each number of the index is that of a mark in part 1; of one in part 2
abbrev pub AllMarked : List ℕ → List ℕ → Type 0
AllMarked s t = (i : ℕ) → index_entry_size * i + index_entry_size ≤ length t → mark_size * entry_at t i + mark_size ≤ length s

abbrev pub AllScheduled : List ℕ → List ℕ → Type 0
AllScheduled p t = (i : ℕ) → index_entry_size * i + index_entry_size ≤ length t → record_size * entry_at t i + record_size ≤ length p

-- the block is in the index, whose numbers are those of marks
pub record BlockCheckable (s p t : List ℕ) (lo size : ℕ) : Type 0 where
  pub fits : index_entry_size * (lo + size) ≤ length t
  pub marked : AllMarked s t
  pub scheduled : AllScheduled p t

-- the same where a root is compared with the head of a block
pub record HeadCheckable (p t : List ℕ) (root lo size : ℕ) : Type 0 where
  pub root_scheduled : record_size * root + record_size ≤ length p
  pub fits : index_entry_size * (lo + size) ≤ length t
  pub scheduled : AllScheduled p t

-- the parts of a sheet of n marks
pub record Checkable (s p t : List ℕ) (n : ℕ) : Type 0 where
  pub few : n ≤ 4096
  pub marks_long : mark_size * n ≤ length s
  pub schedule_long : record_size * n ≤ length p
  pub index_long : length t ≡ index_entry_size * n

-- every number of the index is below n
abbrev pub AllBelow : List ℕ → ℕ → Type 0
AllBelow t n = (i : ℕ) → i < n → entry_at t i < n
