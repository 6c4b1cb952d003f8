-- What the contracts of the judge's search cite. `r` is a reel, `p` part 2 of its sheet and `t` part 3; an axis is true for x.
use Rattle.std.specs.Prelude.{ℕ, ◌+◌, ◌-◌, ◌*◌, ◌/◌, ◌<◌, ◌≤◌, ◌≡◌, Bool, true, false, not, cond, List, ◌≢◌, length, get_or}
use Rattle.lists.specs.Tests.{every}
use Rattle.lists.specs.Blocks.{block}
use Rattle.numbers.specs.Little.{Bytes}
use Rattle.marks.specs.Marks.{mark_size, used_at}
use Rattle.elimination.specs.Reel.{Reel}
use Rattle.index.specs.Index.{beats, coordinate, axis_key, index_entry_size, is_index}
use Rattle.index.specs.Valid.{is_tree}
use Rattle.index.specs.Blocks.{entry_at}
use Rattle.index.specs.Check.{AllBelow}
use Rattle.clashing.specs.declared.Subject.{Subject}
use Rattle.clashing.specs.Clash.{clash, widest_radius, is_tight, subject_of, Asked, Subjected, Fits}
use Rattle.judging.specs.declared.Corner.{Corner}

-- ---- nobody clashes

-- with m; with any mark
unfoldable pub is_clear : Reel → List ℕ → ℕ → Bool
is_clear r p m = every (λ g. not (clash r p m g)) r.count

unfoldable pub all_clear : Reel → List ℕ → Bool
all_clear r p = every (is_clear r p) r.count

-- ---- the table of splits: `z lo` is for the block whose root is at place lo, `e i` the mark at place i

pub data Splits (s p : List ℕ) (e z : ℕ → ℕ) : ℕ → ℕ → Bool → Type 0 where
  none : {lo : ℕ} {axis : Bool} → Splits s p e z lo 0 axis
  node : {lo size : ℕ} {axis : Bool} → size ≢ 0
      → ((i : ℕ) → lo < i → i < lo + size → beats p (e lo) (e i) ≡ true)
      → ((i : ℕ) → lo < i → i < lo + 1 + size / 2 → coordinate s axis (e i) ≤ z lo)
      → ((i : ℕ) → lo + 1 + size / 2 ≤ i → i < lo + size → z lo ≤ coordinate s axis (e i))
      → Splits s p e z (lo + 1) (size / 2) (not axis)
      → Splits s p e z (lo + 1 + size / 2) (size - 1 - size / 2) (not axis)
      → Splits s p e z lo size axis

abbrev pub Table : List ℕ → List ℕ → List ℕ → List ℕ → ℕ → ℕ → Bool → Type 0
Table s p t z = Splits s p (entry_at t) (λ i. get_or z i 0)

-- ---- what the functions need

-- what was asked of parts 1, 2 and 5, and part 3 is there
pub record Indexed (r : Reel) (p t : List ℕ) : Type 0 where
  pub asked : Asked r p
  pub index_long : length t ≡ index_entry_size * r.count
  pub below : AllBelow t r.count

-- what is judged: it passed question 9 too
pub record Judgeable (r : Reel) (p t : List ℕ) : Type 0 where
  pub asked : Asked r p
  pub index_long : length t ≡ index_entry_size * r.count
  pub index_right : is_index r.marks p t r.count ≡ true

-- the block is among the places, and the table holds its splits
pub record Searchable (r : Reel) (p t z : List ℕ) (q : Subject) (lo size : ℕ) (axis : Bool) : Type 0 where
  pub subject : Subjected r.marks r.count p q
  pub fits : Fits q
  pub tight_is : q.tight ≡ is_tight r.popups p q.m
  pub shape_is : q.shape ≡ r.shape
  pub there : lo + size ≤ r.count
  pub splits : Table r.marks p t z lo size axis

-- What a search of the places from lo on answers: if true, none of the marks there whose radius is within the bound clashes.
pub record Searched (r : Reel) (p t : List ℕ) (q : Subject) (lo size : ℕ) (b : Bool) : Type 0 where
  pub clear : b ≡ true → (bound : ℕ) → q ≡ subject_of r.shape r.marks r.popups p bound q.m
      → (i : ℕ) → lo ≤ i → i < lo + size → used_at r.marks (entry_at t i) ≤ bound → clash r p q.m (entry_at t i) ≡ false
  pub found : b ≡ false → (i : ℕ) × (lo ≤ i) × (i < lo + size) × (clash r p q.m (entry_at t i) ≡ true)

-- ---- the marks whose radius is above the bound

-- all that are listed are marks
abbrev pub AllListed : List ℕ → ℕ → Type 0
AllListed l n = (i : ℕ) → i < length l → get_or l i 0 < n

-- of the first m marks each that is above the bound is among the first k of the list
pub record Listed (s : List ℕ) (n m bound : ℕ) (l : List ℕ) (k : ℕ) : Type 0 where
  pub marks : (i : ℕ) → i < k → get_or l i 0 < n
  pub all : (g : ℕ) → g < m → bound < used_at s g → (i : ℕ) × (i < k) × (get_or l i 0 ≡ g)

-- the first k of the list are all of these, and there is room for them
pub record ListedIn (s : List ℕ) (n bound : ℕ) (l : List ℕ) (k : ℕ) : Type 0 where
  pub fits : k ≤ length l
  pub listed : Listed s n n bound l k

pub record LargeClear (r : Reel) (p : List ℕ) (m : ℕ) (l : List ℕ) (b : Bool) : Type 0 where
  pub clear : b ≡ true → (i : ℕ) → i < length l → clash r p m (get_or l i 0) ≡ false
  pub found : b ≡ false → (i : ℕ) × (i < length l) × (clash r p m (get_or l i 0) ≡ true)

-- the table holds the splits of all places, and each mark that is above the bound is listed
pub record Ready (r : Reel) (p t z l : List ℕ) (bound : ℕ) : Type 0 where
  pub splits : Table r.marks p t z 0 r.count true
  pub small : bound ≤ widest_radius
  pub listed : Listed r.marks r.count r.count bound l (length l)

-- ---- filling the table; `s` are the marks

-- the greatest of f of the marks at these places, 0 where there are none
pub record Greatest (f e : ℕ → ℕ) (lo size v : ℕ) : Type 0 where
  pub bounds : (i : ℕ) → lo ≤ i → i < lo + size → f (e i) ≤ v
  pub least : (b : ℕ) → ((i : ℕ) → lo ≤ i → i < lo + size → f (e i) ≤ b) → v ≤ b

pub record Fillable (s t z : List ℕ) (lo size : ℕ) : Type 0 where
  pub n : ℕ
  pub marks_long : mark_size * n ≤ length s
  pub index_long : length t ≡ index_entry_size * n
  pub few : n ≤ 4096
  pub below : AllBelow t n
  pub there : lo + size ≤ n
  pub room : n ≤ length z

-- The table is filled for a block, whatever schedule it is a tree by; c has the greatest coordinates of the block. What was read are bytes.
pub record Filled (s t before after : List ℕ) (lo size : ℕ) (axis : Bool) (c : Corner) : Type 0 where
  pub splits : (p : List ℕ) → is_tree (beats p) (axis_key s) axis (block (entry_at t) lo size) ≡ true → Table s p t after lo size axis
  pub long : length after ≡ length before
  pub rest_before : (i : ℕ) → i < lo → get_or after i 0 ≡ get_or before i 0
  pub rest_behind : (i : ℕ) → lo + size ≤ i → get_or after i 0 ≡ get_or before i 0
  pub x_is : Greatest (coordinate s true) (entry_at t) lo size c.x
  pub y_is : Greatest (coordinate s false) (entry_at t) lo size c.y
  pub x_small : c.x < 65536
  pub y_small : c.y < 65536
  pub bytes : Bytes s

-- the greatest coordinate on an axis
abbrev pub corner_on : Bool → Corner → ℕ
corner_on axis c = cond axis c.x c.y
