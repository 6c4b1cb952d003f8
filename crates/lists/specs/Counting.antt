-- Counting: how many members of a list pass a test. That none of l passes p is `count p l ≡ 0`, and two lists are alike, one a
-- permutation of the other, where every test counts the same in both. So the laws on members and on order are laws on sums.
use Rattle.std.specs.Prelude.{ℕ, ◌+◌, ◌≤◌, ◌≡◌, Bool, not, cond, ◌&&◌, List, [], ◌∷◌, eqb, ltb}
use Rattle.lists.specs.Tests.{bit}

abbrev pub count : (ℕ → Bool) → List ℕ → ℕ
count p [] = 0
count p (x ∷ l) = bit (p x) + count p l

infix 50 ◌≈◌
abbrev pub ◌≈◌ : List ℕ → List ℕ → Type 0
l ≈ m = (p : ℕ → Bool) → count p l ≡ count p m

-- how often x stands in l
abbrev pub times : ℕ → List ℕ → ℕ
times x l = count (eqb x) l

abbrev pub Distinct : List ℕ → Type 0
Distinct l = (x : ℕ) → times x l ≤ 1

-- l without the number b
abbrev pub without : ℕ → List ℕ → List ℕ
without b [] = []
without b (x ∷ l) = cond (eqb b x) (without b l) (x ∷ without b l)

-- ---- tests

abbrev pub non : (ℕ → Bool) → ℕ → Bool
non p y = not (p y)

abbrev pub both : (ℕ → Bool) → (ℕ → Bool) → ℕ → Bool
both p q y = p y && q y

-- y is below t
abbrev pub below : ℕ → ℕ → Bool
below t y = ltb y t

-- y's key is below t
abbrev pub under : (ℕ → ℕ) → ℕ → ℕ → Bool
under k t y = ltb (k y) t

-- y's key is v
abbrev pub keyed : (ℕ → ℕ) → ℕ → ℕ → Bool
keyed k v y = eqb v (k y)
