-- Laws of sums and products of whole numbers that lib.IntN lacks, and how large they are. Assumes nothing.
use Rattle.std.specs.Prelude.{ℕ, zero, suc, ◌+◌, ◌*◌, ◌≤◌, ◌≡◌, refl, ltb, ℤ, pos, negsuc, neg_ℤ, nat_abs, ◌+ℤ◌, ◌-ℤ◌, ◌*ℤ◌}
use Rattle.std.proofs.Common.{sym, ap, ap₂, ◌∙◌, arith, ltb-true}
use Rattle.std.proofs.Math.IntN.{sub_ℕ, +ℤ_idl, +ℤ_assoc, +ℤ_comm, suc_ℤ-+ℤ, neg_ℤ-neg_ℤ, neg_ℤ-+ℤ, zero-*ℤ, suc_ℤ-*ℤ, *ℤ_comm}
use Rattle.std.specs.Int.Signed.{mag}
use Rattle.lists.proofs.TestLaws.{by_cases}
use Rattle.marks.specs.Marks.{apart}

-- ---- sums

swap_last : (a b c : ℤ) → a +ℤ b +ℤ c ≡ a +ℤ c +ℤ b
swap_last a b c = +ℤ_assoc a b c ∙ ap (λ (z : ℤ). a +ℤ z) (+ℤ_comm b c) ∙ sym (+ℤ_assoc a c b)

-- two sums of two, added up the other way
crossed : (a b c d : ℤ) → (a +ℤ b) +ℤ (c +ℤ d) ≡ (a +ℤ c) +ℤ (b +ℤ d)
crossed a b c d = sym (+ℤ_assoc (a +ℤ b) c d) ∙ ap (λ (z : ℤ). z +ℤ d) (swap_last a b c) ∙ +ℤ_assoc (a +ℤ c) b d

-- ---- products

pub neg_times : (a b : ℤ) → neg_ℤ a *ℤ b ≡ neg_ℤ (a *ℤ b)
neg_times (pos zero) b = zero-*ℤ b ∙ sym (ap neg_ℤ (zero-*ℤ b))
neg_times (pos (suc n)) (pos b) = refl
neg_times (pos (suc n)) (negsuc b) = sym (neg_ℤ-neg_ℤ (pos (suc n * suc b)))
neg_times (negsuc n) (pos b) = sym (neg_ℤ-neg_ℤ (pos (suc n * b)))
neg_times (negsuc n) (negsuc b) = refl

-- (a + b) k: by the units of a, and below 0 by the negatives
units_times : (n : ℕ) (b k : ℤ) → (pos n +ℤ b) *ℤ k ≡ pos n *ℤ k +ℤ b *ℤ k
units_times zero b k = rw (+ℤ_idl b, zero-*ℤ k, +ℤ_idl (b *ℤ k))
units_times (suc n) b k =
    ap (λ (z : ℤ). z *ℤ k) (suc_ℤ-+ℤ (pos n) b)
    ∙ suc_ℤ-*ℤ (pos n +ℤ b) k
    ∙ ap (λ (z : ℤ). z +ℤ k) (units_times n b k)
    ∙ swap_last (pos n *ℤ k) (b *ℤ k) k
    ∙ ap (λ (z : ℤ). z +ℤ b *ℤ k) (sym (suc_ℤ-*ℤ (pos n) k))

pub sum_times : (a b k : ℤ) → (a +ℤ b) *ℤ k ≡ a *ℤ k +ℤ b *ℤ k
sum_times (pos n) b k = units_times n b k
sum_times (negsuc n) b k =
    ap (λ (z : ℤ). z *ℤ k) (below (pos (suc n)) b)
    ∙ neg_times (pos (suc n) +ℤ neg_ℤ b) k
    ∙ ap neg_ℤ (units_times (suc n) (neg_ℤ b) k ∙ ap (λ (z : ℤ). pos (suc n) *ℤ k +ℤ z) (neg_times b k))
    ∙ sym (below (pos (suc n) *ℤ k) (b *ℤ k))
    ∙ ap (λ (z : ℤ). z +ℤ b *ℤ k) (sym (neg_times (pos (suc n)) k))
  where
    below : (a b : ℤ) → neg_ℤ a +ℤ b ≡ neg_ℤ (a +ℤ neg_ℤ b)
    below a b = sym (neg_ℤ-+ℤ a (neg_ℤ b) ∙ ap (λ (z : ℤ). neg_ℤ a +ℤ z) (neg_ℤ-neg_ℤ b))

pub one_times : (k : ℤ) → pos 1 *ℤ k ≡ k
one_times k = suc_ℤ-*ℤ (pos zero) k ∙ ap (λ (z : ℤ). z +ℤ k) (zero-*ℤ k) ∙ +ℤ_idl k

pub times_sum : (k a b : ℤ) → k *ℤ (a +ℤ b) ≡ k *ℤ a +ℤ k *ℤ b
times_sum k a b = *ℤ_comm k (a +ℤ b) ∙ sum_times a b k ∙ ap₂ ◌+ℤ◌ (*ℤ_comm a k) (*ℤ_comm b k)

units_assoc : (n : ℕ) (b c : ℤ) → pos n *ℤ b *ℤ c ≡ pos n *ℤ (b *ℤ c)
units_assoc zero b c = rw (zero-*ℤ b, zero-*ℤ c, zero-*ℤ (b *ℤ c))
units_assoc (suc n) b c =
    ap (λ (z : ℤ). z *ℤ c) (suc_ℤ-*ℤ (pos n) b)
    ∙ sum_times (pos n *ℤ b) b c
    ∙ ap (λ (z : ℤ). z +ℤ b *ℤ c) (units_assoc n b c)
    ∙ sym (suc_ℤ-*ℤ (pos n) (b *ℤ c))

pub times_assoc : (a b c : ℤ) → a *ℤ b *ℤ c ≡ a *ℤ (b *ℤ c)
times_assoc (pos n) b c = units_assoc n b c
times_assoc (negsuc n) b c =
    ap (λ (z : ℤ). z *ℤ c) (neg_times (pos (suc n)) b)
    ∙ neg_times (pos (suc n) *ℤ b) c
    ∙ ap neg_ℤ (units_assoc (suc n) b c)
    ∙ sym (neg_times (pos (suc n)) (b *ℤ c))

-- a row by the columns of a grid, and by what the grid makes of x, y
pub rows_by_columns : (p q a b c d x y : ℤ)
    → (p *ℤ a +ℤ q *ℤ c) *ℤ x +ℤ (p *ℤ b +ℤ q *ℤ d) *ℤ y ≡ p *ℤ (a *ℤ x +ℤ b *ℤ y) +ℤ q *ℤ (c *ℤ x +ℤ d *ℤ y)
rows_by_columns p q a b c d x y =
    ap₂ ◌+ℤ◌ (sum_times (p *ℤ a) (q *ℤ c) x) (sum_times (p *ℤ b) (q *ℤ d) y)
    ∙ crossed (p *ℤ a *ℤ x) (q *ℤ c *ℤ x) (p *ℤ b *ℤ y) (q *ℤ d *ℤ y)
    ∙ ap₂ ◌+ℤ◌ (part p a b) (part q c d)
  where
    part : (k a b : ℤ) → k *ℤ a *ℤ x +ℤ k *ℤ b *ℤ y ≡ k *ℤ (a *ℤ x +ℤ b *ℤ y)
    part k a b = ap₂ ◌+ℤ◌ (times_assoc k a x) (times_assoc k b y) ∙ sym (times_sum k (a *ℤ x) (b *ℤ y))

-- ---- sizes

pub abs_neg : (z : ℤ) → nat_abs (neg_ℤ z) ≡ nat_abs z
abs_neg (pos zero) = refl
abs_neg (pos (suc n)) = refl
abs_neg (negsuc n) = refl

-- turned about 0, two places stay as far apart
pub apart_neg : (a b : ℤ) → apart (neg_ℤ a) (neg_ℤ b) ≡ apart a b
apart_neg a b = ap nat_abs (sym (neg_ℤ-+ℤ a (neg_ℤ b))) ∙ abs_neg (a -ℤ b)

pub abs_times : (a b : ℤ) → nat_abs (a *ℤ b) ≡ nat_abs a * nat_abs b
abs_times (pos a) (pos b) = refl
abs_times (pos a) (negsuc b) = abs_neg (pos (a * suc b))
abs_times (negsuc a) (pos b) = abs_neg (pos (suc a * b))
abs_times (negsuc a) (negsuc b) = refl

abs_sub : (a b : ℕ) → nat_abs (sub_ℕ a b) ≤ a + b
abs_sub a b = by_cases (ltb a b) (λ e. rw e (omega (arith, ltb-true a b e))) (λ e. rw e (omega arith))

pub abs_sum : (a b : ℤ) → nat_abs (a +ℤ b) ≤ nat_abs a + nat_abs b
abs_sum (pos a) (pos b) = omega arith
abs_sum (pos a) (negsuc b) = abs_sub a (suc b)
abs_sum (negsuc a) (pos b) = omega (arith, abs_sub b (suc a))
abs_sum (negsuc a) (negsuc b) = omega arith

pub mag_abs : (z : ℤ) → mag z ≤ nat_abs z
mag_abs (pos n) = omega arith
mag_abs (negsuc n) = omega arith
