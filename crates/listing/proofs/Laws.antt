-- Lines: what is written one after the other makes a line, and no line is longer than the room kept for it. Assumes nothing.
use Rattle.std.specs.Prelude.{ℕ, zero, suc, ◌+◌, ◌*◌, ◌<◌, ◌≤◌, ◌≡◌, refl, List, [], ◌∷◌, ◌++◌, length, set}
use Rattle.std.proofs.Common.{append-nil, append_assoc, add-one, arith, length-append}
use Rattle.std.proofs.Math.Decide.{dec_lt}
use Rattle.fractions.specs.declared.Fraction.{Fraction}
use Rattle.text.specs.Text.{decimal, number_room, Wrote}
use Rattle.zoom.specs.Printed.{nearest}
use Rattle.text.proofs.Laws.{decimal_bound, wrote_byte, wrote_then, wrote_length}
use Rattle.elimination.specs.Process.{Removal, stays, gone}
use Rattle.listing.specs.Lines.{text, line, mark_line, mark_lines, listing, refusal_line}
use Rattle.listing.specs.Listed.{line_room, first_room, text_room}

-- ---- writing a line

-- a word, a space, a number
pub first_line : (word : List ℕ) (v : ℕ) {l m n : List ℕ} {p q : ℕ}
    → Wrote l m 0 word p → Wrote (set m p 32) n (p + 1) (decimal v ++ (10 ∷ [])) q
    → Wrote l n 0 (line (word ∷ decimal v ∷ [])) q
unfolding line
first_line word v a b = wrote_then a (wrote_then (wrote_byte _ _ _) b)

-- a number, a space, a dash
pub stays_line : (m : ℕ) {l k : List ℕ} {at p : ℕ}
    → Wrote l k at (decimal m ++ (32 ∷ [])) p → Wrote l (set (set k p 45) (p + 1) 10) at (mark_line m stays) (p + 2)
unfolding line mark_line
stays_line m {l} {k} {at} {p} a =
    let w = wrote_then a (wrote_then (wrote_byte k p 45) (wrote_byte (set k p 45) (p + 1) 10)) in
    let e : p + 1 + 1 ≡ p + 2 = omega arith in
    rw (e, append_assoc (decimal m)) at w

-- five numbers, a space behind each but the last
pub gone_line : (m by : ℕ) (f : Fraction) {l l₁ l₂ l₃ l₄ l₅ : List ℕ} {at p q r s t : ℕ}
    → Wrote l l₁ at (decimal m ++ (32 ∷ [])) p
    → Wrote l₁ l₂ p (decimal by ++ (32 ∷ [])) q
    → Wrote l₂ l₃ q (decimal f.num ++ (32 ∷ [])) r
    → Wrote l₃ l₄ r (decimal f.den ++ (32 ∷ [])) s
    → Wrote l₄ l₅ s (decimal (nearest f) ++ (10 ∷ [])) t
    → Wrote l l₅ at (mark_line m (gone by f)) t
unfolding line mark_line
gone_line m by f a b c d e =
    simp append_assoc at (wrote_then a (wrote_then b (wrote_then c (wrote_then d e))))

-- no lines, and one line more
pub lines_none : (s : ℕ → Removal) (l : List ℕ) (at : ℕ) → Wrote l l at (mark_lines s 0) at
unfolding mark_lines
lines_none s l at = record { holds = refl; ends = omega arith }

pub lines_more : (s : ℕ → Removal) (m : ℕ) {l k n : List ℕ} {at p q : ℕ}
    → Wrote l k at (mark_lines s m) p → Wrote k n p (mark_line m (s m)) q → Wrote l n at (mark_lines s (m + 1)) q
unfolding mark_lines
lines_more s m a b = rw (add-one m) (wrote_then a b)

-- ---- how long they can be

-- a number with a byte behind it, and a text
number_room_lem : (v x : ℕ) (rest : List ℕ) → length (decimal v ++ (x ∷ rest)) ≤ length rest + number_room
number_room_lem v x rest = omega (arith, length-append (decimal v) (x ∷ rest), decimal_bound v)

-- where a number ends that was written with a byte behind it
pub number_ends : (v x : ℕ) {l m : List ℕ} {at p : ℕ} → Wrote l m at (decimal v ++ (x ∷ [])) p → (p ≤ at + number_room) × (length m ≡ length l)
number_ends v x w = (omega (arith, w.ends, number_room_lem v x []), wrote_length w)

pub mark_room : (m : ℕ) (r : Removal) → length (mark_line m r) ≤ line_room
unfolding mark_line line
mark_room m stays = omega (arith, number_room_lem m 32 (45 ∷ 10 ∷ []))
mark_room m (gone h f) =
    let e = decimal (nearest f) ++ (10 ∷ []) in
    let d = decimal f.den ++ (32 ∷ e) in
    let c = decimal f.num ++ (32 ∷ d) in
    let b = decimal h ++ (32 ∷ c) in
    omega (arith, number_room_lem m 32 b, number_room_lem h 32 c, number_room_lem f.num 32 d, number_room_lem f.den 32 e, number_room_lem (nearest f) 10 [])

pub marks_room : (s : ℕ → Removal) (n : ℕ) → length (mark_lines s n) ≤ line_room * n
unfolding mark_lines
marks_room s zero = omega arith
marks_room s (suc n) =
    omega (arith, length-append (mark_lines s n) (mark_line n (s n)), marks_room s n, mark_room n (s n))

-- the first line, of a word of at most 7 letters
pub first_room_lem : (word : List ℕ) (v : ℕ) → length word ≤ 7 → length (line (word ∷ decimal v ∷ [])) ≤ first_room
unfolding line
first_room_lem word v h = omega (arith, length-append word (32 ∷ (decimal v ++ (10 ∷ []))), number_room_lem v 10 [])

pub refusal_room : (number : ℕ) → length (refusal_line number) ≤ first_room
unfolding refusal_line
refusal_room number = first_room_lem (text "refused") number (omega arith)

pub listing_room : (s : ℕ → Removal) (n : ℕ) → length (listing s n) ≤ text_room n
unfolding listing
listing_room s n =
    omega (arith, length-append (line (text "marks" ∷ decimal n ∷ [])) (mark_lines s n), first_room_lem (text "marks") n (omega arith), marks_room s n)

-- ---- the line of one mark

pub lines_at : (s : ℕ → Removal) (m n : ℕ) → m < n → (rest : List ℕ) × (mark_lines s n ≡ mark_lines s m ++ (mark_line m (s m) ++ rest))
unfolding mark_lines
lines_at s m zero h = absurd (omega arith)
lines_at s m (suc n) h =
    elim (dec_lt m n) [
      | yes l ↦ (let r = lines_at s m n l in (r.0 ++ mark_line n (s n), rw r.1 (simp append_assoc)))
      | no l ↦ (let e : m ≡ n = omega arith in ([], rw (e, append-nil (mark_line n (s n)))))
    ]

-- ---- the lines of marks that go alike

pub lines_same : (s t : ℕ → Removal) (n : ℕ) → ((m : ℕ) → m < n → s m ≡ t m) → mark_lines s n ≡ mark_lines t n
unfolding mark_lines
lines_same s t zero h = refl
lines_same s t (suc n) h = rw (lines_same s t n (λ m k. h m (omega arith)), h n (omega arith))

pub listing_same : (s t : ℕ → Removal) (n : ℕ) → ((m : ℕ) → m < n → s m ≡ t m) → listing s n ≡ listing t n
unfolding listing
listing_same s t n h = rw (lines_same s t n h)
