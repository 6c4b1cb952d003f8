-- Writing a sheet front to back: the contents, then the bodies.
use Rattle.std.specs.Prelude.{ℕ, zero, suc, ◌+◌, ◌-◌, ◌<◌, ◌≤◌, ◌≡◌, refl, get_or, drop, leb}
use Rattle.std.proofs.Common.{sym, ◌∙◌, zero-add, arith, length-append, drop_of_length-le, le-leb}
use mathlib.Core.List.{List, [], ◌∷◌, ◌++◌, map}
use Rattle.std.proofs.Math.Decide.{dec_le}
use Rattle.std.proofs.Math.Numerals.{add-one}
use Rattle.std.proofs.Math.ListN.{length, length-map}
use Rattle.std.proofs.lemmas.List.Edits.{sets}
use Rattle.std.proofs.Math.Seq.{drop-cons}
use Rattle.std.proofs.lemmas.Bool.{lt-leb}
use Rattle.numbers.specs.Little.{le_bytes}
use Rattle.numbers.proofs.Laws.{le_length}
use Rattle.contents.specs.Contents.{sizes_of, contents_size, entry, entries, contents_of, chain, join, together}
use Rattle.lists.proofs.StoreLaws.{sets_append}
use Rattle.contents.proofs.Laws.{together_codes, together_bodies, contents_length}

pub size_at : (bodies : List (List ℕ)) (i : ℕ) → length (get_or bodies i []) ≡ get_or (sizes_of bodies) i 0
size_at [] i = refl
size_at (b ∷ bodies) zero = refl
size_at (b ∷ bodies) (suc i) = size_at bodies i

-- room for what comes after `first`
pub leb_less : (first rest room : ℕ) → first ≤ room → leb rest (room - first) ≡ leb (first + rest) room
leb_less first rest room h =
    elim (dec_le rest (room - first)) [
      | yes l ↦ le-leb rest (room - first) l ∙ sym (le-leb (first + rest) room (omega arith))
      | no l ↦ lt-leb rest (room - first) (omega arith) ∙ sym (lt-leb (first + rest) room (omega arith))
    ]

-- ---- the contents

pub entry_length : (code offset size : ℕ) → length (entry code offset size) ≡ 10
entry_length code offset size = simp (length-append, le_length)

-- an entry's three fields, stored one after the other
pub entry_sets : (l₀ : List ℕ) {l₁ l₂ l₃ : List ℕ} (at code offset size : ℕ)
    → l₁ ≡ sets l₀ at (le_bytes 2 code) → l₂ ≡ sets l₁ (at + 2) (le_bytes 4 offset) → l₃ ≡ sets l₂ (at + 6) (le_bytes 4 size)
    → l₃ ≡ sets l₀ at (entry code offset size)
entry_sets l₀ at code offset size e f g =
    let six : at + 2 + 4 ≡ at + 6 = omega arith in
    rw (g, f, e, sets_append l₀ at (le_bytes 2 code), le_length 2 code, sets_append _ (at + 2) (le_bytes 4 offset), le_length 4 offset, six)

-- One turn of the loop over the entries: the rest of them still makes the whole.
pub entries_turn : (l : List ℕ) {l' : List ℕ} (i offset : ℕ) (codes sizes : List ℕ) → i < length codes → i < length sizes
    → l' ≡ sets l (contents_size i) (entry (get_or codes i 0) offset (get_or sizes i 0))
    → sets l' (contents_size (i + 1)) (entries (offset + get_or sizes i 0) (drop (i + 1) codes) (drop (i + 1) sizes))
    ≡ sets l (contents_size i) (entries offset (drop i codes) (drop i sizes))
unfolding entries
entries_turn l i offset codes sizes h k e =
    let code = get_or codes i 0 in
    let size = get_or sizes i 0 in
    let ten : contents_size (suc i) ≡ contents_size i + 10 = omega arith in
    rw (e, add-one i, drop-cons codes i 0 h, drop-cons sizes i 0 k, ten)
    (rw (sets_append l (contents_size i) (entry code offset size), entry_length code offset size))

pub contents_sets : (l : List ℕ) {l' : List ℕ} (codes sizes : List ℕ) → l' ≡ sets l 0 (le_bytes 2 (length codes))
    → sets l' 2 (entries (contents_size (length codes)) codes sizes) ≡ sets l 0 (contents_of codes sizes)
unfolding contents_of
contents_sets l codes sizes e = rw (e, sets_append l 0 (le_bytes 2 (length codes)), le_length 2 (length codes))

-- ---- bodies that lie behind the elements of l: the code counts these, and the contracts speak of what lies behind them

module _ {A : Type 0} (f : A → List ℕ) (l : List A) where
  -- what is left of the bodies at i is body i and what is left behind it
  pub chain_turn : (i : ℕ) {b : List ℕ} → i < length l → b ≡ get_or (map f l) i []
      → chain (drop i (map f l)) ≡ b ++ chain (drop (i + 1) (map f l))
  unfolding chain
  chain_turn i h e =
      let h' : i < length (map f l) = rw length-map h in
      rw (e, add-one i, drop-cons (map f l) i [] h')

  pub chain_less : (i : ℕ) {b : List ℕ} → i < length l → b ≡ get_or (map f l) i []
      → length (chain (drop i (map f l))) ≡ length b + length (chain (drop (i + 1) (map f l)))
  chain_less i {b} h e = rw (chain_turn i h e, length-append)

  pub chain_done : (i : ℕ) → length l ≤ i → chain (drop i (map f l)) ≡ []
  unfolding chain
  chain_done i h =
      let h' : length (map f l) ≤ i = rw length-map h in
      rw (drop_of_length-le (map f l) h')

  -- one turn of the loop that writes the bodies: the rest of them still makes the whole
  pub bodies_turn : (out : List ℕ) {out' b : List ℕ} (at : ℕ) {at' : ℕ} (i : ℕ) → i < length l → b ≡ get_or (map f l) i []
      → (at' ≡ at + length b) × (out' ≡ sets out at b)
      → sets out' at' (chain (drop (i + 1) (map f l))) ≡ sets out at (chain (drop i (map f l)))
  bodies_turn out {b = b} at i h e p = rw (p.0, p.1, chain_turn i h e, sets_append out at b)

-- ---- the whole sheet of codes and bodies

module _ (codes : List ℕ) (bodies : List (List ℕ)) (same : length codes ≡ length bodies) where
  pub join_together : join (together codes bodies) ≡ contents_of codes (sizes_of bodies) ++ chain bodies
  unfolding join
  join_together = rw (together_codes codes bodies same, together_bodies codes bodies same)

  contents_long : length (contents_of codes (sizes_of bodies)) ≡ contents_size (length codes)
  contents_long = contents_length codes (sizes_of bodies) (same ∙ sym (length-map bodies _))

  pub together_size : length (join (together codes bodies)) ≡ contents_size (length codes) + length (chain bodies)
  together_size = rw (join_together, length-append (contents_of codes (sizes_of bodies)) (chain bodies), contents_long)

  -- the contents, and the bodies behind them
  pub parts_sets : (l : List ℕ) {l₁ l₂ : List ℕ} {i : ℕ} → (i ≡ contents_size (length codes)) × (l₁ ≡ sets l 0 (contents_of codes (sizes_of bodies)))
      → l₂ ≡ sets l₁ i (chain bodies) → l₂ ≡ sets l 0 (join (together codes bodies))
  parts_sets l p e =
      rw (e, p.1, p.0, join_together, sets_append l 0 (contents_of codes (sizes_of bodies)), zero-add (length (contents_of codes (sizes_of bodies))), contents_long)

-- each size is at most that of all bodies
pub size_below : (bodies : List (List ℕ)) (most : ℕ) → length (chain bodies) < most → (i : ℕ) → get_or (sizes_of bodies) i 0 < most
unfolding chain
size_below [] most h i = omega arith
size_below (b ∷ bodies) most h zero = omega (arith, length-append b (chain bodies))
size_below (b ∷ bodies) most h (suc i) = size_below bodies most (omega (arith, length-append b (chain bodies))) i
