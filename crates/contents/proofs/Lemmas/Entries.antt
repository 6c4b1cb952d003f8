-- What `join` writes is read back: entry by entry, since each stands behind what was written before it.
use Rattle.std.specs.Prelude.{ℕ, zero, suc, ◌+◌, ◌*◌, ◌^◌, ◌<◌, ◌≡◌, refl, List, [], ◌∷◌, ◌++◌, length, get_or, take}
use Rattle.std.proofs.Common.{sym, ap, ◌∙◌, append_assoc, arith, length-append}
use Rattle.std.proofs.lemmas.List.{length-map}
use Rattle.numbers.specs.Little.{le_bytes}
use Rattle.numbers.proofs.Laws.{le_length, read_back}
use Rattle.contents.specs.Contents.{Part, codes_of, bodies_of, sizes_of, code_at, offset_at, length_at, contents_size, entry, entries, contents_of, chain, join}

-- entry i holds these three numbers
pub record Entry (s : List ℕ) (i code offset size : ℕ) : Type 0 where
  pub code_is : code_at s i ≡ code
  pub offset_is : offset_at s i ≡ offset
  pub length_is : length_at s i ≡ size

-- an entry behind p, which ends where entry i starts
entry_here : (p q : List ℕ) (i code offset size : ℕ) → length p ≡ contents_size i
    → code < 2 ^ 16 → offset < 2 ^ 32 → size < 2 ^ 32
    → Entry (p ++ (le_bytes 2 code ++ (le_bytes 4 offset ++ (le_bytes 4 size ++ q)))) i code offset size
entry_here p q i code offset size e hc ho hs =
    record {
      code_is = rw (← append_assoc p (le_bytes 2 code)) (read_back 2 p _ code (contents_size i) e hc);
      offset_is = rw (← append_assoc p (le_bytes 2 code), ← append_assoc (p ++ le_bytes 2 code) (le_bytes 4 offset))
          (read_back 4 (p ++ le_bytes 2 code) _ offset (contents_size i + 2) (simp (length-append, le_length) (omega arith)) ho);
      length_is = rw (← append_assoc p (le_bytes 2 code), ← append_assoc (p ++ le_bytes 2 code) (le_bytes 4 offset), ← append_assoc (p ++ le_bytes 2 code ++ le_bytes 4 offset) (le_bytes 4 size))
          (read_back 4 (p ++ le_bytes 2 code ++ le_bytes 4 offset) _ size (contents_size i + 6) (simp (length-append, le_length) (omega arith)) hs);
    }

-- The entry of part i, which is entry k of the contents: j entries stand before those of the parts.
pub entry_at : (parts : List Part) (p rest : List ℕ) (j offset : ℕ) → length p ≡ contents_size j
    → ((i : ℕ) → get_or (codes_of parts) i 0 < 2 ^ 16) → offset + length (chain (bodies_of parts)) < 2 ^ 32
    → (i k o : ℕ) → i < length parts → k ≡ j + i → o ≡ offset + length (chain (take i (bodies_of parts)))
    → Entry (p ++ (entries offset (codes_of parts) (sizes_of (bodies_of parts)) ++ rest)) k (get_or (codes_of parts) i 0) o (length (get_or (bodies_of parts) i []))
unfolding entries chain
entry_at [] p rest j offset e hc ho i k o l ek eo = absurd (omega arith)
entry_at (a ∷ parts) p rest j offset e hc ho zero k o l ek eo =
    let size = length-append a.body (chain (bodies_of parts)) in
    let fo : offset ≡ o = omega arith in
    simp append_assoc
    (rw fo (entry_here p _ k a.code o (length a.body) (omega arith) (hc 0) (omega arith) (omega arith)))
entry_at (a ∷ parts) p rest j offset e hc ho (suc i) k o l ek eo =
    let size = length-append a.body (chain (bodies_of parts)) in
    let here = length-append a.body (chain (take i (bodies_of parts))) in
    let next = p ++ entry a.code offset (length a.body) in
    let le : length next ≡ contents_size (suc j) = simp (length-append, le_length) (omega arith) in
    let ih = entry_at parts next rest (suc j) (offset + length a.body) le (λ i. hc (suc i)) (omega arith) i k o (omega arith) (omega arith) (omega arith) in
    simp append_assoc (simp append_assoc at ih)

-- ---- the contents in front of the bodies

entries_length : (codes sizes : List ℕ) (offset : ℕ) → length codes ≡ length sizes → length (entries offset codes sizes) ≡ 10 * length codes
unfolding entries
entries_length [] sizes offset e = refl
entries_length (code ∷ codes) [] offset e = absurd (omega arith)
entries_length (code ∷ codes) (size ∷ sizes) offset e =
    simp (length-append, le_length) (omega (arith, entries_length codes sizes (offset + size) (omega arith)))

pub contents_length : (codes sizes : List ℕ) → length codes ≡ length sizes → length (contents_of codes sizes) ≡ contents_size (length codes)
unfolding contents_of
contents_length codes sizes e =
    simp (length-append, le_length) (omega (arith, entries_length codes sizes (contents_size (length codes)) e))

-- as many codes as sizes
pub parts_lengths : (parts : List Part) → (length (codes_of parts) ≡ length parts) × (length (sizes_of (bodies_of parts)) ≡ length parts)
parts_lengths parts = (length-map parts _, length-map (bodies_of parts) _ ∙ length-map parts _)

pub join_contents_length : (parts : List Part) → length (contents_of (codes_of parts) (sizes_of (bodies_of parts))) ≡ contents_size (length parts)
join_contents_length parts =
    let l = parts_lengths parts in
    contents_length (codes_of parts) (sizes_of (bodies_of parts)) (l.0 ∙ sym l.1) ∙ ap contents_size l.0

pub join_length : (parts : List Part) → length (join parts) ≡ contents_size (length parts) + length (chain (bodies_of parts))
unfolding join
join_length parts =
    length-append (contents_of (codes_of parts) (sizes_of (bodies_of parts))) (chain (bodies_of parts)) ∙ rw (join_contents_length parts)
