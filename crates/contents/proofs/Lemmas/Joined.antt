-- Joining and splitting undo one another.
use Prim.Native.Nat.{ℕ, zero, suc, ◌+◌, ◌-◌, ◌*◌, ◌<◌, ◌≤◌}
use Rattle.std.specs.Prelude.{◌≡◌, refl, true, get_or}
use Rattle.std.proofs.Common.{sym, ◌∙◌, length-drop, drop_of_length-le, length-take-le, take-add, ext_get_or}
use Rattle.std.proofs.Math.Path.{ap, ap₂}
use mathlib.Core.List.{List, [], ◌++◌, append_assoc}
use native.Mathlib.Omega.{arith}
use Rattle.std.proofs.Math.ListN.{length, take, drop, take-append-drop}
use Rattle.std.proofs.lemmas.List.{length-map}
use Rattle.std.proofs.Math.Seq.{drop-append-add, drop-drop, drop-length, take-length}
use Rattle.numbers.specs.Little.{le_bytes, Bytes}
use Rattle.numbers.proofs.Laws.{le_length, read_back, write_back}
use Rattle.contents.specs.Contents.{Part, ◌holds◌, codes_of, bodies_of, sizes_of, count_at, offset_at, length_at, contents_size, start_at, body_at, split, entries, contents_of, chain, join, Writable}
use Rattle.contents.specs.Questions.{codes_right}
use Rattle.contents.specs.Laid.{Laid}
use Rattle.contents.proofs.Lemmas.Parts.{split_length, split_at, split_from, chain_more, chain_at, part_at}
use Rattle.contents.proofs.Lemmas.Codes.{codes_some, codes_few}
use Rattle.contents.proofs.Lemmas.Entries.{Entry, entry_at, parts_lengths, join_contents_length, join_length}

module _ (parts : List Part) (fits : Writable parts) where
  abbrev bodies : List (List ℕ)
  bodies = bodies_of parts

  -- the number of parts, the entries and the bodies
  in_three : join parts
      ≡ le_bytes 2 (length parts) ++ (entries (contents_size (length parts)) (codes_of parts) (sizes_of bodies) ++ chain bodies)
  unfolding join contents_of
  in_three = rw (parts_lengths parts).0 (append_assoc (le_bytes 2 (length parts)) _ _)

  join_count : count_at (join parts) ≡ length parts
  join_count = rw in_three (read_back 2 [] _ (length parts) 0 refl fits.count_fits)

  join_entry : (i : ℕ) → i < length parts
      → Entry (join parts) i (get_or (codes_of parts) i 0) (contents_size (length parts) + length (chain (take i bodies))) (length (get_or bodies i []))
  join_entry i l =
      rw in_three
      (entry_at parts (le_bytes 2 (length parts)) (chain bodies) 0 (contents_size (length parts)) (le_length 2 (length parts))
      fits.codes_fit (omega (arith, join_length parts, fits.size_fits)) i i _ l (omega arith) refl)

  -- body i, where its entry says
  behind : (i : ℕ) → i < length parts
      → take (length (get_or bodies i [])) (drop (contents_size (length parts) + length (chain (take i bodies))) (join parts)) ≡ get_or bodies i []
  unfolding join
  behind i l = rw (← join_contents_length parts, drop-append-add) (chain_at bodies i (rw (length-map parts _) l))

  join_body : (i : ℕ) → i < length parts → body_at (join parts) i ≡ get_or bodies i []
  join_body i l =
      let e = join_entry i l in
      rw (e.offset_is, e.length_is) (behind i l)

  pub split_join : split (join parts) ≡ parts
  split_join =
      ext_get_or (0 holds []) (split (join parts)) parts (split_length (join parts) ∙ join_count)
      (λ i l.
      let k : i < length parts = rw (split_length (join parts), join_count) at l in
      split_at (join parts) i (rw join_count k) ∙ ap₂ ◌holds◌ (join_entry i k).code_is (join_body i k) ∙ sym (part_at parts i k))

  join_start : (i : ℕ) → i ≤ length parts → start_at (join parts) i ≡ contents_size (length parts) + length (chain (take i bodies))
  unfolding start_at chain
  join_start zero l = rw join_count (omega arith)
  join_start (suc i) l =
      let e = join_entry i l in
      rw (e.offset_is, e.length_is) (omega (arith, chain_more bodies i (rw (length-map parts _) l)))

  -- what the first three questions ask of the contents, for codes that question 2 takes
  pub join_laid : codes_right (codes_of parts) ≡ true → Laid (join parts)
  join_laid right =
      let some : 1 ≤ length parts = rw (parts_lengths parts).0 at (codes_some (codes_of parts) right) in
      let few = rw (parts_lengths parts).0 at (codes_few (codes_of parts) right) in
      record {
        whole = record { some = rw join_count some; few = rw join_count few; inside = rw join_count (omega (arith, join_length parts)) };
        codes = rw split_join right;
        offsets = λ i l.
            let k : i < length parts = rw join_count at l in
            (join_entry i k).offset_is ∙ sym (join_start i (omega arith));
        ends = rw join_count (join_start (length parts) (omega arith) ∙ whole_chain);
      }
    where
      whole_chain : contents_size (length parts) + length (chain (take (length parts) bodies)) ≡ length (join parts)
      whole_chain = rw (← length-map parts (λ (p : Part). p.body), take-length bodies) (rw (length-map parts _) (sym (join_length parts)))

-- ---- a sheet whose contents are right, split and joined

module _ (s : List ℕ) (laid : Laid s) where
  -- a later body starts no earlier, and the last ends with the sheet
  start_below : (d i : ℕ) → i + d ≡ count_at s → start_at s i ≤ length s
  unfolding start_at
  start_below zero i e = let q : i ≡ count_at s = omega arith in rw (q, laid.ends) (omega arith)
  start_below (suc d) i e = omega (arith, start_below d (suc i) (omega arith), laid.offsets i (omega arith))

  pub end_inside : (i : ℕ) → i < count_at s → offset_at s i + length_at s i ≤ length s
  unfolding start_at
  end_inside i l = start_below (count_at s - suc i) (suc i) (omega arith)

  body_long : (i : ℕ) → i < count_at s → length (body_at s i) ≡ length_at s i
  body_long i l = length-take-le (length_at s i) (drop (offset_at s i) s) (rw length-drop (omega (arith, end_inside i l)))

  -- the bodies from part i on, of which there are d
  chain_from : (d i : ℕ) → i + d ≡ count_at s → chain (bodies_of (drop i (split s))) ≡ drop (start_at s i) s
  unfolding chain start_at
  chain_from zero i e =
      let q : i ≡ count_at s = omega arith in
      rw (drop_of_length-le (split s) {i = i} (omega (arith, split_length s))) (rw (q, laid.ends) (sym (drop-length s)))
  chain_from (suc d) i e =
      let l : i < count_at s = omega arith in
      rw (split_from s i l, chain_from d (suc i) (omega arith), ← laid.offsets i l, ← drop-drop (length_at s i) (offset_at s i) s)
      (take-append-drop (length_at s i) (drop (offset_at s i) s))

  ten : (d i : ℕ) → take (10 * suc d) (drop (contents_size i) s)
      ≡ (take 2 (drop (contents_size i) s) ++ (take 4 (drop (contents_size i + 2) s) ++ take 4 (drop (contents_size i + 6) s))) ++ take (10 * d) (drop (contents_size (suc i)) s)
  ten d i =
      let e : 10 * suc d ≡ 2 + (4 + (4 + 10 * d)) = omega arith in
      let b : contents_size i + 2 + 4 ≡ contents_size i + 6 = omega arith in
      let c : contents_size i + 6 + 4 ≡ contents_size (suc i) = omega arith in
      simp (e, take-add, drop-drop, b, c, append_assoc)

  module _ (bytes : Bytes s) where
    entries_from : (d i : ℕ) → i + d ≡ count_at s
        → entries (start_at s i) (codes_of (drop i (split s))) (sizes_of (bodies_of (drop i (split s)))) ≡ take (10 * d) (drop (contents_size i) s)
    unfolding entries start_at
    entries_from zero i e = rw (drop_of_length-le (split s) {i = i} (omega (arith, split_length s)))
    entries_from (suc d) i e =
        let l : i < count_at s = omega arith in
        let inside : contents_size i + 10 ≤ length s = omega (arith, laid.whole.inside) in
        let code = write_back 2 s (contents_size i) bytes (omega arith) in
        let offset = ap (le_bytes 4) (sym (laid.offsets i l)) ∙ write_back 4 s (contents_size i + 2) bytes (omega arith) in
        let size = ap (le_bytes 4) (body_long i l) ∙ write_back 4 s (contents_size i + 6) bytes (omega arith) in
        let rest : entries (start_at s i + length (body_at s i)) (codes_of (drop (suc i) (split s))) (sizes_of (bodies_of (drop (suc i) (split s)))) ≡ take (10 * d) (drop (contents_size (suc i)) s)
        = rw (body_long i l, ← laid.offsets i l) (entries_from d (suc i) (omega arith)) in
        rw (split_from s i l, ten d i) (ap₂ ◌++◌ (ap₂ ◌++◌ code (ap₂ ◌++◌ offset size)) rest)

    pub join_split : join (split s) ≡ s
    unfolding join contents_of start_at
    join_split =
        let k = count_at s in
        let room : contents_size k ≤ length s = laid.whole.inside in
        let count : le_bytes 2 k ≡ take 2 s = write_back 2 s 0 bytes (omega arith) in
        let es : entries (contents_size k) (codes_of (split s)) (sizes_of (bodies_of (split s))) ≡ take (10 * k) (drop 2 s) = entries_from k 0 (omega arith) in
        let bs : chain (bodies_of (split s)) ≡ drop (contents_size k) s = chain_from k 0 (omega arith) in
        let e : contents_size k ≡ 2 + 10 * k = omega arith in
        rw ((parts_lengths (split s)).0, split_length s)
        (append_assoc (le_bytes 2 k) _ _
        ∙ ap₂ ◌++◌ count (ap₂ ◌++◌ es bs)
        ∙ rw (e, ← drop-drop (10 * k) 2 s, take-append-drop (10 * k) (drop 2 s)) (take-append-drop 2 s))
