-- The records go out, each into the slot of its number. Assumes nothing.
use Prim.Native.Nat.{ℕ, zero, suc, ◌+◌, ◌*◌, ◌<◌, ◌≤◌}
use mathlib.Core.Path.{◌≡◌, refl, sym, ap, ◌∙◌}
use mathlib.Core.List.{List}
use mathlib.Core.Logic.{◌≢◌}
use native.Mathlib.Omega.{arith}
use native.Mathlib.Decide.{dec_lt}
use borrow.Author.Count.{below_more}
use borrow.Author.Tests.{eq-eqb, ne_eqb}
use lib.ListN.{length, take, take-append-drop}
use lib.Seq.{sets, take-add}
use Rattle.lists.specs.Stores.{Clear, Kept}
use Rattle.lists.proofs.StoreLaws.{kept_wide, kept_then, kept_sets}
use Rattle.elimination.specs.declared.Record.{Record}
use Rattle.elimination.specs.Process.{Removal, stays, gone, process}
use Rattle.elimination.proofs.Schedule.{record_length}
use Rattle.elimination.specs.Records.{record_size, record_bytes, removal_record, records}
use Rattle.searching.specs.Rows.{row_number, row_record, StoredAt}
use Rattle.scheduling.specs.Settling.{SameFields, Processed}
use Rattle.scheduling.specs.Sending.{sent_record, send_at, RowsNumbered, slot, Spread, Published}
use Rattle.scheduling.proofs.Bytes.{part_sets, part_kept, rest_kept}
use Rattle.scheduling.proofs.Progress.{number_same}

-- ---- one record more

-- the slots of two numbers do not meet
slots_apart : (i j : ℕ) → i ≢ j → Clear (record_size * i) record_size (record_size * j) (record_size * j + record_size)
slots_apart i j d = elim (dec_lt i j) [ yes h ↦ omega arith | no h ↦ omega arith ]

pub spread_more : {w : List ℕ} {n p : ℕ} {out₀ out out' : List ℕ} → p < n → record_size * n ≤ length out₀ → RowsNumbered w n → Spread w n p out₀ out
    → out' ≡ sets out (record_size * row_number w p) (send_at w p) → Spread w n (p + 1) out₀ out'
spread_more {w} {n} {p} {out₀} {out} {out'} h room num g e =
    let at : ℕ = record_size * row_number w p in
    let inside = num.inside p h in
    let long = record_length (sent_record (row_record w p)) in
    let k : Kept out out' at (at + record_size) = rw (long, ← e) at (kept_sets (send_at w p) out at) in
    record {
      kept = kept_then g.kept (kept_wide k (omega arith) (omega arith));
      slots = below_more _ p
          (λ q l. part_kept k (record_size * row_number w q) record_size (slots_apart _ _ (num.distinct q p l h)) ∙ g.slots q l)
          (rw e (part_sets (send_at w p) out at record_size long (omega (arith, g.kept.long))));
    }

-- ---- the whole

pub numbered_like : {w v : List ℕ} {n : ℕ} → SameFields n w v → RowsNumbered w n → RowsNumbered v n
numbered_like s num =
    record {
      inside = λ q h. rw (number_same s q h) (num.inside q h);
      distinct = λ q p a b. rw (number_same s q (omega arith), number_same s p b) (num.distinct q p a b);
    }

send_stored : (w : List ℕ) (q : ℕ) (r : Removal) → StoredAt w q r → send_at w q ≡ record_bytes (removal_record r)
send_stored w q stays e = rw (eq-eqb (row_record w q).den 0 (ap (λ (r : Record). r.den) e))
send_stored w q (gone h f) (a, e, z) = rw (ne_eqb (row_record w q).den 0 (λ d. omega arith), a, e)

-- the slots one after the other are the records
gather : (s : ℕ → Removal) (out : List ℕ) (n k : ℕ) → k ≤ n → ((i : ℕ) → i < n → slot out i ≡ record_bytes (removal_record (s i)))
    → take (record_size * k) out ≡ records s k
unfolding records
gather s out n zero h all = refl
gather s out n (suc k) h all =
    let e : record_size * suc k ≡ record_size * k + record_size = omega arith in
    rw e (take-add (record_size * k) record_size out ∙ rw (gather s out n k (omega arith) all, all k (omega arith)))

pub published : {shape : ℕ} {w v : List ℕ} {n : ℕ} {out₀ out : List ℕ} → Processed shape n w v → Spread v n n out₀ out → Published shape w n out₀ out
published {shape} {w} {v} {n} {out₀} {out} pr sp =
    record {
      records_are = λ M order o.
          let each : (i : ℕ) → i < n → slot out i ≡ record_bytes (removal_record (process M i)) = λ i h.
          let (q, b, e) = o.ranking.onto i (omega (arith, o.counted)) in
          let c : q < n = omega (arith, o.counted) in
          let f : row_number v q ≡ i = number_same pr.fields q c ∙ o.number q c ∙ e in
          rw (f, e) at (sp.slots q c ∙ send_stored v q (process M (order q)) (pr.removals M order o q c)) in
          sym (take-append-drop (record_size * n) out) ∙ rw (gather (process M) out n n (omega arith) each, rest_kept sp.kept);
    }
