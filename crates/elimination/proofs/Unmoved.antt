-- What does not move the process, for any rank and any pair value: other marks of the same ranks and pair values, and any marks of lower rank. And
-- so what does not move a schedule: popups that are all 0, and marks of lower priority.
-- Assumes nothing.
use Rattle.std.specs.Prelude.{ℕ, ◌<◌, ◌≡◌, refl, List, []}
use Rattle.std.proofs.Common.{sym, ap, subst, ◌∙◌}
use Rattle.marks.specs.Pairs.{popup_at}
use Rattle.marks.proofs.PairLaws.{pairs_none, without_popups}
use Rattle.elimination.specs.declared.Record.{Record}
use Rattle.elimination.specs.Marks.{Marks, Proper}
use Rattle.elimination.specs.Process.{Removal, stays, gone, process}
use Rattle.elimination.specs.Alike.{Alike, among, Top, renumber, FareAlike, both_stay, both_gone}
use Rattle.elimination.specs.Records.{value_of, records, mark_record, Reads, removal_record}
use Rattle.elimination.specs.Reel.{Reel, marks_of, GoodReel, schedule_of}
use Rattle.elimination.specs.Important.{important_count, important_at, SameImportant, SameRecord, both_never, both_by, Unmoved}
use Rattle.elimination.proofs.Theorems.{process_eliminator}
use Rattle.elimination.proofs.Sheet.{sheet_proper}
use Rattle.elimination.proofs.Schedule.{schedule_reads}
use Rattle.elimination.proofs.Lemmas.Alike.{same_process, records_same}
use Rattle.elimination.proofs.Lemmas.Runs.{process_settled}
use Rattle.elimination.proofs.Lemmas.Top.{among_proper, top_settled}
use Rattle.elimination.proofs.Lemmas.Important.{important_top, important_alike}

-- The process sees only the order of the ranks and the pair values: where these are the same, so is every removal, to the record.
pub alike_process : (M N : Marks) → Alike M N → (m : ℕ) → m < M.count → process M m ≡ process N m
alike_process = same_process

-- The highest-ranked marks fare as they do by themselves: no mark of lower rank bears on them.
pub top_process : (M : Marks) → Proper M → (c : ℕ) (f : ℕ → ℕ) → Top M c f
    → (i : ℕ) → i < c → process M (f i) ≡ renumber f (process (among M c f) i)
top_process M ok c f top =
    top_settled M ok c f top (process M) (process (among M c f)) (process_settled M ok)
    (process_settled (among M c f) (among_proper M ok c f top))

-- So where the c highest-ranked marks of two are alike, they fare alike, whatever the others are.
pub tops_fare_alike : (M N : Marks) → Proper M → Proper N → (c : ℕ) (f g : ℕ → ℕ) → Top M c f → Top N c g
    → Alike (among M c f) (among N c g) → (i : ℕ) → i < c → FareAlike c f g (process M (f i)) (process N (g i))
tops_fare_alike M N okM okN c f g topM topN like i h = cases (process (among M c f) i) refl
  where
    here : process M (f i) ≡ renumber f (process (among M c f) i)
    here = top_process M okM c f topM i h

    there : process N (g i) ≡ renumber g (process (among M c f) i)
    there = top_process N okN c g topN i h ∙ ap (renumber g) (sym (alike_process (among M c f) (among N c g) like i h))

    cases : (x : Removal) → process (among M c f) i ≡ x → FareAlike c f g (process M (f i)) (process N (g i))
    cases stays e = rw (here, there, e) both_stay
    cases (gone j v) e =
        let x = process_eliminator (among M c f) (among_proper M okM c f topM) i j v h e in
        rw (here, there, e) (both_gone x.inside)

-- Reels whose marks are alike have the same schedule, byte for byte.
pub alike_schedule : (r q : Reel) → Alike (marks_of r) (marks_of q) → schedule_of r ≡ schedule_of q
unfolding schedule_of
alike_schedule r q like =
    records_same (process (marks_of r)) (process (marks_of q)) r.count (alike_process (marks_of r) (marks_of q) like)
    ∙ ap (records (process (marks_of q))) like.counts

-- Popups that are all 0 are as none: the schedule is the same, byte for byte.
pub unpopped_schedule : (r : Reel) → ((m : ℕ) → m < r.count → popup_at r.popups m ≡ 0)
    → schedule_of r ≡ schedule_of (record { marks = r.marks; count = r.count; edition = r.edition; shape = r.shape; popups = [] })
unpopped_schedule r none =
    alike_schedule r _
    (record {
      counts = refl;
      ranks = λ i j hi hj. ((λ l. l), (λ l. l));
      values = λ i j hi hj. pairs_none r.shape r.marks r.popups i j (none i hi) (none j hj) ∙ sym (without_popups r.shape r.marks i j);
    })

-- records that are the same name the same removal value
pub same_value : {c : ℕ} {f g : ℕ → ℕ} {d e : Record} → SameRecord c f g d e → value_of d ≡ value_of e
same_value both_never = refl
same_value (both_by l) = refl

-- Marks of lower priority do not move those of priority p and above: 02's "Notes don't move breaks", for either edition, with popups and of any shape.
module _ (p : ℕ) (r q : Reel) (r-good : GoodReel r) (q-good : GoodReel q) (same : SameImportant p r q) where
  abbrev c : ℕ
  c = important_count p r

  abbrev f : ℕ → ℕ
  f = important_at p r

  abbrev g : ℕ → ℕ
  g = important_at p q

  top_here : Top (marks_of r) c f
  top_here = important_top p r r-good.good.few r-good.bytes

  top_there : Top (marks_of q) c g
  top_there = subst (λ (k : ℕ). Top (marks_of q) k g) (sym same.as_many) (important_top p q q-good.good.few q-good.bytes)

  fare_alike : (i : ℕ) → i < c → FareAlike c f g (process (marks_of r) (f i)) (process (marks_of q) (g i))
  fare_alike =
      tops_fare_alike (marks_of r) (marks_of q) (sheet_proper r r-good.good.few) (sheet_proper q q-good.good.few) c f g top_here top_there
      (important_alike p r q r-good.good.few q-good.good.few same)

  pub important_unmoved : Unmoved p r (schedule_of r) q (schedule_of q)
  important_unmoved i h =
      rw (is_record (schedule_reads r r-good (f i) (top_here.inside i h)), is_record (schedule_reads q q-good (g i) (top_there.inside i h)))
      (cases (fare_alike i h))
    where
      is_record : {u : List ℕ} {a : ℕ} {d : Record} → Reads u a d → mark_record u a ≡ d
      is_record x = rw (x.eliminator, x.numerator, x.denominator)

      cases : {x y : Removal} → FareAlike c f g x y → SameRecord c f g (removal_record x) (removal_record y)
      cases both_stay = both_never
      cases (both_gone l) = both_by l
