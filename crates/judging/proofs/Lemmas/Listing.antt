-- The list of the large marks, and the whole search: a mark is listed, or its radius is within the bound and it is in the index. Assumes nothing.
use Rattle.std.specs.Prelude.{ℕ, ◌+◌, ◌*◌, ◌<◌, ◌≤◌, ◌≡◌, Bool, false, List, ltb, eqb, length, get_or, set, take}
use Rattle.std.proofs.Math.Path.{refl, sym, ap}
use Rattle.std.proofs.Common.{ap₂, ◌∙◌, arith, lt-ltb, eqb-true, get_or-set_same, get_or-set_other}
use Rattle.std.proofs.lemmas.List.{get_or-take, length-take-le}
use Rattle.std.proofs.Math.Bool.{true, not}
use Rattle.std.proofs.Math.Decide.{dec_lt, ℕ_discrete}
use Rattle.lists.specs.Tests.{bit}
use Rattle.lists.proofs.TestLaws.{every_of, every_not, bit_small}
use Rattle.lists.specs.Counting.{times}
use Rattle.lists.specs.Blocks.{block}
use Rattle.lists.proofs.BlockLaws.{block_find}
use Rattle.marks.specs.Marks.{label_at, used_at}
use Rattle.marks.specs.Good.{GoodMarks}
use Rattle.elimination.specs.Reel.{Reel}
use Rattle.index.specs.Index.{index_entry_size, is_index}
use Rattle.index.specs.Blocks.{entry_at}
use Rattle.index.proofs.Laws.{index_once, index_block, block_tree, index_entries}
use Rattle.clashing.specs.declared.Subject.{Subject}
use Rattle.clashing.specs.Clash.{limit_at, clash, widest_radius, is_tight, subject_of, Proposable, Subjected, Fits}
use Rattle.clashing.proofs.Laws.Clash.{asked_of}
use Rattle.judging.specs.declared.Corner.{Corner}
use Rattle.judging.specs.Search.{is_clear, Table, Judgeable, Indexed, Searchable, Searched, Listed, LargeClear, Ready, Fillable, Filled}

-- ---- the list

pub listed_none : {s l : List ℕ} {n bound : ℕ} → Listed s n 0 bound l 0
listed_none = record { marks = λ i h. absurd (omega arith); all = λ g h. absurd (omega arith) }

-- no radius is above the largest that is allowed
pub listed_widest : {s l : List ℕ} {n : ℕ} → GoodMarks s n → Listed s n n widest_radius l 0
listed_widest good = record { marks = λ i h. absurd (omega arith); all = λ g h b. absurd (omega (arith, (good.each g h).used)) }

-- the next mark takes the next place, which counts where the mark is above the bound
pub listed_more : {s l : List ℕ} {n m bound k v : ℕ} {more : Bool} → m < n → k < length l → v ≡ m → more ≡ ltb bound (used_at s m)
    → Listed s n m bound l k → Listed s n (m + 1) bound (set l k v) (k + bit more)
listed_more {s} {l} {n} {m} {bound} {k} {v} {more} hm room iv im x =
    record {
      marks = λ i h. elim (ℕ_discrete i k) [
        | yes e ↦ rw (e, get_or-set_same l k v 0 room, iv) hm
        | no e ↦ rw (get_or-set_other l k i v 0 e) (x.marks i (omega (arith, bit_small more)))
      ];
      all = λ g h b. elim (dec_lt g m) [
        | yes c ↦ (let (i, d, e) = x.all g c b in (i, omega arith, get_or-set_other l k i v 0 (λ z. omega arith) ∙ e))
        | no c ↦
            (let same : g ≡ m = omega arith in
            let b' : bound < used_at s m = rw same at b in
            let told : more ≡ true = im ∙ lt-ltb bound (used_at s m) b' in
            (k, rw told (omega arith), get_or-set_same l k v 0 room ∙ iv ∙ sym same))
      ];
    }

-- what is listed at the front is what a list of these alone has
pub listed_front : {s l : List ℕ} {n m bound k : ℕ} → k ≤ length l → Listed s n m bound l k → Listed s n m bound (take k l) (length (take k l))
listed_front {l = l} {k = k} h x =
    let long : length (take k l) ≡ k = length-take-le k l h in
    record {
      marks = λ i j. rw (front i (omega arith)) (x.marks i (omega arith));
      all = λ g j b. let (i, d, e) = x.all g j b in (i, omega arith, front i d ∙ e);
    }
  where
    front : (i : ℕ) → i < k → get_or (take k l) i 0 ≡ get_or l i 0
    front i j = get_or-take k l i 0 j

-- ---- what is judged

module _ {r : Reel} {p t : List ℕ} (j : Judgeable r p t) where
  open r use {marks as s, count as n}

  few : n ≤ 4096
  few = j.asked.marks.few

  pub indexed : Indexed r p t
  indexed =
      record {
        asked = j.asked;
        index_long = j.index_long;
        below = index_entries s p n (omega (arith, few)) t j.index_right;
      }

  pub fillable : {z : List ℕ} → length z ≡ 4096 → Fillable s t z 0 n
  fillable long =
      record {
        n = n;
        marks_long = j.asked.marks.there;
        index_long = j.index_long;
        few = few;
        below = indexed.below;
        there = omega arith;
        room = omega (arith, few);
      }

-- what a trial carries is what is judged
pub judgeable : {r : Reel} {p t : List ℕ} → GoodMarks r.marks r.count → Proposable r p → length t ≡ index_entry_size * r.count
    → is_index r.marks p t r.count ≡ true → Judgeable r p t
judgeable good passed long right = record { asked = asked_of good passed; index_long = long; index_right = right }

-- the table that was filled is that of the whole index
pub whole_table : {r : Reel} {p t y z : List ℕ} {c : Corner} → Judgeable r p t → Filled r.marks t y z 0 r.count true c → Table r.marks p t z 0 r.count true
whole_table {r} {p} {t} j f =
    f.splits p (block_tree r.marks p r.count (omega (arith, j.asked.marks.few)) t j.index_right)

-- ---- the whole search, for mark m

module _ {r : Reel} {p t z l : List ℕ} {bound m : ℕ} (j : Judgeable r p t) (a : Ready r p t z l bound) (hm : m < r.count) where
  open r use {marks as s, count as n, shape, popups}

  module _ {q : Subject} (is : q ≡ subject_of shape s popups p bound m) where
    same_m : q.m ≡ m
    unfolding subject_of
    same_m = ap (λ (u : Subject). u.m) is

    same_value : q.value ≡ limit_at p m
    unfolding subject_of
    same_value = ap (λ (u : Subject). u.value) is

    same_tight : q.tight ≡ is_tight popups p m
    unfolding subject_of
    same_tight = ap (λ (u : Subject). u.tight) is

    same_label : q.label ≡ label_at s m
    unfolding subject_of
    same_label = ap (λ (u : Subject). u.label) is

    pub same_shape : q.shape ≡ shape
    unfolding subject_of
    same_shape = ap (λ (u : Subject). u.shape) is

    pub subjected : Subjected s n p q
    subjected = record { inside = rw same_m hm; label_is = rw same_m same_label; value_is = rw same_m same_value }

    pub searchable : Fits q → Searchable r p t z q 0 n true
    searchable f =
        record {
          subject = subjected;
          fits = f;
          tight_is = rw same_m same_tight;
          shape_is = same_shape;
          there = omega arith;
          splits = a.splits;
        }

    -- a listed mark clashes
    pub large_found : LargeClear r p q.m l false → false ≡ is_clear r p m
    unfolding is_clear
    large_found x =
        let (i, h, c) = x.found refl in
        sym (every_not (λ g. not (clash r p m g)) n (get_or l i 0) (a.listed.marks i h)
        (ap not (sym (ap (λ (j : ℕ). clash r p j (get_or l i 0)) same_m) ∙ c)))

    -- every mark has a place
    place_of : (g : ℕ) → g < n → (i : ℕ) × (0 ≤ i) × (i < 0 + n) × (eqb g (entry_at t i) ≡ true)
    place_of g h =
        let few : n ≤ 65536 = omega (arith, j.asked.marks.few) in
        let once : times g (block (entry_at t) 0 n) ≡ 1 = rw (index_block s p n few t j.index_right) (index_once s p n few g h) in
        block_find (eqb g) (entry_at t) 0 n (omega (arith, once))

    pub clear_is : {b : Bool} → LargeClear r p q.m l true → Searched r p t q 0 n b → b ≡ is_clear r p m
    unfolding is_clear
    clear_is {b = true} w x = sym (every_of (λ g. not (clash r p m g)) n each)
      where
        each : (g : ℕ) → g < n → not (clash r p m g) ≡ true
        each g h =
            elim (dec_lt bound (used_at s g)) [
              | yes big ↦ (let (i, d, e) = a.listed.all g h big in ap not (sym (ap₂ (clash r p) same_m e) ∙ w.clear refl i d))
              | no low ↦
                  (let (i, lo, hi, hit) = place_of g h in
                  let e : entry_at t i ≡ g = sym (eqb-true g (entry_at t i) hit) in
                  let near : used_at s (entry_at t i) ≤ bound = rw e (omega arith) in
                  let none = x.clear refl bound (is ∙ ap (subject_of shape s popups p bound) (sym same_m)) i lo hi near in
                  ap not (sym (ap₂ (clash r p) same_m e) ∙ none))
            ]
    clear_is {b = false} w x =
        let (i, lo, hi, c) = x.found refl in
        sym (every_not (λ g. not (clash r p m g)) n (entry_at t i) ((indexed j).below i (omega arith))
        (ap not (sym (ap (λ (j : ℕ). clash r p j (entry_at t i)) same_m) ∙ c)))
