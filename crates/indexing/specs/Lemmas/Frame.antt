-- What a change of a block leaves: the marks, the schedule, every number that is not of the block, and what follows the index.
use Rattle.std.specs.Prelude.{ℕ, ◌+◌, ◌*◌, ◌≤◌, ◌≡◌, List}
use Rattle.std.proofs.Common.{arith}
use Rattle.lists.specs.Stores.{Clear}
use Rattle.lists.proofs.StoreLaws.{kept_none, kept_wide, kept_then, kept_take, kept_cut}
use Rattle.lists.specs.Blocks.{block}
use Rattle.lists.proofs.BlockLaws.{block_same}
use Rattle.numbers.proofs.Laws.{number_kept}
use Rattle.indexing.specs.Buffer.{marks_in, schedule_in, member_at}
use Rattle.indexing.specs.Steps.{Elsewhere}

-- ---- elsewhere than in a block

pub elsewhere_none : (n : ℕ) (t : List ℕ) (lo size : ℕ) → Elsewhere n t t lo size
elsewhere_none n t lo size = record { kept = kept_none t (25 * n + 2 * lo) (25 * n + 2 * (lo + size)) }

pub elsewhere_wide : {n : ℕ} {t u : List ℕ} {at m lo size : ℕ} → Elsewhere n t u at m → lo ≤ at → at + m ≤ lo + size → Elsewhere n t u lo size
elsewhere_wide e h l = record { kept = kept_wide e.kept (omega arith) (omega arith) }

pub elsewhere_then : {n : ℕ} {t u v : List ℕ} {lo size : ℕ} → Elsewhere n t u lo size → Elsewhere n u v lo size → Elsewhere n t v lo size
elsewhere_then d e = record { kept = kept_then d.kept e.kept }

module _ {n : ℕ} {t u : List ℕ} {lo size : ℕ} (e : Elsewhere n t u lo size) where
  pub marks_stay : marks_in n u ≡ marks_in n t
  marks_stay = kept_take e.kept (11 * n) (omega arith)

  pub schedule_stays : schedule_in n u ≡ schedule_in n t
  schedule_stays = kept_cut e.kept (11 * n) (14 * n) (omega arith)

  pub member_stays : (i : ℕ) → Clear i 1 lo (lo + size) → member_at n u i ≡ member_at n t i
  member_stays i o = number_kept e.kept 2 (25 * n + 2 * i) (omega arith)

  pub block_stays : (at m : ℕ) → Clear at m lo (lo + size) → block (member_at n u) at m ≡ block (member_at n t) at m
  block_stays at m o = block_same (member_at n u) (member_at n t) at at m (λ i g. member_stays (at + i) (omega arith))
