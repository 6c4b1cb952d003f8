-- Bodies that are lent, passed one by one: what is left of them. Assumes nothing.
use Rattle.std.proofs.Common.{◌≡◌, ℕ, ◌+◌, ◌<◌, List, [], map, length, get_or, drop, sym}
use denote.Ref.{Bor}
use Rattle.std.proofs.lemmas.List.{get_or-map}
use Rattle.std.proofs.lemmas.List.Edits.{sets}
use Rattle.contents.specs.Contents.{chain}
use Rattle.joining.specs.Writing.{chain_less, bodies_turn}

-- what stands behind the last
abbrev pub none : Bor (List ℕ)
none = record { ref_ptr = (0, 0); now = [] }

module _ (bodies : List (Bor (List ℕ))) (i : ℕ) (h : i < length bodies) where
  pub here : (get_or bodies i none).now ≡ get_or (map (λ x. x.now) bodies) i []
  here = sym (get_or-map (λ x. x.now) bodies i none [] h)

  pub left_less : length (chain (drop i (map (λ x. x.now) bodies)))
      ≡ length (get_or bodies i none).now + length (chain (drop (i + 1) (map (λ x. x.now) bodies)))
  left_less = chain_less (λ x. x.now) bodies i h here

  pub left_put : (out : List ℕ) {out' : List ℕ} (at : ℕ) {at' : ℕ}
      → (at' ≡ at + length (get_or bodies i none).now) × (out' ≡ sets out at (get_or bodies i none).now)
      → sets out' at' (chain (drop (i + 1) (map (λ x. x.now) bodies))) ≡ sets out at (chain (drop i (map (λ x. x.now) bodies)))
  left_put out at p = bodies_turn (λ x. x.now) bodies out at i h here p
