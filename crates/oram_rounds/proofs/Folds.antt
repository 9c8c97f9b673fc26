-- One more STORE is laid over a path.
use Rattle.std.proofs.Common.{ℕ, List, [], ◌∷◌, ◌++◌, refl, sym, subst}
use Rattle.oram_geometry.specs.declared.Sizes.{Sizes}
use Rattle.oram_rounds.specs.Overlay.{LaysAllOver, LaysOver}

pub lays_more : (d : Sizes) (len tree leaf : ℕ) (stores : List (List ℕ)) (body bytes mid new : List ℕ) → LaysAllOver d len tree leaf stores bytes mid
    → LaysOver d len tree leaf body mid new → LaysAllOver d len tree leaf (stores ++ body ∷ []) bytes new
lays_more d len tree leaf [] body bytes mid new lays over = (new, subst (λ (b : List ℕ). LaysOver d len tree leaf body b new) (sym lays) over, refl)
lays_more d len tree leaf (first ∷ stores) body bytes mid new lays over = (lays.0, lays.1, lays_more d len tree leaf stores body lays.0 mid new lays.2 over)
