-- The answers to a batch's two stamps, which are taken out of its answers.
use Rattle.std.proofs.Common.{◌≡◌, ℕ, ◌<◌, List, [], ◌∷◌, ◌++◌, length, get_or, sym, ap, ◌∙◌, arith}
use Rattle.std.specs.Global.{Vec}
use Rattle.std.specs.List.{remove}
use Rattle.oram_rounds.specs.Batches.{texts}
use Rattle.oram_rounds.proofs.Texts.{texts_by}

-- the first one is removed from the front, and the other one is at the end of the others
pub apart : (xs mid left : List (Vec ℕ)) (b d : Vec ℕ) → 1 < length xs → mid ≡ remove xs 0 → b ≡ get_or xs 0 b → mid ≡ left ++ d ∷ []
    → texts xs ≡ b.items ∷ (texts left ++ d.items ∷ [])
apart [] mid left b d low mid_is b_is left_is = absurd (omega (arith, low))
apart (x ∷ rest) mid left b d low mid_is b_is left_is =
    ap (λ (v : Vec ℕ). v.items ∷ texts rest) (sym b_is)
    ∙ ap (λ (ys : List (List ℕ)). b.items ∷ ys) (ap texts (sym mid_is) ∙ texts_by mid left d left_is)
