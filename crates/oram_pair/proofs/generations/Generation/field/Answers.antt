use Rattle.std.proofs.Common.{[], ◌∷◌, ℕ, List, ◌∙◌, ap, refl}
use Rattle.oram_redo.specs.Log.{check_bytes}
use Rattle.oram_pair.specs.Fronts.{eight_bytes}
use Rattle.oram_pair.proofs.GenerationFields.{joined, two_parts}
use Rattle.oram_pair.proofs.generations.Generation.field.Goals as goal

pub returns : goal.returns
unfolding eight_bytes
returns c =
    let zeros : List ℕ = 0 ∷ 0 ∷ 0 ∷ 0 ∷ 0 ∷ 0 ∷ 0 ∷ 0 ∷ [] in
    let first = c.copy_from_slice.new.self in
    let second = c.copy_from_slice-2.new.self in
    two_parts 8 8 first second zeros c.copy_from_slice.ensures.len refl
    ∙ joined _ _ _ _ (c.copy_from_slice.ensures.after ∙ c.to_le_bytes.ensures)
    (c.copy_from_slice-2.ensures.after ∙ c.check_of.ensures ∙ ap (λ (l : List ℕ). check_bytes l) c.text_of.ensures)
