use Rattle.std.proofs.Common.{◌≡◌, ◌++◌, [], ◌∷◌, ℕ, List, length, ◌∙◌, ap, refl, take, drop}
use Rattle.std.proofs.lemmas.List.{drop_at}
use Rattle.oram_pair.proofs.FrontBytes.{two_halves}
use Rattle.oram_pair.proofs.fronts.front_of.Goals as goal

pub returns : goal.returns
returns c =
    let zeros : List ℕ = 0 ∷ 0 ∷ 0 ∷ 0 ∷ 0 ∷ 0 ∷ 0 ∷ 0 ∷ 0 ∷ 0 ∷ 0 ∷ 0 ∷ 0 ∷ 0 ∷ 0 ∷ 0 ∷ [] in
    let first = c.copy_from_slice.new.self in
    let second = c.copy_from_slice-2.new.self in
    let rest : length (take 16 (drop 16 (first ++ zeros))) ≡ 16 = ap (λ (l : List ℕ). length (take 16 l)) (drop_at first zeros 16 c.copy_from_slice.ensures.len) in
    two_halves first second zeros c.copy_from_slice.ensures.len (c.copy_from_slice-2.ensures.len ∙ rest) refl
    ∙ ap (λ (l : List ℕ). l ++ second) c.copy_from_slice.ensures.after ∙ ap (λ (l : List ℕ). c.args.letters.now ++ l) c.copy_from_slice-2.ensures.after
