-- Several values of one kind, one after the other.
use Rattle.std.proofs.Common.{◌≡◌, ℕ, zero, suc, List, [], ◌∷◌, ◌++◌, length, Ok, refl, ap, ◌∙◌, append_assoc}
use Rattle.std.specs.Prelude.{IfOk}
use Rattle.std.specs.List.{flat_map, AllByRecursion}
use Rattle.std.proofs.lemmas.List.Concat.{flat_map-cons}
use Rattle.oram_state.specs.Parser.{Reading, many}
use Rattle.oram_state.proofs.Tools.{IsBytes, Took, took_both, then_ok, goes}

-- a reader takes only such values, and takes each of them again
pub record Law {X : Type 0} (spelled : X → List ℕ) (Is : X → Type 0) (next : List ℕ → Reading X) : Type 0 where
  pub takes : (text : List ℕ) → IsBytes text → IfOk (next text) (λ x. Took text (spelled x.0) x.1 × Is x.0)
  pub again : (x : X) (rest : List ℕ) → Is x → next (spelled x ++ rest) ≡ Ok (x, rest)

pub many_takes : {X : Type 0} (spelled : X → List ℕ) (Is : X → Type 0) (next : List ℕ → Reading X) → Law spelled Is next → (n : ℕ) (text : List ℕ) → IsBytes text
    → IfOk (many next n text) (λ x. Took text (flat_map spelled x.0) x.1 × (length x.0 ≡ n) × AllByRecursion Is x.0)
unfolding many
many_takes spelled Is next law zero text h = (record { parts = refl; bytes = h }, refl, tt)
many_takes spelled Is next law (suc n) text h =
    then_ok _ _ (next text) _ (law.takes text h) (λ a p. then_ok _ _ (many next n a.1) _ (many_takes spelled Is next law n a.1 p.0.bytes) (λ b q.
    (rw flat_map-cons (took_both p.0 q.0), ap suc q.1, (p.1, q.2))))

pub many_again : {X : Type 0} (spelled : X → List ℕ) (Is : X → Type 0) (next : List ℕ → Reading X) → Law spelled Is next → (xs : List X) (rest : List ℕ) → AllByRecursion Is xs
    → many next (length xs) (flat_map spelled xs ++ rest) ≡ Ok (xs, rest)
unfolding many
many_again spelled Is next law [] rest h = refl
many_again spelled Is next law (x ∷ xs) rest h =
    let regrouped : flat_map spelled (x ∷ xs) ++ rest ≡ spelled x ++ (flat_map spelled xs ++ rest) = ap (λ (y : List ℕ). y ++ rest) (flat_map-cons spelled x xs) ∙ append_assoc (spelled x) (flat_map spelled xs) rest in
    ap (many next (suc (length xs))) regrouped
    ∙ goes (next (spelled x ++ (flat_map spelled xs ++ rest))) (x, flat_map spelled xs ++ rest) _ _ (law.again x (flat_map spelled xs ++ rest) h.0)
    (goes (many next (length xs) (flat_map spelled xs ++ rest)) (xs, rest) _ _ (many_again spelled Is next law xs rest h.1) refl)
