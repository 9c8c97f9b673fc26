-- Short lists, and lists with equal beginnings.
use Rattle.std.proofs.Common.{◌≡◌, ℕ, List, [], ◌∷◌, ◌++◌, length, take, drop, refl, sym, ap, ◌∙◌, arith}
use Rattle.std.specs.Prelude.{All}
use Rattle.std.proofs.lemmas.List.{drop_at, take_at}
use Rattle.std.proofs.lemmas.List.Elements.{All-cons}

pub all_one : {X : Type 0} (P : X → Type 0) (x : X) → P x → All P (x ∷ [])
all_one P x is = All-cons P x [] is (λ k d below. absurd (omega arith))

-- two texts that begin with equally long parts
pub front_one : (a b xs ys : List ℕ) → length a ≡ length b → a ++ xs ≡ b ++ ys → a ≡ b
front_one a b xs ys long same = sym (take_at a xs (length a) refl) ∙ ap (take (length a)) same ∙ take_at b ys (length a) (sym long)

pub back_one : (a b xs ys : List ℕ) → length a ≡ length b → a ++ xs ≡ b ++ ys → xs ≡ ys
back_one a b xs ys long same = sym (drop_at a xs (length a) refl) ∙ ap (drop (length a)) same ∙ drop_at b ys (length a) (sym long)
