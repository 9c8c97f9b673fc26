-- Carrying out a plan on references to blocks.
use Rattle.std.proofs.Common.{◌≡◌, ℕ, zero, suc, ◌+◌, List, [], ◌∷◌, ◌++◌, length, map, Option, Bool, true, false, cond, Vec, Global, refl, sym, ap, subst, ◌∙◌}
use Rattle.std.specs.List.Sorted.{IsPermutation}
use Rattle.std.proofs.lemmas.List.{map-append, length-map}
use Rattle.std.proofs.lemmas.List.Sorted.{IsPermutation-map}
use Rattle.std.proofs.lemmas.Simd.{map-map}
use Rattle.oram_bucket.specs.declared.block.Block.{Block}
use Rattle.oram_bucket.specs.Cell.{IsRising}
use Rattle.oram_stash.specs.Plan.{list_at, joined, is_level, stays, picked, IsPlan, Reaches}
use Rattle.oram_stash.specs.Eviction.{listed, all_listed, IsEviction}
use Rattle.oram_stash.proofs.Moves.{items_of}
use Rattle.oram_stash.proofs.Outcome.{carried_out}

-- the borrowed blocks in vectors
abbrev pub lent_in : {X : Type 0} → (X → Block) → List (Vec X Global) → List (List Block)
lent_in {X} f vs = map (λ (v : Vec X Global). map f v.items) vs

lent_at : {X : Type 0} (f : X → Block) (vs : List (Vec X Global)) (l : ℕ) → listed (lent_in f vs) l ≡ map f (list_at (items_of vs) l)
lent_at f [] l = refl
lent_at f (v ∷ vs) zero = refl
lent_at f (v ∷ vs) (suc l) = lent_at f vs l

all_lent : {X : Type 0} (f : X → Block) (vs : List (Vec X Global)) → all_listed (lent_in f vs) ≡ map f (joined (items_of vs))
all_lent f [] = refl
all_lent f (v ∷ vs) = ap (λ ys. map f v.items ++ ys) (all_lent f vs) ∙ sym (map-append f v.items (joined (items_of vs)))

picked-map : {X : Type 0} (f : X → Block) (p : Option ℕ → Bool) (qs : List (Option ℕ)) (xs : List X) → map f (picked p qs xs) ≡ picked p qs (map f xs)
picked-map f p [] xs = refl
picked-map f p (q ∷ qs) [] = refl
picked-map f p (q ∷ qs) (x ∷ xs) = elim (p q) as (λ b. map f (cond b (x ∷ picked p qs xs) (picked p qs xs)) ≡ cond b (f x ∷ picked p qs (map f xs)) (picked p qs (map f xs))) [
  | true ↦ ap (λ ys. f x ∷ ys) (picked-map f p qs xs)
  | false ↦ picked-map f p qs xs
]

pub placed : {X : Type 0} (f : X → Block) (deep slots x : ℕ) (blocks : List X) (seen : List ℕ) (levels read : List (Option ℕ)) (vs : List (Vec X Global)) (rest : List X)
    → seen ≡ map (λ b. (f b).leaf) blocks → read ≡ levels → IsRising (map f blocks) → IsPlan (Reaches deep x seen) (length seen) deep slots 0 levels
    → ((l : ℕ) → list_at (items_of vs) l ≡ picked (is_level l) read blocks) → rest ≡ picked stays read blocks → length vs ≡ deep + 1 → IsPermutation blocks (joined (items_of vs) ++ rest)
    → IsEviction deep slots x (map f blocks) (lent_in f vs) (map f rest)
placed {X} f deep slots x blocks seen levels read vs rest seen_is read_is rising plan to_list to_rest long together =
    let mapped : length (lent_in f vs) ≡ length vs = simp length-map in
    let whole : map f (joined (items_of vs) ++ rest) ≡ all_listed (lent_in f vs) ++ map f rest = map-append f (joined (items_of vs)) rest ∙ ap (λ ys. ys ++ map f rest) (sym (all_lent f vs)) in
    let P : List Block → Type 0 = λ ys. IsPermutation (map f blocks) ys in
    carried_out deep slots x (map f blocks) seen (map f blocks) levels read (lent_in f vs) (map f rest)
    (seen_is ∙ sym (map-map (λ (b : Block). b.leaf) f blocks)) refl read_is rising plan
    (λ l. lent_at f vs l ∙ ap (map f) (to_list l) ∙ picked-map f (is_level l) read blocks)
    (ap (map f) to_rest ∙ picked-map f stays read blocks)
    (mapped ∙ long)
    (subst P whole (IsPermutation-map f blocks (joined (items_of vs) ++ rest) together))
