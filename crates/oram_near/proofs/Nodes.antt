-- The nodes of a path's levels.
use Rattle.std.proofs.Common.{◌≡◌, ℕ, ◌+◌, ◌-◌, ◌*◌, ◌/◌, ◌^◌, ◌<◌, ◌≤◌, arith, zero, suc, List, ◌++◌, [], ◌∷◌, append-nil, sym, ap, ◌∙◌}
use Rattle.std.proofs.Math.Nat.{mul-le-mul_right, pow-le-pow_right}
use Rattle.std.proofs.lemmas.Nat.{pow_pos, pow-add, shr_below}
use Rattle.std.proofs.lemmas.Grind.{flat_map-append}
use Rattle.std.proofs.lemmas.List.FromFn.{map-range_with_len_more}
use Rattle.std.specs.List.{flat_map, range_with_len}
use Rattle.oram_geometry.specs.Path.{node_on}
use Rattle.oram_host_laws.proofs.Handed.{node_same}
use Rattle.oram_link_laws.proofs.Overlay.{one_level}
use Rattle.oram_near.specs.Near.{path_nodes}
use Rattle.oram_near.specs.NearLevels.{nodes_of}

-- a node of the top levels is one of theirs
pub node_near : (depth leaf level levels : ℕ) → leaf < 2 ^ depth → level < levels → levels ≤ depth → node_on depth leaf level + 1 ≤ nodes_of levels
unfolding node_on
node_near depth leaf level levels fits low deep =
    let whole : 2 ^ depth ≡ 2 ^ (level + (depth - level)) = ap (λ (k : ℕ). 2 ^ k) (let e : depth ≡ level + (depth - level) = omega (arith, low, deep) in e) in
    let below : leaf / 2 ^ (depth - level) < 2 ^ level = shr_below leaf level (depth - level) (omega (arith, fits, whole)) in
    let twice : 2 ^ (level + 1) ≡ 2 ^ level * 2 = pow-add 2 level 1 in
    let most : 2 ^ (level + 1) ≤ 2 ^ levels = pow-le-pow_right (omega arith) (omega (arith, low)) in
    omega (arith, below, twice, most, pow_pos level)

pub record_near : (depth leaf level levels len : ℕ) → leaf < 2 ^ depth → level < levels → levels ≤ depth → (node_on depth leaf level + 1) * len ≤ nodes_of levels * len
record_near depth leaf level levels len fits low deep = mul-le-mul_right len (node_near depth leaf level levels fits low deep)

-- equal nodes of two paths have one level
pub same_level : (depth a b i j : ℕ) → a < 2 ^ depth → b < 2 ^ depth → i ≤ depth → j ≤ depth → node_on depth a i ≡ node_on depth b j → i ≡ j
same_level depth a b i j a_in b_in i_low j_low e = one_level depth a b i j a_in b_in i_low j_low (node_same depth a i ∙ e ∙ sym (node_same depth b j))

-- one number more
range_more : (a n : ℕ) → range_with_len a (suc n) ≡ range_with_len a n ++ (a + n) ∷ []
range_more a zero = ap (λ (x : ℕ). x ∷ []) (let e : a ≡ a + 0 = omega arith in e)
range_more a (suc n) =
    ap (λ (xs : List ℕ). a ∷ xs) (range_more (a + 1) n)
    ∙ ap (λ (x : ℕ). a ∷ range_with_len (a + 1) n ++ x ∷ []) (let e : a + 1 + n ≡ a + suc n = omega arith in e)

-- the records of one level more
pub flat_more : (f : ℕ → List ℕ) (a n : ℕ) → flat_map f (range_with_len a (n + 1)) ≡ flat_map f (range_with_len a n) ++ f (a + n)
flat_more f a n =
    let next : n + 1 ≡ suc n = omega arith in
    ap (λ (k : ℕ). flat_map f (range_with_len a k)) next ∙ ap (flat_map f) (range_more a n) ∙ flat_map-append f (range_with_len a n) ((a + n) ∷ [])
    ∙ ap (λ (xs : List ℕ). flat_map f (range_with_len a n) ++ xs) (append-nil (f (a + n)))

-- the nodes of one level more
pub path_more : (depth leaf level : ℕ) → path_nodes depth leaf (level + 1) ≡ path_nodes depth leaf level ++ node_on depth leaf level ∷ []
path_more depth leaf level = map-range_with_len_more (node_on depth leaf) 0 level level (omega arith)
