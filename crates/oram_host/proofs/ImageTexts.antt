-- The image of a host, one record or tree longer.
use Rattle.std.proofs.Common.{◌≡◌, ℕ, zero, suc, get_or, ◌<◌, ◌≤◌, Bool, true, false, cond, List, [], ◌∷◌, ◌++◌, length, map, filter, All, refl, ap, ◌∙◌, sym, arith}
use Rattle.std.specs.List.{flat_map}
use Rattle.std.specs.List.Sorted.{IsStrictlySortedBy}
use Rattle.std.proofs.lemmas.Map.Keys.{below_from_sorted}
use Rattle.std.specs.Map.{values_of}
use Rattle.std.specs.BTreeMap.{BTreeMap, IsOrdered, keys}
use Rattle.std.specs.Ordering.{nat_cmp}
use Rattle.std.proofs.lemmas.Bool.{lt-ltb}
use Rattle.std.proofs.lemmas.List.{append_assoc, length-map}
use Rattle.oram_host.specs.declared.trees.Tree.{Tree}
use Rattle.oram_host.specs.Host.{Kept}
use Rattle.oram_host.specs.Image.{record_text, tree_text}
use Rattle.oram_host.specs.Trees.{is_there, kept_by}

-- one more record is written
pub record_more : (written : List ℕ) (e : ℕ × List ℕ) (es : List (ℕ × List ℕ)) (total : List ℕ) → 0 < length e.1 → written ++ flat_map record_text (filter (λ x. is_there x.1) (e ∷ es)) ≡ total
    → (written ++ record_text e) ++ flat_map record_text (filter (λ x. is_there x.1) es) ≡ total
record_more written e es total long so_far =
    append_assoc written (record_text e) (flat_map record_text (filter (λ x. is_there x.1) es))
    ∙ ap (λ (b : Bool). written ++ flat_map record_text (cond b (e ∷ filter (λ x. is_there x.1) es) (filter (λ x. is_there x.1) es))) (sym (lt-ltb 0 (length e.1) long)) ∙ so_far

-- one more tree is written
pub tree_more : (written : List ℕ) (e : ℕ × Tree) (es : List (ℕ × Tree)) (total : List ℕ) → written ++ flat_map tree_text (map {B = ℕ × Kept} (λ x. (x.0, kept_by x.1)) (e ∷ es)) ≡ total
    → (written ++ tree_text (e.0, kept_by e.1)) ++ flat_map tree_text (map {B = ℕ × Kept} (λ x. (x.0, kept_by x.1)) es) ≡ total
tree_more written e es total so_far = append_assoc written (tree_text (e.0, kept_by e.1)) (flat_map tree_text (map {B = ℕ × Kept} (λ x. (x.0, kept_by x.1)) es)) ∙ so_far

cond_length : (b : Bool) (e : ℕ × List ℕ) (es : List (ℕ × List ℕ)) (r : List ℕ) (rs : List (List ℕ)) → length rs ≡ length es → length (cond b (r ∷ rs) rs) ≡ length (cond b (e ∷ es) es)
cond_length true e es r rs same = ap (λ (n : ℕ). suc n) same
cond_length false e es r rs same = same

-- there are as many filled values as filled entries
pub length-filter_values : (es : List (ℕ × List ℕ)) → length (filter is_there (values_of es)) ≡ length (filter (λ e. is_there e.1) es)
length-filter_values [] = refl
length-filter_values (e ∷ es) = cond_length (is_there e.1) e (filter (λ x. is_there x.1) es) e.1 (filter is_there (values_of es)) (length-filter_values es)

-- the number at a place of rising numbers is at least that place
at_least_place : (ks : List ℕ) (i : ℕ) → IsStrictlySortedBy nat_cmp ks → i < length ks → i ≤ get_or ks i 0
at_least_place ks zero sorted h = omega arith
at_least_place ks (suc i) sorted h = omega (arith, at_least_place ks i sorted (omega arith), below_from_sorted ks i (suc i) 0 sorted (omega arith) h)

few_numbers : (ks : List ℕ) (n : ℕ) → IsStrictlySortedBy nat_cmp ks → All (λ k. k < n) ks → length ks ≤ n
few_numbers [] n sorted below = omega arith
few_numbers (k ∷ ks) n sorted below =
    let last = length ks in
    omega (arith, at_least_place (k ∷ ks) last sorted (omega arith), below last 0 (omega arith))

-- there are at most n rising numbers below n
pub few_keys : {X : Type 0} (m : BTreeMap ℕ X) (n : ℕ) → IsOrdered nat_cmp m → All (λ k. k < n) (keys m) → length m.entries ≤ n
few_keys {X} m n ordered below =
    omega (arith, few_numbers (keys m) n ordered below, length-map m.entries (λ (e : ℕ × X). e.0))
