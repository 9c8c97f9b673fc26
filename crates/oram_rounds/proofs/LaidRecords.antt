-- The records of a STORE that are copied over the beginning of a path are those of the levels that the two paths share.
use Rattle.std.proofs.Common.{◌≡◌, ℕ, ◌+◌, ◌-◌, ◌*◌, ◌^◌, ◌≤◌, arith, List, ◌++◌, length, take, drop, sym, ap, ◌∙◌, inl, inr, length-append}
use Rattle.std.specs.Prelude.{◌↔◌}
use Rattle.std.proofs.lemmas.List.{drop-take, length-drop, length-take-le, take-append-drop, take-append-le}
use Rattle.std.proofs.Math.Nat.{mul-le-mul_right}
use Rattle.std.proofs.lemmas.Slice.{drop-append-drop}
use Rattle.std.proofs.lemmas.Bool.{cases_order}
use Rattle.oram_wire.specs.declared.host_messages.HostRequest.TheVariants.{Store}
use Rattle.oram_geometry.specs.Path.{MeetsAt}
use Rattle.oram_host.specs.Path.{node_on as host_node, record_at}
use Rattle.oram_link_laws.specs.Overlay.{IsLaidOver}

meets_by : (depth x y l : ℕ) → host_node depth x l ≡ host_node depth y l → MeetsAt depth x y l
unfolding host_node
meets_by depth x y l e = omega (arith, e)

nodes_by : (depth x y l : ℕ) → MeetsAt depth x y l → host_node depth x l ≡ host_node depth y l
unfolding host_node
nodes_by depth x y l e = ap (λ q. 2 ^ l - 1 + q) e

copied : (records rest : List ℕ) (n a k : ℕ) → n ≤ length records → a + k ≤ n → take k (drop a (take n records ++ rest)) ≡ take k (drop a records)
copied records rest n a k some within =
    let size : length (take n records) ≡ n = length-take-le n records some in
    sym (drop-take a k (take n records ++ rest))
    ∙ ap (drop a) (take-append-le (a + k) (take n records) rest (omega (arith, size, within))
    ∙ sym (take-append-le (a + k) (take n records) (drop n records) (omega (arith, size, within))) ∙ ap (take (a + k)) (take-append-drop n records))
    ∙ drop-take a k records

-- the levels down to `shared` are those of the STORE's path, and the levels below it those of the path
pub laid_over : (tree depth len leaf other shared : ℕ) (records path : List ℕ) → length records ≡ (depth + 1) * len → length path ≡ (depth + 1) * len → shared ≤ depth
    → ((l : ℕ) → l ≤ depth → (MeetsAt depth leaf other l) ↔ (l ≤ shared))
    → IsLaidOver (record { tree = tree; depth = depth; record_len = len; leaf = leaf }) other records path (take ((shared + 1) * len) records ++ drop ((shared + 1) * len) path)
laid_over tree depth len leaf other shared records path long whole within meets =
    let n : ℕ = (shared + 1) * len in
    let most : (shared + 1) * len ≤ (depth + 1) * len = mul-le-mul_right len (omega (arith, within)) in
    let size : length (take n records) ≡ n = length-take-le n records (omega (arith, most, long)) in
    let part : (l : ℕ) → (l + 1) * len - l * len ≡ len = λ l. omega arith in
    record {
      whole = length-append (take n records) (drop n path) ∙ omega (arith, size, length-drop n path, most, whole);
      shared = λ l low same.
          let high : l ≤ shared = (meets l low).0 (meets_by depth leaf other l same) in
          let upto : (l + 1) * len ≤ (shared + 1) * len = mul-le-mul_right len (omega (arith, high)) in
          let more : (l + 1) * len ≡ l * len + len = omega arith in
          ap (λ k. take k (drop (l * len) (take n records ++ drop n path))) (part l)
          ∙ copied records (drop n path) n (l * len) len (omega (arith, most, long)) (omega (arith, upto, more))
          ∙ sym (ap (λ k. take k (drop (l * len) records)) (part l));
      others = λ l low apart. elim (cases_order (shared + 1) l) [
        | inl here ↦ behind l (omega (arith, here))
        | inr (inl above) ↦ behind l (omega (arith, above))
        | inr (inr below) ↦ absurd (apart (nodes_by depth leaf other l ((meets l low).1 (omega (arith, below)))))
      ];
    }
  where
    behind : (l : ℕ) → shared + 1 ≤ l → record_at len (take ((shared + 1) * len) records ++ drop ((shared + 1) * len) path) l ≡ record_at len path l
    behind l low =
        let n : ℕ = (shared + 1) * len in
        let most : (shared + 1) * len ≤ (depth + 1) * len = mul-le-mul_right len (omega (arith, within)) in
        let size : length (take n records) ≡ n = length-take-le n records (omega (arith, most, long)) in
        let past : (shared + 1) * len ≤ l * len = mul-le-mul_right len low in
        ap (take ((l + 1) * len - l * len)) (drop-append-drop n path (take n records) (l * len) past size)

pub store_parts : (t u x y : ℕ) (r q : List ℕ) → Store t x r ≡ Store u y q → (t ≡ u) × (x ≡ y) × (r ≡ q)
store_parts t u x y r q e = (cc, cc, cc)
