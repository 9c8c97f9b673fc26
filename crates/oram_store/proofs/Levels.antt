-- The records of a path, level by level.
use Rattle.std.proofs.Common.{◌≡◌, ℕ, ◌+◌, ◌-◌, ◌*◌, ◌<◌, ◌≤◌, List, [], ◌∷◌, ◌++◌, length, take, drop, Some, sym, ap, ◌∙◌, arith, inl, inr}
use Rattle.std.proofs.lemmas.Bool.{cases_eq}
use Rattle.std.proofs.lemmas.List.{drop_at, drop-append-le, length-drop, take_all, take-append-le}
use Rattle.std.proofs.Math.Nat.{mul-le-mul_right}
use Rattle.std.specs.Prelude.{slice_set}
use Rattle.oram_host.specs.Path.{FitsAnswer, node_on, record_at}
use Rattle.oram_host.proofs.Paths.{step_is}
use Rattle.oram_layout.specs.Limits.{TreeShape}
use Rattle.oram_layout.specs.Records.{AreLevelsOf, IsPathOf, KeepsOffLevels, Records}
use Rattle.oram_layout.specs.declared.trees.Tree.{Tree}
use Rattle.oram_levels.specs.Messages.{levels_payload}
use Rattle.oram_store.specs.KeptRecords.{Stores}
use Rattle.oram_wire.specs.HostMessages.{payload_answer}

module _ (len level : ℕ) (bytes more : List ℕ) (whole : length bytes ≡ level * len) where
  pub last_piece : length more ≡ len → record_at len (bytes ++ more) level ≡ more
  last_piece long =
      ap (take ((level + 1) * len - level * len)) (drop_at bytes more (level * len) whole) ∙ take_all ((level + 1) * len - level * len) more (omega (arith, step_is level len))

  pub earlier_piece : (k : ℕ) → k < level → record_at len (bytes ++ more) k ≡ record_at len bytes k
  earlier_piece k below =
      let end : (k + 1) * len ≤ level * len = mul-le-mul_right len (omega arith) in
      ap (take ((k + 1) * len - k * len)) (drop-append-le (k * len) bytes more (omega (arith, step_is k len)))
      ∙ take-append-le ((k + 1) * len - k * len) (drop (k * len) bytes) more (omega (arith, step_is k len, length-drop (k * len) bytes))

-- one more level is read
pub read_more : (records : Records) (tree depth leaf first len level node : ℕ) (bytes more : List ℕ) → length bytes ≡ level * len → length more ≡ len → node ≡ node_on depth leaf (first + level)
    → records tree node ≡ Some more → ((k : ℕ) → k < level → records tree (node_on depth leaf (first + k)) ≡ Some (record_at len bytes k))
    → (k : ℕ) → k < level + 1 → records tree (node_on depth leaf (first + k)) ≡ Some (record_at len (bytes ++ more) k)
read_more records tree depth leaf first len level node bytes more whole long at here each k below =
    elim (cases_eq k level) [
      | inl same ↦
          ap (λ (l : ℕ). records tree (node_on depth leaf (first + l))) same ∙ ap (records tree) (sym at) ∙ here
          ∙ ap (λ (r : List ℕ). Some r) (sym (ap (record_at len (bytes ++ more)) same ∙ last_piece len level bytes more whole long))
      | inr other ↦ each k (omega arith) ∙ ap (λ (r : List ℕ). Some r) (sym (earlier_piece len level bytes more whole k (omega arith)))
    ]

-- all levels of a path are the path
pub path_of_levels : (records : Records) (tree : ℕ) (s : TreeShape) (leaf first count : ℕ) (bytes : List ℕ) → first ≡ 0 → count ≡ s.depth + 1 → AreLevelsOf records tree s leaf first count bytes
    → IsPathOf records tree s leaf bytes
path_of_levels records tree s leaf first count bytes top all are = record {
  whole = are.whole ∙ ap (λ (n : ℕ). n * s.record_len) all;
  each = λ level below. ap (λ (l : ℕ). records tree (node_on s.depth leaf l)) (let e : level ≡ first + level = omega (arith, top) in e) ∙ are.each level (omega (arith, all, below));
}

-- what stores all levels of a path stores the path
pub stores_of_levels : (one two : Records) (tree : ℕ) (s : TreeShape) (leaf first count : ℕ) (bytes : List ℕ) → first ≡ 0 → count ≡ s.depth + 1 → AreLevelsOf two tree s leaf first count bytes
    → KeepsOffLevels one tree s leaf first count two → Stores tree s leaf bytes one two
stores_of_levels one two tree s leaf first count bytes top all are off = (
  path_of_levels two tree s leaf first count bytes top all are,
  λ other node differ. off other node (elim differ [
    | inl ne ↦ inl ne
    | inr beside ↦ inr (λ i below e. beside i (omega (arith, all, below)) (e ∙ ap (node_on s.depth leaf) (let same : first + i ≡ i = omega (arith, top) in same)))
  ]),
)

-- the count of an answer was written before its records
pub counted : (none start items more : List ℕ) (count : ℕ) → none ≡ [] → start ≡ none ++ 128 ∷ 0 ∷ [] → items ≡ start ++ more → slice_set items 1 count ≡ payload_answer (levels_payload count more)
counted none start items more count empty begun grown =
    ap (λ (l : List ℕ). slice_set l 1 count) (grown ∙ ap (λ (l : List ℕ). l ++ more) (begun ∙ ap (λ (l : List ℕ). l ++ 128 ∷ 0 ∷ []) empty))

-- the records of some levels fit in an answer
pub levels_fit : (tree : Tree) (first last count : ℕ) (more : List ℕ) → last ≤ tree.shape.depth → first + count ≤ last + 1 → length more ≡ count * tree.shape.record_len → FitsAnswer (levels_payload count more)
levels_fit tree first last count more deep within whole =
    let fewer : count * tree.shape.record_len ≤ (tree.shape.depth + 1) * tree.shape.record_len = mul-le-mul_right tree.shape.record_len (omega arith) in
    record { some = omega arith; few = omega (arith, fewer, whole, tree.shape.fits) }
