use Rattle.std.proofs.Common.{◌≡◌, ℕ, ◌+◌, ◌-◌, ◌*◌, ◌%◌, ◌^◌, ◌<◌, inl, inr, refl, sym, arith, ap, subst, ◌∙◌, List, length, true, false}
use Rattle.std.proofs.lemmas.Bool.{cases_eq}
use Rattle.sha2.specs.Sha256.{sha256}
use Rattle.oram_geometry.specs.Path.{node_on, IsOffPath}
use Rattle.oram_geometry.proofs.Nodes.{node_on-zero, node_on-child, node_on-inner, node_on-leaf, on_or_off, off_child, off_sibling}
use Rattle.oram_hash.specs.Record.{HoldsDigests, no_digest, left_digest, right_digest, is_left_child}
use Rattle.oram_hash.specs.Path.{Path, record_at, node_at}
use Rattle.oram_hash.specs.Tree.{IsStored, IsPathOf, IsReplaced}
use Rattle.oram_hash.specs.Rebuild.{IsRelinked}

-- the left child's number is odd, the right one's is even
pub is_left_child-left : (n c : ℕ) → c ≡ 2 * n + 1 → is_left_child c ≡ true
unfolding is_left_child
is_left_child-left n c e = let z : c % 2 ≡ 1 = omega arith in rw z refl

pub is_left_child-right : (n c : ℕ) → c ≡ 2 * n + 2 → is_left_child c ≡ false
unfolding is_left_child
is_left_child-right n c e = let z : c % 2 ≡ 0 = omega arith in rw z refl

-- a node of the new tree that is on the path
on_path : (p q : Path) (root : List ℕ) (old new : ℕ → List ℕ) → p.leaf < 2 ^ p.depth → IsStored p.depth p.record_len root old → IsPathOf old p → IsRelinked p q → IsReplaced p q old new
    → (level : ℕ) → level < p.depth → HoldsDigests (new (node_at p level)) (sha256 (new (2 * node_at p level + 1))) (sha256 (new (2 * node_at p level + 2)))
on_path p q root old new fits stored path linked put level h =
    let here : new (node_at p level) ≡ record_at q level = put.on_path level (omega arith) in
    let next : new (node_at p (level + 1)) ≡ record_at q (level + 1) = put.on_path (level + 1) (omega arith) in
    let was : record_at p level ≡ old (node_at p level) = path level (omega arith) in
    let held = stored.inner (node_at p level) (node_on-inner p.depth p.leaf level fits h) in
    elim (node_on-child p.depth p.leaf level h) [
      | inl e ↦
          let side : is_left_child (node_at p (level + 1)) ≡ true = is_left_child-left (node_at p level) _ e in
          let other : IsOffPath p.depth p.leaf (2 * node_at p level + 2) = off_sibling p.depth p.leaf level _ fits h (inr refl) (omega arith) in
          record {
            left_held = ap left_digest here ∙ linked.left level h ∙ rw side (ap sha256 (sym next ∙ ap new e));
            right_held = ap right_digest here ∙ linked.right level h ∙ rw side (ap right_digest was ∙ held.right_held ∙ ap sha256 (sym (put.off_path _ other)));
          }
      | inr e ↦
          let side : is_left_child (node_at p (level + 1)) ≡ false = is_left_child-right (node_at p level) _ e in
          let other : IsOffPath p.depth p.leaf (2 * node_at p level + 1) = off_sibling p.depth p.leaf level _ fits h (inl refl) (omega arith) in
          record {
            left_held = ap left_digest here ∙ linked.left level h ∙ rw side (ap left_digest was ∙ held.left_held ∙ ap sha256 (sym (put.off_path _ other)));
            right_held = ap right_digest here ∙ linked.right level h ∙ rw side (ap sha256 (sym next ∙ ap new e));
          }
    ]

-- a node of the new tree that is off the path
off_path : (p q : Path) (root : List ℕ) (old new : ℕ → List ℕ) → p.leaf < 2 ^ p.depth → IsStored p.depth p.record_len root old → IsReplaced p q old new
    → (n : ℕ) → IsOffPath p.depth p.leaf n → n < 2 ^ p.depth - 1 → HoldsDigests (new n) (sha256 (new (2 * n + 1))) (sha256 (new (2 * n + 2)))
off_path p q root old new fits stored put n apart h =
    let held = stored.inner n h in
    let left_off : IsOffPath p.depth p.leaf (2 * n + 1) = off_child p.depth p.leaf n _ fits (inl refl) apart in
    let right_off : IsOffPath p.depth p.leaf (2 * n + 2) = off_child p.depth p.leaf n _ fits (inr refl) apart in
    record {
      left_held = ap left_digest (put.off_path n apart) ∙ held.left_held ∙ ap sha256 (sym (put.off_path _ left_off));
      right_held = ap right_digest (put.off_path n apart) ∙ held.right_held ∙ ap sha256 (sym (put.off_path _ right_off));
    }

at_leaf : (p q : Path) (new : ℕ → List ℕ) → IsRelinked p q → new (node_at p p.depth) ≡ record_at q p.depth → HoldsDigests (new (node_at p p.depth)) no_digest no_digest
at_leaf p q new linked e = record { left_held = ap left_digest e ∙ linked.last.left_held; right_held = ap right_digest e ∙ linked.last.right_held }

same_digests : (r s a b : List ℕ) → r ≡ s → HoldsDigests s a b → HoldsDigests r a b
same_digests r s a b e held = record { left_held = ap left_digest e ∙ held.left_held; right_held = ap right_digest e ∙ held.right_held }

-- a tree with a relinked path is a stored tree under the digest of the path's first record
pub relinked_stands : (p q : Path) (root : List ℕ) (old new : ℕ → List ℕ) → p.leaf < 2 ^ p.depth → IsStored p.depth p.record_len root old → IsPathOf old p → IsRelinked p q → IsReplaced p q old new → IsStored p.depth p.record_len (sha256 (record_at q 0)) new
relinked_stands p q root old new fits stored path linked put =
    record {
      lengths = λ n h. elim (on_or_off p.depth p.leaf n) [
        | inl (l, within, e) ↦ ap length (ap new e ∙ put.on_path l within) ∙ linked.lengths l within
        | inr apart ↦ ap length (put.off_path n apart) ∙ stored.lengths n h
      ];
      top = ap sha256 (ap new (sym (node_on-zero p.depth p.leaf fits)) ∙ put.on_path 0 (omega arith));
      inner = λ n h. elim (on_or_off p.depth p.leaf n) [
        | inl (l, within, e) ↦ elim (cases_eq l p.depth) [
          | inl end ↦ absurd (omega (arith, node_on-leaf p.depth p.leaf fits, ap (node_on p.depth p.leaf) end))
          | inr before ↦
              let P : ℕ → Type 0 = λ x. HoldsDigests (new x) (sha256 (new (2 * x + 1))) (sha256 (new (2 * x + 2))) in
              subst P (sym e) (on_path p q root old new fits stored path linked put l (omega arith))
        ]
        | inr apart ↦ off_path p q root old new fits stored put n apart h
      ];
      leaves = λ n low high. elim (on_or_off p.depth p.leaf n) [
        | inl (l, within, e) ↦ elim (cases_eq l p.depth) [
          | inl end ↦ same_digests (new n) (new (node_at p p.depth)) _ _ (ap new (e ∙ ap (node_on p.depth p.leaf) end)) (at_leaf p q new linked (put.on_path p.depth (omega arith)))
          | inr before ↦ absurd (omega (arith, node_on-inner p.depth p.leaf l fits (omega arith)))
        ]
        | inr apart ↦ same_digests (new n) (old n) _ _ (put.off_path n apart) (stored.leaves n low high)
      ];
    }
