-- A formatting fixes the records: their nonces by the order of the PUTs, and their digests from the leaves up.
use Rattle.std.proofs.Common.{◌≡◌, ℕ, zero, suc, ◌+◌, ◌-◌, ◌*◌, ◌^◌, ◌<◌, ◌≤◌, if◌then◌else◌, List, [], ◌∷◌, ◌++◌, length, get_or, take, drop, inl, inr, refl, ap, sym, ◌∙◌, subst, append_assoc, arith}
use Rattle.std.proofs.lemmas.List.{length-append, get_or_append_left, get_or-append-add, take-append-drop, drop-drop, take_rest}
use Rattle.std.proofs.lemmas.Nat.{pow-add, pow_pos}
use Rattle.sha2.specs.Sha256.{sha256}
use Rattle.oram_geometry.specs.declared.Sizes.{Sizes}
use Rattle.oram_geometry.specs.Sizes.{depth_of, record_len_of}
use Rattle.oram_geometry.specs.Path.{node_on}
use Rattle.oram_geometry.proofs.Nodes.{node_on-zero, node_on-child}
use Rattle.oram_hash.specs.Record.{HoldsDigests, is_left_child, left_digest, no_digest, right_digest, sealed_part}
use Rattle.oram_hash.specs.Tree.{IsStored}
use Rattle.oram_bucket.specs.Cipher.{Cipher}
use Rattle.oram_tree.specs.Content.{node_count}
use Rattle.oram_tree.specs.Format.{IsFormat, post_order}
use Rattle.oram_tree.specs.State.{State as Tree}
use Rattle.oram_tree.specs.Subtree.{root_record}
use Rattle.oram_tree.proofs.Puts.{node_count-twice}
use Rattle.oram_semantics.specs.Nonces.{formatted_below}
use Rattle.oram_empty.specs.EmptyRecords.{begins_at, seal_empty}
use Rattle.oram_empty.specs.Laws.{FormatsPutEmptyRecords}
use Rattle.oram_empty.proofs.Counts.{begins-root, begins-more, before-left, before-right, node_upto, pow_few}

length-post_order : (h n : ℕ) → length (post_order h n) ≡ node_count h
unfolding post_order
length-post_order zero n = refl
length-post_order (suc h) n =
    let a = post_order h (2 * n + 1) in
    let b = post_order h (2 * n + 2) in
    let up = node_count-twice (suc h) (omega arith) in
    let e : suc h - 1 ≡ h = omega arith in
    let half : node_count (suc h - 1) ≡ node_count h = ap node_count e in
    omega (arith, length-append (a ++ b) (n ∷ []), length-append a b, length-post_order h (2 * n + 1), length-post_order h (2 * n + 2), up, half)

-- the three parts of a record make the record
parts_of : (r : List ℕ) → 64 ≤ length r → sealed_part r ++ left_digest r ++ right_digest r ≡ r
unfolding sealed_part left_digest right_digest
parts_of r long =
    let n = length r in
    let first : n - 32 - (n - 64) ≡ 32 = omega arith in
    let last : n - (n - 32) ≡ 32 = omega arith in
    let at : n - 64 + 32 ≡ n - 32 = omega arith in
    let right : take (n - (n - 32)) (drop (n - 32) r) ≡ drop 32 (drop (n - 64) r) = take_rest r (n - 32) ∙ ap (λ (k : ℕ). drop k r) (sym at) ∙ sym (drop-drop 32 (n - 64) r) in
    let left : take (n - 32 - (n - 64)) (drop (n - 64) r) ≡ take 32 (drop (n - 64) r) = ap (λ (k : ℕ). take k (drop (n - 64) r)) first in
    ap (λ (xs : List ℕ). take (n - 64) r ++ xs ++ take (n - (n - 32)) (drop (n - 32) r)) left
    ∙ ap (λ (xs : List ℕ). take (n - 64) r ++ take 32 (drop (n - 64) r) ++ xs) right
    ∙ append_assoc (take (n - 64) r) (take 32 (drop (n - 64) r)) (drop 32 (drop (n - 64) r))
    ∙ ap (λ (xs : List ℕ). take (n - 64) r ++ xs) (take-append-drop 32 (drop (n - 64) r))
    ∙ take-append-drop (n - 64) r

from_parts : (r s l d : List ℕ) → 64 ≤ length r → sealed_part r ≡ s → HoldsDigests r l d → r ≡ s ++ l ++ d
from_parts r s l d long sealed holds =
    sym (parts_of r long) ∙ ap (λ (xs : List ℕ). xs ++ left_digest r ++ right_digest r) sealed
    ∙ ap (λ (xs : List ℕ). s ++ xs ++ right_digest r) holds.left_held ∙ ap (λ (xs : List ℕ). s ++ l ++ xs) holds.right_held

module _ (records : ℕ → List ℕ) (seal : ℕ → List ℕ) where
  -- the buckets of the subtree of this height at node n are sealed under the nonces from k on, in the order of their PUTs
  pub record IsSealed (h n k : ℕ) : Type 0 where
    pub each : (j : ℕ) → j < node_count h → sealed_part (records (get_or (post_order h n) j 0)) ≡ seal (k + j)

  sealed_leaf : (n k : ℕ) → IsSealed 0 n k → sealed_part (records n) ≡ seal k
  unfolding post_order
  sealed_leaf n k s = s.each 0 (omega arith) ∙ ap seal (let e : k + 0 ≡ k = omega arith in e)

  half : (h : ℕ) → node_count (suc h) ≡ 2 * node_count h + 1
  half h = node_count-twice (suc h) (omega arith) ∙ ap (λ (g : ℕ). 2 * node_count g + 1) (let e : suc h - 1 ≡ h = omega arith in e)

  sealed_top : (h n k : ℕ) → IsSealed (suc h) n k → sealed_part (records n) ≡ seal (k + 2 * node_count h)
  unfolding post_order
  sealed_top h n k s =
      let a = post_order h (2 * n + 1) in
      let b = post_order h (2 * n + 2) in
      let at : 2 * node_count h ≡ length (a ++ b) + 0 = omega (arith, length-append a b, length-post_order h (2 * n + 1), length-post_order h (2 * n + 2)) in
      let there : get_or (a ++ b ++ n ∷ []) (2 * node_count h) 0 ≡ n = ap (λ (j : ℕ). get_or (a ++ b ++ n ∷ []) j 0) at ∙ get_or-append-add (a ++ b) (n ∷ []) 0 0 in
      ap (λ (m : ℕ). sealed_part (records m)) (sym there) ∙ s.each (2 * node_count h) (omega (arith, half h))

  sealed_left : (h n k : ℕ) → IsSealed (suc h) n k → IsSealed h (2 * n + 1) k
  unfolding post_order
  sealed_left h n k s =
      let a = post_order h (2 * n + 1) in
      let b = post_order h (2 * n + 2) in
      record {
        each = λ j below.
            let la = length-post_order h (2 * n + 1) in
            let there : get_or (a ++ b ++ n ∷ []) j 0 ≡ get_or a j 0 =
            get_or_append_left (a ++ b) (n ∷ []) 0 j (omega (arith, la, length-append a b)) ∙ get_or_append_left a b 0 j (omega (arith, la)) in
            ap (λ (m : ℕ). sealed_part (records m)) (sym there) ∙ s.each j (omega (arith, half h));
      }

  sealed_right : (h n k : ℕ) → IsSealed (suc h) n k → IsSealed h (2 * n + 2) (k + node_count h)
  unfolding post_order
  sealed_right h n k s =
      let a = post_order h (2 * n + 1) in
      let b = post_order h (2 * n + 2) in
      record {
        each = λ j below.
            let la = length-post_order h (2 * n + 1) in
            let lb = length-post_order h (2 * n + 2) in
            let at : node_count h + j ≡ length a + j = omega (arith, la) in
            let there : get_or (a ++ b ++ n ∷ []) (node_count h + j) 0 ≡ get_or b j 0 =
            get_or_append_left (a ++ b) (n ∷ []) 0 (node_count h + j) (omega (arith, la, lb, length-append a b)) ∙ ap (λ (x : ℕ). get_or (a ++ b) x 0) at ∙ get_or-append-add a b j 0 in
            ap (λ (m : ℕ). sealed_part (records m)) (sym there) ∙ s.each (node_count h + j) (omega (arith, half h)) ∙ ap seal (let e : k + (node_count h + j) ≡ k + node_count h + j = omega arith in e);
      }

  -- In a stored tree such buckets fix the records, from the leaves up. The node has h levels below it and l above it.
  fixed : (len depth : ℕ) (root : List ℕ) → IsStored depth len root records → 64 ≤ len → (h n k l : ℕ) → h + l ≡ depth → 2 ^ l ≤ n + 1 → n + 1 < 2 ^ (l + 1) → IsSealed h n k
      → records n ≡ root_record seal h k
  unfolding root_record
  fixed len depth root stored room zero n k l whole low high s =
      let end : l ≡ depth = omega arith in
      let least : 2 ^ depth ≤ n + 1 = subst (λ (d : ℕ). 2 ^ d ≤ n + 1) end low in
      let most : n + 1 < 2 ^ (depth + 1) = subst (λ (d : ℕ). n + 1 < 2 ^ (d + 1)) end high in
      from_parts (records n) (seal k) no_digest no_digest (omega (arith, stored.lengths n (omega arith))) (sealed_leaf n k s) (stored.leaves n (omega arith) (omega arith))
  fixed len depth root stored room (suc h) n k l whole low high s =
      let above : 2 ^ (l + 1) ≤ 2 ^ depth = pow_few (l + 1) depth (omega arith) in
      let next : 2 ^ (l + 1) ≡ 2 ^ l * 2 = pow-add 2 l 1 in
      let after : 2 ^ (l + 1 + 1) ≡ 2 ^ (l + 1) * 2 = pow-add 2 (l + 1) 1 in
      let more : 2 ^ (depth + 1) ≡ 2 ^ depth * 2 = pow-add 2 depth 1 in
      let left = fixed len depth root stored room h (2 * n + 1) k (l + 1) (omega arith) (omega arith) (omega arith) (sealed_left h n k s) in
      let right = fixed len depth root stored room h (2 * n + 2) (k + node_count h) (l + 1) (omega arith) (omega arith) (omega arith) (sealed_right h n k s) in
      from_parts (records n) (seal (k + 2 * node_count h)) _ _ (omega (arith, stored.lengths n (omega arith))) (sealed_top h n k s) (stored.inner n (omega arith))
      ∙ ap (λ (r : List ℕ). seal (k + 2 * node_count h) ++ sha256 r ++ sha256 (records (2 * n + 2))) left
      ∙ ap (λ (r : List ℕ). seal (k + 2 * node_count h) ++ sha256 (root_record seal h k) ++ sha256 r) right

  -- along a path
  sealed_on : (base depth leaf : ℕ) → leaf < 2 ^ depth → IsSealed depth 0 base → (level : ℕ) → level ≤ depth → IsSealed (depth - level) (node_on depth leaf level) (begins_at base depth leaf level)
  sealed_on base depth leaf fits whole zero within =
      let S : ℕ → ℕ → Type 0 = λ n k. IsSealed (depth - 0) n k in
      let e : depth ≡ depth - 0 = omega arith in
      subst (λ (k : ℕ). S (node_on depth leaf 0) k) (sym (begins-root base depth leaf))
      (subst (λ (n : ℕ). S n base) (sym (node_on-zero depth leaf fits)) (subst (λ (h : ℕ). IsSealed h 0 base) e whole))
  sealed_on base depth leaf fits whole (suc level) within =
      let e : suc level ≡ level + 1 = omega arith in
      let up : depth - level ≡ suc (depth - (level + 1)) = omega arith in
      let n = node_on depth leaf level in
      let m = node_on depth leaf (level + 1) in
      let k = begins_at base depth leaf level in
      let above = subst (λ (h : ℕ). IsSealed h n k) up (sealed_on base depth leaf fits whole level (omega arith)) in
      let h = depth - (level + 1) in
      let more = begins-more base depth leaf level in
      subst (λ (l : ℕ). IsSealed (depth - l) (node_on depth leaf l) (begins_at base depth leaf l)) (sym e)
      (elim (node_on-child depth leaf level (omega arith)) [
        | inl left ↦
            let none : 0 ≡ (if is_left_child m then 0 else node_count h) = before-left m m (node_count h) refl (omega arith) in
            let start : k ≡ begins_at base depth leaf (level + 1) = omega (arith, none, more) in
            subst (λ (x : ℕ). IsSealed h m x) start (subst (λ (x : ℕ). IsSealed h x k) (sym left) (sealed_left h n k above))
        | inr right ↦
            let all : node_count h ≡ (if is_left_child m then 0 else node_count h) = before-right m m (node_count h) (node_count h) refl (λ odd. absurd (omega arith)) refl in
            let start : k + node_count h ≡ begins_at base depth leaf (level + 1) = omega (arith, all, more) in
            subst (λ (x : ℕ). IsSealed h m x) start (subst (λ (x : ℕ). IsSealed h x (k + node_count h)) (sym right) (sealed_right h n k above))
      ])

room : (d : Sizes) (overhead : ℕ) → 64 ≤ record_len_of d overhead
unfolding record_len_of
room d overhead = omega arith

levels_of : (depth leaf level : ℕ) → leaf < 2 ^ depth → level ≤ depth → (2 ^ level ≤ node_on depth leaf level + 1) × (node_on depth leaf level + 1 < 2 ^ (level + 1))
unfolding node_on
levels_of depth leaf level fits h = (omega (arith, pow_pos level), node_upto depth leaf level fits h)

made_on : (cipher : Cipher) (d : Sizes) (base : ℕ) (t : Tree) (bodies : List (List ℕ)) (made : IsFormat cipher d base t bodies) (leaf level : ℕ) → leaf < 2 ^ depth_of d t.number → level ≤ depth_of d t.number
    → made.records (node_on (depth_of d t.number) leaf level) ≡ root_record (seal_empty cipher d) (depth_of d t.number - level) (begins_at base (depth_of d t.number) leaf level)
made_on cipher d base t bodies made leaf level leaf_in within =
    let depth = depth_of d t.number in
    let seal = seal_empty cipher d in
    let whole : IsSealed made.records seal depth 0 base = record { each = made.sealed } in
    let s = sealed_on made.records seal base depth leaf leaf_in whole level within in
    let bounds = levels_of depth leaf level leaf_in within in
    fixed made.records seal (record_len_of d cipher.overhead) depth t.root made.empty.stands (room d cipher.overhead) (depth - level) (node_on depth leaf level) (begins_at base depth leaf level) level (omega arith) bounds.0 bounds.1 s

pub formats_put : FormatsPutEmptyRecords
formats_put v i tree bodies is leaf level leaf_in within =
    let d = v.device in
    let base = formatted_below d i in
    let made = is.made in
    let At : ℕ → Type 0 = λ n. leaf < 2 ^ depth_of d n → level ≤ depth_of d n → made.records (node_on (depth_of d n) leaf level) ≡ root_record (seal_empty v.cipher d) (depth_of d n - level) (begins_at base (depth_of d n) leaf level) in
    let all : At tree.number = made_on v.cipher d base tree bodies made leaf level in
    subst At is.number all leaf_in within
