-- The empty records of a path are those of the path in the tree that a formatting makes.
use Rattle.std.proofs.Common.{◌≡◌, ℕ, zero, suc, ◌+◌, ◌-◌, ◌*◌, ◌^◌, ◌<◌, ◌≤◌, List, ◌++◌, length, take, drop, refl, ap, sym, ◌∙◌, subst, arith}
use Rattle.std.proofs.lemmas.List.{drop-drop, drop_at, take_at}
use Rattle.oram_geometry.specs.Sizes.{depth_of, record_len_of}
use Rattle.oram_geometry.specs.Path.{node_on}
use Rattle.oram_hash.specs.Path.{Path, record_at}
use Rattle.oram_tree.specs.Content.{node_count}
use Rattle.oram_tree.specs.State.{State as Tree}
use Rattle.oram_semantics.specs.Formatting.{IsTreeMade}
use Rattle.oram_semantics.specs.Scheme.{Scheme}
use Rattle.oram_empty.specs.EmptyRecords.{empty_record, joined}
use Rattle.oram_empty.specs.KeptDigests.{piece}
use Rattle.oram_empty.specs.Laws.{EmptyPathsAreTheTrees, LowerLevelsAreTheTrees}
use Rattle.oram_empty.proofs.Counts.{within_tree}
use Rattle.oram_empty.proofs.Fixed.{formats_put}
use Rattle.oram_empty.proofs.Joined.{length-joined}

-- a record of one of the levels
pub piece-joined : (f : ℕ → List ℕ) (len a n k : ℕ) → ((l : ℕ) → a ≤ l → l < a + n → length (f l) ≡ len) → k < n → piece len (joined f a n) k ≡ f (a + k)
unfolding joined piece
piece-joined f len a zero k each within = absurd (omega arith)
piece-joined f len a (suc n) zero each within =
    let none : 0 * len ≡ 0 = omega arith in
    let rest = joined f (a + 1) n in
    ap (λ (x : ℕ). take len (drop x (f a ++ rest))) none ∙ take_at (f a) rest len (each a (omega arith) (omega arith)) ∙ ap f (let e : a ≡ a + 0 = omega arith in e)
piece-joined f len a (suc n) (suc k) each within =
    let rest = joined f (a + 1) n in
    let row : suc k * len ≡ len + k * len = omega arith in
    ap (λ (x : ℕ). take len (drop x (f a ++ rest))) row
    ∙ ap (take len) (sym (drop-drop (k * len) len (f a ++ rest)) ∙ ap (drop (k * len)) (drop_at (f a) rest len (each a (omega arith) (omega arith))))
    ∙ piece-joined f len (a + 1) n k (λ l low high. each l (omega arith) (omega arith)) (omega arith)
    ∙ ap f (let e : a + 1 + k ≡ a + suc k = omega arith in e)

record_at-piece : (p : Path) (level : ℕ) → record_at p level ≡ piece p.record_len p.bytes level
unfolding record_at piece
record_at-piece p level = refl

-- each record of the tree is as long as a record
record_long : (v : Scheme) (i leaf level : ℕ) (tree : Tree) (bodies : List (List ℕ)) → IsTreeMade v i tree bodies → leaf < 2 ^ depth_of v.device i → level ≤ depth_of v.device i
    → length (empty_record v.cipher v.device i leaf level) ≡ record_len_of v.device v.cipher.overhead
record_long v i leaf level tree bodies is leaf_in within =
    let n = node_on (depth_of v.device i) leaf level in
    let node : n < node_count (depth_of v.device tree.number) =
    subst (λ (j : ℕ). n < node_count (depth_of v.device j)) (sym is.number) (within_tree (depth_of v.device i) leaf level leaf_in within) in
    ap length (sym (formats_put v i tree bodies is leaf level leaf_in within)) ∙ is.made.empty.stands.lengths n node

pub lower_levels : LowerLevelsAreTheTrees
lower_levels v i tree bodies is leaf first leaf_in first_in =
    let depth = depth_of v.device i in
    let len = record_len_of v.device v.cipher.overhead in
    let f = empty_record v.cipher v.device i leaf in
    let each : (l : ℕ) → first ≤ l → l < first + (depth + 1 - first) → length (f l) ≡ len = λ l low high. record_long v i leaf l tree bodies is leaf_in (omega arith) in (
      length-joined f len first (depth + 1 - first) each,
      λ level low within.
          piece-joined f len first (depth + 1 - first) (level - first) each (omega arith)
          ∙ ap f (let e : first + (level - first) ≡ level = omega arith in e) ∙ sym (formats_put v i tree bodies is leaf level leaf_in within),
    )

pub tree_paths : EmptyPathsAreTheTrees
tree_paths v i tree bodies is leaf leaf_in =
    let depth = depth_of v.device i in
    let len = record_len_of v.device v.cipher.overhead in
    let all = lower_levels v i tree bodies is leaf 0 leaf_in (omega arith) in
    let bytes = joined (empty_record v.cipher v.device i leaf) 0 (depth + 1 - 0) in
    let p : Path = record { depth = depth; leaf = leaf; record_len = len; bytes = bytes } in (
      all.0 ∙ ap (λ (n : ℕ). n * len) (let e : depth + 1 - 0 ≡ depth + 1 = omega arith in e),
      λ level within. record_at-piece p level ∙ ap (piece len bytes) (let e : level ≡ level - 0 = omega arith in e) ∙ all.1 level (omega arith) within,
    )
