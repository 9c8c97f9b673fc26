-- Requests that the trees of a store don't refuse.
use Rattle.std.proofs.Common.{◌≡◌, ℕ, ◌+◌, ◌-◌, ◌*◌, ◌^◌, ◌<◌, ◌≤◌, Bool, true, false, true≢false, refl, List, length, Option, None, Some, sym, ap, ◌∙◌, arith}
use Rattle.std.specs.Prelude.{IsSome, nat_le, nat_lt, ◌==◌, is_none}
use Rattle.std.proofs.lemmas.Bool.{cond-false, cond-true}
use Rattle.std.proofs.lemmas.Bool.Decides.{nat_tests}
use Rattle.oram_host.specs.declared.refusals.HostRefusal.{HostRefusal}
use Rattle.oram_host.specs.declared.refusals.HostRefusal.TheVariants as refusal
use Rattle.oram_host.specs.ImageReader.{is_shape}
use Rattle.oram_layout.specs.Limits.{TreeShape, levels_from}
use Rattle.oram_layout.specs.Trees.{Trees, shape_at, shape_of, sizes_of, tree_at}
use Rattle.oram_layout.specs.declared.trees.Tree.{Tree}
use Rattle.oram_levels.specs.Messages.{FetchLevels, StoreLevels}
use Rattle.oram_store.specs.LevelsAnswers.{levels_refusal}
use Rattle.oram_store.specs.Refusals.{by_shape, is_fixed, refusal_by, unless, when}
use Rattle.oram_wire.specs.declared.host_messages.HostRequest.TheVariants as request

-- a clause about refused requests says nothing of one that isn't refused
pub not_refused : (why : Option HostRefusal) (P : Type 0) → why ≡ None → IsSome why → P
not_refused None P is some = absurd (true≢false (sym some))
not_refused (Some x) P is some = absurd (differs is)
  where
    differs : Some x ≡ None → ⊥
    differs e = cc

pub fetch_allowed : (trees : Trees) (number leaf : ℕ) (tree : Tree) → tree_at trees number ≡ Some tree → leaf < 2 ^ tree.shape.depth → refusal_by trees (request.Fetch number leaf) ≡ None
fetch_allowed trees number leaf tree there below =
    let test : nat_lt leaf (2 ^ tree.shape.depth) ≡ true = grind (arith, nat_tests) in
    rw there (cond-true (nat_lt leaf (2 ^ tree.shape.depth)) None (Some refusal.BadLeaf) test)

pub levels_fetch_allowed : (trees : Trees) (number first last leaf : ℕ) (tree : Tree) → tree_at trees number ≡ Some tree → leaf < 2 ^ tree.shape.depth → last ≤ tree.shape.depth → first ≤ last
    → levels_refusal trees (FetchLevels number first last leaf) ≡ None
levels_fetch_allowed trees number first last leaf tree there below within order =
    let test : nat_lt leaf (2 ^ tree.shape.depth) ≡ true = grind (arith, nat_tests) in
    let end : nat_le last tree.shape.depth ≡ true = grind (arith, nat_tests) in
    let rising : nat_le first last ≡ true = grind (arith, nat_tests) in
    rw there (cond-true (nat_lt leaf (2 ^ tree.shape.depth)) _ (Some refusal.BadLeaf) test ∙ cond-true (nat_le last tree.shape.depth) _ (Some refusal.BadNode) end
    ∙ cond-true (nat_le first last) None (Some refusal.BadLength) rising)

pub levels_store_allowed : (trees : Trees) (number first leaf : ℕ) (records : List ℕ) (tree : Tree) → tree_at trees number ≡ Some tree → is_fixed trees number ≡ false → leaf < 2 ^ tree.shape.depth → first ≤ tree.shape.depth
    → length records ≡ levels_from (sizes_of tree.shape) first * tree.shape.record_len → levels_refusal trees (StoreLevels number first leaf records) ≡ None
levels_store_allowed trees number first leaf records tree there free below within whole =
    let test : nat_lt leaf (2 ^ tree.shape.depth) ≡ true = grind (arith, nat_tests) in
    let begin : nat_le first tree.shape.depth ≡ true = grind (arith, nat_tests) in
    let long : (length records == levels_from (sizes_of tree.shape) first * tree.shape.record_len) ≡ true = grind (arith, nat_tests) in
    rw there (cond-false (is_fixed trees number) (Some refusal.ShapeTaken) _ free ∙ cond-true (nat_lt leaf (2 ^ tree.shape.depth)) _ (Some refusal.BadLeaf) test
    ∙ cond-true (nat_le first tree.shape.depth) _ (Some refusal.BadNode) begin ∙ cond-true (length records == levels_from (sizes_of tree.shape) first * tree.shape.record_len) None (Some refusal.BadLength) long)

-- a STORE of levels from the root on is refused for the same reason as the STORE of the path
whole_refusal : (shape : Option TreeShape) (fixed : Bool) (leaf : ℕ) (records : List ℕ)
    → by_shape shape (λ s. when fixed refusal.ShapeTaken (unless (nat_lt leaf (2 ^ s.depth)) refusal.BadLeaf (unless (nat_le 0 s.depth) refusal.BadNode (unless (length records == levels_from s 0 * s.record_len) refusal.BadLength None))))
    ≡ by_shape shape (λ s. when fixed refusal.ShapeTaken (unless (nat_lt leaf (2 ^ s.depth)) refusal.BadLeaf (unless (length records == (s.depth + 1) * s.record_len) refusal.BadLength None)))
whole_refusal None fixed leaf records = refl
whole_refusal (Some s) fixed leaf records =
    let from_root : nat_le 0 s.depth ≡ true = grind (arith, nat_tests) in
    let all : levels_from s 0 ≡ s.depth + 1 = omega arith in
    ap (λ (b : Bool). when fixed refusal.ShapeTaken (unless (nat_lt leaf (2 ^ s.depth)) refusal.BadLeaf (unless b refusal.BadNode (unless (length records == levels_from s 0 * s.record_len) refusal.BadLength None)))) from_root
    ∙ ap (λ (n : ℕ). when fixed refusal.ShapeTaken (unless (nat_lt leaf (2 ^ s.depth)) refusal.BadLeaf (unless (length records == n * s.record_len) refusal.BadLength None))) all

pub whole_path_refusal : (trees : Trees) (number leaf : ℕ) (records : List ℕ) → levels_refusal trees (StoreLevels number 0 leaf records) ≡ refusal_by trees (request.Store number leaf records)
whole_path_refusal trees number leaf records = whole_refusal (shape_at trees number) (is_fixed trees number) leaf records

pub put_allowed : (trees : Trees) (number node : ℕ) (bytes : List ℕ) (tree : Tree) → tree_at trees number ≡ Some tree → is_fixed trees number ≡ false → node < 2 ^ (tree.shape.depth + 1) - 1
    → length bytes ≡ tree.shape.record_len → refusal_by trees (request.Put number node bytes) ≡ None
put_allowed trees number node bytes tree there free below whole =
    let test : nat_lt node (2 ^ (tree.shape.depth + 1) - 1) ≡ true = grind (arith, nat_tests) in
    let long : (length bytes == tree.shape.record_len) ≡ true = grind (arith, nat_tests) in
    rw there (cond-false (is_fixed trees number) (Some refusal.ShapeTaken) _ free ∙ cond-true (nat_lt node (2 ^ (tree.shape.depth + 1) - 1)) _ (Some refusal.BadNode) test ∙ cond-true (length bytes == tree.shape.record_len) None (Some refusal.BadLength) long)

pub shape_allowed : (trees : Trees) (number depth record_len : ℕ) → is_shape depth record_len ≡ true → tree_at trees number ≡ None → refusal_by trees (request.Shape number depth record_len) ≡ None
shape_allowed trees number depth record_len fits free =
    cond-true (is_shape depth record_len) _ (Some refusal.BadLength) fits
    ∙ cond-true (is_none (shape_at trees number)) None (Some refusal.ShapeTaken) (ap (λ (t : Option Tree). is_none (shape_of t)) free)
