-- Records that were overwritten in place.
use Rattle.std.proofs.Common.{◌≡◌, ◌≢◌, ℕ, ◌+◌, ◌-◌, ◌*◌, ◌<◌, ◌≤◌, inl, inr, List, length, take, drop, Option, Some, None, IsSome, refl, ap, sym, ◌∙◌, arith}
use Rattle.std.specs.BTreeMap.{BTreeMap, WritesThrough, get}
use Rattle.std.specs.Ordering.{nat_cmp}
use Rattle.std.proofs.lemmas.Bool.{cases_eq}
use Rattle.oram_host.specs.declared.trees.Tree.{Tree}
use Rattle.oram_host.specs.Host.{Kept, record_of}
use Rattle.oram_host.specs.Path.{PutsRecord, node_on, record_at}
use Rattle.oram_host.specs.Trees.{IsTree, kept_by}
use Rattle.oram_host.proofs.Flipped.{record_in_map, record_kept_at, tree_written}
use Rattle.oram_host.proofs.LoadedHosts.{is_kept}
use Rattle.oram_host.proofs.Nodes.{node_on-injective}
use Rattle.oram_host.proofs.Paths.{step_is}
use Rattle.oram_host.proofs.Records.{puts_record, record_absent}

some_of : (o : Option (List ℕ)) → IsSome o → (x : List ℕ) × (o ≡ Some x)
some_of None h = absurd cc
some_of (Some x) h = (x, refl)

-- the record in the map is as long as the records of its tree
pub whole_in_map : (tree : Tree) (node : ℕ) (bytes : List ℕ) → IsTree tree → IsSome (record_of (kept_by tree) node) → get nat_cmp tree.records node ≡ Some bytes → length bytes ≡ tree.record_len
whole_in_map tree node bytes h some there =
    let stored = some_of (record_of (kept_by tree) node) some in
    sym (ap length (record_in_map tree node bytes stored.0 h there stored.1)) ∙ (record_kept_at (kept_by tree) node stored.0 (is_kept tree h) stored.1).whole

pub there_in_map : (tree : Tree) (node : ℕ) → IsTree tree → IsSome (record_of (kept_by tree) node) → get nat_cmp tree.records node ≢ None
there_in_map tree node h some none =
    let stored = some_of (record_of (kept_by tree) node) some in
    let absent : record_of (kept_by tree) node ≡ None = record_absent tree node h.ordered none in
    let is = stored.1 in
    absurd cc

pub overwritten : (tree : Tree) (new : BTreeMap ℕ (List ℕ)) (node : ℕ) (was bytes : List ℕ) → IsTree tree → IsSome (record_of (kept_by tree) node) → get nat_cmp tree.records node ≡ Some was
    → length bytes ≡ tree.record_len → WritesThrough nat_cmp (nat_cmp node) tree.records bytes new
    → (let changed : Tree = record { depth = tree.depth; record_len = tree.record_len; records = new } in IsTree changed × PutsRecord (kept_by tree) node bytes (kept_by changed))
overwritten tree new node was bytes h some there whole written =
    let changed : Tree = record { depth = tree.depth; record_len = tree.record_len; records = new } in
    let stored = some_of (record_of (kept_by tree) node) some in
    let at = record_kept_at (kept_by tree) node stored.0 (is_kept tree h) stored.1 in
    let found : IsSome (get nat_cmp tree.records node) = rw there refl in (
      tree_written tree new node bytes h written whole,
      puts_record tree changed node bytes h.ordered written.4 refl refl at.node whole h.shape.long (written.3 found),
    )

-- the records of a path are overwritten down to this level, and no others
pub record IsOverwritten (old : Kept) (leaf : ℕ) (bytes : List ℕ) (level : ℕ) (new : Kept) : Type 0 where
  pub depth : new.depth ≡ old.depth
  pub record_len : new.record_len ≡ old.record_len
  pub each : (k : ℕ) → k < level → record_of new (node_on old.depth leaf k) ≡ Some (record_at old.record_len bytes k)
  pub others : (node : ℕ) → ((k : ℕ) → k < level → node ≢ node_on old.depth leaf k) → record_of new node ≡ record_of old node

pub overwritten_more : (old mid new : Kept) (leaf : ℕ) (bytes piece : List ℕ) (level node : ℕ) → IsOverwritten old leaf bytes level mid → level ≤ old.depth → node ≡ node_on old.depth leaf level
    → piece ≡ record_at old.record_len bytes level → PutsRecord mid node piece new → IsOverwritten old leaf bytes (level + 1) new
overwritten_more old mid new leaf bytes piece level node so_far within at is puts = record {
  depth = puts.depth ∙ so_far.depth;
  record_len = puts.record_len ∙ so_far.record_len;
  each = λ k below. elim (cases_eq k level) [
    | inl same ↦ ap (λ (l : ℕ). record_of new (node_on old.depth leaf l)) same ∙ ap (record_of new) (sym at) ∙ puts.put ∙ ap (λ (xs : List ℕ). Some xs) is ∙ ap (λ (l : ℕ). Some (record_at old.record_len bytes l)) (sym same)
    | inr other ↦
        puts.others (node_on old.depth leaf k) (λ e. other (node_on-injective old.depth leaf k level (omega arith) within (e ∙ at)))
        ∙ so_far.each k (omega arith)
  ];
  others = λ n off. puts.others n (λ e. off level (omega arith) (e ∙ at)) ∙ so_far.others n (λ k below. off k (omega arith));
}

-- the part of a level, as it is cut off
pub part_at : (len level a b : ℕ) (bytes : List ℕ) → a ≡ level * len → b ≡ len → take (a + b - a) (drop a bytes) ≡ record_at len bytes level
part_at len level a b bytes at width =
    let step = step_is level len in
    let span : a + b - a ≡ (level + 1) * len - level * len = omega arith in
    ap (λ (n : ℕ). take n (drop a bytes)) span ∙ ap (λ (n : ℕ). take ((level + 1) * len - level * len) (drop n bytes)) at
