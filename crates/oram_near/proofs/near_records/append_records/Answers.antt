use Rattle.std.proofs.Common.{◌≡◌, ℕ, ◌+◌, ◌*◌, ◌≤◌, arith, List, ◌++◌, length, sym, ap, ◌∙◌, subst, append_assoc}
use Rattle.oram_geometry.specs.Path.{node_on}
use Rattle.oram_geometry.specs.Sizes.{depth_of}
use Rattle.oram_host.specs.Path.{record_at}
use Rattle.oram_semantics.proofs.Bounds.{some_trees}
use Rattle.oram_near.specs.Near.{records_on}
use Rattle.oram_near.proofs.Nodes.{flat_more, record_near}
use Rattle.oram_near.proofs.near_records.append_records.Goals as goal

-- the path and the record of one level more
on_more : (depth leaf level len : ℕ) (records old mid : List ℕ) → mid ≡ old ++ records_on depth leaf level len records
    → mid ++ record_at len records (node_on depth leaf level) ≡ old ++ records_on depth leaf (level + 1) len records
on_more depth leaf level len records old mid before =
    let f : ℕ → List ℕ = λ l. record_at len records (node_on depth leaf l) in
    let here : 0 + level ≡ level = omega arith in
    ap (λ (xs : List ℕ). xs ++ f level) before ∙ append_assoc old (records_on depth leaf level len records) (f level)
    ∙ ap (λ (xs : List ℕ). old ++ xs) (ap (λ (l : ℕ). records_on depth leaf level len records ++ f l) (sym here) ∙ sym (flat_more f 0 level))

pub node_on-node-requires-clause-tree : goal.node_on-node-requires-clause-tree
node_on-node-requires-clause-tree c = some_trees c.args.device.now

pub record_of-requires : goal.record_of-requires
record_of-requires c =
    let near = record_near (depth_of c.args.device.now 0) c.args.leaf c.loop-level.level c.args.levels c.args.record_len c.requires.leaf c.loop-level-test.true c.requires.levels in
    let P : ℕ → Type 0 = λ n. (n + 1) * c.args.record_len ≤ length c.args.records.now in
    subst P (sym c.node_on-node.ensures.value) (omega (arith, near, c.requires.all))

pub loop-level-preserved : goal.loop-level-preserved
loop-level-preserved c =
    c.in_ok-extend_from_slice.ensures.items
    ∙ ap (λ (xs : List ℕ). c.loop-level.path.items ++ xs) (c.record_of.ensures.value ∙ ap (record_at c.args.record_len c.args.records.now) c.node_on-node.ensures.value)
    ∙ on_more (depth_of c.args.device.now 0) c.args.leaf c.loop-level.level c.args.record_len c.args.records.now c.args.path.now.items c.loop-level.path.items c.loop-level.invariant
