use Rattle.std.proofs.Common.{◌≡◌, ◌≢◌, ℕ, ◌+◌, ◌*◌, ◌^◌, ◌<◌, ◌≤◌, arith, List, length, sym, ap, ◌∙◌, subst, inl, inr}
use Rattle.std.proofs.Math.Nat.{mul-le-mul_right}
use Rattle.std.proofs.lemmas.Bool.{cases_eq}
use Rattle.oram_geometry.specs.Path.{node_on}
use Rattle.oram_geometry.specs.Sizes.{depth_of}
use Rattle.oram_host.specs.Path.{record_at}
use Rattle.oram_semantics.proofs.Bounds.{some_trees}
use Rattle.oram_near.specs.Near.{PutsPath, PutsRecord}
use Rattle.oram_near.specs.NearLevels.{near_len}
use Rattle.oram_near.proofs.Nodes.{record_near, same_level}
use Rattle.oram_near.proofs.near_records.put_path.Goals as goal

-- the records of one level more
module _ (depth leaf len level : ℕ) (path old mid new : List ℕ) (fits : leaf < 2 ^ depth) (deep : level ≤ depth) where
  puts_more : (node : ℕ) (stored : List ℕ) → node ≡ node_on depth leaf level → stored ≡ record_at len path level → PutsPath depth leaf level len path old mid
      → PutsRecord len node stored mid new → PutsPath depth leaf (level + 1) len path old new
  puts_more node stored named is before here = record {
    long = here.long ∙ before.long;
    put = λ k low. elim (cases_eq k level) [
      | inl last ↦
          ap (λ (n : ℕ). record_at len new (node_on depth leaf n)) last
          ∙ ap (record_at len new) (sym named) ∙ here.put ∙ is ∙ ap (record_at len path) (sym last)
      | inr other ↦
          let apart : node_on depth leaf k ≢ node = λ e. other (same_level depth leaf leaf k level fits fits (omega (arith, low, deep)) deep (e ∙ named)) in
          here.others (node_on depth leaf k) apart ∙ before.put k (omega (arith, low, other))
    ];
    others = λ n off.
        here.others n (λ e. off level (omega arith) (e ∙ named)) ∙ before.others n (λ k low. off k (omega (arith, low)));
  }

pub node_on-node-requires-clause-tree : goal.node_on-node-requires-clause-tree
node_on-node-requires-clause-tree c = some_trees c.args.device.now

pub record_of-stored-requires : goal.record_of-stored-requires
record_of-stored-requires c =
    let level : ℕ = c.loop-level.level in
    let most : (level + 1) * c.args.record_len ≤ (depth_of c.args.device.now 0 + 1) * c.args.record_len = mul-le-mul_right c.args.record_len (omega arith) in
    let P : ℕ → Type 0 = λ n. (n + 1) * c.args.record_len ≤ length c.args.path.now in
    subst P (sym c.from.ensures) (omega (arith, most, c.requires.whole))

pub put_record-requires-clause-there : goal.put_record-requires-clause-there
put_record-requires-clause-there c =
    let near = record_near (depth_of c.args.device.now 0) c.args.leaf c.loop-level.level c.args.levels c.args.record_len c.requires.leaf c.loop-level-test.true c.requires.levels in
    let P : ℕ → Type 0 = λ n. (n + 1) * c.args.record_len ≤ length c.loop-level.records in
    subst P (sym c.node_on-node.ensures.value) (omega (arith, near, c.requires.all, c.loop-level.invariant.puts.long))

pub loop-level-preserved : goal.loop-level-preserved
loop-level-preserved c = record {
  puts =
      puts_more (depth_of c.args.device.now 0) c.args.leaf c.args.record_len c.loop-level.level c.args.path.now c.args.records.now c.loop-level.records c.put_record.new.records
      c.requires.leaf (omega arith) c.node_on-node.result c.record_of-stored.result.now c.node_on-node.ensures.value
      (c.record_of-stored.ensures.value ∙ ap (record_at c.args.record_len c.args.path.now) c.from.ensures) c.loop-level.invariant.puts c.put_record.ensures;
  rest =
      let near = record_near (depth_of c.args.device.now 0) c.args.leaf c.loop-level.level c.args.levels c.args.record_len c.requires.leaf c.loop-level-test.true c.requires.levels in
      let P : ℕ → Type 0 = λ n. (n + 1) * c.args.record_len ≤ near_len c.args.levels c.args.record_len in
      c.put_record.ensures.behind (near_len c.args.levels c.args.record_len) (subst P (sym c.node_on-node.ensures.value) near) ∙ c.loop-level.invariant.rest;
}
