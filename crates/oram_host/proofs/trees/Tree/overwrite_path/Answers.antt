use Rattle.std.proofs.Common.{◌≡◌, ◌≤◌, ◌*◌, ◌∙◌, ap, refl, arith, ℕ}
use Rattle.oram_host.specs.Path.{node_on}
use Rattle.oram_host.specs.Trees.{kept_by}
use Rattle.oram_host.proofs.Overwritten.{overwritten_more, part_at}
use Rattle.oram_host.proofs.trees.Tree.overwrite_path.Goals as goal

pub loop-level-preserved : goal.loop-level-preserved
loop-level-preserved c =
    let old = c.args.self.now in
    let level = c.loop-level.level in
    let inv = c.loop-level.invariant in
    let depth : c.loop-level.self.depth ≡ c.args.self.now.depth = inv.so_far.depth in
    let within : c.loop-level.level ≤ c.args.self.now.depth = omega arith in
    record {
      tree = c.overwrite.ensures.tree;
      so_far = overwritten_more (kept_by old) (kept_by c.loop-level.self) (kept_by c.overwrite.new.self) c.args.leaf c.args.records.now _ level c.node_at-node.result inv.so_far within
          (c.node_at-node.ensures.place ∙ ap (λ (d : ℕ). node_on d c.args.leaf c.loop-level.level) depth)
          (part_at old.record_len level (level * old.record_len) old.record_len c.args.records.now refl refl) c.overwrite.ensures.put;
    }
