use Rattle.oram_host.specs.Trees.{IsTree, kept_by}
use Rattle.oram_host.proofs.Overwritten.{IsOverwritten}
use Rattle.oram_host.proofs.trees.Tree.overwrite_path.Given as goal

abbrev pub invariant-loop-level : goal.invariant-loop-level
invariant-loop-level l = record {
  tree : IsTree l.self;
  so_far : IsOverwritten (kept_by l.fn.self) l.leaf l.records l.level (kept_by l.self);
}
