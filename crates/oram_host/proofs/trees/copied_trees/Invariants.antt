use Rattle.std.proofs.Common.{◌≡◌, ◌++◌}
use Rattle.oram_host.specs.Trees.{AreTrees, host_of}
use Rattle.oram_host.proofs.LoadedHosts.{kept_trees}
use Rattle.oram_host.proofs.trees.copied_trees.Given as goal

-- the copies so far and the trees that are left are all the trees
abbrev pub invariant-loop-number : goal.invariant-loop-number
invariant-loop-number l = record {
  whole : host_of l.copied ++ kept_trees l.number-iterator ≡ host_of l.trees;
  trees : AreTrees l.copied;
}
