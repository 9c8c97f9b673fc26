use Rattle.std.proofs.Common.{◌≡◌, ◌-◌, ◌≤◌}
use Rattle.oram_semantics.specs.Nonces.{buckets_below}
use Rattle.oram_core.proofs.parts.validity.path_buckets.Given as goal

abbrev pub invariant-loop-tree : goal.invariant-loop-tree
invariant-loop-tree l = record {
  begun : l.first ≤ l.tree;
  sum : l.buckets ≡ buckets_below l.device l.tree - buckets_below l.device l.first;
}
