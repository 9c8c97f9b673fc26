use Rattle.std.proofs.Common.{◌≡◌}
use Rattle.oram_settings.specs.Footprint as spec
use Rattle.oram_settings.proofs.footprint.nodes_of.Given as goal

-- the nodes of the trees so far
abbrev pub invariant-loop-tree : goal.invariant-loop-tree
invariant-loop-tree l = l.nodes ≡ spec.nodes_below l.device l.tree
