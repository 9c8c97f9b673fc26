use Rattle.std.proofs.Common.{◌≡◌}
use Rattle.oram_settings.specs.Status as spec
use Rattle.oram_settings.proofs.status.stashed.Given as goal

-- the blocks in the stashes of the trees so far
abbrev pub invariant-loop-tree : goal.invariant-loop-tree
invariant-loop-tree g l = l.blocks ≡ spec.stashed_below l.core.state l.tree
