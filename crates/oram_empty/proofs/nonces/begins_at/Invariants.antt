use Rattle.std.proofs.Common.{◌≡◌, ◌≤◌, ◌+◌, ◌*◌, ◌^◌}
use Rattle.oram_geometry.specs.Sizes.{depth_of}
use Rattle.oram_semantics.specs.Nonces.{formatted_below}
use Rattle.oram_empty.specs.EmptyRecords.{begins_at}
use Rattle.oram_empty.proofs.nonces.begins_at.Given as goal

abbrev pub invariant-loop-below : goal.invariant-loop-below
invariant-loop-below l = record {
  value : l.nonce ≡ begins_at (formatted_below l.device l.tree) (depth_of l.device l.tree) l.leaf l.below;
  few : l.nonce ≤ 2 ^ 25 * (14 + l.below);
}
