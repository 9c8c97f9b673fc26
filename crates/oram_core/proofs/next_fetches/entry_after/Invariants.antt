use Rattle.std.proofs.Common.{◌≡◌, ◌-◌, ◌^◌, ◌≤◌, drop, slice_index, take}
use Rattle.oram_geometry.specs.Sizes.{depth_of, trees_of}
use Rattle.oram_semantics.specs.NextFetches.{table_after}
use Rattle.oram_core.proofs.next_fetches.entry_after.Given as goal

abbrev pub invariant-loop-at : goal.invariant-loop-at
invariant-loop-at l = record {
  value : l.entry ≡ slice_index (table_after l.device l.table (drop l.from (take l.at l.queue.items))) l.block;
  range : l.entry ≤ 2 ^ depth_of l.device (trees_of l.device - 1);
}
