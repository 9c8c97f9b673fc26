use Rattle.std.proofs.Common.{sym, ◌∙◌}
use Rattle.oram_geometry.proofs.Ranges.{in_ranges}
use Rattle.oram_geometry.proofs.Device.packed.Goals as goal

pub block_counts-blocks-requires : goal.block_counts-blocks-requires
block_counts-blocks-requires c = in_ranges _ (sym c.shape_fault.ensures ∙ c.in_default.is)

pub tree_count-trees-requires-clause-ranges : goal.tree_count-trees-requires-clause-ranges
tree_count-trees-requires-clause-ranges c = in_ranges _ (sym c.shape_fault.ensures ∙ c.in_default.is)

pub depths_for-depths-requires-clause-ranges : goal.depths_for-depths-requires-clause-ranges
depths_for-depths-requires-clause-ranges c = in_ranges _ (sym c.shape_fault.ensures ∙ c.in_default.is)

pub invariant_of-result : goal.invariant_of-result
invariant_of-result c = record {
  ranges = in_ranges _ (sym c.shape_fault.ensures ∙ c.in_default.is);
  count = c.tree_count-trees.ensures;
  each_blocks = c.block_counts-blocks.ensures;
  each_depth = c.depths_for-depths.ensures;
}
