use Rattle.oram_semantics.proofs.Bounds.{some_trees}
use Rattle.oram_core.proofs.parts.validity.is_allowed.Goals as goal

pub blocks_in-requires : goal.blocks_in-requires
blocks_in-requires c = some_trees c.args.device.now
