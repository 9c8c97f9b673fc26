use Rattle.oram_semantics.proofs.Bounds.{some_trees}
use Rattle.oram_core.proofs.machine.Core.refusal.Goals as goal

pub blocks_in-requires : goal.blocks_in-requires
blocks_in-requires g c = some_trees c.self.inside.device
