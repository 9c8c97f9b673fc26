use Rattle.oram_semantics.proofs.Bounds.{some_trees}
use Rattle.oram_near.proofs.near_records.NearRecords.new.Goals as goal

pub depth-deep-requires : goal.depth-deep-requires
depth-deep-requires c = some_trees c.args.device.now
