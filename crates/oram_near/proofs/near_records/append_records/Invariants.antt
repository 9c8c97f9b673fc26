use Rattle.std.proofs.Common.{◌≡◌, ◌++◌}
use Rattle.oram_geometry.specs.Sizes.{depth_of}
use Rattle.oram_near.specs.Near.{records_on}
use Rattle.oram_near.proofs.near_records.append_records.Given as goal

abbrev pub invariant-loop-level : goal.invariant-loop-level
invariant-loop-level l = l.path.items ≡ l.initial.path.items ++ records_on (depth_of l.device 0) l.leaf l.level l.record_len l.records
