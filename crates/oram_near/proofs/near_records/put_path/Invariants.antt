use Rattle.oram_geometry.specs.Sizes.{depth_of}
use Rattle.std.proofs.Common.{◌≡◌, drop}
use Rattle.oram_near.specs.Near.{PutsPath}
use Rattle.oram_near.specs.NearLevels.{near_len}
use Rattle.oram_near.proofs.near_records.put_path.Given as goal

abbrev pub invariant-loop-level : goal.invariant-loop-level
invariant-loop-level l = record {
  puts : PutsPath (depth_of l.device 0) l.leaf l.level l.record_len l.path l.initial.records l.records;
  rest : drop (near_len l.levels l.record_len) l.records ≡ drop (near_len l.levels l.record_len) l.initial.records;
}
