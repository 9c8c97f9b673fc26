use Rattle.std.proofs.Common.{map, take}
use Rattle.std.specs.List.{FoldsTo}
use Rattle.oram_export.specs.Images.{write_of}
use Rattle.oram_export.proofs.blocks.put_blocks.Given as goal

abbrev pub invariant-loop-block : goal.invariant-loop-block
invariant-loop-block g l = FoldsTo g.K.BlockSink.takes l.initial.sink (map write_of (take l.block-index l.blocks)) l.sink
