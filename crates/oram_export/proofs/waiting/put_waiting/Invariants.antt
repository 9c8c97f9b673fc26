use Rattle.std.proofs.Common.{take}
use Rattle.std.specs.List.{FoldsTo, flat_map}
use Rattle.oram_export.specs.Images.{writes_of}
use Rattle.oram_export.proofs.waiting.put_waiting.Given as goal

abbrev pub invariant-loop-pending : goal.invariant-loop-pending
invariant-loop-pending g l = FoldsTo g.K.BlockSink.takes l.initial.sink (flat_map (λ p. writes_of l.zeros p.command) (take l.pending-index l.waiting)) l.sink
