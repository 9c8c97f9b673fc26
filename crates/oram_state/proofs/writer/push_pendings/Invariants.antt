use Rattle.std.proofs.Common.{◌≡◌, ◌++◌, All, take}
use Rattle.std.specs.List.{flat_map}
use Rattle.oram_state.specs.StateBytes.{pending_text}
use Rattle.oram_state.specs.WellSized.{CommandFits}
use Rattle.oram_state.proofs.writer.push_pendings.Given as goal

abbrev pub invariant-loop-pending : goal.invariant-loop-pending
invariant-loop-pending l = record {
  spelled : l.out.items ≡ l.fn.out.items ++ flat_map pending_text (take l.pending-index l.waiting);
  fit : All CommandFits (take l.pending-index l.waiting);
}
