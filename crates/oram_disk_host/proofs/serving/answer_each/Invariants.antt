use Rattle.std.proofs.Common.{◌≤◌, ◌-◌, length}
use Rattle.oram_wire.specs.ListOfBodies.{bodies_in}
use Rattle.oram_disk_host.proofs.Groups.{HasDone}
use Rattle.oram_disk_host.proofs.serving.answer_each.Given as goal

abbrev pub invariant-loop-done : goal.invariant-loop-done
invariant-loop-done g l = record {
  within : l.done ≤ length l.bodies;
  has : HasDone g.F.FilePair.model (bodies_in l.bodies) l.done l.fn.hosted l.hosted (g.W.Write.contents l.fn.writer) (g.W.Write.contents l.writer);
}

abbrev pub decreases-loop-done : goal.decreases-loop-done
decreases-loop-done g l = length l.bodies - l.done
