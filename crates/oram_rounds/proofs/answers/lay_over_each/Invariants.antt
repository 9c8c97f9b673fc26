use Rattle.std.proofs.Common.{◌≡◌, take, drop}
use Rattle.oram_rounds.specs.Batches.{texts}
use Rattle.oram_rounds.specs.Overlay.{AreOverlaid}
use Rattle.oram_rounds.proofs.answers.lay_over_each.Given as goal

abbrev pub invariant-loop-i : goal.invariant-loop-i
invariant-loop-i l = record {
  laid : AreOverlaid l.device l.record_len (texts l.stores) (take l.i (texts l.fetches)) (take l.i (texts l.initial.answers)) (take l.i (texts l.answers));
  left : drop l.i l.answers ≡ drop l.i l.initial.answers;
}
