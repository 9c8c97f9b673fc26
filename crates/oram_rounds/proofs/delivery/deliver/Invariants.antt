use Rattle.std.proofs.Common.{◌≤◌, ◌-◌}
use Rattle.oram_core.specs.Core.{IsSameDevice, NotesChanges, scheme_of}
use Rattle.oram_session.proofs.Exchanged.{Tried}
use Rattle.oram_rounds.proofs.delivery.deliver.Given as goal

abbrev pub invariant-loop-reaction : goal.invariant-loop-reaction
invariant-loop-reaction g l = record {
  kept : IsSameDevice l.fn.core l.core;
  noted : NotesChanges l.fn.core l.core;
  tried : Tried (scheme_of g.S.Sealer.cipher l.fn.core) g.L.Link.calls l.message l.fn.core.state l.fn.link l.retries l.core.state l.link;
  few : l.retries ≤ l.most;
}

abbrev pub decreases-loop-reaction : goal.decreases-loop-reaction
decreases-loop-reaction g l = l.most - l.retries
