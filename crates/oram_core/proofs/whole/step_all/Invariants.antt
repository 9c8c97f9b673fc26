use Rattle.std.proofs.Common.{◌≡◌, length, drop, map}
use Rattle.oram_semantics.specs.Run.{shown_by}
use Rattle.oram_core.specs.Core.{IsSameDevice, scheme_of}
use Rattle.oram_core.proofs.WholeRuns.{Along}
use Rattle.oram_core.proofs.whole.step_all.Given as goal

abbrev pub invariant-loop-event : goal.invariant-loop-event
invariant-loop-event g l = record {
  device : IsSameDevice l.fn.core l.core;
  along : Along (scheme_of g.S.Sealer.cipher l.fn.core) l.fn.core.state l.events (drop l.event-index l.events) (map shown_by l.reactions.items) l.core.state;
  count : length l.reactions.items ≡ l.event-index;
}
