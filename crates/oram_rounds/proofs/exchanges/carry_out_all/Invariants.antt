use Rattle.std.proofs.Common.{◌≡◌, ◌⊎◌, ◌+◌, [], ◌∷◌, length}
use Rattle.std.specs.List.{All}
use Rattle.oram_semantics.specs.Progress.Status.{Waiting}
use Rattle.oram_semantics.specs.State.{status_in}
use Rattle.oram_core.specs.Core.{IsSameDevice, NotesChanges, scheme_of}
use Rattle.oram_session.specs.CoreWork.{HasNoWork, answers_left}
use Rattle.oram_session.proofs.Resumed.{HasBody}
use Rattle.oram_rounds.specs.Process.{HasTalked}
use Rattle.oram_rounds.proofs.FailedReplies.{IsOfFailed}
use Rattle.oram_rounds.proofs.exchanges.carry_out_all.Given as goal

abbrev pub invariant-loop-message : goal.invariant-loop-message
invariant-loop-message g l = record {
  kept : IsSameDevice l.fn.core l.core;
  noted : NotesChanges l.fn.core l.core;
  going : ((status_in l.core.state ≡ Waiting) × (l.reaction.sends.items ≡ l.core.state.message ∷ []))
      ⊎ (HasNoWork l.core.state × (l.core.state.queue ≡ []) × (l.reaction.sends.items ≡ []));
  block : All (HasBody l.fn.core.device) l.replies.items;
  count : length l.replies.items + length l.core.state.queue ≡ length l.fn.core.state.queue;
  failed : All (IsOfFailed l.core.state) l.replies.items;
  talked : HasTalked (scheme_of g.S.Sealer.cipher l.fn.core) g.B.BatchLink.batches (l.fn.core.state, l.fn.link) l.replies.items (l.core.state, l.link);
}

abbrev pub decreases-loop-message : goal.decreases-loop-message
decreases-loop-message g l = answers_left l.core.device l.core.state
