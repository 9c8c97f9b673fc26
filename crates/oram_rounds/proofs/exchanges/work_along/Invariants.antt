use Rattle.std.proofs.Common.{◌≡◌, ◌⊎◌, ◌+◌, [], List, ℕ, length}
use Rattle.std.specs.List.{All, AllByRecursion}
use Rattle.oram_core.specs.Core.{IsSameDevice, NotesChanges, scheme_of}
use Rattle.oram_core.specs.PlainSteps.{done}
use Rattle.oram_session.specs.CoreWork.{HasNoWork, IsUnderWay, answers_left}
use Rattle.oram_session.proofs.Resumed.{HasBody}
use Rattle.oram_link_laws.specs.Runs.{Exchange}
use Rattle.oram_rounds.specs.Arrivals.{AreArriving, TalksMeanwhile}
use Rattle.oram_rounds.specs.PathMessages.{IsPathFetch}
use Rattle.oram_rounds.specs.Rounds.{Round}
use Rattle.oram_rounds.proofs.FailedReplies.{IsOfFailed}
use Rattle.oram_rounds.proofs.exchanges.work_along.Given as goal

abbrev pub invariant-loop-message : goal.invariant-loop-message
invariant-loop-message g l = record {
  kept : IsSameDevice l.fn.core l.core;
  noted : NotesChanges l.fn.core l.core;
  paths : AllByRecursion (IsPathFetch l.link.device) l.arrivals.due;
  going : IsUnderWay (done l.reaction l.core.state) ⊎ (HasNoWork l.core.state × (l.core.state.queue ≡ []) × (l.reaction.sends.items ≡ []));
  block : All (HasBody l.fn.core.device) l.replies.items;
  count : length l.replies.items + length l.core.state.queue ≡ length l.fn.core.state.queue;
  failed : All (IsOfFailed l.core.state) l.replies.items;
  along : (r : Round _) (fetches : List (List ℕ)) → AreArriving g.B.BatchLink.batches g.B.BatchLink.streams r fetches [] l.fn.arrivals l.fn.link
      → (put : List Exchange) × AreArriving g.B.BatchLink.batches g.B.BatchLink.streams r fetches put l.arrivals l.link
      × TalksMeanwhile (scheme_of g.S.Sealer.cipher l.fn.core) g.B.BatchLink.batches l.fn.core.state l.fn.link put l.replies.items l.core.state l.link;
}

abbrev pub decreases-loop-message : goal.decreases-loop-message
decreases-loop-message g l = answers_left l.core.device l.core.state
