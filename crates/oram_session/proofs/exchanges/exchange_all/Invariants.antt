use Rattle.std.proofs.Common.{◌≡◌, ◌+◌, ◌++◌, List, length}
use Rattle.std.specs.List.{All}
use Rattle.oram_semantics.specs.declared.events.Reply.{Reply}
use Rattle.oram_core.specs.Core.{IsSameDevice, scheme_of}
use Rattle.oram_core.specs.PlainSteps.{done}
use Rattle.oram_session.specs.Exchanges.{Delivery, AllSentFrom, retries_after}
use Rattle.oram_session.specs.CoreWork.{answers_left}
use Rattle.oram_session.specs.Turns.{most_retries}
use Rattle.oram_session.proofs.Resumed.{IsGoing, HasBody, replies_of}
use Rattle.oram_session.proofs.exchanges.exchange_all.Given as goal

abbrev pub invariant-loop-message : goal.invariant-loop-message
invariant-loop-message g l = record {
  kept : IsSameDevice l.fn.core l.core;
  going : IsGoing (done l.reaction l.core.state);
  block : All (HasBody l.fn.core.device) l.reaction.replies.items;
  sent : let v = scheme_of g.S.Sealer.cipher l.fn.core in
      (xs : List Delivery) × AllSentFrom v g.L.Link.calls l.first most_retries (l.fn.core.state, l.fn.link) xs (l.core.state, l.link)
      × (length (replies_of xs) + length l.core.state.queue ≡ length l.fn.core.state.queue)
      × (l.most ≡ retries_after l.first most_retries xs)
      × ((early : List Reply) × (replies_of xs ≡ early ++ l.reaction.replies.items));
}

abbrev pub decreases-loop-message : goal.decreases-loop-message
decreases-loop-message g l = answers_left l.core.device l.core.state
