use Rattle.std.proofs.Common.{◌≡◌, ◌<◌, [], ◌∷◌, ◌++◌, List, length, length-append, Err, sym, ap, ◌∙◌, subst, arith, inl, inr}
use Rattle.std.proofs.lemmas.List.Elements.{All-append}
use Rattle.std.proofs.lemmas.Result.{err_from_is_err_and}
use Rattle.std.specs.List.{All}
use Rattle.oram_geometry.specs.declared.Sizes.{Sizes}
use Rattle.oram_semantics.specs.Progress.Status.{Waiting}
use Rattle.oram_semantics.specs.Scheme.{Scheme}
use Rattle.oram_semantics.specs.State.{status_in}
use Rattle.oram_semantics.specs.declared.events.Reply.{Reply}
use Rattle.oram_core.specs.Core.{scheme_of}
use Rattle.oram_core.specs.PlainSteps.{done}
use Rattle.oram_session.specs.Exchanges.{IsCutOff, IsSent}
use Rattle.oram_session.specs.CoreWork.{answers_left}
use Rattle.oram_session.proofs.CoreSteps.{left_heard, same_scheme, same_trans}
use Rattle.oram_session.proofs.Resumed.{HasBody, heard_bodies, heard_count, heard_going, some_at_work}
use Rattle.oram_rounds.specs.Process.{HasTalked}
use Rattle.oram_rounds.specs.Rounds.{IsCounted}
use Rattle.oram_rounds.proofs.FailedReplies.{IsOfFailed, heard_failures, still_of_failed}
use Rattle.oram_rounds.proofs.Talk.{cut_talks, sent_talks, talked_more}
use Rattle.oram_rounds.proofs.exchanges.carry_out_all.Goals as goal

pub returns-in_err-reaction-clause-err : goal.returns-in_err-reaction-clause-err
returns-in_err-reaction-clause-err g c =
    let p = err_from_is_err_and c.from_residual.result c.from_residual.ensures.1 in
    let now = c.loop-message.core in
    let after = c.deliver.new.core in
    let batches = g.B.BatchLink.batches in
    let v = scheme_of g.S.Sealer.cipher c.args.core.now in
    let same = same_scheme g.S.Sealer.cipher c.args.core.now now c.loop-message.invariant.kept in
    let before = c.loop-message.invariant.talked in
    rw p.1 (elim c.in_err-reaction.ensures.fault [
      | inl stalled ↦
          let w = c.in_err-reaction.ensures.stalled (ap Err stalled) in
          let sent = subst (λ (u : Scheme). IsSent u (IsCounted batches) 3 (now.state, c.loop-message.link) w.0 (after.state, c.deliver.new.link)) same w.1 in
          (c.loop-message.replies.items ++ w.0.replies, talked_more batches v _ _ _ _ _ before (sent_talks batches v 3 _ w.0 _ sent))
      | inr memory ↦
          let w = c.in_err-reaction.ensures.memory (ap Err memory) in
          let cut = subst (λ (u : Scheme). IsCutOff u (IsCounted batches) 3 (now.state, c.loop-message.link) w.0 (after.state, c.deliver.new.link)) same w.1 in
          let rest = cut_talks batches v 3 _ w.0 _ cut in
          (c.loop-message.replies.items ++ rest.0, talked_more batches v _ _ _ _ _ before rest.1)
    ])

pub returns-in_err-append-clause-err : goal.returns-in_err-append-clause-err
returns-in_err-append-clause-err g c =
    let p = err_from_is_err_and c.from_residual-in_err-append.result c.from_residual-in_err-append.ensures.1 in
    let now = c.loop-message.core in
    let after = c.deliver.new.core in
    let batches = g.B.BatchLink.batches in
    let v = scheme_of g.S.Sealer.cipher c.args.core.now in
    let same = same_scheme g.S.Sealer.cipher c.args.core.now now c.loop-message.invariant.kept in
    let e = c.in_ok-reaction.ensures.ok in
    let sent = subst (λ (u : Scheme). IsSent u (IsCounted batches) 3 (now.state, c.loop-message.link) e.0 (after.state, c.deliver.new.link)) same e.1 in
    rw p.1 (c.loop-message.replies.items ++ e.0.replies, talked_more batches v _ _ _ _ _ c.loop-message.invariant.talked (sent_talks batches v 3 _ e.0 _ sent))

pub loop-message-preserved : goal.loop-message-preserved
loop-message-preserved g c =
    let k = c.loop-message.invariant in
    let e = c.in_ok-reaction.ensures.ok in
    let some = c.in-Some.ensures.items in
    let now = c.loop-message.core in
    let after = c.deliver.new.core in
    let batches = g.B.BatchLink.batches in
    let v = scheme_of g.S.Sealer.cipher c.args.core.now in
    let u = scheme_of g.S.Sealer.cipher now in
    let same = same_scheme g.S.Sealer.cipher c.args.core.now now k.kept in
    let empty : c.loop-message.reaction.sends.items ≡ [] → ⊥ = λ none. absurd (omega (arith, length-append c.pop.new.self.items (c.in-Some.message ∷ []), ap length (sym some ∙ none))) in
    let waits : status_in now.state ≡ Waiting = elim k.going [ inl a ↦ a.0 | inr a ↦ absurd (empty a.2) ] in
    let heard = c.in_ok-reaction.ensures.heard in
    let replies = c.in_ok-reaction.reaction.replies.items in
    let sent = subst (λ (w : Scheme). IsSent w (IsCounted batches) 3 (now.state, c.loop-message.link) e.0 (after.state, c.deliver.new.link)) same e.1 in
    let more = talked_more batches v _ _ _ _ _ k.talked (sent_talks batches v 3 _ e.0 _ sent) in
    let all : c.loop-message.replies.items ++ e.0.replies ≡ c.append.new.self.items = ap (λ (rs : List Reply). c.loop-message.replies.items ++ rs) e.3 ∙ sym c.in_ok-append.ensures.items in
    record {
      kept = same_trans c.args.core.now now after k.kept c.deliver.ensures.kept;
      noted = λ table noted. c.deliver.ensures.noted table (k.noted table noted);
      going = elim (heard_going u now.state (done c.in_ok-reaction.reaction after.state) waits heard) [ inl a ↦ inl a | inr a ↦ inr (a.0, a.1, a.2) ];
      block = subst (All (HasBody c.args.core.now.device)) (sym c.in_ok-append.ensures.items)
          (All-append (HasBody c.args.core.now.device) c.loop-message.replies.items replies k.block
          (subst (λ (d : Sizes). All (HasBody d) replies) k.kept.0 (heard_bodies u now.state (done c.in_ok-reaction.reaction after.state) heard)));
      count =
          let joined = ap length c.in_ok-append.ensures.items ∙ length-append c.loop-message.replies.items replies in
          let left = heard_count u now.state (done c.in_ok-reaction.reaction after.state) heard in
          let before = k.count in
          omega arith;
      failed = subst (All (IsOfFailed after.state)) (sym c.in_ok-append.ensures.items)
          (All-append (IsOfFailed after.state) c.loop-message.replies.items replies (still_of_failed now.state after.state c.loop-message.replies.items waits k.failed)
          (heard_failures u now.state (done c.in_ok-reaction.reaction after.state) heard));
      talked = subst (λ (rs : List Reply). HasTalked v batches (c.args.core.now.state, c.args.link.now) rs (after.state, c.deliver.new.link)) all more;
    }

pub loop-message-smaller : goal.loop-message-smaller
loop-message-smaller g c =
    let some = c.in-Some.ensures.items in
    let now = c.loop-message.core in
    let after = c.deliver.new.core in
    let u = scheme_of g.S.Sealer.cipher now in
    let empty : c.loop-message.reaction.sends.items ≡ [] → ⊥ = λ none. absurd (omega (arith, length-append c.pop.new.self.items (c.in-Some.message ∷ []), ap length (sym some ∙ none))) in
    let waits : status_in now.state ≡ Waiting = elim c.loop-message.invariant.going [ inl a ↦ a.0 | inr a ↦ absurd (empty a.2) ] in
    let left = some_at_work now.state.failure now.state.queue now.state.lost waits in
    let fewer = left_heard u now.state (done c.in_ok-reaction.reaction after.state) (omega arith) c.in_ok-reaction.ensures.heard in
    subst (λ (d : Sizes). answers_left d after.state < answers_left now.device now.state) (sym c.deliver.ensures.kept.0) fewer

pub returns-in_err-reaction-clause-noted : goal.returns-in_err-reaction-clause-noted
returns-in_err-reaction-clause-noted g c = λ table noted. c.deliver.ensures.noted table (c.loop-message.invariant.noted table noted)

pub returns-in_err-append-clause-noted : goal.returns-in_err-append-clause-noted
returns-in_err-append-clause-noted g c = λ table noted. c.deliver.ensures.noted table (c.loop-message.invariant.noted table noted)
