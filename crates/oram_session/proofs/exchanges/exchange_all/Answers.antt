use Rattle.std.proofs.Common.{◌≡◌, ℕ, ◌<◌, [], ◌∷◌, ◌++◌, length, length-append, Err, refl, sym, ap, ◌∙◌, subst, arith, inl, inr}
use Rattle.std.proofs.lemmas.List.Elements.{All-nil}
use Rattle.std.proofs.lemmas.Result.{err_from_is_err_and}
use Rattle.std.specs.List.{All}
use Rattle.oram_geometry.specs.declared.Sizes.{Sizes}
use Rattle.oram_semantics.specs.Progress.Status.{Waiting}
use Rattle.oram_semantics.specs.Scheme.{Scheme}
use Rattle.oram_semantics.specs.State.{status_in}
use Rattle.oram_core.specs.Core.{scheme_of}
use Rattle.oram_core.specs.PlainSteps.{done}
use Rattle.oram_session.specs.Exchanges.{IsSent, IsCutOff, IsGivenUp}
use Rattle.oram_session.specs.CoreWork.{answers_left}
use Rattle.oram_session.specs.Turns.{most_retries}
use Rattle.oram_host.specs.declared.serve_fault.ServeFault.TheVariants.{Stalled, OutOfMemory}
use Rattle.oram_session.proofs.Resumed.{HasBody, heard_bodies, heard_going, replied_last, replied_more, replies_of, retries_later, sent_more, some_at_work}
use Rattle.oram_session.proofs.CoreSteps.{left_heard, same_scheme, same_trans}
use Rattle.oram_session.proofs.exchanges.exchange_all.Goals as goal

pub loop-message-init : goal.loop-message-init
loop-message-init g c = record {
  kept = (refl, refl);
  going = inl (c.requires.waits, c.requires.sends);
  block = subst (All (HasBody c.args.core.now.device)) (sym c.requires.none) (All-nil (HasBody c.args.core.now.device));
  sent = ([], refl, omega arith, refl, ([], sym c.requires.none));
}

pub returns-in_err-reaction-clause-stalled : goal.returns-in_err-reaction-clause-stalled
returns-in_err-reaction-clause-stalled g c = λ e.
    let p = err_from_is_err_and c.from_residual.result c.from_residual.ensures.1 in
    let h : c.in_err-reaction.field-0.0 ≡ Stalled = cc in
    let w = c.in_err-reaction.ensures.stalled (ap Err h) in
    let k = c.loop-message.invariant.sent in
    let same = same_scheme g.S.Sealer.cipher c.args.core.now c.loop-message.core c.loop-message.invariant.kept in
    let v = scheme_of g.S.Sealer.cipher c.args.core.now in (
      k.0,
      (c.loop-message.core.state, c.loop-message.link),
      w.0,
      k.1,
      subst (λ (n : ℕ). IsSent v g.L.Link.calls n (c.loop-message.core.state, c.loop-message.link) w.0 (c.exchange.new.core.state, c.exchange.new.link)) k.3 (subst (λ (u : Scheme). IsSent u g.L.Link.calls c.loop-message.most (c.loop-message.core.state, c.loop-message.link) w.0 (c.exchange.new.core.state, c.exchange.new.link)) same w.1),
      subst (λ (n : ℕ). IsGivenUp n w.0) k.3 w.2,
    )

pub returns-in_err-reaction-clause-left : goal.returns-in_err-reaction-clause-left
returns-in_err-reaction-clause-left g c = λ e.
    let p = err_from_is_err_and c.from_residual.result c.from_residual.ensures.1 in
    let h : c.in_err-reaction.field-0.0 ≡ Stalled = cc in
    c.in_err-reaction.ensures.left (ap Err h)

pub returns-in_err-reaction-clause-memory : goal.returns-in_err-reaction-clause-memory
returns-in_err-reaction-clause-memory g c = λ e.
    let p = err_from_is_err_and c.from_residual.result c.from_residual.ensures.1 in
    let h : c.in_err-reaction.field-0.0 ≡ OutOfMemory = cc in
    let w = c.in_err-reaction.ensures.memory (ap Err h) in
    let k = c.loop-message.invariant.sent in
    let same = same_scheme g.S.Sealer.cipher c.args.core.now c.loop-message.core c.loop-message.invariant.kept in
    let v = scheme_of g.S.Sealer.cipher c.args.core.now in (
      k.0,
      (c.loop-message.core.state, c.loop-message.link),
      w.0,
      k.1,
      subst (λ (n : ℕ). IsCutOff v g.L.Link.calls n (c.loop-message.core.state, c.loop-message.link) w.0 (c.exchange.new.core.state, c.exchange.new.link)) k.3 (subst (λ (u : Scheme). IsCutOff u g.L.Link.calls c.loop-message.most (c.loop-message.core.state, c.loop-message.link) w.0 (c.exchange.new.core.state, c.exchange.new.link)) same w.1),
    )

pub loop-message-preserved : goal.loop-message-preserved
loop-message-preserved g c =
    let k = c.loop-message.invariant.sent in
    let e = c.in_ok-reaction.ensures.ok in
    let some = c.in-Some.ensures.items in
    let now = c.loop-message.core in
    let after = c.exchange.new.core in
    let v = scheme_of g.S.Sealer.cipher c.args.core.now in
    let u = scheme_of g.S.Sealer.cipher now in
    let same = same_scheme g.S.Sealer.cipher c.args.core.now now c.loop-message.invariant.kept in
    let empty : c.loop-message.reaction.sends.items ≡ [] → ⊥ = λ none. absurd (omega (arith, length-append c.pop.new.self.items (c.in-Some.message ∷ []), ap length (sym some ∙ none))) in
    let waits : status_in now.state ≡ Waiting = elim c.loop-message.invariant.going [ inl a ↦ a.0 | inr a ↦ absurd (empty a.2) ] in
    let sent = subst (λ (w : Scheme). IsSent w g.L.Link.calls c.loop-message.most (now.state, c.loop-message.link) e.0 (after.state, c.exchange.new.link)) same e.1 in
    record {
      kept = same_trans c.args.core.now now after c.loop-message.invariant.kept c.exchange.ensures.kept;
      going = heard_going u now.state (done c.in_ok-reaction.reaction after.state) waits c.in_ok-reaction.ensures.heard;
      block = subst (λ (d : Sizes). All (HasBody d) c.in_ok-reaction.reaction.replies.items) c.loop-message.invariant.kept.0
          (heard_bodies u now.state (done c.in_ok-reaction.reaction after.state) c.in_ok-reaction.ensures.heard);
      sent = (
        k.0 ++ e.0 ∷ [],
        sent_more v g.L.Link.calls c.args.first most_retries _ k.0 _ e.0 _ k.1
            (subst (λ (n : ℕ). IsSent v g.L.Link.calls n (now.state, c.loop-message.link) e.0 (after.state, c.exchange.new.link)) k.3 sent) e.2,
        replied_more u k.0 e.0 now.state (done c.in_ok-reaction.reaction after.state) _ k.2 c.in_ok-reaction.ensures.heard e.3,
        retries_later c.args.first most_retries k.0 e.0,
        (replies_of k.0, replied_last k.0 e.0 c.in_ok-reaction.reaction.replies.items e.3),
      );
    }

pub loop-message-smaller : goal.loop-message-smaller
loop-message-smaller g c =
    let some = c.in-Some.ensures.items in
    let now = c.loop-message.core in
    let after = c.exchange.new.core in
    let u = scheme_of g.S.Sealer.cipher now in
    let empty : c.loop-message.reaction.sends.items ≡ [] → ⊥ = λ none. absurd (omega (arith, length-append c.pop.new.self.items (c.in-Some.message ∷ []), ap length (sym some ∙ none))) in
    let waits : status_in now.state ≡ Waiting = elim c.loop-message.invariant.going [ inl a ↦ a.0 | inr a ↦ absurd (empty a.2) ] in
    let left = some_at_work now.state.failure now.state.queue now.state.lost waits in
    let fewer = left_heard u now.state (done c.in_ok-reaction.reaction after.state) (omega arith) c.in_ok-reaction.ensures.heard in
    subst (λ (d : Sizes). answers_left d after.state < answers_left now.device now.state) (sym c.exchange.ensures.kept.0) fewer
