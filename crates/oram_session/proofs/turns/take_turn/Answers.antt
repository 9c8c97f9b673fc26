use Rattle.std.proofs.Common.{◌≡◌, [], Err, refl, sym, ap, subst, inr}
use Rattle.std.proofs.lemmas.Result.{err_from_is_err_and}
use Rattle.oram_semantics.specs.Run.{shown_by}
use Rattle.oram_semantics.specs.Scheme.{Scheme}
use Rattle.oram_core.specs.Core.{scheme_of}
use Rattle.oram_wire.specs.declared.session_messages.SessionReply.TheVariants.{Refused}
use Rattle.oram_semantics.specs.Events.{refusal_number}
use Rattle.oram_session.specs.Exchanges.{AllSent, IsSent, IsCutOff}
use Rattle.oram_session.specs.Requests.{session_reply}
use Rattle.oram_session.specs.Turns.{most_retries}
use Rattle.oram_host.specs.declared.serve_fault.ServeFault.TheVariants.{Stalled, OutOfMemory}
use Rattle.oram_session.proofs.CoreSteps.{same_scheme}
use Rattle.oram_session.proofs.Turned.{err_is, bad_turn, begins_turn, refused_turn, accepted_turn, at_work}
use Rattle.oram_session.proofs.turns.take_turn.Goals as goal

pub returns-in_default-clause-ok : goal.returns-in_default-clause-ok
returns-in_default-clause-ok g c =
    let v = scheme_of g.S.Sealer.cipher c.args.core.now in
    let none = rw c.in_default.is at c.in_ok-command.ensures.ok in (
      record { body = c.args.body.now; sendings = []; reply = Refused 7 },
      refl,
      refl,
      bad_turn v g.L.Link.calls (g.T.Tape.words c.args.tape.now) c.args.session c.args.body.now (c.args.core.now.state, c.args.link.now) none,
    )

pub returns-in-Refused-clause-ok : goal.returns-in-Refused-clause-ok
returns-in-Refused-clause-ok g c =
    let v = scheme_of g.S.Sealer.cipher c.args.core.now in
    let words = g.T.Tape.words c.args.tape.now in
    let a = rw c.in-Some.is at c.in_ok-command.ensures.ok in
    let begins = begins_turn v g.L.Link.calls words c.args.session c.args.body.now a.0 c.in-Some.command c.args.core.now.state c.submit.new.core.state (shown_by c.in_ok-reaction.reaction) a.1 a.2 c.in_ok-reaction.ensures.ok in (
      record { body = c.args.body.now; sendings = []; reply = Refused (refusal_number c.in-Refused.why) },
      refl,
      ap Refused (sym c.number.ensures),
      refused_turn v g.L.Link.calls words c.args.session c.args.body.now c.args.core.now.state c.submit.new.core.state c.args.link.now (shown_by c.in_ok-reaction.reaction) c.in-Refused.why begins c.in-Refused.is,
    )

pub returns-in_ok-reply-in-Accepted-clause-ok : goal.returns-in_ok-reply-in-Accepted-clause-ok
returns-in_ok-reply-in-Accepted-clause-ok g c =
    let v = scheme_of g.S.Sealer.cipher c.args.core.now in
    let words = g.T.Tape.words c.args.tape.now in
    let a = rw c.in-Some.is at c.in_ok-command.ensures.ok in
    let x = shown_by c.in_ok-reaction.reaction in
    let begins = begins_turn v g.L.Link.calls words c.args.session c.args.body.now a.0 c.in-Some.command c.args.core.now.state c.submit.new.core.state x a.1 a.2 c.in_ok-reaction.ensures.ok in
    let w = c.in_ok-reply-in-Accepted.ensures.ok in
    let same = same_scheme g.S.Sealer.cipher c.args.core.now c.submit.new.core c.submit.ensures.kept in
    let sent = subst (λ (u : Scheme). AllSent u g.L.Link.calls most_retries (c.submit.new.core.state, c.args.link.now) w.0 (c.carry_out.new.core.state, c.carry_out.new.link)) same w.1 in (
      record { body = c.args.body.now; sendings = w.0; reply = session_reply c.in_ok-reply-in-Accepted.reply.body },
      refl,
      sym c.session_reply.ensures,
      accepted_turn v g.L.Link.calls words c.args.session c.args.body.now c.args.core.now.state c.submit.new.core.state c.args.link.now (c.carry_out.new.core.state, c.carry_out.new.link) x c.in-Accepted.field-0 w.0 c.in_ok-reply-in-Accepted.reply
          begins c.in-Accepted.is sent c.in_ok-reply-in-Accepted.ensures.no_work w.2,
    )

pub returns-in_err-reply-in-Accepted-clause-stalled : goal.returns-in_err-reply-in-Accepted-clause-stalled
returns-in_err-reply-in-Accepted-clause-stalled g c = λ e.
    let p = err_from_is_err_and c.from_residual-in_err-reply-in-Accepted.result c.from_residual-in_err-reply-in-Accepted.ensures.1 in
    let h : c.in_err-reply-in-Accepted.field-0.0 ≡ Stalled = err_is _ _ _ _ p.1 p.2 e in
    let v = scheme_of g.S.Sealer.cipher c.args.core.now in
    let words = g.T.Tape.words c.args.tape.now in
    let a = rw c.in-Some.is at c.in_ok-command.ensures.ok in
    let x = shown_by c.in_ok-reaction.reaction in
    let begins = begins_turn v g.L.Link.calls words c.args.session c.args.body.now a.0 c.in-Some.command c.args.core.now.state c.submit.new.core.state x a.1 a.2 c.in_ok-reaction.ensures.ok in
    let w = c.in_err-reply-in-Accepted.ensures.stalled (ap Err h) in
    let same = same_scheme g.S.Sealer.cipher c.args.core.now c.submit.new.core c.submit.ensures.kept in
    let sent = subst (λ (u : Scheme). AllSent u g.L.Link.calls most_retries (c.submit.new.core.state, c.args.link.now) w.0 w.1) same w.3 in
    record {
      mid = w.1;
      work = at_work v g.L.Link.calls words c.args.session c.args.body.now c.args.core.now.state c.submit.new.core.state c.args.link.now w.1 x c.in-Accepted.field-0 w.0 begins c.in-Accepted.is sent;
      last = w.2;
      tried = subst (λ (u : Scheme). IsSent u g.L.Link.calls most_retries w.1 w.2 (c.carry_out.new.core.state, c.carry_out.new.link)) same w.4;
      stuck = w.5;
    }

pub returns-in_err-reply-in-Accepted-clause-memory : goal.returns-in_err-reply-in-Accepted-clause-memory
returns-in_err-reply-in-Accepted-clause-memory g c = λ e.
    let p = err_from_is_err_and c.from_residual-in_err-reply-in-Accepted.result c.from_residual-in_err-reply-in-Accepted.ensures.1 in
    let h : c.in_err-reply-in-Accepted.field-0.0 ≡ OutOfMemory = err_is _ _ _ _ p.1 p.2 e in
    let v = scheme_of g.S.Sealer.cipher c.args.core.now in
    let words = g.T.Tape.words c.args.tape.now in
    let a = rw c.in-Some.is at c.in_ok-command.ensures.ok in
    let x = shown_by c.in_ok-reaction.reaction in
    let begins = begins_turn v g.L.Link.calls words c.args.session c.args.body.now a.0 c.in-Some.command c.args.core.now.state c.submit.new.core.state x a.1 a.2 c.in_ok-reaction.ensures.ok in
    let w = c.in_err-reply-in-Accepted.ensures.memory (ap Err h) in
    let same = same_scheme g.S.Sealer.cipher c.args.core.now c.submit.new.core c.submit.ensures.kept in
    let sent = subst (λ (u : Scheme). AllSent u g.L.Link.calls most_retries (c.submit.new.core.state, c.args.link.now) w.0 w.1) same w.3 in
    inr (record {
      mid = w.1;
      work = at_work v g.L.Link.calls words c.args.session c.args.body.now c.args.core.now.state c.submit.new.core.state c.args.link.now w.1 x c.in-Accepted.field-0 w.0 begins c.in-Accepted.is sent;
      last = w.2;
      cut = subst (λ (u : Scheme). IsCutOff u g.L.Link.calls most_retries w.1 w.2 (c.carry_out.new.core.state, c.carry_out.new.link)) same w.4;
    })
