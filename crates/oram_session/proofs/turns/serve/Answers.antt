use Rattle.std.proofs.Common.{◌≡◌, ℕ, List, [], Err, refl, sym, ap, ◌∙◌, subst, inl, inr, arith, take}
use Rattle.std.specs.Io.KnownBytes.{Appends, Consumes}
use Rattle.std.proofs.KnownBytes.{Appends-nil, Consumes-nil}
use Rattle.std.proofs.lemmas.Result.{err_from_is_err_and}
use Rattle.oram_wire.specs.FrameStream.{IsBody, frame}
use Rattle.oram_wire.specs.SessionMessages.{session_reply_body}
use Rattle.oram_wire.specs.declared.session_messages.SessionReply.{SessionReply}
use Rattle.oram_semantics.specs.Scheme.{Scheme}
use Rattle.oram_core.specs.Core.{scheme_of}
use Rattle.oram_session.specs.Sessions.{EndsSession, reply_frame}
use Rattle.oram_session.specs.Turns.{IsTurn, IsStuck, IsCutTurn}
use Rattle.oram_session.proofs.Served.{ends_cut, same_pair, served_more, served_then, serving, under}
use Rattle.oram_session.proofs.CoreSteps.{same_scheme, same_trans}
use Rattle.oram_session.proofs.turns.serve.Goals as goal

-- the reader ends the session

pub returns-in_err-body-clause-ends : goal.returns-in_err-body-clause-ends
returns-in_err-body-clause-ends g c =
    let p = err_from_is_err_and c.from_residual.result c.from_residual.ensures.1 in
    let v = scheme_of g.S.Sealer.cipher c.args.core.now in
    let words = g.T.Tape.words c.args.tape.now in
    let from = serving c.args.core.now.state c.args.link.now (g.R.Read.remaining c.args.reader.now) (g.W.Write.contents c.args.writer.now) in
    let to = serving c.loop-served.core.state c.loop-served.link (g.R.Read.remaining c.next_frame.new.reader) (g.W.Write.contents c.loop-served.writer) in
    subst (EndsSession v g.L.Link.calls words c.args.session from to) (sym (p.1 ∙ ap Err p.2))
    (ends_cut v g.L.Link.calls words c.args.session from _ _ to c.loop-served.invariant.so_far refl (Appends-nil _) c.in_err-body.field-0.0
    (λ h. c.in_err-body.ensures.read (ap Err h)) (λ h. c.in_err-body.ensures.frame (ap Err h))
    (λ h. c.in_err-body.ensures.truncated (ap Err h)) (λ h. c.in_err-body.ensures.memory (ap Err h)))

pub returns-clause-ends : goal.returns-clause-ends
returns-clause-ends g c =
    let k = c.loop-served.invariant.so_far in
    let v = scheme_of g.S.Sealer.cipher c.args.core.now in
    let words = g.T.Tape.words c.args.tape.now in
    let from = serving c.args.core.now.state c.args.link.now (g.R.Read.remaining c.args.reader.now) (g.W.Write.contents c.args.writer.now) in
    let here = serving c.loop-served.core.state c.loop-served.link (g.R.Read.remaining c.loop-served.reader) (g.W.Write.contents c.loop-served.writer) in
    (k.all, [], (λ h. absurd (omega arith)), served_then v g.L.Link.calls words c.args.session from _ here here [] [] k refl (Consumes-nil _) (Appends-nil _))

-- a request ends the session

pub returns-in_err-reply-clause-ends : goal.returns-in_err-reply-clause-ends
returns-in_err-reply-clause-ends g c =
    let p = err_from_is_err_and c.from_residual-in_err-reply.result c.from_residual-in_err-reply.ensures.1 in
    let k = c.loop-served.invariant.so_far in
    let words = g.T.Tape.words c.args.tape.now in
    let v = scheme_of g.S.Sealer.cipher c.args.core.now in
    let same = same_scheme g.S.Sealer.cipher c.args.core.now c.loop-served.core c.loop-served.invariant.kept in
    let came = rw c.in-Some.is at c.in_ok-body.ensures.ok in
    let from = serving c.args.core.now.state c.args.link.now (g.R.Read.remaining c.args.reader.now) (g.W.Write.contents c.args.writer.now) in
    let mid = serving c.loop-served.core.state c.loop-served.link (g.R.Read.remaining c.next_frame.new.reader) (g.W.Write.contents c.loop-served.writer) in
    let to = serving c.take_turn.new.core.state c.take_turn.new.link (g.R.Read.remaining c.next_frame.new.reader) (g.W.Write.contents c.loop-served.writer) in
    let run = served_then v g.L.Link.calls words c.args.session from _ _ mid (frame c.in-Some.body.items) [] k refl came.1 (Appends-nil _) in
    elim c.in_err-reply.ensures.fault [
      | inl stalled ↦
          let P = λ (u : Scheme) (f : ℕ → ℕ → List ℕ). IsStuck u g.L.Link.calls f c.args.session mid.state c.deref.result.now to.state in
          subst (EndsSession v g.L.Link.calls words c.args.session from to) (sym (p.1 ∙ ap Err (p.2 ∙ stalled))) (
            k.all,
            mid.state,
            c.in-Some.body.items,
            came.0,
            subst (λ (b : List ℕ). IsStuck v g.L.Link.calls words c.args.session mid.state b to.state) c.deref.ensures.value
                (under P v _ words _ same c.loop-served.invariant.tape (c.in_err-reply.ensures.stalled (ap Err stalled))),
            run,
          )
      | inr full ↦
          let P = λ (u : Scheme) (f : ℕ → ℕ → List ℕ). IsCutTurn u g.L.Link.calls f c.args.session mid.state c.deref.result.now to.state in
          subst (EndsSession v g.L.Link.calls words c.args.session from to) (sym (p.1 ∙ ap Err (p.2 ∙ full))) (
            k.all,
            mid.state,
            frame c.in-Some.body.items,
            inr (
              c.in-Some.body.items,
              came.0,
              refl,
              elim (c.in_err-reply.ensures.memory (ap Err full)) [
                | inl a ↦ inl (same_pair (ap (λ s. s.state) a.0) a.1)
                | inr a ↦ inr (inl (subst (λ (b : List ℕ). IsCutTurn v g.L.Link.calls words c.args.session mid.state b to.state) c.deref.ensures.value
                    (under P v _ words _ same c.loop-served.invariant.tape a)))
              ],
            ),
            run,
          )
    ]

-- its reply ends the session

pub returns-in_err-put_reply-clause-ends : goal.returns-in_err-put_reply-clause-ends
returns-in_err-put_reply-clause-ends g c =
    let p = err_from_is_err_and c.from_residual-in_err-put_reply.result c.from_residual-in_err-put_reply.ensures.1 in
    let k = c.loop-served.invariant.so_far in
    let words = g.T.Tape.words c.args.tape.now in
    let v = scheme_of g.S.Sealer.cipher c.args.core.now in
    let same = same_scheme g.S.Sealer.cipher c.args.core.now c.loop-served.core c.loop-served.invariant.kept in
    let came = rw c.in-Some.is at c.in_ok-body.ensures.ok in
    let x = c.in_ok-reply.ensures.ok in
    let body : x.0.body ≡ c.in-Some.body.items = x.1 ∙ c.deref.ensures.value in
    let from = serving c.args.core.now.state c.args.link.now (g.R.Read.remaining c.args.reader.now) (g.W.Write.contents c.args.writer.now) in
    let mid = serving c.loop-served.core.state c.loop-served.link (g.R.Read.remaining c.next_frame.new.reader) (g.W.Write.contents c.put_reply.new.writer) in
    let to = serving c.take_turn.new.core.state c.take_turn.new.link (g.R.Read.remaining c.next_frame.new.reader) (g.W.Write.contents c.put_reply.new.writer) in
    let P = λ (u : Scheme) (f : ℕ → ℕ → List ℕ). IsTurn u g.L.Link.calls f c.args.session mid.state x.0 to.state in
    let turned = under P v _ words _ same c.loop-served.invariant.tape x.3 in
    elim c.in_err-put_reply.ensures.fault [
      | inl failed ↦
          let w = c.in_err-put_reply.ensures.write (ap Err failed) in
          subst (EndsSession v g.L.Link.calls words c.args.session from to) (sym (p.1 ∙ ap Err (p.2 ∙ failed))) (
            k.all,
            mid.state,
            x.0,
            w.0,
            subst IsBody (sym body) came.0,
            turned,
            served_then v g.L.Link.calls words c.args.session from _ _ mid (frame x.0.body) (take w.0 (reply_frame x.0)) k refl
                (subst (λ (b : List ℕ). Consumes (g.R.Read.remaining c.loop-served.reader) (g.R.Read.remaining c.next_frame.new.reader) (frame b)) (sym body) came.1)
                (subst (λ (r : SessionReply). Appends (g.W.Write.contents c.loop-served.writer) (g.W.Write.contents c.put_reply.new.writer) (take w.0 (frame (session_reply_body r)))) (sym x.2) w.1),
          )
      | inr full ↦
          subst (EndsSession v g.L.Link.calls words c.args.session from to) (sym (p.1 ∙ ap Err (p.2 ∙ full))) (
            k.all,
            mid.state,
            frame c.in-Some.body.items,
            inr (c.in-Some.body.items, came.0, refl, inr (inr (x.0, body, turned))),
            served_then v g.L.Link.calls words c.args.session from _ _ mid (frame c.in-Some.body.items) [] k refl came.1 (c.in_err-put_reply.ensures.memory (ap Err full)),
          )
    ]

-- or the session goes on

pub loop-served-preserved : goal.loop-served-preserved
loop-served-preserved g c =
    let k = c.loop-served.invariant.so_far in
    let words = g.T.Tape.words c.args.tape.now in
    let v = scheme_of g.S.Sealer.cipher c.args.core.now in
    let same = same_scheme g.S.Sealer.cipher c.args.core.now c.loop-served.core c.loop-served.invariant.kept in
    let came = rw c.in-Some.is at c.in_ok-body.ensures.ok in
    let x = c.in_ok-reply.ensures.ok in
    let body : x.0.body ≡ c.in-Some.body.items = x.1 ∙ c.deref.ensures.value in
    let to = serving c.take_turn.new.core.state c.take_turn.new.link (g.R.Read.remaining c.next_frame.new.reader) (g.W.Write.contents c.put_reply.new.writer) in
    let P = λ (u : Scheme) (f : ℕ → ℕ → List ℕ). IsTurn u g.L.Link.calls f c.args.session (c.loop-served.core.state, c.loop-served.link) x.0 (c.take_turn.new.core.state, c.take_turn.new.link) in
    record {
      kept = same_trans c.args.core.now c.loop-served.core c.take_turn.new.core c.loop-served.invariant.kept c.in_ok-reply.ensures.kept;
      no_work = c.in_ok-reply.ensures.no_work;
      tape = c.in_ok-reply.ensures.tape ∙ c.loop-served.invariant.tape;
      so_far = served_more v g.L.Link.calls words c.args.session _ _ _ x.0 to k (under P v _ words _ same c.loop-served.invariant.tape x.3)
          (subst IsBody (sym body) came.0)
          (subst (λ (b : List ℕ). Consumes (g.R.Read.remaining c.loop-served.reader) (g.R.Read.remaining c.next_frame.new.reader) (frame b)) (sym body) came.1)
          (subst (λ (r : SessionReply). Appends (g.W.Write.contents c.loop-served.writer) (g.W.Write.contents c.put_reply.new.writer) (frame (session_reply_body r))) (sym x.2) c.in_ok-put_reply.ensures.ok);
    }
