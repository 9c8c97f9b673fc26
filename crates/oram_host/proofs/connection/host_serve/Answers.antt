use Rattle.std.proofs.Common.{◌∙◌, List, ℕ, [], Err, refl, sym, ap, subst, inr, arith, take}
use Rattle.std.specs.Io.KnownBytes.{Appends}
use Rattle.std.proofs.KnownBytes.{Appends-nil, Consumes-nil}
use Rattle.std.proofs.lemmas.Result.{err_from_is_err_and}
use Rattle.oram_wire.specs.FrameStream.{frame}
use Rattle.oram_wire.specs.HostMessages.{answer_body}
use Rattle.oram_host.specs.Connections.{EndsConnection, Exchange}
use Rattle.oram_host.proofs.Answered.{answering}
use Rattle.oram_host.proofs.Connections.{ends_cut, hosted_more, hosted_then}
use Rattle.oram_host.proofs.connection.host_serve.Goals as goal

-- the reader ends the loop

pub returns-in_err-body : goal.returns-in_err-body
returns-in_err-body g c =
    let p = err_from_is_err_and c.from_residual.result c.from_residual.ensures.1 in
    let from = answering c.args.server.now (g.R.Read.remaining c.args.reader.now) (g.W.Write.contents c.args.writer.now) in
    let to = answering c.loop-served.server (g.R.Read.remaining c.next_frame.new.reader) (g.W.Write.contents c.loop-served.writer) in
    subst (EndsConnection g.H.BucketServer.serves from to) (sym (p.1 ∙ ap Err p.2))
    (ends_cut g.H.BucketServer.serves from _ _ to c.loop-served.invariant refl (Appends-nil _) c.in_err-body.field-0.0
    (λ h. c.in_err-body.ensures.read (ap Err h)) (λ h. c.in_err-body.ensures.frame (ap Err h))
    (λ h. c.in_err-body.ensures.truncated (ap Err h)) (λ h. c.in_err-body.ensures.memory (ap Err h)))

pub returns : goal.returns
returns g c =
    let k = c.loop-served.invariant in
    let from = answering c.args.server.now (g.R.Read.remaining c.args.reader.now) (g.W.Write.contents c.args.writer.now) in
    let here = answering c.loop-served.server (g.R.Read.remaining c.loop-served.reader) (g.W.Write.contents c.loop-served.writer) in
    (k.all, [], (λ h. absurd (omega arith)), hosted_then g.H.BucketServer.serves from _ here here [] [] k refl (Consumes-nil _) (Appends-nil _))

-- or a request does, because memory runs out

pub returns-in_err-answer : goal.returns-in_err-answer
returns-in_err-answer g c =
    let p = err_from_is_err_and c.from_residual-in_err-answer.result c.from_residual-in_err-answer.ensures.1 in
    let from = answering c.args.server.now (g.R.Read.remaining c.args.reader.now) (g.W.Write.contents c.args.writer.now) in
    let to = answering c.respond.new.self (g.R.Read.remaining c.next_frame.new.reader) (g.W.Write.contents c.loop-served.writer) in
    let k = c.loop-served.invariant in
    let came = rw c.in-Some.is at c.in_ok-body.ensures.ok in
    let body = c.in-Some.body.items in
    subst (EndsConnection g.H.BucketServer.serves from to) (sym (p.1 ∙ ap Err p.2)) (
      k.all,
      frame body,
      inr (body, came.0, refl),
      hosted_then g.H.BucketServer.serves from _ _ to (frame body) [] k c.in_err-answer.ensures.err came.1 (Appends-nil _),
    )

-- or the writing of its answer does

pub returns-in_err-put_body : goal.returns-in_err-put_body
returns-in_err-put_body g c =
    let p = err_from_is_err_and c.from_residual-in_err-put_body.result c.from_residual-in_err-put_body.ensures.1 in
    let from = answering c.args.server.now (g.R.Read.remaining c.args.reader.now) (g.W.Write.contents c.args.writer.now) in
    let to = answering c.respond.new.self (g.R.Read.remaining c.next_frame.new.reader) (g.W.Write.contents c.put_body.new.writer) in
    let k = c.loop-served.invariant in
    let came = rw c.in-Some.is at c.in_ok-body.ensures.ok in
    let a = c.in_ok-answer.ensures.ok in
    let body = c.in-Some.body.items in
    let x : Exchange = record { body = body; answer = a.0 } in
    let w = c.in_err-put_body.ensures.write (ap Err c.in_err-put_body.ensures.fault) in
    subst (EndsConnection g.H.BucketServer.serves from to) (sym (p.1 ∙ ap Err (p.2 ∙ c.in_err-put_body.ensures.fault))) (
      k.all,
      c.loop-served.server,
      x,
      w.0,
      came.0,
      (subst (λ (b : List ℕ). g.H.BucketServer.serves c.loop-served.server b a.0 c.respond.new.self) c.deref.ensures.value a.1, a.2),
      hosted_then g.H.BucketServer.serves from _ _ (record to { state = c.loop-served.server }) (frame body) (take w.0 (frame (answer_body a.0))) k refl came.1
          (subst (λ (b : List ℕ). Appends (g.W.Write.contents c.loop-served.writer) (g.W.Write.contents c.put_body.new.writer) (take w.0 (frame b))) (c.deref-in-loop-served.ensures.value ∙ a.3) w.1),
    )

-- or the loop goes on

pub loop-served-preserved : goal.loop-served-preserved
loop-served-preserved g c =
    let came = rw c.in-Some.is at c.in_ok-body.ensures.ok in
    let a = c.in_ok-answer.ensures.ok in
    let x : Exchange = record { body = c.in-Some.body.items; answer = a.0 } in
    hosted_more g.H.BucketServer.serves _ _ _ x _ c.loop-served.invariant
    (subst (λ (b : List ℕ). g.H.BucketServer.serves c.loop-served.server b a.0 c.respond.new.self) c.deref.ensures.value a.1, a.2)
    came.0 came.1
    (subst (λ (b : List ℕ). Appends (g.W.Write.contents c.loop-served.writer) (g.W.Write.contents c.put_body.new.writer) (frame b)) (c.deref-in-loop-served.ensures.value ∙ a.3) c.in_ok-put_body.ensures.ok)
