use Rattle.std.proofs.Common.{◌∙◌, Err, Ok, List, Result, ℕ, sym, ap, subst}
use Rattle.std.specs.Global.{Vec}
use Rattle.std.proofs.lemmas.Result.{err_from_is_err_and}
use Rattle.oram_host.proofs.Answered.{answering}
use Rattle.oram_host.specs.declared.serve_fault.ServeFault.{ServeFault}
use Rattle.oram_wire.specs.ListOfBodies.{bodies_in}
use Rattle.oram_disk_host.specs.Serving.{AnswersAll, EndsServing}
use Rattle.oram_disk_host.proofs.Groups.{run_breaks, run_ends, run_fails, run_more}
use Rattle.oram_disk_host.proofs.serving.answer_messages.Goals as goal

pub returns-in_err-answer_all : goal.returns-in_err-answer_all
returns-in_err-answer_all g c =
    let e = err_from_is_err_and c.from_residual.result c.from_residual.ensures.1 in
    let p = answering c.args.hosted.now (g.R.Read.remaining c.args.reader.now) (g.W.Write.contents c.args.writer.now) in
    let q = answering c.loop.hosted (g.R.Read.remaining c.loop.reader) (g.W.Write.contents c.loop.writer) in
    let z = answering c.answer_all.new.hosted (g.R.Read.remaining c.gather-bodies.new.reader) (g.W.Write.contents c.answer_all.new.writer) in
    subst (λ (r : Result Unit ServeFault). EndsServing g.F.FilePair.model p z r) (sym (e.1 ∙ ap Err e.2))
    (run_breaks g.F.FilePair.model p q z c.loop.invariant (bodies_in c.gather-bodies.result.0.items) c.gather-bodies.result.1 c.gather-bodies.ensures c.in_err-answer_all.field-0.0
    (subst (λ (vs : List (Vec ℕ)). AnswersAll g.F.FilePair.model (bodies_in vs) (Err c.in_err-answer_all.field-0.0) c.loop.hosted c.answer_all.new.hosted (g.W.Write.contents c.loop.writer) (g.W.Write.contents c.answer_all.new.writer)) c.deref.ensures.value c.in_err-answer_all.ensures))

pub returns-in-Ends : goal.returns-in-Ends
returns-in-Ends g c =
    let p = answering c.args.hosted.now (g.R.Read.remaining c.args.reader.now) (g.W.Write.contents c.args.writer.now) in
    let q = answering c.loop.hosted (g.R.Read.remaining c.loop.reader) (g.W.Write.contents c.loop.writer) in
    let z = answering c.answer_all.new.hosted (g.R.Read.remaining c.gather-bodies.new.reader) (g.W.Write.contents c.answer_all.new.writer) in
    run_ends g.F.FilePair.model p q z c.loop.invariant (bodies_in c.gather-bodies.result.0.items) c.gather-bodies.result.1 c.gather-bodies.ensures tt tt c.in-Ends.is
    (subst (λ (vs : List (Vec ℕ)). AnswersAll g.F.FilePair.model (bodies_in vs) (Ok tt) c.loop.hosted c.answer_all.new.hosted (g.W.Write.contents c.loop.writer) (g.W.Write.contents c.answer_all.new.writer)) c.deref.ensures.value c.in_ok-answer_all.ensures)

pub returns-in-Fails : goal.returns-in-Fails
returns-in-Fails g c =
    let p = answering c.args.hosted.now (g.R.Read.remaining c.args.reader.now) (g.W.Write.contents c.args.writer.now) in
    let q = answering c.loop.hosted (g.R.Read.remaining c.loop.reader) (g.W.Write.contents c.loop.writer) in
    let z = answering c.answer_all.new.hosted (g.R.Read.remaining c.gather-bodies.new.reader) (g.W.Write.contents c.answer_all.new.writer) in
    run_fails g.F.FilePair.model p q z c.loop.invariant (bodies_in c.gather-bodies.result.0.items) c.gather-bodies.result.1 c.gather-bodies.ensures tt c.in-Fails.fault c.in-Fails.is
    (subst (λ (vs : List (Vec ℕ)). AnswersAll g.F.FilePair.model (bodies_in vs) (Ok tt) c.loop.hosted c.answer_all.new.hosted (g.W.Write.contents c.loop.writer) (g.W.Write.contents c.answer_all.new.writer)) c.deref.ensures.value c.in_ok-answer_all.ensures)

pub loop-preserved : goal.loop-preserved
loop-preserved g c =
    let p = answering c.args.hosted.now (g.R.Read.remaining c.args.reader.now) (g.W.Write.contents c.args.writer.now) in
    let q = answering c.loop.hosted (g.R.Read.remaining c.loop.reader) (g.W.Write.contents c.loop.writer) in
    let z = answering c.answer_all.new.hosted (g.R.Read.remaining c.gather-bodies.new.reader) (g.W.Write.contents c.answer_all.new.writer) in
    run_more g.F.FilePair.model p q z c.loop.invariant (bodies_in c.gather-bodies.result.0.items) c.gather-bodies.result.1 c.gather-bodies.ensures tt c.in-Waits.is
    (subst (λ (vs : List (Vec ℕ)). AnswersAll g.F.FilePair.model (bodies_in vs) (Ok tt) c.loop.hosted c.answer_all.new.hosted (g.W.Write.contents c.loop.writer) (g.W.Write.contents c.answer_all.new.writer)) c.deref.ensures.value c.in_ok-answer_all.ensures)
