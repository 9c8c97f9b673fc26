use Rattle.std.proofs.Common.{◌++◌}
use Rattle.std.proofs.lemmas.Result.{err_from_is_err_and}
use Rattle.oram_rounds.specs.Batches.{texts}
use Rattle.oram_client.specs.AnswerLengths.{longest_answer}
use Rattle.oram_client.proofs.Received.{added_ok, stopped_later, stops_before}
use Rattle.oram_client.proofs.stream_batches.receive_both.Goals as goal

pub returns-in_err-receive_each-clause-err : goal.returns-in_err-receive_each-clause-err
returns-in_err-receive_each-clause-err g c =
    let p = err_from_is_err_and c.from_residual.result c.from_residual.ensures.1 in
    let e = c.in_err-receive_each.ensures.err in
    rw (p.1, p.2) (e.0, stops_before (longest_answer c.args.lengths.now) (g.R.Read.remaining c.args.reader.now) (g.R.Read.remaining c.receive_each.new.reader) (texts c.args.first.now) (texts c.args.last.now) e.0 c.in_err-receive_each.field-0.0 e.1)

pub returns-clause-ok : goal.returns-clause-ok
returns-clause-ok g c =
    added_ok (longest_answer c.args.lengths.now) (g.R.Read.remaining c.args.reader.now) (g.R.Read.remaining c.receive_each.new.reader) (g.R.Read.remaining c.receive_each-2.new.reader)
    (texts c.args.first.now) (texts c.args.last.now) (texts c.args.answers.now.items) (texts c.receive_each.new.answers.items) (texts c.receive_each-2.new.answers.items) c.receive_each-2.result
    c.in_ok-receive_each.ensures.ok c.receive_each-2.ensures.ok

pub returns-clause-err : goal.returns-clause-err
returns-clause-err g c =
    stopped_later (longest_answer c.args.lengths.now) (g.R.Read.remaining c.args.reader.now) (g.R.Read.remaining c.receive_each.new.reader) (g.R.Read.remaining c.receive_each-2.new.reader)
    (texts c.args.first.now) (texts c.args.last.now) (texts c.args.answers.now.items) (texts c.receive_each.new.answers.items) c.receive_each-2.result
    c.in_ok-receive_each.ensures.ok c.receive_each-2.ensures.err
