use Rattle.std.proofs.Common.{◌++◌, ap}
use Rattle.std.proofs.lemmas.Result.{err_from_is_err_and}
use Rattle.oram_rounds.specs.Batches.{texts}
use Rattle.oram_client.specs.AnswerLengths.{longest_answer}
use Rattle.oram_client.proofs.Received.{all_added, stops_before, stops_later}
use Rattle.oram_client.proofs.stream_batches.receive_all.Goals as goal

pub returns-in_err-receive_both-clause-err : goal.returns-in_err-receive_both-clause-err
returns-in_err-receive_both-clause-err g c =
    let p = err_from_is_err_and c.from_residual.result c.from_residual.ensures.1 in
    let e = c.in_err-receive_both.ensures.err in
    rw (p.1, p.2) (
      e.0,
      stops_before (longest_answer c.args.lengths.now) (g.R.Read.remaining c.args.reader.now) (g.R.Read.remaining c.receive_both.new.reader)
          (texts c.args.before.now ++ texts c.args.first.now) (texts c.args.between.now ++ texts c.args.last.now) e.0 c.in_err-receive_both.field-0.0 e.1,
    )

pub returns-in_err-receive_both-2-clause-err : goal.returns-in_err-receive_both-2-clause-err
returns-in_err-receive_both-2-clause-err g c =
    let p = err_from_is_err_and c.from_residual-in_err-receive_both-2.result c.from_residual-in_err-receive_both-2.ensures.1 in
    let one = c.in_ok-receive_both.ensures.ok in
    let e = c.in_err-receive_both-2.ensures.err in
    rw (p.1, p.2) (
      one.answers ++ e.0,
      stops_later (longest_answer c.args.lengths.now) (g.R.Read.remaining c.args.reader.now) (g.R.Read.remaining c.receive_both.new.reader) (g.R.Read.remaining c.receive_both-2.new.reader)
          (texts c.args.before.now ++ texts c.args.first.now) (texts c.args.between.now ++ texts c.args.last.now) one.answers e.0 c.in_err-receive_both-2.field-0.0 one.received e.1,
    )

pub returns-clause-ok : goal.returns-clause-ok
returns-clause-ok g c =
    all_added (longest_answer c.args.lengths.now) (g.R.Read.remaining c.args.reader.now) (g.R.Read.remaining c.receive_both.new.reader) (g.R.Read.remaining c.receive_both-2.new.reader)
    (texts c.args.before.now ++ texts c.args.first.now) (texts c.args.between.now ++ texts c.args.last.now)
    (texts c.new-answers.result.items) (texts c.receive_both.new.answers.items) (texts c.receive_both-2.new.answers.items)
    (ap texts c.new-answers.ensures.items) c.in_ok-receive_both.ensures.ok c.in_ok-receive_both-2.ensures.ok
