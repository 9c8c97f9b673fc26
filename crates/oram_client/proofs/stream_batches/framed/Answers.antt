use Rattle.std.proofs.Common.{◌++◌}
use Rattle.std.proofs.lemmas.Result.{err_from_is_err_and}
use Rattle.oram_rounds.specs.Batches.{texts}
use Rattle.oram_client.proofs.Frames.{among_left, among_right, unframed_among}
use Rattle.oram_client.proofs.stream_batches.framed.Goals as goal

pub returns-in_err-add_both-clause-err : goal.returns-in_err-add_both-clause-err
returns-in_err-add_both-clause-err c =
    let p = err_from_is_err_and c.from_residual-in_err-add_both.result c.from_residual-in_err-add_both.ensures.1 in
    let front = texts c.args.before.now ++ texts c.args.first.now in
    let back = texts c.args.between.now ++ texts c.args.last.now in
    rw (p.1, p.2) (unframed_among front (front ++ back) _ (among_left front back) c.in_err-add_both.ensures.err)

pub returns-in_err-add_both-2-clause-err : goal.returns-in_err-add_both-2-clause-err
returns-in_err-add_both-2-clause-err c =
    let p = err_from_is_err_and c.from_residual-in_err-add_both-2.result c.from_residual-in_err-add_both-2.ensures.1 in
    let front = texts c.args.before.now ++ texts c.args.first.now in
    let back = texts c.args.between.now ++ texts c.args.last.now in
    rw (p.1, p.2) (unframed_among back (front ++ back) _ (among_right front back) c.in_err-add_both-2.ensures.err)
