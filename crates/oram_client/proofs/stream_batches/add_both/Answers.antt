use Rattle.std.proofs.Common.{◌++◌}
use Rattle.std.proofs.lemmas.Result.{err_from_is_err_and}
use Rattle.oram_rounds.specs.Batches.{texts}
use Rattle.oram_client.proofs.Frames.{among_left, among_right, unframed_among}
use Rattle.oram_client.proofs.stream_batches.add_both.Goals as goal

pub returns-in_err-add_frames-clause-err : goal.returns-in_err-add_frames-clause-err
returns-in_err-add_frames-clause-err c =
    let p = err_from_is_err_and c.from_residual.result c.from_residual.ensures.1 in
    let first = texts c.args.first.now in
    let last = texts c.args.last.now in
    rw (p.1, p.2) (unframed_among first (first ++ last) _ (among_left first last) c.in_err-add_frames.ensures.err)

pub returns-in_err-add_frames-2-clause-err : goal.returns-in_err-add_frames-2-clause-err
returns-in_err-add_frames-2-clause-err c =
    let p = err_from_is_err_and c.from_residual-in_err-add_frames-2.result c.from_residual-in_err-add_frames-2.ensures.1 in
    let first = texts c.args.first.now in
    let last = texts c.args.last.now in
    rw (p.1, p.2) (unframed_among last (first ++ last) _ (among_right first last) c.in_err-add_frames-2.ensures.err)
