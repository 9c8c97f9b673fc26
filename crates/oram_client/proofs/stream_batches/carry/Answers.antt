use Rattle.std.proofs.Common.{[], ◌++◌, inl, refl}
use Rattle.std.proofs.lemmas.Result.{err_from_is_err_and}
use Rattle.oram_rounds.specs.Batches.{texts}
use Rattle.oram_client.specs.AnswerLengths.{longest_answer}
use Rattle.oram_client.specs.StreamBatches.{cut_short}
use Rattle.oram_client.proofs.Carried.{carried}
use Rattle.oram_client.proofs.TakenIn.{received_ok, stopped_err}
use Rattle.oram_client.proofs.stream_batches.carry.Goals as goal

pub returns-in_err-send_duplex : goal.returns-in_err-send_duplex
returns-in_err-send_duplex g c =
    let p = err_from_is_err_and c.from_residual.result c.from_residual.ensures.1 in
    let bodies = (texts c.args.before.now ++ texts c.args.first.now) ++ (texts c.args.between.now ++ texts c.args.last.now) in
    rw (p.1, p.2) (
      cut_short bodies [] c.in_err-send_duplex.field-0.0,
      (
        [],
        refl,
        inl (record {
          none = refl;
          wrote = c.in_err-send_duplex.ensures.err;
          unread = c.send_duplex.ensures.unread;
        }),
      ),
    )

pub returns : goal.returns
returns g c =
    let bodies = (texts c.args.before.now ++ texts c.args.first.now) ++ (texts c.args.between.now ++ texts c.args.last.now) in
    let longest = longest_answer c.args.lengths.now in
    let old = g.R.Read.remaining c.args.reader.now in
    let mid = g.R.Read.remaining c.send_duplex.new.reader in
    let new = g.R.Read.remaining c.receive_all.new.reader in
    let kept = c.send_duplex.ensures.unread in
    carried g.R.Read.remaining g.W.Write.contents c.receive_all.result bodies longest
    c.args.reader.now c.receive_all.new.reader c.args.writer.now c.send_duplex.new.writer c.in_ok-send_duplex.ensures.ok
    (received_ok longest old mid new kept bodies c.receive_all.result c.receive_all.ensures.ok)
    (stopped_err longest old mid new kept bodies c.receive_all.result c.receive_all.ensures.err)
