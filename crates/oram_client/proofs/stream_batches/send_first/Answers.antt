use Rattle.std.proofs.Common.{◌++◌, List, ℕ, ap, subst}
use Rattle.std.specs.List.{flat_map}
use Rattle.oram_wire.specs.FrameStream.{frame}
use Rattle.oram_rounds.specs.Batches.{texts}
use Rattle.oram_client.specs.StreamBatches.{Due, WritesOn}
use Rattle.oram_client.proofs.Writing.{written_count}
use Rattle.oram_client.proofs.stream_batches.send_first.Goals as goal

pub returns-then-is_err-clause-err : goal.returns-then-is_err-clause-err
returns-then-is_err-clause-err g c =
    let old = g.W.Write.contents c.args.writer.now in
    let new = g.W.Write.contents c.write_first.new.writer in
    let all : List ℕ = flat_map frame ((texts c.args.before.now ++ texts c.args.first.now) ++ (texts c.args.between.now ++ texts c.args.last.now)) in
    let rest = c.write_first.new.due.unsent in
    written_count old new all rest
    (subst (λ (bytes : List ℕ). WritesOn old new bytes rest) (ap (λ (d : Due). d.unsent) c.in_ok-due.ensures.ok) c.write_first.ensures.wrote)
