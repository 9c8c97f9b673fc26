use Rattle.std.proofs.Common.{◌≡◌, ◌++◌, ℕ, List, ◌∙◌, subst}
use Rattle.std.specs.List.{flat_map}
use Rattle.std.specs.Io.KnownBytes.{Appends}
use Rattle.oram_wire.specs.FrameStream.{frame}
use Rattle.oram_rounds.specs.Batches.{texts}
use Rattle.oram_client.proofs.TakenIn.{flushed}
use Rattle.oram_client.proofs.stream_batches.send_duplex.Goals as goal

pub returns-then-is_err-clause-err : goal.returns-then-is_err-clause-err
returns-then-is_err-clause-err g c =
    let all : List ℕ = flat_map frame ((texts c.args.before.now ++ texts c.args.first.now) ++ (texts c.args.between.now ++ texts c.args.last.now)) in
    let is : c.deref.result.now ≡ all = c.deref.ensures.value ∙ c.in_ok-frames.ensures.ok in
    flushed (g.W.Write.contents c.args.writer.now) (g.W.Write.contents c.write_duplex.new.writer) (g.W.Write.contents c.flush.new.self) all
    (subst (λ (bytes : List ℕ). Appends (g.W.Write.contents c.args.writer.now) (g.W.Write.contents c.write_duplex.new.writer) bytes) is c.in_default.ensures.ok) c.flush.ensures.bytes
