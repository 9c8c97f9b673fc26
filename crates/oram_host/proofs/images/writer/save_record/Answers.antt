use Rattle.std.proofs.Common.{refl, rules, ℕ, List}
use Rattle.std.specs.Int.{w32, to_be_bytes}
use Rattle.std.specs.Io.KnownBytes.{Appends}
use Rattle.oram_host.specs.Image.{record_text}
use Rattle.oram_host.specs.Transfers.{Begins}
use Rattle.oram_host.proofs.Transfers.{begun_first, begun_last}
use Rattle.oram_host.proofs.images.writer.save_record.Goals as goal

pub returns-in_err-write-clause-begun : goal.returns-in_err-write-clause-begun
returns-in_err-write-clause-begun g c =
    let node : List ℕ = to_be_bytes w32 c.args.node in
    let first : Begins (g.W.Write.contents c.args.writer.now) (g.W.Write.contents c.write.new.writer) node = (c.write.ensures.begun.0, search rules) in
    begun_first _ _ node c.args.bytes.now (record_text (c.args.node, c.args.bytes.now)) first refl

pub returns-clause-begun : goal.returns-clause-begun
returns-clause-begun g c =
    let node : List ℕ = to_be_bytes w32 c.args.node in
    let first : Appends (g.W.Write.contents c.args.writer.now) (g.W.Write.contents c.write.new.writer) node = search rules in
    begun_last _ _ _ node c.args.bytes.now first c.write-2.ensures.begun
