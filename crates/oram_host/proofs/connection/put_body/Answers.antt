use Rattle.std.proofs.Common.{length, sym, subst, take_all, le_refl}
use Rattle.std.proofs.KnownBytes.{Appends-kept}
use Rattle.std.specs.Io.KnownBytes.{Appends}
use Rattle.oram_wire.specs.FrameStream.{frame}
use Rattle.oram_host.proofs.connection.put_body.Goals as goal

pub returns-then-is_err-clause-write : goal.returns-then-is_err-clause-write
returns-then-is_err-clause-write g c = λ _.
    let text = frame c.args.body.now in
    let whole = Appends-kept _ _ _ _ c.in_ok-put_frame.ensures.ok c.flush.ensures.bytes in
    (length text, subst (Appends (g.W.Write.contents c.args.writer.now) (g.W.Write.contents c.flush.new.self)) (sym (take_all (length text) text (le_refl _))) whole)
