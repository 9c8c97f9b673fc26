use Rattle.std.proofs.Common.{arith, length, length-append, ◌∷◌, [], ap}
use Rattle.oram_redo.specs.Memory.{byte_of}
use Rattle.oram_redo.proofs.Memories.{bytes_at-more}
use Rattle.oram_redo.proofs.memory.bytes_from.Goals as goal

pub loop-i-preserved : goal.loop-i-preserved
loop-i-preserved c =
    let more = bytes_at-more c.loop-i.i c.args.at (byte_of c.args.file.now) in
    let was = c.loop-i.invariant.bytes in
    let byte = c.byte_at.ensures in
    let pushed = c.in_ok-push.ensures.items in
    record {
      bytes = cc (more, was, byte, pushed);
      len = omega (arith, c.loop-i.invariant.len, ap length pushed, length-append c.loop-i.bytes.items (c.byte_at.result ∷ []));
    }
