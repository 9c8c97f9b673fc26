use Rattle.std.proofs.Common.{◌≤◌, arith, length, length-drop, drop, ℕ}
use Rattle.std.proofs.KnownBytes.{Appends-kept}
use Rattle.oram_wire.proofs.Transfers.{Appends-next, rest_is}
use Rattle.oram_wire.proofs.frame_io.write.Goals as goal
use Rattle.oram_wire.proofs.frame_io.write.Goals.{in-Ok+else-written-bytes, in-Err+else-ne}

pub loop-preserved : goal.loop-preserved
loop-preserved g c =
    let bytes = c.args.bytes.now in
    let inv = c.loop.invariant in
    elim c.match-write.branch [
      | in-Ok+else-written-bytes w ↦ (
          let rest = rest_is bytes c.loop.written in
          let some : w.in-Ok.count ≤ length (drop c.loop.written bytes) = rw rest at w.in-Ok.ensures.bound in
          record {
            within = rw w.written-is (omega (arith, some, length-drop {A = ℕ}, w.if-written-bytes.false));
            taken = rw w.written-is (Appends-next _ _ _ bytes c.loop.written w.in-Ok.count inv.taken (rw rest at w.in-Ok.ensures.bytes));
          })
      | in-Err+else-ne w ↦ record {
        within = rw w.written-is inv.within;
        taken = rw w.written-is (Appends-kept _ _ _ _ inv.taken w.in-Err.ensures.bytes);
      }
    ]
