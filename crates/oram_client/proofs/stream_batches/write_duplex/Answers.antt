use Rattle.std.proofs.Common.{◌≤◌, arith, length, length-drop, drop, ℕ}
use Rattle.std.proofs.KnownBytes.{Appends-nil, Keeps-refl, Keeps-trans}
use Rattle.oram_wire.proofs.Transfers.{Appends-next, rest_is}
use Rattle.oram_client.proofs.stream_batches.write_duplex.Goals as goal

pub loop-init : goal.loop-init
loop-init g c = record { within = omega arith; taken = Appends-nil (g.W.Write.contents c.args.writer.now); unread = Keeps-refl (g.R.Read.remaining c.args.reader.now) }

pub loop-preserved : goal.loop-preserved
loop-preserved g c =
    let bytes = c.args.bytes.now in
    let inv = c.loop.invariant in
    let count = c.in_ok-count.count in
    let rest = rest_is bytes c.loop.written in
    let some : count ≤ length (drop c.loop.written bytes) = rw rest at c.in_ok-count.ensures.bound in
    record {
      within = omega (arith, some, inv.within, length-drop {A = ℕ});
      taken = Appends-next _ _ _ bytes c.loop.written count inv.taken (rw rest at c.in_ok-count.ensures.ok);
      unread = Keeps-trans _ _ _ inv.unread c.write_some.ensures.unread;
    }
