use Rattle.std.proofs.Common.{◌*◌, ◌≤◌, []}
use Rattle.oram_nbd.specs.Calls.{Stays}
use Rattle.oram_nbd.specs.DeviceKind.{device_kind}
use Rattle.oram_nbd.specs.Streams.{streams}
use Rattle.oram_nbd.proofs.Served.{Served}
use Rattle.oram_nbd.proofs.transmission.transmit.Given as goal

abbrev pub invariant-loop-batch_number : goal.invariant-loop-batch_number
invariant-loop-batch_number g l = record {
  served : Served
      (device_kind g.D.BlockDevice.block_len g.D.BlockDevice.size g.D.BlockDevice.failed g.D.BlockDevice.asked g.D.BlockDevice.had g.D.BlockDevice.hears g.D.BlockDevice.holds g.D.BlockDevice.kept)
      l.fn.disk (streams (g.R.Read.remaining l.fn.reader) (g.W.Write.contents l.fn.writer)) l.served l.disk (streams (g.R.Read.remaining l.reader) (g.W.Write.contents l.writer)) [];
  few : l.served ≤ 65 * l._batch_number;
  stays : Stays g.D.BlockDevice.block_len g.D.BlockDevice.size g.D.BlockDevice.failed l.fn.disk l.disk;
}
