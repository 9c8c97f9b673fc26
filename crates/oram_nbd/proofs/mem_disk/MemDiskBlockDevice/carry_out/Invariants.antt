use Rattle.std.proofs.Common.{◌≡◌, length}
use Rattle.oram_nbd.proofs.ListSteps.{Carried}
use Rattle.oram_nbd.proofs.mem_disk.MemDiskBlockDevice.carry_out.Given as goal

abbrev pub invariant-loop-operation : goal.invariant-loop-operation
invariant-loop-operation g l = record {
  so_far : Carried l.operations l.fn.self.bytes l.operation-index l.given.items l.self.bytes;
  same : l.self.block_len ≡ l.fn.self.block_len;
  long : length l.self.bytes ≡ length l.fn.self.bytes;
}
