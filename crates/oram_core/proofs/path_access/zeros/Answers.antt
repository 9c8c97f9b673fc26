use Rattle.std.proofs.Common.{sym}
use Rattle.std.proofs.lemmas.List.{take-replicate}
use Rattle.oram_core.proofs.path_access.zeros.Goals as goal

pub returns : goal.returns
returns c = rw c.block_bytes.ensures.value (take-replicate c.args.device.now.block_bytes 4096 0 (rw (sym c.block_bytes.ensures.value) c.block_bytes.ensures.range.1))
