use Rattle.std.proofs.Common.{length}
use Rattle.std.specs.Int.{w32, to_be_bytes}
use Rattle.oram_wire.proofs.Transfers.{on_err, part_of_first, part_of_second}
use Rattle.oram_wire.proofs.frame_io.put_frame.Goals as goal

pub returns-in_err-write-clause-err : goal.returns-in_err-write-clause-err
returns-in_err-write-clause-err g c =
    on_err _ _ (part_of_first _ _ (to_be_bytes w32 (length c.args.body.now)) c.args.body.now (rw c.to_be_bytes-head.ensures at c.in_err-write.ensures.err))

pub returns-clause-err : goal.returns-clause-err
returns-clause-err g c =
    part_of_second c.write-2.result _ _ _ (to_be_bytes w32 (length c.args.body.now)) c.args.body.now (rw c.to_be_bytes-head.ensures at c.in_ok-write.ensures.ok) c.write-2.ensures.err
