use Rattle.std.proofs.Common.{take}
use Rattle.oram_rounds.specs.Batches.{texts}
use Rattle.oram_rounds.specs.PathMessages.{ArePathStores}
use Rattle.oram_rounds.proofs.path_messages.are_path_stores.Given as goal

abbrev pub invariant-loop-body : goal.invariant-loop-body
invariant-loop-body l = ArePathStores l.device l.record_len (take l.body-index (texts l.bodies))
