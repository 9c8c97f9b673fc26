use Rattle.std.proofs.Common.{take}
use Rattle.std.specs.List.{AllByRecursion}
use Rattle.oram_rounds.specs.Batches.{texts}
use Rattle.oram_rounds.specs.PathMessages.{IsPathFetch}
use Rattle.oram_rounds.proofs.path_messages.are_path_fetches.Given as goal

abbrev pub invariant-loop-body : goal.invariant-loop-body
invariant-loop-body l = AllByRecursion (IsPathFetch l.device) (take l.body-index (texts l.bodies))
