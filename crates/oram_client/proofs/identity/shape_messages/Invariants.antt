use Rattle.std.proofs.Common.{◌≡◌, map}
use Rattle.std.specs.List.{range_with_len}
use Rattle.oram_rounds.specs.Batches.{texts}
use Rattle.oram_client.specs.Introduction.{tree_shape}
use Rattle.oram_client.proofs.identity.shape_messages.Given as goal

abbrev pub invariant-loop-tree : goal.invariant-loop-tree
invariant-loop-tree l = texts l.messages.items ≡ map (tree_shape l.device l.overhead) (range_with_len 0 l.tree)
