use Rattle.std.proofs.Common.{◌-◌, arith}
use Rattle.oram_core.proofs.Small.{block_read, block_written, block_discarded, block_mapped, leaf_fits}
use Rattle.oram_core.proofs.path_access.edit_for.Goals as goal

pub overflow_add-result : goal.overflow_add-result
overflow_add-result c = omega (arith, leaf_fits c.args.device.now (c.args.tree - 1) c.new_leaf.result c.new_leaf.ensures.range)

pub returns-in-Read-clause-block : goal.returns-in-Read-clause-block
returns-in-Read-clause-block c = λ bytes. block_read _ _ _ _ bytes c.in-0.is c.in-Read.is

pub returns-in-Write-clause-block : goal.returns-in-Write-clause-block
returns-in-Write-clause-block c = λ bytes. rw c.as_slice.ensures (block_written _ _ _ _ _ bytes c.in-0.is c.in-Write.is)

pub returns-in-Discard-clause-block : goal.returns-in-Discard-clause-block
returns-in-Discard-clause-block c = λ bytes. rw c.zeros.ensures (block_discarded _ _ _ _ bytes c.in-0.is c.in-Discard.is)

pub returns-in_default-clause-block : goal.returns-in_default-clause-block
returns-in_default-clause-block c = λ bytes. block_mapped _ _ _ bytes _ _ (omega arith) c.entry_of.ensures.value c.new_leaf.ensures.value
