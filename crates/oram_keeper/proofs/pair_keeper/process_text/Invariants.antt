use Rattle.std.proofs.Common.{◌≡◌, ◌++◌, take}
use Rattle.oram_state.specs.StateBytes.{table_text}
use Rattle.oram_keeper.proofs.pair_keeper.process_text.Given as goal

abbrev pub invariant-loop-number : goal.invariant-loop-number
invariant-loop-number l = l.text.items ≡ l.before ++ table_text (take l.number-index l.table)
