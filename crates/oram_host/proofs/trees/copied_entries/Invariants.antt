use Rattle.std.proofs.Common.{◌≡◌, ◌++◌}
use Rattle.oram_host.proofs.trees.copied_entries.Given as goal

abbrev pub invariant-loop-node : goal.invariant-loop-node
invariant-loop-node l = l.copied.entries ++ l.node-iterator ≡ l.records.entries
