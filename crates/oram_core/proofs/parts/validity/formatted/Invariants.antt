use Rattle.std.proofs.Common.{◌≡◌}
use Rattle.oram_semantics.specs.Nonces.{formatted_below}
use Rattle.oram_core.proofs.parts.validity.formatted.Given as goal

abbrev pub invariant-loop-tree : goal.invariant-loop-tree
invariant-loop-tree l = record { sum : l.buckets ≡ formatted_below l.device l.tree }
