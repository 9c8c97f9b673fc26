use Rattle.std.proofs.Common.{◌≡◌}
use Rattle.oram_semantics.specs.Nonces.{formatted_below}
use Rattle.oram_empty.proofs.nonces.formatted_below.Given as goal

abbrev pub invariant-loop-earlier : goal.invariant-loop-earlier
invariant-loop-earlier l = l.nonce ≡ formatted_below l.device l.earlier
