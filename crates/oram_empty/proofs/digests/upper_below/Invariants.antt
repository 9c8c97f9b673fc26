use Rattle.std.proofs.Common.{◌≡◌}
use Rattle.oram_empty.specs.KeptDigests.{upper_below}
use Rattle.oram_empty.proofs.digests.upper_below.Given as goal

abbrev pub invariant-loop-earlier : goal.invariant-loop-earlier
invariant-loop-earlier l = l.nodes ≡ upper_below l.device l.earlier
