use Rattle.std.proofs.Common.{ℕ, ◌<◌, ◌≤◌}
use Rattle.oram_stamps.specs.Known.{StandsAt}
use Rattle.oram_stamps.proofs.known.place_from.Given as goal

abbrev pub invariant-loop-i : goal.invariant-loop-i
invariant-loop-i l = (j : ℕ) → l.from ≤ j → j < l.i → ¬ StandsAt l.stamps j l.stamp
