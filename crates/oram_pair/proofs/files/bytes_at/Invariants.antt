use Rattle.std.proofs.Common.{◌-◌, ◌≤◌, length}
use Rattle.oram_pair.proofs.files.bytes_at.Given as goal

abbrev pub invariant-loop-got : goal.invariant-loop-got
invariant-loop-got l = l.got ≤ length l.bytes

abbrev pub decreases-loop-got : goal.decreases-loop-got
decreases-loop-got l = length l.bytes - l.got
