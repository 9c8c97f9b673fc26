use Rattle.std.proofs.Common.{◌<◌, ℕ}
use Rattle.oram_hash.specs.Path.{IsGenuine}
use Rattle.oram_hash.proofs.view.check_path.Given as goal

abbrev pub invariant-loop-level : goal.invariant-loop-level
invariant-loop-level l = (k : ℕ) → k < l.level → IsGenuine l.path l.root k
