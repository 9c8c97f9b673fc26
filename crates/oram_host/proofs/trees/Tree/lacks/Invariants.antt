use Rattle.std.proofs.Common.{ℕ, ◌<◌, IsSome}
use Rattle.oram_host.specs.Host.{record_of}
use Rattle.oram_host.specs.Path.{node_on}
use Rattle.oram_host.specs.Trees.{kept_by}
use Rattle.oram_host.proofs.trees.Tree.lacks.Given as goal

abbrev pub invariant-loop-level : goal.invariant-loop-level
invariant-loop-level l = (level : ℕ) → level < l.level → IsSome (record_of (kept_by l.self) (node_on l.self.depth l.leaf level))
