use Rattle.std.proofs.Common.{ℕ, List}
use Rattle.oram_hash.specs.Rebuild.{IsJoined}
use Rattle.oram_hash.proofs.Links.{IsLinkedFrom}
use Rattle.oram_hash.proofs.view.PathView.relink.Given as goal

abbrev pub invariant-loop-level : goal.invariant-loop-level
invariant-loop-level l = (parts : List (List ℕ)) → IsJoined l.self parts l.fn.records → IsLinkedFrom l.self parts l.records l.digest l.level
