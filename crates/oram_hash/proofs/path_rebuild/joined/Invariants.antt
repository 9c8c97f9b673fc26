use Rattle.std.proofs.Common.{◌≡◌, map, take, ℕ, Vec, Global}
use Rattle.oram_hash.specs.Rebuild.{joined_from}
use Rattle.oram_hash.proofs.path_rebuild.joined.Given as goal

abbrev pub invariant-loop-level : goal.invariant-loop-level
invariant-loop-level l = l.records.items ≡ joined_from l.path 0 (take l.level (map (λ (part : Vec ℕ Global). part.items) l.sealed))
