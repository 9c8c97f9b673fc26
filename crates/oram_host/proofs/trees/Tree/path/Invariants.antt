use Rattle.std.proofs.Common.{◌≡◌, ℕ, ◌*◌, ◌<◌, ◌++◌, drop, length, Some}
use Rattle.oram_host.specs.Host.{record_of}
use Rattle.oram_host.specs.Path.{node_on, record_at}
use Rattle.oram_host.specs.Trees.{kept_by}
use Rattle.oram_host.proofs.trees.Tree.path.Given as goal

abbrev pub invariant-loop-level : goal.invariant-loop-level
invariant-loop-level l = record {
  behind : l.bytes.items ≡ l.front ++ drop (length l.front) l.bytes.items;
  whole : length (drop (length l.front) l.bytes.items) ≡ l.level * l.self.record_len;
  each : (level : ℕ) → level < l.level → record_of (kept_by l.self) (node_on l.self.depth l.leaf level) ≡ Some (record_at l.self.record_len (drop (length l.front) l.bytes.items) level);
}
