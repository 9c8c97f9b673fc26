use Rattle.std.proofs.Common.{◌≡◌, ℕ, ◌<◌, All, IsSome}
use Rattle.std.specs.Ordering.{nat_cmp}
use Rattle.std.specs.BTreeMap.{IsOrdered, get, keys, values}
use Rattle.oram_host.specs.Path.{node_on}
use Rattle.oram_host.specs.Trees.{AreNodes, IsRecord, records_in}
use Rattle.oram_host.proofs.trees.make_room.Given as goal

abbrev pub invariant-loop-level : goal.invariant-loop-level
invariant-loop-level l = record {
  same : records_in l.records ≡ records_in l.fn.records;
  room : (level : ℕ) → level < l.level → IsSome (get nat_cmp l.records (node_on l.depth l.leaf level));
  ordered : IsOrdered nat_cmp l.records;
  nodes : AreNodes l.depth (keys l.fn.records) → AreNodes l.depth (keys l.records);
  whole : (record_len : ℕ) → All (IsRecord record_len) (values l.fn.records) → All (IsRecord record_len) (values l.records);
}
