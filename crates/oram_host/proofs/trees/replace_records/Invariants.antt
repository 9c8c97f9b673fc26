use Rattle.std.proofs.Common.{◌≡◌, ◌≢◌, ℕ, ◌+◌, ◌≤◌, All, IsSome, length, take, slice_get, vec_len}
use Rattle.std.specs.Ordering.{nat_cmp}
use Rattle.std.specs.BTreeMap.{IsOrdered, get, keys, values}
use Rattle.oram_host.specs.Path.{node_on}
use Rattle.oram_host.specs.Trees.{AreNodes, IsRecord}
use Rattle.oram_host.proofs.trees.replace_records.Given as goal

abbrev pub invariant-loop-copy : goal.invariant-loop-copy
invariant-loop-copy l = record {
  count : length l.copies.items ≤ l.depth + 1;
  front : l.copies.items ≡ take (length l.copies.items) l.fn.copies.items;
  path : (level : ℕ) → length l.copies.items ≤ level → level ≤ l.depth → get nat_cmp l.records (node_on l.depth l.leaf level) ≡ slice_get l.fn.copies.items level;
  others : (node : ℕ) → ((level : ℕ) → level ≤ l.depth → node ≢ node_on l.depth l.leaf level) → get nat_cmp l.records node ≡ get nat_cmp l.fn.records node;
  ordered : IsOrdered nat_cmp l.records;
  room : (level : ℕ) → level ≤ l.depth → IsSome (get nat_cmp l.records (node_on l.depth l.leaf level));
  nodes : AreNodes l.depth (keys l.fn.records) → AreNodes l.depth (keys l.records);
  whole : (record_len : ℕ) → All (IsRecord record_len) l.fn.copies.items → All (IsRecord record_len) (values l.fn.records) → All (IsRecord record_len) (values l.records);
}

abbrev pub decreases-loop-copy : goal.decreases-loop-copy
decreases-loop-copy l = vec_len l.copies
