use Rattle.std.proofs.Common.{◌≡◌, ◌+◌, ◌*◌, length, take, drop, map}
use Rattle.std.specs.List.{AllByRecursion}
use Rattle.oram_geometry.specs.Sizes.{depth_of}
use Rattle.oram_rounds.specs.Batches.{texts}
use Rattle.oram_near.specs.Completion.{LaysOver}
use Rattle.oram_near.specs.PathRequests.{IsFarStoreBody, store_in}
use Rattle.oram_near.proofs.overlay.lay_stores.Given as goal

abbrev pub invariant-loop-store : goal.invariant-loop-store
invariant-loop-store l = record {
  whole : length l.path ≡ (depth_of l.device l.tree + 1) * l.record_len;
  paths : AllByRecursion (IsFarStoreBody l.device l.levels l.record_len) (drop l.store-index (texts l.stores));
  laid : LaysOver l.device l.record_len l.tree l.leaf (map store_in (take l.store-index (texts l.stores))) l.initial.path l.path;
}
