use Rattle.std.proofs.Common.{◌≡◌, ◌+◌, ◌*◌, length, take, drop}
use Rattle.oram_geometry.specs.Sizes.{depth_of}
use Rattle.oram_rounds.specs.Batches.{texts}
use Rattle.oram_rounds.specs.Overlay.{LaysAllOver}
use Rattle.oram_rounds.specs.PathMessages.{ArePathStores}
use Rattle.oram_rounds.proofs.overlay.lay_stores.Given as goal

abbrev pub invariant-loop-store : goal.invariant-loop-store
invariant-loop-store l = record {
  whole : length l.path ≡ (depth_of l.device l.tree + 1) * l.record_len;
  paths : ArePathStores l.device l.record_len (drop l.store-index (texts l.stores));
  laid : LaysAllOver l.device l.record_len l.tree l.leaf (take l.store-index (texts l.stores)) l.initial.path l.path;
}
