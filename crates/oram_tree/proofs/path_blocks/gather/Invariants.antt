use Rattle.oram_bucket.specs.Cell.{IsRising}
use Rattle.oram_bucket.specs.SealedBlocks.{Reads}
use Rattle.oram_tree.proofs.Gathered.{IsReadableTo, HasFetched}
use Rattle.oram_tree.proofs.path_blocks.gather.Given as goal

abbrev pub invariant-loop-level : goal.invariant-loop-level
invariant-loop-level g l = let reads = Reads (g.S.Sealer.cipher l.sealer).opening l.device l.tree in record {
  rising : IsRising l.near;
  readable : IsReadableTo reads l.path l.stash l.level;
  near : HasFetched reads l.path l.level l.near;
}
