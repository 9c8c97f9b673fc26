use Rattle.std.proofs.Common.{List, ℕ, map, subst}
use Rattle.std.specs.List.{FoldsTo}
use Rattle.oram_bucket.specs.Cell.{Cell}
use Rattle.oram_bucket.specs.SealedBlocks.{Reads}
use Rattle.oram_hash.proofs.Paths.{sealed_part-slice}
use Rattle.oram_semantics.proofs.Bounds.{some_trees}
use Rattle.oram_export.specs.Images.{write_of}
use Rattle.oram_export.proofs.blocks.BucketOpenerRecordVisitor.see.Goals as goal

pub open_bucket-requires : goal.open_bucket-requires
open_bucket-requires g c = some_trees c.args.self.now.device.now

pub returns : goal.returns
returns g c = record {
  cells = c.in_ok-blocks.blocks.items;
  read = subst (λ (sealed : List ℕ). Reads (g.S.Sealer.cipher c.args.self.now.sealer.now).opening c.args.self.now.device.now 0 sealed c.in_ok-blocks.blocks.items)
      (sealed_part-slice c.args.record_bytes.now) c.in_ok-blocks.ensures.ok;
  put = subst (λ (cells : List Cell). FoldsTo g.K.BlockSink.takes c.args.target.now (map write_of cells) c.put_blocks.new.sink) c.deref.ensures.value c.in_ok-put_blocks.ensures;
}
