use Rattle.std.proofs.Common.{◌≡◌, ◌+◌, ◌++◌, [], ◌∷◌, map, take, sym, ap, ◌∙◌, subst}
use Rattle.std.specs.List.{FoldsTo}
use Rattle.std.proofs.lemmas.Fn.{FoldsTo-push}
use Rattle.std.proofs.lemmas.List.{map_more}
use Rattle.oram_bucket.specs.Cell.{Cell}
use Rattle.oram_export.specs.Images.{BlockWrite, write_of}
use Rattle.oram_export.proofs.blocks.put_blocks.Goals as goal

pub loop-block-preserved : goal.loop-block-preserved
loop-block-preserved g c =
    let takes = g.K.BlockSink.takes in
    let i = c.loop-block.block-index in
    let x = c.block-item.result in
    let blocks = c.args.blocks.now in
    let more : map write_of (take (i + 1) blocks) ≡ map write_of (take i blocks) ++ write_of x ∷ [] = map_more write_of blocks i x c.loop-block-test.true ∙ ap (λ b. map write_of (take i blocks) ++ write_of b ∷ []) (sym c.block-item.is) in
    let put : takes c.loop-block.sink (write_of x) c.put.new.self =
    let at = ap (λ (b : Cell). b.address) c.block.view_is in
    let holds = ap (λ (b : Cell). b.content) c.block.view_is in
    let read = c.deref.ensures.value in
    let same : record { address = c.block.inside.address; content = c.deref.result.now } ≡ write_of x = cc in
    subst (λ (w : BlockWrite). takes c.loop-block.sink w c.put.new.self) same c.in_ok-put.ensures in
    subst (λ ws. FoldsTo takes c.args.sink.now ws c.put.new.self) (sym more) (FoldsTo-push takes c.args.sink.now (map write_of (take i blocks)) c.loop-block.sink (write_of x) c.put.new.self c.loop-block.invariant put)
