use Rattle.std.proofs.Common.{◌≡◌, ◌<◌, ℕ, List, arith, ap, ◌∙◌, subst, length, map, replicate}
use Rattle.std.specs.List.{FoldsTo, flat_map}
use Rattle.oram_geometry.specs.declared.Sizes.{Sizes}
use Rattle.oram_bucket.specs.Cell.{Cell}
use Rattle.oram_bucket.specs.Cipher.{Cipher}
use Rattle.oram_bucket.specs.SealedBlocks.{Reads}
use Rattle.oram_core.specs.Core.{scheme_of}
use Rattle.oram_core.specs.declared.parts.Pending.{Pending}
use Rattle.oram_rounds.proofs.Tries.{on_err}
use Rattle.oram_semantics.proofs.Bounds.{some_trees}
use Rattle.oram_tree.specs.Parts.{Parts}
use Rattle.oram_export.specs.Export.{to_read, tree_in}
use Rattle.oram_export.specs.Images.{PutsBlocks, write_of, writes_of}
use Rattle.oram_export.specs.Reading.{IsRead, sound_in}
use Rattle.oram_export.specs.declared.tree_reading.TreeToRead.{TreeToRead}
use Rattle.oram_export.proofs.Backups.{pending_writes}
use Rattle.oram_export.proofs.Exporting.{asked_all, asked_none, exported, part_at}
use Rattle.oram_export.proofs.export.export_disk.Goals as goal

pub index-requires : goal.index-requires
index-requires g c = let some = some_trees c.args.core.now.device in let count = c.in_ok-parts.ensures.count in omega (arith, some, count)

pub tree_to_read-to_read-requires-clause-tree : goal.tree_to_read-to_read-requires-clause-tree
tree_to_read-to_read-requires-clause-tree g c = some_trees c.args.core.now.device

pub tree_to_read-to_read-requires-clause-parts : goal.tree_to_read-to_read-requires-clause-parts
tree_to_read-to_read-requires-clause-parts g c =
    let some = some_trees c.args.core.now.device in
    let count = c.in_ok-parts.ensures.count in
    let below : 0 < length c.in_ok-parts.parts.trees.items = omega (arith, some, count) in
    part_at c.args.core.now.state.trees c.in_ok-parts.parts.trees.items 0 c.index.result.now c.in_ok-parts.ensures.trees below c.index.ensures

pub returns-clause-ok : goal.returns-clause-ok
returns-clause-ok g c =
    let takes = g.K.BlockSink.takes in
    let batches = g.B.BatchLink.batches in
    let v = scheme_of g.S.Sealer.cipher c.args.core.now in
    let s = c.args.core.now.state in
    let some = some_trees c.args.core.now.device in
    let count = c.in_ok-parts.ensures.count in
    let below : 0 < length c.in_ok-parts.parts.trees.items = omega (arith, some, count) in
    let part = part_at s.trees c.in_ok-parts.parts.trees.items 0 c.index-2.result.now c.in_ok-parts.ensures.trees below c.index-2.ensures in
    let stash : c.deref.result.now ≡ (tree_in s 0).stash = c.deref.ensures.value ∙ ap (λ (p : Parts). p.stash) c.behind-parts.view_is ∙ ap (λ (p : Parts). p.stash) part in
    let ok = c.in_ok-findings.ensures.ok in
    let read = subst (λ (t : TreeToRead). IsRead batches t c.args.link.now ok.0 c.in_ok-findings.findings c.read_tree.new.link) c.tree_to_read-to_read.ensures.read ok.1 in
    let told = subst (λ (d : Sizes). FoldsTo (PutsBlocks (Reads v.cipher.opening d 0) takes) c.args.sink.now (sound_in ok.0) c.read_tree.new.target) c.device-2.ensures.value
    (subst (λ (h : Cipher). FoldsTo (PutsBlocks (Reads h.opening c.device-2.result.now 0) takes) c.args.sink.now (sound_in ok.0) c.read_tree.new.target) c.requires ok.2) in
    let put = subst (λ (cells : List Cell). FoldsTo takes c.read_tree.new.target (map write_of cells) c.put_blocks.new.sink) stash c.in_ok-put_blocks.ensures in
    let zero : List ℕ = replicate v.device.block_bytes 0 in
    let zeros : c.deref-3.result.now ≡ zero = c.deref-3.ensures.value ∙ c.in_ok-zeros.ensures.items_if_clones_equal (λ y e. e) ∙ ap (λ n. replicate n 0) (c.block_bytes.ensures.value ∙ ap (λ (d : Sizes). d.block_bytes) c.device.ensures.value) in
    let written = subst (λ zs. FoldsTo takes c.put_blocks.new.sink (flat_map (λ (p : Pending). writes_of zs p.command) c.deref-2.result.now) c.put_waiting.new.sink) zeros c.in_ok-put_waiting.ensures in
    let pending = subst (λ ps. FoldsTo takes c.put_blocks.new.sink (flat_map (λ (p : Pending). writes_of zero p.command) ps) c.put_waiting.new.sink) c.deref-2.ensures.value written in
    let waiting = subst (λ ws. FoldsTo takes c.put_blocks.new.sink ws c.put_waiting.new.sink) (pending_writes zero c.in_ok-parts.parts.waiting.items s.queue c.in_ok-parts.ensures.waiting) pending in
    exported batches takes v s c.args.link.now c.read_tree.new.link c.args.sink.now c.read_tree.new.target c.put_blocks.new.sink c.put_waiting.new.sink ok.0 c.in_ok-findings.findings c.device-2.ensures.sound.ranges read told put waiting

pub returns-in_err-parts-clause-asked : goal.returns-in_err-parts-clause-asked
returns-in_err-parts-clause-asked g c =
    on_err c.from_residual.result (asked_none g.B.BatchLink.batches g.B.PipelinedLink.asks (to_read (scheme_of g.S.Sealer.cipher c.args.core.now) c.args.core.now.state 0) c.args.link.now)

pub returns-in_err-zeros-clause-asked : goal.returns-in_err-zeros-clause-asked
returns-in_err-zeros-clause-asked g c =
    on_err c.from_residual-in_err-zeros.result (asked_none g.B.BatchLink.batches g.B.PipelinedLink.asks (to_read (scheme_of g.S.Sealer.cipher c.args.core.now) c.args.core.now.state 0) c.args.link.now)

pub returns-in_err-put_blocks-clause-asked : goal.returns-in_err-put_blocks-clause-asked
returns-in_err-put_blocks-clause-asked g c =
    let batches = g.B.BatchLink.batches in
    let tree = to_read (scheme_of g.S.Sealer.cipher c.args.core.now) c.args.core.now.state 0 in
    let ok = c.in_ok-findings.ensures.ok in
    let read = subst (λ (t : TreeToRead). IsRead batches t c.args.link.now ok.0 c.in_ok-findings.findings c.read_tree.new.link) c.tree_to_read-to_read.ensures.read ok.1 in
    on_err c.from_residual-in_err-put_blocks.result (asked_all batches g.B.PipelinedLink.asks tree c.args.link.now c.read_tree.new.link ok.0 c.in_ok-findings.findings read)

pub returns-in_err-put_waiting-clause-asked : goal.returns-in_err-put_waiting-clause-asked
returns-in_err-put_waiting-clause-asked g c =
    let batches = g.B.BatchLink.batches in
    let tree = to_read (scheme_of g.S.Sealer.cipher c.args.core.now) c.args.core.now.state 0 in
    let ok = c.in_ok-findings.ensures.ok in
    let read = subst (λ (t : TreeToRead). IsRead batches t c.args.link.now ok.0 c.in_ok-findings.findings c.read_tree.new.link) c.tree_to_read-to_read.ensures.read ok.1 in
    on_err c.from_residual-in_err-put_waiting.result (asked_all batches g.B.PipelinedLink.asks tree c.args.link.now c.read_tree.new.link ok.0 c.in_ok-findings.findings read)
