use Rattle.std.proofs.Common.{◌≡◌, ◌+◌, ◌*◌, ◌<◌, ◌++◌, ◌∷◌, [], List, ℕ, ap, sym, ◌∙◌, arith}
use Rattle.std.specs.Prelude.{slice_range}
use Rattle.std.proofs.lemmas.List.{map-append}
use Rattle.oram_host.proofs.Paths.{step_is}
use Rattle.oram_host.specs.Path.{node_on, record_at}
use Rattle.oram_layout.specs.Changes.{level_patches}
use Rattle.oram_layout.specs.Limits.{levels_from}
use Rattle.oram_layout.specs.Trees.{cell_at, sizes_of}
use Rattle.oram_redo.specs.Batch.{patch_of, patches_of}
use Rattle.oram_redo.specs.Log as spec
use Rattle.oram_store.proofs.BatchBytes.{level_more}
use Rattle.oram_store.proofs.batches.path_batch.Goals as goal

pub loop-index-preserved : goal.loop-index-preserved
loop-index-preserved c records held =
    let width : ℕ = c.args.tree.now.shape.record_len + 1 in
    let level : ℕ = c.loop-index.index in
    let below : level < levels_from (sizes_of c.args.tree.now.shape) c.args.first = omega arith in
    let end : level * width + width ≡ (level + 1) * width = sym (step_is level width) in
    let bytes = ap (λ (e : ℕ). slice_range c.args.cells.now (level * width) e) end ∙ held level below in
    let place : c.cell_at.result ≡ cell_at c.args.tree.now (node_on c.args.tree.now.shape.depth c.args.leaf (c.args.first + level)) = c.cell_at.ensures.place ∙ ap (cell_at c.args.tree.now) c.node_at.ensures.place in
    let piece : List ℕ = 1 ∷ record_at c.args.tree.now.shape.record_len records level in
    ap patches_of c.in_ok-push.ensures.items ∙ map-append patch_of c.loop-index.batch.items (_ ∷ [])
    ∙ ap (λ (ps : List spec.Patch). ps ++ (c.cell_at.result, slice_range c.args.cells.now (level * width) (level * width + width)) ∷ []) (c.loop-index.invariant records held)
    ∙ ap (λ (b : List ℕ). level_patches c.args.tree.now c.args.leaf c.args.first records 0 level ++ (c.cell_at.result, b) ∷ []) bytes
    ∙ ap (λ (at : ℕ). level_patches c.args.tree.now c.args.leaf c.args.first records 0 level ++ (at, piece) ∷ []) place
    ∙ sym (level_more c.args.tree.now c.args.leaf c.args.first records level)

pub returns : goal.returns
returns c records held =
    let e : c.loop-index.index ≡ levels_from (sizes_of c.args.tree.now.shape) c.args.first = omega arith in
    c.loop-index.invariant records held ∙ ap (level_patches c.args.tree.now c.args.leaf c.args.first records 0) e
