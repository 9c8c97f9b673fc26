use Rattle.std.proofs.Common.{◌∷◌, ◌++◌, ◌∙◌, [], List, ℕ, get_or, take, sym, ap, subst, arith}
use Rattle.std.specs.Global.{Vec}
use Rattle.std.proofs.lemmas.List.{flat_map_more, map-append, take_more}
use Rattle.std.proofs.lemmas.Slice.Zip.{AllZip-long}
use Rattle.oram_redo.specs.Batch.{patch_of, patches_of}
use Rattle.oram_redo.specs.Log as spec
use Rattle.oram_store.specs.Groups.{HoldsCellsIn, HoldsCellsOf, change_patches, group_patches}
use Rattle.oram_store.specs.declared.groups.Change.{Change}
use Rattle.oram_store.proofs.GroupBytes.{zip_at}
use Rattle.oram_store.proofs.groups.group_batch.Goals as goal

pub bounds-cells-index : goal.bounds-cells-index
bounds-cells-index c = omega (arith, c.loop-index-test.true, AllZip-long HoldsCellsIn c.args.cells.now c.args.changes.now c.requires.cells)

pub change_batch-requires-clause-cells : goal.change_batch-requires-clause-cells
change_batch-requires-clause-cells c =
    let there = zip_at HoldsCellsIn c.args.cells.now c.args.changes.now c.loop-index.index c.index-cells-index.result c.index-changes-index.result c.requires.cells c.loop-index-test.true in
    let here : HoldsCellsIn c.index-cells-index.result c.index-changes-index.result =
    subst (λ (v : Vec ℕ). HoldsCellsIn v c.index-changes-index.result) (sym c.index-cells-index.is)
    (subst (λ (ch : Change). HoldsCellsIn (get_or c.args.cells.now c.loop-index.index c.index-cells-index.result) ch) (sym c.index-changes-index.is) there) in
    subst (λ (bytes : List ℕ). HoldsCellsOf bytes c.index-changes-index.result) (sym c.deref.ensures.value) here

pub loop-index-preserved : goal.loop-index-preserved
loop-index-preserved c =
    let changes : List Change = c.args.changes.now in
    let i : ℕ = c.loop-index.index in
    let change : Change = c.index-changes-index.result in
    ap patches_of c.in_ok-append.ensures.items
    ∙ map-append patch_of c.loop-index.batch.items c.in_ok-patches.patches.items
    ∙ ap (λ (ps : List spec.Patch). ps ++ patches_of c.in_ok-patches.patches.items) c.loop-index.invariant
    ∙ ap (λ (ps : List spec.Patch). group_patches (take i changes) ++ ps) c.in_ok-patches.ensures
    ∙ flat_map_more change_patches [] (take i changes) change
    ∙ ap group_patches (ap (λ (ch : Change). take i changes ++ ch ∷ []) c.index-changes-index.is ∙ sym (take_more changes i change c.loop-index-test.true))
