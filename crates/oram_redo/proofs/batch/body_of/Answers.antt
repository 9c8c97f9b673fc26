use Rattle.std.proofs.Common.{rules, ◌<◌, ◌^◌, [], ◌∷◌, ◌++◌, length, ap, ◌∙◌, arith, ℕ, List, get_or}
use Rattle.std.proofs.lemmas.List.{take_all}
use Rattle.oram_redo.specs.Batch.{patches_of}
use Rattle.oram_redo.specs.Log as spec
use Rattle.oram_redo.specs.Log.{entries, place_bytes, length_bytes}
use Rattle.oram_redo.specs.declared.batch.Patch.{Patch}
use Rattle.oram_redo.proofs.Batches.{entries_more, patch_has}
use Rattle.oram_redo.proofs.batch.body_of.Goals as goal

abbrev none : Patch
none = record { at = 0; bytes = record { ref_ptr = (0, 0); now = [] } }

pub push_entry-requires : goal.push_entry-requires
push_entry-requires c =
    let fits : length (get_or c.args.batch.now c.loop-patch.patch-index none).bytes.now < 2 ^ 32 =
    patch_has (λ (p : spec.Patch). length p.1 < 2 ^ 32) c.args.batch.now c.loop-patch.patch-index none c.requires c.loop-patch-test.true in
    search rules

pub loop-patch-preserved : goal.loop-patch-preserved
loop-patch-preserved c =
    let p = get_or c.args.batch.now c.loop-patch.patch-index none in
    let more = entries_more c.args.batch.now c.loop-patch.patch-index none c.loop-patch-test.true in
    let one = c.in_ok-push_entry.ensures in
    let was = c.loop-patch.invariant in
    cc (more, one, was)

pub returns : goal.returns
returns c =
    c.in_ok-push.ensures.items ∙ ap (λ (l : List ℕ). l ++ 15 ∷ []) (c.loop-patch.invariant ∙ ap (λ (l : List Patch). entries (patches_of l)) (take_all c.loop-patch.patch-index c.args.batch.now (omega arith)))
