-- Writes to the places of patches, one after the other.
use Rattle.std.proofs.Common.{◌⊎◌, ⊎_elim, ℕ, ◌+◌, ◌<◌, ◌≤◌, List, length, get_or, take, sym, ◌∙◌, ap}
use Rattle.oram_redo.specs.Batch.{patches_of}
use Rattle.oram_redo.specs.Content.{Content, Agrees}
use Rattle.oram_redo.specs.FilePair.{Contents, FileModel, Follows, LeavesOnly, TimeGoesOn, Torn, Wrote}
use Rattle.oram_redo.specs.Log as spec
use Rattle.oram_redo.specs.Log.{put_all, Spares, Smeared}
use Rattle.oram_redo.specs.Steps.{Smears}
use Rattle.oram_redo.specs.declared.batch.Patch.{Patch}
use Rattle.oram_redo.specs.declared.file_pair.FileKind.TheVariants.{Records}
use Rattle.oram_redo.proofs.Batches.{put_all_more}
use Rattle.oram_redo.proofs.Heal.{put_heals}
use Rattle.oram_redo.proofs.Moments.{goes_on}

pub smeared_more : (ps : List spec.Patch) (old mid new : Contents) (at n : ℕ) → Smeared ps old mid → Torn Records at n mid new
    → ((i : ℕ) → Spares ps i → (i < at ⊎ at + n ≤ i)) → Smeared ps old new
smeared_more ps old mid new at n smeared torn outside = record {
  records = λ i spared. ⊎_elim (λ low. torn.before i low) (λ high. torn.after i high) (outside i spared) ∙ smeared.records i spared;
  log = λ i. torn.other i ∙ smeared.log i;
}

module _ {D : Type 0} (model : FileModel D) (ps : List spec.Patch) where
  pub smears_more : (old mid new : D) (at n : ℕ) → Follows (Smeared ps) (model.may_leave old) (model.may_leave mid) → Follows (Torn Records at n) (model.may_leave mid) (model.may_leave new)
      → ((i : ℕ) → Spares ps i → (i < at ⊎ at + n ≤ i)) → Follows (Smeared ps) (model.may_leave old) (model.may_leave new)
  smears_more old mid new at n was torn outside c now =
      let before = torn c now in
      let first = was before.0 before.1 in
      (first.0, first.1, smeared_more ps first.0 before.0 c at n first.2 before.2 outside)

  pub smears_on : (old mid new : D) → LeavesOnly model old mid (Smears ps (model.may_leave old))
      → TimeGoesOn model mid new → Follows (Smeared ps) (model.may_leave old) (model.may_leave new)
      → LeavesOnly model old new (Smears ps (model.may_leave old))
  smears_on old mid new so_far time now = goes_on model old mid new (Smears ps (model.may_leave old)) (model.may_leave new) so_far time now

pub records_more : (xs : List Patch) (k : ℕ) (d : Patch) (old mid new : Contents) → k < length xs → Agrees (mid Records) (put_all (patches_of (take k xs)) (old Records))
    → Wrote Records (get_or xs k d).at (get_or xs k d).bytes.now mid new → Agrees (new Records) (put_all (patches_of (take (k + 1) xs)) (old Records))
records_more xs k d old mid new h was wrote i =
    let p = get_or xs k d in
    wrote.there i ∙ put_heals p.bytes.now p.at (mid Records) (put_all (patches_of (take k xs)) (old Records)) i (λ out. was i)
    ∙ ap (λ (c : Content). c i) (sym (put_all_more xs k d (old Records) h))
