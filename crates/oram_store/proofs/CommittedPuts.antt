-- Committing PUTs.
use Rattle.std.proofs.Common.{◌≡◌, ◌⊎◌, inl, inr, ⊎_elim, ℕ, true, false, List, [], refl, sym, ◌∙◌, ap, subst, Result, Ok, Err, arith}
use Rattle.std.specs.Prelude.{All, OnErr, OnOk}
use Rattle.oram_layout.specs.BucketFile.{IsBucketFile}
use Rattle.oram_layout.specs.Changes.{IsCell, marks}
use Rattle.oram_layout.specs.Records.{AreKept, records_in}
use Rattle.oram_layout.specs.Trees.{Trees}
use Rattle.oram_layout.proofs.Changes.{marks_kept}
use Rattle.oram_layout.proofs.Contents.{content_is, same_records}
use Rattle.oram_redo.specs.Content.{Content}
use Rattle.oram_redo.specs.FilePair.{Contents, FileModel}
use Rattle.oram_redo.specs.Log.{put_all}
use Rattle.oram_redo.specs.declared.file_pair.FileKind.TheVariants.{Records}
use Rattle.oram_store.specs.Crashes.{MayHold, CommitsPuts}
use Rattle.oram_store.specs.KeptRecords.{Changes, Holds, IsSound, IsSoundFile, StoreValue, content_of, records_of, sure_records}
use Rattle.oram_store.specs.RecordFile.{Commits, OnlyIf}
use Rattle.oram_store.specs.declared.faults.StoreFault.{StoreFault}
use Rattle.oram_store.proofs.Crashes.{found_leads, not_begun}
use Rattle.oram_store.proofs.Sound.{commits_change, holds_but}

module _ {F : Type 0} (model : FileModel F) where
  pub commits_puts_none : (v : StoreValue F) → IsSound model v → ((c : Contents) → model.left_since v.file.files (model.moment v.file.files) c → model.may_leave v.file.files c)
      → CommitsPuts model v v
  commits_puts_none v s only_now = record {
    sound = λ running. s;
    records = λ running tree node. refl;
    any_moment = not_begun model v.file s.file.loose (MayHold v.trees (sure_records model v) (records_of model v)) s.file.steady only_now
        (λ r but. inl (holds_but v.trees s.file.loose (model.seen v.file.files Records) r s.file.file s.file.off but));
  }

  -- the marks are committed
  pub commits_puts_by : (old new : StoreValue F) (result : Result Unit StoreFault) → IsSound model old → Commits model (marks old.pending) result old.file new.file
      → new.trees ≡ old.trees → OnOk result (new.pending ≡ []) → OnErr result (new.pending ≡ old.pending) → CommitsPuts model old new
  commits_puts_by old new result s commits trees_same none kept = record {
    sound = λ running. record {
      file = subst (λ (t : Trees). IsSoundFile model t new.file) (sym trees_same) (changes.sound running);
      cells = subst (λ (t : Trees). All (IsCell t) new.pending) (sym trees_same) (cells result none kept);
    };
    records = λ running tree node. ap (λ (t : Trees). records_in t (content_of model new) tree node) trees_same ∙ same result commits none kept running tree node;
    any_moment = found_leads model old.file.files new.file.files
        (λ c. Holds old.trees (records_in old.trees (model.seen old.file.files Records)) c ⊎ OnlyIf (OnErr result (new.file.has_stopped ≡ true)) (IsBucketFile old.trees c × AreKept (records_of model old) (records_in old.trees c)))
        (MayHold old.trees (sure_records model old) (records_of model old)) changes.moments
        (λ r either. ⊎_elim (λ holds. inl holds) (λ made. inr (record { file = made.holds.0; kept = made.holds.1 })) either);
  }
    where
      changes : Changes model old.trees (λ one two. AreKept (records_of model old) two) result old.file new.file
      changes = commits_change model old.trees (λ one two. AreKept (records_of model old) two) (marks old.pending) result old.file new.file s.file commits
          (λ c agrees.
          let marked = marks_kept old.trees old.pending (model.seen old.file.files Records) s.file.file s.cells in
          let kept_records = same_records old.trees (put_all (marks old.pending) (model.seen old.file.files Records)) c marked agrees in
          (kept_records.is_file, kept_records.kept))

      cells : (r : Result Unit StoreFault) → OnOk r (new.pending ≡ []) → OnErr r (new.pending ≡ old.pending) → All (IsCell old.trees) new.pending
      cells (Ok x) none kept = subst (λ (l : List ℕ). All (IsCell old.trees) l) (sym none) (λ k d h. absurd (omega arith))
      cells (Err e) none kept = subst (λ (l : List ℕ). All (IsCell old.trees) l) (sym kept) s.cells

      same : (r : Result Unit StoreFault) → Commits model (marks old.pending) r old.file new.file → OnOk r (new.pending ≡ []) → OnErr r (new.pending ≡ old.pending)
          → new.file.has_stopped ≡ false → AreKept (records_of model old) (records_in old.trees (content_of model new))
      same (Ok x) commits none kept running tree node =
          ap (λ (l : List ℕ). records_in old.trees (put_all (marks l) (model.seen new.file.files Records)) tree node) none
          ∙ ap (λ (c : Content). records_in old.trees c tree node) (content_is (put_all (marks old.pending) (model.seen old.file.files Records)) (model.seen new.file.files Records) commits.done)
      same (Err e) commits none kept running tree node =
          ap (λ (l : List ℕ). records_in old.trees (put_all (marks l) (model.seen new.file.files Records)) tree node) kept
          ∙ ap (λ (c : Content). records_in old.trees (put_all (marks old.pending) c) tree node) (content_is (model.seen old.file.files Records) (model.seen new.file.files Records) (commits.undone running))
