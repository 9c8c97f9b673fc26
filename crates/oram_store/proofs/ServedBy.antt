-- What is served, whatever its answer says of the records and whatever a crash may find of it.
use Rattle.std.proofs.Common.{◌≡◌, ◌⊎◌, inl, inr, ⊎_elim, ℕ, ◌≤◌, Bool, true, false, true≢false, List, [], Option, sym, ◌∙◌, ap, subst, Result, Ok, Err, arith}
use Rattle.std.specs.Prelude.{All, OnErr}
use Rattle.std.proofs.lemmas.Bool.{cases_Bool}
use Rattle.oram_layout.specs.BucketFile.{IsBucketFile}
use Rattle.oram_layout.specs.Changes.{IsCell, marks}
use Rattle.oram_layout.specs.Records.{AreKept, Records as RecordsOf, records_in}
use Rattle.oram_layout.specs.Trees.{Trees}
use Rattle.oram_redo.specs.Content.{Content}
use Rattle.oram_redo.specs.FilePair.{Contents, FileModel, LeavesOnly}
use Rattle.oram_redo.specs.Log.{put_all}
use Rattle.oram_redo.specs.declared.file_pair.FileKind.TheVariants.{Records}
use Rattle.oram_store.specs.Crashes.{CommitsPuts, MayHold}
use Rattle.oram_store.specs.KeptRecords.{Changes, Holds, IsSound, IsSoundFile, StoreValue, content_of, records_of, sure_records}
use Rattle.oram_store.specs.RecordFile.{FileValue, Finds, OnlyIf}
use Rattle.oram_store.specs.declared.faults.StoreFault.{StoreFault}
use Rattle.oram_store.proofs.Crashes.{found_leads, found_then, same_front}
use Rattle.oram_store.proofs.Sound.{holds_then}

-- `answered` is what the answer says of the records before and after, and `carried` what a crash may find beside what was there
-- before: that only if `may_be` holds of whether the file has stopped.
pub record ServesBy {F : Type 0} (model : FileModel F) (answered : Trees → RecordsOf → RecordsOf → Type 0) (carried : Trees → RecordsOf → Content → Type 0) (may_be : Bool → Type 0)
    (old new : StoreValue F) : Type 0 where
  pub sound : new.file.has_stopped ≡ false → IsSound model new
  pub records : new.file.has_stopped ≡ false → answered old.trees (records_of model old) (records_of model new)
  pub any_moment : LeavesOnly model old.file.files new.file.files
      (Finds (model.seen old.file.files) (λ c. MayHold old.trees (sure_records model old) (records_of model old) c
      ⊎ OnlyIf (may_be new.file.has_stopped) (carried old.trees (records_of model old) c)))

module _ {F : Type 0} (model : FileModel F) (answered : Trees → RecordsOf → RecordsOf → Type 0) (carried : Trees → RecordsOf → Content → Type 0) (may_be : Bool → Type 0) where
  -- PUTs were committed, or should have been, and nothing else was done
  pub by_committed : (old new : StoreValue F) → ((one two : RecordsOf) → AreKept one two → answered old.trees one two) → CommitsPuts model old new
      → ServesBy model answered carried may_be old new
  by_committed old new refused commits_puts = record {
    sound = commits_puts.sound;
    records = λ running. refused (records_of model old) (records_of model new) (commits_puts.records running);
    any_moment = found_leads model old.file.files new.file.files (MayHold old.trees (sure_records model old) (records_of model old))
        (λ c. MayHold old.trees (sure_records model old) (records_of model old) c ⊎ OnlyIf (may_be new.file.has_stopped) (carried old.trees (records_of model old) c)) commits_puts.any_moment (λ r holds. inl holds);
  }

  -- the reason why there is no room doesn't matter for what is served
  pub by_failure : (old new : StoreValue F) (failure : Option StoreFault) → ServesBy model answered carried may_be old new
      → ServesBy model answered carried may_be old (record { file = new.file; trees = new.trees; pending = new.pending; failure = failure })
  by_failure old new failure serves = record {
    sound = λ running. let sound = serves.sound running in record { file = sound.file; cells = sound.cells };
    records = serves.records;
    any_moment = serves.any_moment;
  }

  -- what is served after the pending PUTs are committed
  pub by_after : (old mid new : StoreValue F)
      → ((trees : Trees) (one two three : RecordsOf) → AreKept one two → answered trees two three → answered trees one three)
      → ((trees : Trees) (one two : RecordsOf) (c : Content) → AreKept one two → carried trees two c → carried trees one c)
      → CommitsPuts model old mid → mid.pending ≡ [] → mid.trees ≡ old.trees
      → (IsSound model mid → ServesBy model answered carried may_be mid new) → (mid.file.has_stopped ≡ true → new.file ≡ mid.file)
      → ((t : ℕ) (c : Contents) → t ≤ model.moment mid.file.files → model.may_leave mid.file.files c → model.left_since mid.file.files t c) → model.may_leave mid.file.files (model.seen mid.file.files)
      → ServesBy model answered carried may_be old new
  by_after old mid new answers_keep carried_keep first none same then stays counts_now whole = elim (cases_Bool mid.file.has_stopped) [
    | inl stopped ↦ (
        let still : new.file.has_stopped ≡ true = ap (λ (v : FileValue F). v.has_stopped) (stays stopped) ∙ stopped in
        record {
          sound = λ running. absurd (true≢false (sym still ∙ running));
          records = λ running. absurd (true≢false (sym still ∙ running));
          any_moment = subst (λ (v : FileValue F). LeavesOnly model old.file.files v.files (Finds (model.seen old.file.files) Ends)) (sym (stays stopped)) began;
        })
    | inr running ↦ (
        let now = then (first.sound running) in
        let kept = first.records running in
        let sure : AreKept (records_of model old) (sure_records model mid) = λ tree node. ap (λ (l : List ℕ). records_in mid.trees (put_all (marks l) (model.seen mid.file.files Records)) tree node) (sym none) ∙ kept tree node in
        record {
          sound = now.sound;
          records = λ still. subst (λ (t : Trees). answered t (records_of model old) (records_of model new)) same (answers_keep mid.trees (records_of model old) (records_of model mid) (records_of model new) kept (now.records still));
          any_moment = found_then model old.file.files mid.file.files new.file.files Ends
              (λ c. MayHold mid.trees (sure_records model mid) (records_of model mid) c ⊎ OnlyIf (may_be new.file.has_stopped) (carried mid.trees (records_of model mid) c)) Ends
              (same_front model old.file.files mid.file.files Ends began counts_now whole) began now.any_moment (λ r ends. ends)
              (λ r either. subst (λ (t : Trees). MayHold t (sure_records model old) (records_of model old) r ⊎ OnlyIf (may_be new.file.has_stopped) (carried t (records_of model old) r)) same (⊎_elim
              (λ may. inl (inr (⊎_elim (λ holds. holds_then mid.trees (records_of model old) (sure_records model mid) r sure holds) (λ holds. holds_then mid.trees (records_of model old) (records_of model mid) r kept holds) may)))
              (λ out. inr (record { allowed = out.allowed; holds = carried_keep mid.trees (records_of model old) (records_of model mid) r kept out.holds })) either));
        })
  ]
    where
      Ends : Content → Type 0
      Ends c = MayHold old.trees (sure_records model old) (records_of model old) c ⊎ OnlyIf (may_be new.file.has_stopped) (carried old.trees (records_of model old) c)

      began : LeavesOnly model old.file.files mid.file.files (Finds (model.seen old.file.files) Ends)
      began = found_leads model old.file.files mid.file.files (MayHold old.trees (sure_records model old) (records_of model old)) Ends first.any_moment (λ r holds. inl holds)

  -- records that are changed, where nothing is pending
  module _ (change : RecordsOf → RecordsOf → Type 0) (old new : StoreValue F) (none : old.pending ≡ []) (same : new.trees ≡ old.trees) (still : new.pending ≡ [])
      (carries : (c : Content) → IsBucketFile old.trees c → change (records_of model old) (records_in old.trees c) → carried old.trees (records_of model old) c) where
    before : sure_records model old ≡ records_of model old
    before = ap (λ (l : List ℕ). λ tree node. records_in old.trees (put_all (marks l) (model.seen old.file.files Records)) tree node) (sym none)

    after : records_in old.trees (model.seen new.file.files Records) ≡ records_of model new
    after = ap (λ (l : List ℕ). λ tree node. records_in old.trees (put_all (marks l) (model.seen new.file.files Records)) tree node) (sym still) ∙ ap (λ (t : Trees). λ tree node. records_in t (content_of model new) tree node) (sym same)

    sound : IsSoundFile model old.trees new.file → IsSound model new
    sound file = record {
      file = subst (λ (t : Trees). IsSoundFile model t new.file) (sym same) file;
      cells = subst (λ (l : List ℕ). All (IsCell new.trees) l) (sym still) (λ k d h. absurd (omega arith));
    }

    whole : (r : Result Unit StoreFault) → (OnErr r (new.file.has_stopped ≡ true) → may_be new.file.has_stopped)
        → Changes model old.trees change r old.file new.file → LeavesOnly model old.file.files new.file.files
        (Finds (model.seen old.file.files) (λ c. MayHold old.trees (sure_records model old) (records_of model old) c ⊎ OnlyIf (may_be new.file.has_stopped) (carried old.trees (records_of model old) c)))
    whole r allows changes = found_leads model old.file.files new.file.files
        (λ c. Holds old.trees (sure_records model old) c ⊎ OnlyIf (OnErr r (new.file.has_stopped ≡ true)) (IsBucketFile old.trees c × change (sure_records model old) (records_in old.trees c)))
        (λ c. MayHold old.trees (sure_records model old) (records_of model old) c ⊎ OnlyIf (may_be new.file.has_stopped) (carried old.trees (records_of model old) c)) changes.moments
        (λ c either. ⊎_elim (λ holds. inl (inl holds))
        (λ made. inr (record { allowed = allows made.allowed; holds = carries c made.holds.0 (subst (λ (r : RecordsOf). change r (records_in old.trees c)) before made.holds.1) })) either)

    pub by_change : (x : Unit {0}) → may_be new.file.has_stopped → ((one two : RecordsOf) → change one two → answered old.trees one two) → Changes model old.trees change (Ok x) old.file new.file
        → ServesBy model answered carried may_be old new
    by_change x allows granted changes = record {
      sound = λ running. sound (changes.sound running);
      records = λ running. granted (records_of model old) (records_of model new)
          (subst (λ (r : RecordsOf). change r (records_of model new)) before (subst (λ (r : RecordsOf). change (sure_records model old) r) after (changes.done running)));
      any_moment = whole (Ok x) (λ done. allows) changes;
    }

    pub by_no_change : (e : StoreFault) → (new.file.has_stopped ≡ true → may_be new.file.has_stopped) → ((one two : RecordsOf) → AreKept one two → answered old.trees one two)
        → Changes model old.trees change (Err e) old.file new.file → ServesBy model answered carried may_be old new
    by_no_change e allows refused changes = record {
      sound = λ running. sound (changes.sound running);
      records = λ running. refused (records_of model old) (records_of model new)
          (subst (λ (r : RecordsOf). AreKept r (records_of model new)) before (subst (λ (r : RecordsOf). AreKept (sure_records model old) r) after (changes.undone running)));
      any_moment = whole (Err e) allows changes;
    }
