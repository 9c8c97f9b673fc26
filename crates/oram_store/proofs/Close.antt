-- Closing a store.
use Rattle.std.proofs.Common.{◌≡◌, inl, inr, ℕ, ◌≤◌, true, false, List, [], refl, sym, ◌∙◌, ap, subst, arith, Result, Ok, Err}
use Rattle.std.specs.Prelude.{IsErrAnd, OnOk}
use Rattle.std.proofs.lemmas.Bool.{cases_Bool, false≢true}
use Rattle.oram_layout.specs.BucketFile.{IsBucketFile}
use Rattle.oram_layout.specs.Changes.{marks}
use Rattle.oram_layout.specs.Records.{AreKept, records_in}
use Rattle.oram_layout.specs.Trees.{Trees}
use Rattle.oram_layout.proofs.Contents.{content_is}
use Rattle.oram_redo.specs.Content.{Agrees, Content}
use Rattle.oram_redo.specs.FilePair.{Contents, FileModel, LeavesOnly}
use Rattle.oram_redo.specs.Log.{AgreesBut, IsLog, Patch, put_all}
use Rattle.oram_redo.specs.Redo.{bounds_of, end_of}
use Rattle.oram_redo.specs.declared.bounds.Bounds.{Bounds}
use Rattle.oram_redo.specs.declared.file_pair.FileKind.TheVariants.{Log, Records}
use Rattle.oram_redo.proofs.Logs.{entries_none, log_kept}
use Rattle.oram_store.specs.Close.{Closes, IsClosed}
use Rattle.oram_store.specs.Crashes.{MayHold, CommitsPuts}
use Rattle.oram_store.specs.KeptRecords.{Holds, IsSound, StoreValue, records_of, sure_records}
use Rattle.oram_store.specs.RecordFile.{Calls, FileValue, Finds, IsSteady, Passes, Runs, bounds}
use Rattle.oram_store.specs.declared.faults.StoreFault.{StoreFault}
use Rattle.oram_store.proofs.Crashes.{calls_then, found_then, same_front}
use Rattle.oram_store.proofs.Lives.{sure_is}
use Rattle.oram_store.proofs.Sound.{holds_but}

module _ {F : Type 0} (model : FileModel F) where
  -- after a restart the log is empty
  log_empty : (last : FileValue F) → IsSteady model last [] → end_of last.redo ≡ bounds.log_start → (c : Contents) → model.may_leave last.files c
      → IsLog bounds [] (c Log) × Agrees (c Records) (model.seen last.files Records)
  log_empty last steady end c now =
      let s = steady.consistent in
      let start : last.redo.bounds.log_start ≡ bounds.log_start = ap (λ (b : Bounds). b.log_start) steady.bounded in
      let none : s.patches ≡ [] = entries_none s.patches (omega (arith, s.end, end, start)) in
      let log = log_kept (bounds_of last.redo) s.patches (model.seen last.files Log) (c Log) s.log (λ i le. s.sure c now i (omega (arith, s.end, le))) in (
        subst (λ (ps : List Patch). IsLog bounds ps (c Log)) none (subst (λ (b : Bounds). IsLog b s.patches (c Log)) steady.bounded log),
        λ i. ap (λ (ps : List Patch). put_all ps (c Records) i) (sym none) ∙ s.stands c now i tt,
      )

  -- the records from before are those of the file
  holds_all : (old mid : StoreValue F) → mid.trees ≡ old.trees → mid.pending ≡ [] → AreKept (records_of model old) (records_of model mid)
      → (c : Content) → Holds mid.trees (sure_records model mid) c → Holds old.trees (records_of model old) c
  holds_all old mid trees none kept c holds = record {
    file = subst (λ (ts : Trees). IsBucketFile ts c) trees holds.file;
    kept = λ tree node. ap (λ (ts : Trees). records_in ts c tree node) (sym trees) ∙ holds.kept tree node ∙ sure_is model mid none tree node ∙ kept tree node;
  }

  pub closed_sure : (old mid : StoreValue F) (last : FileValue F) → mid.trees ≡ old.trees → mid.pending ≡ [] → AreKept (records_of model old) (records_of model mid)
      → IsSound model mid → IsSteady model last [] → end_of last.redo ≡ bounds.log_start → Agrees (model.seen last.files Records) (model.seen mid.file.files Records)
      → (c : Contents) → model.may_leave last.files c → IsClosed old.trees (records_of model old) c
  closed_sure old mid last trees none kept sound steady end same c now =
      let found = log_empty last steady end c now in
      let is : c Records ≡ model.seen mid.file.files Records = content_is (model.seen mid.file.files Records) (c Records) (λ i. found.1 i ∙ same i) in
      record {
        log = found.0;
        holds = holds_all old mid trees none kept (c Records)
            (subst (λ (d : Content). Holds mid.trees (sure_records model mid) d) (sym is) (record { file = sound.file.file; kept = λ tree node. refl }));
      }

  -- a crash while the log is emptied
  pub closes_whole : (old mid : StoreValue F) (last : FileValue F) → mid.trees ≡ old.trees → mid.pending ≡ [] → CommitsPuts model old mid
      → ((loose : List Patch) → IsSteady model mid.file loose → Passes model [] (λ r. AgreesBut loose r (model.seen mid.file.files Records)) mid.file last)
      → (mid.file.has_stopped ≡ true → last ≡ mid.file)
      → ((t : ℕ) (c : Contents) → t ≤ model.moment mid.file.files → model.may_leave mid.file.files c → model.left_since mid.file.files t c) → model.may_leave mid.file.files (model.seen mid.file.files)
      → LeavesOnly model old.file.files last.files (Finds (model.seen old.file.files) (MayHold old.trees (sure_records model old) (records_of model old)))
  closes_whole old mid last trees none commits_puts passes stays counts_now whole = elim (cases_Bool mid.file.has_stopped) [
    | inl stopped ↦ subst (λ (v : FileValue F). LeavesOnly model old.file.files v.files (Finds (model.seen old.file.files) (MayHold old.trees (sure_records model old) (records_of model old))))
        (sym (stays stopped)) commits_puts.any_moment
    | inr running ↦ (
        let sound = commits_puts.sound running in
        let Q : Content → Type 0 = MayHold old.trees (sure_records model old) (records_of model old) in
        found_then model old.file.files mid.file.files last.files Q (λ r. AgreesBut sound.file.loose r (model.seen mid.file.files Records)) Q
        (same_front model old.file.files mid.file.files Q commits_puts.any_moment counts_now whole)
        commits_puts.any_moment (passes sound.file.loose sound.file.steady).moments (λ r found. found)
        (λ r but. inr (holds_all old mid trees none (commits_puts.records running) r (holds_but mid.trees sound.file.loose (model.seen mid.file.files Records) r sound.file.file sound.file.off but))))
  ]

  -- the store goes on with an empty log
  pub commits_puts_then : (old mid : StoreValue F) (last : FileValue F) → mid.trees ≡ old.trees → mid.pending ≡ [] → CommitsPuts model old mid
      → ((loose : List Patch) → IsSteady model mid.file loose → Passes model [] (λ r. AgreesBut loose r (model.seen mid.file.files Records)) mid.file last)
      → Agrees (model.seen last.files Records) (model.seen mid.file.files Records) → (mid.file.has_stopped ≡ true → last ≡ mid.file)
      → ((t : ℕ) (c : Contents) → t ≤ model.moment mid.file.files → model.may_leave mid.file.files c → model.left_since mid.file.files t c) → model.may_leave mid.file.files (model.seen mid.file.files)
      → CommitsPuts model old (record mid { file = last })
  commits_puts_then old mid last trees none commits_puts passes same stays counts_now whole = record {
    sound = λ running.
        let sound = commits_puts.sound (was_running running) in
        record {
          file = record {
            loose = [];
            steady = (passes sound.file.loose sound.file.steady).steady running;
            off = λ k d h. absurd (omega arith);
            file = subst (λ (d : Content). IsBucketFile mid.trees d) (sym is) sound.file.file;
          };
          cells = sound.cells;
        };
    records = λ running tree node. ap (λ (d : Content). records_in mid.trees (put_all (marks mid.pending) d) tree node) is ∙ commits_puts.records (was_running running) tree node;
    any_moment = closes_whole old mid last trees none commits_puts passes stays counts_now whole;
  }
    where
      is : model.seen last.files Records ≡ model.seen mid.file.files Records
      is = content_is (model.seen mid.file.files Records) (model.seen last.files Records) same

      was_running : last.has_stopped ≡ false → mid.file.has_stopped ≡ false
      was_running running = elim (cases_Bool mid.file.has_stopped) [
        | inl stopped ↦ absurd (false≢true (sym running ∙ ap (λ (v : FileValue F). v.has_stopped) (stays stopped) ∙ stopped))
        | inr goes_on ↦ goes_on
      ]

  -- the PUTs can't be committed
  pub closes_err : (result : Result Unit StoreFault) (why : StoreFault) (old mid : StoreValue F) → IsErrAnd result (λ e. e ≡ why)
      → (IsSound model old → CommitsPuts model old mid) → Calls {T = Unit} model (Err why) old.file mid.file
      → Closes model result old mid.file
  closes_err (Ok x) why old mid is commits_puts calls = absurd is
  closes_err (Err e) why old mid is commits_puts calls = record {
    sure = tt;
    any_moment = λ sound. (commits_puts sound).any_moment;
    calls = subst (λ (f : StoreFault). Calls {T = Unit} model (Err f) old.file mid.file) (sym is) calls;
  }

  pub closes_by : (result : Result Unit StoreFault) (old mid : StoreValue F) (last : FileValue F) → mid.trees ≡ old.trees → mid.pending ≡ []
      → (IsSound model old → CommitsPuts model old mid)
      → ((loose : List Patch) → IsSteady model mid.file loose → Passes model [] (λ r. AgreesBut loose r (model.seen mid.file.files Records)) mid.file last)
      → OnOk result (end_of last.redo ≡ bounds.log_start) → OnOk result (last.has_stopped ≡ false) → Agrees (model.seen last.files Records) (model.seen mid.file.files Records)
      → Runs model old.file mid.file → mid.file.has_stopped ≡ old.file.has_stopped → Calls model result mid.file last
      → ((t : ℕ) (c : Contents) → t ≤ model.moment mid.file.files → model.may_leave mid.file.files c → model.left_since mid.file.files t c) → model.may_leave mid.file.files (model.seen mid.file.files)
      → Closes model result old last
  closes_by result old mid last trees none commits_puts passes end running same runs goes_on calls counts_now whole = record {
    sure = sure result end running calls;
    any_moment = λ sound. closes_whole old mid last trees none (commits_puts sound) passes calls.runs.stays counts_now whole;
    calls = calls_then model result old.file mid.file last runs goes_on calls;
  }
    where
      sure : (r : Result Unit StoreFault) → OnOk r (end_of last.redo ≡ bounds.log_start) → OnOk r (last.has_stopped ≡ false) → Calls model r mid.file last
          → OnOk r (IsSound model old → (c : Contents) → model.may_leave last.files c → IsClosed old.trees (records_of model old) c)
      sure (Ok x) at_start going called = λ sound c now.
          let mid_going : mid.file.has_stopped ≡ false = sym called.goes_on ∙ going in
          let committed = commits_puts sound in
          let mid_sound = committed.sound mid_going in
          closed_sure old mid last trees none (committed.records mid_going) mid_sound ((passes mid_sound.file.loose mid_sound.file.steady).steady going) at_start same c now
      sure (Err e) at_start going called = tt
