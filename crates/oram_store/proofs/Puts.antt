-- The steps before a record is put: making room among the pending cells, and looking at the node's
-- cell.
use Rattle.std.proofs.Common.{◌≡◌, ◌⊎◌, inl, inr, ℕ, ◌≤◌, true, false, true≢false, List, [], sym, ◌∙◌, ap, subst, arith}
use Rattle.std.specs.Prelude.{All}
use Rattle.std.proofs.lemmas.Bool.{cases_Bool}
use Rattle.oram_layout.specs.Changes.{IsCell, marks}
use Rattle.oram_layout.specs.Records.{Records as RecordsOf, records_in}
use Rattle.oram_layout.specs.Trees.{Trees}
use Rattle.oram_layout.proofs.Contents.{content_is}
use Rattle.oram_redo.specs.Content.{Content}
use Rattle.oram_redo.specs.FilePair.{Contents, FileModel, LeavesOnly}
use Rattle.oram_redo.specs.Log.{put_all}
use Rattle.oram_redo.specs.declared.file_pair.FileKind.TheVariants.{Records}
use Rattle.oram_store.specs.Answers.{Answers}
use Rattle.oram_store.specs.Crashes.{IsCarriedOut, MayBeFound, MayHold, Serves, CommitsPuts}
use Rattle.oram_store.specs.KeptRecords.{Holds, IsSound, IsSoundFile, LeavesRecords, StoreValue, content_of, records_of, sure_records}
use Rattle.oram_store.specs.RecordFile.{FileValue, Finds, OnlyIf, ReadsOnly}
use Rattle.oram_wire.specs.declared.host_messages.HostAnswer.{HostAnswer}
use Rattle.oram_wire.specs.declared.host_messages.HostAnswer.TheVariants as answer
use Rattle.oram_wire.specs.declared.host_messages.HostRequest.{HostRequest}
use Rattle.oram_store.proofs.Crashes.{found_leads, found_then, same_front}
use Rattle.oram_store.proofs.Served.{refused_kept, serves_after}
use Rattle.oram_store.proofs.Sound.{reads_leave}

module _ {F : Type 0} (model : FileModel F) where
  -- a request that is served once there is room: after the pending PUTs are committed, or at once
  pub serves_room : (message : HostRequest) (given : HostAnswer) (old mid new : StoreValue F) → IsSound model old → CommitsPuts model old mid → (mid ≡ old) ⊎ (mid.pending ≡ []) → mid.trees ≡ old.trees
      → (IsSound model mid → Serves model message given mid new) → (mid.file.has_stopped ≡ true → new.file ≡ mid.file)
      → ((t : ℕ) (c : Contents) → t ≤ model.moment mid.file.files → model.may_leave mid.file.files c → model.left_since mid.file.files t c) → model.may_leave mid.file.files (model.seen mid.file.files)
      → Serves model message given old new
  serves_room message given old mid new s commits_puts (inl is) same then stays counts_now whole =
      subst (λ (v : StoreValue F). Serves model message given v new) is (then (subst (λ (v : StoreValue F). IsSound model v) (sym is) s))
  serves_room message given old mid new s commits_puts (inr none) same then stays counts_now whole =
      serves_after model message given old mid new commits_puts none same then stays counts_now whole

  module _ (message : HostRequest) (old mid : StoreValue F) (s : IsSound model old) (same : mid.trees ≡ old.trees) (kept : mid.pending ≡ old.pending) (reads : ReadsOnly model old.file mid.file) where
    content : model.seen mid.file.files Records ≡ model.seen old.file.files Records
    content = content_is (model.seen old.file.files Records) (model.seen mid.file.files Records) (reads.nothing.seen_same Records)

    all_same : records_of model mid ≡ records_of model old
    all_same =
        ap (λ (t : Trees). λ tree node. records_in t (content_of model mid) tree node) same
        ∙ ap (λ (l : List ℕ). λ tree node. records_in old.trees (put_all (marks l) (model.seen mid.file.files Records)) tree node) kept
        ∙ ap (λ (c : Content). λ tree node. records_in old.trees (put_all (marks old.pending) c) tree node) content

    sure_same : sure_records model mid ≡ sure_records model old
    sure_same = ap (λ (t : Trees). λ tree node. records_in t (model.seen mid.file.files Records) tree node) same ∙ ap (λ (c : Content). λ tree node. records_in old.trees c tree node) content

    leaves : LeavesRecords model old.trees old.file mid.file
    leaves = reads_leave model old.trees old.file mid.file s.file reads

    sound : mid.file.has_stopped ≡ false → IsSound model mid
    sound running = record {
      file = subst (λ (t : Trees). IsSoundFile model t mid.file) (sym same) (leaves.sound running);
      cells = subst (λ (t : Trees). All (IsCell t) mid.pending) (sym same) (subst (λ (l : List ℕ). All (IsCell old.trees) l) (sym kept) s.cells);
    }

    abbrev Ends : Type 0 → Content → Type 0
    Ends may_be c = MayHold old.trees (sure_records model old) (records_of model old) c ⊎ OnlyIf may_be (IsCarriedOut old.trees (records_of model old) message c)

    began : (may_be : Type 0) → LeavesOnly model old.file.files mid.file.files (Finds (model.seen old.file.files) (Ends may_be))
    began may_be = found_leads model old.file.files mid.file.files (Holds old.trees (sure_records model old)) (Ends may_be) leaves.moments (λ c holds. inl (inl holds))

    -- a read that fails
    pub serves_unread : Serves model message (answer.Refused 8) old mid
    serves_unread = record {
      sound = sound;
      records = λ running. refused_kept old.trees (records_of model old) (records_of model mid) message 8 (λ six. absurd (omega arith)) (λ tree node. ap (λ (r : RecordsOf). r tree node) all_same);
      any_moment = began (mid.file.has_stopped ≡ true);
    }

    -- a read, and then the request
    pub serves_read : (given : HostAnswer) (new : StoreValue F) → (IsSound model mid → Serves model message given mid new) → (mid.file.has_stopped ≡ true → new.file ≡ mid.file)
        → ((t : ℕ) (c : Contents) → t ≤ model.moment mid.file.files → model.may_leave mid.file.files c → model.left_since mid.file.files t c) → model.may_leave mid.file.files (model.seen mid.file.files)
        → Serves model message given old new
    serves_read given new then stays counts_now whole = elim (cases_Bool mid.file.has_stopped) [
      | inl stopped ↦ (
          let still : new.file.has_stopped ≡ true = ap (λ (v : FileValue F). v.has_stopped) (stays stopped) ∙ stopped in
          record {
            sound = λ running. absurd (true≢false (sym still ∙ running));
            records = λ running. absurd (true≢false (sym still ∙ running));
            any_moment = subst (λ (v : FileValue F). LeavesOnly model old.file.files v.files (Finds (model.seen old.file.files) (Ends found))) (sym (stays stopped)) (began found);
          })
      | inr running ↦ (
          let now = then (sound running) in
          record {
            sound = now.sound;
            records = λ still. subst (λ (r : RecordsOf). Answers old.trees r message given (records_of model new)) all_same (subst (λ (t : Trees). Answers t (records_of model mid) message given (records_of model new)) same (now.records still));
            any_moment = found_then model old.file.files mid.file.files new.file.files (Ends found)
                (λ c. MayHold mid.trees (sure_records model mid) (records_of model mid) c ⊎ OnlyIf found (IsCarriedOut mid.trees (records_of model mid) message c)) (Ends found)
                (same_front model old.file.files mid.file.files (Ends found) (began found) counts_now whole) (began found) now.any_moment (λ c ends. ends)
                (λ c either. subst (λ (t : Trees). MayHold t (sure_records model old) (records_of model old) c ⊎ OnlyIf found (IsCarriedOut t (records_of model old) message c)) same
                (subst (λ (r : RecordsOf). MayHold mid.trees r (records_of model old) c ⊎ OnlyIf found (IsCarriedOut mid.trees (records_of model old) message c)) sure_same
                (subst (λ (r : RecordsOf). MayHold mid.trees (sure_records model mid) r c ⊎ OnlyIf found (IsCarriedOut mid.trees r message c)) all_same either)));
          })
    ]
      where
        found : Type 0
        found = MayBeFound given new.file.has_stopped
