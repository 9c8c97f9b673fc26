-- Rows that are read after the pending PUTs are committed.
use Rattle.std.proofs.Common.{◌≡◌, ◌⊎◌, inr, ⊎_elim, ℕ, zero, suc, ◌≤◌, true, false, List, [], ◌∷◌, Option, Some, Result, Ok, Err, refl, sym, ◌∙◌, ap, arith}
use Rattle.std.specs.Prelude.{IfOk, OnOk}
use Rattle.oram_layout.specs.Changes.{marks}
use Rattle.oram_layout.specs.Records.{Records as RecordsOf, record_in, records_in}
use Rattle.oram_layout.specs.Trees.{Trees, tree_at}
use Rattle.oram_layout.specs.declared.trees.Tree.{Tree}
use Rattle.oram_redo.specs.FilePair.{Contents, FileModel}
use Rattle.oram_redo.specs.Log.{put_all}
use Rattle.oram_redo.specs.declared.file_pair.FileKind.TheVariants.{Records}
use Rattle.oram_store.specs.Batches.{records_of_tree}
use Rattle.oram_store.specs.Crashes.{CommitsPuts, IsCarriedOut, MayBeFound, MayHold}
use Rattle.oram_store.specs.KeptRecords.{StoreValue, records_of, sure_records}
use Rattle.oram_store.specs.RecordFile.{OnlyIf, ReadsOnly}
use Rattle.oram_store.specs.Rows.{rows_of}
use Rattle.oram_store.proofs.Crashes.{found_leads}
use Rattle.oram_store.proofs.Served.{serves_fetched}
use Rattle.oram_wire.specs.declared.host_messages.HostAnswer.TheVariants as answer
use Rattle.oram_wire.specs.declared.host_messages.HostRequest.{HostRequest}
use Rattle.oram_wire.specs.declared.host_messages.HostRequest.TheVariants as request

-- the same records give the same rows
pub rows_same : (one two : RecordsOf) (s t : ℕ) → ((node : ℕ) → one s node ≡ two t node) → (n first : ℕ) → rows_of one s first n ≡ rows_of two t first n
rows_same one two s t same zero first = refl
rows_same one two s t same (suc n) first =
    ap (λ (row : Option (List ℕ)). row ∷ rows_of one s (suc first) n) (same first) ∙ ap (λ (rows : List (Option (List ℕ))). two t first ∷ rows) (rows_same one two s t same n (suc first))

pub if_ok_both : {V E : Type 0} (result : Result V E) (A B : Type 0) (P Q : V → Type 0) → OnOk result A → OnOk result B → IfOk result P → (A → B → (v : V) → P v → Q v) → IfOk result Q
if_ok_both (Ok v) A B P Q a b holds leads = leads a b v holds
if_ok_both (Err e) A B P Q a b holds leads = tt

module _ {F : Type 0} (model : FileModel F) where
  -- What is read changes nothing: a crash finds what a crash finds where a FETCH is refused after the PUTs are committed.
  pub commits_read : (old mid new : StoreValue F) → CommitsPuts model old mid → mid.pending ≡ [] → mid.trees ≡ old.trees → new.trees ≡ mid.trees → new.pending ≡ mid.pending
      → ReadsOnly model mid.file new.file → (mid.file.has_stopped ≡ true → new.file ≡ mid.file)
      → ((t : ℕ) (c : Contents) → t ≤ model.moment mid.file.files → model.may_leave mid.file.files c → model.left_since mid.file.files t c) → model.may_leave mid.file.files (model.seen mid.file.files)
      → CommitsPuts model old new
  commits_read old mid new commits none same trees_same still reads stays counts_now whole =
      let message : HostRequest = request.Fetch 0 0 in
      let served = serves_fetched model message (answer.Refused 8) old mid new commits none same trees_same still reads (λ two kept. (λ six. absurd (omega arith), kept)) stays counts_now whole in
      record {
        sound = served.sound;
        records = λ running. (served.records running).1;
        any_moment = found_leads model old.file.files new.file.files
            (λ c. MayHold old.trees (sure_records model old) (records_of model old) c ⊎ OnlyIf (MayBeFound (answer.Refused 8) new.file.has_stopped) (IsCarriedOut old.trees (records_of model old) message c))
            (MayHold old.trees (sure_records model old) (records_of model old)) served.any_moment (λ r either. ⊎_elim (λ may. may) (λ out. inr out.holds) either);
      }

  -- the records of one tree's cells are those of the store's records, by the tree's number
  pub records_read : (old mid : StoreValue F) (number : ℕ) (tree : Tree) → CommitsPuts model old mid → mid.pending ≡ [] → mid.trees ≡ old.trees → mid.file.has_stopped ≡ false → tree_at old.trees number ≡ Some tree
      → (node : ℕ) → records_of_tree tree (model.seen mid.file.files Records) 0 node ≡ records_of model old number node
  records_read old mid number tree commits none same running there node =
      ap (λ (t : Option Tree). record_in t node (model.seen mid.file.files Records)) (sym (ap (λ (t : Trees). tree_at t number) same ∙ there))
      ∙ ap (λ (l : List ℕ). records_in mid.trees (put_all (marks l) (model.seen mid.file.files Records)) number node) (sym none)
      ∙ commits.records running number node

  pub rows_read : (old mid : StoreValue F) (number : ℕ) (tree : Tree) (first count : ℕ) → CommitsPuts model old mid → mid.pending ≡ [] → mid.trees ≡ old.trees → mid.file.has_stopped ≡ false
      → tree_at old.trees number ≡ Some tree
      → rows_of (records_of_tree tree (model.seen mid.file.files Records)) 0 first count ≡ rows_of (records_of model old) number first count
  rows_read old mid number tree first count commits none same running there =
      rows_same (records_of_tree tree (model.seen mid.file.files Records)) (records_of model old) 0 number (records_read old mid number tree commits none same running there) count first
