-- STOREs and PUTs that are committed together.
use Rattle.std.proofs.Common.{◌≡◌, ◌⊎◌, inl, inr, ⊎_elim, ℕ, suc, ◌+◌, ◌≤◌, true, List, [], ◌∷◌, Option, Some, refl, sym, ◌∙◌, ap, subst, Result, Ok, Err, arith}
use Rattle.std.specs.Prelude.{All, IsErr, MatchResult, map}
use Rattle.oram_host.specs.Refusals.{code_of}
use Rattle.oram_host.specs.declared.refusals.HostRefusal.{HostRefusal}
use Rattle.oram_host.specs.declared.refusals.HostRefusal.TheVariants.{OutOfMemory}
use Rattle.oram_layout.specs.BucketFile.{IsBucketFile}
use Rattle.oram_layout.specs.Changes.{record_patch}
use Rattle.oram_layout.specs.Laws.{PutsLevels}
use Rattle.oram_layout.specs.Records.{AreKept, Records as RecordsOf, records_in}
use Rattle.oram_layout.specs.Trees.{Trees, shape_of, sizes_of, tree_at}
use Rattle.oram_layout.proofs.Changes.{levels_put, record_put}
use Rattle.oram_layout.proofs.Contents.{content_is}
use Rattle.oram_levels.specs.Messages.{StoreLevels}
use Rattle.oram_redo.specs.Content.{Agrees, Content}
use Rattle.oram_redo.specs.FilePair.{Contents, FileModel}
use Rattle.oram_redo.specs.Log.{Patch, put_all}
use Rattle.oram_redo.proofs.Heal.{put_all-append}
use Rattle.oram_store.specs.Answers.{Answers, answer_by}
use Rattle.oram_store.specs.Crashes.{CommitsPuts, MayBeFound, MayHold, Serves}
use Rattle.oram_store.specs.Groups.{AnswersInTurn, AreCarriedOut, FitsNode, FitsPath, FitsTree, IsOfTrees, ServesGroup, group_patches, levels_of, message_of, store_patches}
use Rattle.oram_store.specs.KeptRecords.{Changes, IsSound, StoreValue, records_of, sure_records}
use Rattle.oram_store.specs.LevelsAnswers.{ServesLevels}
use Rattle.oram_store.specs.Messages.{IsAnswered, IsDoneIn, Message, OfHost, OfLevels}
use Rattle.oram_store.specs.RecordFile.{OnlyIf}
use Rattle.oram_store.specs.declared.faults.StoreFault.{StoreFault}
use Rattle.oram_store.specs.declared.groups.Change.{Change}
use Rattle.oram_store.specs.declared.groups.Change.TheVariants as change
use Rattle.oram_store.specs.declared.groups.PathStore.{PathStore}
use Rattle.oram_wire.specs.declared.host_messages.HostAnswer.{HostAnswer}
use Rattle.oram_wire.specs.declared.host_messages.HostAnswer.TheVariants as answer
use Rattle.oram_wire.specs.declared.host_messages.HostRequest.TheVariants as request
use Rattle.oram_store.proofs.Crashes.{found_leads}
use Rattle.oram_store.proofs.Levels.{stores_of_levels}
use Rattle.oram_store.proofs.MessagesServed.{ServesMessage, levels_served, levels_then, message_keep, message_refused}
use Rattle.oram_store.proofs.Served.{kept_then}
use Rattle.oram_store.proofs.ServedBy.{ServesBy, by_after, by_change, by_committed, by_failure, by_no_change}

-- the answers stay right if the records before them are the same
pub in_turn_keeps : (trees : Trees) (one two three : RecordsOf) (messages : List Message) (given : HostAnswer) → AreKept one two → AnswersInTurn trees two messages given three → AnswersInTurn trees one messages given three
in_turn_keeps trees one two three [] given same said = kept_then one two three same said
in_turn_keeps trees one two three (message ∷ rest) given same said = (said.0, message_keep trees one two said.0 message given same said.1, said.2)

-- messages that are refused for lack of room change nothing
pub in_turn_refused : (trees : Trees) (old new : RecordsOf) (messages : List Message) → AreKept old new → AnswersInTurn trees old messages (answer.Refused 8) new
in_turn_refused trees old new [] kept = kept
in_turn_refused trees old new (message ∷ rest) kept =
    (old, message_refused trees old old message (λ tree node. refl), in_turn_refused trees old new rest kept)

-- the records of a STORE are put
store_put : (trees : Trees) (store : PathStore) (c new : Content) → IsBucketFile trees c → FitsPath store → tree_at trees store.number ≡ Some store.tree → Agrees new (put_all (store_patches store) c)
    → PutsLevels trees c store.number store.tree store.leaf store.first (levels_of store) store.records.now new
store_put trees store c new is fits there same =
    levels_put trees c new store.number store.tree store.leaf store.first (levels_of store) store.records.now is there fits.leaf (omega (arith, fits.first)) fits.whole same

-- the records of a group are put, one message after the other
pub group_put : (trees : Trees) (changes : List Change) (c new : Content) → IsBucketFile trees c → All FitsTree changes → All (IsOfTrees trees) changes → Agrees new (put_all (group_patches changes) c)
    → IsBucketFile trees new × AnswersInTurn trees (records_in trees c) (map message_of changes) answer.Done (records_in trees new)
group_put trees [] c new is fits of same =
    let e : new ≡ c = content_is c new same in
    (subst (λ (d : Content). IsBucketFile trees d) (sym e) is, λ tree node. ap (λ (d : Content). records_in trees d tree node) e)
group_put trees (change.Store store ∷ rest) c new is fits of same =
    let here : FitsPath store × (store.first ≡ 0) = fits 0 (change.Store store) (omega arith) in
    let there : tree_at trees store.number ≡ Some store.tree = of 0 (change.Store store) (omega arith) in
    let mid : Content = put_all (store_patches store) c in
    let put = store_put trees store c mid is here.0 there (λ i. refl) in
    let all : levels_of store ≡ store.tree.shape.depth + 1 = omega (arith, here.1) in
    let stored = stores_of_levels (records_in trees c) (records_in trees mid) store.number (sizes_of store.tree.shape) store.leaf store.first (levels_of store) store.records.now here.1 all put.levels put.others in
    let later = group_put trees rest mid new put.is_file (λ k d h. fits (suc k) d (omega arith)) (λ k d h. of (suc k) d (omega arith))
    (λ i. same i ∙ ap (λ (d : Content). d i) (put_all-append (store_patches store) (group_patches rest) c)) in
    (later.0, (records_in trees mid, (sizes_of store.tree.shape, ap shape_of there, stored), later.1))
group_put trees (change.StoreLevels store ∷ rest) c new is fits of same =
    let here : FitsPath store = fits 0 (change.StoreLevels store) (omega arith) in
    let there : tree_at trees store.number ≡ Some store.tree = of 0 (change.StoreLevels store) (omega arith) in
    let mid : Content = put_all (store_patches store) c in
    let put = store_put trees store c mid is here there (λ i. refl) in
    let later = group_put trees rest mid new put.is_file (λ k d h. fits (suc k) d (omega arith)) (λ k d h. of (suc k) d (omega arith))
    (λ i. same i ∙ ap (λ (d : Content). d i) (put_all-append (store_patches store) (group_patches rest) c)) in
    (later.0, (records_in trees mid, (sizes_of store.tree.shape, ap shape_of there, (put.levels, put.others)), later.1))
group_put trees (change.Put put ∷ rest) c new is fits of same =
    let here : FitsNode put = fits 0 (change.Put put) (omega arith) in
    let there : tree_at trees put.number ≡ Some put.tree = of 0 (change.Put put) (omega arith) in
    let first : List Patch = record_patch put.tree put.node put.bytes.now ∷ [] in
    let mid : Content = put_all first c in
    let made = record_put trees c mid put.number put.tree put.node put.bytes.now is (record { is_there = there; within = here.node }) here.whole (λ i. refl) in
    let later = group_put trees rest mid new made.is_file (λ k d h. fits (suc k) d (omega arith)) (λ k d h. of (suc k) d (omega arith))
    (λ i. same i ∙ ap (λ (d : Content). d i) (put_all-append first (group_patches rest) c)) in
    (later.0, (records_in trees mid, (made.there, made.others), later.1))

-- a STORE's answer stays right if the records after it are the same
store_then : (trees : Trees) (one two three : RecordsOf) (tree leaf : ℕ) (records : List ℕ) (given : HostAnswer) → Answers trees one (request.Store tree leaf records) given two → AreKept two three
    → Answers trees one (request.Store tree leaf records) given three
store_then trees one two three tree leaf records (answer.Payload bytes) said kept = said
store_then trees one two three tree leaf records answer.Done said kept = (
  said.0,
  said.1,
  (record { whole = said.2.0.whole; each = λ level below. kept tree _ ∙ said.2.0.each level below }, λ other node differ. kept other node ∙ said.2.1 other node differ),
)
store_then trees one two three tree leaf records (answer.Refused code) said kept = kept_then one two three said kept

-- what follows from each outcome of a call
pub match_leads : {T E : Type 0} (r : Result T E) (P P' : T → Type 0) (Q Q' : E → Type 0) → MatchResult r P Q → ((x : T) → P x → P' x) → ((e : E) → Q e → Q' e) → MatchResult r P' Q'
match_leads (Ok x) P P' Q Q' held ok err = ok x held
match_leads (Err e) P P' Q Q' held ok err = err e held

module _ {F : Type 0} (model : FileModel F) where
  abbrev ByGroup : List Message → HostAnswer → StoreValue F → StoreValue F → Type 0
  ByGroup messages given = ServesBy model (λ trees one two. AnswersInTurn trees one messages given two) (λ trees one c. AreCarriedOut trees one messages c) (MayBeFound given)

  group_served : (messages : List Message) (given : HostAnswer) (old new : StoreValue F) → ByGroup messages given old new → ServesGroup model messages given old new
  group_served messages given old new serves = record { sound = serves.sound; records = serves.records; any_moment = serves.any_moment }

  -- PUTs should have been committed
  pub group_err : (messages : List Message) (result : Result Unit StoreFault) (old new : StoreValue F) → IsErr result → CommitsPuts model old new
      → ServesGroup model messages (answer_by result) old new
  group_err messages (Ok x) old new is commits_puts = absurd (not_err is)
    where
      not_err : IsErr {E = StoreFault} (Ok x) → ⊥
      not_err h = cc
  group_err messages (Err e) old new is commits_puts =
      group_served messages (answer.Refused 8) old new
      (by_committed model (λ trees one two. AnswersInTurn trees one messages (answer.Refused 8) two) (λ trees one c. AreCarriedOut trees one messages c) (MayBeFound (answer.Refused 8)) old new
      (λ one two kept. in_turn_refused old.trees one two messages kept) commits_puts)

  -- the messages are carried out, after the pending PUTs are committed
  pub group_made : (messages : List Message) (old mid new : StoreValue F) (result : Result Unit StoreFault)
      → CommitsPuts model old mid → mid.pending ≡ [] → mid.trees ≡ old.trees → new.trees ≡ mid.trees → new.pending ≡ mid.pending
      → (IsSound model mid → Changes model mid.trees (λ one two. AnswersInTurn mid.trees one messages answer.Done two) result mid.file new.file) → (mid.file.has_stopped ≡ true → new.file ≡ mid.file)
      → ((t : ℕ) (c : Contents) → t ≤ model.moment mid.file.files → model.may_leave mid.file.files c → model.left_since mid.file.files t c) → model.may_leave mid.file.files (model.seen mid.file.files)
      → ServesGroup model messages (answer_by result) old new
  group_made messages old mid new (Ok x) commits_puts none same trees_same still makes stays counts_now whole =
      let answered = λ (trees : Trees) (one two : RecordsOf). AnswersInTurn trees one messages answer.Done two in
      let carried = λ (trees : Trees) (one : RecordsOf) (c : Content). AreCarriedOut trees one messages c in
      group_served messages answer.Done old new
      (by_after model answered carried (MayBeFound answer.Done) old mid new
      (λ trees one two three kept said. in_turn_keeps trees one two three messages answer.Done kept said) (λ trees one two c kept out. (out.0, in_turn_keeps trees one two (records_in trees c) messages answer.Done kept out.1))
      commits_puts none same
      (λ sound. by_change model answered carried (MayBeFound answer.Done) (λ one two. AnswersInTurn mid.trees one messages answer.Done two) mid new none trees_same (still ∙ none) (λ c file made. (file, made)) x tt (λ one two made. made) (makes sound))
      stays counts_now whole)
  group_made messages old mid new (Err e) commits_puts none same trees_same still makes stays counts_now whole =
      let answered = λ (trees : Trees) (one two : RecordsOf). AnswersInTurn trees one messages (answer.Refused 8) two in
      let carried = λ (trees : Trees) (one : RecordsOf) (c : Content). AreCarriedOut trees one messages c in
      group_served messages (answer.Refused 8) old new
      (by_after model answered carried (MayBeFound (answer.Refused 8)) old mid new
      (λ trees one two three kept said. in_turn_keeps trees one two three messages (answer.Refused 8) kept said) (λ trees one two c kept out. (out.0, in_turn_keeps trees one two (records_in trees c) messages answer.Done kept out.1))
      commits_puts none same
      (λ sound. by_no_change model answered carried (MayBeFound (answer.Refused 8)) (λ one two. AnswersInTurn mid.trees one messages answer.Done two) mid new none trees_same (still ∙ none) (λ c file made. (file, made)) e (λ stopped. stopped)
      (λ one two kept. in_turn_refused mid.trees one two messages kept) (makes sound))
      stays counts_now whole)

  -- a refusal with its reason kept
  pub group_refused : (messages : List Message) (old mid new : StoreValue F) (why : HostRefusal) (failure : Option StoreFault) → why ≡ OutOfMemory
      → new ≡ record { file = mid.file; trees = mid.trees; pending = mid.pending; failure = failure }
      → (model.is_honest mid.file.files → ServesGroup model messages (answer.Refused 8) old mid) → model.is_honest new.file.files
      → ServesGroup model messages (answer.Refused (code_of why)) old new
  group_refused messages old mid new why failure is kept serves honest =
      let was = serves (subst (λ (v : StoreValue F). model.is_honest v.file.files) kept honest) in
      let mid' : StoreValue F = record { file = mid.file; trees = mid.trees; pending = mid.pending; failure = failure } in
      subst (λ (w : HostRefusal). ServesGroup model messages (answer.Refused (code_of w)) old new) (sym is)
      (subst (λ (v : StoreValue F). ServesGroup model messages (answer.Refused 8) old v) (sym kept)
      (group_served messages (answer.Refused 8) old mid'
      (by_failure model (λ trees one two. AnswersInTurn trees one messages (answer.Refused 8) two) (λ trees one c. AreCarriedOut trees one messages c) (MayBeFound (answer.Refused 8)) old mid failure
      (record { sound = was.sound; records = was.records; any_moment = was.any_moment }))))

  -- a group of one message, whose answer is right too if the records after it are the same
  served_alone : (message : Message) (given : HostAnswer) (old new : StoreValue F)
      → ((two three : RecordsOf) → IsAnswered old.trees (records_of model old) message given two → AreKept two three → IsAnswered old.trees (records_of model old) message given three)
      → ((two : RecordsOf) (c : Content) → IsBucketFile old.trees c → IsAnswered old.trees (records_of model old) message answer.Done two → AreKept two (records_in old.trees c)
      → IsDoneIn old.trees (records_of model old) message c)
      → ServesGroup model (message ∷ []) given old new → ServesMessage model message given old new
  served_alone message given old new then done serves = record {
    sound = serves.sound;
    records = λ running. let said = serves.records running in then said.0 (records_of model new) said.1 said.2;
    any_moment = found_leads model old.file.files new.file.files
        (λ c. MayHold old.trees (sure_records model old) (records_of model old) c ⊎ OnlyIf (MayBeFound given new.file.has_stopped) (AreCarriedOut old.trees (records_of model old) (message ∷ []) c))
        (λ c. MayHold old.trees (sure_records model old) (records_of model old) c ⊎ OnlyIf (MayBeFound given new.file.has_stopped) (IsDoneIn old.trees (records_of model old) message c)) serves.any_moment
        (λ c either. ⊎_elim (λ may. inl may)
        (λ made. let said = made.holds.1 in inr (record { allowed = made.allowed; holds = done said.0 c made.holds.0 said.1 said.2 })) either);
  }

  -- a group of one STORE of a path
  pub group_of_one : (tree leaf : ℕ) (records : List ℕ) (given : HostAnswer) (old new : StoreValue F) → ServesGroup model (OfHost (request.Store tree leaf records) ∷ []) given old new
      → Serves model (request.Store tree leaf records) given old new
  group_of_one tree leaf records given old new serves =
      let alone = served_alone (OfHost (request.Store tree leaf records)) given old new
      (λ two three said kept. store_then old.trees (records_of model old) two three tree leaf records given said kept)
      (λ two c file said kept. let out = store_then old.trees (records_of model old) two (records_in old.trees c) tree leaf records answer.Done said kept in (file, out.0, out.1, out.2)) serves in
      record { sound = alone.sound; records = alone.records; any_moment = alone.any_moment }

  -- a group of one STORE of levels
  pub levels_of_one : (tree first leaf : ℕ) (records : List ℕ) (given : HostAnswer) (old new : StoreValue F) → ServesGroup model (OfLevels (StoreLevels tree first leaf records) ∷ []) given old new
      → ServesLevels model (StoreLevels tree first leaf records) given old new
  levels_of_one tree first leaf records given old new serves =
      levels_served model (StoreLevels tree first leaf records) given old new
      (served_alone (OfLevels (StoreLevels tree first leaf records)) given old new
      (λ two three said kept. levels_then old.trees (records_of model old) two three tree first leaf records given said kept)
      (λ two c file said kept. let out = levels_then old.trees (records_of model old) two (records_in old.trees c) tree first leaf records answer.Done said kept in (file, out.0, out.1, out.2)) serves)
