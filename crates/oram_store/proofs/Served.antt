-- Requests that are served: after the pending PUTs are committed, and by each kind of call.
use Rattle.std.proofs.Common.{◌≡◌, ◌⊎◌, inl, ℕ, ◌≤◌, true, List, [], Option, Some, None, refl, sym, ◌∙◌, ap, subst, Result, Ok, Err, arith}
use Rattle.std.specs.Prelude.{All, IfOk, IsErr, MatchOption, MatchResult}
use Rattle.oram_layout.specs.BucketFile.{IsBucketFile}
use Rattle.oram_layout.specs.Changes.{IsCell, marks}
use Rattle.oram_layout.specs.Limits.{TreeShape}
use Rattle.oram_host.specs.Path.{node_on}
use Rattle.oram_host.specs.Refusals.{code_of}
use Rattle.oram_host.specs.declared.refusals.HostRefusal.{HostRefusal}
use Rattle.oram_host.specs.declared.refusals.HostRefusal.TheVariants.{OutOfMemory}
use Rattle.oram_layout.specs.Records.{AreKept, IsPathOf, LacksOn, Records as RecordsOf, record_in, records_in}
use Rattle.oram_layout.specs.Trees.{Trees, sizes_of, tree_at}
use Rattle.oram_layout.specs.declared.trees.Tree.{Tree}
use Rattle.oram_redo.specs.Content.{Content}
use Rattle.oram_redo.specs.FilePair.{Contents, FileModel}
use Rattle.oram_redo.specs.Log.{put_all}
use Rattle.oram_redo.specs.declared.file_pair.FileKind.TheVariants.{Records}
use Rattle.oram_store.specs.Answers.{Answers, answer_by}
use Rattle.oram_store.specs.Crashes.{IsCarriedOut, MayBeFound, MayHold, Serves, CommitsPuts}
use Rattle.oram_store.specs.KeptRecords.{Changes, Holds, IsSound, IsSoundFile, LeavesRecords, StoreValue, content_of, records_of, sure_records}
use Rattle.oram_store.specs.Batches.{records_of_tree}
use Rattle.oram_store.specs.RecordFile.{OnlyIf, ReadsOnly}
use Rattle.oram_store.specs.declared.faults.StoreFault.{StoreFault}
use Rattle.oram_wire.specs.declared.host_messages.HostAnswer.{HostAnswer}
use Rattle.oram_wire.specs.declared.host_messages.HostAnswer.TheVariants as answer
use Rattle.oram_wire.specs.declared.host_messages.HostRequest.{HostRequest}
use Rattle.oram_wire.specs.declared.host_messages.HostRequest.TheVariants as request
use Rattle.oram_store.proofs.Crashes.{found_leads}
use Rattle.oram_store.proofs.CommittedPuts.{commits_puts_none}
use Rattle.oram_store.proofs.ServedBy.{ServesBy, by_after, by_change, by_committed, by_failure, by_no_change}
use Rattle.oram_store.proofs.Sound.{holds_then, puts_keep, reads_leave, stores_keep}

path_keep : (one two : RecordsOf) (tree : ℕ) (s : TreeShape) (leaf : ℕ) (bytes : List ℕ) → AreKept one two → IsPathOf two tree s leaf bytes → IsPathOf one tree s leaf bytes
path_keep one two tree s leaf bytes same path = record { whole = path.whole; each = λ level below. sym (same tree _) ∙ path.each level below }

lacks_keep : (one two : RecordsOf) (tree : ℕ) (s : TreeShape) (leaf : ℕ) → AreKept one two → LacksOn two tree s leaf → LacksOn one tree s leaf
lacks_keep one two tree s leaf same lacks = (lacks.0, lacks.1, sym (same tree _) ∙ lacks.2)

pub kept_then : (one two three : RecordsOf) → AreKept one two → AreKept two three → AreKept one three
kept_then one two three first second tree node = second tree node ∙ first tree node

-- an answer stays right if the records before it are the same
pub answers_keep : (trees : Trees) (one two three : RecordsOf) (message : HostRequest) (given : HostAnswer) → AreKept one two → Answers trees two message given three → Answers trees one message given three
answers_keep trees one two three (request.Fetch tree leaf) (answer.Payload bytes) same said = (said.0, said.1, path_keep one two tree said.0 leaf bytes same said.2, kept_then one two three same said.3)
answers_keep trees one two three (request.Fetch tree leaf) answer.Done same said = said
answers_keep trees one two three (request.Fetch tree leaf) (answer.Refused code) same said = (λ missing. let lacks = said.0 missing in (lacks.0, lacks.1, lacks_keep one two tree lacks.0 leaf same lacks.2), kept_then one two three same said.1)
answers_keep trees one two three (request.Store tree leaf records) (answer.Payload bytes) same said = said
answers_keep trees one two three (request.Store tree leaf records) answer.Done same said = (said.0, said.1, stores_keep tree said.0 leaf records one two three same said.2)
answers_keep trees one two three (request.Store tree leaf records) (answer.Refused code) same said = kept_then one two three same said
answers_keep trees one two three (request.Put tree node bytes) (answer.Payload sent) same said = said
answers_keep trees one two three (request.Put tree node bytes) answer.Done same said = puts_keep tree node bytes one two three same said
answers_keep trees one two three (request.Put tree node bytes) (answer.Refused code) same said = kept_then one two three same said
answers_keep trees one two three (request.Shape tree depth record_len) (answer.Payload bytes) same said = said
answers_keep trees one two three (request.Shape tree depth record_len) answer.Done same said = kept_then one two three same said
answers_keep trees one two three (request.Shape tree depth record_len) (answer.Refused code) same said = kept_then one two three same said

carried_keep : (trees : Trees) (one two : RecordsOf) (message : HostRequest) (c : Content) → AreKept one two → IsCarriedOut trees two message c → IsCarriedOut trees one message c
carried_keep trees one two (request.Fetch tree leaf) c same out = holds_then trees one two c same out
carried_keep trees one two (request.Store tree leaf records) c same out = (out.0, out.1, out.2, stores_keep tree out.1 leaf records one two (records_in trees c) same out.3)
carried_keep trees one two (request.Put tree node bytes) c same out = (out.0, puts_keep tree node bytes one two (records_in trees c) same out.1)
carried_keep trees one two (request.Shape tree depth record_len) c same out = (out.0, out.1, holds_then out.0 one two c same out.2)

-- a refusal for lack of room changes nothing
pub refused_kept : (trees : Trees) (old new : RecordsOf) (message : HostRequest) (code : ℕ) → (code ≡ 6 → ⊥) → AreKept old new → Answers trees old message (answer.Refused code) new
refused_kept trees old new (request.Fetch tree leaf) code unlike kept = (λ missing. absurd (unlike missing), kept)
refused_kept trees old new (request.Store tree leaf records) code unlike kept = kept
refused_kept trees old new (request.Put tree node bytes) code unlike kept = kept
refused_kept trees old new (request.Shape tree depth record_len) code unlike kept = kept

module _ {F : Type 0} (model : FileModel F) where
  -- a request that is served, as what is served in general
  abbrev pub ServesRequest : HostRequest → HostAnswer → StoreValue F → StoreValue F → Type 0
  ServesRequest message given = ServesBy model (λ trees one two. Answers trees one message given two) (λ trees one c. IsCarriedOut trees one message c) (MayBeFound given)

  request_served : (message : HostRequest) (given : HostAnswer) (old new : StoreValue F) → ServesRequest message given old new → Serves model message given old new
  request_served message given old new serves = record { sound = serves.sound; records = serves.records; any_moment = serves.any_moment }

  as_request : (message : HostRequest) (given : HostAnswer) (old new : StoreValue F) → Serves model message given old new → ServesRequest message given old new
  as_request message given old new serves = record { sound = serves.sound; records = serves.records; any_moment = serves.any_moment }

  -- PUTs were committed, or should have been, and then the request was refused
  pub serves_committed : (message : HostRequest) (code : ℕ) (old new : StoreValue F) → (code ≡ 6 → ⊥) → CommitsPuts model old new
      → Serves model message (answer.Refused code) old new
  serves_committed message code old new unlike commits_puts =
      request_served message (answer.Refused code) old new (by_committed model (λ trees one two. Answers trees one message (answer.Refused code) two) (λ trees one c. IsCarriedOut trees one message c) (MayBeFound (answer.Refused code)) old new
      (λ one two kept. refused_kept old.trees one two message code unlike kept) commits_puts)

  -- a request that is served after the pending PUTs are committed
  pub serves_after : (message : HostRequest) (given : HostAnswer) (old mid new : StoreValue F) → CommitsPuts model old mid → mid.pending ≡ [] → mid.trees ≡ old.trees
      → (IsSound model mid → Serves model message given mid new) → (mid.file.has_stopped ≡ true → new.file ≡ mid.file)
      → ((t : ℕ) (c : Contents) → t ≤ model.moment mid.file.files → model.may_leave mid.file.files c → model.left_since mid.file.files t c) → model.may_leave mid.file.files (model.seen mid.file.files)
      → Serves model message given old new
  serves_after message given old mid new first none same then stays counts_now whole =
      request_served message given old new (by_after model (λ trees one two. Answers trees one message given two) (λ trees one c. IsCarriedOut trees one message c) (MayBeFound given) old mid new
      (λ trees one two three kept said. answers_keep trees one two three message given kept said) (λ trees one two c kept out. carried_keep trees one two message c kept out)
      first none same (λ sound. as_request message given mid new (then sound)) stays counts_now whole)

  -- the reason why there is no room doesn't matter for what is served
  pub serves_failure : (message : HostRequest) (given : HostAnswer) (old new : StoreValue F) (failure : Option StoreFault) → Serves model message given old new
      → Serves model message given old (record { file = new.file; trees = new.trees; pending = new.pending; failure = failure })
  serves_failure message given old new failure serves =
      let new' : StoreValue F = record { file = new.file; trees = new.trees; pending = new.pending; failure = failure } in
      request_served message given old new' (by_failure model (λ trees one two. Answers trees one message given two) (λ trees one c. IsCarriedOut trees one message c) (MayBeFound given) old new failure (as_request message given old new serves))

  -- records that are changed, where nothing is pending
  module _ (message : HostRequest) (change : RecordsOf → RecordsOf → Type 0) (old new : StoreValue F) (none : old.pending ≡ []) (same : new.trees ≡ old.trees) (still : new.pending ≡ [])
      (granted : (one two : RecordsOf) → change one two → Answers old.trees one message answer.Done two)
      (carried : (c : Content) → IsBucketFile old.trees c → change (records_of model old) (records_in old.trees c) → IsCarriedOut old.trees (records_of model old) message c) where
    pub serves_change : (x : Unit {0}) → Changes model old.trees change (Ok x) old.file new.file → Serves model message answer.Done old new
    serves_change x changes =
        request_served message answer.Done old new (by_change model (λ trees one two. Answers trees one message answer.Done two) (λ trees one c. IsCarriedOut trees one message c) (MayBeFound answer.Done) change old new none same still carried
        x tt granted changes)

    pub serves_no_change : (e : StoreFault) → Changes model old.trees change (Err e) old.file new.file → Serves model message (answer.Refused 8) old new
    serves_no_change e changes =
        request_served message (answer.Refused 8) old new (by_no_change model (λ trees one two. Answers trees one message (answer.Refused 8) two) (λ trees one c. IsCarriedOut trees one message c) (MayBeFound (answer.Refused 8)) change old new none same still carried
        e (λ stopped. stopped) (λ one two kept. refused_kept old.trees one two message 8 (λ six. absurd (omega arith)) kept) changes)

  -- records that are read, where nothing is pending
  module _ (message : HostRequest) (old new : StoreValue F) (none : old.pending ≡ []) (same : new.trees ≡ old.trees) (still : new.pending ≡ [])
      (leaves : LeavesRecords model old.trees old.file new.file) where
    pub serves_reads : (given : HostAnswer) → (AreKept (records_of model old) (records_of model new) → Answers old.trees (records_of model old) message given (records_of model new))
        → Serves model message given old new
    serves_reads given answers = record {
      sound = λ running. record {
        file = subst (λ (t : Trees). IsSoundFile model t new.file) (sym same) (leaves.sound running);
        cells = subst (λ (l : List ℕ). All (IsCell new.trees) l) (sym still) (λ k d h. absurd (omega arith));
      };
      records = λ running. answers (λ tree node.
          ap (λ (t : Trees). records_in t (content_of model new) tree node) same
          ∙ ap (λ (l : List ℕ). records_in old.trees (put_all (marks l) (model.seen new.file.files Records)) tree node) still
          ∙ leaves.kept running tree node
          ∙ ap (λ (l : List ℕ). records_in old.trees (put_all (marks l) (model.seen old.file.files Records)) tree node) (sym none));
      any_moment = found_leads model old.file.files new.file.files (Holds old.trees (sure_records model old))
          (λ c. MayHold old.trees (sure_records model old) (records_of model old) c ⊎ OnlyIf (MayBeFound given new.file.has_stopped) (IsCarriedOut old.trees (records_of model old) message c)) leaves.moments (λ c holds. inl (inl holds));
    }

  pub serves_err : (message : HostRequest) (result : Result Unit StoreFault) (old new : StoreValue F) → IsErr result → CommitsPuts model old new
      → Serves model message (answer_by result) old new
  serves_err message (Ok x) old new is commits_puts = absurd (not_err is)
    where
      not_err : IsErr {E = StoreFault} (Ok x) → ⊥
      not_err h = cc
  serves_err message (Err e) old new is commits_puts = serves_committed message 8 old new (λ six. absurd (omega arith)) commits_puts

  pub serves_untouched : (message : HostRequest) (code : ℕ) (v : StoreValue F) → (code ≡ 6 → ⊥) → IsSound model v → ((c : Contents) → model.left_since v.file.files (model.moment v.file.files) c → model.may_leave v.file.files c)
      → Serves model message (answer.Refused code) v v
  serves_untouched message code v unlike s only_now = serves_committed message code v v unlike (commits_puts_none model v s only_now)

  -- a change after the pending PUTs are committed
  pub serves_made : (message : HostRequest) (change : RecordsOf → RecordsOf → Type 0) (old mid new : StoreValue F) (result : Result Unit StoreFault)
      → CommitsPuts model old mid → mid.pending ≡ [] → mid.trees ≡ old.trees → new.trees ≡ mid.trees → new.pending ≡ mid.pending
      → ((one two : RecordsOf) → change one two → Answers mid.trees one message answer.Done two)
      → ((c : Content) → IsBucketFile mid.trees c → change (records_of model mid) (records_in mid.trees c) → IsCarriedOut mid.trees (records_of model mid) message c)
      → (IsSound model mid → Changes model mid.trees change result mid.file new.file) → (mid.file.has_stopped ≡ true → new.file ≡ mid.file)
      → ((t : ℕ) (c : Contents) → t ≤ model.moment mid.file.files → model.may_leave mid.file.files c → model.left_since mid.file.files t c) → model.may_leave mid.file.files (model.seen mid.file.files)
      → Serves model message (answer_by result) old new
  serves_made message change old mid new (Ok x) commits_puts none same trees_same still granted carried makes stays counts_now whole =
      serves_after message answer.Done old mid new commits_puts none same
      (λ sound. serves_change message change mid new none trees_same (still ∙ none) granted carried x (makes sound)) stays counts_now whole
  serves_made message change old mid new (Err e) commits_puts none same trees_same still granted carried makes stays counts_now whole =
      serves_after message (answer.Refused 8) old mid new commits_puts none same
      (λ sound. serves_no_change message change mid new none trees_same (still ∙ none) granted carried e (makes sound)) stays counts_now whole

  -- a path that is fetched after the pending PUTs are committed
  pub serves_fetched : (message : HostRequest) (given : HostAnswer) (old mid new : StoreValue F)
      → CommitsPuts model old mid → mid.pending ≡ [] → mid.trees ≡ old.trees → new.trees ≡ mid.trees → new.pending ≡ mid.pending
      → ReadsOnly model mid.file new.file
      → ((two : RecordsOf) → AreKept (records_of model mid) two → Answers mid.trees (records_of model mid) message given two) → (mid.file.has_stopped ≡ true → new.file ≡ mid.file)
      → ((t : ℕ) (c : Contents) → t ≤ model.moment mid.file.files → model.may_leave mid.file.files c → model.left_since mid.file.files t c) → model.may_leave mid.file.files (model.seen mid.file.files)
      → Serves model message given old new
  serves_fetched message given old mid new commits_puts none same trees_same still reads answers stays counts_now whole =
      serves_after message given old mid new commits_puts none same
      (λ sound. serves_reads message mid new none trees_same (still ∙ none) (reads_leave model mid.trees mid.file new.file sound.file reads) given (answers (records_of model new)))
      stays counts_now whole

-- a path of one tree, by its number
pub path_of_tree : (trees : Trees) (cells : List ℕ) (c : Content) (number : ℕ) (tree : Tree) (leaf : ℕ) (bytes : List ℕ) → tree_at trees number ≡ Some tree → cells ≡ []
    → IsPathOf (records_of_tree tree c) 0 (sizes_of tree.shape) leaf bytes → IsPathOf (records_in trees (put_all (marks cells) c)) number (sizes_of tree.shape) leaf bytes
path_of_tree trees cells c number tree leaf bytes there none path = record {
  whole = path.whole;
  each = λ level below.
      ap (λ (l : List ℕ). records_in trees (put_all (marks l) c) number (node_on tree.shape.depth leaf level)) none
      ∙ ap (λ (t : Option Tree). record_in t (node_on tree.shape.depth leaf level) c) there ∙ path.each level below;
}

pub lacks_of_tree : (trees : Trees) (cells : List ℕ) (c : Content) (number : ℕ) (tree : Tree) (leaf : ℕ) → tree_at trees number ≡ Some tree → cells ≡ []
    → LacksOn (records_of_tree tree c) 0 (sizes_of tree.shape) leaf → LacksOn (records_in trees (put_all (marks cells) c)) number (sizes_of tree.shape) leaf
lacks_of_tree trees cells c number tree leaf there none lacks = (
  lacks.0,
  lacks.1,
  ap (λ (l : List ℕ). records_in trees (put_all (marks l) c) number (node_on tree.shape.depth leaf lacks.0)) none
      ∙ ap (λ (t : Option Tree). record_in t (node_on tree.shape.depth leaf lacks.0) c) there ∙ lacks.2,
)

pub match_err : {T E : Type 0} (result : Result T E) (P : T → Type 0) (Q : Type 0) → IsErr result → Q → MatchResult result P (λ _. Q)
match_err {T} {E} (Ok x) P Q is q = absurd (not_err is)
  where
    not_err : IsErr {E = E} (Ok x) → ⊥
    not_err h = cc
match_err (Err e) P Q is q = q

pub match_found : {V E : Type 0} (result : Result (Option V) E) (H Lacks A C : Type 0) (Has B : V → Type 0) → IfOk result (λ found. H → MatchOption found Lacks Has) → H
    → (Lacks → A) → ((v : V) → Has v → B v) → C → MatchResult result (λ found. MatchOption found A B) (λ _. C)
match_found (Ok None) H Lacks A C Has B said h lacks has refused = lacks (said h)
match_found (Ok (Some v)) H Lacks A C Has B said h lacks has refused = has v (said h)
match_found (Err e) H Lacks A C Has B said h lacks has refused = refused

pub answer_of_err : (result : Result Unit StoreFault) → IsErr result → answer.Refused 8 ≡ answer_by result
answer_of_err (Ok x) is = absurd (not_err is)
  where
    not_err : IsErr {E = StoreFault} (Ok x) → ⊥
    not_err h = cc
answer_of_err (Err e) is = refl

-- a refusal with its reason kept
module _ {F : Type 0} (model : FileModel F) where
  pub serves_refused : (message : HostRequest) (old mid new : StoreValue F) (why : HostRefusal) (failure : Option StoreFault) → why ≡ OutOfMemory
      → new ≡ record { file = mid.file; trees = mid.trees; pending = mid.pending; failure = failure }
      → (model.is_honest mid.file.files → Serves model message (answer.Refused 8) old mid) → model.is_honest new.file.files
      → Serves model message (answer.Refused (code_of why)) old new
  serves_refused message old mid new why failure is kept serves honest =
      subst (λ (w : HostRefusal). Serves model message (answer.Refused (code_of w)) old new) (sym is)
      (subst (λ (v : StoreValue F). Serves model message (answer.Refused 8) old v) (sym kept)
      (serves_failure model message (answer.Refused 8) old mid failure (serves (subst (λ (v : StoreValue F). model.is_honest v.file.files) kept honest))))
