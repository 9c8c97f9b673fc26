-- The answers of a store to a request for the records of nodes in a row.
use Rattle.std.specs.Prelude.{◌≡◌, ◌⊎◌, ℕ, ◌+◌, ◌*◌, ◌&&◌, nat_le, nat_lt, Bool, false, Option, Some, None, IsSome, IsSomeAnd, [], ⊤}
use Rattle.oram_host.specs.Refusals.{code_of}
use Rattle.oram_host.specs.declared.refusals.HostRefusal.{HostRefusal}
use Rattle.oram_host.specs.declared.refusals.HostRefusal.TheVariants.{BadNode, BadLength, OutOfMemory}
use Rattle.oram_layout.specs.Limits.{TreeShape, nodes_of}
use Rattle.oram_layout.specs.Records.{Records}
use Rattle.oram_layout.specs.Trees.{Trees, shape_at}
use Rattle.oram_records.specs.Messages.{rows_text}
use Rattle.oram_records.specs.declared.request.RecordsRequest.{RecordsRequest}
use Rattle.oram_redo.specs.FilePair.{FileModel}
use Rattle.oram_store.specs.Answers.{IsGranted}
use Rattle.oram_store.specs.Crashes.{CommitsPuts}
use Rattle.oram_store.specs.KeptRecords.{IsSound, StoreValue, records_of}
use Rattle.oram_store.specs.RecordFile.{IsReason}
use Rattle.oram_store.specs.Refusals.{by_shape, unless}
use Rattle.oram_store.specs.Rows.{rows_of}
use Rattle.oram_wire.specs.declared.TheConstants.{LONGEST_BODY}
use Rattle.oram_wire.specs.declared.host_messages.HostAnswer.{HostAnswer}
use Rattle.oram_wire.specs.declared.host_messages.HostAnswer.TheVariants as answer

-- at least one node is asked for, and the records of `count` nodes fit into one answer
abbrev pub fits_answer : TreeShape → ℕ → Bool
fits_answer s count = nat_lt 0 count && nat_le (1 + count * (s.record_len + 1)) LONGEST_BODY

-- why these trees refuse a request, if they do; if there are several reasons, the one that is checked first
abbrev pub records_refusal : Trees → RecordsRequest → Option HostRefusal
records_refusal trees r = by_shape (shape_at trees r.tree) (λ s. unless (nat_le (r.first + r.count) (nodes_of s)) BadNode (unless (fits_answer s r.count) BadLength None))

-- why a request is refused: for the trees' reason, or if they have none, because there is no room
abbrev pub MayRefuse : Trees → RecordsRequest → HostRefusal → Type 0
MayRefuse trees r why = (records_refusal trees r ≡ Some why) ⊎ ((records_refusal trees r ≡ None) × (why ≡ OutOfMemory))

-- the answer to a request, by the trees
abbrev pub RespondsByRows : Trees → RecordsRequest → HostAnswer → Type 0
RespondsByRows trees r (answer.Payload bytes) = records_refusal trees r ≡ None
RespondsByRows trees r answer.Done = ⊥
RespondsByRows trees r (answer.Refused code) = (why : HostRefusal) × (code ≡ code_of why) × MayRefuse trees r why

-- the payload has the row of each node
abbrev pub GivesRows : Records → RecordsRequest → HostAnswer → Type 0
GivesRows records r (answer.Payload bytes) = bytes ≡ rows_text (rows_of records r.tree r.first r.count)
GivesRows records r answer.Done = ⊤
GivesRows records r (answer.Refused code) = ⊤

-- The store gives this answer to a request, with the rows of the records that it had before, and is `new` afterwards. It changes
-- no record: it commits the PUTs that wait, and a crash finds all of these or none.
pub record ServesRecords {F : Type 0} (model : FileModel F)
    (r : RecordsRequest) (given : HostAnswer) (old new : StoreValue F) : Type 0 where
  pub commits : CommitsPuts model old new
  pub rows : new.file.has_stopped ≡ false → GivesRows (records_of model old) r given

-- A store answers a request. A request that its trees refuse leaves the store as it was.
pub record AnswersRecords {F : Type 0} (model : FileModel F)
    (r : RecordsRequest) (given : HostAnswer) (old new : StoreValue F) : Type 0 where
  pub responds : RespondsByRows old.trees r given
  pub trees : new.trees ≡ old.trees
  pub untouched : IsSome (records_refusal old.trees r) → new ≡ old
  pub committed : IsGranted given → new.pending ≡ []
  pub goes_on : IsGranted given → new.file.has_stopped ≡ false
  pub full : given ≡ answer.Refused 8 → IsSomeAnd new.failure (IsReason model old.file new.file)
  pub serves : model.is_honest new.file.files → IsSound model old → ServesRecords model r given old new
