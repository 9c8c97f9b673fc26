-- The outcome of a request, as its answer.
use Rattle.oram_redo.specs.FilePair.{FileModel}
use Rattle.std.proofs.Common.{◌≡◌, ◌≤◌, inl, true, false, true≢false, refl, arith, Err, Ok, Option, Result, Some, List, [], ◌∷◌, ℕ, None, drop, get_or, sym, ap, ◌∙◌}
use Rattle.std.specs.Prelude.{IfOk, IsErrAnd, IsSomeAnd}
use Rattle.oram_levels.specs.Messages.{FetchLevels, LevelsMessage, StoreLevels, levels_body, names_levels}
use Rattle.oram_records.specs.Messages.{names_records, records_body}
use Rattle.oram_records.specs.declared.request.RecordsRequest.{RecordsRequest}
use Rattle.oram_wire.specs.HostMessages.{request_body}
use Rattle.oram_wire.specs.declared.host_messages.HostAnswer.{HostAnswer}
use Rattle.oram_wire.specs.declared.host_messages.HostAnswer.TheVariants.{Done, Payload}
use Rattle.oram_wire.specs.declared.host_messages.HostRequest.{HostRequest}
use Rattle.oram_wire.specs.declared.host_messages.HostRequest.TheVariants as request
use Rattle.oram_host.specs.Path.{FitsAnswer, IsBehind}
use Rattle.oram_host.specs.Refusals.{code_of}
use Rattle.oram_host.specs.declared.refusals.HostRefusal.{HostRefusal}
use Rattle.oram_host.specs.declared.refusals.HostRefusal.TheVariants as refusal
use Rattle.oram_store.specs.AnswerBytes.{StandsBehind, StandsFor}
use Rattle.oram_store.specs.KeptRecords.{StoreValue}
use Rattle.oram_store.specs.Reasons.{IsReasonFor}
use Rattle.oram_store.specs.RecordFile.{IsReason}
use Rattle.oram_store.specs.Refusals.{RespondsWith, ChangesTrees, refusal_by}
use Rattle.oram_store.specs.declared.faults.StoreFault.{StoreFault}
use Rattle.oram_layout.specs.Trees.{Trees}
use Rattle.oram_store.specs.declared.answers.Served.TheVariants as served

pub records_behind : (front : List ℕ) (message : HostRequest) (bytes : _) → StandsBehind front message (served.Records bytes) → IsBehind front FitsAnswer bytes.items
records_behind front (request.Fetch tree leaf) bytes h = h
records_behind front (request.Store tree leaf records) bytes h = absurd h
records_behind front (request.Put tree node sent) bytes h = absurd h
records_behind front (request.Shape tree depth record_len) bytes h = absurd h

module _ (old new : Trees) (front : List ℕ) where
  pub responds_records : (message : HostRequest) (bytes : _) (records : List ℕ) → StandsBehind front message (served.Records bytes) → refusal_by old message ≡ None
      → ChangesTrees old message new → RespondsWith old message (Payload records) new
  responds_records (request.Fetch tree leaf) bytes records h allowed leads = (allowed, leads)
  responds_records (request.Store tree leaf sent) bytes records h allowed leads = absurd h
  responds_records (request.Put tree node sent) bytes records h allowed leads = absurd h
  responds_records (request.Shape tree depth record_len) bytes records h allowed leads = absurd h

  pub responds_done : (message : HostRequest) → StandsBehind front message served.Done → refusal_by old message ≡ None → ChangesTrees old message new → RespondsWith old message Done new
  responds_done (request.Fetch tree leaf) h allowed leads = absurd h
  responds_done (request.Store tree leaf sent) h allowed leads = (allowed, leads)
  responds_done (request.Put tree node sent) h allowed leads = (allowed, leads)
  responds_done (request.Shape tree depth record_len) h allowed leads = (allowed, leads)

-- a reason of the file is a reason for the request
pub reason_for : {F : Type 0} (model : FileModel F) (old new : StoreValue F) (message : HostRequest) (failure : Option StoreFault)
    → IsSomeAnd failure (IsReason model old.file new.file) → IsSomeAnd failure (IsReasonFor model old new message)
reason_for model old new message None reason = absurd reason
reason_for model old new message (Some fault) reason = inl reason

-- the error that is passed on
pub error_of : {T E : Type 0} (result : Result T E) (error given : E) → IsErrAnd result (λ e. e ≡ error) → result ≡ Err given → error ≡ given
error_of (Ok x) error given is same = absurd is
error_of (Err e) error given is same = sym is ∙ cc

-- a refusal has a code
pub code_is : (why : HostRefusal) → (1 ≤ code_of why) × (code_of why ≤ 8)
code_is refusal.NoShape = (omega arith, omega arith)
code_is refusal.BadLeaf = (omega arith, omega arith)
code_is refusal.BadNode = (omega arith, omega arith)
code_is refusal.BadLength = (omega arith, omega arith)
code_is refusal.ShapeTaken = (omega arith, omega arith)
code_is refusal.Missing = (omega arith, omega arith)
code_is refusal.BadOp = (omega arith, omega arith)
code_is refusal.OutOfMemory = (omega arith, omega arith)

-- the code 8 has one meaning
pub no_room_is : (why : HostRefusal) → code_of why ≡ 8 → why ≡ refusal.OutOfMemory
no_room_is refusal.NoShape is = absurd (omega arith)
no_room_is refusal.BadLeaf is = absurd (omega arith)
no_room_is refusal.BadNode is = absurd (omega arith)
no_room_is refusal.BadLength is = absurd (omega arith)
no_room_is refusal.ShapeTaken is = absurd (omega arith)
no_room_is refusal.Missing is = absurd (omega arith)
no_room_is refusal.BadOp is = absurd (omega arith)
no_room_is refusal.OutOfMemory is = refl

-- the payload comes after one byte
pub payload_is : (first : ℕ) (bytes : _) (records : List ℕ) (answer : HostAnswer) → StandsFor (first ∷ []) (served.Records bytes) answer → bytes.items ≡ first ∷ records
    → answer ≡ Payload records
payload_is first bytes records answer h e = h.2 ∙ ap Payload (ap (drop 1) (sym h.1 ∙ e))

-- the body of one of the four requests doesn't name RECORDS
pub not_records : (message : HostRequest) (body : List ℕ) → body ≡ request_body message → names_records body → ⊥
not_records (request.Fetch tree leaf) body is names = let first : 1 ≡ 5 = ap (λ (l : List ℕ). get_or l 0 0) (sym is ∙ names.1) in absurd (omega (arith, first))
not_records (request.Store tree leaf records) body is names = let first : 2 ≡ 5 = ap (λ (l : List ℕ). get_or l 0 0) (sym is ∙ names.1) in absurd (omega (arith, first))
not_records (request.Put tree node bytes) body is names = let first : 3 ≡ 5 = ap (λ (l : List ℕ). get_or l 0 0) (sym is ∙ names.1) in absurd (omega (arith, first))
not_records (request.Shape tree depth record_len) body is names = let first : 4 ≡ 5 = ap (λ (l : List ℕ). get_or l 0 0) (sym is ∙ names.1) in absurd (omega (arith, first))

pub records_named : (r : RecordsRequest) (body : List ℕ) → body ≡ records_body r → names_records body
records_named r body is = (drop 1 (records_body r), is)

-- the first byte of a body tells the messages about levels from the others
pub levels_named : (message : LevelsMessage) (body : List ℕ) → body ≡ levels_body message → names_levels body ≡ true
levels_named (FetchLevels tree first last leaf) body is = ap names_levels is
levels_named (StoreLevels tree first leaf records) body is = ap names_levels is

request_is_no_levels : (message : HostRequest) → names_levels (request_body message) ≡ false
request_is_no_levels (request.Fetch tree leaf) = refl
request_is_no_levels (request.Store tree leaf records) = refl
request_is_no_levels (request.Put tree node bytes) = refl
request_is_no_levels (request.Shape tree depth record_len) = refl

pub not_levels : (message : HostRequest) (body : List ℕ) → body ≡ request_body message → names_levels body ≡ true → ⊥
not_levels message body is names = true≢false (sym names ∙ ap names_levels is ∙ request_is_no_levels message)

pub records_not_levels : (body : List ℕ) → names_records body → names_levels body ≡ true → ⊥
records_not_levels body records names = true≢false (sym names ∙ ap names_levels records.1)

-- what follows from what is known of a result
pub if_ok_leads : {V E : Type 0} (result : Result V E) (P Q : V → Type 0) → IfOk result P → ((v : V) → P v → Q v) → IfOk result Q
if_ok_leads (Ok v) P Q holds leads = leads v holds
if_ok_leads (Err e) P Q holds leads = tt

pub ok_is_no_err : {V E : Type 0} (v : V) (e : E) → Err e ≡ Ok v → ⊥
ok_is_no_err v e is = cc
