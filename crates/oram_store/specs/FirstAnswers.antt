-- The answer of a store to the first of some bodies, or to the first few.
use Rattle.std.specs.Prelude.{◌≡◌, ◌⊎◌, ℕ, false, List, [], ◌∷◌}
use Rattle.oram_levels.specs.Messages.{HasNumbers as HasLevelsNumbers, IsMisfit as IsLevelsMisfit, LevelsMessage, levels_body, names_levels}
use Rattle.oram_records.specs.Messages.{HasNumbers as HasRecordsNumbers, IsMisfit as IsRecordsMisfit, names_records, records_body}
use Rattle.oram_records.specs.declared.request.RecordsRequest.{RecordsRequest}
use Rattle.oram_redo.specs.FilePair.{FileModel}
use Rattle.oram_wire.specs.HostBodies.{HasNumbers, IsMisfit, names_request}
use Rattle.oram_wire.specs.HostMessages.{answer_body, request_body}
use Rattle.oram_wire.specs.declared.host_messages.HostAnswer.{HostAnswer}
use Rattle.oram_wire.specs.declared.host_messages.HostAnswer.TheVariants.{Refused}
use Rattle.oram_wire.specs.declared.host_messages.HostRequest.{HostRequest}
use Rattle.oram_store.specs.Answers.{IsGranted, IsKeptAtOnce}
use Rattle.oram_store.specs.Crashes.{Serves}
use Rattle.oram_store.specs.Groups.{AnswersGroup}
use Rattle.oram_store.specs.KeptRecords.{IsSound, StoreValue}
use Rattle.oram_store.specs.LevelsAnswers.{AnswersLevels}
use Rattle.oram_store.specs.Reasons.{ReportsWhy}
use Rattle.oram_store.specs.RecordsAnswers.{AnswersRecords}
use Rattle.oram_store.specs.Refusals.{RespondsWith}

-- A store has given this answer to a request. When a request other than a PUT is answered as done, its effect is durable.
pub record AnswersRequest {F : Type 0} (model : FileModel F)
    (message : HostRequest) (given : HostAnswer) (old new : StoreValue F) : Type 0 where
  pub responds : RespondsWith old.trees message given new.trees
  pub committed : IsKeptAtOnce message → IsGranted given → new.pending ≡ []
  pub goes_on : IsGranted given → new.file.has_stopped ≡ false
  pub full : given ≡ Refused 8 → ReportsWhy model old new message
  pub serves : model.is_honest new.file.files → IsSound model old → Serves model message given old new

-- A store has given this answer to a body, alone.
pub record AnswersBody {F : Type 0} (model : FileModel F)
    (body : List ℕ) (given : HostAnswer) (old new : StoreValue F) : Type 0 where
  pub request : (message : HostRequest) → HasNumbers message → body ≡ request_body message → AnswersRequest model message given old new
  -- a request for the records of nodes in a row
  pub records : (request : RecordsRequest) → HasRecordsNumbers request → body ≡ records_body request → AnswersRecords model request given old new
  -- a message about some levels of a path
  pub levels : (message : LevelsMessage) → HasLevelsNumbers message → body ≡ levels_body message → AnswersLevels model message given old new
  -- a body that is none of them, or whose length isn't that of the request that it names
  pub op : names_request body ≡ false → (¬ names_records body) → names_levels body ≡ false → answer_body given ≡ answer_body (Refused 7)
  pub misfit : IsMisfit body → answer_body given ≡ answer_body (Refused 4)
  pub records_misfit : IsRecordsMisfit body → (answer_body given ≡ answer_body (Refused 4)) × (new ≡ old)
  pub levels_misfit : IsLevelsMisfit body → (answer_body given ≡ answer_body (Refused 4)) × (new ≡ old)

-- A store has given this answer to each of these bodies: to one body alone, or to STOREs and PUTs that it has committed together.
abbrev pub AnswersFirst : {F : Type 0} → FileModel F → List (List ℕ) → HostAnswer → StoreValue F → StoreValue F → Type 0
AnswersFirst model bodies given old new = ((body : List ℕ) × (bodies ≡ body ∷ []) × AnswersBody model body given old new) ⊎ AnswersGroup model bodies given old new
