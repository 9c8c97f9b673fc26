-- RECORDS of a moment: of now, or of a checkpoint.
use Rattle.std.specs.Prelude.{◌≢◌, ℕ, ◌<◌, ◌^◌, List, [], ◌∷◌, ◌++◌}
use Rattle.std.specs.Int.{w32, w64, to_be_bytes}
use Rattle.oram_records.specs.Messages.{names_records}
use Rattle.oram_records.specs.Messages as records
use Rattle.oram_records.specs.declared.request.RecordsRequest.{RecordsRequest}
use Rattle.oram_checkpoints.specs.declared.view.View.{View}
use Rattle.oram_checkpoints.specs.declared.view.View.TheVariants.{Now, Checkpoint}
use Rattle.oram_checkpoints.specs.declared.view.ViewedRecords.{ViewedRecords}

-- a moment as bytes
abbrev pub view_text : View → List ℕ
view_text Now = 0 ∷ []
view_text (Checkpoint number) = 1 ∷ to_be_bytes w64 number

-- the number of a checkpoint fits its eight bytes
abbrev pub IsView : View → Type 0
IsView Now = Unit {0}
IsView (Checkpoint number) = number < 2 ^ 64

-- the nodes of a request: their tree, the first one, and how many they are
abbrev pub nodes_text : RecordsRequest → List ℕ
nodes_text nodes = nodes.tree ∷ to_be_bytes w32 nodes.first ++ to_be_bytes w32 nodes.count

-- what a request has behind its first byte
abbrev pub viewed_text : ViewedRecords → List ℕ
viewed_text request = view_text request.view ++ nodes_text request.records

-- the body of a request
abbrev pub viewed_body : ViewedRecords → List ℕ
viewed_body request = 5 ∷ viewed_text request

-- the numbers of a request fit their bytes
pub record HasNumbers (request : ViewedRecords) : Type 0 where
  pub view : IsView request.view
  pub nodes : records.HasNumbers request.records

-- the first byte names this message, but the body is that of no request
abbrev pub IsMisfit : List ℕ → Type 0
IsMisfit body = names_records body × ((request : ViewedRecords) → HasNumbers request → body ≢ viewed_body request)
