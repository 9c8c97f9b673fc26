-- Messages that are served: one of the four requests, or one about some levels of a path.
use Rattle.std.proofs.Common.{◌≡◌, ◌⊎◌, inl, ℕ, List, sym, ◌∙◌, arith}
use Rattle.oram_layout.specs.Limits.{TreeShape}
use Rattle.oram_layout.specs.Records.{AreKept, Records as RecordsOf}
use Rattle.oram_layout.specs.Trees.{Trees}
use Rattle.oram_levels.specs.Messages.{FetchLevels, LevelsMessage, StoreLevels}
use Rattle.oram_redo.specs.FilePair.{FileModel}
use Rattle.oram_store.specs.Crashes.{CommitsPuts, MayBeFound, MayHold}
use Rattle.oram_store.specs.KeptRecords.{StoreValue, records_of, sure_records}
use Rattle.oram_store.specs.RecordFile.{OnlyIf}
use Rattle.oram_store.specs.LevelsAnswers.{GivesLevels, IsLevelsCarriedOut, LevelsAnswers, ServesLevels, StoresLevels}
use Rattle.oram_store.specs.Messages.{IsAnswered, IsDoneIn, Message, OfHost, OfLevels}
use Rattle.oram_wire.specs.declared.host_messages.HostAnswer.{HostAnswer}
use Rattle.oram_wire.specs.declared.host_messages.HostAnswer.TheVariants as answer
use Rattle.oram_store.proofs.Crashes.{found_leads}
use Rattle.oram_store.proofs.Served.{answers_keep, kept_then, refused_kept}
use Rattle.oram_store.proofs.ServedBy.{ServesBy}

-- the same records give the same levels
pub gives_same : (one two : RecordsOf) (t u : ℕ) (s : TreeShape) (leaf first last : ℕ) (payload : List ℕ) → ((node : ℕ) → one t node ≡ two u node) → GivesLevels one t s leaf first last payload
    → GivesLevels two u s leaf first last payload
gives_same one two t u s leaf first last payload same gives = record {
  count = gives.count;
  bytes = gives.bytes;
  is = gives.is;
  within = gives.within;
  are = record { whole = gives.are.whole; each = λ i below. sym (same _) ∙ gives.are.each i below };
  ends = λ more. sym (same _) ∙ gives.ends more;
}

levels_stored_keep : (tree : ℕ) (s : TreeShape) (first leaf : ℕ) (bytes : List ℕ) (one two three : RecordsOf) → AreKept one two → StoresLevels tree s first leaf bytes two three → StoresLevels tree s first leaf bytes one three
levels_stored_keep tree s first leaf bytes one two three same said = (said.0, λ other node differ. said.1 other node differ ∙ same other node)

levels_stored_then : (tree : ℕ) (s : TreeShape) (first leaf : ℕ) (bytes : List ℕ) (one two three : RecordsOf) → StoresLevels tree s first leaf bytes one two → AreKept two three → StoresLevels tree s first leaf bytes one three
levels_stored_then tree s first leaf bytes one two three said kept = (
  record { whole = said.0.whole; each = λ i below. kept tree _ ∙ said.0.each i below },
  λ other node differ. kept other node ∙ said.1 other node differ,
)

-- an answer stays right if the records before it are the same
levels_keep : (trees : Trees) (one two three : RecordsOf) (message : LevelsMessage) (given : HostAnswer) → AreKept one two → LevelsAnswers trees two message given three → LevelsAnswers trees one message given three
levels_keep trees one two three (FetchLevels tree first last leaf) (answer.Payload bytes) same said =
    (said.0, said.1, gives_same two one tree tree said.0 leaf first last bytes (same tree) said.2, kept_then one two three same said.3)
levels_keep trees one two three (FetchLevels tree first last leaf) answer.Done same said = said
levels_keep trees one two three (FetchLevels tree first last leaf) (answer.Refused code) same said = kept_then one two three same said
levels_keep trees one two three (StoreLevels tree first leaf records) (answer.Payload bytes) same said = said
levels_keep trees one two three (StoreLevels tree first leaf records) answer.Done same said = (said.0, said.1, levels_stored_keep tree said.0 first leaf records one two three same said.2)
levels_keep trees one two three (StoreLevels tree first leaf records) (answer.Refused code) same said = kept_then one two three same said

-- a refusal changes nothing
pub levels_refused : (trees : Trees) (old new : RecordsOf) (message : LevelsMessage) (code : ℕ) → AreKept old new → LevelsAnswers trees old message (answer.Refused code) new
levels_refused trees old new (FetchLevels tree first last leaf) code kept = kept
levels_refused trees old new (StoreLevels tree first leaf records) code kept = kept

-- a STORE's answer stays right if the records after it are the same
pub levels_then : (trees : Trees) (one two three : RecordsOf) (tree first leaf : ℕ) (records : List ℕ) (given : HostAnswer) → LevelsAnswers trees one (StoreLevels tree first leaf records) given two → AreKept two three
    → LevelsAnswers trees one (StoreLevels tree first leaf records) given three
levels_then trees one two three tree first leaf records (answer.Payload bytes) said kept = said
levels_then trees one two three tree first leaf records answer.Done said kept = (said.0, said.1, levels_stored_then tree said.0 first leaf records one two three said.2 kept)
levels_then trees one two three tree first leaf records (answer.Refused code) said kept = kept_then one two three said kept

pub message_keep : (trees : Trees) (one two three : RecordsOf) (message : Message) (given : HostAnswer) → AreKept one two → IsAnswered trees two message given three → IsAnswered trees one message given three
message_keep trees one two three (OfHost message) given same said = answers_keep trees one two three message given same said
message_keep trees one two three (OfLevels message) given same said = levels_keep trees one two three message given same said

pub message_refused : (trees : Trees) (old new : RecordsOf) (message : Message) → AreKept old new → IsAnswered trees old message (answer.Refused 8) new
message_refused trees old new (OfHost message) kept = refused_kept trees old new message 8 (λ six. absurd (omega arith)) kept
message_refused trees old new (OfLevels message) kept = levels_refused trees old new message 8 kept

module _ {F : Type 0} (model : FileModel F) where
  -- a message that is served, as what is served in general
  abbrev pub ServesMessage : Message → HostAnswer → StoreValue F → StoreValue F → Type 0
  ServesMessage message given = ServesBy model (λ trees one two. IsAnswered trees one message given two) (λ trees one c. IsDoneIn trees one message c) (MayBeFound given)

  pub levels_served : (message : LevelsMessage) (given : HostAnswer) (old new : StoreValue F) → ServesMessage (OfLevels message) given old new → ServesLevels model message given old new
  levels_served message given old new serves = record { sound = serves.sound; records = serves.records; any_moment = serves.any_moment }

  pub as_levels : (message : LevelsMessage) (given : HostAnswer) (old new : StoreValue F) → ServesLevels model message given old new → ServesMessage (OfLevels message) given old new
  as_levels message given old new serves = record { sound = serves.sound; records = serves.records; any_moment = serves.any_moment }

  -- PUTs were committed, or should have been, and then the message was answered by what was there
  pub levels_committed : (message : LevelsMessage) (given : HostAnswer) (old new : StoreValue F) → ((two : RecordsOf) → AreKept (records_of model old) two → LevelsAnswers old.trees (records_of model old) message given two) → CommitsPuts model old new
      → ServesLevels model message given old new
  levels_committed message given old new answers commits = record {
    sound = commits.sound;
    records = λ running. answers (records_of model new) (commits.records running);
    any_moment = found_leads model old.file.files new.file.files (MayHold old.trees (sure_records model old) (records_of model old))
        (λ c. MayHold old.trees (sure_records model old) (records_of model old) c ⊎ OnlyIf (MayBeFound given new.file.has_stopped) (IsLevelsCarriedOut old.trees (records_of model old) message c)) commits.any_moment
        (λ r holds. inl holds);
  }
