-- The answers of a store to the messages about some levels of a path.
use Rattle.std.specs.Prelude.{◌≡◌, ◌⊎◌, ℕ, ◌+◌, ◌*◌, ◌^◌, ◌≤◌, ◌==◌, nat_le, nat_lt, false, List, length, Option, Some, None, IsSome, IsSomeAnd, [], ⊤}
use Rattle.oram_host.specs.Path.{node_on}
use Rattle.oram_host.specs.Refusals.{code_of}
use Rattle.oram_host.specs.declared.refusals.HostRefusal.{HostRefusal}
use Rattle.oram_host.specs.declared.refusals.HostRefusal.TheVariants.{BadLeaf, BadNode, BadLength, OutOfMemory}
use Rattle.oram_layout.specs.BucketFile.{IsBucketFile}
use Rattle.oram_layout.specs.Limits.{TreeShape, levels_from}
use Rattle.oram_layout.specs.Records.{AreKept, AreLevelsOf, KeepsOffLevels, Records, records_in}
use Rattle.oram_layout.specs.Trees.{Trees, shape_at}
use Rattle.oram_levels.specs.Messages.{FetchLevels, LevelsMessage, StoreLevels, levels_payload}
use Rattle.oram_redo.specs.Content.{Content}
use Rattle.oram_redo.specs.FilePair.{FileModel, LeavesOnly}
use Rattle.oram_store.specs.Answers.{IsGranted}
use Rattle.oram_store.specs.Crashes.{MayBeFound, MayHold}
use Rattle.oram_store.specs.KeptRecords.{Holds, IsSound, StoreValue, records_of, sure_records}
use Rattle.oram_store.specs.RecordFile.{Finds, IsReason, OnlyIf}
use Rattle.oram_store.specs.Refusals.{by_changeable, by_shape, unless}
use Rattle.oram_wire.specs.declared.host_messages.HostAnswer.{HostAnswer}
use Rattle.oram_wire.specs.declared.host_messages.HostAnswer.TheVariants as answer

-- why these trees refuse a message, if they do; if there are several reasons, the one that is checked first
abbrev pub levels_refusal : Trees → LevelsMessage → Option HostRefusal
levels_refusal trees (FetchLevels tree first last leaf) =
    by_shape (shape_at trees tree) (λ s. unless (nat_lt leaf (2 ^ s.depth)) BadLeaf (unless (nat_le last s.depth) BadNode (unless (nat_le first last) BadLength None)))
levels_refusal trees (StoreLevels tree first leaf records) =
    by_changeable trees tree (λ s. unless (nat_lt leaf (2 ^ s.depth)) BadLeaf (unless (nat_le first s.depth) BadNode (unless (length records == levels_from s first * s.record_len) BadLength None)))

-- why a message is refused: for the trees' reason, or if they have none, because there is no room
abbrev pub MayRefuseLevels : Trees → LevelsMessage → HostRefusal → Type 0
MayRefuseLevels trees message why = (levels_refusal trees message ≡ Some why) ⊎ ((levels_refusal trees message ≡ None) × (why ≡ OutOfMemory))

-- the answer to a message, by the trees
abbrev pub RespondsToLevels : Trees → LevelsMessage → HostAnswer → Type 0
RespondsToLevels trees message (answer.Refused code) = (why : HostRefusal) × (code ≡ code_of why) × MayRefuseLevels trees message why
RespondsToLevels trees (FetchLevels tree first last leaf) (answer.Payload bytes) = levels_refusal trees (FetchLevels tree first last leaf) ≡ None
RespondsToLevels trees (StoreLevels tree first leaf records) answer.Done = levels_refusal trees (StoreLevels tree first leaf records) ≡ None
RespondsToLevels trees message given = ⊥

-- The payload of an answer has the records of a path from level `first` to level `last`, up to the first level whose node has none.
pub record GivesLevels (records : Records) (tree : ℕ) (s : TreeShape) (leaf first last : ℕ) (payload : List ℕ) : Type 0 where
  pub count : ℕ
  pub bytes : List ℕ
  pub is : payload ≡ levels_payload count bytes
  pub within : first + count ≤ last + 1
  pub are : AreLevelsOf records tree s leaf first count bytes
  pub ends : first + count ≤ last → records tree (node_on s.depth leaf (first + count)) ≡ None

-- the records of a path from level `first` on are `bytes` now, and all others are as they were
abbrev pub StoresLevels : ℕ → TreeShape → ℕ → ℕ → List ℕ → Records → Records → Type 0
StoresLevels tree s first leaf bytes old new =
    AreLevelsOf new tree s leaf first (levels_from s first) bytes × KeepsOffLevels old tree s leaf first (levels_from s first) new

-- The answer to a message, by the records before it and after it. A refused message changes none.
abbrev pub LevelsAnswers : Trees → Records → LevelsMessage → HostAnswer → Records → Type 0
LevelsAnswers trees old (FetchLevels tree first last leaf) (answer.Payload bytes) new =
    (s : TreeShape) × (shape_at trees tree ≡ Some s) × GivesLevels old tree s leaf first last bytes × AreKept old new
LevelsAnswers trees old (StoreLevels tree first leaf records) answer.Done new =
    (s : TreeShape) × (shape_at trees tree ≡ Some s) × StoresLevels tree s first leaf records old new
LevelsAnswers trees old message (answer.Refused code) new = AreKept old new
LevelsAnswers trees old message given new = ⊤

-- the content is that of a bucket file after a message was carried out over these trees and records
abbrev pub IsLevelsCarriedOut : Trees → Records → LevelsMessage → Content → Type 0
IsLevelsCarriedOut trees old (FetchLevels tree first last leaf) c = Holds trees old c
IsLevelsCarriedOut trees old (StoreLevels tree first leaf records) c =
    IsBucketFile trees c × (s : TreeShape) × (shape_at trees tree ≡ Some s) × StoresLevels tree s first leaf records old (records_in trees c)

-- The store gives this answer to a message, and is `new` afterwards. A crash meanwhile finds what was there before, or what the message
-- makes of it: all of that or nothing. If the message is refused, it finds nothing of it, unless the file has stopped.
pub record ServesLevels {F : Type 0} (model : FileModel F)
    (message : LevelsMessage) (given : HostAnswer) (old new : StoreValue F) : Type 0 where
  pub sound : new.file.has_stopped ≡ false → IsSound model new
  pub records : new.file.has_stopped ≡ false → LevelsAnswers old.trees (records_of model old) message given (records_of model new)
  pub any_moment : LeavesOnly model old.file.files new.file.files
      (Finds (model.seen old.file.files) (λ c. MayHold old.trees (sure_records model old) (records_of model old) c
      ⊎ OnlyIf (MayBeFound given new.file.has_stopped) (IsLevelsCarriedOut old.trees (records_of model old) message c)))

-- A store answers a message. A message that its trees refuse leaves the store as it was. When a STORE of levels is answered as done, its
-- effect is durable.
pub record AnswersLevels {F : Type 0} (model : FileModel F)
    (message : LevelsMessage) (given : HostAnswer) (old new : StoreValue F) : Type 0 where
  pub responds : RespondsToLevels old.trees message given
  pub trees : new.trees ≡ old.trees
  pub untouched : IsSome (levels_refusal old.trees message) → new ≡ old
  pub committed : IsGranted given → new.pending ≡ []
  pub goes_on : IsGranted given → new.file.has_stopped ≡ false
  pub full : given ≡ answer.Refused 8 → IsSomeAnd new.failure (IsReason model old.file new.file)
  pub serves : model.is_honest new.file.files → IsSound model old → ServesLevels model message given old new
