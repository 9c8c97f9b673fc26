-- STOREs and PUTs that are committed together.
use Rattle.std.specs.Prelude.{◌≡◌, ◌⊎◌, ℕ, ◌+◌, ◌*◌, ◌^◌, ◌<◌, ◌≤◌, Bool, true, false, Some, None, IsSomeAnd, List, [], ◌∷◌, length, map, take, All}
use Rattle.std.specs.Global.{Vec}
use Rattle.std.specs.List.{AllZip, flat_map, list_any}
use Rattle.oram_wire.specs.declared.host_messages.HostAnswer.{HostAnswer}
use Rattle.oram_wire.specs.declared.host_messages.HostAnswer.TheVariants as answer
use Rattle.oram_wire.specs.declared.host_messages.HostRequest.TheVariants as request
use Rattle.oram_layout.specs.BucketFile.{IsBucketFile}
use Rattle.oram_layout.specs.Changes.{level_patches, record_patch}
use Rattle.oram_layout.specs.Limits.{levels_from, nodes_of}
use Rattle.oram_layout.specs.Records.{AreKept, Records, records_in}
use Rattle.oram_layout.specs.Trees.{Trees, sizes_of, tree_at}
use Rattle.oram_levels.specs.Messages.{StoreLevels}
use Rattle.oram_redo.specs.Content.{Content}
use Rattle.oram_redo.specs.FilePair.{FileModel, LeavesOnly}
use Rattle.oram_redo.specs.Log.{Patch}
use Rattle.oram_store.specs.Answers.{IsGranted}
use Rattle.oram_store.specs.Batches.{HoldsCells}
use Rattle.oram_store.specs.Crashes.{MayBeFound, MayHold}
use Rattle.oram_store.specs.KeptRecords.{IsSound, StoreValue, records_of, sure_records}
use Rattle.oram_store.specs.LevelsAnswers.{levels_refusal}
use Rattle.oram_store.specs.Messages.{IsAnswered, Message, OfHost, OfLevels, body_of}
use Rattle.oram_store.specs.RecordFile.{Finds, IsReason, OnlyIf}
use Rattle.oram_store.specs.Refusals.{refusal_by}
use Rattle.oram_store.specs.declared.groups.Change.{Change}
use Rattle.oram_store.specs.declared.groups.Change.TheVariants as change
use Rattle.oram_store.specs.declared.groups.NodePut.{NodePut}
use Rattle.oram_store.specs.declared.groups.PathStore.{PathStore}

-- The records before some messages and after the last of them, if each gets this answer, one after the other.
abbrev pub AnswersInTurn : Trees → Records → List Message → HostAnswer → Records → Type 0
AnswersInTurn trees old [] given new = AreKept old new
AnswersInTurn trees old (message ∷ rest) given new = (mid : Records) × IsAnswered trees old message given mid × AnswersInTurn trees mid rest given new

-- the content is that of a bucket file after all of these messages were done
abbrev pub AreCarriedOut : Trees → Records → List Message → Content → Type 0
AreCarriedOut trees old messages c = IsBucketFile trees c × AnswersInTurn trees old messages answer.Done (records_in trees c)

-- A crash while these messages are carried out finds what was there before the first of them, or what is there after the last. If
-- they are refused, it finds nothing of them, unless the file has stopped.
abbrev pub ServesGroupWhole : {F : Type 0} → FileModel F → List Message → HostAnswer → StoreValue F → StoreValue F → Type 0
ServesGroupWhole model messages given old new =
    LeavesOnly model old.file.files new.file.files
    (Finds (model.seen old.file.files) (λ c. MayHold old.trees (sure_records model old) (records_of model old) c
    ⊎ OnlyIf (MayBeFound given new.file.has_stopped) (AreCarriedOut old.trees (records_of model old) messages c)))

-- The store gives each of these messages this answer, and is `new` afterwards.
pub record ServesGroup {F : Type 0} (model : FileModel F)
    (messages : List Message) (given : HostAnswer) (old new : StoreValue F) : Type 0 where
  pub sound : new.file.has_stopped ≡ false → IsSound model new
  pub records : new.file.has_stopped ≡ false → AnswersInTurn old.trees (records_of model old) messages given (records_of model new)
  pub any_moment : ServesGroupWhole model messages given old new

-- a STORE, of a path or of levels, or a PUT that the trees don't refuse
abbrev pub IsAcceptedChange : Trees → Message → Type 0
IsAcceptedChange trees (OfHost (request.Store tree leaf records)) = (leaf < 2 ^ 32) × (refusal_by trees (request.Store tree leaf records) ≡ None)
IsAcceptedChange trees (OfHost (request.Put tree node bytes)) = (node < 2 ^ 32) × (refusal_by trees (request.Put tree node bytes) ≡ None)
IsAcceptedChange trees (OfLevels (StoreLevels tree first leaf records)) = (leaf < 2 ^ 32) × (levels_refusal trees (StoreLevels tree first leaf records) ≡ None)
IsAcceptedChange trees message = ⊥

-- a STORE of a path or of levels
abbrev pub is_store : Message → Bool
is_store (OfHost (request.Store tree leaf records)) = true
is_store (OfLevels (StoreLevels tree first leaf records)) = true
is_store message = false

-- Messages at the front of a list that can be answered together: STOREs and PUTs that the trees don't refuse, at most 32, with a STORE
-- among them.
pub record AreAtFront (trees : Trees) (bodies : List (List ℕ)) (messages : List Message) : Type 0 where
  pub are : map body_of messages ≡ take (length messages) bodies
  pub accepted : All (IsAcceptedChange trees) messages
  pub few : length messages ≤ 32
  pub has_store : list_any is_store messages ≡ true

-- the answer to STOREs and PUTs that the trees don't refuse: all are done, or there is no room for them
abbrev pub IsDoneOrFull : HostAnswer → Type 0
IsDoneOrFull given = (given ≡ answer.Done) ⊎ (given ≡ answer.Refused 8)

-- A store has given the same answer to these bodies. They are STOREs and PUTs that its trees don't refuse, with a STORE among them. If
-- they are done, all of them are durable, the PUTs too.
pub record AnswersGroup {F : Type 0} (model : FileModel F)
    (bodies : List (List ℕ)) (given : HostAnswer) (old new : StoreValue F) : Type 0 where
  pub messages : List Message
  pub are : map body_of messages ≡ bodies
  pub accepted : All (IsAcceptedChange old.trees) messages
  pub has_store : list_any is_store messages ≡ true
  pub either : IsDoneOrFull given
  pub trees : new.trees ≡ old.trees
  pub committed : IsGranted given → new.pending ≡ []
  pub goes_on : IsGranted given → new.file.has_stopped ≡ false
  pub full : given ≡ answer.Refused 8 → IsSomeAnd new.failure (IsReason model old.file new.file)
  pub serves : model.is_honest new.file.files → IsSound model old → ServesGroup model messages given old new

-- ---- the messages of a group, as the program has them

abbrev pub message_of : Change → Message
message_of (change.Store store) = OfHost (request.Store store.number store.leaf store.records.now)
message_of (change.StoreLevels store) = OfLevels (StoreLevels store.number store.first store.leaf store.records.now)
message_of (change.Put put) = OfHost (request.Put put.number put.node put.bytes.now)

-- how many levels of the path a STORE replaces
abbrev pub levels_of : PathStore → ℕ
levels_of store = levels_from (sizes_of store.tree.shape) store.first

-- the leaf, the first level and the records are those of a path of the tree
pub record FitsPath (store : PathStore) : Type 0 where
  pub leaf : store.leaf < 2 ^ store.tree.shape.depth
  pub first : store.first ≤ store.tree.shape.depth
  pub whole : length store.records.now ≡ levels_of store * store.tree.shape.record_len

-- the node and the record are those of a node of the tree
pub record FitsNode (put : NodePut) : Type 0 where
  pub node : put.node < nodes_of (sizes_of put.tree.shape)
  pub whole : length put.bytes.now ≡ put.tree.shape.record_len

abbrev pub FitsTree : Change → Type 0
FitsTree (change.Store store) = FitsPath store × (store.first ≡ 0)
FitsTree (change.StoreLevels store) = FitsPath store
FitsTree (change.Put put) = FitsNode put

-- its tree is that of its number
abbrev pub IsOfTrees : Trees → Change → Type 0
IsOfTrees trees (change.Store store) = tree_at trees store.number ≡ Some store.tree
IsOfTrees trees (change.StoreLevels store) = tree_at trees store.number ≡ Some store.tree
IsOfTrees trees (change.Put put) = tree_at trees put.number ≡ Some put.tree

-- the patches of a STORE, of a message, and of all messages
abbrev pub store_patches : PathStore → List Patch
store_patches store = level_patches store.tree store.leaf store.first store.records.now 0 (levels_of store)

abbrev pub change_patches : Change → List Patch
change_patches (change.Store store) = store_patches store
change_patches (change.StoreLevels store) = store_patches store
change_patches (change.Put put) = record_patch put.tree put.node put.bytes.now ∷ []

abbrev pub group_patches : List Change → List Patch
group_patches changes = flat_map change_patches changes

-- the cells of a message: its records, each after the byte that says that it is there
abbrev pub HoldsPathCells : List ℕ → PathStore → Type 0
HoldsPathCells cells store =
    (length cells ≡ levels_of store * (store.tree.shape.record_len + 1)) × HoldsCells cells store.tree.shape.record_len store.records.now (levels_of store)

abbrev pub HoldsCellsOf : List ℕ → Change → Type 0
HoldsCellsOf cells (change.Store store) = HoldsPathCells cells store
HoldsCellsOf cells (change.StoreLevels store) = HoldsPathCells cells store
HoldsCellsOf cells (change.Put put) = cells ≡ 1 ∷ put.bytes.now

abbrev pub HoldsCellsIn : Vec ℕ → Change → Type 0
HoldsCellsIn cells change = HoldsCellsOf cells.items change

-- each message has its cells
abbrev pub HoldGroupCells : List (Vec ℕ) → List Change → Type 0
HoldGroupCells cells changes = AllZip HoldsCellsIn cells changes
