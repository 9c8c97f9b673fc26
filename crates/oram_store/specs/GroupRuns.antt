-- Messages that a store answers group by group: the answer that each of them gets, and what a crash meanwhile finds.
use Rattle.std.specs.Prelude.{◌≡◌, ◌⊎◌, ℕ, false, List, [], ◌∷◌, ◌++◌, map, All}
use Rattle.std.specs.List.{flat_map}
use Rattle.oram_redo.specs.Content.{Content}
use Rattle.oram_redo.specs.FilePair.{FileModel, LeavesOnly}
use Rattle.oram_layout.specs.Records.{AreKept, Records}
use Rattle.oram_layout.specs.Trees.{Trees}
use Rattle.oram_store.specs.Crashes.{MayHold}
use Rattle.oram_store.specs.FirstAnswers.{AnswersFirst}
use Rattle.oram_store.specs.Groups.{AreCarriedOut}
use Rattle.oram_store.specs.KeptRecords.{IsSound, StoreValue, records_of, sure_records}
use Rattle.oram_store.specs.Messages.{HasItsNumbers, IsAnswered, IsDoneIn, Message, Responds, body_of}
use Rattle.oram_store.specs.RecordFile.{Finds, Runs}
use Rattle.oram_wire.specs.HostMessages.{request_body}
use Rattle.oram_wire.specs.declared.host_messages.HostAnswer.{HostAnswer}
use Rattle.oram_wire.specs.declared.host_messages.HostAnswer.TheVariants as answer
use Rattle.oram_wire.specs.declared.host_messages.HostRequest.{HostRequest}

-- a message and its answer
pub record Exchange : Type 0 where
  pub message : Message
  pub given : HostAnswer

-- the bodies of some messages that are answered together, and the answer that each of them gets
pub record Group : Type 0 where
  pub bodies : List (List ℕ)
  pub given : HostAnswer

-- The trees and the records before some messages and after the last of them, if a store gives each its answer, one after the other.
abbrev pub AreAnswered : Trees → Records → List Exchange → Trees → Records → Type 0
AreAnswered trees old [] after new = (after ≡ trees) × AreKept old new
AreAnswered trees old (one ∷ rest) after new =
    (mid_trees : Trees) × (mid : Records) × Responds trees one.message one.given mid_trees × IsAnswered trees old one.message one.given mid × AreAnswered mid_trees mid rest after new

-- a body and its answer
abbrev pub Answered : Type 0
Answered = List ℕ × HostAnswer

abbrev pub answered_body : Exchange → Answered
answered_body one = (body_of one.message, one.given)

abbrev pub answered_bodies : Group → List Answered
answered_bodies group = map (λ body. (body, group.given)) group.bodies

-- The messages of these groups are answered one after the other, each with the answer of its group.
pub record AreInTurn (groups : List Group) (trees : Trees) (old : Records) (after : Trees) (new : Records) : Type 0 where
  pub exchanges : List Exchange
  pub are : map answered_body exchanges ≡ flat_map answered_bodies groups
  pub answered : AreAnswered trees old exchanges after new

-- the body of one of the four requests, or of a message about some levels of a path
abbrev pub IsRequest : List ℕ → Type 0
IsRequest body = (message : Message) × HasItsNumbers message × (body ≡ body_of message)

abbrev pub AreRequests : List Group → Type 0
AreRequests groups = All (λ group. All IsRequest group.bodies) groups

-- A store has answered these groups, one after the other.
abbrev pub AnswersGroups : {F : Type 0} → FileModel F → List Group → StoreValue F → StoreValue F → Type 0
AnswersGroups model [] old new = new ≡ old
AnswersGroups {F} model (group ∷ rest) old new =
    (mid : StoreValue F) × AnswersFirst model group.bodies group.given old mid × Runs model old.file mid.file × AnswersGroups model rest mid new

-- The content is that of a bucket file after a group was carried out over these trees and records: all of its messages.
abbrev pub IsGroupCarriedOut : Trees → Records → Group → Content → Type 0
IsGroupCarriedOut trees old group c =
    ((message : Message) × (group.bodies ≡ body_of message ∷ []) × IsDoneIn trees old message c)
    ⊎ ((messages : List Message) × (map body_of messages ≡ group.bodies) × AreCarriedOut trees old messages c)

abbrev pub IsFirstCarriedOut : Trees → Records → List Group → Content → Type 0
IsFirstCarriedOut trees old [] c = ⊥
IsFirstCarriedOut trees old (group ∷ rest) c = IsGroupCarriedOut trees old group c

-- Some of the groups were answered, the first ones, and `at` is the store then. The content is what was there: what was sure, or all
-- that the answers were about. Or it is what the next group makes of that.
pub record FoundAtBorder {F : Type 0} (model : FileModel F) (groups : List Group) (old : StoreValue F) (c : Content) : Type 0 where
  pub first : List Group
  pub rest : List Group
  pub are : first ++ rest ≡ groups
  pub at : StoreValue F
  pub answered : AnswersGroups model first old at
  pub in_turn : AreInTurn first old.trees (records_of model old) at.trees (records_of model at)
  pub found : MayHold at.trees (sure_records model at) (records_of model at) c ⊎ IsFirstCarriedOut at.trees (records_of model at) rest c

-- Groups of messages are answered as if each message had come alone, one after the other. A crash at any moment finds the messages of
-- some first groups carried out, and nothing of the others: no group in part.
pub record GroupsInTurn {F : Type 0} (model : FileModel F) (groups : List Group) (old new : StoreValue F) : Type 0 where
  pub in_turn : new.file.has_stopped ≡ false → AreInTurn groups old.trees (records_of model old) new.trees (records_of model new)
  pub any_moment : LeavesOnly model old.file.files new.file.files (Finds (model.seen old.file.files) (FoundAtBorder model groups old))

-- a sound store has answered these groups of requests, and so they are answered in turn
pub record RunsInTurn {F : Type 0} (model : FileModel F) (groups : List Group) (old new : StoreValue F) : Type 0 where
  pub requests : AreRequests groups
  pub answered : AnswersGroups model groups old new
  pub sound : IsSound model old
  pub in_turn : GroupsInTurn model groups old new

-- two requests, answered together as done
abbrev pub both_done : HostRequest → HostRequest → List Group
both_done first second = record { bodies = request_body first ∷ request_body second ∷ []; given = answer.Done } ∷ []
