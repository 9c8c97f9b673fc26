-- What a crash may leave of a store's records.
use Rattle.std.specs.Prelude.{◌≡◌, ◌⊎◌, Bool, Some, true, false, ⊤}
use Rattle.oram_redo.specs.Content.{Content}
use Rattle.oram_redo.specs.FilePair.{FileModel, LeavesOnly}
use Rattle.oram_wire.specs.declared.host_messages.HostAnswer.{HostAnswer}
use Rattle.oram_wire.specs.declared.host_messages.HostAnswer.TheVariants as answer
use Rattle.oram_wire.specs.declared.host_messages.HostRequest.{HostRequest}
use Rattle.oram_wire.specs.declared.host_messages.HostRequest.TheVariants as request
use Rattle.oram_layout.specs.BucketFile.{IsBucketFile}
use Rattle.oram_layout.specs.Limits.{TreeShape}
use Rattle.oram_layout.specs.Records.{AreKept, Records, records_in}
use Rattle.oram_layout.specs.Trees.{Trees, shape_at}
use Rattle.oram_store.specs.Answers.{Answers}
use Rattle.oram_store.specs.KeptRecords.{Holds, IsSound, Puts, StoreValue, Stores, records_of, sure_records}
use Rattle.oram_store.specs.Refusals.{ChangesTrees}
use Rattle.oram_store.specs.RecordFile.{Finds, OnlyIf}

-- the content is that of a bucket file after a request was carried out over these trees and records
abbrev pub IsCarriedOut : Trees → Records → HostRequest → Content → Type 0
IsCarriedOut trees old (request.Fetch tree leaf) c = Holds trees old c
IsCarriedOut trees old (request.Store tree leaf records) c =
    IsBucketFile trees c × (s : TreeShape) × (shape_at trees tree ≡ Some s) × Stores tree s leaf records old (records_in trees c)
IsCarriedOut trees old (request.Put tree node bytes) c = IsBucketFile trees c × Puts tree node bytes old (records_in trees c)
IsCarriedOut trees old (request.Shape tree depth record_len) c = (new : Trees) × ChangesTrees trees (request.Shape tree depth record_len) new × Holds new old c

-- the records that were sure, or all records that there were
abbrev pub MayHold : Trees → Records → Records → Content → Type 0
MayHold trees sure all c = Holds trees sure c ⊎ Holds trees all c

-- A crash while these PUTs are committed finds them all, or only the records that were sure.
abbrev pub CommitsPutsWhole : {F : Type 0} → FileModel F → StoreValue F → StoreValue F → Type 0
CommitsPutsWhole model old new =
    LeavesOnly model old.file.files new.file.files (Finds (model.seen old.file.files) (MayHold old.trees (sure_records model old) (records_of model old)))

-- The store has committed its PUTs, or tried to, and answers as before.
pub record CommitsPuts {F : Type 0} (model : FileModel F)
    (old new : StoreValue F) : Type 0 where
  pub sound : new.file.has_stopped ≡ false → IsSound model new
  pub records : new.file.has_stopped ≡ false → AreKept (records_of model old) (records_of model new)
  pub any_moment : CommitsPutsWhole model old new

-- A crash may find what a request makes if the request is answered as carried out, or if the file has stopped, because
-- nobody knows then.
abbrev pub MayBeFound : HostAnswer → Bool → Type 0
MayBeFound (answer.Refused code) has_stopped = has_stopped ≡ true
MayBeFound answer has_stopped = ⊤

-- A crash while this request is carried out finds what was there before, or what the request makes of it: all of that
-- or nothing. If the request is refused, it finds nothing of it, unless the file has stopped.
abbrev pub ServesWhole : {F : Type 0} → FileModel F → HostRequest → HostAnswer → StoreValue F → StoreValue F → Type 0
ServesWhole model message answer old new =
    LeavesOnly model old.file.files new.file.files
    (Finds (model.seen old.file.files) (λ c. MayHold old.trees (sure_records model old) (records_of model old) c
    ⊎ OnlyIf (MayBeFound answer new.file.has_stopped) (IsCarriedOut old.trees (records_of model old) message c)))

-- The store gives this answer to a request, and is `new` afterwards.
pub record Serves {F : Type 0} (model : FileModel F)
    (message : HostRequest) (answer : HostAnswer) (old new : StoreValue F) : Type 0 where
  pub sound : new.file.has_stopped ≡ false → IsSound model new
  pub records : new.file.has_stopped ≡ false → Answers old.trees (records_of model old) message answer (records_of model new)
  pub any_moment : ServesWhole model message answer old new
