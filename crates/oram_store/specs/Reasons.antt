-- Why there was no room for a request.
use Rattle.oram_redo.specs.FilePair.{FileModel}
use Rattle.std.specs.Prelude.{◌≡◌, ◌⊎◌, ◌+◌, ◌^◌, ◌<◌, IsSomeAnd}
use Rattle.oram_wire.specs.declared.host_messages.HostRequest.{HostRequest}
use Rattle.oram_wire.specs.declared.host_messages.HostRequest.TheVariants as request
use Rattle.oram_layout.specs.Limits.{cells_len}
use Rattle.oram_layout.specs.Trees.{Trees, next_of}
use Rattle.oram_store.specs.KeptRecords.{StoreValue}
use Rattle.oram_store.specs.RecordFile.{IsReason}
use Rattle.oram_store.specs.declared.faults.StoreFault.{StoreFault}
use Rattle.oram_store.specs.declared.faults.StoreFault.TheVariants.{NoRoom}

-- the request is for a tree whose cells would end after the last place of a file
abbrev pub HasNoPlace : Trees → HostRequest → Type 0
HasNoPlace trees (request.Shape tree depth record_len) = 2 ^ 62 < next_of trees + cells_len (record { depth = depth; record_len = record_len })
HasNoPlace trees message = ⊥

-- Why a request that the trees don't refuse wasn't carried out: a call of the file gives the reason, or there is no
-- place for a tree.
abbrev pub IsReasonFor : {F : Type 0} → FileModel F → StoreValue F → StoreValue F → HostRequest → StoreFault → Type 0
IsReasonFor model old new message fault = IsReason model old.file new.file fault ⊎ ((fault ≡ NoRoom) × HasNoPlace old.trees message)

-- the store reports such a reason
abbrev pub ReportsWhy : {F : Type 0} → FileModel F → StoreValue F → StoreValue F → HostRequest → Type 0
ReportsWhy model old new message = IsSomeAnd new.failure (IsReasonFor model old new message)
