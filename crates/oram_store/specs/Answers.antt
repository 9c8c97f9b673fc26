-- The answers of a store, by its records.
use Rattle.std.specs.Prelude.{◌≡◌, Some, Result, Ok, Err, ⊤}
use Rattle.oram_wire.specs.declared.host_messages.HostAnswer.{HostAnswer}
use Rattle.oram_wire.specs.declared.host_messages.HostAnswer.TheVariants as answer
use Rattle.oram_wire.specs.declared.host_messages.HostRequest.{HostRequest}
use Rattle.oram_wire.specs.declared.host_messages.HostRequest.TheVariants as request
use Rattle.oram_layout.specs.Limits.{TreeShape}
use Rattle.oram_layout.specs.Records.{AreKept, IsPathOf, LacksOn, Records}
use Rattle.oram_layout.specs.Trees.{Trees, shape_at}
use Rattle.oram_store.specs.KeptRecords.{Puts, Stores}
use Rattle.oram_store.specs.declared.faults.StoreFault.{StoreFault}

-- The answer to a request, by the records before it and after it. A refused request changes none. The trees give all
-- other reasons to refuse a request.
abbrev pub Answers : Trees → Records → HostRequest → HostAnswer → Records → Type 0
Answers trees old (request.Fetch tree leaf) (answer.Payload bytes) new =
    (s : TreeShape) × (shape_at trees tree ≡ Some s) × IsPathOf old tree s leaf bytes × AreKept old new
Answers trees old (request.Fetch tree leaf) (answer.Refused code) new = (code ≡ 6 → (s : TreeShape) × (shape_at trees tree ≡ Some s) × LacksOn old tree s leaf) × AreKept old new
Answers trees old (request.Store tree leaf records) answer.Done new =
    (s : TreeShape) × (shape_at trees tree ≡ Some s) × Stores tree s leaf records old new
Answers trees old (request.Put tree node bytes) answer.Done new = Puts tree node bytes old new
Answers trees old (request.Shape tree depth record_len) answer.Done new = AreKept old new
Answers trees old message (answer.Refused code) new = AreKept old new
Answers trees old message answer new = ⊤

-- a request that is committed before it is answered as done
abbrev pub IsKeptAtOnce : HostRequest → Type 0
IsKeptAtOnce (request.Store tree leaf records) = ⊤
IsKeptAtOnce (request.Shape tree depth record_len) = ⊤
IsKeptAtOnce (request.Fetch tree leaf) = ⊤
IsKeptAtOnce (request.Put tree node bytes) = ⊥

-- a request that was carried out
abbrev pub IsGranted : HostAnswer → Type 0
IsGranted answer.Done = ⊤
IsGranted (answer.Payload bytes) = ⊤
IsGranted (answer.Refused code) = ⊥

-- the answer to a request that asks for no records, by its outcome: it is done, or there is no room
abbrev pub answer_by : Result Unit StoreFault → HostAnswer
answer_by (Ok _) = answer.Done
answer_by (Err _) = answer.Refused 8
