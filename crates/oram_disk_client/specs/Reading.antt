-- How a reading of a whole disk ends.
use Rattle.std.specs.Prelude.{◌≡◌, ◌⊎◌, ℕ, zero, suc, Bool, true, false, List, MatchBool, Ok, Option, None, string_bytes}
use Rattle.oram_client.specs.declared.dialer.Trouble.{Trouble}
use Rattle.oram_disk_client.specs.Faults.{IsAbout}
use Rattle.oram_disk_client.specs.Serving.{IsHostFault}
use Rattle.oram_disk_client.specs.declared.reading_ends.ExportEnd.{ExportEnd}
use Rattle.oram_disk_client.specs.declared.reading_ends.ExportEnd.TheVariants.{Given, Discarded, GivenInPart}
use Rattle.oram_disk_host.specs.declared.faults.Fault.{Fault}
use Rattle.oram_disk_host.specs.declared.faults.Fault.TheVariants.{OutOfMemory}
use Rattle.oram_disk_host.specs.declared.kinds.FaultKind.TheVariants as kind
use Rattle.oram_export.specs.declared.read_fault.ReadFault.{ReadFault}
use Rattle.oram_export.specs.declared.read_fault.ReadFault.TheVariants as read
use Rattle.oram_link_laws.specs.Runs.{Exchange}
use Rattle.oram_near.specs.EmptyRecords.{WithRest}
use Rattle.oram_near.specs.NearCalls.{NearValue}
use Rattle.oram_rounds.specs.Batches.{BatchOutcome}
use Rattle.oram_rounds.specs.Rounds.{AreDone}
use Rattle.oram_rows.specs.RowsLink.{RowsValue, over}
use Rattle.oram_session.specs.declared.link.LinkFault.TheVariants as link
use Rattle.oram_settings.specs.declared.disk_file.DiskSettings.{DiskSettings}

-- what becomes of an image, by how many records are lost, and whether it may lack what was in them
abbrev pub end_of : ℕ → Bool → ExportEnd
end_of zero is_salvage = Given
end_of (suc n) true = GivenInPart
end_of (suc n) false = Discarded

-- the program's fault for a reading that stopped, by the trouble of its link; a sink that stopped has its own fault
abbrev pub IsReadFault : ReadFault → Option Trouble → DiskSettings → Fault → Type 0
IsReadFault read.Failed trouble settings fault = IsAbout kind.Failed (string_bytes settings.state) fault
IsReadFault (read.Link link.OutOfMemory) trouble settings fault = fault ≡ OutOfMemory
IsReadFault (read.Link why) trouble settings fault = IsHostFault trouble settings fault
IsReadFault (read.Refused code) trouble settings fault = IsAbout kind.OtherAnswer (string_bytes settings.host) fault
IsReadFault read.BadAnswer trouble settings fault = IsAbout kind.OtherAnswer (string_bytes settings.host) fault
IsReadFault read.BrokenBucket trouble settings fault = IsAbout kind.OtherAnswer (string_bytes settings.host) fault
IsReadFault read.SinkStopped trouble settings fault = fault ≡ OutOfMemory
IsReadFault read.OutOfMemory trouble settings fault = fault ≡ OutOfMemory

-- whether the STOREs of a state aren't those of its disk, if sending them had this fault: their link refuses them, and hasn't given up
abbrev pub are_foreign : ReadFault → Option Trouble → Bool
are_foreign (read.Link link.Closed) None = true
are_foreign fault trouble = false

-- the program's fault for STOREs that weren't carried out before a reading
abbrev pub IsStoreFault : ReadFault → Option Trouble → DiskSettings → Fault → Type 0
IsStoreFault why trouble settings fault = MatchBool (are_foreign why trouble) (IsAbout kind.NotADisk (string_bytes settings.state) fault) (IsReadFault why trouble settings fault)

-- The host has carried out the STOREs, which a link for whole paths has sent unless there are none. This is the link over which the disk is
-- read then: it completes rows by the near records with those of the STOREs.
pub record IsWholeLink {B E : Type 0} (batches : NearValue B (WithRest E) → List (List ℕ) → BatchOutcome → List Exchange → NearValue B (WithRest E) → Type 0)
    (l : NearValue B (WithRest E)) (stores : List (List ℕ)) (whole : RowsValue B E) : Type 0 where
  pub settled : NearValue B (WithRest E)
  pub is : whole ≡ over settled
  pub sent : (settled ≡ l) ⊎ ((answers : List (List ℕ)) × (exchanges : List Exchange) × batches l stores (Ok answers) exchanges settled × AreDone answers)
