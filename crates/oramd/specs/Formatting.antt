-- The result of a formatting.
use Rattle.std.specs.Prelude.{◌≡◌, ◌⊎◌, ℕ, List}
use Rattle.oram_tree.specs.Format.{IsBrokenOff}
use Rattle.oram_tree.specs.declared.faults.FormatFault.{FormatFault}
use Rattle.oram_semantics.specs.Formatting.{IsFormatBegun}
use Rattle.oram_semantics.specs.Scheme.{Scheme}
use Rattle.oram_semantics.specs.State.{State}
use Rattle.oram_core.specs.Formatting.{IsNew}
use Rattle.oram_session.specs.Formatting.{TakesMessage, RefusesMessage}
use Rattle.oram_session.specs.Outcome.{Outcome}
use Rattle.oramd.specs.declared.faults.Fault.{Fault}
use Rattle.oramd.specs.declared.faults.Fault.TheVariants.{OutOfMemory}
use Rattle.oramd.specs.LibraryFaults.{format_fault}

-- for a link with these calls
module _ (v : Scheme) {L : Type 0} (calls : L → List ℕ → Outcome → L → Type 0) where
  -- The messages that make the device's trees went over the link, the host took each, and the core is new.
  abbrev pub IsFormatted : L → State → L → Type 0
  IsFormatted from s to = IsNew v (TakesMessage calls) from s to

  -- Only a beginning of these messages did, and the program reports this fault.
  abbrev pub IsUnformatted : L → Fault → L → Type 0
  IsUnformatted from fault to = (why : FormatFault) × (fault ≡ format_fault why)
      × IsBrokenOff (TakesMessage calls) (RefusesMessage calls) (IsFormatBegun v) from why to

  -- There is no state file: the formatting was broken off, or it was done and there was no memory for the file.
  abbrev pub GivesNoFile : L → Fault → L → Type 0
  GivesNoFile from fault to = IsUnformatted from fault to ⊎ ((s : State) × IsFormatted from s to × (fault ≡ OutOfMemory))
