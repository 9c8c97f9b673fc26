-- A store that is served, and the tally of a connection to it.
use Rattle.oram_redo.specs.FilePair.{FileModel}
use Rattle.std.specs.Prelude.{◌≡◌, ◌≢◌, ℕ, List, false, Bool, true, Option, Some, None}
use Rattle.oram_wire.specs.HostMessages.{answer_body}
use Rattle.oram_wire.specs.declared.host_messages.HostAnswer.{HostAnswer}
use Rattle.oram_wire.specs.declared.host_messages.HostAnswer.TheVariants.{Refused}
use Rattle.oram_store.specs.FirstAnswers.{AnswersFirst}
use Rattle.oram_store.specs.KeptRecords.{StoreValue}
use Rattle.oram_store.specs.RecordFile.{Runs}
use Rattle.oram_store.specs.declared.faults.StoreFault.{StoreFault}
use Rattle.oram_store.specs.declared.faults.StoreFault.TheVariants as fault
use Rattle.oram_disk_host.specs.Tallies.{Counts}
use Rattle.oram_disk_host.specs.declared.tally.Tally.{Tally}

pub record HostedValue (F : Type 0) : Type 0 where
  pub store : StoreValue F
  pub tally : Tally

-- the file has to be opened again
abbrev pub is_lost : Option StoreFault → Bool
is_lost None = false
is_lost (Some fault.Io) = true
is_lost (Some fault.Closed) = true
is_lost (Some _) = false

-- The store gives each of these messages this answer, and the tally counts them: the body of one message, or those of STOREs and PUTs that
-- it has committed together.
pub record Serves {F : Type 0} (model : FileModel F) (before : HostedValue F) (bodies : List (List ℕ)) (answer : HostAnswer) (after : HostedValue F) : Type 0 where
  pub counts : Counts before.tally bodies (answer_body answer) after.tally
  pub answers : AnswersFirst model bodies answer before.store after.store
  pub runs : Runs model before.store.file after.store.file
  -- once the disk has failed, nothing is answered any more, until the file is opened again
  pub is_open : is_lost before.tally.failure ≡ false
  -- if there is no room, the tally says why
  pub full : answer_body answer ≡ answer_body (Refused 8) → after.tally.failure ≡ after.store.failure
  pub spare : answer_body answer ≢ answer_body (Refused 8) → after.tally.failure ≡ before.tally.failure
