-- A link as a sink for the messages that format its host.
use Rattle.std.specs.Prelude.{◌≡◌, ◌≢◌, ℕ, List, Ok, Err}
use Rattle.oram_wire.specs.declared.sinks.SinkFault.{SinkFault}
use Rattle.oram_wire.specs.declared.sinks.SinkFault.TheVariants as sink
use Rattle.oram_session.specs.Outcome.{Outcome}
use Rattle.oram_session.specs.declared.link.LinkFault.{LinkFault}
use Rattle.oram_session.specs.declared.link.LinkFault.TheVariants.{Io, Closed, TooLong, TooLarge, OutOfMemory}
use Rattle.oram_wire.specs.HostMessages.{done_answer}

-- the fault of the sink that a fault of the link becomes
abbrev pub sink_fault : LinkFault → SinkFault
sink_fault Io = sink.Link
sink_fault Closed = sink.Link
sink_fault TooLong = sink.Link
sink_fault TooLarge = sink.Link
sink_fault OutOfMemory = sink.OutOfMemory

-- the fault that a formatting reports for a call: for any answer but 0x80 alone, or for a fault of the link
abbrev pub IsReportedAs : Outcome → SinkFault → Type 0
IsReportedAs (Ok bytes) fault = (bytes ≢ done_answer) × (fault ≡ sink.Refused)
IsReportedAs (Err why) fault = fault ≡ sink_fault why

-- over a link with this relation of calls
module _ {L : Type 0} (calls : L → List ℕ → Outcome → L → Type 0) where
  -- the message was answered with 0x80 alone
  abbrev pub TakesMessage : L → List ℕ → L → Type 0
  TakesMessage l message m = calls l message (Ok done_answer) m

  -- the message wasn't answered with 0x80 alone
  abbrev pub RefusesMessage : L → List ℕ → SinkFault → L → Type 0
  RefusesMessage l message fault m = (outcome : Outcome) × calls l message outcome m × IsReportedAs outcome fault
