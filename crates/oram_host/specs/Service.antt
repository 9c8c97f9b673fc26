-- What a bucket host does with any body that it is sent.
use Rattle.std.specs.Prelude.{◌≡◌, ℕ, ◌==◌, false, if◌then◌else◌, List, Option, Some, None}
use Rattle.oram_wire.specs.HostMessages.{request_body}
use Rattle.oram_wire.specs.HostBodies.{HasNumbers, IsMisfit, names_request}
use Rattle.oram_wire.specs.declared.host_messages.HostAnswer.{HostAnswer}
use Rattle.oram_wire.specs.declared.host_messages.HostAnswer.TheVariants.{Done, Payload, Refused}
use Rattle.oram_wire.specs.declared.host_messages.HostRequest.{HostRequest}
use Rattle.oram_wire.specs.declared.sinks.SinkFault.{SinkFault}
use Rattle.oram_wire.specs.declared.sinks.SinkFault.TheVariants as fault
use Rattle.oram_host.specs.Answers.{Answers}
use Rattle.oram_host.specs.Host.{Host}
use Rattle.oram_host.specs.Path.{IsBehind}
use Rattle.oram_host.specs.declared.server.Served.{Served}
use Rattle.oram_host.specs.declared.server.Served.TheVariants as served

-- The host is sent a body, gives this answer, and is `after` afterwards. It answers a request as `Answers` says; it
-- refuses any other body and stays as it is.
pub record Serves (host : Host) (body : List ℕ) (answer : HostAnswer) (after : Host) : Type 0 where
  pub request : (message : HostRequest) → HasNumbers message → body ≡ request_body message → Answers host message answer after
  pub op : names_request body ≡ false → (answer ≡ Refused 7) × (after ≡ host)
  pub misfit : IsMisfit body → (answer ≡ Refused 4) × (after ≡ host)

-- the fault that a formatting of the host has with this answer, if the answer isn't `Done`
abbrev pub fault_by : HostAnswer → Option SinkFault
fault_by Done = None
fault_by (Payload bytes) = Some fault.Refused
fault_by (Refused code) = if code == 8 then Some fault.OutOfMemory else Some fault.Refused

-- the outcome of a request is an answer that P holds of; its records come after `front`
abbrev pub StandsFor : List ℕ → Served → (HostAnswer → Type 0) → Type 0
StandsFor front (served.Records bytes) P = IsBehind front (λ records. P (Payload records)) bytes.items
StandsFor front served.Done P = P Done
