-- The outcome of a request, as the bytes of its answer.
use Rattle.std.specs.Prelude.{◌≡◌, ℕ, List}
use Rattle.oram_wire.specs.declared.host_messages.HostAnswer.{HostAnswer}
use Rattle.oram_wire.specs.declared.host_messages.HostAnswer.TheVariants.{Done, Payload}
use Rattle.oram_wire.specs.declared.host_messages.HostRequest.{HostRequest}
use Rattle.oram_wire.specs.declared.host_messages.HostRequest.TheVariants as request
use Rattle.oram_host.specs.Path.{FitsAnswer, IsBehind}
use Rattle.oram_store.specs.declared.answers.Served.{Served}
use Rattle.oram_store.specs.declared.answers.Served.TheVariants as served

-- the records that a FETCH asks for come after `front` and fit in an answer; any other request is done
abbrev pub StandsBehind : List ℕ → HostRequest → Served → Type 0
StandsBehind front (request.Fetch tree leaf) (served.Records bytes) = IsBehind front FitsAnswer bytes.items
StandsBehind front (request.Fetch tree leaf) served.Done = ⊥
StandsBehind front message (served.Records bytes) = ⊥
StandsBehind front message served.Done = Unit {0}

-- the outcome of a request is this answer; its records come after `front`
abbrev pub StandsFor : List ℕ → Served → HostAnswer → Type 0
StandsFor front (served.Records bytes) answer = IsBehind front (λ records. answer ≡ Payload records) bytes.items
StandsFor front served.Done answer = answer ≡ Done
