-- A host that may answer anything, compared with an honest one that receives the same messages.
use Rattle.std.specs.Prelude.{◌≡◌, ◌≢◌, ◌⊎◌, ℕ, true, List, map, Some, None}
use Rattle.oram_geometry.specs.Sizes.{IsDevice}
use Rattle.oram_hash.specs.Tree.{Collides}
use Rattle.oram_wire.specs.declared.host_messages.HostAnswer.{HostAnswer}
use Rattle.oram_wire.specs.declared.host_messages.HostAnswer.TheVariants.{Refused}
use Rattle.oram_host.specs.Host.{Host}
use Rattle.oram_host.specs.Service.{Serves}
use Rattle.oram_semantics.specs.Answers.{answered_path, is_payload}
use Rattle.oram_semantics.specs.Events.{failed_reply}
use Rattle.oram_semantics.specs.Law.{IsServing, StepsByRule}
use Rattle.oram_semantics.specs.Messages.{requested}
use Rattle.oram_semantics.specs.Progress.Status.{Waiting}
use Rattle.oram_semantics.specs.Run.{Shown}
use Rattle.oram_semantics.specs.Scheme.{Scheme}
use Rattle.oram_semantics.specs.State.{State, World, status_in}
use Rattle.oram_semantics.specs.declared.events.Event.TheVariants.{Answer}
use Rattle.oram_semantics.specs.declared.events.Reason.{Reason}
use Rattle.oram_host_laws.specs.Honest.{KeepsTree}
use Rattle.oram_host_laws.specs.HostRecords.{Hosts, GoesOnHosted}

-- The answer has the records of the requested path, and the first of them that isn't the one that the honest host
-- keeps there has the same digest as that one.
pub record ShowsPair (v : Scheme) (host : Host) (message bytes : List ℕ) : Type 0 where
  pub payload : is_payload v (requested message) bytes ≡ true
  pub records : ℕ → List ℕ
  pub kept : KeepsTree v (requested message).tree records host
  pub pair : Collides records (answered_path v (requested message) bytes)

-- The message is answered with these bytes, whatever they are. The honest host receives the message too, and has room
-- for it. The answer shows no two records with the same digest.
pub record IsLie (v : Scheme) (host : Host) (message bytes : List ℕ) (after : Host) : Type 0 where
  pub answer : HostAnswer
  pub heard : Serves host message answer after
  pub room : answer ≢ Refused 8
  pub apart : ¬ ShowsPair v host message bytes

-- the device fails, and each command without a reply is answered as failed
pub record FailsAll (s : State) (x : Shown) (t : State) : Type 0 where
  pub reason : Reason
  pub failure : t.failure ≡ Some reason
  pub replies : x.replies ≡ map failed_reply s.queue

-- Whatever a host answers, a core that serves an array over the honest host still serves it, or fails.
abbrev pub LyingHostsFail : Type 0
LyingHostsFail = (v : Scheme) (s t : State) (w : World) (array : ℕ → List ℕ) (bytes : List ℕ) (x : Shown) (host after : Host)
    → IsDevice v.device → s.failure ≡ None → status_in s ≡ Waiting → IsServing v s w array → Hosts v s w host
    → StepsByRule v s (Answer bytes) x t → IsLie v host s.message bytes after
    → GoesOnHosted v (record { before = s; world = w; array = array; event = Answer bytes; shown = x; after = t; host = after })
    ⊎ FailsAll s x t
