-- Links to an honest host, and to one that may lie. Over the former, a session's replies are those of a plain array.
use Rattle.std.specs.Prelude.{◌≡◌, ◌≢◌, ◌⊎◌, ℕ, ◌≤◌, Bool, true, List, [], ◌∷◌, replicate, Some, None, Ok, Err}
use Rattle.std.specs.List.{FoldsTo}
use Rattle.oram_geometry.specs.declared.Sizes.{Sizes}
use Rattle.oram_geometry.specs.Sizes.{IsDevice}
use Rattle.oram_wire.specs.HostMessages.{answer_body}
use Rattle.oram_wire.specs.HostBodies.{IsAnswer}
use Rattle.oram_wire.specs.declared.host_messages.HostAnswer.{HostAnswer}
use Rattle.oram_wire.specs.declared.session_messages.SessionReply.{SessionReply}
use Rattle.oram_wire.specs.declared.session_messages.SessionReply.TheVariants.{Refused}
use Rattle.oram_wire.specs.declared.session_messages.SessionRequest.{SessionRequest}
use Rattle.oram_host.specs.Host.{Host}
use Rattle.oram_host.specs.Service.{Serves}
use Rattle.oram_semantics.specs.Blocks.{body_from}
use Rattle.oram_semantics.specs.Events.{address_of, refusal_number}
use Rattle.oram_semantics.specs.Law.{IsServing}
use Rattle.oram_semantics.specs.ArrayReplies.{array_after}
use Rattle.oram_semantics.specs.Scheme.{Scheme}
use Rattle.oram_semantics.specs.State.{State, World}
use Rattle.oram_semantics.specs.declared.events.Command.{Command}
use Rattle.oram_semantics.specs.declared.events.Reason.{Reason}
use Rattle.oram_semantics.specs.declared.events.Refusal.{Refusal}
use Rattle.oram_semantics.specs.declared.events.Refusal.TheVariants.{Failed}
use Rattle.oram_semantics.specs.declared.events.Submission.{Submission}
use Rattle.oram_core.specs.Formatting.{IsNew}
use Rattle.oram_host_laws.specs.Honest.{HeardOrNot}
use Rattle.oram_host_laws.specs.HostRecords.{Hosts}
use Rattle.oram_host_laws.specs.AnyHost.{IsLie}
use Rattle.oram_session.specs.Formatting.{TakesMessage}
use Rattle.oram_session.specs.Outcome.{Outcome}
use Rattle.oram_session.specs.Requests.{IsRequest, IsNoRequest, command_of, session_reply}
use Rattle.oram_session.specs.CoreWork.{HasNoWork}
use Rattle.oram_session.specs.Turns.{Turn, IsTurn}

-- A call gives the host's answer; if the call has a fault, the host may have received the message or not.
abbrev pub IsHonestCall : Host → List ℕ → Outcome → Host → Type 0
IsHonestCall host body (Ok bytes) after =
    (answer : HostAnswer) × IsAnswer answer × (bytes ≡ answer_body answer) × Serves host body answer after
IsHonestCall host body (Err fault) after = HeardOrNot body host after

-- each call of the link is honest; `host_of` gives the host behind it
abbrev pub IsHonestLink : {L : Type 0} → (L → List ℕ → Outcome → L → Type 0) → (L → Host) → Type 0
IsHonestLink {L} calls host_of = (l m : L) (body : List ℕ) (o : Outcome) → calls l body o m → IsHonestCall (host_of l) body o (host_of m)

-- With a host that may lie: an honest host receives each message too, and a call gives that host's answer, or a lie.
abbrev pub IsHeardCall : Bool → Scheme → Host → List ℕ → Outcome → Host → Type 0
IsHeardCall may_lie v host body o after =
    IsHonestCall host body o after ⊎ ((may_lie ≡ true) × (bytes : List ℕ) × (o ≡ Ok bytes) × IsLie v host body bytes after)

abbrev pub IsHeardLink : Bool → Scheme → {L : Type 0} → (L → List ℕ → Outcome → L → Type 0) → (L → Host) → Type 0
IsHeardLink may_lie v {L} calls host_of = (l m : L) (body : List ℕ) (o : Outcome) → calls l body o m → IsHeardCall may_lie v (host_of l) body o (host_of m)

-- the array's reply to a command, or a refusal because of the command itself, never because the device failed
abbrev pub IsArrayReply : Sizes → Command → (ℕ → List ℕ) → SessionReply → (ℕ → List ℕ) → Type 0
IsArrayReply d c array reply after =
    ((reply ≡ session_reply (body_from (array (address_of c)) c)) × (after ≡ array_after d c array))
    ⊎ ((why : Refusal) × (why ≢ Failed) × (reply ≡ Refused (refusal_number why)) × (after ≡ array))

-- the array answers a request and becomes `after`
abbrev pub IsArrayTurn : Sizes → (ℕ → List ℕ) → Turn → (ℕ → List ℕ) → Type 0
IsArrayTurn d array turn after =
    (IsNoRequest turn.body × (turn.reply ≡ Refused 7) × (after ≡ array))
    ⊎ ((message : SessionRequest) × IsRequest turn.body message × IsArrayReply d (command_of message) array turn.reply after)

-- Between two requests: the core is idle, its trees stand in a world, agree there and hold the array, and the host
-- behind the link keeps the world's records.
pub record IsHeld (v : Scheme) {L : Type 0} (host_of : L → Host) (p : State × L) (array : ℕ → List ℕ) : Type 0 where
  pub no_work : HasNoWork p.0
  pub alive : p.0.failure ≡ None
  pub world : World
  pub serving : IsServing v p.0 world array
  pub hosts : Hosts v p.0 world (host_of p.1)

-- One command is at work on a device that held the array before the command, and the host behind the link keeps the
-- world's records.
pub record IsBusy (v : Scheme) {L : Type 0} (host_of : L → Host) (p : State × L) (x : Submission) (array : ℕ → List ℕ) : Type 0 where
  pub alive : p.0.failure ≡ None
  pub queue : p.0.queue ≡ x ∷ []
  pub world : World
  pub serving : IsServing v p.0 world array
  pub hosts : Hosts v p.0 world (host_of p.1)

-- The device has failed, for whatever reason.
abbrev pub HasFailed : State → Type 0
HasFailed s = (reason : Reason) × (s.failure ≡ Some reason)

-- A device that was formatted over an honest link to a host that kept nothing is held between requests, with an array
-- of zeros.
abbrev pub NewDevicesHoldZeros : {L : Type 0} → (L → List ℕ → Outcome → L → Type 0) → Type 0
NewDevicesHoldZeros {L} calls = (host_of : L → Host) → IsHonestLink calls host_of
    → (v : Scheme) (from to : L) (s : State) → v.cipher.overhead ≤ 64 → host_of from ≡ [] → IsNew v (TakesMessage calls) from s to
    → IsHeld v host_of (s, to) (λ a. replicate v.device.block_bytes 0)

-- Over an honest link each turn is one of the array, and afterwards the device is held between requests again.
abbrev pub SessionsAreTheArrays : {L : Type 0} → (L → List ℕ → Outcome → L → Type 0) → Type 0
SessionsAreTheArrays {L} calls = (host_of : L → Host) → IsHonestLink calls host_of
    → (v : Scheme) (words : ℕ → ℕ → List ℕ) (session : ℕ) (p q : State × L) (turns : List Turn) (array : ℕ → List ℕ) → IsDevice v.device
    → IsHeld v host_of p array → FoldsTo {P = State × L} (IsTurn v calls words session) p turns q
    → (after : ℕ → List ℕ) × FoldsTo {P = ℕ → List ℕ} (IsArrayTurn v.device) array turns after × IsHeld v host_of q after
