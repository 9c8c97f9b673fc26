-- A host beside a link: it goes through the exchanges of the link, and isn't a function of the link's value. A link over
-- sockets may give any answer, so no function of its value is the host at its other end.
use Rattle.std.specs.Prelude.{ℕ, ◌≤◌, Bool, List, [], map, replicate, Ok}
use Rattle.std.specs.List.{FoldsTo, flat_map}
use Rattle.oram_geometry.specs.Sizes.{IsDevice}
use Rattle.oram_host.specs.Host.{Host}
use Rattle.oram_semantics.specs.Scheme.{Scheme}
use Rattle.oram_semantics.specs.State.{State}
use Rattle.oram_core.specs.Formatting.{IsNew}
use Rattle.oram_session.specs.Exchanges.{Delivery, outcomes_of}
use Rattle.oram_session.specs.Formatting.{TakesMessage}
use Rattle.oram_session.specs.Honesty.{IsArrayTurn, IsHeardCall, IsHeardLink, IsHeld, IsHonestCall, IsHonestLink, SessionsAreTheArrays}
use Rattle.oram_session.specs.Outcome.{Outcome}
use Rattle.oram_session.specs.Turns.{Turn, IsTurn}
use Rattle.oram_wire.specs.HostMessages.{done_answer}

-- a message, and the outcome of the call with it
abbrev pub Exchange : Type 0
Exchange = List ℕ × Outcome

-- the host is honest in each of these exchanges, one after the other, and then is `after`
abbrev pub HostRun : Host → List Exchange → Host → Type 0
HostRun host exchanges after = FoldsTo {P = Host} {A = Exchange} (λ h e g. IsHonestCall h e.0 e.1 g) host exchanges after

-- the same, but if `may_lie` is true, an exchange may also be a lie about a message that the host received
abbrev pub HeardRun : Bool → Scheme → Host → List Exchange → Host → Type 0
HeardRun may_lie v host exchanges after = FoldsTo {P = Host} {A = Exchange} (λ h e g. IsHeardCall may_lie v h e.0 e.1 g) host exchanges after

-- the messages of the exchanges
abbrev pub bodies_of : List Exchange → List (List ℕ)
bodies_of exchanges = map {A = Exchange} (λ e. e.0) exchanges

-- the exchanges in which each of these bodies was answered with the one byte 0x80
abbrev pub acknowledged : List (List ℕ) → List Exchange
acknowledged bodies = map {B = Exchange} (λ body. (body, Ok done_answer)) bodies

-- the exchanges of the calls with one message
abbrev pub exchanges_of : Delivery → List Exchange
exchanges_of x = map {B = Exchange} (λ o. (x.message, o)) (outcomes_of x)

-- the exchanges of all calls in a session, including those that stalled
abbrev pub exchanges_in : List Turn → List Exchange
exchanges_in turns = flat_map (λ t. flat_map exchanges_of t.sendings) turns

-- the link's calls have these exchanges, one after the other
abbrev pub LinkRun : {L : Type 0} → (L → List ℕ → Outcome → L → Type 0) → L → List Exchange → L → Type 0
LinkRun {L} calls l exchanges m = FoldsTo {P = L} {A = Exchange} (λ a e b. calls a e.0 e.1 b) l exchanges m

-- Between two requests: the core is idle, its trees stand in a world, agree there and hold the array, and this host keeps
-- the world's records.
abbrev pub IsHeldBy : Scheme → State → Host → (ℕ → List ℕ) → Type 0
IsHeldBy v s host array = IsHeld v {L = Host} (λ h. h) (s, host) array

-- A pair of a link and a host: each call is one of the link, and the host behaves in it as `by` says.
abbrev pub Beside : {L : Type 0} → (L → List ℕ → Outcome → L → Type 0) → (Host → List ℕ → Outcome → Host → Type 0)
    → L × Host → List ℕ → Outcome → L × Host → Type 0
Beside calls by p body o q = calls p.0 body o q.0 × by p.1 body o q.1

-- Whatever the link is: if a device was formatted over it, and a host kept nothing before and acknowledged the messages of
-- the formatting, that host keeps what the device holds, an array of zeros.
abbrev pub NewDevicesHoldZerosBeside : {L : Type 0} → (L → List ℕ → Outcome → L → Type 0) → Type 0
NewDevicesHoldZerosBeside {L} calls = (v : Scheme) (from to : L) (s : State) (host : Host) → v.cipher.overhead ≤ 64
    → (new : IsNew v (TakesMessage calls) from s to) → HostRun [] (acknowledged new.format) host
    → IsHeldBy v s host (λ a. replicate v.device.block_bytes 0)

-- Whatever the link is: if a host keeps what the device holds, and is honest in the exchanges of a session, the session's
-- replies are those of the array, and afterwards the host keeps what the device holds.
abbrev pub SessionsAreTheArraysBeside : {L : Type 0} → (L → List ℕ → Outcome → L → Type 0) → Type 0
SessionsAreTheArraysBeside {L} calls = (v : Scheme) (words : ℕ → ℕ → List ℕ) (session : ℕ) (p q : State × L) (turns : List Turn) (host left : Host) (array : ℕ → List ℕ)
    → IsDevice v.device → IsHeldBy v p.0 host array → FoldsTo {P = State × L} (IsTurn v calls words session) p turns q
    → HostRun host (exchanges_in turns) left
    → (after : ℕ → List ℕ) × FoldsTo {P = ℕ → List ℕ} (IsArrayTurn v.device) array turns after × IsHeldBy v q.0 left after

-- If a function of the link's value gives the honest host behind it, that host is honest in the exchanges of a session.
abbrev pub HonestLinksAreRun : {L : Type 0} → (L → List ℕ → Outcome → L → Type 0) → Type 0
HonestLinksAreRun {L} calls = (host_of : L → Host) → IsHonestLink calls host_of
    → (v : Scheme) (words : ℕ → ℕ → List ℕ) (session : ℕ) (p q : State × L) (turns : List Turn)
    → FoldsTo {P = State × L} (IsTurn v calls words session) p turns q → HostRun (host_of p.1) (exchanges_in turns) (host_of q.1)

-- The law about hosts beside a link gives the law about a host that is a function of the link's value.
abbrev pub BesideGivesInside : {L : Type 0} → (L → List ℕ → Outcome → L → Type 0) → Type 0
BesideGivesInside {L} calls = SessionsAreTheArraysBeside calls → SessionsAreTheArrays calls

-- some turns of a session, and the core, the link and the host beside it, before and after them
pub record TurnsBeside (L : Type 0) : Type 0 where
  pub before : State × L
  pub host : Host  -- the host before the turns
  pub turns : List Turn
  pub after : State × L
  pub left : Host  -- the host after the turns

-- A session beside a host that receives each message and may lie is a session over one link, the pair of the link and that
-- host. The host is a function of the pair's value, so every law about links to such a host holds of the host
-- beside the link.
pub record IsSessionBeside (may_lie : Bool) (v : Scheme) {L : Type 0} (calls : L → List ℕ → Outcome → L → Type 0) (words : ℕ → ℕ → List ℕ) (session : ℕ)
    (t : TurnsBeside L) : Type 0 where
  pub heard : IsHeardLink may_lie v {L = L × Host} (Beside calls (IsHeardCall may_lie v)) (λ l. l.1)
  pub session_of : FoldsTo {P = State × (L × Host)} (IsTurn v (Beside calls (IsHeardCall may_lie v)) words session)
      (t.before.0, (t.before.1, t.host)) t.turns (t.after.0, (t.after.1, t.left))

abbrev pub SessionsBesideHeardHosts : {L : Type 0} → (L → List ℕ → Outcome → L → Type 0) → Type 0
SessionsBesideHeardHosts {L} calls = (may_lie : Bool) (v : Scheme) (words : ℕ → ℕ → List ℕ) (session : ℕ) (p q : State × L) (turns : List Turn) (host left : Host)
    → FoldsTo {P = State × L} (IsTurn v calls words session) p turns q → HeardRun may_lie v host (exchanges_in turns) left
    → IsSessionBeside may_lie v calls words session (record { before = p; host = host; turns = turns; after = q; left = left })
