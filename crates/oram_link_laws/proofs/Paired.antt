-- The pair of a link and an honest host is an honest link, whose value has its host.
use Rattle.std.proofs.Common.{◌≡◌, ℕ, Bool, List, [], ◌∷◌, ap, ◌∙◌}
use Rattle.std.specs.List.{FoldsTo}
use Rattle.oram_host.specs.Host.{Host}
use Rattle.oram_semantics.specs.Scheme.{Scheme}
use Rattle.oram_semantics.specs.State.{State}
use Rattle.oram_session.specs.Honesty.{IsHeardCall, IsHeardLink, IsHeld, IsHonestCall, IsHonestLink}
use Rattle.oram_session.specs.Outcome.{Outcome}
use Rattle.oram_session.specs.Turns.{Turn, IsTurn}
use Rattle.oram_session.proofs.Honesty.{sessions_are_the_arrays}
use Rattle.oram_link_laws.specs.Runs.{Beside, Exchange, IsHeldBy, LinkRun, SessionsAreTheArraysBeside, exchanges_in}
use Rattle.oram_link_laws.proofs.Exchanged.{turns_over, turns_ran}

pairs_same : {A B : Type 0} (a b : A) (x y : B) → a ≡ b → x ≡ y → (let p : A × B = (a, x) in let q : A × B = (b, y) in p ≡ q)
pairs_same {A} {B} a b x y first second = ap (λ (c : A). let p : A × B = (c, x) in p) first ∙ ap (λ (z : B). let p : A × B = (b, z) in p) second

-- over a link, and a host that behaves in each call as `by` says
module _ (v : Scheme) {L : Type 0} (calls : L → List ℕ → Outcome → L → Type 0) (by : Host → List ℕ → Outcome → Host → Type 0) where
  abbrev pub Run : Host → List Exchange → Host → Type 0
  Run host exchanges after = FoldsTo {P = Host} {A = Exchange} (λ h e g. by h e.0 e.1 g) host exchanges after

  pair_run : (exchanges : List Exchange) (l m : L) (h g : Host) → LinkRun calls l exchanges m → Run h exchanges g
      → LinkRun {L = L × Host} (Beside calls by) (l, h) exchanges (m, g)
  pair_run [] l m h g link run = pairs_same l m h g link run
  pair_run (e ∷ exchanges) l m h g link run =
      ((link.0, run.0), (link.1, run.1), pair_run exchanges link.0 m run.0 g link.2 run.2)

  pub turns_beside : (words : ℕ → ℕ → List ℕ) (session : ℕ) (turns : List Turn) (p q : State × L) (h g : Host)
      → FoldsTo {P = State × L} (IsTurn v calls words session) p turns q → Run h (exchanges_in turns) g
      → FoldsTo {P = State × (L × Host)} (IsTurn v (Beside calls by) words session) (p.0, (p.1, h)) turns (q.0, (q.1, g))
  turns_beside words session turns p q h g fold run =
      turns_over v {M = L × Host} calls (Beside calls by) words session turns p q (p.1, h) (q.1, g) fold
      (pair_run (exchanges_in turns) p.1 q.1 h g (turns_ran calls v words session turns p q fold) run)

-- the pair of a link and an honest host is an honest link; with a host that may lie it is a link to such a host

pub beside_is_honest : {L : Type 0} (calls : L → List ℕ → Outcome → L → Type 0)
    → IsHonestLink {L = L × Host} (Beside calls IsHonestCall) (λ l. l.1)
beside_is_honest calls l m body o call = call.1

pub beside_is_heard : (may_lie : Bool) (v : Scheme) {L : Type 0} (calls : L → List ℕ → Outcome → L → Type 0)
    → IsHeardLink may_lie v {L = L × Host} (Beside calls (IsHeardCall may_lie v)) (λ l. l.1)
beside_is_heard may_lie v calls l m body o call = call.1

-- a device is held by a host in a pair exactly if it is held by that host

as_pair : (v : Scheme) {L : Type 0} (s : State) (l : L) (host : Host) (array : ℕ → List ℕ) → IsHeldBy v s host array
    → IsHeld v {L = L × Host} (λ x. x.1) (s, (l, host)) array
as_pair v s l host array held =
    record { no_work = held.no_work; alive = held.alive; world = held.world; serving = held.serving; hosts = held.hosts }

as_host : (v : Scheme) {L : Type 0} (s : State) (l : L) (host : Host) (array : ℕ → List ℕ) → IsHeld v {L = L × Host} (λ x. x.1) (s, (l, host)) array
    → IsHeldBy v s host array
as_host v s l host array held =
    record { no_work = held.no_work; alive = held.alive; world = held.world; serving = held.serving; hosts = held.hosts }

pub sessions_are_the_arrays_beside : {L : Type 0} (calls : L → List ℕ → Outcome → L → Type 0) → SessionsAreTheArraysBeside calls
sessions_are_the_arrays_beside {L} calls v words session p q turns host left array device held fold run =
    let both = turns_beside v calls IsHonestCall words session turns p q host left fold run in
    let done = sessions_are_the_arrays {L = L × Host} (Beside calls IsHonestCall) (λ x. x.1) (beside_is_honest calls)
    v words session (p.0, (p.1, host)) (q.0, (q.1, left)) turns array device (as_pair v p.0 p.1 host array held) both in
    (done.0, done.1, as_host v q.0 q.1 left done.0 done.2)
