-- What one event does to a core over a host, and to the commands that wait.
use Rattle.std.proofs.Common.{◌≡◌, ◌≢◌, ◌⊎◌, ℕ, Bool, true, false, List, [], ◌∷◌, None, Some, Ok, Err, refl, sym, ap, ◌∙◌, subst, inl, inr}
use Rattle.oram_geometry.specs.Sizes.{IsDevice}
use Rattle.oram_host.specs.Host.{Host}
use Rattle.oram_semantics.proofs.InTurn.{cores_ask_in_turn}
use Rattle.oram_semantics.specs.InTurn.{StepsInTurn}
use Rattle.oram_semantics.specs.Progress.{Status}
use Rattle.oram_semantics.specs.Progress.Status.{Waiting}
use Rattle.oram_semantics.specs.Run.{Shown}
use Rattle.oram_semantics.specs.Scheme.{Scheme}
use Rattle.oram_semantics.specs.ArrayReplies.{ServesArray, array_after}
use Rattle.oram_semantics.specs.State.{State, status_in}
use Rattle.oram_semantics.specs.declared.events.Event.{Event}
use Rattle.oram_semantics.specs.declared.events.Reply.{Reply}
use Rattle.oram_semantics.specs.declared.events.Submission.{Submission}
use Rattle.oram_core.specs.PlainSteps.{Done as Did, plain_step, stalled_by}
use Rattle.oram_core.specs.Steps.{Heard, Steps, did}
use Rattle.oram_host_laws.specs.Honest.{IsHonest}
use Rattle.oram_host_laws.specs.HostRecords.{GoesOnHosted, HostedEvent, next_world}
use Rattle.oram_host_laws.specs.AnyHost.{FailsAll}
use Rattle.oram_host_laws.proofs.Honest.{honest_hosts_serve}
use Rattle.oram_host_laws.proofs.AnyHost.{lying_hosts_fail}
use Rattle.oram_session.specs.Exchanges.{event_of, is_stall}
use Rattle.oram_session.specs.Honesty.{IsHeardCall, IsHonestCall}
use Rattle.oram_session.specs.Outcome.{Outcome}
use Rattle.oram_session.proofs.CoreSteps.{heard_is, stalled}
use Rattle.oram_rounds.specs.Service.{AreReplied, ArrayAndQueue, IsServed}

rests_same : (x y : Submission) (p q : List Submission) → x ∷ p ≡ y ∷ q → (x ≡ y) × (p ≡ q)
rests_same x y p q e = (cc, cc)

-- what is left of the array, and the replies since
pub record Went (v : Scheme) (array : ℕ → List ℕ) (s : State) (replies : List Reply) (t : State) (after : Host) : Type 0 where
  pub now : ℕ → List ℕ
  pub served : IsServed v t after now
  pub replied : AreReplied v.device (array, s.queue) replies (now, t.queue)

module _ (v : Scheme) (e : HostedEvent) (on : GoesOnHosted v e) where
  serves : (now : ℕ → List ℕ) → ServesArray v e.after (next_world v e) now → IsServed v e.after e.host now
  serves now is = record {
    alive = on.alive;
    world = next_world v e;
    serving = record { orderly = on.goes_on.orderly; holds = on.goes_on.holds; agrees = on.goes_on.agrees; serves = is };
    hosts = on.hosts;
  }

  -- what happens to the queue: nothing if there is no reply; otherwise the oldest command leaves it
  abbrev QueueMoves : Type 0
  QueueMoves = ((e.shown.replies ≡ []) × (e.after.queue ≡ e.before.queue))
      ⊎ ((y : Submission) × (rest : List Submission) × (e.before.queue ≡ y ∷ rest) × (e.shown.replies ≢ []) × (e.after.queue ≡ rest))

  goes : QueueMoves → Went v e.array e.before e.shown.replies e.after e.host
  goes (inl (none, same)) = elim on.goes_on.served [
    | inl quiet ↦ record {
      now = e.array;
      served = serves e.array quiet.1;
      replied = subst (λ (rs : List Reply). AreReplied v.device (e.array, e.before.queue) rs (e.array, e.after.queue)) (sym none)
          (ap (λ (q : List Submission). let p : ArrayAndQueue = (e.array, q) in p) (sym same));
    }
    | inr replied ↦ absurd (let both = sym none ∙ replied.3 in cc)
  ]
  goes (inr (y, rest, queue, some, left)) = elim on.goes_on.served [
    | inl quiet ↦ absurd (some quiet.0)
    | inr replied ↦
        let same = rests_same replied.0 y replied.1 rest (sym replied.2 ∙ queue) in
        let now : ℕ → List ℕ = array_after v.device replied.0.command e.array in
        record {
          now = now;
          served = serves now replied.4;
          replied = subst (λ (rs : List Reply). AreReplied v.device (e.array, e.before.queue) rs (now, e.after.queue)) (sym replied.3)
              ((now, e.after.queue), (replied.0, replied.2 ∙ ap (λ (q : List Submission). replied.0 ∷ q) (same.1 ∙ sym left), refl, refl), refl);
        }
  ]

  stalls : did e.shown e.after ≡ stalled_by e.before → QueueMoves
  stalls is = inl (ap (λ (d : Did). d.replies) is, ap (λ (d : Did). d.state.queue) is)

  hears : Heard v e.before (did e.shown e.after) → QueueMoves
  hears (inl fails) = absurd (let both = sym (ap (λ (u : State). u.failure) fails.state) ∙ on.alive in cc)
  hears (inr (inl on_it)) = inl (on_it.replies, on_it.queue)
  hears (inr (inr replies)) =
      inr (replies.oldest, replies.rest, replies.queue, (λ none. let both = sym (ap (λ (d : Did). d.replies) replies.does) ∙ none in cc), ap (λ (d : Did). d.state.queue) replies.does)

honest_at : (o : Outcome) (last : List ℕ) (host after : Host) → IsHonestCall host last o after → IsHonest Waiting last (event_of o) host after
honest_at (Ok bytes) last host after h = (h.0, h.2, h.3)
honest_at (Err fault) last host after h = h

module _ (may_lie : Bool) (v : Scheme) (device : IsDevice v.device) (s t : State) (host after : Host) (array : ℕ → List ℕ) (x : Shown) (is : IsServed v s host array) where
  -- this event
  abbrev hosted : Event → HostedEvent
  hosted event = record { before = s; world = is.world; array = array; event = event; shown = x; after = t; host = after }

  -- the outcome of a call with the outstanding message

  abbrev pub Next : Type 0
  Next = Went v array s x.replies t after ⊎ ((may_lie ≡ true) × FailsAll s x t)

  moves_by : (o : Outcome) (b : Bool) → is_stall o ≡ b → status_in s ≡ Waiting → Steps v s (event_of o) x t → (on : GoesOnHosted v (hosted (event_of o)))
      → QueueMoves v (hosted (event_of o)) on
  moves_by o true stuck waits step on = stalls v (hosted (event_of o)) on (stalled v s t o x waits stuck step)
  moves_by o false answered waits step on = hears v (hosted (event_of o)) on (heard_is v s t o x waits answered step)

  on_with : (o : Outcome) → status_in s ≡ Waiting → Steps v s (event_of o) x t → GoesOnHosted v (hosted (event_of o)) → Next
  on_with o waits step on = inl (goes v (hosted (event_of o)) on (moves_by o (is_stall o) refl waits step on))

  pub step_call : (o : Outcome) → status_in s ≡ Waiting → Steps v s (event_of o) x t → IsHeardCall may_lie v host s.message o after → Next
  step_call o waits step (inl honest) =
      on_with o waits step
      (honest_hosts_serve v s t is.world array (event_of o) x host after device is.alive is.serving is.hosts step.moves
      (subst (λ (now : Status). IsHonest now s.message (event_of o) host after) (sym waits) (honest_at o s.message host after honest)))
  step_call o waits step (inr lie) =
      let given_by : Outcome = Ok lie.1 in
      let stepped : Steps v s (event_of given_by) x t = subst (λ (k : Outcome). Steps v s (event_of k) x t) lie.2 step in
      elim (lying_hosts_fail v s t is.world array lie.1 x host after device is.alive waits is.serving is.hosts stepped.moves lie.3) [
        | inl on ↦ on_with given_by waits stepped on
        | inr failed ↦ inr (lie.0, failed)
      ]

  -- what the call does to the core's next FETCHes

  abbrev pub InTurn : Type 0
  InTurn = ((t.failure ≡ None) × StepsInTurn v.device s x t) ⊎ ((may_lie ≡ true) × FailsAll s x t)

  turn_with : (event : Event) → Steps v s event x t → GoesOnHosted v (hosted event) → InTurn
  turn_with event step on =
      inl (on.alive, cores_ask_in_turn v s t is.world event x device is.serving.orderly is.serving.holds is.serving.agrees on.apart step.moves on.alive)

  pub step_in_turn : (o : Outcome) → status_in s ≡ Waiting → Steps v s (event_of o) x t → IsHeardCall may_lie v host s.message o after → InTurn
  step_in_turn o waits step (inl honest) =
      turn_with (event_of o) step
      (honest_hosts_serve v s t is.world array (event_of o) x host after device is.alive is.serving is.hosts step.moves
      (subst (λ (now : Status). IsHonest now s.message (event_of o) host after) (sym waits) (honest_at o s.message host after honest)))
  step_in_turn o waits step (inr lie) =
      let given_by : Outcome = Ok lie.1 in
      let stepped : Steps v s (event_of given_by) x t = subst (λ (k : Outcome). Steps v s (event_of k) x t) lie.2 step in
      elim (lying_hosts_fail v s t is.world array lie.1 x host after device is.alive waits is.serving is.hosts stepped.moves lie.3) [
        | inl on ↦ turn_with (event_of given_by) stepped on
        | inr failed ↦ inr (lie.0, failed)
      ]

  -- an event at which the host receives nothing, and nothing is replied
  pub step_quiet : (event : Event) (d : Did) → Steps v s event x t → IsHonest (status_in s) s.message event host after → plain_step v s event ≡ Some d → d.replies ≡ []
      → IsServed v t after array
  step_quiet event d step honest plain none =
      let same : did x t ≡ d = step.plain d plain in
      let on = honest_hosts_serve v s t is.world array event x host after device is.alive is.serving is.hosts step.moves honest in
      elim on.goes_on.served [
        | inl quiet ↦ serves v (hosted event) on array quiet.1
        | inr replied ↦ absurd (let both = sym (ap (λ (e : Did). e.replies) same ∙ none) ∙ replied.3 in cc)
      ]
