-- Over a link to an honest host a session has the replies of a plain array.
use Rattle.std.proofs.Common.{◌≡◌, ◌≢◌, ◌⊎◌, ℕ, ◌*◌, ◌<◌, arith, Bool, true, false, if◌then◌else◌, List, [], ◌∷◌, ◌++◌, length, drop, map, Option, Some, None, unwrap_or, Ok, Err, refl, sym, ap, ◌∙◌, subst, inl, inr, append-nil}
use Rattle.std.specs.Prelude.{MatchBool}
use Rattle.std.specs.List.{All, FoldsTo, flat_map}
use Rattle.std.proofs.lemmas.List.Elements.{All-head, All-tail}
use Rattle.oram_geometry.specs.declared.Sizes.{Sizes}
use Rattle.oram_geometry.specs.Sizes.{IsDevice, trees_of}
use Rattle.oram_wire.specs.HostMessages.{answer_body}
use Rattle.oram_wire.specs.HostBodies.{IsAnswer}
use Rattle.oram_wire.specs.declared.host_messages.HostAnswer.{HostAnswer}
use Rattle.oram_wire.specs.declared.host_messages.HostAnswer.TheVariants.{Done, Payload, Refused}
use Rattle.oram_host.specs.Host.{Host}
use Rattle.oram_host.specs.Service.{Serves}
use Rattle.oram_tree.specs.Format.{PutsAll}
use Rattle.oram_semantics.specs.Events.{failed_reply}
use Rattle.oram_semantics.specs.Law.{new_state, world_of}
use Rattle.oram_semantics.specs.Moves.{moved, world_after}
use Rattle.oram_semantics.specs.Progress.{Setting, Status}
use Rattle.oram_semantics.specs.Progress.Status.{Idle, Waiting, Stalling, Over}
use Rattle.oram_semantics.specs.Run.{Shown, is_over, is_waiting, refusal_of}
use Rattle.oram_semantics.specs.ArrayReplies.{ServesArray, array_after, reply_by}
use Rattle.oram_semantics.specs.Scheme.{Scheme}
use Rattle.oram_semantics.specs.State.{State, World, status_by, status_in}
use Rattle.oram_semantics.specs.declared.events.Command.{Command}
use Rattle.oram_semantics.specs.declared.events.Event.{Event}
use Rattle.oram_semantics.specs.declared.events.Event.TheVariants.{Answer, Submit}
use Rattle.oram_semantics.specs.declared.events.Note.{Note}
use Rattle.oram_semantics.specs.declared.events.Refusal.{Refusal}
use Rattle.oram_semantics.specs.declared.events.Refusal.TheVariants.{BadAddress, BadLength, BadWords, Busy, Exhausted, Failed}
use Rattle.oram_semantics.specs.declared.events.Reply.{Reply}
use Rattle.oram_semantics.specs.declared.events.Submission.{Submission}
use Rattle.oram_core.specs.PlainSteps.{Done as Did, submitted_by}
use Rattle.oram_core.specs.Steps.{Steps, Heard, did}
use Rattle.oram_host_laws.specs.Honest.{IsHonest, Takes}
use Rattle.oram_host_laws.specs.HostRecords.{GoesOnHosted, HostedEvent, Hosts, HostsBy, HostsWork}
use Rattle.oram_host_laws.specs.Law.{IsNewHosted}
use Rattle.oram_host_laws.specs.AnyHost.{IsLie}
use Rattle.oram_host_laws.proofs.Honest.{honest_hosts_serve, new_hosts_serve}
use Rattle.oram_host_laws.proofs.AnyHost.{lying_hosts_fail}
use Rattle.oram_host_laws.proofs.Receipt.{met, met_hosts}
use Rattle.oram_session.specs.Exchanges.{Runs, Delivery, IsSent, IsAnswered, AllSent, event_of, is_stall, retried}
use Rattle.oram_session.specs.Formatting.{TakesMessage}
use Rattle.oram_session.specs.Honesty.{HasFailed, IsHeardCall, IsHeardLink, IsHonestCall, IsHonestLink, IsArrayTurn, IsBusy, IsHeld, NewDevicesHoldZeros, SessionsAreTheArrays}
use Rattle.oram_session.specs.Links.{AnswersOf, DirectCall, Faulty, FaultyCall, ToServer, is_due}
use Rattle.oram_session.specs.Outcome.{Outcome}
use Rattle.oram_session.specs.Requests.{command_of, session_reply}
use Rattle.oram_session.specs.CoreWork.{HasNoWork, has_no_work_in}
use Rattle.oram_session.specs.Turns.{Turn, IsReply, IsServed, IsTurn, most_retries}
use Rattle.oram_session.specs.declared.link.LinkFault.TheVariants.{Io}
use Rattle.oram_session.proofs.CoreSteps.{heard_is, retried_is, stalled}

-- the first of a list, or else this
abbrev pub first_or : {X : Type 0} → List X → X → X
first_or [] x = x
first_or (y ∷ ys) x = y

-- what the status of a core that hasn't failed says

calm_status : (q : List Submission) (l : Bool) → is_over (status_by None q l) ≡ false
calm_status [] l = refl
calm_status (x ∷ q) true = refl
calm_status (x ∷ q) false = refl

not_over : (s : State) → s.failure ≡ None → is_over (status_in s) ≡ false
not_over s alive = ap (λ f. is_over (status_by f s.queue s.lost)) alive ∙ calm_status s.queue s.lost

resting_by : (q : List Submission) (l : Bool) → has_no_work_in (status_by None q l) ≡ true → q ≡ []
resting_by [] l h = refl
resting_by (x ∷ q) true h = absurd cc
resting_by (x ∷ q) false h = absurd cc

pub resting : (s : State) → HasNoWork s → s.failure ≡ None → s.queue ≡ []
resting s no_work alive =
    resting_by s.queue s.lost (sym (ap (λ f. has_no_work_in (status_by f s.queue s.lost)) alive) ∙ no_work)

pub waits_by : (s : State) (now : Status) (m : List ℕ) → status_in s ≡ now → (if is_waiting now then Some s.message else None) ≡ Some m
    → (status_in s ≡ Waiting) × (m ≡ s.message)
waits_by s Waiting m is e = (is, ap (λ (o : Option (List ℕ)). unwrap_or o []) (sym e))
waits_by s Idle m is e = absurd cc
waits_by s Stalling m is e = absurd cc
waits_by s Over m is e = absurd cc

pub has_work : (now : Status) → now ≡ Waiting → has_no_work_in now ≡ false
has_work now e = ap has_no_work_in e

-- a core that hasn't failed refuses a command only because of what the command asks

abbrev IsForCommand : Option Refusal → Type 0
IsForCommand o = (e : Refusal) → o ≡ Some e → e ≢ Failed

for_command : (b : Bool) (x : Refusal) (o : Option Refusal) → x ≢ Failed → IsForCommand o → IsForCommand (if b then Some x else o)
for_command true x o ne h e is f = ne (ap (λ (k : Option Refusal). unwrap_or k Failed) is ∙ f)
for_command false x o ne h e is f = h e is f

none_refused : IsForCommand None
none_refused e is = absurd cc

refused_for : (d : Sizes) (waiting taken : ℕ) (c : Command) (words : List ℕ) → IsForCommand (refusal_of d false waiting taken c words)
refused_for d waiting taken c words =
    for_command _ BadAddress _ (λ e. cc) (for_command _ BadLength _ (λ e. cc) (for_command _ BadWords _ (λ e. cc) (for_command _ Busy _ (λ e. cc) (for_command _ Exhausted _ (λ e. cc) none_refused))))

-- the effect of an answer that doesn't fail the device, while one command is at work

module _ (v : Scheme) (s t : State) (x : Shown) (alive : t.failure ≡ None) where
  still_queued : Heard v s (did x t) → x.replies ≡ [] → t.queue ≡ s.queue
  still_queued (inl f) none = absurd (let both = sym (ap (λ (u : State). u.failure) f.state) ∙ alive in cc)
  still_queued (inr (inl g)) none = g.queue
  still_queued (inr (inr r)) none = absurd (let both = sym (ap (λ (d : Did). d.replies) r.does) ∙ none in cc)

  unqueued : (y : Submission) (z : Reply) → Heard v s (did x t) → s.queue ≡ y ∷ [] → x.replies ≡ z ∷ [] → t.queue ≡ []
  unqueued y z (inl f) queue one = absurd (let both = sym (ap (λ (u : State). u.failure) f.state) ∙ alive in cc)
  unqueued y z (inr (inl g)) queue one = absurd (let both = sym g.replies ∙ one in cc)
  unqueued y z (inr (inr r)) queue one =
      ap (λ (d : Did). d.state.queue) r.does ∙ ap (λ (q : List Submission). drop 1 q) (sym r.queue ∙ queue)

as_honest : (o : Outcome) (last : List ℕ) (host after : Host) → IsHonestCall host last o after → IsHonest Waiting last (event_of o) host after
as_honest (Ok bytes) last host after h = (h.0, h.2, h.3)
as_honest (Err fault) last host after h = h

submit_honest : (now : Status) (last : List ℕ) (session : ℕ) (c : Command) (words : List ℕ) (host : Host)
    → IsHonest now last (Submit session c words) host host
submit_honest Idle last session c words host = refl
submit_honest Waiting last session c words host = refl
submit_honest Stalling last session c words host = refl
submit_honest Over last session c words host = refl

honest_keeps : (v : Scheme) (s : State) (w : World) (host after : Host) (o : Outcome) → HostsWork v s w host → IsHonestCall host s.message o after
    → HostsWork v s w after
honest_keeps v s w host after (Ok bytes) b h = met_hosts v s w host after h.0 b (met v s w host after h.0 b h.3)
honest_keeps v s w host after (Err fault) b (inl same) = subst (HostsWork v s w) (sym same) b
honest_keeps v s w host after (Err fault) b (inr late) = met_hosts v s w host after late.0 b (met v s w host after late.0 b late.1)

-- the honest host receives each message, whatever the answer is
pub call_keeps : (may_lie : Bool) (v : Scheme) (s : State) (w : World) (host after : Host) (o : Outcome) → HostsWork v s w host
    → IsHeardCall may_lie v host s.message o after → HostsWork v s w after
call_keeps may_lie v s w host after o b (inl honest) = honest_keeps v s w host after o b honest
call_keeps may_lie v s w host after o b (inr lie) = met_hosts v s w host after lie.3.answer b (met v s w host after lie.3.answer b lie.3.heard)

module _ (may_lie : Bool) {L : Type 0} (calls : L → List ℕ → Outcome → L → Type 0) (host_of : L → Host) (v : Scheme) (heard_by : IsHeardLink may_lie v calls host_of) (device : IsDevice v.device) where
  -- The last call with a message, after those that stalled: the core is as it was at the first one.
  record Reached (s : State) (w : World) (m : L) (last : Outcome) (replies : List Reply) (t : State) : Type 0 where
    at : L
    work : HostsWork v s w (host_of at)
    call : calls at s.message last m
    shown : Shown
    step : Steps v s (event_of last) shown t
    replied : replies ≡ shown.replies

  reached : (stalls : List Outcome) (last : Outcome) (message : List ℕ) (s t : State) (w : World) (l m : L) (replies : List Reply)
      → status_in s ≡ Waiting → message ≡ s.message → HostsWork v s w (host_of l) → All (λ o. is_stall o ≡ true) stalls
      → FoldsTo (λ a o b. calls a message o b) l (stalls ++ last ∷ []) m
      → Runs v s (retried stalls ++ event_of last ∷ []) replies t → Reached s w m last replies t
  reached [] last message s t w l m replies waits named work all link core = record {
    at = l;
    work = work;
    call = subst (λ (k : List ℕ). calls l k last m) named (subst (λ (j : L). calls l message last j) link.2 link.1);
    shown = core.0;
    step = subst (λ (u : State). Steps v s (event_of last) core.0 u) core.4.1 core.3;
    replied = core.5 ∙ ap (λ (xs : List Reply). core.0.replies ++ xs) core.4.0 ∙ append-nil core.0.replies;
  }
  reached (o ∷ stalls) last message s t w l m replies waits named work all link core =
      let again = core.4 in
      let first : did core.0 core.1 ≡ _ = stalled v s core.1 o core.0 waits (All-head (λ (y : Outcome). is_stall y ≡ true) o stalls all) core.3 in
      let back = retried_is v s core.1 again.1 again.0 waits (ap (λ (d : Did). d.state) first) again.3 in
      let same : replies ≡ again.2 =
      core.5 ∙ ap (λ (xs : List Reply). xs ++ core.2) (ap (λ (d : Did). d.replies) first) ∙ again.5 ∙ ap (λ (xs : List Reply). xs ++ again.2) back.0 in
      let heard : IsHeardCall may_lie v (host_of l) s.message o (host_of link.0) =
      subst (λ (k : List ℕ). IsHeardCall may_lie v (host_of l) k o (host_of link.0)) named (heard_by l link.0 message o link.1) in
      subst (λ (rs : List Reply). Reached s w m last rs t) (sym same)
      (reached stalls last message s t w link.0 m again.2 waits named (call_keeps may_lie v s w (host_of l) (host_of link.0) o work heard)
      (All-tail (λ (y : Outcome). is_stall y ≡ true) o stalls all) link.2
      (subst (λ (u : State). Runs v u (retried stalls ++ event_of last ∷ []) again.2 t) back.1 again.4))

  abbrev pub Working : State × L → Submission → (ℕ → List ℕ) → Type 0
  Working p x array = IsBusy v host_of p x array

  -- a lie failed the device
  abbrev pub Failing : State × L → Submission → List Reply → Type 0
  Failing q x replies = (may_lie ≡ true) × HasFailed q.0 × (replies ≡ failed_reply x ∷ [])

  -- a message is answered: the command goes on, or has the array's reply, or the device has failed
  abbrev pub Next : State × L → Submission → (ℕ → List ℕ) → List Reply → Type 0
  Next q x array replies =
      (Working q x array × (replies ≡ []))
      ⊎ ((IsHeld v host_of q (array_after v.device x.command array) × (replies ≡ reply_by array x ∷ [])) ⊎ Failing q x replies)

  module _ (s t : State) (m : L) (x : Submission) (array : ℕ → List ℕ) (w : World) (o : Outcome) (shown : Shown) (queue : s.queue ≡ x ∷ []) (heard : Heard v s (did shown t))
      (on : GoesOnHosted v (record { before = s; world = w; array = array; event = event_of o; shown = shown; after = t; host = host_of m })) where
    next : Next (t, m) x array shown.replies
    next = elim on.goes_on.served [
      | inl quiet ↦ inl (
        record {
          alive = on.alive;
          queue = still_queued v s t shown on.alive heard quiet.0 ∙ queue;
          world = world_after v w (moved v s w (event_of o)) shown.sends;
          serving = record { orderly = on.goes_on.orderly; holds = on.goes_on.holds; agrees = on.goes_on.agrees; serves = quiet.1 };
          hosts = on.hosts;
        },
        quiet.0,
      )
      | inr replied ↦
          let same : replied.0 ≡ x = ap (λ (q : List Submission). first_or q x) (sym replied.2 ∙ queue) in
          let empty : t.queue ≡ [] = unqueued v s t shown on.alive x (reply_by array replied.0) heard queue replied.3 in
          inr (inl (
            record {
              no_work = rw (on.alive, empty) refl;
              alive = on.alive;
              world = world_after v w (moved v s w (event_of o)) shown.sends;
              serving = record {
                orderly = on.goes_on.orderly;
                holds = on.goes_on.holds;
                agrees = on.goes_on.agrees;
                serves = subst (λ (y : Submission). ServesArray v t (world_after v w (moved v s w (event_of o)) shown.sends) (array_after v.device y.command array)) same replied.4;
              };
              hosts = on.hosts;
            },
            replied.3 ∙ ap (λ (y : Submission). reply_by array y ∷ []) same,
          ))
    ]

  module _ (p q : State × L) (x : Submission) (array : ℕ → List ℕ) (b : Working p x array) (waits : status_in p.0 ≡ Waiting) (at : L) (work : HostsWork v p.0 b.world (host_of at)) (shown : Shown) where
    hosts_at : Hosts v p.0 b.world (host_of at)
    hosts_at = subst (HostsBy v p.0 b.world (host_of at)) (sym b.queue) work

    lied_to : (bytes : List ℕ) → Steps v p.0 (Answer bytes) shown q.0 → is_stall (Ok bytes) ≡ false → may_lie ≡ true
        → IsLie v (host_of at) p.0.message bytes (host_of q.1) → Next q x array shown.replies
    lied_to bytes step answered may lie =
        elim (lying_hosts_fail v p.0 q.0 b.world array bytes shown (host_of at) (host_of q.1) device b.alive waits b.serving hosts_at step.moves lie) [
          | inl on ↦ next p.0 q.0 q.1 x array b.world (Ok bytes) shown b.queue (heard_is v p.0 q.0 (Ok bytes) shown waits answered step) on
          | inr failed ↦ inr (inr (may, (failed.reason, failed.failure), failed.replies ∙ ap (λ (ys : List Submission). map failed_reply ys) b.queue))
        ]

    answered_by : (o : Outcome) → Steps v p.0 (event_of o) shown q.0 → is_stall o ≡ false
        → IsHeardCall may_lie v (host_of at) p.0.message o (host_of q.1) → Next q x array shown.replies
    answered_by o step answered (inl honest) =
        let called : IsHonest (status_in p.0) p.0.message (event_of o) (host_of at) (host_of q.1) =
        subst (λ (now : Status). IsHonest now p.0.message (event_of o) (host_of at) (host_of q.1)) (sym waits)
        (as_honest o p.0.message (host_of at) (host_of q.1) honest) in
        let e : HostedEvent = record { before = p.0; world = b.world; array = array; event = event_of o; shown = shown; after = q.0; host = host_of q.1 } in
        let on : GoesOnHosted v e =
        honest_hosts_serve v p.0 q.0 b.world array (event_of o) shown (host_of at) (host_of q.1) device b.alive b.serving hosts_at step.moves called in
        next p.0 q.0 q.1 x array b.world o shown b.queue (heard_is v p.0 q.0 o shown waits answered step) on
    answered_by o step answered (inr lie) =
        lied_to lie.1 (subst (λ (k : Outcome). Steps v p.0 (event_of k) shown q.0) lie.2 step)
        (sym (ap is_stall lie.2) ∙ answered) lie.0 lie.3

  pub sent_on : (p q : State × L) (x : Submission) (array : ℕ → List ℕ) (y : Delivery) → Working p x array
      → IsSent v calls most_retries p y q → IsAnswered y → Next q x array y.replies
  sent_on p q x array y w sent answered =
      let k = waits_by p.0 (status_in p.0) y.message refl sent.message in
      let work : HostsWork v p.0 w.world (host_of p.1) = subst (HostsBy v p.0 w.world (host_of p.1)) w.queue w.hosts in
      let r : Reached p.0 w.world q.1 y.last y.replies q.0 =
      reached y.stalls y.last y.message p.0 q.0 w.world p.1 q.1 y.replies k.0 k.1 work sent.stalls sent.link sent.core in
      subst (Next q x array) (sym r.replied)
      (answered_by p q x array w k.0 r.at r.work r.shown y.last r.step answered (heard_by r.at q.1 p.0.message y.last r.call))

  -- a command that an idle device accepts is at work
  pub accepted : (p : State × L) (session : ℕ) (c : Command) (words : List ℕ) (shown : Shown) (begun : State) (array : ℕ → List ℕ)
      → IsHeld v host_of p array → Steps v p.0 (Submit session c words) shown begun
      → (let x : Submission = record { session = session; ticket = p.0.next; command = c; words = words } in
      did shown begun ≡ submitted_by v p.0 x None → Working (begun, p.1) x array)
  accepted p session c words shown begun array held step is =
      let x : Submission = record { session = session; ticket = p.0.next; command = c; words = words } in
      let event : Event = Submit session c words in
      let rests : p.0.queue ≡ [] = resting p.0 held.no_work held.alive in
      let e : HostedEvent = record { before = p.0; world = held.world; array = array; event = event; shown = shown; after = begun; host = host_of p.1 } in
      let on : GoesOnHosted v e =
      honest_hosts_serve v p.0 begun held.world array event shown (host_of p.1) (host_of p.1) device held.alive held.serving held.hosts step.moves
      (submit_honest (status_in p.0) p.0.message session c words (host_of p.1)) in
      let serves : ServesArray v begun (world_after v held.world (moved v p.0 held.world event) shown.sends) array =
      elim on.goes_on.served [
        | inl quiet ↦ quiet.1
        | inr replied ↦ absurd (let both = sym rests ∙ replied.2 in cc)
      ] in
      record {
        alive = on.alive;
        queue = ap (λ (d : Did). d.state.queue) is ∙ ap (λ (z : List Submission). z ++ x ∷ []) rests;
        world = world_after v held.world (moved v p.0 held.world event) shown.sends;
        serving = record { orderly = on.goes_on.orderly; holds = on.goes_on.holds; agrees = on.goes_on.agrees; serves = serves };
        hosts = on.hosts;
      }

module _ {L : Type 0} (calls : L → List ℕ → Outcome → L → Type 0) (host_of : L → Host) (honest : IsHonestLink calls host_of) (v : Scheme) (device : IsDevice v.device) where
  heard_by : IsHeardLink false v calls host_of
  heard_by l m body o call = inl (honest l m body o call)

  -- no message is sent after the reply
  ended : (ys : List Delivery) (p q : State × L) (array : ℕ → List ℕ) → IsHeld v host_of p array → AllSent v calls most_retries p ys q
      → IsHeld v host_of q array
  ended [] p q array held sent = subst (λ (z : State × L). IsHeld v host_of z array) sent held
  ended (y ∷ ys) p q array held sent =
      let k = waits_by p.0 (status_in p.0) y.message refl sent.1.0.message in
      absurd (let both = sym held.no_work ∙ has_work (status_in p.0) k.0 in cc)

  all_sent : (ys : List Delivery) (p q : State × L) (x : Submission) (array : ℕ → List ℕ) (reply : Reply) → IsBusy v host_of p x array
      → AllSent v calls most_retries p ys q → flat_map (λ (y : Delivery). y.replies) ys ≡ reply ∷ []
      → (reply ≡ reply_by array x) × IsHeld v host_of q (array_after v.device x.command array)
  all_sent [] p q x array reply w sent one = absurd cc
  all_sent (y ∷ ys) p q x array reply w sent one = elim (sent_on false calls host_of v heard_by device p sent.0 x array y w sent.1.0 sent.1.1) [
    | inl more ↦
        all_sent ys sent.0 q x array reply more.0 sent.2
        (sym (ap (λ (rs : List Reply). rs ++ flat_map (λ (z : Delivery). z.replies) ys) more.1) ∙ one)
    | inr (inr failed) ↦ absurd (let lies = failed.0 in cc)
    | inr (inl done) ↦
        let all : reply_by array x ∷ flat_map (λ (z : Delivery). z.replies) ys ≡ reply ∷ [] =
        sym (ap (λ (rs : List Reply). rs ++ flat_map (λ (z : Delivery). z.replies) ys) done.1) ∙ one in
        (ap (λ (rs : List Reply). first_or rs reply) (sym all), ended ys sent.0 q (array_after v.device x.command array) done.0 sent.2)
  ]

  module _ (words : ℕ → ℕ → List ℕ) (session : ℕ) where
    abbrev After : State × L → (ℕ → List ℕ) → Turn → State × L → Type 0
    After p array turn q = (after : ℕ → List ℕ) × IsArrayTurn v.device array turn after × IsHeld v host_of q after

    accepted_or_not : (o : Option Refusal) (p q : State × L) (array : ℕ → List ℕ) (turn : Turn) (h : IsServed v calls words session p turn q)
        → IsHeld v host_of p array
        → (let x : Submission = record { session = session; ticket = p.0.next; command = command_of h.begins.message; words = words p.0.next (2 * trees_of v.device) } in
        (did h.shown h.begun ≡ submitted_by v p.0 x o) × (refusal_of v.device (is_over (status_in p.0)) (length p.0.queue) p.0.next x.command x.words ≡ o))
        → After p array turn q
    accepted_or_not (Some e) p q array turn h held is =
        let note : h.shown.note ≡ _ = ap (λ (d : Did). d.note) is.0 in
        let reply = subst (λ (n : Note). IsReply v calls words session n (h.begun, p.1) turn q) note h.replied in
        let same : h.begun ≡ p.0 = ap (λ (d : Did). d.state) is.0 in
        let c : Command = command_of h.begins.message in
        let ws : List ℕ = words p.0.next (2 * trees_of v.device) in
        let none : refusal_of v.device false (length p.0.queue) p.0.next c ws ≡ Some e =
        sym (ap (λ (b : Bool). refusal_of v.device b (length p.0.queue) p.0.next c ws) (not_over p.0 held.alive)) ∙ is.1 in (
          array,
          inr (h.begins.message, h.begins.request, inr (e, refused_for v.device (length p.0.queue) p.0.next c ws e none, reply.1, refl)),
          subst (λ (z : State × L). IsHeld v host_of z array) reply.2 (subst (λ (s : State). IsHeld v host_of (s, p.1) array) (sym same) held),
        )
    accepted_or_not None p q array turn h held is =
        let x : Submission = record { session = session; ticket = p.0.next; command = command_of h.begins.message; words = words p.0.next (2 * trees_of v.device) } in
        let note : h.shown.note ≡ _ = ap (λ (d : Did). d.note) is.0 in
        let reply = subst (λ (n : Note). IsReply v calls words session n (h.begun, p.1) turn q) note h.replied in
        let w : IsBusy v host_of (h.begun, p.1) x array = accepted false calls host_of v heard_by device p session x.command x.words h.shown h.begun array held h.begins.step is.0 in
        let done = all_sent turn.sendings (h.begun, p.1) q x array reply.2 w reply.0 reply.3 in (
          array_after v.device x.command array,
          inr (h.begins.message, h.begins.request, inl (reply.4 ∙ ap (λ (z : Reply). session_reply z.body) done.0, refl)),
          done.1,
        )

    turned : (p q : State × L) (array : ℕ → List ℕ) (turn : Turn) → IsHeld v host_of p array → IsTurn v calls words session p turn q
        → After p array turn q
    turned p q array turn held (inl h) =
        (array, inl (h.none, h.reply, refl), subst (λ (z : State × L). IsHeld v host_of z array) h.same held)
    turned p q array turn held (inr h) =
        let c : Command = command_of h.begins.message in
        let ws : List ℕ = words p.0.next (2 * trees_of v.device) in
        let why : Option Refusal = refusal_of v.device (is_over (status_in p.0)) (length p.0.queue) p.0.next c ws in
        accepted_or_not why p q array turn h held (h.begins.step.plain (submitted_by v p.0 (record { session = session; ticket = p.0.next; command = c; words = ws }) why) refl, refl)

    session_held : (turns : List Turn) (p q : State × L) (array : ℕ → List ℕ) → IsHeld v host_of p array
        → FoldsTo {P = State × L} (IsTurn v calls words session) p turns q
        → (after : ℕ → List ℕ) × FoldsTo {P = ℕ → List ℕ} (IsArrayTurn v.device) array turns after × IsHeld v host_of q after
    session_held [] p q array held fold = (array, refl, subst (λ (z : State × L). IsHeld v host_of z array) fold held)
    session_held (turn ∷ turns) p q array held fold =
        let one = turned p fold.0 array turn held fold.1 in
        let rest = session_held turns fold.0 q one.0 one.2 fold.2 in (rest.0, (one.0, one.1, rest.1), rest.2)

pub sessions_are_the_arrays : {L : Type 0} (calls : L → List ℕ → Outcome → L → Type 0) → SessionsAreTheArrays calls
sessions_are_the_arrays calls host_of honest v words session p q turns array device held fold =
    session_held calls host_of honest v device words session turns p q array held fold

-- a device that was formatted

-- an answer of the one byte 0x80 means that the host took a message
done_by : (answer : HostAnswer) → IsAnswer answer → 128 ∷ [] ≡ answer_body answer → answer ≡ Done
done_by Done is e = refl
done_by (Payload bytes) is e =
    let none : [] ≡ bytes = ap (λ (b : List ℕ). drop 1 b) e in
    absurd (let some : 0 < length bytes = is in let few : length bytes ≡ 0 = ap length (sym none) in omega arith)
done_by (Refused code) is e = absurd cc

takes_all : {L : Type 0} (calls : L → List ℕ → Outcome → L → Type 0) (host_of : L → Host) → IsHonestLink calls host_of
    → (messages : List (List ℕ)) (from to : L) → PutsAll (TakesMessage calls) from messages to
    → PutsAll Takes (host_of from) messages (host_of to)
takes_all calls host_of honest [] from to puts = ap host_of puts
takes_all calls host_of honest (m ∷ messages) from to puts =
    let h : IsHonestCall (host_of from) m (Ok (128 ∷ [])) (host_of puts.0) = honest from puts.0 m (Ok (128 ∷ [])) puts.1 in (
      host_of puts.0,
      subst (λ (answer : HostAnswer). Serves (host_of from) m answer (host_of puts.0)) (done_by h.0 h.1 h.2) h.3,
      takes_all calls host_of honest messages puts.0 to puts.2,
    )

pub new_devices_hold_zeros : {L : Type 0} (calls : L → List ℕ → Outcome → L → Type 0) → NewDevicesHoldZeros calls
new_devices_hold_zeros calls host_of honest v from to s light empty k =
    let setting : Setting = record { scheme = v; format = k.format } in
    let puts : PutsAll Takes [] k.format (host_of to) =
    subst (λ (h : Host). PutsAll Takes h k.format (host_of to)) empty (takes_all calls host_of honest k.format from to k.puts) in
    let new : IsNewHosted v (new_state setting k.trees) (world_of setting []) (host_of to) = new_hosts_serve setting k.trees (host_of to) k.ranges light k.formatted puts in
    rw k.state (record { no_work = refl; alive = refl; world = world_of setting []; serving = new.serving; hosts = new.hosts })

-- the links that are honest

direct_by : (l m : Host) (body : List ℕ) (o : Outcome) → AnswersOf l body o m → IsHonestCall l body o m
direct_by l m body (Ok bytes) a = (a.0, a.2, a.3, a.1)
direct_by l m body (Err fault) a = inl a.1

pub direct_is_honest : IsHonestLink DirectCall (λ (l : ToServer). l.host)
direct_is_honest l m body o call = direct_by l.host m.host body o call.answer

module _ {L : Type 0} (calls : L → List ℕ → Outcome → L → Type 0) (host_of : L → Host) (honest : IsHonestLink calls host_of) (l m : L) (body : List ℕ) where
  dropped_by : (o : Outcome) → IsHonestCall (host_of l) body o (host_of m) → IsHonestCall (host_of l) body (Err Io) (host_of m)
  dropped_by (Ok bytes) h = inr (h.0, h.3)
  dropped_by (Err fault) h = h

  faulty_after : (after : Bool) → MatchBool after ((dropped : Outcome) × calls l body dropped m) (m ≡ l)
      → IsHonestCall (host_of l) body (Err Io) (host_of m)
  faulty_after true a = dropped_by a.0 (honest l m body a.0 a.1)
  faulty_after false a = inl (ap host_of a)

  faulty_by : (due after : Bool) (o : Outcome)
      → MatchBool due ((o ≡ Err Io) × MatchBool after ((dropped : Outcome) × calls l body dropped m) (m ≡ l)) (calls l body o m)
      → IsHonestCall (host_of l) body o (host_of m)
  faulty_by true after o a = subst (λ (k : Outcome). IsHonestCall (host_of l) body k (host_of m)) (sym a.0) (faulty_after after a.1)
  faulty_by false after o a = honest l m body o a

pub faulty_is_honest : {L : Type 0} (calls : L → List ℕ → Outcome → L → Type 0) (host_of : L → Host) → IsHonestLink calls host_of
    → IsHonestLink (FaultyCall calls) (λ (l : Faulty L). host_of l.inner)
faulty_is_honest calls host_of honest l m body o call =
    faulty_by calls host_of honest l.inner m.inner body (is_due l) l.after o call.answer
