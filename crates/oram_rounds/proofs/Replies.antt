-- The replies that a process gives are the array's.
use Rattle.std.proofs.Common.{◌≡◌, ◌⊎◌, ℕ, Bool, true, false, List, [], ◌∷◌, ◌++◌, map, Option, Some, refl, sym, ap, ◌∙◌, subst, inl, inr, append-nil, append_assoc}
use Rattle.std.specs.List.{flat_map}
use Rattle.oram_geometry.specs.Sizes.{IsDevice}
use Rattle.oram_host.specs.Host.{Host}
use Rattle.oram_semantics.specs.Events.{failed_reply}
use Rattle.oram_semantics.specs.Progress.Status.{Over}
use Rattle.oram_semantics.specs.Run.{Shown}
use Rattle.oram_semantics.specs.Scheme.{Scheme, record_len}
use Rattle.oram_semantics.specs.State.{State, status_by, status_in}
use Rattle.oram_semantics.specs.declared.events.Event.{Event}
use Rattle.oram_semantics.specs.declared.events.Event.TheVariants.{Reopen, Retry}
use Rattle.oram_semantics.specs.declared.events.Reason.{Reason}
use Rattle.oram_semantics.specs.declared.events.Reply.{Reply}
use Rattle.oram_semantics.specs.declared.events.Submission.{Submission}
use Rattle.oram_core.specs.PlainSteps.{Done as Did, lost_by, plain_step, retried_by}
use Rattle.oram_core.specs.Steps.{Steps, did}
use Rattle.oram_host_laws.specs.Honest.{IsHonest}
use Rattle.oram_session.specs.Honesty.{HasFailed}
use Rattle.oram_session.specs.CoreWork.{outstanding}
use Rattle.oram_session.proofs.Honesty.{waits_by}
use Rattle.oram_link_laws.specs.Runs.{Exchange}
use Rattle.oram_link_laws.proofs.Exchanged.{folds_join, folds_split}
use Rattle.oram_rounds.specs.Batches.{BatchOutcome}
use Rattle.oram_rounds.specs.CatchUp.{CatchesUp, IsPlainCall, PlainRun}
use Rattle.oram_rounds.specs.Law.{AreAhead, AreBatches}
use Rattle.oram_rounds.specs.Process.{Act, Does, DoesAll, HaveFailed, HaveReplies, IsGoingOn, Process, RepliesAreTheArrays, exchanges_of, next_bodies, replies_of}
use Rattle.oram_rounds.specs.Process.Act.{Calls, GoesAhead, Hears, Keeps, Misses}
use Rattle.oram_rounds.specs.Rounds.{Round, waiting}
use Rattle.oram_rounds.specs.Service.{AreReplied, ArrayAndQueue, IsReplied, IsServed}
use Rattle.oram_rounds.proofs.GoneAhead.{ahead_is_of_the_host}
use Rattle.oram_rounds.proofs.Unchanged.{none_ahead}
use Rattle.oram_rounds.proofs.Safety.{IsIdleStep, called, lost_idles, reopen_honest, retried_idles, retry_honest, served_on}
use Rattle.oram_rounds.proofs.Steps.{step_call, step_quiet}

module _ {B K : Type 0} (batches : B → List (List ℕ) → BatchOutcome → List Exchange → B → Type 0) (reads_back : K → List ℕ → Type 0) (are : AreBatches batches) (may_lie : Bool) (v : Scheme) (device : IsDevice v.device) where
  abbrev Outcomes : Process B K → (ℕ → List ℕ) → List Reply → Process B K → Host → Type 0
  Outcomes p array replies q host = HaveReplies may_lie v p array replies q host ⊎ HaveFailed may_lie v p array replies q

  same_queue : (array : ℕ → List ℕ) (p q : List Submission) → q ≡ p → AreReplied v.device (array, p) [] (array, q)
  same_queue array p q same = ap (λ (queue : List Submission). let w : ArrayAndQueue = (array, queue) in w) (sym same)

  -- an event without a reply
  idle_event : (p q : Process B K) (host : Host) (array : ℕ → List ℕ) (event : Event) (x : Shown) (d : Did) → Steps v p.core event x q.core → plain_step v p.core event ≡ Some d
      → IsIdleStep p.core d → IsHonest (status_in p.core) p.core.message event host host → (served : IsServed v p.core host array)
      → IsServed v q.core host array × (x.replies ≡ []) × (q.core.queue ≡ p.core.queue)
  idle_event p q host array event x d step plain idle honest served =
      let same : did x q.core ≡ d = step.plain d plain in (
        step_quiet may_lie v device p.core q.core host host array x served event d step honest plain idle.replies,
        ap (λ (e : Did). e.replies) same ∙ idle.replies,
        ap (λ (e : Did). e.state.queue) same ∙ idle.queue,
      )

  resumed : (p q : Process B K) (host : Host) (array : ℕ → List ℕ) (event : Event) (x : Shown) → (event ≡ Reopen) ⊎ (event ≡ Retry) → Steps v p.core event x q.core → IsServed v p.core host array
      → IsServed v q.core host array × (x.replies ≡ []) × (q.core.queue ≡ p.core.queue)
  resumed p q host array event x (inl is) step served =
      idle_event p q host array Reopen x (lost_by p.core (status_in p.core)) (subst (λ (e : Event). Steps v p.core e x q.core) is step) refl
      (lost_idles p.core (status_in p.core)) (reopen_honest (status_in p.core) p.core.message host) served
  resumed p q host array event x (inr is) step served =
      idle_event p q host array Retry x (retried_by p.core (status_in p.core)) (subst (λ (e : Event). Steps v p.core e x q.core) is step) refl
      (retried_idles p.core (status_in p.core)) (retry_honest (status_in p.core) p.core.message host) served

  kept_on : (p q : Process B K) (host after : Host) (array : ℕ → List ℕ) → IsGoingOn may_lie v p host array → waiting p.link ≡ waiting q.link → q.core ≡ p.core → host ≡ after
      → AreAhead may_lie v after q.link → Outcomes p array [] q after
  kept_on p q host after array on all same run ahead =
      let catches : CatchesUp v after (waiting q.link) on.0 =
      subst (λ (h : Host). CatchesUp v h (waiting q.link) on.0) run (subst (λ (stores : List (List ℕ)). CatchesUp v host stores on.0) all on.1) in
      inl (record {
        now = array;
        goes_on = (on.0, catches, subst (λ (s : State). IsServed v s on.0 array) (sym same) on.2, ahead);
        replied = same_queue array p.core.queue q.core.queue (ap (λ (s : State). s.queue) same);
      })

  pub goes_on : (act : Act) (p q : Process B K) (host after : Host) (array : ℕ → List ℕ) → p.link.device ≡ v.device → p.link.record_len ≡ record_len v → IsGoingOn may_lie v p host array
      → Does v batches reads_back p act q → PlainRun may_lie v host (exchanges_of act) after → Outcomes p array (replies_of act) q after
  goes_on (Hears event x) p q host after array dev len on does run =
      let t = resumed p q on.0 array event x does.0.0 does.0.1 on.2 in
      let catches : CatchesUp v after (waiting q.link) on.0 =
      subst (λ (h : Host). CatchesUp v h (waiting q.link) on.0) run (subst (λ (l : Round B). CatchesUp v host (waiting l) on.0) (sym does.0.2) on.1) in
      let ahead : AreAhead may_lie v after q.link = subst (λ (h : Host). AreAhead may_lie v h q.link) run (subst (λ (l : Round B). AreAhead may_lie v host l) (sym does.0.2) on.3) in
      inl (record { now = array; goes_on = (on.0, catches, t.0, ahead); replied = same_queue array p.core.queue q.core.queue t.2 })
  goes_on (Calls o exchanges x) p q host after array dev len on does run =
      let c = called batches reads_back are may_lie v device p q.link host after on.0 array does.0.0 o exchanges dev len on.1 on.3 on.2 does.0.1 does.0.2 run in
      elim (step_call may_lie v device p.core q.core on.0 c.next array x on.2 o c.waits does.0.3 c.heard) [
        | inl went ↦ inl (record { now = went.now; goes_on = (c.next, c.catches, went.served, c.ahead); replied = went.replied })
        | inr failed ↦ inr (record {
          lies = failed.0;
          failed = (failed.1.reason, failed.1.failure);
          given = [];
          left = (array, p.core.queue);
          replied = refl;
          all = failed.1.replies;
        })
      ]
  goes_on (Misses o exchanges) p q host after array dev len on does run =
      let c = called batches reads_back are may_lie v device p q.link host after on.0 array does.0.0 o exchanges dev len on.1 on.3 on.2 does.0.1 does.0.2 run in
      let served : IsServed v q.core c.next array =
      subst (λ (s : State). IsServed v s c.next array) (sym does.0.3) (served_on batches reads_back are may_lie v device p.core on.0 c.next array o c.waits on.2 c.heard) in
      inl (record { now = array; goes_on = (c.next, c.catches, served, c.ahead); replied = same_queue array p.core.queue q.core.queue (ap (λ (s : State). s.queue) does.0.3) })
  goes_on (GoesAhead exchanges) p q host after array dev len on does run =
      let gone = ahead_is_of_the_host batches are may_lie v p.link q.link (next_bodies v.device p.core) exchanges host after on.0 dev len on.1 does.0.0 run in
      inl (record {
        now = array;
        goes_on = (on.0, gone.0, subst (λ (s : State). IsServed v s on.0 array) (sym does.0.1) on.2, gone.1);
        replied = same_queue array p.core.queue q.core.queue (ap (λ (s : State). s.queue) does.0.1);
      })
  goes_on (Keeps true) p q host after array dev len on does run =
      let all : waiting q.link ≡ waiting p.link = ap (λ (l : Round B). waiting l) does.2 ∙ append-nil (waiting p.link) in
      kept_on p q host after array on (sym all) does.1 run (none_ahead may_lie v p.link q.link host after (ap (λ (l : Round B). l.ahead) does.2))
  goes_on (Keeps false) p q host after array dev len on does run =
      kept_on p q host after array on (sym (ap (λ (l : Round B). waiting l) does.2)) does.1 run
      (subst (λ (h : Host). AreAhead may_lie v h q.link) run (subst (λ (l : Round B). AreAhead may_lie v host l) (sym does.2) on.3))

  -- a device that has failed stays so, and replies no more

  failed_out : (s : State) (message : List ℕ) → HasFailed s → outstanding s ≡ Some message → ⊥
  failed_out s message failed out =
      let waits = waits_by s (status_in s) message refl out in
      let over : status_in s ≡ Over = ap (λ (f : Option Reason). status_by f s.queue s.lost) failed.1 in
      let both = sym over ∙ waits.0 in cc

  failed_idle : (s t : State) (event : Event) (x : Shown) (d : Did) → Steps v s event x t → plain_step v s event ≡ Some d → IsIdleStep s d → HasFailed s
      → HasFailed t × (x.replies ≡ [])
  failed_idle s t event x d step plain idle failed =
      let same : did x t ≡ d = step.plain d plain in
      ((failed.0, ap (λ (e : Did). e.state.failure) same ∙ idle.failure ∙ failed.1), ap (λ (e : Did). e.replies) same ∙ idle.replies)

  pub stays_failed : (acts : List Act) (p q : Process B K) → HasFailed p.core → DoesAll v batches reads_back p acts q → HasFailed q.core × (flat_map replies_of acts ≡ [])
  stays_failed [] p q failed does = (subst (λ (r : Process B K). HasFailed r.core) does failed, refl)
  stays_failed (Hears event x ∷ acts) p q failed does =
      let resumed : HasFailed does.0.core × (x.replies ≡ []) = elim does.1.0.0 [
        | inl is ↦ failed_idle p.core does.0.core Reopen x (lost_by p.core (status_in p.core)) (subst (λ (e : Event). Steps v p.core e x does.0.core) is does.1.0.1) refl (lost_idles p.core (status_in p.core)) failed
        | inr is ↦ failed_idle p.core does.0.core Retry x (retried_by p.core (status_in p.core)) (subst (λ (e : Event). Steps v p.core e x does.0.core) is does.1.0.1) refl (retried_idles p.core (status_in p.core)) failed
      ] in
      stays_failed acts does.0 q resumed.0 does.2
  stays_failed (Calls o exchanges x ∷ acts) p q failed does = absurd (failed_out p.core does.1.0.0 failed does.1.0.1)
  stays_failed (Misses o exchanges ∷ acts) p q failed does = absurd (failed_out p.core does.1.0.0 failed does.1.0.1)
  stays_failed (GoesAhead exchanges ∷ acts) p q failed does = stays_failed acts does.0 q (subst HasFailed (sym does.1.0.1) failed) does.2
  stays_failed (Keeps true ∷ acts) p q failed does = stays_failed acts does.0 q (subst HasFailed (sym does.1.1) failed) does.2
  stays_failed (Keeps false ∷ acts) p q failed does = stays_failed acts does.0 q (subst HasFailed (sym does.1.1) failed) does.2

  pub same_device : (act : Act) (p q : Process B K) → Does v batches reads_back p act q → (q.link.device ≡ p.link.device) × (q.link.record_len ≡ p.link.record_len)
  same_device (Hears event x) p q does = (ap (λ (l : Round B). l.device) does.0.2, ap (λ (l : Round B). l.record_len) does.0.2)
  same_device (Calls o exchanges x) p q does = (does.0.2.device, does.0.2.record_len)
  same_device (Misses o exchanges) p q does = (does.0.2.device, does.0.2.record_len)
  same_device (GoesAhead exchanges) p q does = (does.0.0.device, does.0.0.record_len)
  same_device (Keeps true) p q does = (ap (λ (l : Round B). l.device) does.2, ap (λ (l : Round B). l.record_len) does.2)
  same_device (Keeps false) p q does = (ap (λ (l : Round B). l.device) does.2, ap (λ (l : Round B). l.record_len) does.2)

  join : (a b c : ArrayAndQueue) (first second : List Reply) → AreReplied v.device a first b → AreReplied v.device b second c → AreReplied v.device a (first ++ second) c
  join a b c first second one two = folds_join {P = ArrayAndQueue} {A = Reply} (IsReplied v.device) a b c first second one two

  all_replied : (acts : List Act) (p q : Process B K) (host after : Host) (array : ℕ → List ℕ) → p.link.device ≡ v.device → p.link.record_len ≡ record_len v → IsGoingOn may_lie v p host array
      → DoesAll v batches reads_back p acts q → PlainRun may_lie v host (flat_map exchanges_of acts) after → Outcomes p array (flat_map replies_of acts) q after
  all_replied [] p q host after array dev len on does run =
      let here : HaveReplies may_lie v p array [] p host = record { now = array; goes_on = on; replied = refl } in
      inl (subst (λ (r : Process B K). HaveReplies may_lie v p array [] r after) does (subst (λ (h : Host). HaveReplies may_lie v p array [] p h) run here))
  all_replied (act ∷ acts) p q host after array dev len on does run =
      let halves = folds_split {P = Host} {A = Exchange} (λ h e g. IsPlainCall may_lie v h e.0 e.1 g) host after (exchanges_of act) (flat_map exchanges_of acts) run in
      let same = same_device act p does.0 does.1 in
      elim (goes_on act p does.0 host halves.0 array dev len on does.1 halves.1) [
        | inr failed ↦
            let still = stays_failed acts does.0 q failed.failed does.2 in
            inr (record {
              lies = failed.lies;
              failed = still.0;
              given = failed.given;
              left = failed.left;
              replied = failed.replied;
              all = ap (λ (rs : List Reply). replies_of act ++ rs) still.1 ∙ append-nil (replies_of act) ∙ failed.all;
            })
        | inl went ↦ elim (all_replied acts does.0 q halves.0 after went.now (same.0 ∙ dev) (same.1 ∙ len) went.goes_on does.2 halves.2) [
          | inl more ↦ inl (record {
            now = more.now;
            goes_on = more.goes_on;
            replied = join (array, p.core.queue) (went.now, does.0.core.queue) (more.now, q.core.queue) (replies_of act) (flat_map replies_of acts) went.replied more.replied;
          })
          | inr failed ↦ inr (record {
            lies = failed.lies;
            failed = failed.failed;
            given = replies_of act ++ failed.given;
            left = failed.left;
            replied = join (array, p.core.queue) (went.now, does.0.core.queue) failed.left (replies_of act) failed.given went.replied failed.replied;
            all = ap (λ (rs : List Reply). replies_of act ++ rs) failed.all ∙ sym (append_assoc (replies_of act) failed.given (map failed_reply failed.left.1));
          })
        ]
      ]

pub replies_are_the_arrays : {B K : Type 0} (batches : B → List (List ℕ) → BatchOutcome → List Exchange → B → Type 0) (reads_back : K → List ℕ → Type 0) → RepliesAreTheArrays batches reads_back
replies_are_the_arrays batches reads_back are may_lie v acts p q host after array device dev len on does run =
    all_replied batches reads_back are may_lie v device acts p q host after array dev len on does run
