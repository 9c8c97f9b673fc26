-- Whatever a process does, and wherever it ends, what the device holds is kept.
use Rattle.std.proofs.Common.{◌≡◌, ◌⊎◌, ℕ, ◌<◌, Bool, true, false, List, [], ◌∷◌, ◌++◌, Option, Some, Ok, Err, refl, sym, ap, ◌∙◌, subst, inl, inr, append-nil}
use Rattle.std.specs.Prelude.{MatchResult}
use Rattle.std.specs.List.{AllByRecursion, flat_map}
use Rattle.oram_geometry.specs.Sizes.{IsDevice, depth_of}
use Rattle.oram_geometry.specs.declared.Sizes.{Sizes}
use Rattle.oram_host.specs.Host.{Host}
use Rattle.oram_semantics.specs.Moves.{records_after}
use Rattle.oram_semantics.specs.Progress.{Status}
use Rattle.oram_semantics.specs.Progress.Status.{Idle, Over, Stalling, Waiting}
use Rattle.oram_semantics.specs.Run.{Shown}
use Rattle.oram_semantics.specs.Scheme.{Scheme, record_len}
use Rattle.oram_semantics.specs.State.{State, status_by, status_in}
use Rattle.oram_semantics.specs.declared.events.Event.{Event}
use Rattle.oram_semantics.specs.declared.events.Event.TheVariants.{Reopen, Retry}
use Rattle.oram_semantics.specs.declared.events.Reason.{Reason}
use Rattle.oram_semantics.specs.declared.events.Reply.{Reply}
use Rattle.oram_semantics.specs.declared.events.Submission.{Submission}
use Rattle.oram_tree.specs.Content.{node_count}
use Rattle.oram_core.specs.PlainSteps.{Done as Did, lost_by, plain_step, retried_by}
use Rattle.oram_core.specs.Steps.{Steps, did}
use Rattle.oram_host_laws.specs.Honest.{IsHonest, KeepsAll}
use Rattle.oram_host_laws.specs.HostRecords.{HostsBy, HostsWork}
use Rattle.oram_host_laws.specs.AnyHost.{FailsAll}
use Rattle.oram_host_laws.proofs.Handed.{fetch_leaves}
use Rattle.oram_host_laws.proofs.Honest.{IsBusy, busy_by}
use Rattle.oram_session.specs.Honesty.{IsHeardCall}
use Rattle.oram_session.specs.Outcome.{Outcome}
use Rattle.oram_session.specs.CoreWork.{outstanding}
use Rattle.oram_session.proofs.Honesty.{call_keeps, waits_by}
use Rattle.oram_link_laws.specs.Repair.{AreAmong, IsAmong}
use Rattle.oram_link_laws.specs.Runs.{Exchange, bodies_of}
use Rattle.oram_link_laws.proofs.Exchanged.{folds_split}
use Rattle.oram_rounds.specs.Batches.{BatchOutcome}
use Rattle.oram_rounds.specs.Files.{IsFile}
use Rattle.oram_rounds.specs.CatchUp.{CatchesUp, IsPlainCall, PlainRun}
use Rattle.oram_rounds.specs.Law.{AreAhead, AreBatches, IsStocked}
use Rattle.oram_rounds.specs.PathMessages.{IsPathFetch}
use Rattle.oram_rounds.specs.Process.{Act, ActsAreSafe, AreSentAhead, Does, DoesAll, BegunIsSafe, EndsAreSafe, EndsIn, IsKept, IsSafe, IsSent, Process, begun, earlier, exchanges_of, next_bodies}
use Rattle.oram_rounds.specs.Process.Act.{Calls, GoesAhead, Hears, Keeps, Misses}
use Rattle.oram_rounds.specs.Rounds.{Gives, Round, RoundCall, waiting}
use Rattle.oram_rounds.specs.Service.{AreReplied, ArrayAndQueue, IsServed, WillHold, WillHoldAfter, after_all}
use Rattle.oram_rounds.proofs.CatchUp.{IsWaitingOrFetch, run_catches}
use Rattle.oram_rounds.proofs.GoneAhead.{ahead_fewer, ahead_is_of_the_host, ahead_sent, all_sent}
use Rattle.oram_rounds.proofs.Round.{calls_are_of_the_host_later}
use Rattle.oram_rounds.proofs.Sent.{all_among, batch_among}
use Rattle.oram_rounds.proofs.Unchanged.{none_ahead}
use Rattle.oram_rounds.proofs.Tries.{among_front}
use Rattle.oram_rounds.proofs.Steps.{Went, step_call, step_quiet}

-- the array that will be left is the same before the replies and after them
replied_all : (d : Sizes) (replies : List Reply) (p q : ArrayAndQueue) → AreReplied d p replies q → after_all d p.1 p.0 ≡ after_all d q.1 q.0
replied_all d [] p q all = ap (λ (w : ArrayAndQueue). after_all d w.1 w.0) all
replied_all d (reply ∷ replies) p q all =
    let x : Submission = all.1.0 in
    ap (λ (queue : List Submission). after_all d queue p.0) all.1.1 ∙ ap (λ (array : ℕ → List ℕ). after_all d all.0.1 array) (sym all.1.3) ∙ replied_all d replies all.0 q all.2

-- a host keeps all records of a core's world while a FETCH is outstanding
stocked_by : (v : Scheme) (s : State) (host : Host) (array : ℕ → List ℕ) → status_in s ≡ Waiting → IsServed v s host array → IsPathFetch v.device s.message → IsStocked v host
stocked_by v s host array waits is f =
    let busy : IsBusy v s is.world host = busy_by v s is.world host s.queue refl is.alive waits is.hosts in
    let same : is.world.records ≡ busy.work.before =
    busy.work.leaves ∙ ap (λ (m : List ℕ). records_after v busy.work.before (m ∷ [])) f.named ∙ fetch_leaves v busy.work.before f.tree f.leaf in
    let keeps : KeepsAll v is.world.records host =
    elim busy.work.keeps [ inl lacks ↦ subst (λ (r : ℕ → ℕ → List ℕ). KeepsAll v r host) (sym same) lacks | inr whole ↦ whole ] in (
      is.world.records,
      keeps,
      λ i n inside within.
          let stands = is.serving.holds i inside in
          let P : ℕ → Type 0 = λ j. n < node_count (depth_of v.device j) in
          stands.stored.stands.lengths n (subst P (sym stands.number) within),
    )

module _ (may_lie : Bool) (v : Scheme) where
  -- a host that hears what was sent still has the same to come
  will_hold_on : (core : State) (stores : List (List ℕ)) (host after : Host) (array : ℕ → List ℕ) (exchanges : List Exchange)
      → AllByRecursion (IsWaitingOrFetch v stores) (bodies_of exchanges) → PlainRun may_lie v host exchanges after
      → WillHoldAfter may_lie v core stores host array → WillHoldAfter may_lie v core stores after array
  will_hold_on core stores host after array exchanges all run w = (w.0, run_catches v stores w.0 may_lie exchanges host after all run w.1, w.2)

  -- The host has had tries of STOREs that are kept and of FETCHes.
  pub kept_on : (d : Sizes) (sent later fetches : List (List ℕ)) (bytes : List ℕ) (host after : Host) (before array : ℕ → List ℕ) (exchanges : List Exchange) → d ≡ v.device
      → (exchanges ≡ []) ⊎ (AllByRecursion (IsPathFetch d) fetches × AreAmong (bodies_of exchanges) (sent ++ fetches)) → ((b : List ℕ) → IsAmong b later → IsAmong b sent)
      → PlainRun may_lie v host exchanges after → IsKept may_lie v sent bytes host before array → IsKept may_lie v later bytes after before array
  kept_on d sent later fetches bytes host after before array exchanges device (inl none) fewer run k =
      let same : host ≡ after = subst (λ (xs : List Exchange). PlainRun may_lie v host xs after) none run in
      record {
        stores = k.stores;
        core = k.core;
        file = k.file;
        covers = λ b among. k.covers b (fewer b among);
        holds = subst (λ (h : Host). WillHoldAfter may_lie v k.core k.stores h before ⊎ WillHoldAfter may_lie v k.core k.stores h array) same k.holds;
      }
  kept_on d sent later fetches bytes host after before array exchanges device (inr heard) fewer run k =
      let paths : AllByRecursion (IsPathFetch v.device) fetches = subst (λ (e : Sizes). AllByRecursion (IsPathFetch e) fetches) device heard.0 in
      let all = all_among (IsWaitingOrFetch v k.stores) (sent ++ fetches) (bodies_of exchanges) (all_sent v k.stores sent fetches k.covers paths) heard.1 in
      record {
        stores = k.stores;
        core = k.core;
        file = k.file;
        covers = λ b among. k.covers b (fewer b among);
        holds = elim k.holds [
          | inl old ↦ inl (will_hold_on k.core k.stores host after before exchanges all run old)
          | inr new ↦ inr (will_hold_on k.core k.stores host after array exchanges all run new)
        ];
      }

-- one FETCH after the STOREs that are kept
as_ahead : {B : Type 0} (l : Round B) (message : List ℕ) (exchanges : List Exchange) → IsSent l message exchanges → AreSentAhead l (message ∷ []) exchanges
as_ahead l message exchanges (inl none) = inl none
as_ahead l message exchanges (inr fetch) = inr ((fetch.0, tt), fetch.1)

-- the core hears of a reopening, or sends its message again

pub reopen_honest : (now : Status) (last : List ℕ) (host : Host) → IsHonest now last Reopen host host
reopen_honest Idle last host = refl
reopen_honest Waiting last host = inl refl
reopen_honest Stalling last host = refl
reopen_honest Over last host = refl

pub retry_honest : (now : Status) (last : List ℕ) (host : Host) → IsHonest now last Retry host host
retry_honest Idle last host = refl
retry_honest Waiting last host = refl
retry_honest Stalling last host = refl
retry_honest Over last host = refl

-- neither replies, ends a command, or fails the device
pub record IsIdleStep (s : State) (d : Did) : Type 0 where
  pub replies : d.replies ≡ []
  pub queue : d.state.queue ≡ s.queue
  pub failure : d.state.failure ≡ s.failure

pub lost_idles : (s : State) (now : Status) → IsIdleStep s (lost_by s now)
lost_idles s Idle = record { replies = refl; queue = refl; failure = refl }
lost_idles s Waiting = record { replies = refl; queue = refl; failure = refl }
lost_idles s Stalling = record { replies = refl; queue = refl; failure = refl }
lost_idles s Over = record { replies = refl; queue = refl; failure = refl }

pub retried_idles : (s : State) (now : Status) → IsIdleStep s (retried_by s now)
retried_idles s Idle = record { replies = refl; queue = refl; failure = refl }
retried_idles s Waiting = record { replies = refl; queue = refl; failure = refl }
retried_idles s Stalling = record { replies = refl; queue = refl; failure = refl }
retried_idles s Over = record { replies = refl; queue = refl; failure = refl }

module _ {B K : Type 0} (batches : B → List (List ℕ) → BatchOutcome → List Exchange → B → Type 0) (reads_back : K → List ℕ → Type 0) (are : AreBatches batches) (may_lie : Bool) (v : Scheme) (device : IsDevice v.device) where
  abbrev Safe : Process B K → Host → (ℕ → List ℕ) → (ℕ → List ℕ) → Type 0
  Safe p host before array = IsSafe may_lie v reads_back p host before array

  sent_by : (l m : Round B) (message : List ℕ) (o : Outcome) (exchanges : List Exchange) → RoundCall batches l message o exchanges m → IsSent l message exchanges
  sent_by l m message o exchanges call = elim call.does [
    | inl holds ↦ inl holds.none
    | inr (inl f) ↦ inr (f.path, batch_among (l.kept ++ message ∷ []) f.outcome exchanges (are l.inner m.inner (l.kept ++ message ∷ []) f.outcome exchanges f.batch))
    | inr (inr (inl declines)) ↦ inl declines.none
    | inr (inr (inr takes)) ↦ inl takes.none
  ]

  -- a call leaves the STOREs that are kept, or none of them
  fewer_by : (l m : Round B) (message : List ℕ) (o : Outcome) (exchanges : List Exchange) → RoundCall batches l message o exchanges m → (b : List ℕ) → IsAmong b m.kept → IsAmong b l.kept
  fewer_by l m message o exchanges call b among = elim call.does [
    | inl holds ↦ subst (IsAmong b) holds.kept among
    | inr (inl f) ↦ by f.outcome f.path f.gives
    | inr (inr (inl declines)) ↦ subst (IsAmong b) declines.kept among
    | inr (inr (inr takes)) ↦ subst (IsAmong b) takes.kept among
  ]
    where
      left_none : m.kept ≡ [] → IsAmong b l.kept
      left_none none = absurd (subst (IsAmong b) none among)

      by : (outcome : BatchOutcome) (path : IsPathFetch l.device message)
          → MatchResult outcome (λ answers. Gives batches l.device l.record_len l path answers o m) (λ fault. (o ≡ Err fault) × (m.kept ≡ l.kept)) → IsAmong b l.kept
      by (Err fault) path g = subst (IsAmong b) g.1 among
      by (Ok answers) path g = elim g.either [ inl done ↦ left_none done.1 | inr refused ↦ subst (IsAmong b) refused.0 among ]

  idles : (s t : State) (host : Host) (array : ℕ → List ℕ) (event : Event) (x : Shown) (d : Did) → Steps v s event x t → plain_step v s event ≡ Some d → IsIdleStep s d
      → IsHonest (status_in s) s.message event host host → WillHold may_lie v s host array → WillHold may_lie v t host array
  idles s t host array event x d step plain idle honest (inl will) =
      let same : did x t ≡ d = step.plain d plain in
      let served = step_quiet may_lie v device s t host host will.0 x will.1 event d step honest plain idle.replies in
      inl (will.0, served, ap (λ (e : Did). after_all v.device e.state.queue will.0) same ∙ ap (λ (q : List Submission). after_all v.device q will.0) idle.queue ∙ will.2)
  idles s t host array event x d step plain idle honest (inr failed) =
      let same : did x t ≡ d = step.plain d plain in
      inr (failed.0, (failed.1.0, ap (λ (e : Did). e.state.failure) same ∙ idle.failure ∙ failed.1.1))

  resumed : (s t : State) (host : Host) (array : ℕ → List ℕ) (event : Event) (x : Shown) → (event ≡ Reopen) ⊎ (event ≡ Retry) → Steps v s event x t
      → WillHold may_lie v s host array → WillHold may_lie v t host array
  resumed s t host array event x (inl is) step will =
      let as_event : Steps v s Reopen x t = subst (λ (e : Event). Steps v s e x t) is step in
      idles s t host array Reopen x (lost_by s (status_in s)) as_event refl (lost_idles s (status_in s)) (reopen_honest (status_in s) s.message host) will
  resumed s t host array event x (inr is) step will =
      let as_event : Steps v s Retry x t = subst (λ (e : Event). Steps v s e x t) is step in
      idles s t host array Retry x (retried_by s (status_in s)) as_event refl (retried_idles s (status_in s)) (retry_honest (status_in s) s.message host) will

  -- a core that waits for an answer is called about

  at_work : (s : State) (host : Host) (array : ℕ → List ℕ) (message : List ℕ) → outstanding s ≡ Some message → WillHold may_lie v s host array
      → (status_in s ≡ Waiting) × (message ≡ s.message) × ((before : ℕ → List ℕ) × IsServed v s host before × (after_all v.device s.queue before ≡ array))
  at_work s host array message out will =
      let waits = waits_by s (status_in s) message refl out in
      elim will [
        | inl held ↦ (waits.0, waits.1, held)
        | inr failed ↦ absurd (let over : status_in s ≡ Over = ap (λ (f : Option Reason). status_by f s.queue s.lost) failed.1.1 in let both = sym over ∙ waits.0 in cc)
      ]

  -- what the host as it will be says of the outcome
  pub record Called (p : Process B K) (l : Round B) (o : Outcome) (after later : Host) : Type 0 where
    pub next : Host
    pub catches : CatchesUp v after (waiting l) next
    pub heard : IsHeardCall may_lie v later p.core.message o next
    pub waits : status_in p.core ≡ Waiting
    pub ahead : AreAhead may_lie v after l

  pub called : (p : Process B K) (l : Round B) (host after later : Host) (before : ℕ → List ℕ) (message : List ℕ) (o : Outcome) (exchanges : List Exchange) → p.link.device ≡ v.device
      → p.link.record_len ≡ record_len v → CatchesUp v host (waiting p.link) later → AreAhead may_lie v host p.link → IsServed v p.core later before → outstanding p.core ≡ Some message
      → RoundCall batches p.link message o exchanges l → PlainRun may_lie v host exchanges after → Called p l o after later
  called p l host after later before message o exchanges dev len catches ahead served out call run =
      let waits = waits_by p.core (status_in p.core) message refl out in
      let stocked : IsPathFetch v.device message → IsStocked v later =
      λ f. stocked_by v p.core later before waits.0 served (subst (IsPathFetch v.device) waits.1 f) in
      let on = calls_are_of_the_host_later batches are may_lie v p.link l message o exchanges host after later dev len catches ahead stocked call run in
      record {
        next = on.0;
        catches = on.1;
        heard = subst (λ (m : List ℕ). IsHeardCall may_lie v later m o on.0) waits.1 on.2;
        waits = waits.0;
        ahead = on.3;
      }

  will_after : (s t : State) (next : Host) (before array : ℕ → List ℕ) (x : Shown) → after_all v.device s.queue before ≡ array
      → Went v before s x.replies t next ⊎ ((may_lie ≡ true) × FailsAll s x t) → WillHold may_lie v t next array
  will_after s t next before array x left (inl went) =
      inl (went.now, went.served, sym (replied_all v.device x.replies (before, s.queue) (went.now, t.queue) went.replied) ∙ left)
  will_after s t next before array x left (inr failed) = inr (failed.0, (failed.1.reason, failed.1.failure))

  -- the host keeps what the core's world has, whatever came of a call that the core never heard of
  pub served_on : (s : State) (later next : Host) (before : ℕ → List ℕ) (o : Outcome) → status_in s ≡ Waiting → IsServed v s later before → IsHeardCall may_lie v later s.message o next
      → IsServed v s next before
  served_on s later next before o waits is heard =
      let busy : IsBusy v s is.world later = busy_by v s is.world later s.queue refl is.alive waits is.hosts in
      let work : HostsWork v s is.world next = call_keeps may_lie v s is.world later next o busy.work heard in
      record { alive = is.alive; world = is.world; serving = is.serving; hosts = subst (HostsBy v s is.world next) (sym busy.queue) work }

  kept_after : (p : Process B K) (l : Round B) (host after : Host) (before array : ℕ → List ℕ) (message : List ℕ) (o : Outcome) (exchanges : List Exchange) → Safe p host before array
      → RoundCall batches p.link message o exchanges l → PlainRun may_lie v host exchanges after → (bytes : List ℕ) → reads_back p.keeper bytes
      → IsKept may_lie v l.kept bytes after before array
  kept_after p l host after before array message o exchanges safe call run bytes back =
      kept_on may_lie v p.link.device p.link.kept l.kept (message ∷ []) bytes host after before array exchanges safe.device (as_ahead p.link message exchanges (sent_by p.link l message o exchanges call))
      (fewer_by p.link l message o exchanges call) run (safe.kept bytes back)

  -- what was handed to the keeper, or what was there before
  handed : (p : Process B K) (host : Host) (before array : ℕ → List ℕ) → Safe p host before array → (bytes : List ℕ) → IsFile v bytes (waiting p.link) p.core ⊎ reads_back p.keeper bytes
      → IsKept may_lie v p.link.kept bytes host before array
  handed p host before array safe bytes (inl file) = record {
    stores = waiting p.link;
    core = p.core;
    file = file;
    covers = λ b among. among_front p.link.kept p.link.held b among;
    holds = inr safe.live;
  }
  handed p host before array safe bytes (inr back) = safe.kept bytes back

  -- one act

  act_safe : (act : Act) (p q : Process B K) (host after : Host) (before array : ℕ → List ℕ) → Safe p host before array → Does v batches reads_back p act q
      → PlainRun may_lie v host (exchanges_of act) after → Safe q after (earlier (act ∷ []) before array) array
  act_safe (Hears event x) p q host after before array safe does run = record {
    device = ap (λ (l : Round B). l.device) does.0.2 ∙ safe.device;
    record_len_is = ap (λ (l : Round B). l.record_len) does.0.2 ∙ safe.record_len_is;
    live =
        let will : WillHoldAfter may_lie v q.core (waiting p.link) host array = (safe.live.0, safe.live.1, resumed p.core q.core safe.live.0 array event x does.0.0 does.0.1 safe.live.2) in
        subst (λ (h : Host). WillHoldAfter may_lie v q.core (waiting q.link) h array) run
        (subst (λ (l : Round B). WillHoldAfter may_lie v q.core (waiting l) host array) (sym does.0.2) will);
    kept = λ bytes back.
        let k : IsKept may_lie v p.link.kept bytes host before array = safe.kept bytes (subst (λ (j : K). reads_back j bytes) does.1 back) in
        subst (λ (h : Host). IsKept may_lie v q.link.kept bytes h before array) run
        (subst (λ (l : Round B). IsKept may_lie v l.kept bytes host before array) (sym does.0.2) k);
    ahead = subst (λ (h : Host). AreAhead may_lie v h q.link) run (subst (λ (l : Round B). AreAhead may_lie v host l) (sym does.0.2) safe.ahead);
  }
  act_safe (Calls o exchanges x) p q host after before array safe does run =
      let live = safe.live in
      let work = at_work p.core live.0 array does.0.0 does.0.1 live.2 in
      let before_it : ℕ → List ℕ = work.2.0 in
      let c = called p q.link host after live.0 before_it does.0.0 o exchanges safe.device safe.record_len_is live.1 safe.ahead work.2.1 does.0.1 does.0.2 run in
      record {
        device = does.0.2.device ∙ safe.device;
        record_len_is = does.0.2.record_len ∙ safe.record_len_is;
        live = (c.next, c.catches, will_after p.core q.core c.next before_it array x work.2.2 (step_call may_lie v device p.core q.core live.0 c.next before_it x work.2.1 o c.waits does.0.3 c.heard));
        kept = λ bytes back. kept_after p q.link host after before array does.0.0 o exchanges safe does.0.2 run bytes (subst (λ (j : K). reads_back j bytes) does.1 back);
        ahead = c.ahead;
      }
  act_safe (Misses o exchanges) p q host after before array safe does run =
      let live = safe.live in
      let work = at_work p.core live.0 array does.0.0 does.0.1 live.2 in
      let c = called p q.link host after live.0 work.2.0 does.0.0 o exchanges safe.device safe.record_len_is live.1 safe.ahead work.2.1 does.0.1 does.0.2 run in
      let will : WillHold may_lie v p.core c.next array = inl (work.2.0, served_on p.core live.0 c.next work.2.0 o c.waits work.2.1 c.heard, work.2.2) in
      record {
        device = does.0.2.device ∙ safe.device;
        record_len_is = does.0.2.record_len ∙ safe.record_len_is;
        live = (c.next, c.catches, subst (λ (s : State). WillHold may_lie v s c.next array) (sym does.0.3) will);
        kept = λ bytes back. kept_after p q.link host after before array does.0.0 o exchanges safe does.0.2 run bytes (subst (λ (j : K). reads_back j bytes) does.1 back);
        ahead = c.ahead;
      }
  act_safe (GoesAhead exchanges) p q host after before array safe does run =
      let live = safe.live in
      let went = does.0.0 in
      let on = ahead_is_of_the_host batches are may_lie v p.link q.link (next_bodies v.device p.core) exchanges host after live.0 safe.device safe.record_len_is live.1 went run in
      record {
        device = went.device ∙ safe.device;
        record_len_is = went.record_len ∙ safe.record_len_is;
        live = (live.0, on.0, subst (λ (s : State). WillHold may_lie v s live.0 array) (sym does.0.1) live.2);
        kept = λ bytes back.
            kept_on may_lie v p.link.device p.link.kept q.link.kept (next_bodies v.device p.core) bytes host after before array exchanges safe.device
            (ahead_sent batches are p.link q.link (next_bodies v.device p.core) exchanges went) (ahead_fewer batches p.link q.link (next_bodies v.device p.core) exchanges went) run
            (safe.kept bytes (subst (λ (j : K). reads_back j bytes) does.1 back));
        ahead = on.1;
      }
  act_safe (Keeps true) p q host after before array safe does run =
      let all : waiting q.link ≡ waiting p.link = ap (λ (l : Round B). waiting l) does.2 ∙ append-nil (waiting p.link) in
      let will : WillHoldAfter may_lie v q.core (waiting q.link) after array =
      subst (λ (h : Host). WillHoldAfter may_lie v q.core (waiting q.link) h array) run
      (subst (λ (stores : List (List ℕ)). WillHoldAfter may_lie v q.core stores host array) (sym all)
      (subst (λ (s : State). WillHoldAfter may_lie v s (waiting p.link) host array) (sym does.1) safe.live)) in
      record {
        device = ap (λ (l : Round B). l.device) does.2 ∙ safe.device;
        record_len_is = ap (λ (l : Round B). l.record_len) does.2 ∙ safe.record_len_is;
        live = will;
        kept = λ bytes back. record {
          stores = waiting p.link;
          core = p.core;
          file = does.0 bytes back;
          covers = λ b among. subst (IsAmong b) (ap (λ (l : Round B). l.kept) does.2) among;
          holds = inl (subst (λ (h : Host). WillHoldAfter may_lie v p.core (waiting p.link) h array) run safe.live);
        };
        ahead = none_ahead may_lie v p.link q.link host after (ap (λ (l : Round B). l.ahead) does.2);
      }
  act_safe (Keeps false) p q host after before array safe does run = record {
    device = ap (λ (l : Round B). l.device) does.2 ∙ safe.device;
    record_len_is = ap (λ (l : Round B). l.record_len) does.2 ∙ safe.record_len_is;
    live =
        subst (λ (h : Host). WillHoldAfter may_lie v q.core (waiting q.link) h array) run
        (subst (λ (l : Round B). WillHoldAfter may_lie v q.core (waiting l) host array) (sym does.2)
        (subst (λ (s : State). WillHoldAfter may_lie v s (waiting p.link) host array) (sym does.1) safe.live));
    kept = λ bytes back.
        subst (λ (h : Host). IsKept may_lie v q.link.kept bytes h before array) run
        (subst (λ (l : Round B). IsKept may_lie v l.kept bytes host before array) (sym does.2) (handed p host before array safe bytes (does.0 bytes back)));
    ahead = subst (λ (h : Host). AreAhead may_lie v h q.link) run (subst (λ (l : Round B). AreAhead may_lie v host l) (sym does.2) safe.ahead);
  }

  -- where a process ends, nothing is sent any more

  ended : (p : Process B K) (host after : Host) (before array : ℕ → List ℕ) (fetches : List (List ℕ)) (bytes : List ℕ) (exchanges : List Exchange) → Safe p host before array
      → AreSentAhead p.link fetches exchanges → PlainRun may_lie v host exchanges after → IsKept may_lie v p.link.kept bytes host before array → IsKept may_lie v [] bytes after before array
  ended p host after before array fetches bytes exchanges safe sent run k =
      kept_on may_lie v p.link.device p.link.kept [] fetches bytes host after before array exchanges safe.device sent (λ b among. absurd among) run k

  end_safe : (act : Act) (p : Process B K) (bytes : List ℕ) (exchanges : List Exchange) (host after : Host) (before array : ℕ → List ℕ) → Safe p host before array
      → EndsIn v batches reads_back p act bytes exchanges → PlainRun may_lie v host exchanges after → IsKept may_lie v [] bytes after before array
  end_safe (Hears event x) p bytes exchanges host after before array safe ends run = ended p host after before array [] bytes exchanges safe (inl ends.1) run (safe.kept bytes ends.0)
  end_safe (Calls o xs x) p bytes exchanges host after before array safe ends run = ended p host after before array (ends.0 ∷ []) bytes exchanges safe (as_ahead p.link ends.0 exchanges ends.3) run (safe.kept bytes ends.2)
  end_safe (Misses o xs) p bytes exchanges host after before array safe ends run = ended p host after before array (ends.0 ∷ []) bytes exchanges safe (as_ahead p.link ends.0 exchanges ends.3) run (safe.kept bytes ends.2)
  end_safe (GoesAhead xs) p bytes exchanges host after before array safe ends run =
      ended p host after before array (next_bodies v.device p.core) bytes exchanges safe ends.1 run (safe.kept bytes ends.0)
  end_safe (Keeps done) p bytes exchanges host after before array safe ends run =
      ended p host after before array [] bytes exchanges safe (inl ends.1) run (handed p host before array safe bytes ends.0)

  -- acts, one after the other

  earlier_first : (act : Act) (acts : List Act) (before array : ℕ → List ℕ) → earlier (act ∷ acts) before array ≡ earlier acts (earlier (act ∷ []) before array) array
  earlier_first (Hears event x) acts before array = refl
  earlier_first (Calls o exchanges x) acts before array = refl
  earlier_first (Misses o exchanges) acts before array = refl
  earlier_first (GoesAhead exchanges) acts before array = refl
  earlier_first (Keeps true) acts before array = refl
  earlier_first (Keeps false) acts before array = refl

  all_safe : (acts : List Act) (p q : Process B K) (host after : Host) (before array : ℕ → List ℕ) → Safe p host before array → DoesAll v batches reads_back p acts q
      → PlainRun may_lie v host (flat_map exchanges_of acts) after → Safe q after (earlier acts before array) array
  all_safe [] p q host after before array safe does run =
      subst (λ (r : Process B K). Safe r after before array) does (subst (λ (h : Host). Safe p h before array) run safe)
  all_safe (act ∷ acts) p q host after before array safe does run =
      let halves = folds_split {P = Host} {A = Exchange} (λ h e g. IsPlainCall may_lie v h e.0 e.1 g) host after (exchanges_of act) (flat_map exchanges_of acts) run in
      let one = act_safe act p does.0 host halves.0 before array safe does.1 halves.1 in
      subst (λ (b : ℕ → List ℕ). Safe q after b array) (sym (earlier_first act acts before array))
      (all_safe acts does.0 q halves.0 after (earlier (act ∷ []) before array) array one does.2 halves.2)

pub acts_are_safe : {B K : Type 0} (batches : B → List (List ℕ) → BatchOutcome → List Exchange → B → Type 0) (reads_back : K → List ℕ → Type 0) → ActsAreSafe batches reads_back
acts_are_safe batches reads_back are may_lie v acts p q host after before array device safe does run =
    all_safe batches reads_back are may_lie v device acts p q host after before array safe does run

pub ends_are_safe : {B K : Type 0} (batches : B → List (List ℕ) → BatchOutcome → List Exchange → B → Type 0) (reads_back : K → List ℕ → Type 0) → EndsAreSafe batches reads_back
ends_are_safe batches reads_back are may_lie v p act bytes exchanges host after before array device safe ends run =
    end_safe batches reads_back are may_lie v device act p bytes exchanges host after before array safe ends run

pub begun_is_safe : (B : Type 0) {K : Type 0} (reads_back : K → List ℕ → Type 0) → BegunIsSafe B reads_back
begun_is_safe B {K} reads_back may_lie v inner stores core keeper bytes host before array k stores_are core_is one = elim k.holds [
  | inl old ↦ inl (from before old)
  | inr new ↦ inr (from array new)
]
  where
    from : (now : ℕ → List ℕ) → WillHoldAfter may_lie v k.core k.stores host now → IsSafe may_lie v reads_back (begun inner v stores core keeper) host now now
    from now will =
        let here : WillHoldAfter may_lie v core stores host now =
        subst (λ (s : State). WillHoldAfter may_lie v s stores host now) core_is (subst (λ (all : List (List ℕ)). WillHoldAfter may_lie v k.core all host now) stores_are will) in
        record {
          device = refl;
          record_len_is = refl;
          live = subst (λ (all : List (List ℕ)). WillHoldAfter may_lie v core all host now) (sym (append-nil stores)) here;
          kept = λ other back. record {
            stores = k.stores;
            core = k.core;
            file = subst (λ (b : List ℕ). IsFile v b k.stores k.core) (sym (one other back)) k.file;
            covers = λ b among. subst (IsAmong b) (sym stores_are) among;
            holds = inl will;
          };
          ahead = inl refl;
        }
