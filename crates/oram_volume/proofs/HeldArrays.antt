-- What a process goes on holding beside a host, whatever it does.
use Rattle.std.proofs.Common.{◌≡◌, ◌⊎◌, ℕ, Bool, true, false, List, [], ◌∷◌, ◌++◌, map, IfSome, Option, None, Some, refl, sym, ap, ◌∙◌, subst, inl, inr}
use Rattle.std.proofs.lemmas.Grind.{flat_map-append}
use Rattle.std.proofs.lemmas.List.{append-nil, map-append}
use Rattle.std.specs.List.{AllByRecursion, FoldsTo, flat_map}
use Rattle.oram_geometry.specs.Sizes.{IsDevice}
use Rattle.oram_semantics.specs.Scheme.{Scheme}
use Rattle.oram_semantics.specs.Progress.Status.{Stalling}
use Rattle.oram_semantics.specs.State.{State, status_in}
use Rattle.oram_session.specs.CoreWork.{HasNoWork}
use Rattle.oram_link_laws.specs.Repair.{IsAmong}
use Rattle.oram_link_laws.specs.Runs.{Exchange}
use Rattle.oram_link_laws.proofs.Exchanged.{folds_join}
use Rattle.oram_nbd.specs.Beside.{GoesOn, Arrays, HasArrays}
use Rattle.oram_nbd.specs.Calls.{SavesPart}
use Rattle.oram_nbd.proofs.Beside.{one_call}
use Rattle.oram_rounds.specs.Batches.{BatchOutcome}
use Rattle.oram_rounds.specs.CatchUp.{PlainRun}
use Rattle.oram_rounds.specs.Law.{AreBatches, IsFetchNow}
use Rattle.oram_rounds.specs.Process.{Act, Does, DoesAll, IsSafe, Process, earlier, exchanges_of, process}
use Rattle.oram_rounds.specs.Process.Act.{Calls, GoesAhead, Hears, Keeps, Misses}
use Rattle.oram_rounds.specs.Rounds.{Round, waiting}
use Rattle.oram_rounds.specs.Service.{WillHoldAfter}
use Rattle.oram_rounds.specs.Start.{AreSubmitted, SubmittedCommand, array_with}
use Rattle.oram_rounds.proofs.AllSubmitted.{submitted_to_processes}
use Rattle.oram_rounds.proofs.Safety.{acts_are_safe}
use Rattle.oram_rounds.proofs.Start.{held_is_safe, submitted_is_safe}
use Rattle.oram_rounds.specs.ProcessSteps.{ProcessStep, exchanges_in}
use Rattle.oram_volume.specs.CarriedOut.{Had, Stops, TakesStep, TakesSteps}
use Rattle.oram_rounds.specs.ProcessSteps.ProcessStep.{Acts, Takes}
use Rattle.oram_volume.proofs.KeptFirst.{KeepsFirst, sends_taken}
use Rattle.oram_volume.specs.HeldArrays.{HeldDevicesHold, HoldsArray, HostBeside, HostHears, KeepsArray, Running}

-- the host goes through exchanges
pub heard : (may_lie : Bool) (exchanges : List Exchange) (w later : HostBeside) → FoldsTo {P = HostBeside} {A = Exchange} (HostHears may_lie) w exchanges later
    → (later.scheme ≡ w.scheme) × PlainRun may_lie w.scheme w.host exchanges later.host
heard may_lie [] w later same = (ap (λ (b : HostBeside). b.scheme) (sym same), ap (λ (b : HostBeside). b.host) same)
heard may_lie (e ∷ exchanges) w later all =
    let rest = heard may_lie exchanges all.0 later all.2 in
    (rest.0 ∙ all.1.0, (all.0.host, all.1.1, subst (λ (v : Scheme). PlainRun may_lie v all.0.host exchanges later.host) all.1.0 rest.1))

-- a keeper at which nothing is read back
abbrev pub Nothing : {K : Type 0} → K → List ℕ → Type 0
Nothing keeper bytes = ⊥

-- if the array that may be read back is the present one, it stays so
earlier_same : (acts : List Act) (array : ℕ → List ℕ) → earlier acts array array ≡ array
earlier_same [] array = refl
earlier_same (Hears event x ∷ acts) array = earlier_same acts array
earlier_same (Calls o exchanges x ∷ acts) array = earlier_same acts array
earlier_same (Misses o exchanges ∷ acts) array = earlier_same acts array
earlier_same (GoesAhead exchanges ∷ acts) array = earlier_same acts array
earlier_same (Keeps true ∷ acts) array = earlier_same acts array
earlier_same (Keeps false ∷ acts) array = earlier_same acts array

-- the array that may be read back after some acts is the one from before them, or the present one
earlier_either : (acts : List Act) (before array : ℕ → List ℕ) → (earlier acts before array ≡ before) ⊎ (earlier acts before array ≡ array)
earlier_either [] before array = inl refl
earlier_either (Hears event x ∷ acts) before array = earlier_either acts before array
earlier_either (Calls o exchanges x ∷ acts) before array = earlier_either acts before array
earlier_either (Misses o exchanges ∷ acts) before array = earlier_either acts before array
earlier_either (GoesAhead exchanges ∷ acts) before array = earlier_either acts before array
earlier_either (Keeps true ∷ acts) before array = inr (earlier_same acts array)
earlier_either (Keeps false ∷ acts) before array = earlier_either acts before array

-- the process has kept itself in these acts
abbrev pub HaveKept : List Act → Type 0
HaveKept acts = (before array : ℕ → List ℕ) → earlier acts before array ≡ array

pub kept_first : (acts : List Act) → HaveKept (Keeps true ∷ acts)
kept_first acts before array = earlier_same acts array

-- These acts leave no command waiting that isn't kept, unless none waited before.
abbrev pub NoWorkIsKept : State → List Act → State → Type 0
NoWorkIsKept s acts t = HasNoWork t → HasNoWork s ⊎ HaveKept acts

-- of a device with this scheme, and a tape with these words
module _ {B K : Type 0} (batches : B → List (List ℕ) → BatchOutcome → List Exchange → B → Type 0) (reads_back : K → List ℕ → Type 0) (are : AreBatches batches) (v : Scheme) (words : ℕ → ℕ → List ℕ) where
  abbrev pub at : Process B K → Running B K
  at p = record { scheme = v; words = words; process = p }

  -- a process does the same over any keeper at which less is read back
  forgotten : (acts : List Act) (p q : Process B K) → DoesAll v batches reads_back p acts q → DoesAll v batches Nothing p acts q
  forgotten [] p q does = does
  forgotten (Hears event x ∷ acts) p q does = (does.0, does.1, forgotten acts does.0 q does.2)
  forgotten (Calls o exchanges x ∷ acts) p q does = (does.0, does.1, forgotten acts does.0 q does.2)
  forgotten (Misses o exchanges ∷ acts) p q does = (does.0, does.1, forgotten acts does.0 q does.2)
  forgotten (GoesAhead exchanges ∷ acts) p q does = (does.0, does.1, forgotten acts does.0 q does.2)
  forgotten (Keeps true ∷ acts) p q does = (does.0, (λ bytes back. absurd back, does.1.1, does.1.2, does.1.3), forgotten acts does.0 q does.2)
  forgotten (Keeps false ∷ acts) p q does = (does.0, (λ bytes back. absurd back, does.1.1, does.1.2), forgotten acts does.0 q does.2)

  -- acts are steps of the process, and so are submissions

  pub acts_taken : (acts : List Act) (p q : Process B K) → DoesAll v batches reads_back p acts q → TakesSteps batches reads_back (at p) (map {B = ProcessStep} Acts acts) (at q)
  acts_taken [] p q does = ap at does
  acts_taken (act ∷ acts) p q does = (at does.0, (refl, refl, does.1), acts_taken acts does.0 q does.2)

  pub submitted_taken : (submitted : List SubmittedCommand) (session : ℕ) (s t : State) (l : Round B) (k : K) → AreSubmitted v words session s submitted t
      → TakesSteps batches reads_back (at (process s l k)) (map {B = ProcessStep} Takes submitted) (at (process t l k))
  submitted_taken [] session s t l k same = ap (λ (c : State). at (process c l k)) same
  submitted_taken (a ∷ submitted) session s t l k all =
      (at (process all.0 l k), (refl, refl, (all.1.2, refl, refl), all.1.1), submitted_taken submitted session all.0 t l k all.2)

  of_acts : (acts : List Act) → flat_map exchanges_in (map {B = ProcessStep} Acts acts) ≡ flat_map exchanges_of acts
  of_acts [] = refl
  of_acts (act ∷ acts) = ap (λ (es : List Exchange). exchanges_of act ++ es) (of_acts acts)

  of_submitted : (submitted : List SubmittedCommand) → flat_map exchanges_in (map {B = ProcessStep} Takes submitted) ≡ []
  of_submitted [] = refl
  of_submitted (a ∷ submitted) = of_submitted submitted

  -- commands are submitted, and then acts are done
  pub had : (submitted : List SubmittedCommand) (acts : List Act) (session : ℕ) (s t : State) (l : Round B) (k : K) (q : Process B K) → AreSubmitted v words session s submitted t
      → DoesAll v batches reads_back (process t l k) acts q → KeepsFirst acts → Had batches reads_back (at (process s l k)) (flat_map exchanges_of acts) (at q)
  had submitted acts session s t l k q chain does first = (
    map {B = ProcessStep} Takes submitted ++ map {B = ProcessStep} Acts acts,
    folds_join {P = Running B K} (TakesStep batches reads_back) (at (process s l k)) (at (process t l k)) (at q) (map {B = ProcessStep} Takes submitted) (map {B = ProcessStep} Acts acts)
        (submitted_taken submitted session s t l k chain) (acts_taken acts (process t l k) q does),
    flat_map-append exchanges_in (map {B = ProcessStep} Takes submitted) (map {B = ProcessStep} Acts acts)
        ∙ ap (λ (es : List Exchange). es ++ flat_map exchanges_in (map {B = ProcessStep} Acts acts)) (of_submitted submitted) ∙ of_acts acts,
    sends_taken submitted (map {B = ProcessStep} Acts acts) first,
  )

  module _ (may_lie : Bool) where
    abbrev pub Holds : Process B K → HostBeside → (ℕ → List ℕ) → Type 0
    Holds p w array = HoldsArray may_lie (at p) w array

    safe_by : (p : Process B K) (w : HostBeside) (array : ℕ → List ℕ) → (h : Holds p w array) → IsSafe may_lie v Nothing p w.host array array
    safe_by p w array h = record { device = h.same_device; record_len_is = h.same_len; live = h.will_hold; kept = λ bytes back. absurd back; ahead = h.ahead }

    held_by : (p : Process B K) (w : HostBeside) (before array : ℕ → List ℕ) → w.scheme ≡ v → IsDevice v.device → IsSafe may_lie v Nothing p w.host before array → Holds p w array
    held_by p w before array same device safe = record {
      same = same;
      device = device;
      same_device = safe.device;
      same_len = safe.record_len_is;
      will_hold = safe.live;
      ahead = safe.ahead;
    }

    -- whatever a process does, it still holds the array
    pub acts_hold : (acts : List Act) (p q : Process B K) (w later : HostBeside) (array : ℕ → List ℕ) → DoesAll v batches reads_back p acts q
        → FoldsTo {P = HostBeside} {A = Exchange} (HostHears may_lie) w (flat_map exchanges_of acts) later → Holds p w array → Holds q later array
    acts_hold acts p q w later array does run h =
        let went = heard may_lie (flat_map exchanges_of acts) w later run in
        let ran : PlainRun may_lie v w.host (flat_map exchanges_of acts) later.host = subst (λ (u : Scheme). PlainRun may_lie u w.host (flat_map exchanges_of acts) later.host) h.same went.1 in
        held_by q later _ array (went.0 ∙ h.same) h.device
        (acts_are_safe batches Nothing are may_lie v acts p q w.host later.host array array h.device (safe_by p w array h) (forgotten acts p q does) ran)

    -- A process that has kept itself has kept the array that it holds.
    kept_now : (p m : Process B K) (w : HostBeside) (array : ℕ → List ℕ) → Holds p w array → Does v batches reads_back p (Keeps true) m → IsSafe may_lie v reads_back m w.host array array
    kept_now p m w array h does =
        let all : waiting m.link ≡ waiting p.link = ap (λ (l : Round B). waiting l) does.2 ∙ append-nil (waiting p.link) in
        let none : m.link.ahead ≡ [] = ap (λ (l : Round B). l.ahead) does.2 in
        record {
          device = ap (λ (l : Round B). l.device) does.2 ∙ h.same_device;
          record_len_is = ap (λ (l : Round B). l.record_len) does.2 ∙ h.same_len;
          live = subst (λ (stores : List (List ℕ)). WillHoldAfter may_lie v m.core stores w.host array) (sym all)
              (subst (λ (s : State). WillHoldAfter may_lie v s (waiting p.link) w.host array) (sym does.1) h.will_hold);
          kept = λ bytes back. record {
            stores = waiting p.link;
            core = p.core;
            file = does.0 bytes back;
            covers = λ b among. subst (IsAmong b) (ap (λ (l : Round B). l.kept) does.2) among;
            holds = inl h.will_hold;
          };
          ahead = inl none;
        }

    -- and it goes on so, whatever it does then
    pub keeps_on : (acts : List Act) (p q : Process B K) (w later : HostBeside) (array : ℕ → List ℕ) → DoesAll v batches reads_back p (Keeps true ∷ acts) q
        → FoldsTo {P = HostBeside} {A = Exchange} (HostHears may_lie) w (flat_map exchanges_of acts) later → Holds p w array → KeepsArray reads_back may_lie (at q) later array array
    keeps_on acts p q w later array does run h =
        let went = heard may_lie (flat_map exchanges_of acts) w later run in
        let ran : PlainRun may_lie v w.host (flat_map exchanges_of acts) later.host = subst (λ (u : Scheme). PlainRun may_lie u w.host (flat_map exchanges_of acts) later.host) h.same went.1 in
        let safe = acts_are_safe batches reads_back are may_lie v acts does.0 q w.host later.host array array h.device (kept_now p does.0 w array h does.1) does.2 ran in
        record {
          same = went.0 ∙ h.same;
          device = h.device;
          safe = subst (λ (b : ℕ → List ℕ). IsSafe may_lie v reads_back q later.host b array) (earlier_same acts array) safe;
          no_work = λ none. refl;
        }

    -- what a process has kept stays so, or the present array is kept
    acts_keep : (acts : List Act) (p q : Process B K) (w later : HostBeside) (before array : ℕ → List ℕ) → DoesAll v batches reads_back p acts q
        → FoldsTo {P = HostBeside} {A = Exchange} (HostHears may_lie) w (flat_map exchanges_of acts) later → w.scheme ≡ v → IsDevice v.device → IsSafe may_lie v reads_back p w.host before array
        → (HasNoWork q.core → earlier acts before array ≡ array) → KeepsArray reads_back may_lie (at q) later (earlier acts before array) array
    acts_keep acts p q w later before array does run same device safe no_work =
        let went = heard may_lie (flat_map exchanges_of acts) w later run in
        let ran : PlainRun may_lie v w.host (flat_map exchanges_of acts) later.host = subst (λ (u : Scheme). PlainRun may_lie u w.host (flat_map exchanges_of acts) later.host) same went.1 in
        record {
          same = went.0 ∙ same;
          device = device;
          safe = acts_are_safe batches reads_back are may_lie v acts p q w.host later.host before array device safe does ran;
          no_work = no_work;
        }

    -- once commands were submitted it holds the array after those that were accepted
    pub submitted_hold : (submitted : List SubmittedCommand) (session : ℕ) (s t : State) (l : Round B) (k : K) (w : HostBeside) (array : ℕ → List ℕ) → AreSubmitted v words session s submitted t
        → Holds (process s l k) w array → Holds (process t l k) w (array_with v.device submitted array)
    submitted_hold submitted session s t l k w array chain h =
        held_by (process t l k) w _ (array_with v.device submitted array) h.same h.device
        (submitted_is_safe B Nothing may_lie v submitted (process s l k) (process t l k) w.host array h.device (safe_by (process s l k) w array h)
        (submitted_to_processes B K v words session submitted s t l k chain))

  -- what is known of a process beside a host
  abbrev pub Knows : Bool → Process B K → HostBeside → Arrays (ℕ → List ℕ) → Type 0
  Knows may_lie p w h = HasArrays HoldsArray (KeepsArray reads_back) may_lie (at p) w h

  abbrev pub Goes : Process B K → (Bool → Arrays (ℕ → List ℕ) → Arrays (ℕ → List ℕ) → Type 0) → Process B K → Type 0
  Goes p step q = GoesOn (Had batches reads_back) HostHears (HasArrays HoldsArray (KeepsArray reads_back)) (at p) step (at q)

  -- acts leave the array as it is
  pub acts_go_on : (acts : List Act) (p q : Process B K) → DoesAll v batches reads_back p acts q → KeepsFirst acts → NoWorkIsKept p.core acts q.core
      → Goes p (λ _ old new. (new.held ≡ old.held) × SavesPart (λ array part. part ≡ array) old new) q
  acts_go_on acts p q does sends kept_work = one_call (flat_map exchanges_of acts) (had [] acts 0 p.core p.core p.link p.keeper q refl does sends)
      (λ may_lie w later run old h. by may_lie w later run old.held old.saved h.0 h.1)
    where
      by : (may_lie : Bool) (w later : HostBeside) → FoldsTo {P = HostBeside} {A = Exchange} (HostHears may_lie) w (flat_map exchanges_of acts) later → (array : ℕ → List ℕ) (saved : Option (ℕ → List ℕ)) → Holds may_lie p w array
          → IfSome saved (λ before. KeepsArray reads_back may_lie (at p) w before array)
          → (next : Arrays (ℕ → List ℕ)) × ((next.held ≡ array) × SavesPart (λ one part. part ≡ one) (record { held = array; saved = saved }) next) × Knows may_lie q later next
      by may_lie w later run array None h k = (record { held = array; saved = None }, (refl, record { either = inl refl }), (acts_hold may_lie acts p q w later array does run h, tt))
      by may_lie w later run array (Some before) h k = (
        record { held = array; saved = Some (earlier acts before array) },
        (refl, record { either = elim (earlier_either acts before array) [ inl same ↦ inl (ap (λ (a : ℕ → List ℕ). Some a) same) | inr now ↦ inr (earlier acts before array, now, refl) ] }),
        (
          acts_hold may_lie acts p q w later array does run h,
          acts_keep may_lie acts p q w later before array does run k.same k.device k.safe (λ none. elim (kept_work none) [
            | inl idle ↦ subst (λ (b : ℕ → List ℕ). earlier acts b array ≡ array) (sym (k.no_work idle)) (earlier_same acts array)
            | inr have ↦ have before array
          ]),
        ),
      )

  -- submissions to a core at which none waits, and then acts
  pub submitted_go_on : (submitted : List SubmittedCommand) (acts : List Act) (session : ℕ) (s t : State) (l : Round B) (k : K) (q : Process B K) → AreSubmitted v words session s submitted t → HasNoWork s
      → (HasNoWork t → (array : ℕ → List ℕ) → array_with v.device submitted array ≡ array) → DoesAll v batches reads_back (process t l k) acts q → KeepsFirst acts → NoWorkIsKept t acts q.core
      → Goes (process s l k) (λ _ old new. (new.held ≡ array_with v.device submitted old.held) × SavesPart (λ array part. (part ≡ array) ⊎ (part ≡ array_with v.device submitted array)) old new) q
  submitted_go_on submitted acts session s t l k q chain idle none_accepted does sends kept_work = one_call (flat_map exchanges_of acts) (had submitted acts session s t l k q chain does sends)
      (λ may_lie w later run old h. by may_lie w later run old.held old.saved h.0 h.1)
    where
      by : (may_lie : Bool) (w later : HostBeside) → FoldsTo {P = HostBeside} {A = Exchange} (HostHears may_lie) w (flat_map exchanges_of acts) later → (array : ℕ → List ℕ) (saved : Option (ℕ → List ℕ))
          → Holds may_lie (process s l k) w array → IfSome saved (λ before. KeepsArray reads_back may_lie (at (process s l k)) w before array)
          → (next : Arrays (ℕ → List ℕ))
          × ((next.held ≡ array_with v.device submitted array) × SavesPart (λ one part. (part ≡ one) ⊎ (part ≡ array_with v.device submitted one)) (record { held = array; saved = saved }) next) × Knows may_lie q later next
      by may_lie w later run array None h k' =
          let held = acts_hold may_lie acts (process t l k) q w later (array_with v.device submitted array) does run (submitted_hold may_lie submitted session s t l k w array chain h) in
          (record { held = array_with v.device submitted array; saved = None }, (refl, record { either = inl refl }), (held, tt))
      by may_lie w later run array (Some before) h k' =
          let held = acts_hold may_lie acts (process t l k) q w later (array_with v.device submitted array) does run (submitted_hold may_lie submitted session s t l k w array chain h) in
          let same : before ≡ array = k'.no_work idle in
          let safe : IsSafe may_lie v reads_back (process t l k) w.host array (array_with v.device submitted array) =
          submitted_is_safe B reads_back may_lie v submitted (process s l k) (process t l k) w.host array k'.device
          (subst (λ (b : ℕ → List ℕ). IsSafe may_lie v reads_back (process s l k) w.host b array) same k'.safe) (submitted_to_processes B K v words session submitted s t l k chain) in
          let now : ℕ → List ℕ = array_with v.device submitted array in (
            record { held = now; saved = Some (earlier acts array now) },
            (refl, record { either = inr (earlier acts array now, earlier_either acts array now, refl) }),
            (
              held,
              acts_keep may_lie acts (process t l k) q w later array now does run k'.same k'.device safe (λ none. elim (kept_work none) [
                | inl rests ↦ subst (λ (b : ℕ → List ℕ). earlier acts b now ≡ now) (none_accepted rests array) (earlier_same acts now)
                | inr have ↦ have array now
              ]),
            ),
          )

  -- if acts stop, the process does
  pub acts_stop : (acts : List Act) (p q : Process B K) → DoesAll v batches reads_back p acts q → (status_in q.core ≡ Stalling) ⊎ ((before : List Act) × (acts ≡ before ++ Keeps false ∷ []))
      → Stops batches reads_back (at p) (at q)
  acts_stop acts p q does why = (
    map {B = ProcessStep} Acts acts,
    acts_taken acts p q does,
    elim why [
      | inl stalled ↦ inl stalled
      | inr failed ↦ inr (inl (
        map {B = ProcessStep} Acts failed.0,
        ap (λ (l : List Act). map {B = ProcessStep} Acts l) failed.1 ∙ map-append {B = ProcessStep} Acts failed.0 (Keeps false ∷ []),
      ))
    ],
  )

-- beside an honest host no device that holds an array has failed
pub alive : {B K : Type 0} (p : Running B K) (w : HostBeside) (array : ℕ → List ℕ) → HoldsArray false p w array → p.process.core.failure ≡ None
alive p w array h = elim h.will_hold.2 [
  | inl will ↦ will.1.alive
  | inr failed ↦ absurd (let lies = failed.0 in cc)
]

-- a process that begins with a device as a host keeps it
pub held_devices_hold : (B K : Type 0) → HeldDevicesHold B K
held_devices_hold B K may_lie v words inner core keeper host array bytes device held laid =
    let safe = held_is_safe B {K = K} Nothing may_lie v inner core keeper host array held (λ bytes back. absurd back) in record {
      array = array;
      holds = record { same = refl; device = device; same_device = safe.device; same_len = safe.record_len_is; will_hold = safe.live; ahead = safe.ahead };
      laid = laid;
    }
