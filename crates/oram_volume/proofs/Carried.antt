-- A round of commands after what waited: what it leaves, by what each of its parts says.
use Rattle.std.proofs.Common.{◌≡◌, ◌≢◌, ◌⊎◌, ℕ, ◌<◌, ◌≤◌, Bool, true, false, List, [], ◌∷◌, ◌++◌, length, map, take, drop, count_by, All, None, Option, Some, Result, Ok, Err, IfErr, IfOk, IsErrOf, MatchResult, refl, sym, ap, ◌∙◌, subst, append_assoc, arith, inl, inr}
use Rattle.std.proofs.lemmas.List.{length-map, map-append, take-append-drop, take-append-le, append-nil, nil_from_length}
use Rattle.std.proofs.lemmas.List.Elements.{All-cons, All-head, All-nil, All-tail}
use Rattle.std.specs.List.{FoldsTo, flat_map}
use Rattle.oram_bucket.specs.Cipher.{Cipher}
use Rattle.oram_geometry.specs.declared.Sizes.{Sizes}
use Rattle.oram_nbd.specs.Calls.{FailsByLies, Saves, SavesAll, SavesPart}
use Rattle.oram_nbd.specs.declared.faults.DiskFault.{DiskFault}
use Rattle.oram_nbd.specs.declared.faults.DiskFault.TheVariants.{Failed, Stopped}
use Rattle.oram_semantics.specs.declared.events.Reason.{Reason}
use Rattle.oram_semantics.specs.declared.events.ReplyBody.{ReplyBody}
use Rattle.oram_semantics.specs.Run.{is_accepted}
use Rattle.oram_semantics.specs.Scheme.{Scheme}
use Rattle.oram_semantics.specs.Progress.Status.{Stalling}
use Rattle.oram_semantics.specs.State.{State, status_in}
use Rattle.oram_semantics.specs.declared.events.Command.{Command}
use Rattle.oram_semantics.specs.declared.events.Note.{Note}
use Rattle.oram_semantics.specs.declared.events.Reply.{Reply}
use Rattle.oram_semantics.specs.declared.events.Submission.{Submission}
use Rattle.oram_core.specs.Core.{CoreValue, IsSameDevice, scheme_of}
use Rattle.oram_session.proofs.CoreSteps.{same_scheme, same_trans}
use Rattle.oram_session.specs.CoreWork.{HasNoWork}
use Rattle.oram_link_laws.specs.Runs.{Exchange}
use Rattle.oram_link_laws.proofs.Exchanged.{folds_join}
use Rattle.oram_nbd.specs.Beside.{GoesOn, Arrays, HasArrays}
use Rattle.oram_nbd.proofs.Beside.{joined_calls, weaker}
use Rattle.oram_nbd.proofs.Saving.{part_joined, part_weaker}
use Rattle.oram_rounds.specs.Batches.{BatchOutcome}
use Rattle.oram_rounds.specs.Law.{AreBatches}
use Rattle.oram_rounds.specs.Process.Act.{Keeps}
use Rattle.oram_rounds.specs.Process.{Act, DoesAll, Process, process, replies_of}
use Rattle.oram_rounds.specs.Start.{AreSubmitted, SubmittedCommand, array_with}
use Rattle.oram_rounds.specs.ProcessSteps.{ProcessStep}
use Rattle.oram_semantics.specs.Events.{address_of}
use Rattle.oram_volume.proofs.KeptFirst.{KeepsFirst}
use Rattle.oram_volume.specs.CarriedOut.{AsksRound, Had, IsAfterFirst, Stops, TakesStep, TakesSteps, after_commands, bodies_from}
use Rattle.oram_rounds.specs.ProcessSteps.ProcessStep.{Acts, Takes}
use Rattle.oram_volume.specs.HeldArrays.{HostHears, HoldsArray, KeepsArray, Running, running}
use Rattle.oram_volume.specs.RangeCommands.{FitsDevice}
use Rattle.oram_volume.specs.Parts.{VolumeParts as Volume}
use Rattle.oram_rounds.specs.Rounds.{Round}
use Rattle.oram_rounds.proofs.Start.{resting}
use Rattle.oram_volume.proofs.Answered.{NoneFailed, bodies, none_failed, replies_go_on}
use Rattle.oram_volume.proofs.HeldArrays.{NoWorkIsKept, acts_taken, submitted_go_on, submitted_taken}
use Rattle.oram_volume.proofs.Submitted.{AllFit, accepted_in, all_accepted, first_accepted, none_submitted, one_refused}

pub lies_if : (may_lie : Bool) → (may_lie ≡ false → ⊥) → may_lie ≡ true
lies_if true honest = refl
lies_if false honest = absurd (honest refl)

front_all : (P : Command → Type 0) (xs ys : List Command) → All P (xs ++ ys) → All P xs
front_all P [] ys all = All-nil P
front_all P (x ∷ xs) ys all = All-cons P x xs (All-head P x (xs ++ ys) all) (front_all P xs ys (All-tail P x (xs ++ ys) all))

-- the steps of all calls
pub steps_of : {B K : Type 0} (batches : B → List (List ℕ) → BatchOutcome → List Exchange → B → Type 0) (reads_back : K → List ℕ → Type 0) (calls : List (List Exchange)) (p q : Running B K)
    → FoldsTo {P = Running B K} {A = List Exchange} (Had batches reads_back) p calls q → (steps : List ProcessStep) × TakesSteps batches reads_back p steps q
steps_of batches reads_back [] p q same = ([], same)
steps_of {B} {K} batches reads_back (events ∷ calls) p q all =
    let rest = steps_of batches reads_back calls all.0 q all.2 in
    (all.1.0 ++ rest.0, folds_join {P = Running B K} {A = ProcessStep} (TakesStep batches reads_back) p all.0 q all.1.0 rest.0 all.1.1 rest.1)

-- a volume whose device and tape are those of another one
pub same_running : {S B K T : Type 0} (cipher : S → Cipher) (words : T → ℕ → ℕ → List ℕ) (old new : Volume S B K T) → IsSameDevice old.core new.core → words new.tape ≡ words old.tape
    → running cipher words new ≡ record { scheme = scheme_of cipher old.core; words = words old.tape; process = process new.core.state new.link new.keeper }
same_running {S} {B} {K} cipher words old new kept tape =
    ap (λ (v : Scheme). let r : Running B K = record { scheme = v; words = words new.tape; process = process new.core.state new.link new.keeper } in r) (same_scheme cipher old.core new.core kept)
    ∙ ap (λ (ws : ℕ → ℕ → List ℕ). let r : Running B K = record { scheme = scheme_of cipher old.core; words = ws; process = process new.core.state new.link new.keeper } in r) tape

-- the same array is held, and what was kept still is, or this array
abbrev pub Rests : Bool → Arrays (ℕ → List ℕ) → Arrays (ℕ → List ℕ) → Type 0
Rests may_lie old new = (new.held ≡ old.held) × SavesPart (λ array part. part ≡ array) old new

-- the array after the first of the commands is held, and what was kept still is, or an array after the first of them
abbrev pub FirstOnes : Sizes → List Command → Arrays (ℕ → List ℕ) → Arrays (ℕ → List ℕ) → Type 0
FirstOnes d commands old new = IsAfterFirst d commands old.held new.held × SavesPart (IsAfterFirst d commands) old new

-- none of them yet
pub first_none : (d : Sizes) (commands : List Command) (array part : ℕ → List ℕ) → part ≡ array → IsAfterFirst d commands array part
first_none d commands array part same = ([], commands, refl, same)

-- if there are no commands, none of them comes first
nothing_first : (d : Sizes) (commands : List Command) → commands ≡ [] → (array later : ℕ → List ℕ) → IsAfterFirst d commands array later → later ≡ array
nothing_first d commands none array later (done, rest, split, is) =
    is ∙ ap (λ (cs : List Command). after_commands d cs array) (no_front done rest (sym split ∙ none))
  where
    no_front : (xs ys : List Command) → xs ++ ys ≡ [] → xs ≡ []
    no_front [] ys none' = refl
    no_front (x ∷ xs) ys none' = absurd cc

-- The same array is held. Then what was kept is, or this array is kept.
pub unchanged : {touched : Type 0} (old new : Arrays (ℕ → List ℕ)) → new.held ≡ old.held → SavesPart (λ array part. part ≡ array) old new → (touched → ⊥) → SavesAll touched old new
unchanged old new same k none = elim k.either [
  | inl saved ↦ record { either = inr (none, both new.held old.held new.saved old.saved same saved) }
  | inr part ↦ record { either = inl (part.2 ∙ ap (λ (a : ℕ → List ℕ). Some a) (part.1 ∙ sym same)) }
]
  where
    both : (a b : ℕ → List ℕ) (x y : Option (ℕ → List ℕ)) → a ≡ b → x ≡ y → (let h : Arrays (ℕ → List ℕ) = record { held = a; saved = x } in h) ≡ (let h : Arrays (ℕ → List ℕ) = record { held = b; saved = y } in h)
    both a b x y e f =
        ap (λ (z : ℕ → List ℕ). let h : Arrays (ℕ → List ℕ) = record { held = z; saved = x } in h) e ∙ ap (λ (z : Option (ℕ → List ℕ)). let h : Arrays (ℕ → List ℕ) = record { held = b; saved = z } in h) f

-- a volume, and what it is once it has carried out what waited
module _ {S B K T : Type 0} (cipher : S → Cipher) (words : T → ℕ → ℕ → List ℕ) (batches : B → List (List ℕ) → BatchOutcome → List Exchange → B → Type 0) (reads_back : K → List ℕ → Type 0) (are : AreBatches batches)
    (old mid : Volume S B K T) (kept : IsSameDevice old.core mid.core) (tape : words mid.tape ≡ words old.tape)
    (goes : GoesOn (Had batches reads_back) HostHears (HasArrays HoldsArray (KeepsArray reads_back)) (running cipher words old) Rests (running cipher words mid)) where
  abbrev v : Scheme
  v = scheme_of cipher old.core

  abbrev tape_words : ℕ → ℕ → List ℕ
  tape_words = words old.tape

  abbrev at : Process B K → Running B K
  at p = record { scheme = v; words = tape_words; process = p }

  abbrev here : Process B K
  here = process mid.core.state mid.link mid.keeper

  abbrev Goes : (Bool → Arrays (ℕ → List ℕ) → Arrays (ℕ → List ℕ) → Type 0) → Volume S B K T → Type 0
  Goes step new = GoesOn (Had batches reads_back) HostHears (HasArrays HoldsArray (KeepsArray reads_back)) (running cipher words old) step (running cipher words new)

  resumed : GoesOn (Had batches reads_back) HostHears (HasArrays HoldsArray (KeepsArray reads_back)) (running cipher words old) Rests (at here)
  resumed = subst (λ (r : Running B K). GoesOn (Had batches reads_back) HostHears (HasArrays HoldsArray (KeepsArray reads_back)) (running cipher words old) Rests r) (same_running cipher words old mid kept tape) goes

  -- the chain of submissions, as that of the old volume
  pub chain_under : (submitted : List SubmittedCommand) (t : State) → AreSubmitted (scheme_of cipher mid.core) (words mid.tape) 0 mid.core.state submitted t → AreSubmitted v tape_words 0 mid.core.state submitted t
  chain_under submitted t chain =
      subst (λ (ws : ℕ → ℕ → List ℕ). AreSubmitted v ws 0 mid.core.state submitted t) tape
      (subst (λ (u : Scheme). AreSubmitted u (words mid.tape) 0 mid.core.state submitted t) (same_scheme cipher old.core mid.core kept) chain)

  -- some of the commands were submitted
  module _ (commands : List Command) (fits : All (FitsDevice old.core.device) commands) (submitted : List SubmittedCommand) (rest : List Command) (in_order : map (λ (a : SubmittedCommand). a.command) submitted ++ rest ≡ commands)
      (t : State) (chain : AreSubmitted v tape_words 0 mid.core.state submitted t) where
    all_fit : AllFit v tape_words 0 submitted
    all_fit = front_all (FitsDevice old.core.device) (map (λ (a : SubmittedCommand). a.command) submitted) rest (subst (λ (cs : List Command). All (FitsDevice old.core.device) cs) (sym in_order) fits)

    first_ones : (array : ℕ → List ℕ) → IsAfterFirst old.core.device commands array (array_with old.core.device submitted array)
    first_ones array =
        let k = first_accepted v tape_words 0 submitted mid.core.state t chain all_fit in
        let few : k.0 ≤ length (map (λ (a : SubmittedCommand). a.command) submitted) = subst (λ (n : ℕ). k.0 ≤ n) (sym (length-map submitted (λ (a : SubmittedCommand). a.command))) k.1 in
        let same : take k.0 commands ≡ take k.0 (map (λ (a : SubmittedCommand). a.command) submitted) =
        ap (take k.0) (sym in_order) ∙ take-append-le k.0 (map (λ (a : SubmittedCommand). a.command) submitted) rest few in
        (take k.0 commands, drop k.0 commands, sym (take-append-drop k.0 commands), k.2 array ∙ ap (λ (cs : List Command). after_commands old.core.device cs array) (sym same))

    module _ (new : Volume S B K T) (kept_new : IsSameDevice old.core new.core) (tape_new : words new.tape ≡ words old.tape) (acts : List Act)
        (does : DoesAll v batches reads_back (process t mid.link mid.keeper) acts (process new.core.state new.link new.keeper)) where
      abbrev there : Process B K
      there = process new.core.state new.link new.keeper

      as_new : {step : Bool → Arrays (ℕ → List ℕ) → Arrays (ℕ → List ℕ) → Type 0} → GoesOn (Had batches reads_back) HostHears (HasArrays HoldsArray (KeepsArray reads_back)) (running cipher words old) step (at there) → Goes step new
      as_new {step} = subst (λ (r : Running B K). GoesOn (Had batches reads_back) HostHears (HasArrays HoldsArray (KeepsArray reads_back)) (running cipher words old) step r) (sym (same_running cipher words old new kept_new tape_new))

      -- the array is the one after the first of them, and so is what is kept
      pub some_done : HasNoWork mid.core.state → mid.core.state.failure ≡ None → KeepsFirst acts → NoWorkIsKept t acts new.core.state → Goes (λ may_lie from to. FirstOnes old.core.device commands from to) new
      some_done idle alive sends kept_work = as_new (joined_calls resumed
          (submitted_go_on batches reads_back are v tape_words submitted acts 0 mid.core.state t mid.link mid.keeper there chain idle
          (λ rests array. none_submitted v tape_words 0 submitted mid.core.state t chain alive rests array) does sends kept_work)
          (λ may_lie world from between to h first second. (
            subst (λ (a : ℕ → List ℕ). IsAfterFirst old.core.device commands from.held a) (sym (second.0 ∙ ap (array_with old.core.device submitted) first.0)) (first_ones from.held),
            part_joined first.1 second.1 (first_none old.core.device commands from.held) (λ part either. elim either [
              | inl same ↦ first_none old.core.device commands from.held part (same ∙ first.0)
              | inr done ↦ subst (λ (a : ℕ → List ℕ). IsAfterFirst old.core.device commands from.held a) (sym (done ∙ ap (array_with old.core.device submitted) first.0)) (first_ones from.held)
            ]),
          )))

      -- all were accepted, and each has a reply
      module _ (no_work : HasNoWork mid.core.state) (alive : mid.core.state.failure ≡ None) (replies : List Reply) (given : flat_map replies_of acts ≡ replies) (many : length replies ≡ length t.queue) where
        abbrev pub Right : List Submission → Bool → Arrays (ℕ → List ℕ) → Arrays (ℕ → List ℕ) → Type 0
        Right ys may_lie from to = IsAfterFirst old.core.device commands from.held to.held × (to.held ≡ array_with old.core.device submitted from.held)
            × ((bodies replies ≡ bodies_from old.core.device (map (λ (y : Submission). y.command) ys) from.held) ⊎ ((may_lie ≡ true) × (NoneFailed replies → ⊥))) × (to.saved ≡ Some to.held)

        pub all_replied : (ys : List Submission) → t.queue ≡ ys → (begin : List Act) → acts ≡ Keeps true ∷ begin → Goes (Right ys) new
        all_replied ys queue begin is = as_new (joined_calls resumed
            (replies_go_on batches reads_back are v tape_words submitted acts 0 mid.core.state t mid.link mid.keeper there replies no_work alive chain does given many ys queue begin is)
            (λ may_lie world from between to h first second.
            let now : to.held ≡ array_with old.core.device submitted from.held = second.0 ∙ ap (array_with old.core.device submitted) first.0 in (
              subst (λ (a : ℕ → List ℕ). IsAfterFirst old.core.device commands from.held a) (sym now) (first_ones from.held),
              now,
              subst (λ (a : ℕ → List ℕ). (bodies replies ≡ bodies_from old.core.device (map (λ (y : Submission). y.command) ys) a) ⊎ ((may_lie ≡ true) × (NoneFailed replies → ⊥))) first.0 second.1,
              second.2,
            )))

    -- a command wasn't accepted
    pub refused_stops : (new : Volume S B K T) → IsSameDevice old.core new.core → words new.tape ≡ words old.tape → (acts : List Act)
        → DoesAll v batches reads_back (process t mid.link mid.keeper) acts (process new.core.state new.link new.keeper) → accepted_in v tape_words 0 submitted < length submitted
        → Stops batches reads_back (running cipher words old) (running cipher words new)
    refused_stops new kept_new tape_new acts does few =
        let there = process new.core.state new.link new.keeper in
        let first = steps_of batches reads_back resumed.calls (running cipher words old) (at here) resumed.made in
        let taken = submitted_taken batches reads_back are v tape_words submitted 0 mid.core.state t mid.link mid.keeper chain in
        let done = acts_taken batches reads_back are v tape_words acts (process t mid.link mid.keeper) there does in
        let one = one_refused v tape_words 0 submitted few in
        let both = folds_join {P = Running B K} {A = ProcessStep} (TakesStep batches reads_back) (running cipher words old) (at here) (at (process t mid.link mid.keeper)) first.0 (map {B = ProcessStep} Takes submitted) first.1 taken in
        let all = folds_join {P = Running B K} {A = ProcessStep} (TakesStep batches reads_back) (running cipher words old) (at (process t mid.link mid.keeper)) (at there) (first.0 ++ map {B = ProcessStep} Takes submitted) (map {B = ProcessStep} Acts acts) both done in
        let split : map {B = ProcessStep} Takes submitted ≡ map {B = ProcessStep} Takes one.0 ++ Takes one.2 ∷ map {B = ProcessStep} Takes one.1 =
        ap (λ (l : List SubmittedCommand). map {B = ProcessStep} Takes l) one.4 ∙ map-append {B = ProcessStep} Takes one.0 (one.2 ∷ one.1) in
        let where_it_is : (first.0 ++ map {B = ProcessStep} Takes submitted) ++ map {B = ProcessStep} Acts acts ≡ (first.0 ++ map {B = ProcessStep} Takes one.0) ++ Takes one.2 ∷ (map {B = ProcessStep} Takes one.1 ++ map {B = ProcessStep} Acts acts) =
        ap (λ (l : List ProcessStep). (first.0 ++ l) ++ map {B = ProcessStep} Acts acts) split
        ∙ ap (λ (l : List ProcessStep). l ++ map {B = ProcessStep} Acts acts) (sym (append_assoc first.0 (map {B = ProcessStep} Takes one.0) (Takes one.2 ∷ map {B = ProcessStep} Takes one.1)))
        ∙ append_assoc (first.0 ++ map {B = ProcessStep} Takes one.0) (Takes one.2 ∷ map {B = ProcessStep} Takes one.1) (map {B = ProcessStep} Acts acts) in
        subst (λ (r : Running B K). Stops batches reads_back (running cipher words old) r) (sym (same_running cipher words old new kept_new tape_new))
        ((first.0 ++ map {B = ProcessStep} Takes submitted) ++ map {B = ProcessStep} Acts acts, all, inr (inr (first.0 ++ map {B = ProcessStep} Takes one.0, map {B = ProcessStep} Takes one.1 ++ map {B = ProcessStep} Acts acts, one.2, one.3, where_it_is)))

-- the same, from what the calls say: those of the core were submitted, and then `perform` was called
module _ {S B K T : Type 0} (cipher : S → Cipher) (words : T → ℕ → ℕ → List ℕ) (batches : B → List (List ℕ) → BatchOutcome → List Exchange → B → Type 0) (reads_back : K → List ℕ → Type 0) (are : AreBatches batches)
    (old mid : Volume S B K T) (kept : IsSameDevice old.core mid.core) (tape : words mid.tape ≡ words old.tape)
    (goes : GoesOn (Had batches reads_back) HostHears (HasArrays HoldsArray (KeepsArray reads_back)) (running cipher words old) Rests (running cipher words mid))
    (commands : List Command) (fits : All (FitsDevice old.core.device) commands) (core : CoreValue S) (drawn : T) (kept_on : IsSameDevice mid.core core) (same_tape : words drawn ≡ words mid.tape) where
  abbrev pub SomeDone : Bool → Arrays (ℕ → List ℕ) → Arrays (ℕ → List ℕ) → Type 0
  SomeDone may_lie from to = FirstOnes old.core.device commands from to

  abbrev GoesTo : (Bool → Arrays (ℕ → List ℕ) → Arrays (ℕ → List ℕ) → Type 0) → Volume S B K T → Type 0
  GoesTo step new = GoesOn (Had batches reads_back) HostHears (HasArrays HoldsArray (KeepsArray reads_back)) (running cipher words old) step (running cipher words new)

  -- those of the first commands that were submitted
  abbrev pub IsFrontSubmitted : Type 0
  IsFrontSubmitted = (submitted : List SubmittedCommand) × (rest : List Command) × (map (λ (a : SubmittedCommand). a.command) submitted ++ rest ≡ commands)
      × AreSubmitted (scheme_of cipher mid.core) (words mid.tape) 0 mid.core.state submitted core.state

  -- all of them were
  abbrev pub AreAllSubmitted : List Note → Type 0
  AreAllSubmitted notes = (submitted : List SubmittedCommand) × (map (λ (a : SubmittedCommand). a.command) submitted ≡ commands) × (map (λ (a : SubmittedCommand). a.shown.note) submitted ≡ notes)
      × AreSubmitted (scheme_of cipher mid.core) (words mid.tape) 0 mid.core.state submitted core.state

  abbrev pub front_of : (notes : List Note) → AreAllSubmitted notes → IsFrontSubmitted
  front_of notes k = (k.0, [], append-nil (map (λ (a : SubmittedCommand). a.command) k.0) ∙ k.1, k.3)

  kept_core : IsSameDevice old.core core
  kept_core = same_trans old.core mid.core core kept kept_on

  pub submitted_done : IsFrontSubmitted → HasNoWork mid.core.state → mid.core.state.failure ≡ None → GoesTo SomeDone (record { core = core; link = mid.link; keeper = mid.keeper; tape = drawn })
  submitted_done k idle alive =
      some_done cipher words batches reads_back are old mid kept tape goes commands fits k.0 k.1 k.2 core.state (chain_under cipher words batches reads_back are old mid kept tape goes k.0 core.state k.3)
      (record { core = core; link = mid.link; keeper = mid.keeper; tape = drawn }) kept_core (same_tape ∙ tape) [] refl idle alive tt (λ rests. inl rests)

  module _ (after : CoreValue S) (link : Round B) (keeper : K) (kept_then : IsSameDevice core after) (acts : List Act)
      (does : DoesAll (scheme_of cipher core) batches reads_back (process core.state mid.link mid.keeper) acts (process after.state link keeper)) where
    abbrev pub new : Volume S B K T
    new = record { core = after; link = link; keeper = keeper; tape = drawn }

    does_under : DoesAll (scheme_of cipher old.core) batches reads_back (process core.state mid.link mid.keeper) acts (process after.state link keeper)
    does_under = subst (λ (u : Scheme). DoesAll u batches reads_back (process core.state mid.link mid.keeper) acts (process after.state link keeper)) (same_scheme cipher old.core core kept_core) does

    pub performed_done : IsFrontSubmitted → HasNoWork mid.core.state → mid.core.state.failure ≡ None → KeepsFirst acts → NoWorkIsKept core.state acts after.state → GoesTo SomeDone new
    performed_done k idle alive sends kept_work =
        some_done cipher words batches reads_back are old mid kept tape goes commands fits k.0 k.1 k.2 core.state (chain_under cipher words batches reads_back are old mid kept tape goes k.0 core.state k.3)
        new (same_trans old.core core after kept_core kept_then) (same_tape ∙ tape) acts does_under idle alive sends kept_work

    -- the commands were a round, after the acts that carried out what waited
    pub asked_round : (waited : List Act) → TakesSteps batches reads_back (running cipher words old) (map {B = ProcessStep} Acts waited) (running cipher words mid) → (notes : List Note) → AreAllSubmitted notes
        → AsksRound batches reads_back (running cipher words old) (map address_of commands) (running cipher words new)
    asked_round waited first notes k =
        let v = scheme_of cipher old.core in
        let ws = words old.tape in
        let here : Running B K = record { scheme = v; words = ws; process = process mid.core.state mid.link mid.keeper } in
        let submitted : Running B K = record { scheme = v; words = ws; process = process core.state mid.link mid.keeper } in
        let there : Running B K = record { scheme = v; words = ws; process = process after.state link keeper } in
        let to_here = subst (λ (r : Running B K). TakesSteps batches reads_back (running cipher words old) (map {B = ProcessStep} Acts waited) r) (same_running cipher words old mid kept tape) first in
        let chain = chain_under cipher words batches reads_back are old mid kept tape goes k.0 core.state k.3 in
        let taken = submitted_taken batches reads_back are v ws k.0 0 mid.core.state core.state mid.link mid.keeper chain in
        let done = acts_taken batches reads_back are v ws acts (process core.state mid.link mid.keeper) (process after.state link keeper) does_under in
        let both = folds_join {P = Running B K} {A = ProcessStep} (TakesStep batches reads_back) (running cipher words old) here submitted (map {B = ProcessStep} Acts waited) (map {B = ProcessStep} Takes k.0) to_here taken in
        let all = folds_join {P = Running B K} {A = ProcessStep} (TakesStep batches reads_back) (running cipher words old) submitted there (map {B = ProcessStep} Acts waited ++ map {B = ProcessStep} Takes k.0) (map {B = ProcessStep} Acts acts) both done in
        record {
          before = waited;
          taken = k.0;
          after = acts;
          steps = subst (λ (r : Running B K). TakesSteps batches reads_back (running cipher words old) ((map {B = ProcessStep} Acts waited ++ map {B = ProcessStep} Takes k.0) ++ map {B = ProcessStep} Acts acts) r)
              (sym (same_running cipher words old new (same_trans old.core core after kept_core kept_then) (same_tape ∙ tape))) all;
          same = ap (λ (cs : List Command). map address_of cs) k.1;
        }

    -- fewer were accepted than there are
    pub performed_stops : (notes : List Note) → AreAllSubmitted notes → count_by is_accepted notes < length commands → Stops batches reads_back (running cipher words old) (running cipher words new)
    performed_stops notes k few =
        let f = front_of notes k in
        let count : accepted_in (scheme_of cipher old.core) (words old.tape) 0 k.0 ≡ count_by is_accepted notes = ap (λ (ns : List Note). count_by is_accepted ns) k.2 in
        let size : length k.0 ≡ length commands = sym (length-map k.0 (λ (a : SubmittedCommand). a.command)) ∙ ap length k.1 in
        refused_stops cipher words batches reads_back are old mid kept tape goes commands fits k.0 f.1 f.2 core.state (chain_under cipher words batches reads_back are old mid kept tape goes k.0 core.state k.3)
        new (same_trans old.core core after kept_core kept_then) (same_tape ∙ tape) acts does_under (omega (arith, count, size, few))

    -- a message stalled, or the keeper failed
    pub performed_left : IsFrontSubmitted → (status_in after.state ≡ Stalling) ⊎ ((before : List Act) × (acts ≡ before ++ Keeps false ∷ [])) → Stops batches reads_back (running cipher words old) (running cipher words new)
    performed_left k why =
        let v = scheme_of cipher old.core in
        let ws = words old.tape in
        let here : Running B K = record { scheme = v; words = ws; process = process mid.core.state mid.link mid.keeper } in
        let submitted : Running B K = record { scheme = v; words = ws; process = process core.state mid.link mid.keeper } in
        let there : Running B K = record { scheme = v; words = ws; process = process after.state link keeper } in
        let first = steps_of batches reads_back goes.calls (running cipher words old) (running cipher words mid) goes.made in
        let to_here = subst (λ (r : Running B K). TakesSteps batches reads_back (running cipher words old) first.0 r) (same_running cipher words old mid kept tape) first.1 in
        let chain = chain_under cipher words batches reads_back are old mid kept tape goes k.0 core.state k.3 in
        let taken = submitted_taken batches reads_back are v ws k.0 0 mid.core.state core.state mid.link mid.keeper chain in
        let done = acts_taken batches reads_back are v ws acts (process core.state mid.link mid.keeper) (process after.state link keeper) does_under in
        let both = folds_join {P = Running B K} {A = ProcessStep} (TakesStep batches reads_back) (running cipher words old) here submitted first.0 (map {B = ProcessStep} Takes k.0) to_here taken in
        let all = folds_join {P = Running B K} {A = ProcessStep} (TakesStep batches reads_back) (running cipher words old) submitted there (first.0 ++ map {B = ProcessStep} Takes k.0) (map {B = ProcessStep} Acts acts) both done in
        subst (λ (r : Running B K). Stops batches reads_back (running cipher words old) r) (sym (same_running cipher words old new (same_trans old.core core after kept_core kept_then) (same_tape ∙ tape))) (
          (first.0 ++ map {B = ProcessStep} Takes k.0) ++ map {B = ProcessStep} Acts acts,
          all,
          elim why [
            | inl stalled ↦ inl stalled
            | inr failed ↦ inr (inl (
              (first.0 ++ map {B = ProcessStep} Takes k.0) ++ map {B = ProcessStep} Acts failed.0,
              ap (λ (l : List Act). (first.0 ++ map {B = ProcessStep} Takes k.0) ++ map {B = ProcessStep} Acts l) failed.1
                  ∙ ap (λ (l : List ProcessStep). (first.0 ++ map {B = ProcessStep} Takes k.0) ++ l) (map-append {B = ProcessStep} Acts failed.0 (Keeps false ∷ []))
                  ∙ sym (append_assoc (first.0 ++ map {B = ProcessStep} Takes k.0) (map {B = ProcessStep} Acts failed.0) (Acts (Keeps false) ∷ [])),
            ))
          ],
        )

    module _ (notes : List Note) (k : AreAllSubmitted notes) (no_work : HasNoWork mid.core.state) (alive : mid.core.state.failure ≡ None) (replies : List Reply) (given : flat_map replies_of acts ≡ replies)
        (many : length replies ≡ length core.state.queue) where
      module _ (rest : List Act) (begin : acts ≡ Keeps true ∷ rest) where
        right : (ys : List Submission) → core.state.queue ≡ ys
            → GoesTo
            (λ may_lie from to. IsAfterFirst old.core.device commands from.held to.held × (to.held ≡ array_with old.core.device k.0 from.held)
            × ((bodies replies ≡ bodies_from old.core.device (map (λ (y : Submission). y.command) ys) from.held) ⊎ ((may_lie ≡ true) × (NoneFailed replies → ⊥))) × (to.saved ≡ Some to.held)) new
        right ys queue =
            let f = front_of notes k in
            all_replied cipher words batches reads_back are old mid kept tape goes commands fits k.0 f.1 f.2 core.state (chain_under cipher words batches reads_back are old mid kept tape goes k.0 core.state k.3)
            new (same_trans old.core core after kept_core kept_then) (same_tape ∙ tape) acts does_under no_work alive replies given many ys queue rest begin

        -- a reply says that the device failed: that was a lie
        pub lied : (NoneFailed replies → ⊥) → GoesTo (λ may_lie from to. SomeDone may_lie from to × (may_lie ≡ true)) new
        lied some = weaker (right core.state.queue refl) (λ may_lie world from to h step. (
          (step.0, record { either = inr (to.held, step.0, step.3) }),
          elim step.2 [ inl as_told ↦ absurd (some (none_failed old.core.device (map (λ (y : Submission). y.command) core.state.queue) from.held replies as_told)) | inr lie ↦ lie.0 ],
        ))

        -- no reply says so, and each command has one
        pub all_done : NoneFailed replies → length commands ≤ length replies → (count : length core.state.queue ≡ count_by is_accepted notes)
            → GoesTo
            (λ may_lie from to. (bodies replies ≡ bodies_from old.core.device commands from.held) × (to.held ≡ after_commands old.core.device commands from.held) × (to.saved ≡ Some to.held)) new
        all_done none enough count =
            let here = chain_under cipher words batches reads_back are old mid kept tape goes k.0 core.state k.3 in
            let counted : accepted_in (scheme_of cipher old.core) (words old.tape) 0 k.0 ≡ count_by is_accepted notes = ap (λ (ns : List Note). count_by is_accepted ns) k.2 in
            let size : length k.0 ≡ length commands = sym (length-map k.0 (λ (a : SubmittedCommand). a.command)) ∙ ap length k.1 in
            let whole = all_accepted (scheme_of cipher old.core) (words old.tape) 0 k.0 mid.core.state core.state here (omega (arith, counted, size, enough, many, count)) in
            let queue : core.state.queue ≡ whole.0.waiting = whole.0.queue ∙ ap (λ (q : List Submission). q ++ whole.0.waiting) (resting mid.core.state no_work alive) in
            weaker (right whole.0.waiting queue) (λ may_lie world from to h step. (
              elim step.2 [
                | inl as_told ↦ as_told ∙ ap (λ (cs : List Command). bodies_from old.core.device cs from.held) (whole.0.commands ∙ k.1)
                | inr lie ↦ absurd (lie.1 none)
              ],
              step.1 ∙ whole.1 from.held ∙ ap (λ (cs : List Command). after_commands old.core.device cs from.held) k.1,
              step.3,
            ))

-- what becomes of no commands, and of commands that were all refused
pub none_begun : {R : Type 0} (items : R → List Reply) (r : Result R DiskFault) (d : Sizes) (count : ℕ) (commands : List Command) → count ≡ length commands
    → IfOk r (λ x. (items x ≡ []) × (count ≡ 0)) → IfErr r (λ e. (e ≡ Stopped) × (0 < count)) → (may_lie : Bool) (from to : Arrays (ℕ → List ℕ)) → FirstOnes d commands from to
    → MatchResult r (λ x. (bodies (items x) ≡ bodies_from d commands from.held) × (to.held ≡ after_commands d commands from.held)) (λ _. IsAfterFirst d commands from.held to.held) × FailsByLies r may_lie
    × Saves r (commands ≢ []) (IsAfterFirst d commands) from to
none_begun items (Ok x) d count commands size ok err may_lie from to some =
    let none : commands ≡ [] = nil_from_length commands (sym size ∙ ok.1) in
    let front = λ (array later : ℕ → List ℕ) (is : IsAfterFirst d commands array later). nothing_first d commands none array later is in (
      (
        ap bodies ok.0 ∙ ap (λ (cs : List Command). bodies_from d cs from.held) (sym none),
        front from.held to.held some.0 ∙ ap (λ (cs : List Command). after_commands d cs from.held) (sym none),
      ),
      λ e. cc,
      unchanged from to (front from.held to.held some.0) (part_weaker some.1 (λ part is. front from.held part is)) (λ more. more none),
    )
none_begun items (Err e) d count commands size ok err may_lie from to some =
    (some.0, λ f. let is : e ≡ Failed = cc in absurd (let both : Stopped ≡ Failed = sym err.0 ∙ is in cc), some.1)

pub some_left : {R : Type 0} (r : Result R DiskFault) (count : ℕ) → IsErrOf r Stopped → IfErr r (λ e. (e ≡ Stopped) × (0 < count)) → 0 < count
some_left (Ok x) count is err = absurd cc
some_left (Err e) count is err = err.1

-- where a reply says that the device failed, it has
pub has_failed_by : (f : Option Reason) (replies : List Reply) → All (λ (r : Reply). r.body ≡ ReplyBody.Failed → (why : Reason) × (f ≡ Some why)) replies → (NoneFailed replies → ⊥) → (why : Reason) × (f ≡ Some why)
has_failed_by (Some e) replies all some = (e, refl)
has_failed_by None replies all some = absurd (some (none_by replies all))
  where
    none_by : (rs : List Reply) → All (λ (r : Reply). r.body ≡ ReplyBody.Failed → (why : Reason) × (None ≡ Some why)) rs → NoneFailed rs
    none_by [] all = All-nil (λ (r : Reply). r.body ≢ ReplyBody.Failed)
    none_by (r ∷ rs) all =
        All-cons (λ (r : Reply). r.body ≢ ReplyBody.Failed) r rs
        (λ e. let no = All-head (λ (r : Reply). r.body ≡ ReplyBody.Failed → (why : Reason) × (None ≡ Some why)) r rs all e in let is : None ≡ Some no.0 = no.1 in cc)
        (none_by rs (All-tail (λ (r : Reply). r.body ≡ ReplyBody.Failed → (why : Reason) × (None ≡ Some why)) r rs all))
