-- One run of the core goes through all processes, and sends all messages that leave them.
use Rattle.std.proofs.Common.{◌≡◌, ◌⊎◌, ℕ, zero, suc, Bool, true, false, List, [], ◌∷◌, ◌++◌, map, Some, Ok, Err, refl, sym, ap, ◌∙◌, subst, inl, inr, append_assoc, append-nil}
use Rattle.std.proofs.lemmas.Fn.{FoldsTo-push}
use Rattle.oram_geometry.specs.Sizes.{IsDevice}
use Rattle.oram_geometry.specs.declared.Sizes.{Sizes}
use Rattle.oram_semantics.specs.Formatting.{IsFormatted}
use Rattle.oram_semantics.specs.Law.{StepsAlong, new_state}
use Rattle.oram_semantics.specs.Progress.{Setting}
use Rattle.oram_semantics.specs.Scheme.{Scheme}
use Rattle.oram_semantics.specs.State.{State}
use Rattle.oram_semantics.specs.declared.events.Event.{Event}
use Rattle.oram_semantics.specs.declared.events.Event.TheVariants.{Reopen, Retry, Submit}
use Rattle.oram_semantics.proofs.WholeRuns.{steps_are_right}
use Rattle.oram_tree.specs.State.{State as Tree}
use Rattle.oram_core.specs.Steps.{Steps}
use Rattle.oram_session.specs.Exchanges.{event_of}
use Rattle.oram_session.specs.Outcome.{Outcome}
use Rattle.oram_session.specs.CoreWork.{outstanding}
use Rattle.oram_link_laws.specs.Repair.{IsAmong}
use Rattle.oram_link_laws.specs.Runs.{Exchange, bodies_of}
use Rattle.oram_rounds.specs.Batches.{BatchOutcome}
use Rattle.oram_rounds.specs.Files.{IsFile}
use Rattle.oram_rounds.specs.Law.{AreBatches}
use Rattle.oram_rounds.specs.PathMessages.{IsPathFetch}
use Rattle.oram_rounds.specs.ProcessSteps.{DoesStep, DoesSteps, ProcessStep}
use Rattle.oram_process_laws.specs.Lives.{BeginsWith, Ends, Follows, Happening, HasSentStores, IsKeptOnRun, IsOfRun, IsRightRun, IsRunBefore, KeepsToRun, IsRun, Lives, LivesAreOneRun, MessagesAreOfOneRun, SubmitsNone, happens_at, is_all_kept, is_all_kept_after, is_submission, leaves_at, left_before, left_by, run_of, sends_of}
use Rattle.oram_rounds.specs.ProcessSteps.ProcessStep.{Acts, Takes}
use Rattle.oram_rounds.specs.Process.{Act, AreSentAhead, Does, EndsIn, IsSent, Process, exchanges_of, next_bodies}
use Rattle.oram_rounds.specs.Process.Act.{Calls, GoesAhead, Hears, Keeps, Misses}
use Rattle.oram_rounds.specs.Rounds.{Round, RoundCall, WentAhead, waiting}
use Rattle.oram_rounds.proofs.GoneAhead.{ahead_fewer, ahead_sent}
use Rattle.oram_rounds.proofs.KeptText.{one_process}
use Rattle.oram_rounds.proofs.Sent.{all_among}
use Rattle.oram_process_laws.proofs.Sends.{among_all, among_back, among_either, fewer_by, of_sent, outstanding_sent, sends_more, sent_by, waits_still}
use Rattle.oram_rounds.proofs.Tries.{among_front}

-- a run steps by the local rule
along : (v : Scheme) (run : List Happening) (s t : State) → IsRun v s run t
    → StepsAlong v s (map (λ (h : Happening). h.event) run) (map (λ (h : Happening). h.shown) run)
along v [] s t is_run = tt
along v (h ∷ run) s t is_run = (is_run.0, is_run.1.moves, along v run is_run.0 t is_run.2)

-- no command is submitted in a longer run

pub none_more : (run : List Happening) (h : Happening) → SubmitsNone run → is_submission h.event ≡ false → SubmitsNone (run ++ h ∷ [])
none_more [] h none last = (last, tt)
none_more (first ∷ run) h none last = (none.0, none_more run h none.1 last)

pub resuming_is_none : (event : Event) → (event ≡ Reopen) ⊎ (event ≡ Retry) → is_submission event ≡ false
resuming_is_none event (inl is) = ap is_submission is
resuming_is_none event (inr is) = ap is_submission is

pub outcome_is_none : (o : Outcome) → is_submission (event_of o) ≡ false
outcome_is_none (Ok bytes) = refl
outcome_is_none (Err fault) = refl

module _ (v : Setting) (trees : List Tree) (device : IsDevice v.scheme.device) (made : IsFormatted v trees) where
  pub right_by : (run : List Happening) (core : State) → IsRun v.scheme (new_state v trees) run core → IsRightRun v trees run core
  right_by run core is_run = (
    is_run,
    steps_are_right v trees (map (λ (h : Happening). h.event) run) (map (λ (h : Happening). h.shown) run) device made (along v.scheme run (new_state v trees) core is_run),
  )

  pub runs_on : (run : List Happening) (s t : State) (h : Happening) → IsRun v.scheme (new_state v trees) run s → Steps v.scheme s h.event h.shown t
      → IsRun v.scheme (new_state v trees) (run ++ h ∷ []) t
  runs_on run s t h is_run step = FoldsTo-push (λ a k b. Steps v.scheme a k.event k.shown b) (new_state v trees) run s h t is_run step

  -- what is read back is of a longer run too, and covers less

  kept_on : (run : List Happening) (h : Happening) (left leaving : List (List ℕ)) (all_kept later : Bool) (bytes : List ℕ)
      → (later ≡ true → (all_kept ≡ true) × (is_submission h.event ≡ false)) → IsKeptOnRun v trees run left leaving all_kept bytes
      → IsKeptOnRun v trees (run ++ h ∷ []) left leaving later bytes
  kept_on run h left leaving all_kept later bytes quiet k = record {
    stores = k.stores;
    core = k.core;
    file = k.file;
    early = k.early;
    since = k.since ++ h ∷ [];
    whole = ap (λ (r : List Happening). r ++ h ∷ []) k.whole ∙ append_assoc k.early k.since (h ∷ []);
    right = k.right;
    sent = k.sent;
    left_sent = k.left_sent;
    covers = k.covers;
    commands = λ e. none_more k.since h (k.commands (quiet e).0) (quiet e).1;
  }

  kept_fewer : (run : List Happening) (left now leaving next : List (List ℕ)) (all_kept : Bool) (bytes : List ℕ)
      → ((b : List ℕ) → IsAmong b now → IsAmong b leaving ⊎ IsPathFetch v.scheme.device b) → ((b : List ℕ) → IsAmong b next → IsAmong b leaving)
      → IsKeptOnRun v trees run left leaving all_kept bytes → IsKeptOnRun v trees run (left ++ now) next all_kept bytes
  kept_fewer run left now leaving next all_kept bytes gone fewer k = record {
    stores = k.stores;
    core = k.core;
    file = k.file;
    early = k.early;
    since = k.since;
    whole = k.whole;
    right = k.right;
    sent = k.sent;
    left_sent = λ b among. elim (among_either left now b among) [
      | inl was ↦ k.left_sent b was
      | inr is ↦ elim (gone b is) [ inl kept ↦ inl (k.sent b (k.covers b kept)) | inr fetch ↦ inr fetch ]
    ];
    covers = λ b among. k.covers b (fewer b among);
    commands = k.commands;
  }

  kept_now : (run : List Happening) (core : State) (stores left leaving : List (List ℕ)) (all_kept : Bool) (bytes : List ℕ) → IsFile v.scheme bytes stores core
      → IsRun v.scheme (new_state v trees) run core → ((b : List ℕ) → IsAmong b stores → IsAmong b (sends_of run)) → HasSentStores v run left
      → ((b : List ℕ) → IsAmong b leaving → IsAmong b stores) → IsKeptOnRun v trees run left leaving all_kept bytes
  kept_now run core stores left leaving all_kept bytes file is_run sent left_sent covers = record {
    stores = stores;
    core = core;
    file = file;
    early = run;
    since = [];
    whole = sym (append-nil run);
    right = right_by run core is_run;
    sent = sent;
    left_sent = left_sent;
    covers = covers;
    commands = λ e. tt;
  }

  module _ {B K : Type 0} (batches : B → List (List ℕ) → BatchOutcome → List Exchange → B → Type 0) (reads_back : K → List ℕ → Type 0) (are : AreBatches batches) where
    -- The run has led to the core, has sent what waits and the STOREs that have left, and has led to what is read back.
    record IsOfOneRun (run : List Happening) (left : List (List ℕ)) (all : Bool) (p : Process B K) : Type 0 where
      device_is : p.link.device ≡ v.scheme.device
      is_run : IsRun v.scheme (new_state v trees) run p.core
      sent : (b : List ℕ) → IsAmong b (waiting p.link) → IsAmong b (sends_of run)
      left_sent : HasSentStores v run left
      kept : (bytes : List ℕ) → reads_back p.keeper bytes → IsKeptOnRun v trees run left p.link.kept all bytes

    handed : (run : List Happening) (left : List (List ℕ)) (all : Bool) (p : Process B K) → IsOfOneRun run left all p → (bytes : List ℕ)
        → IsFile v.scheme bytes (waiting p.link) p.core ⊎ reads_back p.keeper bytes → IsKeptOnRun v trees run left p.link.kept all bytes
    handed run left all p is bytes (inl file) =
        kept_now run p.core (waiting p.link) left p.link.kept all bytes file is.is_run is.sent is.left_sent (λ b among. among_front p.link.kept p.link.held b among)
    handed run left all p is bytes (inr back) = is.kept bytes back

    -- what leaves

    message_sent : (run : List Happening) (left : List (List ℕ)) (all : Bool) (p : Process B K) (message b : List ℕ) → IsOfOneRun run left all p → outstanding p.core ≡ Some message → b ≡ message
        → IsAmong b (sends_of run)
    message_sent run left all p message b is out same =
        subst (λ (m : List ℕ). IsAmong m (sends_of run)) (sym same) (outstanding_sent v.scheme run (new_state v trees) p.core message refl is.is_run out)

    none_leaves : (run : List Happening) (p : Process B K) (exchanges : List Exchange) → exchanges ≡ [] → (b : List ℕ) → IsAmong b (bodies_of exchanges) → IsOfRun v.scheme run p b
    none_leaves run p exchanges none b among = absurd (subst (λ (xs : List Exchange). IsAmong b (bodies_of xs)) none among)

    kept_leaves : (run : List Happening) (left : List (List ℕ)) (all : Bool) (p : Process B K) (b : List ℕ) → IsOfOneRun run left all p → IsAmong b p.link.kept → IsOfRun v.scheme run p b
    kept_leaves run left all p b is kept = inl (record { sent = is.sent b (among_front p.link.kept p.link.held b kept); either = inl kept })

    leaves : (run : List Happening) (left : List (List ℕ)) (all : Bool) (p : Process B K) (message : List ℕ) (exchanges : List Exchange) → IsOfOneRun run left all p → outstanding p.core ≡ Some message
        → IsSent p.link message exchanges → (b : List ℕ) → IsAmong b (bodies_of exchanges) → IsOfRun v.scheme run p b
    leaves run left all p message exchanges is out sent b among = elim (of_sent p.link message exchanges sent b among) [
      | inl kept ↦ kept_leaves run left all p b is kept
      | inr fetch ↦ inl (record {
        sent = message_sent run left all p message b is out fetch.0;
        either = inr (out ∙ ap (λ (m : List ℕ). Some m) (sym fetch.0), subst (IsPathFetch p.link.device) (sym fetch.0) fetch.1);
      })
    ]

    -- what goes ahead
    gone : (run : List Happening) (left : List (List ℕ)) (all : Bool) (p : Process B K) (exchanges : List Exchange) → IsOfOneRun run left all p
        → AreSentAhead p.link (next_bodies v.scheme.device p.core) exchanges → (b : List ℕ) → IsAmong b (bodies_of exchanges) → IsOfRun v.scheme run p b
    gone run left all p exchanges is (inl none) b among = none_leaves run p exchanges none b among
    gone run left all p exchanges is (inr sent) b among =
        let bodies : List (List ℕ) = next_bodies v.scheme.device p.core in
        elim (among_either p.link.kept bodies b (among_all (bodies_of exchanges) (p.link.kept ++ bodies) b sent.1 among)) [
          | inl kept ↦ kept_leaves run left all p b is kept
          | inr next ↦ inr (next, (all_among (IsPathFetch p.link.device) bodies (b ∷ []) sent.0 (next, tt)).0)
        ]

    -- so it is a STORE that is kept, or a FETCH
    either_leaves : (run : List Happening) (left : List (List ℕ)) (all : Bool) (p : Process B K) (b : List ℕ) → IsOfOneRun run left all p → IsOfRun v.scheme run p b
        → IsAmong b p.link.kept ⊎ IsPathFetch v.scheme.device b
    either_leaves run left all p b is (inl of) =
        elim of.either [ inl kept ↦ inl kept | inr fetch ↦ inr (subst (λ (d : Sizes). IsPathFetch d b) is.device_is fetch.1) ]
    either_leaves run left all p b is (inr next) = inr (subst (λ (d : Sizes). IsPathFetch d b) is.device_is next.1)

    -- and the run has sent it, or it is a FETCH
    left_by_now : (run : List Happening) (left : List (List ℕ)) (all : Bool) (p : Process B K) (b : List ℕ) → IsOfOneRun run left all p → IsOfRun v.scheme run p b
        → IsAmong b (sends_of run) ⊎ IsPathFetch v.scheme.device b
    left_by_now run left all p b is (inl of) = inl of.sent
    left_by_now run left all p b is (inr next) = inr (subst (λ (d : Sizes). IsPathFetch d b) is.device_is next.1)

    act_leaves : (run : List Happening) (left : List (List ℕ)) (all : Bool) (p q : Process B K) (act : Act) → IsOfOneRun run left all p → Does v.scheme batches reads_back p act q
        → (b : List ℕ) → IsAmong b (bodies_of (exchanges_of act)) → IsOfRun v.scheme run p b
    act_leaves run left all p q (Hears event x) is does b among = absurd among
    act_leaves run left all p q (Calls o exchanges x) is does b among =
        leaves run left all p does.0.0 exchanges is does.0.1 (sent_by batches p.link q.link does.0.0 o exchanges does.0.2 are) b among
    act_leaves run left all p q (Misses o exchanges) is does b among =
        leaves run left all p does.0.0 exchanges is does.0.1 (sent_by batches p.link q.link does.0.0 o exchanges does.0.2 are) b among
    act_leaves run left all p q (GoesAhead exchanges) is does b among =
        gone run left all p exchanges is (ahead_sent batches are p.link q.link (next_bodies v.scheme.device p.core) exchanges does.0.0) b among
    act_leaves run left all p q (Keeps true) is does b among = absurd among
    act_leaves run left all p q (Keeps false) is does b among = absurd among

    end_leaves : (run : List Happening) (left : List (List ℕ)) (all : Bool) (p : Process B K) (act : Act) (bytes : List ℕ) (exchanges : List Exchange) → IsOfOneRun run left all p
        → EndsIn v.scheme batches reads_back p act bytes exchanges → (b : List ℕ) → IsAmong b (bodies_of exchanges) → IsOfRun v.scheme run p b
    end_leaves run left all p (Hears event x) bytes exchanges is ends b among = none_leaves run p exchanges ends.1 b among
    end_leaves run left all p (Calls o xs x) bytes exchanges is ends b among = leaves run left all p ends.0 exchanges is ends.1 ends.3 b among
    end_leaves run left all p (Misses o xs) bytes exchanges is ends b among = leaves run left all p ends.0 exchanges is ends.1 ends.3 b among
    end_leaves run left all p (GoesAhead xs) bytes exchanges is ends b among = gone run left all p exchanges is ends.1 b among
    end_leaves run left all p (Keeps done) bytes exchanges is ends b among = none_leaves run p exchanges ends.1 b among

    -- one step

    stepped : (run : List Happening) (left : List (List ℕ)) (all later : Bool) (p q : Process B K) (h : Happening) → IsOfOneRun run left all p
        → (later ≡ true → (all ≡ true) × (is_submission h.event ≡ false)) → Steps v.scheme p.core h.event h.shown q.core → q.link ≡ p.link → q.keeper ≡ p.keeper
        → IsOfOneRun (run ++ h ∷ []) left later q
    stepped run left all later p q h is quiet step link keeper = record {
      device_is = ap (λ (l : Round B). l.device) link ∙ is.device_is;
      is_run = runs_on run p.core q.core h is.is_run step;
      sent = λ b among. sends_more run (h ∷ []) b (is.sent b (subst (λ (l : Round B). IsAmong b (waiting l)) link among));
      left_sent = λ b among. elim (is.left_sent b among) [ inl sent ↦ inl (sends_more run (h ∷ []) b sent) | inr fetch ↦ inr fetch ];
      kept = λ bytes back.
          let k : IsKeptOnRun v trees run left p.link.kept all bytes = is.kept bytes (subst (λ (j : K). reads_back j bytes) keeper back) in
          kept_on run h left q.link.kept all later bytes quiet (subst (λ (l : Round B). IsKeptOnRun v trees run left l.kept all bytes) (sym link) k);
    }

    called : (run : List Happening) (left : List (List ℕ)) (all : Bool) (p q : Process B K) (message : List ℕ) (o : Outcome) (exchanges : List Exchange) → IsOfOneRun run left all p
        → outstanding p.core ≡ Some message → RoundCall batches p.link message o exchanges q.link → q.core ≡ p.core → q.keeper ≡ p.keeper
        → IsOfOneRun run (left ++ bodies_of exchanges) all q
    called run left all p q message o exchanges is out call core keeper =
        let of : (b : List ℕ) → IsAmong b (bodies_of exchanges) → IsOfRun v.scheme run p b =
        leaves run left all p message exchanges is out (sent_by batches p.link q.link message o exchanges call are) in
        record {
          device_is = call.device ∙ is.device_is;
          is_run = subst (IsRun v.scheme (new_state v trees) run) (sym core) is.is_run;
          sent = λ b among. elim (waits_still batches p.link q.link message o exchanges call b among) [
            | inl was ↦ is.sent b was
            | inr same ↦ message_sent run left all p message b is out same
          ];
          left_sent = λ b among. elim (among_either left (bodies_of exchanges) b among) [
            | inl was ↦ is.left_sent b was
            | inr now ↦ left_by_now run left all p b is (of b now)
          ];
          kept = λ bytes back.
              kept_fewer run left (bodies_of exchanges) p.link.kept q.link.kept all bytes (λ b among. either_leaves run left all p b is (of b among))
              (fewer_by batches p.link q.link message o exchanges call) (is.kept bytes (subst (λ (j : K). reads_back j bytes) keeper back));
        }

    gone_on : (run : List Happening) (left : List (List ℕ)) (all : Bool) (p q : Process B K) (exchanges : List Exchange) → IsOfOneRun run left all p
        → WentAhead batches p.link (next_bodies v.scheme.device p.core) exchanges q.link → q.core ≡ p.core → q.keeper ≡ p.keeper → IsOfOneRun run (left ++ bodies_of exchanges) all q
    gone_on run left all p q exchanges is went core keeper =
        let bodies : List (List ℕ) = next_bodies v.scheme.device p.core in
        let of : (b : List ℕ) → IsAmong b (bodies_of exchanges) → IsOfRun v.scheme run p b =
        gone run left all p exchanges is (ahead_sent batches are p.link q.link bodies exchanges went) in
        record {
          device_is = went.device ∙ is.device_is;
          is_run = subst (IsRun v.scheme (new_state v trees) run) (sym core) is.is_run;
          sent = λ b among. is.sent b (elim (among_either q.link.kept q.link.held b among) [
            | inl kept ↦ among_front p.link.kept p.link.held b (ahead_fewer batches p.link q.link bodies exchanges went b kept)
            | inr held ↦ among_back p.link.kept p.link.held b (subst (IsAmong b) went.held held)
          ]);
          left_sent = λ b among. elim (among_either left (bodies_of exchanges) b among) [
            | inl was ↦ is.left_sent b was
            | inr now ↦ left_by_now run left all p b is (of b now)
          ];
          kept = λ bytes back.
              kept_fewer run left (bodies_of exchanges) p.link.kept q.link.kept all bytes (λ b among. either_leaves run left all p b is (of b among))
              (ahead_fewer batches p.link q.link bodies exchanges went) (is.kept bytes (subst (λ (j : K). reads_back j bytes) keeper back));
        }

    kept_anew : (run : List Happening) (left : List (List ℕ)) (all : Bool) (p q : Process B K) → IsOfOneRun run left all p → Does v.scheme batches reads_back p (Keeps true) q
        → IsOfOneRun run left true q
    kept_anew run left all p q is does =
        let same : waiting q.link ≡ waiting p.link = ap (λ (l : Round B). waiting l) does.2 ∙ append-nil (waiting p.link) in
        record {
          device_is = ap (λ (l : Round B). l.device) does.2 ∙ is.device_is;
          is_run = subst (IsRun v.scheme (new_state v trees) run) (sym does.1) is.is_run;
          sent = λ b among. is.sent b (subst (IsAmong b) same among);
          left_sent = is.left_sent;
          kept = λ bytes back.
              kept_now run p.core (waiting p.link) left q.link.kept true bytes (does.0 bytes back) is.is_run is.sent is.left_sent
              (λ b among. subst (IsAmong b) (ap (λ (l : Round B). l.kept) does.2) among);
        }

    unkept : (run : List Happening) (left : List (List ℕ)) (all : Bool) (p q : Process B K) → IsOfOneRun run left all p → Does v.scheme batches reads_back p (Keeps false) q
        → IsOfOneRun run left all q
    unkept run left all p q is does = record {
      device_is = ap (λ (l : Round B). l.device) does.2 ∙ is.device_is;
      is_run = subst (IsRun v.scheme (new_state v trees) run) (sym does.1) is.is_run;
      sent = λ b among. is.sent b (subst (λ (l : Round B). IsAmong b (waiting l)) does.2 among);
      left_sent = is.left_sent;
      kept = λ bytes back.
          subst (λ (l : Round B). IsKeptOnRun v trees run left l.kept all bytes) (sym does.2) (handed run left all p is bytes (does.0 bytes back));
    }

    none_left : (run : List Happening) (left : List (List ℕ)) (all : Bool) (q : Process B K) → IsOfOneRun run left all q → IsOfOneRun run (left ++ []) all q
    none_left run left all q is = subst (λ (l : List (List ℕ)). IsOfOneRun run l all q) (sym (append-nil left)) is

    none_heard : (run : List Happening) (left : List (List ℕ)) (all : Bool) (q : Process B K) → IsOfOneRun run left all q → IsOfOneRun (run ++ []) left all q
    none_heard run left all q is = subst (λ (r : List Happening). IsOfOneRun r left all q) (sym (append-nil run)) is

    step_done : (run : List Happening) (left : List (List ℕ)) (all : Bool) (step : ProcessStep) (p q : Process B K) → IsOfOneRun run left all p → DoesStep v.scheme batches reads_back p step q
        → IsOfOneRun (run ++ happens_at step) (left ++ leaves_at step) (is_all_kept_after all step) q
    step_done run left all (Takes a) p q is does =
        let h : Happening = record { event = Submit a.session a.command a.words; shown = a.shown } in
        none_left (run ++ h ∷ []) left false q (stepped run left all false p q h is (λ e. absurd cc) does.0 does.1 does.2)
    step_done run left all (Acts (Hears event x)) p q is does =
        let h : Happening = record { event = event; shown = x } in
        none_left (run ++ h ∷ []) left all q (stepped run left all all p q h is (λ e. (e, resuming_is_none event does.0.0)) does.0.1 does.0.2 does.1)
    step_done run left all (Acts (Calls o exchanges x)) p q is does =
        let mid : Process B K = record { core = p.core; link = q.link; keeper = p.keeper } in
        stepped run (left ++ bodies_of exchanges) all all mid q (record { event = event_of o; shown = x })
        (called run left all p mid does.0.0 o exchanges is does.0.1 does.0.2 refl refl) (λ e. (e, outcome_is_none o)) does.0.3 refl does.1
    step_done run left all (Acts (Misses o exchanges)) p q is does =
        none_heard run (left ++ bodies_of exchanges) all q (called run left all p q does.0.0 o exchanges is does.0.1 does.0.2 does.0.3 does.1)
    step_done run left all (Acts (GoesAhead exchanges)) p q is does =
        none_heard run (left ++ bodies_of exchanges) all q (gone_on run left all p q exchanges is does.0.0 does.0.1 does.1)
    step_done run left all (Acts (Keeps true)) p q is does = none_heard run (left ++ []) true q (none_left run left true q (kept_anew run left all p q is does))
    step_done run left all (Acts (Keeps false)) p q is does = none_heard run (left ++ []) all q (none_left run left all q (unkept run left all p q is does))

    all_done : (run : List Happening) (left : List (List ℕ)) (all : Bool) (steps : List ProcessStep) (p q : Process B K) → IsOfOneRun run left all p
        → DoesSteps v.scheme batches reads_back p steps q → IsOfOneRun (run ++ run_of steps) (left ++ left_by steps) (is_all_kept all steps) q
    all_done run left all [] p q is same = none_heard run (left ++ []) all q (none_left run left all q (subst (IsOfOneRun run left all) same is))
    all_done run left all (step ∷ steps) p q is does =
        subst (λ (r : List Happening). IsOfOneRun r (left ++ left_by (step ∷ steps)) (is_all_kept all (step ∷ steps)) q) (append_assoc run (happens_at step) (run_of steps))
        (subst (λ (l : List (List ℕ)). IsOfOneRun ((run ++ happens_at step) ++ run_of steps) l (is_all_kept all (step ∷ steps)) q) (append_assoc left (leaves_at step) (left_by steps))
        (all_done (run ++ happens_at step) (left ++ leaves_at step) (is_all_kept_after all step) steps does.0 q (step_done run left all step p does.0 is does.1) does.2))

    -- a process ends, and another one begins

    kept_in : (run : List Happening) (left : List (List ℕ)) (all : Bool) (p : Process B K) (bytes : List ℕ) (act : Act) (exchanges : List Exchange) → IsOfOneRun run left all p
        → EndsIn v.scheme batches reads_back p act bytes exchanges → IsKeptOnRun v trees run left p.link.kept all bytes
    kept_in run left all p bytes (Hears event x) exchanges is ends = is.kept bytes ends.0
    kept_in run left all p bytes (Calls o xs x) exchanges is ends = is.kept bytes ends.2
    kept_in run left all p bytes (Misses o xs) exchanges is ends = is.kept bytes ends.2
    kept_in run left all p bytes (GoesAhead xs) exchanges is ends = is.kept bytes ends.0
    kept_in run left all p bytes (Keeps done) exchanges is ends = handed run left all p is bytes ends.0

    ends_leave : (run : List Happening) (left : List (List ℕ)) (all : Bool) (p : Process B K) (bytes : List ℕ) (exchanges : List Exchange) → IsOfOneRun run left all p
        → Ends v.scheme batches reads_back p bytes exchanges → (b : List ℕ) → IsAmong b (bodies_of exchanges) → IsOfRun v.scheme run p b
    ends_leave run left all p bytes exchanges is (inl now) b among = none_leaves run p exchanges now.1 b among
    ends_leave run left all p bytes exchanges is (inr act) b among = end_leaves run left all p act.0 bytes exchanges is act.1 b among

    kept_back : (run : List Happening) (left : List (List ℕ)) (all : Bool) (p : Process B K) (bytes : List ℕ) (exchanges : List Exchange) → IsOfOneRun run left all p
        → Ends v.scheme batches reads_back p bytes exchanges → IsKeptOnRun v trees run left p.link.kept all bytes
    kept_back run left all p bytes exchanges is (inl now) = is.kept bytes now.0
    kept_back run left all p bytes exchanges is (inr act) = kept_in run left all p bytes act.0 exchanges is act.1

    -- with what left in the act in which it ended
    kept_at_end : (run : List Happening) (left : List (List ℕ)) (all : Bool) (p : Process B K) (bytes : List ℕ) (exchanges : List Exchange) → IsOfOneRun run left all p
        → Ends v.scheme batches reads_back p bytes exchanges → IsKeptOnRun v trees run (left ++ bodies_of exchanges) p.link.kept all bytes
    kept_at_end run left all p bytes exchanges is ends =
        kept_fewer run left (bodies_of exchanges) p.link.kept p.link.kept all bytes
        (λ b among. either_leaves run left all p b is (ends_leave run left all p bytes exchanges is ends b among))
        (λ b among. among) (kept_back run left all p bytes exchanges is ends)

    begins : (run : List Happening) (left stores : List (List ℕ)) (core : State) (p : Process B K) → BeginsWith v.scheme reads_back stores core p
        → IsRun v.scheme (new_state v trees) run core → ((b : List ℕ) → IsAmong b stores → IsAmong b (sends_of run)) → HasSentStores v run left → IsOfOneRun run left true p
    begins run left stores core p with_it is_run sent left_sent =
        let same : waiting p.link ≡ stores = ap (λ (r : Process B K). waiting r.link) with_it.0 ∙ append-nil stores in
        let kept : p.link.kept ≡ stores = ap (λ (r : Process B K). r.link.kept) with_it.0 in
        record {
          device_is = ap (λ (r : Process B K). r.link.device) with_it.0;
          is_run = subst (IsRun v.scheme (new_state v trees) run) (sym (ap (λ (r : Process B K). r.core) with_it.0)) is_run;
          sent = λ b among. sent b (subst (IsAmong b) same among);
          left_sent = left_sent;
          kept = λ bytes back.
              kept_now run core stores left p.link.kept true bytes (with_it.1 bytes back) is_run sent left_sent (λ b among. subst (IsAmong b) kept among);
        }

    follows : (run : List Happening) (left : List (List ℕ)) (all : Bool) (last p : Process B K) → IsOfOneRun run left all last → (f : Follows v.scheme batches reads_back last p)
        → (before : List Happening) × (since : List Happening) × (run ≡ before ++ since) × IsOfOneRun before (left ++ bodies_of f.exchanges) true p
    follows run left all last p is f =
        let gone : List (List ℕ) = left ++ bodies_of f.exchanges in
        let k : IsKeptOnRun v trees run gone last.link.kept all f.bytes = kept_at_end run left all last f.bytes f.exchanges is f.ends in
        let same = one_process v.scheme.cipher.overhead v.scheme.device v.scheme.device f.bytes k.stores f.stores k.core f.core k.file f.file in (
          k.early,
          k.since,
          k.whole,
          begins k.early gone f.stores f.core p f.begins (subst (IsRun v.scheme (new_state v trees) k.early) same.2 k.right.0)
              (λ b among. k.sent b (subst (IsAmong b) (sym same.0) among)) k.left_sent,
        )

    lived : (n : ℕ) (p : Process B K) (lives : Lives v.scheme batches reads_back (new_state v trees) n p)
        → (before : List Happening) × IsRunBefore v.scheme batches reads_back (new_state v trees) n p lives before
        × IsOfOneRun before (left_before v.scheme batches reads_back (new_state v trees) n p lives) true p
    lived zero p lives = ([], refl, begins [] [] [] (new_state v trees) p lives refl (λ b among. absurd among) (λ b among. absurd among))
    lived (suc n) p lives =
        let first = lived n lives.0 lives.3 in
        let left : List (List ℕ) = left_before v.scheme batches reads_back (new_state v trees) n lives.0 lives.3 in
        let steps : List ProcessStep = lives.1 in
        let next = follows (first.0 ++ run_of steps) (left ++ left_by steps) (is_all_kept true steps) lives.2 p (all_done first.0 left true steps lives.0 lives.2 first.2 lives.4) lives.5 in (
          next.0,
          (first.0, next.1, first.1, next.2),
          subst (λ (l : List (List ℕ)). IsOfOneRun next.0 l true p) (append_assoc left (left_by steps) (bodies_of lives.5.exchanges)) next.3,
        )

    keeps_to : (run : List Happening) (left : List (List ℕ)) (all : Bool) (p : Process B K) → IsOfOneRun run left all p → KeepsToRun v trees batches reads_back run left all p
    keeps_to run left all p is = record {
      right = right_by run p.core is.is_run;
      left_sent = is.left_sent;
      waits = is.sent;
      acts = λ act q does. act_leaves run left all p q act is does;
      ends = λ bytes exchanges ends. ends_leave run left all p bytes exchanges is ends;
      kept = λ bytes exchanges ends. kept_at_end run left all p bytes exchanges is ends;
    }

pub messages_are_of_one_run : {B K : Type 0} (batches : B → List (List ℕ) → BatchOutcome → List Exchange → B → Type 0) (reads_back : K → List ℕ → Type 0)
    → MessagesAreOfOneRun batches reads_back
messages_are_of_one_run batches reads_back are v trees n first device made lives =
    let all = lived v trees device made batches reads_back are n first lives in
    let left : List (List ℕ) = left_before v.scheme batches reads_back (new_state v trees) n first lives in (
      all.0,
      all.1,
      λ steps p goes.
          keeps_to v trees device made batches reads_back are (all.0 ++ run_of steps) (left ++ left_by steps) (is_all_kept true steps) p
          (all_done v trees device made batches reads_back are all.0 left true steps first p all.2 goes),
    )

pub lives_are_one_run : {B K : Type 0} (batches : B → List (List ℕ) → BatchOutcome → List Exchange → B → Type 0) (reads_back : K → List ℕ → Type 0) → LivesAreOneRun batches reads_back
lives_are_one_run batches reads_back are v trees n first device made lives =
    let all = messages_are_of_one_run batches reads_back are v trees n first device made lives in
    (all.0, all.1, λ steps p goes. (all.2 steps p goes).right)
