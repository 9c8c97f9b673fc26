-- The replies that processes give are to the commands of one run.
use Rattle.std.proofs.Common.{◌≡◌, ◌≢◌, ◌⊎◌, ℕ, zero, suc, ◌-◌, arith, Bool, true, false, if◌then◌else◌, List, [], ◌∷◌, ◌++◌, drop, length, length-append, map, reverse, slice_range, take, refl, sym, ap, ◌∙◌, subst, inl, inr, append_assoc, append-nil}
use Rattle.std.specs.Prelude.{⊤}
use Rattle.std.specs.List.{AllByRecursion}
use Rattle.std.proofs.lemmas.List.{take_all, take_at}
use Rattle.oram_geometry.specs.declared.Sizes.{Sizes}
use Rattle.oram_geometry.specs.Sizes.{IsDevice}
use Rattle.oram_semantics.specs.Agree.{TicketsFrom}
use Rattle.oram_semantics.specs.Events.{body_for, failed_reply, reply_of}
use Rattle.oram_semantics.specs.Formatting.{IsFormatted}
use Rattle.oram_semantics.specs.Law.{new_state}
use Rattle.oram_semantics.specs.Progress.{Setting, Step, accepted, submission_of}
use Rattle.oram_semantics.specs.Run.{AllRight, IsRight, Shown, answered_tickets, fails_now, step_of}
use Rattle.oram_semantics.specs.State.{State}
use Rattle.oram_semantics.specs.declared.events.Event.{Event}
use Rattle.oram_semantics.specs.declared.events.Event.TheVariants.{Answer, Lost, Reopen, Retry, Submit}
use Rattle.oram_semantics.specs.declared.events.Reply.{Reply}
use Rattle.oram_semantics.specs.declared.events.ReplyBody.TheVariants.{Failed}
use Rattle.oram_semantics.specs.declared.events.Submission.{Submission}
use Rattle.oram_semantics.proofs.Counts.{accepted_cons}
use Rattle.oram_semantics.proofs.Others.{tickets_push}
use Rattle.oram_tree.specs.State.{State as Tree}
use Rattle.oram_core.specs.Steps.{Steps}
use Rattle.oram_session.specs.Exchanges.{event_of}
use Rattle.oram_link_laws.specs.Runs.{Exchange}
use Rattle.oram_rounds.specs.Batches.{BatchOutcome}
use Rattle.oram_rounds.specs.Files.{IsFile}
use Rattle.oram_rounds.specs.Process.{Act, EndsIn, Process}
use Rattle.oram_rounds.specs.Process.Act.{Calls, GoesAhead, Hears, Keeps, Misses}
use Rattle.oram_rounds.specs.Rounds.{waiting}
use Rattle.oram_rounds.proofs.KeptText.{one_process}
use Rattle.oram_process_laws.specs.KeptCommands.{ShowsNoPair, past_after}
use Rattle.oram_rounds.specs.ProcessSteps.{DoesStep, DoesSteps, ProcessStep}
use Rattle.oram_process_laws.specs.Lives.{BeginsWith, Ends, Follows, Happening, IsRunBefore, IsRun, Lives, SubmitsNone, happens_at, is_all_kept, is_all_kept_after, is_submission, run_of}
use Rattle.oram_rounds.specs.ProcessSteps.ProcessStep.{Acts, Takes}
use Rattle.oram_process_laws.specs.Replied.{AreRepliesIn, IsReplyIn, OneTicketHasOneReply, RepliesAreOfOneRun, ShowedNoPair, given_at, given_before, given_by}
use Rattle.oram_process_laws.proofs.KeptCommands.{accepted_same, past_join}
use Rattle.oram_process_laws.proofs.Lives.{runs_on, none_more, outcome_is_none, right_by, resuming_is_none}

-- each of these

all_join : {X : Type 0} (P : X → Type 0) (xs ys : List X) → AllByRecursion P xs → AllByRecursion P ys → AllByRecursion P (xs ++ ys)
all_join P [] ys one two = two
all_join P (x ∷ xs) ys one two = (one.0, all_join P xs ys one.1 two)

all_drop : {X : Type 0} (P : X → Type 0) (n : ℕ) (xs : List X) → AllByRecursion P xs → AllByRecursion P (drop n xs)
all_drop P zero xs all = all
all_drop P (suc n) [] all = tt
all_drop P (suc n) (x ∷ xs) all = all_drop P n xs all.1

all_take : {X : Type 0} (P : X → Type 0) (n : ℕ) (xs : List X) → AllByRecursion P xs → AllByRecursion P (take n xs)
all_take P zero xs all = tt
all_take P (suc n) [] all = tt
all_take P (suc n) (x ∷ xs) all = (all.0, all_take P n xs all.1)

all_map : {X Y : Type 0} (P : X → Type 0) (Q : Y → Type 0) (f : X → Y) (xs : List X) → ((x : X) → P x → Q (f x)) → AllByRecursion P xs → AllByRecursion Q (map f xs)
all_map P Q f [] each all = tt
all_map P Q f (x ∷ xs) each all = (each x all.0, all_map P Q f xs each all.1)

all_weaker : {X : Type 0} (P Q : X → Type 0) (xs : List X) → ((x : X) → P x → Q x) → AllByRecursion P xs → AllByRecursion Q xs
all_weaker P Q [] each all = tt
all_weaker P Q (x ∷ xs) each all = (each x all.0, all_weaker P Q xs each all.1)

-- the accepted commands have the tickets of their places

tickets_if : (b : Bool) (event : Event) (before : List Submission) → TicketsFrom 0 before → TicketsFrom 0 (if b then before ++ submission_of (length before) event else before)
tickets_if false event before all = all
tickets_if true (Submit session c words) before all =
    tickets_push 0 before (record { session = session; ticket = length before; command = c; words = words }) all (omega arith)
tickets_if true (Answer bytes) before all = subst (TicketsFrom 0) (sym (append-nil before)) all
tickets_if true Lost before all = subst (TicketsFrom 0) (sym (append-nil before)) all
tickets_if true Reopen before all = subst (TicketsFrom 0) (sym (append-nil before)) all
tickets_if true Retry before all = subst (TicketsFrom 0) (sym (append-nil before)) all

no_tickets : TicketsFrom 0 (accepted [])
unfolding accepted
no_tickets = tt

tickets_are : (past : List Step) → TicketsFrom 0 (accepted past)
tickets_are [] = no_tickets
tickets_are (step ∷ past) = subst (TicketsFrom 0) (sym (accepted_cons step past)) (tickets_if step.accepts step.event (accepted past) (tickets_are past))

-- the place of a command in the list, which is its ticket
record Stands (commands : List Submission) (x : Submission) : Type 0 where
  earlier : List Submission
  later : List Submission
  place : commands ≡ earlier ++ x ∷ later
  ticket : x.ticket ≡ length earlier

all_stand : (front xs : List Submission) → TicketsFrom (length front) xs → AllByRecursion (Stands (front ++ xs)) xs
all_stand front [] tickets = tt
all_stand front (x ∷ xs) tickets =
    let P : ℕ → Type 0 = λ n. TicketsFrom n xs in
    let next : TicketsFrom (length (front ++ x ∷ [])) xs = subst P (sym (length-append front (x ∷ []))) tickets.1 in (
      record { earlier = front; later = xs; place = refl; ticket = tickets.0 },
      subst (λ (all : List Submission). AllByRecursion (Stands all) xs) (append_assoc front (x ∷ []) xs) (all_stand (front ++ x ∷ []) xs next),
    )

stand_in : (past : List Step) → AllByRecursion (Stands (accepted past)) (accepted past)
stand_in past = all_stand [] (accepted past) (tickets_are past)

-- the replies at a step

module _ (d : Sizes) (commands : List Submission) where
  answered_in : (x : Submission) → Stands commands x → IsReplyIn d commands (reply_of d commands x)
  answered_in x s =
      let front : take x.ticket commands ≡ s.earlier =
      ap (λ (n : ℕ). take n commands) s.ticket ∙ ap (take (length s.earlier)) s.place ∙ take_at s.earlier (x ∷ s.later) (length s.earlier) refl in
      let whole : take x.ticket s.earlier ≡ s.earlier = ap (λ (n : ℕ). take n s.earlier) s.ticket ∙ take_all (length s.earlier) s.earlier (omega arith) in
      record {
        earlier = s.earlier;
        command = x;
        later = s.later;
        place = s.place;
        ticket = s.ticket;
        either = inl (ap (λ (old : List Submission). let r : Reply = record { session = x.session; ticket = x.ticket; body = body_for d (reverse old) x.command } in r) (front ∙ sym whole));
      }

  failed_in : (x : Submission) → Stands commands x → IsReplyIn d commands (failed_reply x)
  failed_in x s = record { earlier = s.earlier; command = x; later = s.later; place = s.place; ticket = s.ticket; either = inr refl }

  failed_if : (b : Bool) (n : ℕ) → AllByRecursion (Stands commands) commands → AreRepliesIn d commands (if b then map failed_reply (drop n commands) else [])
  failed_if true n all = all_map (Stands commands) (IsReplyIn d commands) failed_reply (drop n commands) failed_in (all_drop (Stands commands) n commands all)
  failed_if false n all = tt

  between : (a b : ℕ) → AllByRecursion (Stands commands) commands → AreRepliesIn d commands (map (reply_of d commands) (slice_range commands a b))
  between a b all =
      all_map (Stands commands) (IsReplyIn d commands) (reply_of d commands) (slice_range commands a b) answered_in
      (all_take (Stands commands) (b - a) (drop a commands) (all_drop (Stands commands) a commands all))

right_replies : (v : Setting) (past : List Step) (event : Event) (x : Shown) → IsRight v past event x → AreRepliesIn v.scheme.device (accepted past) x.replies
right_replies v past event x right =
    let step : Step = step_of event x in
    let all = stand_in past in
    let d : Sizes = v.scheme.device in
    subst (AreRepliesIn d (accepted past)) (sym right.replies)
    (all_join (IsReplyIn d (accepted past)) (map (reply_of d (accepted past)) (slice_range (accepted past) (answered_tickets v past) (answered_tickets v (step ∷ past))))
    (if fails_now x.note then map failed_reply (drop (answered_tickets v past) (accepted past)) else [])
    (between d (accepted past) (answered_tickets v past) (answered_tickets v (step ∷ past)) all)
    (failed_if d (accepted past) (fails_now x.note) (answered_tickets v past) all))

-- more commands are accepted

more_later : (d : Sizes) (commands more : List Submission) (reply : Reply) → IsReplyIn d commands reply → IsReplyIn d (commands ++ more) reply
more_later d commands more reply r = record {
  earlier = r.earlier;
  command = r.command;
  later = r.later ++ more;
  place = ap (λ (all : List Submission). all ++ more) r.place ∙ append_assoc r.earlier (r.command ∷ r.later) more;
  ticket = r.ticket;
  either = r.either;
}

later_if : (d : Sizes) (b : Bool) (commands more : List Submission) (replies : List Reply) → AreRepliesIn d commands replies
    → AreRepliesIn d (if b then commands ++ more else commands) replies
later_if d true commands more replies all = all_weaker (IsReplyIn d commands) (IsReplyIn d (commands ++ more)) replies (more_later d commands more) all
later_if d false commands more replies all = all

abbrev Right : Setting → List Step → List Happening → Type 0
Right v past run = AllRight v past (map (λ (h : Happening). h.event) run) (map (λ (h : Happening). h.shown) run)

abbrev commands_of : List Happening → List Submission
commands_of run = accepted (past_after [] run)

last_step : (run : List Happening) (h : Happening) → past_after [] (run ++ h ∷ []) ≡ step_of h.event h.shown ∷ past_after [] run
last_step run h = past_join [] run (h ∷ [])

replied_on : (d : Sizes) (run : List Happening) (h : Happening) (replies : List Reply) → AreRepliesIn d (commands_of run) replies → AreRepliesIn d (commands_of (run ++ h ∷ [])) replies
replied_on d run h replies all =
    let step : Step = step_of h.event h.shown in
    let past : List Step = past_after [] run in
    subst (λ (commands : List Submission). AreRepliesIn d commands replies) (sym (accepted_cons step past) ∙ sym (ap accepted (last_step run h)))
    (later_if d step.accepts (accepted past) (submission_of (length (accepted past)) h.event) replies all)

-- the last step of a right run
right_at : (v : Setting) (past : List Step) (run : List Happening) (h : Happening) → Right v past (run ++ h ∷ []) → ShowsNoPair v past (run ++ h ∷ [])
    → IsRight v (past_after past run) h.event h.shown
right_at v past [] h right apart = (right apart.0).0
right_at v past (first ∷ run) h right apart = right_at v (step_of first.event first.shown ∷ past) run h (right apart.0).1 apart.1

apart_before : (v : Setting) (past : List Step) (run more : List Happening) → ShowsNoPair v past (run ++ more) → ShowsNoPair v past run
apart_before v past [] more apart = tt
apart_before v past (h ∷ run) more apart = (apart.0, apart_before v (step_of h.event h.shown ∷ past) run more apart.1)

-- nothing is given in a step without a reply
none_given : (b : Bool) → (let none : List Reply = if b then [] else [] in none) ≡ []
none_given true = refl
none_given false = refl

module _ (v : Setting) (trees : List Tree) (device : IsDevice v.scheme.device) (made : IsFormatted v trees) {B K : Type 0} (batches : B → List (List ℕ) → BatchOutcome → List Exchange → B → Type 0) (reads_back : K → List ℕ → Type 0) where
  abbrev d : Sizes
  d = v.scheme.device

  abbrev IsRunTo : List Happening → State → Type 0
  IsRunTo run core = IsRun v.scheme (new_state v trees) run core

  -- The bytes have a core that the run has led to on its way, and these replies are to the commands that it had accepted by
  -- then, unless an answer showed two records with the same digest.
  record IsKeptWith (N : Type 0) (run : List Happening) (replies : List Reply) (all : Bool) (bytes : List ℕ) : Type 0 where
    stores : List (List ℕ)
    core : State
    file : IsFile v.scheme bytes stores core
    early : List Happening
    since : List Happening
    whole : run ≡ early ++ since
    is_run : IsRunTo early core
    commands : all ≡ true → SubmitsNone since
    replied : N → AreRepliesIn d (commands_of early) replies

  record HasGiven (N : Type 0) (run : List Happening) (replies : List Reply) (all : Bool) (p : Process B K) : Type 0 where
    is_run : IsRunTo run p.core
    now : N → AreRepliesIn d (commands_of run) replies
    kept : (bytes : List ℕ) → reads_back p.keeper bytes → IsKeptWith N run replies all bytes

  kept_now : (N : Type 0) (run : List Happening) (replies : List Reply) (all : Bool) (bytes : List ℕ) (stores : List (List ℕ)) (core : State) → IsFile v.scheme bytes stores core → IsRunTo run core
      → (N → AreRepliesIn d (commands_of run) replies) → IsKeptWith N run replies all bytes
  kept_now N run replies all bytes stores core file is_run now = record {
    stores = stores;
    core = core;
    file = file;
    early = run;
    since = [];
    whole = sym (append-nil run);
    is_run = is_run;
    commands = λ e. tt;
    replied = now;
  }

  handed : (N : Type 0) (run : List Happening) (replies : List Reply) (all : Bool) (p : Process B K) → HasGiven N run replies all p → (bytes : List ℕ)
      → IsFile v.scheme bytes (waiting p.link) p.core ⊎ reads_back p.keeper bytes → IsKeptWith N run replies all bytes
  handed N run replies all p g bytes (inl file) = kept_now N run replies all bytes (waiting p.link) p.core file g.is_run g.now
  handed N run replies all p g bytes (inr back) = g.kept bytes back

  weaker : (M N : Type 0) (run : List Happening) (replies : List Reply) (all : Bool) (p : Process B K) → (M → N) → HasGiven N run replies all p → HasGiven M run replies all p
  weaker M N run replies all p gives g = record {
    is_run = g.is_run;
    now = λ m. g.now (gives m);
    kept = λ bytes back.
        let k : IsKeptWith N run replies all bytes = g.kept bytes back in
        record { stores = k.stores; core = k.core; file = k.file; early = k.early; since = k.since; whole = k.whole; is_run = k.is_run; commands = k.commands; replied = λ m. k.replied (gives m) };
  }

  -- one step of the core
  stepped : (N : Type 0) (run : List Happening) (replies : List Reply) (all later : Bool) (p q : Process B K) (h : Happening) → HasGiven N run replies all p
      → (later ≡ true → (all ≡ true) × (is_submission h.event ≡ false)) → Steps v.scheme p.core h.event h.shown q.core → q.keeper ≡ p.keeper → HasGiven N (run ++ h ∷ []) replies later q
  stepped N run replies all later p q h g quiet step keeper = record {
    is_run = runs_on v trees device made run p.core q.core h g.is_run step;
    now = λ n. replied_on d run h replies (g.now n);
    kept = λ bytes back.
        let k : IsKeptWith N run replies all bytes = g.kept bytes (subst (λ (j : K). reads_back j bytes) keeper back) in
        record {
          stores = k.stores;
          core = k.core;
          file = k.file;
          early = k.early;
          since = k.since ++ h ∷ [];
          whole = ap (λ (r : List Happening). r ++ h ∷ []) k.whole ∙ append_assoc k.early k.since (h ∷ []);
          is_run = k.is_run;
          commands = λ e. none_more k.since h (k.commands (quiet e).0) (quiet e).1;
          replied = k.replied;
        };
  }

  -- more replies, while what is kept has all commands
  gives_more : (N : Type 0) (run : List Happening) (replies more : List Reply) (p : Process B K) → HasGiven N run replies true p → (N → AreRepliesIn d (commands_of run) more)
      → HasGiven N run (replies ++ more) true p
  gives_more N run replies more p g are = record {
    is_run = g.is_run;
    now = λ n. all_join (IsReplyIn d (commands_of run)) replies more (g.now n) (are n);
    kept = λ bytes back.
        let k : IsKeptWith N run replies true bytes = g.kept bytes back in
        let same : commands_of run ≡ commands_of k.early =
        ap (λ (r : List Happening). commands_of r) k.whole ∙ ap accepted (past_join [] k.early k.since) ∙ accepted_same k.since (past_after [] k.early) (k.commands refl) in
        record {
          stores = k.stores;
          core = k.core;
          file = k.file;
          early = k.early;
          since = k.since;
          whole = k.whole;
          is_run = k.is_run;
          commands = k.commands;
          replied = λ n. all_join (IsReplyIn d (commands_of k.early)) replies more (k.replied n) (subst (λ (commands : List Submission). AreRepliesIn d commands more) same (are n));
        };
  }

  -- the core and what is kept stay as they are
  rests : (N : Type 0) (run : List Happening) (replies : List Reply) (all : Bool) (p q : Process B K) → HasGiven N run replies all p → q.core ≡ p.core → q.keeper ≡ p.keeper
      → HasGiven N run replies all q
  rests N run replies all p q g core keeper = record {
    is_run = subst (IsRunTo run) (sym core) g.is_run;
    now = g.now;
    kept = λ bytes back. g.kept bytes (subst (λ (j : K). reads_back j bytes) keeper back);
  }

  -- one step

  none_more_given : (N : Type 0) (run : List Happening) (replies none : List Reply) (all : Bool) (q : Process B K) → none ≡ [] → HasGiven N run replies all q → HasGiven N run (replies ++ none) all q
  none_more_given N run replies none all q is g =
      subst (λ (rs : List Reply). HasGiven N run rs all q) (sym (ap (λ (k : List Reply). replies ++ k) is ∙ append-nil replies)) g

  quiet : (N : Type 0) (run : List Happening) (replies : List Reply) (all : Bool) (q : Process B K) → HasGiven N run replies all q
      → HasGiven N (run ++ []) (replies ++ (if all then [] else [])) all q
  quiet N run replies all q g =
      none_more_given N (run ++ []) replies (if all then [] else []) all q (none_given all) (subst (λ (r : List Happening). HasGiven N r replies all q) (sym (append-nil run)) g)

  heard : (N : Type 0) (run : List Happening) (replies : List Reply) (all : Bool) (p q : Process B K) (h : Happening) → HasGiven N run replies all p
      → is_submission h.event ≡ false → Steps v.scheme p.core h.event h.shown q.core → q.keeper ≡ p.keeper → (N → ShowsNoPair v [] (run ++ h ∷ []))
      → HasGiven N (run ++ h ∷ []) (replies ++ (if all then h.shown.replies else [])) all q
  heard N run replies false p q h g event step keeper apart =
      none_more_given N (run ++ h ∷ []) replies [] false q refl (stepped N run replies false false p q h g (λ e. (e, event)) step keeper)
  heard N run replies true p q h g event step keeper apart =
      let next = stepped N run replies true true p q h g (λ e. (e, event)) step keeper in
      let right : Right v [] (run ++ h ∷ []) = (right_by v trees device made (run ++ h ∷ []) q.core next.is_run).1 in
      gives_more N (run ++ h ∷ []) replies h.shown.replies q next
      (λ n. replied_on d run h h.shown.replies (right_replies v (past_after [] run) h.event h.shown (right_at v [] run h right (apart n))))

  step_done : (N : Type 0) (run : List Happening) (replies : List Reply) (all : Bool) (step : ProcessStep) (p q : Process B K) → (N → ShowsNoPair v [] (run ++ happens_at step))
      → HasGiven N run replies all p → DoesStep v.scheme batches reads_back p step q
      → HasGiven N (run ++ happens_at step) (replies ++ given_at all step) (is_all_kept_after all step) q
  step_done N run replies all (Takes a) p q apart g does =
      let h : Happening = record { event = Submit a.session a.command a.words; shown = a.shown } in
      none_more_given N (run ++ h ∷ []) replies [] false q refl (stepped N run replies all false p q h g (λ e. absurd cc) does.0 does.2)
  step_done N run replies all (Acts (Hears event x)) p q apart g does =
      let h : Happening = record { event = event; shown = x } in
      none_more_given N (run ++ h ∷ []) replies (if all then [] else []) all q (none_given all)
      (stepped N run replies all all p q h g (λ e. (e, resuming_is_none event does.0.0)) does.0.1 does.1)
  step_done N run replies all (Acts (Calls o exchanges x)) p q apart g does =
      heard N run replies all p q (record { event = event_of o; shown = x }) g (outcome_is_none o) does.0.3 does.1 apart
  step_done N run replies all (Acts (Misses o exchanges)) p q apart g does = quiet N run replies all q (rests N run replies all p q g does.0.3 does.1)
  step_done N run replies all (Acts (GoesAhead exchanges)) p q apart g does = quiet N run replies all q (rests N run replies all p q g does.0.1 does.1)
  step_done N run replies all (Acts (Keeps true)) p q apart g does =
      quiet N run replies true q (record {
        is_run = subst (IsRunTo run) (sym does.1) g.is_run;
        now = g.now;
        kept = λ bytes back. kept_now N run replies true bytes (waiting p.link) p.core (does.0 bytes back) g.is_run g.now;
      })
  step_done N run replies all (Acts (Keeps false)) p q apart g does =
      quiet N run replies all q (record {
        is_run = subst (IsRunTo run) (sym does.1) g.is_run;
        now = g.now;
        kept = λ bytes back. handed N run replies all p g bytes (does.0 bytes back);
      })

  all_done : (N : Type 0) (run : List Happening) (replies : List Reply) (all : Bool) (steps : List ProcessStep) (p q : Process B K) → (N → ShowsNoPair v [] (run ++ run_of steps))
      → HasGiven N run replies all p → DoesSteps v.scheme batches reads_back p steps q
      → HasGiven N (run ++ run_of steps) (replies ++ given_by all steps) (is_all_kept all steps) q
  all_done N run replies all [] p q apart g same =
      none_more_given N (run ++ []) replies [] all q refl
      (subst (λ (r : List Happening). HasGiven N r replies all q) (sym (append-nil run)) (subst (HasGiven N run replies all) same g))
  all_done N run replies all (step ∷ steps) p q apart g does =
      let joined : (run ++ happens_at step) ++ run_of steps ≡ run ++ run_of (step ∷ steps) = append_assoc run (happens_at step) (run_of steps) in
      let still : N → ShowsNoPair v [] ((run ++ happens_at step) ++ run_of steps) = λ n. subst (ShowsNoPair v []) (sym joined) (apart n) in
      let next = step_done N run replies all step p does.0 (λ n. apart_before v [] (run ++ happens_at step) (run_of steps) (still n)) g does.1 in
      subst (λ (r : List Happening). HasGiven N r (replies ++ given_by all (step ∷ steps)) (is_all_kept all (step ∷ steps)) q) joined
      (subst (λ (rs : List Reply). HasGiven N ((run ++ happens_at step) ++ run_of steps) rs (is_all_kept all (step ∷ steps)) q)
      (append_assoc replies (given_at all step) (given_by (is_all_kept_after all step) steps))
      (all_done N (run ++ happens_at step) (replies ++ given_at all step) (is_all_kept_after all step) steps does.0 q still next does.2))

  -- a process ends, and another one begins

  kept_in : (N : Type 0) (run : List Happening) (replies : List Reply) (all : Bool) (p : Process B K) (bytes : List ℕ) (act : Act) (exchanges : List Exchange) → HasGiven N run replies all p
      → EndsIn v.scheme batches reads_back p act bytes exchanges → IsKeptWith N run replies all bytes
  kept_in N run replies all p bytes (Hears event x) exchanges g ends = g.kept bytes ends.0
  kept_in N run replies all p bytes (Calls o xs x) exchanges g ends = g.kept bytes ends.2
  kept_in N run replies all p bytes (Misses o xs) exchanges g ends = g.kept bytes ends.2
  kept_in N run replies all p bytes (GoesAhead xs) exchanges g ends = g.kept bytes ends.0
  kept_in N run replies all p bytes (Keeps done) exchanges g ends = handed N run replies all p g bytes ends.0

  kept_back : (N : Type 0) (run : List Happening) (replies : List Reply) (all : Bool) (p : Process B K) (bytes : List ℕ) (exchanges : List Exchange) → HasGiven N run replies all p
      → Ends v.scheme batches reads_back p bytes exchanges → IsKeptWith N run replies all bytes
  kept_back N run replies all p bytes exchanges g (inl now) = g.kept bytes now.0
  kept_back N run replies all p bytes exchanges g (inr act) = kept_in N run replies all p bytes act.0 exchanges g act.1

  begins : (N : Type 0) (run : List Happening) (replies : List Reply) (stores : List (List ℕ)) (core : State) (p : Process B K) → BeginsWith v.scheme reads_back stores core p → IsRunTo run core
      → (N → AreRepliesIn d (commands_of run) replies) → HasGiven N run replies true p
  begins N run replies stores core p with_it is_run now = record {
    is_run = subst (IsRunTo run) (sym (ap (λ (r : Process B K). r.core) with_it.0)) is_run;
    now = now;
    kept = λ bytes back. kept_now N run replies true bytes stores core (with_it.1 bytes back) is_run now;
  }

  follows : (N : Type 0) (run : List Happening) (replies : List Reply) (all : Bool) (last p : Process B K) → HasGiven N run replies all last → Follows v.scheme batches reads_back last p
      → (before : List Happening) × (since : List Happening) × (run ≡ before ++ since) × HasGiven N before replies true p
  follows N run replies all last p g f =
      let k : IsKeptWith N run replies all f.bytes = kept_back N run replies all last f.bytes f.exchanges g f.ends in
      let same = one_process v.scheme.cipher.overhead v.scheme.device v.scheme.device f.bytes k.stores f.stores k.core f.core k.file f.file in
      (k.early, k.since, k.whole, begins N k.early replies f.stores f.core p f.begins (subst (IsRunTo k.early) same.2 k.is_run) k.replied)

  abbrev Before : (n : ℕ) (p : Process B K) → Lives v.scheme batches reads_back (new_state v trees) n p → Type 0
  Before n p lives = (before : List Happening) × (is : IsRunBefore v.scheme batches reads_back (new_state v trees) n p lives before)
      × HasGiven (ShowedNoPair v batches reads_back (new_state v trees) n p lives before is) before (given_before v batches reads_back (new_state v trees) n p lives) true p

  lived : (n : ℕ) (p : Process B K) (lives : Lives v.scheme batches reads_back (new_state v trees) n p) → Before n p lives
  lived zero p lives = ([], refl, begins ⊤ [] [] [] (new_state v trees) p lives refl (λ n. tt))
  lived (suc n) p lives =
      let first = lived n lives.0 lives.3 in
      let given : List Reply = given_before v batches reads_back (new_state v trees) n lives.0 lives.3 in
      let N : Type 0 = ShowedNoPair v batches reads_back (new_state v trees) n lives.0 lives.3 first.0 first.1 in
      let M : Type 0 = N × ShowsNoPair v [] (first.0 ++ run_of lives.1) in
      let began : HasGiven M first.0 given true lives.0 = weaker M N first.0 given true lives.0 (λ m. m.0) first.2 in
      let done = all_done M first.0 given true lives.1 lives.0 lives.2 (λ m. m.1) began lives.4 in
      let next = follows M (first.0 ++ run_of lives.1) (given ++ given_by true lives.1) (is_all_kept true lives.1) lives.2 p done lives.5 in
      (next.0, (first.0, next.1, first.1, next.2), next.3)

pub replies_are_of_one_run : {B K : Type 0} (batches : B → List (List ℕ) → BatchOutcome → List Exchange → B → Type 0) (reads_back : K → List ℕ → Type 0) → RepliesAreOfOneRun batches reads_back
replies_are_of_one_run {B} {K} batches reads_back v trees n first device made lives =
    let all = lived v trees device made batches reads_back n first lives in
    let given : List Reply = given_before v batches reads_back (new_state v trees) n first lives in
    let N : Type 0 = ShowedNoPair v batches reads_back (new_state v trees) n first lives all.0 all.1 in (
      all.0,
      all.1,
      λ steps p goes.
          let M : Type 0 = N × ShowsNoPair v [] (all.0 ++ run_of steps) in
          let g = all_done v trees device made batches reads_back M all.0 given true steps first p (λ m. m.1)
          (weaker v trees device made batches reads_back M N all.0 given true first (λ m. m.0) all.2) goes in
          (right_by v trees device made (all.0 ++ run_of steps) p.core g.is_run, λ none apart. g.now (none, apart)),
    )

-- two replies with one ticket

one_place : (xs ys : List Submission) (x y : Submission) (more other : List Submission) → xs ++ x ∷ more ≡ ys ++ y ∷ other → length xs ≡ length ys → (xs ≡ ys) × (x ≡ y)
one_place [] [] x y more other same long = (refl, cc)
one_place [] (w ∷ ys) x y more other same long = absurd (omega (arith, long))
one_place (z ∷ xs) [] x y more other same long = absurd (omega (arith, long))
one_place (z ∷ xs) (w ∷ ys) x y more other same long =
    let both : z ∷ (xs ++ x ∷ more) ≡ w ∷ (ys ++ y ∷ other) = same in
    let heads : z ≡ w = cc in
    let tails : xs ++ x ∷ more ≡ ys ++ y ∷ other = cc in
    let rest = one_place xs ys x y more other tails (omega (arith, long)) in
    (ap (λ (s : Submission). s ∷ xs) heads ∙ ap (λ (l : List Submission). w ∷ l) rest.0, rest.1)

-- a reply that doesn't say that the device has failed
pub answered_reply : (d : Sizes) (commands : List Submission) (reply : Reply) (r : IsReplyIn d commands reply) → reply.body ≢ Failed → reply ≡ reply_of d r.earlier r.command
answered_reply d commands reply r answers = elim r.either [ inl is ↦ is | inr failed ↦ absurd (answers (ap (λ (q : Reply). q.body) failed)) ]

pub one_ticket_has_one_reply : OneTicketHasOneReply
one_ticket_has_one_reply d commands one other r q ticket answers answers_too =
    let first = answered_reply d commands one r answers in
    let second = answered_reply d commands other q answers_too in
    let tickets : r.command.ticket ≡ q.command.ticket = sym (ap (λ (k : Reply). k.ticket) first) ∙ ticket ∙ ap (λ (k : Reply). k.ticket) second in
    let long : length r.earlier ≡ length q.earlier = sym r.ticket ∙ tickets ∙ q.ticket in
    let same = one_place r.earlier q.earlier r.command q.command r.later q.later (sym r.place ∙ q.place) long in
    first ∙ ap (λ (old : List Submission). reply_of d old r.command) same.0 ∙ ap (λ (x : Submission). reply_of d q.earlier x) same.1 ∙ sym second
