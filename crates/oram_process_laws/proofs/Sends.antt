-- The messages that a run of the core sends, and those that a link lets go.
use Rattle.std.proofs.Common.{◌≡◌, ◌⊎◌, ℕ, Bool, true, false, List, [], ◌∷◌, ◌++◌, length, Option, Some, None, Ok, Err, refl, sym, ap, ◌∙◌, subst, inl, inr, append_assoc, append-nil}
use Rattle.std.specs.Prelude.{MatchResult}
use Rattle.std.proofs.lemmas.Grind.{flat_map-append}
use Rattle.oram_semantics.specs.Progress.{Status}
use Rattle.oram_semantics.specs.Progress.Status.{Idle, Over, Stalling, Waiting}
use Rattle.oram_semantics.specs.Run.{Shown, is_over, refusal_of}
use Rattle.oram_semantics.specs.Moves.{latest}
use Rattle.oram_semantics.specs.Scheme.{Scheme}
use Rattle.oram_semantics.specs.State.{State, status_by, status_in}
use Rattle.oram_semantics.specs.declared.events.Event.{Event}
use Rattle.oram_semantics.specs.declared.events.Event.TheVariants.{Answer, Lost, Reopen, Retry, Submit}
use Rattle.oram_semantics.specs.declared.events.Note.TheVariants.{Unexpected}
use Rattle.oram_semantics.specs.declared.events.Reason.{Reason}
use Rattle.oram_semantics.specs.declared.events.Refusal.{Refusal}
use Rattle.oram_semantics.specs.declared.events.Submission.{Submission}
use Rattle.oram_core.specs.PlainSteps.{Done as Did, accepted_by, finished_by, first_message, lost_by, noted, retried_by, sent_if_idle, stalled_by, submitted_by}
use Rattle.oram_core.specs.Steps.{Heard, Steps, did}
use Rattle.oram_session.specs.Exchanges.{is_stall}
use Rattle.oram_session.specs.Outcome.{Outcome}
use Rattle.oram_session.specs.CoreWork.{outstanding}
use Rattle.oram_session.proofs.CoreSteps.{heard_is, stalled}
use Rattle.oram_session.proofs.Honesty.{waits_by}
use Rattle.oram_link_laws.specs.Repair.{AreAmong, IsAmong}
use Rattle.oram_link_laws.specs.Runs.{Exchange, bodies_of}
use Rattle.oram_rounds.specs.Batches.{BatchOutcome}
use Rattle.oram_rounds.specs.Law.{AreBatches}
use Rattle.oram_process_laws.specs.Lives.{Happening, IsRun, sends_of}
use Rattle.oram_rounds.specs.PathMessages.{IsPathFetch}
use Rattle.oram_rounds.specs.Process.{IsSent}
use Rattle.oram_rounds.specs.Rounds.{Gives, Round, RoundCall, waiting}
use Rattle.oram_rounds.proofs.Sent.{batch_among}
use Rattle.oram_rounds.proofs.Tries.{among_front}

-- one of several bodies

pub among_back : (front rest : List (List ℕ)) (b : List ℕ) → IsAmong b rest → IsAmong b (front ++ rest)
among_back [] rest b among = among
among_back (x ∷ front) rest b among = inr (among_back front rest b among)

pub among_either : (front rest : List (List ℕ)) (b : List ℕ) → IsAmong b (front ++ rest) → IsAmong b front ⊎ IsAmong b rest
among_either [] rest b among = inr among
among_either (x ∷ front) rest b (inl same) = inl (inl same)
among_either (x ∷ front) rest b (inr later) = elim (among_either front rest b later) [ inl here ↦ inl (inr here) | inr there ↦ inr there ]

pub among_all : (bodies all : List (List ℕ)) (b : List ℕ) → AreAmong bodies all → IsAmong b bodies → IsAmong b all
among_all [] all b are among = absurd among
among_all (x ∷ bodies) all b are (inl same) = subst (λ (y : List ℕ). IsAmong y all) (sym same) are.0
among_all (x ∷ bodies) all b are (inr later) = among_all bodies all b are.1 later

pub sends_more : (run more : List Happening) (b : List ℕ) → IsAmong b (sends_of run) → IsAmong b (sends_of (run ++ more))
sends_more run more b among =
    subst (IsAmong b) (sym (flat_map-append (λ (h : Happening). h.shown.sends) run more)) (among_front (sends_of run) (sends_of more) b among)

-- While a command waits, the core's message is one that it has sent.

abbrev HasSent : List (List ℕ) → State → Type 0
HasSent sent s = (y : Submission) (rest : List Submission) → s.queue ≡ y ∷ rest → IsAmong s.message sent

-- the same of a core after a step, which has sent more
abbrev WillHaveSent : List (List ℕ) → Did → Type 0
WillHaveSent sent d = HasSent (sent ++ d.sends) d.state

last_sent : (sent : List (List ℕ)) (d : Did) → d.sends ≡ d.state.message ∷ [] → WillHaveSent sent d
last_sent sent d sends y rest some =
    among_back sent d.sends d.state.message (subst (IsAmong d.state.message) (sym sends) (inl refl))

none_waits : (sent : List (List ℕ)) (d : Did) → d.state.queue ≡ [] → WillHaveSent sent d
none_waits sent d none y rest some = absurd (let both = sym none ∙ some in cc)

module _ (sent : List (List ℕ)) (s : State) (was : HasSent sent s) where
  quiet_sent : (d : Did) → d.state.queue ≡ s.queue → d.state.message ≡ s.message → WillHaveSent sent d
  quiet_sent d queue message y rest some =
      subst (λ (m : List ℕ). IsAmong m (sent ++ d.sends)) (sym message) (among_front sent d.sends s.message (was y rest (sym queue ∙ some)))

  accepted_sent : (v : Scheme) (x : Submission) → WillHaveSent sent (accepted_by v s x)
  accepted_sent v x y rest some = by s.queue refl
    where
      m : List ℕ
      m = first_message v.device s x

      by : (queue : List Submission) → s.queue ≡ queue → IsAmong (latest (sent_if_idle s.queue m) s.message) (sent ++ sent_if_idle s.queue m)
      by [] none =
          subst (λ (q : List Submission). IsAmong (latest (sent_if_idle q m) s.message) (sent ++ sent_if_idle q m)) (sym none) (among_back sent (m ∷ []) m (inl refl))
      by (z ∷ more) waits =
          subst (λ (q : List Submission). IsAmong (latest (sent_if_idle q m) s.message) (sent ++ sent_if_idle q m)) (sym waits)
          (among_front sent [] s.message (was z more waits))

  submitted_sent : (v : Scheme) (x : Submission) (refusal : Option Refusal) → WillHaveSent sent (submitted_by v s x refusal)
  submitted_sent v x (Some e) = quiet_sent (submitted_by v s x (Some e)) refl refl
  submitted_sent v x None = accepted_sent v x

  lost_sent : (now : Status) → WillHaveSent sent (lost_by s now)
  lost_sent Waiting = quiet_sent (lost_by s Waiting) refl refl
  lost_sent Idle = quiet_sent (lost_by s Idle) refl refl
  lost_sent Stalling = quiet_sent (lost_by s Stalling) refl refl
  lost_sent Over = quiet_sent (lost_by s Over) refl refl

  retried_sent : (now : Status) → WillHaveSent sent (retried_by s now)
  retried_sent Stalling = last_sent sent (retried_by s Stalling) refl
  retried_sent Idle = quiet_sent (retried_by s Idle) refl refl
  retried_sent Waiting = quiet_sent (retried_by s Waiting) refl refl
  retried_sent Over = quiet_sent (retried_by s Over) refl refl

  finished_sent : (v : Scheme) (x : Submission) (left : List Submission) → WillHaveSent sent (finished_by v s x left)
  finished_sent v x [] = none_waits sent (finished_by v s x []) refl
  finished_sent v x (z ∷ left) = last_sent sent (finished_by v s x (z ∷ left)) refl

  heard_sent : (v : Scheme) (d : Did) → Heard v s d → WillHaveSent sent d
  heard_sent v d (inl fails) = none_waits sent d (ap (λ (t : State). t.queue) fails.state)
  heard_sent v d (inr (inl on)) = last_sent sent d on.sends
  heard_sent v d (inr (inr replies)) = subst (WillHaveSent sent) (sym replies.does) (finished_sent v replies.oldest replies.rest)

  answer_sent : (v : Scheme) (t : State) (bytes : List ℕ) (x : Shown) (now : Status) (no_room : Bool) → status_in s ≡ now → is_stall (Ok bytes) ≡ no_room → Steps v s (Answer bytes) x t
      → WillHaveSent sent (did x t)
  answer_sent v t bytes x Waiting true waits stuck step =
      subst (WillHaveSent sent) (sym (stalled v s t (Ok bytes) x waits stuck step)) (quiet_sent (stalled_by s) refl refl)
  answer_sent v t bytes x Waiting false waits answered step = heard_sent v (did x t) (heard_is v s t (Ok bytes) x waits answered step)
  answer_sent v t bytes x Idle no_room is room step =
      subst (WillHaveSent sent) (sym (step.plain (noted s Unexpected) (rw is refl))) (quiet_sent (noted s Unexpected) refl refl)
  answer_sent v t bytes x Stalling no_room is room step =
      subst (WillHaveSent sent) (sym (step.plain (noted s Unexpected) (rw is refl))) (quiet_sent (noted s Unexpected) refl refl)
  answer_sent v t bytes x Over no_room is room step =
      subst (WillHaveSent sent) (sym (step.plain (noted s Unexpected) (rw is refl))) (quiet_sent (noted s Unexpected) refl refl)

  step_sent : (v : Scheme) (t : State) (event : Event) (x : Shown) → Steps v s event x t → WillHaveSent sent (did x t)
  step_sent v t (Submit session c words) x step =
      let y : Submission = record { session = session; ticket = s.next; command = c; words = words } in
      let refusal = refusal_of v.device (is_over (status_in s)) (length s.queue) s.next c words in
      subst (WillHaveSent sent) (sym (step.plain (submitted_by v s y refusal) refl)) (submitted_sent v y refusal)
  step_sent v t (Answer bytes) x step = answer_sent v t bytes x (status_in s) (is_stall (Ok bytes)) refl refl step
  step_sent v t Lost x step = subst (WillHaveSent sent) (sym (step.plain (lost_by s (status_in s)) refl)) (lost_sent (status_in s))
  step_sent v t Reopen x step = subst (WillHaveSent sent) (sym (step.plain (lost_by s (status_in s)) refl)) (lost_sent (status_in s))
  step_sent v t Retry x step = subst (WillHaveSent sent) (sym (step.plain (retried_by s (status_in s)) refl)) (retried_sent (status_in s))

run_sent : (v : Scheme) (sent : List (List ℕ)) (run : List Happening) (s t : State) → HasSent sent s → IsRun v s run t → HasSent (sent ++ sends_of run) t
run_sent v sent [] s t was is_run =
    subst (λ (all : List (List ℕ)). HasSent all t) (sym (append-nil sent)) (subst (HasSent sent) is_run was)
run_sent v sent (h ∷ run) s t was is_run =
    subst (λ (all : List (List ℕ)). HasSent all t) (append_assoc sent h.shown.sends (sends_of run))
    (run_sent v (sent ++ h.shown.sends) run is_run.0 t (step_sent sent s was v is_run.0 h.event h.shown is_run.1) is_run.2)

-- a core that waits for an answer has a command
some_waits : (f : Option Reason) (queue : List Submission) (lost : Bool) → status_by f queue lost ≡ Waiting → (y : Submission) × (rest : List Submission) × (queue ≡ y ∷ rest)
some_waits (Some e) queue lost waits = absurd cc
some_waits None [] lost waits = absurd cc
some_waits None (y ∷ rest) lost waits = (y, rest, refl)

-- The message that a core waits for an answer to is one that its run has sent.
pub outstanding_sent : (v : Scheme) (run : List Happening) (s t : State) (message : List ℕ) → s.queue ≡ [] → IsRun v s run t → outstanding t ≡ Some message
    → IsAmong message (sends_of run)
outstanding_sent v run s t message idle is_run out =
    let waits = waits_by t (status_in t) message refl out in
    let some = some_waits t.failure t.queue t.lost waits.0 in
    let was : HasSent [] s = λ y rest e. absurd (let both = sym idle ∙ e in cc) in
    subst (λ (m : List ℕ). IsAmong m (sends_of run)) (sym waits.1) (run_sent v [] run s t was is_run some.0 some.1 some.2)

-- what a link lets go

pub of_sent : {B : Type 0} (l : Round B) (message : List ℕ) (exchanges : List Exchange) → IsSent l message exchanges → (b : List ℕ) → IsAmong b (bodies_of exchanges)
    → IsAmong b l.kept ⊎ ((b ≡ message) × IsPathFetch l.device message)
of_sent l message exchanges (inl none) b among = absurd (subst (λ (xs : List Exchange). IsAmong b (bodies_of xs)) none among)
of_sent l message exchanges (inr fetch) b among =
    elim (among_either l.kept (message ∷ []) b (among_all (bodies_of exchanges) (l.kept ++ message ∷ []) b fetch.1 among)) [
      | inl kept ↦ inl kept
      | inr (inl same) ↦ inr (same, fetch.0)
      | inr (inr none) ↦ absurd none
    ]

module _ {B : Type 0} (batches : B → List (List ℕ) → BatchOutcome → List Exchange → B → Type 0) (l m : Round B) (message : List ℕ) (o : Outcome) (exchanges : List Exchange) (call : RoundCall batches l message o exchanges m) where
  pub sent_by : AreBatches batches → IsSent l message exchanges
  sent_by are = elim call.does [
    | inl holds ↦ inl holds.none
    | inr (inl f) ↦ inr (f.path, batch_among (l.kept ++ message ∷ []) f.outcome exchanges (are l.inner m.inner (l.kept ++ message ∷ []) f.outcome exchanges f.batch))
    | inr (inr (inl declines)) ↦ inl declines.none
    | inr (inr (inr takes)) ↦ inl takes.none
  ]

  -- a FETCH leaves the STOREs that are kept, or none of them
  left_by : (outcome : BatchOutcome) (path : IsPathFetch l.device message)
      → MatchResult outcome (λ answers. Gives batches l.device l.record_len l path answers o m) (λ fault. (o ≡ Err fault) × (m.kept ≡ l.kept)) → (m.kept ≡ l.kept) ⊎ (m.kept ≡ [])
  left_by (Err fault) path gives = inl gives.1
  left_by (Ok answers) path gives = elim gives.either [ inl done ↦ inr done.1 | inr refused ↦ inl refused.0 ]

  kept_by : (m.kept ≡ l.kept) ⊎ (m.kept ≡ [])
  kept_by = elim call.does [
    | inl holds ↦ inl holds.kept
    | inr (inl f) ↦ left_by f.outcome f.path f.gives
    | inr (inr (inl declines)) ↦ inl declines.kept
    | inr (inr (inr takes)) ↦ inl takes.kept
  ]

  pub fewer_by : (b : List ℕ) → IsAmong b m.kept → IsAmong b l.kept
  fewer_by b among = elim kept_by [ inl same ↦ subst (IsAmong b) same among | inr none ↦ absurd (subst (IsAmong b) none among) ]

  held_by : (m.held ≡ l.held) ⊎ (m.held ≡ l.held ++ message ∷ [])
  held_by = elim call.does [
    | inl holds ↦ inr holds.held
    | inr (inl f) ↦ inl f.held
    | inr (inr (inl declines)) ↦ inl declines.held
    | inr (inr (inr takes)) ↦ inl takes.held
  ]

  -- all that waits has waited before, or is the message
  pub waits_still : (b : List ℕ) → IsAmong b (waiting m) → IsAmong b (waiting l) ⊎ (b ≡ message)
  waits_still b among = elim (among_either m.kept m.held b among) [
    | inl kept ↦ inl (among_front l.kept l.held b (fewer_by b kept))
    | inr held ↦ elim held_by [
      | inl same ↦ inl (among_back l.kept l.held b (subst (IsAmong b) same held))
      | inr more ↦ elim (among_either l.held (message ∷ []) b (subst (IsAmong b) more held)) [
        | inl was ↦ inl (among_back l.kept l.held b was)
        | inr (inl is) ↦ inr is
        | inr (inr none) ↦ absurd none
      ]
    ]
  ]
