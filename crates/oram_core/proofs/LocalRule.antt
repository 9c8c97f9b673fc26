-- What the code of a step does follows the local rule.
use Rattle.std.proofs.Common.{◌≡◌, ◌≢◌, ◌⊎◌, inl, inr, ◌&&◌, ℕ, ◌+◌, ◌*◌, ◌%◌, ◌<◌, ◌==◌, Bool, true, false, if◌then◌else◌, List, [], ◌∷◌, length, Option, Some, None, unwrap_or, Result, Ok, Err, IfOk, refl, ap, sym, ◌∙◌, subst, arith}
use Rattle.std.specs.Str.{bytes_eq}
use Rattle.std.proofs.lemmas.Slice.Eq.{bytes_eq-Decides}
use Rattle.std.proofs.lemmas.Bool.Decides.{nat_tests}
use Rattle.oram_geometry.specs.Sizes.{trees_of}
use Rattle.oram_semantics.specs.Answers.{Outcome, outcome_of, pair_in}
use Rattle.oram_semantics.specs.Answers.Outcome.{NoRoom, Fails}
use Rattle.oram_semantics.specs.Messages.{requested}
use Rattle.oram_semantics.specs.Moves.{Moved, MovesTo, Fits, moved, goes_on, stays, stalls, fails, on_answer, on_loss, on_retry, on_submission, finishes, fetches}
use Rattle.oram_semantics.specs.Progress.{Status}
use Rattle.oram_semantics.specs.Progress.Status.{Idle, Waiting, Stalling, Over}
use Rattle.oram_semantics.specs.Run.{shown_by, refusal_of, is_over, is_waiting}
use Rattle.oram_semantics.specs.Scheme.{Scheme}
use Rattle.oram_semantics.specs.State.{State, World, AllStand, status_by, status_in}
use Rattle.oram_semantics.specs.declared.events.Command.{Command}
use Rattle.oram_semantics.specs.declared.events.Event.{Event}
use Rattle.oram_semantics.specs.declared.events.Event.TheVariants.{Submit, Answer, Lost, Reopen, Retry}
use Rattle.oram_semantics.specs.declared.events.Note.{Note}
use Rattle.oram_semantics.specs.declared.events.Note.TheVariants.{Unexpected, Refused}
use Rattle.oram_semantics.specs.declared.events.Reaction.{Reaction}
use Rattle.oram_semantics.specs.declared.events.Reason.{Reason}
use Rattle.oram_semantics.specs.declared.events.Refusal.{Refusal}
use Rattle.oram_semantics.specs.declared.events.Submission.{Submission}
use Rattle.oram_core.specs.PlainSteps.{is_stalled, is_free_note, Done, done, noted, plain_step, submitted_by, lost_by, retried_by, unheard_by, accepted_by, finished_by, failed_by, fetched_by, stalled_by, resent_by}
use Rattle.oram_core.specs.AnswerMeaning.{IsVerdict}
use Rattle.oram_core.specs.Steps.{Steps, Heard}
use Rattle.oram_core.proofs.Quiet.{Meets, stays_met, accepts_met, stalls_met, fails_met, resends_met, finishes_met, fetches_met}

-- a command is at work, and its message is outstanding
pub record Waits (s : State) : Type 0 where
  pub oldest : Submission
  pub rest : List Submission
  pub queue : s.queue ≡ oldest ∷ rest
  pub healthy : s.failure ≡ None
  pub calm : s.lost ≡ false

waits_by : (s : State) (failure : Option Reason) (queue : List Submission) (lost : Bool) → s.failure ≡ failure → s.queue ≡ queue → s.lost ≡ lost → status_by failure queue lost ≡ Waiting → Waits s
waits_by s (Some e) queue lost f q l now = absurd (let no_way : Over ≡ Waiting = now in cc)
waits_by s None [] lost f q l now = absurd (let no_way : Idle ≡ Waiting = now in cc)
waits_by s None (x ∷ rest) true f q l now = absurd (let no_way : Stalling ≡ Waiting = now in cc)
waits_by s None (x ∷ rest) false f q l now = record { oldest = x; rest = rest; queue = q; healthy = f; calm = l }

pub waits : (s : State) → status_in s ≡ Waiting → Waits s
waits s now = waits_by s s.failure s.queue s.lost refl refl refl now

pub holds_of : (v : Scheme) (s : State) (w : World) → Fits v s w → s.failure ≡ None → AllStand v s w
holds_of v s w fits healthy = (fits healthy).0

-- a claim about an Ok follows from what is known about it
if_ok : {A E : Type 0} (P Q : A → Type 0) (r : Result A E) → ((a : A) → P a → Q a) → IfOk r P → IfOk r Q
if_ok P Q (Ok a) f h = f a h
if_ok P Q (Err e) f h = h

-- the last path of a command is stored
pub finish_moves : {E : Type 0} (v : Scheme) (s : State) (r : Result Reaction E) (t : State) → status_in s ≡ Waiting → s.entry_number % 2 ≡ 1 → s.entry_number + 1 ≡ 2 * trees_of v.device →
    ((x : Submission) (rest : List Submission) → s.queue ≡ x ∷ rest → IfOk r (λ y. done y t ≡ finished_by v s x rest)) →
    (w : World) → Fits v s w → IfOk r (λ y. MovesTo v s w (goes_on v s w s.queue) (shown_by y) t)
finish_moves v s r t now odd end h w fits =
    let o = waits s now in
    let turn : (s.entry_number % 2 == 0) ≡ false = grind (arith, nat_tests) in
    let ends : (s.entry_number + 1 == 2 * trees_of v.device) ≡ true = grind (arith, nat_tests) in
    let rule : goes_on v s w s.queue ≡ finishes v s w o.oldest o.rest = ap (goes_on v s w) o.queue ∙ rw (turn, ends) refl in
    if_ok _ _ r (λ y e. subst (λ (m : Moved). MovesTo v s w m (shown_by y) t) (sym rule)
    (subst (λ (d : Done). Meets v s w (finishes v s w o.oldest o.rest) d) (sym e) (finishes_met v s w o.oldest o.rest (holds_of v s w fits)))) (h o.oldest o.rest o.queue)

-- the path of another tree is stored
pub fetch_moves : {E : Type 0} (v : Scheme) (s : State) (r : Result Reaction E) (t : State) → status_in s ≡ Waiting → s.entry_number % 2 ≡ 1 → s.entry_number + 1 < 2 * trees_of v.device →
    ((x : Submission) (rest : List Submission) → s.queue ≡ x ∷ rest → IfOk r (λ y. done y t ≡ fetched_by v s x)) →
    (w : World) → Fits v s w → IfOk r (λ y. MovesTo v s w (goes_on v s w s.queue) (shown_by y) t)
fetch_moves v s r t now odd more h w fits =
    let o = waits s now in
    let turn : (s.entry_number % 2 == 0) ≡ false = grind (arith, nat_tests) in
    let goes : (s.entry_number + 1 == 2 * trees_of v.device) ≡ false = grind (arith, nat_tests) in
    let rule : goes_on v s w s.queue ≡ fetches v s w o.oldest = ap (goes_on v s w) o.queue ∙ rw (turn, goes) refl in
    if_ok _ _ r (λ y e. subst (λ (m : Moved). MovesTo v s w m (shown_by y) t) (sym rule)
    (subst (λ (d : Done). Meets v s w (fetches v s w o.oldest) d) (sym e) (fetches_met v s w o.oldest (holds_of v s w fits)))) (h o.oldest o.rest o.queue)

-- If a step is the plain step, it keeps everything that a step promises.
plain_steps : (v : Scheme) (s : State) (event : Event) (d : Done) (y : Reaction) (t : State) → plain_step v s event ≡ Some d → ((w : World) → Fits v s w → Meets v s w (moved v s w event) d) →
    ((bytes : List ℕ) → event ≡ Answer bytes → status_in s ≡ Waiting → ⊥) → done y t ≡ d → Steps v s event (shown_by y) t
plain_steps v s event d y t is met unheard e = record {
  plain = λ d' h. e ∙ ap (λ o. unwrap_or o d) (sym is ∙ h);
  heard = λ bytes answer now other. absurd (unheard bytes answer now);
  verdict = λ bytes answer now other. absurd (unheard bytes answer now);
  moves = λ w fits apart. subst (λ (k : Done). Meets v s w (moved v s w event) k) (sym e) (met w fits);
}

submit_unheard : (s : State) (session : ℕ) (c : Command) (words bytes : List ℕ) → Submit session c words ≡ Answer bytes → status_in s ≡ Waiting → ⊥
submit_unheard s session c words bytes answer now = cc

-- a command joins the queue
pub accept_steps : {E : Type 0} (v : Scheme) (s : State) (session : ℕ) (c : Command) (words : List ℕ) (r : Result Reaction E) (t : State) →
    refusal_of v.device (is_over (status_in s)) (length s.queue) s.next c words ≡ None →
    IfOk r (λ y. done y t ≡ accepted_by v s (record { session = session; ticket = s.next; command = c; words = words })) →
    IfOk r (λ y. Steps v s (Submit session c words) (shown_by y) t)
accept_steps v s session c words r t free h =
    let x : Submission = record { session = session; ticket = s.next; command = c; words = words } in
    if_ok _ _ r (λ y e. plain_steps v s (Submit session c words) (accepted_by v s x) y t (ap (λ o. Some (submitted_by v s x o)) free)
    (λ w fits. subst (λ o. Meets v s w (on_submission v s w x o) (accepted_by v s x)) (sym free) (accepts_met v s w x (holds_of v s w fits))) (submit_unheard s session c words) e) h

-- it is refused
pub refuse_steps : (v : Scheme) (s : State) (session : ℕ) (c : Command) (words : List ℕ) (e : Refusal) (y : Reaction) (t : State) →
    refusal_of v.device (is_over (status_in s)) (length s.queue) s.next c words ≡ Some e → done y t ≡ noted s (Refused e) → Steps v s (Submit session c words) (shown_by y) t
refuse_steps v s session c words e y t refused h =
    let x : Submission = record { session = session; ticket = s.next; command = c; words = words } in
    plain_steps v s (Submit session c words) (noted s (Refused e)) y t (ap (λ o. Some (submitted_by v s x o)) refused)
    (λ w fits. subst (λ o. Meets v s w (on_submission v s w x o) (noted s (Refused e))) (sym refused) (stays_met v s w (Refused e) (holds_of v s w fits))) (submit_unheard s session c words) h

-- an event that means a loss
pub record MeansLoss (v : Scheme) (s : State) (event : Event) : Type 0 where
  pub plain : plain_step v s event ≡ Some (lost_by s (status_in s))
  pub rule : (w : World) → moved v s w event ≡ on_loss s w (status_in s)
  pub mute : (bytes : List ℕ) → event ≡ Answer bytes → ⊥

lost_means : (v : Scheme) (s : State) → MeansLoss v s Lost
lost_means v s = record { plain = refl; rule = λ w. refl; mute = λ bytes answer. absurd (let no_way : Lost ≡ Answer bytes = answer in cc) }

reopened_means : (v : Scheme) (s : State) → MeansLoss v s Reopen
reopened_means v s = record { plain = refl; rule = λ w. refl; mute = λ bytes answer. absurd (let no_way : Reopen ≡ Answer bytes = answer in cc) }

pub means_loss : (v : Scheme) (s : State) (event : Event) → (event ≡ Lost) ⊎ (event ≡ Reopen) → MeansLoss v s event
means_loss v s event is = elim is [
  | inl e ↦ subst (MeansLoss v s) (sym e) (lost_means v s)
  | inr e ↦ subst (MeansLoss v s) (sym e) (reopened_means v s)
]

-- the outstanding message is lost
pub stall_steps : (v : Scheme) (s : State) (event : Event) (y : Reaction) (t : State) → MeansLoss v s event → status_in s ≡ Waiting → done y t ≡ stalled_by s → Steps v s event (shown_by y) t
stall_steps v s event y t means now h =
    plain_steps v s event (stalled_by s) y t (means.plain ∙ ap (λ n. Some (lost_by s n)) now)
    (λ w fits. subst (λ (m : Moved). Meets v s w m (stalled_by s)) (sym (means.rule w ∙ ap (on_loss s w) now)) (stalls_met v s w (holds_of v s w fits))) (λ bytes answer waiting. means.mute bytes answer) h

-- it is sent again
pub resend_steps : {E : Type 0} (v : Scheme) (s : State) (r : Result Reaction E) (t : State) → status_in s ≡ Stalling → IfOk r (λ y. done y t ≡ resent_by s) → IfOk r (λ y. Steps v s Retry (shown_by y) t)
resend_steps v s r t now h =
    if_ok _ _ r (λ y e. plain_steps v s Retry (resent_by s) y t (ap (λ n. Some (retried_by s n)) now)
    (λ w fits. subst (λ n. Meets v s w (on_retry s w n) (resent_by s)) (sym now) (resends_met v s w (holds_of v s w fits))) (λ bytes answer waiting. absurd (let no_way : Retry ≡ Answer bytes = answer in cc)) e) h

-- events that the core doesn't expect
loss_by : (s : State) (n : Status) → is_waiting n ≡ false → lost_by s n ≡ noted s Unexpected
loss_by s Waiting other = absurd (let no_way : true ≡ false = other in cc)
loss_by s Idle other = refl
loss_by s Stalling other = refl
loss_by s Over other = refl

loss_rule : (s : State) (w : World) (n : Status) → is_waiting n ≡ false → on_loss s w n ≡ stays s w Unexpected
loss_rule s w Waiting other = absurd (let no_way : true ≡ false = other in cc)
loss_rule s w Idle other = refl
loss_rule s w Stalling other = refl
loss_rule s w Over other = refl

retry_by : (s : State) (n : Status) → is_stalled n ≡ false → retried_by s n ≡ noted s Unexpected
retry_by s Stalling other = absurd (let no_way : true ≡ false = other in cc)
retry_by s Idle other = refl
retry_by s Waiting other = refl
retry_by s Over other = refl

retry_rule : (s : State) (w : World) (n : Status) → is_stalled n ≡ false → on_retry s w n ≡ stays s w Unexpected
retry_rule s w Stalling other = absurd (let no_way : true ≡ false = other in cc)
retry_rule s w Idle other = refl
retry_rule s w Waiting other = refl
retry_rule s w Over other = refl

answer_by : (s : State) (room : Bool) (n : Status) → is_waiting n ≡ false → unheard_by s room n ≡ Some (noted s Unexpected)
answer_by s room Waiting other = absurd (let no_way : true ≡ false = other in cc)
answer_by s room Idle other = refl
answer_by s room Stalling other = refl
answer_by s room Over other = refl

answer_rule : (v : Scheme) (s : State) (w : World) (n : Status) (o : Outcome) → is_waiting n ≡ false → on_answer v s w n o ≡ stays s w Unexpected
answer_rule v s w Waiting o other = absurd (let no_way : true ≡ false = other in cc)
answer_rule v s w Idle o other = refl
answer_rule v s w Stalling o other = refl
answer_rule v s w Over o other = refl

-- after an event without effect
ignored : (v : Scheme) (s : State) (event : Event) (y : Reaction) (t : State) → plain_step v s event ≡ Some (noted s Unexpected) → ((w : World) → moved v s w event ≡ stays s w Unexpected) → ((bytes : List ℕ) → event ≡ Answer bytes → status_in s ≡ Waiting → ⊥) → done y t ≡ noted s Unexpected → Steps v s event (shown_by y) t
ignored v s event y t is rule unheard h =
    plain_steps v s event (noted s Unexpected) y t is
    (λ w fits. subst (λ (m : Moved). Meets v s w m (noted s Unexpected)) (sym (rule w)) (stays_met v s w Unexpected (holds_of v s w fits))) unheard h

-- a loss that the core doesn't expect
pub loss_ignored : (v : Scheme) (s : State) (event : Event) (y : Reaction) (t : State) → MeansLoss v s event → is_waiting (status_in s) ≡ false → done y t ≡ noted s Unexpected → Steps v s event (shown_by y) t
loss_ignored v s event y t means other h =
    ignored v s event y t (means.plain ∙ ap (λ d. Some d) (loss_by s (status_in s) other)) (λ w. means.rule w ∙ loss_rule s w (status_in s) other) (λ bytes answer waiting. means.mute bytes answer) h

-- a retry without a loss
pub retry_ignored : (v : Scheme) (s : State) (y : Reaction) (t : State) → is_stalled (status_in s) ≡ false → done y t ≡ noted s Unexpected → Steps v s Retry (shown_by y) t
retry_ignored v s y t other h = ignored v s Retry y t (ap (λ d. Some d) (retry_by s (status_in s) other)) (λ w. retry_rule s w (status_in s) other) (λ bytes answer waiting. absurd (let no_way : Retry ≡ Answer bytes = answer in cc)) h

-- an answer that the core doesn't wait for
pub answer_ignored : (v : Scheme) (s : State) (bytes : List ℕ) (y : Reaction) (t : State) → is_waiting (status_in s) ≡ false → done y t ≡ noted s Unexpected → Steps v s (Answer bytes) (shown_by y) t
answer_ignored v s bytes y t other h = ignored v s (Answer bytes) y t (answer_by s (bytes_eq bytes (129 ∷ 8 ∷ [])) (status_in s) other) (λ w. answer_rule v s w (status_in s) (outcome_of v w.records (requested s.message) bytes) other)
    (λ given answer waiting. absurd (let no_way : true ≡ false = sym (ap is_waiting waiting) ∙ other in cc)) h

stalls_for_room : (s : State) (d : Done) (b : Bool) → (if b then Some (stalled_by s) else None) ≡ Some d → (b ≡ true) × (stalled_by s ≡ d)
stalls_for_room s d true h = (refl, ap (λ o. unwrap_or o d) h)
stalls_for_room s d false h = absurd (let no_way : None ≡ Some d = h in cc)

plain_answer : (v : Scheme) (s : State) (bytes : List ℕ) (y : Reaction) (t : State) (d : Done) → status_in s ≡ Waiting → (bytes ≡ 129 ∷ 8 ∷ [] → done y t ≡ stalled_by s) → plain_step v s (Answer bytes) ≡ Some d → done y t ≡ d
plain_answer v s bytes y t d now room h =
    let stalls = stalls_for_room s d (bytes_eq bytes (129 ∷ 8 ∷ [])) (sym (ap (unheard_by s (bytes_eq bytes (129 ∷ 8 ∷ []))) now) ∙ h) in
    room ((bytes_eq-Decides bytes (129 ∷ 8 ∷ [])).0 stalls.0) ∙ stalls.1

-- an answer that the core waits for
pub hear_steps : {E : Type 0} (v : Scheme) (s : State) (bytes : List ℕ) (r : Result Reaction E) (t : State) → status_in s ≡ Waiting →
    ((w : World) → Fits v s w → pair_in v w.records (requested s.message) bytes ≡ false → IfOk r (λ y. MovesTo v s w (on_answer v s w Waiting (outcome_of v w.records (requested s.message) bytes)) (shown_by y) t)) →
    (bytes ≢ 129 ∷ 8 ∷ [] → IfOk r (λ y. Heard v s (done y t))) → (bytes ≢ 129 ∷ 8 ∷ [] → IfOk r (λ y. IsVerdict v s bytes y.note)) → (bytes ≡ 129 ∷ 8 ∷ [] → IfOk r (λ y. done y t ≡ stalled_by s)) →
    IfOk r (λ y. Steps v s (Answer bytes) (shown_by y) t)
hear_steps v s bytes (Err e) t now moves heard verdict room = tt
hear_steps v s bytes (Ok y) t now moves heard verdict room = record {
  plain = λ d h. plain_answer v s bytes y t d now room h;
  heard = λ given answer waiting other. heard (λ is. other (let same : bytes ≡ given = cc in sym same ∙ is));
  verdict = λ given answer waiting other. let same : bytes ≡ given = cc in subst (λ (b : List ℕ). IsVerdict v s b y.note) same (verdict (λ is. other (sym same ∙ is)));
  moves = λ w fits apart. subst (λ n. MovesTo v s w (on_answer v s w n (outcome_of v w.records (requested s.message) bytes)) (shown_by y) t) (sym now)
      (moves w fits (sym (ap (λ n. is_waiting n && pair_in v w.records (requested s.message) bytes) now) ∙ apart));
}

-- the effect of an answer, by what it means
pub moves_by : {E : Type 0} (v : Scheme) (s : State) (w : World) (bytes : List ℕ) (o : Outcome) (r : Result Reaction E) (t : State) → outcome_of v w.records (requested s.message) bytes ≡ o →
    IfOk r (λ y. MovesTo v s w (on_answer v s w Waiting o) (shown_by y) t) → IfOk r (λ y. MovesTo v s w (on_answer v s w Waiting (outcome_of v w.records (requested s.message) bytes)) (shown_by y) t)
moves_by v s w bytes o r t means h = subst (λ (p : Outcome). IfOk r (λ y. MovesTo v s w (on_answer v s w Waiting p) (shown_by y) t)) (sym means) h

-- the answer means that the host has no room
pub stall_moves : (v : Scheme) (s : State) (w : World) (bytes : List ℕ) (y : Reaction) (t : State) → Fits v s w → outcome_of v w.records (requested s.message) bytes ≡ NoRoom → done y t ≡ stalled_by s →
    MovesTo v s w (on_answer v s w Waiting (outcome_of v w.records (requested s.message) bytes)) (shown_by y) t
stall_moves v s w bytes y t fits means does =
    subst (λ (p : Outcome). MovesTo v s w (on_answer v s w Waiting p) (shown_by y) t) (sym means)
    (subst (λ (d : Done). Meets v s w (stalls s w) d) (sym does) (stalls_met v s w (holds_of v s w fits)))

-- the answer fails the device
pub fail_moves : (v : Scheme) (s : State) (w : World) (bytes : List ℕ) (e : Reason) (y : Reaction) (t : State) → outcome_of v w.records (requested s.message) bytes ≡ Fails e → done y t ≡ failed_by s e →
    MovesTo v s w (on_answer v s w Waiting (outcome_of v w.records (requested s.message) bytes)) (shown_by y) t
fail_moves v s w bytes e y t means does =
    subst (λ (p : Outcome). MovesTo v s w (on_answer v s w Waiting p) (shown_by y) t) (sym means)
    (subst (λ (d : Done). Meets v s w (fails s w e) d) (sym does) (fails_met v s w e))

-- a reaction that is only a note
pub only_noted : (s : State) (y : Reaction) (n : Note) → y.note ≡ n → y.replies.items ≡ [] → y.sends.items ≡ [] → done y s ≡ noted s n
only_noted s y n note replies sends = rw (note, replies, sends) refl

pub waiting_by : (n : Status) → is_waiting n ≡ true → n ≡ Waiting
waiting_by Waiting h = refl
waiting_by Idle h = absurd (let no_way : false ≡ true = h in cc)
waiting_by Stalling h = absurd (let no_way : false ≡ true = h in cc)
waiting_by Over h = absurd (let no_way : false ≡ true = h in cc)

pub stalling_by : (n : Status) → is_stalled n ≡ true → n ≡ Stalling
stalling_by Stalling h = refl
stalling_by Idle h = absurd (let no_way : false ≡ true = h in cc)
stalling_by Waiting h = absurd (let no_way : false ≡ true = h in cc)
stalling_by Over h = absurd (let no_way : false ≡ true = h in cc)

-- accepting a command needs memory
pub accept_bound : (v : Scheme) (s : State) (session : ℕ) (c : Command) (words : List ℕ) (d : Done) → refusal_of v.device (is_over (status_in s)) (length s.queue) s.next c words ≡ None →
    plain_step v s (Submit session c words) ≡ Some d → is_free_note d.note ≡ true → ⊥
accept_bound v s session c words d free is note =
    let x : Submission = record { session = session; ticket = s.next; command = c; words = words } in
    let rule : Some (submitted_by v s x (refusal_of v.device (is_over (status_in s)) (length s.queue) s.next c words)) ≡ Some (accepted_by v s x) = ap (λ o. Some (submitted_by v s x o)) free in
    let same : accepted_by v s x ≡ d = ap (λ o. unwrap_or o d) (sym rule ∙ is) in
    let no_way : false ≡ true = ap (λ (k : Done). is_free_note k.note) same ∙ note in
    cc

-- and so does sending a message again
pub resend_bound : (v : Scheme) (s : State) (d : Done) → status_in s ≡ Stalling → plain_step v s Retry ≡ Some d → is_free_note d.note ≡ true → ⊥
resend_bound v s d now is note =
    let rule : Some (retried_by s (status_in s)) ≡ Some (resent_by s) = ap (λ n. Some (retried_by s n)) now in
    let same : resent_by s ≡ d = ap (λ o. unwrap_or o d) (sym rule ∙ is) in
    let no_way : false ≡ true = ap (λ (k : Done). is_free_note k.note) same ∙ note in
    cc

-- of the answers that the core waits for, only the refusal for lack of room has a plain step
pub plain_refusal : (v : Scheme) (s : State) (bytes : List ℕ) (d : Done) → status_in s ≡ Waiting → plain_step v s (Answer bytes) ≡ Some d → bytes ≡ 129 ∷ 8 ∷ []
plain_refusal v s bytes d now is =
    let stalls = stalls_for_room s d (bytes_eq bytes (129 ∷ 8 ∷ [])) (sym (ap (unheard_by s (bytes_eq bytes (129 ∷ 8 ∷ []))) now) ∙ is) in
    (bytes_eq-Decides bytes (129 ∷ 8 ∷ [])).0 stalls.0
