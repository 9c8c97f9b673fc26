-- The core and the outstanding message after a step.
use Rattle.std.proofs.Common.{◌≡◌, ℕ, ◌+◌, ◌-◌, ◌*◌, ◌<◌, suc, inl, inr, Bool, true, false, List, [], ◌∷◌, ◌++◌, length, Option, Some, None, IfSome, refl, sym, ap, ◌∙◌, subst, arith}
use Rattle.std.specs.Prelude.{is_some, option_to_list, MatchOption}
use Rattle.std.specs.Option.{option_or}
use Rattle.std.specs.Str.{bytes_eq}
use Rattle.oram_geometry.specs.declared.Sizes.{Sizes}
use Rattle.oram_geometry.specs.Sizes.{trees_of}
use Rattle.oram_semantics.specs.Moves.{latest}
use Rattle.oram_semantics.specs.Progress.{Status}
use Rattle.oram_semantics.specs.Progress.Status.{Idle, Waiting, Stalling, Over}
use Rattle.oram_semantics.specs.Run.{Shown, is_over, is_waiting, refusal_of}
use Rattle.oram_semantics.specs.State.{State, status_by, status_in}
use Rattle.oram_semantics.specs.declared.events.Event.{Event}
use Rattle.oram_semantics.specs.declared.events.Event.TheVariants.{Submit, Answer, Lost, Reopen, Retry}
use Rattle.oram_semantics.specs.declared.events.Command.{Command}
use Rattle.oram_semantics.specs.declared.events.Note.TheVariants.{Unexpected}
use Rattle.oram_semantics.specs.declared.events.Reason.{Reason}
use Rattle.oram_semantics.specs.declared.events.Refusal.{Refusal}
use Rattle.oram_semantics.specs.declared.events.Submission.{Submission}
use Rattle.oram_semantics.proofs.Judged.{bytes_same}
use Rattle.oram_core.specs.PlainSteps.{Done, noted, stalled_by, finished_by, first_message, first_messages, sent_if_idle, submitted_by, lost_by, retried_by}
use Rattle.oram_core.specs.Steps.{Steps, Heard, did}
use Rattle.oramsim.specs.Script.{is_answer, left_at, newest_of, plain_scheme}
use Rattle.oramsim.specs.Correspondence.{IsWhole, answers_left}

newest_some : (xs : List (List ℕ)) (x : List ℕ) (m : Option (List ℕ)) → option_or (newest_of xs (Some x)) m ≡ newest_of xs (Some x)
newest_some [] x m = refl
newest_some (y ∷ xs) x m = newest_some xs y m

pub newest_or : (xs : List (List ℕ)) (m : Option (List ℕ)) → option_or (newest_of xs None) m ≡ newest_of xs m
newest_or [] m = refl
newest_or (x ∷ xs) m = newest_some xs x m

newest_last : (xs : List (List ℕ)) (x : List ℕ) (m : Option (List ℕ)) → newest_of (xs ++ x ∷ []) m ≡ Some x
newest_last [] x m = refl
newest_last (y ∷ xs) x m = newest_last xs x (Some y)

none_left : (xs : List (List ℕ)) → length xs ≡ 0 → None ≡ newest_of xs None
none_left [] e = refl
none_left (x ∷ xs) e = absurd (omega (arith, e))

-- The last message is taken off the list.
pub popped : (xs rest : List (List ℕ)) (o : Option (List ℕ)) (a b : ℕ) → a ≡ length xs → xs ≡ rest ++ option_to_list o → MatchOption o ((a ≡ 0) × (b ≡ 0)) (λ _. b + 1 ≡ a) → o ≡ newest_of xs None
popped xs rest None a b len e empty = none_left xs (sym len ∙ empty.0)
popped xs rest (Some x) a b len e some = sym (rw e (newest_last rest x None))

-- the state after a step, and the message that is outstanding then
abbrev Leaves : Sizes → Option (List ℕ) → Done → Type 0
Leaves d left y = IsWhole d y.state (newest_of y.sends left)

by_plain : (d : Sizes) (left : Option (List ℕ)) (x : Shown) (t : State) (y : Done) → did x t ≡ y → Leaves d left y → IsWhole d t (newest_of x.sends left)
by_plain d left x t y e w = subst (Leaves d left) (sym e) w

accepted_waits : (f : Option Reason) (q : List Submission) (l : Bool) (x : Submission) (m : List ℕ) (message : Option (List ℕ)) → is_over (status_by f q l) ≡ false → (f ≡ None → length q ≡ 0 → l ≡ false)
    → is_some message ≡ is_waiting (status_by f q l) → is_some (newest_of (sent_if_idle q m) message) ≡ is_waiting (status_by f (q ++ x ∷ []) l)
accepted_waits (Some e) q l x m message over rests w = cc
accepted_waits None [] l x m message over rests w = rw (rests refl refl) refl
accepted_waits None (y ∷ q) l x m message over rests w = w

accepted_latest : (q : List Submission) (m last : List ℕ) (message : Option (List ℕ)) → IfSome message (λ k. k ≡ last) → IfSome (newest_of (sent_if_idle q m) message) (λ k. k ≡ latest (sent_if_idle q m) last)
accepted_latest [] m last message h = refl
accepted_latest (y ∷ q) m last message h = h

long : (q : List Submission) (x : Submission) {A : Type 0} → length (q ++ x ∷ []) ≡ 0 → A
long [] x e = absurd (omega (arith, e))
long (y ∷ q) x e = absurd (omega (arith, e))

submitted : (d : Sizes) (s : State) (x : Submission) (o : Option Refusal) (message : Option (List ℕ)) → (o ≡ None → is_over (status_in s) ≡ false) → IsWhole d s message
    → Leaves d message (submitted_by (plain_scheme d) s x o)
submitted d s x (Some e) message alive w = w
submitted d s x None message alive w = record {
  waits = accepted_waits s.failure s.queue s.lost x (first_message d s x) message (alive refl) w.rests w.waits;
  latest = accepted_latest s.queue (first_message d s x) s.message message w.latest;
  rests = λ none e. long s.queue x e;
  stage = w.stage;
}

alive : (d : Sizes) (failed : Bool) (waiting taken : ℕ) (c : Command) (words : List ℕ) → refusal_of d failed waiting taken c words ≡ None → failed ≡ false
alive d true waiting taken c words e = cc
alive d false waiting taken c words e = refl

stalled_waits : (f : Option Reason) (q : List Submission) (l : Bool) → status_by f q l ≡ Waiting → false ≡ is_waiting (status_by f q true)
stalled_waits (Some e) q l w = cc
stalled_waits None [] l w = cc
stalled_waits None (y ∷ q) l w = refl

stalled_rests : (f : Option Reason) (q : List Submission) (l : Bool) {A : Type 0} → status_by f q l ≡ Waiting → length q ≡ 0 → A
stalled_rests (Some e) q l w = cc
stalled_rests None [] l w = cc
stalled_rests None (y ∷ q) l w = λ e. absurd (omega (arith, e))

stalled : (d : Sizes) (s : State) (message : Option (List ℕ)) → status_in s ≡ Waiting → IsWhole d s message → Leaves d None (stalled_by s)
stalled d s message e w = record {
  waits = stalled_waits s.failure s.queue s.lost e;
  latest = tt;
  rests = λ none empty. stalled_rests s.failure s.queue s.lost e empty;
  stage = w.stage;
}

ignored : (d : Sizes) (s : State) (message : Option (List ℕ)) → is_waiting (status_in s) ≡ false → IsWhole d s message → IsWhole d s None
ignored d s message e w = record { waits = sym e; latest = tt; rests = w.rests; stage = w.stage }

lost : (d : Sizes) (s : State) (message : Option (List ℕ)) (now : Status) → status_in s ≡ now → IsWhole d s message → Leaves d None (lost_by s now)
lost d s message Waiting e w = stalled d s message e w
lost d s message Idle e w = ignored d s message (ap is_waiting e) w
lost d s message Stalling e w = ignored d s message (ap is_waiting e) w
lost d s message Over e w = ignored d s message (ap is_waiting e) w

resent_waits : (f : Option Reason) (q : List Submission) (l : Bool) → status_by f q l ≡ Stalling → true ≡ is_waiting (status_by f q false)
resent_waits (Some e) q l w = cc
resent_waits None [] l w = cc
resent_waits None (y ∷ q) l w = refl

retried : (d : Sizes) (s : State) (message : Option (List ℕ)) (now : Status) → status_in s ≡ now → IsWhole d s message → Leaves d message (retried_by s now)
retried d s message Stalling e w = record { waits = resent_waits s.failure s.queue s.lost e; latest = refl; rests = λ none empty. refl; stage = w.stage }
retried d s message Idle e w = w
retried d s message Waiting e w = w
retried d s message Over e w = w

failed_waits : (xs : List (List ℕ)) (f : Option Reason) (q : List Submission) (l : Bool) (r : Reason) → xs ≡ [] → f ≡ Some r → is_some (newest_of xs None) ≡ is_waiting (status_by f q l)
failed_waits xs f q l r a b = rw (a, b) refl

not_lost : (f : Option Reason) (q : List Submission) (l : Bool) → status_by f q l ≡ Waiting → l ≡ false
not_lost (Some e) q l w = cc
not_lost None [] l w = cc
not_lost None (y ∷ q) true w = cc
not_lost None (y ∷ q) false w = refl

finished_waits : (f : Option Reason) (q : List Submission) (l : Bool) (v : Sizes) (s : State) (rest : List Submission) → status_by f q l ≡ Waiting → is_some (newest_of (first_messages v s rest) None) ≡ is_waiting (status_by f rest l)
finished_waits (Some e) q l v s rest w = cc
finished_waits None q l v s [] w = refl
finished_waits None q l v s (y ∷ rest) w = rw (not_lost None q l w) refl

finished_latest : (d : Sizes) (s : State) (rest : List Submission) (last : List ℕ) → IfSome (newest_of (first_messages d s rest) None) (λ k. k ≡ latest (first_messages d s rest) last)
finished_latest d s [] last = tt
finished_latest d s (y ∷ rest) last = refl

some_trees : (d : Sizes) (k : ℕ) → k < 2 * trees_of d → 0 < 2 * trees_of d
some_trees d k h = omega (arith, h)

no_failure : (f : Option Reason) (q : List Submission) (l : Bool) → status_by f q l ≡ Waiting → f ≡ None
no_failure (Some e) q l w = cc
no_failure None q l w = refl

heard : (d : Sizes) (s t : State) (x : Shown) (message : Option (List ℕ)) → status_in s ≡ Waiting → IsWhole d s message → Heard (plain_scheme d) s (did x t) → IsWhole d t (newest_of x.sends None)
heard d s t x message e w (inl h) = record {
  waits = failed_waits x.sends t.failure t.queue t.lost h.reason h.sends (ap (λ (u : State). u.failure) h.state);
  latest = rw h.sends tt;
  rests = λ none. absurd (let both : Some h.reason ≡ None = sym (ap (λ (u : State). u.failure) h.state) ∙ none in cc);
  stage = λ none. absurd (let both : Some h.reason ≡ None = sym (ap (λ (u : State). u.failure) h.state) ∙ none in cc);
}
heard d s t x message e w (inr (inl h)) = record {
  waits = rw h.sends (sym (ap is_waiting h.waits));
  latest = rw h.sends refl;
  rests = λ none empty. not_lost t.failure t.queue t.lost h.waits;
  stage = λ none. h.within;
}
heard d s t x message e w (inr (inr h)) = by_plain d None x t (finished_by (plain_scheme d) s h.oldest h.rest) h.does (record {
  waits = finished_waits s.failure s.queue s.lost d s h.rest e;
  latest = finished_latest d s h.rest [];
  rests = λ none empty. not_lost s.failure s.queue s.lost e;
  stage = λ none. some_trees d s.entry_number (w.stage none);
})

answered : (d : Sizes) (s t : State) (x : Shown) (bytes : List ℕ) (message : Option (List ℕ)) (now : Status) (b : Bool) → status_in s ≡ now → bytes_eq bytes (129 ∷ 8 ∷ []) ≡ b → IsWhole d s message → Steps (plain_scheme d) s (Answer bytes) x t
    → IsWhole d t (newest_of x.sends None)
answered d s t x bytes message Waiting true e b w step = by_plain d None x t (stalled_by s) (step.plain (stalled_by s) (rw (e, b) refl)) (stalled d s message e w)
answered d s t x bytes message Waiting false e b w step =
    heard d s t x message e w (step.heard bytes refl e (λ same. absurd (let both : true ≡ false = sym (bytes_same bytes (129 ∷ 8 ∷ []) same) ∙ b in cc)))
answered d s t x bytes message Idle b e r w step = by_plain d None x t (noted s Unexpected) (step.plain (noted s Unexpected) (rw e refl)) (ignored d s message (ap is_waiting e) w)
answered d s t x bytes message Stalling b e r w step = by_plain d None x t (noted s Unexpected) (step.plain (noted s Unexpected) (rw e refl)) (ignored d s message (ap is_waiting e) w)
answered d s t x bytes message Over b e r w step = by_plain d None x t (noted s Unexpected) (step.plain (noted s Unexpected) (rw e refl)) (ignored d s message (ap is_waiting e) w)

-- After a step, the outstanding message still fits the core.
pub whole_after : (d : Sizes) (s t : State) (event : Event) (x : Shown) (message : Option (List ℕ)) → IsWhole d s message → Steps (plain_scheme d) s event x t → IsWhole d t (newest_of x.sends (left_at event message))
whole_after d s t (Submit session c words) x message w step =
    let sub : Submission = record { session = session; ticket = s.next; command = c; words = words } in
    let o = refusal_of d (is_over (status_in s)) (length s.queue) s.next c words in
    by_plain d message x t (submitted_by (plain_scheme d) s sub o) (step.plain _ refl) (submitted d s sub o message (alive d (is_over (status_in s)) (length s.queue) s.next c words) w)
whole_after d s t (Answer bytes) x message w step = answered d s t x bytes message (status_in s) (bytes_eq bytes (129 ∷ 8 ∷ [])) refl refl w step
whole_after d s t Lost x message w step = by_plain d None x t (lost_by s (status_in s)) (step.plain _ refl) (lost d s message (status_in s) refl w)
whole_after d s t Reopen x message w step = by_plain d None x t (lost_by s (status_in s)) (step.plain _ refl) (lost d s message (status_in s) refl w)
whole_after d s t Retry x message w step = by_plain d message x t (retried_by s (status_in s)) (step.plain _ refl) (retried d s message (status_in s) refl w)

-- After each answer, fewer answers are needed.
none_wanted : (d : Sizes) (t : State) (xs : List (List ℕ)) (n : ℕ) → xs ≡ [] → answers_left d t (newest_of xs None) < n + 1
none_wanted d t xs n e = rw e (omega arith)

next_wanted : (d : Sizes) (s t : State) (m : List ℕ) (k : ℕ) → length s.queue ≡ suc k → t.queue ≡ s.queue → t.entry_number ≡ s.entry_number + 1 → t.entry_number < 2 * trees_of d
    → 2 * trees_of d * length t.queue - t.entry_number + 1 < 2 * trees_of d * length s.queue - s.entry_number + 1
next_wanted d s t m k long same stage within = rw (same, stage, long) (omega (arith, within, stage))

some_queue : (f : Option Reason) (q : List Submission) (l : Bool) → status_by f q l ≡ Waiting → (k : ℕ) × (length q ≡ suc k)
some_queue (Some e) q l w = cc
some_queue None [] l w = cc
some_queue None (y ∷ q) l w = (length q, omega arith)

is_waiting_at : (now : Status) → is_waiting now ≡ true → now ≡ Waiting
is_waiting_at Waiting w = refl
is_waiting_at Idle w = cc
is_waiting_at Stalling w = cc
is_waiting_at Over w = cc

finished_wanted : (d : Sizes) (s : State) (x : Submission) (rest : List Submission) → s.queue ≡ x ∷ rest → s.entry_number < 2 * trees_of d
    → answers_left d (finished_by (plain_scheme d) s x rest).state (newest_of (first_messages d s rest) None) < 2 * trees_of d * length s.queue - s.entry_number + 1
finished_wanted d s x [] q within = omega arith
finished_wanted d s x (y ∷ rest) q within = rw q (omega (arith, within))

heard_wanted : (d : Sizes) (s t : State) (x : Shown) (message : Option (List ℕ)) → status_in s ≡ Waiting → IsWhole d s message → Heard (plain_scheme d) s (did x t)
    → answers_left d t (newest_of x.sends None) < 2 * trees_of d * length s.queue - s.entry_number + 1
heard_wanted d s t x message e w (inl h) = none_wanted d t x.sends _ h.sends
heard_wanted d s t x message e w (inr (inl h)) =
    let q = some_queue s.failure s.queue s.lost e in
    rw h.sends (next_wanted d s t [] q.0 q.1 h.queue h.entry_number h.within)
heard_wanted d s t x message e w (inr (inr h)) =
    subst (λ (y : Done). answers_left d y.state (newest_of y.sends None) < 2 * trees_of d * length s.queue - s.entry_number + 1) (sym h.does)
    (finished_wanted d s h.oldest h.rest h.queue (w.stage (no_failure s.failure s.queue s.lost e)))

answer_wanted : (d : Sizes) (s t : State) (x : Shown) (bytes : List ℕ) (message : Option (List ℕ)) (b : Bool) → status_in s ≡ Waiting → bytes_eq bytes (129 ∷ 8 ∷ []) ≡ b → IsWhole d s message → Steps (plain_scheme d) s (Answer bytes) x t
    → answers_left d t (newest_of x.sends None) < 2 * trees_of d * length s.queue - s.entry_number + 1
answer_wanted d s t x bytes message true e b w step =
    subst (λ (y : Done). answers_left d y.state (newest_of y.sends None) < 2 * trees_of d * length s.queue - s.entry_number + 1) (sym (step.plain (stalled_by s) (rw (e, b) refl))) (none_wanted d (stalled_by s).state [] _ refl)
answer_wanted d s t x bytes message false e b w step =
    heard_wanted d s t x message e w (step.heard bytes refl e (λ same. absurd (let both : true ≡ false = sym (bytes_same bytes (129 ∷ 8 ∷ []) same) ∙ b in cc)))

wanted_before : (d : Sizes) (s : State) (message : Option (List ℕ)) → is_some message ≡ true → answers_left d s message ≡ 2 * trees_of d * length s.queue - s.entry_number + 1
wanted_before d s message some = rw some refl

pub fewer : (d : Sizes) (s t : State) (event : Event) (x : Shown) (message : Option (List ℕ)) → IsWhole d s message → Steps (plain_scheme d) s event x t → is_answer event ≡ true → is_some message ≡ true
    → answers_left d t (newest_of x.sends (left_at event message)) < answers_left d s message
fewer d s t (Submit session c words) x message w step heard_of some = cc
fewer d s t (Answer bytes) x message w step heard_of some =
    subst (λ n. answers_left d t (newest_of x.sends None) < n) (sym (wanted_before d s message some))
    (answer_wanted d s t x bytes message (bytes_eq bytes (129 ∷ 8 ∷ [])) (is_waiting_at (status_in s) (sym w.waits ∙ some)) refl w step)
fewer d s t Lost x message w step heard_of some = cc
fewer d s t Reopen x message w step heard_of some = cc
fewer d s t Retry x message w step heard_of some = cc
