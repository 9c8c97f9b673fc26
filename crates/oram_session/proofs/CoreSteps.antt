-- What a session needs to know about a core's step, whatever the host is.
use Rattle.std.proofs.Common.{◌≡◌, ◌≢◌, ℕ, zero, suc, ◌+◌, ◌-◌, ◌*◌, ◌<◌, ◌≤◌, Bool, true, false, if◌then◌else◌, List, [], ◌∷◌, length, Option, Some, None, Ok, Err, refl, sym, ap, ◌∙◌, subst, arith, inl, inr}
use Rattle.std.specs.Str.{bytes_eq}
use Rattle.oram_geometry.specs.declared.Sizes.{Sizes}
use Rattle.oram_geometry.specs.Sizes.{trees_of}
use Rattle.oram_bucket.specs.Cipher.{Cipher}
use Rattle.oram_semantics.specs.Progress.Status.{Waiting, Stalling}
use Rattle.oram_semantics.specs.Run.{Shown, refusal_of, is_over}
use Rattle.oram_semantics.specs.Scheme.{Scheme}
use Rattle.oram_semantics.specs.State.{State, status_by, status_in}
use Rattle.oram_semantics.specs.declared.events.Command.{Command}
use Rattle.oram_semantics.specs.declared.events.Event.{Event}
use Rattle.oram_semantics.specs.declared.events.Event.TheVariants.{Submit, Retry}
use Rattle.oram_semantics.specs.declared.events.Note.TheVariants.{Stalled}
use Rattle.oram_semantics.specs.declared.events.Reason.{Reason}
use Rattle.oram_semantics.specs.declared.events.Refusal.{Refusal}
use Rattle.oram_semantics.specs.declared.events.Refusal.TheVariants as refusal
use Rattle.oram_semantics.specs.declared.events.Submission.{Submission}
use Rattle.oram_core.specs.Core.{AtWork, CoreValue, IsHealthy, IsResting, IsSameDevice, IsSound, IsWhole, scheme_of, scheme_with}
use Rattle.oram_core.specs.PlainSteps.{Done, plain_step, stalled_by, resent_by, submitted_by}
use Rattle.oram_core.specs.Steps.{Steps, Heard, did}
use Rattle.oram_session.specs.Exchanges.{event_of, is_stall}
use Rattle.oram_session.specs.Outcome.{Outcome}
use Rattle.oram_session.specs.CoreWork.{has_no_work_in, HasNoWork, outstanding, IsBegun, answers_left}

-- a core that keeps its device and sealer keeps its scheme
pub same_scheme : {S : Type 0} (cipher : S → Cipher) (c d : CoreValue S) →
    IsSameDevice c d → scheme_of cipher d ≡ scheme_of cipher c
same_scheme {S} cipher c d h =
    ap (λ (x : Sizes). scheme_with cipher x d.sealer) h.0 ∙ ap (λ (x : S). scheme_with cipher c.device x) h.1

-- so its steps are those of the core before
pub steps_under : {S : Type 0} (cipher : S → Cipher) (c d : CoreValue S) →
    IsSameDevice c d → (s : State) (e : Event) (x : Shown) (t : State) → Steps (scheme_of cipher d) s e x t → Steps (scheme_of cipher c) s e x t
steps_under cipher c d h s e x t step = subst (λ (v : Scheme). Steps v s e x t) (same_scheme cipher c d h) step

pub same_trans : {S : Type 0} (a b c : CoreValue S) → IsSameDevice a b → IsSameDevice b c → IsSameDevice a c
same_trans a b c h k = (k.0 ∙ h.0, k.1 ∙ h.1)

-- what a status says about the parts of the state that determine it
pub still_waits : (f : Option Reason) (q : List Submission) (l : Bool) → status_by f q l ≡ Waiting → (f ≡ None) × (l ≡ false) × (status_by f q true ≡ Stalling)
still_waits (Some e) q l h = absurd cc
still_waits None [] l h = absurd cc
still_waits None (x ∷ q) true h = absurd cc
still_waits None (x ∷ q) false h = (refl, refl, refl)

pub waits_outstanding : (s : State) → status_in s ≡ Waiting → outstanding s ≡ Some s.message
waits_outstanding s w = rw w refl

stall_plain : (v : Scheme) (s : State) (o : Outcome) → status_in s ≡ Waiting → is_stall o ≡ true → plain_step v s (event_of o) ≡ Some (stalled_by s)
stall_plain v s (Ok b) w f = rw (w, f) refl
stall_plain v s (Err e) w f = rw w refl

-- a call without an answer stalls the core
pub stalled : (v : Scheme) (s t : State) (o : Outcome) (x : Shown) → status_in s ≡ Waiting → is_stall o ≡ true → Steps v s (event_of o) x t → did x t ≡ stalled_by s
stalled v s t o x w f h = h.plain (stalled_by s) (stall_plain v s o w f)

pub stalled_status : (v : Scheme) (s t : State) (o : Outcome) (x : Shown) → status_in s ≡ Waiting → is_stall o ≡ true → Steps v s (event_of o) x t → status_in t ≡ Stalling
stalled_status v s t o x w f h = ap (λ (d : Done). status_in d.state) (stalled v s t o x w f h) ∙ (still_waits s.failure s.queue s.lost w).2

-- a stall and a Retry leave it as it was
pub retried_is : (v : Scheme) (s u t : State) (x : Shown) → status_in s ≡ Waiting → u ≡ record s { lost = true } → Steps v u Retry x t → (x.replies ≡ []) × (t ≡ s)
retried_is v s u t x w held h =
    let k = still_waits s.failure s.queue s.lost w in
    let g : Steps v (record s { lost = true }) Retry x t = subst (λ (b : State). Steps v b Retry x t) held h in
    let again : plain_step v (record s { lost = true }) Retry ≡ Some (resent_by (record s { lost = true })) = rw k.2 refl in
    let e = g.plain (resent_by (record s { lost = true })) again in
    (ap (λ (d : Done). d.replies) e, ap (λ (d : Done). d.state) e ∙ ap (λ (b : Bool). let r : State = record s { lost = b } in r) (sym k.1))

no_room : (b : List ℕ) → bytes_eq b (129 ∷ 8 ∷ []) ≡ false → b ≢ 129 ∷ 8 ∷ []
no_room b f e = let g : bytes_eq (129 ∷ 8 ∷ []) (129 ∷ 8 ∷ []) ≡ false = subst (λ (xs : List ℕ). bytes_eq xs (129 ∷ 8 ∷ []) ≡ false) e f in cc

-- any other answer takes effect
pub heard_is : (v : Scheme) (s t : State) (o : Outcome) (x : Shown) → status_in s ≡ Waiting → is_stall o ≡ false → Steps v s (event_of o) x t → Heard v s (did x t)
heard_is v s t (Ok b) x w f h = h.heard b refl w (no_room b f)
heard_is v s t (Err e) x w f h = absurd cc

quiet : (v : Scheme) (s : State) (d : Done) → Heard v s d → d.note ≢ Stalled
quiet v s d (inl f) n = let e = sym f.note ∙ n in cc
quiet v s d (inr (inl g)) n = let e = sym g.note ∙ n in cc
quiet v s d (inr (inr r)) n = let e = sym (ap (λ (m : Done). m.note) r.does) ∙ n in cc

-- the note says which of these it was
pub stall_noted : (v : Scheme) (s t : State) (o : Outcome) (x : Shown) → status_in s ≡ Waiting → Steps v s (event_of o) x t → x.note ≡ Stalled → is_stall o ≡ true
stall_noted v s t o x w h n = at (is_stall o) refl
  where
    at : (b : Bool) → is_stall o ≡ b → is_stall o ≡ true
    at true e = e
    at false e = absurd (quiet v s (did x t) (heard_is v s t o x w e h) n)

pub answer_noted : (v : Scheme) (s t : State) (o : Outcome) (x : Shown) → status_in s ≡ Waiting → Steps v s (event_of o) x t → x.note ≢ Stalled → is_stall o ≡ false
answer_noted v s t o x w h n = at (is_stall o) refl
  where
    at : (b : Bool) → is_stall o ≡ b → is_stall o ≡ false
    at false e = e
    at true e = absurd (n (ap (λ (d : Done). d.note) (stalled v s t o x w e h)))

pub no_work_over : (s : State) (e : Reason) → s.failure ≡ Some e → HasNoWork s
no_work_over s e h = rw h refl

-- each answer leaves fewer answers to wait for
left_more : (n k entry_number : ℕ) → 1 ≤ n → 0 * (k + 1) + (k - 0) < n * (k + 1) + (k - entry_number)
left_more zero k entry_number h = absurd (omega arith)
left_more (suc n) k entry_number h = omega arith

left_finished : (n k entry_number : ℕ) → n * (k + 1) + (k - 0) < suc n * (k + 1) + (k - entry_number)
left_finished n k entry_number = omega arith

pub left_heard : (v : Scheme) (s : State) (d : Done) → 1 ≤ length s.queue → Heard v s d → answers_left v.device d.state < answers_left v.device s
left_heard v s d some (inl f) =
    subst (λ (t : State). answers_left v.device t < answers_left v.device s) (sym f.state) (left_more (length s.queue) (2 * trees_of v.device) s.entry_number some)
left_heard v s d some (inr (inl g)) =
    let k = 2 * trees_of v.device in
    let same : length d.state.queue * (k + 1) ≡ length s.queue * (k + 1) = ap (λ (q : List Submission). length q * (k + 1)) g.queue in
    let on = g.entry_number in
    let within = g.within in
    omega arith
left_heard v s d some (inr (inr r)) =
    let k = 2 * trees_of v.device in
    let fewer = left_finished (length r.rest) k s.entry_number in
    let count : suc (length r.rest) * (k + 1) ≡ length s.queue * (k + 1) = ap (λ (q : List Submission). length q * (k + 1)) (sym r.queue) in
    subst (λ (m : Done). answers_left v.device m.state < answers_left v.device s) (sym r.does)
    (subst (λ (n : ℕ). length r.rest * (k + 1) + (k - 0) < n + (k - s.entry_number)) count fewer)

-- a submission to a core without work

if_none : (b : Bool) (o : Option Refusal) → (if b then Some refusal.Failed else o) ≡ None → b ≡ false
if_none false o e = refl
if_none true o e = absurd cc

no_work_idle : (f : Option Reason) (q : List Submission) (l : Bool) → has_no_work_in (status_by f q l) ≡ true → is_over (status_by f q l) ≡ false → (f ≡ None) × (q ≡ [])
no_work_idle (Some e) q l h over = absurd cc
no_work_idle None [] l h over = (refl, refl)
no_work_idle None (x ∷ q) true h over = absurd cc
no_work_idle None (x ∷ q) false h over = absurd cc

-- an idle core has no message that could be lost
calm_by : (d : Sizes) (o : ℕ) (s : State) → s.failure ≡ None → s.queue ≡ [] → IsSound d o s → s.lost ≡ false
calm_by d o s alive none sound =
    let healthy : IsHealthy d o s = subst (IsWhole d o s) alive sound.whole in
    let rests : IsResting s = subst (AtWork d o s) none healthy.work in
    rests.lost

begun_at : (v : Scheme) (s : State) (x : Submission) (o : Option Refusal) → IsSound v.device v.cipher.overhead s → HasNoWork s → (o ≡ None → is_over (status_in s) ≡ false) →
    IsBegun s (submitted_by v s x o).note (submitted_by v s x o)
begun_at v s x (Some e) sound no_work going = refl
begun_at v s x None sound no_work going =
    let k = no_work_idle s.failure s.queue s.lost no_work (going refl) in
    rw (k.0, k.1, calm_by v.device v.cipher.overhead s k.0 k.1 sound) (record { waits = refl; sends = refl; none = refl }, refl)

pub begun_is : (v : Scheme) (s t : State) (session : ℕ) (c : Command) (words : List ℕ) (x : Shown) → IsSound v.device v.cipher.overhead s → HasNoWork s → Steps v s (Submit session c words) x t → IsBegun s x.note (did x t)
begun_is v s t session c words x sound no_work h =
    let sub : Submission = record { session = session; ticket = s.next; command = c; words = words } in
    let why = refusal_of v.device (is_over (status_in s)) (length s.queue) s.next c words in
    let e = h.plain (submitted_by v s sub why) refl in
    subst (λ (m : Done). IsBegun s m.note m) (sym e) (begun_at v s sub why sound no_work (λ none. if_none (is_over (status_in s)) _ none))
