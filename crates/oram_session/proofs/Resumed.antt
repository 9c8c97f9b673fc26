-- A core that was read back, and the messages that it still exchanges.
use Rattle.std.proofs.Common.{◌≡◌, ℕ, suc, ◌+◌, ◌<◌, ◌⊎◌, Bool, true, false, List, [], ◌∷◌, ◌++◌, length, Option, Some, None, refl, sym, ap, ◌∙◌, subst, arith, inl, inr, append-nil, length-append}
use Rattle.std.specs.List.{flat_map, All}
use Rattle.std.proofs.lemmas.Fn.{FoldsTo-push}
use Rattle.std.proofs.lemmas.List.{length-map}
use Rattle.std.proofs.lemmas.List.Concat.{flat_map-append}
use Rattle.std.proofs.lemmas.List.Elements.{All-cons, All-map, All-nil}
use Rattle.oram_geometry.specs.declared.Sizes.{Sizes}
use Rattle.oram_semantics.specs.Blocks.{body_from}
use Rattle.oram_semantics.specs.Events.{failed_reply}
use Rattle.oram_semantics.specs.Progress.{Status}
use Rattle.oram_semantics.specs.Progress.Status.{Idle, Waiting, Stalling, Over}
use Rattle.oram_semantics.specs.Run.{Shown}
use Rattle.oram_semantics.specs.Scheme.{Scheme}
use Rattle.oram_semantics.specs.State.{State, status_by, status_in}
use Rattle.oram_semantics.specs.declared.events.Command.{Command}
use Rattle.oram_semantics.specs.declared.events.Command.TheVariants.{Read, Write, Discard}
use Rattle.oram_semantics.specs.declared.events.Event.TheVariants.{Reopen, Retry}
use Rattle.oram_semantics.specs.declared.events.Note.TheVariants.{Unexpected}
use Rattle.oram_semantics.specs.declared.events.Reason.{Reason}
use Rattle.oram_semantics.specs.declared.events.Reply.{Reply}
use Rattle.oram_semantics.specs.declared.events.Submission.{Submission}
use Rattle.oram_core.specs.PlainSteps.{Done, plain_step, noted, lost_by, stalled_by, resent_by, finished_by, is_free_note}
use Rattle.oram_core.specs.Steps.{Steps, Heard, did}
use Rattle.oram_session.specs.Exchanges.{Delivery, Runs, IsSent, IsAnswered, AllSent, AllSentFrom, retries_after}
use Rattle.oram_session.specs.Outcome.{Outcome}
use Rattle.oram_session.specs.CoreWork.{has_no_work_in, HasNoWork, IsUnderWay, IsBodyOf}
use Rattle.oram_session.proofs.CoreSteps.{still_waits, no_work_over}

-- the core learns that it was reopened, and sends its message again

-- a core at work is stalled if its message is lost, and waits otherwise
at_work : (f : Option Reason) (q : List Submission) (l : Bool) → ¬ (has_no_work_in (status_by f q l) ≡ true) → (status_by f q true ≡ Stalling) × (status_by f q false ≡ Waiting)
at_work (Some e) q l h = absurd (h refl)
at_work None [] l h = absurd (h refl)
at_work None (x ∷ q) l h = (refl, refl)

reopened_at : (s t : State) (x : Shown) (b : Bool) → s.lost ≡ b → (status_by s.failure s.queue true ≡ Stalling) × (status_by s.failure s.queue false ≡ Waiting) → did x t ≡ lost_by s (status_in s) →
    (x.replies ≡ []) × (t ≡ record s { lost = true })
reopened_at s t x true l k e =
    let f : did x t ≡ noted s Unexpected = e ∙ ap (λ (w : Status). lost_by s w) (ap (λ (b : Bool). status_by s.failure s.queue b) l ∙ k.0) in
    (ap (λ (d : Done). d.replies) f, ap (λ (d : Done). d.state) f ∙ ap (λ (b : Bool). let r : State = record s { lost = b } in r) l)
reopened_at s t x false l k e =
    let f : did x t ≡ stalled_by s = e ∙ ap (λ (w : Status). lost_by s w) (ap (λ (b : Bool). status_by s.failure s.queue b) l ∙ k.1) in
    (ap (λ (d : Done). d.replies) f, ap (λ (d : Done). d.state) f)

-- a reopening stalls it
pub reopened : (v : Scheme) (s t : State) (x : Shown) → ¬ HasNoWork s → Steps v s Reopen x t → (x.replies ≡ []) × (t ≡ record s { lost = true })
reopened v s t x h step = reopened_at s t x s.lost refl (at_work s.failure s.queue s.lost h) (step.plain (lost_by s (status_in s)) refl)

-- and needs no memory
pub loss_is_free : (s : State) → is_free_note (lost_by s (status_in s)).note ≡ true
loss_is_free s = at (status_in s)
  where
    at : (w : Status) → is_free_note (lost_by s w).note ≡ true
    at Idle = refl
    at Waiting = refl
    at Stalling = refl
    at Over = refl

-- a retry then sends its message again
pub resent : (v : Scheme) (s u t : State) (y : Shown) → ¬ HasNoWork s → u ≡ record s { lost = true } → Steps v u Retry y t → did y t ≡ resent_by (record s { lost = true })
resent v s u t y h held step =
    let k = at_work s.failure s.queue s.lost h in
    let g : Steps v (record s { lost = true }) Retry y t = subst (λ (b : State). Steps v b Retry y t) held step in
    let again : plain_step v (record s { lost = true }) Retry ≡ Some (resent_by (record s { lost = true })) = rw k.0 refl in
    g.plain (resent_by (record s { lost = true })) again

-- so it is under way
pub resent_under_way : (s t : State) (y : Shown) → ¬ HasNoWork s → did y t ≡ resent_by (record s { lost = true }) → IsUnderWay (did y t)
resent_under_way s t y h e =
    let k = at_work s.failure s.queue s.lost h in
    let there : IsUnderWay (resent_by (record s { lost = true })) = record { waits = k.1; sends = refl; none = refl } in
    subst IsUnderWay (sym e) there

-- the two, one after the other
pub reopened_and_retried : (v : Scheme) (s u t : State) (x y : Shown) → Steps v s Reopen x u → Steps v u Retry y t → x.replies ≡ [] → y.replies ≡ [] → Runs v s (Reopen ∷ Retry ∷ []) [] t
reopened_and_retried v s u t x y first second none none' =
    (x, u, [], first, (y, t, [], second, (refl, refl), sym (append-nil y.replies ∙ none')), sym (append-nil x.replies ∙ none))

-- only the reopening
pub only_reopened : (v : Scheme) (s u : State) (x : Shown) → Steps v s Reopen x u → x.replies ≡ [] → Runs v s (Reopen ∷ []) [] u
only_reopened v s u x step none = (x, u, [], step, (refl, refl), sym (append-nil x.replies ∙ none))

-- the effect of an answer

-- the core has sent a message and waits for the answer; or no command is left, and the last one has its reply
abbrev pub IsGoing : Done → Type 0
IsGoing m =
    ((status_in m.state ≡ Waiting) × (m.sends ≡ m.state.message ∷ []))
    ⊎ (HasNoWork m.state × (m.state.queue ≡ []) × (m.sends ≡ []) × (0 < length m.replies))

finished_going : (v : Scheme) (s : State) (x : Submission) (rest : List Submission) → status_in s ≡ Waiting → IsGoing (finished_by v s x rest)
finished_going v s x [] w =
    let k = still_waits s.failure s.queue s.lost w in
    let rests : HasNoWork (finished_by v s x []).state = rw k.0 refl in
    inr (rests, refl, refl, omega arith)
finished_going v s x (y ∷ rest) w =
    let k = still_waits s.failure s.queue s.lost w in
    let waits : status_in (finished_by v s x (y ∷ rest)).state ≡ Waiting = rw (k.0, k.1) refl in
    inl (waits, refl)

-- if the core waits for an answer, a command is at work
pub some_at_work : (f : Option Reason) (q : List Submission) (l : Bool) → status_by f q l ≡ Waiting → 0 < length q
some_at_work (Some e) q l h = absurd cc
some_at_work None [] l h = absurd cc
some_at_work None (x ∷ q) l h = omega arith

pub heard_going : (v : Scheme) (s : State) (d : Done) → status_in s ≡ Waiting → Heard v s d → IsGoing d
heard_going v s d w (inl f) =
    let some = some_at_work s.failure s.queue s.lost w in
    let all : length d.replies ≡ length s.queue = ap length f.replies ∙ length-map s.queue failed_reply in
    inr (no_work_over d.state f.reason (ap (λ (t : State). t.failure) f.state), ap (λ (t : State). t.queue) f.state, f.sends, omega arith)
heard_going v s d w (inr (inl g)) = inl (g.waits, g.sends)
heard_going v s d w (inr (inr r)) = subst IsGoing (sym r.does) (finished_going v s r.oldest r.rest w)

-- data in a reply is as long as a block
abbrev pub HasBody : Sizes → Reply → Type 0
HasBody d r = IsBodyOf d r.body

body_is : (d : Sizes) (before : List ℕ) (c : Command) → length before ≡ d.block_bytes → IsBodyOf d (body_from before c)
body_is d before (Read a) h = h
body_is d before (Write a bytes) h = tt
body_is d before (Discard a) h = tt

finished_bodies : (v : Scheme) (s : State) (x : Submission) (rest : List Submission) → length s.held_data ≡ v.device.block_bytes → All (HasBody v.device) (finished_by v s x rest).replies
finished_bodies v s x rest long =
    let reply : Reply = record { session = x.session; ticket = x.ticket; body = body_from s.held_data x.command } in
    All-cons (HasBody v.device) reply [] (body_is v.device s.held_data x.command long) (All-nil (HasBody v.device))

pub heard_bodies : (v : Scheme) (s : State) (d : Done) → Heard v s d → All (HasBody v.device) d.replies
heard_bodies v s d (inl f) = subst (All (HasBody v.device)) (sym f.replies) (All-map (HasBody v.device) failed_reply s.queue (λ k x lt. tt))
heard_bodies v s d (inr (inl g)) = subst (All (HasBody v.device)) (sym g.replies) (All-nil (HasBody v.device))
heard_bodies v s d (inr (inr r)) = subst (λ (m : Done). All (HasBody v.device) m.replies) (sym r.does) (finished_bodies v s r.oldest r.rest r.long)

-- each command that gets a reply leaves the queue
pub heard_count : (v : Scheme) (s : State) (d : Done) → Heard v s d → length d.replies + length d.state.queue ≡ length s.queue
heard_count v s d (inl f) =
    let all : length d.replies ≡ length s.queue = ap length f.replies ∙ length-map s.queue failed_reply in
    let left : length d.state.queue ≡ 0 = ap (λ (t : State). length t.queue) f.state in
    omega arith
heard_count v s d (inr (inl g)) =
    let none : length d.replies ≡ 0 = ap length g.replies in
    let left : length d.state.queue ≡ length s.queue = ap length g.queue in
    omega arith
heard_count v s d (inr (inr r)) =
    let one : length d.replies ≡ 1 = ap (λ (m : Done). length m.replies) r.does in
    let left : length d.state.queue ≡ length r.rest = ap (λ (m : Done). length m.state.queue) r.does in
    let there : length s.queue ≡ suc (length r.rest) = ap length r.queue in
    omega arith

abbrev pub replies_of : List Delivery → List Reply
replies_of xs = flat_map (λ y. y.replies) xs

pub replied_more : (v : Scheme) (xs : List Delivery) (x : Delivery) (s : State) (d : Done) (n : ℕ) → length (replies_of xs) + length s.queue ≡ n → Heard v s d → x.replies ≡ d.replies →
    length (replies_of (xs ++ x ∷ [])) + length d.state.queue ≡ n
replied_more v xs x s d n before heard same =
    let joined : replies_of (xs ++ x ∷ []) ≡ replies_of xs ++ x.replies = flat_map-append (λ (y : Delivery). y.replies) xs (x ∷ []) ∙ ap (λ (l : List Reply). replies_of xs ++ l) (append-nil x.replies) in
    let count : length (replies_of (xs ++ x ∷ [])) ≡ length (replies_of xs) + length x.replies = ap length joined ∙ length-append (replies_of xs) x.replies in
    let new : length x.replies ≡ length d.replies = ap length same in
    let left = heard_count v s d heard in
    omega arith

pub replied_last : (xs : List Delivery) (x : Delivery) (replies : List Reply) → x.replies ≡ replies → replies_of (xs ++ x ∷ []) ≡ replies_of xs ++ replies
replied_last xs x replies same =
    flat_map-append (λ (y : Delivery). y.replies) xs (x ∷ []) ∙ ap (λ (l : List Reply). replies_of xs ++ l) (append-nil x.replies ∙ same)

-- the reply that is the last one, and all replies
pub only_one : (all early rest : List Reply) (r : Reply) → length all ≡ 1 → all ≡ early ++ (rest ++ r ∷ []) → all ≡ r ∷ []
only_one all [] [] r one e = e
only_one all [] (x ∷ rest) r one e =
    let l : length all ≡ suc (length (rest ++ r ∷ [])) = ap length e in
    let m = length-append rest (r ∷ []) in
    absurd (omega arith)
only_one all (x ∷ early) rest r one e =
    let l : length all ≡ suc (length (early ++ (rest ++ r ∷ []))) = ap length e in
    let m = length-append early (rest ++ r ∷ []) in
    let n = length-append rest (r ∷ []) in
    absurd (omega arith)

-- one more message

pub retries_later : (first most : ℕ) (xs : List Delivery) (x : Delivery) → most ≡ retries_after first most (xs ++ x ∷ [])
retries_later first most [] x = refl
retries_later first most (y ∷ ys) x = refl

module _ (v : Scheme) {L : Type 0} (calls : L → List ℕ → Outcome → L → Type 0) (first most : ℕ) where
  pub sent_more : (p : State × L) (xs : List Delivery) (q : State × L) (x : Delivery) (z : State × L) → AllSentFrom v calls first most p xs q → IsSent v calls (retries_after first most xs) q x z → IsAnswered x →
      AllSentFrom v calls first most p (xs ++ x ∷ []) z
  sent_more p [] q x z k sent answered = (z, subst (λ (a : State × L). IsSent v calls first a x z) (sym k) sent, answered, refl)
  sent_more p (y ∷ ys) q x z k sent answered = (k.0, k.1, k.2, FoldsTo-push _ k.0 ys q x z k.3 (sent, answered))

-- if the first message may be sent again as often as any other

pub retries_same : (most : ℕ) (xs : List Delivery) → retries_after most most xs ≡ most
retries_same most [] = refl
retries_same most (x ∷ xs) = refl

pub all_alike : (v : Scheme) {L : Type 0} (calls : L → List ℕ → Outcome → L → Type 0) (most : ℕ) (p : State × L) (xs : List Delivery) (q : State × L) →
    AllSentFrom v calls most most p xs q → AllSent v calls most p xs q
all_alike v calls most p [] q h = h
all_alike v calls most p (x ∷ xs) q h = (h.0, (h.1, h.2), h.3)
