-- One message, sent again and again.
use Rattle.std.proofs.Common.{◌≡◌, ℕ, ◌+◌, ◌≤◌, List, [], ◌∷◌, ◌++◌, length, true, Some, refl, inl, inr, sym, ap, ◌∙◌, subst, arith, append-nil, append_assoc, length-append}
use Rattle.std.specs.List.{FoldsTo, All}
use Rattle.std.proofs.lemmas.Fn.{FoldsTo-push}
use Rattle.std.proofs.lemmas.List.Concat.{flat_map-append}
use Rattle.std.proofs.lemmas.List.Elements.{All-push}
use Rattle.oram_semantics.specs.Progress.Status.{Waiting}
use Rattle.oram_semantics.specs.Run.{Shown}
use Rattle.oram_semantics.specs.Scheme.{Scheme}
use Rattle.oram_semantics.specs.State.{State, status_in}
use Rattle.oram_semantics.specs.declared.events.Event.{Event}
use Rattle.oram_semantics.specs.declared.events.Event.TheVariants.{Retry}
use Rattle.oram_semantics.specs.declared.events.Reply.{Reply}
use Rattle.oram_core.specs.PlainSteps.{Done}
use Rattle.oram_core.specs.Steps.{Steps}
use Rattle.oram_session.specs.Exchanges.{Delivery, Runs, event_of, is_stall, retried, IsSent, IsCutOff}
use Rattle.oram_session.specs.Outcome.{Outcome}
use Rattle.oram_session.proofs.CoreSteps.{stalled, retried_is, waits_outstanding}

pub Runs-append : (v : Scheme) (s t u : State) (es fs : List Event) (rs qs : List Reply) → Runs v s es rs t → Runs v t fs qs u → Runs v s (es ++ fs) (rs ++ qs) u
Runs-append v s t u [] fs rs qs a b = subst (λ (xs : List Reply). Runs v s fs (xs ++ qs) u) (sym a.0) (subst (λ (w : State). Runs v w fs qs u) (sym a.1) b)
Runs-append v s t u (e ∷ es) fs rs qs a b =
    (a.0, a.1, a.2 ++ qs, a.3, Runs-append v a.1 t u es fs a.2 qs a.4 b, ap (λ xs. xs ++ qs) a.5 ∙ append_assoc a.0.replies a.2 qs)

-- one event
pub Runs-one : (v : Scheme) (s t : State) (e : Event) (x : Shown) → Steps v s e x t → Runs v s (e ∷ []) x.replies t
Runs-one v s t e x h = (x, t, [], h, (refl, refl), sym (append-nil x.replies))

module _ (v : Scheme) {L : Type 0} (calls : L → List ℕ → Outcome → L → Type 0) where
  -- some calls stalled, and the core is as before
  pub record Tried (message : List ℕ) (s : State) (l : L) (n : ℕ) (t : State) (m : L) : Type 0 where
    pub stalls : List Outcome
    pub each : All (λ o. is_stall o ≡ true) stalls
    pub count : length stalls ≡ n
    pub link : FoldsTo (λ a o b. calls a message o b) l stalls m
    pub core : Runs v s (retried stalls) [] t
    pub same : t ≡ s

  pub tried_more : (message : List ℕ) (s : State) (l : L) (n : ℕ) (t u w : State) (m m' : L) (o : Outcome) (x y : Shown) →
      status_in s ≡ Waiting → Tried message s l n t m → calls m message o m' → is_stall o ≡ true → Steps v t (event_of o) x u → Steps v u Retry y w → Tried message s l (n + 1) w m'
  tried_more message s l n t u w m m' o x y waits k call stall first second =
      let waits' : status_in t ≡ Waiting = ap (λ (z : State). status_in z) k.same ∙ waits in
      let a = stalled v t u o x waits' stall first in
      let none = ap (λ (d : Done). d.replies) a in
      let b = retried_is v t u w y waits' (ap (λ (d : Done). d.state) a) second in
      let two : Runs v t (event_of o ∷ Retry ∷ []) [] w = (x, u, [], first, (y, w, [], second, (refl, refl), sym (append-nil y.replies ∙ b.0)), sym (append-nil x.replies ∙ none)) in
      let all : Runs v s (retried k.stalls ++ event_of o ∷ Retry ∷ []) [] w = Runs-append v s t w (retried k.stalls) (event_of o ∷ Retry ∷ []) [] [] k.core two in
      record {
        stalls = k.stalls ++ o ∷ [];
        each = All-push (λ o. is_stall o ≡ true) k.stalls o k.each stall;
        count = length-append k.stalls (o ∷ []) ∙ ap (λ i. i + 1) k.count;
        link = FoldsTo-push (λ a o b. calls a message o b) l k.stalls m o m' k.link call;
        core = subst (λ (es : List Event). Runs v s es [] w) (sym (flat_map-append (λ o. event_of o ∷ Retry ∷ []) k.stalls (o ∷ []))) all;
        same = b.1 ∙ k.same;
      }

  -- the last call
  pub sent : (most : ℕ) (message : List ℕ) (s : State) (l : L) (n : ℕ) (t u : State) (m m' : L) (o : Outcome) (x : Shown) →
      status_in s ≡ Waiting → message ≡ s.message → n ≤ most → (k : Tried message s l n t m) → calls m message o m' → Steps v t (event_of o) x u →
      IsSent v calls most (s, l) (record { message = message; stalls = k.stalls; last = o; replies = x.replies }) (u, m')
  sent most message s l n t u m m' o x waits same few k call step = record {
    message = waits_outstanding s waits ∙ ap Some (sym same);
    stalls = k.each;
    few = let c = k.count in omega arith;
    link = FoldsTo-push (λ a o b. calls a message o b) l k.stalls m o m' k.link call;
    core = Runs-append v s t u (retried k.stalls) (event_of o ∷ []) [] x.replies k.core (Runs-one v t u (event_of o) x step);
  }

  -- memory ran out before the core learned of the last call
  pub untaken : (most : ℕ) (message : List ℕ) (s : State) (l : L) (n : ℕ) (t : State) (m m' : L) (o : Outcome) →
      status_in s ≡ Waiting → message ≡ s.message → n ≤ most → (k : Tried message s l n t m) → calls m message o m' →
      IsCutOff v calls most (s, l) (record { message = message; stalls = k.stalls; last = o; replies = [] }) (t, m')
  untaken most message s l n t m m' o waits same few k call = record {
    message = waits_outstanding s waits ∙ ap Some (sym same);
    stalls = k.each;
    few = let c = k.count in omega arith;
    link = FoldsTo-push (λ a o b. calls a message o b) l k.stalls m o m' k.link call;
    core = inl k.core;
  }

  -- and after it did
  pub taken_then : (most : ℕ) (p : State × L) (x : Delivery) (q : State × L) → IsSent v calls most p x q → IsCutOff v calls most p x q
  taken_then most p x q h = record { message = h.message; stalls = h.stalls; few = h.few; link = h.link; core = inr h.core }
