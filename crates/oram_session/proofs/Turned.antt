-- One request, and results that a `?` passes on.
use Rattle.std.proofs.Common.{◌≡◌, ℕ, ◌*◌, ◌∷◌, List, [], Result, Ok, Err, IfOk, refl, sym, subst, inl, inr}
use Rattle.std.specs.List.{flat_map}
use Rattle.oram_geometry.specs.Sizes.{trees_of}
use Rattle.oram_wire.specs.declared.session_messages.SessionRequest.{SessionRequest}
use Rattle.oram_wire.specs.declared.session_messages.SessionReply.TheVariants.{Refused}
use Rattle.oram_semantics.specs.Events.{refusal_number}
use Rattle.oram_semantics.specs.Run.{Shown}
use Rattle.oram_semantics.specs.Scheme.{Scheme}
use Rattle.oram_semantics.specs.State.{State}
use Rattle.oram_semantics.specs.declared.events.Command.{Command}
use Rattle.oram_semantics.specs.declared.events.Event.TheVariants.{Submit}
use Rattle.oram_semantics.specs.declared.events.Note.{Note}
use Rattle.oram_semantics.specs.declared.events.Note.TheVariants as note
use Rattle.oram_semantics.specs.declared.events.Refusal.{Refusal}
use Rattle.oram_semantics.specs.declared.events.Reply.{Reply}
use Rattle.oram_core.specs.Steps.{Steps}
use Rattle.oram_session.specs.Exchanges.{Delivery, AllSent}
use Rattle.oram_session.specs.Outcome.{Outcome}
use Rattle.oram_session.specs.Requests.{IsRequest, IsNoRequest, command_of, session_reply}
use Rattle.oram_session.specs.CoreWork.{HasNoWork}
use Rattle.oram_session.specs.Turns.{Turn, most_retries, BeginsTurn, IsReply, IsTurn, IsAtWork}

pub IfOk-weaker : {T E : Type 0} (r : Result T E) (P Q : T → Type 0) → ((x : T) → P x → Q x) → IfOk r P → IfOk r Q
IfOk-weaker (Ok x) P Q f h = f x h
IfOk-weaker (Err e) P Q f h = tt

-- the error that a `?` passed on
pub err_is : {T E : Type 0} (r : Result T E) (y f s : E) → r ≡ Err y → y ≡ f → r ≡ Err s → f ≡ s
err_is r y f s a b d = cc

module _ (v : Scheme) {L : Type 0} (calls : L → List ℕ → Outcome → L → Type 0) (words : ℕ → ℕ → List ℕ) (session : ℕ) where
  pub bad_turn : (body : List ℕ) (p : State × L) → IsNoRequest body → IsTurn v calls words session p (record { body = body; sendings = []; reply = Refused 7 }) p
  bad_turn body p none = inl (record { none = none; sendings = refl; reply = refl; same = refl })

  pub begins_turn : (body : List ℕ) (message : SessionRequest) (c : Command) (s t : State) (x : Shown) → IsRequest body message → c ≡ command_of message →
      Steps v s (Submit session c (words s.next (2 * trees_of v.device))) x t → BeginsTurn v calls words session body s x t
  begins_turn body message c s t x request e step = record {
    message = message;
    request = request;
    step = subst (λ (k : Command). Steps v s (Submit session k (words s.next (2 * trees_of v.device))) x t) e step;
  }

  pub refused_turn : (body : List ℕ) (s t : State) (l : L) (x : Shown) (why : Refusal) → BeginsTurn v calls words session body s x t → x.note ≡ note.Refused why →
      IsTurn v calls words session (s, l) (record { body = body; sendings = []; reply = Refused (refusal_number why) }) (t, l)
  refused_turn body s t l x why begins is =
      let turn : Turn = record { body = body; sendings = []; reply = Refused (refusal_number why) } in
      inr (record { shown = x; begun = t; begins = begins; replied = subst (λ (n : Note). IsReply v calls words session n (t, l) turn (t, l)) (sym is) (refl, refl, refl) })

  pub accepted_turn : (body : List ℕ) (s t : State) (l : L) (q : State × L) (x : Shown) (ticket : ℕ) (xs : List Delivery) (r : Reply) → BeginsTurn v calls words session body s x t →
      x.note ≡ note.Accepted ticket → AllSent v calls most_retries (t, l) xs q → HasNoWork q.0 → flat_map (λ y. y.replies) xs ≡ r ∷ [] →
      IsTurn v calls words session (s, l) (record { body = body; sendings = xs; reply = session_reply r.body }) q
  accepted_turn body s t l q x ticket xs r begins is sent no_work one =
      let turn : Turn = record { body = body; sendings = xs; reply = session_reply r.body } in
      inr (record { shown = x; begun = t; begins = begins; replied = subst (λ (n : Note). IsReply v calls words session n (t, l) turn q) (sym is) (sent, no_work, r, one, refl) })

  pub at_work : (body : List ℕ) (s t : State) (l : L) (q : State × L) (x : Shown) (ticket : ℕ) (xs : List Delivery) → BeginsTurn v calls words session body s x t →
      x.note ≡ note.Accepted ticket → AllSent v calls most_retries (t, l) xs q → IsAtWork v calls words session (s, l) body q
  at_work body s t l q x ticket xs begins is sent = record { shown = x; begun = t; ticket = ticket; begins = begins; accepted = is; sendings = xs; sent = sent }
