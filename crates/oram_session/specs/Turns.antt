-- One request of a session, and its effects.
use Rattle.std.specs.Prelude.{◌≡◌, ℕ, ◌*◌, List, [], ◌∷◌, ◌⊎◌}
use Rattle.std.specs.List.{flat_map}
use Rattle.oram_geometry.specs.Sizes.{trees_of}
use Rattle.oram_wire.specs.declared.session_messages.SessionRequest.{SessionRequest}
use Rattle.oram_wire.specs.declared.session_messages.SessionReply.{SessionReply}
use Rattle.oram_wire.specs.declared.session_messages.SessionReply.TheVariants.{Refused}
use Rattle.oram_semantics.specs.Events.{refusal_number}
use Rattle.oram_semantics.specs.Run.{Shown}
use Rattle.oram_semantics.specs.Scheme.{Scheme}
use Rattle.oram_semantics.specs.State.{State}
use Rattle.oram_semantics.specs.declared.events.Event.TheVariants.{Submit}
use Rattle.oram_semantics.specs.declared.events.Note.{Note}
use Rattle.oram_semantics.specs.declared.events.Note.TheVariants as note
use Rattle.oram_semantics.specs.declared.events.Reply.{Reply}
use Rattle.oram_core.specs.Steps.{Steps}
use Rattle.oram_session.specs.Exchanges.{Delivery, IsSent, IsCutOff, IsGivenUp, AllSent}
use Rattle.oram_session.specs.Outcome.{Outcome}
use Rattle.oram_session.specs.Requests.{IsRequest, IsNoRequest, command_of, session_reply}
use Rattle.oram_session.specs.CoreWork.{HasNoWork}

-- A turn: a request's body, the messages that it needed, and the reply.
pub record Turn : Type 0 where
  pub body : List ℕ
  pub sendings : List Delivery
  pub reply : SessionReply

-- how often a message may be sent again
abbrev pub most_retries : ℕ
most_retries = 3

-- over a link with this relation of calls, with the words of a tape, for a session with this number
module _ (v : Scheme) {L : Type 0} (calls : L → List ℕ → Outcome → L → Type 0) (words : ℕ → ℕ → List ℕ) (session : ℕ) where
  -- The body is no request and is refused; the core doesn't get it.
  pub record IsUnread (p : State × L) (turn : Turn) (q : State × L) : Type 0 where
    pub none : IsNoRequest turn.body
    pub sendings : turn.sendings ≡ []
    pub reply : turn.reply ≡ Refused 7
    pub same : p ≡ q

  -- the core gets the command of the request, with the tape's words of the next ticket, and shows x
  pub record BeginsTurn (body : List ℕ) (s : State) (x : Shown) (t : State) : Type 0 where
    pub message : SessionRequest
    pub request : IsRequest body message
    pub step : Steps v s (Submit session (command_of message) (words s.next (2 * trees_of v.device))) x t

  -- how the turn goes on after this note of the core
  abbrev pub IsReply : Note → State × L → Turn → State × L → Type 0
  IsReply (note.Accepted ticket) p turn q =
      AllSent v calls most_retries p turn.sendings q × HasNoWork q.0
      × (x : Reply) × (flat_map (λ y. y.replies) turn.sendings ≡ x ∷ []) × (turn.reply ≡ session_reply x.body)
  IsReply (note.Refused why) p turn q = (turn.sendings ≡ []) × (turn.reply ≡ Refused (refusal_number why)) × (p ≡ q)
  IsReply note.Taken p turn q = ⊥
  IsReply note.Stalled p turn q = ⊥
  IsReply (note.FailedNow why) p turn q = ⊥
  IsReply note.Resent p turn q = ⊥
  IsReply note.Unexpected p turn q = ⊥

  pub record IsServed (p : State × L) (turn : Turn) (q : State × L) : Type 0 where
    pub shown : Shown
    pub begun : State
    pub begins : BeginsTurn turn.body p.0 shown begun
    pub replied : IsReply shown.note (begun, p.1) turn q

  abbrev pub IsTurn : State × L → Turn → State × L → Type 0
  IsTurn p turn q = IsUnread p turn q ⊎ IsServed p turn q

  -- A request was accepted, and some messages have had their answers since.
  pub record IsAtWork (p : State × L) (body : List ℕ) (q : State × L) : Type 0 where
    pub shown : Shown
    pub begun : State
    pub ticket : ℕ
    pub begins : BeginsTurn body p.0 shown begun
    pub accepted : shown.note ≡ note.Accepted ticket
    pub sendings : List Delivery
    pub sent : AllSent v calls most_retries (begun, p.1) sendings q

  -- The request got no reply, because one message stalled four times.
  pub record IsStuck (p : State × L) (body : List ℕ) (q : State × L) : Type 0 where
    pub mid : State × L
    pub work : IsAtWork p body mid
    pub last : Delivery
    pub tried : IsSent v calls most_retries mid last q
    pub stuck : IsGivenUp most_retries last

  -- The request got no reply, because memory ran out.
  pub record IsCutTurn (p : State × L) (body : List ℕ) (q : State × L) : Type 0 where
    pub mid : State × L
    pub work : IsAtWork p body mid
    pub last : Delivery
    pub cut : IsCutOff v calls most_retries mid last q
