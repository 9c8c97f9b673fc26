-- A session up to some request.
use Rattle.std.proofs.Common.{◌≡◌, ℕ, ◌+◌, List, [], Option, Err, refl, sym, ap, ◌∙◌, subst, inl}
use Rattle.std.specs.Io.KnownBytes.{Appends, Consumes}
use Rattle.oram_wire.specs.FrameIo.{GivesBrokenHead, GivesCutFrame, GivesHead, GivesPart}
use Rattle.oram_wire.specs.FrameStream.{IsBody, frame}
use Rattle.oram_wire.specs.declared.frame_io.FrameFault.{FrameFault}
use Rattle.oram_wire.specs.declared.frame_io.FrameFault.TheVariants as frames
use Rattle.oram_semantics.specs.Scheme.{Scheme}
use Rattle.oram_semantics.specs.State.{State}
use Rattle.oram_host.specs.Answered.{Answering}
use Rattle.oram_host.specs.ServeFaults.{frame_fault}
use Rattle.oram_session.specs.Outcome.{Outcome}
use Rattle.oram_session.specs.Sessions.{EndsSession, HasServedSession, reply_body, reply_frame}
use Rattle.oram_session.specs.Turns.{Turn, IsTurn}
use Rattle.oram_host.proofs.Answered.{Answered, answered_more, answered_then}

abbrev pub serving : {L : Type 0} → State → L → Option (List ℕ) → Option (List ℕ) → Answering (State × L)
serving core link unread written = record { state = (core, link); unread = unread; written = written }

module _ (v : Scheme) {L : Type 0} (calls : L → List ℕ → Outcome → L → Type 0) (words : ℕ → ℕ → List ℕ) (session : ℕ) where
  -- some turns, and nothing more
  abbrev pub Served : Answering (State × L) → ℕ → Answering (State × L) → Type 0
  Served = Answered {P = State × L} (IsTurn v calls words session) (λ x. x.body) reply_body

  pub served_more : (p : Answering (State × L)) (n : ℕ) (q : Answering (State × L)) (x : Turn) (z : Answering (State × L)) → Served p n q
      → IsTurn v calls words session q.state x z.state → IsBody x.body → Consumes q.unread z.unread (frame x.body) → Appends q.written z.written (reply_frame x)
      → Served p (n + 1) z
  served_more = answered_more {P = State × L} (IsTurn v calls words session) (λ x. x.body) reply_body

  -- and then further bytes were read and written, and core and link stayed as they were
  pub served_then : (p : Answering (State × L)) (n : ℕ) (q z : Answering (State × L)) (part more : List ℕ) (k : Served p n q) → z.state ≡ q.state
      → Consumes q.unread z.unread part → Appends q.written z.written more
      → HasServedSession v calls words session (record { before = p; things = k.all; part = part; more = more; after = z })
  served_then = answered_then {P = State × L} (IsTurn v calls words session) (λ x. x.body) reply_body

  -- then no request could be read
  pub ends_cut : (p : Answering (State × L)) (n : ℕ) (q z : Answering (State × L)) (k : Served p n q) → z.state ≡ q.state → Appends q.written z.written []
      → (f : FrameFault) → (f ≡ frames.Read → GivesPart q.unread z.unread) → (f ≡ frames.Frame → GivesBrokenHead q.unread z.unread)
      → (f ≡ frames.Truncated → GivesCutFrame q.unread z.unread) → (f ≡ frames.OutOfMemory → GivesHead q.unread z.unread)
      → EndsSession v calls words session p z (Err (frame_fault f))
  ends_cut p n q z k same quiet frames.Read part broken cut head =
      let w = part refl in (k.all, w.0, w.1, served_then p n q z w.0 [] k same w.2 quiet)
  ends_cut p n q z k same quiet frames.Frame part broken cut head =
      let w = broken refl in (k.all, w.0, w.1, w.2, served_then p n q z w.0 [] k same w.3 quiet)
  ends_cut p n q z k same quiet frames.Truncated part broken cut head =
      let w = cut refl in (k.all, w.0, w.1, w.2, served_then p n q z w.0 [] k same w.3 quiet, w.4)
  ends_cut p n q z k same quiet frames.OutOfMemory part broken cut head =
      let w = head refl in (k.all, z.state, w.0, inl (refl, w.1, w.2), served_then p n q z w.0 [] k same w.3 quiet)

-- under another scheme and another tape that are equal to these
pub under : (P : Scheme → (ℕ → ℕ → List ℕ) → Type 0) (v v' : Scheme) (w w' : ℕ → ℕ → List ℕ) → v' ≡ v → w' ≡ w → P v' w' → P v w
under P v v' w w' e f h = subst (λ (u : Scheme). P u w) e (subst (λ (f : ℕ → ℕ → List ℕ). P v' f) f h)

pub same_pair : {A B : Type 0} {a a' : A} {b b' : B} → a' ≡ a → b' ≡ b → ◌≡◌ {A = A × B} (a, b) (a', b')
same_pair {A} {B} {a} {a'} {b} {b'} e f = ap (λ (x : A). let y : A × B = (x, b) in y) (sym e) ∙ ap (λ (x : B). let y : A × B = (a', x) in y) (sym f)
