-- A bucket server's exchanges up to some request.
use Rattle.std.proofs.Common.{◌≡◌, ℕ, ◌+◌, List, [], Err, refl, inl}
use Rattle.std.specs.Io.KnownBytes.{Appends, Consumes}
use Rattle.oram_wire.specs.FrameIo.{GivesBrokenHead, GivesCutFrame, GivesHead, GivesPart}
use Rattle.oram_wire.specs.FrameStream.{IsBody, frame}
use Rattle.oram_wire.specs.HostMessages.{answer_body}
use Rattle.oram_wire.specs.declared.frame_io.FrameFault.{FrameFault}
use Rattle.oram_wire.specs.declared.frame_io.FrameFault.TheVariants as frames
use Rattle.oram_wire.specs.declared.host_messages.HostAnswer.{HostAnswer}
use Rattle.oram_host.specs.Answered.{Answering}
use Rattle.oram_host.specs.Connections.{EndsConnection, Exchange, HasHosted, IsExchange, answer_frame}
use Rattle.oram_host.specs.ServeFaults.{frame_fault}
use Rattle.oram_host.proofs.Answered.{Answered, answered_more, answered_then}

module _ {H : Type 0} (serves : H → List ℕ → HostAnswer → H → Type 0) where
  -- n exchanges, and nothing more
  abbrev pub Served : Answering H → ℕ → Answering H → Type 0
  Served = Answered (IsExchange serves) (λ x. x.body) (λ x. answer_body x.answer)

  pub hosted_more : (p : Answering H) (n : ℕ) (q : Answering H) (x : Exchange) (z : Answering H) → Served p n q → IsExchange serves q.state x z.state → IsBody x.body
      → Consumes q.unread z.unread (frame x.body) → Appends q.written z.written (answer_frame x) → Served p (n + 1) z
  hosted_more = answered_more (IsExchange serves) (λ x. x.body) (λ x. answer_body x.answer)

  -- and then some more bytes were read and written, and the server stayed as it was
  pub hosted_then : (p : Answering H) (n : ℕ) (q z : Answering H) (part more : List ℕ) (k : Served p n q) → z.state ≡ q.state
      → Consumes q.unread z.unread part → Appends q.written z.written more
      → HasHosted serves (record { before = p; things = k.all; part = part; more = more; after = z })
  hosted_then = answered_then (IsExchange serves) (λ x. x.body) (λ x. answer_body x.answer)

  -- then no request could be read
  pub ends_cut : (p : Answering H) (n : ℕ) (q z : Answering H) (k : Served p n q) → z.state ≡ q.state → Appends q.written z.written [] → (f : FrameFault)
      → (f ≡ frames.Read → GivesPart q.unread z.unread) → (f ≡ frames.Frame → GivesBrokenHead q.unread z.unread)
      → (f ≡ frames.Truncated → GivesCutFrame q.unread z.unread) → (f ≡ frames.OutOfMemory → GivesHead q.unread z.unread)
      → EndsConnection serves p z (Err (frame_fault f))
  ends_cut p n q z k same quiet frames.Read part broken cut head =
      let w = part refl in (k.all, w.0, w.1, hosted_then p n q z w.0 [] k same w.2 quiet)
  ends_cut p n q z k same quiet frames.Frame part broken cut head =
      let w = broken refl in (k.all, w.0, w.1, w.2, hosted_then p n q z w.0 [] k same w.3 quiet)
  ends_cut p n q z k same quiet frames.Truncated part broken cut head =
      let w = cut refl in (k.all, w.0, w.1, w.2, hosted_then p n q z w.0 [] k same w.3 quiet, w.4)
  ends_cut p n q z k same quiet frames.OutOfMemory part broken cut head =
      let w = head refl in (k.all, w.0, inl (w.1, w.2), hosted_then p n q z w.0 [] k same w.3 quiet)
