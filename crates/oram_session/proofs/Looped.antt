-- A call over a loopback, part by part.
use Rattle.std.proofs.Common.{◌≡◌, ◌≤◌, ◌+◌, ◌-◌, ◌^◌, min, ℕ, true, List, length, Option, Result, Ok, Err, IfOk, OnOk, IfSome, inl, inr, sym, ap, subst, ◌∙◌}
use Rattle.std.specs.Global.{Vec}
use Rattle.std.specs.Result.{is_err}
use Rattle.std.specs.Io.KnownBytes.{Appends}
use Rattle.oram_wire.specs.FrameStream.{frame}
use Rattle.oram_wire.specs.HostMessages.{answer_body}
use Rattle.oram_wire.specs.FrameIo.{GivesFrame}
use Rattle.oram_wire.specs.declared.host_messages.HostAnswer.{HostAnswer}
use Rattle.oram_host.specs.Host.{Host}
use Rattle.oram_session.specs.Loopback.{ToItself, IsHandled, IsReturned, Crosses, Carries, longest_frame}
use Rattle.oram_session.specs.Outcome.{Outcome, outcome_of, faults_after}
use Rattle.oram_session.specs.declared.link.LinkFault.{LinkFault}

-- one more fault
pub counted : (result : Result (Vec ℕ) LinkFault) (before held after : ℕ) → is_err result ≡ true → after ≡ min (held + 1) (2 ^ 64 - 1) → held ≡ before → after ≡ faults_after before (outcome_of result)
counted (Ok v) before held after failed more same = absurd cc
counted (Err fault) before held after failed more same = more ∙ ap (λ n. min (n + 1) (2 ^ 64 - 1)) same

module _ {S : Type 0} (remaining contents : S → Option (List ℕ)) where
  -- the host's answer, which was sent back as these bytes
  pub returned : (result : Result (Vec ℕ) LinkFault) (host host' : Host) (begun mid last : S × S) (body sent : List ℕ) (answer : HostAnswer) →
      IsHandled remaining contents host begun body answer host' mid → sent ≡ answer_body answer → OnOk result (length (frame sent) ≤ longest_frame) →
      OnOk result (Appends (contents mid.1) (contents last.1) (frame sent)) → IfOk result (λ v. GivesFrame (remaining mid.0) (remaining last.0) v.items) →
      IfOk result (λ v. (answer : HostAnswer) × (mid : S × S) × IsHandled remaining contents host begun body answer host' mid × IsReturned remaining contents mid answer v.items last)
  returned (Ok v) host host' begun mid last body sent answer received same fits wrote read =
      let Fits = λ (bytes : List ℕ). length (frame bytes) ≤ longest_frame in
      let Wrote = λ (bytes : List ℕ). Appends (contents mid.1) (contents last.1) (frame bytes) in
      (answer, mid, received, record { fits = subst Fits same fits; wrote = subst Wrote same wrote; read = read })
  returned (Err fault) host host' begun mid last body sent answer received same fits wrote read = tt

  -- the message went over these ends, and the link's host answered it
  pub passed : (l m : ToItself S) (body : List ℕ) (outcome : Outcome) (host : Host) (ends : S × S) → length (frame body) ≤ longest_frame →
      IfSome l.ends (λ those. ends ≡ those) → host ≡ l.host → Crosses remaining contents host ends body outcome m.host m.ends → Carries remaining contents l body outcome m
  passed l m body outcome host ends fits held same crosses =
      let P = λ (h : Host). Crosses remaining contents h ends body outcome m.host m.ends in
      inr (inr (record { fits = fits; ends = ends; held = held; crosses = subst P same crosses }))

  -- the same host and ends, whatever the count
  pub recounted : (l m n : ToItself S) (body : List ℕ) (outcome : Outcome) → n.host ≡ m.host → n.ends ≡ m.ends → Carries remaining contents l body outcome m → Carries remaining contents l body outcome n
  recounted l m n body outcome host ends (inl h) = inl (record { large = h.large; outcome_is = h.outcome_is; host = host ∙ h.host; ends = ends ∙ h.ends })
  recounted l m n body outcome host ends (inr (inl h)) = inr (inl (record { none = h.none; outcome_is = h.outcome_is; host = host ∙ h.host; ends = ends ∙ h.ends }))
  recounted l m n body outcome host ends (inr (inr h)) =
      let P = λ (x : Host). Crosses remaining contents l.host h.ends body outcome x n.ends in
      let Q = λ (x : Option (S × S)). Crosses remaining contents l.host h.ends body outcome m.host x in
      inr (inr (record { fits = h.fits; ends = h.ends; held = h.held; crosses = subst P (sym host) (subst Q (sym ends) h.crosses) }))
