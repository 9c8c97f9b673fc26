-- The answers to frames, by how serving them ended.
use Rattle.std.proofs.Common.{◌≡◌, ◌∙◌, ◌⊎◌, ℕ, List, [], length, Option, Some, Result, Ok, Err, refl, sym, ap, ap₂, subst, inl, inr}
use Rattle.std.specs.Prelude.{IsErrOf, OnOk, replicate}
use Rattle.oram_geometry.specs.declared.Sizes.{Sizes}
use Rattle.oram_geometry.specs.Sizes.{trees_of}
use Rattle.oram_bucket.specs.Cipher.{plain_cipher}
use Rattle.oram_wire.specs.FrameStream.{IsBroken, IsUnfinished}
use Rattle.oram_semantics.specs.Scheme.{Scheme}
use Rattle.oram_semantics.specs.State.{State}
use Rattle.oram_session.specs.Outcome.{Outcome}
use Rattle.oram_session.specs.Sessions.{EndsSession, HasServedSession}
use Rattle.oram_session.specs.Tapes.{chacha_words}
use Rattle.oram_session.specs.Turns.{Turn}
use Rattle.oram_host.specs.Answered.{AnsweredRun, Answering}
use Rattle.oram_host.specs.declared.serve_fault.ServeFault.{ServeFault}
use Rattle.oram_host.specs.declared.serve_fault.ServeFault.TheVariants as serve
use Rattle.oramd.specs.Formatting.{IsFormatted}
use Rattle.oramd.specs.FrameLoop.{HasAnsweredFrames, after_frames, loop_scheme, loop_sizes, loop_words}
use Rattle.oramd.specs.declared.faults.Fault.{Fault}
use Rattle.oramd.specs.declared.faults.Fault.TheVariants.{Hex, OutOfMemory, Stalled}

-- a device of these sizes, unsealed
abbrev pub scheme_at : Sizes → Scheme
scheme_at d = record { device = d; cipher = plain_cipher }

-- One end isn't another.
ok_is_not : (q : Result (Unit {0}) Fault) → q ≡ Ok tt → q ≡ Err Hex → ⊥
ok_is_not q a b = cc

stalled_is_not : (q : Result (Unit {0}) Fault) → q ≡ Err Stalled → q ≡ Err Hex → ⊥
stalled_is_not q a b = cc

memory_is_not : (q : Result (Unit {0}) Fault) → q ≡ Err OutOfMemory → q ≡ Err Hex → ⊥
memory_is_not q a b = cc

module _ {L : Type 0} (calls : L → List ℕ → Outcome → L → Type 0) (d : Sizes) (key : List ℕ) (trees : ℕ) (p : Answering L) (new after : State) (mid to : L) (unread : List ℕ) (written : Option (List ℕ)) where
  abbrev pub begins : Answering (State × L)
  begins = record { state = (new, mid); unread = p.unread; written = p.written }

  abbrev pub ends : Answering (State × L)
  ends = record { state = (after, to); unread = Some unread; written = written }

  abbrev run : List Turn → List ℕ → AnsweredRun (State × L) Turn
  run turns part = record { before = begins; things = turns; part = part; more = []; after = ends }

  -- the turns that a device of these sizes answered
  abbrev pub Served : List Turn → List ℕ → Type 0
  Served turns part = HasServedSession (scheme_at d) calls (chacha_words key trees) 0 (run turns part)

  abbrev pub Answered : List ℕ → Type 0
  Answered part = HasAnsweredFrames calls p part (record { state = to; unread = Some unread; written = written })

  module _ (sized : d ≡ loop_sizes) (zero_key : key ≡ replicate 32 0) (count : trees ≡ trees_of d) (formatted : IsFormatted (scheme_at d) calls p.state new mid) where
    pub answered : (turns : List Turn) (part : List ℕ) → Served turns part → Answered part
    answered turns part served =
        let P : Scheme → Type 0 = λ v. HasServedSession v calls (chacha_words key trees) 0 (run turns part) in
        let Q : (ℕ → ℕ → List ℕ) → Type 0 = λ words. HasServedSession loop_scheme calls words 0 (run turns part) in
        let words : chacha_words key trees ≡ loop_words = ap₂ chacha_words zero_key (count ∙ ap trees_of sized) in
        record {
          new = new;
          mid = mid;
          formatted = subst (λ (v : Scheme). IsFormatted v calls p.state new mid) (ap scheme_at sized) formatted;
          turns = turns;
          after = after;
          served = subst Q words (subst P (ap scheme_at sized) served);
        }

    pub all_answered : (ended : Result ℕ ServeFault) (q : Result (Unit {0}) Fault) → q ≡ after_frames ended
        → EndsSession (scheme_at d) calls (chacha_words key trees) 0 begins ends ended → OnOk q ((Answered []) × (unread ≡ []))
    all_answered (Ok n) q e x = subst (λ (x : Result (Unit {0}) Fault). OnOk x ((Answered []) × (unread ≡ []))) (sym e) (answered x.0 [] x.2, x.3)
    all_answered (Err serve.Read) q e x = subst (λ (x : Result (Unit {0}) Fault). OnOk x ((Answered []) × (unread ≡ []))) (sym e) tt
    all_answered (Err serve.Write) q e x = subst (λ (x : Result (Unit {0}) Fault). OnOk x ((Answered []) × (unread ≡ []))) (sym e) tt
    all_answered (Err serve.Frame) q e x = subst (λ (x : Result (Unit {0}) Fault). OnOk x ((Answered []) × (unread ≡ []))) (sym e) tt
    all_answered (Err serve.Truncated) q e x = subst (λ (x : Result (Unit {0}) Fault). OnOk x ((Answered []) × (unread ≡ []))) (sym e) tt
    all_answered (Err serve.Stalled) q e x = subst (λ (x : Result (Unit {0}) Fault). OnOk x ((Answered []) × (unread ≡ []))) (sym e) tt
    all_answered (Err serve.OutOfMemory) q e x = subst (λ (x : Result (Unit {0}) Fault). OnOk x ((Answered []) × (unread ≡ []))) (sym e) tt

    pub front_answered : (ended : Result ℕ ServeFault) (q : Result (Unit {0}) Fault) → q ≡ after_frames ended
        → EndsSession (scheme_at d) calls (chacha_words key trees) 0 begins ends ended
        → IsErrOf q Hex → (part : List ℕ) × (IsUnfinished part ⊎ ((length part ≡ 4) × IsBroken part)) × Answered part
    front_answered (Ok n) q e x hex = absurd (ok_is_not q e hex)
    front_answered (Err serve.Read) q e x hex = (x.1, inl x.2, answered x.0 x.1 x.3)
    front_answered (Err serve.Write) q e x hex = absurd (memory_is_not q e hex)
    front_answered (Err serve.Frame) q e x hex = (x.1, inr (x.2, x.3), answered x.0 x.1 x.4)
    front_answered (Err serve.Truncated) q e x hex = (x.1, inl x.3, answered x.0 x.1 x.4)
    front_answered (Err serve.Stalled) q e x hex = absurd (stalled_is_not q e hex)
    front_answered (Err serve.OutOfMemory) q e x hex = absurd (memory_is_not q e hex)

-- Nothing is left of the frames.
pub at_end : {L : Type 0} (calls : L → List ℕ → Outcome → L → Type 0) (p : Answering L) (to : L) (unread : List ℕ) (written : Option (List ℕ)) (q : Result (Unit {0}) Fault)
    → OnOk q (HasAnsweredFrames calls p [] (record { state = to; unread = Some unread; written = written }) × (unread ≡ []))
    → OnOk q (HasAnsweredFrames calls p [] (record { state = to; unread = Some []; written = written }))
at_end calls p to unread written (Ok n) h =
    subst (λ (x : List ℕ). HasAnsweredFrames calls p [] (record { state = to; unread = Some x; written = written })) h.1 h.0
at_end calls p to unread written (Err e) h = tt
