-- A formatting over a link that a sink borrows is one over the link.
use Rattle.std.proofs.Common.{◌≡◌, ℕ, List, [], ◌∷◌, Result, Ok, Err, IfOk, IfErr, inl, inr, sym, ap, ◌∙◌}
use Rattle.oram_wire.specs.declared.sinks.SinkFault.{SinkFault}
use Rattle.oram_tree.specs.Format.{PutsAll, IsBrokenOff}
use Rattle.oram_tree.specs.declared.faults.FormatFault.{FormatFault}
use Rattle.oram_semantics.specs.Scheme.{Scheme}
use Rattle.oram_semantics.specs.State.{State}
use Rattle.oram_core.specs.Formatting.{IsNew}

-- A sink of this name holds a link, and keeps its name.
module _ {K L N : Type 0} (name : K → N) (held : K → L) (takes : L → List ℕ → L → Type 0) (refuses : L → List ℕ → SinkFault → L → Type 0) where
  abbrev pub TakesLent : K → List ℕ → K → Type 0
  TakesLent s body t = (name t ≡ name s) × takes (held s) body (held t)

  abbrev pub RefusesLent : K → List ℕ → SinkFault → K → Type 0
  RefusesLent s body fault t = (name t ≡ name s) × refuses (held s) body fault (held t)

  puts_lent : (s : K) (bodies : List (List ℕ)) (t : K) → PutsAll TakesLent s bodies t → (name t ≡ name s) × PutsAll takes (held s) bodies (held t)
  puts_lent s [] t p = (sym (ap name p), ap held p)
  puts_lent s (body ∷ bodies) t p = let rest = puts_lent p.0 bodies t p.2 in (rest.0 ∙ p.1.0, (held p.0, p.1.1, rest.1))

  new_lent : (v : Scheme) (s : K) (x : State) (t : K) → IsNew v TakesLent s x t → (name t ≡ name s) × IsNew v takes (held s) x (held t)
  new_lent v s x t h =
      let both = puts_lent s h.format t h.puts in
      (both.0, record { ranges = h.ranges; format = h.format; puts = both.1; trees = h.trees; formatted = h.formatted; state = h.state })

  broken_lent : (Begins : List (List ℕ) → Type 0) (s : K) (fault : FormatFault) (t : K)
      → IsBrokenOff TakesLent RefusesLent Begins s fault t → (name t ≡ name s) × IsBrokenOff takes refuses Begins (held s) fault (held t)
  broken_lent Begins s fault t h =
      let both = puts_lent s h.taken h.mid h.puts in
      elim h.ended [
        | inl e ↦ (ap name e.1 ∙ both.0, record { taken = h.taken; begun = h.begun; mid = held h.mid; puts = both.1; ended = inl (e.0, ap held e.1) })
        | inr r ↦ (
          r.refused.0 ∙ both.0,
          record { taken = h.taken; begun = h.begun; mid = held h.mid; puts = both.1; ended = inr (record { body = r.body; begun = r.begun; why = r.why; refused = r.refused.1; reported = r.reported }) },
        )
      ]

  -- for both ways in which it can end
  pub formatted_lent : {C : Type 0} (result : Result C FormatFault) (state : C → State) (v : Scheme) (Begins : List (List ℕ) → Type 0) (s t : K)
      → IfOk result (λ c. IsNew v TakesLent s (state c) t) → IfErr result (λ fault. IsBrokenOff TakesLent RefusesLent Begins s fault t)
      → (name t ≡ name s) × IfOk result (λ c. IsNew v takes (held s) (state c) (held t)) × IfErr result (λ fault. IsBrokenOff takes refuses Begins (held s) fault (held t))
  formatted_lent (Ok c) state v Begins s t made broken = let h = new_lent v s (state c) t made in (h.0, h.1, tt)
  formatted_lent (Err fault) state v Begins s t made broken = let h = broken_lent Begins s fault t broken in (h.0, tt, h.1)
