-- The outcome of a call of a link.
use Rattle.std.specs.Prelude.{ℕ, ◌+◌, ◌-◌, ◌^◌, min, List, Result, Ok, Err}
use Rattle.std.specs.Global.{Vec}
use Rattle.oram_session.specs.declared.link.LinkFault.{LinkFault}

-- the host's answer, or why there is none
abbrev pub Outcome : Type 0
Outcome = Result (List ℕ) LinkFault

-- the outcome, without the bytes' place in memory
abbrev pub outcome_of : Result (Vec ℕ) LinkFault → Outcome
outcome_of (Ok bytes) = Ok bytes.items
outcome_of (Err fault) = Err fault

-- the number of faults after a call, given the number n before it; it stops at its greatest number
abbrev pub faults_after : ℕ → Outcome → ℕ
faults_after n (Ok bytes) = n
faults_after n (Err fault) = min (n + 1) (2 ^ 64 - 1)
