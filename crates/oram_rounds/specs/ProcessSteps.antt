-- What a process does for its client, step by step: a command is submitted to it, or it does an act.
use Rattle.std.specs.Prelude.{ℕ, List, []}
use Rattle.std.specs.List.{FoldsTo}
use Rattle.oram_semantics.specs.Scheme.{Scheme}
use Rattle.oram_semantics.specs.declared.events.Reply.{Reply}
use Rattle.oram_link_laws.specs.Runs.{Exchange}
use Rattle.oram_rounds.specs.Batches.{BatchOutcome}
use Rattle.oram_rounds.specs.Process.{Act, Does, Process, exchanges_of, replies_of}
use Rattle.oram_rounds.specs.Start.{SubmittedCommand, Submits}

pub data ProcessStep : Type 0 where
  Takes : SubmittedCommand → ProcessStep
  Acts : Act → ProcessStep

-- what its link exchanges with the host in a step
abbrev pub exchanges_in : ProcessStep → List Exchange
exchanges_in (Takes a) = []
exchanges_in (Acts act) = exchanges_of act

-- what its core replies in a step: a submission has no reply
abbrev pub replies_in : ProcessStep → List Reply
replies_in (Takes a) = []
replies_in (Acts act) = replies_of act

-- for a device, a link that carries batches, and a keeper that says which bytes may be read back
module _ (v : Scheme) {B K : Type 0} (batches : B → List (List ℕ) → BatchOutcome → List Exchange → B → Type 0) (reads_back : K → List ℕ → Type 0) where
  -- what a process does in a step
  abbrev pub DoesStep : Process B K → ProcessStep → Process B K → Type 0
  DoesStep p (Takes a) q = Submits v p a q
  DoesStep p (Acts act) q = Does v batches reads_back p act q

  -- several steps, one after the other
  abbrev pub DoesSteps : Process B K → List ProcessStep → Process B K → Type 0
  DoesSteps p steps q = FoldsTo {P = Process B K} DoesStep p steps q
