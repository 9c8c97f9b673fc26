-- A process sends nothing before the commands that it has taken are kept.
use Rattle.std.proofs.Common.{◌≡◌, Bool, true, false, List, [], ◌∷◌, ◌++◌, map, refl, sym, subst, inl, inr}
use Rattle.oram_rounds.specs.Process.{Act, IsBrokenResumption, IsBrokenRound, IsResumption, IsRound}
use Rattle.oram_rounds.specs.Process.Act.{Calls, GoesAhead, Hears, Keeps, Misses}
use Rattle.oram_rounds.specs.ProcessSteps.{ProcessStep}
use Rattle.oram_rounds.specs.ProcessSteps.ProcessStep.{Acts, Takes}
use Rattle.oram_rounds.specs.Start.{SubmittedCommand}
use Rattle.oram_volume.specs.CarriedOut.{SendsKept}

-- what holds though a command may not be kept holds otherwise
sends_weaker : (unkept : Bool) (steps : List ProcessStep) → SendsKept true steps → SendsKept unkept steps
sends_weaker true steps h = h
sends_weaker false [] h = tt
sends_weaker false (Takes a ∷ steps) h = h
sends_weaker false (Acts (Hears event x) ∷ steps) h = sends_weaker false steps h
sends_weaker false (Acts (Calls o exchanges x) ∷ steps) h = absurd (let no : true ≡ false = h.0 in cc)
sends_weaker false (Acts (Misses o exchanges) ∷ steps) h = absurd (let no : true ≡ false = h.0 in cc)
sends_weaker false (Acts (GoesAhead exchanges) ∷ steps) h = absurd (let no : true ≡ false = h.0 in cc)
sends_weaker false (Acts (Keeps true) ∷ steps) h = h
sends_weaker false (Acts (Keeps false) ∷ steps) h = sends_weaker false steps h

-- steps, and then others
pub sends_join : (unkept : Bool) (xs ys : List ProcessStep) → SendsKept unkept xs → SendsKept true ys → SendsKept unkept (xs ++ ys)
sends_join unkept [] ys h more = sends_weaker unkept ys more
sends_join unkept (Takes a ∷ xs) ys h more = sends_join true xs ys h more
sends_join unkept (Acts (Hears event x) ∷ xs) ys h more = sends_join unkept xs ys h more
sends_join unkept (Acts (Calls o exchanges x) ∷ xs) ys h more = (h.0, sends_join unkept xs ys h.1 more)
sends_join unkept (Acts (Misses o exchanges) ∷ xs) ys h more = (h.0, sends_join unkept xs ys h.1 more)
sends_join unkept (Acts (GoesAhead exchanges) ∷ xs) ys h more = (h.0, sends_join unkept xs ys h.1 more)
sends_join unkept (Acts (Keeps true) ∷ xs) ys h more = sends_join false xs ys h more
sends_join unkept (Acts (Keeps false) ∷ xs) ys h more = sends_join unkept xs ys h more

-- commands are taken, and then sent once they are kept
pub sends_taken : (submitted : List SubmittedCommand) (steps : List ProcessStep) → SendsKept true steps → SendsKept true (map {B = ProcessStep} Takes submitted ++ steps)
sends_taken [] steps h = h
sends_taken (a ∷ submitted) steps h = sends_taken submitted steps h

-- these acts send nothing before the process keeps itself
abbrev pub KeepsFirst : List Act → Type 0
KeepsFirst acts = SendsKept true (map {B = ProcessStep} Acts acts)

-- where all is kept, nothing else is taken
sends_acts : (acts : List Act) → SendsKept false (map {B = ProcessStep} Acts acts)
sends_acts [] = tt
sends_acts (Hears event x ∷ acts) = sends_acts acts
sends_acts (Calls o exchanges x ∷ acts) = (refl, sends_acts acts)
sends_acts (Misses o exchanges ∷ acts) = (refl, sends_acts acts)
sends_acts (GoesAhead exchanges ∷ acts) = (refl, sends_acts acts)
sends_acts (Keeps true ∷ acts) = sends_acts acts
sends_acts (Keeps false ∷ acts) = sends_acts acts

pub kept_then : (acts rest : List Act) → acts ≡ Keeps true ∷ rest → KeepsFirst acts
kept_then acts rest is = subst KeepsFirst (sym is) (sends_acts rest)

pub broken_round_sends : (acts : List Act) → IsBrokenRound acts → KeepsFirst acts
broken_round_sends acts broken = elim broken [
  | inl failed ↦ subst KeepsFirst (sym failed) tt
  | inr kept ↦ elim kept [ inl only ↦ kept_then acts [] only | inr round ↦ kept_then acts round.0 round.1 ]
]

pub broken_resumption_sends : (acts : List Act) → IsBrokenResumption acts → KeepsFirst acts
broken_resumption_sends acts broken = elim broken [
  | inl lost ↦ subst KeepsFirst (sym lost.1) tt
  | inr again ↦ subst KeepsFirst (sym again.3) (broken_round_sends again.2 again.4)
]

pub resumption_sends : (acts : List Act) → IsResumption IsRound acts → KeepsFirst acts
resumption_sends acts r = broken_resumption_sends acts (inr (r.0, r.1, r.2, r.3, inr (inr r.4)))
