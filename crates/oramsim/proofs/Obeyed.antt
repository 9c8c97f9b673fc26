-- The effect of a line.
use Rattle.std.proofs.Common.{◌≡◌, ℕ, Bool, true, false, List, Option, Some, None, Result, Ok, refl, sym, ap, ◌∙◌, subst}
use Rattle.std.specs.Prelude.{MatchBool}
use Rattle.std.specs.List.{FoldsTo}
use Rattle.oram_host.specs.Flips.{IsByteless}
use Rattle.oram_host.specs.Swaps.{LacksPair}
use Rattle.oram_semantics.specs.Run.{Shown}
use Rattle.oram_semantics.specs.State.{State, status_in}
use Rattle.oram_semantics.specs.declared.events.Event.{Event}
use Rattle.oramsim.specs.Script.{IsAnswered, IsDrained, IsUnfit, Obeys, Running, after_turn, is_meddling, stage_text}
use Rattle.oramsim.specs.Correspondence.{RunsOn, IsFaithful, IsAtRun, StaysFaithful}
use Rattle.oramsim.specs.declared.line.Line.{Line}
use Rattle.oramsim.specs.declared.line.Line.TheVariants.{CoreEvent, Answer, Drain, Restore, Snapshot, Swap, Tamper}
use Rattle.oramsim.specs.declared.machine.Machine.{Machine}
use Rattle.oramsim.specs.declared.script.SimFault.{SimFault}
use Rattle.oramsim.proofs.Faithful.{unheard}
use Rattle.oramsim.proofs.Turns.{silent}

-- The run goes on as the line says.
abbrev pub Obeyed : Running → State → Line → Machine → Option (List ℕ) → Option (List ℕ) → Type 0
Obeyed r s line m old new = (later : Running) × Obeys r line later × RunsOn r later m old new × (is_meddling line ≡ false → IsFaithful r s → IsFaithful later m.core.state)

as_line : (r : Running) (s : State) (line known : Line) (m : Machine) (old new : Option (List ℕ)) → line ≡ known → Obeyed r s known m old new → Obeyed r s line m old new
as_line r s line known m old new e q = subst (λ (l : Line). Obeyed r s l m old new) (sym e) q

pub told_obeyed : (r : Running) (s : State) (line : Line) (e : Event) (m : Machine) (old new : Option (List ℕ)) → line ≡ CoreEvent e
    → (x : Shown) × RunsOn r (after_turn r e x) m old new × StaysFaithful r s e x m.core.state → Obeyed r s line m old new
told_obeyed r s line e m old new is q =
    as_line r s line (CoreEvent e) m old new is (after_turn r e q.0, (q.0, refl), q.1, λ calm h. q.2 r.host (unheard (status_in s) s.message e r.host calm) h)

pub answer_obeyed : (r : Running) (s : State) (line : Line) (m : Machine) (old new : Option (List ℕ)) → line ≡ Answer
    → (x : Shown) × (later : Running) × IsAnswered r x later × RunsOn r later m old new × (IsFaithful r s → IsFaithful later m.core.state) → Obeyed r s line m old new
answer_obeyed r s line m old new is q = as_line r s line Answer m old new is (q.1, (q.0, q.2), q.3, λ calm h. q.4 h)

pub drain_obeyed : (r : Running) (s : State) (line : Line) (m : Machine) (old new : Option (List ℕ)) → line ≡ Drain
    → (xs : List Shown) × (later : Running) × FoldsTo IsDrained r xs later × (later.message ≡ None) × RunsOn r later m old new × (IsFaithful r s → IsFaithful later m.core.state)
    → Obeyed r s line m old new
drain_obeyed r s line m old new is q = as_line r s line Drain m old new is (q.1, (q.0, q.2, q.3), q.4, λ calm h. q.5 h)

-- a line that prints something
pub spoken_obeyed : (r : Running) (s : State) (line known : Line) (m : Machine) (old new : Option (List ℕ)) → line ≡ known
    → (later : Running) × Obeys r known later × RunsOn r later m old new × (IsFaithful r s → IsFaithful later m.core.state) → Obeyed r s line m old new
spoken_obeyed r s line known m old new is q = as_line r s line known m old new is (q.0, q.1, q.2, λ calm h. q.3 h)

same_text : (r later : Running) (line : Line) (m : Machine) (old : Option (List ℕ)) → IsAtRun later m → (k : Running) → later ≡ k → stage_text (Some k) ≡ stage_text (Some r) → RunsOn r later m old old
same_text r later line m old f k e same = (f, silent (stage_text (Some r)) (stage_text (Some later)) old (ap (λ (l : Running). stage_text (Some l)) e ∙ same))

pub snapshot_obeyed : (r : Running) (s : State) (line : Line) (m : Machine) (old : Option (List ℕ)) → line ≡ Snapshot
    → (later : Running) × Obeys r Snapshot later × IsAtRun later m × (IsFaithful r s → IsFaithful later m.core.state) → Obeyed r s line m old old
snapshot_obeyed r s line m old is q = as_line r s line Snapshot m old old is (q.0, q.1, same_text r q.0 Snapshot m old q.2 _ q.1 refl, λ calm h. q.3 h)

refused : (b : Bool) {A : Type 0} → b ≡ false → b ≡ true → A
refused b off on = absurd (let both : false ≡ true = sym off ∙ on in cc)

pub tamper_obeyed : (r : Running) (s : State) (line : Line) (m : Machine) (tree node offset : ℕ) (old : Option (List ℕ)) → line ≡ Tamper tree node offset
    → (later : Running) × Obeys r (Tamper tree node offset) later × IsAtRun later m → Obeyed r s line m old old
tamper_obeyed r s line m tree node offset old is q =
    as_line r s line (Tamper tree node offset) m old old is (q.0, q.1, same_text r q.0 (Tamper tree node offset) m old q.2 _ q.1.2 refl, λ calm. refused true calm refl)

pub swap_obeyed : (r : Running) (s : State) (line : Line) (m : Machine) (tree_a node_a tree_b node_b : ℕ) (old : Option (List ℕ)) → line ≡ Swap tree_a node_a tree_b node_b
    → (later : Running) × Obeys r (Swap tree_a node_a tree_b node_b) later × IsAtRun later m → Obeyed r s line m old old
swap_obeyed r s line m tree_a node_a tree_b node_b old is q =
    let known = Swap tree_a node_a tree_b node_b in
    as_line r s line known m old old is (q.0, q.1, same_text r q.0 known m old q.2 _ q.1.2 refl, λ calm. refused true calm refl)

pub restore_obeyed : (r : Running) (s : State) (line : Line) (m : Machine) (old : Option (List ℕ)) → line ≡ Restore
    → (later : Running) × Obeys r Restore later × IsAtRun later m → Obeyed r s line m old old
restore_obeyed r s line m old is q = as_line r s line Restore m old old is (q.0, q.1, same_text r q.0 Restore m old q.2 _ q.1.2 refl, λ calm. refused true calm refl)

-- what the answer of a test means
pub when_true : (P Q : Type 0) (b : Bool) (r : Result Bool SimFault) → r ≡ Ok b → MatchBool b P Q → r ≡ Ok true → P
when_true P Q true r e m on = m
when_true P Q false r e m on = absurd (let both : Ok false ≡ Ok true = sym e ∙ on in cc)

pub when_false : (P Q : Type 0) (b : Bool) (r : Result Bool SimFault) → r ≡ Ok b → MatchBool b P Q → r ≡ Ok false → Q
when_false P Q true r e m off = absurd (let both : Ok true ≡ Ok false = sym e ∙ off in cc)
when_false P Q false r e m off = m

pub tamper_unfit : (r : Running) (line : Line) (tree node offset : ℕ) → line ≡ Tamper tree node offset → IsByteless r.host tree node offset → IsUnfit r line
tamper_unfit r line tree node offset is h = subst (IsUnfit r) (sym is) h

pub swap_unfit : (r : Running) (line : Line) (tree_a node_a tree_b node_b : ℕ) → line ≡ Swap tree_a node_a tree_b node_b → LacksPair r.host tree_a node_a tree_b node_b → IsUnfit r line
swap_unfit r line tree_a node_a tree_b node_b is h = subst (IsUnfit r) (sym is) h

pub restore_unfit : (r : Running) (line : Line) → line ≡ Restore → r.copy ≡ None → IsUnfit r line
restore_unfit r line is h = subst (IsUnfit r) (sym is) h
