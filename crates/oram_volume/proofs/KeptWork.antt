-- Which acts leave a command waiting that isn't kept.
use Rattle.std.proofs.Common.{◌≡◌, ◌⊎◌, ℕ, Bool, true, false, List, [], ◌∷◌, Option, None, Some, refl, sym, ap, ◌∙◌, subst, inl, inr}
use Rattle.oram_semantics.specs.Run.{Shown}
use Rattle.oram_semantics.specs.Scheme.{Scheme}
use Rattle.oram_semantics.specs.State.{State, status_by, status_in}
use Rattle.oram_semantics.specs.declared.events.Event.TheVariants.{Reopen, Retry}
use Rattle.oram_semantics.specs.declared.events.Reason.{Reason}
use Rattle.oram_semantics.specs.declared.events.Submission.{Submission}
use Rattle.oram_session.specs.CoreWork.{HasNoWork, has_no_work_in}
use Rattle.oram_session.proofs.Resumed.{reopened, resent, resent_under_way}
use Rattle.oram_link_laws.specs.Runs.{Exchange}
use Rattle.oram_rounds.specs.Batches.{BatchOutcome}
use Rattle.oram_core.specs.Core.{CoreValue}
use Rattle.oram_rounds.specs.Process.{Act, DoesAll, IsBrokenResumption, IsBrokenRound, IsResumption, IsRound, Process, process}
use Rattle.oram_rounds.specs.Rounds.{Round}
use Rattle.oram_rounds.specs.Process.Act.{Hears, Keeps}
use Rattle.oram_volume.proofs.KeptFirst.{KeepsFirst, resumption_sends}
use Rattle.oram_volume.proofs.HeldArrays.{HaveKept, NoWorkIsKept, kept_first}

-- if a core has no work with its message lost, it has none otherwise
no_work_found : (s : State) → HasNoWork (record s { lost = true }) → HasNoWork s
no_work_found s h = at s.failure s.queue s.lost h
  where
    at : (f : Option Reason) (q : List Submission) (l : Bool) → has_no_work_in (status_by f q true) ≡ true → has_no_work_in (status_by f q l) ≡ true
    at (Some e) q l is = refl
    at None [] l is = refl
    at None (x ∷ q) l is = absurd (let no : false ≡ true = is in cc)

module _ {B K : Type 0} (batches : B → List (List ℕ) → BatchOutcome → List Exchange → B → Type 0) (reads_back : K → List ℕ → Type 0) (v : Scheme) where
  -- a round that a fault has ended
  pub broken_round_keeps : (acts : List Act) (p q : Process B K) → IsBrokenRound acts → DoesAll v batches reads_back p acts q → NoWorkIsKept p.core acts q.core
  broken_round_keeps acts p q broken does no_work = elim broken [
    | inl failed ↦
        let one : DoesAll v batches reads_back p (Keeps false ∷ []) q = subst (λ (l : List Act). DoesAll v batches reads_back p l q) failed does in
        let core : q.core ≡ p.core = ap (λ (r : Process B K). r.core) (sym one.2) ∙ one.1.1 in
        inl (subst HasNoWork core no_work)
    | inr kept ↦ elim kept [
      | inl only ↦ inr (subst HaveKept (sym only) (kept_first []))
      | inr round ↦ inr (subst HaveKept (sym round.1) (kept_first round.0))
    ]
  ]

  -- a resumption that a fault has ended
  pub resumption_keeps : (acts : List Act) (p q : Process B K) → (¬ HasNoWork p.core → IsBrokenResumption acts) → DoesAll v batches reads_back p acts q → NoWorkIsKept p.core acts q.core
  resumption_keeps acts p q broken does no_work = by (has_no_work_in (status_in p.core)) refl
    where
      lost_only : (x : Shown) → ¬ HasNoWork p.core → DoesAll v batches reads_back p (Hears Reopen x ∷ []) q → HasNoWork p.core ⊎ HaveKept acts
      lost_only x works all =
          let left = reopened v p.core all.0.core x works all.1.0.1 in
          let core : q.core ≡ record p.core { lost = true } = ap (λ (r : Process B K). r.core) (sym all.2) ∙ left.1 in
          inl (no_work_found p.core (subst HasNoWork core no_work))

      sent_again : (x y : Shown) (round : List Act) → acts ≡ Hears Reopen x ∷ Hears Retry y ∷ round → ¬ HasNoWork p.core → IsBrokenRound round → DoesAll v batches reads_back p (Hears Reopen x ∷ Hears Retry y ∷ round) q
          → HasNoWork p.core ⊎ HaveKept acts
      sent_again x y round is works end all =
          let mid : Process B K = all.0 in
          let now : Process B K = all.2.0 in
          let left = reopened v p.core mid.core x works all.1.0.1 in
          let again = resent v p.core mid.core now.core y works left.1 all.2.1.0.1 in
          let waits = (resent_under_way p.core now.core y works again).waits in
          elim (broken_round_keeps round now q end all.2.2 no_work) [
            | inl rests ↦ absurd (let no : false ≡ true = ap has_no_work_in (sym waits) ∙ rests in cc)
            | inr have ↦ inr (subst HaveKept (sym is) (λ before array. have before array))
          ]

      by : (b : Bool) → has_no_work_in (status_in p.core) ≡ b → HasNoWork p.core ⊎ HaveKept acts
      by true is = inl is
      by false is =
          let works : ¬ HasNoWork p.core = λ h. let no : false ≡ true = sym is ∙ h in cc in
          elim (broken works) [
            | inl lost ↦ lost_only lost.0 works (subst (λ (l : List Act). DoesAll v batches reads_back p l q) lost.1 does)
            | inr again ↦ sent_again again.0 again.1 again.2 again.3 works again.4 (subst (λ (l : List Act). DoesAll v batches reads_back p l q) again.3 does)
          ]

  -- a whole resumption
  pub resumed_keeps : (acts : List Act) (p q : Process B K) → (¬ HasNoWork p.core → IsResumption IsRound acts) → DoesAll v batches reads_back p acts q → NoWorkIsKept p.core acts q.core
  resumed_keeps acts p q whole does =
      resumption_keeps acts p q (λ works. let r = whole works in inr (r.0, r.1, r.2, r.3, inr (inr r.4))) does

  -- The acts of a whole resumption, which send nothing before the process keeps itself. Where no command waited there are none.
  pub resumed_acts : (acts : List Act) (p q : Process B K) → (HasNoWork p.core → q ≡ p) → (¬ HasNoWork p.core → IsResumption IsRound acts) → DoesAll v batches reads_back p acts q
      → (done : List Act) × DoesAll v batches reads_back p done q × KeepsFirst done × NoWorkIsKept p.core done q.core
  resumed_acts acts p q calm whole does = by (has_no_work_in (status_in p.core)) refl
    where
      by : (b : Bool) → has_no_work_in (status_in p.core) ≡ b → (done : List Act) × DoesAll v batches reads_back p done q × KeepsFirst done × NoWorkIsKept p.core done q.core
      by true is = ([], sym (calm is), tt, λ none. inl is)
      by false is =
          let works : ¬ HasNoWork p.core = λ h. let no : false ≡ true = sym is ∙ h in cc in
          (acts, does, resumption_sends acts (whole works), resumed_keeps acts p q whole does)

-- a process is its core, its link and its keeper
pub same_process : {S B K : Type 0} {c d : CoreValue S} {l m : Round B} {j k : K} → c ≡ d → l ≡ m → j ≡ k → process c.state l j ≡ process d.state m k
same_process {S} {B} {K} {c} {d} {l} {m} {j} {k} e f h =
    ap (λ (x : CoreValue S). process x.state l j) e ∙ ap (λ (x : Round B). process d.state x j) f ∙ ap (λ (x : K). process d.state m x) h
