-- A core that has just been formatted and accepts a command meets the premises of the laws about its next FETCHes.
use Rattle.std.proofs.Common.{◌≡◌, ℕ, false, List, [], ◌∷◌, Option, None, refl, sym, subst, arith}
use Rattle.oram_geometry.specs.Sizes.{IsDevice}
use Rattle.oram_tree.specs.State.{State as Tree}
use Rattle.oram_semantics.specs.Agree.{Agrees, IsOrderly}
use Rattle.oram_semantics.specs.Formatting.{IsFormatted}
use Rattle.oram_semantics.specs.InTurn.{AsksInTurn}
use Rattle.oram_semantics.specs.Law.{StepsByRule, StepsTo, new_state, world_of}
use Rattle.oram_semantics.specs.Moves.{on_submission, shows_in}
use Rattle.oram_semantics.specs.Progress.{Setting}
use Rattle.oram_semantics.specs.Run.{Shown, refusal_of, step_of}
use Rattle.oram_semantics.specs.Scheme.{Scheme}
use Rattle.oram_semantics.specs.State.{AllStand, State, World}
use Rattle.oram_semantics.specs.declared.events.Command.{Command}
use Rattle.oram_semantics.specs.declared.events.Event.{Event}
use Rattle.oram_semantics.specs.declared.events.Event.TheVariants.{Submit}
use Rattle.oram_semantics.specs.declared.events.Refusal.{Refusal}
use Rattle.oram_semantics.specs.declared.events.Submission.{Submission}
use Rattle.oram_semantics.proofs.AgreeNew.{agrees_new, orderly_new}
use Rattle.oram_semantics.proofs.Bounds.{IsFit, fit_device}
use Rattle.oram_semantics.proofs.Formatting.{formatted_holds}
use Rattle.oram_core.specs.PlainSteps.{Done, accepted_by}
use Rattle.oram_core.proofs.LocalRule.{holds_of}
use Rattle.oram_core.proofs.Quiet.{Meets, accepts_met}

-- what the laws ask of a step in a world
record MeetsPremises (v : Scheme) (s : State) (w : World) (event : Event) (x : Shown) (t : State) : Type 0 where
  pub orderly : IsOrderly v s
  pub holds : AllStand v s w
  pub agrees : Agrees v s w
  pub apart : shows_in v s w event ≡ false
  pub steps : StepsByRule v s event x t
  pub alive : t.failure ≡ None

abbrev submission : ℕ → Command → List ℕ → Submission
submission session c words = record { session = session; ticket = 0; command = c; words = words }

abbrev reaction_in : Done → Shown
reaction_in d = record { note = d.note; replies = d.replies; sends = d.sends }

-- the first command of a device is one that there is no reason to refuse
begins : (v : Setting) (trees : List Tree) (session : ℕ) (c : Command) (words : List ℕ) → refusal_of v.scheme.device false 0 0 c words ≡ None
    → let d = accepted_by v.scheme (new_state v trees) (submission session c words) in
    StepsByRule v.scheme (new_state v trees) (Submit session c words) (reaction_in d) d.state
begins v trees session c words free w fits apart =
    let s : State = new_state v trees in
    let x : Submission = submission session c words in
    subst (λ (o : Option Refusal). Meets v.scheme s w (on_submission v.scheme s w x o) (accepted_by v.scheme s x)) (sym free) (accepts_met v.scheme s w x (holds_of v.scheme s w fits))

in_turn_example : (v : Setting) (trees : List Tree) (session : ℕ) (c : Command) (words : List ℕ) → IsDevice v.scheme.device → IsFormatted v trees
    → refusal_of v.scheme.device false 0 0 c words ≡ None
    → let d = accepted_by v.scheme (new_state v trees) (submission session c words) in
    MeetsPremises v.scheme (new_state v trees) (world_of v []) (Submit session c words) (reaction_in d) d.state
    × StepsTo v [] (new_state v trees) (Submit session c words ∷ []) (reaction_in d ∷ []) (step_of (Submit session c words) (reaction_in d) ∷ []) d.state
    × AsksInTurn v.scheme.device (new_state v trees)
in_turn_example v trees session c words device made free =
    let fit : IsFit v.scheme.device = fit_device v.scheme.device device in
    let s : State = new_state v trees in
    let d : Done = accepted_by v.scheme s (submission session c words) in
    let step : StepsByRule v.scheme s (Submit session c words) (reaction_in d) d.state = begins v trees session c words free in (
      record {
        orderly = orderly_new v trees fit;
        holds = formatted_holds v trees made;
        agrees = agrees_new v trees fit;
        apart = refl;
        steps = step;
        alive = refl;
      },
      (d.state, step, refl, (refl, refl)),
      record { first = λ some. absurd (omega arith); later = λ some. absurd (omega arith) },
    )
