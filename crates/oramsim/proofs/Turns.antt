-- One more turn of a run.
use Rattle.std.proofs.Common.{◌≡◌, ℕ, List, [], ◌∷◌, ◌++◌, Option, Some, None, Result, Ok, Err, OnOk, sym, ap, ◌∙◌, subst, append-nil, append_assoc}
use Rattle.std.specs.Io.KnownBytes.{Appends}
use Rattle.std.specs.List.{flat_map}
use Rattle.std.specs.Option.{option_or}
use Rattle.std.proofs.KnownBytes.{Appends-trans, Appends-nil}
use Rattle.std.proofs.lemmas.Fn.{FoldsTo-push}
use Rattle.std.proofs.lemmas.Grind.{flat_map-append}
use Rattle.std.proofs.lemmas.List.{map-append}
use Rattle.oram_semantics.specs.Law.{StepsByRule, new_state}
use Rattle.oram_semantics.specs.Run.{Shown}
use Rattle.oram_semantics.specs.Scheme.{Scheme}
use Rattle.oram_semantics.specs.State.{State}
use Rattle.oram_semantics.specs.declared.events.Event.{Event}
use Rattle.oram_core.specs.Steps.{Steps}
use Rattle.oramsim.specs.Printer.{reaction_text}
use Rattle.oramsim.specs.Script.{Running, Turn, after_turn, all_shown, left_at, newest_of, plain_scheme, stage_text}
use Rattle.oramsim.specs.Correspondence.{RunsOn, IsPlayed, IsAtRun, Prints}
use Rattle.oramsim.specs.declared.machine.Machine.{Machine}
use Rattle.oramsim.proofs.Whole.{newest_or}

-- the message that is outstanding after a step
pub outstanding_is : (xs : List (List ℕ)) (sent left out : Option (List ℕ)) → out ≡ option_or sent left → sent ≡ newest_of xs None → out ≡ newest_of xs left
outstanding_is xs sent left out e s = e ∙ (ap (λ o. option_or o left) s ∙ newest_or xs left)

pub turn_text : (r : Running) (e : Event) (x : Shown) → stage_text (Some (after_turn r e x)) ≡ stage_text (Some r) ++ reaction_text x
turn_text r e x =
    let turn : Turn = record { event = e; shown = x } in
    ap (flat_map reaction_text) (map-append (λ (t : Turn). t.shown) r.turns (turn ∷ [])) ∙ (flat_map-append reaction_text (all_shown r) (x ∷ []) ∙ ap (λ l. stage_text (Some r) ++ l) (append-nil (reaction_text x)))

pub moving : (v w : Scheme) (s t : State) (e : Event) (x : Shown) → w ≡ v → Steps v s e x t → StepsByRule w s e x t
moving v w s t e x same step = subst (λ (u : Scheme). StepsByRule u s e x t) (sym same) step.moves

pub goes_on : (r : Running) (m n : Machine) (e : Event) (x : Shown) (sent old new : Option (List ℕ)) → IsAtRun r m → IsPlayed m.core.device m.core.state e x sent n.core.state
    → n.core.device ≡ m.core.device → n.outstanding ≡ newest_of x.sends (left_at e m.outstanding) → n.server ≡ m.server → n.snapshot ≡ m.snapshot
    → Appends old new (reaction_text x) → RunsOn r (after_turn r e x) n old new
goes_on r m n e x sent old new f played device out server snapshot wrote = (
  record {
    ranges = rw device f.ranges;
    scheme = f.scheme ∙ ap plain_scheme (sym device);
    leads = (
      f.leads.0,
      f.leads.1,
      FoldsTo-push (λ a (t : Turn) b. StepsByRule r.setting.scheme a t.event t.shown b) (new_state r.setting f.leads.0) r.turns m.core.state (record { event = e; shown = x }) n.core.state f.leads.2
          (moving (plain_scheme m.core.device) r.setting.scheme m.core.state n.core.state e x f.scheme played.steps),
    );
    message = out ∙ ap (λ o. newest_of x.sends (left_at e o)) f.message;
    host = server ∙ f.host;
    copy = snapshot ∙ f.copy;
  },
  (reaction_text x, turn_text r e x, wrote),
)

-- Nothing more is printed.
pub silent : (a b : List ℕ) (old : Option (List ℕ)) → b ≡ a → Prints a b old old
silent a b old e = ([], e ∙ sym (append-nil a), Appends-nil old)

pub tells_more : (a b c : List ℕ) (old mid new : Option (List ℕ)) → Prints a b old mid → Prints b c mid new → Prints a c old new
tells_more a b c old mid new p q = (p.0 ++ q.0, q.1 ∙ (ap (λ l. l ++ q.0) p.1 ∙ append_assoc a p.0 q.0), Appends-trans old mid new p.0 q.0 p.2 q.2)

pub on_ok : {T E : Type 0} (P Q : Type 0) (r : Result T E) → (P → Q) → OnOk r P → OnOk r Q
on_ok P Q (Ok x) f p = f p
on_ok P Q (Err e) f p = tt
