use Rattle.std.proofs.Common.{length, map, List, refl, sym, ap, ◌∙◌, subst, arith, length-append}
use Rattle.oram_semantics.specs.Law.{StepsByRule, StepsAlong}
use Rattle.oram_semantics.specs.Run.{shown_by}
use Rattle.oram_semantics.specs.Scheme.{Scheme}
use Rattle.oram_semantics.specs.declared.events.Reaction.{Reaction}
use Rattle.oram_core.specs.Core.{scheme_of}
use Rattle.oram_core.proofs.WholeRuns.{along_none, along_next, along_all, same_scheme}
use Rattle.std.proofs.lemmas.Result.{IfOk-from_err}
use Rattle.oram_core.proofs.whole.step_all.Goals as goal

pub loop-event-init : goal.loop-event-init
loop-event-init g c = record {
  device = (refl, refl);
  along = along_none (scheme_of g.S.Sealer.cipher c.args.core.now) c.args.core.now.state c.args.events.now c.args.reactions.now.items c.requires;
  count = ap length c.requires;
}

pub returns-in_err-reaction-clause-along : goal.returns-in_err-reaction-clause-along
returns-in_err-reaction-clause-along g c = along_all _ _ _ _ _ _ c.loop-event.invariant.along

pub returns-in_err-push-clause-along : goal.returns-in_err-push-clause-along
returns-in_err-push-clause-along g c =
    let v = scheme_of g.S.Sealer.cipher c.args.core.now in
    let A = λ (rs : List Reaction). StepsAlong v c.args.core.now.state c.args.events.now (map shown_by rs) in
    subst A (sym c.in_err-push.ensures.items) (along_all _ _ _ _ _ _ c.loop-event.invariant.along)

pub loop-event-preserved : goal.loop-event-preserved
loop-event-preserved g c =
    let v = scheme_of g.S.Sealer.cipher c.args.core.now in
    let was = c.loop-event.invariant.device in
    let now = c.in_ok-reaction.ensures.kept in
    let S = λ (u : Scheme). StepsByRule u c.loop-event.core.state c.event-item.result (shown_by c.in_ok-reaction.reaction) c.step.new.self.state in
    record {
      device = (now.0 ∙ was.0, now.1 ∙ was.1);
      along = along_next v c.args.core.now.state c.args.events.now c.loop-event.event-index c.event-item.result c.loop-event.reactions.items c.push.new.self.items c.in_ok-reaction.reaction c.loop-event.core.state c.step.new.self.state
          (omega arith) c.event-item.is c.in_ok-push.ensures.items (subst S (same_scheme g.S.Sealer.cipher c.args.core.now c.loop-event.core was) c.in_ok-reaction.ensures.promise.moves) c.loop-event.invariant.along;
      count = ap length c.in_ok-push.ensures.items ∙ simp length-append (omega (arith, c.loop-event.invariant.count));
    }

pub returns-clause-along : goal.returns-clause-along
returns-clause-along g c = along_all _ _ _ _ _ _ c.loop-event.invariant.along

pub returns-in_err-reaction-clause-complete : goal.returns-in_err-reaction-clause-complete
returns-in_err-reaction-clause-complete g c = IfOk-from_err c.from_residual.result _ c.from_residual.ensures.0

pub returns-in_err-push-clause-complete : goal.returns-in_err-push-clause-complete
returns-in_err-push-clause-complete g c = IfOk-from_err c.from_residual-in_err-push.result _ c.from_residual-in_err-push.ensures.0
