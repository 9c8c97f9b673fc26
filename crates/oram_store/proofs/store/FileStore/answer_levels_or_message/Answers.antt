use Rattle.std.proofs.Common.{◌≡◌, ap, subst, Err, sym, ◌∙◌, true≢false, arith, rules, ⊎_elim}
use Rattle.oram_levels.specs.Messages.{LevelsMessage, message_of}
use Rattle.oram_store.specs.LevelsAnswers.{AnswersLevels}
use Rattle.oram_store.proofs.Responses.{if_ok_leads, levels_named, not_levels}
use Rattle.oram_wire.specs.declared.host_messages.HostAnswer.TheVariants.{Refused}
use Rattle.oram_wire.specs.declared.faults.WireFault.{WireFault}
use Rattle.oram_wire.specs.declared.faults.WireFault.TheVariants.{Op}
use Rattle.oram_store.proofs.store.FileStore.answer_levels_or_message.Goals as goal

pub returns-in-Ok-clause-ok : goal.returns-in-Ok-clause-ok
returns-in-Ok-clause-ok g c =
    if_ok_leads c.answer_levels.result _ _ c.answer_levels.ensures.ok (λ v k. (
      k.0,
      k.1,
      k.2,
      λ message numbers is. absurd (not_levels message c.args.body.now is (levels_named (message_of c.in-Ok.request) c.args.body.now c.in-Ok.ensures.found)),
      λ message numbers is.
          let same : message_of c.in-Ok.request ≡ message = c.in-Ok.ensures.only message numbers is in
          subst (λ (m : LevelsMessage). AnswersLevels g.F.FilePair.model m k.0 c.args.self.now c.answer_levels.new.self) same k.3,
    ))

pub returns-in-Err-Op-clause-ok : goal.returns-in-Err-Op-clause-ok
returns-in-Err-Op-clause-ok g c =
    if_ok_leads c.answer_message.result _ _ c.answer_message.ensures.ok (λ v k. (
      k.0,
      k.1,
      k.2,
      λ message numbers is. let t = k.3 message numbers is in record { responds = t.0; committed = t.1; goes_on = t.2; full = t.3; serves = t.4 },
      λ message numbers is. absurd (true≢false (sym (levels_named message c.args.body.now is) ∙ c.in-Err-Op.ensures.op.0 (ap (λ (fault : WireFault). Err fault) c.in-Err-Op.field-0-is))),
    ))

pub returns-in-Err-clause-ok : goal.returns-in-Err-clause-ok
returns-in-Err-clause-ok g c =
    let other : c.in-Err.field-0 ≡ Op → ⊥ = search rules in
    let misfit = c.in-Err.ensures.length.0 (ap (λ (fault : WireFault). Err fault) (⊎_elim (λ op. absurd (other op)) (λ long. long) c.in-Err.ensures.faults)) in
    if_ok_leads c.refusal.result _ _ c.refusal.ensures (λ v is. (
      Refused 4,
      (omega arith, omega arith),
      is,
      λ message numbers same. absurd (not_levels message c.args.body.now same misfit.0),
      λ message numbers same. absurd (c.in-Err.ensures.only message numbers same),
    ))
