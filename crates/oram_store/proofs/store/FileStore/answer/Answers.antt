use Rattle.std.proofs.Common.{◌≡◌, ap, subst, Err, arith, rules, ⊎_elim}
use Rattle.oram_records.specs.declared.request.RecordsRequest.{RecordsRequest}
use Rattle.oram_store.specs.RecordsAnswers.{AnswersRecords}
use Rattle.oram_store.proofs.Responses.{if_ok_leads, levels_named, not_records, ok_is_no_err, records_named, records_not_levels}
use Rattle.oram_wire.specs.declared.host_messages.HostAnswer.TheVariants.{Refused}
use Rattle.oram_wire.specs.declared.faults.WireFault.{WireFault}
use Rattle.oram_wire.specs.declared.faults.WireFault.TheVariants.{Op}
use Rattle.oram_store.proofs.store.FileStore.answer.Goals as goal

pub returns-in-Ok-clause-ok : goal.returns-in-Ok-clause-ok
returns-in-Ok-clause-ok g c =
    if_ok_leads c.answer_records.result _ _ c.answer_records.ensures.ok (λ v k. (
      k.0,
      k.1,
      k.2,
      λ message numbers is. absurd (not_records message c.args.body.now is (records_named c.in-Ok.request c.args.body.now c.in-Ok.ensures.found)),
      λ r numbers is.
          let said = c.in-Ok.ensures.only r numbers is in
          let same : c.in-Ok.request ≡ r = cc in
          subst (λ (x : RecordsRequest). AnswersRecords g.F.FilePair.model x k.0 c.args.self.now c.answer_records.new.self) same k.3,
      λ message numbers is. absurd (records_not_levels c.args.body.now (records_named c.in-Ok.request c.args.body.now c.in-Ok.ensures.found) (levels_named message c.args.body.now is)),
    ))

pub returns-in-Err-Op-clause-ok : goal.returns-in-Err-Op-clause-ok
returns-in-Err-Op-clause-ok g c =
    if_ok_leads c.answer_levels_or_message.result _ _ c.answer_levels_or_message.ensures.ok (λ v k. (
      k.0,
      k.1,
      k.2,
      λ message numbers is. let call = k.3 message numbers is in (call.responds, call.committed, call.goes_on, call.full, call.serves),
      λ r numbers is. absurd (c.in-Err-Op.ensures.op.0 (ap (λ (fault : WireFault). Err fault) c.in-Err-Op.field-0-is) (records_named r c.args.body.now is)),
      k.4,
    ))

pub returns-in-Err-clause-ok : goal.returns-in-Err-clause-ok
returns-in-Err-clause-ok g c =
    let other : c.in-Err.field-0 ≡ Op → ⊥ = search rules in
    let misfit = c.in-Err.ensures.length.0 (ap (λ (fault : WireFault). Err fault) (⊎_elim (λ op. absurd (other op)) (λ long. long) c.in-Err.ensures.faults)) in
    if_ok_leads c.refusal.result _ _ c.refusal.ensures (λ v is. (
      Refused 4,
      (omega arith, omega arith),
      is,
      λ message numbers same. absurd (not_records message c.args.body.now same (misfit.0, misfit.1)),
      λ r numbers same. absurd (ok_is_no_err r c.in-Err.field-0 (c.in-Err.ensures.only r numbers same)),
      λ message numbers same. absurd (records_not_levels c.args.body.now (misfit.0, misfit.1) (levels_named message c.args.body.now same)),
    ))
