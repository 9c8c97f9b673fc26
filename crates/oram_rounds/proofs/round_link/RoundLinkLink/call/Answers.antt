use Rattle.std.proofs.Common.{◌+◌, sym, ap, ◌∙◌, subst}
use Rattle.std.specs.Prelude.{min}
use Rattle.oram_session.specs.Outcome.{outcome_of}
use Rattle.oram_rounds.specs.Rounds.{IsCounted, Round}
use Rattle.oram_rounds.proofs.SentBodies.{fault_counted}
use Rattle.oram_rounds.proofs.round_link.RoundLinkLink.call.Goals as goal

pub returns-then-is_err : goal.returns-then-is_err
returns-then-is_err g c =
    let batches = g.B.BatchLink.batches in
    let done = c.pass-outcome in
    let faults = c.saturating_add-self-inside.result in
    let count = c.saturating_add-self-inside.ensures ∙ ap (λ (r : Round _). min (r.faults + 1) 18446744073709551615) c.self.view_is in
    subst (λ (r : Round _). IsCounted batches c.args.self.now c.args.body.now (outcome_of done.result) (record r { faults = faults })) (sym c.self.view_is)
    (fault_counted batches c.args.self.now done.new.self c.args.body.now done.result faults (sym c.is_err.ensures.value ∙ c.if-is_err.true) done.ensures.same count done.ensures.call)
