use Rattle.std.proofs.Common.{ap, sym, ◌∙◌}
use Rattle.oram_session.proofs.Looped.{counted, recounted}
use Rattle.oram_session.proofs.links.loopback.LoopLinkLink.call.Goals as goal

pub returns-then-is_err : goal.returns-then-is_err
returns-then-is_err g c = record {
  faults = counted c.pass-outcome.result c.args.self.now.faults c.self.inside.faults _ (sym c.if-is_err.ensures.value) c.saturating_add-self-inside.ensures (ap (λ v. v.faults) c.self.view_is ∙ c.pass-outcome.ensures.faults);
  answer = recounted g.R.Stream.Read.remaining g.R.Stream.Write.contents c.args.self.now c.pass-outcome.new.self _ c.args.body.now _ (ap (λ v. v.host) c.self.view_is) (ap (λ v. v.ends) c.self.view_is) c.pass-outcome.ensures.answer;
}
