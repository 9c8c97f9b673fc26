use Rattle.std.proofs.Common.{◌≡◌, ℕ, ◌++◌, Err, Some, ◌∙◌, ap, subst}
use Rattle.std.proofs.lemmas.List.Elements.{All-pop}
use Rattle.std.proofs.lemmas.Result.{err_from_is_err_and}
use Rattle.oram_core.specs.Core.{scheme_of}
use Rattle.oram_session.specs.Exchanges.{IsSent, IsCutOff, IsGivenUp}
use Rattle.oram_session.specs.Turns.{most_retries}
use Rattle.oram_host.specs.declared.serve_fault.ServeFault.TheVariants.{Stalled, OutOfMemory}
use Rattle.oram_session.proofs.Resumed.{HasBody, all_alike, only_one, retries_same}
use Rattle.oram_session.proofs.exchanges.carry_out.Goals as goal

pub returns-in_err-last-clause-stalled : goal.returns-in_err-last-clause-stalled
returns-in_err-last-clause-stalled g c = λ e.
    let p = err_from_is_err_and c.from_residual.result c.from_residual.ensures.1 in
    let h : c.in_err-last.field-0.0 ≡ Stalled = cc in
    let w = c.in_err-last.ensures.stalled (ap Err h) in
    let v = scheme_of g.S.Sealer.cipher c.args.core.now in
    let same = retries_same most_retries w.0 in (
      w.0,
      w.1,
      w.2,
      all_alike v g.L.Link.calls most_retries _ w.0 w.1 w.3,
      subst (λ (n : ℕ). IsSent v g.L.Link.calls n w.1 w.2 (c.exchange_all.new.core.state, c.exchange_all.new.link)) same w.4,
      subst (λ (n : ℕ). IsGivenUp n w.2) same w.5,
    )

pub returns-in_err-last-clause-memory : goal.returns-in_err-last-clause-memory
returns-in_err-last-clause-memory g c = λ e.
    let p = err_from_is_err_and c.from_residual.result c.from_residual.ensures.1 in
    let h : c.in_err-last.field-0.0 ≡ OutOfMemory = cc in
    let w = c.in_err-last.ensures.memory (ap Err h) in
    let v = scheme_of g.S.Sealer.cipher c.args.core.now in
    let same = retries_same most_retries w.0 in (
      w.0,
      w.1,
      w.2,
      all_alike v g.L.Link.calls most_retries _ w.0 w.1 w.3,
      subst (λ (n : ℕ). IsCutOff v g.L.Link.calls n w.1 w.2 (c.exchange_all.new.core.state, c.exchange_all.new.link)) same w.4,
    )

pub returns-clause-ok : goal.returns-clause-ok
returns-clause-ok g c =
    let w = c.in_ok-last.ensures.ok in
    let v = scheme_of g.S.Sealer.cipher c.args.core.now in
    let one = w.1 ∙ c.requires.alone in (
      w.0,
      all_alike v g.L.Link.calls most_retries _ w.0 _ w.3,
      only_one _ w.2.0 c.pop.new.self.items c.in-Some.reply one (w.2.1 ∙ ap (λ l. w.2.0 ++ l) c.in-Some.ensures.items),
    )

pub returns-clause-block : goal.returns-clause-block
returns-clause-block g c = (All-pop (HasBody c.args.core.now.device) _ c.pop.new.self.items (Some c.in-Some.reply) c.in-Some.ensures.items c.in_ok-last.ensures.block).1
