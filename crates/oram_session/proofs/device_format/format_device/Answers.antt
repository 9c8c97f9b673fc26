use Rattle.std.proofs.Common.{rules}
use Rattle.oram_semantics.specs.Formatting.{IsFormatBegun}
use Rattle.oram_core.specs.Core.{scheme_with}
use Rattle.oram_session.specs.Formatting.{TakesMessage, RefusesMessage}
use Rattle.oram_session.proofs.Formatted.{formatted_lent}
use Rattle.oram_session.proofs.device_format.format_device.Goals as goal

pub returns-clause-made : goal.returns-clause-made
returns-clause-made g c =
    let v = scheme_with g.S.Sealer.cipher c.args.device c.args.sealer in
    let h = formatted_lent (λ s. s.link.ghost_name) (λ s. s.link.now) (TakesMessage g.L.Link.calls) (RefusesMessage g.L.Link.calls) c.format-formatted.result (λ x. x.state) v (IsFormatBegun v) _ _
    c.format-formatted.ensures.made c.format-formatted.ensures.broken_off in
    let name = h.0 in
    let made = h.1 in
    search rules

pub returns-clause-broken_off : goal.returns-clause-broken_off
returns-clause-broken_off g c =
    let v = scheme_with g.S.Sealer.cipher c.args.device c.args.sealer in
    let h = formatted_lent (λ s. s.link.ghost_name) (λ s. s.link.now) (TakesMessage g.L.Link.calls) (RefusesMessage g.L.Link.calls) c.format-formatted.result (λ x. x.state) v (IsFormatBegun v) _ _
    c.format-formatted.ensures.made c.format-formatted.ensures.broken_off in
    let name = h.0 in
    let broken = h.2 in
    search rules
