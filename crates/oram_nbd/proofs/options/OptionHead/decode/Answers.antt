use Rattle.std.proofs.Common.{◌≡◌, Some, rules, sym, ap, ◌∙◌}
use Rattle.oram_nbd.specs.Options.{option_head, IsHead}
use Rattle.oram_nbd.specs.declared.options.OptionHead.{OptionHead}
use Rattle.oram_nbd.proofs.Texts.{same_head}
use Rattle.oram_nbd.proofs.options.OptionHead.decode.Goals as goal

pub returns-clause-only : goal.returns-clause-only
returns-clause-only c = λ h is e.
    let q : OptionHead = record { option = c.of.result; length = c.in_ok-length.length } in
    let text : c.args.bytes.now ≡ option_head q.option q.length = search rules in
    let fits : IsHead q = search rules in
    ap Some (same_head q h fits is (sym text ∙ e))
