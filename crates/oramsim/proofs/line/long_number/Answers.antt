use Rattle.std.proofs.Common.{sym, ◌∙◌}
use Rattle.oramsim.proofs.Numbers.{numeral_parses, utf8_of_numeral, none_refuses, some_gives}
use Rattle.oramsim.proofs.line.long_number.Goals as goal

pub returns-in_err-ok : goal.returns-in_err-ok
returns-in_err-ok c =
    absurd (none_refuses c.from_utf8.result _ _ _ c.from_utf8.ensures.cases (sym c.ok.ensures.value ∙ c.in_err-ok.was) (utf8_of_numeral c.args.field.now (sym c.is_plain.ensures ∙ c.if-not-is_plain.false)))

pub returns : goal.returns
returns c =
    let same = (some_gives c.from_utf8.result _ _ c.in_ok-ok.field-0 c.from_utf8.ensures.cases (sym c.in_ok-ok.ensures.value)).0 in
    c.ok-2.ensures.value ∙ numeral_parses c.args.field.now c.parse.result (rw same at c.parse.ensures.value.0) (sym c.is_plain.ensures ∙ c.if-not-is_plain.false)
