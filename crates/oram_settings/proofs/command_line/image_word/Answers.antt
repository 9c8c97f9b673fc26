use Rattle.oram_settings.proofs.Arguments.{help_local, name_local, need_local, with_help, with_name, with_need}
use Rattle.oram_settings.proofs.command_line.image_word.Goals as goal

pub returns-clause-rule : goal.returns-clause-rule
returns-clause-rule c =
    let named = with_name c.new.result c.value_name.result _ c.new.ensures.rule _ c.value_name.ensures in
    let helped = with_help c.value_name.result c.help.result _ named _ c.help.ensures in
    with_need c.help.result c.required.result _ helped _ c.required.ensures

pub returns-clause-local : goal.returns-clause-local
returns-clause-local c =
    let named = name_local c.new.result c.value_name.result c.new.ensures.optional.1 _ c.value_name.ensures in
    let helped = help_local c.value_name.result c.help.result named _ c.help.ensures in
    need_local c.help.result c.required.result helped _ c.required.ensures
