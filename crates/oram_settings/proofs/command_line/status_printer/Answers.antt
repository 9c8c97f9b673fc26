use Rattle.std.proofs.Common.{◌∙◌, ap, ap₂}
use Rattle.std.proofs.lemmas.Result.{IfOk-weaker}
use Rattle.clap.specs.Simple.{App, with_rule}
use Rattle.oram_settings.proofs.Arguments.{about_local, action_local, after_help_local, help_local, long_local, version_local, with_about, with_action, with_after_help, with_help, with_long, with_version}
use Rattle.oram_settings.proofs.command_line.status_printer.Goals as goal

pub with_args-requires-clause-word : goal.with_args-requires-clause-word
with_args-requires-clause-word c = c.word.ensures.local

pub with_args-requires-clause-more : goal.with_args-requires-clause-more
with_args-requires-clause-more c =
    let longer = long_local c.new.result c.long.result c.new.ensures.optional.1 _ c.long.ensures in
    let helped = help_local c.long.result c.help.result longer _ c.help.ensures in
    action_local c.help.result c.action-json.result helped _ c.action-json.ensures

pub with_args-requires-clause-local : goal.with_args-requires-clause-local
with_args-requires-clause-local c =
    let version = version_local c.new-2.result c.version.result c.new-2.ensures.local _ c.version.ensures in
    let about = about_local c.version.result c.about.result version _ c.about.ensures in
    after_help_local c.about.result c.after_help-status.result about _ c.after_help-status.ensures

pub returns-clause-local : goal.returns-clause-local
returns-clause-local c = c.with_args.ensures.local

pub returns-clause-shape : goal.returns-clause-shape
returns-clause-shape c =
    let longer = with_long c.new.result c.long.result _ c.new.ensures.rule _ c.long.ensures in
    let helped = with_help c.long.result c.help.result _ longer _ c.help.ensures in
    let json = with_action c.help.result c.action-json.result _ helped _ c.action-json.ensures in
    let version = with_version c.new-2.result c.version.result _ c.new-2.ensures.app _ c.version.ensures in
    let about = with_about c.version.result c.about.result _ version _ c.about.ensures in
    let base = with_after_help c.about.result c.after_help-status.result _ about _ c.after_help-status.ensures in
    IfOk-weaker c.with_args.result _ _ (λ m is. ap (λ (a : App). a.top) (is ∙ ap₂ with_rule (ap₂ with_rule base c.word.ensures.rule) json)) c.with_args.ensures.app
