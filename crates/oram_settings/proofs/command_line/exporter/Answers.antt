use Rattle.std.proofs.Common.{◌∙◌, ap, ap₂}
use Rattle.std.proofs.lemmas.Result.{IfOk-weaker}
use Rattle.clap.specs.Simple.{App, with_rule}
use Rattle.oram_settings.proofs.Arguments.{about_local, after_help_local, arg_local, version_local, with_about, with_after_help, with_arg, with_version}
use Rattle.oram_settings.proofs.command_line.exporter.Goals as goal

pub with_args-requires-clause-word : goal.with_args-requires-clause-word
with_args-requires-clause-word c = c.word-settings.ensures.local

pub with_args-requires-clause-more : goal.with_args-requires-clause-more
with_args-requires-clause-more c = c.image_word.ensures.local

pub with_args-requires-clause-local : goal.with_args-requires-clause-local
with_args-requires-clause-local c =
    let version = version_local c.new.result c.version.result c.new.ensures.local _ c.version.ensures in
    let about = about_local c.version.result c.about.result version _ c.about.ensures in
    after_help_local c.about.result c.after_help-export.result about _ c.after_help-export.ensures

pub returns-clause-local : goal.returns-clause-local
returns-clause-local c =
    IfOk-weaker c.arg.result _ _ (λ m adds. arg_local c.in_ok-with_args.field-0 m c.salvage_flag.result adds c.salvage_flag.ensures.local c.in_ok-with_args.ensures.local) c.arg.ensures

pub returns-clause-shape : goal.returns-clause-shape
returns-clause-shape c =
    let version = with_version c.new.result c.version.result _ c.new.ensures.app _ c.version.ensures in
    let about = with_about c.version.result c.about.result _ version _ c.about.ensures in
    let base = with_after_help c.about.result c.after_help-export.result _ about _ c.after_help-export.ensures in
    let both = c.in_ok-with_args.ensures.app ∙ ap₂ with_rule (ap₂ with_rule base c.word-settings.ensures.rule) c.image_word.ensures.rule in
    IfOk-weaker c.arg.result _ _ (λ m adds. ap (λ (a : App). a.top) (with_arg c.in_ok-with_args.field-0 m c.salvage_flag.result adds c.salvage_flag.ensures.local _ _ both c.salvage_flag.ensures.rule)) c.arg.ensures
