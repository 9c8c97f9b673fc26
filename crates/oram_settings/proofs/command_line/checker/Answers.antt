use Rattle.std.proofs.Common.{◌∙◌, ap, ap₂}
use Rattle.std.proofs.lemmas.Result.{IfOk-weaker}
use Rattle.clap.specs.Simple.{App, with_rule}
use Rattle.oram_settings.proofs.Arguments.{about_local, after_help_local, version_local, with_about, with_after_help, with_version}
use Rattle.oram_settings.proofs.command_line.checker.Goals as goal

pub with_args-requires-clause-word : goal.with_args-requires-clause-word
with_args-requires-clause-word c = c.word-settings.ensures.local

pub with_args-requires-clause-more : goal.with_args-requires-clause-more
with_args-requires-clause-more c = c.salvage_flag.ensures.local

pub with_args-requires-clause-local : goal.with_args-requires-clause-local
with_args-requires-clause-local c =
    let version = version_local c.new.result c.version.result c.new.ensures.local _ c.version.ensures in
    let about = about_local c.version.result c.about.result version _ c.about.ensures in
    after_help_local c.about.result c.after_help-check.result about _ c.after_help-check.ensures

pub returns-clause-local : goal.returns-clause-local
returns-clause-local c = c.with_args.ensures.local

pub returns-clause-shape : goal.returns-clause-shape
returns-clause-shape c =
    let version = with_version c.new.result c.version.result _ c.new.ensures.app _ c.version.ensures in
    let about = with_about c.version.result c.about.result _ version _ c.about.ensures in
    let base = with_after_help c.about.result c.after_help-check.result _ about _ c.after_help-check.ensures in
    IfOk-weaker c.with_args.result _ _ (λ m is. ap (λ (a : App). a.top) (is ∙ ap₂ with_rule (ap₂ with_rule base c.word-settings.ensures.rule) c.salvage_flag.ensures.rule)) c.with_args.ensures.app
