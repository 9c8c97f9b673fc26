use Rattle.std.proofs.Common.{refl, ap, ◌∙◌, None, codes, option_map}
use Rattle.clap.specs.Matches.{found_of}
use Rattle.clap.specs.Walk.{texts}
use Rattle.clap.specs.Words.{app_of}
use Rattle.clap.proofs.WalkLemmas.{first_value-rows}
use Rattle.oram_settings.specs.CommandLine.{is_given, request_for}
use Rattle.oram_settings.proofs.Requested.{request_is, request_refused, reason_refused, reason_sound}
use Rattle.oram_settings.proofs.command_line.read_command_line.Goals as goal

pub returns-in-Err-clause-none : goal.returns-in-Err-clause-none
returns-in-Err-clause-none c other =
    request_refused (app_of c.in_ok-command.field-0) c.in_ok-command.ensures (texts c.args.words.now) c.in-Err.error c.in-Err.ensures.kinds c.in_ok-no_request_for-in-Err.field-0 c.in_ok-no_request_for-in-Err.ensures other

pub returns-in-Err-clause-reason : goal.returns-in-Err-clause-reason
returns-in-Err-clause-reason c =
    reason_refused (app_of c.in_ok-command.field-0) c.in_ok-command.ensures (texts c.args.words.now) c.in-Err.error c.in-Err.ensures.kinds c.in_ok-no_request_for-in-Err.field-0 c.in_ok-no_request_for-in-Err.ensures

pub returns-in_default-get_str-clause-none : goal.returns-in_default-get_str-clause-none
returns-in_default-get_str-clause-none c other =
    request_is (app_of c.in_ok-command.field-0) c.in_ok-command.ensures (texts c.args.words.now) c.in-Ok.matches c.in-Ok.ensures.kinds c.in-Ok.ensures.matches _ _ None _ _ _ _ _ c.in-Some.ensures.name c.in-Some.ensures.rows
    (c.in_default-get_str.ensures ∙ first_value-rows (found_of c.in-Some.inner.now) (codes "word")) refl refl refl
    (first_value-rows (found_of c.in-Some.inner.now) (codes "size"))
    (first_value-rows (found_of c.in-Some.inner.now) (codes "image"))

pub returns-in_default-get_str-clause-reason : goal.returns-in_default-get_str-clause-reason
returns-in_default-get_str-clause-reason c =
    reason_sound (app_of c.in_ok-command.field-0) c.in_ok-command.ensures (texts c.args.words.now) c.in-Ok.ensures.kinds c.no_request-in_default-get_str.result c.no_request-in_default-get_str.ensures

pub returns-in-Some-2-clause-ok : goal.returns-in-Some-2-clause-ok
returns-in-Some-2-clause-ok c =
    request_is (app_of c.in_ok-command.field-0) c.in_ok-command.ensures (texts c.args.words.now) c.in-Ok.matches c.in-Ok.ensures.kinds c.in-Ok.ensures.matches _ _ _ _ _ _ _ _ c.in-Some.ensures.name c.in-Some.ensures.rows
    (c.in-Some-get_str.ensures ∙ first_value-rows (found_of c.in-Some.inner.now) (codes "word"))
    (c.is_given-is_new.ensures ∙ ap is_given (c.get_str-2.ensures ∙ first_value-rows (found_of c.in-Some.inner.now) (codes "new")))
    (c.is_given-is_json.ensures ∙ ap is_given (c.get_str-3.ensures ∙ first_value-rows (found_of c.in-Some.inner.now) (codes "json")))
    (c.is_given-is_salvage.ensures ∙ ap is_given (c.get_str-4.ensures ∙ first_value-rows (found_of c.in-Some.inner.now) (codes "salvage")))
    (c.get_str-size.ensures ∙ first_value-rows (found_of c.in-Some.inner.now) (codes "size"))
    (c.get_str-image.ensures ∙ first_value-rows (found_of c.in-Some.inner.now) (codes "image"))
    ∙ (c.in_ok-words.ensures ∙ ap (option_map request_for) c.in-Some-2.is)

pub returns-clause-none : goal.returns-clause-none
returns-clause-none c other =
    request_is (app_of c.in_ok-command.field-0) c.in_ok-command.ensures (texts c.args.words.now) c.in-Ok.matches c.in-Ok.ensures.kinds c.in-Ok.ensures.matches _ _ _ _ _ _ _ _ c.in-Some.ensures.name c.in-Some.ensures.rows
    (c.in-Some-get_str.ensures ∙ first_value-rows (found_of c.in-Some.inner.now) (codes "word"))
    (c.is_given-is_new.ensures ∙ ap is_given (c.get_str-2.ensures ∙ first_value-rows (found_of c.in-Some.inner.now) (codes "new")))
    (c.is_given-is_json.ensures ∙ ap is_given (c.get_str-3.ensures ∙ first_value-rows (found_of c.in-Some.inner.now) (codes "json")))
    (c.is_given-is_salvage.ensures ∙ ap is_given (c.get_str-4.ensures ∙ first_value-rows (found_of c.in-Some.inner.now) (codes "salvage")))
    (c.get_str-size.ensures ∙ first_value-rows (found_of c.in-Some.inner.now) (codes "size"))
    (c.get_str-image.ensures ∙ first_value-rows (found_of c.in-Some.inner.now) (codes "image"))
    ∙ (c.in_ok-words.ensures ∙ ap (option_map request_for) c.in-None.is)

pub returns-clause-reason : goal.returns-clause-reason
returns-clause-reason c =
    reason_sound (app_of c.in_ok-command.field-0) c.in_ok-command.ensures (texts c.args.words.now) c.in-Ok.ensures.kinds c.no_request-in-None.result c.no_request-in-None.ensures
