use Rattle.std.proofs.Common.{rules, ◌∙◌, None, codes}
use Rattle.clap.specs.Matches.{found_of}
use Rattle.clap.specs.Walk.{texts}
use Rattle.clap.specs.Words.{app_of}
use Rattle.clap.proofs.WalkLemmas.{first_value-rows}
use Rattle.oram_cli.proofs.Named.{named_is, named_none, named_refused}
use Rattle.oram_cli.proofs.command_line.read_named.Goals as goal

pub returns-in-Err-clause-bad : goal.returns-in-Err-clause-bad
returns-in-Err-clause-bad c h =
    named_refused (app_of c.args.command) (texts c.args.words.now) c.in-Err.error c.requires c.in-Err.ensures.kinds (c.input_fault.ensures (search (rules, h)))

pub returns-in_default-clause-bad : goal.returns-in_default-clause-bad
returns-in_default-clause-bad c h =
    named_none (app_of c.args.command) (texts c.args.words.now) c.in-Ok.matches c.requires c.in-Ok.ensures.kinds c.in-Ok.ensures.matches c.in_default.ensures.rows

pub returns-in_default-get_str-clause-bad : goal.returns-in_default-get_str-clause-bad
returns-in_default-get_str-clause-bad c h =
    named_is (app_of c.args.command) (texts c.args.words.now) c.in-Ok.matches _ _ None c.requires c.in-Ok.ensures.kinds c.in-Ok.ensures.matches c.in-Some.ensures.name c.in-Some.ensures.rows
    (c.in_default-get_str.ensures ∙ first_value-rows (found_of c.in-Some.inner.now) (codes "word"))

pub returns-clause-ok : goal.returns-clause-ok
returns-clause-ok c =
    named_is (app_of c.args.command) (texts c.args.words.now) c.in-Ok.matches _ _ _ c.requires c.in-Ok.ensures.kinds c.in-Ok.ensures.matches c.in-Some.ensures.name c.in-Some.ensures.rows
    (c.in-Some-get_str.ensures ∙ first_value-rows (found_of c.in-Some.inner.now) (codes "word"))
