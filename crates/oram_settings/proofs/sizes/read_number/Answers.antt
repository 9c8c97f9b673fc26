use Rattle.std.proofs.Common.{rules, ap}
use Rattle.std.specs.Result.{result_ok}
use Rattle.std.proofs.lemmas.Fmt.{parse-decimal}
use Rattle.oram_settings.proofs.Units.{if_some, number_from, number_begins}
use Rattle.oram_settings.proofs.sizes.read_number.Goals as goal

pub returns-then-not-begins_number-clause-none : goal.returns-then-not-begins_number-clause-none
returns-then-not-begins_number-clause-none c t n some fits e =
    let begins = number_begins c.args.text.now n some fits e in
    search (rules, begins)

pub returns-clause-some : goal.returns-clause-some
returns-clause-some c =
    rw c.ok.ensures.value (if_some c.parse.result _ (number_from c.args.text.now c.parse.result c.parse.ensures.value.0 (search rules)))

pub returns-clause-none : goal.returns-clause-none
returns-clause-none c t n some fits e =
    let read = ap result_ok (parse-decimal 64 n c.args.text.now c.parse.result fits fits e c.parse.ensures.value.0) in
    cc
