use Rattle.oram_settings.proofs.Tables.{no_name, some_name}
use Rattle.oram_settings.proofs.disk_file.sealing_named.Goals as goal

pub returns-in-plain-clause-some : goal.returns-in-plain-clause-some
returns-in-plain-clause-some c = c.in-plain.is

pub returns-in-plain-clause-none : goal.returns-in-plain-clause-none
returns-in-plain-clause-none c is s named = some_name _ ⊥ is

pub returns-in-chacha-clause-some : goal.returns-in-chacha-clause-some
returns-in-chacha-clause-some c = c.in-chacha.is

pub returns-in-chacha-clause-none : goal.returns-in-chacha-clause-none
returns-in-chacha-clause-none c is s named = some_name _ ⊥ is

pub returns-in_default-clause-none : goal.returns-in_default-clause-none
returns-in_default-clause-none c is s named = no_name c.args.name.now c.in_default.not-plain c.in_default.not-chacha s named
