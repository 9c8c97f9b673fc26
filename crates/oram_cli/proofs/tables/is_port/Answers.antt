use Rattle.std.proofs.Common.{rules}
use Rattle.oram_cli.proofs.Ports.{port_begins, port_from, port_parses}
use Rattle.oram_cli.proofs.tables.is_port.Goals as goal

pub returns-then-begins_number : goal.returns-then-begins_number
returns-then-begins_number c = (
  λ t. port_from c.args.text.now c.parse.result c.parse.ensures.value.0 (search rules) (search (rules, t)),
  λ p. let parsed = port_parses c.args.text.now c.parse.result c.parse.ensures.value.0 p in search (rules, parsed),
)

pub returns-else-begins_number : goal.returns-else-begins_number
returns-else-begins_number c = (λ t. search (rules, t), λ p. let begins = port_begins c.args.text.now p in search (rules, begins))
