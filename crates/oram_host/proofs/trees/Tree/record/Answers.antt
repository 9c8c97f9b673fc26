use Rattle.std.proofs.Common.{rules}
use Rattle.oram_host.proofs.Records.{empty_from, not_empty_from, record_absent, record_hollow, record_there}
use Rattle.oram_host.proofs.trees.Tree.record.Goals as goal
use Rattle.oram_host.proofs.trees.Tree.record.Goals.{in_default-via-in-Some+else-not-is_empty, in_default-via-in_default}

pub returns-in-Some-clause-there : goal.returns-in-Some-clause-there
returns-in-Some-clause-there c =
    record_there c.args.self.now c.args.node c.in-Some.bytes.now c.requires.ordered (search rules) (not_empty_from c.in-Some.bytes.now c.is_empty.result (search rules) (search rules))

pub returns-in_default-clause-there : goal.returns-in_default-clause-there
returns-in_default-clause-there c =
    elim c.in_default.branch [
      | in_default-via-in-Some+else-not-is_empty w ↦
          record_hollow c.args.self.now c.args.node w.in-Some.bytes.now c.requires.ordered (search rules) (empty_from w.in-Some.bytes.now w.is_empty.result (search rules) (search rules))
      | in_default-via-in_default w ↦ record_absent c.args.self.now c.args.node c.requires.ordered (search rules)
    ]
