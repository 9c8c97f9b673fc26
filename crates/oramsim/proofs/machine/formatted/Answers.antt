use Rattle.std.proofs.Common.{refl, rules}
use Rattle.oramsim.proofs.Formatted.{new_run, new_whole, room_alone}
use Rattle.oramsim.proofs.machine.formatted.Goals as goal

pub returns-clause-whole : goal.returns-clause-whole
returns-clause-whole c = rw c.in_ok-core.ensures.device (c.requires.load, new_whole c.args.device c.in_ok-core.core.state _ _ c.in_ok-core.ensures.made)

pub returns-clause-ok : goal.returns-clause-ok
returns-clause-ok c = new_run c.args.device _ _ c.requires.ranges c.in_ok-core.ensures.device c.new-server.ensures c.in_ok-core.ensures.made refl refl

pub returns-in_err-core-clause-err : goal.returns-in_err-core-clause-err
returns-in_err-core-clause-err c =
    let alone = room_alone c.args.device c.new-server.result c.format.new.sink c.in_err-core.field-0.0 c.requires.ranges c.new-server.ensures c.in_err-core.ensures.broken_off in
    search (rules, alone)
