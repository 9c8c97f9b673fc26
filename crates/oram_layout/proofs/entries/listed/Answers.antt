use Rattle.std.proofs.Common.{arith}
use Rattle.oram_layout.proofs.Slots.{slot_damaged, slots_all, slots_more, slots_none}
use Rattle.oram_layout.proofs.entries.listed.Goals as goal

pub loop-number-init : goal.loop-number-init
loop-number-init c = slots_none c.args.bytes.now c.in_ok-trees.trees.items c.in_ok-trees.ensures.items

pub loop-number-preserved : goal.loop-number-preserved
loop-number-preserved c = slots_more c.args.bytes.now c.loop-number.trees.items c.push.new.self.items c.loop-number.number c.in_ok-read_entry.field-0 c.in_ok-push.ensures.items c.loop-number.invariant c.in_ok-read_entry.ensures.found

pub returns-in_err-read_entry-clause-damaged : goal.returns-in_err-read_entry-clause-damaged
returns-in_err-read_entry-clause-damaged c is = slot_damaged c.args.bytes.now c.loop-number.number c.requires c.loop-number-test.true c.in_err-read_entry.ensures.damaged

pub returns-clause-trees : goal.returns-clause-trees
returns-clause-trees c = slots_all c.args.bytes.now c.loop-number.trees.items c.loop-number.number c.requires (omega arith) c.loop-number.invariant
