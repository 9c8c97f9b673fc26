use Rattle.oram_core.proofs.messages.fill_failed.Goals as goal

pub loop-at-init : goal.loop-at-init
loop-at-init c = record { filled = c.requires.empty; count = c.requires.none; room = c.requires.room }

pub unreachable-unreachable : goal.unreachable-unreachable
unreachable-unreachable c = c.unreachable.result
