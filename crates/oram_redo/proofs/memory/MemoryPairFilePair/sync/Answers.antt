use Rattle.oram_redo.proofs.Kept.{elapses_to}
use Rattle.oram_redo.proofs.memory.MemoryPairFilePair.sync.Goals as goal

pub returns-in-Ok-replace-clause-time : goal.returns-in-Ok-replace-clause-time
returns-in-Ok-replace-clause-time c =
    let past = c.in-Ok-replace.ensures.past in
    elapses_to c.args.self.now.past.items c.replace.new.past.items past.0 c.args.self.now.held c.replace.new.held past.1 past.2
