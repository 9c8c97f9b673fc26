use Rattle.std.proofs.Common.{subst, sym, length}
use Rattle.oram_redo.specs.FilePair.{Torn}
use Rattle.oram_redo.specs.Memory.{contents_of}
use Rattle.oram_redo.specs.declared.memory.Snapshot.{Snapshot}
use Rattle.oram_redo.proofs.Kept.{nothing_left, write_leaves, elapses_to}
use Rattle.oram_redo.proofs.TornWrites.{wrote_torn}
use Rattle.oram_redo.proofs.memory.MemoryPairFilePair.write_at.Goals as goal

pub returns-in-Ok-replace-clause-torn : goal.returns-in-Ok-replace-clause-torn
returns-in-Ok-replace-clause-torn c =
    subst (λ (s : Snapshot). Torn c.args.file c.args.at (length c.args.bytes.now) (contents_of c.args.self.now.held) (contents_of s)) (sym c.in-Ok-replace.ensures.ok)
    (wrote_torn c.args.file c.args.at c.args.bytes.now (contents_of c.args.self.now.held) (contents_of c.in-Ok.next) c.in-Ok.ensures.contents)

pub returns-in-Ok-replace-clause-crash : goal.returns-in-Ok-replace-clause-crash
returns-in-Ok-replace-clause-crash c d left =
    write_leaves c.args.self.now.held c.in-Ok.next c.replace.new.held c.args.file c.args.at c.args.bytes.now c.in-Ok.ensures.contents c.in-Ok.ensures.unsynced c.in-Ok-replace.ensures.ok d left

pub returns-in-Ok-replace-clause-time : goal.returns-in-Ok-replace-clause-time
returns-in-Ok-replace-clause-time c =
    let past = c.in-Ok-replace.ensures.past in
    elapses_to c.args.self.now.past.items c.replace.new.past.items past.0 c.args.self.now.held c.replace.new.held past.1 past.2

pub returns-in-Err-clause-crash : goal.returns-in-Err-clause-crash
returns-in-Err-clause-crash c d left = nothing_left c.args.self.now.held c.replace.new.held c.args.file c.args.at (length c.args.bytes.now) c.in-Err.ensures.err d left
