use Rattle.std.proofs.Common.{◌∙◌, length}
use Rattle.oram_redo.specs.System.{seen_after}
use Rattle.oram_redo.specs.declared.file_pair.FileKind.TheVariants.{Log}
use Rattle.oram_redo.proofs.Touched.{nothing_seen, touched_then, wrote_after}
use Rattle.oram_redo.proofs.system.SystemPairFilePair.write_at.Goals as goal

pub returns-in-Ok-clause-written : goal.returns-in-Ok-clause-written
returns-in-Ok-clause-written c =
    let first = c.args.self.now.origin.held in
    let old = c.args.self.now.files.history.calls in
    let mid = c.reach.new.files.history.calls in
    wrote_after c.args.file c.args.at c.args.bytes.now (seen_after first old) (seen_after first mid) (seen_after first c.write_all.new.files.history.calls) (nothing_seen first old mid c.reach.ensures) (c.in-Ok.ensures.written first)

pub returns-in-Ok-clause-torn : goal.returns-in-Ok-clause-torn
returns-in-Ok-clause-torn c =
    let first = c.args.self.now.origin.held in
    (touched_then first c.args.file c.args.at (length c.args.bytes.now) c.args.self.now.files.history.calls c.reach.new.files.history.calls c.write_all.new.files.history.calls (c.reach.ensures first c.args.file c.args.at (length c.args.bytes.now)) (c.write_all.ensures.touched first)).torn

pub returns-in-Ok-clause-crash : goal.returns-in-Ok-clause-crash
returns-in-Ok-clause-crash c =
    let first = c.args.self.now.origin.held in
    (touched_then first c.args.file c.args.at (length c.args.bytes.now) c.args.self.now.files.history.calls c.reach.new.files.history.calls c.write_all.new.files.history.calls (c.reach.ensures first c.args.file c.args.at (length c.args.bytes.now)) (c.write_all.ensures.touched first)).crash

pub returns-in-Ok-clause-time : goal.returns-in-Ok-clause-time
returns-in-Ok-clause-time c =
    let first = c.args.self.now.origin.held in
    (touched_then first c.args.file c.args.at (length c.args.bytes.now) c.args.self.now.files.history.calls c.reach.new.files.history.calls c.write_all.new.files.history.calls (c.reach.ensures first c.args.file c.args.at (length c.args.bytes.now)) (c.write_all.ensures.touched first)).time

pub returns-in-Ok-clause-after : goal.returns-in-Ok-clause-after
returns-in-Ok-clause-after c =
    let first = c.args.self.now.origin.held in
    record {
      honest = (touched_then first c.args.file c.args.at (length c.args.bytes.now) c.args.self.now.files.history.calls c.reach.new.files.history.calls c.write_all.new.files.history.calls (c.reach.ensures first c.args.file c.args.at (length c.args.bytes.now)) (c.write_all.ensures.touched first)).honest;
      failed = λ n so. so;
      short = λ n so. so;
    }

pub returns-in-Err-clause-torn : goal.returns-in-Err-clause-torn
returns-in-Err-clause-torn c =
    let first = c.args.self.now.origin.held in
    (touched_then first c.args.file c.args.at (length c.args.bytes.now) c.args.self.now.files.history.calls c.reach.new.files.history.calls c.write_all.new.files.history.calls (c.reach.ensures first c.args.file c.args.at (length c.args.bytes.now)) (c.write_all.ensures.touched first)).torn

pub returns-in-Err-clause-crash : goal.returns-in-Err-clause-crash
returns-in-Err-clause-crash c =
    let first = c.args.self.now.origin.held in
    (touched_then first c.args.file c.args.at (length c.args.bytes.now) c.args.self.now.files.history.calls c.reach.new.files.history.calls c.write_all.new.files.history.calls (c.reach.ensures first c.args.file c.args.at (length c.args.bytes.now)) (c.write_all.ensures.touched first)).crash

pub returns-in-Err-clause-time : goal.returns-in-Err-clause-time
returns-in-Err-clause-time c =
    let first = c.args.self.now.origin.held in
    (touched_then first c.args.file c.args.at (length c.args.bytes.now) c.args.self.now.files.history.calls c.reach.new.files.history.calls c.write_all.new.files.history.calls (c.reach.ensures first c.args.file c.args.at (length c.args.bytes.now)) (c.write_all.ensures.touched first)).time

pub returns-in-Err-clause-after : goal.returns-in-Err-clause-after
returns-in-Err-clause-after c =
    let first = c.args.self.now.origin.held in
    record {
      honest = (touched_then first c.args.file c.args.at (length c.args.bytes.now) c.args.self.now.files.history.calls c.reach.new.files.history.calls c.write_all.new.files.history.calls (c.reach.ensures first c.args.file c.args.at (length c.args.bytes.now)) (c.write_all.ensures.touched first)).honest;
      failed = λ n so. so;
      short = λ n so. so;
    }

pub invariant_of-self : goal.invariant_of-self
invariant_of-self c = record { failed = (c.write_all.ensures.touched c.args.self.now.origin.held).syncs ∙ (c.reach.ensures c.args.self.now.origin.held Log 0 0).syncs ∙ c.args.self.now.failed }

pub invariant_of-self-in-Err : goal.invariant_of-self-in-Err
invariant_of-self-in-Err c = record { failed = (c.write_all.ensures.touched c.args.self.now.origin.held).syncs ∙ (c.reach.ensures c.args.self.now.origin.held Log 0 0).syncs ∙ c.args.self.now.failed }
