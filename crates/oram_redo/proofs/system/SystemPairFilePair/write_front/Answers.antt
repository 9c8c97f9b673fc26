use Rattle.std.proofs.Common.{◌∙◌, ap}
use Rattle.oram_redo.specs.System.{has_failed_sync}
use Rattle.oram_redo.specs.declared.file_pair.FileKind.TheVariants.{Log}
use Rattle.oram_redo.proofs.Touched.{stilled_failed, stilled_nothing, stilled_synced, stilled_then, synced_sure, touched_none}
use Rattle.oram_redo.proofs.system.SystemPairFilePair.write_front.Goals as goal

pub invariant_of-self : goal.invariant_of-self
invariant_of-self c = record { failed = (c.write_with_length.ensures.nothing c.args.self.now.origin.held Log 0 0).syncs ∙ c.args.self.now.failed }

pub returns-in-Err-clause-seen : goal.returns-in-Err-clause-seen
returns-in-Err-clause-seen c = (stilled_nothing c.args.self.now.origin.held c.args.self.now.files.history.calls c.write_with_length.new.files.history.calls c.write_with_length.ensures.nothing).seen

pub returns-in-Err-clause-crash : goal.returns-in-Err-clause-crash
returns-in-Err-clause-crash c = (stilled_nothing c.args.self.now.origin.held c.args.self.now.files.history.calls c.write_with_length.new.files.history.calls c.write_with_length.ensures.nothing).crash

pub returns-in-Err-clause-time : goal.returns-in-Err-clause-time
returns-in-Err-clause-time c = (stilled_nothing c.args.self.now.origin.held c.args.self.now.files.history.calls c.write_with_length.new.files.history.calls c.write_with_length.ensures.nothing).time

pub returns-in-Err-clause-after : goal.returns-in-Err-clause-after
returns-in-Err-clause-after c = record { honest = (stilled_nothing c.args.self.now.origin.held c.args.self.now.files.history.calls c.write_with_length.new.files.history.calls c.write_with_length.ensures.nothing).honest; failed = λ n so. so; short = λ n so. so }

pub invariant_of-self-in-Ok : goal.invariant_of-self-in-Ok
invariant_of-self-in-Ok c = record { failed = ap has_failed_sync c.in-Ok.ensures ∙ (c.write_with_length.ensures.nothing c.args.self.now.origin.held Log 0 0).syncs ∙ c.args.self.now.failed }

pub returns-in-Ok-clause-sure : goal.returns-in-Ok-clause-sure
returns-in-Ok-clause-sure c = synced_sure c.args.self.now.origin.held c.write_with_length.new.files.history.calls c.sync.new.self.history.calls c.args.file ((c.write_with_length.ensures.nothing c.args.self.now.origin.held Log 0 0).syncs ∙ c.args.self.now.failed ∙ c.if-self.false) c.in-Ok.ensures c.sync.new.self.history.calls (λ first file at n. touched_none first file at n c.sync.new.self.history.calls)

pub returns-in-Ok-clause-seen : goal.returns-in-Ok-clause-seen
returns-in-Ok-clause-seen c = (stilled_then c.args.self.now.origin.held c.args.self.now.files.history.calls c.write_with_length.new.files.history.calls c.sync.new.self.history.calls (stilled_nothing c.args.self.now.origin.held c.args.self.now.files.history.calls c.write_with_length.new.files.history.calls c.write_with_length.ensures.nothing) (stilled_synced c.args.self.now.origin.held c.write_with_length.new.files.history.calls c.sync.new.self.history.calls c.args.file ((c.write_with_length.ensures.nothing c.args.self.now.origin.held Log 0 0).syncs ∙ c.args.self.now.failed ∙ c.if-self.false) c.in-Ok.ensures)).seen

pub returns-in-Ok-clause-crash : goal.returns-in-Ok-clause-crash
returns-in-Ok-clause-crash c = (stilled_then c.args.self.now.origin.held c.args.self.now.files.history.calls c.write_with_length.new.files.history.calls c.sync.new.self.history.calls (stilled_nothing c.args.self.now.origin.held c.args.self.now.files.history.calls c.write_with_length.new.files.history.calls c.write_with_length.ensures.nothing) (stilled_synced c.args.self.now.origin.held c.write_with_length.new.files.history.calls c.sync.new.self.history.calls c.args.file ((c.write_with_length.ensures.nothing c.args.self.now.origin.held Log 0 0).syncs ∙ c.args.self.now.failed ∙ c.if-self.false) c.in-Ok.ensures)).crash

pub returns-in-Ok-clause-time : goal.returns-in-Ok-clause-time
returns-in-Ok-clause-time c = (stilled_then c.args.self.now.origin.held c.args.self.now.files.history.calls c.write_with_length.new.files.history.calls c.sync.new.self.history.calls (stilled_nothing c.args.self.now.origin.held c.args.self.now.files.history.calls c.write_with_length.new.files.history.calls c.write_with_length.ensures.nothing) (stilled_synced c.args.self.now.origin.held c.write_with_length.new.files.history.calls c.sync.new.self.history.calls c.args.file ((c.write_with_length.ensures.nothing c.args.self.now.origin.held Log 0 0).syncs ∙ c.args.self.now.failed ∙ c.if-self.false) c.in-Ok.ensures)).time

pub returns-in-Ok-clause-after : goal.returns-in-Ok-clause-after
returns-in-Ok-clause-after c = record { honest = (stilled_then c.args.self.now.origin.held c.args.self.now.files.history.calls c.write_with_length.new.files.history.calls c.sync.new.self.history.calls (stilled_nothing c.args.self.now.origin.held c.args.self.now.files.history.calls c.write_with_length.new.files.history.calls c.write_with_length.ensures.nothing) (stilled_synced c.args.self.now.origin.held c.write_with_length.new.files.history.calls c.sync.new.self.history.calls c.args.file ((c.write_with_length.ensures.nothing c.args.self.now.origin.held Log 0 0).syncs ∙ c.args.self.now.failed ∙ c.if-self.false) c.in-Ok.ensures)).honest; failed = λ n so. so; short = λ n so. so }

pub returns-in-Err-sync-clause-seen : goal.returns-in-Err-sync-clause-seen
returns-in-Err-sync-clause-seen c = (stilled_then c.args.self.now.origin.held c.args.self.now.files.history.calls c.write_with_length.new.files.history.calls c.sync.new.self.history.calls (stilled_nothing c.args.self.now.origin.held c.args.self.now.files.history.calls c.write_with_length.new.files.history.calls c.write_with_length.ensures.nothing) (stilled_failed c.args.self.now.origin.held c.write_with_length.new.files.history.calls c.sync.new.self.history.calls c.args.file c.in-Err-sync.ensures)).seen

pub returns-in-Err-sync-clause-crash : goal.returns-in-Err-sync-clause-crash
returns-in-Err-sync-clause-crash c = (stilled_then c.args.self.now.origin.held c.args.self.now.files.history.calls c.write_with_length.new.files.history.calls c.sync.new.self.history.calls (stilled_nothing c.args.self.now.origin.held c.args.self.now.files.history.calls c.write_with_length.new.files.history.calls c.write_with_length.ensures.nothing) (stilled_failed c.args.self.now.origin.held c.write_with_length.new.files.history.calls c.sync.new.self.history.calls c.args.file c.in-Err-sync.ensures)).crash

pub returns-in-Err-sync-clause-time : goal.returns-in-Err-sync-clause-time
returns-in-Err-sync-clause-time c = (stilled_then c.args.self.now.origin.held c.args.self.now.files.history.calls c.write_with_length.new.files.history.calls c.sync.new.self.history.calls (stilled_nothing c.args.self.now.origin.held c.args.self.now.files.history.calls c.write_with_length.new.files.history.calls c.write_with_length.ensures.nothing) (stilled_failed c.args.self.now.origin.held c.write_with_length.new.files.history.calls c.sync.new.self.history.calls c.args.file c.in-Err-sync.ensures)).time

pub returns-in-Err-sync-clause-after : goal.returns-in-Err-sync-clause-after
returns-in-Err-sync-clause-after c = record { honest = (stilled_then c.args.self.now.origin.held c.args.self.now.files.history.calls c.write_with_length.new.files.history.calls c.sync.new.self.history.calls (stilled_nothing c.args.self.now.origin.held c.args.self.now.files.history.calls c.write_with_length.new.files.history.calls c.write_with_length.ensures.nothing) (stilled_failed c.args.self.now.origin.held c.write_with_length.new.files.history.calls c.sync.new.self.history.calls c.args.file c.in-Err-sync.ensures)).honest; failed = λ n so. so; short = λ n so. so }
