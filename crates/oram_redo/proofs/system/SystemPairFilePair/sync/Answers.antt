use Rattle.std.proofs.Common.{◌∙◌, ap}
use Rattle.oram_redo.specs.System.{has_failed_sync}
use Rattle.oram_redo.specs.declared.file_pair.FileKind.TheVariants.{Log}
use Rattle.oram_redo.proofs.Touched.{stilled_failed, stilled_nothing, stilled_synced, stilled_then, synced_sure}
use Rattle.oram_redo.proofs.system.SystemPairFilePair.sync.Goals as goal

pub returns-in-Ok-clause-sure : goal.returns-in-Ok-clause-sure
returns-in-Ok-clause-sure c = synced_sure c.args.self.now.origin.held c.args.self.now.files.history.calls c.sync-synced.new.self.history.calls c.args.file (c.args.self.now.failed ∙ c.if-self.false) c.in-Ok.ensures c.grow.new.files.history.calls c.grow.ensures

pub returns-in-Ok-clause-seen : goal.returns-in-Ok-clause-seen
returns-in-Ok-clause-seen c = (stilled_then c.args.self.now.origin.held c.args.self.now.files.history.calls c.sync-synced.new.self.history.calls c.grow.new.files.history.calls (stilled_synced c.args.self.now.origin.held c.args.self.now.files.history.calls c.sync-synced.new.self.history.calls c.args.file (c.args.self.now.failed ∙ c.if-self.false) c.in-Ok.ensures) (stilled_nothing c.args.self.now.origin.held c.sync-synced.new.self.history.calls c.grow.new.files.history.calls c.grow.ensures)).seen

pub returns-in-Ok-clause-crash : goal.returns-in-Ok-clause-crash
returns-in-Ok-clause-crash c = (stilled_then c.args.self.now.origin.held c.args.self.now.files.history.calls c.sync-synced.new.self.history.calls c.grow.new.files.history.calls (stilled_synced c.args.self.now.origin.held c.args.self.now.files.history.calls c.sync-synced.new.self.history.calls c.args.file (c.args.self.now.failed ∙ c.if-self.false) c.in-Ok.ensures) (stilled_nothing c.args.self.now.origin.held c.sync-synced.new.self.history.calls c.grow.new.files.history.calls c.grow.ensures)).crash

pub returns-in-Ok-clause-time : goal.returns-in-Ok-clause-time
returns-in-Ok-clause-time c = (stilled_then c.args.self.now.origin.held c.args.self.now.files.history.calls c.sync-synced.new.self.history.calls c.grow.new.files.history.calls (stilled_synced c.args.self.now.origin.held c.args.self.now.files.history.calls c.sync-synced.new.self.history.calls c.args.file (c.args.self.now.failed ∙ c.if-self.false) c.in-Ok.ensures) (stilled_nothing c.args.self.now.origin.held c.sync-synced.new.self.history.calls c.grow.new.files.history.calls c.grow.ensures)).time

pub returns-in-Ok-clause-after : goal.returns-in-Ok-clause-after
returns-in-Ok-clause-after c = record { honest = (stilled_then c.args.self.now.origin.held c.args.self.now.files.history.calls c.sync-synced.new.self.history.calls c.grow.new.files.history.calls (stilled_synced c.args.self.now.origin.held c.args.self.now.files.history.calls c.sync-synced.new.self.history.calls c.args.file (c.args.self.now.failed ∙ c.if-self.false) c.in-Ok.ensures) (stilled_nothing c.args.self.now.origin.held c.sync-synced.new.self.history.calls c.grow.new.files.history.calls c.grow.ensures)).honest; failed = λ n so. so; short = λ n so. so }

pub returns-in-Err-clause-seen : goal.returns-in-Err-clause-seen
returns-in-Err-clause-seen c = (stilled_failed c.args.self.now.origin.held c.args.self.now.files.history.calls c.sync-synced.new.self.history.calls c.args.file c.in-Err.ensures).seen

pub returns-in-Err-clause-crash : goal.returns-in-Err-clause-crash
returns-in-Err-clause-crash c = (stilled_failed c.args.self.now.origin.held c.args.self.now.files.history.calls c.sync-synced.new.self.history.calls c.args.file c.in-Err.ensures).crash

pub returns-in-Err-clause-time : goal.returns-in-Err-clause-time
returns-in-Err-clause-time c = (stilled_failed c.args.self.now.origin.held c.args.self.now.files.history.calls c.sync-synced.new.self.history.calls c.args.file c.in-Err.ensures).time

pub returns-in-Err-clause-after : goal.returns-in-Err-clause-after
returns-in-Err-clause-after c = record { honest = (stilled_failed c.args.self.now.origin.held c.args.self.now.files.history.calls c.sync-synced.new.self.history.calls c.args.file c.in-Err.ensures).honest; failed = λ n so. so; short = λ n so. so }

pub invariant_of-self : goal.invariant_of-self
invariant_of-self c = record { failed = (c.grow.ensures c.args.self.now.origin.held Log 0 0).syncs ∙ ap has_failed_sync c.in-Ok.ensures ∙ c.args.self.now.failed }
