use Rattle.std.proofs.Common.{◌∙◌}
use Rattle.oram_redo.specs.declared.file_pair.FileKind.TheVariants.{Log}
use Rattle.oram_redo.proofs.Touched.{nothing_seen, nothing_left}
use Rattle.oram_redo.proofs.system.SystemPairFilePair.read_onto.Goals as goal

pub returns-in-Ok-clause-seen : goal.returns-in-Ok-clause-seen
returns-in-Ok-clause-seen c = nothing_seen c.args.self.now.origin.held c.args.self.now.files.history.calls c.read_behind.new.files.history.calls c.read_behind.ensures.nothing

pub returns-in-Ok-clause-crash : goal.returns-in-Ok-clause-crash
returns-in-Ok-clause-crash c = nothing_left c.args.self.now.origin.held c.args.self.now.files.history.calls c.read_behind.new.files.history.calls c.read_behind.ensures.nothing

pub returns-in-Ok-clause-time : goal.returns-in-Ok-clause-time
returns-in-Ok-clause-time c = (c.read_behind.ensures.nothing c.args.self.now.origin.held Log 0 0).time

pub returns-in-Ok-clause-after : goal.returns-in-Ok-clause-after
returns-in-Ok-clause-after c = record { honest = (c.read_behind.ensures.nothing c.args.self.now.origin.held Log 0 0).honest; failed = λ n so. so; short = λ n so. so }

pub returns-in-Err-clause-seen : goal.returns-in-Err-clause-seen
returns-in-Err-clause-seen c = nothing_seen c.args.self.now.origin.held c.args.self.now.files.history.calls c.read_behind.new.files.history.calls c.read_behind.ensures.nothing

pub returns-in-Err-clause-crash : goal.returns-in-Err-clause-crash
returns-in-Err-clause-crash c = nothing_left c.args.self.now.origin.held c.args.self.now.files.history.calls c.read_behind.new.files.history.calls c.read_behind.ensures.nothing

pub returns-in-Err-clause-time : goal.returns-in-Err-clause-time
returns-in-Err-clause-time c = (c.read_behind.ensures.nothing c.args.self.now.origin.held Log 0 0).time

pub returns-in-Err-clause-after : goal.returns-in-Err-clause-after
returns-in-Err-clause-after c = record { honest = (c.read_behind.ensures.nothing c.args.self.now.origin.held Log 0 0).honest; failed = λ n so. so; short = λ n so. so }

pub invariant_of-self : goal.invariant_of-self
invariant_of-self c = record { failed = (c.read_behind.ensures.nothing c.args.self.now.origin.held Log 0 0).syncs ∙ c.args.self.now.failed }

pub invariant_of-self-in-Err : goal.invariant_of-self-in-Err
invariant_of-self-in-Err c = record { failed = (c.read_behind.ensures.nothing c.args.self.now.origin.held Log 0 0).syncs ∙ c.args.self.now.failed }
