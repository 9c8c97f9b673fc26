use Rattle.std.proofs.Common.{[], ap, ◌∙◌}
use Rattle.oram_redo.specs.Log.{AgreesBut}
use Rattle.oram_redo.specs.Redo.{end_of}
use Rattle.oram_redo.specs.declared.file_pair.FileKind.TheVariants.{Records}
use Rattle.oram_redo.proofs.Outcomes.{on_ok_holds, on_ok_none}
use Rattle.oram_redo.specs.declared.redo.Redo.{Redo}
use Rattle.oram_store.proofs.Crashes.{calls_then, passes_then}
use Rattle.oram_store.proofs.Outcomes.{calls_passed}
use Rattle.oram_store.proofs.Sound.{reads_passes}
use Rattle.oram_store.proofs.record_file.RecordFile.begin_anew.Goals as goal

pub returns-in_err-settle-clause-passes : goal.returns-in_err-settle-clause-passes
returns-in_err-settle-clause-passes g c = c.settle.ensures.passes

pub returns-in_err-settle-clause-empty : goal.returns-in_err-settle-clause-empty
returns-in_err-settle-clause-empty g c = on_ok_none c.from_residual.result _ c.from_residual.ensures.0

pub returns-in_err-settle-clause-sure : goal.returns-in_err-settle-clause-sure
returns-in_err-settle-clause-sure g c = on_ok_none c.from_residual.result _ c.from_residual.ensures.0

pub returns-in_err-settle-clause-calls : goal.returns-in_err-settle-clause-calls
returns-in_err-settle-clause-calls g c =
    calls_passed g.F.FilePair.model c.from_residual.result c.in_err-settle.field-0.0 c.args.self.now c.settle.new.self c.from_residual.ensures.1 c.in_err-settle.ensures.calls

pub returns-in_err-settle-clause-running : goal.returns-in_err-settle-clause-running
returns-in_err-settle-clause-running g c = on_ok_none c.from_residual.result _ c.from_residual.ensures.0

pub returns-clause-passes : goal.returns-clause-passes
returns-clause-passes g c loose s =
    let model = g.F.FilePair.model in
    let old = c.args.self.now in
    let mid = c.settle.new.self in
    let new = c.begin_generation.new.self in
    passes_then model old mid new [] [] (λ r. AgreesBut loose r (model.seen old.files Records)) (λ r. AgreesBut [] r (model.seen mid.files Records)) (λ r. AgreesBut loose r (model.seen old.files Records))
    (c.settle.ensures.passes loose s) (λ steady. reads_passes model mid new [] steady c.begin_generation.ensures.reads) c.begin_generation.ensures.calls.runs.stays
    (g.met.F.FilePair.counts_now mid.files) (g.met.F.FilePair.whole mid.files) (λ r agrees. agrees) (λ r agrees i spared. agrees i tt ∙ c.settle.ensures.same i)

pub returns-clause-empty : goal.returns-clause-empty
returns-clause-empty g c = on_ok_holds c.begin_generation.result _ (ap (λ (r : Redo). end_of r) c.begin_generation.ensures.reads.redo ∙ c.in_ok-settle.ensures.empty)

pub returns-clause-sure : goal.returns-clause-sure
returns-clause-sure g c = on_ok_holds c.begin_generation.result _ (c.begin_generation.ensures.reads.loose ∙ c.in_ok-settle.ensures.sure)

pub returns-clause-same : goal.returns-clause-same
returns-clause-same g c i = c.begin_generation.ensures.reads.nothing.seen_same Records i ∙ c.settle.ensures.same i

pub returns-clause-calls : goal.returns-clause-calls
returns-clause-calls g c =
    calls_then g.F.FilePair.model c.begin_generation.result c.args.self.now c.settle.new.self c.begin_generation.new.self
    c.settle.ensures.calls.runs c.in_ok-settle.ensures.calls.goes_on c.begin_generation.ensures.calls

pub returns-clause-running : goal.returns-clause-running
returns-clause-running g c = c.begin_generation.ensures.running
