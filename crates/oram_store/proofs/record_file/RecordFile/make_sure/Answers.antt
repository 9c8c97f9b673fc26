use Rattle.std.proofs.Common.{[], ap, sym, ◌∙◌}
use Rattle.oram_redo.specs.Log.{AgreesBut}
use Rattle.oram_redo.specs.declared.file_pair.FileKind.TheVariants.{Records}
use Rattle.oram_store.specs.RecordFile.{FileValue, IsSteady}
use Rattle.oram_store.proofs.Crashes.{found_leads, not_begun}
use Rattle.oram_store.proofs.Sound.{reads_passes}
use Rattle.oram_store.proofs.record_file.RecordFile.make_sure.Goals as goal

pub returns-then-has_empty_log-clause-passes : goal.returns-then-has_empty_log-clause-passes
returns-then-has_empty_log-clause-passes g c loose s =
    let model = g.F.FilePair.model in
    let old = c.args.self.now in
    let new = c.begin_generation.new.self in
    let sure : IsSteady model old [] = record {
      bounded = s.bounded;
      consistent = s.sure (ap (λ (v : FileValue g.row.F.Denot). v.is_loose) (sym c.self.view_is) ∙ c.if-self.false);
      sure = s.sure;
    } in
    let passes = reads_passes model old new [] sure c.begin_generation.ensures.reads in
    record {
      steady = passes.steady;
      moments = found_leads model old.files new.files (λ r. AgreesBut [] r (model.seen old.files Records)) (λ r. AgreesBut loose r (model.seen old.files Records))
          passes.moments (λ r agrees i spared. agrees i tt);
    }

pub returns-clause-passes : goal.returns-clause-passes
returns-clause-passes g c loose s = record {
  steady = λ running. record {
    bounded = s.bounded;
    consistent = s.sure (ap (λ (v : FileValue g.row.F.Denot). v.is_loose) (sym c.self.view_is) ∙ c.if-self.false);
    sure = s.sure;
  };
  moments = not_begun g.F.FilePair.model c.args.self.now loose
      (λ r. AgreesBut loose r (g.F.FilePair.model.seen c.args.self.now.files Records)) s (g.met.F.FilePair.only_now c.args.self.now.files) (λ r agrees. agrees);
}
