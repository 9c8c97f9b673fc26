use Rattle.std.proofs.Common.{Ok, ap, sym, ◌∙◌, subst, refl}
use Rattle.oram_store.specs.RecordFile.{Calls, FileValue}
use Rattle.oram_store.proofs.Outcomes.{calls_closed, calls_made}
use Rattle.oram_store.proofs.Sound.{reads_nothing}
use Rattle.oram_store.proofs.record_file.RecordFile.begin_generation.Goals as goal

pub returns-then-self-clause-reads : goal.returns-then-self-clause-reads
returns-then-self-clause-reads g c = reads_nothing g.F.FilePair.model c.args.self.now (g.met.F.FilePair.only_now c.args.self.now.files)

pub returns-then-self-clause-calls : goal.returns-then-self-clause-calls
returns-then-self-clause-calls g c =
    calls_closed g.F.FilePair.model c.args.self.now (ap (λ (v : FileValue g.row.F.Denot). v.has_stopped) (sym c.self.view_is) ∙ c.if-self.true)

pub returns-in-Ok-clause-calls : goal.returns-in-Ok-clause-calls
returns-in-Ok-clause-calls g c =
    let new : FileValue g.row.F.Denot = record { files = c.begin_next.new.files; redo = c.self.inside.redo; is_loose = c.self.inside.is_loose; has_stopped = c.self.inside.has_stopped } in
    subst (λ (v : FileValue g.row.F.Denot). Calls g.F.FilePair.model (Ok tt) v new) c.self.view_is (calls_made g.F.FilePair.model (Ok tt) _ new c.if-self.false c.begin_next.ensures.after refl tt)
