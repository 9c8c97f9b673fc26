use Rattle.std.proofs.Common.{inl, [], true, false, Ok, Err, refl, subst, ap, sym, ◌∙◌}
use Rattle.oram_redo.specs.Batch.{patches_of}
use Rattle.oram_store.specs.RecordFile.{Calls, FileValue, MayHave}
use Rattle.oram_store.specs.declared.faults.StoreFault.TheVariants as fault
use Rattle.oram_store.proofs.Crashes.{stopped_passes}
use Rattle.oram_store.proofs.Outcomes.{calls_closed, calls_made}
use Rattle.oram_store.proofs.record_file.RecordFile.commit_if_room.Goals as goal

pub returns-then-self-clause-passes : goal.returns-then-self-clause-passes
returns-then-self-clause-passes g c s =
    stopped_passes g.F.FilePair.model c.args.self.now [] []
    (MayHave g.F.FilePair.model _ (patches_of c.args.batch.now) c.args.self.now) s
    (ap (λ (v : FileValue g.row.F.Denot). v.has_stopped) (sym c.self.view_is) ∙ c.if-self.true) (g.met.F.FilePair.only_now c.args.self.now.files) (λ r agrees. inl (λ i. agrees i tt))

pub returns-in-Ok-clause-calls : goal.returns-in-Ok-clause-calls
returns-in-Ok-clause-calls g c =
    let new : FileValue g.row.F.Denot = record { files = c.commit.new.files; redo = c.commit.new.self; is_loose = c.self.inside.is_loose; has_stopped = c.self.inside.has_stopped } in
    subst (λ (v : FileValue g.row.F.Denot). Calls g.F.FilePair.model (Ok true) v new) c.self.view_is (calls_made g.F.FilePair.model (Ok true) _ new c.if-self.false c.commit.ensures.after refl tt)

pub returns-in-Err-LogFull-clause-calls : goal.returns-in-Err-LogFull-clause-calls
returns-in-Err-LogFull-clause-calls g c =
    let new : FileValue g.row.F.Denot = record { files = c.commit.new.files; redo = c.commit.new.self; is_loose = c.self.inside.is_loose; has_stopped = c.self.inside.has_stopped } in
    subst (λ (v : FileValue g.row.F.Denot). Calls g.F.FilePair.model (Ok false) v new) c.self.view_is (calls_made g.F.FilePair.model (Ok false) _ new c.if-self.false c.commit.ensures.after refl tt)

pub returns-in-Err-Memory-clause-calls : goal.returns-in-Err-Memory-clause-calls
returns-in-Err-Memory-clause-calls g c =
    let new : FileValue g.row.F.Denot = record { files = c.commit.new.files; redo = c.commit.new.self; is_loose = c.self.inside.is_loose; has_stopped = c.self.inside.has_stopped } in
    subst (λ (v : FileValue g.row.F.Denot). Calls g.F.FilePair.model (Err fault.OutOfMemory) v new) c.self.view_is (calls_made g.F.FilePair.model (Err fault.OutOfMemory) _ new c.if-self.false c.commit.ensures.after refl tt)

pub returns-in-Err-NoRoom-clause-calls : goal.returns-in-Err-NoRoom-clause-calls
returns-in-Err-NoRoom-clause-calls g c =
    let new : FileValue g.row.F.Denot = record { files = c.commit.new.files; redo = c.commit.new.self; is_loose = c.self.inside.is_loose; has_stopped = c.self.inside.has_stopped } in
    subst (λ (v : FileValue g.row.F.Denot). Calls g.F.FilePair.model (Ok false) v new) c.self.view_is (calls_made g.F.FilePair.model (Ok false) _ new c.if-self.false c.commit.ensures.after refl tt)

pub returns-then-self-clause-calls : goal.returns-then-self-clause-calls
returns-then-self-clause-calls g c =
    calls_closed g.F.FilePair.model c.args.self.now (ap (λ (v : FileValue g.row.F.Denot). v.has_stopped) (sym c.self.view_is) ∙ c.if-self.true)
