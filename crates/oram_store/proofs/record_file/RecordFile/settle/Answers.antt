use Rattle.std.proofs.Common.{[], ap, sym, ◌∙◌, subst, List, false, inl, refl, Ok}
use Rattle.oram_redo.specs.Log.{AgreesBut, Patch}
use Rattle.oram_redo.specs.declared.file_pair.FileKind.TheVariants.{Records}
use Rattle.oram_store.specs.RecordFile.{Calls, FileValue, IsSteady, Passes}
use Rattle.oram_store.proofs.Crashes.{failed_passes, found_by, restart_passes, stopped_passes}
use Rattle.oram_store.proofs.Outcomes.{calls_closed, calls_made}
use Rattle.oram_store.proofs.record_file.RecordFile.settle.Goals as goal

pub returns-then-self-clause-passes : goal.returns-then-self-clause-passes
returns-then-self-clause-passes g c loose s =
    stopped_passes g.F.FilePair.model c.args.self.now loose []
    (λ r. AgreesBut loose r (g.F.FilePair.model.seen c.args.self.now.files Records)) s
    (ap (λ (v : FileValue g.row.F.Denot). v.has_stopped) (sym c.self.view_is) ∙ c.if-self.true) (g.met.F.FilePair.only_now c.args.self.now.files) (λ r agrees. agrees)

pub returns-in-Ok-clause-passes : goal.returns-in-Ok-clause-passes
returns-in-Ok-clause-passes g c =
    let new : FileValue g.row.F.Denot = record { files = c.restart.new.files; redo = c.restart.new.self; is_loose = false; has_stopped = c.self.inside.has_stopped } in
    subst (λ (v : FileValue g.row.F.Denot). (loose : List Patch) → IsSteady g.F.FilePair.model v loose
    → Passes g.F.FilePair.model [] (λ r. AgreesBut loose r (g.F.FilePair.model.seen v.files Records)) v new) c.self.view_is
    (λ loose s. restart_passes g.F.FilePair.model _ c.restart.new.files c.restart.new.self c.self.inside.has_stopped loose s
    c.restart.ensures.bounds (c.in-Ok.ensures.consistent loose s.consistent) (c.restart.ensures.any_moment loose s.consistent))

pub returns-in-Err-clause-passes : goal.returns-in-Err-clause-passes
returns-in-Err-clause-passes g c =
    let new : FileValue g.row.F.Denot = c.stopped_by.new.self in
    let old : FileValue g.row.F.Denot = record { files = c.self.inside.files; redo = c.self.inside.redo; is_loose = c.self.inside.is_loose; has_stopped = c.self.inside.has_stopped } in
    subst (λ (v : FileValue g.row.F.Denot). (loose : List Patch) → IsSteady g.F.FilePair.model v loose
    → Passes g.F.FilePair.model [] (λ r. AgreesBut loose r (g.F.FilePair.model.seen v.files Records)) v new) c.self.view_is
    (λ loose s. failed_passes g.F.FilePair.model old new c.restart.new.files loose []
    (λ r. AgreesBut loose r (g.F.FilePair.model.seen c.self.inside.files Records)) s.bounded c.stopped_by.ensures.files
    (ap (λ (v : FileValue g.row.F.Denot). v.has_stopped) (c.stopped_by.ensures.others (inl c.in-Err.ensures.failed.0)).1)
    (found_by g.F.FilePair.model old c.restart.new.files loose
    (λ r. AgreesBut loose r (g.F.FilePair.model.seen c.self.inside.files Records)) s.bounded (c.restart.ensures.any_moment loose s.consistent) (λ r agrees. agrees)))

pub returns-then-self-clause-calls : goal.returns-then-self-clause-calls
returns-then-self-clause-calls g c =
    calls_closed g.F.FilePair.model c.args.self.now (ap (λ (v : FileValue g.row.F.Denot). v.has_stopped) (sym c.self.view_is) ∙ c.if-self.true)

pub returns-in-Ok-clause-calls : goal.returns-in-Ok-clause-calls
returns-in-Ok-clause-calls g c =
    let new : FileValue g.row.F.Denot = record { files = c.restart.new.files; redo = c.restart.new.self; is_loose = false; has_stopped = c.self.inside.has_stopped } in
    subst (λ (v : FileValue g.row.F.Denot). Calls g.F.FilePair.model (Ok tt) v new) c.self.view_is (calls_made g.F.FilePair.model (Ok tt) _ new c.if-self.false c.restart.ensures.after refl tt)
