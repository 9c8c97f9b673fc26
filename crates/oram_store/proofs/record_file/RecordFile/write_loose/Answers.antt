use Rattle.std.proofs.Common.{◌∷◌, ap, sym, ◌∙◌, subst, List, true, refl, Ok}
use Rattle.oram_redo.specs.Log.{AgreesBut, Patch}
use Rattle.oram_redo.specs.declared.file_pair.FileKind.TheVariants.{Records}
use Rattle.oram_store.specs.RecordFile.{Calls, FileValue, IsSteady, Passes}
use Rattle.oram_store.proofs.Crashes.{loose_passes, stopped_passes}
use Rattle.oram_store.proofs.Outcomes.{calls_closed, calls_made}
use Rattle.oram_store.proofs.record_file.RecordFile.write_loose.Goals as goal

pub returns-then-self-clause-passes : goal.returns-then-self-clause-passes
returns-then-self-clause-passes g c loose s =
    let p : Patch = (c.args.at, c.args.bytes.now) in
    stopped_passes g.F.FilePair.model c.args.self.now loose (p ∷ loose)
    (λ r. AgreesBut (p ∷ loose) r (g.F.FilePair.model.seen c.args.self.now.files Records)) s
    (ap (λ (v : FileValue g.row.F.Denot). v.has_stopped) (sym c.self.view_is) ∙ c.if-self.true) (g.met.F.FilePair.only_now c.args.self.now.files) (λ r agrees i spared. agrees i spared.1)

pub returns-in-Ok-clause-passes : goal.returns-in-Ok-clause-passes
returns-in-Ok-clause-passes g c =
    let p : Patch = (c.args.at, c.args.bytes.now) in
    let new : FileValue g.row.F.Denot = record { files = c.write_loose.new.files; redo = c.self.inside.redo; is_loose = true; has_stopped = c.self.inside.has_stopped } in
    subst (λ (v : FileValue g.row.F.Denot). (loose : List Patch) → IsSteady g.F.FilePair.model v loose
    → Passes g.F.FilePair.model (p ∷ loose) (λ r. AgreesBut (p ∷ loose) r (g.F.FilePair.model.seen v.files Records)) v new) c.self.view_is
    (λ loose s. loose_passes g.F.FilePair.model _ new c.write_loose.new.files p loose s refl refl refl
    (c.write_loose.ensures.loose loose s.consistent) (c.write_loose.ensures.any_moment loose s.consistent))

pub returns-in-Err-clause-passes : goal.returns-in-Err-clause-passes
returns-in-Err-clause-passes g c =
    let p : Patch = (c.args.at, c.args.bytes.now) in
    let new : FileValue g.row.F.Denot = c.stopped_by.new.self in
    subst (λ (v : FileValue g.row.F.Denot). (loose : List Patch) → IsSteady g.F.FilePair.model v loose
    → Passes g.F.FilePair.model (p ∷ loose) (λ r. AgreesBut (p ∷ loose) r (g.F.FilePair.model.seen v.files Records)) v new) c.self.view_is
    (λ loose s. loose_passes g.F.FilePair.model _ new c.write_loose.new.files p loose s c.stopped_by.ensures.files c.stopped_by.ensures.redo c.stopped_by.ensures.loose
    (c.write_loose.ensures.loose loose s.consistent) (c.write_loose.ensures.any_moment loose s.consistent))

pub returns-then-self-clause-calls : goal.returns-then-self-clause-calls
returns-then-self-clause-calls g c =
    calls_closed g.F.FilePair.model c.args.self.now (ap (λ (v : FileValue g.row.F.Denot). v.has_stopped) (sym c.self.view_is) ∙ c.if-self.true)

pub returns-in-Ok-clause-calls : goal.returns-in-Ok-clause-calls
returns-in-Ok-clause-calls g c =
    let new : FileValue g.row.F.Denot = record { files = c.write_loose.new.files; redo = c.self.inside.redo; is_loose = true; has_stopped = c.self.inside.has_stopped } in
    subst (λ (v : FileValue g.row.F.Denot). Calls g.F.FilePair.model (Ok tt) v new) c.self.view_is (calls_made g.F.FilePair.model (Ok tt) _ new c.if-self.false c.write_loose.ensures.after refl tt)
