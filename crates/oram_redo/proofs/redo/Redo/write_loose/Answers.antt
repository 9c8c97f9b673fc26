use Rattle.std.proofs.lemmas.Result.{on_ok_weaker}
use Rattle.oram_redo.specs.Log.{Keeps, Patch}
use Rattle.oram_redo.specs.Redo.{bounds_of}
use Rattle.std.proofs.Common.{◌∷◌, inl}
use Rattle.oram_redo.proofs.Moments.{one_call}
use Rattle.oram_redo.proofs.Consistent.{consistent_loose, keeps_loose, keeps_before}
use Rattle.oram_redo.proofs.redo.Redo.write_loose.Goals as goal

pub returns-clause-loose : goal.returns-clause-loose
returns-clause-loose g c loose s =
    consistent_loose c.args.self.now loose _ _ s (c.args.at, c.args.bytes.now) _ _ c.write_at.ensures.torn c.write_at.ensures.crash

pub returns-clause-any_moment : goal.returns-clause-any_moment
returns-clause-any_moment g c loose s =
    let patch : Patch = (c.args.at, c.args.bytes.now) in
    one_call g.F.FilePair.model c.args.files.now c.write_at.new.self
    (Keeps (bounds_of c.args.self.now) (patch ∷ loose) (g.F.FilePair.model.seen c.args.files.now)) _
    (λ f left. keeps_before c.args.self.now loose _ _ s patch f (g.met.F.FilePair.only_now c.args.files.now f left))
    c.write_at.ensures.time (keeps_loose c.args.self.now loose _ _ s patch _ c.write_at.ensures.crash)

pub returns-clause-bytes : goal.returns-clause-bytes
returns-clause-bytes g c = on_ok_weaker c.write_at.result (λ wrote. wrote.there) c.write_at.ensures.written

pub returns-clause-elsewhere : goal.returns-clause-elsewhere
returns-clause-elsewhere g c = c.write_at.ensures.torn

pub returns-clause-no_room : goal.returns-clause-no_room
returns-clause-no_room g c is = c.write_at.ensures.cause.no_room is

pub returns-clause-after : goal.returns-clause-after
returns-clause-after g c = c.write_at.ensures.after

pub returns-clause-failed : goal.returns-clause-failed
returns-clause-failed g c is = inl (c.write_at.ensures.cause.failed is)

pub returns-clause-errors : goal.returns-clause-errors
returns-clause-errors g c = c.write_at.ensures.errors
