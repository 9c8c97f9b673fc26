use Rattle.std.proofs.Common.{ℕ, subst, ap, ◌∙◌}
use Rattle.std.specs.Prelude.{Contains}
use Rattle.oram_layout.specs.Trees.{Trees, tree_at}
use Rattle.oram_wire.specs.declared.host_messages.HostRequest.TheVariants as request
use Rattle.oram_store.proofs.Crashes.{calls_then}
use Rattle.oram_store.proofs.Puts.{serves_room}
use Rattle.oram_store.proofs.Served.{serves_err}
use Rattle.oram_store.proofs.store.FileStore.put_record.Goals as goal

pub returns-in_err-make_room-clause-serves : goal.returns-in_err-make_room-clause-serves
returns-in_err-make_room-clause-serves g c number there honest s =
    serves_err g.F.FilePair.model (request.Put number c.args.node c.args.bytes.now) c.from_residual.result c.args.self.now c.make_room.new.self
    c.from_residual.ensures.0 (c.make_room.ensures.commits_puts s)

pub returns-clause-serves : goal.returns-clause-serves
returns-clause-serves g c number there honest s =
    let mid = c.make_room.new.self in
    let fresh = subst (λ (cell : ℕ). Contains mid.pending cell → ⊥) c.cell_at.ensures.place c.in_ok-make_room.ensures.fresh in
    serves_room g.F.FilePair.model (request.Put number c.args.node c.args.bytes.now) _ c.args.self.now mid c.put_in_cell.new.self s
    (c.make_room.ensures.commits_puts s) c.in_ok-make_room.ensures.stays c.make_room.ensures.trees
    (λ sound. c.put_in_cell.ensures.serves number (ap (λ (t : Trees). tree_at t number) c.make_room.ensures.trees ∙ there) honest sound fresh)
    c.put_in_cell.ensures.calls.runs.stays (g.met.F.FilePair.counts_now mid.file.files) (g.met.F.FilePair.whole mid.file.files)

pub returns-clause-calls : goal.returns-clause-calls
returns-clause-calls g c =
    calls_then g.F.FilePair.model c.put_in_cell.result c.args.self.now.file c.make_room.new.self.file c.put_in_cell.new.self.file
    c.make_room.ensures.calls.runs c.in_ok-make_room.ensures.calls.goes_on c.put_in_cell.ensures.calls
