use Rattle.oram_redo.proofs.Outcomes.{after_then, failed_last, if_err_passed, on_ok_none}
use Rattle.std.proofs.Common.{refl, ◌∙◌, inl, ap, Err}
use Rattle.oram_redo.specs.FilePair.{Contents}
use Rattle.oram_redo.specs.Log.{Keeps}
use Rattle.oram_redo.specs.Redo.{bounds_of}
use Rattle.oram_redo.specs.declared.file_pair.FileKind.TheVariants.{Records}
use Rattle.oram_redo.proofs.Moments.{one_call, then_leaves}
use Rattle.oram_redo.proofs.Consistent.{consistent_same, consistent_empty, consistent_shut, keeps_now, keeps_shut}
use Rattle.oram_redo.proofs.redo.Redo.restart.Goals as goal

pub returns-in_err-sync-clause-any_moment : goal.returns-in_err-sync-clause-any_moment
returns-in_err-sync-clause-any_moment g c loose s =
    one_call g.F.FilePair.model c.args.files.now c.sync.new.self
    (Keeps (bounds_of c.args.self.now) loose (g.F.FilePair.model.seen c.args.files.now)) _
    (λ f left. keeps_now c.args.self.now loose _ _ s f (g.met.F.FilePair.only_now c.args.files.now f left))
    c.sync.ensures.time (λ f now. keeps_now c.args.self.now loose _ _ s f (c.sync.ensures.crash f now))

pub returns-then-self-clause-consistent : goal.returns-then-self-clause-consistent
returns-then-self-clause-consistent g c loose s =
    let synced = consistent_same c.args.self.now loose _ _ s _ _ c.sync.ensures.seen c.sync.ensures.crash in
    consistent_empty c.args.self.now loose _ _ synced c.in_ok-sync.ensures.sure c.if-self.true

pub returns-in_err-set_gate-clause-any_moment : goal.returns-in_err-set_gate-clause-any_moment
returns-in_err-set_gate-clause-any_moment g c loose s =
    let P : Contents → Type 0 = Keeps (bounds_of c.args.self.now) loose (g.F.FilePair.model.seen c.args.files.now) in
    let first = one_call g.F.FilePair.model c.args.files.now c.sync.new.self P _
    (λ f left. keeps_now c.args.self.now loose _ _ s f (g.met.F.FilePair.only_now c.args.files.now f left))
    c.sync.ensures.time (λ f now. keeps_now c.args.self.now loose _ _ s f (c.sync.ensures.crash f now)) in
    let synced = consistent_same c.args.self.now loose _ _ s (g.F.FilePair.model.seen c.args.files.now) _ (λ file i. refl) c.sync.ensures.crash in
    then_leaves g.F.FilePair.model c.args.files.now c.sync.new.self c.set_gate.new.files P _ first c.set_gate.ensures.moments
    (keeps_shut c.args.self.now loose _ _ synced (λ f now i. c.in_ok-sync.ensures.sure f now i ∙ c.sync.ensures.seen Records i) c.if-self.false)

pub returns-clause-consistent : goal.returns-clause-consistent
returns-clause-consistent g c loose s =
    let synced = consistent_same c.args.self.now loose _ _ s _ _ c.sync.ensures.seen c.sync.ensures.crash in
    consistent_shut c.args.self.now loose _ _ synced c.in_ok-sync.ensures.sure _ _ c.in_ok-set_gate.ensures.written c.in_ok-set_gate.ensures.sure c.set_gate.ensures.crash

pub returns-clause-any_moment : goal.returns-clause-any_moment
returns-clause-any_moment g c loose s =
    let P : Contents → Type 0 = Keeps (bounds_of c.args.self.now) loose (g.F.FilePair.model.seen c.args.files.now) in
    let first = one_call g.F.FilePair.model c.args.files.now c.sync.new.self P _
    (λ f left. keeps_now c.args.self.now loose _ _ s f (g.met.F.FilePair.only_now c.args.files.now f left))
    c.sync.ensures.time (λ f now. keeps_now c.args.self.now loose _ _ s f (c.sync.ensures.crash f now)) in
    let synced = consistent_same c.args.self.now loose _ _ s (g.F.FilePair.model.seen c.args.files.now) _ (λ file i. refl) c.sync.ensures.crash in
    then_leaves g.F.FilePair.model c.args.files.now c.sync.new.self c.set_gate.new.files P _ first c.set_gate.ensures.moments
    (keeps_shut c.args.self.now loose _ _ synced (λ f now i. c.in_ok-sync.ensures.sure f now i ∙ c.sync.ensures.seen Records i) c.if-self.false)

pub returns-in_err-sync-clause-consistent : goal.returns-in_err-sync-clause-consistent
returns-in_err-sync-clause-consistent g c = on_ok_none c.from_residual.result _ c.from_residual.ensures.0

pub returns-in_err-sync-clause-empty : goal.returns-in_err-sync-clause-empty
returns-in_err-sync-clause-empty g c = on_ok_none c.from_residual.result _ c.from_residual.ensures.0

pub returns-in_err-sync-clause-records : goal.returns-in_err-sync-clause-records
returns-in_err-sync-clause-records g c i = c.sync.ensures.seen Records i

pub returns-in_err-sync-clause-bounds : goal.returns-in_err-sync-clause-bounds
returns-in_err-sync-clause-bounds g c = refl

pub returns-in_err-sync-clause-after : goal.returns-in_err-sync-clause-after
returns-in_err-sync-clause-after g c = c.sync.ensures.after

pub returns-in_err-sync-clause-failed : goal.returns-in_err-sync-clause-failed
returns-in_err-sync-clause-failed g c = if_err_passed c.from_residual.result c.in_err-sync.field-0.0 _ c.from_residual.ensures.1 (c.in_err-sync.ensures.errors, inl (c.in_err-sync.ensures.cause.failed (ap Err c.in_err-sync.ensures.errors)))

pub returns-then-self-clause-empty : goal.returns-then-self-clause-empty
returns-then-self-clause-empty g c = c.if-self.true

pub returns-then-self-clause-records : goal.returns-then-self-clause-records
returns-then-self-clause-records g c i = c.sync.ensures.seen Records i

pub returns-then-self-clause-any_moment : goal.returns-then-self-clause-any_moment
returns-then-self-clause-any_moment g c loose s =
    one_call g.F.FilePair.model c.args.files.now c.sync.new.self
    (Keeps (bounds_of c.args.self.now) loose (g.F.FilePair.model.seen c.args.files.now)) _
    (λ f left. keeps_now c.args.self.now loose _ _ s f (g.met.F.FilePair.only_now c.args.files.now f left))
    c.sync.ensures.time (λ f now. keeps_now c.args.self.now loose _ _ s f (c.sync.ensures.crash f now))

pub returns-then-self-clause-bounds : goal.returns-then-self-clause-bounds
returns-then-self-clause-bounds g c = refl

pub returns-then-self-clause-after : goal.returns-then-self-clause-after
returns-then-self-clause-after g c = c.sync.ensures.after

pub returns-then-self-clause-failed : goal.returns-then-self-clause-failed
returns-then-self-clause-failed g c = tt

pub returns-in_err-set_gate-clause-consistent : goal.returns-in_err-set_gate-clause-consistent
returns-in_err-set_gate-clause-consistent g c = on_ok_none c.from_residual-in_err-set_gate.result _ c.from_residual-in_err-set_gate.ensures.0

pub returns-in_err-set_gate-clause-empty : goal.returns-in_err-set_gate-clause-empty
returns-in_err-set_gate-clause-empty g c = on_ok_none c.from_residual-in_err-set_gate.result _ c.from_residual-in_err-set_gate.ensures.0

pub returns-in_err-set_gate-clause-records : goal.returns-in_err-set_gate-clause-records
returns-in_err-set_gate-clause-records g c i = c.set_gate.ensures.torn.other i ∙ c.sync.ensures.seen Records i

pub returns-in_err-set_gate-clause-bounds : goal.returns-in_err-set_gate-clause-bounds
returns-in_err-set_gate-clause-bounds g c = refl

pub returns-in_err-set_gate-clause-after : goal.returns-in_err-set_gate-clause-after
returns-in_err-set_gate-clause-after g c = after_then g.F.FilePair.model c.args.files.now c.sync.new.self c.set_gate.new.files c.sync.ensures.after c.set_gate.ensures.after

pub returns-in_err-set_gate-clause-failed : goal.returns-in_err-set_gate-clause-failed
returns-in_err-set_gate-clause-failed g c = if_err_passed c.from_residual-in_err-set_gate.result c.in_err-set_gate.field-0.0 _ c.from_residual-in_err-set_gate.ensures.1 (c.in_err-set_gate.ensures.failed.0, failed_last g.F.FilePair.model c.args.files.now c.sync.new.self c.set_gate.new.files c.sync.ensures.after c.in_err-set_gate.ensures.failed.1)

pub returns-clause-empty : goal.returns-clause-empty
returns-clause-empty g c = refl

pub returns-clause-records : goal.returns-clause-records
returns-clause-records g c i = c.set_gate.ensures.torn.other i ∙ c.sync.ensures.seen Records i

pub returns-clause-bounds : goal.returns-clause-bounds
returns-clause-bounds g c = refl

pub returns-clause-after : goal.returns-clause-after
returns-clause-after g c = after_then g.F.FilePair.model c.args.files.now c.sync.new.self c.set_gate.new.files c.sync.ensures.after c.set_gate.ensures.after

pub returns-clause-failed : goal.returns-clause-failed
returns-clause-failed g c = tt
