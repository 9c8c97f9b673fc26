use Rattle.std.proofs.Common.{List, map, ◌≡◌, ◌<◌, ◌≤◌, Bool, true, false, [], ◌∷◌, length, count_by, Result, Ok, Err, OnOk, Option, Some, None, is_some, refl, sym, ap, ◌∙◌, subst, arith, rules, inl, inr}
use Rattle.std.proofs.lemmas.Result.{err_from_is_err_and}
use Rattle.oram_semantics.specs.Run.{is_accepted}
use Rattle.oram_semantics.specs.declared.events.Reason.{Reason}
use Rattle.oram_nbd.specs.Beside.{GoesOn, HasArrays}
use Rattle.oram_nbd.specs.Calls.{SavesPart}
use Rattle.oram_nbd.proofs.Beside.{told_after, weaker}
use Rattle.oram_nbd.proofs.Saving.{part_weaker}
use Rattle.oram_core.specs.Core.{IsSameDevice, scheme_of}
use Rattle.oram_rounds.specs.Process.{Act, process}
use Rattle.oram_rounds.specs.ProcessSteps.{ProcessStep}
use Rattle.oram_rounds.specs.ProcessSteps.ProcessStep.{Acts}
use Rattle.oram_session.specs.CoreWork.{HasNoWork}
use Rattle.oram_rounds.specs.Process.Act.{Keeps}
use Rattle.oram_rounds.proofs.Noted.{noted_does}
use Rattle.oram_volume.specs.CarriedOut.{Had, TakesSteps}
use Rattle.oram_volume.specs.HeldArrays.{HoldsArray, HostHears, KeepsArray, running}
use Rattle.oram_volume.specs.Parts.{VolumeParts}
use Rattle.oram_volume.proofs.Answered.{NoneFailed}
use Rattle.oram_volume.proofs.Carried.{all_done, asked_round, first_none, front_of, has_failed_by, lied, lies_if, none_begun, performed_done, performed_left, performed_stops, some_left, submitted_done}
use Rattle.oram_volume.proofs.HeldArrays.{alive, kept_first}
use Rattle.oram_volume.proofs.KeptWork.{broken_round_keeps}
use Rattle.oram_volume.proofs.KeptFirst.{broken_round_sends, kept_then}
use Rattle.oram_volume.proofs.volume.Volume.carry_out_all.Goals as goal

none_by : (o : Option Reason) → is_some o ≡ false → o ≡ None
none_by None e = refl
none_by (Some x) e = absurd cc

pub returns-in_err-resume-clause-goes : goal.returns-in_err-resume-clause-goes
returns-in_err-resume-clause-goes g c =
    let p = err_from_is_err_and c.from_residual.result c.from_residual.ensures.1 in
    rw p.1 (weaker c.in_err-resume.ensures.goes (λ may_lie world old new h same.
    let none = first_none c.args.self.now.core.device c.args.commands.items old.held in
    (none new.held same.0, λ e. absurd (c.in_err-resume.ensures.fault cc), part_weaker same.1 none)))

pub returns-then-is_some-clause-goes : goal.returns-then-is_some-clause-goes
returns-then-is_some-clause-goes g c =
    let some : is_some c.resume.new.self.core.state.failure ≡ true = ap (λ (v : VolumeParts g.row.S.Denot g.row.B.Denot g.row.K.Denot g.row.T.Denot). is_some v.core.state.failure) (sym c.self.view_is) ∙ ap is_some (sym c.failure.ensures) ∙ sym c.is_some.ensures ∙ c.if-is_some.true in
    told_after c.resume.ensures.goes (λ may_lie world old new h same.
    let none = first_none c.args.self.now.core.device c.args.commands.items old.held in (
      none new.held same.0,
      λ e. lies_if may_lie (λ honest.
          let lives = alive _ world new.held (subst (λ (b : Bool). HoldsArray b (running g.S.Sealer.cipher g.T.Tape.words c.resume.new.self) world new.held) honest h.0) in
          let no : is_some c.resume.new.self.core.state.failure ≡ false = ap is_some lives in absurd (let both : true ≡ false = sym some ∙ no in cc)),
      part_weaker same.1 none,
    ))

pub returns-in_err-begun-clause-goes : goal.returns-in_err-begun-clause-goes
returns-in_err-begun-clause-goes g c =
    let mid : VolumeParts g.row.S.Denot g.row.B.Denot g.row.K.Denot g.row.T.Denot = record { core = c.self.inside.core; link = c.self.inside.link; keeper = c.self.inside.keeper; tape = c.self.inside.tape } in
    let is : c.resume.new.self ≡ mid = sym c.self.view_is in
    let kept : IsSameDevice c.args.self.now.core mid.core = subst (λ (m : VolumeParts g.row.S.Denot g.row.B.Denot g.row.K.Denot g.row.T.Denot). IsSameDevice c.args.self.now.core m.core) is c.resume.ensures.kept in
    let tape : g.T.Tape.words mid.tape ≡ g.T.Tape.words c.args.self.now.tape = subst (λ (m : VolumeParts g.row.S.Denot g.row.B.Denot g.row.K.Denot g.row.T.Denot). g.T.Tape.words m.tape ≡ g.T.Tape.words c.args.self.now.tape) is c.resume.ensures.tape in
    let goes = subst (λ (m : VolumeParts g.row.S.Denot g.row.B.Denot g.row.K.Denot g.row.T.Denot). GoesOn (Had g.B.BatchLink.batches g.K.Keeper.reads_back) HostHears (HasArrays HoldsArray (KeepsArray g.K.Keeper.reads_back)) (running g.S.Sealer.cipher g.T.Tape.words c.args.self.now) (λ _ old new. (new.held ≡ old.held) × SavesPart (λ array part. part ≡ array) old new) (running g.S.Sealer.cipher g.T.Tape.words m)) is c.resume.ensures.goes in
    let idle : HasNoWork mid.core.state = subst (λ (m : VolumeParts g.row.S.Denot g.row.B.Denot g.row.K.Denot g.row.T.Denot). HasNoWork m.core.state) is c.in_ok-resume.ensures.no_work in
    let p = err_from_is_err_and c.from_residual-in_err-begun.result c.from_residual-in_err-begun.ensures.1 in
    let lives = none_by mid.core.state.failure (ap is_some (sym c.failure.ensures) ∙ sym c.is_some.ensures ∙ c.if-is_some.false) in
    rw p.1 (weaker (submitted_done g.S.Sealer.cipher g.T.Tape.words g.B.BatchLink.batches g.K.Keeper.reads_back g.met.B.BatchLink.are_batches c.args.self.now mid kept tape
    goes c.args.commands.items c.requires c.submit_all.new.core c.submit_all.new.tape c.submit_all.ensures.kept c.submit_all.ensures.tape c.in_err-begun.ensures.err idle lives)
    (λ may_lie world old new h some. (some.0, λ e. cc, some.1)))

-- none of them is accepted

pub returns-in_default-clause-goes : goal.returns-in_default-clause-goes
returns-in_default-clause-goes g c =
    let mid : VolumeParts g.row.S.Denot g.row.B.Denot g.row.K.Denot g.row.T.Denot = record { core = c.self.inside.core; link = c.self.inside.link; keeper = c.self.inside.keeper; tape = c.self.inside.tape } in
    let is : c.resume.new.self ≡ mid = sym c.self.view_is in
    let kept : IsSameDevice c.args.self.now.core mid.core = subst (λ (m : VolumeParts g.row.S.Denot g.row.B.Denot g.row.K.Denot g.row.T.Denot). IsSameDevice c.args.self.now.core m.core) is c.resume.ensures.kept in
    let tape : g.T.Tape.words mid.tape ≡ g.T.Tape.words c.args.self.now.tape = subst (λ (m : VolumeParts g.row.S.Denot g.row.B.Denot g.row.K.Denot g.row.T.Denot). g.T.Tape.words m.tape ≡ g.T.Tape.words c.args.self.now.tape) is c.resume.ensures.tape in
    let goes = subst (λ (m : VolumeParts g.row.S.Denot g.row.B.Denot g.row.K.Denot g.row.T.Denot). GoesOn (Had g.B.BatchLink.batches g.K.Keeper.reads_back) HostHears (HasArrays HoldsArray (KeepsArray g.K.Keeper.reads_back)) (running g.S.Sealer.cipher g.T.Tape.words c.args.self.now) (λ _ old new. (new.held ≡ old.held) × SavesPart (λ array part. part ≡ array) old new) (running g.S.Sealer.cipher g.T.Tape.words m)) is c.resume.ensures.goes in
    let idle : HasNoWork mid.core.state = subst (λ (m : VolumeParts g.row.S.Denot g.row.B.Denot g.row.K.Denot g.row.T.Denot). HasNoWork m.core.state) is c.in_ok-resume.ensures.no_work in
    let lives = none_by mid.core.state.failure (ap is_some (sym c.failure.ensures) ∙ sym c.is_some.ensures ∙ c.if-is_some.false) in
    weaker (submitted_done g.S.Sealer.cipher g.T.Tape.words g.B.BatchLink.batches g.K.Keeper.reads_back g.met.B.BatchLink.are_batches c.args.self.now mid kept tape
    goes c.args.commands.items c.requires c.submit_all.new.core c.submit_all.new.tape c.submit_all.ensures.kept c.submit_all.ensures.tape
    (front_of g.S.Sealer.cipher g.T.Tape.words g.B.BatchLink.batches g.K.Keeper.reads_back g.met.B.BatchLink.are_batches c.args.self.now mid kept tape
    goes c.args.commands.items c.requires c.submit_all.new.core c.submit_all.new.tape c.submit_all.ensures.kept c.submit_all.ensures.tape c.in_ok-begun.field-0.notes.items c.in_ok-begun.ensures.ok) idle lives)
    (λ may_lie world old new h some.
    none_begun _ c.unanswered.result c.args.self.now.core.device c.len-count.result c.args.commands.items (let size : c.len-count.result ≡ length c.args.commands.items = search rules in size)
    c.unanswered.ensures.ok c.unanswered.ensures.err may_lie old new some)

pub returns-in_default-clause-stopped : goal.returns-in_default-clause-stopped
returns-in_default-clause-stopped g c = λ e.
    let mid : VolumeParts g.row.S.Denot g.row.B.Denot g.row.K.Denot g.row.T.Denot = record { core = c.self.inside.core; link = c.self.inside.link; keeper = c.self.inside.keeper; tape = c.self.inside.tape } in
    let is : c.resume.new.self ≡ mid = sym c.self.view_is in
    let kept : IsSameDevice c.args.self.now.core mid.core = subst (λ (m : VolumeParts g.row.S.Denot g.row.B.Denot g.row.K.Denot g.row.T.Denot). IsSameDevice c.args.self.now.core m.core) is c.resume.ensures.kept in
    let tape : g.T.Tape.words mid.tape ≡ g.T.Tape.words c.args.self.now.tape = subst (λ (m : VolumeParts g.row.S.Denot g.row.B.Denot g.row.K.Denot g.row.T.Denot). g.T.Tape.words m.tape ≡ g.T.Tape.words c.args.self.now.tape) is c.resume.ensures.tape in
    let goes = subst (λ (m : VolumeParts g.row.S.Denot g.row.B.Denot g.row.K.Denot g.row.T.Denot). GoesOn (Had g.B.BatchLink.batches g.K.Keeper.reads_back) HostHears (HasArrays HoldsArray (KeepsArray g.K.Keeper.reads_back)) (running g.S.Sealer.cipher g.T.Tape.words c.args.self.now) (λ _ old new. (new.held ≡ old.held) × SavesPart (λ array part. part ≡ array) old new) (running g.S.Sealer.cipher g.T.Tape.words m)) is c.resume.ensures.goes in
    let size : c.len-count.result ≡ length c.args.commands.items = search rules in
    let more = some_left c.unanswered.result c.len-count.result e c.unanswered.ensures.err in
    let none : count_by is_accepted c.in_ok-begun.field-0.notes.items ≡ 0 = search rules in
    performed_stops g.S.Sealer.cipher g.T.Tape.words g.B.BatchLink.batches g.K.Keeper.reads_back g.met.B.BatchLink.are_batches c.args.self.now mid kept tape
    goes c.args.commands.items c.requires c.submit_all.new.core c.submit_all.new.tape c.submit_all.ensures.kept c.submit_all.ensures.tape
    c.submit_all.new.core mid.link mid.keeper (refl, refl) [] refl c.in_ok-begun.field-0.notes.items c.in_ok-begun.ensures.ok (omega (arith, size, more, none))

-- some are, and they are carried out

pub returns-in-Ok-clause-goes : goal.returns-in-Ok-clause-goes
returns-in-Ok-clause-goes g c =
    let mid : VolumeParts g.row.S.Denot g.row.B.Denot g.row.K.Denot g.row.T.Denot = record { core = c.self.inside.core; link = c.self.inside.link; keeper = c.self.inside.keeper; tape = c.self.inside.tape } in
    let is : c.resume.new.self ≡ mid = sym c.self.view_is in
    let kept : IsSameDevice c.args.self.now.core mid.core = subst (λ (m : VolumeParts g.row.S.Denot g.row.B.Denot g.row.K.Denot g.row.T.Denot). IsSameDevice c.args.self.now.core m.core) is c.resume.ensures.kept in
    let tape : g.T.Tape.words mid.tape ≡ g.T.Tape.words c.args.self.now.tape = subst (λ (m : VolumeParts g.row.S.Denot g.row.B.Denot g.row.K.Denot g.row.T.Denot). g.T.Tape.words m.tape ≡ g.T.Tape.words c.args.self.now.tape) is c.resume.ensures.tape in
    let goes = subst (λ (m : VolumeParts g.row.S.Denot g.row.B.Denot g.row.K.Denot g.row.T.Denot). GoesOn (Had g.B.BatchLink.batches g.K.Keeper.reads_back) HostHears (HasArrays HoldsArray (KeepsArray g.K.Keeper.reads_back)) (running g.S.Sealer.cipher g.T.Tape.words c.args.self.now) (λ _ old new. (new.held ≡ old.held) × SavesPart (λ array part. part ≡ array) old new) (running g.S.Sealer.cipher g.T.Tape.words m)) is c.resume.ensures.goes in
    let idle : HasNoWork mid.core.state = subst (λ (m : VolumeParts g.row.S.Denot g.row.B.Denot g.row.K.Denot g.row.T.Denot). HasNoWork m.core.state) is c.in_ok-resume.ensures.no_work in
    let k = c.in-Ok.ensures.ok in
    let does = noted_does g.B.BatchLink.batches g.B.BatchLink.notes g.B.BatchLink.learns g.K.Keeper.reads_back (scheme_of g.S.Sealer.cipher c.submit_all.new.core) (Keeps true ∷ k.0)
    (process c.submit_all.new.core.state mid.link mid.keeper)
    (process c.perform-performed.new.core.state c.perform-performed.new.link c.perform-performed.new.keeper) k.2 in
    let lives = none_by mid.core.state.failure (ap is_some (sym c.failure.ensures) ∙ sym c.is_some.ensures ∙ c.if-is_some.false) in
    weaker (lied g.S.Sealer.cipher g.T.Tape.words g.B.BatchLink.batches g.K.Keeper.reads_back g.met.B.BatchLink.are_batches c.args.self.now mid kept tape
    goes c.args.commands.items c.requires c.submit_all.new.core c.submit_all.new.tape c.submit_all.ensures.kept c.submit_all.ensures.tape
    c.perform-performed.new.core c.perform-performed.new.link c.perform-performed.new.keeper c.perform-performed.ensures.kept (Keeps true ∷ k.0) does c.in_ok-begun.field-0.notes.items c.in_ok-begun.ensures.ok
    idle lives c.in-Ok.replies.items k.1 c.in-Ok.ensures.count k.0 refl
    (λ none. c.has_failure.ensures.yes c.if-has_failure.true (subst NoneFailed (sym c.deref.ensures.value) none)))
    (λ may_lie world old new h step. (step.0.0, λ e. step.1, step.0.1))

pub returns-in-Ok-clause-failing : goal.returns-in-Ok-clause-failing
returns-in-Ok-clause-failing g c = λ e.
    has_failed_by c.perform-performed.new.core.state.failure c.in-Ok.replies.items c.in-Ok.ensures.failed (λ none. c.has_failure.ensures.yes c.if-has_failure.true (subst NoneFailed (sym c.deref.ensures.value) none))

pub returns-in-Ok-2-clause-goes : goal.returns-in-Ok-2-clause-goes
returns-in-Ok-2-clause-goes g c =
    let mid : VolumeParts g.row.S.Denot g.row.B.Denot g.row.K.Denot g.row.T.Denot = record { core = c.self.inside.core; link = c.self.inside.link; keeper = c.self.inside.keeper; tape = c.self.inside.tape } in
    let is : c.resume.new.self ≡ mid = sym c.self.view_is in
    let kept : IsSameDevice c.args.self.now.core mid.core = subst (λ (m : VolumeParts g.row.S.Denot g.row.B.Denot g.row.K.Denot g.row.T.Denot). IsSameDevice c.args.self.now.core m.core) is c.resume.ensures.kept in
    let tape : g.T.Tape.words mid.tape ≡ g.T.Tape.words c.args.self.now.tape = subst (λ (m : VolumeParts g.row.S.Denot g.row.B.Denot g.row.K.Denot g.row.T.Denot). g.T.Tape.words m.tape ≡ g.T.Tape.words c.args.self.now.tape) is c.resume.ensures.tape in
    let goes = subst (λ (m : VolumeParts g.row.S.Denot g.row.B.Denot g.row.K.Denot g.row.T.Denot). GoesOn (Had g.B.BatchLink.batches g.K.Keeper.reads_back) HostHears (HasArrays HoldsArray (KeepsArray g.K.Keeper.reads_back)) (running g.S.Sealer.cipher g.T.Tape.words c.args.self.now) (λ _ old new. (new.held ≡ old.held) × SavesPart (λ array part. part ≡ array) old new) (running g.S.Sealer.cipher g.T.Tape.words m)) is c.resume.ensures.goes in
    let idle : HasNoWork mid.core.state = subst (λ (m : VolumeParts g.row.S.Denot g.row.B.Denot g.row.K.Denot g.row.T.Denot). HasNoWork m.core.state) is c.in_ok-resume.ensures.no_work in
    let k = c.in-Ok-2.ensures.ok in
    let does = noted_does g.B.BatchLink.batches g.B.BatchLink.notes g.B.BatchLink.learns g.K.Keeper.reads_back (scheme_of g.S.Sealer.cipher c.submit_all.new.core) (Keeps true ∷ k.0)
    (process c.submit_all.new.core.state mid.link mid.keeper)
    (process c.perform-performed.new.core.state c.perform-performed.new.link c.perform-performed.new.keeper) k.2 in
    let lives = none_by mid.core.state.failure (ap is_some (sym c.failure.ensures) ∙ sym c.is_some.ensures ∙ c.if-is_some.false) in
    weaker (performed_done g.S.Sealer.cipher g.T.Tape.words g.B.BatchLink.batches g.K.Keeper.reads_back g.met.B.BatchLink.are_batches c.args.self.now mid kept tape
    goes c.args.commands.items c.requires c.submit_all.new.core c.submit_all.new.tape c.submit_all.ensures.kept c.submit_all.ensures.tape
    c.perform-performed.new.core c.perform-performed.new.link c.perform-performed.new.keeper c.perform-performed.ensures.kept (Keeps true ∷ k.0) does
    (front_of g.S.Sealer.cipher g.T.Tape.words g.B.BatchLink.batches g.K.Keeper.reads_back g.met.B.BatchLink.are_batches c.args.self.now mid kept tape
    goes c.args.commands.items c.requires c.submit_all.new.core c.submit_all.new.tape c.submit_all.ensures.kept c.submit_all.ensures.tape c.in_ok-begun.field-0.notes.items c.in_ok-begun.ensures.ok)
    idle lives (kept_then (Keeps true ∷ k.0) k.0 refl) (λ rests. inr (kept_first k.0)))
    (λ may_lie world old new h some. (some.0, λ e. cc, some.1))

pub returns-in-Ok-2-clause-stopped : goal.returns-in-Ok-2-clause-stopped
returns-in-Ok-2-clause-stopped g c = λ e.
    let mid : VolumeParts g.row.S.Denot g.row.B.Denot g.row.K.Denot g.row.T.Denot = record { core = c.self.inside.core; link = c.self.inside.link; keeper = c.self.inside.keeper; tape = c.self.inside.tape } in
    let is : c.resume.new.self ≡ mid = sym c.self.view_is in
    let kept : IsSameDevice c.args.self.now.core mid.core = subst (λ (m : VolumeParts g.row.S.Denot g.row.B.Denot g.row.K.Denot g.row.T.Denot). IsSameDevice c.args.self.now.core m.core) is c.resume.ensures.kept in
    let tape : g.T.Tape.words mid.tape ≡ g.T.Tape.words c.args.self.now.tape = subst (λ (m : VolumeParts g.row.S.Denot g.row.B.Denot g.row.K.Denot g.row.T.Denot). g.T.Tape.words m.tape ≡ g.T.Tape.words c.args.self.now.tape) is c.resume.ensures.tape in
    let goes = subst (λ (m : VolumeParts g.row.S.Denot g.row.B.Denot g.row.K.Denot g.row.T.Denot). GoesOn (Had g.B.BatchLink.batches g.K.Keeper.reads_back) HostHears (HasArrays HoldsArray (KeepsArray g.K.Keeper.reads_back)) (running g.S.Sealer.cipher g.T.Tape.words c.args.self.now) (λ _ old new. (new.held ≡ old.held) × SavesPart (λ array part. part ≡ array) old new) (running g.S.Sealer.cipher g.T.Tape.words m)) is c.resume.ensures.goes in
    let k = c.in-Ok-2.ensures.ok in
    let does = noted_does g.B.BatchLink.batches g.B.BatchLink.notes g.B.BatchLink.learns g.K.Keeper.reads_back (scheme_of g.S.Sealer.cipher c.submit_all.new.core) (Keeps true ∷ k.0)
    (process c.submit_all.new.core.state mid.link mid.keeper)
    (process c.perform-performed.new.core.state c.perform-performed.new.link c.perform-performed.new.keeper) k.2 in
    let size : c.len-count.result ≡ length c.args.commands.items = search rules in
    let fewer : length c.in-Ok-2.replies.items < c.len-count.result = search rules in
    performed_stops g.S.Sealer.cipher g.T.Tape.words g.B.BatchLink.batches g.K.Keeper.reads_back g.met.B.BatchLink.are_batches c.args.self.now mid kept tape
    goes c.args.commands.items c.requires c.submit_all.new.core c.submit_all.new.tape c.submit_all.ensures.kept c.submit_all.ensures.tape
    c.perform-performed.new.core c.perform-performed.new.link c.perform-performed.new.keeper c.perform-performed.ensures.kept (Keeps true ∷ k.0) does c.in_ok-begun.field-0.notes.items c.in_ok-begun.ensures.ok
    (omega (arith, size, fewer, c.in-Ok-2.ensures.count, c.in_ok-begun.ensures.count))

pub returns-in-Ok-3-clause-goes : goal.returns-in-Ok-3-clause-goes
returns-in-Ok-3-clause-goes g c =
    let mid : VolumeParts g.row.S.Denot g.row.B.Denot g.row.K.Denot g.row.T.Denot = record { core = c.self.inside.core; link = c.self.inside.link; keeper = c.self.inside.keeper; tape = c.self.inside.tape } in
    let is : c.resume.new.self ≡ mid = sym c.self.view_is in
    let kept : IsSameDevice c.args.self.now.core mid.core = subst (λ (m : VolumeParts g.row.S.Denot g.row.B.Denot g.row.K.Denot g.row.T.Denot). IsSameDevice c.args.self.now.core m.core) is c.resume.ensures.kept in
    let tape : g.T.Tape.words mid.tape ≡ g.T.Tape.words c.args.self.now.tape = subst (λ (m : VolumeParts g.row.S.Denot g.row.B.Denot g.row.K.Denot g.row.T.Denot). g.T.Tape.words m.tape ≡ g.T.Tape.words c.args.self.now.tape) is c.resume.ensures.tape in
    let goes = subst (λ (m : VolumeParts g.row.S.Denot g.row.B.Denot g.row.K.Denot g.row.T.Denot). GoesOn (Had g.B.BatchLink.batches g.K.Keeper.reads_back) HostHears (HasArrays HoldsArray (KeepsArray g.K.Keeper.reads_back)) (running g.S.Sealer.cipher g.T.Tape.words c.args.self.now) (λ _ old new. (new.held ≡ old.held) × SavesPart (λ array part. part ≡ array) old new) (running g.S.Sealer.cipher g.T.Tape.words m)) is c.resume.ensures.goes in
    let idle : HasNoWork mid.core.state = subst (λ (m : VolumeParts g.row.S.Denot g.row.B.Denot g.row.K.Denot g.row.T.Denot). HasNoWork m.core.state) is c.in_ok-resume.ensures.no_work in
    let k = c.in-Ok.ensures.ok in
    let does = noted_does g.B.BatchLink.batches g.B.BatchLink.notes g.B.BatchLink.learns g.K.Keeper.reads_back (scheme_of g.S.Sealer.cipher c.submit_all.new.core) (Keeps true ∷ k.0)
    (process c.submit_all.new.core.state mid.link mid.keeper)
    (process c.perform-performed.new.core.state c.perform-performed.new.link c.perform-performed.new.keeper) k.2 in
    let lives = none_by mid.core.state.failure (ap is_some (sym c.failure.ensures) ∙ sym c.is_some.ensures ∙ c.if-is_some.false) in
    let size : c.len-count.result ≡ length c.args.commands.items = search rules in
    let enough : c.len-count.result ≤ length c.in-Ok.replies.items = search rules in
    let none : NoneFailed c.in-Ok.replies.items = subst NoneFailed c.deref.ensures.value (c.has_failure.ensures.no c.if-has_failure.false) in
    weaker (all_done g.S.Sealer.cipher g.T.Tape.words g.B.BatchLink.batches g.K.Keeper.reads_back g.met.B.BatchLink.are_batches c.args.self.now mid kept tape
    goes c.args.commands.items c.requires c.submit_all.new.core c.submit_all.new.tape c.submit_all.ensures.kept c.submit_all.ensures.tape
    c.perform-performed.new.core c.perform-performed.new.link c.perform-performed.new.keeper c.perform-performed.ensures.kept (Keeps true ∷ k.0) does c.in_ok-begun.field-0.notes.items c.in_ok-begun.ensures.ok
    idle lives c.in-Ok.replies.items k.1 c.in-Ok.ensures.count k.0 refl none (omega (arith, size, enough)) c.in_ok-begun.ensures.count)
    (λ may_lie world old new h step. ((step.0, step.1), λ e. cc, record { either = inl step.2 }))

pub returns-in-Err-clause-goes : goal.returns-in-Err-clause-goes
returns-in-Err-clause-goes g c =
    let mid : VolumeParts g.row.S.Denot g.row.B.Denot g.row.K.Denot g.row.T.Denot = record { core = c.self.inside.core; link = c.self.inside.link; keeper = c.self.inside.keeper; tape = c.self.inside.tape } in
    let is : c.resume.new.self ≡ mid = sym c.self.view_is in
    let kept : IsSameDevice c.args.self.now.core mid.core = subst (λ (m : VolumeParts g.row.S.Denot g.row.B.Denot g.row.K.Denot g.row.T.Denot). IsSameDevice c.args.self.now.core m.core) is c.resume.ensures.kept in
    let tape : g.T.Tape.words mid.tape ≡ g.T.Tape.words c.args.self.now.tape = subst (λ (m : VolumeParts g.row.S.Denot g.row.B.Denot g.row.K.Denot g.row.T.Denot). g.T.Tape.words m.tape ≡ g.T.Tape.words c.args.self.now.tape) is c.resume.ensures.tape in
    let goes = subst (λ (m : VolumeParts g.row.S.Denot g.row.B.Denot g.row.K.Denot g.row.T.Denot). GoesOn (Had g.B.BatchLink.batches g.K.Keeper.reads_back) HostHears (HasArrays HoldsArray (KeepsArray g.K.Keeper.reads_back)) (running g.S.Sealer.cipher g.T.Tape.words c.args.self.now) (λ _ old new. (new.held ≡ old.held) × SavesPart (λ array part. part ≡ array) old new) (running g.S.Sealer.cipher g.T.Tape.words m)) is c.resume.ensures.goes in
    let idle : HasNoWork mid.core.state = subst (λ (m : VolumeParts g.row.S.Denot g.row.B.Denot g.row.K.Denot g.row.T.Denot). HasNoWork m.core.state) is c.in_ok-resume.ensures.no_work in
    let k = c.in-Err.ensures.err in
    let does = noted_does g.B.BatchLink.batches g.B.BatchLink.notes g.B.BatchLink.learns g.K.Keeper.reads_back (scheme_of g.S.Sealer.cipher c.submit_all.new.core) k.0
    (process c.submit_all.new.core.state mid.link mid.keeper)
    (process c.perform-performed.new.core.state c.perform-performed.new.link c.perform-performed.new.keeper) k.2 in
    let lives = none_by mid.core.state.failure (ap is_some (sym c.failure.ensures) ∙ sym c.is_some.ensures ∙ c.if-is_some.false) in
    weaker (performed_done g.S.Sealer.cipher g.T.Tape.words g.B.BatchLink.batches g.K.Keeper.reads_back g.met.B.BatchLink.are_batches c.args.self.now mid kept tape
    goes c.args.commands.items c.requires c.submit_all.new.core c.submit_all.new.tape c.submit_all.ensures.kept c.submit_all.ensures.tape
    c.perform-performed.new.core c.perform-performed.new.link c.perform-performed.new.keeper c.perform-performed.ensures.kept k.0 does
    (front_of g.S.Sealer.cipher g.T.Tape.words g.B.BatchLink.batches g.K.Keeper.reads_back g.met.B.BatchLink.are_batches c.args.self.now mid kept tape
    goes c.args.commands.items c.requires c.submit_all.new.core c.submit_all.new.tape c.submit_all.ensures.kept c.submit_all.ensures.tape c.in_ok-begun.field-0.notes.items c.in_ok-begun.ensures.ok)
    idle lives (broken_round_sends k.0 k.1)
    (broken_round_keeps g.B.BatchLink.batches g.K.Keeper.reads_back (scheme_of g.S.Sealer.cipher c.submit_all.new.core) k.0
    (process c.submit_all.new.core.state mid.link mid.keeper)
    (process c.perform-performed.new.core.state c.perform-performed.new.link c.perform-performed.new.keeper) k.1 does))
    (λ may_lie world old new h some. (some.0, λ e. absurd (c.disk_fault.ensures.failed cc), some.1))

pub returns-in-Err-clause-stopped : goal.returns-in-Err-clause-stopped
returns-in-Err-clause-stopped g c = λ e.
    let mid : VolumeParts g.row.S.Denot g.row.B.Denot g.row.K.Denot g.row.T.Denot = record { core = c.self.inside.core; link = c.self.inside.link; keeper = c.self.inside.keeper; tape = c.self.inside.tape } in
    let is : c.resume.new.self ≡ mid = sym c.self.view_is in
    let kept : IsSameDevice c.args.self.now.core mid.core = subst (λ (m : VolumeParts g.row.S.Denot g.row.B.Denot g.row.K.Denot g.row.T.Denot). IsSameDevice c.args.self.now.core m.core) is c.resume.ensures.kept in
    let tape : g.T.Tape.words mid.tape ≡ g.T.Tape.words c.args.self.now.tape = subst (λ (m : VolumeParts g.row.S.Denot g.row.B.Denot g.row.K.Denot g.row.T.Denot). g.T.Tape.words m.tape ≡ g.T.Tape.words c.args.self.now.tape) is c.resume.ensures.tape in
    let goes = subst (λ (m : VolumeParts g.row.S.Denot g.row.B.Denot g.row.K.Denot g.row.T.Denot). GoesOn (Had g.B.BatchLink.batches g.K.Keeper.reads_back) HostHears (HasArrays HoldsArray (KeepsArray g.K.Keeper.reads_back)) (running g.S.Sealer.cipher g.T.Tape.words c.args.self.now) (λ _ old new. (new.held ≡ old.held) × SavesPart (λ array part. part ≡ array) old new) (running g.S.Sealer.cipher g.T.Tape.words m)) is c.resume.ensures.goes in
    elim (c.disk_fault.ensures.stopped cc) [
      | inl stalled ↦
          let k = c.in-Err.ensures.err in
          let does = noted_does g.B.BatchLink.batches g.B.BatchLink.notes g.B.BatchLink.learns g.K.Keeper.reads_back (scheme_of g.S.Sealer.cipher c.submit_all.new.core) k.0
          (process c.submit_all.new.core.state mid.link mid.keeper)
          (process c.perform-performed.new.core.state c.perform-performed.new.link c.perform-performed.new.keeper) k.2 in
          performed_left g.S.Sealer.cipher g.T.Tape.words g.B.BatchLink.batches g.K.Keeper.reads_back g.met.B.BatchLink.are_batches c.args.self.now mid kept tape
          goes c.args.commands.items c.requires c.submit_all.new.core c.submit_all.new.tape c.submit_all.ensures.kept c.submit_all.ensures.tape
          c.perform-performed.new.core c.perform-performed.new.link c.perform-performed.new.keeper c.perform-performed.ensures.kept k.0 does
          (front_of g.S.Sealer.cipher g.T.Tape.words g.B.BatchLink.batches g.K.Keeper.reads_back g.met.B.BatchLink.are_batches c.args.self.now mid kept tape
          goes c.args.commands.items c.requires c.submit_all.new.core c.submit_all.new.tape c.submit_all.ensures.kept c.submit_all.ensures.tape c.in_ok-begun.field-0.notes.items c.in_ok-begun.ensures.ok) (inl (c.in-Err.ensures.stalled cc))
      | inr not_kept ↦
          let k = c.in-Err.ensures.not_kept cc in
          let does = noted_does g.B.BatchLink.batches g.B.BatchLink.notes g.B.BatchLink.learns g.K.Keeper.reads_back (scheme_of g.S.Sealer.cipher c.submit_all.new.core) (Keeps false ∷ [])
          (process c.submit_all.new.core.state mid.link mid.keeper)
          (process c.perform-performed.new.core.state c.perform-performed.new.link c.perform-performed.new.keeper) k.2 in
          performed_left g.S.Sealer.cipher g.T.Tape.words g.B.BatchLink.batches g.K.Keeper.reads_back g.met.B.BatchLink.are_batches c.args.self.now mid kept tape
          goes c.args.commands.items c.requires c.submit_all.new.core c.submit_all.new.tape c.submit_all.ensures.kept c.submit_all.ensures.tape
          c.perform-performed.new.core c.perform-performed.new.link c.perform-performed.new.keeper c.perform-performed.ensures.kept (Keeps false ∷ []) does
          (front_of g.S.Sealer.cipher g.T.Tape.words g.B.BatchLink.batches g.K.Keeper.reads_back g.met.B.BatchLink.are_batches c.args.self.now mid kept tape
          goes c.args.commands.items c.requires c.submit_all.new.core c.submit_all.new.tape c.submit_all.ensures.kept c.submit_all.ensures.tape c.in_ok-begun.field-0.notes.items c.in_ok-begun.ensures.ok) (inr ([], refl))
    ]

-- a fact that holds whatever the result
whatever : {X Y P : Type 0} (r : Result X Y) → P → OnOk r P
whatever (Ok x) h = h
whatever (Err e) h = tt

pub returns-in_default-clause-asks : goal.returns-in_default-clause-asks
returns-in_default-clause-asks g c =
    let mid : VolumeParts g.row.S.Denot g.row.B.Denot g.row.K.Denot g.row.T.Denot = record { core = c.self.inside.core; link = c.self.inside.link; keeper = c.self.inside.keeper; tape = c.self.inside.tape } in
    let is : c.resume.new.self ≡ mid = sym c.self.view_is in
    let kept : IsSameDevice c.args.self.now.core mid.core = subst (λ (m : VolumeParts g.row.S.Denot g.row.B.Denot g.row.K.Denot g.row.T.Denot). IsSameDevice c.args.self.now.core m.core) is c.resume.ensures.kept in
    let tape : g.T.Tape.words mid.tape ≡ g.T.Tape.words c.args.self.now.tape = subst (λ (m : VolumeParts g.row.S.Denot g.row.B.Denot g.row.K.Denot g.row.T.Denot). g.T.Tape.words m.tape ≡ g.T.Tape.words c.args.self.now.tape) is c.resume.ensures.tape in
    let goes = subst (λ (m : VolumeParts g.row.S.Denot g.row.B.Denot g.row.K.Denot g.row.T.Denot). GoesOn (Had g.B.BatchLink.batches g.K.Keeper.reads_back) HostHears (HasArrays HoldsArray (KeepsArray g.K.Keeper.reads_back)) (running g.S.Sealer.cipher g.T.Tape.words c.args.self.now) (λ _ old new. (new.held ≡ old.held) × SavesPart (λ array part. part ≡ array) old new) (running g.S.Sealer.cipher g.T.Tape.words m)) is c.resume.ensures.goes in
    let w = subst (λ (m : VolumeParts g.row.S.Denot g.row.B.Denot g.row.K.Denot g.row.T.Denot). (acts : List Act) × TakesSteps g.B.BatchLink.batches g.K.Keeper.reads_back (running g.S.Sealer.cipher g.T.Tape.words c.args.self.now) (map {B = ProcessStep} Acts acts) (running g.S.Sealer.cipher g.T.Tape.words m)) is c.resume.ensures.takes_none in
    whatever c.unanswered.result (asked_round g.S.Sealer.cipher g.T.Tape.words g.B.BatchLink.batches g.K.Keeper.reads_back g.met.B.BatchLink.are_batches c.args.self.now mid kept tape
    goes c.args.commands.items c.requires c.submit_all.new.core c.submit_all.new.tape c.submit_all.ensures.kept c.submit_all.ensures.tape
    c.submit_all.new.core mid.link mid.keeper (refl, refl) [] refl w.0 w.1 c.in_ok-begun.field-0.notes.items c.in_ok-begun.ensures.ok)

pub returns-in-Ok-3-clause-asks : goal.returns-in-Ok-3-clause-asks
returns-in-Ok-3-clause-asks g c =
    let mid : VolumeParts g.row.S.Denot g.row.B.Denot g.row.K.Denot g.row.T.Denot = record { core = c.self.inside.core; link = c.self.inside.link; keeper = c.self.inside.keeper; tape = c.self.inside.tape } in
    let is : c.resume.new.self ≡ mid = sym c.self.view_is in
    let kept : IsSameDevice c.args.self.now.core mid.core = subst (λ (m : VolumeParts g.row.S.Denot g.row.B.Denot g.row.K.Denot g.row.T.Denot). IsSameDevice c.args.self.now.core m.core) is c.resume.ensures.kept in
    let tape : g.T.Tape.words mid.tape ≡ g.T.Tape.words c.args.self.now.tape = subst (λ (m : VolumeParts g.row.S.Denot g.row.B.Denot g.row.K.Denot g.row.T.Denot). g.T.Tape.words m.tape ≡ g.T.Tape.words c.args.self.now.tape) is c.resume.ensures.tape in
    let goes = subst (λ (m : VolumeParts g.row.S.Denot g.row.B.Denot g.row.K.Denot g.row.T.Denot). GoesOn (Had g.B.BatchLink.batches g.K.Keeper.reads_back) HostHears (HasArrays HoldsArray (KeepsArray g.K.Keeper.reads_back)) (running g.S.Sealer.cipher g.T.Tape.words c.args.self.now) (λ _ old new. (new.held ≡ old.held) × SavesPart (λ array part. part ≡ array) old new) (running g.S.Sealer.cipher g.T.Tape.words m)) is c.resume.ensures.goes in
    let k = c.in-Ok.ensures.ok in
    let does = noted_does g.B.BatchLink.batches g.B.BatchLink.notes g.B.BatchLink.learns g.K.Keeper.reads_back (scheme_of g.S.Sealer.cipher c.submit_all.new.core) (Keeps true ∷ k.0)
    (process c.submit_all.new.core.state mid.link mid.keeper)
    (process c.perform-performed.new.core.state c.perform-performed.new.link c.perform-performed.new.keeper) k.2 in
    let w = subst (λ (m : VolumeParts g.row.S.Denot g.row.B.Denot g.row.K.Denot g.row.T.Denot). (acts : List Act) × TakesSteps g.B.BatchLink.batches g.K.Keeper.reads_back (running g.S.Sealer.cipher g.T.Tape.words c.args.self.now) (map {B = ProcessStep} Acts acts) (running g.S.Sealer.cipher g.T.Tape.words m)) is c.resume.ensures.takes_none in
    asked_round g.S.Sealer.cipher g.T.Tape.words g.B.BatchLink.batches g.K.Keeper.reads_back g.met.B.BatchLink.are_batches c.args.self.now mid kept tape
    goes c.args.commands.items c.requires c.submit_all.new.core c.submit_all.new.tape c.submit_all.ensures.kept c.submit_all.ensures.tape
    c.perform-performed.new.core c.perform-performed.new.link c.perform-performed.new.keeper c.perform-performed.ensures.kept (Keeps true ∷ k.0) does w.0 w.1 c.in_ok-begun.field-0.notes.items c.in_ok-begun.ensures.ok

pub perform-performed-requires-clause-noted : goal.perform-performed-requires-clause-noted
perform-performed-requires-clause-noted g c = c.submit_all.ensures.noted _ c.self.invariant.0

pub invariant_of-self : goal.invariant_of-self
invariant_of-self g c = (c.submit_all.ensures.noted _ c.self.invariant.0, c.self.invariant.1)
