use Rattle.std.proofs.Common.{◌≡◌, ◌∙◌, ap, sym, subst, refl}
use Rattle.oram_core.specs.Core.{scheme_of}
use Rattle.oram_core.specs.PlainSteps.{Done}
use Rattle.oram_core.specs.AnswerMeaning.{IsVerdict}
use Rattle.oram_core.specs.Steps.{Heard}
use Rattle.oram_core.specs.Verdicts.{Means, Tells}
use Rattle.oram_core.specs.declared.verdicts.Verdict.TheVariants as verdict
use Rattle.oram_semantics.specs.Answers.Outcome.{Good}
use Rattle.oram_core.proofs.Heard.{failed_heard, if_ok, on_err}
use Rattle.oram_core.proofs.Judged.{use_verdict, stored_verdict}
use Rattle.oram_core.proofs.LocalRule.{fail_moves, moves_by, stall_moves}
use Rattle.std.proofs.lemmas.Result.{IfOk-from_err}
use Rattle.oram_core.proofs.machine.Core.take_answer.Goals as goal

pub returns-in-Path-clause-verdict : goal.returns-in-Path-clause-verdict
returns-in-Path-clause-verdict g c = λ other.
    let v = scheme_of g.S.Sealer.cipher c.args.self.now in
    let s = c.args.self.now.state in
    let tells = subst (Tells v s c.args.bytes.now) c.in-Path.is c.verdict.ensures.tells in
    if_ok _ _ c.store.result (λ y u. use_verdict v s c.args.bytes.now c.in-Path.path y.note tells u) c.store.ensures.uses

pub returns-in-Stored-clause-verdict : goal.returns-in-Stored-clause-verdict
returns-in-Stored-clause-verdict g c = λ other.
    let v = scheme_of g.S.Sealer.cipher c.args.self.now in
    let s = c.args.self.now.state in
    let tells = subst (Tells v s c.args.bytes.now) c.in-Stored.is c.verdict.ensures.tells in
    if_ok _ _ c.proceed.result (λ y n. subst (IsVerdict v s c.args.bytes.now) (sym n) (stored_verdict v s c.args.bytes.now tells)) c.proceed.ensures.taken

pub returns-in-Path-clause-moves : goal.returns-in-Path-clause-moves
returns-in-Path-clause-moves g c = λ w fits apart.
    let v = scheme_of g.S.Sealer.cipher c.args.self.now in
    let s = c.args.self.now.state in
    let m = subst (Means v s w c.args.bytes.now) c.in-Path.is (c.verdict.ensures.means w fits apart) in
    moves_by v s w c.args.bytes.now Good c.store.result c.store.new.self.state m.0 (c.store.ensures.moves w fits m.1)

pub returns-in-Stored-clause-moves : goal.returns-in-Stored-clause-moves
returns-in-Stored-clause-moves g c = λ w fits apart.
    let v = scheme_of g.S.Sealer.cipher c.args.self.now in
    let s = c.args.self.now.state in
    let m = subst (Means v s w c.args.bytes.now) c.in-Stored.is (c.verdict.ensures.means w fits apart) in
    moves_by v s w c.args.bytes.now Good c.proceed.result c.proceed.new.self.state m (c.proceed.ensures.moves w fits)

pub verdict-requires : goal.verdict-requires
verdict-requires g c = c.requires

pub store-requires-clause-waiting : goal.store-requires-clause-waiting
store-requires-clause-waiting g c = c.requires

pub proceed-requires-clause-waiting : goal.proceed-requires-clause-waiting
proceed-requires-clause-waiting g c = c.requires

pub stall-requires : goal.stall-requires
stall-requires g c = c.requires

pub same-self : goal.same-self
same-self g c = refl

pub same-self-in-Stored : goal.same-self-in-Stored
same-self-in-Stored g c = refl

pub same-self-in-NoRoom : goal.same-self-in-NoRoom
same-self-in-NoRoom g c = refl

pub same-self-in_err-replies-in-Bad : goal.same-self-in_err-replies-in-Bad
same-self-in_err-replies-in-Bad g c = refl

pub same-self-in-Bad : goal.same-self-in-Bad
same-self-in-Bad g c = refl

pub returns-in_err-replies-in-Bad-clause-kept : goal.returns-in_err-replies-in-Bad-clause-kept
returns-in_err-replies-in-Bad-clause-kept g c = (refl, refl)

pub returns-in_err-replies-in-Bad-clause-moves : goal.returns-in_err-replies-in-Bad-clause-moves
returns-in_err-replies-in-Bad-clause-moves g c = λ w fits apart. IfOk-from_err c.from_residual.result _ c.from_residual.ensures.0

pub returns-in_err-replies-in-Bad-clause-heard : goal.returns-in_err-replies-in-Bad-clause-heard
returns-in_err-replies-in-Bad-clause-heard g c = λ other. IfOk-from_err c.from_residual.result _ c.from_residual.ensures.0

pub returns-in_err-replies-in-Bad-clause-verdict : goal.returns-in_err-replies-in-Bad-clause-verdict
returns-in_err-replies-in-Bad-clause-verdict g c = λ other. IfOk-from_err c.from_residual.result _ c.from_residual.ensures.0

pub returns-in_err-replies-in-Bad-clause-no_room : goal.returns-in_err-replies-in-Bad-clause-no_room
returns-in_err-replies-in-Bad-clause-no_room g c = λ is. IfOk-from_err c.from_residual.result _ c.from_residual.ensures.0

pub returns-in_err-replies-in-Bad-clause-err : goal.returns-in_err-replies-in-Bad-clause-err
returns-in_err-replies-in-Bad-clause-err g c = on_err _ c.from_residual.result refl

pub returns-in-Path-clause-kept : goal.returns-in-Path-clause-kept
returns-in-Path-clause-kept g c = c.store.ensures.kept

pub returns-in-Path-clause-heard : goal.returns-in-Path-clause-heard
returns-in-Path-clause-heard g c = λ other. c.store.ensures.heard

pub returns-in-Path-clause-err : goal.returns-in-Path-clause-err
returns-in-Path-clause-err g c = c.store.ensures.err

pub returns-in-Stored-clause-kept : goal.returns-in-Stored-clause-kept
returns-in-Stored-clause-kept g c = c.proceed.ensures.kept

pub returns-in-Stored-clause-heard : goal.returns-in-Stored-clause-heard
returns-in-Stored-clause-heard g c = λ other. c.proceed.ensures.heard

pub returns-in-Stored-clause-err : goal.returns-in-Stored-clause-err
returns-in-Stored-clause-err g c = c.proceed.ensures.err

pub returns-in-NoRoom-clause-kept : goal.returns-in-NoRoom-clause-kept
returns-in-NoRoom-clause-kept g c = c.stall.ensures.kept

pub returns-in-NoRoom-clause-no_room : goal.returns-in-NoRoom-clause-no_room
returns-in-NoRoom-clause-no_room g c = λ is. c.stall.ensures.ok

pub returns-in_ok-replies-in-Bad-clause-kept : goal.returns-in_ok-replies-in-Bad-clause-kept
returns-in_ok-replies-in-Bad-clause-kept g c = c.fail.ensures.kept

pub returns-in-Path-clause-no_room : goal.returns-in-Path-clause-no_room
returns-in-Path-clause-no_room g c = λ is. absurd (let no_way : verdict.Path c.in-Path.path ≡ verdict.NoRoom = sym c.in-Path.is ∙ c.verdict.ensures.no_room.1 is in cc)

pub returns-in-Path-clause-free : goal.returns-in-Path-clause-free
returns-in-Path-clause-free g c = λ is. absurd (let no_way : verdict.Path c.in-Path.path ≡ verdict.NoRoom = sym c.in-Path.is ∙ c.verdict.ensures.no_room.1 is in cc)

pub returns-in-Stored-clause-no_room : goal.returns-in-Stored-clause-no_room
returns-in-Stored-clause-no_room g c = λ is. absurd (let no_way : verdict.Stored ≡ verdict.NoRoom = sym c.in-Stored.is ∙ c.verdict.ensures.no_room.1 is in cc)

pub returns-in-Stored-clause-free : goal.returns-in-Stored-clause-free
returns-in-Stored-clause-free g c = λ is. absurd (let no_way : verdict.Stored ≡ verdict.NoRoom = sym c.in-Stored.is ∙ c.verdict.ensures.no_room.1 is in cc)

pub returns-in-NoRoom-clause-moves : goal.returns-in-NoRoom-clause-moves
returns-in-NoRoom-clause-moves g c = λ w fits apart.
    let v = scheme_of g.S.Sealer.cipher c.args.self.now in
    let s = c.args.self.now.state in
    let means = subst (Means v s w c.args.bytes.now) c.in-NoRoom.is (c.verdict.ensures.means w fits apart) in
    stall_moves v s w c.args.bytes.now c.stall.result c.stall.new.self.state fits means c.stall.ensures.ok

pub returns-in-NoRoom-clause-heard : goal.returns-in-NoRoom-clause-heard
returns-in-NoRoom-clause-heard g c = λ other. absurd (other (c.verdict.ensures.no_room.0 c.in-NoRoom.is))

pub returns-in-NoRoom-clause-verdict : goal.returns-in-NoRoom-clause-verdict
returns-in-NoRoom-clause-verdict g c = λ other. absurd (other (c.verdict.ensures.no_room.0 c.in-NoRoom.is))

pub returns-in-NoRoom-clause-free : goal.returns-in-NoRoom-clause-free
returns-in-NoRoom-clause-free g c = λ is. refl

pub returns-in-NoRoom-clause-err : goal.returns-in-NoRoom-clause-err
returns-in-NoRoom-clause-err g c = tt

pub returns-in_ok-replies-in-Bad-clause-moves : goal.returns-in_ok-replies-in-Bad-clause-moves
returns-in_ok-replies-in-Bad-clause-moves g c = λ w fits apart.
    let v = scheme_of g.S.Sealer.cipher c.args.self.now in
    let s = c.args.self.now.state in
    let means = subst (Means v s w c.args.bytes.now) c.in-Bad.is (c.verdict.ensures.means w fits apart) in
    fail_moves v s w c.args.bytes.now c.in-Bad.reason c.fail.result c.fail.new.self.state means c.fail.ensures.ok

pub returns-in_ok-replies-in-Bad-clause-heard : goal.returns-in_ok-replies-in-Bad-clause-heard
returns-in_ok-replies-in-Bad-clause-heard g c = λ other.
    let v = scheme_of g.S.Sealer.cipher c.args.self.now in
    let s = c.args.self.now.state in
    subst (Heard v s) (sym c.fail.ensures.ok) (failed_heard v s s c.in-Bad.reason refl refl refl)

pub returns-in_ok-replies-in-Bad-clause-verdict : goal.returns-in_ok-replies-in-Bad-clause-verdict
returns-in_ok-replies-in-Bad-clause-verdict g c = λ other.
    let v = scheme_of g.S.Sealer.cipher c.args.self.now in
    let s = c.args.self.now.state in
    let tells = subst (Tells v s c.args.bytes.now) c.in-Bad.is c.verdict.ensures.tells in
    subst (IsVerdict v s c.args.bytes.now) (sym (ap (λ (d : Done). d.note) c.fail.ensures.ok)) tells

pub returns-in_ok-replies-in-Bad-clause-no_room : goal.returns-in_ok-replies-in-Bad-clause-no_room
returns-in_ok-replies-in-Bad-clause-no_room g c = λ is. absurd (let no_way : verdict.Bad c.in-Bad.reason ≡ verdict.NoRoom = sym c.in-Bad.is ∙ c.verdict.ensures.no_room.1 is in cc)

pub returns-in_ok-replies-in-Bad-clause-free : goal.returns-in_ok-replies-in-Bad-clause-free
returns-in_ok-replies-in-Bad-clause-free g c = λ is. refl

pub returns-in_ok-replies-in-Bad-clause-err : goal.returns-in_ok-replies-in-Bad-clause-err
returns-in_ok-replies-in-Bad-clause-err g c = tt

pub returns-in_err-replies-in-Bad-clause-free : goal.returns-in_err-replies-in-Bad-clause-free
returns-in_err-replies-in-Bad-clause-free g c = λ is. absurd (let no_way : verdict.Bad c.in-Bad.reason ≡ verdict.NoRoom = sym c.in-Bad.is ∙ c.verdict.ensures.no_room.1 is in cc)
