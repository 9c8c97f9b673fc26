use Rattle.std.proofs.Common.{List, ◌∷◌, ◌++◌, ◌∙◌, true, refl, ap, inl, inr}
use Rattle.std.proofs.lemmas.Result.{err_from_is_err_and}
use Rattle.oram_core.specs.Core.{scheme_of}
use Rattle.oram_session.proofs.CoreSteps.{same_scheme}
use Rattle.oram_rounds.specs.Process.{Act}
use Rattle.oram_rounds.specs.Process.Act.{Keeps}
use Rattle.oram_rounds.proofs.Results.{if_ok, on_err}
use Rattle.oram_rounds.proofs.Noted.{done_after, kept_not, talks_beside}
use Rattle.oram_rounds.proofs.Talk.{lost_talks, reopened_talks}
use Rattle.oram_rounds.proofs.rounds.resume.Goals as goal

pub returns-in_err-reaction-clause-err : goal.returns-in_err-reaction-clause-err
returns-in_err-reaction-clause-err g c =
    let p = err_from_is_err_and c.from_residual.result c.from_residual.ensures.1 in
    let v = scheme_of g.S.Sealer.cipher c.args.core.now in
    let lost = lost_talks g.B.BatchLink.batches v c.args.core.now.state c.reopen.new.core.state c.args.link.now c.in_err-reaction.ensures.err in
    rw p.1 (lost.1.acts, talks_beside g.B.BatchLink.batches g.B.BatchLink.notes g.B.BatchLink.learns g.K.Keeper.reads_back v c.args.keeper.now lost.1.acts _ _ lost.1.talks, inl (lost.0, lost.2))

pub returns-clause-ok : goal.returns-clause-ok
returns-clause-ok g c =
    let batches = g.B.BatchLink.batches in
    let v = scheme_of g.S.Sealer.cipher c.args.core.now in
    let u = scheme_of g.S.Sealer.cipher c.reopen.new.core in
    let same = same_scheme g.S.Sealer.cipher c.args.core.now c.reopen.new.core c.reopen.ensures.kept in
    let resumes = reopened_talks batches v c.args.core.now.state c.reopen.new.core.state c.args.link.now c.in_ok-reaction.ensures.ok in
    if_ok _ _ c.perform.result (λ replies done.
    let round : List Act = Keeps true ∷ done.0 in
    let all = done_after batches g.B.BatchLink.notes g.B.BatchLink.learns g.K.Keeper.reads_back v u c.args.keeper.now _ _ _ round same resumes.2 done.2 in
    (all.0, all.1 ∙ done.1, all.2, λ _. (resumes.0, resumes.1, round, all.3 ∙ ap (λ (first : List Act). first ++ round) resumes.3, (done.0, refl, done.3)))) c.perform.ensures.ok

pub returns-clause-err : goal.returns-clause-err
returns-clause-err g c =
    let batches = g.B.BatchLink.batches in
    let v = scheme_of g.S.Sealer.cipher c.args.core.now in
    let u = scheme_of g.S.Sealer.cipher c.reopen.new.core in
    let same = same_scheme g.S.Sealer.cipher c.args.core.now c.reopen.new.core c.reopen.ensures.kept in
    let resumes = reopened_talks batches v c.args.core.now.state c.reopen.new.core.state c.args.link.now c.in_ok-reaction.ensures.ok in
    on_err c.perform.result (λ done.
    let all = done_after batches g.B.BatchLink.notes g.B.BatchLink.learns g.K.Keeper.reads_back v u c.args.keeper.now _ _ _ done.0 same resumes.2 done.2 in
    (all.0, all.2, inr (resumes.0, resumes.1, done.0, all.3 ∙ ap (λ (first : List Act). first ++ done.0) resumes.3, done.1))) c.perform.ensures.err

pub returns-clause-not_kept : goal.returns-clause-not_kept
returns-clause-not_kept g c = λ e.
    let batches = g.B.BatchLink.batches in
    let v = scheme_of g.S.Sealer.cipher c.args.core.now in
    let u = scheme_of g.S.Sealer.cipher c.reopen.new.core in
    let same = same_scheme g.S.Sealer.cipher c.args.core.now c.reopen.new.core c.reopen.ensures.kept in
    let resumes = reopened_talks batches v c.args.core.now.state c.reopen.new.core.state c.args.link.now c.in_ok-reaction.ensures.ok in
    kept_not batches g.B.BatchLink.notes g.B.BatchLink.learns g.K.Keeper.reads_back v u c.args.keeper.now _ _ _ same resumes.2 (c.perform.ensures.not_kept e).2

pub perform-requires-clause-noted : goal.perform-requires-clause-noted
perform-requires-clause-noted g c = c.reopen.ensures.noted _ c.requires.noted

pub returns-in_err-reaction-clause-noted : goal.returns-in_err-reaction-clause-noted
returns-in_err-reaction-clause-noted g c = c.reopen.ensures.noted _ c.requires.noted
