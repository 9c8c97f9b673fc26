use Rattle.std.proofs.Common.{List, ℕ, [], ◌∷◌, false, true, refl, sym, ap, subst, inl, inr, ◌∙◌}
use Rattle.std.proofs.lemmas.Result.{err_from_is_err_and}
use Rattle.oram_core.specs.Core.{CoreValue, IsNotedSince, scheme_of}
use Rattle.oram_core.specs.PlainSteps.{done}
use Rattle.oram_core.proofs.NotedTables.{none_changed}
use Rattle.oram_session.specs.CoreWork.{IsUnderWay}
use Rattle.oram_rounds.specs.Arrivals.{GoesAheadAndTalks}
use Rattle.oram_rounds.specs.Process.{next_bodies, process}
use Rattle.oram_rounds.specs.Process.Act.{GoesAhead, Keeps}
use Rattle.oram_rounds.proofs.Noted.{keeps_not, keeps_noted, talks_beside}
use Rattle.oram_rounds.proofs.Talk.{talks_keep_nothing}
use Rattle.oram_rounds.proofs.Told.{round_told}
use Rattle.oram_rounds.proofs.rounds.perform.Goals as goal

pub carry_out_ahead-requires-clause-under_way : goal.carry_out_ahead-requires-clause-under_way
carry_out_ahead-requires-clause-under_way g c =
    subst (λ (u : CoreValue g.row.S.Denot). IsUnderWay (done c.args.reaction u.state)) (sym c.in_ok-keep.ensures.forgotten.0) c.requires.under_way

pub returns-in_err-keep-clause-err : goal.returns-in_err-keep-clause-err
returns-in_err-keep-clause-err g c =
    let p = err_from_is_err_and c.from_residual.result c.from_residual.ensures.1 in
    let v = scheme_of g.S.Sealer.cipher c.args.core.now in
    let failed = c.in_err-keep.ensures.err in
    let now = process c.args.core.now.state c.keep.new.link c.keep.new.keeper in
    rw p.1 (
      Keeps false ∷ [],
      inl refl,
      (
        now,
        keeps_not g.B.BatchLink.batches g.B.BatchLink.notes g.B.BatchLink.learns g.K.Keeper.reads_back v _ now failed.0 refl failed.1,
        ap (λ (u : CoreValue g.row.S.Denot). process u.state c.keep.new.link c.keep.new.keeper) (sym c.in_err-keep.ensures.unchanged.0),
      ),
    )

pub returns-in_err-keep-clause-not_kept : goal.returns-in_err-keep-clause-not_kept
returns-in_err-keep-clause-not_kept g c = λ e.
    let v = scheme_of g.S.Sealer.cipher c.args.core.now in
    let failed = c.in_err-keep.ensures.err in
    let now = process c.args.core.now.state c.keep.new.link c.keep.new.keeper in (
      c.in_err-keep.ensures.unchanged.0,
      failed.1,
      (
        now,
        keeps_not g.B.BatchLink.batches g.B.BatchLink.notes g.B.BatchLink.learns g.K.Keeper.reads_back v _ now failed.0 refl failed.1,
        ap (λ (u : CoreValue g.row.S.Denot). process u.state c.keep.new.link c.keep.new.keeper) (sym c.in_err-keep.ensures.unchanged.0),
      ),
    )

pub returns-in_err-keep-clause-noted : goal.returns-in_err-keep-clause-noted
returns-in_err-keep-clause-noted g c =
    let same = c.in_err-keep.ensures.unchanged in
    subst (λ (t : List ℕ). IsNotedSince t c.keep.new.core) (sym same.1)
    (subst (λ (u : CoreValue g.row.S.Denot). IsNotedSince (g.K.Keeper.kept_table c.args.keeper.now) u) (sym same.0) c.requires.noted)

pub returns-in_err-fetches-clause-err : goal.returns-in_err-fetches-clause-err
returns-in_err-fetches-clause-err g c =
    let p = err_from_is_err_and c.from_residual-in_err-fetches.result c.from_residual-in_err-fetches.ensures.1 in
    let v = scheme_of g.S.Sealer.cipher c.args.core.now in
    let kept = c.in_ok-keep.ensures.ok in
    let now = process c.args.core.now.state c.keep.new.link c.keep.new.keeper in
    rw p.1 (
      Keeps true ∷ [],
      inr (inl refl),
      (
        now,
        keeps_noted g.B.BatchLink.batches g.B.BatchLink.notes g.B.BatchLink.learns g.K.Keeper.reads_back g.met.B.BatchLink.learning_sends_nothing v _ now kept.0 refl kept.1,
        ap (λ (u : CoreValue g.row.S.Denot). process u.state c.keep.new.link c.keep.new.keeper) (sym c.in_ok-keep.ensures.forgotten.0),
      ),
    )

pub returns-in_err-fetches-clause-noted : goal.returns-in_err-fetches-clause-noted
returns-in_err-fetches-clause-noted g c =
    let forgotten = c.in_ok-keep.ensures.forgotten in
    none_changed c.args.core.now c.keep.new.core (g.K.Keeper.kept_table c.keep.new.keeper) forgotten.0 forgotten.1

pub returns-in-Ok-clause-noted : goal.returns-in-Ok-clause-noted
returns-in-Ok-clause-noted g c =
    let forgotten = c.in_ok-keep.ensures.forgotten in
    c.carry_out_ahead.ensures.noted _ (none_changed c.args.core.now c.keep.new.core (g.K.Keeper.kept_table c.keep.new.keeper) forgotten.0 forgotten.1)

pub returns-in-Err-Stalled-clause-noted : goal.returns-in-Err-Stalled-clause-noted
returns-in-Err-Stalled-clause-noted g c =
    let forgotten = c.in_ok-keep.ensures.forgotten in
    c.carry_out_ahead.ensures.noted _ (none_changed c.args.core.now c.keep.new.core (g.K.Keeper.kept_table c.keep.new.keeper) forgotten.0 forgotten.1)

pub returns-in-Ok-clause-told : goal.returns-in-Ok-clause-told
returns-in-Ok-clause-told g c =
    round_told g.B.BatchLink.batches g.B.BatchLink.notes g.B.BatchLink.tells g.met.B.BatchLink.batches_are_told (g.K.Keeper.kept_records c.keep.new.keeper) _
    c.keep.new.link c.in-Ok.ensures.ok.link c.carry_out_ahead.new.link _ c.in-Ok.ensures.ok.exchanges _ _ _ c.in-Ok.ensures.ok.went c.in-Ok.ensures.ok.talked c.in_ok-keep.ensures.told

pub returns-in-Err-Stalled-clause-told : goal.returns-in-Err-Stalled-clause-told
returns-in-Err-Stalled-clause-told g c =
    round_told g.B.BatchLink.batches g.B.BatchLink.notes g.B.BatchLink.tells g.met.B.BatchLink.batches_are_told (g.K.Keeper.kept_records c.keep.new.keeper) _
    c.keep.new.link c.in-Err-Stalled.ensures.err.1.link c.carry_out_ahead.new.link _ c.in-Err-Stalled.ensures.err.1.exchanges _ _ _ c.in-Err-Stalled.ensures.err.1.went c.in-Err-Stalled.ensures.err.1.talked c.in_ok-keep.ensures.told

pub returns-in-Ok-clause-ok : goal.returns-in-Ok-clause-ok
returns-in-Ok-clause-ok g c =
    let v = scheme_of g.S.Sealer.cipher c.args.core.now in
    let kept = c.in_ok-keep.ensures.ok in
    let same = c.in_ok-keep.ensures.forgotten.0 in
    let goes = subst (λ (u : CoreValue g.row.S.Denot). GoesAheadAndTalks (scheme_of g.S.Sealer.cipher u) g.B.BatchLink.batches (u.state, c.keep.new.link) (next_bodies u.device u.state) c.in-Ok.replies.items (c.carry_out_ahead.new.core.state, c.carry_out_ahead.new.link)) same
    (subst (λ (bodies : List (List ℕ)). GoesAheadAndTalks (scheme_of g.S.Sealer.cipher c.keep.new.core) g.B.BatchLink.batches (c.keep.new.core.state, c.keep.new.link) bodies c.in-Ok.replies.items (c.carry_out_ahead.new.core.state, c.carry_out_ahead.new.link)) c.in_ok-fetches.ensures c.in-Ok.ensures.ok) in
    let talked = goes.talked in
    let now = process c.args.core.now.state c.keep.new.link c.keep.new.keeper in (
      GoesAhead goes.exchanges ∷ talked.acts,
      talked.replied,
      (
        now,
        keeps_noted g.B.BatchLink.batches g.B.BatchLink.notes g.B.BatchLink.learns g.K.Keeper.reads_back g.met.B.BatchLink.learning_sends_nothing v _ now kept.0 refl kept.1,
        (
          process c.args.core.now.state goes.link c.keep.new.keeper,
          (((goes.went, refl), refl), tt),
          talks_beside g.B.BatchLink.batches g.B.BatchLink.notes g.B.BatchLink.learns g.K.Keeper.reads_back v c.keep.new.keeper talked.acts _ _ talked.talks,
        ),
      ),
      (goes.exchanges, talked.acts, refl, talks_keep_nothing g.B.BatchLink.batches v talked.acts _ _ talked.talks),
    )

pub returns-in-Err-Stalled-clause-err : goal.returns-in-Err-Stalled-clause-err
returns-in-Err-Stalled-clause-err g c =
    let v = scheme_of g.S.Sealer.cipher c.args.core.now in
    let kept = c.in_ok-keep.ensures.ok in
    let same = c.in_ok-keep.ensures.forgotten.0 in
    let last = c.in-Err-Stalled.ensures.err in
    let goes = subst (λ (u : CoreValue g.row.S.Denot). GoesAheadAndTalks (scheme_of g.S.Sealer.cipher u) g.B.BatchLink.batches (u.state, c.keep.new.link) (next_bodies u.device u.state) last.0 (c.carry_out_ahead.new.core.state, c.carry_out_ahead.new.link)) same
    (subst (λ (bodies : List (List ℕ)). GoesAheadAndTalks (scheme_of g.S.Sealer.cipher c.keep.new.core) g.B.BatchLink.batches (c.keep.new.core.state, c.keep.new.link) bodies last.0 (c.carry_out_ahead.new.core.state, c.carry_out_ahead.new.link)) c.in_ok-fetches.ensures last.1) in
    let talked = goes.talked in
    let now = process c.args.core.now.state c.keep.new.link c.keep.new.keeper in (
      Keeps true ∷ GoesAhead goes.exchanges ∷ talked.acts,
      inr (inr (GoesAhead goes.exchanges ∷ talked.acts, refl, (goes.exchanges, talked.acts, refl, talks_keep_nothing g.B.BatchLink.batches v talked.acts _ _ talked.talks))),
      (
        now,
        keeps_noted g.B.BatchLink.batches g.B.BatchLink.notes g.B.BatchLink.learns g.K.Keeper.reads_back g.met.B.BatchLink.learning_sends_nothing v _ now kept.0 refl kept.1,
        (
          process c.args.core.now.state goes.link c.keep.new.keeper,
          (((goes.went, refl), refl), tt),
          talks_beside g.B.BatchLink.batches g.B.BatchLink.notes g.B.BatchLink.learns g.K.Keeper.reads_back v c.keep.new.keeper talked.acts _ _ talked.talks,
        ),
      ),
    )

pub returns-in-Err : goal.returns-in-Err
returns-in-Err g c =
    let v = scheme_of g.S.Sealer.cipher c.args.core.now in
    let kept = c.in_ok-keep.ensures.ok in
    let forgotten = c.in_ok-keep.ensures.forgotten in
    let same = forgotten.0 in
    let last = c.in-Err.ensures.err in
    let goes = subst (λ (u : CoreValue g.row.S.Denot). GoesAheadAndTalks (scheme_of g.S.Sealer.cipher u) g.B.BatchLink.batches (u.state, c.keep.new.link) (next_bodies u.device u.state) last.0 (c.carry_out_ahead.new.core.state, c.carry_out_ahead.new.link)) same
    (subst (λ (bodies : List (List ℕ)). GoesAheadAndTalks (scheme_of g.S.Sealer.cipher c.keep.new.core) g.B.BatchLink.batches (c.keep.new.core.state, c.keep.new.link) bodies last.0 (c.carry_out_ahead.new.core.state, c.carry_out_ahead.new.link)) c.in_ok-fetches.ensures last.1) in
    let talked = goes.talked in
    let now = process c.args.core.now.state c.keep.new.link c.keep.new.keeper in
    record {
      noted = c.carry_out_ahead.ensures.noted _ (none_changed c.args.core.now c.keep.new.core (g.K.Keeper.kept_table c.keep.new.keeper) forgotten.0 forgotten.1);
      told = round_told g.B.BatchLink.batches g.B.BatchLink.notes g.B.BatchLink.tells g.met.B.BatchLink.batches_are_told (g.K.Keeper.kept_records c.keep.new.keeper) _
          c.keep.new.link last.1.link c.carry_out_ahead.new.link _ last.1.exchanges _ _ _ last.1.went last.1.talked c.in_ok-keep.ensures.told;
      kept = (
        c.in-Err.ensures.kept.0 ∙ ap (λ (u : CoreValue g.row.S.Denot). u.device) same,
        c.in-Err.ensures.kept.1 ∙ ap (λ (u : CoreValue g.row.S.Denot). u.sealer) same,
      );
      ok = tt;
      count = tt;
      no_work = tt;
      block = tt;
      failed = tt;
      err = (
        Keeps true ∷ GoesAhead goes.exchanges ∷ talked.acts,
        inr (inr (GoesAhead goes.exchanges ∷ talked.acts, refl, (goes.exchanges, talked.acts, refl, talks_keep_nothing g.B.BatchLink.batches v talked.acts _ _ talked.talks))),
        (
          now,
          keeps_noted g.B.BatchLink.batches g.B.BatchLink.notes g.B.BatchLink.learns g.K.Keeper.reads_back g.met.B.BatchLink.learning_sends_nothing v _ now kept.0 refl kept.1,
          (
            process c.args.core.now.state goes.link c.keep.new.keeper,
            (((goes.went, refl), refl), tt),
            talks_beside g.B.BatchLink.batches g.B.BatchLink.notes g.B.BatchLink.learns g.K.Keeper.reads_back v c.keep.new.keeper talked.acts _ _ talked.talks,
          ),
        ),
      );
      not_kept = λ e. absurd cc;
      stalled = λ e. absurd cc;
    }
