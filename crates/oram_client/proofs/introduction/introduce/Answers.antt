use Rattle.std.proofs.Common.{◌++◌, inl, inr, refl}
use Rattle.std.proofs.lemmas.Result.{err_from_is_err_and}
use Rattle.oram_client.proofs.Introduced.{more_turns}
use Rattle.oram_client.proofs.introduction.introduce.Goals as goal

pub returns-in_err-keep_identity-clause-err : goal.returns-in_err-keep_identity-clause-err
returns-in_err-keep_identity-clause-err g c =
    let p = err_from_is_err_and c.from_residual.result c.from_residual.ensures.1 in
    let e = c.in_err-keep_identity.ensures.err in
    rw (p.1, p.2) (e.0, e.1, inl e.2)

pub returns-in_err-keep_stamps-clause-err : goal.returns-in_err-keep_stamps-clause-err
returns-in_err-keep_stamps-clause-err g c =
    let p = err_from_is_err_and c.from_residual-in_err-keep_stamps.result c.from_residual-in_err-keep_stamps.ensures.1 in
    let named = c.in_ok-keep_identity.ensures.ok in
    let e = c.in_err-keep_stamps.ensures.err in
    rw (p.1, p.2) (named.0 ++ e.0, more_turns g.L.BatchLink.batches _ _ _ _ _ named.1 e.1, inr (inl (named.0, e.0, refl, named.2, e.2)))

pub returns-in_err-confirm-clause-err : goal.returns-in_err-confirm-clause-err
returns-in_err-confirm-clause-err g c =
    let p = err_from_is_err_and c.from_residual-in_err-confirm.result c.from_residual-in_err-confirm.ensures.1 in
    let named = c.in_ok-keep_identity.ensures.ok in
    let stamped = c.in_ok-keep_stamps.ensures.ok in
    let e = c.in_err-confirm.ensures.err in
    rw (p.1, p.2) (
      named.0 ++ stamped.0 ++ e.0,
      more_turns g.L.BatchLink.batches _ _ _ _ _ (more_turns g.L.BatchLink.batches _ _ _ _ _ named.1 stamped.1) e.1,
      inr (inr (named.0, stamped.0, e.0, refl, named.2, stamped.2, e.2)),
    )

pub returns-clause-ok : goal.returns-clause-ok
returns-clause-ok g c =
    let named = c.in_ok-keep_identity.ensures.ok in
    let stamped = c.in_ok-keep_stamps.ensures.ok in
    let shaped = c.in_ok-confirm.ensures.ok in (
      named.0 ++ stamped.0 ++ shaped.0,
      more_turns g.L.BatchLink.batches _ _ _ _ _ (more_turns g.L.BatchLink.batches _ _ _ _ _ named.1 stamped.1) shaped.1,
      record {
        named = named.0;
        stamped = stamped.0;
        shaped = shaped.0;
        turns_are = refl;
        identity_kept = named.2;
        stamps_kept = stamped.2;
        trees_made = shaped.2;
      },
    )
