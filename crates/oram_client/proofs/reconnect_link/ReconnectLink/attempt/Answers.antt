use Rattle.std.proofs.Common.{[], inl, refl, ap}
use Rattle.std.proofs.lemmas.Result.{err_from_is_err_and}
use Rattle.oram_client.proofs.reconnect_link.ReconnectLink.attempt.Goals as goal

pub returns-in_err-line-clause-tried : goal.returns-in_err-line-clause-tried
returns-in_err-line-clause-tried g c =
    let p = err_from_is_err_and c.from_residual.result c.from_residual.ensures.1 in
    let failed = c.in_err-line.ensures.err in
    rw p.1 (
      [],
      inl (record {
        none = failed.0;
        why = c.in_err-line.field-0.0;
        failed = failed.1;
        says = rw p.2 refl;
        unsent = refl;
        still_none = ap (λ v. v.line) c.in_err-line.ensures.same;
      }),
    )
