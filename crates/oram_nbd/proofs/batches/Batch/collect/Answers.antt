use Rattle.std.proofs.Common.{◌++◌, ◌∙◌, ℕ, List, refl, sym, subst}
use Rattle.std.proofs.KnownBytes.{Consumes-trans}
use Rattle.std.proofs.lemmas.Result.{err_from_is_err_and, MatchResult-weaker}
use Rattle.oram_nbd.specs.Batches.{EndsBy}
use Rattle.oram_nbd.specs.Messages.{request_text}
use Rattle.oram_nbd.specs.Service.{WholeRequest}
use Rattle.oram_nbd.specs.Streams.{ComesShort}
use Rattle.oram_nbd.specs.declared.batches.Close.{Close}
use Rattle.oram_nbd.proofs.Gathered.{payload_cut}
use Rattle.oram_nbd.proofs.Pieces.{if_err}
use Rattle.oram_nbd.proofs.batches.Batch.collect.Goals as goal

pub returns-in_err-payload-clause-err : goal.returns-in_err-payload-clause-err
returns-in_err-payload-clause-err g c =
    let p = err_from_is_err_and c.from_residual-in_err-payload.result c.from_residual-in_err-payload.ensures.1 in
    let r = c.in-Some.request in
    let f = c.in_err-payload.field-0.0 in
    let came = rw c.in-Some.is at c.in_ok-request.ensures.ok in
    let short = subst (λ (n : ℕ). ComesShort 0 n f (g.R.Read.remaining c.next_request.new.reader) (g.R.Read.remaining c.read_payload.new.reader)) c.payload_len.ensures c.in_err-payload.ensures.err in
    if_err _ _ _ _ p.1 p.2 (payload_cut _ _ _ r f came.0 came.1 short)

pub returns-clause-err : goal.returns-clause-err
returns-clause-err g c =
    let r = c.in-Some.request in
    let came = rw c.in-Some.is at c.in_ok-request.ensures.ok in
    let got = c.in_ok-payload.ensures.ok in
    let a : WholeRequest = record { request = r; payload = got.0 } in
    let text : List ℕ = request_text r ++ got.0 in
    let all = Consumes-trans _ _ _ (request_text r) got.0 came.1 got.2 in
    MatchResult-weaker c.add.result c.add.ensures.err (λ x h. tt) (λ close is. (
      text,
      all,
      subst (λ (k : Close). EndsBy k text (g.R.Read.remaining c.read_payload.new.reader)) (sym is) (a, record { request = came.0; payload = got.1 ∙ c.payload_len.ensures }, refl, refl),
    ))
