use Rattle.std.proofs.Common.{◌≡◌, ◌++◌, ◌+◌, ℕ, List, Option, drop, refl, sym, ap, ◌∙◌, arith}
use Rattle.std.proofs.lemmas.Result.{err_from_is_err_and}
use Rattle.oram_nbd.specs.Batches.{answers_text, reply_if, reply_of}
use Rattle.oram_nbd.specs.Messages.{reply_text}
use Rattle.oram_nbd.specs.Messages.SimpleReply.{Done}
use Rattle.oram_nbd.specs.Service.{refusal_of}
use Rattle.oram_nbd.specs.declared.faults.NbdError.{NbdError}
use Rattle.oram_nbd.specs.declared.requests.Request.{Request}
use Rattle.oram_nbd.proofs.Gathered.{answers_end, answers_next, writes_all, writes_begun, writes_next}
use Rattle.oram_nbd.proofs.Pieces.{if_err}
use Rattle.oram_nbd.proofs.replies.put_answers.Goals as goal

-- the next reply, as it is written
next_text : (size : ℕ) (requests : List Request) (given : List (List ℕ)) (i : ℕ) (r : Request) (bytes part : List ℕ) (o : Option NbdError)
    → answers_text size (drop i requests) (drop i given) ≡ reply_text r.cookie (reply_of size r bytes) ++ answers_text size (drop (i + 1) requests) (drop (i + 1) given)
    → o ≡ refusal_of size r → part ≡ bytes
    → answers_text size (drop i requests) (drop i given) ≡ reply_text r.cookie (reply_if o (Done part)) ++ answers_text size (drop (i + 1) requests) (drop (i + 1) given)
next_text size requests given i r bytes part o next why is =
    next ∙ ap (λ (x : Option NbdError). reply_text r.cookie (reply_if x (Done bytes)) ++ answers_text size (drop (i + 1) requests) (drop (i + 1) given)) (sym why)
    ∙ ap (λ (l : List ℕ). reply_text r.cookie (reply_if o (Done l)) ++ answers_text size (drop (i + 1) requests) (drop (i + 1) given)) (sym is)

pub loop-i-preserved : goal.loop-i-preserved
loop-i-preserved g c =
    let r = c.request_at-request.result in
    let i = c.loop-i.i in
    let next = answers_next c.args.size c.args.requests.now c.args.given.now i r c.index-given-i.result c.loop-i-test.true c.requires c.request_at-request.ensures c.index-given-i.is in
    let part = c.as_slice-bytes.ensures in
    writes_next _ _ _ _ c.loop-i.invariant _ _ _
    (next_text c.args.size c.args.requests.now c.args.given.now i r c.index-given-i.result c.as_slice-bytes.result.now c.refusal.result next c.refusal.ensures part) c.in_ok-put_reply.ensures.ok

pub returns-in_err-put_reply-clause-err : goal.returns-in_err-put_reply-clause-err
returns-in_err-put_reply-clause-err g c =
    let p = err_from_is_err_and c.from_residual.result c.from_residual.ensures.1 in
    let r = c.request_at-request.result in
    let i = c.loop-i.i in
    let next = answers_next c.args.size c.args.requests.now c.args.given.now i r c.index-given-i.result c.loop-i-test.true c.requires c.request_at-request.ensures c.index-given-i.is in
    let part = c.as_slice-bytes.ensures in
    if_err _ _ _ _ p.1 (p.2 ∙ c.in_err-put_reply.ensures.err.0) (
      refl,
      writes_begun _ _ _ _ c.loop-i.invariant _ _ _
          (next_text c.args.size c.args.requests.now c.args.given.now i r c.index-given-i.result c.as_slice-bytes.result.now c.refusal.result next c.refusal.ensures part) c.in_err-put_reply.ensures.err.1,
    )

pub returns-clause-ok : goal.returns-clause-ok
returns-clause-ok g c = writes_all _ _ _ _ c.loop-i.invariant (answers_end c.args.size c.args.requests.now c.args.given.now c.loop-i.i (omega (arith, c.loop-i-test.false)))
