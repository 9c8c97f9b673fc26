use Rattle.std.proofs.Common.{◌≡◌, ◌++◌, ◌+◌, ℕ, List, drop, refl, sym, ap, ◌∙◌, arith}
use Rattle.std.proofs.lemmas.Result.{err_from_is_err_and}
use Rattle.oram_nbd.specs.Batches.{refusals_text, reply_if}
use Rattle.oram_nbd.specs.Messages.{reply_text, SimpleReply}
use Rattle.oram_nbd.specs.Messages.SimpleReply.{Refused}
use Rattle.oram_nbd.specs.Service.{refusal_of}
use Rattle.oram_nbd.specs.declared.faults.NbdError.{NbdError}
use Rattle.oram_nbd.specs.declared.requests.Request.{Request}
use Rattle.oram_nbd.proofs.Gathered.{refusals_end, refusals_next, writes_all, writes_begun, writes_next}
use Rattle.oram_nbd.proofs.Pieces.{if_err}
use Rattle.oram_nbd.proofs.replies.put_refusals.Goals as goal

-- the next reply, as it is written
next_text : (size : ℕ) (requests : List Request) (e why : NbdError) (i : ℕ) (r : Request) (reply : SimpleReply)
    → refusals_text size (drop i requests) e ≡ reply_text r.cookie (reply_if (refusal_of size r) (Refused e)) ++ refusals_text size (drop (i + 1) requests) e
    → reply ≡ reply_if (refusal_of size r) (Refused e) → refusals_text size (drop i requests) e ≡ reply_text r.cookie reply ++ refusals_text size (drop (i + 1) requests) e
next_text size requests e why i r reply next is = next ∙ ap (λ (x : SimpleReply). reply_text r.cookie x ++ refusals_text size (drop (i + 1) requests) e) (sym is)

pub loop-i-preserved : goal.loop-i-preserved
loop-i-preserved g c =
    let r = c.request_at-request.result in
    let i = c.loop-i.i in
    let next = refusals_next c.args.size c.args.requests.now c.args.error i r c.loop-i-test.true c.request_at-request.ensures in
    let reply = c.error_of-why.ensures ∙ ap (λ o. reply_if o (Refused c.args.error)) c.refusal.ensures in
    writes_next _ _ _ _ c.loop-i.invariant _ _ _ (next_text c.args.size c.args.requests.now c.args.error c.error_of-why.result i r (Refused c.error_of-why.result) next reply) c.in_ok-put_reply.ensures.ok

pub returns-in_err-put_reply-clause-err : goal.returns-in_err-put_reply-clause-err
returns-in_err-put_reply-clause-err g c =
    let p = err_from_is_err_and c.from_residual.result c.from_residual.ensures.1 in
    let r = c.request_at-request.result in
    let i = c.loop-i.i in
    let next = refusals_next c.args.size c.args.requests.now c.args.error i r c.loop-i-test.true c.request_at-request.ensures in
    let reply = c.error_of-why.ensures ∙ ap (λ o. reply_if o (Refused c.args.error)) c.refusal.ensures in
    if_err _ _ _ _ p.1 (p.2 ∙ c.in_err-put_reply.ensures.err.0)
    (refl, writes_begun _ _ _ _ c.loop-i.invariant _ _ _ (next_text c.args.size c.args.requests.now c.args.error c.error_of-why.result i r (Refused c.error_of-why.result) next reply) c.in_err-put_reply.ensures.err.1)

pub returns-clause-ok : goal.returns-clause-ok
returns-clause-ok g c = writes_all _ _ _ _ c.loop-i.invariant (refusals_end c.args.size c.args.requests.now c.args.error c.loop-i.i (omega (arith, c.loop-i-test.false)))
