use Rattle.std.proofs.Common.{◌≡◌, ◌≢◌, suc, None, take, drop, subst, rules, ◌∙◌, sym}
use Rattle.std.proofs.lemmas.List.Elements.{All-more}
use Rattle.oram_nbd.specs.Service.{refusal_of}
use Rattle.oram_nbd.proofs.Gathered.{split_there}
use Rattle.oram_nbd.proofs.service.is_any_accepted.Goals as goal

pub returns-then-is_none-clause-yes : goal.returns-then-is_none-clause-yes
returns-then-is_none-clause-yes c = λ yes.
    let r = c.request_at-request.result in
    let none : c.refusal.result ≡ None = search rules in
    (take c.loop-i.i c.args.requests.now, drop (suc c.loop-i.i) c.args.requests.now, r, split_there c.args.requests.now c.loop-i.i r c.loop-i-test.true c.request_at-request.ensures, sym c.refusal.ensures ∙ none)

pub loop-i-preserved : goal.loop-i-preserved
loop-i-preserved c =
    let r = c.request_at-request.result in
    let some : refusal_of c.args.size r ≢ None = search rules in
    All-more (λ x. refusal_of c.args.size x ≢ None) c.args.requests.now c.loop-i.i r c.loop-i-test.true c.loop-i.invariant (subst (λ x. refusal_of c.args.size x ≢ None) c.request_at-request.ensures some)
