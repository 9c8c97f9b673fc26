use Rattle.std.proofs.Common.{◌≡◌, List, ℕ, Some, false, true, get_or, sym, ◌∙◌, subst}
use Rattle.std.specs.Prelude.{map}
use Rattle.oram_rounds.specs.Batches.{texts}
use Rattle.oram_near.specs.NearCalls.{IsRefusal, IsStoreRefusal, store_answers}
use Rattle.oram_near.specs.PathRequests.{request_of}
use Rattle.oram_near.specs.declared.path_message.PathMessage.TheVariants.{Fetch}
use Rattle.oram_near.proofs.RequestLists.{done_more, refusal_here}
use Rattle.oram_near.proofs.answers.refused_store.Goals as goal

pub returns-then-is_refused_store : goal.returns-then-is_refused_store
returns-then-is_refused_store c =
    let x = c.index-answers-i.result in
    let refused = subst (IsStoreRefusal (request_of (get_or c.args.requests.now c.loop-i.i (Fetch 0 0)))) c.deref.ensures.value (c.is_refused_store.ensures.0 c.if-is_refused_store.true) in
    subst (λ (b : List ℕ). IsRefusal (store_answers (map request_of c.args.requests.now) (texts c.args.answers.now)) (Some b)) (sym c.deref-then-is_refused_store.ensures.value)
    (refusal_here c.args.requests.now c.args.answers.now c.loop-i.i x c.loop-i-test.true c.requires c.index-answers-i.is refused)

pub loop-i-preserved : goal.loop-i-preserved
loop-i-preserved c =
    let x = c.index-answers-i.result in
    done_more c.args.requests.now c.args.answers.now c.loop-i.i x c.loop-i-test.true c.requires c.index-answers-i.is
    (λ refused.
    let yes = c.is_refused_store.ensures.1 (subst (IsStoreRefusal (request_of (get_or c.args.requests.now c.loop-i.i (Fetch 0 0)))) (sym c.deref.ensures.value) refused) in
    let no : false ≡ true = sym c.if-is_refused_store.false ∙ yes in cc) c.loop-i.invariant
