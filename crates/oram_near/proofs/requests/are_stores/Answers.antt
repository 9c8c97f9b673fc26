use Rattle.std.proofs.Common.{get_or, map, take, sym, subst}
use Rattle.std.specs.List.{AllByRecursion}
use Rattle.oram_near.specs.NearStreams.{IsStore}
use Rattle.oram_near.specs.PathRequests.{request_of}
use Rattle.oram_near.specs.declared.path_message.PathMessage.{PathMessage}
use Rattle.oram_near.specs.declared.path_message.PathMessage.TheVariants.{Fetch}
use Rattle.oram_near.proofs.RequestLists.{all_more, take_image}
use Rattle.oram_near.proofs.requests.are_stores.Goals as goal

pub loop-request-preserved : goal.loop-request-preserved
loop-request-preserved c =
    let all = c.args.requests.now in
    let i = c.loop-request.request-index in
    let here : IsStore (request_of (get_or all i (Fetch 0 0))) = subst (λ (m : PathMessage). IsStore (request_of m)) (sym c.in_default.is) tt in
    subst (AllByRecursion IsStore) (sym (take_image request_of all i (Fetch 0 0) c.loop-request-test.true))
    (all_more IsStore (take i (map request_of all)) (request_of (get_or all i (Fetch 0 0))) c.loop-request.invariant here)
