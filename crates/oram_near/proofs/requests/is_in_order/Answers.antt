use Rattle.std.proofs.Common.{◌≡◌, ◌∷◌, ◌+◌, List, Some, None, false, drop, get_or, map, refl, sym, ap, ◌∙◌}
use Rattle.oram_near.specs.NearCalls.{goes_on, phase_after}
use Rattle.oram_near.specs.PathRequests.{FetchPath, PathRequest, StorePath, request_of}
use Rattle.oram_near.specs.declared.path_message.PathMessage.TheVariants.{Fetch}
use Rattle.oram_near.specs.declared.requests.Phase.{Phase}
use Rattle.oram_near.specs.declared.requests.Phase.TheVariants.{Before, Behind, Within}
use Rattle.oram_near.proofs.RequestLists.{drop_image}
use Rattle.oram_near.proofs.requests.is_in_order.Goals as goal

-- the batch goes on in the next phase
goes_next : (phase next : Phase) (request : PathRequest) (rest : List PathRequest) → Some next ≡ phase_after phase request → goes_on phase (request ∷ rest) ≡ goes_on next rest
goes_next Before next (FetchPath tree leaf) rest is = let e : next ≡ Before = cc in ap (λ (p : Phase). goes_on p rest) (sym e)
goes_next Before next (StorePath tree leaf records) rest is = let e : next ≡ Within = cc in ap (λ (p : Phase). goes_on p rest) (sym e)
goes_next Within next (FetchPath tree leaf) rest is = let e : next ≡ Behind = cc in ap (λ (p : Phase). goes_on p rest) (sym e)
goes_next Within next (StorePath tree leaf records) rest is = let e : next ≡ Within = cc in ap (λ (p : Phase). goes_on p rest) (sym e)
goes_next Behind next (FetchPath tree leaf) rest is = let e : next ≡ Behind = cc in ap (λ (p : Phase). goes_on p rest) (sym e)
goes_next Behind next (StorePath tree leaf records) rest is = absurd cc

ends_here : (phase : Phase) (request : PathRequest) (rest : List PathRequest) → None ≡ phase_after phase request → goes_on phase (request ∷ rest) ≡ false
ends_here Before (FetchPath tree leaf) rest is = absurd cc
ends_here Before (StorePath tree leaf records) rest is = absurd cc
ends_here Within (FetchPath tree leaf) rest is = absurd cc
ends_here Within (StorePath tree leaf records) rest is = absurd cc
ends_here Behind (FetchPath tree leaf) rest is = absurd cc
ends_here Behind (StorePath tree leaf records) rest is = refl

pub returns-in_default : goal.returns-in_default
returns-in_default c =
    let all = c.args.requests.now in
    let i = c.loop-request.request-index in
    let rest = drop (i + 1) (map request_of all) in
    let x = request_of (get_or all i (Fetch 0 0)) in
    sym (c.loop-request.invariant ∙ ap (goes_on c.loop-request.phase) (drop_image request_of all i (Fetch 0 0) c.loop-request-test.true)
    ∙ ends_here c.loop-request.phase x rest c.in_default.ensures)

pub loop-request-preserved : goal.loop-request-preserved
loop-request-preserved c =
    let all = c.args.requests.now in
    let i = c.loop-request.request-index in
    let rest = drop (i + 1) (map request_of all) in
    let x = request_of (get_or all i (Fetch 0 0)) in
    c.loop-request.invariant ∙ ap (goes_on c.loop-request.phase) (drop_image request_of all i (Fetch 0 0) c.loop-request-test.true)
    ∙ goes_next c.loop-request.phase c.in-Some.next x rest c.in-Some.ensures
