use Rattle.std.proofs.Common.{◌++◌, [], ◌∷◌, List, ℕ, get_or, map, take, sym, ap, ◌∙◌}
use Rattle.std.proofs.lemmas.List.{map-append}
use Rattle.oram_levels.specs.Messages.{LevelsMessage, levels_body}
use Rattle.oram_rounds.proofs.Texts.{texts_by}
use Rattle.oram_near.specs.PathRequests.{IsOfDevice, PathRequest, far_of, request_of}
use Rattle.oram_near.specs.declared.path_message.PathMessage.TheVariants.{Fetch}
use Rattle.oram_near.proofs.RequestLists.{image_at, take_image}
use Rattle.oram_near.proofs.requests.encode_each.Goals as goal

pub encode_far-requires-clause-message : goal.encode_far-requires-clause-message
encode_far-requires-clause-message c =
    image_at request_of c.args.requests.now c.loop-request.request-index (Fetch 0 0) c.loop-request-test.true (IsOfDevice c.args.device.now c.args.record_len) c.requires.paths

pub loop-request-preserved : goal.loop-request-preserved
loop-request-preserved c =
    let i = c.loop-request.request-index in
    let all = c.args.requests.now in
    let far : PathRequest → LevelsMessage = far_of c.args.device.now c.args.levels c.args.record_len in
    let body : PathRequest → List ℕ = λ r. levels_body (far r) in
    let front = take i (map request_of all) in
    let x : PathRequest = request_of (get_or all i (Fetch 0 0)) in
    texts_by c.push.new.self.items c.loop-request.messages.items c.in_ok-encode_far.field-0 c.in_ok-push.ensures.items
    ∙ ap (λ (bodies : List (List ℕ)). bodies ++ c.in_ok-encode_far.field-0.items ∷ []) c.loop-request.invariant
    ∙ ap (λ (b : List ℕ). map levels_body (map far front) ++ b ∷ []) c.in_ok-encode_far.ensures
    ∙ sym (ap (λ (requests : List PathRequest). map levels_body (map far requests)) (take_image request_of all i (Fetch 0 0) c.loop-request-test.true)
    ∙ ap (map levels_body) (map-append far front (x ∷ [])) ∙ map-append levels_body (map far front) (far x ∷ []))
