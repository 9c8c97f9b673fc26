use Rattle.std.proofs.Common.{◌<◌, ◌+◌, ◌++◌, [], ◌∷◌, List, ℕ, arith, get_or, length, map, take, sym, subst}
use Rattle.std.specs.Option.{option_copied}
use Rattle.oram_rounds.specs.Batches.{texts}
use Rattle.oram_rounds.proofs.Texts.{take_next, texts_by}
use Rattle.oram_near.specs.EmptyRecords.{made_with}
use Rattle.oram_near.specs.NearCalls.{AreAnswered, IsAnswered, NearValue, client_of}
use Rattle.oram_near.specs.PathRequests.{IsOfDevice, PathRequest, request_of}
use Rattle.oram_near.specs.declared.path_message.PathMessage.TheVariants.{Fetch}
use Rattle.oram_near.proofs.RequestLists.{answered_more, image_at, take_image}
use Rattle.oram_near.proofs.near_link.NearLink.answer_each.Goals as goal

pub answer_one-requires : goal.answer_one-requires
answer_one-requires g c =
    let l : NearValue _ _ = c.args.self.now in
    image_at request_of c.args.requests.now c.loop-i.i (Fetch 0 0) c.loop-i-test.true (IsOfDevice l.device l.near.record_len) c.requires.paths

pub loop-i-preserved : goal.loop-i-preserved
loop-i-preserved g c =
    let all = c.args.requests.now in
    let i = c.loop-i.i in
    let x = c.index-answers-i.result in
    let one = c.in_ok-answer_one.field-0 in
    let r = request_of (get_or all i (Fetch 0 0)) in
    let client = client_of (made_with g.E.EmptyRecords.record_at) c.args.self.now in
    let low : i < length c.args.answers.now = omega (arith, c.loop-i-test.true, c.requires.count) in
    let here = subst (λ (b : List ℕ). IsAnswered client (option_copied c.args.refusal) r b one.items) c.deref.ensures.value c.in_ok-answer_one.ensures in
    let more = answered_more client (option_copied c.args.refusal) (take i (map request_of all)) (take i (texts c.args.answers.now)) (texts c.loop-i.given.items) r x.items one.items c.loop-i.invariant here in
    subst (λ (given : List (List ℕ)). AreAnswered client (option_copied c.args.refusal) (take (i + 1) (map request_of all)) (take (i + 1) (texts c.args.answers.now)) given)
    (sym (texts_by c.push.new.self.items c.loop-i.given.items one c.in_ok-push.ensures.items))
    (subst (λ (answers : List (List ℕ)). AreAnswered client (option_copied c.args.refusal) (take (i + 1) (map request_of all)) answers (texts c.loop-i.given.items ++ one.items ∷ []))
    (sym (take_next c.args.answers.now i x low c.index-answers-i.is))
    (subst (λ (requests : List PathRequest). AreAnswered client (option_copied c.args.refusal) requests (take i (texts c.args.answers.now) ++ x.items ∷ []) (texts c.loop-i.given.items ++ one.items ∷ []))
    (sym (take_image request_of all i (Fetch 0 0) c.loop-i-test.true)) more))
