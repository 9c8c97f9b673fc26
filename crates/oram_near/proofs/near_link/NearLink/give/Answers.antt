use Rattle.std.proofs.Common.{◌≡◌, ◌++◌, [], List, ℕ, Bool, Bor, Option, Some, None, refl, map, take, drop, sym, ap, ◌∙◌, subst}
use Rattle.std.specs.Prelude.{if◌then◌else◌, is_some}
use Rattle.std.specs.Option.{option_copied}
use Rattle.oram_rounds.specs.Batches.{texts}
use Rattle.oram_near.specs.EmptyRecords.{made_with}
use Rattle.oram_near.specs.NearCalls.{AreAnswered, IsRefusal, NearValue, client_of, store_answers}
use Rattle.oram_near.specs.PathRequests.{request_of}
use Rattle.oram_near.proofs.RequestLists.{texts_drop, texts_take}
use Rattle.oram_near.proofs.near_link.NearLink.give.Goals as goal

copied_some : (o : Option (Bor (List ℕ))) → is_some (option_copied o) ≡ is_some o
copied_some None = refl
copied_some (Some x) = refl

pub returns-clause-gives : goal.returns-clause-gives
returns-clause-gives g c =
    let l : NearValue _ _ = c.args.self.now in
    let client = client_of (made_with g.E.EmptyRecords.record_at) l in
    let requests = map request_of c.args.requests.now in
    let n = c.args.before in
    let all = c.args.answers.now in
    let refusal = option_copied c.refusal_in-refusal.result in
    let front : texts c.split_at.result.0.now ≡ take n (texts all) = ap texts c.split_at.ensures.front ∙ texts_take n all in
    let back : texts c.split_at.result.1.now ≡ drop n (texts all) = ap texts c.split_at.ensures.back ∙ texts_drop n all in (
      refusal,
      subst (λ (rest : List (List ℕ)). IsRefusal (take n (texts all) ++ store_answers requests rest) refusal) back
          (subst (λ (acks : List (List ℕ)). IsRefusal (acks ++ store_answers requests (texts c.split_at.result.1.now)) refusal) front c.refusal_in-refusal.ensures),
      subst (λ (rest : List (List ℕ)). AreAnswered client refusal requests rest (texts c.in_ok-given.given.items)) back c.in_ok-given.ensures,
      ap (λ (x : NearValue _ _). x.unsure) c.settle.ensures
          ∙ ap (λ (b : Bool). if b then l.unsure else []) (c.is_some.ensures ∙ sym (copied_some c.refusal_in-refusal.result)),
    )
