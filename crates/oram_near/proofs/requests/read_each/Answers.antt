use Rattle.std.proofs.Common.{◌≡◌, ◌++◌, [], ◌∷◌, List, ℕ, map, refl, sym, ap, ◌∙◌, subst, inr}
use Rattle.std.specs.List.{AllByRecursion}
use Rattle.std.proofs.lemmas.List.{map-append}
use Rattle.oram_rounds.proofs.Texts.{all_at, take_next}
use Rattle.oram_near.specs.NearCalls.{IsPathBody}
use Rattle.oram_near.specs.PathRequests.{IsOfDevice, path_body, request_of}
use Rattle.oram_near.proofs.RequestLists.{all_more}
use Rattle.oram_near.proofs.requests.read_each.Goals as goal

pub returns-in_default : goal.returns-in_default
returns-in_default c =
    let d = c.args.device.now in
    let len = c.args.record_len in
    inr (
      refl,
      λ are.
          let here : IsPathBody d len c.body-item.result.items =
          all_at (IsPathBody d len) c.args.bodies.now c.loop-body.body-index c.body-item.result c.loop-body-test.true c.body-item.is are in
          c.in_default.ensures here.0 here.1 (c.deref.ensures.value ∙ here.2),
    )

pub loop-body-preserved : goal.loop-body-preserved
loop-body-preserved c =
    let d = c.args.device.now in
    let len = c.args.record_len in
    let x = request_of c.in-Some.request in
    let more : c.push.new.self.items ≡ c.loop-body.requests.items ++ c.in-Some.request ∷ [] = rw c.if-is_err.ensures.negation at c.push.ensures.items in
    let requests : map request_of c.push.new.self.items ≡ map request_of c.loop-body.requests.items ++ x ∷ [] =
    ap (map request_of) more ∙ map-append request_of c.loop-body.requests.items (c.in-Some.request ∷ []) in
    record {
      named = take_next c.args.bodies.now c.loop-body.body-index c.body-item.result c.loop-body-test.true c.body-item.is
          ∙ ap (λ (bodies : List (List ℕ)). bodies ++ c.body-item.result.items ∷ []) c.loop-body.invariant.named
          ∙ ap (λ (b : List ℕ). map path_body (map request_of c.loop-body.requests.items) ++ b ∷ []) (sym c.deref.ensures.value ∙ c.in-Some.ensures.1)
          ∙ sym (ap (map path_body) requests ∙ map-append path_body (map request_of c.loop-body.requests.items) (x ∷ []));
      paths = subst (AllByRecursion (IsOfDevice d len)) (sym requests) (all_more (IsOfDevice d len) (map request_of c.loop-body.requests.items) x c.loop-body.invariant.paths c.in-Some.ensures.0);
    }
