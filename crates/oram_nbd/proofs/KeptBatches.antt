-- What the operations of a batch leave of an array.
use Rattle.std.proofs.Common.{◌≡◌, ◌+◌, ◌<◌, ◌≤◌, inl, inr, ℕ, zero, suc, List, [], ◌∷◌, length, map, Option, Some, None, refl, sym, ap, ◌∙◌, subst, arith}
use Rattle.oram_nbd.specs.Accesses.{Range, range_of, touched_by, touched_from}
use Rattle.oram_nbd.specs.Batches.{AreServedBy, DoesIfAccepted}
use Rattle.oram_nbd.specs.Operations.{all_done, done_by, len_of, IsPlaced, IsWithin, TouchSomeByte}
use Rattle.oram_nbd.specs.Service.{after, array_after_request, array_after_requests, left_if, refusal_of, touched_if, touched_len, RequestsTouchSomeByte, WholeRequest}
use Rattle.oram_nbd.specs.declared.faults.NbdError.{NbdError}
use Rattle.oram_nbd.specs.declared.operations.Operation.{Operation}
use Rattle.oram_nbd.specs.declared.requests.Request.{Request}
use Rattle.oram_nbd.proofs.ListSteps.{length_done}

-- the range of no bytes is at 0
touched_at : (at n : ℕ) → (touched_from at n).len ≡ 0 → (touched_from at n).at ≡ 0
touched_at at zero none = refl
touched_at at (suc n) none = absurd cc

touched_long : (at n : ℕ) → (touched_from at n).len ≡ n
touched_long at zero = refl
touched_long at (suc n) = refl

-- the range of an operation is the one that its request touches
ranges_one : (size : ℕ) (o : Option NbdError) (a : WholeRequest) (op : Operation) → DoesIfAccepted o size a op → range_of op ≡ touched_by o a.request
ranges_one size (Some e) a op nothing = ap range_of nothing
ranges_one size None a op s = s.touches

pub ranges_as_requested : (size : ℕ) (arrived : List WholeRequest) (ops : List Operation) → AreServedBy size arrived ops
    → map range_of ops ≡ map (λ (r : Request). touched_by (refusal_of size r) r) (map (λ (a : WholeRequest). a.request) arrived)
ranges_as_requested size [] [] served = refl
ranges_as_requested size [] (op ∷ ops) served = absurd served
ranges_as_requested size (a ∷ arrived) [] served = absurd served
ranges_as_requested size (a ∷ arrived) (op ∷ ops) served =
    ap (λ (r : Range). r ∷ map range_of ops) (ranges_one size (refusal_of size a.request) a op served.0)
    ∙ ap (λ (l : List Range). touched_by (refusal_of size a.request) a.request ∷ l) (ranges_as_requested size arrived ops served.1)

pub served_one : (size : ℕ) (o : Option NbdError) (a : WholeRequest) (op : Operation) → DoesIfAccepted o size a op → IsWithin size op × IsPlaced op
served_one size (Some e) a op is =
    subst (λ (x : Operation). IsWithin size x × IsPlaced x) (sym is) ((let within : 0 + 0 ≤ size = omega arith in within), λ none. refl)
served_one size None a op s = (s.within, λ none. ap (λ (r : Range). r.at) s.touches ∙ touched_at a.request.offset _ (sym (ap (λ (r : Range). r.len) s.touches) ∙ none))

left_done : (size : ℕ) (a : WholeRequest) (op : Operation) (o : Option NbdError) (bytes : List ℕ) → DoesIfAccepted o size a op
    → done_by op bytes ≡ left_if o bytes (after a.request.command bytes a.request.offset a.request.length a.payload)
left_done size a op (Some e) bytes nothing = ap (λ (x : Operation). done_by x bytes) nothing
left_done size a op None bytes s = s.does bytes

-- an operation leaves the array as its request does
pub done_as_requested : (size : ℕ) (a : WholeRequest) (op : Operation) (bytes : List ℕ) → DoesIfAccepted (refusal_of size a.request) size a op → length bytes ≡ size → done_by op bytes ≡ array_after_request a bytes
done_as_requested size a op bytes served long =
    left_done size a op (refusal_of size a.request) bytes served
    ∙ ap (λ (n : ℕ). left_if (refusal_of n a.request) bytes (after a.request.command bytes a.request.offset a.request.length a.payload)) (sym long)

pub all_done_as_requested : (size : ℕ) (arrived : List WholeRequest) (ops : List Operation) (bytes : List ℕ) → AreServedBy size arrived ops → length bytes ≡ size → all_done ops bytes ≡ array_after_requests arrived bytes
all_done_as_requested size [] [] bytes served long = refl
all_done_as_requested size [] (op ∷ ops) bytes served long = absurd served
all_done_as_requested size (a ∷ arrived) [] bytes served long = absurd served
all_done_as_requested size (a ∷ arrived) (op ∷ ops) bytes served long =
    let within = (served_one size (refusal_of size a.request) a op served.0).0 in
    all_done_as_requested size arrived ops (done_by op bytes) served.1 (length_done size op bytes long within)
    ∙ ap (λ (l : List ℕ). array_after_requests arrived l) (done_as_requested size a op bytes served.0 long)

-- where a request touches a byte, its operation does
touches : (size : ℕ) (o : Option NbdError) (a : WholeRequest) (op : Operation) → DoesIfAccepted o size a op → 0 < touched_if o (touched_len a.request.command a.request.length) → 0 < len_of op
touches size (Some e) a op s none = let never : 0 < 0 = none in absurd (omega (arith, never))
touches size None a op s some = let arrived : 0 < touched_len a.request.command a.request.length = some in
    let long : len_of op ≡ touched_len a.request.command a.request.length = ap (λ (r : Range). r.len) s.touches ∙ touched_long a.request.offset (touched_len a.request.command a.request.length) in omega (arith, arrived, long)

pub some_touches : (size : ℕ) (arrived : List WholeRequest) (ops : List Operation) → AreServedBy size arrived ops → RequestsTouchSomeByte size arrived → TouchSomeByte ops
some_touches size [] ops served none = absurd none
some_touches size (a ∷ arrived) [] served some = absurd served
some_touches size (a ∷ arrived) (op ∷ ops) served (inl first) = inl (touches size (refusal_of size a.request) a op served.0 first)
some_touches size (a ∷ arrived) (op ∷ ops) served (inr rest) = inr (some_touches size arrived ops served.1 rest)
