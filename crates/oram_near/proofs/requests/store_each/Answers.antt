use Rattle.std.proofs.Common.{◌≡◌, ℕ, ◌==◌, List, true, false, get_or, map, take, sym, ap, ◌∙◌, subst}
use Rattle.std.specs.List.{FoldsTo}
use Rattle.std.specs.Prelude.{Bool, MatchBool}
use Rattle.std.proofs.lemmas.Fn.{FoldsTo-push}
use Rattle.oram_geometry.specs.Sizes.{depth_of}
use Rattle.oram_geometry.specs.declared.Sizes.{Sizes}
use Rattle.oram_near.specs.Near.{Near, StoresNear, rest_of}
use Rattle.oram_near.specs.NearCalls.{TakesNear}
use Rattle.oram_near.specs.PathRequests.{FetchPath, IsOfDevice, PathRequest, StorePath, request_of}
use Rattle.oram_near.specs.declared.path_message.PathMessage.TheVariants.{Fetch}
use Rattle.oram_near.proofs.RequestLists.{image_at, take_image}
use Rattle.oram_near.proofs.requests.store_each.Goals as goal

-- a request changes neither the number of levels nor the length of the records, nor the rest
sizes_by : (b : Bool) (depth leaf : ℕ) (records : List ℕ) (old new : Near) → MatchBool b (StoresNear depth leaf records old new) (new ≡ old)
    → (new.levels ≡ old.levels) × (new.record_len ≡ old.record_len) × (rest_of new ≡ rest_of old)
sizes_by true depth leaf records old new is = (is.levels, is.record_len, is.rest)
sizes_by false depth leaf records old new is = (ap (λ (n : Near). n.levels) is, ap (λ (n : Near). n.record_len) is, ap (λ (n : Near). rest_of n) is)

sizes_same : (d : Sizes) (request : PathRequest) (old new : Near) → TakesNear d old request new → (new.levels ≡ old.levels) × (new.record_len ≡ old.record_len) × (rest_of new ≡ rest_of old)
sizes_same d (FetchPath tree leaf) old new is = (ap (λ (n : Near). n.levels) is, ap (λ (n : Near). n.record_len) is, ap (λ (n : Near). rest_of n) is)
sizes_same d (StorePath tree leaf records) old new is = sizes_by (tree == 0) (depth_of d 0) leaf records old new is

pub store_one-requires-clause-path : goal.store_one-requires-clause-path
store_one-requires-clause-path c =
    let here = image_at request_of c.args.requests.now c.loop-request.request-index (Fetch 0 0) c.loop-request-test.true (IsOfDevice c.args.device.now c.args.near.now.record_len) c.requires.paths in
    subst (λ (n : ℕ). IsOfDevice c.args.device.now n (request_of (get_or c.args.requests.now c.loop-request.request-index (Fetch 0 0)))) (sym c.loop-request.invariant.record_len) here

pub loop-request-preserved : goal.loop-request-preserved
loop-request-preserved c =
    let d = c.args.device.now in
    let i = c.loop-request.request-index in
    let all = c.args.requests.now in
    let x = request_of (get_or all i (Fetch 0 0)) in
    let same = sizes_same d x c.loop-request.near c.store_one.new.near c.store_one.ensures in
    record {
      levels = same.0 ∙ c.loop-request.invariant.levels;
      record_len = same.1 ∙ c.loop-request.invariant.record_len;
      rest = same.2 ∙ c.loop-request.invariant.rest;
      stored = subst (λ (requests : List PathRequest). FoldsTo {P = Near} (TakesNear d) c.args.near.now requests c.store_one.new.near)
          (sym (take_image request_of all i (Fetch 0 0) c.loop-request-test.true))
          (FoldsTo-push (TakesNear d) c.args.near.now (take i (map request_of all)) c.loop-request.near x c.store_one.new.near c.loop-request.invariant.stored c.store_one.ensures);
    }
