-- A batch whose answers were all given one by one is a batch as any other.
use Rattle.std.specs.Prelude.{◌≡◌, ℕ, ◌+◌, true, if◌then◌else◌, List, [], ◌∷◌, ◌++◌, length, Option, None, is_some, Ok, refl}
use Rattle.std.proofs.Common.{arith, sym, ap, ◌∙◌, subst, inl, inr, append-nil}
use Rattle.std.proofs.lemmas.List.{length-append, length-map}
use Rattle.std.specs.List.{AllByRecursion}
use Rattle.oram_levels.specs.Messages.{LevelsMessage, levels_body}
use Rattle.oram_link_laws.specs.Runs.{Exchange}
use Rattle.oram_rounds.specs.Batches.{BatchOutcome}
use Rattle.oram_rounds.specs.Streams.{EndsAsBatch}
use Rattle.oram_near.specs.BatchExchanges.{answers_count}
use Rattle.oram_near.specs.Completion.{ClientRecords}
use Rattle.oram_near.specs.NearCalls.{AreAnswered, IsRefusal, NearValue, client_of, far_messages, is_in_order, path_exchanges, store_answers, stores_among, stores_first}
use Rattle.oram_near.specs.NearStreams.{IsBegun, IsFetch, IsFetching, IsHeard, IsStore, NearBatches, NearStreams, sent_below}
use Rattle.oram_near.specs.PathRequests.{FetchPath, PathRequest, StorePath, path_body}

stores_then : (stores : List PathRequest) → AllByRecursion IsStore stores → stores_first stores ≡ true
stores_then [] are = refl
stores_then (FetchPath tree leaf ∷ stores) are = absurd are.0
stores_then (StorePath tree leaf records ∷ stores) are = stores_then stores are.1

stores_only : (stores : List PathRequest) → AllByRecursion IsStore stores → is_in_order stores ≡ true
stores_only [] are = refl
stores_only (FetchPath tree leaf ∷ stores) are = absurd are.0
stores_only (StorePath tree leaf records ∷ stores) are = stores_then stores are.1

pub order_is : (fetches stores : List PathRequest) → AllByRecursion IsFetch fetches → AllByRecursion IsStore stores → is_in_order (fetches ++ stores) ≡ true
order_is [] stores fetch store = stores_only stores store
order_is (FetchPath tree leaf ∷ fetches) stores fetch store = order_is fetches stores fetch.1 store
order_is (StorePath tree leaf records ∷ fetches) stores fetch store = absurd fetch.0

pub none_stored : (fetches : List PathRequest) (answers : List (List ℕ)) → AllByRecursion IsFetch fetches → store_answers fetches answers ≡ []
none_stored [] answers fetch = refl
none_stored (r ∷ fetches) [] fetch = refl
none_stored (FetchPath tree leaf ∷ fetches) (a ∷ answers) fetch = none_stored fetches answers fetch.1
none_stored (StorePath tree leaf records ∷ fetches) (a ∷ answers) fetch = absurd fetch.0

pub host_count : (c : ClientRecords) (refusal : Option (List ℕ)) (requests : List PathRequest) (answers given : List (List ℕ)) → AreAnswered c refusal requests answers given → length answers ≡ length requests
host_count c refusal [] answers given are = ap length are.0
host_count c refusal (r ∷ requests) [] given are = absurd are
host_count c refusal (r ∷ requests) (a ∷ answers) [] are = absurd are
host_count c refusal (r ∷ requests) (a ∷ answers) (one ∷ given) are = omega (arith, host_count c refusal requests answers given are.1)

pub nothing_left : {X : Type 0} (xs : List X) → length xs ≡ 0 → xs ≡ []
nothing_left [] none = refl
nothing_left (x ∷ xs) none = absurd (omega (arith, none))

module _ {B E : Type 0} (batches : B → List (List ℕ) → BatchOutcome → List Exchange → B → Type 0) (streams : B → List (List ℕ) → List (List ℕ) → B → Type 0) (record_at : E → ℕ → ℕ → ℕ → List ℕ) where
  none_unsure : (l : NearValue B E) (fetches : List PathRequest) → AllByRecursion IsFetch fetches → stores_among (far_messages batches record_at l fetches) ≡ []
  none_unsure l [] fetch = refl
  none_unsure l (FetchPath tree leaf ∷ fetches) fetch = none_unsure l fetches fetch.1
  none_unsure l (StorePath tree leaf records ∷ fetches) fetch = absurd fetch.0

  -- the host has answered all, and these are the answers that were given
  ended : (l m : NearValue B E) (bodies answers far : List (List ℕ)) (below : List Exchange) (b : IsBegun batches streams record_at l bodies m) (refusal : Option (List ℕ))
      → batches l.inner (sent_below batches streams record_at l bodies m b) (Ok far) below m.inner
      → IsRefusal (store_answers (b.fetches ++ b.stores) far) refusal
      → AreAnswered (client_of record_at (record m { unsure = stores_among (far_messages batches record_at l (b.fetches ++ b.stores)) })) refusal (b.fetches ++ b.stores) far answers
      → m.unsure ≡ (if is_some refusal then stores_among (far_messages batches record_at l (b.fetches ++ b.stores)) else [])
      → (exchanges : List Exchange) × NearBatches batches streams record_at l bodies (Ok answers) exchanges m
  ended l m bodies answers far below b refusal sent refused are unsure = (
    path_exchanges (b.fetches ++ b.stores) (Ok answers),
    (
      below,
      (
        b.device,
        b.empty,
        inr (inl (record {
          sends = record {
            requests = b.fetches ++ b.stores;
            named = b.named;
            paths = b.paths;
            in_order = order_is b.fetches b.stores b.are_fetches b.are_stores;
            stored = b.stored;
            outcome = Ok far;
            sent = sent;
            gives = inl (record { refusal = refusal; refused = refused; given = answers; reported = refl; are = are; unsure = unsure });
            as_paths = refl;
          };
          again = b.again;
        })),
      ),
    ),
  )

  fetched_all : (l m : NearValue B E) (bodies answers : List (List ℕ)) → EndsAsBatch batches streams → IsFetching batches streams record_at l bodies answers m → length answers ≡ length bodies
      → (exchanges : List Exchange) × NearBatches batches streams record_at l bodies (Ok answers) exchanges m
  fetched_all l m bodies answers ends f count =
      let b = f.begun in
      let given = answers_count (client_of record_at m) None f.front f.far answers f.are in
      let heard = host_count (client_of record_at m) None f.front f.far answers f.are in
      let all : length bodies ≡ length b.fetches + length b.stores = ap length b.named ∙ length-map (b.fetches ++ b.stores) path_body ∙ length-append b.fetches b.stores in
      let some : length b.fetches ≡ length f.front + length f.rest = ap length f.split ∙ length-append f.front f.rest in
      let no_rest : f.rest ≡ [] = nothing_left f.rest (omega (arith, count, given, all, some)) in
      let no_stores : b.stores ≡ [] = nothing_left b.stores (omega (arith, count, given, all, some)) in
      let is_front : b.fetches ≡ f.front = f.split ∙ ap (λ (rs : List PathRequest). f.front ++ rs) no_rest ∙ append-nil f.front in
      let is_fetches : b.fetches ++ b.stores ≡ b.fetches = ap (λ (rs : List PathRequest). b.fetches ++ rs) no_stores ∙ append-nil b.fetches in
      let is : f.front ≡ b.fetches ++ b.stores = sym is_front ∙ sym is_fetches in
      let fetch = subst (AllByRecursion IsFetch) (sym is_fetches) b.are_fetches in
      let requests : List PathRequest = b.fetches ++ b.stores in
      let long : length f.far ≡ length (sent_below batches streams record_at l bodies m b) =
      heard ∙ ap length is ∙ sym (length-map requests _) ∙ sym (length-map (far_messages batches record_at l requests) levels_body) in
      let ended_below = ends l.inner m.inner (sent_below batches streams record_at l bodies m b) f.far f.comes long in
      let are = subst (λ (rs : List PathRequest). AreAnswered (client_of record_at m) None rs f.far answers) is f.are in
      ended l m bodies answers f.far ended_below.0 b None ended_below.1
      (let P : List (List ℕ) → Type 0 = λ xs. IsRefusal xs None in subst P (sym (none_stored requests f.far fetch)) tt)
      (subst (λ (u : List LevelsMessage). AreAnswered (client_of record_at (record m { unsure = u })) None requests f.far answers) f.unsure are)
      (f.unsure ∙ none_unsure l requests fetch)

  heard_all : (l m : NearValue B E) (bodies answers : List (List ℕ)) → IsHeard batches streams record_at l bodies answers m → length answers ≡ length bodies
      → (exchanges : List Exchange) × NearBatches batches streams record_at l bodies (Ok answers) exchanges m
  heard_all l m bodies answers s count =
      let b = s.begun in
      let requests : List PathRequest = b.fetches ++ b.stores in
      let client = client_of record_at (record m { unsure = stores_among (far_messages batches record_at l requests) }) in
      let given = answers_count client s.refusal requests s.far (answers ++ m.coming.ready) s.are in
      let all : length bodies ≡ length requests = ap length b.named ∙ length-map requests path_body in
      let both = length-append answers m.coming.ready in
      let none : m.coming.ready ≡ [] = nothing_left m.coming.ready (omega (arith, given, all, both, count)) in
      let is : answers ++ m.coming.ready ≡ answers = ap (λ (xs : List (List ℕ)). answers ++ xs) none ∙ append-nil answers in
      ended l m bodies answers s.far s.below b s.refusal s.sent s.refused (subst (AreAnswered client s.refusal requests s.far) is s.are) s.unsure

  pub streams_end : EndsAsBatch batches streams → EndsAsBatch (NearBatches batches streams record_at) (NearStreams batches streams record_at)
  streams_end ends l m bodies answers (inl f) count = fetched_all l m bodies answers ends f count
  streams_end ends l m bodies answers (inr s) count = heard_all l m bodies answers s count
