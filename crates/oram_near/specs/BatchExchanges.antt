-- The exchanges of a link with near records, as a host of whole paths tells them, are those that a batch may have.
use Rattle.std.specs.Prelude.{◌≡◌, ◌≢◌, ◌⊎◌, ℕ, List, [], ◌∷◌, ◌++◌, length, map, Option, MatchResult, Ok, Err, refl}
use Rattle.std.proofs.Common.{arith, sym, ap, ◌∙◌, subst, inl, inr}
use Rattle.std.proofs.lemmas.List.{length-map}
use Rattle.oram_session.specs.declared.link.LinkFault.{LinkFault}
use Rattle.oram_session.specs.declared.link.LinkFault.TheVariants.{Closed, OutOfMemory}
use Rattle.oram_link_laws.specs.Repair.{AreAmong}
use Rattle.oram_link_laws.specs.Runs.{Exchange, bodies_of}
use Rattle.oram_rounds.specs.Batches.{BatchOutcome, IsBatch, SendsNothing, answered}
use Rattle.oram_near.specs.Completion.{ClientRecords}
use Rattle.oram_near.specs.Near.{AreNoted, Noted, nothing_noted}
use Rattle.oram_near.specs.NearCalls.{AreAnswered, GivesWhole, Declines, Idles, NearBatch, NearValue, Sends, SendsAgain, StopsShort, path_exchanges, store_tries, unsure_with}
use Rattle.oram_near.specs.PathRequests.{FetchPath, PathRequest, StorePath, path_body}
use Rattle.oram_near.specs.NotedRecords.{batch_noted, counted_anew}

pub answers_count : (c : ClientRecords) (refusal : Option (List ℕ)) (requests : List PathRequest) (answers given : List (List ℕ)) → AreAnswered c refusal requests answers given → length given ≡ length requests
answers_count c refusal [] answers given are = ap length are.1
answers_count c refusal (request ∷ requests) [] given are = absurd are
answers_count c refusal (request ∷ requests) (answer ∷ answers) [] are = absurd are
answers_count c refusal (request ∷ requests) (answer ∷ answers) (one ∷ given) are = omega (arith, answers_count c refusal requests answers given are.1)

among_more : (heard bodies : List (List ℕ)) (first : List ℕ) → AreAmong heard bodies → AreAmong heard (first ∷ bodies)
among_more [] bodies first are = tt
among_more (x ∷ heard) bodies first are = (inr are.0, among_more heard bodies first are.1)

pub tries_among : (fault : LinkFault) (requests : List PathRequest) → AreAmong (bodies_of (store_tries fault requests)) (map path_body requests)
tries_among fault [] = tt
tries_among fault (FetchPath tree leaf ∷ requests) = among_more (bodies_of (store_tries fault requests)) (map path_body requests) (path_body (FetchPath tree leaf)) (tries_among fault requests)
tries_among fault (StorePath tree leaf records ∷ requests) =
    (inl refl, among_more (bodies_of (store_tries fault requests)) (map path_body requests) (path_body (StorePath tree leaf records)) (tries_among fault requests))

both_among : (xs ys : List Exchange) (all : List (List ℕ)) → AreAmong (bodies_of xs) all → AreAmong (bodies_of ys) all → AreAmong (bodies_of (xs ++ ys)) all
both_among [] ys all first second = second
both_among (e ∷ xs) ys all first second = (first.0, both_among xs ys all first.1 second)

front_among : (front rest : List PathRequest) (given : List (List ℕ)) → AreAmong (bodies_of (answered (map path_body front) given)) (map path_body (front ++ rest))
front_among [] rest given = tt
front_among (request ∷ front) rest [] = tt
front_among (request ∷ front) rest (one ∷ given) =
    (inl refl, among_more (bodies_of (answered (map path_body front) given)) (map path_body (front ++ rest)) (path_body request) (front_among front rest given))

is_batch : (requests : List PathRequest) (o : BatchOutcome) → MatchResult o (λ given. length given ≡ length requests) (λ fault. Unit {0}) → IsBatch (map path_body requests) o (path_exchanges requests o)
is_batch requests (Ok given) count = (count ∙ sym (length-map requests path_body), store_tries Closed requests, tries_among Closed requests, refl)
is_batch requests (Err fault) count = tries_among fault requests

module _ {B E : Type 0} (batches : B → List (List ℕ) → BatchOutcome → List Exchange → B → Type 0) (record_at : E → ℕ → ℕ → ℕ → List ℕ) where
  counted : (l m : NearValue B E) (requests : List PathRequest) (o outcome : BatchOutcome)
      → MatchResult outcome (λ answers. GivesWhole batches record_at l requests answers o m ⊎ ((o ≡ Err OutOfMemory) × (m.unsure ≡ unsure_with batches record_at l requests)))
      (λ fault. (o ≡ Err fault) × (m.unsure ≡ unsure_with batches record_at l requests))
      → MatchResult o (λ given. length given ≡ length requests) (λ fault. Unit {0})
  counted l m requests o (Ok answers) (inl completes) =
      subst (λ (x : BatchOutcome). MatchResult x (λ given. length given ≡ length requests) (λ fault. Unit {0})) (sym completes.reported)
      (answers_count _ completes.refusal requests _ completes.given completes.are)
  counted l m requests o (Ok answers) (inr memory) = subst (λ (x : BatchOutcome). MatchResult x (λ given. length given ≡ length requests) (λ fault. Unit {0})) (sym memory.0) tt
  counted l m requests o (Err fault) lost = subst (λ (x : BatchOutcome). MatchResult x (λ given. length given ≡ length requests) (λ fault. Unit {0})) (sym lost.0) tt

  of_sends : (l m : NearValue B E) (bodies : List (List ℕ)) (o : BatchOutcome) (exchanges below : List Exchange) → Sends batches record_at l bodies o exchanges below m → IsBatch bodies o exchanges
  of_sends l m bodies o exchanges below sends =
      subst (λ (x : List Exchange). IsBatch bodies o x) (sym sends.as_paths)
      (subst (λ (x : List (List ℕ)). IsBatch x o (path_exchanges sends.requests o)) (sym sends.named) (is_batch sends.requests o (counted l m sends.requests o sends.outcome sends.gives)))

  of_batch : (l m : NearValue B E) (bodies : List (List ℕ)) (o : BatchOutcome) (exchanges below : List Exchange)
      → Sends batches record_at l bodies o exchanges below m ⊎ (SendsAgain batches record_at l bodies o exchanges below m ⊎ (Declines batches record_at l bodies o exchanges below m ⊎ (Idles batches record_at l bodies o exchanges below m ⊎ StopsShort batches record_at l bodies o exchanges below m)))
      → IsBatch bodies o exchanges
  of_batch l m bodies o exchanges below (inl sends) = of_sends l m bodies o exchanges below sends
  of_batch l m bodies o exchanges below (inr (inl again)) = of_sends (record l { unsure = [] }) m bodies o exchanges below again.sends
  of_batch l m bodies o exchanges below (inr (inr (inl declines))) =
      subst (λ (x : BatchOutcome). IsBatch bodies x exchanges) (sym declines.reported)
      (subst (λ (x : List Exchange). AreAmong (bodies_of x) bodies) (sym declines.none) tt)
  of_batch l m bodies o exchanges below (inr (inr (inr (inl idles)))) =
      subst (λ (x : BatchOutcome). IsBatch bodies x exchanges) (sym idles.reported)
      (subst (λ (x : List Exchange). IsBatch bodies (Ok []) x) (sym idles.none) (subst (λ (x : List (List ℕ)). IsBatch x (Ok []) []) (sym idles.no_bodies) (refl, [], tt, refl)))
  of_batch l m bodies o exchanges below (inr (inr (inr (inr stops)))) =
      subst (λ (x : BatchOutcome). IsBatch bodies x exchanges) (sym stops.reported)
      (subst (λ (x : List Exchange). AreAmong (bodies_of x) bodies) (sym stops.as_paths)
      (subst (λ (x : List (List ℕ)). AreAmong (bodies_of (store_tries stops.fault stops.requests ++ answered (map path_body stops.front) stops.given)) x) (sym stops.named)
      (both_among (store_tries stops.fault stops.requests) (answered (map path_body stops.front) stops.given) (map path_body stops.requests)
      (tries_among stops.fault stops.requests)
      (subst (λ (rs : List PathRequest). AreAmong (bodies_of (answered (map path_body stops.front) stops.given)) (map path_body rs)) (sym stops.split) (front_among stops.front stops.rest stops.given)))))

  pub near_are_batches : (l m : NearValue B E) (bodies : List (List ℕ)) (o : BatchOutcome) (exchanges : List Exchange)
      → ((below : List Exchange) × NearBatch batches record_at l bodies o exchanges below m) → IsBatch bodies o exchanges
  near_are_batches l m bodies o exchanges h = of_batch l m bodies o exchanges h.0 h.1.2

  -- A link that learns that its process was kept: the link below learns it, and the changes are forgotten.
  pub learnt_nothing_sent : (l m : NearValue B E) → SendsNothing batches l.inner m.inner → m ≡ record l { inner = m.inner; near = record l.near { noted = nothing_noted } }
      → SendsNothing (λ a bodies o exchanges b. (below : List Exchange) × NearBatch batches record_at a bodies o exchanges below b) l m
  learnt_nothing_sent l m idles is =
      let noted : nothing_noted ≡ m.near.noted = sym (ap (λ (x : NearValue B E). x.near.noted) is) in
      let same : m ≡ record l { inner = m.inner; near = record l.near { noted = m.near.noted } } =
      is ∙ ap (λ (n : Noted). let x : NearValue B E = record l { inner = m.inner; near = record l.near { noted = n } } in x) noted in
      inr (
        [],
        (
          ap (λ (x : NearValue B E). x.device) is,
          ap (λ (x : NearValue B E). x.empty) is,
          inr (inr (inr (inl (record { no_bodies = refl; reported = refl; none = refl; none_below = refl; idles = idles; same = same })))),
        ),
      )

  -- In a batch of some messages the link goes on telling of each near record that differs.
  pub goes_on_telling : (l m : NearValue B E) (bodies : List (List ℕ)) (o : BatchOutcome) (exchanges : List Exchange) (old : List ℕ) → bodies ≢ []
      → ((below : List Exchange) × NearBatch batches record_at l bodies o exchanges below m) → AreNoted old l.near → AreNoted old m.near
  goes_on_telling l m bodies o exchanges old some h noted = by h.1.2
    where
      by : Sends batches record_at l bodies o exchanges h.0 m ⊎ (SendsAgain batches record_at l bodies o exchanges h.0 m ⊎ (Declines batches record_at l bodies o exchanges h.0 m ⊎ (Idles batches record_at l bodies o exchanges h.0 m ⊎ StopsShort batches record_at l bodies o exchanges h.0 m)))
          → AreNoted old m.near
      by (inl sends) = batch_noted l.device old sends.requests l.near m.near sends.stored noted
      by (inr (inl again)) = batch_noted l.device old again.sends.requests l.near m.near again.sends.stored noted
      by (inr (inr (inl declines))) = subst (λ (x : NearValue B E). AreNoted old x.near) (sym declines.same) noted
      by (inr (inr (inr (inl idles)))) = absurd (some idles.no_bodies)
      by (inr (inr (inr (inr stops)))) = batch_noted l.device old stops.requests l.near m.near stops.stored noted

  -- Once the link learns that its process was kept, it counts changes from the near records as they are.
  pub counts_anew : (l m : NearValue B E) → m ≡ record l { inner = m.inner; near = record l.near { noted = nothing_noted } } → AreNoted l.near.bytes m.near
  counts_anew l m is = subst (λ (x : NearValue B E). AreNoted l.near.bytes x.near) (sym is) (counted_anew l.near l.near.bytes refl)
