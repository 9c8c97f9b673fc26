-- The exchanges of a batch that goes between its stamps are such as `IsBatch` allows.
use Rattle.std.proofs.Common.{ℕ, List, [], Option, Ok, Err, inl, inr, sym, ap, subst}
use Rattle.oram_link_laws.specs.Repair.{AreAmong}
use Rattle.oram_link_laws.specs.Runs.{Exchange, bodies_of}
use Rattle.oram_rounds.specs.Batches.{BatchOutcome, IsBatch}
use Rattle.oram_rounds.specs.Law.{AreBatches}
use Rattle.oram_client.specs.Attempts.{Attempt, DialersAreBatches, Plainly, attempt_for, link_outcome}
use Rattle.oram_client.specs.BatchExchanges.{cut_among, streams_are_batches}
use Rattle.oram_client.specs.Dialer.{Destination}
use Rattle.oram_client.specs.Stamped.{CarriesStamped, Line}
use Rattle.oram_session.specs.declared.link.LinkFault.TheVariants.{Closed, OutOfMemory}

-- an attempt says what its batch came to
said : (bodies : List (List ℕ)) (outcome : BatchOutcome) (exchanges : List Exchange) → IsBatch bodies outcome exchanges → IsBatch bodies (link_outcome (attempt_for outcome)) exchanges
said bodies (Ok answers) exchanges h = h
said bodies (Err fault) exchanges h = h

-- A dialer that adds nothing to its batches has the exchanges of its connections.
pub plainly_are_batches : {D L : Type 0} (batches : L → List (List ℕ) → BatchOutcome → List Exchange → L → Type 0) → AreBatches batches → DialersAreBatches {D = D} (Plainly batches)
plainly_are_batches batches law d e line line' bodies came exchanges h =
    subst (λ (k : BatchOutcome). IsBatch bodies k exchanges) (sym (ap link_outcome h.2)) (said bodies h.0 exchanges (law line line' bodies h.0 exchanges h.1))

module _ {S : Type 0} (remaining contents : S → Option (List ℕ)) where
  pub carries_are_batches : (d e : Destination) (line line' : Line remaining contents) (bodies : List (List ℕ)) (came : Attempt) (exchanges : List Exchange)
      → CarriesStamped remaining contents d line bodies came exchanges e line' → IsBatch bodies (link_outcome came) exchanges
  carries_are_batches d e line line' bodies came exchanges (inl h) =
      let nothing : IsBatch bodies (Err OutOfMemory) exchanges = subst (λ (es : List Exchange). IsBatch bodies (Err OutOfMemory) es) (sym h.none) tt in
      subst (λ (k : BatchOutcome). IsBatch bodies k exchanges) (sym (ap link_outcome h.says)) nothing
  carries_are_batches d e line line' bodies came exchanges (inr (inl h)) =
      subst (λ (k : BatchOutcome). IsBatch bodies k exchanges) (sym (ap link_outcome h.says))
      (said bodies h.outcome exchanges (streams_are_batches remaining contents line line' bodies h.outcome exchanges h.batch))
  carries_are_batches d e line line' bodies came exchanges (inr (inr (inl h))) = h.is_batch
  carries_are_batches d e line line' bodies came exchanges (inr (inr (inr h))) =
      let among : AreAmong (bodies_of exchanges) bodies =
      subst (λ (es : List Exchange). AreAmong (bodies_of es) bodies) (sym h.unheard) (cut_among bodies bodies [] Closed (λ x k. k)) in
      subst (λ (k : BatchOutcome). IsBatch bodies k exchanges) (sym (ap link_outcome h.says)) among
