-- A batch whose answers are taken one by one: FETCHes, and STOREs behind them. Each FETCH is completed once the host has answered it. When the
-- answer to the first STORE is asked for, the link takes the host's answers to all of them, and what it gives for the STOREs is what it gives in a
-- batch whose answers come at once. It couldn't give each STORE the host's own answer: a host of whole paths that carries out the first
-- STORE again and refuses the next one has the first one's records where their paths meet, and the client has the next one's.
use Rattle.std.specs.Prelude.{◌≡◌, ◌⊎◌, ℕ, ◌+◌, ◌≤◌, if◌then◌else◌, List, [], ◌++◌, drop, length, map, Option, Some, None, is_some, MatchOption, MatchResult, Result, Ok, Err, ⊤}
use Rattle.std.specs.Global.{Vec}
use Rattle.std.specs.List.{AllByRecursion, FoldsTo}
use Rattle.oram_geometry.specs.declared.Sizes.{Sizes}
use Rattle.oram_levels.specs.Messages.{LevelsMessage, levels_body}
use Rattle.oram_session.specs.declared.link.LinkFault.{LinkFault}
use Rattle.oram_link_laws.specs.Runs.{Exchange}
use Rattle.oram_rounds.specs.Batches.{BatchOutcome, BreaksOff}
use Rattle.oram_near.specs.Near.{Near}
use Rattle.oram_near.specs.NearCalls.{AreAnswered, IsOneOf, IsRefusal, NearBatch, NearValue, TakesNear, client_of, far_messages, store_answer, store_answers, stores_among}
use Rattle.oram_near.specs.PathRequests.{FetchPath, IsOfDevice, PathRequest, StorePath, far_of, path_body}

abbrev pub IsFetch : PathRequest → Type 0
IsFetch (FetchPath tree leaf) = ⊤
IsFetch (StorePath tree leaf records) = ⊥

abbrev pub IsStore : PathRequest → Type 0
IsStore (FetchPath tree leaf) = ⊥
IsStore (StorePath tree leaf records) = ⊤

-- these bodies are FETCHes of whole paths of the device and then STOREs, and these are the messages about levels for them
pub record IsReadBatch (d : Sizes) (levels record_len : ℕ) (first last messages store_messages : List (List ℕ)) (stores : List PathRequest) : Type 0 where
  pub fetches : List PathRequest
  pub first_named : first ≡ map path_body fetches
  pub last_named : last ≡ map path_body stores
  pub fetch_paths : AllByRecursion (IsOfDevice d record_len) fetches
  pub store_paths : AllByRecursion (IsOfDevice d record_len) stores
  pub are_fetches : AllByRecursion IsFetch fetches
  pub are_stores : AllByRecursion IsStore stores
  pub fetch_messages : messages ≡ map levels_body (map (far_of d levels record_len) fetches)
  pub stores_messages : store_messages ≡ map levels_body (map (far_of d levels record_len) stores)

-- the bytes of an answer, if there is one
abbrev pub bytes_of : Option (Vec ℕ) → Option (List ℕ)
bytes_of None = None
bytes_of (Some answer) = Some answer.items

-- over a link with these batches and streams
module _ {B : Type 0} (batches : B → List (List ℕ) → BatchOutcome → List Exchange → B → Type 0) (streams : B → List (List ℕ) → List (List ℕ) → B → Type 0) where
  -- The answers to these messages, which come next in the batch, were taken; among them is this refusal, or there is none. Or the batch has
  -- broken off.
  abbrev pub Hears : B → List (List ℕ) → Result (Option (List ℕ)) LinkFault → B → Type 0
  Hears k messages heard m = (l : B) (bodies answers rest : List (List ℕ)) → streams l bodies answers k → drop (length answers) bodies ≡ messages ++ rest
      → MatchResult heard (λ refusal. (more : List (List ℕ)) × (length more ≡ length messages) × streams l bodies (answers ++ more) m × IsRefusal more refusal)
      (λ fault. (exchanges : List Exchange) × batches l bodies (Err fault) exchanges m × BreaksOff bodies answers exchanges)

  -- The rest of the batch is over, so that no answer is to come.
  abbrev pub PassesOver : B → List (List ℕ) → B → Type 0
  PassesOver k messages m = (l : B) (bodies answers : List (List ℕ)) → streams l bodies answers k → drop (length answers) bodies ≡ messages
      → length bodies ≡ length answers + length messages → (o : BatchOutcome) × (exchanges : List Exchange) × batches l bodies o exchanges m × BreaksOff bodies answers exchanges

abbrev pub heard_of : Result (Option (Vec ℕ)) LinkFault → Result (Option (List ℕ)) LinkFault
heard_of (Ok refusal) = Ok (bytes_of refusal)
heard_of (Err fault) = Err fault

-- over a link with these batches and streams, with these records of the formatting
module _ {B E : Type 0} (batches : B → List (List ℕ) → BatchOutcome → List Exchange → B → Type 0) (streams : B → List (List ℕ) → List (List ℕ) → B → Type 0) (record_at : E → ℕ → ℕ → ℕ → List ℕ) where
  abbrev pub NearBatches : NearValue B E → List (List ℕ) → BatchOutcome → List Exchange → NearValue B E → Type 0
  NearBatches l bodies o exchanges m = (below : List Exchange) × NearBatch batches record_at l bodies o exchanges below m

  -- The batch was begun when the link was `l`: the near records of its STOREs were put in place. The STOREs that were unsure then are in it.
  pub record IsBegun (l : NearValue B E) (bodies : List (List ℕ)) (k : NearValue B E) : Type 0 where
    pub fetches : List PathRequest
    pub stores : List PathRequest
    pub named : bodies ≡ map path_body (fetches ++ stores)
    pub paths : AllByRecursion (IsOfDevice l.device l.near.record_len) (fetches ++ stores)
    pub are_fetches : AllByRecursion IsFetch fetches
    pub are_stores : AllByRecursion IsStore stores
    pub again : (message : LevelsMessage) → IsOneOf message l.unsure → IsOneOf message (stores_among (far_messages batches record_at l (fetches ++ stores)))
    pub stored : FoldsTo {P = Near} (TakesNear l.device) l.near (fetches ++ stores) k.near
    pub device : k.device ≡ l.device
    pub empty : k.empty ≡ l.empty

  abbrev pub sent_below : (l : NearValue B E) (bodies : List (List ℕ)) (k : NearValue B E) → IsBegun l bodies k → List (List ℕ)
  sent_below l bodies k b = map levels_body (far_messages batches record_at l (b.fetches ++ b.stores))

  -- Some FETCHes were given their answers, and no STORE was. All STOREs of the batch are unsure.
  pub record IsFetching (l : NearValue B E) (bodies answers : List (List ℕ)) (k : NearValue B E) : Type 0 where
    pub begun : IsBegun l bodies k
    pub front : List PathRequest
    pub rest : List PathRequest
    pub split : begun.fetches ≡ front ++ rest
    pub far : List (List ℕ)  -- the host's answers
    pub comes : streams l.inner (sent_below l bodies k begun) far k.inner
    pub are : AreAnswered (client_of record_at k) None front far answers
    pub to_come : k.coming.fetches ≡ map levels_body (far_messages batches record_at l rest)
    pub none_ready : k.coming.ready ≡ []
    pub unsure : k.unsure ≡ stores_among (far_messages batches record_at l (begun.fetches ++ begun.stores))

  -- The host has answered all messages, and so it is known what the STOREs are answered. They stay unsure if the host has refused one of them.
  pub record IsHeard (l : NearValue B E) (bodies answers : List (List ℕ)) (k : NearValue B E) : Type 0 where
    pub begun : IsBegun l bodies k
    pub far : List (List ℕ)
    pub below : List Exchange
    pub sent : batches l.inner (sent_below l bodies k begun) (Ok far) below k.inner
    pub refusal : Option (List ℕ)
    pub refused : IsRefusal (store_answers (begun.fetches ++ begun.stores) far) refusal
    pub are : AreAnswered (client_of record_at (record k { unsure = stores_among (far_messages batches record_at l (begun.fetches ++ begun.stores)) })) refusal (begun.fetches ++ begun.stores) far (answers ++ k.coming.ready)
    pub ready : AllByRecursion (λ answer. answer ≡ store_answer refusal) k.coming.ready
    pub past : length begun.fetches ≤ length answers
    pub unsure : k.unsure ≡ (if is_some refusal then stores_among (far_messages batches record_at l (begun.fetches ++ begun.stores)) else [])

  -- The link was `l` when the batch of these bodies was begun, has given the answers to the first of them, and is now `k`.
  abbrev pub NearStreams : NearValue B E → List (List ℕ) → List (List ℕ) → NearValue B E → Type 0
  NearStreams l bodies answers k = IsFetching l bodies answers k ⊎ IsHeard l bodies answers k

  -- The link has taken the host's answers to all STOREs, where all FETCHes had been given their answers. Or the batch has broken off.
  abbrev pub HearsStores : NearValue B E → Option LinkFault → NearValue B E → Type 0
  HearsStores k fault m = (l : NearValue B E) (bodies answers : List (List ℕ)) (f : IsFetching l bodies answers k) → f.rest ≡ []
      → MatchOption fault (IsHeard l bodies answers m × (length m.coming.ready ≡ length f.begun.stores))
      (λ why. (exchanges : List Exchange) × NearBatches l bodies (Err why) exchanges m × BreaksOff bodies answers exchanges)

abbrev pub fault_of : Result (Unit {0}) LinkFault → Option LinkFault
fault_of (Ok done) = None
fault_of (Err fault) = Some fault
