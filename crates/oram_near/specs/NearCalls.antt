-- What a link does that keeps near records: it takes FETCHes and STOREs of whole paths, sends FETCHes and STOREs of levels, and completes
-- the answers.
use Rattle.std.specs.Prelude.{◌≡◌, ◌≢◌, ◌⊎◌, ℕ, ◌≤◌, ◌==◌, Bool, true, false, if◌then◌else◌, List, [], ◌∷◌, ◌++◌, drop, length, map, slice_index, take, Option, Some, None, is_some, MatchBool, MatchResult, Ok, Err}
use Rattle.std.specs.List.{AllByRecursion, FoldsTo}
use Rattle.oram_geometry.specs.declared.Sizes.{Sizes}
use Rattle.oram_geometry.specs.Sizes.{depth_of}
use Rattle.oram_levels.specs.Messages.{FetchLevels, LevelsMessage, StoreLevels, levels_body}
use Rattle.oram_wire.specs.HostMessages.{done_answer}
use Rattle.oram_session.specs.declared.link.LinkFault.{LinkFault}
use Rattle.oram_session.specs.declared.link.LinkFault.TheVariants.{Closed, OutOfMemory}
use Rattle.oram_link_laws.specs.Repair.{IsAmong}
use Rattle.oram_link_laws.specs.Runs.{Exchange}
use Rattle.oram_rounds.specs.Batches.{BatchOutcome, BreaksOff, SendsNothing, answered}
use Rattle.oram_rounds.specs.Rounds.{AreDone, refused_with}
use Rattle.oram_near.specs.ComingAnswers.{Coming}
use Rattle.oram_near.specs.Completion.{ClientRecords, IsCompleted}
use Rattle.oram_near.specs.Near.{Near, StoresNear}
use Rattle.oram_near.specs.declared.requests.Phase.{Phase}
use Rattle.oram_near.specs.declared.requests.Phase.TheVariants as phase
use Rattle.oram_near.specs.PathRequests.{FetchPath, IsFarStore, IsOfDevice, PathRequest, StorePath, far_of, path_body}

-- the link below, what makes the records of the formatting, and what the client has of the device's records
pub record NearValue (B E : Type 0) : Type 0 where
  pub inner : B
  pub empty : E
  pub device : Sizes
  pub near : Near
  pub unsure : List LevelsMessage  -- the STOREs that the host may or may not have carried out, the oldest first
  pub coming : Coming  -- of a batch whose answers are taken one by one

abbrev pub client_of : {B E : Type 0} → (E → ℕ → ℕ → ℕ → List ℕ) → NearValue B E → ClientRecords
client_of record_at l = record { device = l.device; near = l.near; unsure = l.unsure; empty = record_at l.empty }

-- the parts of a link fit together; these functions give the device and the length of the records that the formatting makes
pub record FitsTogether {B E : Type 0} (device_of : E → Sizes) (len_of : E → ℕ) (l : NearValue B E) : Type 0 where
  pub same_device : device_of l.empty ≡ l.device
  pub same_len : len_of l.empty ≡ l.near.record_len
  pub leaves_far : l.near.levels ≤ depth_of l.device 0
  pub are_stores : AllByRecursion (IsFarStore l.device l.near.levels l.near.record_len) l.unsure

-- each of these bodies is a FETCH or a STORE of a whole path of the device
abbrev pub IsPathBody : Sizes → ℕ → List ℕ → Type 0
IsPathBody d record_len body = (request : PathRequest) × IsOfDevice d record_len request × (body ≡ path_body request)

abbrev pub ArePathBodies : Sizes → ℕ → List (List ℕ) → Type 0
ArePathBodies d record_len bodies = AllByRecursion (IsPathBody d record_len) bodies

-- No FETCH of a batch stands between two STOREs: so there are FETCHes, then STOREs, then FETCHes, and any of these may be none.
abbrev pub only_fetches : List PathRequest → Bool
only_fetches [] = true
only_fetches (FetchPath tree leaf ∷ requests) = only_fetches requests
only_fetches (StorePath tree leaf records ∷ requests) = false

abbrev pub stores_first : List PathRequest → Bool
stores_first [] = true
stores_first (FetchPath tree leaf ∷ requests) = only_fetches requests
stores_first (StorePath tree leaf records ∷ requests) = stores_first requests

abbrev pub is_in_order : List PathRequest → Bool
is_in_order [] = true
is_in_order (FetchPath tree leaf ∷ requests) = is_in_order requests
is_in_order (StorePath tree leaf records ∷ requests) = stores_first requests

-- whether a batch may go on with these requests, once it has come to its STOREs or past them
abbrev pub goes_on : Phase → List PathRequest → Bool
goes_on phase.Before requests = is_in_order requests
goes_on phase.Within requests = stores_first requests
goes_on phase.Behind requests = only_fetches requests

-- the phase after a request, if it may come in this phase
abbrev pub phase_after : Phase → PathRequest → Option Phase
phase_after phase.Before (FetchPath tree leaf) = Some phase.Before
phase_after phase.Before (StorePath tree leaf records) = Some phase.Within
phase_after phase.Within (FetchPath tree leaf) = Some phase.Behind
phase_after phase.Within (StorePath tree leaf records) = Some phase.Within
phase_after phase.Behind (FetchPath tree leaf) = Some phase.Behind
phase_after phase.Behind (StorePath tree leaf records) = None

-- a STORE to tree 0 replaces the near records of its path; no other request changes any
abbrev pub TakesNear : Sizes → Near → PathRequest → Near → Type 0
TakesNear d old (FetchPath tree leaf) new = new ≡ old
TakesNear d old (StorePath tree leaf records) new = MatchBool (tree == 0) (StoresNear (depth_of d 0) leaf records old new) (new ≡ old)

-- the message is one of these
abbrev pub IsOneOf : LevelsMessage → List LevelsMessage → Type 0
IsOneOf m [] = ⊥
IsOneOf m (first ∷ messages) = (m ≡ first) ⊎ IsOneOf m messages

-- the STOREs among some messages
abbrev pub stores_among : List LevelsMessage → List LevelsMessage
stores_among [] = []
stores_among (FetchLevels tree first last leaf ∷ messages) = stores_among messages
stores_among (StoreLevels tree first leaf records ∷ messages) = StoreLevels tree first leaf records ∷ stores_among messages

-- whether a message about levels is a STORE, by its first byte
abbrev pub begins_as_store : List ℕ → Bool
begins_as_store body = slice_index body 0 == 7

-- each of these STOREs is among some messages
abbrev pub AreAgain : List (List ℕ) → List (List ℕ) → Type 0
AreAgain messages stores = AllByRecursion (λ store. IsAmong store messages) stores

-- or one of them isn't
abbrev pub IsNoneOf : List ℕ → List (List ℕ) → Type 0
IsNoneOf store messages = AllByRecursion (λ message. message ≢ store) messages

abbrev pub IsOneMissing : List (List ℕ) → List (List ℕ) → Type 0
IsOneMissing messages stores = (store : List ℕ) × IsAmong store stores × IsNoneOf store messages

-- the answers to the STOREs among some requests
abbrev pub store_answers : List PathRequest → List (List ℕ) → List (List ℕ)
store_answers [] answers = []
store_answers (request ∷ requests) [] = []
store_answers (FetchPath tree leaf ∷ requests) (answer ∷ answers) = store_answers requests answers
store_answers (StorePath tree leaf records ∷ requests) (answer ∷ answers) = answer ∷ store_answers requests answers

-- the answer says that the host hasn't carried out a STORE
abbrev pub IsStoreRefusal : PathRequest → List ℕ → Type 0
IsStoreRefusal (FetchPath tree leaf) answer = ⊥
IsStoreRefusal (StorePath tree leaf records) answer = answer ≢ done_answer

-- one of these answers that isn't an acknowledgement, or none if each is one
abbrev pub IsRefusal : List (List ℕ) → Option (List ℕ) → Type 0
IsRefusal answers None = AreDone answers
IsRefusal answers (Some refusal) = IsAmong refusal answers × (refusal ≢ done_answer)

-- what a STORE is answered, if the host has refused a STORE with this answer, or none
abbrev pub store_answer : Option (List ℕ) → List ℕ
store_answer None = done_answer
store_answer (Some refusal) = refused_with refusal

-- what a request is answered, given the host's answer
abbrev pub IsAnswered : ClientRecords → Option (List ℕ) → PathRequest → List ℕ → List ℕ → Type 0
IsAnswered c refusal (FetchPath tree leaf) answer given = IsCompleted c tree leaf answer given
IsAnswered c refusal (StorePath tree leaf records) answer given = given ≡ store_answer refusal

abbrev pub AreAnswered : ClientRecords → Option (List ℕ) → List PathRequest → List (List ℕ) → List (List ℕ) → Type 0
AreAnswered c refusal [] answers given = (answers ≡ []) × (given ≡ [])
AreAnswered c refusal (request ∷ requests) [] given = ⊥
AreAnswered c refusal (request ∷ requests) (answer ∷ answers) [] = ⊥
AreAnswered c refusal (request ∷ requests) (answer ∷ answers) (one ∷ given) = IsAnswered c refusal request answer one × AreAnswered c refusal requests answers given

-- As a host of whole paths tells it: each STORE was sent in a try without an answer, and then each request was answered, if any was.
abbrev pub store_tries : LinkFault → List PathRequest → List Exchange
store_tries fault [] = []
store_tries fault (FetchPath tree leaf ∷ requests) = store_tries fault requests
store_tries fault (StorePath tree leaf records ∷ requests) = (path_body (StorePath tree leaf records), Err fault) ∷ store_tries fault requests

abbrev pub path_exchanges : List PathRequest → BatchOutcome → List Exchange
path_exchanges requests (Ok answers) = store_tries Closed requests ++ answered (map path_body requests) answers
path_exchanges requests (Err fault) = store_tries fault requests

-- over a link whose batches have this relation, with these records of the formatting
module _ {B E : Type 0} (batches : B → List (List ℕ) → BatchOutcome → List Exchange → B → Type 0) (record_at : E → ℕ → ℕ → ℕ → List ℕ) where
  -- the messages about levels that go to the host for these requests
  abbrev pub far_messages : NearValue B E → List PathRequest → List LevelsMessage
  far_messages l requests = map (far_of l.device l.near.levels l.near.record_len) requests

  -- the STOREs that may be unsure once they are sent
  abbrev pub unsure_with : NearValue B E → List PathRequest → List LevelsMessage
  unsure_with l requests = l.unsure ++ stores_among (far_messages l requests)

  -- The host has answered, at once or one message after the other. Each FETCH is completed by what the client has once all STOREs of the batch
  -- are among the near records and the unsure STOREs. If the host has refused a STORE, each STORE of the batch is answered with that refusal, and all stay unsure.
  pub record GivesWhole (l : NearValue B E) (requests : List PathRequest) (answers : List (List ℕ)) (o : BatchOutcome) (m : NearValue B E) : Type 0 where
    pub refusal : Option (List ℕ)
    pub refused : IsRefusal (take (length l.unsure) answers ++ store_answers requests (drop (length l.unsure) answers)) refusal
    pub given : List (List ℕ)
    pub reported : o ≡ Ok given
    pub are : AreAnswered (client_of record_at (record m { unsure = unsure_with l requests })) refusal requests (drop (length l.unsure) answers) given
    pub unsure : m.unsure ≡ (if is_some refusal then unsure_with l requests else [])

  -- the messages are sent, behind the STOREs that are unsure
  pub record Sends (l : NearValue B E) (bodies : List (List ℕ)) (o : BatchOutcome) (exchanges below : List Exchange) (m : NearValue B E) : Type 0 where
    pub requests : List PathRequest
    pub named : bodies ≡ map path_body requests
    pub paths : AllByRecursion (IsOfDevice l.device l.near.record_len) requests
    pub in_order : is_in_order requests ≡ true
    pub stored : FoldsTo {P = Near} (TakesNear l.device) l.near requests m.near
    pub outcome : BatchOutcome
    pub sent : batches l.inner (map levels_body (l.unsure ++ far_messages l requests)) outcome below m.inner
    pub gives : MatchResult outcome (λ answers. GivesWhole l requests answers o m ⊎ ((o ≡ Err OutOfMemory) × (m.unsure ≡ unsure_with l requests)))
        (λ fault. (o ≡ Err fault) × (m.unsure ≡ unsure_with l requests))
    pub as_paths : exchanges ≡ path_exchanges requests o

  -- Each unsure STORE is in the batch again. Then it isn't sent before the batch, too.
  pub record SendsAgain (l : NearValue B E) (bodies : List (List ℕ)) (o : BatchOutcome) (exchanges below : List Exchange) (m : NearValue B E) : Type 0 where
    pub sends : Sends (record l { unsure = [] }) bodies o exchanges below m
    pub again : (message : LevelsMessage) → IsOneOf message l.unsure → IsOneOf message (stores_among (far_messages l sends.requests))

  -- the requests of a batch in which a FETCH stands between two STOREs: a host of whole paths would answer it before the second one
  pub record StandsBetween (l : NearValue B E) (bodies : List (List ℕ)) : Type 0 where
    pub requests : List PathRequest
    pub named : bodies ≡ map path_body requests
    pub paths : AllByRecursion (IsOfDevice l.device l.near.record_len) requests
    pub out_of_order : is_in_order requests ≡ false

  -- Nothing is sent and nothing changes: memory ran out, or a body is no FETCH or STORE of a whole path, or a FETCH stands between two
  -- STOREs.
  pub record Declines (l : NearValue B E) (bodies : List (List ℕ)) (o : BatchOutcome) (exchanges below : List Exchange) (m : NearValue B E) : Type 0 where
    pub fault : LinkFault
    pub reported : o ≡ Err fault
    pub why : (fault ≡ OutOfMemory) ⊎ ((fault ≡ Closed) × ((¬ ArePathBodies l.device l.near.record_len bodies) ⊎ StandsBetween l bodies))
    pub none : exchanges ≡ []
    pub none_below : below ≡ []
    pub same : m ≡ l

  -- The link below does what it may do in a batch of no messages, or nothing, and the link may forget which near records have changed: so it is
  -- when it learns that its process was kept.
  pub record Idles (l : NearValue B E) (bodies : List (List ℕ)) (o : BatchOutcome) (exchanges below : List Exchange) (m : NearValue B E) : Type 0 where
    pub no_bodies : bodies ≡ []
    pub reported : o ≡ Ok []
    pub none : exchanges ≡ []
    pub none_below : below ≡ []
    pub idles : SendsNothing batches l.inner m.inner
    pub same : m ≡ record l { inner = m.inner; near = record l.near { noted = m.near.noted } }

  -- A batch whose answers were to be taken one by one broke off, or couldn't be begun. Then all its STOREs are unsure, and the first requests,
  -- which are FETCHes, have been given their answers. As a host of whole paths tells it, each STORE was sent in a try without an answer, and
  -- then these FETCHes were answered. The STOREs that were unsure before are in the batch again.
  pub record StopsShort (l : NearValue B E) (bodies : List (List ℕ)) (o : BatchOutcome) (exchanges below : List Exchange) (m : NearValue B E) : Type 0 where
    pub requests : List PathRequest
    pub named : bodies ≡ map path_body requests
    pub paths : AllByRecursion (IsOfDevice l.device l.near.record_len) requests
    pub in_order : is_in_order requests ≡ true
    pub again : (message : LevelsMessage) → IsOneOf message l.unsure → IsOneOf message (stores_among (far_messages l requests))
    pub stored : FoldsTo {P = Near} (TakesNear l.device) l.near requests m.near
    pub sent : ((m.inner ≡ l.inner) × (below ≡ [])) ⊎ ((outcome : BatchOutcome) × batches l.inner (map levels_body (far_messages l requests)) outcome below m.inner)
    pub front : List PathRequest
    pub rest : List PathRequest
    pub split : requests ≡ front ++ rest
    pub fetches : only_fetches front ≡ true
    pub answers : List (List ℕ)  -- the answers of the host to the messages for these FETCHes
    pub given : List (List ℕ)  -- and what was made of them
    pub broke : BreaksOff (map levels_body (far_messages l requests)) answers below
    pub are : AreAnswered (client_of record_at m) None front answers given
    pub unsure : m.unsure ≡ stores_among (far_messages l requests)
    pub fault : LinkFault
    pub reported : o ≡ Err fault
    pub as_paths : exchanges ≡ store_tries fault requests ++ answered (map path_body front) given

  -- A batch of the link: its bodies and its outcome, its exchanges as a host of whole paths tells them, and those of the link below.
  abbrev pub NearBatch : NearValue B E → List (List ℕ) → BatchOutcome → List Exchange → List Exchange → NearValue B E → Type 0
  NearBatch l bodies o exchanges below m =
      (m.device ≡ l.device) × (m.empty ≡ l.empty)
      × (Sends l bodies o exchanges below m ⊎ (SendsAgain l bodies o exchanges below m ⊎ (Declines l bodies o exchanges below m ⊎ (Idles l bodies o exchanges below m ⊎ StopsShort l bodies o exchanges below m))))

-- The near records of STOREs are put in place, and these STOREs count as unsure.
pub record TakesUnsure {B E : Type 0} (l : NearValue B E) (bodies : List (List ℕ)) (m : NearValue B E) : Type 0 where
  pub requests : List PathRequest
  pub named : bodies ≡ map path_body requests
  pub paths : AllByRecursion (IsOfDevice l.device l.near.record_len) requests
  pub stored : FoldsTo {P = Near} (TakesNear l.device) l.near requests m.near
  pub same : m ≡ record l { near = m.near; unsure = l.unsure ++ stores_among (map (far_of l.device l.near.levels l.near.record_len) requests) }
