-- A batch that is sent, and one that isn't.
use Rattle.std.proofs.Common.{◌≡◌, ◌⊎◌, ℕ, ◌+◌, ◌-◌, ◌*◌, ◌≤◌, arith, Bool, true, List, [], ◌∷◌, ◌++◌, length, map, drop, take, if◌then◌else◌, is_some, Option, Ok, Err, refl, sym, ap, ◌∙◌, subst, inl, inr}
use Rattle.std.specs.List.{AllByRecursion, FoldsTo, filter}
use Rattle.std.proofs.lemmas.List.{length-drop, length-map, map-append}
use Rattle.oram_geometry.specs.Sizes.{depth_of}
use Rattle.oram_geometry.specs.declared.Sizes.{Sizes}
use Rattle.oram_levels.specs.Messages.{FetchLevels, LevelsMessage, StoreLevels, levels_body}
use Rattle.oram_session.specs.declared.link.LinkFault.{LinkFault}
use Rattle.oram_session.specs.declared.link.LinkFault.TheVariants.{Closed, OutOfMemory}
use Rattle.oram_link_laws.specs.Runs.{Exchange}
use Rattle.oram_rounds.specs.Batches.{BatchOutcome}
use Rattle.oram_rounds.proofs.KeptPaths.{leaf_fits}
use Rattle.oram_near.specs.ComingAnswers.{Coming}
use Rattle.oram_near.specs.Near.{Near}
use Rattle.oram_near.specs.NearCalls.{AreAnswered, ArePathBodies, GivesWhole, IsRefusal, NearBatch, NearValue, Sends, StandsBetween, TakesNear, begins_as_store, client_of, far_messages, is_in_order, path_exchanges, store_answers, stores_among, unsure_with}
use Rattle.oram_near.specs.PathRequests.{FetchPath, IsFarStore, IsFarStoreBody, IsOfDevice, PathRequest, StorePath, far_of, first_far, path_body, request_of, store_in}
use Rattle.oram_near.specs.declared.path_message.PathMessage.{PathMessage}
use Rattle.oram_near.proofs.FarStores.{same_bodies, store_in-body}
use Rattle.oram_near.proofs.Paths.{first_far-deep}
use Rattle.oram_near.proofs.RequestLists.{all_join, filter-levels_body}

module _ (d : Sizes) (levels len : ℕ) where
  -- the STOREs of the far levels for some requests
  pub stores_are : levels ≤ depth_of d 0 → (requests : List PathRequest) → AllByRecursion (IsOfDevice d len) requests
      → AllByRecursion (IsFarStore d levels len) (stores_among (map (far_of d levels len) requests))
  stores_are deep [] are = tt
  stores_are deep (FetchPath tree leaf ∷ requests) are = stores_are deep requests are.1
  stores_are deep (StorePath tree leaf records ∷ requests) are =
      let first : ℕ = first_far levels tree in
      let low : first_far levels tree ≤ depth_of d tree = first_far-deep d levels tree deep in
      let whole : length records ≡ (depth_of d tree + 1) * len = are.0.2 in
      let parts : (depth_of d tree + 1) * len ≡ first * len + (depth_of d tree + 1 - first) * len =
      let e : depth_of d tree + 1 ≡ first + (depth_of d tree + 1 - first) = omega (arith, low) in ap (λ (k : ℕ). k * len) e ∙ omega arith in
      let long : length (drop (first * len) records) ≡ (depth_of d tree + 1 - first) * len = omega (arith, length-drop (first * len) records, whole, parts) in
      ((are.0.0, are.0.1, refl, long), stores_are deep requests are.1)

  one_in : (message : LevelsMessage) → IsFarStore d levels len message → store_in (levels_body message) ≡ message
  one_in (FetchLevels tree first last leaf) far = absurd far
  one_in (StoreLevels tree first leaf records) far = store_in-body tree first leaf records (leaf_fits d tree leaf far.1)

  pub all_in : (messages : List LevelsMessage) → AllByRecursion (IsFarStore d levels len) messages → map store_in (map levels_body messages) ≡ messages
  all_in [] are = refl
  all_in (message ∷ messages) are = ap (λ (m : LevelsMessage). m ∷ map store_in (map levels_body messages)) (one_in message are.0) ∙ ap (λ (ms : List LevelsMessage). message ∷ ms) (all_in messages are.1)

  pub bodies_are : (messages : List LevelsMessage) → AllByRecursion (IsFarStore d levels len) messages → AllByRecursion (IsFarStoreBody d levels len) (map levels_body messages)
  bodies_are [] are = tt
  bodies_are (message ∷ messages) are =
      let is = one_in message are.0 in
      ((subst (IsFarStore d levels len) (sym is) are.0, ap levels_body (sym is)), bodies_are messages are.1)

  -- the unsure STOREs, and those of a batch behind them
  module _ (old held sent : List (List ℕ)) (requests : List PathRequest) (deep : levels ≤ depth_of d 0) (paths : AllByRecursion (IsOfDevice d len) requests)
      (are : AllByRecursion (IsFarStoreBody d levels len) old) (messages : sent ≡ map levels_body (map (far_of d levels len) requests))
      (holds : held ≡ old ++ map levels_body (stores_among (map (far_of d levels len) requests))) where
    abbrev stores : List LevelsMessage
    stores = stores_among (map (far_of d levels len) requests)

    pub held_bodies : AllByRecursion (IsFarStoreBody d levels len) held
    held_bodies = subst (AllByRecursion (IsFarStoreBody d levels len)) (sym holds) (all_join (IsFarStoreBody d levels len) old (map levels_body stores) are (bodies_are stores (stores_are deep requests paths)))

    pub held_in : map store_in held ≡ map store_in old ++ stores
    held_in =
        ap (map store_in) holds ∙ map-append store_in old (map levels_body stores)
        ∙ ap (λ (ms : List LevelsMessage). map store_in old ++ ms) (all_in stores (stores_are deep requests paths))

    pub sent_bodies : old ++ sent ≡ map levels_body (map store_in old ++ map (far_of d levels len) requests)
    sent_bodies =
        ap (λ (bodies : List (List ℕ)). old ++ bodies) messages
        ∙ ap (λ (bodies : List (List ℕ)). bodies ++ map levels_body (map (far_of d levels len) requests)) (sym (same_bodies d levels len old are))
        ∙ sym (map-append levels_body (map store_in old) (map (far_of d levels len) requests))

module _ {B E : Type 0} (batches : B → List (List ℕ) → BatchOutcome → List Exchange → B → Type 0) (record_at : E → ℕ → ℕ → ℕ → List ℕ) where
  abbrev pub HasBatch : NearValue B E → List (List ℕ) → BatchOutcome → NearValue B E → Type 0
  HasBatch l bodies o m = (exchanges : List Exchange) × (below : List Exchange) × NearBatch batches record_at l bodies o exchanges below m

  -- a batch that is sent, with these exchanges below
  abbrev pub HasSent : NearValue B E → List (List ℕ) → List PathRequest → BatchOutcome → NearValue B E → Type 0
  HasSent l bodies requests o m =
      (m.device ≡ l.device) × (m.empty ≡ l.empty) × (exchanges : List Exchange) × (below : List Exchange) × (sends : Sends batches record_at l bodies o exchanges below m) × (sends.requests ≡ requests)

  pub declines : (l : NearValue B E) (bodies : List (List ℕ)) (fault : LinkFault) → (fault ≡ OutOfMemory) ⊎ ((fault ≡ Closed) × ((¬ ArePathBodies l.device l.near.record_len bodies) ⊎ StandsBetween batches record_at l bodies))
      → HasBatch l bodies (Err fault) l
  declines l bodies fault why =
      ([], [], (refl, refl, inr (inr (inl (record { fault = fault; reported = refl; why = why; none = refl; none_below = refl; same = refl })))))

  module _ (l m : NearValue B E) (bodies : List (List ℕ)) (requests : List PathRequest) (below : List Exchange) (device : m.device ≡ l.device) (empty : m.empty ≡ l.empty)
      (named : bodies ≡ map path_body requests) (paths : AllByRecursion (IsOfDevice l.device l.near.record_len) requests)
      (in_order : is_in_order requests ≡ true) (stored : FoldsTo {P = Near} (TakesNear l.device) l.near requests m.near) where
    abbrev sent_as : BatchOutcome → Type 0
    sent_as outcome = batches l.inner (map levels_body (l.unsure ++ far_messages batches record_at l requests)) outcome below m.inner

    pub lost : (fault : LinkFault) → sent_as (Err fault) → m.unsure ≡ unsure_with batches record_at l requests → HasSent l bodies requests (Err fault) m
    lost fault sent unsure = (
      device,
      empty,
      path_exchanges requests (Err fault),
      below,
      record {
        requests = requests;
        named = named;
        paths = paths;
        in_order = in_order;
        stored = stored;
        outcome = Err fault;
        sent = sent;
        gives = (refl, unsure);
        as_paths = refl;
      },
      refl,
    )

    pub starved : (answers : List (List ℕ)) → sent_as (Ok answers) → m.unsure ≡ unsure_with batches record_at l requests → HasSent l bodies requests (Err OutOfMemory) m
    starved answers sent unsure = (
      device,
      empty,
      path_exchanges requests (Err OutOfMemory),
      below,
      record {
        requests = requests;
        named = named;
        paths = paths;
        in_order = in_order;
        stored = stored;
        outcome = Ok answers;
        sent = sent;
        gives = inr (refl, unsure);
        as_paths = refl;
      },
      refl,
    )

    pub given_all : (answers given : List (List ℕ)) → sent_as (Ok answers) → GivesWhole batches record_at l requests answers (Ok given) m → HasSent l bodies requests (Ok given) m
    given_all answers given sent completes = (
      device,
      empty,
      path_exchanges requests (Ok given),
      below,
      record {
        requests = requests;
        named = named;
        paths = paths;
        in_order = in_order;
        stored = stored;
        outcome = Ok answers;
        sent = sent;
        gives = inl completes;
        as_paths = refl;
      },
      refl,
    )

  -- by the parts of the link before the batch, and of the link once the STOREs are in place
  module _ (inner inner' : B) (empty : E) (d : Sizes) (near near' : Near) (coming : Coming) (old held sent bodies : List (List ℕ)) (requests : List PathRequest) (below : List Exchange)
      (deep : near.levels ≤ depth_of d 0) (named : bodies ≡ map path_body requests) (paths : AllByRecursion (IsOfDevice d near.record_len) requests)
      (in_order : is_in_order requests ≡ true) (stored : FoldsTo {P = Near} (TakesNear d) near requests near') (are : AllByRecursion (IsFarStoreBody d near.levels near.record_len) old)
      (messages : sent ≡ map levels_body (map (far_of d near.levels near.record_len) requests))
      (holds : held ≡ old ++ map levels_body (stores_among (map (far_of d near.levels near.record_len) requests))) where
    abbrev pub link_before : NearValue B E
    link_before = record { inner = inner; empty = empty; device = d; near = near; unsure = map store_in old; coming = coming }

    abbrev pub link_meanwhile : NearValue B E
    link_meanwhile = record { inner = inner'; empty = empty; device = d; near = near'; unsure = map store_in held; coming = coming }

    unsure_now : map store_in held ≡ unsure_with batches record_at link_before requests
    unsure_now = held_in d near.levels near.record_len old held sent requests deep paths are messages holds

    sent_now : (outcome : BatchOutcome) → batches inner (old ++ sent) outcome below inner'
        → batches inner (map levels_body (map store_in old ++ map (far_of d near.levels near.record_len) requests)) outcome below inner'
    sent_now outcome batch =
        subst (λ (all : List (List ℕ)). batches inner all outcome below inner') (sent_bodies d near.levels near.record_len old held sent requests deep paths are messages holds) batch

    pub lost_by : (fault : LinkFault) → batches inner (old ++ sent) (Err fault) below inner' → HasSent link_before bodies requests (Err fault) link_meanwhile
    lost_by fault batch = lost link_before link_meanwhile bodies requests below refl refl named paths in_order stored fault (sent_now (Err fault) batch) unsure_now

    pub starved_by : (m : NearValue B E) (answers : List (List ℕ)) → m ≡ record link_meanwhile { unsure = m.unsure } → m.unsure ≡ map store_in held
        → batches inner (old ++ sent) (Ok answers) below inner' → HasSent link_before bodies requests (Err OutOfMemory) m
    starved_by m answers same unsure batch =
        let now : link_meanwhile ≡ m = ap (λ (u : List LevelsMessage). let x : NearValue B E = record link_meanwhile { unsure = u } in x) (sym unsure) ∙ sym same in
        subst (HasSent link_before bodies requests (Err OutOfMemory)) now
        (starved link_before link_meanwhile bodies requests below refl refl named paths in_order stored answers (sent_now (Ok answers) batch) unsure_now)

    pub given_by : (m : NearValue B E) (answers given : List (List ℕ)) (before : ℕ) (refusal : Option (List ℕ)) → m ≡ record link_meanwhile { unsure = m.unsure } → before ≡ length old
        → IsRefusal (take before answers ++ store_answers requests (drop before answers)) refusal
        → AreAnswered (client_of record_at link_meanwhile) refusal requests (drop before answers) given → m.unsure ≡ (if is_some refusal then map store_in held else [])
        → batches inner (old ++ sent) (Ok answers) below inner' → HasSent link_before bodies requests (Ok given) m
    given_by m answers given before refusal same count refused answered unsure batch =
        let n : before ≡ length (map store_in old) = count ∙ sym (length-map old store_in) in
        let later : NearValue B E = record link_meanwhile { unsure = m.unsure } in
        let completes : GivesWhole batches record_at link_before requests answers (Ok given) later = record {
          refusal = refusal;
          refused = subst (λ (k : ℕ). IsRefusal (take k answers ++ store_answers requests (drop k answers)) refusal) n refused;
          given = given;
          reported = refl;
          are = subst (λ (u : List LevelsMessage). AreAnswered (client_of record_at (record link_meanwhile { unsure = u })) refusal requests (drop (length (map store_in old)) answers) given) unsure_now
              (subst (λ (k : ℕ). AreAnswered (client_of record_at link_meanwhile) refusal requests (drop k answers) given) n answered);
          unsure = unsure ∙ ap (λ (u : List LevelsMessage). if is_some refusal then u else []) unsure_now;
        } in
        subst (HasSent link_before bodies requests (Ok given)) (sym same)
        (given_all link_before later bodies requests below refl refl named paths in_order stored answers given (sent_now (Ok answers) batch) completes)

-- what the link's own numbers make of what its calls say

-- the messages that were encoded, by the link's own numbers
pub encoded_by : (d : Sizes) (near : Near) (levels len : ℕ) (read kept : List PathMessage) (sent : List (List ℕ)) → levels ≡ near.levels → len ≡ near.record_len → read ≡ kept
    → sent ≡ map levels_body (map (far_of d levels len) (map request_of read)) → sent ≡ map levels_body (map (far_of d near.levels near.record_len) (map request_of kept))
encoded_by d near levels len read kept sent one two three is =
    is ∙ ap (λ (n : ℕ). map levels_body (map (far_of d n len) (map request_of read))) one ∙ ap (λ (n : ℕ). map levels_body (map (far_of d near.levels n) (map request_of read))) two
    ∙ ap (λ (r : List PathMessage). map levels_body (map (far_of d near.levels near.record_len) (map request_of r))) three

-- the STOREs that are held now
pub held_by : (old before held sent : List (List ℕ)) (messages : List LevelsMessage) → held ≡ before ++ filter begins_as_store sent → before ≡ old → sent ≡ map levels_body messages
    → held ≡ old ++ map levels_body (stores_among messages)
held_by old before held sent messages is same named =
    is ∙ ap (λ (bs : List (List ℕ)). bs ++ filter begins_as_store sent) same ∙ ap (λ (bs : List (List ℕ)). old ++ filter begins_as_store bs) named
    ∙ ap (λ (bs : List (List ℕ)). old ++ bs) (filter-levels_body messages)

-- the requests are of the device, by the link's own length of a record
pub paths_by : (d : Sizes) (len n : ℕ) (read kept : List PathMessage) → len ≡ n → kept ≡ read → AllByRecursion (IsOfDevice d len) (map request_of read) → AllByRecursion (IsOfDevice d n) (map request_of kept)
paths_by d len n read kept same is are =
    subst (λ (k : ℕ). AllByRecursion (IsOfDevice d k) (map request_of kept)) same (subst (λ (r : List PathMessage). AllByRecursion (IsOfDevice d len) (map request_of r)) (sym is) are)

-- the bodies that are held are STOREs of the far levels by the numbers of the near records now
pub kept_by : (d : Sizes) (near near' : Near) (held : List (List ℕ)) → near'.levels ≡ near.levels → near'.record_len ≡ near.record_len
    → AllByRecursion (IsFarStoreBody d near.levels near.record_len) held → AllByRecursion (IsFarStoreBody d near'.levels near'.record_len) held
kept_by d near near' held levels len are =
    subst (λ (n : ℕ). AllByRecursion (IsFarStoreBody d near'.levels n) held) (sym len) (subst (λ (n : ℕ). AllByRecursion (IsFarStoreBody d n near.record_len) held) (sym levels) are)

pub in_order_by : (items read : List PathMessage) (b : Bool) → read ≡ items → b ≡ is_in_order (map request_of read) → b ≡ true → is_in_order (map request_of items) ≡ true
in_order_by items read b same is held = ap (λ (r : List PathMessage). is_in_order (map request_of r)) (sym same) ∙ sym is ∙ held
