-- What the calls of a link make of a batch whose answers are taken one by one.
use Rattle.std.proofs.Common.{◌≡◌, ◌≢◌, ◌⊎◌, ℕ, ◌+◌, ◌^◌, ◌<◌, ◌≤◌, arith, Bool, true, false, if◌then◌else◌, List, [], ◌∷◌, ◌++◌, length, map, drop, Option, Ok, Err, refl, sym, ap, ◌∙◌, subst, inl, inr, append-nil}
use Rattle.std.specs.List.{AllByRecursion, FoldsTo}
use Rattle.std.specs.Prelude.{is_some}
use Rattle.std.proofs.lemmas.List.{length-append, length-drop, length-map, map-append}
use Rattle.oram_geometry.specs.Sizes.{depth_of}
use Rattle.oram_geometry.specs.declared.Sizes.{Sizes}
use Rattle.oram_levels.specs.Messages.{LevelsMessage, levels_body}
use Rattle.oram_wire.specs.HostMessages.{fetch_body, store_body}
use Rattle.oram_session.specs.declared.link.LinkFault.{LinkFault}
use Rattle.oram_session.specs.declared.link.LinkFault.TheVariants.{Closed, OutOfMemory}
use Rattle.oram_link_laws.specs.Runs.{Exchange}
use Rattle.oram_rounds.specs.Batches.{BatchOutcome, BreaksOff}
use Rattle.oram_rounds.specs.Law.{AreBatches}
use Rattle.oram_rounds.specs.Streams.{BeginsBatch, EndsAsBatch, GivesNext}
use Rattle.oram_near.specs.ComingAnswers.{Coming}
use Rattle.oram_near.specs.Completion.{IsCompleted}
use Rattle.oram_near.specs.Near.{Near}
use Rattle.oram_near.specs.NearCalls.{AreAgain, IsOneOf, NearValue, TakesNear, client_of, far_messages, store_answer, store_tries, stores_among}
use Rattle.oram_near.specs.NearStreams.{Hears, IsBegun, IsReadBatch, NearBatches, PassesOver}
use Rattle.oram_near.specs.PathRequests.{FetchPath, IsFarStore, IsFarStoreBody, IsOfDevice, PathRequest, far_of, path_body, store_in}
use Rattle.oram_near.specs.StreamsEnd.{order_is}
use Rattle.oram_near.proofs.Front.{IsFront, all_again}
use Rattle.oram_near.proofs.HeardAnswers.{next_at, none_broke, shorter}
use Rattle.oram_near.proofs.OneStore.{sizes_same}
use Rattle.oram_near.proofs.RequestLists.{all_join}
use Rattle.oram_near.proofs.Sent.{all_in, bodies_are, stores_are}
use Rattle.oram_near.proofs.StreamSteps.{Fetching, Heard, Stopped, Streams, fetch_next, fetched, fetches_fold, gives_ready, hears, moved, next_sent, sent, some_left, starves, stops, store_next, stores_behind, unsure_is}

-- the bodies of a list that come next are all that are left
all_left : (bodies answers rest : List (List ℕ)) → length answers ≤ length bodies → drop (length answers) bodies ≡ rest → length bodies ≡ length answers + length rest
all_left bodies answers rest within is = omega (arith, within, length-drop (length answers) bodies, ap length is)

module _ {B E : Type 0} (batches : B → List (List ℕ) → BatchOutcome → List Exchange → B → Type 0) (streams : B → List (List ℕ) → List (List ℕ) → B → Type 0) (record_at : E → ℕ → ℕ → ℕ → List ℕ) where
  abbrev Far : NearValue B E → List PathRequest → List LevelsMessage
  Far l requests = far_messages batches record_at l requests

  abbrev InStream : NearValue B E → List (List ℕ) → List (List ℕ) → NearValue B E → Type 0
  InStream l bodies answers k = Streams batches streams record_at l bodies answers k

  abbrev Over : NearValue B E → List (List ℕ) → List (List ℕ) → LinkFault → NearValue B E → Type 0
  Over l bodies answers fault m = Stopped batches streams record_at l bodies answers fault m

  -- the answer to a FETCH is asked for
  module _ (k now : NearValue B E) (is : k ≡ now) (tree leaf : ℕ) (fits : leaf < 2 ^ 32) where
    abbrev pub Asks : (NearValue B E → List (List ℕ) → List (List ℕ) → Type 0) → Type 0
    Asks P = (l : NearValue B E) (bodies answers rest : List (List ℕ)) → InStream l bodies answers now → drop (length answers) bodies ≡ fetch_body tree leaf ∷ rest → P l bodies answers

    here : (l : NearValue B E) (bodies answers rest : List (List ℕ)) → InStream l bodies answers now → drop (length answers) bodies ≡ fetch_body tree leaf ∷ rest
        → (f : Fetching batches streams record_at l bodies answers k) × (later : List PathRequest) × (f.rest ≡ FetchPath tree leaf ∷ later)
    here l bodies answers rest h next =
        fetch_next batches streams record_at l k bodies answers tree leaf rest fits (subst (InStream l bodies answers) (sym is) h) next

    pub none_to_come : k.coming.fetches ≡ [] → Asks (λ l bodies answers. ⊥)
    none_to_come none l bodies answers rest h next =
        let f = here l bodies answers rest h next in
        let some = sym none ∙ f.0.to_come ∙ ap (λ (rs : List PathRequest). map levels_body (Far l rs)) f.2 in
        absurd cc

    module _ (message : List ℕ) (more : List (List ℕ)) (to_come : k.coming.fetches ≡ message ∷ more) where
      -- what comes next below
      comes_below : (l : NearValue B E) (bodies answers : List (List ℕ)) (f : Fetching batches streams record_at l bodies answers k) (later : List PathRequest) → f.rest ≡ FetchPath tree leaf ∷ later
          → drop (length f.far) (sent batches streams record_at l k bodies answers f) ≡ message ∷ (more ++ map levels_body (Far l f.begun.stores))
      comes_below l bodies answers f later next =
          let messages = sym to_come ∙ f.to_come in
          next_sent batches streams record_at l k bodies answers f
          ∙ ap (map levels_body) (map-append (far_of l.device l.near.levels l.near.record_len) f.rest f.begun.stores)
          ∙ map-append levels_body (Far l f.rest) (Far l f.begun.stores) ∙ ap (λ (bs : List (List ℕ)). bs ++ map levels_body (Far l f.begun.stores)) (sym messages)

      -- the answer doesn't come
      pub fetch_fault : (inner : B) (fault : LinkFault) (coming : Coming) → GivesNext batches streams k.inner message (Err fault) inner
          → Asks (λ l bodies answers. Over l bodies answers fault (moved batches streams record_at k inner coming))
      fetch_fault inner fault coming gives l bodies answers rest h next =
          let f = here l bodies answers rest h next in
          let broke = gives l.inner (sent batches streams record_at l k bodies answers f.0) f.0.far (more ++ map levels_body (Far l f.0.begun.stores)) f.0.comes (comes_below l bodies answers f.0 f.1 f.2) in
          stops batches streams record_at l k bodies answers f.0 inner coming fault (Err fault, broke.0, broke.1, broke.2)

      -- it comes, but memory runs out
      pub fetch_memory : (inner last : B) (answer : List ℕ) (stores : List (List ℕ)) (coming : Coming) → stores ≡ map levels_body k.unsure → GivesNext batches streams k.inner message (Ok answer) inner
          → PassesOver batches streams inner (more ++ stores) last → Asks (λ l bodies answers. Over l bodies answers OutOfMemory (moved batches streams record_at k last coming))
      fetch_memory inner last answer stores coming named gives passes l bodies answers rest h next =
          let f = here l bodies answers rest h next in
          let all = sent batches streams record_at l k bodies answers f.0 in
          let behind : map levels_body (Far l f.0.begun.stores) ≡ stores = ap (map levels_body) (sym (unsure_is batches streams record_at l k bodies answers f.0)) ∙ sym named in
          let below = comes_below l bodies answers f.0 f.1 f.2 ∙ ap (λ (bs : List (List ℕ)). message ∷ (more ++ bs)) behind in
          let given = gives l.inner all f.0.far (more ++ stores) f.0.comes below in
          let at : drop (length (f.0.far ++ answer ∷ [])) all ≡ more ++ stores = next_at all f.0.far (answer ∷ []) (message ∷ []) (more ++ stores) below refl in
          let within : length (f.0.far ++ answer ∷ []) ≤ length all = omega (arith, some_left all f.0.far message (more ++ stores) below, length-append f.0.far (answer ∷ [])) in
          let over = passes l.inner all (f.0.far ++ answer ∷ []) given at (all_left all (f.0.far ++ answer ∷ []) (more ++ stores) within at) in
          stops batches streams record_at l k bodies answers f.0 last coming OutOfMemory (over.0, over.1, over.2, shorter all f.0.far (answer ∷ []) over.1 over.3)

      pub fetch_given : (inner : B) (answer given : List ℕ) (coming : Coming) → coming ≡ record { fetches = drop 1 k.coming.fetches; ready = k.coming.ready } → GivesNext batches streams k.inner message (Ok answer) inner
          → IsCompleted (client_of record_at k) tree leaf answer given → Asks (λ l bodies answers. InStream l bodies (answers ++ given ∷ []) (moved batches streams record_at k inner coming))
      fetch_given inner answer given coming same gives completed l bodies answers rest h next =
          let f = here l bodies answers rest h next in
          let comes = gives l.inner (sent batches streams record_at l k bodies answers f.0) f.0.far (more ++ map levels_body (Far l f.0.begun.stores)) f.0.comes (comes_below l bodies answers f.0 f.1 f.2) in
          subst (λ (c : Coming). InStream l bodies (answers ++ given ∷ []) (moved batches streams record_at k inner c)) (sym same)
          (inl (fetched batches streams record_at l k bodies answers f.0 inner tree leaf f.1 answer given f.2 comes completed))

  -- the host's answers to the STOREs are asked for
  module _ (k now : NearValue B E) (is : k ≡ now) (inner : B) (stores : List (List ℕ)) (named : stores ≡ map levels_body k.unsure) where
    abbrev pub AsksStores : (P : (l : NearValue B E) (bodies answers : List (List ℕ)) → List PathRequest → Type 0) → Type 0
    AsksStores P = (l : NearValue B E) (bodies answers : List (List ℕ)) (f : Fetching batches streams record_at l bodies answers now) → f.rest ≡ [] → P l bodies answers f.begun.stores

    at_now : (P : (l : NearValue B E) (bodies answers : List (List ℕ)) → List PathRequest → Type 0)
        → ((l : NearValue B E) (bodies answers : List (List ℕ)) (f : Fetching batches streams record_at l bodies answers k) → f.rest ≡ [] → P l bodies answers f.begun.stores) → AsksStores P
    at_now P by =
        subst (λ (x : NearValue B E). (l : NearValue B E) (bodies answers : List (List ℕ)) (f : Fetching batches streams record_at l bodies answers x) → f.rest ≡ [] → P l bodies answers f.begun.stores) is by

    come_next : (l : NearValue B E) (bodies answers : List (List ℕ)) (f : Fetching batches streams record_at l bodies answers k) → f.rest ≡ []
        → drop (length f.far) (sent batches streams record_at l k bodies answers f) ≡ stores ++ []
    come_next l bodies answers f none =
        next_sent batches streams record_at l k bodies answers f ∙ ap (λ (rs : List PathRequest). map levels_body (Far l (rs ++ f.begun.stores))) none
        ∙ ap (map levels_body) (sym (unsure_is batches streams record_at l k bodies answers f)) ∙ sym named ∙ sym (append-nil stores)

    counted : (l : NearValue B E) (bodies answers : List (List ℕ)) (f : Fetching batches streams record_at l bodies answers k) → length stores ≡ length f.begun.stores
    counted l bodies answers f =
        ap length (named ∙ ap (map levels_body) (unsure_is batches streams record_at l k bodies answers f)) ∙ length-map (Far l f.begun.stores) levels_body
        ∙ length-map f.begun.stores (far_of l.device l.near.levels l.near.record_len)

    pub stores_fault : (fault : LinkFault) (coming : Coming) → Hears batches streams k.inner stores (Err fault) inner
        → AsksStores (λ l bodies answers requests. Over l bodies answers fault (moved batches streams record_at k inner coming))
    stores_fault fault coming heard = at_now (λ l bodies answers requests. Over l bodies answers fault (moved batches streams record_at k inner coming))
        (λ l bodies answers f none.
        let broke = heard l.inner (sent batches streams record_at l k bodies answers f) f.far [] f.comes (come_next l bodies answers f none) in
        stops batches streams record_at l k bodies answers f inner coming fault (Err fault, broke.0, broke.1, broke.2))

    module _ (refusal : Option (List ℕ)) (heard : Hears batches streams k.inner stores (Ok refusal) inner) (ends : EndsAsBatch batches streams) where
      pub stores_memory : AreBatches batches → (fault : LinkFault) (coming : Coming) → AsksStores (λ l bodies answers requests. Over l bodies answers fault (moved batches streams record_at k inner coming))
      stores_memory are fault coming = at_now (λ l bodies answers requests. Over l bodies answers fault (moved batches streams record_at k inner coming))
          (λ l bodies answers f none.
          let h = heard l.inner (sent batches streams record_at l k bodies answers f) f.far [] f.comes (come_next l bodies answers f none) in
          starves batches streams record_at l k bodies answers f none inner h.0 (h.1 ∙ counted l bodies answers f) ends h.2 are coming fault)

      pub stores_heard : (ready : List (List ℕ)) (m : NearValue B E) → length ready ≡ length stores → AllByRecursion (λ answer. answer ≡ store_answer refusal) ready
          → m ≡ record k { inner = inner; coming = record { fetches = k.coming.fetches; ready = ready }; unsure = (if is_some refusal then k.unsure else []) }
          → AsksStores (λ l bodies answers requests. Heard batches streams record_at l bodies answers m × (length m.coming.ready ≡ length requests))
      stores_heard ready m long same m_is = at_now (λ l bodies answers requests. Heard batches streams record_at l bodies answers m × (length m.coming.ready ≡ length requests))
          (λ l bodies answers f none.
          let h = heard l.inner (sent batches streams record_at l k bodies answers f) f.far [] f.comes (come_next l bodies answers f none) in
          let count = counted l bodies answers f in (
            subst (Heard batches streams record_at l bodies answers) (sym m_is)
                (hears batches streams record_at l k bodies answers f none inner h.0 (h.1 ∙ count) ends h.2 refusal ready h.3 (long ∙ count) same),
            ap (λ (x : NearValue B E). length x.coming.ready) m_is ∙ long ∙ count,
          ))

  -- the answer to a STORE is asked for
  module _ (k now : NearValue B E) (is : k ≡ now) where
    abbrev pub AsksStore : (NearValue B E → List (List ℕ) → List (List ℕ) → Type 0) → Type 0
    AsksStore P = (tree leaf : ℕ) (records : List ℕ) (l : NearValue B E) (bodies answers rest : List (List ℕ)) → InStream l bodies answers now → drop (length answers) bodies ≡ store_body tree leaf records ∷ rest
        → P l bodies answers

    next_here : (tree leaf : ℕ) (records : List ℕ) (l : NearValue B E) (bodies answers rest : List (List ℕ)) → InStream l bodies answers now → drop (length answers) bodies ≡ store_body tree leaf records ∷ rest
        → ((f : Fetching batches streams record_at l bodies answers k) × (f.rest ≡ []) × (0 < length f.begun.stores)) ⊎ (Heard batches streams record_at l bodies answers k × (k.coming.ready ≢ []))
    next_here tree leaf records l bodies answers rest h next =
        store_next batches streams record_at l k bodies answers tree leaf records rest (subst (InStream l bodies answers) (sym is) h) next

    not_nothing : (ready : List (List ℕ)) (answer : List ℕ) → ready ++ answer ∷ [] ≡ [] → ⊥
    not_nothing [] answer none = absurd cc
    not_nothing (r ∷ ready) answer none = absurd cc

    -- it is ready
    pub store_ready : (answer : List ℕ) (coming : Coming) → coming.fetches ≡ k.coming.fetches → k.coming.ready ≡ coming.ready ++ answer ∷ []
        → AsksStore (λ l bodies answers. InStream l bodies (answers ++ answer ∷ []) (record k { coming = coming }))
    store_ready answer coming same ready tree leaf records l bodies answers rest h next = elim (next_here tree leaf records l bodies answers rest h next) [
      | inl fetching ↦ absurd (not_nothing coming.ready answer (sym ready ∙ fetching.0.none_ready))
      | inr heard ↦
          let now_ready = gives_ready batches streams record_at l k bodies answers heard.0 answer coming.ready ready in
          inr (subst (λ (fs : List (List ℕ)). Heard batches streams record_at l bodies (answers ++ answer ∷ []) (record k { coming = record { fetches = fs; ready = coming.ready } })) (sym same) now_ready)
    ]

    -- the host's answers haven't been taken yet
    module _ (none : k.coming.ready ≡ []) where
      still_fetching : (tree leaf : ℕ) (records : List ℕ) (l : NearValue B E) (bodies answers rest : List (List ℕ)) → InStream l bodies answers now → drop (length answers) bodies ≡ store_body tree leaf records ∷ rest
          → (f : Fetching batches streams record_at l bodies answers k) × (f.rest ≡ []) × (0 < length f.begun.stores)
      still_fetching tree leaf records l bodies answers rest h next = elim (next_here tree leaf records l bodies answers rest h next) [
        | inl fetching ↦ fetching
        | inr heard ↦ absurd (heard.1 none)
      ]

      pub store_fault : (fault : LinkFault) (m : NearValue B E)
          → ((l : NearValue B E) (bodies answers : List (List ℕ)) (f : Fetching batches streams record_at l bodies answers k) → f.rest ≡ [] → Over l bodies answers fault m)
          → AsksStore (λ l bodies answers. Over l bodies answers fault m)
      store_fault fault m heard tree leaf records l bodies answers rest h next =
          let f = still_fetching tree leaf records l bodies answers rest h next in heard l bodies answers f.0 f.1

      module _ (m : NearValue B E)
          (heard : (l : NearValue B E) (bodies answers : List (List ℕ)) (f : Fetching batches streams record_at l bodies answers k) → f.rest ≡ []
          → Heard batches streams record_at l bodies answers m × (length m.coming.ready ≡ length f.begun.stores)) where
        pub store_lost : m.coming.ready ≡ [] → AsksStore (λ l bodies answers. ⊥)
        store_lost nothing tree leaf records l bodies answers rest h next =
            let f = still_fetching tree leaf records l bodies answers rest h next in
            let got = heard l bodies answers f.0 f.1 in
            omega (arith, f.2, got.1, ap length nothing)

        pub store_heard : (answer : List ℕ) (coming : Coming) → coming.fetches ≡ m.coming.fetches → m.coming.ready ≡ coming.ready ++ answer ∷ []
            → AsksStore (λ l bodies answers. InStream l bodies (answers ++ answer ∷ []) (record m { coming = coming }))
        store_heard answer coming same ready tree leaf records l bodies answers rest h next =
            let f = still_fetching tree leaf records l bodies answers rest h next in
            let got = heard l bodies answers f.0 f.1 in
            let now_ready = gives_ready batches streams record_at l m bodies answers got.0 answer coming.ready ready in
            inr (subst (λ (fs : List (List ℕ)). Heard batches streams record_at l bodies (answers ++ answer ∷ []) (record m { coming = record { fetches = fs; ready = coming.ready } })) (sym same) now_ready)

  -- a batch is begun
  module _ (inner : B) (empty : E) (d : Sizes) (near near' : Near) (coming : Coming) (old first last fetch_messages store_messages : List (List ℕ)) (stores : List PathRequest)
      (read : IsReadBatch d near.levels near.record_len first last fetch_messages store_messages stores) (deep : near.levels ≤ depth_of d 0) (stored : FoldsTo {P = Near} (TakesNear d) near stores near')
      (are_old : AllByRecursion (IsFarStoreBody d near.levels near.record_len) old) (front : IsFront [] old store_messages) where
    abbrev pub before : NearValue B E
    before = record { inner = inner; empty = empty; device = d; near = near; unsure = map store_in old; coming = coming }

    abbrev pub after : B → NearValue B E
    after inner' =
        record { inner = inner'; empty = empty; device = d; near = near'; unsure = map store_in store_messages; coming = record { fetches = fetch_messages; ready = [] } }

    abbrev messages : List PathRequest → List LevelsMessage
    messages requests = map (far_of d near.levels near.record_len) requests

    abbrev requests : List PathRequest
    requests = read.fetches ++ stores

    all_stores : AllByRecursion (IsFarStore d near.levels near.record_len) (messages stores)
    all_stores =
        subst (AllByRecursion (IsFarStore d near.levels near.record_len)) (stores_behind d near.levels near.record_len [] stores tt read.are_stores)
        (stores_are d near.levels near.record_len deep stores read.store_paths)

    same_stores : stores_among (messages requests) ≡ messages stores
    same_stores = stores_behind d near.levels near.record_len read.fetches stores read.are_fetches read.are_stores

    unsure_now : map store_in store_messages ≡ stores_among (messages requests)
    unsure_now = ap (map store_in) read.stores_messages ∙ all_in d near.levels near.record_len (messages stores) all_stores ∙ sym same_stores

    -- they are STOREs of levels
    pub held_now : AllByRecursion (IsFarStoreBody d near.levels near.record_len) store_messages
    held_now = subst (AllByRecursion (IsFarStoreBody d near.levels near.record_len)) (sym read.stores_messages) (bodies_are d near.levels near.record_len (messages stores) all_stores)

    sent_is : fetch_messages ++ store_messages ≡ map levels_body (messages requests)
    sent_is =
        ap (λ (bs : List (List ℕ)). bs ++ store_messages) read.fetch_messages ∙ ap (λ (bs : List (List ℕ)). map levels_body (messages read.fetches) ++ bs) read.stores_messages
        ∙ sym (map-append levels_body (messages read.fetches) (messages stores)) ∙ sym (ap (map levels_body) (map-append (far_of d near.levels near.record_len) read.fetches stores))

    again : (message : LevelsMessage) → IsOneOf message (map store_in old) → IsOneOf message (stores_among (messages requests))
    again message one = by front
      where
        by : IsFront [] old store_messages → IsOneOf message (stores_among (messages requests))
        by (inl none) = absurd (subst (λ (os : List (List ℕ)). IsOneOf message (map store_in os)) (sym none) one)
        by (inr repeated) =
            subst (IsOneOf message) (stores_behind d near.levels near.record_len [] stores tt read.are_stores ∙ sym same_stores)
            (all_again d near.levels near.record_len stores deep read.store_paths old are_old (subst (λ (s : List (List ℕ)). AreAgain s old) read.stores_messages repeated.1) message one)

    named : first ++ last ≡ map path_body requests
    named =
        ap (λ (bs : List (List ℕ)). bs ++ last) read.first_named ∙ ap (λ (bs : List (List ℕ)). map path_body read.fetches ++ bs) read.last_named
        ∙ sym (map-append path_body read.fetches stores)

    paths : AllByRecursion (IsOfDevice d near.record_len) requests
    paths = all_join (IsOfDevice d near.record_len) read.fetches stores read.fetch_paths read.store_paths

    all_stored : FoldsTo {P = Near} (TakesNear d) near requests near'
    all_stored = fetches_fold d read.fetches stores near near' read.are_fetches stored

    abbrev begun : (inner' : B) → IsBegun batches streams record_at before (first ++ last) (after inner')
    begun inner' = record {
      fetches = read.fetches;
      stores = stores;
      named = named;
      paths = paths;
      are_fetches = read.are_fetches;
      are_stores = read.are_stores;
      again = again;
      stored = all_stored;
      device = refl;
      empty = refl;
    }

    begins_so : (inner' : B) → streams inner (fetch_messages ++ store_messages) [] inner' → Fetching batches streams record_at before (first ++ last) [] (after inner')
    begins_so inner' comes = record {
      begun = begun inner';
      front = [];
      rest = read.fetches;
      split = refl;
      far = [];
      comes = subst (λ (bs : List (List ℕ)). streams inner bs [] inner') sent_is comes;
      are = (refl, refl);
      to_come = read.fetch_messages;
      none_ready = refl;
      unsure = unsure_now;
    }

    fails_so : (inner' : B) (below : List Exchange) → ((inner' ≡ inner) × (below ≡ [])) ⊎ ((o : BatchOutcome) × batches inner (map levels_body (messages requests)) o below inner')
        → BreaksOff (map levels_body (messages requests)) [] below → (exchanges : List Exchange) × NearBatches batches streams record_at before (first ++ last) (Err Closed) exchanges (after inner')
    fails_so inner' below is_sent broke = (
      store_tries Closed requests ++ [],
      (
        below,
        (
          refl,
          refl,
          inr (inr (inr (inr (record {
            requests = requests;
            named = named;
            paths = paths;
            in_order = order_is read.fetches stores read.are_fetches read.are_stores;
            again = again;
            stored = all_stored;
            sent = is_sent;
            front = [];
            rest = requests;
            split = refl;
            fetches = refl;
            answers = [];
            given = [];
            broke = broke;
            are = (refl, refl);
            unsure = unsure_now;
            fault = Closed;
            reported = refl;
            as_paths = refl;
          })))),
        ),
      ),
    )

    pub begins : AreBatches batches → (b : Bool) (inner' : B) → BeginsBatch batches streams inner (fetch_messages ++ store_messages) b inner'
        → BeginsBatch (NearBatches batches streams record_at) (Streams batches streams record_at) before (first ++ last) b (after inner')
    begins are true inner' comes = inl (begins_so inner' comes)
    begins are false inner' (inl same) =
        let all : List (List ℕ) = map levels_body (messages requests) in
        let broke = fails_so inner' [] (inl (same, refl)) (none_broke all [] tt) in
        inr (Closed, broke.0, broke.1)
    begins are false inner' (inr tried) =
        let all : List (List ℕ) = map levels_body (messages requests) in
        let batch = subst (λ (bs : List (List ℕ)). batches inner bs (Err tried.0) tried.1 inner') sent_is tried.2 in
        let broke = fails_so inner' tried.1 (inr (Err tried.0, batch)) (none_broke all tried.1 (are inner inner' all (Err tried.0) tried.1 batch)) in
        inr (Closed, broke.0, broke.1)

  -- the body that is asked for is that of a request of the device
  request_at : (d : Sizes) (len : ℕ) (all : List PathRequest) (answers : List (List ℕ)) (body : List ℕ) (rest : List (List ℕ)) → AllByRecursion (IsOfDevice d len) all
      → drop (length answers) (map path_body all) ≡ body ∷ rest → (request : PathRequest) × IsOfDevice d len request × (body ≡ path_body request)
  request_at d len [] [] body rest are is = absurd cc
  request_at d len [] (a ∷ answers) body rest are is = absurd cc
  request_at d len (r ∷ all) [] body rest are is = (r, are.0, (let same : body ≡ path_body r = cc in same))
  request_at d len (r ∷ all) (a ∷ answers) body rest are is = request_at d len all answers body rest are.1 is

  same_len : (d : Sizes) (requests : List PathRequest) (near near' : Near) → FoldsTo {P = Near} (TakesNear d) near requests near' → near'.record_len ≡ near.record_len
  same_len d [] near near' stored = ap (λ (n : Near). n.record_len) (sym stored)
  same_len d (r ∷ requests) near near' stored = same_len d requests stored.0 near' stored.2 ∙ (sizes_same d r near stored.0 stored.1).1

  module _ (k now : NearValue B E) (is : k ≡ now) where
    named_by : (l : NearValue B E) (bodies answers : List (List ℕ)) (body : List ℕ) (rest : List (List ℕ)) → IsBegun batches streams record_at l bodies k → drop (length answers) bodies ≡ body ∷ rest
        → (request : PathRequest) × IsOfDevice k.device k.near.record_len request × (body ≡ path_body request)
    named_by l bodies answers body rest b next =
        let found = request_at l.device l.near.record_len (b.fetches ++ b.stores) answers body rest b.paths (ap (drop (length answers)) (sym b.named) ∙ next) in
        let here = subst (λ (d : Sizes). IsOfDevice d l.near.record_len found.0) (sym b.device) found.1 in
        (found.0, subst (λ (n : ℕ). IsOfDevice k.device n found.0) (sym (same_len l.device (b.fetches ++ b.stores) l.near k.near b.stored)) here, found.2)

    pub asked_of_device : (body : List ℕ) (l : NearValue B E) (bodies answers rest : List (List ℕ)) → InStream l bodies answers now → drop (length answers) bodies ≡ body ∷ rest
        → (request : PathRequest) × IsOfDevice k.device k.near.record_len request × (body ≡ path_body request)
    asked_of_device body l bodies answers rest h next = elim (subst (InStream l bodies answers) (sym is) h) [
      | inl fetching ↦ named_by l bodies answers body rest fetching.begun next
      | inr heard ↦ named_by l bodies answers body rest heard.begun next
    ]
