-- The steps of a batch whose answers are taken one by one.
use Rattle.std.proofs.Common.{◌≡◌, ◌≢◌, ◌⊎◌, ℕ, ◌+◌, ◌^◌, ◌<◌, ◌≤◌, arith, true, if◌then◌else◌, List, [], ◌∷◌, ◌++◌, length, map, drop, Option, None, Ok, Err, refl, sym, ap, ◌∙◌, subst, inl, inr, append_assoc, append-nil}
use Rattle.std.specs.Int.{w32, from_be_bytes}
use Rattle.std.specs.List.{AllByRecursion, FoldsTo}
use Rattle.std.specs.Prelude.{is_some}
use Rattle.std.proofs.Math.Seq.{drop-append_seam}
use Rattle.std.proofs.lemmas.List.{length-append, length-map, map-append}
use Rattle.std.proofs.lemmas.Nat.{from_be_bytes-to_be_bytes_4}
use Rattle.oram_geometry.specs.declared.Sizes.{Sizes}
use Rattle.oram_levels.specs.Messages.{LevelsMessage, levels_body}
use Rattle.oram_wire.specs.HostMessages.{fetch_body, store_body}
use Rattle.oram_session.specs.declared.link.LinkFault.{LinkFault}
use Rattle.oram_link_laws.specs.Repair.{AreAmong}
use Rattle.oram_link_laws.specs.Runs.{Exchange, bodies_of}
use Rattle.oram_rounds.specs.Batches.{BatchOutcome, BreaksOff, answered}
use Rattle.oram_rounds.specs.Law.{AreBatches}
use Rattle.oram_rounds.specs.Streams.{EndsAsBatch}
use Rattle.oram_rounds.proofs.KeptPaths.{leaf_fits}
use Rattle.oram_near.specs.BatchExchanges.{answers_count, tries_among}
use Rattle.oram_near.specs.ComingAnswers.{Coming}
use Rattle.oram_near.specs.Completion.{ClientRecords, IsCompleted}
use Rattle.oram_near.specs.Near.{Near}
use Rattle.oram_near.specs.NearCalls.{AreAnswered, IsRefusal, NearValue, TakesNear, client_of, far_messages, only_fetches, store_answer, store_answers, store_tries, stores_among}
use Rattle.oram_near.specs.NearStreams.{IsBegun, IsFetch, IsFetching, IsHeard, IsStore, NearBatches, NearStreams, sent_below}
use Rattle.oram_near.specs.PathRequests.{FetchPath, IsOfDevice, PathRequest, StorePath, far_of, path_body}
use Rattle.oram_near.specs.StreamsEnd.{host_count, none_stored, order_is}
use Rattle.oram_near.proofs.HeardAnswers.{whole_broke}
use Rattle.oram_near.proofs.RequestLists.{all_first, all_second, answered_more, store_answers-append}

-- two FETCHes with one body are one
pub same_fetch : (t x tree leaf : ℕ) → x < 2 ^ 32 → leaf < 2 ^ 32 → fetch_body t x ≡ fetch_body tree leaf → (t ≡ tree) × (x ≡ leaf)
same_fetch t x tree leaf fits other is = (
  ap (λ (b : List ℕ). get b) is,
  sym (from_be_bytes-to_be_bytes_4 x fits) ∙ ap (λ (b : List ℕ). from_be_bytes w32 (drop 2 b)) is ∙ from_be_bytes-to_be_bytes_4 leaf other,
)
  where
    get : List ℕ → ℕ
    get [] = 0
    get (op ∷ []) = 0
    get (op ∷ b ∷ bytes) = b

abbrev op_of : List (List ℕ) → ℕ
op_of [] = 0
op_of ([] ∷ bodies) = 0
op_of ((op ∷ bytes) ∷ bodies) = op

-- The next request is a FETCH: so it is one of those that weren't answered yet.
pub head_fetch : (d : Sizes) (len : ℕ) (rest stores : List PathRequest) (tree leaf : ℕ) (more : List (List ℕ)) → AllByRecursion IsStore stores → AllByRecursion (IsOfDevice d len) rest → leaf < 2 ^ 32
    → map path_body (rest ++ stores) ≡ fetch_body tree leaf ∷ more → (later : List PathRequest) × (rest ≡ FetchPath tree leaf ∷ later)
head_fetch d len [] [] tree leaf more store are fits is = absurd cc
head_fetch d len [] (FetchPath t x ∷ stores) tree leaf more store are fits is = absurd store.0
head_fetch d len [] (StorePath t x records ∷ stores) tree leaf more store are fits is = absurd (let ops : 2 ≡ 1 = ap op_of is in omega (arith, ops))
head_fetch d len (StorePath t x records ∷ rest) stores tree leaf more store are fits is = absurd (let ops : 2 ≡ 1 = ap op_of is in omega (arith, ops))
head_fetch d len (FetchPath t x ∷ rest) stores tree leaf more store are fits is =
    let one : fetch_body t x ≡ fetch_body tree leaf = cc in
    let same = same_fetch t x tree leaf (leaf_fits d t x are.0.1) fits one in
    (rest, ap (λ (n : ℕ). FetchPath n x ∷ rest) same.0 ∙ ap (λ (n : ℕ). FetchPath tree n ∷ rest) same.1)

-- The next request is a STORE: so all FETCHes were answered.
pub head_store : (rest stores : List PathRequest) (tree leaf : ℕ) (records : List ℕ) (more : List (List ℕ)) → AllByRecursion IsFetch rest
    → map path_body (rest ++ stores) ≡ store_body tree leaf records ∷ more → (rest ≡ []) × (0 < length stores)
head_store [] [] tree leaf records more fetch is = absurd cc
head_store [] (s ∷ stores) tree leaf records more fetch is = (refl, omega arith)
head_store (FetchPath t x ∷ rest) stores tree leaf records more fetch is = absurd (let ops : 1 ≡ 2 = ap op_of is in omega (arith, ops))
head_store (StorePath t x bytes ∷ rest) stores tree leaf records more fetch is = absurd fetch.0

no_fetch : (stores : List PathRequest) (answers : List (List ℕ)) (tree leaf : ℕ) (more : List (List ℕ)) → AllByRecursion IsStore stores → drop (length answers) (map path_body stores) ≡ fetch_body tree leaf ∷ more → ⊥
no_fetch [] [] tree leaf more store is = absurd cc
no_fetch [] (a ∷ answers) tree leaf more store is = absurd cc
no_fetch (FetchPath t x ∷ stores) answers tree leaf more store is = store.0
no_fetch (StorePath t x records ∷ stores) [] tree leaf more store is = let ops : 2 ≡ 1 = ap op_of is in omega (arith, ops)
no_fetch (StorePath t x records ∷ stores) (a ∷ answers) tree leaf more store is = no_fetch stores answers tree leaf more store.1 is

-- once all FETCHes are answered, no FETCH comes next
pub past_all : (fetches stores : List PathRequest) (answers : List (List ℕ)) (tree leaf : ℕ) (more : List (List ℕ)) → AllByRecursion IsStore stores → length fetches ≤ length answers
    → drop (length answers) (map path_body (fetches ++ stores)) ≡ fetch_body tree leaf ∷ more → ⊥
past_all [] stores answers tree leaf more store past is = no_fetch stores answers tree leaf more store is
past_all (f ∷ fetches) stores [] tree leaf more store past is = absurd (omega (arith, past))
past_all (f ∷ fetches) stores (a ∷ answers) tree leaf more store past is = past_all fetches stores answers tree leaf more store (omega (arith, past)) is

-- the bodies behind the first requests
pub behind_front : {X : Type 0} (f : X → List ℕ) (front more : List X) → drop (length front) (map f (front ++ more)) ≡ map f more
behind_front f front more =
    ap (λ (n : ℕ). drop n (map f (front ++ more))) (sym (length-map front f)) ∙ ap (drop (length (map f front))) (map-append f front more) ∙ drop-append_seam (map f front) (map f more)

pub some_left : (bodies answers : List (List ℕ)) (body : List ℕ) (rest : List (List ℕ)) → drop (length answers) bodies ≡ body ∷ rest → length answers < length bodies
some_left [] [] body rest is = absurd cc
some_left [] (a ∷ answers) body rest is = absurd cc
some_left (b ∷ bodies) [] body rest is = omega arith
some_left (b ∷ bodies) (a ∷ answers) body rest is = omega (arith, some_left bodies answers body rest is)

only_so : (front : List PathRequest) → AllByRecursion IsFetch front → only_fetches front ≡ true
only_so [] fetch = refl
only_so (FetchPath tree leaf ∷ front) fetch = only_so front fetch.1
only_so (StorePath tree leaf records ∷ front) fetch = absurd fetch.0

pub answered_front : (xs ys given : List (List ℕ)) → length given ≡ length xs → answered (xs ++ ys) given ≡ answered xs given
answered_front [] [] [] same = refl
answered_front [] (y ∷ ys) [] same = refl
answered_front [] ys (g ∷ given) same = absurd (omega (arith, same))
answered_front (x ∷ xs) ys [] same = absurd (omega (arith, same))
answered_front (x ∷ xs) ys (g ∷ given) same = ap (λ (es : List Exchange). (x, Ok g) ∷ es) (answered_front xs ys given (omega (arith, same)))

-- what FETCHes are given is the same whatever is refused
fetched_any : (c : ClientRecords) (refusal : Option (List ℕ)) (rs : List PathRequest) (xs given : List (List ℕ)) → AllByRecursion IsFetch rs → AreAnswered c None rs xs given → AreAnswered c refusal rs xs given
fetched_any c refusal [] xs given fetch are = are
fetched_any c refusal (r ∷ rs) [] given fetch are = are
fetched_any c refusal (r ∷ rs) (x ∷ xs) [] fetch are = are
fetched_any c refusal (FetchPath tree leaf ∷ rs) (x ∷ xs) (g ∷ given) fetch are = (are.0, fetched_any c refusal rs xs given fetch.1 are.1)
fetched_any c refusal (StorePath tree leaf records ∷ rs) (x ∷ xs) (g ∷ given) fetch are = absurd fetch.0

stores_given : (c : ClientRecords) (refusal : Option (List ℕ)) (rs : List PathRequest) (xs given : List (List ℕ)) → AllByRecursion IsStore rs → length xs ≡ length rs → length given ≡ length rs
    → AllByRecursion (λ answer. answer ≡ store_answer refusal) given → AreAnswered c refusal rs xs given
stores_given c refusal [] [] [] store count same are = (refl, refl)
stores_given c refusal [] [] (g ∷ given) store count same are = absurd (omega (arith, same))
stores_given c refusal [] (x ∷ xs) given store count same are = absurd (omega (arith, count))
stores_given c refusal (r ∷ rs) [] given store count same are = absurd (omega (arith, count))
stores_given c refusal (r ∷ rs) (x ∷ xs) [] store count same are = absurd (omega (arith, same))
stores_given c refusal (FetchPath tree leaf ∷ rs) (x ∷ xs) (g ∷ given) store count same are = absurd store.0
stores_given c refusal (StorePath tree leaf records ∷ rs) (x ∷ xs) (g ∷ given) store count same are =
    (are.0, stores_given c refusal rs xs given store.1 (omega (arith, count)) (omega (arith, same)) are.1)

answered_both : (c : ClientRecords) (refusal : Option (List ℕ)) (rs more : List PathRequest) (xs ys given later : List (List ℕ)) → AreAnswered c refusal rs xs given → AreAnswered c refusal more ys later
    → AreAnswered c refusal (rs ++ more) (xs ++ ys) (given ++ later)
answered_both c refusal [] more xs ys given later are behind =
    subst (λ (as' : List (List ℕ)). AreAnswered c refusal more (as' ++ ys) (given ++ later)) (sym are.0) (subst (λ (gs : List (List ℕ)). AreAnswered c refusal more ys (gs ++ later)) (sym are.1) behind)
answered_both c refusal (r ∷ rs) more [] ys given later are behind = absurd are
answered_both c refusal (r ∷ rs) more (x ∷ xs) ys [] later are behind = absurd are
answered_both c refusal (r ∷ rs) more (x ∷ xs) ys (g ∷ given) later are behind = (are.0, answered_both c refusal rs more xs ys given later are.1 behind)

all_stored : (rs : List PathRequest) (xs : List (List ℕ)) → AllByRecursion IsStore rs → length xs ≡ length rs → store_answers rs xs ≡ xs
all_stored [] [] store count = refl
all_stored [] (x ∷ xs) store count = absurd (omega (arith, count))
all_stored (r ∷ rs) [] store count = absurd (omega (arith, count))
all_stored (FetchPath tree leaf ∷ rs) (x ∷ xs) store count = absurd store.0
all_stored (StorePath tree leaf records ∷ rs) (x ∷ xs) store count = ap (λ (ys : List (List ℕ)). x ∷ ys) (all_stored rs xs store.1 (omega (arith, count)))

-- answers that are all the same may be taken from the end
last_first : (a x : List ℕ) (xs : List (List ℕ)) → AllByRecursion (λ y. y ≡ a) (xs ++ x ∷ []) → (xs ++ x ∷ [] ≡ x ∷ xs) × AllByRecursion (λ y. y ≡ a) xs × (x ≡ a)
last_first a x [] are = (refl, tt, are.0)
last_first a x (y ∷ xs) are =
    let rest = last_first a x xs are.1 in
    (ap (λ (ys : List (List ℕ)). y ∷ ys) rest.0 ∙ ap (λ (z : List ℕ). z ∷ x ∷ xs) (are.0 ∙ sym rest.2) ∙ ap (λ (z : List ℕ). x ∷ z ∷ xs) (rest.2 ∙ sym are.0), (are.0, rest.1), rest.2)

module _ (d : Sizes) (levels len : ℕ) where
  -- the STOREs of levels in a batch of FETCHes and STOREs are those for its STOREs
  pub stores_behind : (fetches stores : List PathRequest) → AllByRecursion IsFetch fetches → AllByRecursion IsStore stores
      → stores_among (map (far_of d levels len) (fetches ++ stores)) ≡ map (far_of d levels len) stores
  stores_behind [] [] fetch store = refl
  stores_behind [] (FetchPath tree leaf ∷ stores) fetch store = absurd store.0
  stores_behind [] (StorePath tree leaf records ∷ stores) fetch store =
      ap (λ (ms : List LevelsMessage). far_of d levels len (StorePath tree leaf records) ∷ ms) (stores_behind [] stores tt store.1)
  stores_behind (FetchPath tree leaf ∷ fetches) stores fetch store = stores_behind fetches stores fetch.1 store
  stores_behind (StorePath tree leaf records ∷ fetches) stores fetch store = absurd fetch.0

-- FETCHes change no near record
pub fetches_fold : (d : Sizes) (fetches stores : List PathRequest) (near near' : Near) → AllByRecursion IsFetch fetches → FoldsTo {P = Near} (TakesNear d) near stores near'
    → FoldsTo {P = Near} (TakesNear d) near (fetches ++ stores) near'
fetches_fold d [] stores near near' fetch stored = stored
fetches_fold d (FetchPath tree leaf ∷ fetches) stores near near' fetch stored = (near, refl, fetches_fold d fetches stores near near' fetch.1 stored)
fetches_fold d (StorePath tree leaf records ∷ fetches) stores near near' fetch stored = absurd fetch.0

module _ {B E : Type 0} (batches : B → List (List ℕ) → BatchOutcome → List Exchange → B → Type 0) (streams : B → List (List ℕ) → List (List ℕ) → B → Type 0) (record_at : E → ℕ → ℕ → ℕ → List ℕ) where
  abbrev Far : NearValue B E → List PathRequest → List LevelsMessage
  Far l requests = far_messages batches record_at l requests

  abbrev pub Fetching : NearValue B E → List (List ℕ) → List (List ℕ) → NearValue B E → Type 0
  Fetching l bodies answers k = IsFetching batches streams record_at l bodies answers k

  abbrev pub Heard : NearValue B E → List (List ℕ) → List (List ℕ) → NearValue B E → Type 0
  Heard l bodies answers k = IsHeard batches streams record_at l bodies answers k

  abbrev pub Streams : NearValue B E → List (List ℕ) → List (List ℕ) → NearValue B E → Type 0
  Streams l bodies answers k = NearStreams batches streams record_at l bodies answers k

  -- the batch has broken off
  abbrev pub Stopped : NearValue B E → List (List ℕ) → List (List ℕ) → LinkFault → NearValue B E → Type 0
  Stopped l bodies answers fault m = (exchanges : List Exchange) × NearBatches batches streams record_at l bodies (Err fault) exchanges m × BreaksOff bodies answers exchanges

  -- and the one below
  abbrev pub StoppedBelow : B → List (List ℕ) → List (List ℕ) → B → Type 0
  StoppedBelow inner sent far inner' = (o : BatchOutcome) × (exchanges : List Exchange) × batches inner sent o exchanges inner' × BreaksOff sent far exchanges

  abbrev pub moved : NearValue B E → B → Coming → NearValue B E
  moved k inner coming = record k { inner = inner; coming = coming }

  module _ (l k : NearValue B E) (bodies answers : List (List ℕ)) where
    abbrev begun_moved : (m : NearValue B E) → m.near ≡ k.near → m.device ≡ k.device → m.empty ≡ k.empty → IsBegun batches streams record_at l bodies k → IsBegun batches streams record_at l bodies m
    begun_moved m near device empty b = record {
      fetches = b.fetches;
      stores = b.stores;
      named = b.named;
      paths = b.paths;
      are_fetches = b.are_fetches;
      are_stores = b.are_stores;
      again = b.again;
      stored = subst (λ (n : Near). FoldsTo {P = Near} (TakesNear l.device) l.near (b.fetches ++ b.stores) n) (sym near) b.stored;
      device = device ∙ b.device;
      empty = empty ∙ b.empty;
    }

    -- of a batch some of whose FETCHes have been answered
    module _ (f : Fetching l bodies answers k) where
      abbrev requests : List PathRequest
      requests = f.begun.fetches ++ f.begun.stores

      abbrev pub sent : List (List ℕ)
      sent = sent_below batches streams record_at l bodies k f.begun

      fetch_front : AllByRecursion IsFetch f.front
      fetch_front = all_first IsFetch f.front f.rest (subst (AllByRecursion IsFetch) f.split f.begun.are_fetches)

      fetch_rest : AllByRecursion IsFetch f.rest
      fetch_rest = all_second IsFetch f.front f.rest (subst (AllByRecursion IsFetch) f.split f.begun.are_fetches)

      split_all : requests ≡ f.front ++ (f.rest ++ f.begun.stores)
      split_all = ap (λ (rs : List PathRequest). rs ++ f.begun.stores) f.split ∙ append_assoc f.front f.rest f.begun.stores

      given_count : length answers ≡ length f.front
      given_count = answers_count (client_of record_at k) None f.front f.far answers f.are

      far_count : length f.far ≡ length f.front
      far_count = host_count (client_of record_at k) None f.front f.far answers f.are

      -- the bodies that come next
      pub next_bodies : drop (length answers) bodies ≡ map path_body (f.rest ++ f.begun.stores)
      next_bodies =
          ap (λ (n : ℕ). drop n bodies) given_count ∙ ap (drop (length f.front)) (f.begun.named ∙ ap (map path_body) split_all)
          ∙ behind_front path_body f.front (f.rest ++ f.begun.stores)

      pub next_sent : drop (length f.far) sent ≡ map levels_body (Far l (f.rest ++ f.begun.stores))
      next_sent =
          ap (λ (n : ℕ). drop n sent) far_count ∙ ap (λ (rs : List PathRequest). drop (length f.front) (map levels_body (Far l rs))) split_all
          ∙ by_parts f.front (f.rest ++ f.begun.stores)
        where
          by_parts : (front more : List PathRequest) → drop (length front) (map levels_body (Far l (front ++ more))) ≡ map levels_body (Far l more)
          by_parts front more =
              ap (λ (n : ℕ). drop n (map levels_body (Far l (front ++ more)))) (sym (length-map front (far_of l.device l.near.levels l.near.record_len)))
              ∙ ap (λ (ms : List LevelsMessage). drop (length (Far l front)) (map levels_body ms)) (map-append (far_of l.device l.near.levels l.near.record_len) front more)
              ∙ behind_front levels_body (Far l front) (Far l more)

      pub unsure_is : k.unsure ≡ Far l f.begun.stores
      unsure_is = f.unsure ∙ stores_behind l.device l.near.levels l.near.record_len f.begun.fetches f.begun.stores f.begun.are_fetches f.begun.are_stores

      rest_paths : AllByRecursion (IsOfDevice l.device l.near.record_len) f.rest
      rest_paths =
          all_first (IsOfDevice l.device l.near.record_len) f.rest f.begun.stores
          (all_second (IsOfDevice l.device l.near.record_len) f.front (f.rest ++ f.begun.stores) (subst (AllByRecursion (IsOfDevice l.device l.near.record_len)) split_all f.begun.paths))

      -- it breaks off
      pub stops : (inner : B) (coming : Coming) (fault : LinkFault) → StoppedBelow l.inner sent f.far inner → Stopped l bodies answers fault (moved k inner coming)
      stops inner coming fault below =
          let exchanges : List Exchange = store_tries fault requests ++ answered (map path_body f.front) answers in
          let b = f.begun in
          let front_is : answered bodies answers ≡ answered (map path_body f.front) answers =
          ap (λ (bs : List (List ℕ)). answered bs answers) (b.named ∙ ap (map path_body) split_all ∙ map-append path_body f.front (f.rest ++ b.stores))
          ∙ answered_front (map path_body f.front) (map path_body (f.rest ++ b.stores)) answers (given_count ∙ sym (length-map f.front path_body)) in (
            exchanges,
            (
              below.1,
              (
                b.device,
                b.empty,
                inr (inr (inr (inr (record {
                  requests = requests;
                  named = b.named;
                  paths = b.paths;
                  in_order = order_is b.fetches b.stores b.are_fetches b.are_stores;
                  again = b.again;
                  stored = b.stored;
                  sent = inr (below.0, below.2);
                  front = f.front;
                  rest = f.rest ++ b.stores;
                  split = split_all;
                  fetches = only_so f.front fetch_front;
                  answers = f.far;
                  given = answers;
                  broke = below.3;
                  are = f.are;
                  unsure = f.unsure;
                  fault = fault;
                  reported = refl;
                  as_paths = refl;
                })))),
              ),
            ),
            (
              store_tries fault requests,
              [],
              subst (λ (bs : List (List ℕ)). AreAmong (bodies_of (store_tries fault requests)) bs) (sym b.named) (tries_among fault requests),
              tt,
              ap (λ (es : List Exchange). store_tries fault requests ++ es) (sym front_is) ∙ sym (append-nil (store_tries fault requests ++ answered bodies answers)),
            ),
          )

      -- the next FETCH is answered
      pub fetched : (inner : B) (tree leaf : ℕ) (later : List PathRequest) (answer given : List ℕ) → f.rest ≡ FetchPath tree leaf ∷ later → streams l.inner sent (f.far ++ answer ∷ []) inner
          → IsCompleted (client_of record_at k) tree leaf answer given → Fetching l bodies (answers ++ given ∷ []) (moved k inner (record { fetches = drop 1 k.coming.fetches; ready = k.coming.ready }))
      fetched inner tree leaf later answer given next comes completed =
          let m : NearValue B E = moved k inner (record { fetches = drop 1 k.coming.fetches; ready = k.coming.ready }) in
          record {
            begun = begun_moved m refl refl refl f.begun;
            front = f.front ++ FetchPath tree leaf ∷ [];
            rest = later;
            split = f.split ∙ ap (λ (rs : List PathRequest). f.front ++ rs) next ∙ sym (append_assoc f.front (FetchPath tree leaf ∷ []) later);
            far = f.far ++ answer ∷ [];
            comes = comes;
            are = answered_more (client_of record_at k) None f.front f.far answers (FetchPath tree leaf) answer given f.are completed;
            to_come = ap (drop 1) (f.to_come ∙ ap (λ (rs : List PathRequest). map levels_body (Far l rs)) next);
            none_ready = f.none_ready;
            unsure = f.unsure;
          }

      -- of a batch all of whose FETCHes were answered, now that the host has answered the STOREs too
      module _ (none : f.rest ≡ []) (inner : B) (more : List (List ℕ)) (count : length more ≡ length f.begun.stores) (ends : EndsAsBatch batches streams) (comes : streams l.inner sent (f.far ++ more) inner) where
        is_front : f.begun.fetches ≡ f.front
        is_front = f.split ∙ ap (λ (rs : List PathRequest). f.front ++ rs) none ∙ append-nil f.front

        fetch_count : length f.begun.fetches ≡ length f.far
        fetch_count = ap length is_front ∙ sym far_count

        ended : (exchanges : List Exchange) × batches l.inner sent (Ok (f.far ++ more)) exchanges inner
        ended =
            ends l.inner inner sent (f.far ++ more) comes
            (length-append f.far more ∙ (let e : length f.far + length more ≡ length f.begun.fetches + length f.begun.stores = omega (arith, fetch_count, count) in e)
            ∙ sym (length-append f.begun.fetches f.begun.stores) ∙ sym (length-map requests (far_of l.device l.near.levels l.near.record_len)) ∙ sym (length-map (Far l requests) levels_body))

        pub starves : AreBatches batches → (coming : Coming) (fault : LinkFault) → Stopped l bodies answers fault (moved k inner coming)
        starves are coming fault =
            stops inner coming fault
            (Ok (f.far ++ more), ended.0, ended.1, whole_broke sent f.far more ended.0 (are l.inner inner sent (Ok (f.far ++ more)) ended.0 ended.1))

        pub hears : (refusal : Option (List ℕ)) (ready : List (List ℕ)) → IsRefusal more refusal → length ready ≡ length f.begun.stores → AllByRecursion (λ answer. answer ≡ store_answer refusal) ready
            → Heard l bodies answers (record k { inner = inner; coming = record { fetches = k.coming.fetches; ready = ready }; unsure = (if is_some refusal then k.unsure else []) })
        hears refusal ready refused long same =
            let m : NearValue B E = record k { inner = inner; coming = record { fetches = k.coming.fetches; ready = ready }; unsure = (if is_some refusal then k.unsure else []) } in
            let b = f.begun in
            let stores : List LevelsMessage = stores_among (Far l requests) in
            let client : ClientRecords = client_of record_at (record k { unsure = stores }) in
            let given : AreAnswered client None f.front f.far answers = subst (λ (u : List LevelsMessage). AreAnswered (client_of record_at (record k { unsure = u })) None f.front f.far answers) f.unsure f.are in
            let fetched : AreAnswered client refusal b.fetches f.far answers =
            subst (λ (rs : List PathRequest). AreAnswered client refusal rs f.far answers) (sym is_front) (fetched_any client refusal f.front f.far answers fetch_front given) in
            let answers_are : store_answers requests (f.far ++ more) ≡ more =
            store_answers-append b.fetches b.stores f.far more fetch_count ∙ ap (λ (xs : List (List ℕ)). xs ++ store_answers b.stores more) (none_stored b.fetches f.far b.are_fetches)
            ∙ all_stored b.stores more b.are_stores count in
            record {
              begun = begun_moved m refl refl refl b;
              far = f.far ++ more;
              below = ended.0;
              sent = ended.1;
              refusal = refusal;
              refused = subst (λ (xs : List (List ℕ)). IsRefusal xs refusal) (sym answers_are) refused;
              are = answered_both client refusal b.fetches b.stores f.far more answers ready fetched (stores_given client refusal b.stores more ready b.are_stores count long same);
              ready = same;
              past = omega (arith, ap length is_front, given_count);
              unsure = ap (λ (u : List LevelsMessage). if is_some refusal then u else []) f.unsure;
            }

    -- one of the answers to the STOREs is given
    pub gives_ready : (s : Heard l bodies answers k) (answer : List ℕ) (ready : List (List ℕ)) → k.coming.ready ≡ ready ++ answer ∷ []
        → Heard l bodies (answers ++ answer ∷ []) (record k { coming = record { fetches = k.coming.fetches; ready = ready } })
    gives_ready s answer ready is =
        let m : NearValue B E = record k { coming = record { fetches = k.coming.fetches; ready = ready } } in
        let b = s.begun in
        let all : List PathRequest = b.fetches ++ b.stores in
        let client : ClientRecords = client_of record_at (record k { unsure = stores_among (Far l all) }) in
        let last = last_first (store_answer s.refusal) answer ready (subst (AllByRecursion (λ y. y ≡ store_answer s.refusal)) is s.ready) in
        let order : answers ++ k.coming.ready ≡ (answers ++ answer ∷ []) ++ ready =
        ap (λ (xs : List (List ℕ)). answers ++ xs) (is ∙ last.0) ∙ sym (append_assoc answers (answer ∷ []) ready) in
        record {
          begun = begun_moved m refl refl refl b;
          far = s.far;
          below = s.below;
          sent = s.sent;
          refusal = s.refusal;
          refused = s.refused;
          are = subst (AreAnswered client s.refusal all s.far) order s.are;
          ready = last.1;
          past = omega (arith, s.past, length-append answers (answer ∷ []));
          unsure = s.unsure;
        }

    -- which FETCH comes next
    pub fetch_next : (tree leaf : ℕ) (rest : List (List ℕ)) → leaf < 2 ^ 32 → Streams l bodies answers k → drop (length answers) bodies ≡ fetch_body tree leaf ∷ rest
        → (f : Fetching l bodies answers k) × (later : List PathRequest) × (f.rest ≡ FetchPath tree leaf ∷ later)
    fetch_next tree leaf rest fits (inl f) next =
        let found = head_fetch l.device l.near.record_len f.rest f.begun.stores tree leaf rest f.begun.are_stores (rest_paths f) fits (sym (next_bodies f) ∙ next) in (f, found.0, found.1)
    fetch_next tree leaf rest fits (inr s) next =
        absurd (past_all s.begun.fetches s.begun.stores answers tree leaf rest s.begun.are_stores s.past (ap (drop (length answers)) (sym s.begun.named) ∙ next))

    -- a STORE comes next: the host's answers to the STOREs haven't been taken yet, or the STORE's answer is ready
    pub store_next : (tree leaf : ℕ) (records : List ℕ) (rest : List (List ℕ)) → Streams l bodies answers k → drop (length answers) bodies ≡ store_body tree leaf records ∷ rest
        → ((f : Fetching l bodies answers k) × (f.rest ≡ []) × (0 < length f.begun.stores)) ⊎ (Heard l bodies answers k × (k.coming.ready ≢ []))
    store_next tree leaf records rest (inl f) next =
        let found = head_store f.rest f.begun.stores tree leaf records rest (fetch_rest f) (sym (next_bodies f) ∙ next) in inl (f, found.0, found.1)
    store_next tree leaf records rest (inr s) next =
        let all : List PathRequest = s.begun.fetches ++ s.begun.stores in
        let count = answers_count (client_of record_at (record k { unsure = stores_among (Far l all) })) s.refusal all s.far (answers ++ k.coming.ready) s.are in
        let named : length bodies ≡ length all = ap length s.begun.named ∙ length-map all path_body in
        inr (s, λ none. omega (arith, some_left bodies answers (store_body tree leaf records) rest next, count, named, length-append answers k.coming.ready, ap length none))
