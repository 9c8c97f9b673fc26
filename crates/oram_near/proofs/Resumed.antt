-- The next process: what its link completes.
use Rattle.std.proofs.Common.{◌≡◌, ℕ, ◌≤◌, Bool, List, [], ◌∷◌, ◌++◌, map, Option, unwrap_or, refl, sym, ap, ◌∙◌, subst, inl, inr}
use Rattle.std.specs.List.{AllByRecursion}
use Rattle.std.proofs.lemmas.Bool.{cases_lt}
use Rattle.oram_geometry.specs.Sizes.{depth_of}
use Rattle.oram_geometry.specs.declared.Sizes.{Sizes}
use Rattle.oram_host.specs.Host.{Host}
use Rattle.oram_host.specs.Path.{node_on as host_node}
use Rattle.oram_host.specs.Swaps.{stored_at}
use Rattle.oram_levels.specs.Messages.{FetchLevels, LevelsMessage, StoreLevels, levels_body}
use Rattle.oram_semantics.specs.Scheme.{Scheme, record_len}
use Rattle.oram_session.specs.Outcome.{Outcome}
use Rattle.oram_session.specs.declared.link.LinkFault.TheVariants.{Closed}
use Rattle.oram_link_laws.specs.Runs.{Exchange, bodies_of}
use Rattle.oram_rounds.specs.CatchUp.{PlainRun, left_by as records_left}
use Rattle.oram_near.specs.ComingAnswers.{Coming}
use Rattle.oram_near.specs.Completion.{ClientRecords, left_by}
use Rattle.oram_near.specs.Law.{AreWhole, CompletesHost, HaveSameRecords, IsBodyOf, IsFetchOrOneOf, ResumesPaths}
use Rattle.oram_near.specs.LevelsHost.{IsLevelsCall, LevelsRun}
use Rattle.oram_near.specs.Near.{Near}
use Rattle.oram_near.specs.NearCalls.{FitsTogether, IsOneOf, NearValue, TakesUnsure, client_of, store_tries, stores_among}
use Rattle.oram_near.specs.PathRequests.{IsFarStore, IsOfDevice, PathRequest, far_of, first_far}
use Rattle.oram_near.proofs.FarAnswers.{received_or_not}
use Rattle.oram_near.proofs.FarHeard.{fetch_heard, heard}
use Rattle.oram_near.proofs.Kernel.{absorbed, left_append, of_one}
use Rattle.oram_near.proofs.PathHost.{store_bodies, tried}
use Rattle.oram_near.proofs.Paths.{whole_far, whole_near}
use Rattle.oram_near.proofs.Sent.{stores_are}

-- STOREs that are among later ones make no difference
all_absorbed : (d : Sizes) (len tree leaf level : ℕ) (front stores : List LevelsMessage) → ((m : LevelsMessage) → IsOneOf m front → IsOneOf m stores) → (old : Option (List ℕ))
    → left_by d len tree leaf level stores (left_by d len tree leaf level front old) ≡ left_by d len tree leaf level stores old
all_absorbed d len tree leaf level [] stores inside old = refl
all_absorbed d len tree leaf level (m ∷ front) stores inside old =
    all_absorbed d len tree leaf level front stores (λ n one. inside n (inr one)) _ ∙ absorbed d len tree leaf level m stores old (inside m (inl refl))

module _ (v : Scheme) (near : Near) (empty : ℕ → ℕ → ℕ → List ℕ) (r : ℕ → ℕ → List ℕ) where
  abbrev client : List LevelsMessage → ClientRecords
  client unsure = record { device = v.device; near = near; unsure = unsure; empty = empty }

  pub without_old : (front stores : List LevelsMessage) (host : Host) → ((m : LevelsMessage) → IsOneOf m front → IsOneOf m stores) → AreWhole v (client (front ++ stores)) host r → AreWhole v (client stores) host r
  without_old front stores host inside w = record {
    has = w.has;
    long = w.long;
    each = λ tree leaf level tree_in leaf_in within.
        let there : Option (List ℕ) = stored_at host tree (host_node (depth_of v.device tree) leaf level) in
        w.each tree leaf level tree_in leaf_in within ∙ elim (cases_lt level (first_far near.levels tree)) [
          | inl near_level ↦ whole_near (client (front ++ stores)) tree leaf level there near_level ∙ sym (whole_near (client stores) tree leaf level there near_level)
          | inr low ↦
              whole_far (client (front ++ stores)) tree leaf level there low
              ∙ ap (λ (o : Option (List ℕ)). unwrap_or o (empty tree leaf level))
              (left_append v.device near.record_len tree leaf level front stores there ∙ all_absorbed v.device near.record_len tree leaf level front stores inside there)
              ∙ sym (whole_far (client stores) tree leaf level there low)
        ];
  }

  module _ (same_len : near.record_len ≡ record_len v) (shallow : near.levels ≤ depth_of v.device 0) (may_lie : Bool) (stores : List LevelsMessage)
      (are_stores : AllByRecursion (IsFarStore v.device near.levels (record_len v)) stores) where
    -- the host received a message, or it was lost
    one_heard : (host after : Host) (m : LevelsMessage) (o : Outcome) → IsFetchOrOneOf stores m → IsLevelsCall v empty may_lie host (levels_body m) o after → AreWhole v (client stores) host r
        → AreWhole v (client stores) after r
    one_heard host after (FetchLevels t f last l) o fits call w = elim (received_or_not v near.levels shallow empty may_lie host after (levels_body (FetchLevels t f last l)) o call) [
      | inl same ↦ subst (λ (h : Host). AreWhole v (client stores) h r) (sym same) w
      | inr got ↦ fetch_heard v (client stores) refl same_len r host after t f last l got.0 fits got.1 w
    ]
    one_heard host after (StoreLevels t f l records) o one call w = elim (received_or_not v near.levels shallow empty may_lie host after (levels_body (StoreLevels t f l records)) o call) [
      | inl same ↦ subst (λ (h : Host). AreWhole v (client stores) h r) (sym same) w
      | inr got ↦
          heard v (client stores) refl same_len r host after (StoreLevels t f l records) got.0
          (of_one (IsFarStore v.device near.levels (record_len v)) (StoreLevels t f l records) stores are_stores one) one got.1 w
    ]

    all_heard : (exchanges : List Exchange) (host after : Host) → AllByRecursion (IsBodyOf stores) (bodies_of exchanges) → LevelsRun v empty may_lie host exchanges after → AreWhole v (client stores) host r
        → AreWhole v (client stores) after r
    all_heard [] host after are run w = subst (λ (h : Host). AreWhole v (client stores) h r) run w
    all_heard (e ∷ exchanges) host after are run w =
        let call = subst (λ (b : List ℕ). IsLevelsCall v empty may_lie host b e.1 run.0) are.0.2 run.1 in
        all_heard exchanges run.0 after are.1 run.2 (one_heard host run.0 are.0.0 e.1 are.0.1 call w)

-- the client's records with another note
same_records : (v : Scheme) (c d : ClientRecords) (far : Host) (r : ℕ → ℕ → List ℕ) → HaveSameRecords c d → AreWhole v c far r → AreWhole v (record d { unsure = c.unsure }) far r
same_records v c d far r same w =
    let noted : AreWhole v (record c { near = record c.near { noted = d.near.noted } }) far r = record { has = w.has; long = w.long; each = w.each } in
    let make = λ (device : Sizes) (levels len : ℕ) (bytes : List ℕ) (empty : ℕ → ℕ → ℕ → List ℕ).
    (let x : ClientRecords = record { device = device; near = record { levels = levels; record_len = len; bytes = bytes; noted = d.near.noted }; unsure = c.unsure; empty = empty } in AreWhole v x far r) in
    subst (λ (e : ℕ → ℕ → ℕ → List ℕ). make d.device d.near.levels d.near.record_len d.near.bytes e) (sym same.empty)
    (subst (λ (b : List ℕ). make d.device d.near.levels d.near.record_len b c.empty) (sym same.bytes)
    (subst (λ (n : ℕ). make d.device d.near.levels n c.near.bytes c.empty) (sym same.record_len)
    (subst (λ (n : ℕ). make d.device n c.near.record_len c.near.bytes c.empty) (sym same.levels)
    (subst (λ (s : Sizes). make s c.near.levels c.near.record_len c.near.bytes c.empty) (sym same.device) noted))))

module _ {B E : Type 0} (record_at : E → ℕ → ℕ → ℕ → List ℕ) (device_of : E → Sizes) (len_of : E → ℕ) (may_lie : Bool) (v : Scheme) (c : ClientRecords) (m : NearValue B E) (bodies : List (List ℕ))
    (below : List Exchange) (far after whole : Host) where
  abbrev Claim : NearValue B E → Type 0
  Claim l = l.near.record_len ≡ record_len v → FitsTogether device_of len_of l → HaveSameRecords c (client_of record_at l) → (takes : TakesUnsure l bodies m)
      → LevelsRun v (record_at l.empty) may_lie far below after
      → (later : Host) × PlainRun may_lie v whole (store_tries Closed takes.requests) later × CompletesHost v (client_of record_at m) after later × FitsTogether device_of len_of m

  module _ (complete : CompletesHost v c far whole) (inside : (message : LevelsMessage) → IsOneOf message c.unsure → IsOneOf message m.unsure)
      (bodies_heard : AllByRecursion (IsBodyOf m.unsure) (bodies_of below)) (inner : B) (maker : E) (coming : Coming) (near : Near) where
    abbrev link : NearValue B E
    link = record { inner = inner; empty = maker; device = v.device; near = near; unsure = []; coming = coming }

    claimed : Claim link
    claimed e_len fits same takes run =
        let requests : List PathRequest = takes.requests in
        let are_of : AllByRecursion (IsOfDevice v.device (record_len v)) requests = subst (λ (n : ℕ). AllByRecursion (IsOfDevice v.device n) requests) e_len takes.paths in
        let stores : List LevelsMessage = stores_among (map (far_of v.device near.levels (record_len v)) requests) in
        let old : AreWhole v (record { device = v.device; near = near; unsure = c.unsure; empty = record_at maker }) far complete.records = same_records v c (client_of record_at link) far complete.records same complete.are in
        let t = tried v (record_at maker) far near.levels fits.leaves_far may_lie Closed requests near m.near c.unsure complete.records whole are_of refl e_len takes.stored old complete.keeps in
        let stores_is : m.unsure ≡ stores =
        ap (λ (x : NearValue B E). x.unsure) takes.same ∙ ap (λ (n : ℕ). stores_among (map (far_of v.device near.levels n) requests)) e_len in
        let P : ℕ → Type 0 = λ n. n ≤ depth_of v.device 0 in
        let shallow : m.near.levels ≤ depth_of v.device 0 = subst P (sym t.4) fits.leaves_far in
        let are_stores : AllByRecursion (IsFarStore v.device m.near.levels (record_len v)) stores =
        subst (λ (n : ℕ). AllByRecursion (IsFarStore v.device n (record_len v)) stores) (sym t.4) (stores_are v.device near.levels (record_len v) fits.leaves_far requests are_of) in
        let r : ℕ → ℕ → List ℕ = records_left v complete.records (store_bodies requests) in
        let new : AreWhole v (record { device = v.device; near = m.near; unsure = stores; empty = record_at maker }) far r =
        without_old v m.near (record_at maker) r c.unsure stores far (λ n one. subst (IsOneOf n) stores_is (inside n one)) t.3 in
        let now : AreWhole v (record { device = v.device; near = m.near; unsure = stores; empty = record_at maker }) after r =
        all_heard v m.near (record_at maker) r t.5 shallow may_lie stores are_stores below far after (subst (λ (u : List LevelsMessage). AllByRecursion (IsBodyOf u) (bodies_of below)) stores_is bodies_heard) run new in
        let whole_now : CompletesHost v (record { device = v.device; near = m.near; unsure = stores; empty = record_at maker }) after t.0 = record { records = r; are = now; keeps = t.2 } in
        let m_is : m ≡ record { inner = inner; empty = maker; device = v.device; near = m.near; unsure = stores; coming = coming } =
        takes.same ∙ ap (λ (n : ℕ). let x : NearValue B E = record { inner = inner; empty = maker; device = v.device; near = m.near; unsure = stores_among (map (far_of v.device near.levels n) requests); coming = coming } in x) e_len in
        let fit : FitsTogether device_of len_of (let x : NearValue B E = record { inner = inner; empty = maker; device = v.device; near = m.near; unsure = stores; coming = coming } in x) = record {
          same_device = fits.same_device;
          same_len = fits.same_len ∙ e_len ∙ sym t.5;
          leaves_far = shallow;
          are_stores = subst (λ (n : ℕ). AllByRecursion (IsFarStore v.device m.near.levels n) stores) (sym t.5) are_stores;
        } in
        (t.0, t.1, subst (λ (x : NearValue B E). CompletesHost v (client_of record_at x) after t.0) (sym m_is) whole_now, subst (FitsTogether device_of len_of) (sym m_is) fit)

pub resumes_paths : {B E : Type 0} (record_at : E → ℕ → ℕ → ℕ → List ℕ) (device_of : E → Sizes) (len_of : E → ℕ) → ResumesPaths B record_at device_of len_of
resumes_paths {B} {E} record_at device_of len_of may_lie v c l m bodies below far after whole device len fits none same complete takes inside bodies_heard run =
    let is : l ≡ record l { device = v.device; unsure = [] } =
    ap (λ (d : Sizes). let x : NearValue B E = record l { device = d } in x) device ∙ ap (λ (u : List LevelsMessage). let x : NearValue B E = record l { device = v.device; unsure = u } in x) none in
    subst (Claim record_at device_of len_of may_lie v c m bodies below far after whole) (sym is)
    (claimed record_at device_of len_of may_lie v c m bodies below far after whole complete inside bodies_heard l.inner l.empty l.coming l.near) len fits same takes run
