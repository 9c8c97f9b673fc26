-- A host of whole paths in the exchanges of a batch.
use Rattle.std.proofs.Common.{◌≡◌, ℕ, ◌+◌, ◌*◌, ◌^◌, ◌<◌, ◌≤◌, Bool, List, [], ◌∷◌, ◌++◌, length, map, refl, sym, ap, ◌∙◌, subst, inl, inr, append_assoc, append-nil}
use Rattle.std.specs.List.{AllByRecursion, FoldsTo}
use Rattle.oram_geometry.specs.Sizes.{depth_of}
use Rattle.oram_host.specs.Host.{Host}
use Rattle.oram_host_laws.specs.Honest.{KeepsAll, Takes}
use Rattle.oram_levels.specs.Messages.{LevelsMessage}
use Rattle.oram_semantics.specs.Moves.{records_after}
use Rattle.oram_semantics.specs.Scheme.{Scheme, record_len}
use Rattle.oram_wire.specs.HostMessages.{store_body}
use Rattle.oram_wire.specs.declared.host_messages.HostAnswer.TheVariants.{Done, Refused}
use Rattle.oram_session.specs.declared.link.LinkFault.{LinkFault}
use Rattle.oram_link_laws.specs.Repair.{IsAmong}
use Rattle.oram_link_laws.proofs.Put.{is_stored_so, serves_so, stored_host, stored_kept}
use Rattle.oram_rounds.specs.CatchUp.{PlainRun, left_by}
use Rattle.oram_rounds.specs.PathMessages.{IsPathStore}
use Rattle.oram_rounds.proofs.CatchUp.{store_served}
use Rattle.oram_rounds.proofs.KeptPaths.{leaf_small}
use Rattle.oram_rounds.proofs.LeftRecords.{absorbed}
use Rattle.oram_near.specs.Completion.{ClientRecords}
use Rattle.oram_near.specs.Law.{AreWhole}
use Rattle.oram_near.specs.Near.{Near}
use Rattle.oram_near.specs.NearCalls.{TakesNear, store_tries, stores_among}
use Rattle.oram_near.specs.PathRequests.{FetchPath, IsOfDevice, PathRequest, StorePath, far_of}
use Rattle.oram_near.proofs.OneStore.{sizes_same, whole_after}

-- the bodies of the STOREs among some requests
abbrev pub store_bodies : List PathRequest → List (List ℕ)
store_bodies [] = []
store_bodies (FetchPath tree leaf ∷ requests) = store_bodies requests
store_bodies (StorePath tree leaf records ∷ requests) = store_body tree leaf records ∷ store_bodies requests

module _ (v : Scheme) where
  path_store : (t x : ℕ) (bytes : List ℕ) → IsOfDevice v.device (record_len v) (StorePath t x bytes) → IsPathStore v.device (record_len v) (store_body t x bytes)
  path_store t x bytes of = record { tree = t; leaf = x; records = bytes; tree_in = of.0; leaf_in = of.1; whole = of.2; named = refl }

  -- the host can carry out a STORE of a path
  pub carries : (r : ℕ → ℕ → List ℕ) (host : Host) (t x : ℕ) (bytes : List ℕ) → IsOfDevice v.device (record_len v) (StorePath t x bytes) → KeepsAll v r host
      → (after : Host) × Takes host (store_body t x bytes) after × KeepsAll v (records_after v r (store_body t x bytes ∷ [])) after
  carries r host t x bytes of keeps =
      let k = keeps t of.0 in
      let P : ℕ → Type 0 = λ d. x < 2 ^ d in
      let after : Host = stored_host host t (stored_kept k.kept x bytes) in
      let whole : length bytes ≡ (k.kept.depth + 1) * k.kept.record_len =
      of.2 ∙ ap (λ (d : ℕ). (d + 1) * record_len v) (sym k.depth) ∙ ap (λ (n : ℕ). (k.kept.depth + 1) * n) (sym k.record_len) in
      let takes : Takes host (store_body t x bytes) after =
      serves_so host after (store_body t x bytes) (record { tree = t; leaf = x; records = bytes; fits = leaf_small v t x of.1; named = refl })
      (is_stored_so host t x bytes k.kept k.there (subst P (sym k.depth) of.1) whole) in (
        after,
        takes,
        elim (store_served v r host after keeps Done (store_body t x bytes) takes (path_store t x bytes of)) [
          | inl kept ↦ kept
          | inr full ↦ absurd (let q : Done ≡ Refused 8 = full.refused in cc)
        ],
      )

  -- STOREs that are carried out once more, one after the other
  resent : (ms bodies : List (List ℕ)) (r : ℕ → ℕ → List ℕ) → AllByRecursion (λ m. IsAmong m bodies) ms → left_by v (left_by v r ms) bodies ≡ left_by v r bodies
  resent [] bodies r are = refl
  resent (m ∷ ms) bodies r are = resent ms bodies (records_after v r (m ∷ [])) are.1 ∙ absorbed v bodies r m are.0

  among_all : (front bodies : List (List ℕ)) → AllByRecursion (λ m. IsAmong m (front ++ bodies)) bodies
  among_all front [] = tt
  among_all front (b ∷ bodies) =
      let step : front ++ b ∷ bodies ≡ (front ++ b ∷ []) ++ bodies = sym (append_assoc front (b ∷ []) bodies) in
      (at front bodies b, subst (λ (all : List (List ℕ)). AllByRecursion (λ m. IsAmong m all) bodies) (sym step) (among_all (front ++ b ∷ []) bodies))
    where
      at : (front rest : List (List ℕ)) (b : List ℕ) → IsAmong b (front ++ b ∷ rest)
      at [] rest b = inl refl
      at (f ∷ front) rest b = inr (at front rest b)

  pub twice : (bodies : List (List ℕ)) (r : ℕ → ℕ → List ℕ) → left_by v (left_by v r bodies) bodies ≡ left_by v r bodies
  twice bodies r = resent bodies bodies r (among_all [] bodies)

  -- The STOREs of a batch are sent to the host, and their answers are lost. Then the host completes what the client has once all of them
  -- are in place.
  module _ (empty : ℕ → ℕ → ℕ → List ℕ) (far : Host) (levels : ℕ) (shallow : levels ≤ depth_of v.device 0) (may_lie : Bool) (fault : LinkFault) where
    abbrev pub client : Near → List LevelsMessage → ClientRecords
    client near unsure = record { device = v.device; near = near; unsure = unsure; empty = empty }

    pub tried : (requests : List PathRequest) (near near' : Near) (unsure : List LevelsMessage) (r : ℕ → ℕ → List ℕ) (host : Host) → AllByRecursion (IsOfDevice v.device (record_len v)) requests
        → near.levels ≡ levels → near.record_len ≡ record_len v → FoldsTo {P = Near} (TakesNear v.device) near requests near' → AreWhole v (client near unsure) far r → KeepsAll v r host
        → (later : Host) × PlainRun may_lie v host (store_tries fault requests) later × KeepsAll v (left_by v r (store_bodies requests)) later
        × AreWhole v (client near' (unsure ++ stores_among (map (far_of v.device levels (record_len v)) requests))) far (left_by v r (store_bodies requests))
        × (near'.levels ≡ levels) × (near'.record_len ≡ record_len v)
    tried [] near near' unsure r host are same_levels same_len stored w keeps = (
      host,
      refl,
      keeps,
      subst (λ (n : Near). AreWhole v (client n (unsure ++ [])) far r) stored (subst (λ (u : List LevelsMessage). AreWhole v (client near u) far r) (sym (append-nil unsure)) w),
      ap (λ (n : Near). n.levels) (sym stored) ∙ same_levels,
      ap (λ (n : Near). n.record_len) (sym stored) ∙ same_len,
    )
    tried (FetchPath t x ∷ requests) near near' unsure r host are same_levels same_len stored w keeps =
        tried requests near near' unsure r host are.1 same_levels same_len (subst (λ (n : Near). FoldsTo {P = Near} (TakesNear v.device) n requests near') stored.1 stored.2) w keeps
    tried (StorePath t x bytes ∷ requests) near near' unsure r host are same_levels same_len stored w keeps =
        let mid : Near = stored.0 in
        let far_len : ℕ = record_len v in
        let sizes = sizes_same v.device (StorePath t x bytes) near mid stored.1 in
        let P : ℕ → Type 0 = λ n. n ≤ depth_of v.device 0 in
        let carried = carries r host t x bytes are.0 keeps in
        let one : AreWhole v (client mid (unsure ++ far_of v.device near.levels (record_len v) (StorePath t x bytes) ∷ [])) far (records_after v r (store_body t x bytes ∷ [])) =
        whole_after v r t x bytes are.0 (client near unsure) refl same_len (subst P (sym same_levels) shallow) far w mid stored.1 in
        let here = subst (λ (n : ℕ). AreWhole v (client mid (unsure ++ far_of v.device n (record_len v) (StorePath t x bytes) ∷ [])) far (records_after v r (store_body t x bytes ∷ []))) same_levels one in
        let more = unsure ++ far_of v.device levels (record_len v) (StorePath t x bytes) ∷ [] in
        let rest = tried requests mid near' more (records_after v r (store_body t x bytes ∷ [])) carried.0 are.1 (sizes.0 ∙ same_levels) (sizes.1 ∙ same_len) stored.2 here carried.2 in
        let all = append_assoc unsure (far_of v.device levels (record_len v) (StorePath t x bytes) ∷ []) (stores_among (map (far_of v.device levels (record_len v)) requests)) in (
          rest.0,
          (carried.0, inl (inr (Done, carried.1)), rest.1),
          rest.2,
          subst (λ (u : List LevelsMessage). AreWhole v (client near' u) far (left_by v (records_after v r (store_body t x bytes ∷ [])) (store_bodies requests))) all rest.3,
          rest.4,
          rest.5,
        )
