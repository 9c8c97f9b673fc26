-- The STORE of levels that a body is.
use Rattle.std.proofs.Common.{◌≡◌, ℕ, ◌^◌, ◌<◌, ◌≤◌, List, [], ◌∷◌, map, drop, slice_range, refl, sym, ap, ◌∙◌, subst}
use Rattle.std.specs.Int.{w32, to_be_bytes, from_be_bytes}
use Rattle.std.specs.List.{AllByRecursion}
use Rattle.std.proofs.lemmas.List.{drop_at, take_at}
use Rattle.std.proofs.lemmas.Nat.{from_be_bytes-to_be_bytes_4}
use Rattle.oram_geometry.specs.declared.Sizes.{Sizes}
use Rattle.oram_levels.specs.Messages.{FetchLevels, HasNumbers, LevelsMessage, StoreLevels, levels_body, store_levels_body}
use Rattle.oram_geometry.specs.Sizes.{depth_of}
use Rattle.oram_near.specs.ComingAnswers.{Coming}
use Rattle.oram_near.specs.EmptyRecords.{AreEmptyRecords}
use Rattle.oram_near.specs.Near.{Near}
use Rattle.oram_near.specs.NearCalls.{FitsTogether, NearValue}
use Rattle.oram_near.specs.PathRequests.{IsFarStore, IsFarStoreBody, store_in}
use Rattle.oram_rounds.proofs.KeptPaths.{leaf_fits}

-- the body of a STORE is read as that STORE
pub store_in-body : (tree first leaf : ℕ) (records : List ℕ) → leaf < 2 ^ 32 → store_in (store_levels_body tree first leaf records) ≡ StoreLevels tree first leaf records
unfolding store_in
store_in-body tree first leaf records fits =
    let number : slice_range (store_levels_body tree first leaf records) 3 7 ≡ to_be_bytes w32 leaf = take_at (to_be_bytes w32 leaf) records 4 refl in
    let rest : drop 7 (store_levels_body tree first leaf records) ≡ records = drop_at (to_be_bytes w32 leaf) records 4 refl in
    ap (λ (x : ℕ). StoreLevels tree first x (drop 7 (store_levels_body tree first leaf records))) (ap (from_be_bytes w32) number ∙ from_be_bytes-to_be_bytes_4 leaf fits)
    ∙ ap (StoreLevels tree first leaf) rest

-- the numbers of a STORE of the far levels fit
pub has_numbers : (d : Sizes) (levels len : ℕ) (message : LevelsMessage) → IsFarStore d levels len message → HasNumbers message
has_numbers d levels len (StoreLevels tree first leaf records) far = leaf_fits d tree leaf far.1
has_numbers d levels len (FetchLevels tree first last leaf) far = absurd far

-- of bodies that are STOREs of the far levels
module _ (d : Sizes) (levels len : ℕ) where
  pub far_stores : (bodies : List (List ℕ)) → AllByRecursion (IsFarStoreBody d levels len) bodies → AllByRecursion (IsFarStore d levels len) (map store_in bodies)
  far_stores [] are = tt
  far_stores (body ∷ bodies) are = (are.0.0, far_stores bodies are.1)

  pub same_bodies : (bodies : List (List ℕ)) → AllByRecursion (IsFarStoreBody d levels len) bodies → map levels_body (map store_in bodies) ≡ bodies
  same_bodies [] are = refl
  same_bodies (body ∷ bodies) are = ap (λ (b : List ℕ). b ∷ map levels_body (map store_in bodies)) (sym are.0.1) ∙ ap (λ (bs : List (List ℕ)). body ∷ bs) (same_bodies bodies are.1)

-- the parts of a link fit together
pub fits_by : {B E : Type 0} (device_of : E → Sizes) (len_of : E → ℕ) (inner : B) (empty : E) (d : Sizes) (near : Near) (bodies : List (List ℕ)) (coming : Coming) → device_of empty ≡ d
    → len_of empty ≡ near.record_len → near.levels ≤ depth_of d 0 → AllByRecursion (IsFarStoreBody d near.levels near.record_len) bodies
    → FitsTogether device_of len_of (record { inner = inner; empty = empty; device = d; near = near; unsure = map store_in bodies; coming = coming })
fits_by device_of len_of inner empty d near bodies coming same_device same_len deep are =
    record { same_device = same_device; same_len = same_len; leaves_far = deep; are_stores = far_stores d near.levels near.record_len bodies are }

-- so the records of the formatting are those of the link's device
pub empties_by : {B E : Type 0} (device_of : E → Sizes) (len_of : E → ℕ) (record_at : E → ℕ → ℕ → ℕ → List ℕ) (l : NearValue B E) → FitsTogether device_of len_of l
    → AreEmptyRecords (device_of l.empty) (len_of l.empty) (record_at l.empty) → AreEmptyRecords l.device l.near.record_len (record_at l.empty)
empties_by device_of len_of record_at l fits are =
    subst (λ (n : ℕ). AreEmptyRecords l.device n (record_at l.empty)) fits.same_len (subst (λ (d : Sizes). AreEmptyRecords d (len_of l.empty) (record_at l.empty)) fits.same_device are)
