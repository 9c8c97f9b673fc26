-- The batch of a group: its patches, and how long they are in the log; and whether a STORE is in it.
use Rattle.std.proofs.Common.{◌≡◌, ℕ, zero, suc, ◌+◌, ◌*◌, ◌<◌, ◌≤◌, ◌||◌, Bool, true, false, List, [], ◌∷◌, length, refl, ap, ◌∙◌, arith, length-append, get_or}
use Rattle.std.specs.Prelude.{All, map}
use Rattle.std.specs.List.{AllZip, list_any}
use Rattle.std.proofs.Math.Nat.{mul-le-mul_right}
use Rattle.std.proofs.lemmas.List.Elements.{All-append, All-push}
use Rattle.oram_layout.specs.Changes.{record_patch}
use Rattle.oram_layout.proofs.LogRoom.{patches_fit}
use Rattle.oram_redo.specs.Log.{Fits, entries}
use Rattle.oram_redo.proofs.Logs.{entries-append}
use Rattle.oram_store.specs.Groups.{FitsNode, FitsPath, FitsTree, change_patches, group_patches, is_store, levels_of, message_of, store_patches}
use Rattle.oram_store.specs.RecordFile.{bounds}
use Rattle.oram_store.specs.declared.groups.Change.{Change}
use Rattle.oram_store.specs.declared.groups.NodePut.{NodePut}
use Rattle.oram_store.specs.declared.groups.PathStore.{PathStore}
use Rattle.oram_store.specs.declared.groups.Change.TheVariants as change
use Rattle.oram_store.proofs.BatchBytes.{length-levels, length-one}

-- what is known of two lists, place by place, at one place
pub zip_at : {A B : Type 0} (R : A → B → Type 0) (xs : List A) (ys : List B) (k : ℕ) (d : A) (e : B) → AllZip R xs ys → k < length ys → R (get_or xs k d) (get_or ys k e)
zip_at R [] [] k d e all below = absurd (omega arith)
zip_at R [] (y ∷ ys) k d e all below = absurd all
zip_at R (x ∷ xs) [] k d e all below = absurd all
zip_at R (x ∷ xs) (y ∷ ys) zero d e all below = all.0
zip_at R (x ∷ xs) (y ∷ ys) (suc k) d e all below = zip_at R xs ys k d e all.1 (omega arith)

store_fits : (store : PathStore) → FitsPath store → All (Fits bounds) (store_patches store)
store_fits store fits = (patches_fit bounds refl).of_levels store.tree store.leaf store.first (levels_of store) store.records.now fits.leaf (omega (arith, fits.first)) fits.whole

put_fits : (put : NodePut) → FitsNode put → All (Fits bounds) (record_patch put.tree put.node put.bytes.now ∷ [])
put_fits put fits =
    All-push (Fits bounds) [] (record_patch put.tree put.node put.bytes.now) (λ k d h. absurd (omega arith)) ((patches_fit bounds refl).of_record put.tree put.node put.bytes.now fits.node fits.whole)

change_fits : (change : Change) → FitsTree change → All (Fits bounds) (change_patches change)
change_fits (change.Store store) fits = store_fits store fits.0
change_fits (change.StoreLevels store) fits = store_fits store fits
change_fits (change.Put put) fits = put_fits put fits

pub group_fits : (changes : List Change) → All FitsTree changes → All (Fits bounds) (group_patches changes)
group_fits [] all = λ k d h. absurd (omega arith)
group_fits (change ∷ rest) all =
    All-append (Fits bounds) (change_patches change) (group_patches rest) (change_fits change (all 0 change (omega arith))) (group_fits rest (λ k d h. all (suc k) d (omega arith)))

length-store : (store : PathStore) → FitsPath store → length (entries (store_patches store)) ≤ 1050000
length-store store fits =
    let len : ℕ = store.tree.shape.record_len in
    let long = length-levels store.tree store.leaf store.first (levels_of store) store.records.now fits.whole (levels_of store) 0 (omega arith) in
    let fewer : levels_of store * (len + 22) ≤ (store.tree.shape.depth + 1) * (len + 22) = mul-le-mul_right (len + 22) (omega arith) in
    let spread : (store.tree.shape.depth + 1) * (len + 22) ≡ (store.tree.shape.depth + 1) * len + (store.tree.shape.depth + 1) * 22 = omega arith in
    omega (arith, long, fewer, spread, store.tree.shape.fits, store.tree.shape.deep)

length-put : (put : NodePut) → FitsNode put → length (entries (record_patch put.tree put.node put.bytes.now ∷ [])) ≤ 1050000
length-put put fits =
    let spread : (put.tree.shape.depth + 1) * put.tree.shape.record_len ≡ put.tree.shape.depth * put.tree.shape.record_len + put.tree.shape.record_len = omega arith in
    omega (arith, length-one (record_patch put.tree put.node put.bytes.now), fits.whole, spread, put.tree.shape.fits)

length-change : (change : Change) → FitsTree change → length (entries (change_patches change)) ≤ 1050000
length-change (change.Store store) fits = length-store store fits.0
length-change (change.StoreLevels store) fits = length-store store fits
length-change (change.Put put) fits = length-put put fits

length-group : (changes : List Change) → All FitsTree changes → length (entries (group_patches changes)) ≤ length changes * 1050000
length-group [] all = omega arith
length-group (change ∷ rest) all =
    let here = length-change change (all 0 change (omega arith)) in
    let more = length-group rest (λ k d h. all (suc k) d (omega arith)) in
    omega (arith, ap length (entries-append (change_patches change) (group_patches rest)), length-append (entries (change_patches change)) (entries (group_patches rest)), here, more)

-- a group has room in an empty log
pub group_short : (changes : List Change) → All FitsTree changes → length changes ≤ 32 → bounds.log_start + length (entries (group_patches changes)) < bounds.log_end
group_short changes all few = omega (arith, length-group changes all)

or_right : (a : Bool) → (a || true) ≡ true
or_right true = refl
or_right false = refl

-- a STORE that is found is among the messages
pub store_found : (changes : List Change) (k : ℕ) (d : Change) → k < length changes → is_store (message_of (get_or changes k d)) ≡ true → list_any is_store (map message_of changes) ≡ true
store_found [] k d below found = absurd (omega arith)
store_found (change ∷ rest) zero d below found = ap (λ (b : Bool). b || list_any is_store (map message_of rest)) found
store_found (change ∷ rest) (suc k) d below found =
    ap (λ (b : Bool). is_store (message_of change) || b) (store_found rest k d (omega arith) found) ∙ or_right (is_store (message_of change))
