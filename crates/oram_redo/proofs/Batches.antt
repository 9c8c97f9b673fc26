-- The patches of a batch, one by one.
use Rattle.std.proofs.Common.{◌≡◌, ◌⊎◌, ℕ, zero, suc, ◌+◌, ◌<◌, ◌≤◌, List, [], ◌∷◌, ◌++◌, length, get_or, take, refl, ◌∙◌, ap, subst, arith}
use Rattle.std.proofs.lemmas.List.{take_more, map-append, append-nil, length-map}
use Rattle.std.specs.Prelude.{All, ◌==◌, false}
use Rattle.oram_redo.specs.Batch.{patch_of, patches_of}
use Rattle.oram_redo.specs.Content.{Content, put}
use Rattle.oram_redo.specs.Log as spec
use Rattle.oram_redo.specs.Log.{entry, entries, entry_text, check_bytes, put_all, Spares}
use Rattle.oram_redo.specs.declared.batch.Patch.{Patch}
use Rattle.oram_redo.proofs.Logs.{entries-append}
use Rattle.oram_redo.proofs.Heal.{put_all-append}

pub patches_more : (xs : List Patch) (k : ℕ) (d : Patch) → k < length xs → patches_of (take (k + 1) xs) ≡ patches_of (take k xs) ++ patch_of (get_or xs k d) ∷ []
patches_more xs k d h = ap patches_of (take_more xs k d h) ∙ map-append patch_of (take k xs) (get_or xs k d ∷ [])

pub entries_more : (xs : List Patch) (k : ℕ) (d : Patch) → k < length xs → entries (patches_of (take (k + 1) xs)) ≡ entries (patches_of (take k xs)) ++ entry (patch_of (get_or xs k d))
entries_more xs k d h =
    ap entries (patches_more xs k d h) ∙ entries-append (patches_of (take k xs)) (patch_of (get_or xs k d) ∷ [])
    ∙ ap (λ (l : List ℕ). entries (patches_of (take k xs)) ++ l) (append-nil (entry (patch_of (get_or xs k d))))

pub put_all_more : (xs : List Patch) (k : ℕ) (d : Patch) (c : Content) → k < length xs
    → put_all (patches_of (take (k + 1) xs)) c ≡ put (get_or xs k d).bytes.now (get_or xs k d).at (put_all (patches_of (take k xs)) c)
put_all_more xs k d c h =
    ap (λ (ps : List spec.Patch). put_all ps c) (patches_more xs k d h) ∙ put_all-append (patches_of (take k xs)) (patch_of (get_or xs k d) ∷ []) c

pub get_or-patches : (xs : List Patch) (k : ℕ) (d : Patch) (e : spec.Patch) → k < length xs → get_or (patches_of xs) k e ≡ patch_of (get_or xs k d)
get_or-patches [] k d e h = absurd (omega arith)
get_or-patches (x ∷ xs) zero d e h = refl
get_or-patches (x ∷ xs) (suc k) d e h = get_or-patches xs k d e (omega arith)

-- what holds of all patches holds of the one at k
pub patch_has : (P : spec.Patch → Type 0) (xs : List Patch) (k : ℕ) (d : Patch) → All P (patches_of xs) → k < length xs → P (patch_of (get_or xs k d))
patch_has P xs k d all h =
    let long : length (patches_of xs) ≡ length xs = length-map xs patch_of in
    subst P (get_or-patches xs k d (0, []) h) (all k (0, []) (omega arith))

-- a place that a batch spares lies before or after each of its patches
pub spares_each : (xs : List Patch) (k : ℕ) (d : Patch) (i : ℕ) → k < length xs → Spares (patches_of xs) i
    → (i < (get_or xs k d).at ⊎ (get_or xs k d).at + length (get_or xs k d).bytes.now ≤ i)
spares_each [] k d i h spared = absurd (omega arith)
spares_each (x ∷ xs) zero d i h spared = spared.0
spares_each (x ∷ xs) (suc k) d i h spared = spares_each xs k d i (omega arith) spared.1

-- the entries of a batch begin with an open gate
pub patches_first : (xs : List Patch) → (length xs == 0) ≡ false → (tail : List ℕ) × (entries (patches_of xs) ≡ 255 ∷ tail)
patches_first [] some = cc
patches_first (x ∷ xs) some = ((entry_text (patch_of x) ++ check_bytes (entry_text (patch_of x))) ++ entries (patches_of xs), refl)
