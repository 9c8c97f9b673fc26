-- The batches of requests, patch by patch, and how long they are in the log.
use Rattle.std.proofs.Common.{◌≡◌, ℕ, zero, suc, ◌+◌, ◌*◌, ◌^◌, ◌<◌, ◌≤◌, List, [], ◌∷◌, ◌++◌, length, sym, ap, ◌∙◌, arith, inl, inr, length-append}
use Rattle.std.specs.Prelude.{All}
use Rattle.std.proofs.lemmas.Bool.{cases_eq}
use Rattle.oram_host.specs.Path.{node_on, record_at}
use Rattle.oram_host.proofs.Paths.{step_is}
use Rattle.oram_layout.specs.Changes.{level_patches, marks, record_patch}
use Rattle.oram_layout.specs.declared.trees.Tree.{Tree}
use Rattle.oram_layout.proofs.Changes.{length-record_at}
use Rattle.oram_redo.specs.Log.{Fits, Patch, entries, entry}
use Rattle.oram_redo.proofs.Logs.{length-entry}
use Rattle.oram_store.specs.Batches.{HoldsCells}
use Rattle.oram_store.specs.RecordFile.{bounds}
use Rattle.oram_store.proofs.Levels.{earlier_piece, last_piece}

-- one more cell
pub cells_more : (len level : ℕ) (cells records : List ℕ) → length cells ≡ level * (len + 1) → length (record_at len records level) ≡ len → HoldsCells cells len records level
    → HoldsCells (cells ++ 1 ∷ record_at len records level) len records (level + 1)
cells_more len level cells records whole long held k below = elim (cases_eq k level) [
  | inl same ↦
      let more : List ℕ = 1 ∷ record_at len records level in
      ap (record_at (len + 1) (cells ++ more)) same ∙ last_piece (len + 1) level cells more whole (omega (arith, long)) ∙ ap (λ (l : ℕ). 1 ∷ record_at len records l) (sym same)
  | inr other ↦ earlier_piece (len + 1) level cells (1 ∷ record_at len records level) whole k (omega arith) ∙ held k (omega arith)
]

-- the patches of levels, one by one
patches_from : (tree : Tree) (leaf first : ℕ) (bytes : List ℕ) (n i : ℕ)
    → level_patches tree leaf first bytes i (suc n) ≡ level_patches tree leaf first bytes i n ++ record_patch tree (node_on tree.shape.depth leaf (first + (i + n))) (record_at tree.shape.record_len bytes (i + n)) ∷ []
patches_from tree leaf first bytes zero i =
    ap (λ (l : ℕ). record_patch tree (node_on tree.shape.depth leaf (first + l)) (record_at tree.shape.record_len bytes l) ∷ []) (let e : i ≡ i + 0 = omega arith in e)
patches_from tree leaf first bytes (suc n) i =
    ap (λ (ps : List Patch). record_patch tree (node_on tree.shape.depth leaf (first + i)) (record_at tree.shape.record_len bytes i) ∷ ps)
    (patches_from tree leaf first bytes n (suc i)
    ∙ ap (λ (l : ℕ). level_patches tree leaf first bytes (suc i) n ++ record_patch tree (node_on tree.shape.depth leaf (first + l)) (record_at tree.shape.record_len bytes l) ∷ []) (let e : suc i + n ≡ i + suc n = omega arith in e))

pub level_more : (tree : Tree) (leaf first : ℕ) (bytes : List ℕ) (n : ℕ)
    → level_patches tree leaf first bytes 0 (n + 1) ≡ level_patches tree leaf first bytes 0 n ++ record_patch tree (node_on tree.shape.depth leaf (first + n)) (record_at tree.shape.record_len bytes n) ∷ []
level_more tree leaf first bytes n =
    ap (level_patches tree leaf first bytes 0) (let e : n + 1 ≡ suc n = omega arith in e) ∙ patches_from tree leaf first bytes n 0
    ∙ ap (λ (l : ℕ). level_patches tree leaf first bytes 0 n ++ record_patch tree (node_on tree.shape.depth leaf (first + l)) (record_at tree.shape.record_len bytes l) ∷ []) (let e : 0 + n ≡ n = omega arith in e)

length-entries : (p : Patch) (ps : List Patch) → length (entries (p ∷ ps)) ≡ 21 + length p.1 + length (entries ps)
length-entries p ps = length-append (entry p) (entries ps) ∙ ap (λ (n : ℕ). n + length (entries ps)) (length-entry p)

pub length-one : (p : Patch) → length (entries (p ∷ [])) ≡ 21 + length p.1
length-one p = omega (arith, length-entries p [])

pub length-marks : (cells : List ℕ) → length (entries (marks cells)) ≡ 22 * length cells
length-marks [] = omega arith
length-marks (cell ∷ cells) = omega (arith, length-entries (cell, 1 ∷ []) (marks cells), length-marks cells)

pub length-levels : (tree : Tree) (leaf first count : ℕ) (bytes : List ℕ) → length bytes ≡ count * tree.shape.record_len → (n i : ℕ) → i + n ≤ count
    → length (entries (level_patches tree leaf first bytes i n)) ≡ n * (tree.shape.record_len + 22)
length-levels tree leaf first count bytes whole zero i fits = omega arith
length-levels tree leaf first count bytes whole (suc n) i fits =
    let rest = length-levels tree leaf first count bytes whole n (suc i) (omega arith) in
    let long = length-record_at tree.shape.record_len bytes i count whole (omega arith) in
    length-entries (record_patch tree (node_on tree.shape.depth leaf (first + i)) (record_at tree.shape.record_len bytes i)) (level_patches tree leaf first bytes (suc i) n)
    ∙ (omega (arith, rest, long, step_is n (tree.shape.record_len + 22)))

all_cons : {X : Type 0} (P : X → Type 0) (x : X) (xs : List X) → P x → All P xs → All P (x ∷ xs)
all_cons P x xs here rest zero d h = here
all_cons P x xs here rest (suc k) d h = rest k d (omega arith)

pub marks_fit : (cells : List ℕ) → All (λ cell. cell < 2 ^ 62) cells → All (Fits bounds) (marks cells)
marks_fit [] all = λ k d h. absurd (omega arith)
marks_fit (cell ∷ cells) all =
    let low : cell < 2 ^ 62 = all 0 cell (omega arith) in
    all_cons (Fits bounds) (cell, 1 ∷ []) (marks cells) (record { within = omega arith; place_fits = omega arith; length_fits = omega arith }) (marks_fit cells (λ j e l. all (suc j) e (omega arith)))

pub one_fits : (p : Patch) → p.0 + length p.1 ≤ 2 ^ 62 → length p.1 ≤ 2 ^ 21 → All (Fits bounds) (p ∷ [])
one_fits p within short = all_cons (Fits bounds) p [] (record { within = within; place_fits = omega arith; length_fits = omega arith }) (λ k d h. absurd (omega arith))
