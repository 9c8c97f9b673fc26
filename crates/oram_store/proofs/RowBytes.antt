-- The rows of nodes in a row, read from the bytes of their cells.
use Rattle.std.proofs.Common.{◌≡◌, ℕ, zero, suc, ◌+◌, ◌-◌, ◌*◌, ◌<◌, ◌≤◌, List, [], ◌∷◌, ◌++◌, length, take, drop, Bool, false, Option, Some, None, refl, sym, ap, ◌∙◌, arith, append_assoc, append-nil, length-append, length-take}
use Rattle.std.specs.Prelude.{◌==◌, ◌&&◌, if◌then◌else◌, true}
use Rattle.std.proofs.lemmas.Bool.{lt-ltb}
use Rattle.std.proofs.lemmas.List.{drop_at, take-append-le, take_all}
use Rattle.oram_host.specs.Path.{FitsAnswer, IsBehind}
use Rattle.oram_layout.specs.Limits.{cell_len, nodes_of}
use Rattle.oram_layout.specs.Records.{record_in}
use Rattle.oram_layout.specs.Trees.{cell_at, sizes_of}
use Rattle.oram_layout.specs.declared.trees.Tree.{Tree}
use Rattle.oram_records.specs.Messages.{row_text, rows_text}
use Rattle.oram_redo.specs.Content.{Content, bytes_at}
use Rattle.oram_redo.proofs.Bytes.{bytes_at-add, length-bytes_at}
use Rattle.oram_store.specs.Batches.{records_of_tree}
use Rattle.oram_store.specs.Rows.{row_in, rows_in, rows_of}

-- the first bytes at a place
take_bytes : (m n at : ℕ) (c : Content) → m ≤ n → take m (bytes_at n at c) ≡ bytes_at m at c
take_bytes m n at c le =
    let all : n ≡ m + (n - m) = omega (arith, le) in
    ap (λ (k : ℕ). take m (bytes_at k at c)) all ∙ ap (take m) (bytes_at-add m (n - m) at c)
    ∙ take-append-le m (bytes_at m at c) (bytes_at (n - m) (at + m) c) (omega (arith, length-bytes_at m at c))
    ∙ take_all m (bytes_at m at c) (omega (arith, length-bytes_at m at c))

-- the record in the bytes of one cell
row_at : (len width at : ℕ) (c : Content) → len < width → row_in len (bytes_at width at c) ≡ (if c at == 1 then Some (bytes_at len (suc at) c) else None)
row_at len zero at c wide = absurd (omega (arith, wide))
row_at len (suc w) at c wide = ap (λ (bytes : List ℕ). if c at == 1 then Some bytes else None) (take_bytes len w (suc at) c (omega (arith, wide)))

-- it is the record of the node, since a cell has room for a record and its mark
row_of : (tree : Tree) (node : ℕ) (c : Content) → node < nodes_of (sizes_of tree.shape)
    → row_in tree.shape.record_len (bytes_at (cell_len tree.shape.record_len) (cell_at tree node) c) ≡ record_in (Some tree) node c
row_of tree node c within =
    row_at tree.shape.record_len (cell_len tree.shape.record_len) (cell_at tree node) c (omega arith)
    ∙ ap (λ (b : _). if b && (c (cell_at tree node) == 1) then Some (bytes_at tree.shape.record_len (suc (cell_at tree node)) c) else None) (sym (lt-ltb node (nodes_of (sizes_of tree.shape)) within))

-- the rows that are read from the cells of nodes are those of the nodes' records
pub rows_at : (tree : Tree) (c : Content) (n first : ℕ) → first + n ≤ nodes_of (sizes_of tree.shape)
    → rows_in tree.shape.record_len (cell_len tree.shape.record_len) n (bytes_at (n * cell_len tree.shape.record_len) (cell_at tree first) c) ≡ rows_of (records_of_tree tree c) 0 first n
rows_at tree c zero first within = refl
rows_at tree c (suc n) first within =
    let width : ℕ = cell_len tree.shape.record_len in
    let place : ℕ = cell_at tree first in
    let cut : bytes_at (suc n * width) place c ≡ bytes_at width place c ++ bytes_at (n * width) (place + width) c =
    ap (λ (k : ℕ). bytes_at k place c) (let e : suc n * width ≡ width + n * width = omega arith in e) ∙ bytes_at-add width (n * width) place c in
    let long : length (bytes_at width place c) ≡ width = length-bytes_at width place c in
    let head : take width (bytes_at (suc n * width) place c) ≡ bytes_at width place c =
    ap (take width) cut ∙ take-append-le width (bytes_at width place c) (bytes_at (n * width) (place + width) c) (omega (arith, long)) ∙ take_all width (bytes_at width place c) (omega (arith, long)) in
    let next : place + width ≡ cell_at tree (suc first) = omega arith in
    let tail : drop width (bytes_at (suc n * width) place c) ≡ bytes_at (n * width) (cell_at tree (suc first)) c =
    ap (drop width) cut ∙ drop_at (bytes_at width place c) (bytes_at (n * width) (place + width) c) width long ∙ ap (λ (k : ℕ). bytes_at (n * width) k c) next in
    ap (λ (cell : List ℕ). row_in tree.shape.record_len cell ∷ rows_in tree.shape.record_len width n (drop width (bytes_at (suc n * width) place c))) head
    ∙ ap (λ (cells : List ℕ). row_in tree.shape.record_len (bytes_at width place c) ∷ rows_in tree.shape.record_len width n cells) tail
    ∙ ap (λ (row : Option (List ℕ)). row ∷ rows_in tree.shape.record_len width n (bytes_at (n * width) (cell_at tree (suc first)) c)) (row_of tree first c (omega (arith, within)))
    ∙ ap (λ (rows : List (Option (List ℕ))). record_in (Some tree) first c ∷ rows) (rows_at tree c n (suc first) (omega (arith, within)))

-- the same of cells that were read, as an answer's payload
pub payload_at : (tree : Tree) (c : Content) (n first width place : ℕ) (cells : List ℕ) → first + n ≤ nodes_of (sizes_of tree.shape) → width ≡ cell_len tree.shape.record_len
    → place ≡ cell_at tree first → cells ≡ bytes_at (n * width) place c
    → 128 ∷ rows_text (rows_in tree.shape.record_len width n cells) ≡ 128 ∷ rows_text (rows_of (records_of_tree tree c) 0 first n)
payload_at tree c n first width place cells within wide there read =
    let len : ℕ = tree.shape.record_len in
    ap (λ (l : List ℕ). 128 ∷ rows_text (rows_in len width n l)) (read ∙ ap (λ (at : ℕ). bytes_at (n * width) at c) there)
    ∙ ap (λ (w : ℕ). 128 ∷ rows_text (rows_in len w n (bytes_at (n * w) (cell_at tree first) c))) wide
    ∙ ap (λ (rows : List (Option (List ℕ))). 128 ∷ rows_text rows) (rows_at tree c n first within)

-- an answer whose first byte was written before its rows
pub answer_is : (len width n : ℕ) (cells lent none first answer : List ℕ) → none ≡ [] → first ≡ none ++ 128 ∷ [] → lent ≡ cells → answer ≡ first ++ rows_text (rows_in len width n lent)
    → answer ≡ 128 ∷ rows_text (rows_in len width n cells)
answer_is len width n cells lent none first answer empty pushed same grown =
    grown ∙ ap (λ (l : List ℕ). l ++ rows_text (rows_in len width n lent)) (pushed ∙ ap (λ (l : List ℕ). l ++ 128 ∷ []) empty)
    ∙ ap (λ (l : List ℕ). 128 ∷ rows_text (rows_in len width n l)) same

-- Rows were appended for the cells before `rest`; the rows of the cells in `rest` are left. `whole` has all the cells.
abbrev pub AreLeft : (len width : ℕ) (whole rest old new : List ℕ) → Type 0
AreLeft len width whole rest old new =
    (n : ℕ) → length whole ≡ n * width → (m : ℕ) × (length rest ≡ m * width) × (new ++ rows_text (rows_in len width m rest) ≡ old ++ rows_text (rows_in len width n whole))

module _ (len width : ℕ) (whole : List ℕ) where
  pub all_left : (rest old : List ℕ) → rest ≡ whole → AreLeft len width whole rest old old
  all_left rest old same n long = (n, ap length same ∙ long, ap (λ (l : List ℕ). old ++ rows_text (rows_in len width n l)) same)

  one_done : (m : ℕ) (cell rest rest' old mid new to : List ℕ) → 0 < width → rest ≡ cell ++ rest' → length cell ≡ width → new ≡ mid ++ row_text (row_in len cell) → length rest ≡ m * width
      → mid ++ rows_text (rows_in len width m rest) ≡ to → (k : ℕ) × (length rest' ≡ k * width) × (new ++ rows_text (rows_in len width k rest') ≡ to)
  one_done zero cell rest rest' old mid new to wide cut long grown all is = absurd (omega (arith, ap length cut, length-append cell rest', all, long, wide))
  one_done (suc k) cell rest rest' old mid new to wide cut long grown all is =
      let head : take width rest ≡ cell = ap (take width) cut ∙ take-append-le width cell rest' (omega (arith, long)) ∙ take_all width cell (omega (arith, long)) in
      let tail : drop width rest ≡ rest' = ap (drop width) cut ∙ drop_at cell rest' width long in
      let step : suc k * width ≡ width + k * width = omega arith in
      let next : List ℕ = rows_text (rows_in len width k rest') in (
        k,
        omega (arith, ap length cut, length-append cell rest', all, long, step),
        ap (λ (l : List ℕ). l ++ next) grown ∙ append_assoc mid (row_text (row_in len cell)) next
            ∙ ap (λ (l : List ℕ). mid ++ (row_text (row_in len l) ++ next)) (sym head)
            ∙ ap (λ (l : List ℕ). mid ++ (row_text (row_in len (take width rest)) ++ rows_text (rows_in len width k l))) (sym tail) ∙ is,
      )

  pub one_less : (cell rest rest' old mid new : List ℕ) → 0 < width → rest ≡ cell ++ rest' → length cell ≡ width → new ≡ mid ++ row_text (row_in len cell)
      → AreLeft len width whole rest old mid → AreLeft len width whole rest' old new
  one_less cell rest rest' old mid new wide cut long grown left n all =
      let before = left n all in
      one_done before.0 cell rest rest' old mid new (old ++ rows_text (rows_in len width n whole)) wide cut long grown before.1 before.2

  none_is : (m : ℕ) (rest new to : List ℕ) → length rest < width → length rest ≡ m * width → new ++ rows_text (rows_in len width m rest) ≡ to → new ≡ to
  none_is zero rest new to short long is = sym (append-nil new) ∙ is
  none_is (suc k) rest new to short long is = absurd (let step : suc k * width ≡ width + k * width = omega arith in omega (arith, short, long, step))

  pub none_left : (rest old new : List ℕ) → length rest < width → AreLeft len width whole rest old new → (n : ℕ) → length whole ≡ n * width → new ≡ old ++ rows_text (rows_in len width n whole)
  none_left rest old new short left n all = let last = left n all in none_is last.0 rest new (old ++ rows_text (rows_in len width n whole)) short last.1 last.2

-- a row has at least one byte, and at most one more than a record
chosen_row : (is_there : Bool) (len : ℕ) (bytes : List ℕ) → (1 ≤ length (row_text (if is_there then Some (take len bytes) else None))) × (length (row_text (if is_there then Some (take len bytes) else None)) ≤ len + 1)
chosen_row true len bytes = (omega arith, omega (arith, length-take len bytes))
chosen_row false len bytes = (omega arith, omega arith)

row_fits : (len : ℕ) (cell : List ℕ) → (1 ≤ length (row_text (row_in len cell))) × (length (row_text (row_in len cell)) ≤ len + 1)
row_fits len [] = (omega arith, omega arith)
row_fits len (mark ∷ bytes) = chosen_row (mark == 1) len bytes

rows_fit : (len width n : ℕ) (cells : List ℕ) → (n ≤ length (rows_text (rows_in len width n cells))) × (length (rows_text (rows_in len width n cells)) ≤ n * (len + 1))
rows_fit len width zero cells = (omega arith, omega arith)
rows_fit len width (suc n) cells =
    let one = row_fits len (take width cells) in
    let more = rows_fit len width n (drop width cells) in
    let long = length-append (row_text (row_in len (take width cells))) (rows_text (rows_in len width n (drop width cells))) in
    let step : suc n * (len + 1) ≡ (len + 1) + n * (len + 1) = omega arith in
    (omega (arith, one.0, more.0, long), omega (arith, one.1, more.1, long, step))

-- rows that were asked for fit in an answer
pub rows_fit_answer : (len width n : ℕ) (cells answer : List ℕ) → 0 < n → 1 + n * (len + 1) ≤ 1048576 → answer ≡ 128 ∷ rows_text (rows_in len width n cells) → IsBehind (128 ∷ []) FitsAnswer answer
rows_fit_answer len width n cells answer some few is =
    let fit = rows_fit len width n cells in
    (rows_text (rows_in len width n cells), is, record { some = omega (arith, fit.0, some); few = omega (arith, fit.1, few) })
