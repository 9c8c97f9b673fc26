-- What the bytes of an entry say, part by part.
use Rattle.std.proofs.Common.{◌≡◌, ℕ, ◌+◌, ◌*◌, ◌^◌, ◌<◌, ◌≤◌, true, false, List, [], ◌∷◌, ◌++◌, length, take, drop, get_or, Some, refl, sym, ◌∙◌, ap, subst, arith, nat_le, nat_lt, ◌&&◌}
use Rattle.std.proofs.lemmas.Bool.{and_from, false≢true, le-leb, lt-ltb}
use Rattle.std.proofs.lemmas.List.{drop_at, take_all, take_at}
use Rattle.oram_wire.specs.declared.TheConstants.{LONGEST_BODY}
use Rattle.oram_host.specs.ImageReader.{is_shape}
use Rattle.oram_pair.specs.Fronts.{eight_bytes}
use Rattle.oram_layout.specs.Header.{entry_bytes, entry_check, four_bytes}
use Rattle.oram_redo.specs.Log.{check_bytes}
use Rattle.oram_redo.proofs.Logs.{length-check_bytes}
use Rattle.oram_layout.specs.Limits.{cells_len}
use Rattle.oram_layout.specs.Trees.{sizes_of}
use Rattle.oram_layout.specs.declared.shapes.Shape.{Shape}
use Rattle.oram_layout.specs.declared.trees.Tree.{Tree}
use Rattle.oram_pair.proofs.EightBytes.{eight_bytes_one, length-eight_bytes}
use Rattle.oram_layout.proofs.TreeEntries.{four_bytes_one, length-entry_check, length-four_bytes, record_len_fits, shape_one, tree_one}

two_first : (bs : List ℕ) → length bs ≡ 2 → bs ≡ get_or bs 0 0 ∷ get_or bs 1 0 ∷ []
two_first [] long = absurd (omega arith)
two_first (a ∷ []) long = absurd (omega arith)
two_first (a ∷ b ∷ []) long = refl
two_first (a ∷ b ∷ d ∷ rest) long = absurd (omega arith)

abbrev check_of_tree : Tree → List ℕ
check_of_tree tree = entry_check tree.shape.depth tree.shape.record_len tree.base

first_two : (bs : List ℕ) → length bs ≡ 8 → take 2 bs ≡ get_or bs 0 0 ∷ get_or bs 1 0 ∷ []
first_two [] long = absurd (omega arith)
first_two (a ∷ []) long = absurd (omega arith)
first_two (a ∷ b ∷ rest) long = refl

-- a tree's entry, byte by byte
pub entry_of_parts : (tree : Tree) (said check : List ℕ) → said ≡ tree.shape.depth ∷ (four_bytes tree.shape.record_len ++ eight_bytes tree.base) → check ≡ check_bytes said
    → (1 ∷ get_or said 0 0 ∷ get_or check 0 0 ∷ get_or check 1 0 ∷ get_or said 1 0 ∷ get_or said 2 0 ∷ get_or said 3 0 ∷ get_or said 4 0 ∷ get_or said 5 0 ∷ get_or said 6 0 ∷ get_or said 7 0
    ∷ get_or said 8 0 ∷ get_or said 9 0 ∷ get_or said 10 0 ∷ get_or said 11 0 ∷ get_or said 12 0 ∷ []) ≡ entry_bytes (Some tree)
unfolding four_bytes eight_bytes
entry_of_parts tree said check said_is check_is =
    let two : take 2 check ≡ get_or check 0 0 ∷ get_or check 1 0 ∷ [] = first_two check (ap length check_is ∙ length-check_bytes said) in
    let its : take 2 check ≡ check_of_tree tree = ap (take 2) (check_is ∙ ap check_bytes said_is) in
    ap (λ (l : List ℕ). 1 ∷ get_or l 0 0 ∷ get_or check 0 0 ∷ get_or check 1 0 ∷ get_or l 1 0 ∷ get_or l 2 0 ∷ get_or l 3 0 ∷ get_or l 4 0 ∷ get_or l 5 0 ∷ get_or l 6 0 ∷ get_or l 7 0
    ∷ get_or l 8 0 ∷ get_or l 9 0 ∷ get_or l 10 0 ∷ get_or l 11 0 ∷ get_or l 12 0 ∷ []) said_is
    ∙ ap (λ (l : List ℕ). 1 ∷ tree.shape.depth ∷ (l ++ (four_bytes tree.shape.record_len ++ eight_bytes tree.base))) (sym two ∙ its)

-- a tree's entry, with the two bytes of its checksum one by one
entry_spelled : (tree : Tree)
    → entry_bytes (Some tree) ≡ 1 ∷ tree.shape.depth ∷ get_or (check_of_tree tree) 0 0 ∷ get_or (check_of_tree tree) 1 0 ∷ (four_bytes tree.shape.record_len ++ eight_bytes tree.base)
entry_spelled tree =
    ap (λ (l : List ℕ). 1 ∷ tree.shape.depth ∷ (l ++ (four_bytes tree.shape.record_len ++ eight_bytes tree.base)))
    (two_first (check_of_tree tree) (length-entry_check tree.shape.depth tree.shape.record_len tree.base))

reads : (bs : List ℕ) (tree : Tree) → bs ≡ entry_bytes (Some tree)
    → (get_or bs 1 0 ≡ tree.shape.depth) × (take 4 (drop 4 bs) ≡ four_bytes tree.shape.record_len) × (take 8 (drop 8 bs) ≡ eight_bytes tree.base)
reads bs tree is =
    let spelled = is ∙ entry_spelled tree in (
      ap (λ (l : List ℕ). get_or l 1 0) spelled,
      ap (λ (l : List ℕ). take 4 (drop 4 l)) spelled ∙ take_at (four_bytes tree.shape.record_len) (eight_bytes tree.base) 4 (length-four_bytes tree.shape.record_len),
      ap (λ (l : List ℕ). take 8 (drop 8 l)) spelled ∙ ap (take 8) (drop_at (four_bytes tree.shape.record_len) (eight_bytes tree.base) 4 (length-four_bytes tree.shape.record_len))
          ∙ take_all 8 (eight_bytes tree.base) (omega (arith, length-eight_bytes tree.base)),
    )

len_read : (bs : List ℕ) (tree : Tree) (len : ℕ) → bs ≡ entry_bytes (Some tree) → len < 2 ^ 32 → four_bytes len ≡ take 4 (drop 4 bs) → len ≡ tree.shape.record_len
len_read bs tree len is fits said = four_bytes_one len tree.shape.record_len fits (record_len_fits tree.shape) (said ∙ (reads bs tree is).1)

is_a_shape : (shape : Shape) → is_shape shape.depth shape.record_len ≡ true
is_a_shape shape =
    and_from (nat_le shape.depth 24 && nat_lt 0 shape.record_len) (nat_le ((shape.depth + 1) * shape.record_len + 6) LONGEST_BODY)
    (and_from (nat_le shape.depth 24) (nat_lt 0 shape.record_len) (le-leb shape.depth 24 shape.deep) (lt-ltb 0 shape.record_len shape.filled))
    (le-leb ((shape.depth + 1) * shape.record_len + 6) LONGEST_BODY shape.fits)

-- an entry whose numbers make no shape isn't that of a tree
pub no_shape : (bs : List ℕ) (len : ℕ) → len < 2 ^ 32 → four_bytes len ≡ take 4 (drop 4 bs) → is_shape (get_or bs 1 0) len ≡ false → (tree : Tree) → bs ≡ entry_bytes (Some tree) → ⊥
no_shape bs len fits said off tree is =
    let same : is_shape (get_or bs 1 0) len ≡ is_shape tree.shape.depth tree.shape.record_len =
    ap (λ (d : ℕ). is_shape d len) (reads bs tree is).0 ∙ ap (λ (l : ℕ). is_shape tree.shape.depth l) (len_read bs tree len is fits said) in
    false≢true (sym off ∙ same ∙ is_a_shape tree.shape)

-- and neither is an entry whose place leaves no room for the cells
pub no_place : (bs : List ℕ) (shape : Shape) (base : ℕ) → shape.depth ≡ get_or bs 1 0 → four_bytes shape.record_len ≡ take 4 (drop 4 bs) → base < 2 ^ 64 → eight_bytes base ≡ take 8 (drop 8 bs)
    → 2 ^ 62 < base + cells_len (sizes_of shape) → (tree : Tree) → bs ≡ entry_bytes (Some tree) → ⊥
no_place bs shape base depth len fits said past tree is =
    let its : shape ≡ tree.shape = shape_one shape tree.shape (depth ∙ (reads bs tree is).0) (len_read bs tree shape.record_len is (record_len_fits shape) len) in
    let place : base ≡ tree.base = eight_bytes_one base tree.base fits (omega (arith, tree.within)) (said ∙ (reads bs tree is).2) in
    let past_its : 2 ^ 62 < base + cells_len (sizes_of tree.shape) = subst (λ (s : Shape). 2 ^ 62 < base + cells_len (sizes_of s)) its past in
    let within : tree.base + cells_len (sizes_of tree.shape) ≤ 2 ^ 62 = tree.within in
    absurd (omega (arith, past_its, within, place))

-- the tree with the shape and the place that an entry says is the only one whose entry it can be
pub only_tree : (bs : List ℕ) (tree : Tree) → tree.shape.depth ≡ get_or bs 1 0 → four_bytes tree.shape.record_len ≡ take 4 (drop 4 bs) → eight_bytes tree.base ≡ take 8 (drop 8 bs)
    → (bs ≡ entry_bytes (Some tree) → ⊥) → (other : Tree) → bs ≡ entry_bytes (Some other) → ⊥
only_tree bs tree depth len base differs other is =
    let shape : tree.shape ≡ other.shape = shape_one tree.shape other.shape (depth ∙ (reads bs other is).0) (len_read bs other tree.shape.record_len is (record_len_fits tree.shape) len) in
    let place : tree.base ≡ other.base = eight_bytes_one tree.base other.base (omega (arith, tree.within)) (omega (arith, other.within)) (base ∙ (reads bs other is).2) in
    differs (is ∙ ap (λ (t : Tree). entry_bytes (Some t)) (sym (tree_one tree other shape place)))
