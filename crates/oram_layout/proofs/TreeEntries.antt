-- A header has only one list of trees: an entry is that of one tree, or of none.
use Rattle.std.proofs.Common.{◌≡◌, ℕ, ◌+◌, ◌-◌, ◌*◌, ◌/◌, ◌^◌, ◌<◌, ◌≤◌, List, ◌++◌, length, take, drop, Option, Some, None, refl, sym, ◌∙◌, ap, subst, arith}
use Rattle.std.specs.Coded.{le_prop}
use Rattle.std.specs.Int.{w32, w64, to_le_bytes, from_le_bytes}
use Rattle.std.proofs.Math.Nat.{add-mul}
use Rattle.std.proofs.lemmas.List.{drop_at, ext_get_or, length-append, take_at}
use Rattle.std.proofs.lemmas.Nat.{from_le_bytes-to_le_bytes_4, from_le_bytes-to_le_bytes_8}
use Rattle.oram_redo.specs.Log.{check_bytes}
use Rattle.oram_pair.specs.Fronts.{eight_bytes}
use Rattle.oram_pair.proofs.EightBytes.{eight_bytes_one, length-eight_bytes}
use Rattle.oram_layout.specs.Header.{entry_bytes, entry_check, four_bytes}
use Rattle.oram_layout.specs.Laws.{TreesAreOne}
use Rattle.oram_layout.specs.Trees.{tree_at}
use Rattle.oram_layout.specs.declared.shapes.Shape.{Shape}
use Rattle.oram_layout.specs.declared.trees.Tree.{Tree}

pub four_bytes_are : (n : ℕ) → to_le_bytes w32 n ≡ four_bytes n
unfolding four_bytes
four_bytes_are n = refl

pub length-four_bytes : (len : ℕ) → length (four_bytes len) ≡ 4
unfolding four_bytes
length-four_bytes len = refl

pub length-entry_check : (depth record_len base : ℕ) → length (entry_check depth record_len base) ≡ 2
unfolding check_bytes
length-entry_check depth record_len base = refl

pub length-entry_bytes : (found : Option Tree) → length (entry_bytes found) ≡ 16
length-entry_bytes None = refl
length-entry_bytes (Some tree) =
    omega (
      arith,
      length-append (entry_check tree.shape.depth tree.shape.record_len tree.base) (four_bytes tree.shape.record_len ++ eight_bytes tree.base),
      length-entry_check tree.shape.depth tree.shape.record_len tree.base,
      length-append (four_bytes tree.shape.record_len) (eight_bytes tree.base),
      length-four_bytes tree.shape.record_len,
      length-eight_bytes tree.base,
    )

pub four_bytes_one : (a b : ℕ) → a < 2 ^ 32 → b < 2 ^ 32 → four_bytes a ≡ four_bytes b → a ≡ b
unfolding four_bytes
four_bytes_one a b ha hb e = sym (from_le_bytes-to_le_bytes_4 a ha) ∙ ap (λ (l : List ℕ). from_le_bytes w32 l) e ∙ from_le_bytes-to_le_bytes_4 b hb

pub record_len_small : (shape : Shape) → shape.record_len < 1_048_576
record_len_small shape =
    let whole : (shape.depth + 1) * shape.record_len ≡ shape.depth * shape.record_len + 1 * shape.record_len = add-mul shape.depth 1 shape.record_len in
    omega (arith, shape.fits, whole)

pub record_len_fits : (shape : Shape) → shape.record_len < 2 ^ 32
record_len_fits shape = omega (arith, record_len_small shape)

-- two shapes of the same depth and record length are equal, and so are two trees of the same shape and place
module _ (d l : ℕ) (deep deep' : d ≤ 24) (filled filled' : 0 < l) (fits fits' : (d + 1) * l + 6 ≤ 1_048_576) where
  same_shape : Path Shape (record { depth = d; record_len = l; deep = deep; filled = filled; fits = fits }) (record { depth = d; record_len = l; deep = deep'; filled = filled'; fits = fits' })
  same_shape = λ i. record { depth = d; record_len = l; deep = le_prop deep deep' i; filled = le_prop filled filled' i; fits = le_prop fits fits' i }

shape_along : (d l d' l' : ℕ) → d ≡ d' → l ≡ l' → (deep : d ≤ 24) (deep' : d' ≤ 24) (filled : 0 < l) (filled' : 0 < l') (fits : (d + 1) * l + 6 ≤ 1_048_576) (fits' : (d' + 1) * l' + 6 ≤ 1_048_576)
    → Path Shape (record { depth = d; record_len = l; deep = deep; filled = filled; fits = fits }) (record { depth = d'; record_len = l'; deep = deep'; filled = filled'; fits = fits' })
shape_along d l d' l' e f =
    subst (λ (x : ℕ). (deep : d ≤ 24) (deep' : x ≤ 24) (filled : 0 < l) (filled' : 0 < l') (fits : (d + 1) * l + 6 ≤ 1_048_576) (fits' : (x + 1) * l' + 6 ≤ 1_048_576)
    → Path Shape (record { depth = d; record_len = l; deep = deep; filled = filled; fits = fits }) (record { depth = x; record_len = l'; deep = deep'; filled = filled'; fits = fits' })) e
    (subst (λ (x : ℕ). (deep : d ≤ 24) (deep' : d ≤ 24) (filled : 0 < l) (filled' : 0 < x) (fits : (d + 1) * l + 6 ≤ 1_048_576) (fits' : (d + 1) * x + 6 ≤ 1_048_576)
    → Path Shape (record { depth = d; record_len = l; deep = deep; filled = filled; fits = fits }) (record { depth = d; record_len = x; deep = deep'; filled = filled'; fits = fits' })) f
    (λ deep deep' filled filled' fits fits'. same_shape d l deep deep' filled filled' fits fits'))

pub shape_one : (s t : Shape) → s.depth ≡ t.depth → s.record_len ≡ t.record_len → s ≡ t
shape_one s t e f = shape_along s.depth s.record_len t.depth t.record_len e f s.deep t.deep s.filled t.filled s.fits t.fits

tree_along : (s t : Shape) (b b' : ℕ) → s ≡ t → b ≡ b' → (within : b + (2 ^ (s.depth + 1) - 1) * (2 * ((s.record_len + 2) / 2)) ≤ 2 ^ 62) (within' : b' + (2 ^ (t.depth + 1) - 1) * (2 * ((t.record_len + 2) / 2)) ≤ 2 ^ 62)
    → Path Tree (record { shape = s; base = b; within = within }) (record { shape = t; base = b'; within = within' })
tree_along s t b b' e f =
    subst (λ (u : Shape). (within : b + (2 ^ (s.depth + 1) - 1) * (2 * ((s.record_len + 2) / 2)) ≤ 2 ^ 62) (within' : b' + (2 ^ (u.depth + 1) - 1) * (2 * ((u.record_len + 2) / 2)) ≤ 2 ^ 62)
    → Path Tree (record { shape = s; base = b; within = within }) (record { shape = u; base = b'; within = within' })) e
    (subst (λ (x : ℕ). (within : b + (2 ^ (s.depth + 1) - 1) * (2 * ((s.record_len + 2) / 2)) ≤ 2 ^ 62) (within' : x + (2 ^ (s.depth + 1) - 1) * (2 * ((s.record_len + 2) / 2)) ≤ 2 ^ 62)
    → Path Tree (record { shape = s; base = b; within = within }) (record { shape = s; base = x; within = within' })) f
    (λ within within'. λ i. record { shape = s; base = b; within = le_prop within within' i }))

pub tree_one : (s t : Tree) → s.shape ≡ t.shape → s.base ≡ t.base → s ≡ t
tree_one s t e f = tree_along s.shape t.shape s.base t.base e f s.within t.within

entry_one : (a b : Option Tree) → entry_bytes a ≡ entry_bytes b → a ≡ b
entry_one None None e = refl
entry_one None (Some b) e = absurd cc
entry_one (Some a) None e = absurd cc
entry_one (Some a) (Some b) e =
    let depth : a.shape.depth ≡ b.shape.depth = cc in
    let check : Tree → List ℕ = λ t. entry_check t.shape.depth t.shape.record_len t.base in
    let said : Tree → List ℕ = λ t. four_bytes t.shape.record_len ++ eight_bytes t.base in
    let long : (t : Tree) → length (check t) ≡ 2 = λ t. length-entry_check t.shape.depth t.shape.record_len t.base in
    let tails : check a ++ said a ≡ check b ++ said b = ap (λ (l : List ℕ). drop 2 l) e in
    let rest : said a ≡ said b = sym (drop_at (check a) (said a) 2 (long a)) ∙ ap (drop 2) tails ∙ drop_at (check b) (said b) 2 (long b) in
    let lens : four_bytes a.shape.record_len ≡ four_bytes b.shape.record_len =
    sym (take_at (four_bytes a.shape.record_len) (eight_bytes a.base) 4 (length-four_bytes a.shape.record_len)) ∙ ap (take 4) rest
    ∙ take_at (four_bytes b.shape.record_len) (eight_bytes b.base) 4 (length-four_bytes b.shape.record_len) in
    let bases : eight_bytes a.base ≡ eight_bytes b.base =
    sym (drop_at (four_bytes a.shape.record_len) (eight_bytes a.base) 4 (length-four_bytes a.shape.record_len)) ∙ ap (drop 4) rest
    ∙ drop_at (four_bytes b.shape.record_len) (eight_bytes b.base) 4 (length-four_bytes b.shape.record_len) in
    let len : a.shape.record_len ≡ b.shape.record_len = four_bytes_one a.shape.record_len b.shape.record_len (record_len_fits a.shape) (record_len_fits b.shape) lens in
    let base : a.base ≡ b.base = eight_bytes_one a.base b.base (omega (arith, a.within)) (omega (arith, b.within)) bases in
    ap (λ (t : Tree). Some t) (tree_one a b (shape_one a.shape b.shape depth len) base)

pub trees_one : TreesAreOne
trees_one trees others c has one =
    ext_get_or None trees others (has.all ∙ sym one.all) (λ i h.
    let below : i < 256 = omega (arith, has.all, h) in
    entry_one (tree_at trees i) (tree_at others i) (sym (has.each i below) ∙ one.each i below))
