-- An entry depends only on the addresses and words up to its ticket.
use Rattle.std.specs.Io.{StartsWith}
use Rattle.std.proofs.Common.{◌≡◌, ℕ, zero, suc, ◌+◌, ◌*◌, ◌%◌, ◌<◌, ◌≤◌, ◌==◌, min, Bool, if◌then◌else◌, List, ◌++◌, length, get_or-take, slice_index, Option, Some, ap, sym, ◌∙◌, arith, length-append}
use Rattle.std.proofs.lemmas.List.{get_or_append_left, length-take}
use Rattle.std.proofs.lemmas.Nat.{div_below}
use Rattle.oram_geometry.specs.declared.Sizes.{Sizes}
use Rattle.oram_geometry.specs.Sizes.{trees_of, leaf_of, address_in}
use Rattle.oram_trace.specs.Tape.{entry, greatest_below, place_after, same_block, place, tree_at, ticket_at}
use Rattle.oram_trace.specs.TapeRearrangement.{tape_len}
use Rattle.oram_trace.proofs.Search.{greatest_below-zero, greatest_below-suc}
use Rattle.oram_trace.proofs.TreePlaces.{place-within}
use Rattle.oram_semantics.proofs.Bounds.{some_trees}

-- the first n of two lists are the same
abbrev pub AgreeBelow : ℕ → List ℕ → List ℕ → Type 0
AgreeBelow n xs ys = (k : ℕ) → k < n → slice_index xs k ≡ slice_index ys k

greatest_same : (p q : ℕ → Bool) (n : ℕ) → ((k : ℕ) → k < n → p k ≡ q k) → greatest_below p n ≡ greatest_below q n
greatest_same p q zero same = greatest_below-zero p ∙ sym (greatest_below-zero q)
greatest_same p q (suc n) same =
    greatest_below-suc p n ∙ ap (λ (b : Bool). if b then Some n else greatest_below p n) (same n (omega arith))
    ∙ ap (λ (o : Option ℕ). if q n then Some n else o) (greatest_same p q n (λ k below. same k (omega arith)))
    ∙ sym (greatest_below-suc q n)

place_same : (d : Sizes) (xs ys : List ℕ) (i t n : ℕ) → t < n → AgreeBelow n xs ys → place d xs i t ≡ place d ys i t
place_same d xs ys i t n below same =
    ap (place_after d i t) (greatest_same (same_block d xs i t) (same_block d ys i t) t (λ k before.
    ap (λ (x : ℕ). address_in d i x == address_in d i (slice_index xs t)) (same k (omega arith))
    ∙ ap (λ (x : ℕ). address_in d i (slice_index ys k) == address_in d i x) (same t below)))

-- an entry of n tickets is the same if their addresses and words are
pub entry_same : (d : Sizes) (xs ys words others : List ℕ) (n m : ℕ) → m < tape_len d n → AgreeBelow n xs ys
    → AgreeBelow (tape_len d n) words others → entry d xs words m ≡ entry d ys others m
entry_same d xs ys words others n m below same alike =
    let i : ℕ = tree_at d m in
    let t : ℕ = ticket_at d m in
    let some : 0 < trees_of d = some_trees d in
    let tree : i < trees_of d = omega arith in
    let ticket : t < n = div_below m (2 * trees_of d) n (omega arith) (omega arith) in
    ap (λ (x : ℕ). record { fetch = m % 2 == 0; tree = i; leaf = leaf_of d i x }) (
    ap (slice_index words) (place_same d xs ys i t n ticket same)
    ∙ alike (place d ys i t) (place-within d ys i t n tree ticket))

-- a list is at least as long as any list that it starts with,
pub start_short : (all xs : List ℕ) → StartsWith all xs → length xs ≤ length all
start_short all xs starts = let len : min (length xs) (length all) ≡ length xs = sym (length-take (length xs) all) ∙ ap length starts in omega arith

-- and agrees with it, and also with any list that that one starts with
pub start_agrees : (all xs ys rest : List ℕ) → StartsWith all xs → xs ≡ ys ++ rest → AgreeBelow (length ys) ys all
start_agrees all xs ys rest starts split k below =
    let len : length xs ≡ length ys + length rest = ap length split ∙ length-append ys rest in
    sym (get_or_append_left ys rest 0 k below) ∙ ap (λ (zs : List ℕ). slice_index zs k) (sym split ∙ sym starts)
    ∙ get_or-take (length xs) all k 0 (omega arith)
