-- The steps of the loop that moves blocks to their lists.
use Rattle.std.proofs.Common.{◌≡◌, ℕ, zero, suc, ◌+◌, ◌<◌, ◌≤◌, cond, List, [], ◌∷◌, ◌++◌, length, get_or, set, take, map, Some, None, Option, Vec, Global, vec_len, vec_capacity, Bool, refl, sym, ap, ◌∙◌, arith}
use Rattle.std.specs.List.{count_by, All, zip}
use Rattle.std.proofs.lemmas.List.{length-take-le, get_or-map, map-set, get_or_default, length-map}
use Rattle.std.proofs.lemmas.List.Sums.{sum_by_more_le, count_by-le-length}
use Rattle.std.proofs.lemmas.List.Elements.{All-tail}
use Rattle.std.proofs.lemmas.Slice.Zip.{length-zip, get_or-zip}
use Rattle.std.proofs.lemmas.List.Sorted.{IsPermutation-refl}
use Rattle.std.proofs.lemmas.Bool.{eq-eqb}
use Rattle.oram_stash.specs.Plan.{level_at, list_at, joined, is_level, stays, picked}
use Rattle.oram_stash.proofs.Picks.{Moved, Moved-listed, Moved-rest, length-picked}

-- the lists in vectors
abbrev pub items_of : {X : Type 0} → List (Vec X Global) → List (List X)
items_of {X} lists = map (λ (list : Vec X Global). list.items) lists

-- a pair of two lists, at its place in each
pub record ReadsPair {X : Type 0} (bs : List X) (qs : List (Option ℕ)) (k : ℕ) (b : X) (q : Option ℕ) : Type 0 where
  pub in_blocks : k < length bs
  pub in_levels : k < length qs
  pub block : b ≡ get_or bs k b
  pub level : level_at qs k ≡ q

pub zip_read : {X : Type 0} (bs : List X) (qs : List (Option ℕ)) (k : ℕ) (b : X) (q : Option ℕ) → k < length (zip bs qs) → (let p : X × Option ℕ = (b, q) in p ≡ get_or (zip bs qs) k p) → ReadsPair bs qs k b q
zip_read {X} bs qs k b q within read =
    let short = length-zip bs qs in
    let in_bs : k < length bs = omega arith in
    let in_qs : k < length qs = omega arith in
    let both = read ∙ get_or-zip bs qs k (b, q) in_bs in_qs in
    record {
      in_blocks = in_bs;
      in_levels = in_qs;
      block = ap (λ (p : X × Option ℕ). p.0) both;
      level = get_or_default qs k None q in_qs ∙ sym (ap (λ (p : X × Option ℕ). p.1) both);
    }

empty_listed : {X : Type 0} (lists : List (Vec X Global)) → All (λ list. list.items ≡ []) lists → (l : ℕ) → list_at (items_of lists) l ≡ []
empty_listed [] empty l = refl
empty_listed (v ∷ lists) empty zero = empty 0 v (omega arith)
empty_listed {X} (v ∷ lists) empty (suc l) = empty_listed lists (All-tail (λ (list : Vec X Global). list.items ≡ []) v lists empty) l

empty_all : {X : Type 0} (lists : List (Vec X Global)) → All (λ list. list.items ≡ []) lists → joined (items_of lists) ≡ []
empty_all [] empty = refl
empty_all {X} (v ∷ lists) empty = rw (empty 0 v (omega arith)) (empty_all lists (All-tail (λ (list : Vec X Global). list.items ≡ []) v lists empty))

-- at first nothing is moved
pub Moved-none : {X : Type 0} (levels : List (Option ℕ)) (blocks : List X) (lists : List (Vec X Global)) (rest : List X) → All (λ list. list.items ≡ []) lists → rest ≡ [] → Moved levels blocks 0 (items_of lists) rest
Moved-none levels blocks lists rest empty none = record {
  to_list = λ l. empty_listed lists empty l;
  to_rest = none;
  each_once = rw (empty_all lists empty, none) (IsPermutation-refl []);
}

module _ {X : Type 0} (levels : List (Option ℕ)) (blocks : List X) (k : ℕ) (lists : List (Vec X Global)) (rest : List X) (moved : Moved levels blocks k (items_of lists) rest) (b : X) (q : Option ℕ) (read : ReadsPair blocks levels k b q) where
  length_so_far : (p : Option ℕ → Bool) → length (picked p (take k levels) (take k blocks)) ≡ count_by p (take k levels)
  length_so_far p =
      let a = length-take-le k levels (omega (arith, read.in_levels)) in
      let c = length-take-le k blocks (omega (arith, read.in_blocks)) in
      length-picked p (take k levels) (take k blocks) (omega arith)

  list_items : (l : ℕ) (v : Vec X Global) → l < length lists → v ≡ get_or lists l v → list_at (items_of lists) l ≡ v.items
  list_items l v lt at = get_or-map (λ (list : Vec X Global). list.items) lists l v [] lt ∙ ap (λ (list : Vec X Global). list.items) (sym at)

  -- the list of the block's level has room
  pub room_in_list : (l : ℕ) (v : Vec X Global) → q ≡ Some l → l < length lists → v ≡ get_or lists l v → count_by (is_level l) levels ≤ vec_capacity v → vec_len v < vec_capacity v
  room_in_list l v is lt at room =
      let count : length v.items ≡ count_by (is_level l) (take k levels) = ap length (sym (list_items l v lt at) ∙ moved.to_list l) ∙ length_so_far (is_level l) in
      let more = rw (read.level, is, eq-eqb l l refl) at (sum_by_more_le (λ x. cond (is_level l x) 1 0) levels k None read.in_levels) in
      omega (arith, v.ok.0)

  -- the rest has room
  pub room_in_rest : (v : Vec X Global) → v.items ≡ rest → length blocks ≤ vec_capacity v → vec_len v < vec_capacity v
  room_in_rest v is room =
      let count : length v.items ≡ count_by stays (take k levels) = ap length (is ∙ moved.to_rest) ∙ length_so_far stays in
      let a = count_by-le-length stays (take k levels) in
      let c = length-take-le k levels (omega (arith, read.in_levels)) in
      omega (arith, v.ok.0, read.in_blocks)

  pub Moved-pushed : (l : ℕ) (v w : Vec X Global) → q ≡ Some l → l < length lists → v ≡ get_or lists l v → w.items ≡ v.items ++ b ∷ [] → Moved levels blocks (k + 1) (items_of (set lists l w)) rest
  Moved-pushed l v w is lt at pushed =
      let in_lists : l < length (items_of lists) = rw length-map lt in
      rw (map-set (λ (list : Vec X Global). list.items) lists l w, pushed, ← list_items l v lt at)
      (Moved-listed levels blocks k (items_of lists) rest moved b read.in_blocks read.in_levels read.block l (read.level ∙ is) in_lists)

  pub Moved-kept : (after : List X) → q ≡ None → after ≡ rest ++ b ∷ [] → Moved levels blocks (k + 1) (items_of lists) after
  Moved-kept after is pushed = rw pushed (Moved-rest levels blocks k (items_of lists) rest moved b read.in_blocks read.in_levels read.block (read.level ∙ is))
