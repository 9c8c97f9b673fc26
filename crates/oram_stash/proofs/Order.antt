-- Blocks by rising address: what a search finds, and what an edit at that place does.
use Rattle.std.proofs.Common.{◌≡◌, ℕ, zero, suc, ◌+◌, ◌-◌, ◌<◌, ◌≤◌, Bool, true, false, eqb, List, [], ◌∷◌, length, get_or, Some, None, Result, Ok, Err, IfOk, IfErr, refl, sym, ap, subst, ◌∙◌, inl, inr, arith}
use Rattle.std.specs.List.{insert, remove, find}
use Rattle.std.specs.List.Sorted.{IsSearchInRange, IsBinarySearchResult, IsNonDecreasingBy, IsPermutation}
use Rattle.std.specs.Ordering.{nat_cmp, ordering_index}
use Rattle.std.proofs.lemmas.Cmp.{ranked}
use Rattle.std.proofs.lemmas.List.Sorted.{IsPermutation-remove, IsPermutation-insert}
use Rattle.std.proofs.lemmas.List.Edits.{length-insert, get_or-insert_below, get_or-insert_at, get_or-insert_above}
use Rattle.std.proofs.lemmas.Bool.{cases_lt, ne_eqb, eq-eqb}
use Rattle.std.proofs.lemmas.Bool.Decides.{nat_tests}
use Rattle.oram_bucket.specs.declared.block.Block.{Block}
use Rattle.oram_bucket.specs.Cell.{IsRising}
use Rattle.oram_stash.specs.Blocks.{block_at, IsAt, IsGapFor}

-- the comparisons with an address rise along the list, as a binary search requires
comparisons_rise : (l : List Block) → IsRising l → (a : ℕ) → IsNonDecreasingBy (λ b. ordering_index (nat_cmp b.address a)) l
comparisons_rise l rising a i j d le in_range =
    let rise : (get_or l i d).address ≤ (get_or l j d).address = grind (arith, rising i j d, λ (same : i ≡ j). ap (λ k. (get_or l k d).address) same) in
    grind (arith, nat_tests)

-- a binary search by address ends at the address, or at the gap for it
pub searched : (l : List Block) → IsRising l → (a : ℕ) (r : Result ℕ ℕ) → IsSearchInRange r (length l) → IsBinarySearchResult (λ b. nat_cmp b.address a) l r → record { found : IfOk r (IsAt l a); absent : IfErr r (IsGapFor l a) }
searched l rising a (Ok at) in_range equal = record { found = record { in_range = in_range; has_address = λ d. ranked _ a _ (sym (equal d)) }; absent = tt }
searched l rising a (Err at) in_range parted =
    let parts = parted (comparisons_rise l rising a) in
    record {
      found = tt;
      absent = record {
        in_range = in_range;
        lesser_before = λ j d _ lt. ranked _ a _ (sym (parts.0 j d (omega arith) lt));
        greater_after = λ j d le lt. ranked _ a _ (sym (parts.1 j d le lt));
      };
    }

-- a test that no element passes finds none
pub find_none : {X : Type 0} (p : X → Bool) (l : List X) → ((j : ℕ) (d : X) → j < length l → p (get_or l j d) ≡ false) → find p l ≡ None
find_none p [] fails = refl
find_none p (x ∷ l) fails = rw (fails 0 x (omega arith)) (find_none p l (λ j d lt. fails (suc j) d (omega arith)))

-- a test that passes first at place i finds the element there
pub find_some : {X : Type 0} (p : X → Bool) (l : List X) (i : ℕ) (e : X) → i < length l → p (get_or l i e) ≡ true → ((j : ℕ) (d : X) → j < i → p (get_or l j d) ≡ false) → find p l ≡ Some (get_or l i e)
find_some p [] i e in_range here before = absurd (omega arith)
find_some p (x ∷ l) zero e in_range here before = rw here refl
find_some p (x ∷ l) (suc i) e in_range here before = rw (before 0 x (omega arith)) (find_some p l i e (omega arith) here (λ j d lt. before (suc j) d (omega arith)))

-- the block at the place of an address is the one that is found
pub block_at-found : (l : List Block) → IsRising l → (a i : ℕ) (e : Block) → IsAt l a i → block_at l a ≡ Some (get_or l i e)
block_at-found l rising a i e at = find_some (λ b. eqb b.address a) l i e at.in_range (eq-eqb _ _ (at.has_address e)) (λ j d lt. ne_eqb _ _ (let r = rising j i d lt at.in_range in let h = at.has_address d in omega arith))

-- an address with a gap is not found
pub block_at-gap : (l : List Block) (a i : ℕ) → IsGapFor l a i → block_at l a ≡ None
block_at-gap l a i gap = find_none (λ b. eqb b.address a) l (λ j d lt. ne_eqb _ _ (elim (cases_lt j i) [
  | inl before ↦ let h = gap.lesser_before j d (omega arith) before in omega arith
  | inr after ↦ let h = gap.greater_after j d after lt in omega arith
]))

-- a block that goes into its gap keeps the order
pub IsRising-insert : (l : List Block) (b : Block) (i : ℕ) → IsGapFor l b.address i → IsRising l → IsRising (insert l i b)
IsRising-insert l b at gap rising i j d lt in_range =
    let new = insert l at b in
    let length_new = length-insert l at b gap.in_range in
    let below : (i : ℕ) → i < at → (get_or new i d).address ≡ (get_or l i d).address = λ i h. ap (λ c. c.address) (get_or-insert_below l at b d i h gap.in_range) in
    let here : (i : ℕ) → i ≡ at → (get_or new i d).address ≡ b.address = λ i h. rw h (ap (λ c. c.address) (get_or-insert_at l at b d gap.in_range)) in
    let above : (i : ℕ) → at < i → (get_or new i d).address ≡ (get_or l (i - 1) d).address = λ i h. subst (λ q. (get_or new q d).address ≡ (get_or l (i - 1) d).address) {x = i - 1 + 1} (omega arith) (ap (λ c. c.address) (get_or-insert_above l at b d (i - 1) (omega arith) gap.in_range)) in
    grind (arith, below i, here i, above i, below j, here j, above j, rising i j d, rising i (j - 1) d, rising (i - 1) (j - 1) d, gap.lesser_before i d, gap.greater_after (j - 1) d)

-- the removed block is the one that is found; the items are the stash's, as its fields show them
pub block_at-removed : (items l : List Block) (a i : ℕ) (x : Block) → items ≡ l → IsRising l → IsAt l a i → x ≡ get_or items i x → Some x ≡ block_at l a
block_at-removed items l a i x same rising at read = sym (block_at-found l rising a i x at ∙ ap Some (sym (read ∙ ap (λ m. get_or m i x) same)))

-- and the other blocks stay
pub IsPermutation-removed : (items l : List Block) (a i : ℕ) (x : Block) → items ≡ l → IsAt l a i → x ≡ get_or items i x → IsPermutation l (x ∷ remove items i)
IsPermutation-removed items l a i x same at read = rw same (IsPermutation-remove l i x at.in_range (read ∙ ap (λ m. get_or m i x) same))

-- an absorbed block is in the stash together with the others
pub IsPermutation-absorbed : (items l : List Block) (i : ℕ) (x : Block) → items ≡ l → IsPermutation (x ∷ l) (insert items i x)
IsPermutation-absorbed items l i x same = rw same (IsPermutation-insert l i x)

pub IsRising-absorbed : (items l after : List Block) (b : Block) (i : ℕ) → items ≡ l → IsGapFor l b.address i → IsRising l → after ≡ insert items i b → IsRising after
IsRising-absorbed items l after b i same gap rising is = rw (is, same) (IsRising-insert l b i gap rising)
