-- The counts and lengths in a core's parts fit in the fields of a file.
use Rattle.std.proofs.Common.{◌≡◌, ℕ, suc, ◌+◌, ◌-◌, ◌*◌, ◌%◌, ◌^◌, ◌<◌, ◌≤◌, List, [], ◌∷◌, length, length-append, Option, Some, None, All, ap, arith, inl, inr}
use Rattle.std.specs.Int.{w32, to_be_bytes}
use Rattle.std.proofs.lemmas.Bool.{cases_eq}
use Rattle.std.proofs.lemmas.List.Elements.{All-nil, All-head, All-tail, All-cons}
use Rattle.std.proofs.Math.Nat.{mul-le-mul}
use Rattle.oram_geometry.specs.declared.Sizes.{Sizes}
use Rattle.oram_geometry.specs.Sizes.{IsDevice, blocks_in, depth_of, record_len_of}
use Rattle.oram_geometry.proofs.DeviceSizes.{blocks_in-range}
use Rattle.oram_bucket.specs.Bucket.{IsBlockOf}
use Rattle.oram_bucket.specs.Cell.{Cell, IsRising}
use Rattle.oram_tree.specs.Parts.{Parts as TreeParts, ArePartsOf}
use Rattle.oram_semantics.specs.Content.{entry_tree}
use Rattle.oram_semantics.specs.State.{State}
use Rattle.oram_semantics.specs.declared.events.Reason.{Reason}
use Rattle.oram_semantics.specs.declared.events.Submission.{Submission}
use Rattle.oram_semantics.proofs.Bounds.{depth_small}
use Rattle.oram_core.specs.Core.{IsAtWork, IsStoreOf, AtWork}
use Rattle.oram_core.specs.Validity.{AreTrees, IsFitting}
use Rattle.oram_core.specs.Parts.{Parts, AreParts, state_of, submissions_from}
use Rattle.oram_core.specs.declared.parts.Pending.{Pending}
use Rattle.oram_core.proofs.Fits.{fits_of, trees_of_parts}
use Rattle.oram_state.specs.WellSized.{HasCounts}

rising_head : (x : Cell) (xs : List Cell) → IsRising (x ∷ xs) → All (λ c. x.address < c.address) xs
rising_head x xs h = λ k d below. h 0 (suc k) d (omega arith) (omega (arith, below))

rising_tail : (x : Cell) (xs : List Cell) → IsRising (x ∷ xs) → IsRising xs
rising_tail x xs h = λ i j d less below. h (suc i) (suc j) d (omega (arith, less)) (omega (arith, below))

above : (a : ℕ) (xs : List Cell) → All (λ c. a < c.address) xs → All (λ c. a + 1 ≤ c.address) xs
above a [] h = All-nil (λ c. a + 1 ≤ c.address)
above a (y ∷ ys) h = let one : a < y.address = All-head (λ c. a < c.address) y ys h in All-cons (λ c. a + 1 ≤ c.address) y ys (omega (arith, one)) (above a ys (All-tail (λ c. a < c.address) y ys h))

-- there are no more rising addresses between two numbers than numbers
rising_between : (m n : ℕ) (cells : List Cell) → IsRising cells → All (λ c. m ≤ c.address) cells → All (λ c. c.address < n) cells → length cells ≤ n - m
rising_between m n [] rising low high = omega arith
rising_between m n (x ∷ xs) rising low high =
    let first : m ≤ x.address = All-head (λ c. m ≤ c.address) x xs low in
    let last : x.address < n = All-head (λ c. c.address < n) x xs high in
    let rest : length xs ≤ n - (x.address + 1) = rising_between (x.address + 1) n xs (rising_tail x xs rising) (above x.address xs (rising_head x xs rising)) (All-tail (λ c. c.address < n) x xs high) in
    omega (arith, first, last, rest)

all_from : (d : Sizes) (i : ℕ) (cells : List Cell) → All (IsBlockOf d i) cells → All (λ c. c.address < blocks_in d i) cells
all_from d i [] h = All-nil (λ c. c.address < blocks_in d i)
all_from d i (x ∷ xs) h = All-cons (λ c. c.address < blocks_in d i) x xs (All-head (IsBlockOf d i) x xs h).address_in (all_from d i xs (All-tail (IsBlockOf d i) x xs h))

all_zero : (cells : List Cell) → All (λ c. 0 ≤ c.address) cells
all_zero [] = All-nil (λ c. 0 ≤ c.address)
all_zero (x ∷ xs) = All-cons (λ c. 0 ≤ c.address) x xs (omega arith) (all_zero xs)

stash_few : (d : Sizes) (i : ℕ) (t : TreeParts) → IsDevice d → ArePartsOf d i t → length t.stash < 2 ^ 32
stash_few d i t ranges h =
    let few : length t.stash ≤ blocks_in d i - 0 = rising_between 0 (blocks_in d i) t.stash h.rising (all_zero t.stash) (all_from d i t.stash h.blocks) in
    let most = (blocks_in-range d ranges i).1 in
    omega (arith, few, most)

stashes_few : (d : Sizes) (i : ℕ) (ts : List TreeParts) → IsDevice d → AreTrees d i ts → All (λ t. length t.stash < 2 ^ 32) ts
stashes_few d i [] ranges h = All-nil (λ t. length t.stash < 2 ^ 32)
stashes_few d i (t ∷ ts) ranges h = All-cons (λ u. length u.stash < 2 ^ 32) t ts (stash_few d i t ranges h.0) (stashes_few d (i + 1) ts ranges h.1)

record_short : (d : Sizes) (o : ℕ) → IsDevice d → o ≤ 64 → record_len_of d o ≤ 32960
unfolding record_len_of
record_short d o ranges small =
    let bytes : 8 + d.block_bytes ≤ 4104 = omega (arith, ranges.few_bytes) in
    let slots : d.slots * (8 + d.block_bytes) ≤ 8 * 4104 = mul-le-mul ranges.few_slots bytes in
    omega (arith, slots, small)

store_short : (d : Sizes) (o i : ℕ) (m : List ℕ) → IsDevice d → o ≤ 64 → IsStoreOf d o i m → length m < 2 ^ 32
store_short d o i m ranges small h =
    let long : (depth_of d i + 1) * record_len_of d o ≤ 25 * 32960 = mul-le-mul (let deep = depth_small d i in let most : depth_of d i + 1 ≤ 25 = omega (arith, deep) in most) (record_short d o ranges small) in
    rw h.stores.body (omega (arith, length-append (to_be_bytes w32 h.leaf) h.stores.records, h.stores.long, long))

at_work_short : (d : Sizes) (o : ℕ) (s : State) (x : Submission) → IsDevice d → o ≤ 64 → IsAtWork d o s x → length s.message < 2 ^ 32
at_work_short d o s x ranges small w = elim (cases_eq (s.entry_number % 2) 0) [
  | inl even ↦ let e : length s.message ≡ 6 = ap length (w.fetch even) in omega (arith, e)
  | inr odd ↦ store_short d o (entry_tree d s.entry_number) s.message ranges small (w.store (omega (arith, odd)))
]

message_short : (d : Sizes) (o : ℕ) (s : State) (t : ℕ) (xs : List Pending) → IsDevice d → o ≤ 64 → AtWork d o s (submissions_from t xs) → length s.message < 2 ^ 32
message_short d o s t [] ranges small w = let e : length s.message ≡ 0 = ap length w.message in omega (arith, e)
message_short d o s t (x ∷ xs) ranges small w = at_work_short d o s _ ranges small w

counted_by : (o : ℕ) (p : Parts) (f : Option Reason) → AreParts o p → IsFitting o p f → HasCounts p
counted_by o p None are w = record {
  trees = stashes_few p.device 0 p.trees are.sound.ranges (trees_of_parts o p are);
  waiting = let few = w.waiting.most in omega (arith, few);
  message = message_short p.device o (state_of p) (p.tickets - length p.waiting) p.waiting are.sound.ranges are.sound.small w.work;
}
counted_by o p (Some e) are w = record {
  trees = stashes_few p.device 0 p.trees are.sound.ranges (trees_of_parts o p are);
  waiting = let none : length p.waiting ≡ 0 = ap length w.nothing.waiting in omega (arith, none);
  message = let none : length p.message ≡ 0 = ap length w.rests.message in omega (arith, none);
}

pub counted : (o : ℕ) (p : Parts) → AreParts o p → HasCounts p
counted o p are = counted_by o p p.failure are (fits_of o p are)
