-- The slots of a spelling have no fault.
use Rattle.std.proofs.Common.{◌≡◌, ◌≢◌, ℕ, zero, suc, ◌+◌, ◌-◌, ◌*◌, ◌^◌, ◌<◌, ◌≤◌, ◌==◌, ◌&&◌, Bool, true, false, not, List, [], ◌∷◌, ◌++◌, length, take, drop, get_or, All, replicate, Option, Some, None, refl, sym, ap, ◌∙◌, inl, inr, ◌⊎◌, arith, append_assoc, nat_lt, nat_le, slice_get, if◌then◌else◌}
use Rattle.std.proofs.Math.Seq.{drop-append-add}
use Rattle.std.proofs.lemmas.Bool.{cases_lt, le-ltb, ltb-false, eq-eqb, eqb-false, ne_eqb, eqb-true}
use Rattle.std.proofs.lemmas.Bool.Decides.{nat_tests}
use Rattle.std.proofs.lemmas.List.{drop-replicate, take-replicate, drop-drop, take_at, drop_at}
use Rattle.std.proofs.lemmas.List.Elements.{All-head, All-tail, All-weaker}
use Rattle.std.proofs.lemmas.Nat.{from_be_bytes-to_be_bytes_4}
use Rattle.std.specs.List.{flat_map, list_all, filter_map, range_with_len}
use Rattle.std.specs.Int.{w32, from_be_bytes}
use Rattle.oram_geometry.specs.declared.Sizes.{Sizes}
use Rattle.oram_geometry.specs.Sizes.{blocks_in, depth_of, bucket_len}
use Rattle.oram_bucket.specs.declared.codec.BucketFault.{BucketFault}
use Rattle.oram_bucket.specs.declared.codec.BucketFault.TheVariants.{Length, Address, Order, Leaf, Dummy}
use Rattle.oram_bucket.specs.Cell.{Cell}
use Rattle.oram_bucket.specs.Bucket.{IsBlockOf, IsBucketOf, IsSpelling, spelling, slot_of, slot_len}
use Rattle.oram_bucket.specs.Slots.{number_of, leaf_of, slot_at, number_before}
use Rattle.oram_bucket.specs.Fault.{may_follow, fault_behind, slot_fault, first_fault}
use Rattle.oram_bucket.proofs.UniqueEncoding.{IsSmall, length-slot, length-slots, small_blocks, HasFew}

-- ---- the first of the faults

none_from : (f : ℕ → Option BucketFault) (a n : ℕ) → ((j : ℕ) → a ≤ j → j < a + n → f j ≡ None) → filter_map f (range_with_len a n) ≡ []
none_from f a zero clean = refl
none_from f a (suc n) clean = rw (clean a (omega arith) (omega arith)) (none_from f (a + 1) n (λ j l h. clean j (omega arith) (omega arith)))

first_from : (f : ℕ → Option BucketFault) (a n k : ℕ) (x : BucketFault) → a ≤ k → k < a + n → ((j : ℕ) → a ≤ j → j < k → f j ≡ None) → f k ≡ Some x
    → slice_get (filter_map f (range_with_len a n)) 0 ≡ Some x
first_from f a zero k x low high clean here = absurd (omega arith)
first_from f a (suc n) k x low high clean here = elim (cases_lt a k) [
  | inl later ↦ rw (clean a (omega arith) later) (first_from f (a + 1) n k x (omega arith) (omega arith) (λ j l h. clean j (omega arith) h) here)
  | inr now ↦
      let same : a ≡ k = omega arith in
      rw (same, here) refl
]

pub no_fault : (d : Sizes) (i : ℕ) (bytes : List ℕ) → length bytes ≡ bucket_len d → ((j : ℕ) → j < d.slots → slot_fault d i bytes j ≡ None) → first_fault d i bytes ≡ None
unfolding first_fault
no_fault d i bytes long clean =
    let none : slice_get (filter_map (slot_fault d i bytes) (range_with_len 0 d.slots)) 0 ≡ None = ap (λ (fs : List BucketFault). slice_get fs 0) (none_from (slot_fault d i bytes) 0 d.slots (λ j l h. clean j (omega arith))) in
    rw (eq-eqb (length bytes) (bucket_len d) long) none

pub first_of_slots : (d : Sizes) (i : ℕ) (bytes : List ℕ) (k : ℕ) (f : BucketFault) → length bytes ≡ bucket_len d → k < d.slots → ((j : ℕ) → j < k → slot_fault d i bytes j ≡ None)
    → slot_fault d i bytes k ≡ Some f → first_fault d i bytes ≡ Some f
unfolding first_fault
first_of_slots d i bytes k f long within clean here =
    rw (eq-eqb (length bytes) (bucket_len d) long) (first_from (slot_fault d i bytes) 0 d.slots k f (omega arith) (omega arith) (λ j l h. clean j h) here)

pub wrong_length : (d : Sizes) (i : ℕ) (bytes : List ℕ) → length bytes ≢ bucket_len d → first_fault d i bytes ≡ Some Length
unfolding first_fault
wrong_length d i bytes other = rw (ne_eqb (length bytes) (bucket_len d) other) refl

-- ---- the fault of one slot, by the five tests that it takes

abbrev pub chosen : Bool → Bool → Bool → Bool → Bool → Option BucketFault
chosen dummy zeros over follows out =
    if dummy then (if zeros then None else Some Dummy)
    else if over then Some Address
    else if not follows then Some Order
    else if out then Some Leaf
    else None

abbrev pub tested : ℕ → ℕ → Option ℕ → List ℕ → Option BucketFault
tested blocks leaves before slot = chosen (number_of slot == 0) (list_all (λ b. b == 0) slot) (nat_lt blocks (number_of slot)) (may_follow before (number_of slot)) (nat_le leaves (leaf_of slot))

pub fault_tested : (blocks leaves : ℕ) (before : Option ℕ) (slot : List ℕ) → fault_behind blocks leaves before slot ≡ tested blocks leaves before slot
unfolding fault_behind
fault_tested blocks leaves before slot = refl

-- the content of a real slot without a fault
pub record IsRealSlot (blocks leaves : ℕ) (before : Option ℕ) (slot : List ℕ) : Type 0 where
  pub some : 0 < number_of slot
  pub address_in : number_of slot ≤ blocks
  pub follows : may_follow before (number_of slot) ≡ true
  pub leaf_in : leaf_of slot < leaves

-- a dummy without a fault
pub record IsDummySlot (slot : List ℕ) : Type 0 where
  pub none : number_of slot ≡ 0
  pub zeros : list_all (λ b. b == 0) slot ≡ true

decided : (dummy zeros over follows out : Bool) → chosen dummy zeros over follows out ≡ None
    → ((dummy ≡ true) × (zeros ≡ true)) ⊎ ((dummy ≡ false) × (over ≡ false) × (follows ≡ true) × (out ≡ false))
decided true true over follows out e = inl (refl, refl)
decided true false over follows out e = cc
decided false zeros true follows out e = cc
decided false zeros false false out e = cc
decided false zeros false true true e = cc
decided false zeros false true false e = inr (refl, refl, refl, refl)

pub slot_without_fault : (blocks leaves : ℕ) (before : Option ℕ) (slot : List ℕ) → fault_behind blocks leaves before slot ≡ None → IsRealSlot blocks leaves before slot ⊎ IsDummySlot slot
slot_without_fault blocks leaves before slot e = elim (decided _ _ _ _ _ (sym (fault_tested blocks leaves before slot) ∙ e)) [
  | inl h ↦ inr (record { none = eqb-true _ _ h.0; zeros = h.1 })
  | inr h ↦
      let real = eqb-false (number_of slot) 0 h.0 in
      inl (record { some = grind arith; address_in = ltb-false _ _ h.1; follows = h.2; leaf_in = grind (arith, nat_tests) })
]

pub real_without_fault : (blocks leaves : ℕ) (before : Option ℕ) (slot : List ℕ) → IsRealSlot blocks leaves before slot → fault_behind blocks leaves before slot ≡ None
real_without_fault blocks leaves before slot real =
    let dummy : (number_of slot == 0) ≡ false = ne_eqb (number_of slot) 0 (λ e. omega (arith, real.some)) in
    let over : nat_lt blocks (number_of slot) ≡ false = le-ltb blocks (number_of slot) real.address_in in
    let out : nat_le leaves (leaf_of slot) ≡ false = not_le leaves (leaf_of slot) real.leaf_in in
    let follows = real.follows in
    fault_tested blocks leaves before slot ∙ rw (dummy, over, follows, out) refl
  where
    not_le : (m n : ℕ) → n < m → nat_le m n ≡ false
    not_le m n h = grind (arith, nat_tests)

pub dummy_without_fault : (blocks leaves : ℕ) (before : Option ℕ) (slot : List ℕ) → IsDummySlot slot → fault_behind blocks leaves before slot ≡ None
dummy_without_fault blocks leaves before slot dummy =
    let none : (number_of slot == 0) ≡ true = eq-eqb (number_of slot) 0 dummy.none in
    let zeros = dummy.zeros in
    fault_tested blocks leaves before slot ∙ rw (none, zeros) refl

-- ---- the slots of a spelling

pub number_of-slot : (c : Cell) → c.address + 1 < 2 ^ 32 → number_of (slot_of c) ≡ c.address + 1
number_of-slot c h = from_be_bytes-to_be_bytes_4 (c.address + 1) h

pub leaf_of-slot : (c : Cell) → c.leaf < 2 ^ 32 → leaf_of (slot_of c) ≡ c.leaf
leaf_of-slot c h = from_be_bytes-to_be_bytes_4 c.leaf h

all_zeros : (n : ℕ) → list_all (λ b. b == 0) (replicate n 0) ≡ true
all_zeros zero = refl
all_zeros (suc n) = all_zeros n

pub zeros_are_dummy : (len : ℕ) → IsDummySlot (replicate (8 + len) 0)
zeros_are_dummy len = record { none = ap (from_be_bytes w32) (take-replicate {X = ℕ} 4 (8 + len) 0 (omega arith)); zeros = all_zeros (8 + len) }

slot_real : (len : ℕ) (cells : List Cell) (rest : List ℕ) (j : ℕ) (c : Cell) → All (λ x. length x.content ≡ len) cells → j < length cells
    → take (8 + len) (drop (j * (8 + len)) (flat_map slot_of cells ++ rest)) ≡ slot_of (get_or cells j c)
slot_real len [] rest j c all h = absurd (omega arith)
slot_real len (x ∷ cells) rest zero c all h =
    let start : 0 * (8 + len) ≡ 0 = omega arith in
    ap (λ (n : ℕ). take (8 + len) (drop n ((slot_of x ++ flat_map slot_of cells) ++ rest))) start
    ∙ ap (take (8 + len)) (append_assoc (slot_of x) (flat_map slot_of cells) rest)
    ∙ take_at (slot_of x) (flat_map slot_of cells ++ rest) (8 + len) (length-slot len x (All-head (λ (y : Cell). length y.content ≡ len) x cells all))
slot_real len (x ∷ cells) rest (suc j) c all h =
    let place : suc j * (8 + len) ≡ 8 + len + j * (8 + len) = omega arith in
    let whole = (slot_of x ++ flat_map slot_of cells) ++ rest in
    let later : drop (8 + len) whole ≡ flat_map slot_of cells ++ rest =
    ap (drop (8 + len)) (append_assoc (slot_of x) (flat_map slot_of cells) rest)
    ∙ drop_at (slot_of x) (flat_map slot_of cells ++ rest) (8 + len) (length-slot len x (All-head (λ (y : Cell). length y.content ≡ len) x cells all)) in
    ap (λ (n : ℕ). take (8 + len) (drop n whole)) place
    ∙ ap (take (8 + len)) (sym (drop-drop (j * (8 + len)) (8 + len) whole) ∙ ap (drop (j * (8 + len))) later)
    ∙ slot_real len cells rest j c (All-tail (λ (y : Cell). length y.content ≡ len) x cells all) (omega arith)

slot_dummy : (len full m j : ℕ) (front : List ℕ) → length front ≡ full * (8 + len) → full ≤ j → j < full + m
    → take (8 + len) (drop (j * (8 + len)) (front ++ replicate (m * (8 + len)) 0)) ≡ replicate (8 + len) 0
slot_dummy len full m j front long low high =
    let e = j - full in
    let j_is : j ≡ full + e = omega arith in
    let m_is : m ≡ e + 1 + (m - e - 1) = omega arith in
    let place : j * (8 + len) ≡ length front + e * (8 + len) = omega (arith, ap (λ (n : ℕ). n * (8 + len)) j_is) in
    let room : 8 + len ≤ m * (8 + len) - e * (8 + len) = omega (arith, ap (λ (n : ℕ). n * (8 + len)) m_is) in
    ap (λ (n : ℕ). take (8 + len) (drop n (front ++ replicate (m * (8 + len)) 0))) place
    ∙ ap (take (8 + len)) (drop-append-add front (replicate (m * (8 + len)) 0) (e * (8 + len)) ∙ drop-replicate {X = ℕ} (e * (8 + len)) (m * (8 + len)) 0)
    ∙ take-replicate {X = ℕ} (8 + len) (m * (8 + len) - e * (8 + len)) 0 room

-- slot j of a spelling
at_spelling : (d : Sizes) (i : ℕ) (cells : List Cell) (j : ℕ) (c : Cell) → IsBucketOf d i cells → j < length cells → slot_at d (spelling d cells) j ≡ slot_of (get_or cells j c)
unfolding slot_at spelling
at_spelling d i cells j c of h =
    let whole = All-weaker (IsBlockOf d i) (λ x. length x.content ≡ d.block_bytes) (λ x b. b.whole) cells of.blocks in
    slot_real d.block_bytes cells (replicate ((d.slots - length cells) * slot_len d) 0) j c whole h

after_spelling : (d : Sizes) (i : ℕ) (cells : List Cell) (j : ℕ) → IsBucketOf d i cells → length cells ≤ j → j < d.slots → slot_at d (spelling d cells) j ≡ replicate (slot_len d) 0
unfolding slot_at spelling
after_spelling d i cells j of low high =
    let whole = All-weaker (IsBlockOf d i) (λ x. length x.content ≡ d.block_bytes) (λ x b. b.whole) cells of.blocks in
    slot_dummy d.block_bytes (length cells) (d.slots - length cells) j (flat_map slot_of cells) (length-slots d.block_bytes cells whole) low (omega arith)

-- the number of the slot before a real slot of a spelling is less
before_spelling : (d : Sizes) (i : ℕ) (cells : List Cell) (j : ℕ) (c : Cell) → HasFew d i → IsBucketOf d i cells → j < length cells
    → may_follow (number_before d (spelling d cells) j) ((get_or cells j c).address + 1) ≡ true
before_spelling d i cells zero c few of h = refl
before_spelling d i cells (suc j) c few of h =
    let here = get_or cells j c in
    let small : IsSmall d.block_bytes here = small_blocks d i cells few of.blocks j c (omega arith) in
    let number : number_of (slot_at d (spelling d cells) j) ≡ here.address + 1 = ap number_of (at_spelling d i cells j c of (omega arith)) ∙ number_of-slot here small.number in
    let below : here.address < (get_or cells (suc j) c).address = of.rising j (suc j) c (omega arith) h in
    ap (λ (n : ℕ). may_follow (Some n) ((get_or cells (suc j) c).address + 1)) number ∙ both here.address (get_or cells (suc j) c).address below
  where
    both : (m n : ℕ) → m < n → (nat_lt 0 (m + 1) && nat_lt (m + 1) (n + 1)) ≡ true
    both m n h = grind (arith, nat_tests)

-- no slot of a spelling has a fault
pub spelled_without_fault : (d : Sizes) (i : ℕ) (cells : List Cell) (bytes : List ℕ) → HasFew d i → IsSpelling d i cells bytes → (j : ℕ) → j < d.slots → slot_fault d i bytes j ≡ None
spelled_without_fault d i cells bytes few spelled j h =
    let of = spelled.bucket in
    ap (λ (bs : List ℕ). slot_fault d i bs j) spelled.spelled ∙ elim (cases_lt j (length cells)) [
      | inl real ↦
          let c : Cell = record { address = 0; leaf = 0; content = [] } in
          let here = get_or cells j c in
          let small : IsSmall d.block_bytes here = small_blocks d i cells few of.blocks j c real in
          let block : IsBlockOf d i here = of.blocks j c real in
          let slot = at_spelling d i cells j c of real in
          let number : number_of (slot_at d (spelling d cells) j) ≡ here.address + 1 = ap number_of slot ∙ number_of-slot here small.number in
          let leaf : leaf_of (slot_at d (spelling d cells) j) ≡ here.leaf = ap leaf_of slot ∙ leaf_of-slot here small.leaf_in in
          real_without_fault (blocks_in d i) (2 ^ depth_of d i) (number_before d (spelling d cells) j) (slot_at d (spelling d cells) j) (record {
            some = omega (arith, number);
            address_in = omega (arith, number, block.address_in);
            follows = ap (may_follow (number_before d (spelling d cells) j)) number ∙ before_spelling d i cells j c few of real;
            leaf_in = omega (arith, leaf, block.leaf_in);
          })
      | inr dummy ↦
          ap (fault_behind (blocks_in d i) (2 ^ depth_of d i) (number_before d (spelling d cells) j)) (after_spelling d i cells j of dummy h)
          ∙ dummy_without_fault (blocks_in d i) (2 ^ depth_of d i) (number_before d (spelling d cells) j) (replicate (slot_len d) 0) (zeros_are_dummy d.block_bytes)
    ]
