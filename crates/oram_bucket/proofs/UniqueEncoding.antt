-- A bucket has exactly one spelling, and a spelling belongs to exactly one bucket.
use Rattle.std.proofs.Common.{◌≡◌, ℕ, zero, suc, ◌+◌, ◌-◌, ◌*◌, ◌^◌, ◌<◌, ◌≤◌, List, [], ◌∷◌, ◌++◌, length, take, drop, get_or, All, replicate, Option, Some, refl, sym, ap, ◌∙◌, arith, append_assoc, length-append}
use Rattle.std.proofs.Math.Seq.{take-append_seam, drop-append_seam}
use Rattle.std.proofs.Math.Nat.{pow-le-pow_right}
use Rattle.std.proofs.lemmas.List.{length-replicate, take_all, take_more, flat_map_more}
use Rattle.std.proofs.lemmas.List.Elements.{All-head, All-tail, All-weaker}
use Rattle.std.proofs.lemmas.Nat.{from_be_bytes-to_be_bytes_4}
use Rattle.std.specs.List.{flat_map}
use Rattle.std.specs.Int.{w32, to_be_bytes, from_be_bytes}
use Rattle.oram_geometry.specs.declared.Sizes.{Sizes}
use Rattle.oram_geometry.specs.Sizes.{IsDevice, blocks_in, depth_of, bucket_len}
use Rattle.oram_geometry.proofs.DeviceSizes.{blocks_in-range, blocks_in-room, level_for-range}
use Rattle.oram_bucket.specs.Bytes.{IsBytes}
use Rattle.oram_bucket.specs.Cell.{Cell}
use Rattle.oram_bucket.specs.SealedBlocks.{Reads}
use Rattle.oram_bucket.specs.Bucket.{IsBlockOf, IsBucketOf, spelling, slot_of, slot_len}

-- if two joined lists are equal and their first parts are equally long, their parts are equal
cut : (a b c d : List ℕ) → length a ≡ length b → a ++ c ≡ b ++ d → (a ≡ b) × (c ≡ d)
cut a b c d same e = (
  sym (take-append_seam a c) ∙ ap (λ (n : ℕ). take n (a ++ c)) same ∙ ap (take (length b)) e ∙ take-append_seam b d,
  sym (drop-append_seam a c) ∙ ap (λ (n : ℕ). drop n (a ++ c)) same ∙ ap (drop (length b)) e ∙ drop-append_seam b d,
)

length-word : (n : ℕ) → length (to_be_bytes w32 n) ≡ 4
length-word n = refl

word-injective : (m n : ℕ) → m < 2 ^ 32 → n < 2 ^ 32 → to_be_bytes w32 m ≡ to_be_bytes w32 n → m ≡ n
word-injective m n hm hn e = sym (from_be_bytes-to_be_bytes_4 m hm) ∙ ap (from_be_bytes w32) e ∙ from_be_bytes-to_be_bytes_4 n hn

-- the bounds that a slot's fields need
pub record IsSmall (len : ℕ) (c : Cell) : Type 0 where
  pub number : c.address + 1 < 2 ^ 32
  pub leaf_in : c.leaf < 2 ^ 32
  pub whole : length c.content ≡ len

pub length-slot : (len : ℕ) (c : Cell) → length c.content ≡ len → length (slot_of c) ≡ 8 + len
length-slot len c whole = length-append (to_be_bytes w32 (c.address + 1) ++ to_be_bytes w32 c.leaf) c.content ∙ omega (arith, length-append (to_be_bytes w32 (c.address + 1)) (to_be_bytes w32 c.leaf), length-word (c.address + 1), length-word c.leaf)

slot-injective : (len : ℕ) (c d : Cell) → IsSmall len c → IsSmall len d → slot_of c ≡ slot_of d → c ≡ d
slot-injective len c d small small2 e =
    let tail = cut (to_be_bytes w32 (c.address + 1) ++ to_be_bytes w32 c.leaf) (to_be_bytes w32 (d.address + 1) ++ to_be_bytes w32 d.leaf) c.content d.content
    (length-append (to_be_bytes w32 (c.address + 1)) (to_be_bytes w32 c.leaf) ∙ sym (length-append (to_be_bytes w32 (d.address + 1)) (to_be_bytes w32 d.leaf))) e in
    let words = cut (to_be_bytes w32 (c.address + 1)) (to_be_bytes w32 (d.address + 1)) (to_be_bytes w32 c.leaf) (to_be_bytes w32 d.leaf) refl tail.0 in
    let number : c.address + 1 ≡ d.address + 1 = word-injective (c.address + 1) (d.address + 1) small.number small2.number words.0 in
    let address : c.address ≡ d.address = omega arith in
    let leaf : c.leaf ≡ d.leaf = word-injective c.leaf d.leaf small.leaf_in small2.leaf_in words.1 in
    let make : ℕ → ℕ → List ℕ → Cell = λ a l bytes. record { address = a; leaf = l; content = bytes } in
    ap (λ (a : ℕ). make a c.leaf c.content) address ∙ ap (λ (l : ℕ). make d.address l c.content) leaf ∙ ap (λ (bytes : List ℕ). make d.address d.leaf bytes) tail.1

-- a slot, field by field, and what follows it
fields_of : (c : Cell) (more : List ℕ) → slot_of c ++ more ≡ to_be_bytes w32 (c.address + 1) ++ (to_be_bytes w32 c.leaf ++ (c.content ++ more))
fields_of c more =
    append_assoc (to_be_bytes w32 (c.address + 1) ++ to_be_bytes w32 c.leaf) c.content more
    ∙ append_assoc (to_be_bytes w32 (c.address + 1)) (to_be_bytes w32 c.leaf) (c.content ++ more)

-- zeros don't begin with a block's slot
no_slot : (len a : ℕ) (c : Cell) (more : List ℕ) → IsSmall len c → replicate a 0 ≡ slot_of c ++ more → ⊥
no_slot len a c more small e =
    let long : 4 ≤ a = omega (arith, ap length e, length-replicate {A = ℕ} a 0, length-append (slot_of c) more, length-slot len c small.whole) in
    let parts : suc (suc (suc (suc (a - 4)))) ≡ a = omega arith in
    no_number (a - 4) c more small (ap (λ (n : ℕ). replicate n 0) parts ∙ e)
  where
    no_number : (rest : ℕ) (c : Cell) (more : List ℕ) → IsSmall len c → 0 ∷ 0 ∷ 0 ∷ 0 ∷ replicate rest 0 ≡ slot_of c ++ more → ⊥
    no_number rest c more small e =
        let first = cut (0 ∷ 0 ∷ 0 ∷ 0 ∷ []) (to_be_bytes w32 (c.address + 1)) (replicate rest 0) (to_be_bytes w32 c.leaf ++ (c.content ++ more)) refl (e ∙ fields_of c more) in
        let number : 0 ≡ c.address + 1 = ap (from_be_bytes w32) first.0 ∙ from_be_bytes-to_be_bytes_4 (c.address + 1) small.number in
        omega arith

slots-injective : (len a b : ℕ) (xs ys : List Cell) → All (IsSmall len) xs → All (IsSmall len) ys → flat_map slot_of xs ++ replicate a 0 ≡ flat_map slot_of ys ++ replicate b 0 → xs ≡ ys
slots-injective len a b [] [] x y e = refl
slots-injective len a b [] (d ∷ ys) x y e = absurd (no_slot len a d (flat_map slot_of ys ++ replicate b 0) (All-head (IsSmall len) d ys y) (e ∙ append_assoc (slot_of d) (flat_map slot_of ys) (replicate b 0)))
slots-injective len a b (c ∷ xs) [] x y e = absurd (no_slot len b c (flat_map slot_of xs ++ replicate a 0) (All-head (IsSmall len) c xs x) (sym e ∙ append_assoc (slot_of c) (flat_map slot_of xs) (replicate a 0)))
slots-injective len a b (c ∷ xs) (d ∷ ys) x y e =
    let joined = sym (append_assoc (slot_of c) (flat_map slot_of xs) (replicate a 0)) ∙ e ∙ append_assoc (slot_of d) (flat_map slot_of ys) (replicate b 0) in
    let small = All-head (IsSmall len) c xs x in
    let small2 = All-head (IsSmall len) d ys y in
    let parts = cut (slot_of c) (slot_of d) (flat_map slot_of xs ++ replicate a 0) (flat_map slot_of ys ++ replicate b 0) (length-slot len c small.whole ∙ sym (length-slot len d small2.whole)) joined in
    let first : c ≡ d = slot-injective len c d small small2 parts.0 in
    let others : xs ≡ ys = slots-injective len a b xs ys (All-tail (IsSmall len) c xs x) (All-tail (IsSmall len) d ys y) parts.1 in
    cc

-- the bounds on the blocks and leaves of a device's trees
pub record HasFew (d : Sizes) (i : ℕ) : Type 0 where
  pub blocks : blocks_in d i ≤ 2 ^ 26
  pub leaves : 2 ^ depth_of d i ≤ 2 ^ 24

pub few_of_depth : (d : Sizes) (i depth : ℕ) → blocks_in d i ≤ 2 ^ 26 → depth ≡ depth_of d i → depth ≤ 24 → HasFew d i
few_of_depth d i depth blocks is shallow = record { blocks = blocks; leaves = ap (λ (n : ℕ). 2 ^ n) (sym is) ∙≤ pow-le-pow_right {n = 2} (omega arith) shallow }
  where
    infixl 10 ◌∙≤◌
    ◌∙≤◌ : {m n k : ℕ} → m ≡ n → n ≤ k → m ≤ k
    e ∙≤ h = omega arith

pub few_of_device : (d : Sizes) (i : ℕ) → IsDevice d → HasFew d i
few_of_device d i of =
    let blocks = (blocks_in-range d of i).1 in
    few_of_depth d i (depth_of d i) blocks refl (level_for-range d.leaf_load (blocks_in d i) (blocks_in-room d of i)).0

pub small_block : (d : Sizes) (i : ℕ) → HasFew d i → (c : Cell) → IsBlockOf d i c → IsSmall d.block_bytes c
small_block d i few c of = record { number = omega (arith, of.address_in, few.blocks); leaf_in = omega (arith, of.leaf_in, few.leaves); whole = of.whole }

pub small_blocks : (d : Sizes) (i : ℕ) (cells : List Cell) → HasFew d i → All (IsBlockOf d i) cells → All (IsSmall d.block_bytes) cells
small_blocks d i cells few of = All-weaker (IsBlockOf d i) (IsSmall d.block_bytes) (small_block d i few) cells of

pub one_spelling : (d : Sizes) (i : ℕ) (xs ys : List Cell) → HasFew d i → IsBucketOf d i xs → IsBucketOf d i ys → spelling d xs ≡ spelling d ys → xs ≡ ys
unfolding spelling
one_spelling d i xs ys few x y e =
    slots-injective d.block_bytes ((d.slots - length xs) * slot_len d) ((d.slots - length ys) * slot_len d) xs ys
    (small_blocks d i xs few x.blocks) (small_blocks d i ys few y.blocks) e

-- two buckets with the same spelling are equal
pub spelling-injective : (d : Sizes) (i : ℕ) (xs ys : List Cell) → IsDevice d → IsBucketOf d i xs → IsBucketOf d i ys → spelling d xs ≡ spelling d ys → xs ≡ ys
spelling-injective d i xs ys of x y e = one_spelling d i xs ys (few_of_device d i of) x y e

-- sealed bytes hold at most one list of blocks
pub reads_once : (opening : List ℕ → Option (List ℕ)) (d : Sizes) (i : ℕ) (sealed : List ℕ) (xs ys : List Cell) → IsDevice d → Reads opening d i sealed xs → Reads opening d i sealed ys → xs ≡ ys
reads_once opening d i sealed xs ys of x y =
    let same : x.plain ≡ y.plain = some_plain x.plain y.plain (sym x.opens ∙ y.opens) in
    spelling-injective d i xs ys of x.spelled.bucket y.spelled.bucket (sym x.spelled.spelled ∙ same ∙ y.spelled.spelled)
  where
    some_plain : (p q : List ℕ) → Some p ≡ Some q → p ≡ q
    some_plain p q e = cc

pub length-slots : (len : ℕ) (cells : List Cell) → All (λ c. length c.content ≡ len) cells → length (flat_map slot_of cells) ≡ length cells * (8 + len)
length-slots len [] all = omega arith
length-slots len (c ∷ cells) all =
    let first = length-slot len c (All-head (λ (x : Cell). length x.content ≡ len) c cells all) in
    let rest = length-slots len cells (All-tail (λ (x : Cell). length x.content ≡ len) c cells all) in
    omega (arith, length-append (slot_of c) (flat_map slot_of cells), first, rest)

-- the bytes of the full slots and those of the other slots are the bytes of all slots
shared : (slots full len : ℕ) → full ≤ slots → full * len + (slots - full) * len ≡ slots * len
shared slots full len h =
    let parts : slots ≡ full + (slots - full) = omega arith in
    omega (arith, ap (λ (n : ℕ). n * len) parts)

pub length-spelling : (d : Sizes) (i : ℕ) (cells : List Cell) → IsBucketOf d i cells → length (spelling d cells) ≡ bucket_len d
unfolding spelling
length-spelling d i cells of =
    let whole = All-weaker (IsBlockOf d i) (λ c. length c.content ≡ d.block_bytes) (λ c b. b.whole) cells of.blocks in
    let zeros : length (replicate {A = ℕ} ((d.slots - length cells) * slot_len d) 0) ≡ (d.slots - length cells) * slot_len d = length-replicate ((d.slots - length cells) * slot_len d) 0 in
    length-append (flat_map slot_of cells) (replicate ((d.slots - length cells) * slot_len d) 0)
    ∙ omega (arith, length-slots d.block_bytes cells whole, zeros, shared d.slots (length cells) (slot_len d) of.within)

-- one more slot
pub slots_more : (cells : List Cell) (i : ℕ) (c : Cell) (items : List ℕ) → i < length cells → c ≡ get_or cells i c → items ≡ flat_map slot_of (take i cells)
    → items ++ slot_of c ≡ flat_map slot_of (take (i + 1) cells)
slots_more cells i c items h is so_far =
    ap (λ (xs : List ℕ). xs ++ slot_of c) so_far ∙ flat_map_more slot_of [] (take i cells) c
    ∙ ap (λ (x : Cell). flat_map slot_of (take i cells ++ x ∷ [])) is ∙ ap (flat_map slot_of) (sym (take_more cells i c h))

-- bytes, and zeros after them
pub bytes_and_zeros : (n : ℕ) (xs : List ℕ) → IsBytes xs → IsBytes (xs ++ replicate n 0)
bytes_and_zeros n [] all i = zeros n i
  where
    zeros : (n i : ℕ) → get_or (replicate {A = ℕ} n 0) i 0 < 256
    zeros zero i = omega arith
    zeros (suc n) zero = omega arith
    zeros (suc n) (suc i) = zeros n i
bytes_and_zeros n (x ∷ xs) all zero = all 0
bytes_and_zeros n (x ∷ xs) all (suc i) = bytes_and_zeros n xs (λ k. all (suc k)) i

pub bytes_taken : (n : ℕ) (xs : List ℕ) → IsBytes xs → IsBytes (take n xs)
bytes_taken zero xs all i = omega arith
bytes_taken (suc n) [] all i = omega arith
bytes_taken (suc n) (x ∷ xs) all zero = all 0
bytes_taken (suc n) (x ∷ xs) all (suc i) = bytes_taken n xs (λ k. all (suc k)) i

-- the slots of a bucket's blocks, and zeros up to its length
pub filled_up : (d : Sizes) (i : ℕ) (cells : List Cell) (items : List ℕ) (n m : ℕ) → n ≡ bucket_len d → m ≡ length items → IsBucketOf d i cells → items ≡ flat_map slot_of cells
    → take n items ++ replicate (n - m) 0 ≡ spelling d cells
unfolding spelling
filled_up d i cells items n m size used of is =
    let whole = All-weaker (IsBlockOf d i) (λ c. length c.content ≡ d.block_bytes) (λ c b. b.whole) cells of.blocks in
    let long : length items ≡ length cells * slot_len d = ap length is ∙ length-slots d.block_bytes cells whole in
    let parts = shared d.slots (length cells) (slot_len d) of.within in
    let left : n - m ≡ (d.slots - length cells) * slot_len d = omega arith in
    rw (take_all n items (omega arith), left, is) refl
