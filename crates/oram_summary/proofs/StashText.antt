-- The text of a stash.
use Rattle.std.proofs.Common.{◌≡◌, ℕ, ◌+◌, ◌*◌, ◌-◌, ◌≤◌, ◌^◌, List, ◌++◌, length, replicate, sym, ap, ◌∙◌, subst, arith, All, true, nat_le, lit<, length-append}
use Rattle.std.proofs.lemmas.Bool.{le-leb}
use Rattle.std.proofs.Math.Nat.{pow-le-pow_right}
use Rattle.std.proofs.lemmas.List.{length-replicate}
use Rattle.std.specs.List.{flat_map}
use Rattle.oram_geometry.specs.declared.Sizes.{Sizes}
use Rattle.oram_geometry.specs.Sizes.{IsDevice, blocks_in, depth_of}
use Rattle.oram_geometry.proofs.DeviceSizes.{blocks_in-range, blocks_in-room, level_for-least}
use Rattle.oram_bucket.specs.Bucket.{IsBlockOf}
use Rattle.oram_bucket.specs.Cell.{Cell, IsRising}
use Rattle.oram_summary.specs.Stash.{HasNumbers, IsStash, LiesIn}
use Rattle.oram_summary.specs.Text.{block_text, stash_text}
use Rattle.oram_summary.proofs.Spelled.{blocks_same, length-blocks}

pub add_times : (a b c : ℕ) → (a + b) * c ≡ a * c + b * c
add_times a b c = grind arith

-- how many bytes are left for blocks that aren't there
left_over : (count width rest : ℕ) → count ≤ 64 → count * width + rest ≡ 64 * width → rest ≡ (64 - count) * width
left_over count width rest few sum =
    let all : count + (64 - count) ≡ 64 = omega arith in
    omega (arith, sum, add_times count (64 - count) width, ap (λ (n : ℕ). n * width) all)

-- blocks with zeros behind them are the text of a stash
pub stash_is : (block_bytes : ℕ) (blocks : List Cell) (bytes behind : List ℕ) → length blocks ≤ 64 → length bytes ≡ 64 * (8 + block_bytes) → All (λ c. length c.content ≡ block_bytes) blocks
    → bytes ≡ flat_map block_text blocks ++ behind → behind ≡ replicate (length behind) 0 → bytes ≡ stash_text block_bytes blocks
stash_is block_bytes blocks bytes behind few long whole text zeros =
    let sum : length blocks * (8 + block_bytes) + length behind ≡ 64 * (8 + block_bytes) =
    omega (arith, ap length text, length-append (flat_map block_text blocks) behind, length-blocks blocks block_bytes whole, long) in
    let rest : length behind ≡ (64 - length blocks) * (8 + block_bytes) = left_over (length blocks) (8 + block_bytes) (length behind) few sum in
    text ∙ ap (λ (b : List ℕ). flat_map block_text blocks ++ b) (zeros ∙ ap (λ (n : ℕ). replicate n 0) rest)

-- blocks of tree 0 are those with an address and a leaf of it, and as much data as a block has
pub blocks_are : (d : Sizes) (blocks : List Cell) → All (LiesIn d) blocks → All (λ c. length c.content ≡ d.block_bytes) blocks → All (IsBlockOf d 0) blocks
blocks_are d blocks lie whole = λ k b within. let place = lie k b within in record { address_in = place.address_in; leaf_in = place.leaf_in; whole = whole k b within }

-- tree 0 has a depth of at most 24
pub shallow : (d : Sizes) → IsDevice d → depth_of d 0 ≤ 24
shallow d device =
    let enough : nat_le (blocks_in d 0) (d.leaf_load * 2 ^ 24) ≡ true = le-leb (blocks_in d 0) (d.leaf_load * 2 ^ 24) (blocks_in-room d device 0) in
    (level_for-least d.leaf_load (blocks_in d 0) (blocks_in-room d device 0)).least 24 (omega arith) enough

-- the numbers of a block of tree 0 fit their four bytes
pub blocks_fit : (d : Sizes) (blocks : List Cell) → IsDevice d → All (IsBlockOf d 0) blocks → All HasNumbers blocks
blocks_fit d blocks device all = λ k b within.
    let block = all k b within in
    let few : blocks_in d 0 ≤ 2 ^ 26 = (blocks_in-range d device 0).1 in
    let leaves : 2 ^ depth_of d 0 ≤ 2 ^ 24 = pow-le-pow_right (lit< tt) (shallow d device) in
    record { address = omega (arith, block.address_in, few); leaf = omega (arith, block.leaf_in, leaves) }

-- bytes are the text of one stash
pub stash_same : (d : Sizes) (count : ℕ) (blocks cells : List Cell) (bytes behind : List ℕ) → IsDevice d → length blocks ≡ count → All (λ c. length c.content ≡ d.block_bytes) blocks → All HasNumbers blocks
    → bytes ≡ flat_map block_text blocks ++ behind → IsStash d count cells bytes → (blocks ≡ cells) × (behind ≡ replicate (length behind) 0)
stash_same d count blocks cells bytes behind device counted whole fit text stash =
    let same = blocks_same blocks cells d.block_bytes behind (replicate ((64 - length cells) * (8 + d.block_bytes)) 0) (counted ∙ sym stash.counted) whole (λ k b within. (stash.blocks k b within).whole)
    fit (blocks_fit d cells device stash.blocks) (sym text ∙ stash.text) in
    (same.0, same.1 ∙ ap (λ (n : ℕ). replicate n 0) (sym (ap length same.1 ∙ length-replicate ((64 - length cells) * (8 + d.block_bytes)) 0)))

-- what is known of blocks that were read: whether they were seen to be a stash with zeros behind it
pub record AreBlocks (d : Sizes) (count block_bytes : ℕ) (blocks seen : List Cell) (bytes behind : List ℕ) : Type 0 where
  pub bytes_of_block : block_bytes ≡ d.block_bytes
  pub same : seen ≡ blocks
  pub text : bytes ≡ flat_map block_text blocks ++ behind
  pub counted : length blocks ≡ count
  pub whole : All (λ c. length c.content ≡ block_bytes) blocks
  pub fit : All HasNumbers blocks

abbrev pub AreSeen : Sizes → List Cell → List ℕ → Type 0
AreSeen d seen behind = IsRising seen × All (LiesIn d) seen × (behind ≡ replicate (length behind) 0)

whole_in : (d : Sizes) (count block_bytes : ℕ) (blocks seen : List Cell) (bytes behind : List ℕ) → AreBlocks d count block_bytes blocks seen bytes behind → All (λ c. length c.content ≡ d.block_bytes) blocks
whole_in d count block_bytes blocks seen bytes behind read = λ k b within. read.whole k b within ∙ read.bytes_of_block

pub stash_found : (d : Sizes) (count block_bytes : ℕ) (blocks seen : List Cell) (bytes behind : List ℕ) → AreBlocks d count block_bytes blocks seen bytes behind
    → count ≤ 64 → length bytes ≡ 64 * (8 + d.block_bytes) → AreSeen d seen behind → IsStash d count blocks bytes
stash_found d count block_bytes blocks seen bytes behind read few long are =
    let whole = whole_in d count block_bytes blocks seen bytes behind read in
    let rising : IsRising blocks = subst IsRising read.same are.0 in
    let lie : All (LiesIn d) blocks = subst (λ (bs : List Cell). All (LiesIn d) bs) read.same are.1 in
    record {
      counted = read.counted;
      rising = rising;
      blocks = blocks_are d blocks lie whole;
      text = stash_is d.block_bytes blocks bytes behind (omega (arith, read.counted, few)) long whole read.text are.2;
    }

pub stash_only : (d : Sizes) (count block_bytes : ℕ) (blocks seen : List Cell) (bytes behind : List ℕ) → AreBlocks d count block_bytes blocks seen bytes behind
    → IsDevice d → (cells : List Cell) → IsStash d count cells bytes → (blocks ≡ cells) × AreSeen d seen behind
stash_only d count block_bytes blocks seen bytes behind read device cells stash =
    let same = stash_same d count blocks cells bytes behind device read.counted (whole_in d count block_bytes blocks seen bytes behind read) read.fit read.text stash in
    let seen_is : cells ≡ seen = sym (read.same ∙ same.0) in
    let lie : All (LiesIn d) cells = λ k b within. let block = stash.blocks k b within in record { address_in = block.address_in; leaf_in = block.leaf_in } in
    (same.0, (subst IsRising seen_is stash.rising, subst (λ (bs : List Cell). All (LiesIn d) bs) seen_is lie, same.1))
