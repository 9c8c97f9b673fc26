-- The sizes of a device: how many trees, blocks and levels.
use Rattle.std.proofs.Common.{◌≡◌, ℕ, zero, suc, ◌+◌, ◌-◌, ◌*◌, ◌/◌, ◌%◌, ◌^◌, ◌<◌, ◌≤◌, Bool, true, false, nat_le, inl, inr, refl, ap, sym, ◌∙◌, arith, add-one, mod-eq_of_lt}
use Rattle.std.specs.Int.{div_ceil}
use Rattle.std.proofs.lemmas.Nat.{div-add-mod', mul-le}
use Rattle.std.proofs.lemmas.Grind.{div_ceil_times}
use Rattle.std.proofs.lemmas.Bool.{cases_lt}
use Rattle.std.proofs.lemmas.Bool.Decides.{nat_tests}
use Rattle.std.proofs.Math.Nat.{div-div-eq-div-mul, div-one, pow-zero, pow-suc, pow-le-pow_right, min-le_left, min-le_right}
use Rattle.oram_geometry.specs.Least.{IsLeastFrom}
use Rattle.oram_geometry.specs.declared.Sizes.{Sizes}
use Rattle.oram_geometry.specs.Sizes.{IsDevice, fanout, most_blocks, blocks_in, fits_table, trees_of, level_for, address_in}
use Rattle.oram_geometry.proofs.Least.{least_from-is, least_from-least}

pub blocks_in-zero : (d : Sizes) → blocks_in d 0 ≡ d.blocks
unfolding blocks_in
blocks_in-zero d = refl

pub blocks_in-suc : (d : Sizes) (i : ℕ) → blocks_in d (suc i) ≡ div_ceil (blocks_in d i) (fanout d)
unfolding blocks_in
blocks_in-suc d i = refl

pub blocks_in-next : (d : Sizes) (i : ℕ) → blocks_in d (i + 1) ≡ div_ceil (blocks_in d i) (fanout d)
blocks_in-next d i = rw add-one (blocks_in-suc d i)

-- dividing by four or more, rounded up, gives at most the quotient by four, rounded up
pub div_ceil-quarter : (x k m : ℕ) → 4 ≤ k → x ≤ 4 * m → div_ceil x k ≤ m
div_ceil-quarter x k m four h =
    let q = div_ceil x k in
    let times = div_ceil_times x k (omega arith) in
    elim (cases_lt m q) [
      | inl above ↦
          let high : (m + 1) * k ≤ q * k = mul-le (m + 1) k q k (omega arith) (omega arith) in
          let low : m * 4 ≤ m * k = mul-le m 4 m k (omega arith) four in
          absurd (omega (arith, times.1))
      | inr within ↦ within
    ]

-- and it keeps a number from 1 to m in that range
pub div_ceil-within : (x k m : ℕ) → 2 ≤ k → 1 ≤ x → x ≤ m → (1 ≤ div_ceil x k) × (div_ceil x k ≤ m)
div_ceil-within x k m two low high =
    let whole : x / k * k + x % k ≡ x = div-add-mod' x k in
    let more : x / k * 2 ≤ x / k * k = mul-le (x / k) 2 (x / k) k (omega arith) two in (
      elim (cases_lt 0 (x / k)) [
        | inl some ↦ omega arith
        | inr none ↦
            let zero_part : x / k ≡ 0 = omega arith in
            let part : x % k ≡ x = omega (arith, ap (λ (q : ℕ). q * k) zero_part) in
            omega arith
      ],
      omega arith,
    )

pub fanout-range : (d : Sizes) → IsDevice d → (4 ≤ fanout d) × (fanout d ≤ 1024)
fanout-range d r = let low = r.some_bytes in let high = r.few_bytes in (omega arith, omega arith)

-- the greatest number of blocks is what 2 ^ 24 leaves have room for, and at most 2 ^ 26
pub most_blocks-range : (load : ℕ) → (most_blocks load ≤ load * 2 ^ 24) × (most_blocks load ≤ 2 ^ 26)
most_blocks-range load = (omega (arith, min-le_left load 4), omega (arith, min-le_right load 4))

-- each tree has a block, and no more than a device may have
blocks_in-within : (d : Sizes) → IsDevice d → (i : ℕ) → (1 ≤ blocks_in d i) × (blocks_in d i ≤ most_blocks d.leaf_load)
blocks_in-within d r zero = rw (blocks_in-zero d) (r.some_blocks, r.few_blocks)
blocks_in-within d r (suc i) =
    let before = blocks_in-within d r i in
    let fan = fanout-range d r in
    rw (blocks_in-suc d i) (div_ceil-within (blocks_in d i) (fanout d) (most_blocks d.leaf_load) (omega arith) before.0 before.1)

-- each tree has a block, and no more than 2 ^ 26
pub blocks_in-range : (d : Sizes) → IsDevice d → (i : ℕ) → (1 ≤ blocks_in d i) × (blocks_in d i ≤ 2 ^ 26)
blocks_in-range d r i = let within = blocks_in-within d r i in (within.0, omega (arith, within.1, (most_blocks-range d.leaf_load).1))

-- and 2 ^ 24 leaves have room for its blocks
pub blocks_in-room : (d : Sizes) → IsDevice d → (i : ℕ) → blocks_in d i ≤ d.leaf_load * 2 ^ 24
blocks_in-room d r i = omega (arith, (blocks_in-within d r i).1, (most_blocks-range d.leaf_load).0)

-- the next tree has at most a quarter of the blocks, rounded up
blocks_in-quarter : (d : Sizes) → IsDevice d → (i m : ℕ) → blocks_in d i ≤ 4 * m → blocks_in d (suc i) ≤ m
blocks_in-quarter d r i m h = rw (blocks_in-suc d i) (div_ceil-quarter (blocks_in d i) (fanout d) m (fanout-range d r).0 h)

-- a fourteenth tree has one block
pub blocks_in-last : (d : Sizes) → IsDevice d → blocks_in d 13 ≤ 1
blocks_in-last d r =
    let q = blocks_in-quarter d r in
    q 12 1 (q 11 4 (q 10 16 (q 9 64 (q 8 256 (q 7 1024 (q 6 4096 (q 5 16384 (q 4 65536 (q 3 262144 (q 2 1048576 (q 1 4194304 (q 0 16777216 (blocks_in-range d r 0).1))))))))))))

pub last_fits : (d : Sizes) → IsDevice d → fits_table d 14 ≡ true
last_fits d r = let one = blocks_in-last d r in let top = r.some_top in grind (arith, nat_tests)

-- the number of trees is the least for which the table has room for the last tree
pub trees_of-least : (d : Sizes) → IsDevice d → IsLeastFrom (fits_table d) 1 (trees_of d)
unfolding trees_of
trees_of-least d r = least_from-least (fits_table d) 1 13 (last_fits d r)

-- a number that passes isn't before the first that does
least_by : (test : ℕ → Bool) (n m : ℕ) → test m ≡ true → (m < n → test m ≡ false) → n ≤ m
least_by test n m passes before = elim (cases_lt m n) [ inl below ↦ absurd (let fails = before below in cc) | inr above ↦ above ]

pub trees_of-is : (d : Sizes) (n : ℕ) → IsLeastFrom (fits_table d) 1 n → n ≤ 14 → trees_of d ≡ n
unfolding trees_of
trees_of-is d n l h = least_from-is (fits_table d) 1 13 n l (omega arith)

pub trees_of-few : (d : Sizes) → IsDevice d → trees_of d ≤ 14
trees_of-few d r = (trees_of-least d r).least 14 (omega arith) (last_fits d r)

-- the least level whose nodes have room for n blocks
pub level_for-least : (load n : ℕ) → n ≤ load * 2 ^ 24 → IsLeastFrom (λ l. nat_le n (load * 2 ^ l)) 0 (level_for load n)
unfolding level_for
level_for-least load n h = least_from-least (λ l. nat_le n (load * 2 ^ l)) 0 24 (grind (arith, nat_tests))

pub level_for-is : (load n l : ℕ) → IsLeastFrom (λ l. nat_le n (load * 2 ^ l)) 0 l → l ≤ 24 → level_for load n ≡ l
unfolding level_for
level_for-is load n l least h = least_from-is (λ l. nat_le n (load * 2 ^ l)) 0 24 l least (omega arith)

passes : (m n : ℕ) → nat_le m n ≡ true → m ≤ n
passes m n h = grind (arith, nat_tests)

pub level_for-range : (load n : ℕ) → n ≤ load * 2 ^ 24 → (level_for load n ≤ 24) × (n ≤ load * 2 ^ level_for load n)
level_for-range load n h =
    let l = level_for-least load n h in
    (l.least 24 (omega arith) (grind (arith, nat_tests)), passes n (load * 2 ^ level_for load n) l.passes)

-- an address of a tree is below its number of blocks
divided-below : (a n k : ℕ) → 0 < k → a < n → a / k < div_ceil n k
divided-below a n k some h =
    let times = div_ceil_times n k some in
    let whole : a / k * k + a % k ≡ a = div-add-mod' a k in
    elim (cases_lt (a / k) (div_ceil n k)) [
      | inl below ↦ below
      | inr above ↦
          let high : div_ceil n k * k ≤ a / k * k = mul-le (div_ceil n k) k (a / k) k above (omega arith) in
          absurd (omega (arith, times.0))
    ]

pow-one-more : (k i : ℕ) → k ^ (i + 1) ≡ k ^ i * k
pow-one-more k i = ap (λ n. k ^ n) (add-one i) ∙ pow-suc k i

pub address_in-next : (d : Sizes) (i a : ℕ) → address_in d i a / fanout d ≡ address_in d (i + 1) a
address_in-next d i a =
    let step : fanout d ^ i * fanout d ≡ fanout d ^ (i + 1) = sym (pow-one-more (fanout d) i) in
    div-div-eq-div-mul a (fanout d ^ i) (fanout d) ∙ ap (λ n. a / n) step

pub address_in-below : (d : Sizes) (i a : ℕ) → 0 < fanout d → address_in d i a < blocks_in d i → address_in d (i + 1) a < blocks_in d (i + 1)
address_in-below d i a some h =
    rw (sym (address_in-next d i a), blocks_in-next d i) (divided-below (address_in d i a) (blocks_in d i) (fanout d) some h)

-- in tree 0 a block has its own address
pub address_in-zero : (d : Sizes) (a : ℕ) → address_in d 0 a ≡ a
address_in-zero d a = rw (pow-zero (fanout d)) (div-one a)

-- if the table has no room for the last of t trees, there are more than t trees, and never more than 14
pub more_trees : (d : Sizes) (t n : ℕ) → IsDevice d → t ≤ 14 → n ≡ blocks_in d (t - 1) → d.top < n → (t < 14) × (fits_table d t ≡ false)
more_trees d t n r few e short =
    let fails : fits_table d t ≡ false = grind (arith, nat_tests) in (
      elim (cases_lt t 14) [
        | inl below ↦ below
        | inr above ↦ absurd (let last : t ≡ 14 = omega arith in let both : fits_table d t ≡ fits_table d 14 = ap (fits_table d) last in let fits = last_fits d r in cc)
      ],
      fails,
    )

-- the first number of trees for which the table has room is the least
pub first_trees : (d : Sizes) (t n : ℕ) → 1 ≤ t → t ≤ 14 → n ≡ blocks_in d (t - 1) → n ≤ d.top → ((h : ℕ) → 1 ≤ h → h < t → fits_table d h ≡ false) → t ≡ trees_of d
first_trees d t n low few e room before =
    let here : fits_table d t ≡ true = grind (arith, nat_tests) in
    sym (trees_of-is d t (record { begins = low; passes = here; least = λ m above passes. least_by (fits_table d) t m passes (before m above) }) few)

-- the first level whose nodes have room is the least
pub first_level : (load n l : ℕ) → l ≤ 24 → n ≤ load * 2 ^ l → ((m : ℕ) → m < l → nat_le n (load * 2 ^ m) ≡ false) → l ≡ level_for load n
first_level load n l few enough before =
    let here : nat_le n (load * 2 ^ l) ≡ true = grind (arith, nat_tests) in
    sym (level_for-is load n l (record { begins = omega arith; passes = here; least = λ m above passes. least_by (λ k. nat_le n (load * 2 ^ k)) l m passes (before m) }) few)

-- up to level 24 the blocks for which there is room fit a word of 32 bits
pub load_fits : (load l : ℕ) → load ≤ 8 → l ≤ 24 → load * 2 ^ l % 2 ^ 32 ≡ load * 2 ^ l
load_fits load l few deep =
    let nodes : 2 ^ l ≤ 2 ^ 24 = pow-le-pow_right (omega arith) deep in
    let room : load * 2 ^ l ≤ 8 * 2 ^ 24 = mul-le load (2 ^ l) 8 (2 ^ 24) few nodes in
    mod-eq_of_lt (omega arith)

-- if the nodes of a level have no room for the blocks, the level isn't the last
pub more_levels : (load n l : ℕ) → load ≤ 8 → n ≤ load * 2 ^ 24 → l ≤ 24 → load * 2 ^ l % 2 ^ 32 < n → (l < 24) × (nat_le n (load * 2 ^ l) ≡ false)
more_levels load n l few small deep short =
    let room = load_fits load l few deep in (
      elim (cases_lt l 24) [
        | inl below ↦ below
        | inr above ↦ absurd (let last : l ≡ 24 = omega arith in let most : load * 2 ^ l ≡ load * 2 ^ 24 = ap (λ (k : ℕ). load * 2 ^ k) last in omega (arith, room, most))
      ],
      grind (arith, nat_tests),
    )
