-- Blocks of an array, one after the other.
use Rattle.std.proofs.Common.{◌≡◌, ◌≢◌, ℕ, zero, suc, ◌+◌, ◌-◌, ◌*◌, ◌==◌, ◌<◌, ◌≤◌, if◌then◌else◌, Bool, true, false, List, ◌++◌, length, take, drop, replicate, refl, sym, ap, ◌∙◌, subst, arith, append_assoc, length-append, drop_at}
use Rattle.std.proofs.lemmas.Bool.Decides.{nat_tests}
use Rattle.std.proofs.lemmas.List.{take_at, drop-drop, length-replicate}
use Rattle.std.proofs.Math.Nat.{mul-suc}
use Rattle.oram_geometry.specs.declared.Sizes.{Sizes}
use Rattle.oram_semantics.specs.ArrayReplies.{array_after}
use Rattle.oram_semantics.specs.declared.events.Command.TheVariants.{Read, Write, Discard}
use Rattle.oram_nbd.specs.Bytes.{bytes_at, written, zeroes}
use Rattle.oram_volume.specs.Blocks.{IsLaidOut, blocks_from}

-- the array's first blocks, as many as `most`, are as long as blocks are
abbrev IsLong : ℕ → (ℕ → List ℕ) → ℕ → Type 0
IsLong b array most = (a : ℕ) → a < most → length (array a) ≡ b

length_blocks : (b most : ℕ) (array : ℕ → List ℕ) → IsLong b array most → (first n : ℕ) → first + n ≤ most → length (blocks_from array first n) ≡ b * n
length_blocks b most array long first zero fits = omega arith
length_blocks b most array long first (suc n) fits =
    let rest : length (blocks_from array (suc first) n) ≡ b * n = length_blocks b most array long (suc first) n (omega arith) in
    let one : length (array first) ≡ b = long first (omega arith) in
    let both : length (array first ++ blocks_from array (suc first) n) ≡ length (array first) + length (blocks_from array (suc first) n) = length-append (array first) (blocks_from array (suc first) n) in
    let more : b * suc n ≡ b * n + b = mul-suc b n in
    omega arith

blocks_split : (array : ℕ → List ℕ) (first m n : ℕ) → blocks_from array first (m + n) ≡ blocks_from array first m ++ blocks_from array (first + m) n
blocks_split array first zero n =
    let place : first ≡ first + 0 = omega arith in
    let none : 0 + n ≡ n = omega arith in
    ap (blocks_from array first) none ∙ ap (λ (k : ℕ). blocks_from array k n) place
blocks_split array first (suc m) n =
    let place : suc first + m ≡ first + suc m = omega arith in
    let more : suc m + n ≡ suc (m + n) = omega arith in
    ap (blocks_from array first) more
    ∙ ap (λ (r : List ℕ). array first ++ r) (blocks_split array (suc first) m n ∙ ap (λ (k : ℕ). blocks_from array (suc first) m ++ blocks_from array k n) place)
    ∙ sym (append_assoc (array first) (blocks_from array (suc first) m) (blocks_from array (first + suc m) n))

blocks_at : (array : ℕ → List ℕ) (k rest : ℕ) → blocks_from array 0 (k + suc rest) ≡ blocks_from array 0 k ++ (array k ++ blocks_from array (suc k) rest)
blocks_at array k rest =
    let place : 0 + k ≡ k = omega arith in
    blocks_split array 0 k (suc rest) ∙ ap (λ (n : ℕ). blocks_from array 0 k ++ blocks_from array n (suc rest)) place

-- arrays that have the same blocks in a range
blocks_alike : (x y : ℕ → List ℕ) (first n : ℕ) → ((a : ℕ) → first ≤ a → a < first + n → x a ≡ y a) → blocks_from x first n ≡ blocks_from y first n
blocks_alike x y first zero same = refl
blocks_alike x y first (suc n) same =
    ap (λ (r : List ℕ). r ++ blocks_from x (suc first) n) (same first (omega arith) (omega arith))
    ∙ ap (λ (r : List ℕ). y first ++ r) (blocks_alike x y (suc first) n (λ a low high. same a (omega (arith, low)) (omega (arith, high))))

-- block k of the array, between those before it and those after it
module _ (d : Sizes) (array : ℕ → List ℕ) (bytes : List ℕ) (k rest : ℕ) (laid : IsLaidOut d array bytes) (within : k + suc rest ≡ d.blocks) where
  abbrev front : List ℕ
  front = blocks_from array 0 k

  abbrev back : List ℕ
  back = blocks_from array (suc k) rest

  long_front : length front ≡ d.block_bytes * k
  long_front = length_blocks d.block_bytes d.blocks array laid.long 0 k (omega (arith, within))

  parted : bytes ≡ front ++ (array k ++ back)
  parted = laid.all ∙ ap (λ (n : ℕ). blocks_from array 0 n) (sym within) ∙ blocks_at array k rest

  tail : drop (d.block_bytes * k) bytes ≡ array k ++ back
  tail = ap (drop (d.block_bytes * k)) parted ∙ drop_at front (array k ++ back) (d.block_bytes * k) long_front

  long_one : length (array k) ≡ d.block_bytes
  long_one = laid.long k (omega (arith, within))

  one_block : bytes_at bytes (d.block_bytes * k) d.block_bytes ≡ array k
  one_block = ap (take d.block_bytes) tail ∙ take_at (array k) back d.block_bytes long_one

  head : take (d.block_bytes * k) bytes ≡ front
  head = ap (take (d.block_bytes * k)) parted ∙ take_at front (array k ++ back) (d.block_bytes * k) long_front

  behind : (new : List ℕ) → length new ≡ d.block_bytes → drop (d.block_bytes * k + length new) bytes ≡ back
  behind new long =
      sym (drop-drop (length new) (d.block_bytes * k) bytes) ∙ ap (drop (length new)) tail
      ∙ drop_at (array k) back (length new) (long_one ∙ sym long)

  -- an array that has another block there, and the same everywhere else
  replaced : (after : ℕ → List ℕ) (new : List ℕ) → length new ≡ d.block_bytes → after k ≡ new → ((a : ℕ) → a ≢ k → after a ≡ array a)
      → IsLaidOut d after (written bytes (d.block_bytes * k) new)
  replaced after new long here elsewhere = record {
    long = λ a low. by a low (a == k) refl;
    all = ap (λ (f : List ℕ). (f ++ new) ++ drop (d.block_bytes * k + length new) bytes) head
        ∙ ap (λ (r : List ℕ). (front ++ new) ++ r) (behind new long)
        ∙ append_assoc front new back
        ∙ ap (λ (f : List ℕ). f ++ (new ++ back)) (sym (blocks_alike after array 0 k (λ a low high. elsewhere a (λ e. absurd (omega (arith, e, high))))))
        ∙ ap (λ (r : List ℕ). blocks_from after 0 k ++ (new ++ r)) (sym (blocks_alike after array (suc k) rest (λ a low high. elsewhere a (λ e. absurd (omega (arith, e, low))))))
        ∙ ap (λ (n : List ℕ). blocks_from after 0 k ++ (n ++ blocks_from after (suc k) rest)) (sym here)
        ∙ sym (blocks_at after k rest)
        ∙ ap (λ (n : ℕ). blocks_from after 0 n) within;
  }
    where
      by : (a : ℕ) → a < d.blocks → (b : Bool) → (a == k) ≡ b → length (after a) ≡ d.block_bytes
      by a low true e = let same : a ≡ k = grind (arith, nat_tests, e) in ap (λ (n : ℕ). length (after n)) same ∙ ap length here ∙ long
      by a low false e = ap length (elsewhere a (λ same. absurd (grind (arith, nat_tests, e, same)))) ∙ laid.long a low

pub length_laid : (d : Sizes) (array : ℕ → List ℕ) (bytes : List ℕ) → IsLaidOut d array bytes → length bytes ≡ d.block_bytes * d.blocks
length_laid d array bytes laid = ap length laid.all ∙ length_blocks d.block_bytes d.blocks array laid.long 0 d.blocks (omega arith)

-- the blocks after this one
abbrev behind_it : Sizes → ℕ → ℕ
behind_it d k = d.blocks - suc k

count_behind : (d : Sizes) (k : ℕ) → k < d.blocks → k + suc (behind_it d k) ≡ d.blocks
count_behind d k low = omega arith

chosen : {X : Type 0} (b : Bool) (x y : X) → b ≡ true → (if b then x else y) ≡ x
chosen b x y e = rw e refl

passed : {X : Type 0} (b : Bool) (x y : X) → b ≡ false → (if b then x else y) ≡ y
passed b x y e = rw e refl

-- what commands read of the bytes, and make of them

pub read_laid : (d : Sizes) (array : ℕ → List ℕ) (bytes : List ℕ) (k : ℕ) → IsLaidOut d array bytes → k < d.blocks
    → bytes_at bytes (d.block_bytes * k) d.block_bytes ≡ array k
read_laid d array bytes k laid low = one_block d array bytes k (behind_it d k) laid (count_behind d k low)

-- The bytes are laid out after a command on block k of the disk.

pub laid_after_read : (d : Sizes) (k : ℕ) (array : ℕ → List ℕ) (bytes : List ℕ) → IsLaidOut d array bytes → IsLaidOut d (array_after d (Read k) array) bytes
laid_after_read d k array bytes laid = record {
  long = λ a low. laid.long a low;
  all = laid.all ∙ sym (blocks_alike (array_after d (Read k) array) array 0 d.blocks (λ a low high. refl));
}

pub laid_after_write : (d : Sizes) (k block : ℕ) (new payload : List ℕ) → k ≡ block → k < d.blocks → new ≡ payload → length payload ≡ d.block_bytes
    → (array : ℕ → List ℕ) (bytes : List ℕ) → IsLaidOut d array bytes → IsLaidOut d (array_after d (Write k new) array) (written bytes (d.block_bytes * block) payload)
laid_after_write d k block new payload place low copied long array bytes laid =
    subst (λ (n : ℕ). IsLaidOut d (array_after d (Write k new) array) (written bytes (d.block_bytes * n) payload)) place
    (subst (λ (p : List ℕ). IsLaidOut d (array_after d (Write k new) array) (written bytes (d.block_bytes * k) p)) copied
    (replaced d array bytes k (behind_it d k) laid (count_behind d k low) (array_after d (Write k new) array) new (ap length copied ∙ long)
    (chosen (k == k) new (array k) (grind (arith, nat_tests))) (λ a other. passed (a == k) new (array a) (grind (arith, nat_tests, other)))))

pub laid_after_discard : (d : Sizes) (k block : ℕ) → k ≡ block → k < d.blocks
    → (array : ℕ → List ℕ) (bytes : List ℕ) → IsLaidOut d array bytes → IsLaidOut d (array_after d (Discard k) array) (written bytes (d.block_bytes * block) (zeroes d.block_bytes))
laid_after_discard d k block place low array bytes laid =
    let new : List ℕ = replicate d.block_bytes 0 in
    subst (λ (n : ℕ). IsLaidOut d (array_after d (Discard k) array) (written bytes (d.block_bytes * n) (zeroes d.block_bytes))) place
    (replaced d array bytes k (behind_it d k) laid (count_behind d k low) (array_after d (Discard k) array) new (length-replicate d.block_bytes 0)
    (chosen (k == k) new (array k) (grind (arith, nat_tests))) (λ a other. passed (a == k) new (array a) (grind (arith, nat_tests, other))))
