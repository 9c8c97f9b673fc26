-- Slots without a fault, one after the other, spell the blocks that they hold.
use Rattle.std.proofs.Common.{◌≡◌, ℕ, zero, suc, ◌+◌, ◌-◌, ◌*◌, ◌^◌, ◌<◌, ◌≤◌, ◌==◌, ◌&&◌, Bool, true, false, List, [], ◌∷◌, ◌++◌, length, take, drop, All, replicate, Option, Some, refl, sym, ap, ◌∙◌, inl, inr, arith, append_assoc, nat_lt}
use Rattle.std.proofs.Math.Nat.{mul-le-mul_right}
use Rattle.std.proofs.Math.Seq.{take-add, take-append_seam, drop-append_seam}
use Rattle.std.proofs.lemmas.Bool.{cases_lt, eqb-true}
use Rattle.std.proofs.lemmas.Bool.Decides.{nat_tests}
use Rattle.std.proofs.lemmas.List.{length-append, length-drop, drop-drop, take_all, take-append-drop, length-take-le, append-nil, replicate-append-replicate, length_push, flat_map_more}
use Rattle.std.proofs.lemmas.List.Elements.{All-push}
use Rattle.std.proofs.lemmas.List.Quantifiers.{all_pairs_push}
use Rattle.std.proofs.lemmas.Nat.{be_bytes_4}
use Rattle.std.specs.List.{flat_map, list_all}
use Rattle.std.specs.Int.{w32, to_be_bytes}
use Rattle.oram_geometry.specs.declared.Sizes.{Sizes}
use Rattle.oram_geometry.specs.Sizes.{blocks_in, depth_of, bucket_len}
use Rattle.oram_bucket.specs.Bytes.{IsBytes}
use Rattle.oram_bucket.specs.Cell.{Cell, IsRising}
use Rattle.oram_bucket.specs.Bucket.{IsBlockOf, IsSpelling, spelling, slot_of, slot_len}
use Rattle.oram_bucket.specs.Slots.{number_of, leaf_of, block_in, slot_at}
use Rattle.oram_bucket.specs.Fault.{may_follow}
use Rattle.oram_bucket.proofs.UniqueEncoding.{bytes_taken}
use Rattle.oram_bucket.proofs.Slots.{IsRealSlot, IsDummySlot}

-- the first k slots hold these blocks and then dummies, and `before` is the number of the last of these slots
pub record IsReadTo (d : Sizes) (i : ℕ) (bytes : List ℕ) (k : ℕ) (before : Option ℕ) (cells : List Cell) : Type 0 where
  pub dummies : ℕ
  pub count : k ≡ length cells + dummies
  pub spelled : take (k * slot_len d) bytes ≡ flat_map slot_of cells ++ replicate (dummies * slot_len d) 0
  pub rising : IsRising cells
  pub blocks : All (IsBlockOf d i) cells
  pub follows : (n : ℕ) → may_follow before n ≡ true → (dummies ≡ 0) × All (λ c. c.address + 1 < n) cells

-- one more slot's bytes
slot_more : (d : Sizes) (bytes : List ℕ) (k : ℕ) → take ((k + 1) * slot_len d) bytes ≡ take (k * slot_len d) bytes ++ slot_at d bytes k
unfolding slot_at
slot_more d bytes k =
    let place : (k + 1) * slot_len d ≡ k * slot_len d + slot_len d = omega arith in
    ap (λ (n : ℕ). take n bytes) place ∙ take-add (k * slot_len d) (slot_len d) bytes

pub bytes_dropped : (n : ℕ) (xs : List ℕ) → IsBytes xs → IsBytes (drop n xs)
bytes_dropped zero xs all i = all i
bytes_dropped (suc n) [] all i = omega arith
bytes_dropped (suc n) (x ∷ xs) all i = bytes_dropped n xs (λ k. all (suc k)) i

-- a real slot spells the block that it holds
slot_again : (slot : List ℕ) → 8 ≤ length slot → IsBytes slot → 0 < number_of slot → slot_of (block_in slot) ≡ slot
slot_again slot long bytes some =
    let first = take 4 slot in
    let second = take 4 (drop 4 slot) in
    let third = drop 4 (drop 4 slot) in
    let number : number_of slot - 1 + 1 ≡ number_of slot = omega arith in
    let one : to_be_bytes w32 (number_of slot - 1 + 1) ≡ first = be_bytes_4 first (number_of slot - 1 + 1) (length-take-le 4 slot (omega arith)) (bytes_taken 4 slot bytes) number in
    let two : to_be_bytes w32 (leaf_of slot) ≡ second = be_bytes_4 second (leaf_of slot) (length-take-le 4 (drop 4 slot) (omega (arith, length-drop 4 slot))) (bytes_taken 4 (drop 4 slot) (bytes_dropped 4 slot bytes)) refl in
    let three : drop 8 slot ≡ third = sym (drop-drop 4 4 slot) in
    ap (λ (xs : List ℕ). xs ++ to_be_bytes w32 (leaf_of slot) ++ drop 8 slot) one
    ∙ ap (λ (xs : List ℕ). first ++ xs ++ drop 8 slot) two
    ∙ ap (λ (xs : List ℕ). first ++ second ++ xs) three
    ∙ append_assoc first second third
    ∙ ap (λ (xs : List ℕ). first ++ xs) (take-append-drop 4 (drop 4 slot))
    ∙ take-append-drop 4 slot

less : (m n : ℕ) → (nat_lt 0 m && nat_lt m n) ≡ true → m < n
less m n h = grind (arith, nat_tests)

pub read_real : (d : Sizes) (i : ℕ) (bytes : List ℕ) (k : ℕ) (before : Option ℕ) (cells : List Cell) (slot : List ℕ)
    → IsReadTo d i bytes k before cells → slot ≡ slot_at d bytes k → length slot ≡ slot_len d → IsBytes slot → IsRealSlot (blocks_in d i) (2 ^ depth_of d i) before slot
    → IsReadTo d i bytes (k + 1) (Some (number_of slot)) (cells ++ block_in slot ∷ [])
read_real d i bytes k before cells slot was is long small real =
    let block = block_in slot in
    let none : was.dummies ≡ 0 = (was.follows (number_of slot) real.follows).0 in
    let below : All (λ c. c.address + 1 < number_of slot) cells = (was.follows (number_of slot) real.follows).1 in
    let number : block.address + 1 ≡ number_of slot = omega (arith, real.some) in
    let again : slot_of block ≡ slot = slot_again slot (omega (arith, long)) small real.some in
    let zeros : was.dummies * slot_len d ≡ 0 = ap (λ (n : ℕ). n * slot_len d) none ∙ omega arith in
    let nothing : 0 * slot_len d ≡ 0 = omega arith in
    let front : take (k * slot_len d) bytes ≡ flat_map slot_of cells = was.spelled ∙ ap (λ (n : ℕ). flat_map slot_of cells ++ replicate n 0) zeros ∙ append-nil (flat_map slot_of cells) in
    record {
      dummies = 0;
      count = omega (arith, was.count, length_push cells block);
      spelled =
          slot_more d bytes k ∙ ap (λ (xs : List ℕ). xs ++ slot_at d bytes k) front ∙ ap (λ (xs : List ℕ). flat_map slot_of cells ++ xs) (sym is ∙ sym again)
          ∙ flat_map_more slot_of [] cells block ∙ sym (append-nil (flat_map slot_of (cells ++ block ∷ [])))
          ∙ ap (λ (n : ℕ). flat_map slot_of (cells ++ block ∷ []) ++ replicate n 0) (sym nothing);
      rising = all_pairs_push (λ (b c : Cell). b.address < c.address) cells block was.rising (λ j c h. omega (arith, below j c h, number));
      blocks = All-push (IsBlockOf d i) cells block was.blocks (record {
        address_in = omega (arith, number, real.address_in);
        leaf_in = real.leaf_in;
        whole = length-drop 8 slot ∙ omega (arith, long);
      });
      follows = λ n h.
          let above : number_of slot < n = less (number_of slot) n h in
          (refl, All-push (λ (c : Cell). c.address + 1 < n) cells block (λ j c l. omega (arith, below j c l, above)) (omega (arith, number, above)));
    }

zeros_are : (xs : List ℕ) → list_all (λ b. b == 0) xs ≡ true → xs ≡ replicate (length xs) 0
zeros_are [] h = refl
zeros_are (x ∷ xs) h =
    let parts = both (x == 0) (list_all (λ b. b == 0) xs) h in
    ap (λ (y : ℕ). y ∷ xs) (eqb-true x 0 parts.0) ∙ ap (λ (ys : List ℕ). 0 ∷ ys) (zeros_are xs parts.1)
  where
    both : (a b : Bool) → (a && b) ≡ true → (a ≡ true) × (b ≡ true)
    both true b h = (refl, h)
    both false b h = cc

pub read_dummy : (d : Sizes) (i : ℕ) (bytes : List ℕ) (k : ℕ) (before : Option ℕ) (cells : List Cell) (slot : List ℕ)
    → IsReadTo d i bytes k before cells → slot ≡ slot_at d bytes k → length slot ≡ slot_len d → IsDummySlot slot
    → IsReadTo d i bytes (k + 1) (Some (number_of slot)) cells
read_dummy d i bytes k before cells slot was is long dummy =
    let zeros : slot ≡ replicate (slot_len d) 0 = zeros_are slot dummy.zeros ∙ ap (λ (n : ℕ). replicate n 0) long in
    let more : was.dummies * slot_len d + slot_len d ≡ (was.dummies + 1) * slot_len d = omega arith in
    record {
      dummies = was.dummies + 1;
      count = omega (arith, was.count);
      spelled =
          slot_more d bytes k ∙ ap (λ (xs : List ℕ). xs ++ slot_at d bytes k) was.spelled
          ∙ append_assoc (flat_map slot_of cells) (replicate (was.dummies * slot_len d) 0) (slot_at d bytes k)
          ∙ ap (λ (xs : List ℕ). flat_map slot_of cells ++ (replicate (was.dummies * slot_len d) 0 ++ xs)) (sym is ∙ zeros)
          ∙ ap (λ (xs : List ℕ). flat_map slot_of cells ++ xs) (replicate-append-replicate {A = ℕ} (was.dummies * slot_len d) (slot_len d) 0 ∙ ap (λ (n : ℕ). replicate {A = ℕ} n 0) more);
      rising = was.rising;
      blocks = was.blocks;
      follows = λ n h. absurd (no_dummy n (ap (λ (m : ℕ). may_follow (Some m) n) (sym dummy.none) ∙ h));
    }
  where
    no_dummy : (n : ℕ) → may_follow (Some 0) n ≡ true → ⊥
    no_dummy n h = cc

pub read_all : (d : Sizes) (i : ℕ) (bytes : List ℕ) (k : ℕ) (before : Option ℕ) (cells : List Cell) → k ≡ d.slots → length bytes ≡ bucket_len d → IsReadTo d i bytes k before cells → IsSpelling d i cells bytes
unfolding spelling
read_all d i bytes k before cells end long read =
    let full : length bytes ≤ k * slot_len d = omega (arith, long, ap (λ (n : ℕ). n * slot_len d) end) in
    let dummies : read.dummies ≡ d.slots - length cells = omega (arith, read.count) in
    record {
      bucket = record { within = omega (arith, read.count); rising = read.rising; blocks = read.blocks };
      spelled = sym (take_all (k * slot_len d) bytes full) ∙ read.spelled ∙ ap (λ (n : ℕ). flat_map slot_of cells ++ replicate (n * slot_len d) 0) dummies;
    }

-- the next piece that the bytes are cut into is the next slot
pub record IsNextSlot (d : Sizes) (bytes : List ℕ) (k : ℕ) (slot rest : List ℕ) : Type 0 where
  pub is : slot ≡ slot_at d bytes k
  pub after : rest ≡ drop ((k + 1) * slot_len d) bytes
  pub within : k < d.slots

pub next_slot : (d : Sizes) (bytes : List ℕ) (k : ℕ) (slot now rest : List ℕ) → length bytes ≡ bucket_len d → now ≡ drop (k * slot_len d) bytes → now ≡ slot ++ rest → length slot ≡ slot_len d
    → IsNextSlot d bytes k slot rest
unfolding slot_at
next_slot d bytes k slot now rest all was cut long =
    let place : k * slot_len d + slot_len d ≡ (k + 1) * slot_len d = omega arith in
    let joined : slot ++ rest ≡ drop (k * slot_len d) bytes = sym cut ∙ was in
    record {
      is = sym (take-append_seam slot rest) ∙ ap (λ (n : ℕ). take n (slot ++ rest)) long ∙ ap (take (slot_len d)) joined;
      after = sym (drop-append_seam slot rest) ∙ ap (λ (n : ℕ). drop n (slot ++ rest)) long ∙ ap (drop (slot_len d)) joined ∙ drop-drop (slot_len d) (k * slot_len d) bytes ∙ ap (λ (n : ℕ). drop n bytes) place;
      within = elim (cases_lt k d.slots) [
        | inl h ↦ h
        | inr past ↦
            let far : d.slots * slot_len d ≤ k * slot_len d = mul-le-mul_right (slot_len d) past in
            absurd (omega (arith, far, all, long, length-drop (k * slot_len d) bytes, ap length joined, length-append slot rest))
      ];
    }

-- if no whole piece is left, all slots have been read
pub last_slot : (d : Sizes) (bytes : List ℕ) (k : ℕ) (rest : List ℕ) → length bytes ≡ bucket_len d → k ≤ d.slots → rest ≡ drop (k * slot_len d) bytes → length rest < slot_len d → k ≡ d.slots
last_slot d bytes k rest all within is short = elim (cases_lt k d.slots) [
  | inl early ↦
      let more : (k + 1) * slot_len d ≤ d.slots * slot_len d = mul-le-mul_right (slot_len d) (omega arith) in
      absurd (omega (arith, more, all, short, ap length is, length-drop (k * slot_len d) bytes))
  | inr past ↦ omega arith
]
