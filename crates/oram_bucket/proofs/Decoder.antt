-- The loop of the decoder: what it has read, and what is left to read.
use Rattle.std.proofs.Common.{◌≡◌, ℕ, ◌+◌, ◌*◌, ◌%◌, ◌^◌, ◌<◌, ◌≤◌, List, [], ◌∷◌, ◌++◌, length, drop, Option, Some, None, Result, Ok, Err, IfOk, IsOkAnd, sym, ap, ◌∙◌, inl, inr, arith, below_more, add-one, slice_index, subst}
use Rattle.std.proofs.lemmas.Nat.{one_shl}
use Rattle.oram_geometry.specs.declared.Sizes.{Sizes}
use Rattle.oram_geometry.specs.Sizes.{blocks_in, depth_of, bucket_len}
use Rattle.oram_bucket.specs.declared.codec.BucketFault.{BucketFault}
use Rattle.oram_bucket.specs.Bytes.{IsBytes}
use Rattle.oram_bucket.specs.Cell.{Cell}
use Rattle.oram_bucket.specs.Bucket.{IsSpelling, slot_len}
use Rattle.oram_bucket.specs.Slots.{number_of, block_in, slot_at, number_before}
use Rattle.oram_bucket.specs.Fault.{fault_behind, slot_fault, first_fault}
use Rattle.oram_bucket.proofs.UniqueEncoding.{HasFew, length-spelling, one_spelling, bytes_taken}
use Rattle.oram_bucket.proofs.Slots.{no_fault, first_of_slots, spelled_without_fault, slot_without_fault}
use Rattle.oram_bucket.proofs.SlotBySlot.{IsReadTo, read_real, read_dummy, read_all, next_slot, last_slot, bytes_dropped}

-- the loop's state after k slots, with these bytes left to cut into pieces of this size
pub record IsAt (d : Sizes) (i : ℕ) (bytes : List ℕ) (k : ℕ) (rest : List ℕ) (size : ℕ) (before : Option ℕ) (held : List Cell → Type 0) : Type 0 where
  pub within : k ≤ d.slots
  pub rest_is : rest ≡ drop (k * slot_len d) bytes
  pub size_is : size ≡ slot_len d
  pub clean : (j : ℕ) → j < k → slot_fault d i bytes j ≡ None
  pub before_is : before ≡ number_before d bytes k
  pub cells : List Cell
  pub read : IsReadTo d i bytes k before cells
  pub holds : held cells

-- the number of leaves as the code computes it
leaves_are : (d : Sizes) (i depth : ℕ) → depth ≡ depth_of d i → depth ≤ 24 → (1 * 2 ^ depth) % 2 ^ 32 ≡ 2 ^ depth_of d i
leaves_are d i depth is shallow = one_shl depth 32 (omega arith) ∙ ap (λ (n : ℕ). 2 ^ n) is

pub size_of : (d : Sizes) (slots block : ℕ) → slots ≡ d.slots → block ≡ d.block_bytes → slots * (8 + block) ≡ bucket_len d
size_of d slots block s b = ap (λ (n : ℕ). n * (8 + block)) s ∙ ap (λ (n : ℕ). d.slots * (8 + n)) b

-- one more block, if there was memory for it and for those before
pub more_held : {V E : Type 0} (items : V → List Cell) (blocks r : Result V E) (cells : List Cell) (x : Cell)
    → IfOk r (λ v. IsOkAnd blocks (λ u. items v ≡ items u ++ x ∷ [])) → IfOk blocks (λ u. items u ≡ cells) → IfOk r (λ v. items v ≡ cells ++ x ∷ [])
more_held items blocks (Err e) cells x grown held = tt
more_held items (Err e) (Ok v) cells x grown held = absurd grown
more_held items (Ok u) (Ok v) cells x grown held = grown ∙ ap (λ (cs : List Cell). cs ++ x ∷ []) held

-- the next piece, and the result of its test
pub record IsPiece (d : Sizes) (i : ℕ) (bytes : List ℕ) (k : ℕ) (before : Option ℕ) (slot rest rest' : List ℕ) (size size' : ℕ) (reported : Option BucketFault) : Type 0 where
  pub cut : rest ≡ slot ++ rest'
  pub long : length slot ≡ size
  pub same : size' ≡ size
  pub fault : slot_fault d i bytes k ≡ reported

pub piece : (d : Sizes) (i : ℕ) (bytes : List ℕ) (k : ℕ) (before : Option ℕ) (held : List Cell → Type 0) (slot rest rest' : List ℕ) (size size' blocks depth : ℕ) (reported : Option BucketFault)
    → IsAt d i bytes k rest size before held → length bytes ≡ bucket_len d
    → rest ≡ slot ++ rest' → length slot ≡ size → size' ≡ size
    → blocks ≡ blocks_in d i → depth ≡ depth_of d i → depth ≤ 24
    → reported ≡ fault_behind blocks ((1 * 2 ^ depth) % 2 ^ 32) before slot
    → IsPiece d i bytes k before slot rest rest' size size' reported
piece d i bytes k before held slot rest rest' size size' blocks depth reported at all cut long same blocks_are depth_is shallow said =
    let next = next_slot d bytes k slot rest rest' all at.rest_is cut (long ∙ at.size_is) in
    record {
      cut = cut;
      long = long;
      same = same;
      fault =
          ap (λ (n : ℕ). fault_behind n (2 ^ depth_of d i) (number_before d bytes k) (slot_at d bytes k)) (sym blocks_are)
          ∙ ap (λ (n : ℕ). fault_behind blocks n (number_before d bytes k) (slot_at d bytes k)) (sym (leaves_are d i depth depth_is shallow))
          ∙ ap (λ (b : Option ℕ). fault_behind blocks ((1 * 2 ^ depth) % 2 ^ 32) b (slot_at d bytes k)) (sym at.before_is)
          ∙ ap (fault_behind blocks ((1 * 2 ^ depth) % 2 ^ 32) before) (sym next.is) ∙ sym said;
    }

slot_bytes : (d : Sizes) (bytes : List ℕ) (k : ℕ) → IsBytes bytes → IsBytes (slot_at d bytes k)
unfolding slot_at
slot_bytes d bytes k all = bytes_taken (slot_len d) (drop (k * slot_len d) bytes) (bytes_dropped (k * slot_len d) bytes all)

-- after a slot with a block
pub at_real : (d : Sizes) (i : ℕ) (bytes : List ℕ) (k : ℕ) (before : Option ℕ) (held held' : List Cell → Type 0) (slot rest rest' : List ℕ) (size size' : ℕ)
    → IsAt d i bytes k rest size before held → length bytes ≡ bucket_len d → IsBytes bytes
    → IsPiece d i bytes k before slot rest rest' size size' None → 0 < number_of slot
    → ((cells : List Cell) → held cells → held' (cells ++ block_in slot ∷ []))
    → IsAt d i bytes (k + 1) rest' size' (Some (number_of slot)) held'
at_real d i bytes k before held held' slot rest rest' size size' at all small p some more =
    let next = next_slot d bytes k slot rest rest' all at.rest_is p.cut (p.long ∙ at.size_is) in
    let same : before ≡ number_before d bytes k = at.before_is in
    let fault : fault_behind (blocks_in d i) (2 ^ depth_of d i) before slot ≡ None =
    ap (λ (b : Option ℕ). fault_behind (blocks_in d i) (2 ^ depth_of d i) b slot) same ∙ ap (fault_behind (blocks_in d i) (2 ^ depth_of d i) (number_before d bytes k)) next.is ∙ p.fault in
    record {
      within = omega (arith, next.within);
      rest_is = next.after;
      size_is = p.same ∙ at.size_is;
      clean = below_more _ _ at.clean p.fault;
      before_is = ap (λ (s : List ℕ). Some (number_of s)) next.is ∙ ap (number_before d bytes) (sym (add-one k));
      cells = at.cells ++ block_in slot ∷ [];
      read = elim (slot_without_fault (blocks_in d i) (2 ^ depth_of d i) before slot fault) [
        | inl real ↦ read_real d i bytes k before at.cells slot at.read next.is (p.long ∙ at.size_is) (λ j. is_byte (slot_bytes d bytes k small j) (ap (λ (s : List ℕ). slice_index s j) next.is)) real
        | inr dummy ↦ absurd (omega (arith, dummy.none, some))
      ];
      holds = more at.cells at.holds;
    }
  where
    is_byte : {m n : ℕ} → n < 256 → m ≡ n → m < 256
    is_byte h e = omega arith

-- after a dummy
pub at_dummy : (d : Sizes) (i : ℕ) (bytes : List ℕ) (k : ℕ) (before : Option ℕ) (held : List Cell → Type 0) (slot rest rest' : List ℕ) (size size' : ℕ)
    → IsAt d i bytes k rest size before held → length bytes ≡ bucket_len d
    → IsPiece d i bytes k before slot rest rest' size size' None → number_of slot ≡ 0
    → IsAt d i bytes (k + 1) rest' size' (Some (number_of slot)) held
at_dummy d i bytes k before held slot rest rest' size size' at all p none =
    let next = next_slot d bytes k slot rest rest' all at.rest_is p.cut (p.long ∙ at.size_is) in
    let same : before ≡ number_before d bytes k = at.before_is in
    let fault : fault_behind (blocks_in d i) (2 ^ depth_of d i) before slot ≡ None =
    ap (λ (b : Option ℕ). fault_behind (blocks_in d i) (2 ^ depth_of d i) b slot) same ∙ ap (fault_behind (blocks_in d i) (2 ^ depth_of d i) (number_before d bytes k)) next.is ∙ p.fault in
    record {
      within = omega (arith, next.within);
      rest_is = next.after;
      size_is = p.same ∙ at.size_is;
      clean = below_more _ _ at.clean p.fault;
      before_is = ap (λ (s : List ℕ). Some (number_of s)) next.is ∙ ap (number_before d bytes) (sym (add-one k));
      cells = at.cells;
      read = elim (slot_without_fault (blocks_in d i) (2 ^ depth_of d i) before slot fault) [
        | inl real ↦ absurd (omega (arith, real.some, none))
        | inr dummy ↦ read_dummy d i bytes k before at.cells slot at.read next.is (p.long ∙ at.size_is) dummy
      ];
      holds = at.holds;
    }

-- the same, with the count and the number written in another form
pub moved : (d : Sizes) (i : ℕ) (bytes : List ℕ) (k n : ℕ) (rest : List ℕ) (size number same : ℕ) (held : List Cell → Type 0) → n ≡ k + 1 → number ≡ same
    → IsAt d i bytes (k + 1) rest size (Some same) held → IsAt d i bytes n rest size (Some number) held
moved d i bytes k n rest size number same held e f at =
    let P : ℕ → Type 0 = λ m. IsAt d i bytes m rest size (Some number) held in
    let Q : ℕ → Type 0 = λ m. IsAt d i bytes (k + 1) rest size (Some m) held in
    subst P (sym e) (subst Q (sym f) at)

-- at a slot with a fault
pub at_fault : (d : Sizes) (i : ℕ) (bytes : List ℕ) (k : ℕ) (before : Option ℕ) (held : List Cell → Type 0) (slot rest rest' : List ℕ) (size size' : ℕ) (f : BucketFault)
    → IsAt d i bytes k rest size before held → length bytes ≡ bucket_len d
    → IsPiece d i bytes k before slot rest rest' size size' (Some f) → first_fault d i bytes ≡ Some f
at_fault d i bytes k before held slot rest rest' size size' f at all p =
    let next = next_slot d bytes k slot rest rest' all at.rest_is p.cut (p.long ∙ at.size_is) in
    first_of_slots d i bytes k f all next.within at.clean p.fault

-- the loop's state at the end
pub record IsAtEnd (d : Sizes) (i : ℕ) (bytes : List ℕ) (held : List Cell → Type 0) : Type 0 where
  pub clean : first_fault d i bytes ≡ None
  pub cells : List Cell
  pub spelled : IsSpelling d i cells bytes
  pub holds : held cells

pub at_end : (d : Sizes) (i : ℕ) (bytes : List ℕ) (k : ℕ) (before : Option ℕ) (held : List Cell → Type 0) (rest : List ℕ) (size : ℕ)
    → IsAt d i bytes k rest size before held → length bytes ≡ bucket_len d → length rest < size → IsAtEnd d i bytes held
at_end d i bytes k before held rest size at all short =
    let last = last_slot d bytes k rest all at.within at.rest_is (omega (arith, short, at.size_is)) in
    record {
      clean = no_fault d i bytes all (λ j h. at.clean j (omega (arith, last)));
      cells = at.cells;
      spelled = read_all d i bytes k before at.cells last all at.read;
      holds = at.holds;
    }

-- bytes that spell a bucket have no fault
pub spelled_clean : (d : Sizes) (i : ℕ) (cells : List Cell) (bytes : List ℕ) → HasFew d i → IsSpelling d i cells bytes → first_fault d i bytes ≡ None
spelled_clean d i cells bytes few spelled =
    no_fault d i bytes (ap length spelled.spelled ∙ length-spelling d i cells spelled.bucket) (spelled_without_fault d i cells bytes few spelled)

pub not_spelled : (d : Sizes) (i : ℕ) (cells : List Cell) (bytes : List ℕ) (f : BucketFault) → HasFew d i → first_fault d i bytes ≡ Some f → IsSpelling d i cells bytes → ⊥
not_spelled d i cells bytes f few fault spelled = let none = spelled_clean d i cells bytes few spelled in cc

pub only_spelled : (d : Sizes) (i : ℕ) (xs ys : List Cell) (bytes : List ℕ) → HasFew d i → IsSpelling d i xs bytes → IsSpelling d i ys bytes → xs ≡ ys
only_spelled d i xs ys bytes few x y = one_spelling d i xs ys few x.bucket y.bucket (sym x.spelled ∙ y.spelled)
