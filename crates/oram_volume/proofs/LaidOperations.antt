-- What the commands of operations do to an array that is laid out.
use Rattle.std.proofs.Common.{◌≡◌, inl, inr, ℕ, zero, suc, ◌+◌, ◌-◌, ◌*◌, ◌/◌, ◌<◌, ◌≤◌, ◌^◌, List, [], ◌∷◌, ◌++◌, All, length, map, take, drop, add-zero, refl, sym, ap, ◌∙◌, subst, arith, append_assoc, drop_at, length-append, mul-zero}
use Rattle.std.proofs.lemmas.Bool.{cases_lt}
use Rattle.std.proofs.lemmas.Grind.{flat_map-append}
use Rattle.std.proofs.lemmas.List.{nil_from_length, take-append-le, take_at}
use Rattle.std.proofs.lemmas.List.Elements.{All-append, All-cons, All-head, All-nil, All-tail}
use Rattle.std.proofs.lemmas.Nat.{div-mul-add}
use Rattle.std.proofs.Math.Nat.{mul_comm}
use Rattle.std.proofs.Math.Seq.{take-append-add}
use Rattle.std.specs.List.{flat_map}
use Rattle.oram_geometry.specs.declared.Sizes.{Sizes}
use Rattle.oram_nbd.specs.Bytes.{IsBegun, bytes_at, written, zeroes}
use Rattle.oram_nbd.specs.Operations.{AreBegun, IsPartOf, IsWhole, IsWithin, TouchSomeByte, all_done, all_given, done_by, given_by, len_of, place_of, read_len}
use Rattle.oram_nbd.specs.declared.operations.Operation.{Operation}
use Rattle.oram_nbd.specs.declared.operations.Operation.TheVariants as operation
use Rattle.oram_nbd.proofs.ListSteps.{given_lens}
use Rattle.oram_semantics.specs.ArrayReplies.{array_after}
use Rattle.oram_semantics.specs.Blocks.{body_from}
use Rattle.oram_semantics.specs.Events.{address_of}
use Rattle.oram_semantics.specs.declared.events.Command.{Command}
use Rattle.oram_semantics.specs.declared.events.Reply.{Reply}
use Rattle.oram_semantics.specs.declared.events.ReplyBody.{ReplyBody}
use Rattle.oram_volume.specs.Blocks.{IsLaidOut}
use Rattle.oram_volume.specs.CarriedOut.{IsAfterFirst, after_commands, bodies_from}
use Rattle.oram_volume.specs.DiskCalls.{data_of}
use Rattle.oram_volume.specs.RangeCommands.{FitsDevice, all_commands, commands_of, discard_commands, read_commands, write_commands}
use Rattle.oram_volume.proofs.RangeCommands.{length_commands}
use Rattle.oram_volume.proofs.LaidRanges.{begun_discards, begun_reads, begun_writes, blocks_within, data_discards, data_read, data_writes, discards_fit, laid_after_discards, laid_after_reads, laid_after_writes, reads_fit, writes_fit}

-- ---- Commands, and then others

pub after_append : (d : Sizes) (xs ys : List Command) (array : ℕ → List ℕ) → after_commands d (xs ++ ys) array ≡ after_commands d ys (after_commands d xs array)
after_append d [] ys array = refl
after_append d (c ∷ xs) ys array = after_append d xs ys (array_after d c array)

pub bodies_append : (d : Sizes) (xs ys : List Command) (array : ℕ → List ℕ) → bodies_from d (xs ++ ys) array ≡ bodies_from d xs array ++ bodies_from d ys (after_commands d xs array)
bodies_append d [] ys array = refl
bodies_append d (c ∷ xs) ys array = ap (λ (l : List ReplyBody). body_from (array (address_of c)) c ∷ l) (bodies_append d xs ys (array_after d c array))

pub data_append : (d : Sizes) (xs ys : List Command) (array : ℕ → List ℕ)
    → flat_map data_of (bodies_from d (xs ++ ys) array) ≡ flat_map data_of (bodies_from d xs array) ++ flat_map data_of (bodies_from d ys (after_commands d xs array))
data_append d xs ys array = ap (λ (l : List ReplyBody). flat_map data_of l) (bodies_append d xs ys array) ∙ flat_map-append data_of (bodies_from d xs array) (bodies_from d ys (after_commands d xs array))

pub of_bodies : (replies : List Reply) → flat_map (λ (r : Reply). data_of r.body) replies ≡ flat_map data_of (map (λ (r : Reply). r.body) replies)
of_bodies [] = refl
of_bodies (r ∷ replies) = ap (λ (l : List ℕ). data_of r.body ++ l) (of_bodies replies)

-- ---- The commands of one operation

-- a number of whole blocks
blocks_are : (b n k : ℕ) → 0 < b → n ≡ b * k → n / b ≡ k
blocks_are b n k some is = ap (λ (m : ℕ). m / b) (is ∙ mul_comm b k ∙ sym (add-zero (k * b))) ∙ div-mul-add k b 0 some

-- operations that touch a byte have a command
pub touched_have_commands : (b : ℕ) → 0 < b → (ops : List Operation) → All (IsWhole b) ops → TouchSomeByte ops → all_commands b ops ≡ [] → ⊥
touched_have_commands b some [] whole touched none = touched
touched_have_commands b some (op ∷ ops) whole (inl here) none =
    let is = All-head (IsWhole b) op ops whole in
    let many : len_of op / b ≡ is.count = blocks_are b (len_of op) is.count some is.len in
    let size : length (commands_of b op ++ all_commands b ops) ≡ 0 = ap length none in
    let none_of_it : is.count ≡ 0 = omega (arith, size, length-append (commands_of b op) (all_commands b ops), length_commands b op, many) in
    let empty : len_of op ≡ 0 = is.len ∙ ap (λ (n : ℕ). b * n) none_of_it ∙ mul-zero b in
    omega (arith, here, empty)
touched_have_commands b some (op ∷ ops) whole (inr behind) none =
    let size : length (commands_of b op ++ all_commands b ops) ≡ 0 = ap length none in
    let short : length (all_commands b ops) ≡ 0 = omega (arith, size, length-append (commands_of b op) (all_commands b ops)) in
    touched_have_commands b some ops (All-tail (IsWhole b) op ops whole) behind (nil_from_length (all_commands b ops) short)

-- its blocks, by their numbers
pub record AreBlocks (b blocks : ℕ) (op : Operation) : Type 0 where
  pub first : ℕ
  pub count : ℕ
  pub place : place_of op ≡ b * first
  pub len : len_of op ≡ b * count
  pub at : place_of op / b ≡ first
  pub many : len_of op / b ≡ count
  pub within : first + count ≤ blocks

pub are_blocks : (b blocks : ℕ) (op : Operation) → 0 < b → IsWhole b op → IsWithin (b * blocks) op → AreBlocks b blocks op
are_blocks b blocks op some whole within = record {
  first = whole.first;
  count = whole.count;
  place = whole.place;
  len = whole.len;
  at = blocks_are b (place_of op) whole.first some whole.place;
  many = blocks_are b (len_of op) whole.count some whole.len;
  within = blocks_within b whole.first whole.count blocks some (omega (arith, within, whole.place, whole.len));
}

module _ (d : Sizes) where
  abbrev b : ℕ
  b = d.block_bytes

  reads_are : (at count : ℕ) (k : AreBlocks b d.blocks (operation.Read at count)) → commands_of b (operation.Read at count) ≡ read_commands k.first k.count
  reads_are at count k = ap (λ (n : ℕ). read_commands n (count / b)) k.at ∙ ap (read_commands k.first) k.many

  discards_are : (at count : ℕ) (k : AreBlocks b d.blocks (operation.Zero at count)) → commands_of b (operation.Zero at count) ≡ discard_commands k.first k.count
  discards_are at count k = ap (λ (n : ℕ). discard_commands n (count / b)) k.at ∙ ap (discard_commands k.first) k.many

  writes_are : (at : ℕ) (payload : List ℕ) (k : AreBlocks b d.blocks (operation.Write at payload)) → commands_of b (operation.Write at payload) ≡ write_commands b k.first k.count payload
  writes_are at payload k = ap (λ (n : ℕ). write_commands b n (length payload / b) payload) k.at ∙ ap (λ (n : ℕ). write_commands b k.first n payload) k.many

  one_fits : (op : Operation) → AreBlocks b d.blocks op → All (FitsDevice d) (commands_of b op)
  one_fits (operation.Read at count) k = subst (All (FitsDevice d)) (sym (reads_are at count k)) (reads_fit d k.count k.first k.within)
  one_fits (operation.Write at payload) k = subst (All (FitsDevice d)) (sym (writes_are at payload k)) (writes_fit d k.count k.first payload k.len k.within)
  one_fits (operation.Zero at count) k = subst (All (FitsDevice d)) (sym (discards_are at count k)) (discards_fit d k.count k.first k.within)

  -- after all of them
  one_done : (op : Operation) → AreBlocks b d.blocks op → (array : ℕ → List ℕ) (bytes : List ℕ) → IsLaidOut d array bytes → IsLaidOut d (after_commands d (commands_of b op) array) (done_by op bytes)
  one_done (operation.Read at count) k array bytes laid =
      subst (λ (cs : List Command). IsLaidOut d (after_commands d cs array) bytes) (sym (reads_are at count k)) (laid_after_reads d k.count k.first array bytes laid)
  one_done (operation.Write at payload) k array bytes laid =
      subst (λ (cs : List Command). IsLaidOut d (after_commands d cs array) (written bytes at payload)) (sym (writes_are at payload k))
      (subst (λ (p : ℕ). IsLaidOut d (after_commands d (write_commands b k.first k.count payload) array) (written bytes p payload)) (sym k.place)
      (laid_after_writes d k.count k.first payload array bytes laid k.len k.within))
  one_done (operation.Zero at count) k array bytes laid =
      subst (λ (cs : List Command). IsLaidOut d (after_commands d cs array) (written bytes at (zeroes count))) (sym (discards_are at count k))
      (subst (λ (p : ℕ). IsLaidOut d (after_commands d (discard_commands k.first k.count) array) (written bytes p (zeroes count))) (sym k.place)
      (subst (λ (n : ℕ). IsLaidOut d (after_commands d (discard_commands k.first k.count) array) (written bytes (b * k.first) (zeroes n))) (sym k.len)
      (laid_after_discards d k.count k.first array bytes laid k.within)))

  -- after the first ones
  one_begun : (op : Operation) → AreBlocks b d.blocks op → (n : ℕ) (array : ℕ → List ℕ) (bytes : List ℕ) → IsLaidOut d array bytes
      → (later : List ℕ) × IsPartOf op bytes later × IsLaidOut d (after_commands d (take n (commands_of b op)) array) later
  one_begun (operation.Read at count) k n array bytes laid =
      (bytes, refl, subst (λ (cs : List Command). IsLaidOut d (after_commands d (take n cs) array) bytes) (sym (reads_are at count k)) (begun_reads d n k.count k.first array bytes laid))
  one_begun (operation.Write at payload) k n array bytes laid =
      let h = begun_writes d n k.count k.first payload array bytes laid k.len k.within in (
        h.0,
        subst (λ (p : ℕ). IsBegun bytes p payload h.0) (sym k.place) h.1,
        subst (λ (cs : List Command). IsLaidOut d (after_commands d (take n cs) array) h.0) (sym (writes_are at payload k)) h.2,
      )
  one_begun (operation.Zero at count) k n array bytes laid =
      let h = begun_discards d n k.count k.first array bytes laid k.within in (
        h.0,
        subst (λ (p : ℕ). IsBegun bytes p (zeroes count) h.0) (sym k.place) (subst (λ (m : ℕ). IsBegun bytes (b * k.first) (zeroes m) h.0) (sym k.len) h.1),
        subst (λ (cs : List Command). IsLaidOut d (after_commands d (take n cs) array) h.0) (sym (discards_are at count k)) h.2,
      )

  -- their data
  one_data : (op : Operation) → AreBlocks b d.blocks op → (array : ℕ → List ℕ) (bytes : List ℕ) → IsLaidOut d array bytes → flat_map data_of (bodies_from d (commands_of b op) array) ≡ given_by op bytes
  one_data (operation.Read at count) k array bytes laid =
      ap (λ (cs : List Command). flat_map data_of (bodies_from d cs array)) (reads_are at count k) ∙ data_read d k.count k.first array bytes laid k.within
      ∙ ap (λ (p : ℕ). bytes_at bytes p (b * k.count)) (sym k.place) ∙ ap (bytes_at bytes at) (sym k.len)
  one_data (operation.Write at payload) k array bytes laid = ap (λ (cs : List Command). flat_map data_of (bodies_from d cs array)) (writes_are at payload k) ∙ data_writes d k.count k.first payload array
  one_data (operation.Zero at count) k array bytes laid = ap (λ (cs : List Command). flat_map data_of (bodies_from d cs array)) (discards_are at count k) ∙ data_discards d k.count k.first array

  -- ---- The commands of several operations

  module _ (some : 0 < b) where
    blocks_of : (op : Operation) → IsWhole b op → IsWithin (b * d.blocks) op → AreBlocks b d.blocks op
    blocks_of op whole within = are_blocks b d.blocks op some whole within

    pub all_fit : (ops : List Operation) → All (IsWhole b) ops → All (IsWithin (b * d.blocks)) ops → All (FitsDevice d) (all_commands b ops)
    all_fit [] whole within = All-nil (FitsDevice d)
    all_fit (op ∷ ops) whole within =
        All-append (FitsDevice d) (commands_of b op) (all_commands b ops) (one_fits op (blocks_of op (All-head (IsWhole b) op ops whole) (All-head (IsWithin (b * d.blocks)) op ops within)))
        (all_fit ops (All-tail (IsWhole b) op ops whole) (All-tail (IsWithin (b * d.blocks)) op ops within))

    pub laid_done : (ops : List Operation) → All (IsWhole b) ops → All (IsWithin (b * d.blocks)) ops → (array : ℕ → List ℕ) (bytes : List ℕ) → IsLaidOut d array bytes
        → IsLaidOut d (after_commands d (all_commands b ops) array) (all_done ops bytes)
    laid_done [] whole within array bytes laid = laid
    laid_done (op ∷ ops) whole within array bytes laid =
        let k = blocks_of op (All-head (IsWhole b) op ops whole) (All-head (IsWithin (b * d.blocks)) op ops within) in
        subst (λ (a : ℕ → List ℕ). IsLaidOut d a (all_done ops (done_by op bytes))) (sym (after_append d (commands_of b op) (all_commands b ops) array))
        (laid_done ops (All-tail (IsWhole b) op ops whole) (All-tail (IsWithin (b * d.blocks)) op ops within) (after_commands d (commands_of b op) array) (done_by op bytes) (one_done op k array bytes laid))

    pub laid_data : (ops : List Operation) → All (IsWhole b) ops → All (IsWithin (b * d.blocks)) ops → (array : ℕ → List ℕ) (bytes : List ℕ) → IsLaidOut d array bytes
        → flat_map data_of (bodies_from d (all_commands b ops) array) ≡ flat_map (λ (l : List ℕ). l) (all_given ops bytes)
    laid_data [] whole within array bytes laid = refl
    laid_data (op ∷ ops) whole within array bytes laid =
        let k = blocks_of op (All-head (IsWhole b) op ops whole) (All-head (IsWithin (b * d.blocks)) op ops within) in
        let rest = laid_data ops (All-tail (IsWhole b) op ops whole) (All-tail (IsWithin (b * d.blocks)) op ops within) (after_commands d (commands_of b op) array) (done_by op bytes) (one_done op k array bytes laid) in
        data_append d (commands_of b op) (all_commands b ops) array
        ∙ ap (λ (l : List ℕ). l ++ flat_map data_of (bodies_from d (all_commands b ops) (after_commands d (commands_of b op) array))) (one_data op k array bytes laid)
        ∙ ap (λ (l : List ℕ). given_by op bytes ++ l) rest

    -- the first n of them
    pub laid_begun : (ops : List Operation) → All (IsWhole b) ops → All (IsWithin (b * d.blocks)) ops → (n : ℕ) (array : ℕ → List ℕ) (bytes : List ℕ) → IsLaidOut d array bytes
        → (later : List ℕ) × AreBegun ops bytes later × IsLaidOut d (after_commands d (take n (all_commands b ops)) array) later
    laid_begun [] whole within zero array bytes laid = (bytes, refl, laid)
    laid_begun [] whole within (suc n) array bytes laid = (bytes, refl, laid)
    laid_begun (op ∷ ops) whole within n array bytes laid =
        let cs : List Command = commands_of b op in
        let more : List Command = all_commands b ops in
        let k = blocks_of op (All-head (IsWhole b) op ops whole) (All-head (IsWithin (b * d.blocks)) op ops within) in
        elim (cases_lt n (length cs)) [
          | inl part ↦
              let h = one_begun op k n array bytes laid in
              let same : take n (cs ++ more) ≡ take n cs = take-append-le n cs more (omega (arith, part)) in
              (h.0, inl h.1, subst (λ (l : List Command). IsLaidOut d (after_commands d l array) h.0) (sym same) h.2)
          | inr past ↦
              let m : ℕ = n - length cs in
              let all : n ≡ length cs + m = omega (arith, past) in
              let same : take n (cs ++ more) ≡ cs ++ take m more = ap (λ (i : ℕ). take i (cs ++ more)) all ∙ take-append-add cs more m in
              let h = laid_begun ops (All-tail (IsWhole b) op ops whole) (All-tail (IsWithin (b * d.blocks)) op ops within) m (after_commands d cs array) (done_by op bytes) (one_done op k array bytes laid) in
              (h.0, inr h.1, subst (λ (a : ℕ → List ℕ). IsLaidOut d a h.0) (sym (ap (λ (l : List Command). after_commands d l array) same ∙ after_append d cs (take m more) array)) h.2)
        ]

    -- some of them, and no others
    pub laid_front : (ops : List Operation) → All (IsWhole b) ops → All (IsWithin (b * d.blocks)) ops → (done rest : List Command) → all_commands b ops ≡ done ++ rest → (array later : ℕ → List ℕ) (bytes : List ℕ)
        → IsLaidOut d array bytes → later ≡ after_commands d done array → (next : List ℕ) × AreBegun ops bytes next × IsLaidOut d later next
    laid_front ops whole within done rest split array later bytes laid is =
        let h = laid_begun ops whole within (length done) array bytes laid in
        let same : take (length done) (all_commands b ops) ≡ done = ap (take (length done)) split ∙ take_at done rest (length done) refl in
        (h.0, h.1, subst (λ (a : ℕ → List ℕ). IsLaidOut d a h.0) (ap (λ (l : List Command). after_commands d l array) same ∙ sym is) h.2)

-- ---- Data that is cut up

same_parts : (xs ys : List (List ℕ)) → map length xs ≡ map length ys → flat_map (λ (l : List ℕ). l) xs ≡ flat_map (λ (l : List ℕ). l) ys → xs ≡ ys
same_parts [] [] lens all = refl
same_parts [] (y ∷ ys) lens all = absurd cc
same_parts (x ∷ xs) [] lens all = absurd cc
same_parts (x ∷ xs) (y ∷ ys) lens all =
    let long : length x ≡ length y = cc in
    let rest : map length xs ≡ map length ys = cc in
    let xs_all : List ℕ = flat_map (λ (l : List ℕ). l) xs in
    let ys_all : List ℕ = flat_map (λ (l : List ℕ). l) ys in
    let first : x ≡ y = sym (take_at x xs_all (length x) refl) ∙ ap (take (length x)) all ∙ take_at y ys_all (length x) (sym long) in
    let behind : xs_all ≡ ys_all = sym (drop_at x xs_all (length x) refl) ∙ ap (drop (length x)) all ∙ drop_at y ys_all (length x) (sym long) in
    ap (λ (l : List ℕ). l ∷ xs) first ∙ ap (λ (l : List (List ℕ)). y ∷ l) (same_parts xs ys rest behind)

-- what is cut up by the lengths of the operations is what each of them gives
pub given_are : (size : ℕ) (ops : List Operation) (bytes whole : List ℕ) (given : List (List ℕ)) → length bytes ≡ size → All (IsWithin size) ops → map length given ≡ map read_len ops
    → flat_map (λ (l : List ℕ). l) given ≡ whole → whole ≡ flat_map (λ (l : List ℕ). l) (all_given ops bytes) → given ≡ all_given ops bytes
given_are size ops bytes whole given long within lens cut is = same_parts given (all_given ops bytes) (lens ∙ sym (given_lens size ops bytes long within)) (cut ∙ is)

-- All of them were begun.
pub begun_all_of : (ops : List Operation) (bytes : List ℕ) → AreBegun ops bytes (all_done ops bytes)
begun_all_of [] bytes = refl
begun_all_of (op ∷ ops) bytes = inr (begun_all_of ops (done_by op bytes))

-- what all elements of a list have, the elements of a part of it have too
pub middle_all : {X : Type 0} (P : X → Type 0) (xs ys zs : List X) → All P (xs ++ (ys ++ zs)) → All P ys
middle_all P [] [] zs all = All-nil P
middle_all P [] (y ∷ ys) zs all = All-cons P y ys (All-head P y (ys ++ zs) all) (middle_all P [] ys zs (All-tail P y (ys ++ zs) all))
middle_all P (x ∷ xs) ys zs all = middle_all P xs ys zs (All-tail P x (xs ++ (ys ++ zs)) all)

-- the numbers of blocks and bytes are small
module _ (b blocks : ℕ) (some : 0 < b) (few : blocks ≤ 2 ^ 26) (bound : b * blocks < 2 ^ 63) where
  pub all_bound : (ops : List Operation) → All (IsWithin (b * blocks)) ops → All (λ (op : Operation). place_of op + len_of op < 2 ^ 63) ops
  all_bound [] within = All-nil (λ (op : Operation). place_of op + len_of op < 2 ^ 63)
  all_bound (op ∷ ops) within =
      let here : place_of op + len_of op ≤ b * blocks = All-head (IsWithin (b * blocks)) op ops within in
      All-cons (λ (op : Operation). place_of op + len_of op < 2 ^ 63) op ops (omega (arith, here, bound)) (all_bound ops (All-tail (IsWithin (b * blocks)) op ops within))

  pub all_numbers : (ops : List Operation) → All (IsWhole b) ops → All (IsWithin (b * blocks)) ops → All (λ (op : Operation). place_of op / b + len_of op / b < 2 ^ 32) ops
  all_numbers [] whole within = All-nil (λ (op : Operation). place_of op / b + len_of op / b < 2 ^ 32)
  all_numbers (op ∷ ops) whole within =
      let k = are_blocks b blocks op some (All-head (IsWhole b) op ops whole) (All-head (IsWithin (b * blocks)) op ops within) in
      All-cons (λ (op : Operation). place_of op / b + len_of op / b < 2 ^ 32) op ops (omega (arith, k.at, k.many, k.within, few))
      (all_numbers ops (All-tail (IsWhole b) op ops whole) (All-tail (IsWithin (b * blocks)) op ops within))

-- on another device that is the same
pub on_device : (d e : Sizes) → e ≡ d → (commands : List Command) (array : ℕ → List ℕ) → after_commands e commands array ≡ after_commands d commands array
on_device d e same commands array = ap (λ (x : Sizes). after_commands x commands array) same

pub bodies_on_device : (d e : Sizes) → e ≡ d → (commands : List Command) (array : ℕ → List ℕ) → bodies_from e commands array ≡ bodies_from d commands array
bodies_on_device d e same commands array = ap (λ (x : Sizes). bodies_from x commands array) same

-- commands were carried out, and then the first of the next ones
pub behind_first : (d e : Sizes) → e ≡ d → (all done commands rest : List Command) → all ≡ done ++ (commands ++ rest) → (array mid later : ℕ → List ℕ) → mid ≡ after_commands d done array → IsAfterFirst e commands mid later → IsAfterFirst d all array later
behind_first d e same all done commands rest split array mid later led (front, back, cut, is) = (
  done ++ front,
  back ++ rest,
  split ∙ ap (λ (l : List Command). done ++ (l ++ rest)) cut ∙ ap (λ (l : List Command). done ++ l) (append_assoc front back rest) ∙ sym (append_assoc done front (back ++ rest)),
  is ∙ on_device d e same front mid ∙ ap (after_commands d front) led ∙ sym (after_append d done front array),
)
