-- Lists of operations, part by part.
use Rattle.std.proofs.Common.{◌≡◌, ◌⊎◌, inl, inr, ℕ, ◌+◌, ◌*◌, ◌/◌, ◌<◌, add-zero, ◌≤◌, List, [], ◌∷◌, ◌++◌, All, length, map, take, drop, refl, sym, ap, ◌∙◌, subst, arith, append_assoc, length-take-le, get_or, suc, Bool, true, false, ◌-◌, length-drop, drop-cons, Result, Ok, Err, IfOk, MatchResult, length-append}
use Rattle.std.proofs.lemmas.Nat.{div-mul-add}
use Rattle.std.proofs.Math.Nat.{mul_comm}
use Rattle.std.proofs.lemmas.List.Elements.{All-head, All-tail}
use Rattle.std.proofs.lemmas.List.{append-nil, drop-drop, drop_all, length-replicate, map-append, take-append-drop, take_all}
use Rattle.std.proofs.Math.Seq.{take-add}
use Rattle.oram_nbd.specs.Beside.{Arrays}
use Rattle.oram_nbd.specs.Bytes.{bytes_at, zeroes, IsBegun}
use Rattle.oram_nbd.specs.Calls.{Saves, SavesAll, SavesPart, Reads}
use Rattle.oram_nbd.specs.Operations.{AreBegun, IsPartOf, IsWithin, TouchSomeByte, all_done, all_given, done_by, given_by, len_of, read_len}
use Rattle.oram_nbd.specs.declared.faults.DiskFault.{DiskFault}
use Rattle.oram_nbd.specs.declared.operations.Operation.{Operation}
use Rattle.oram_nbd.specs.declared.operations.Operation.TheVariants.{Read, Write, Zero}
use Rattle.oram_nbd.proofs.Saving.{all_weaker, part_weaker}
use Rattle.oram_nbd.proofs.Splices.{begun_none, begun_whole, length-written}

pub given_append : (xs ys : List Operation) (bytes : List ℕ) → all_given (xs ++ ys) bytes ≡ all_given xs bytes ++ all_given ys (all_done xs bytes)
given_append [] ys bytes = refl
given_append (x ∷ xs) ys bytes = ap (λ (l : List (List ℕ)). given_by x bytes ∷ l) (given_append xs ys (done_by x bytes))

pub done_append : (xs ys : List Operation) (bytes : List ℕ) → all_done (xs ++ ys) bytes ≡ all_done ys (all_done xs bytes)
done_append [] ys bytes = refl
done_append (x ∷ xs) ys bytes = done_append xs ys (done_by x bytes)

-- nothing of an operation was done
pub part_none : (op : Operation) (bytes : List ℕ) → IsPartOf op bytes bytes
part_none (Read at count) bytes = refl
part_none (Write at payload) bytes = begun_none bytes at payload
part_none (Zero at count) bytes = begun_none bytes at _

-- nor of several operations
pub begun_nothing : (ops : List Operation) (bytes : List ℕ) → AreBegun ops bytes bytes
begun_nothing [] bytes = refl
begun_nothing (x ∷ xs) bytes = inl (part_none x bytes)

-- if the first of these operations were begun, all of them count as begun
pub begun_first : (xs ys : List Operation) (bytes later : List ℕ) → AreBegun xs bytes later → AreBegun (xs ++ ys) bytes later
begun_first [] ys bytes later same = subst (AreBegun ys bytes) (sym same) (begun_nothing ys bytes)
begun_first (x ∷ xs) ys bytes later (inl part) = inl part
begun_first (x ∷ xs) ys bytes later (inr rest) = inr (begun_first xs ys (done_by x bytes) later rest)

-- the first ones were done, and then some others begun
pub begun_behind : (xs ys : List Operation) (bytes later : List ℕ) → AreBegun ys (all_done xs bytes) later → AreBegun (xs ++ ys) bytes later
begun_behind [] ys bytes later rest = rest
begun_behind (x ∷ xs) ys bytes later rest = inr (begun_behind xs ys (done_by x bytes) later rest)

-- The first `i` of these operations have led from `old` to `now`, and have read this.
pub record Carried (ops : List Operation) (old : List ℕ) (i : ℕ) (given : List (List ℕ)) (now : List ℕ) : Type 0 where
  pub all : all_given ops old ≡ given ++ all_given (drop i ops) now
  pub done : all_done ops old ≡ all_done (drop i ops) now
  pub begun : (later : List ℕ) → AreBegun (drop i ops) now later → AreBegun ops old later

pub carried_none : (ops : List Operation) (bytes : List ℕ) → Carried ops bytes 0 [] bytes
carried_none ops bytes = record { all = refl; done = refl; begun = λ later h. h }

module _ (ops : List Operation) (old : List ℕ) (i : ℕ) (given : List (List ℕ)) (now : List ℕ) (so_far : Carried ops old i given now) where
  parts : (n : ℕ) → take n (drop i ops) ++ drop (i + n) ops ≡ drop i ops
  parts n = ap (λ (l : List Operation). take n (drop i ops) ++ l) (sym (drop-drop n i ops)) ∙ take-append-drop n (drop i ops)

  -- n more of them
  pub carried_more : (n : ℕ) (more : List (List ℕ)) (next : List ℕ) → more ≡ all_given (take n (drop i ops)) now → next ≡ all_done (take n (drop i ops)) now → Carried ops old (i + n) (given ++ more) next
  carried_more n more next gave led = record {
    all = so_far.all ∙ ap (λ (l : List Operation). given ++ all_given l now) (sym (parts n))
        ∙ ap (λ (l : List (List ℕ)). given ++ l) (given_append (take n (drop i ops)) (drop (i + n) ops) now)
        ∙ ap (λ (l : List (List ℕ)). given ++ (l ++ all_given (drop (i + n) ops) (all_done (take n (drop i ops)) now))) (sym gave)
        ∙ ap (λ (b : List ℕ). given ++ (more ++ all_given (drop (i + n) ops) b)) (sym led)
        ∙ sym (append_assoc given more (all_given (drop (i + n) ops) next));
    done = so_far.done ∙ ap (λ (l : List Operation). all_done l now) (sym (parts n)) ∙ done_append (take n (drop i ops)) (drop (i + n) ops) now
        ∙ ap (all_done (drop (i + n) ops)) (sym led);
    begun = λ later h. so_far.begun later (subst (λ (l : List Operation). AreBegun l now later) (parts n)
        (begun_behind (take n (drop i ops)) (drop (i + n) ops) now later (subst (λ (b : List ℕ). AreBegun (drop (i + n) ops) b later) led h)));
  }

  -- some of the next n were begun
  pub carried_begun : (n : ℕ) (later : List ℕ) → AreBegun (take n (drop i ops)) now later → AreBegun ops old later
  carried_begun n later h = so_far.begun later (subst (λ (l : List Operation). AreBegun l now later) (parts n) (begun_first (take n (drop i ops)) (drop (i + n) ops) now later h))

  -- no more of them was begun
  pub carried_stopped : AreBegun ops old now
  carried_stopped = so_far.begun now (begun_nothing (drop i ops) now)

  -- these were all
  pub carried_all : length ops ≤ i → (given ≡ all_given ops old) × (now ≡ all_done ops old)
  carried_all end =
      let none : drop i ops ≡ [] = drop_all i ops end in (
        sym (so_far.all ∙ ap (λ (l : List Operation). given ++ all_given l now) none ∙ append-nil given),
        sym (so_far.done ∙ ap (λ (l : List Operation). all_done l now) none),
      )

-- an operation within an array leaves it as long as it was
pub length_done : (size : ℕ) (op : Operation) (bytes : List ℕ) → length bytes ≡ size → IsWithin size op → length (done_by op bytes) ≡ size
length_done size (Read at count) bytes long within = long
length_done size (Write at payload) bytes long within = length-written bytes at payload (omega (arith, long, within)) ∙ long
length_done size (Zero at count) bytes long within = length-written bytes at _ (omega (arith, long, within, length_zeroes count)) ∙ long
  where
    length_zeroes : (n : ℕ) → length (zeroes n) ≡ n
    length_zeroes n = length-replicate n 0

-- an operation that was done was done up to its last byte
pub part_whole : (op : Operation) (bytes : List ℕ) → IsPartOf op bytes (done_by op bytes)
part_whole (Read at count) bytes = refl
part_whole (Write at payload) bytes = begun_whole bytes at payload
part_whole (Zero at count) bytes = begun_whole bytes at _

length_begun : (size at : ℕ) (all bytes later : List ℕ) → length bytes ≡ size → at + length all ≤ size → IsBegun bytes at all later → length later ≡ size
length_begun size at all bytes later long within begun =
    let few : begun.0 ≤ length all = begun.1 in
    let short : length (take begun.0 all) ≡ begun.0 = length-take-le begun.0 all few in
    ap length begun.2 ∙ length-written bytes at (take begun.0 all) (omega (arith, long, within, short)) ∙ long

pub length_part : (size : ℕ) (op : Operation) (bytes later : List ℕ) → length bytes ≡ size → IsWithin size op → IsPartOf op bytes later → length later ≡ size
length_part size (Read at count) bytes later long within same = ap length same ∙ long
length_part size (Write at payload) bytes later long within begun = length_begun size at payload bytes later long within begun
length_part size (Zero at count) bytes later long within begun =
    let all : length (zeroes count) ≡ count = length-replicate count 0 in
    length_begun size at (zeroes count) bytes later long (omega (arith, within, all)) begun

-- one more operation
pub carried_one : (ops : List Operation) (old : List ℕ) (i : ℕ) (given : List (List ℕ)) (now next bytes : List ℕ) (op : Operation) → Carried ops old i given now → i < length ops → op ≡ get_or ops i op
    → bytes ≡ given_by op now → next ≡ done_by op now → Carried ops old (i + 1) (given ++ bytes ∷ []) next
carried_one ops old i given now next bytes op so_far more is gave led =
    let front : take 1 (drop i ops) ≡ op ∷ [] = ap (take 1) (drop-cons ops i op more) ∙ ap (λ (x : Operation). x ∷ []) (sym is) in
    carried_more ops old i given now so_far 1 (bytes ∷ []) next
    (ap (λ (b : List ℕ). b ∷ []) gave ∙ ap (λ (l : List Operation). all_given l now) (sym front)) (led ∙ ap (λ (l : List Operation). all_done l now) (sym front))

pub length_given : (ops : List Operation) (bytes : List ℕ) → length (all_given ops bytes) ≡ length ops
length_given [] bytes = refl
length_given (op ∷ ops) bytes = ap (λ (n : ℕ). suc n) (length_given ops (done_by op bytes))

read_long : (size : ℕ) (op : Operation) (bytes : List ℕ) → length bytes ≡ size → IsWithin size op → length (given_by op bytes) ≡ read_len op
read_long size (Read at count) bytes long within =
    let rest : length (drop at bytes) ≡ length bytes - at = length-drop at bytes in
    length-take-le count (drop at bytes) (omega (arith, rest, long, within))
read_long size (Write at payload) bytes long within = refl
read_long size (Zero at count) bytes long within = refl

-- what operations within an array read is as long as they say
pub given_lens : (size : ℕ) (ops : List Operation) (bytes : List ℕ) → length bytes ≡ size → All (IsWithin size) ops → map length (all_given ops bytes) ≡ map read_len ops
given_lens size [] bytes long within = refl
given_lens size (op ∷ ops) bytes long within =
    let here = All-head (IsWithin size) op ops within in
    ap (λ (n : ℕ). n ∷ map length (all_given ops (done_by op bytes))) (read_long size op bytes long here)
    ∙ ap (λ (l : List ℕ). read_len op ∷ l) (given_lens size ops (done_by op bytes) (length_done size op bytes long here) (All-tail (IsWithin size) op ops within))

-- One operation, the first one, was carried out alone.
pub front_alone : (ops : List Operation) (op : Operation) (bytes : List ℕ) (items : List (List ℕ)) (old new : Arrays (List ℕ)) → 0 < length ops → op ≡ get_or ops 0 op → items ≡ bytes ∷ []
    → bytes ≡ given_by op old.held → new.held ≡ done_by op old.held → SavesAll (0 < len_of op) old new
    → (items ≡ all_given (take (length items) ops) old.held) × (new.held ≡ all_done (take (length items) ops) old.held) × SavesAll (TouchSomeByte (take (length items) ops)) old new
front_alone [] op bytes items old new some is one gave led kept = absurd (omega (arith, some))
front_alone (x ∷ ops) op bytes items old new some is one gave led kept =
    let front : take (length items) (x ∷ ops) ≡ op ∷ [] = ap (λ (k : ℕ). take k (x ∷ ops)) (ap length one) ∙ ap (λ (o : Operation). o ∷ []) (sym is) in (
      one ∙ ap (λ (l : List ℕ). l ∷ []) gave ∙ ap (λ (l : List Operation). all_given l old.held) (sym front),
      led ∙ ap (λ (l : List Operation). all_done l old.held) (sym front),
      subst (λ (l : List Operation). SavesAll (TouchSomeByte l) old new) (sym front) (all_weaker kept (λ touched. elim touched [ inl here ↦ here | inr none ↦ absurd none ])),
    )

pub lies_if : (may_lie : Bool) → (may_lie ≡ false → ⊥) → may_lie ≡ true
lies_if true not = refl
lies_if false not = absurd (not refl)

-- the first n operations were carried out, and were all, or they were begun
pub front_outcome : {T : Type 0} (result : Result T DiskFault) (items : T → List (List ℕ)) (ops : List Operation) (n : ℕ) (old new : Arrays (List ℕ)) → n ≤ length ops
    → MatchResult result (λ g. (items g ≡ all_given (take n ops) old.held) × (new.held ≡ all_done (take n ops) old.held)) (λ _. AreBegun (take n ops) old.held new.held)
    → Saves result (TouchSomeByte (take n ops)) (AreBegun (take n ops)) old new
    → MatchResult result
    (λ g. let front = take (length (items g)) ops in (items g ≡ all_given front old.held) × (new.held ≡ all_done front old.held) × SavesAll (TouchSomeByte front) old new)
    (λ _. AreBegun ops old.held new.held × SavesPart (AreBegun ops) old new)
front_outcome (Ok g) items ops n old new few h k =
    let many : n ≡ length (items g) = sym (ap length h.0 ∙ length_given (take n ops) old.held ∙ length-take-le n ops few) in
    subst (λ (i : ℕ). (items g ≡ all_given (take i ops) old.held) × (new.held ≡ all_done (take i ops) old.held) × SavesAll (TouchSomeByte (take i ops)) old new) many (h.0, h.1, k)
front_outcome (Err e) items ops n old new few h k =
    let all = λ (later : List ℕ) (begun : AreBegun (take n ops) old.held later). subst (λ (l : List Operation). AreBegun l old.held later) (take-append-drop n ops) (begun_first (take n ops) (drop n ops) old.held later begun) in
    (all new.held h, part_weaker k all)

-- The first `k` operations have their results, which are `given`. These lemmas are about the operations after them.
module _ (ops : List Operation) (given more : List (List ℕ)) (k : ℕ) (here : k ≡ length given) (most : length more ≤ length (take (length ops - k) (drop k ops))) where
  behind : take (length ops - k) (drop k ops) ≡ drop k ops
  behind = take_all (length ops - k) (drop k ops) (let long : length (drop k ops) ≡ length ops - k = length-drop k ops in omega (arith, long))

  slice_is : take (length more) (take (length ops - k) (drop k ops)) ≡ take (length more) (drop (length given) ops)
  slice_is = ap (take (length more)) (behind ∙ ap (λ (i : ℕ). drop i ops) here)

  few_more : length more ≤ length ops - length given
  few_more = subst (λ (i : ℕ). length more ≤ length ops - i) here (subst (λ (n : ℕ). length more ≤ n) (ap length behind ∙ length-drop k ops) most)

pub slice_few : (ops : List Operation) (given more : List (List ℕ)) (k : ℕ) → k ≡ length given → length given ≤ length ops → length more ≤ length (take (length ops - k) (drop k ops)) → length (given ++ more) ≤ length ops
slice_few ops given more k here few most =
    let less : length more ≤ length ops - length given = few_more ops given more k here most in omega (arith, length-append given more, less, few)

pub slice_lens : (ops : List Operation) (given more : List (List ℕ)) (k : ℕ) → k ≡ length given → length more ≤ length (take (length ops - k) (drop k ops)) → map length given ≡ map read_len (take (length given) ops)
    → map length more ≡ map read_len (take (length more) (take (length ops - k) (drop k ops))) → map length (given ++ more) ≡ map read_len (take (length (given ++ more)) ops)
slice_lens ops given more k here most first second =
    map-append length given more ∙ ap (λ (l : List ℕ). l ++ map length more) first
    ∙ ap (λ (l : List ℕ). map read_len (take (length given) ops) ++ l) (second ∙ ap (map read_len) (slice_is ops given more k here most))
    ∙ sym (map-append read_len (take (length given) ops) (take (length more) (drop (length given) ops)))
    ∙ ap (map read_len) (sym (take-add (length given) (length more) ops)) ∙ ap (λ (n : ℕ). map read_len (take n ops)) (sym (length-append given more))

pub carried_slice : (ops : List Operation) (old : List ℕ) (given : List (List ℕ)) (now : List ℕ) → Carried ops old (length given) given now → (k : ℕ) → k ≡ length given → (more : List (List ℕ)) (next : List ℕ)
    → length more ≤ length (take (length ops - k) (drop k ops)) → more ≡ all_given (take (length more) (take (length ops - k) (drop k ops))) now → next ≡ all_done (take (length more) (take (length ops - k) (drop k ops))) now
    → Carried ops old (length (given ++ more)) (given ++ more) next
carried_slice ops old given now so_far k here more next most gave led =
    let same = slice_is ops given more k here most in
    subst (λ (n : ℕ). Carried ops old n (given ++ more) next) (sym (length-append given more))
    (carried_more ops old (length given) given now so_far (length more) more next (gave ∙ ap (λ (l : List Operation). all_given l now) same) (led ∙ ap (λ (l : List Operation). all_done l now) same))

-- if an operation of two lists touches a byte, one of the first list does, or one of the second
pub touch_split : (xs ys : List Operation) → TouchSomeByte (xs ++ ys) → TouchSomeByte xs ⊎ TouchSomeByte ys
touch_split [] ys touched = inr touched
touch_split (x ∷ xs) ys (inl here) = inl (inl here)
touch_split (x ∷ xs) ys (inr behind) = elim (touch_split xs ys behind) [ inl first ↦ inl (inr first) | inr second ↦ inr second ]

-- the operations that have results, once there are more of them
pub slice_split : (ops : List Operation) (given more : List (List ℕ)) (k : ℕ) → k ≡ length given → length more ≤ length (take (length ops - k) (drop k ops))
    → take (length (given ++ more)) ops ≡ take (length given) ops ++ take (length more) (take (length ops - k) (drop k ops))
slice_split ops given more k here most =
    ap (λ (n : ℕ). take n ops) (length-append given more) ∙ take-add (length given) (length more) ops
    ∙ ap (λ (l : List Operation). take (length given) ops ++ l) (sym (slice_is ops given more k here most))

-- one write
pub one_write_begun : (at at' : ℕ) (payload : List ℕ) → at ≡ at' → (bytes later : List ℕ) → AreBegun (Write at payload ∷ []) bytes later → IsBegun bytes at' payload later
one_write_begun at at' payload same bytes later (inl part) = subst (λ (n : ℕ). IsBegun bytes n payload later) same part
one_write_begun at at' payload same bytes later (inr whole) =
    subst (λ (n : ℕ). IsBegun bytes n payload later) same (subst (λ (l : List ℕ). IsBegun bytes at payload l) (sym whole) (begun_whole bytes at payload))

-- a read leaves the array as it is, however far it came
pub same_once : (bytes later : List ℕ) → (later ≡ bytes) ⊎ (later ≡ bytes) → later ≡ bytes
same_once bytes later (inl same) = same
same_once bytes later (inr same) = same

-- and so do two
pub reads_two : {T : Type 0} (r : Result T DiskFault) (items : T → List (List ℕ)) (a n b m : ℕ) (old new : Arrays (List ℕ))
    → MatchResult r (λ g. (items g ≡ all_given (Read a n ∷ Read b m ∷ []) old.held) × (new.held ≡ all_done (Read a n ∷ Read b m ∷ []) old.held)) (λ _. AreBegun (Read a n ∷ Read b m ∷ []) old.held new.held)
    → Saves r (TouchSomeByte (Read a n ∷ Read b m ∷ [])) (AreBegun (Read a n ∷ Read b m ∷ [])) old new
    → Reads ⊥ r old new × IfOk r (λ g. items g ≡ bytes_at old.held a n ∷ bytes_at old.held b m ∷ [])
reads_two (Ok g) items a n b m old new h k = ((h.1, all_weaker k (λ none. absurd none)), h.0)
reads_two (Err e) items a n b m old new h k = ((same new.held h, part_weaker k same), tt)
  where
    same : (later : List ℕ) → AreBegun (Read a n ∷ Read b m ∷ []) old.held later → later ≡ old.held
    same later (inl is) = is
    same later (inr rest) = same_once old.held later rest
