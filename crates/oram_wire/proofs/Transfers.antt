-- Reading and writing piece by piece.
use Rattle.std.proofs.Common.{◌≡◌, ℕ, ◌+◌, ◌-◌, ◌<◌, ◌≤◌, List, ◌++◌, Option, Result, Ok, Err, length, take, drop, slice_range, sym, ap, ◌∙◌, subst, arith, drop_at, length-append, length-take-le, take_all, length-drop}
use Rattle.std.specs.Prelude.{OnErr}
use Rattle.std.specs.Int.{w32, to_be_bytes}
use Rattle.std.specs.Io.KnownBytes.{Appends, Consumes, IsAtEnd}
use Rattle.std.proofs.KnownBytes.{Appends-trans, Consumes-trans}
use Rattle.std.proofs.Math.Seq.{take-append-add}
use Rattle.std.proofs.lemmas.List.{take-append-le}
use borrow.Rule.Slice.PartMut.{put_mid, post_of}
use lib.Seq.{take-add}
use Rattle.byteorder.specs.Numbers.{big_number-reads_back}
use Rattle.oram_wire.specs.declared.TheConstants.{LONGEST_BODY}
use Rattle.oram_wire.specs.FrameStream.{IsUnfinished, length_at}
use Rattle.oram_wire.specs.FrameIo.{GivesCutFrame, GivesPart, TakesPart}

-- the error that a `?` passed on
pub err_is : {T E : Type 0} (r : Result T E) (y f s : E) → r ≡ Err y → y ≡ f → r ≡ Err s → f ≡ s
err_is r y f s a b d = cc

-- ---- reading

pub take_split : (a b : ℕ) (old new : List ℕ) → a ≤ b → take a new ≡ take a old → take a old ++ slice_range new a b ≡ take b new
take_split a b old new h front =
    let same : a + (b - a) ≡ b = omega arith in
    ap (λ l. l ++ slice_range new a b) (sym front) ∙ sym (take-add a (b - a) new) ∙ ap (λ n. take n new) same

pub slice_range-put_mid : (a k n : ℕ) (xs ys : List ℕ) → a ≤ length xs → n ≤ length ys → slice_range (put_mid a k xs ys) a (a + n) ≡ take n ys
slice_range-put_mid a k n xs ys within fits =
    let same : (a + n) - a ≡ n = omega arith in
    let after = post_of a k xs in
    ap (take ((a + n) - a)) (drop_at (take a xs) (ys ++ after) a (length-take-le a xs within)) ∙ ap (λ m. take m (ys ++ after)) same ∙ take-append-le n ys after fits

-- the length of a frame, and too few bytes after it
head_and_part : (n : ℕ) (part : List ℕ) → n ≤ LONGEST_BODY → length part < n → IsUnfinished (to_be_bytes w32 n ++ part)
head_and_part n part fits short long =
    let number : length_at (to_be_bytes w32 n ++ part) ≡ n = big_number-reads_back 4 n part (omega arith) in
    let count : length (to_be_bytes w32 n ++ part) ≡ 4 + length part = length-append (to_be_bytes w32 n) part in
    (omega (arith, number), omega (arith, number, count))

pub part_of_body : (a b c : Option (List ℕ)) (n : ℕ) → n ≤ LONGEST_BODY → Consumes a b (to_be_bytes w32 n) → (part : List ℕ) × (length part < n) × Consumes b c part → GivesPart a c
part_of_body a b c n fits head p = (to_be_bytes w32 n ++ p.0, head_and_part n p.0 fits p.1, Consumes-trans a b c (to_be_bytes w32 n) p.0 head p.2)

pub cut_body : (a b c : Option (List ℕ)) (n : ℕ) → n ≤ LONGEST_BODY → Consumes a b (to_be_bytes w32 n) → (part : List ℕ) × (length part < n) × Consumes b c part × IsAtEnd c → GivesCutFrame a c
cut_body a b c n fits head p =
    let some : 0 < length (to_be_bytes w32 n ++ p.0) = omega (arith, length-append (to_be_bytes w32 n) p.0) in
    (to_be_bytes w32 n ++ p.0, some, head_and_part n p.0 fits p.1, Consumes-trans a b c (to_be_bytes w32 n) p.0 head p.2, p.3)

-- ---- writing

pub Appends-next : (a b c : Option (List ℕ)) (text : List ℕ) (at count : ℕ) → Appends a b (take at text) → Appends b c (take count (drop at text)) → Appends a c (take (at + count) text)
Appends-next a b c text at count p q = subst (Appends a c) (sym (take-add at count text)) (Appends-trans a b c _ _ p q)

-- the rest of a text, as a range of it
pub rest_is : (text : List ℕ) (at : ℕ) → take (length text - at) (drop at text) ≡ drop at text
rest_is text at = take_all (length text - at) (drop at text) (omega (arith, length-drop {A = ℕ}))

-- only a part of the first piece was taken
pub part_of_first : (a b : Option (List ℕ)) (first rest : List ℕ) → TakesPart a b first → TakesPart a b (first ++ rest)
part_of_first a b first rest p =
    let fewer : p.0 < length (first ++ rest) = omega (arith, p.1, length-append first rest) in
    let same : take p.0 (first ++ rest) ≡ take p.0 first = take-append-le p.0 first rest (omega (arith, p.1)) in
    (p.0, fewer, subst (Appends a b) (sym same) p.2)

-- the first piece was taken, and on a fault only a part of the second
pub part_of_second : {T E : Type 0} (r : Result T E) (a b c : Option (List ℕ)) (first second : List ℕ) → Appends a b first → OnErr r (TakesPart b c second) → OnErr r (TakesPart a c (first ++ second))
part_of_second (Ok x) a b c first second p q = tt
part_of_second (Err e) a b c first second p q =
    let fewer : length first + q.0 < length (first ++ second) = omega (arith, q.1, length-append first second) in
    (length first + q.0, fewer, subst (Appends a c) (sym (take-append-add first second q.0)) (Appends-trans a b c first (take q.0 second) p q.2))

pub on_err : {T E : Type 0} (r : Result T E) (P : Type 0) → P → OnErr r P
on_err (Ok x) P p = tt
on_err (Err e) P p = p
