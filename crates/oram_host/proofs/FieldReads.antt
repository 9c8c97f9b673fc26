-- A field is read again as it was written, and a fault after it is the fault of the whole.
use Rattle.std.proofs.Common.{◌≡◌, ◌≢◌, ℕ, suc, ◌+◌, ◌-◌, ◌^◌, ◌<◌, ◌≤◌, Bool, true, false, cond, ltb, List, [], ◌∷◌, ◌++◌, length, take, drop, Option, Some, None, Result, Ok, Err, refl, sym, ap, ◌∙◌, append_assoc, append-nil, add-zero, zero-add, arith, lit<}
use Rattle.std.specs.Prelude.{IfSome, codes, nat_eq}
use Rattle.std.specs.Int.{w32, to_be_bytes}
use Rattle.std.specs.List.{AllByRecursion, flat_map, starts_with}
use Rattle.std.specs.Cmp.Lexicographic.{same_text}
use Rattle.std.specs.Io.KnownBytes.{Consumes, IsAtEnd}
use Rattle.std.proofs.KnownBytes.{Consumes-whole}
use Rattle.std.proofs.lemmas.Bool.{le-leb, le-ltb, lt-leb, lt-ltb, ne_eqb}
use Rattle.std.proofs.lemmas.List.{take_at, drop_at, length-append}
use Rattle.std.proofs.lemmas.List.Concat.{flat_map-cons}
use Rattle.std.proofs.lemmas.Nat.{from_be_bytes-to_be_bytes_4}
use Rattle.oram_host.specs.declared.images.ImageFault.{ImageFault}
use Rattle.oram_host.specs.declared.images.ImageFault.TheVariants.{Magic, Version, Length, Content, Io, OutOfMemory}
use Rattle.oram_host.specs.Host.{RisesFrom}
use Rattle.oram_host.specs.Image.{entries_text}
use Rattle.oram_host.specs.ImageReader.{◌>>=◌, IsFirstFault, Reading, after_end, after_letters, after_version, next_byte, next_bytes, next_entries, next_number, next_rising}
use Rattle.oram_host.proofs.RisingEntries.{least_after}

-- ---- faults

after_known : {X Y : Type 0} (a b : Option (List ℕ)) (bytes : List ℕ) (next : List ℕ → Result X ImageFault) (whole : List ℕ → Result Y ImageFault) (why : ImageFault) → Consumes a b bytes
    → ((rest : List ℕ) → next rest ≡ Err why → whole (bytes ++ rest) ≡ Err why) → IfSome b (λ text. next text ≡ Err why) → IfSome a (λ text. whole text ≡ Err why)
after_known None b bytes next whole why consumed passes h = tt
after_known (Some x) None bytes next whole why consumed passes h = absurd consumed
after_known (Some x) (Some y) bytes next whole why consumed passes h = ap whole consumed ∙ passes y h

-- a fault that comes after these bytes
pub fails_after : {X Y : Type 0} (why : ImageFault) (a b : Option (List ℕ)) (bytes : List ℕ) (next : List ℕ → Result X ImageFault) (whole : List ℕ → Result Y ImageFault) → Consumes a b bytes
    → ((rest : List ℕ) → next rest ≡ Err why → whole (bytes ++ rest) ≡ Err why) → IsFirstFault next why b → IsFirstFault whole why a
fails_after Io a b bytes next whole consumed passes h = tt
fails_after OutOfMemory a b bytes next whole consumed passes h = tt
fails_after why a b bytes next whole consumed passes h = after_known a b bytes next whole why consumed passes h

here_known : {Y : Type 0} (a b : Option (List ℕ)) (bytes : List ℕ) (whole : List ℕ → Result Y ImageFault) (why : ImageFault) → Consumes a b bytes
    → ((rest : List ℕ) → whole (bytes ++ rest) ≡ Err why) → IfSome a (λ text. whole text ≡ Err why)
here_known None b bytes whole why consumed fails = tt
here_known (Some x) None bytes whole why consumed fails = absurd consumed
here_known (Some x) (Some y) bytes whole why consumed fails = ap whole consumed ∙ fails y

-- a fault that comes once these bytes are read, whatever follows
pub fails_here : {Y : Type 0} (why : ImageFault) (a b : Option (List ℕ)) (bytes : List ℕ) (whole : List ℕ → Result Y ImageFault) → Consumes a b bytes
    → ((rest : List ℕ) → whole (bytes ++ rest) ≡ Err why) → IsFirstFault whole why a
fails_here Io a b bytes whole consumed fails = tt
fails_here OutOfMemory a b bytes whole consumed fails = tt
fails_here why a b bytes whole consumed fails = here_known a b bytes whole why consumed fails

first_known : {X Y : Type 0} (a : Option (List ℕ)) (first : List ℕ → Result X ImageFault) (whole : List ℕ → Result Y ImageFault) (why : ImageFault)
    → ((text : List ℕ) → first text ≡ Err why → whole text ≡ Err why) → IfSome a (λ text. first text ≡ Err why) → IfSome a (λ text. whole text ≡ Err why)
first_known None first whole why passes h = tt
first_known (Some x) first whole why passes h = passes x h

-- a fault that comes at the front
pub fails_first : {X Y : Type 0} (why : ImageFault) (a : Option (List ℕ)) (first : List ℕ → Result X ImageFault) (whole : List ℕ → Result Y ImageFault)
    → ((text : List ℕ) → first text ≡ Err why → whole text ≡ Err why) → IsFirstFault first why a → IsFirstFault whole why a
fails_first Io a first whole passes h = tt
fails_first OutOfMemory a first whole passes h = tt
fails_first why a first whole passes h = first_known a first whole why passes h

-- ---- fields

-- the input ends inside
pub ends_inside : (a b : Option (List ℕ)) (bytes : List ℕ) (n : ℕ) → Consumes a b bytes → IsAtEnd b → length bytes < n → IsFirstFault (next_bytes n) Length a
unfolding next_bytes
ends_inside a b bytes n consumed ended short = Consumes-whole a b bytes (λ text. next_bytes n text ≡ Err Length) consumed ended (rw (lt-ltb (length bytes) n short) refl)

pub bytes_again : (bytes rest : List ℕ) (n : ℕ) → length bytes ≡ n → next_bytes n (bytes ++ rest) ≡ Ok (bytes, rest)
unfolding next_bytes
bytes_again bytes rest n whole =
    let long : ltb (length (bytes ++ rest)) n ≡ false = le-ltb _ _ (omega (arith, length-append bytes rest)) in
    rw (long, take_at bytes rest n whole, drop_at bytes rest n whole) refl

no_byte : (text : List ℕ) (why : ImageFault) → next_bytes 1 text ≡ Err why → next_byte text ≡ Err why
unfolding next_bytes next_byte
no_byte [] why e = let same : Length ≡ why = cc in ap Err same
no_byte (b ∷ text) why e = let long : ltb (length (b ∷ text)) 1 ≡ false = le-ltb (length (b ∷ text)) 1 (omega arith) in let h = rw long at e in absurd cc

-- the input ends before a byte
pub byte_first : (why : ImageFault) (a : Option (List ℕ)) → IsFirstFault (next_bytes 1) why a → IsFirstFault next_byte why a
byte_first why a h = fails_first why a (next_bytes 1) next_byte (λ text e. no_byte text why e) h

pub number_first : (text : List ℕ) (why : ImageFault) → next_bytes 4 text ≡ Err why → next_number text ≡ Err why
unfolding next_number
number_first text why e = rw e refl

pub number_again : (n : ℕ) (rest : List ℕ) → n < 2 ^ 32 → next_number (to_be_bytes w32 n ++ rest) ≡ Ok (n, rest)
unfolding next_number
number_again n rest fits =
    let four : next_bytes 4 (to_be_bytes w32 n ++ rest) ≡ Ok (to_be_bytes w32 n, rest) = bytes_again (to_be_bytes w32 n) rest 4 refl in
    rw (four, from_be_bytes-to_be_bytes_4 n fits) refl

pub letters_again : (rest : List ℕ) → after_letters (codes "ORAMHOST" ++ rest) ≡ Ok rest
unfolding after_letters
letters_again rest = refl

unlike : (b : Bool) (text : List ℕ) → b ≡ false → (let read : Result (List ℕ) ImageFault = cond b (Ok (drop 8 text)) (Err Magic) in read ≡ Err Magic)
unlike b text e = rw e refl

-- the first eight bytes are others
pub other_letters : (text : List ℕ) → take 8 text ≢ codes "ORAMHOST" → after_letters text ≡ Err Magic
unfolding after_letters
other_letters text other = unlike (starts_with nat_eq text (codes "ORAMHOST")) text (differ (starts_with nat_eq text (codes "ORAMHOST")) refl)
  where
    differ : (b : Bool) → b ≡ starts_with nat_eq text (codes "ORAMHOST") → b ≡ false
    differ true e = absurd (other (sym (same_text (codes "ORAMHOST") (take 8 text) e)))
    differ false e = refl

pub version_first : (text : List ℕ) (why : ImageFault) → next_number text ≡ Err why → after_version text ≡ Err why
unfolding after_version
version_first text why e = rw e refl

pub other_version : (n : ℕ) (rest : List ℕ) → n < 2 ^ 32 → n ≢ 1 → after_version (to_be_bytes w32 n ++ rest) ≡ Err Version
unfolding after_version
other_version n rest fits other = rw (number_again n rest fits, ne_eqb n 1 other) refl

pub version_again : (rest : List ℕ) → after_version (to_be_bytes w32 1 ++ rest) ≡ Ok rest
unfolding after_version
version_again rest = rw (number_again 1 rest (lit< tt)) refl

pub goes_on : (bytes rest : List ℕ) → 0 < length bytes → after_end (bytes ++ rest) ≡ Err Length
unfolding after_end
goes_on [] rest long = absurd (omega arith)
goes_on (b ∷ bytes) rest long = refl

-- ---- entries by rising number

-- entries before those that are read
abbrev pub with_front : {X : Type 0} → List X → Reading (List X) → Reading (List X)
with_front front read = read >>= λ x. Ok (front ++ x.0, x.1)

nothing_before : {X : Type 0} (read : Reading (List X)) → read ≡ with_front [] read
nothing_before (Ok x) = refl
nothing_before (Err why) = refl

one_before : {X : Type 0} (e : X) (es : List X) (read : Reading (List X)) → (with_front es read >>= λ x. Ok (e ∷ x.0, x.1)) ≡ with_front (e ∷ es) read
one_before e es (Ok x) = refl
one_before e es (Err why) = refl

-- an entry that fits is read again
abbrev pub ReadsAgain : {X : Type 0} → (ℕ → List ℕ → Reading (ℕ × X)) → (ℕ × X → List ℕ) → (ℕ × X → Type 0) → Type 0
ReadsAgain {X} next_entry text_of Fits = (least : ℕ) (e : ℕ × X) (rest : List ℕ) → least ≤ e.0 → Fits e → next_entry least (text_of e ++ rest) ≡ Ok (e, rest)

begun_again : {X : Type 0} (next_entry : ℕ → List ℕ → Reading (ℕ × X)) (text_of : ℕ × X → List ℕ) (Fits : ℕ × X → Type 0) → ReadsAgain next_entry text_of Fits
    → (es : List (ℕ × X)) (least more : ℕ) (rest : List ℕ) → RisesFrom least es → AllByRecursion Fits es
    → next_rising next_entry (length es + more) least (flat_map text_of es ++ rest) ≡ with_front es (next_rising next_entry more (least_after least es) rest)
unfolding next_rising
begun_again next_entry text_of Fits again [] least more rest rises fits =
    ap (λ n. next_rising next_entry n least rest) (zero-add more) ∙ nothing_before (next_rising next_entry more least rest)
begun_again next_entry text_of Fits again (e ∷ es) least more rest rises fits =
    let count : suc (length es) + more ≡ suc (length es + more) = omega arith in
    let text : flat_map text_of (e ∷ es) ++ rest ≡ text_of e ++ (flat_map text_of es ++ rest) = ap (λ t. t ++ rest) (flat_map-cons text_of e es) ∙ append_assoc (text_of e) (flat_map text_of es) rest in
    ap (λ n. next_rising next_entry n least (flat_map text_of (e ∷ es) ++ rest)) count
    ∙ ap (next_rising next_entry (suc (length es + more)) least) text
    ∙ rw (again least e (flat_map text_of es ++ rest) rises.0 fits.0, begun_again next_entry text_of Fits again es (e.0 + 1) more rest rises.1 fits.1)
    (one_before e es (next_rising next_entry more (least_after (e.0 + 1) es) rest))

pub rising_again : {X : Type 0} (next_entry : ℕ → List ℕ → Reading (ℕ × X)) (text_of : ℕ × X → List ℕ) (Fits : ℕ × X → Type 0) → ReadsAgain next_entry text_of Fits
    → (es : List (ℕ × X)) (rest : List ℕ) → RisesFrom 0 es → AllByRecursion Fits es → next_rising next_entry (length es) 0 (flat_map text_of es ++ rest) ≡ Ok (es, rest)
unfolding next_rising
rising_again {X} next_entry text_of Fits again es rest rises fits =
    ap (λ n. next_rising next_entry n 0 (flat_map text_of es ++ rest)) (sym (add-zero (length es))) ∙ begun_again next_entry text_of Fits again es 0 0 rest rises fits
    ∙ ap (λ (xs : List (ℕ × X)). Ok (xs, rest)) (append-nil es)

-- the entry after these fails
pub rising_fails : {X : Type 0} (next_entry : ℕ → List ℕ → Reading (ℕ × X)) (text_of : ℕ × X → List ℕ) (Fits : ℕ × X → Type 0) → ReadsAgain next_entry text_of Fits
    → (es : List (ℕ × X)) (count : ℕ) (rest : List ℕ) (why : ImageFault) → RisesFrom 0 es → AllByRecursion Fits es → length es < count → next_entry (least_after 0 es) rest ≡ Err why
    → next_rising next_entry count 0 (flat_map text_of es ++ rest) ≡ Err why
unfolding next_rising
rising_fails next_entry text_of Fits again es count rest why rises fits more fails =
    let left : count ≡ length es + suc (count - (length es + 1)) = omega arith in
    ap (λ n. next_rising next_entry n 0 (flat_map text_of es ++ rest)) left ∙ begun_again next_entry text_of Fits again es 0 (suc (count - (length es + 1))) rest rises fits
    ∙ rw fails refl

-- ---- a list of entries

pub entries_first : {X : Type 0} (most : ℕ) (next_entry : ℕ → List ℕ → Reading (ℕ × X)) (text : List ℕ) (why : ImageFault) → next_number text ≡ Err why → next_entries most next_entry text ≡ Err why
unfolding next_entries
entries_first most next_entry text why e = rw e refl

pub too_many : {X : Type 0} (most : ℕ) (next_entry : ℕ → List ℕ → Reading (ℕ × X)) (count : ℕ) (rest : List ℕ) → count < 2 ^ 32 → most < count → next_entries most next_entry (to_be_bytes w32 count ++ rest) ≡ Err Content
unfolding next_entries
too_many most next_entry count rest fits many = rw (number_again count rest fits, lt-leb count most many) refl

counted : {X : Type 0} (most : ℕ) (next_entry : ℕ → List ℕ → Reading (ℕ × X)) (count : ℕ) (rest : List ℕ) → count < 2 ^ 32 → count ≤ most
    → next_entries most next_entry (to_be_bytes w32 count ++ rest) ≡ next_rising next_entry count 0 rest
unfolding next_entries
counted most next_entry count rest fits few = rw (number_again count rest fits, le-leb count most few) refl

pub entries_fail : {X : Type 0} (most : ℕ) (next_entry : ℕ → List ℕ → Reading (ℕ × X)) (text_of : ℕ × X → List ℕ) (Fits : ℕ × X → Type 0) → ReadsAgain next_entry text_of Fits
    → (es : List (ℕ × X)) (count : ℕ) (rest : List ℕ) (why : ImageFault) → count < 2 ^ 32 → count ≤ most → RisesFrom 0 es → AllByRecursion Fits es → length es < count → next_entry (least_after 0 es) rest ≡ Err why
    → next_entries most next_entry ((to_be_bytes w32 count ++ flat_map text_of es) ++ rest) ≡ Err why
entries_fail most next_entry text_of Fits again es count rest why fits few rises all more fails =
    ap (next_entries most next_entry) (append_assoc (to_be_bytes w32 count) (flat_map text_of es) rest) ∙ counted most next_entry count (flat_map text_of es ++ rest) fits few
    ∙ rising_fails next_entry text_of Fits again es count rest why rises all more fails

pub entries_again : {X : Type 0} (most : ℕ) (next_entry : ℕ → List ℕ → Reading (ℕ × X)) (text_of : ℕ × X → List ℕ) (Fits : ℕ × X → Type 0) → ReadsAgain next_entry text_of Fits
    → (es : List (ℕ × X)) (rest : List ℕ) → length es < 2 ^ 32 → length es ≤ most → RisesFrom 0 es → AllByRecursion Fits es → next_entries most next_entry (entries_text text_of es ++ rest) ≡ Ok (es, rest)
entries_again most next_entry text_of Fits again es rest fits few rises all =
    ap (next_entries most next_entry) (append_assoc (to_be_bytes w32 (length es)) (flat_map text_of es) rest) ∙ counted most next_entry (length es) (flat_map text_of es ++ rest) fits few
    ∙ rising_again next_entry text_of Fits again es rest rises all
