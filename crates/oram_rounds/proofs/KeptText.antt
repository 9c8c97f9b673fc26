-- The text of a process has one list of STOREs, and one note and one core after them.
use Rattle.std.proofs.Common.{◌≡◌, ◌≢◌, ℕ, ◌+◌, ◌<◌, ◌≤◌, ◌^◌, arith, List, [], ◌∷◌, ◌++◌, length, drop, take, refl, sym, ap, ◌∙◌, subst, append_assoc, length-append}
use Rattle.std.specs.Int.{w64, from_be_bytes, to_be_bytes}
use Rattle.std.specs.Hash.DefaultHasher as sip
use Rattle.std.specs.List.{AllByRecursion, flat_map, fold}
use Rattle.std.proofs.lemmas.Grind.{fold-append}
use Rattle.std.proofs.lemmas.List.{take-append-drop, take_at}
use Rattle.std.proofs.lemmas.Nat.{be_bytes_8, from_be_bytes-to_be_bytes_8}
use Rattle.oram_trace.proofs.Leftover.{append_parts}
use Rattle.oram_state.specs.DecodedCore.{AreSavedFields}
use Rattle.oram_state.specs.StateBytes.{table_text, with_table}
use Rattle.oram_state.proofs.Sized.{one_core_bare}
use Rattle.oram_state.proofs.Tools.{IsBytes, IsBytes-take}
use Rattle.oram_rounds.specs.Files.{AreCounted, FilesTellOfOneProcess, IsShort, IsShortNote, front_text, kept_text, sized_text, stores_text}
use Rattle.oram_rounds.specs.LinkNotes.{LinkNote}

-- the first eight bytes are those of the number that they are read as
pub number_front : (bytes number rest : List ℕ) (n : ℕ) → IsBytes bytes → number ≡ take 8 bytes → rest ≡ drop 8 bytes → length rest + 8 ≡ length bytes → n ≡ from_be_bytes w64 number
    → bytes ≡ to_be_bytes w64 n ++ rest
number_front bytes number rest n fit front back len is =
    let whole : bytes ≡ number ++ rest = sym (ap (λ (b : List ℕ). b ++ rest) front ∙ ap (λ (b : List ℕ). take 8 bytes ++ b) back ∙ take-append-drop 8 bytes) in
    let eight : length number ≡ 8 = omega (arith, ap length whole, length-append number rest, len) in
    let fits : IsBytes number = subst IsBytes (sym front) (IsBytes-take 8 bytes fit) in
    whole ∙ ap (λ (b : List ℕ). b ++ rest) (sym (be_bytes_8 number n eight fits is))

abbrev pub AreShort : List (List ℕ) → Type 0
AreShort stores = AllByRecursion (λ store. length store < 2 ^ 64) stores

number_same : (m n : ℕ) (r t : List ℕ) → m < 2 ^ 64 → n < 2 ^ 64 → to_be_bytes w64 m ++ r ≡ to_be_bytes w64 n ++ t → (m ≡ n) × (r ≡ t)
number_same m n r t low_m low_n e =
    let parts = append_parts (to_be_bytes w64 m) r (to_be_bytes w64 n) t refl e in
    (sym (from_be_bytes-to_be_bytes_8 m low_m) ∙ ap (from_be_bytes w64) parts.0 ∙ from_be_bytes-to_be_bytes_8 n low_n, parts.1)

sized_same : (a b r t : List ℕ) → length a < 2 ^ 64 → length b < 2 ^ 64 → sized_text a ++ r ≡ sized_text b ++ t → (a ≡ b) × (r ≡ t)
sized_same a b r t low_a low_b e =
    let apart : to_be_bytes w64 (length a) ++ (a ++ r) ≡ to_be_bytes w64 (length b) ++ (b ++ t) =
    sym (append_assoc (to_be_bytes w64 (length a)) a r) ∙ e ∙ append_assoc (to_be_bytes w64 (length b)) b t in
    let lengths = number_same (length a) (length b) (a ++ r) (b ++ t) low_a low_b apart in
    append_parts a r b t lengths.0 lengths.1

-- the STOREs of one text are the first ones of the other
record GoesOn (xs ys : List (List ℕ)) (r t : List ℕ) : Type 0 where
  more : List (List ℕ)
  all : ys ≡ xs ++ more
  behind : r ≡ flat_map sized_text more ++ t

goes_on : (xs ys : List (List ℕ)) (r t : List ℕ) → AreShort xs → AreShort ys → length xs ≤ length ys
    → flat_map sized_text xs ++ r ≡ flat_map sized_text ys ++ t → GoesOn xs ys r t
goes_on [] ys r t short_x short_y fewer e = record { more = ys; all = refl; behind = e }
goes_on (x ∷ xs) [] r t short_x short_y fewer e = absurd (omega (arith, fewer))
goes_on (x ∷ xs) (y ∷ ys) r t short_x short_y fewer e =
    let f : List ℕ = flat_map sized_text xs in
    let g : List ℕ = flat_map sized_text ys in
    let one = sized_same x y (f ++ r) (g ++ t) short_x.0 short_y.0 (sym (append_assoc (sized_text x) f r) ∙ e ∙ append_assoc (sized_text y) g t) in
    let rest = goes_on xs ys r t short_x.1 short_y.1 (omega (arith, fewer)) one.1 in
    record {
      more = rest.more;
      all = ap (λ (b : List ℕ). b ∷ ys) (sym one.0) ∙ ap (λ (bs : List (List ℕ)). x ∷ bs) rest.all;
      behind = rest.behind;
    }

none_left : (xs more : List (List ℕ)) → length (xs ++ more) ≡ length xs → more ≡ []
none_left xs [] same = refl
none_left xs (m ∷ more) same = absurd (omega (arith, same, length-append xs (m ∷ more)))

pub texts_same : (xs ys : List (List ℕ)) (r t : List ℕ) → AreCounted xs → AreCounted ys → stores_text xs ++ r ≡ stores_text ys ++ t → (xs ≡ ys) × (r ≡ t)
texts_same xs ys r t counted_x counted_y e =
    let f : List ℕ = flat_map sized_text xs in
    let g : List ℕ = flat_map sized_text ys in
    let apart : to_be_bytes w64 (length xs) ++ (f ++ r) ≡ to_be_bytes w64 (length ys) ++ (g ++ t) =
    sym (append_assoc (to_be_bytes w64 (length xs)) f r) ∙ e ∙ append_assoc (to_be_bytes w64 (length ys)) g t in
    let count = number_same (length xs) (length ys) (f ++ r) (g ++ t) counted_x.0 counted_y.0 apart in
    let on = goes_on xs ys r t counted_x.1 counted_y.1 (omega (arith, count.0)) count.1 in
    let none : on.more ≡ [] = none_left xs on.more (sym (ap length on.all) ∙ sym count.0) in (
      sym (on.all ∙ ap (λ (bs : List (List ℕ)). xs ++ bs) none ∙ nothing_more xs),
      on.behind ∙ ap (λ (bs : List (List ℕ)). flat_map sized_text bs ++ t) none,
    )
  where
    nothing_more : (zs : List (List ℕ)) → zs ++ [] ≡ zs
    nothing_more [] = refl
    nothing_more (z ∷ zs) = ap (λ (bs : List (List ℕ)). z ∷ bs) (nothing_more zs)

-- if no STORE follows the first ones, and these are fewer than announced, the text is that of no list
pub torn_here : (bytes : List ℕ) (count : ℕ) (stores : List (List ℕ)) (rest : List ℕ) → count < 2 ^ 64
    → bytes ≡ to_be_bytes w64 count ++ (flat_map sized_text stores ++ rest) → AreShort stores → length stores < count
    → ((s r : List ℕ) → length s < 2 ^ 64 → rest ≢ sized_text s ++ r)
    → (others : List (List ℕ)) (t : List ℕ) → AreCounted others → bytes ≢ stores_text others ++ t
torn_here bytes count stores rest low is short fewer none others t counted e =
    let f : List ℕ = flat_map sized_text stores in
    let g : List ℕ = flat_map sized_text others in
    let apart : to_be_bytes w64 count ++ (f ++ rest) ≡ to_be_bytes w64 (length others) ++ (g ++ t) =
    sym is ∙ e ∙ append_assoc (to_be_bytes w64 (length others)) g t in
    let same = number_same count (length others) (f ++ rest) (g ++ t) low counted.0 apart in
    let on = goes_on stores others rest t short counted.1 (omega (arith, fewer, same.0)) same.1 in
    by on.more on.all on.behind same.0
  where
    by : (more : List (List ℕ)) → others ≡ stores ++ more → rest ≡ flat_map sized_text more ++ t → count ≡ length others → ⊥
    by [] all behind same = omega (arith, fewer, same, ap length all, length-append stores [])
    by (m ∷ more) all behind same =
        let low_m : length m < 2 ^ 64 = (short_end stores m more (subst AreShort all counted.1)).0 in
        none m (flat_map sized_text more ++ t) low_m (behind ∙ append_assoc (sized_text m) (flat_map sized_text more) t)
      where
        short_end : (front : List (List ℕ)) (b : List ℕ) (back : List (List ℕ)) → AreShort (front ++ b ∷ back) → (length b < 2 ^ 64) × AreShort back
        short_end [] b back all = all
        short_end (x ∷ front) b back all = short_end front b back all.1

pub short_more : (front : List (List ℕ)) (b : List ℕ) → AreShort front → length b < 2 ^ 64 → AreShort (front ++ b ∷ [])
short_more [] b short low = (low, tt)
short_more (x ∷ front) b short low = (short.0, short_more front b short.1 low)

-- the front of a text, whose parts are then joined otherwise
pub front_apart : (stores : List (List ℕ)) (note : LinkNote) (rest : List ℕ) → front_text stores note ++ rest ≡ stores_text stores ++ (sized_text note.text ++ (to_be_bytes w64 (length note.records) ++ rest))
front_apart stores note rest = in_four (stores_text stores) (sized_text note.text) (to_be_bytes w64 (length note.records)) rest
  where
    in_four : (a b c d : List ℕ) → (a ++ (b ++ c)) ++ d ≡ a ++ (b ++ (c ++ d))
    in_four a b c d = simp append_assoc

-- two fronts that are equal, and what follows them
pub fronts_same : (xs ys : List (List ℕ)) (a b : LinkNote) (r t : List ℕ) → AreCounted xs → AreCounted ys → IsShortNote a → IsShortNote b → front_text xs a ++ r ≡ front_text ys b ++ t
    → (xs ≡ ys) × (a.text ≡ b.text) × (length a.records ≡ length b.records) × (r ≡ t)
fronts_same xs ys a b r t counted_x counted_y short_a short_b e =
    let numbered_a : List ℕ = to_be_bytes w64 (length a.records) ++ r in
    let numbered_b : List ℕ = to_be_bytes w64 (length b.records) ++ t in
    let first = texts_same xs ys (sized_text a.text ++ numbered_a) (sized_text b.text ++ numbered_b) counted_x counted_y (sym (front_apart xs a r) ∙ e ∙ front_apart ys b t) in
    let second = sized_same a.text b.text numbered_a numbered_b short_a.text short_b.text first.1 in
    let third = number_same (length a.records) (length b.records) r t short_a.records short_b.records second.1 in
    (first.0, second.0, third.0, third.1)

-- two lists whose ends have the same length
ends_same : (a b c d : List ℕ) → length b ≡ length d → a ++ b ≡ c ++ d → (a ≡ c) × (b ≡ d)
ends_same a b c d same e = append_parts a b c d (omega (arith, same, ap length e, length-append a b, length-append c d)) e

-- two files that are equal
pub kept_same : (xs ys : List (List ℕ)) (a b : LinkNote) (fields other : List ℕ) → AreCounted xs → AreCounted ys → IsShortNote a → IsShortNote b → kept_text xs a fields ≡ kept_text ys b other
    → (xs ≡ ys) × (a ≡ b) × (fields ≡ other)
kept_same xs ys a b fields other counted_x counted_y short_a short_b e =
    let first = fronts_same xs ys a b (fields ++ a.records) (other ++ b.records) counted_x counted_y short_a short_b e in
    let last = ends_same fields a.records other b.records first.2 first.3 in
    (first.0, (λ i. record { text = first.1 i; records = last.1 i }), last.0)

-- where no note follows the STOREs, the text is that of no process
pub no_note : (text rest : List ℕ) (read : List (List ℕ)) → text ≡ stores_text read ++ rest → AreCounted read
    → ((sized behind : List ℕ) → IsShort sized → rest ≢ sized_text sized ++ behind)
    → (stores : List (List ℕ)) (note : LinkNote) (fields : List ℕ) → AreCounted stores → IsShortNote note → text ≢ front_text stores note ++ fields
no_note text rest read is counted none stores note fields counted_too short e =
    let numbered : List ℕ = to_be_bytes w64 (length note.records) ++ fields in
    let same = texts_same read stores rest (sized_text note.text ++ numbered) counted counted_too (sym is ∙ e ∙ front_apart stores note fields) in
    none note.text numbered short.text same.1

-- where fewer than eight bytes follow the note, the text is that of no process
pub no_number : (text noted rest : List ℕ) (read : List (List ℕ)) → text ≡ stores_text read ++ (sized_text noted ++ rest) → AreCounted read → IsShort noted → length rest < 8
    → (stores : List (List ℕ)) (note : LinkNote) (fields : List ℕ) → AreCounted stores → IsShortNote note → text ≢ front_text stores note ++ fields
no_number text noted rest read is counted short_noted few stores note fields counted_too short e =
    let numbered : List ℕ = to_be_bytes w64 (length note.records) ++ fields in
    let first = texts_same read stores (sized_text noted ++ rest) (sized_text note.text ++ numbered) counted counted_too (sym is ∙ e ∙ front_apart stores note fields) in
    let second = sized_same noted note.text rest numbered short_noted short.text first.1 in
    let eight : length (to_be_bytes w64 (length note.records)) ≡ 8 = refl in
    omega (arith, few, eight, ap length second.1, length-append (to_be_bytes w64 (length note.records)) fields)

-- a text with other records than are wanted is that of no process with these
pub other_records : (text : List ℕ) (read : List (List ℕ)) (noted fields : List ℕ) (count : ℕ) → text ≡ (stores_text read ++ (sized_text noted ++ to_be_bytes w64 count)) ++ fields
    → AreCounted read → IsShort noted → count < 2 ^ 64
    → (stores : List (List ℕ)) (note : LinkNote) (others : List ℕ) → AreCounted stores → IsShortNote note → length note.records ≢ count → text ≢ front_text stores note ++ others
other_records text read noted fields count is counted short_noted low stores note others counted_too short differs e =
    let numbered : List ℕ = to_be_bytes w64 (length note.records) ++ others in
    let apart : text ≡ stores_text read ++ (sized_text noted ++ (to_be_bytes w64 count ++ fields)) = is ∙ in_four (stores_text read) (sized_text noted) (to_be_bytes w64 count) fields in
    let first = texts_same read stores (sized_text noted ++ (to_be_bytes w64 count ++ fields)) (sized_text note.text ++ numbered) counted counted_too (sym apart ∙ e ∙ front_apart stores note others) in
    let second = sized_same noted note.text (to_be_bytes w64 count ++ fields) numbered short_noted short.text first.1 in
    differs (sym (number_same count (length note.records) fields others low short.records second.1).0)
  where
    in_four : (a b c d : List ℕ) → (a ++ (b ++ c)) ++ d ≡ a ++ (b ++ (c ++ d))
    in_four a b c d = simp append_assoc

-- a front is read part by part
pub read_by : (stores : List (List ℕ)) (note : List ℕ) (count : ℕ) (fields text rest noted : List ℕ) → text ≡ stores_text stores ++ rest → rest ≡ sized_text note ++ noted
    → noted ≡ to_be_bytes w64 count ++ fields → text ≡ (stores_text stores ++ (sized_text note ++ to_be_bytes w64 count)) ++ fields
read_by stores note count fields text rest noted first second third =
    first ∙ ap (λ (b : List ℕ). stores_text stores ++ b) (second ∙ ap (λ (b : List ℕ). sized_text note ++ b) third) ∙ in_four (stores_text stores) (sized_text note) (to_be_bytes w64 count) fields
  where
    in_four : (a b c d : List ℕ) → a ++ (b ++ (c ++ d)) ≡ (a ++ (b ++ c)) ++ d
    in_four a b c d = simp append_assoc

-- a front is written part by part
pub front_by : (stores : List (List ℕ)) (note : LinkNote) (start text noted all : List ℕ) → start ≡ [] → text ≡ start ++ stores_text stores → noted ≡ text ++ sized_text note.text
    → all ≡ noted ++ to_be_bytes w64 (length note.records) → all ≡ front_text stores note
front_by stores note start text noted all none pushed notes counts =
    let number : List ℕ = to_be_bytes w64 (length note.records) in
    counts ∙ ap (λ (b : List ℕ). b ++ number) (notes ∙ ap (λ (b : List ℕ). b ++ sized_text note.text) (pushed ∙ ap (λ (b : List ℕ). b ++ stores_text stores) none))
    ∙ append_assoc (stores_text stores) (sized_text note.text) number

-- a text is a front, fields around a table, and records
pub written_by : (stores : List (List ℕ)) (note : LinkNote) (front all fields table after : List ℕ) → front ≡ front_text stores note → all ≡ front ++ fields
    → with_table all table after ++ note.records ≡ kept_text stores note (with_table fields table after)
written_by stores note front all fields table after is adds =
    ap (λ (b : List ℕ). with_table b table after ++ note.records) (adds ∙ ap (λ (b : List ℕ). b ++ fields) is)
    ∙ in_five (front_text stores note) fields (table_text table) after note.records
  where
    in_five : (a b c d e : List ℕ) → ((a ++ b) ++ (c ++ d)) ++ e ≡ a ++ ((b ++ (c ++ d)) ++ e)
    in_five a b c d e = simp append_assoc

-- a text that ends with its fields, and the records behind it
pub joined_by : (stores : List (List ℕ)) (note : LinkNote) (front fields text : List ℕ) → front ≡ front_text stores note → text ≡ front ++ fields → text ++ note.records ≡ kept_text stores note fields
joined_by stores note front fields text is all =
    ap (λ (b : List ℕ). b ++ note.records) (all ∙ ap (λ (b : List ℕ). b ++ fields) is) ∙ append_assoc (front_text stores note) fields note.records

-- a file is a front and its fields, and records behind them, if it has as many records
pub split_by : (stores : List (List ℕ)) (note : LinkNote) (fields text records : List ℕ) → length note.records ≡ length records → text ++ records ≡ kept_text stores note fields
    → (text ≡ front_text stores note ++ fields) × (records ≡ note.records)
split_by stores note fields text records same e =
    ends_same text records (front_text stores note ++ fields) note.records (sym same) (e ∙ sym (append_assoc (front_text stores note) fields note.records))

-- three writes are one
pub written_thrice : (a b c : List ℕ) → sip.write (sip.write (sip.write sip.initial a) b) c ≡ sip.write sip.initial (a ++ (b ++ c))
unfolding sip.write
written_thrice a b c = sym (fold-append sip.write_byte sip.initial a (b ++ c) ∙ fold-append sip.write_byte (fold sip.write_byte sip.initial a) b c)

-- the front of a text, by the length of its end
pub front_of : (text a b : List ℕ) (n : ℕ) → text ≡ a ++ b → n + length b ≡ length text → take n text ≡ a
front_of text a b n is count = ap (take n) is ∙ take_at a b n (omega (arith, ap length is, length-append a b, count))

pub one_process : FilesTellOfOneProcess
one_process overhead d d' bytes stores stores' core core' f g =
    let same = kept_same stores stores' f.note g.note f.fields g.fields f.counted g.counted f.short g.short (sym f.all ∙ g.all) in
    let again : AreSavedFields f.fields overhead d' core' = subst (λ (text : List ℕ). AreSavedFields text overhead d' core') (sym same.2) g.saved in
    let one = one_core_bare f.fields overhead d d' core core' f.saved again in (same.0, one.0, one.1, same.1)
