-- The summary that a text is read as.
use Rattle.std.proofs.Common.{◌≡◌, ℕ, suc, ◌+◌, ◌*◌, ◌<◌, ◌≤◌, ◌^◌, zero, lit<, replicate, Bool, true, ◌-◌, List, [], ◌∷◌, ◌++◌, length, get_or, take, drop, refl, sym, ap, ◌∙◌, subst, arith, Ok, Err, Result, IfOk, MatchResult, IsErrOf, length-append, length-take-le, append_assoc}
use Rattle.std.proofs.lemmas.List.{take_at, drop_at, take-append-drop, length-replicate}
use Rattle.std.proofs.lemmas.Nat.{from_be_bytes-to_be_bytes_8}
use Rattle.std.proofs.lemmas.Slice.Eq.{bytes_eq-Decides}
use Rattle.std.proofs.Math.Dec.{eqb}
use Rattle.std.specs.Str.{bytes_eq}
use Rattle.std.specs.Int.{w64, to_be_bytes}
use Rattle.std.specs.List.{AllByRecursion, flat_map, starts_with}
use Rattle.oram_geometry.specs.declared.Sizes.{Sizes}
use Rattle.oram_geometry.specs.Sizes.{IsDevice, depth_of}
use Rattle.oram_bucket.specs.Cell.{Cell}
use Rattle.oram_summary.specs.declared.faults.SummaryFault.{SummaryFault}
use Rattle.oram_summary.specs.declared.faults.SummaryFault.TheVariants.{Content, OutOfMemory}
use Rattle.oram_summary.specs.declared.summary.SealerKind.{SealerKind}
use Rattle.oram_summary.specs.declared.summary.SealerKind.TheVariants.{Plain, ChaCha20}
use Rattle.oram_summary.specs.Contents.{Contents, FitLongs, IsOfDevice, IsSummary, sealer_number}
use Rattle.oram_summary.specs.Laws.{TextsTellOfOneSummary}
use Rattle.oram_summary.specs.Stash.{IsStash}
use Rattle.oram_summary.specs.Text.{HasVersion, IsBehindVersion, block_bytes_in, block_text, IsTextOf, numbers_of, parts_text, sizes_in, stash_text, text_len_of, text_of}
use Rattle.oram_geometry.proofs.DeviceSizes.{most_blocks-range}
use Rattle.oram_summary.proofs.StashText.{add_times, blocks_fit, shallow}
use Rattle.oram_summary.proofs.Spelled.{blocks_same, length-blocks, numbers_same}
use Rattle.oram_checkpoints.proofs.Fronts.{long_same, parts_same}

-- a list of fourteen numbers
fourteen : (xs : List ℕ) → length xs ≡ 14 → xs ≡ get_or xs 0 0 ∷ get_or xs 1 0 ∷ get_or xs 2 0 ∷ get_or xs 3 0 ∷ get_or xs 4 0 ∷ get_or xs 5 0 ∷ get_or xs 6 0 ∷ get_or xs 7 0 ∷ get_or xs 8 0 ∷ get_or xs 9 0 ∷ get_or xs 10 0 ∷ get_or xs 11 0 ∷ get_or xs 12 0 ∷ get_or xs 13 0 ∷ []
fourteen [] long = absurd (omega arith)
fourteen (a ∷ []) long = absurd (omega arith)
fourteen (a ∷ b ∷ []) long = absurd (omega arith)
fourteen (a ∷ b ∷ c ∷ []) long = absurd (omega arith)
fourteen (a ∷ b ∷ c ∷ d ∷ []) long = absurd (omega arith)
fourteen (a ∷ b ∷ c ∷ d ∷ e ∷ []) long = absurd (omega arith)
fourteen (a ∷ b ∷ c ∷ d ∷ e ∷ f ∷ []) long = absurd (omega arith)
fourteen (a ∷ b ∷ c ∷ d ∷ e ∷ f ∷ g ∷ []) long = absurd (omega arith)
fourteen (a ∷ b ∷ c ∷ d ∷ e ∷ f ∷ g ∷ h ∷ []) long = absurd (omega arith)
fourteen (a ∷ b ∷ c ∷ d ∷ e ∷ f ∷ g ∷ h ∷ i ∷ []) long = absurd (omega arith)
fourteen (a ∷ b ∷ c ∷ d ∷ e ∷ f ∷ g ∷ h ∷ i ∷ j ∷ []) long = absurd (omega arith)
fourteen (a ∷ b ∷ c ∷ d ∷ e ∷ f ∷ g ∷ h ∷ i ∷ j ∷ k ∷ []) long = absurd (omega arith)
fourteen (a ∷ b ∷ c ∷ d ∷ e ∷ f ∷ g ∷ h ∷ i ∷ j ∷ k ∷ l ∷ []) long = absurd (omega arith)
fourteen (a ∷ b ∷ c ∷ d ∷ e ∷ f ∷ g ∷ h ∷ i ∷ j ∷ k ∷ l ∷ m ∷ []) long = absurd (omega arith)
fourteen (a ∷ b ∷ c ∷ d ∷ e ∷ f ∷ g ∷ h ∷ i ∷ j ∷ k ∷ l ∷ m ∷ n ∷ []) long = refl
fourteen (a ∷ b ∷ c ∷ d ∷ e ∷ f ∷ g ∷ h ∷ i ∷ j ∷ k ∷ l ∷ m ∷ n ∷ o ∷ xs) long = absurd (omega arith)

-- the summary of these numbers and parts
abbrev pub found : List ℕ → SealerKind → Sizes → List ℕ → List Cell → Contents
found numbers sealer device root stash = record {
  sealer = sealer;
  device = device;
  near_levels = get_or numbers 8 0;
  time = get_or numbers 9 0;
  number = get_or numbers 10 0;
  next_ticket = get_or numbers 11 0;
  next_nonce = get_or numbers 12 0;
  root = root;
  stash = stash;
}

-- what is known of the parts that were read
pub record AreParts (numbers bytes root rest : List ℕ) (sealer : SealerKind) (device : Sizes) : Type 0 where
  pub many : length numbers ≡ 14
  pub fit : (i : ℕ) → get_or numbers i 0 < 2 ^ 64
  pub version : get_or numbers 0 0 ≡ 1
  pub long : length bytes ≡ 32 + 64 * (8 + get_or numbers 3 0)
  pub sealed : get_or numbers 1 0 ≡ sealer_number sealer
  pub sizes : device ≡ sizes_in numbers
  pub is_device : IsDevice device
  pub near : get_or numbers 8 0 ≤ depth_of device 0
  pub few : get_or numbers 13 0 ≤ 64
  pub front : root ≡ take 32 bytes
  pub behind : rest ≡ drop 32 bytes

parts_are : (bytes root rest : List ℕ) (n : ℕ) → length bytes ≡ 32 + n → root ≡ take 32 bytes → rest ≡ drop 32 bytes → (bytes ≡ root ++ rest) × (length root ≡ 32)
parts_are bytes root rest n long front behind =
    let whole : bytes ≡ root ++ rest = sym (ap (λ (b : List ℕ). b ++ rest) front ∙ ap (λ (b : List ℕ). take 32 bytes ++ b) behind ∙ take-append-drop 32 bytes) in
    (whole, ap length front ∙ length-take-le 32 bytes (omega (arith, long)))

-- the numbers of a summary, some of them by themselves
abbrev filled : ℕ → ℕ → Sizes → ℕ → List ℕ → List ℕ
filled version sealer device count ns =
    version ∷ sealer ∷ device.blocks ∷ device.block_bytes ∷ device.slots ∷ device.top ∷ device.lifetime ∷ device.leaf_load
    ∷ get_or ns 8 0 ∷ get_or ns 9 0 ∷ get_or ns 10 0 ∷ get_or ns 11 0 ∷ get_or ns 12 0 ∷ count ∷ []

pub found_is : (numbers bytes root rest : List ℕ) (sealer : SealerKind) (device : Sizes) (stash : List Cell) → AreParts numbers bytes root rest sealer device
    → IsStash device (get_or numbers 13 0) stash rest → IsBehindVersion numbers bytes (found numbers sealer device root stash)
found_is numbers bytes root rest sealer device stash parts is =
    let cut = parts_are bytes root rest (64 * (8 + get_or numbers 3 0)) parts.long parts.front parts.behind in
    record {
      summary = record {
        device = parts.is_device;
        of_device = record { near = parts.near; rising = is.rising; blocks = is.blocks };
        room = omega (arith, is.counted, parts.few);
        fit = record { time = parts.fit 9; number = parts.fit 10; ticket = parts.fit 11; nonce = parts.fit 12 };
        root = cut.1;
      };
      numbers = fourteen numbers parts.many
          ∙ ap (λ (x : ℕ). filled x (get_or numbers 1 0) (sizes_in numbers) (get_or numbers 13 0) numbers) parts.version
          ∙ ap (λ (x : ℕ). filled 1 x (sizes_in numbers) (get_or numbers 13 0) numbers) parts.sealed
          ∙ ap (λ (x : Sizes). filled 1 (sealer_number sealer) x (get_or numbers 13 0) numbers) (sym parts.sizes)
          ∙ ap (λ (x : ℕ). filled 1 (sealer_number sealer) device x numbers) (sym is.counted);
      bytes = cut.0 ∙ ap (λ (b : List ℕ). root ++ b) is.text;
    }

sealer_same : (x y : SealerKind) → sealer_number x ≡ sealer_number y → x ≡ y
sealer_same Plain Plain e = refl
sealer_same Plain ChaCha20 e = absurd (omega (arith, e))
sealer_same ChaCha20 Plain e = absurd (omega (arith, e))
sealer_same ChaCha20 ChaCha20 e = refl

-- the bytes behind the root digest are the text of a summary's stash
pub stash_of : (numbers bytes root rest : List ℕ) (sealer : SealerKind) (device : Sizes) → AreParts numbers bytes root rest sealer device
    → (c : Contents) → IsBehindVersion numbers bytes c → IsStash device (get_or numbers 13 0) c.stash rest
stash_of numbers bytes root rest sealer device parts c is =
    let same : c.device ≡ device = sym (parts.sizes ∙ ap sizes_in is.numbers) in
    let at : IsStash c.device (get_or numbers 13 0) c.stash rest = record {
      counted = sym (ap (λ (ns : List ℕ). get_or ns 13 0) is.numbers);
      rising = is.summary.of_device.rising;
      blocks = is.summary.of_device.blocks;
      text = parts.behind ∙ ap (drop 32) is.bytes ∙ drop_at c.root (stash_text c.device.block_bytes c.stash) 32 is.summary.root;
    } in
    subst (λ (d : Sizes). IsStash d (get_or numbers 13 0) c.stash rest) same at

pub found_only : (numbers bytes root rest : List ℕ) (sealer : SealerKind) (device : Sizes) (stash : List Cell) → AreParts numbers bytes root rest sealer device
    → (c : Contents) → IsBehindVersion numbers bytes c → stash ≡ c.stash → found numbers sealer device root stash ≡ c
found_only numbers bytes root rest sealer device stash parts c is same =
    let at = λ (k : ℕ). ap (λ (ns : List ℕ). get_or ns k 0) is.numbers in
    let sealed : sealer ≡ c.sealer = sealer_same sealer c.sealer (sym parts.sealed ∙ at 1) in
    let sizes : device ≡ c.device = parts.sizes ∙ ap sizes_in is.numbers in
    let digest : root ≡ c.root = parts.front ∙ ap (take 32) is.bytes ∙ take_at c.root (stash_text c.device.block_bytes c.stash) 32 is.summary.root in
    ap (λ (x : SealerKind). found numbers x device root stash) sealed
    ∙ ap (λ (x : Sizes). found numbers c.sealer x root stash) sizes
    ∙ ap (λ (x : List ℕ). found x c.sealer c.device root stash) is.numbers
    ∙ ap (λ (x : List ℕ). found (numbers_of c) c.sealer c.device x stash) digest
    ∙ ap (λ (x : List Cell). found (numbers_of c) c.sealer c.device c.root x) same

fits_each : (ns : List ℕ) → AllByRecursion (λ (n : ℕ). n < 2 ^ 64) ns → (i : ℕ) → get_or ns i 0 < 2 ^ 64
fits_each [] all i = lit< tt
fits_each (n ∷ ns) all zero = all.0
fits_each (n ∷ ns) all (suc i) = fits_each ns all.1 i

sealer_fits : (s : SealerKind) → sealer_number s < 2 ^ 64
sealer_fits Plain = lit< tt
sealer_fits ChaCha20 = lit< tt

-- the numbers of a summary fit eight bytes
numbers_fit : (c : Contents) → IsSummary c → (i : ℕ) → get_or (numbers_of c) i 0 < 2 ^ 64
numbers_fit c is i =
    let most = (most_blocks-range c.device.leaf_load).1 in
    let d = is.device in
    let blocks : c.device.blocks < 2 ^ 64 = omega (arith, d.few_blocks, most) in
    let top : c.device.top < 2 ^ 64 = omega (arith, d.few_top, most) in
    let near : c.near_levels < 2 ^ 64 = omega (arith, is.of_device.near, shallow c.device d) in
    let count : length c.stash < 2 ^ 64 = omega (arith, is.room) in
    let all : AllByRecursion (λ (n : ℕ). n < 2 ^ 64) (numbers_of c) = (
      lit< tt,
      (
        sealer_fits c.sealer,
        (
          blocks,
          (
            omega (arith, d.few_bytes),
            (
              omega (arith, d.few_slots),
              (
                top,
                (
                  omega (arith, d.few_lifetime),
                  (
                    omega (arith, d.few_load),
                    (near, (is.fit.time, (is.fit.number, (is.fit.ticket, (is.fit.nonce, (count, tt)))))),
                  ),
                ),
              ),
            ),
          ),
        ),
      ),
    ) in
    fits_each (numbers_of c) all i

-- the text of a summary begins with its numbers
pub behind_numbers_of : (text numbers rest : List ℕ) → length numbers ≡ 14 → ((i : ℕ) → get_or numbers i 0 < 2 ^ 64) → text ≡ flat_map (to_be_bytes w64) numbers ++ rest
    → (c : Contents) → IsTextOf text c → IsBehindVersion numbers rest c
unfolding text_of
behind_numbers_of text numbers rest many fit front c is =
    let same = numbers_same numbers (numbers_of c) rest (c.root ++ stash_text c.device.block_bytes c.stash) many fit (numbers_fit c is.summary) (sym front ∙ is.text) in
    record { summary = is.summary; numbers = same.0; bytes = same.1 }

-- and what has these numbers and the bytes behind them is the text
pub text_is : (text numbers rest : List ℕ) → text ≡ flat_map (to_be_bytes w64) numbers ++ rest → (c : Contents) → IsBehindVersion numbers rest c → IsTextOf text c
unfolding text_of
text_is text numbers rest front c is = record {
  summary = is.summary;
  text = front ∙ ap (λ (ns : List ℕ). flat_map (to_be_bytes w64) ns ++ rest) is.numbers ∙ ap (λ (b : List ℕ). flat_map (to_be_bytes w64) (numbers_of c) ++ b) is.bytes;
}

length-numbers : (numbers : List ℕ) → length (flat_map (to_be_bytes w64) numbers) ≡ 8 * length numbers
length-numbers [] = refl
length-numbers (n ∷ numbers) = omega (arith, length-numbers numbers, length-append (to_be_bytes w64 n) (flat_map (to_be_bytes w64) numbers))

-- how long a text is
pub length-behind : (text numbers rest : List ℕ) → length numbers ≡ 14 → text ≡ flat_map (to_be_bytes w64) numbers ++ rest → length text ≡ 112 + length rest
length-behind text numbers rest many front = omega (arith, many, ap length front, length-append (flat_map (to_be_bytes w64) numbers) rest, length-numbers numbers)

-- the text of a summary is as long as its device wants
pub length-text : (c : Contents) → IsSummary c → length (text_of c) ≡ text_len_of c.device.block_bytes
unfolding text_of
length-text c is =
    let blocks = length-blocks c.stash c.device.block_bytes (λ k b within. (is.of_device.blocks k b within).whole) in
    let room : length c.stash + (64 - length c.stash) ≡ 64 = omega (arith, is.room) in
    omega (
      arith,
      length-append (flat_map (to_be_bytes w64) (numbers_of c)) (c.root ++ stash_text c.device.block_bytes c.stash),
      length-numbers (numbers_of c),
      length-append c.root (stash_text c.device.block_bytes c.stash),
      is.root,
      length-append (flat_map block_text c.stash) (replicate ((64 - length c.stash) * (8 + c.device.block_bytes)) 0),
      blocks,
      length-replicate {A = ℕ} ((64 - length c.stash) * (8 + c.device.block_bytes)) 0,
      add_times (length c.stash) (64 - length c.stash) (8 + c.device.block_bytes),
      ap (λ (n : ℕ). n * (8 + c.device.block_bytes)) room,
    )

-- the text of a summary begins with the version
pub text_has_version : (text : List ℕ) (c : Contents) → IsTextOf text c → HasVersion text
unfolding text_of
text_has_version text c is =
    let numbers : List ℕ = sealer_number c.sealer ∷ c.device.blocks ∷ c.device.block_bytes ∷ c.device.slots ∷ c.device.top ∷ c.device.lifetime ∷ c.device.leaf_load
    ∷ c.near_levels ∷ c.time ∷ c.number ∷ c.next_ticket ∷ c.next_nonce ∷ length c.stash ∷ [] in
    (flat_map (to_be_bytes w64) numbers ++ (c.root ++ stash_text c.device.block_bytes c.stash), is.text)

-- how many bytes of a block the text states
pub stated_is : (text numbers rest : List ℕ) → length numbers ≡ 14 → ((i : ℕ) → get_or numbers i 0 < 2 ^ 64) → text ≡ flat_map (to_be_bytes w64) numbers ++ rest → block_bytes_in text ≡ get_or numbers 3 0
stated_is text [] rest many fit front = absurd (omega arith)
stated_is text (a ∷ []) rest many fit front = absurd (omega arith)
stated_is text (a ∷ b ∷ []) rest many fit front = absurd (omega arith)
stated_is text (a ∷ b ∷ c ∷ []) rest many fit front = absurd (omega arith)
stated_is text (a ∷ b ∷ c ∷ d ∷ numbers) rest many fit front = ap block_bytes_in front ∙ from_be_bytes-to_be_bytes_8 d (fit 3)

-- whether a text begins with the version
pub version_from : (text prefix : List ℕ) (r : Bool) → r ≡ starts_with eqb text prefix → prefix ≡ to_be_bytes w64 1 → (r ≡ true → HasVersion text) × (HasVersion text → r ≡ true)
version_from text prefix r value is =
    let decides = bytes_eq-Decides (to_be_bytes w64 1) (take 8 text) in
    let test : r ≡ bytes_eq (to_be_bytes w64 1) (take 8 text) = value ∙ ap (λ (p : List ℕ). starts_with eqb text p) is in (
      λ (yes : r ≡ true). (drop 8 text, sym (take-append-drop 8 text) ∙ ap (λ (b : List ℕ). b ++ drop 8 text) (sym (decides.0 (sym test ∙ yes)))),
      λ (has : HasVersion text). test ∙ decides.1 (sym (ap (take 8) has.1)),
    )

-- the first of the numbers is the version
pub version_is : (text numbers rest : List ℕ) → length numbers ≡ 14 → ((i : ℕ) → get_or numbers i 0 < 2 ^ 64) → text ≡ flat_map (to_be_bytes w64) numbers ++ rest → HasVersion text → get_or numbers 0 0 ≡ 1
version_is text [] rest many fit front has = absurd (omega arith)
version_is text (n ∷ numbers) rest many fit front has =
    (long_same n 1 (flat_map (to_be_bytes w64) numbers ++ rest) has.0 (fit 0) (lit< tt)
    (sym (append_assoc (to_be_bytes w64 n) (flat_map (to_be_bytes w64) numbers) rest) ∙ sym front ∙ has.1)).0

-- the result of reading behind the numbers, as one of reading the text
pub ok_is : (text numbers rest : List ℕ) → text ≡ flat_map (to_be_bytes w64) numbers ++ rest → (r : Result Contents SummaryFault) → IfOk r (IsBehindVersion numbers rest) → IfOk r (IsTextOf text)
ok_is text numbers rest front (Ok c) is = text_is text numbers rest front c is
ok_is text numbers rest front (Err fault) is = tt

pub no_content : (r : Result Contents SummaryFault) (c : Contents) → IsErrOf r Content → MatchResult r (λ s. s ≡ c) (λ f. f ≡ OutOfMemory) → ⊥
no_content (Ok s) c content other = cc
no_content (Err fault) c content other = cc

-- numbers that were written fit
longs_fit : (c : Contents) (numbers : List ℕ) → numbers ≡ numbers_of c → ((i : ℕ) → get_or numbers i 0 < 2 ^ 64) → FitLongs c
longs_fit c numbers is fit =
    let at : (i : ℕ) → get_or (numbers_of c) i 0 < 2 ^ 64 = λ i. subst (λ (ns : List ℕ). get_or ns i 0 < 2 ^ 64) is (fit i) in
    record { time = at 9; number = at 10; ticket = at 11; nonce = at 12 }

-- what was written is the text of the summary
pub written : (c : Contents) (numbers root text : List ℕ) → IsDevice c.device → IsOfDevice c → length c.stash ≤ 64 → numbers ≡ numbers_of c → root ≡ c.root → ((i : ℕ) → get_or numbers i 0 < 2 ^ 64) → length root ≡ 32
    → text ≡ parts_text numbers root c.device.block_bytes c.stash → IsTextOf text c
unfolding text_of
written c numbers root text device of_device room is digest fit long spelled = record {
  summary = record { device = device; of_device = of_device; room = room; fit = longs_fit c numbers is fit; root = sym (ap length digest) ∙ long };
  text = spelled ∙ ap (λ (ns : List ℕ). parts_text ns root c.device.block_bytes c.stash) is ∙ ap (λ (b : List ℕ). parts_text (numbers_of c) b c.device.block_bytes c.stash) digest;
}

-- no text is that of two summaries
pub one_summary : TextsTellOfOneSummary
unfolding text_of
one_summary c c' is is' same =
    let rest : List ℕ = c.root ++ stash_text c.device.block_bytes c.stash in
    let other : IsBehindVersion (numbers_of c) rest c' = behind_numbers_of (text_of c) (numbers_of c) rest refl (numbers_fit c is) refl c' (record { summary = is'; text = same }) in
    let at = λ (k : ℕ). ap (λ (ns : List ℕ). get_or ns k 0) other.numbers in
    let cut = parts_same c.root (stash_text c.device.block_bytes c.stash) c'.root (stash_text c'.device.block_bytes c'.stash) (is.root ∙ sym is'.root) other.bytes in
    let stash : c.stash ≡ c'.stash = (blocks_same c.stash c'.stash c.device.block_bytes
    (replicate ((64 - length c.stash) * (8 + c.device.block_bytes)) 0) (replicate ((64 - length c'.stash) * (8 + c'.device.block_bytes)) 0) (at 13)
    (λ k b within. (is.of_device.blocks k b within).whole) (λ k b within. (is'.of_device.blocks k b within).whole ∙ sym (at 3))
    (blocks_fit c.device c.stash is.device is.of_device.blocks) (blocks_fit c'.device c'.stash is'.device is'.of_device.blocks) cut.1).0 in
    let sealed : c.sealer ≡ c'.sealer = sealer_same c.sealer c'.sealer (at 1) in
    let sizes : c.device ≡ c'.device = ap sizes_in other.numbers in
    ap (λ (x : SealerKind). found (numbers_of c) x c.device c.root c.stash) sealed
    ∙ ap (λ (x : Sizes). found (numbers_of c) c'.sealer x c.root c.stash) sizes
    ∙ ap (λ (x : List ℕ). found x c'.sealer c'.device c.root c.stash) other.numbers
    ∙ ap (λ (x : List ℕ). found (numbers_of c') c'.sealer c'.device x c.stash) cut.0
    ∙ ap (λ (x : List Cell). found (numbers_of c') c'.sealer c'.device c'.root x) stash
