-- The bytes of a head, and what they say of a text.
use Rattle.std.proofs.Common.{◌≡◌, ℕ, ◌+◌, ◌<◌, ◌^◌, List, [], ◌∷◌, ◌++◌, length, take, drop, get_or, refl, sym, ap, ap₂, ◌∙◌, arith, append-nil, length-append}
use Rattle.std.specs.Prelude.{map}
use Rattle.std.specs.Int.{w64, from_le_bytes}
use Rattle.std.specs.List.{flat_map}
use Rattle.std.proofs.lemmas.List.{drop-drop, take-append-drop}
use Rattle.std.proofs.lemmas.Nat.{from_le_bytes-to_le_bytes_8}
use Rattle.oram_kept.specs.Layout.{HaveRoom, check_of, eight_bytes, head_of, lengths}
use Rattle.oram_kept.specs.Reading.{Says, SaysRoom, head_bytes, said_bytes}
use Rattle.oram_kept.specs.Text.{Parts}
use Rattle.oram_kept.specs.declared.head.Head.{Head}
use Rattle.oram_kept.proofs.Held.{length-eight, length-head}
use Rattle.oram_kept.proofs.Lists.{back_one, front_one}
use Rattle.oram_redo.specs.Log.{check_bytes}
use Rattle.oram_redo.proofs.Logs.{length-check_bytes}

pub eight_one : (a b : ℕ) → a < 2 ^ 64 → b < 2 ^ 64 → eight_bytes a ≡ eight_bytes b → a ≡ b
unfolding eight_bytes
eight_one a b fits_a fits_b same = sym (from_le_bytes-to_le_bytes_8 a fits_a) ∙ ap (from_le_bytes w64) same ∙ from_le_bytes-to_le_bytes_8 b fits_b

pub length-lengths : (p : Parts) → length (lengths p) ≡ 40
length-lengths p = omega (arith, length-head p, length-append (lengths p) (check_bytes (lengths p)), length-check_bytes (lengths p))

-- the bytes that a head was read from
module _ (said : List ℕ) (head : Head) (long : length said ≡ 40)
    (first : eight_bytes head.before ≡ take 8 said) (second : eight_bytes head.table ≡ take 8 (drop 8 said))
    (third : eight_bytes head.after ≡ take 8 (drop 16 said)) (fourth : eight_bytes head.records ≡ take 8 (drop 24 said)) (fifth : eight_bytes head.check ≡ drop 32 said) where
  cut : (n : ℕ) (eight : List ℕ) → eight ≡ take 8 (drop n said) → drop n said ≡ eight ++ drop (n + 8) said
  cut n eight is = sym (take-append-drop 8 (drop n said)) ∙ ap₂ (λ (a b : List ℕ). a ++ b) (sym is) (drop-drop 8 n said)

  pub said_again : said ≡ said_bytes head
  said_again =
      cut 0 (eight_bytes head.before) first
      ∙ ap (λ (r : List ℕ). eight_bytes head.before ++ r) (cut 8 (eight_bytes head.table) second)
      ∙ ap (λ (r : List ℕ). eight_bytes head.before ++ (eight_bytes head.table ++ r)) (cut 16 (eight_bytes head.after) third)
      ∙ ap (λ (r : List ℕ). eight_bytes head.before ++ (eight_bytes head.table ++ (eight_bytes head.after ++ r))) (cut 24 (eight_bytes head.records) fourth)
      ∙ ap (λ (r : List ℕ). eight_bytes head.before ++ (eight_bytes head.table ++ (eight_bytes head.after ++ (eight_bytes head.records ++ r)))) (sym fifth ∙ sym (append-nil (eight_bytes head.check)))

-- as many numbers with the same bytes have the same eight bytes each
eights_one : (xs ys : List ℕ) → length xs ≡ length ys → flat_map eight_bytes xs ≡ flat_map eight_bytes ys → map eight_bytes xs ≡ map eight_bytes ys
eights_one [] [] long same = refl
eights_one [] (y ∷ ys) long same = absurd (omega (arith, long))
eights_one (x ∷ xs) [] long same = absurd (omega (arith, long))
eights_one (x ∷ xs) (y ∷ ys) long same =
    let even = length-eight x ∙ sym (length-eight y) in
    let first = front_one (eight_bytes x) (eight_bytes y) (flat_map eight_bytes xs) (flat_map eight_bytes ys) even same in
    let rest = eights_one xs ys (omega (arith, long)) (back_one (eight_bytes x) (eight_bytes y) (flat_map eight_bytes xs) (flat_map eight_bytes ys) even same) in
    (λ i. first i ∷ rest i)

-- a head has the bytes of a text's head
module _ (head : Head) (p : Parts) (same : lengths p ≡ said_bytes head) (room : HaveRoom p) where
  eights : map eight_bytes (length p.before ∷ length p.table ∷ length p.after ∷ length p.records ∷ check_of p.before p.after ∷ []) ≡ map eight_bytes (head.before ∷ head.table ∷ head.after ∷ head.records ∷ head.check ∷ [])
  eights =
      eights_one (length p.before ∷ length p.table ∷ length p.after ∷ length p.records ∷ check_of p.before p.after ∷ []) (head.before ∷ head.table ∷ head.after ∷ head.records ∷ head.check ∷ []) refl same

  -- it says the text's lengths and checksum
  pub says : (head.before < 2 ^ 64) × (head.table < 2 ^ 64) × (head.after < 2 ^ 64) × (head.records < 2 ^ 64) → Says head p
  says small = record {
    before = eight_one (length p.before) head.before (omega (arith, room.before)) small.0 (ap (λ (l : List (List ℕ)). get_or l 0 []) eights);
    table = eight_one (length p.table) head.table (omega (arith, room.table)) small.1 (ap (λ (l : List (List ℕ)). get_or l 1 []) eights);
    after = eight_one (length p.after) head.after (omega (arith, room.after)) small.2 (ap (λ (l : List (List ℕ)). get_or l 2 []) eights);
    records = eight_one (length p.records) head.records (omega (arith, room.records)) small.3 (ap (λ (l : List (List ℕ)). get_or l 3 []) eights);
    check = ap (λ (l : List (List ℕ)). get_or l 4 []) eights;
  }

  -- it says the room that the text's lengths have
  pub has_room : (head.before < 2 ^ 64) × (head.table < 2 ^ 64) × (head.after < 2 ^ 64) × (head.records < 2 ^ 64) → SaysRoom head
  has_room small =
      let said = says small in
      record { before = omega (arith, said.before, room.before); table = omega (arith, said.table, room.table); after = omega (arith, said.after, room.after); records = omega (arith, said.records, room.records) }

-- the bytes of a text's head, cut where its checksum begins
pub head_cut : (p : Parts) (said sum bytes : List ℕ) → length said ≡ 40 → bytes ≡ said ++ sum → bytes ≡ head_of p → (said ≡ lengths p) × (sum ≡ check_bytes said)
head_cut p said sum bytes long cut is =
    let same : said ++ sum ≡ lengths p ++ check_bytes (lengths p) = sym cut ∙ is in
    let even : length said ≡ length (lengths p) = long ∙ sym (length-lengths p) in
    let front : said ≡ lengths p = front_one said (lengths p) sum (check_bytes (lengths p)) even same in
    (front, back_one said (lengths p) sum (check_bytes (lengths p)) even same ∙ ap check_bytes (sym front))

-- a head that says this of a text is the text's head
pub head_is : (head : Head) (p : Parts) → Says head p → head_of p ≡ head_bytes head
head_is head p says = ap (λ (l : List ℕ). l ++ check_bytes l) same
  where
    same : lengths p ≡ said_bytes head
    same = (λ i. eight_bytes (says.before i) ++ (eight_bytes (says.table i) ++ (eight_bytes (says.after i) ++ (eight_bytes (says.records i) ++ (says.check i ++ [])))))
