-- A note tells of one list of stamps.
use Rattle.std.proofs.Common.{◌≡◌, ℕ, ◌+◌, ◌*◌, ◌-◌, ◌<◌, ◌^◌, min, arith, List, [], ◌∷◌, ◌++◌, length, drop, refl, sym, ap, ◌∙◌, subst, append_assoc, length-append, append-nil}
use Rattle.std.specs.Int.{w64, to_be_bytes}
use Rattle.std.specs.List.{AllByRecursion, flat_map}
use Rattle.std.proofs.lemmas.Grind.{flat_map-append}
use Rattle.oram_stamps.specs.Known.{Stamps, next_number}
use Rattle.oram_stamps.specs.Note.{AreNotable, known_from, note_text, restarted, text_of}
use Rattle.oram_stamps.specs.Stamps.{AreNumbers, stamp_text}
use Rattle.oram_stamps.specs.declared.stamp.Stamp.{Stamp}
use Rattle.oram_stamps.proofs.Spelled.{length-stamp_text, number_same, stamp_same}

abbrev pub FitAll : List Stamp → Type 0
FitAll stamps = AllByRecursion AreNumbers stamps

pub fit_more : (front : List Stamp) (last : Stamp) → FitAll front → AreNumbers last → FitAll (front ++ last ∷ [])
fit_more [] last all fits = (fits, tt)
fit_more (s ∷ front) last all fits = (all.0, fit_more front last all.1 fits)

pub stamps_long : (stamps : List Stamp) → length (flat_map stamp_text stamps) ≡ 16 * length stamps
stamps_long [] = refl
stamps_long (s ∷ stamps) =
    omega (arith, length-append (stamp_text s) (flat_map stamp_text stamps), length-stamp_text s, stamps_long stamps)

-- one more stamp was read
pub read_more : (bytes rest behind : List ℕ) (front : List Stamp) (s : Stamp) (items : List Stamp) → bytes ≡ flat_map stamp_text front ++ rest → rest ≡ stamp_text s ++ behind → items ≡ front ++ s ∷ []
    → bytes ≡ flat_map stamp_text items ++ behind
read_more bytes rest behind front s items read next more =
    let last : flat_map stamp_text (front ++ s ∷ []) ≡ flat_map stamp_text front ++ stamp_text s =
    flat_map-append stamp_text front (s ∷ []) ∙ ap (λ (b : List ℕ). flat_map stamp_text front ++ b) (append-nil (stamp_text s)) in
    read ∙ ap (λ (b : List ℕ). flat_map stamp_text front ++ b) next ∙ sym (append_assoc (flat_map stamp_text front) (stamp_text s) behind)
    ∙ ap (λ (b : List ℕ). b ++ behind) (sym last) ∙ ap (λ (ss : List Stamp). flat_map stamp_text ss ++ behind) (sym more)

stamps_same : (xs ys : List Stamp) → FitAll xs → FitAll ys → flat_map stamp_text xs ≡ flat_map stamp_text ys → xs ≡ ys
stamps_same [] [] all_x all_y e = refl
stamps_same [] (y ∷ ys) all_x all_y e = absurd (omega (arith, ap length e, length-append (stamp_text y) (flat_map stamp_text ys), length-stamp_text y))
stamps_same (x ∷ xs) [] all_x all_y e = absurd (omega (arith, ap length e, length-append (stamp_text x) (flat_map stamp_text xs), length-stamp_text x))
stamps_same (x ∷ xs) (y ∷ ys) all_x all_y e =
    let first = stamp_same x y (flat_map stamp_text xs) (flat_map stamp_text ys) all_x.0 all_y.0 e in
    ap (λ (s : Stamp). s ∷ xs) first.0 ∙ ap (λ (ss : List Stamp). y ∷ ss) (stamps_same xs ys all_x.1 all_y.1 first.1)

-- what is read of a process's note is what that process knew
pub note_same : (k : Stamps) (check number begun : ℕ) (stamps : List Stamp) (note after rest : List ℕ) → AreNotable k → number < 2 ^ 64 → begun < 2 ^ 64 → FitAll stamps
    → note ≡ to_be_bytes w64 number ++ after → after ≡ to_be_bytes w64 begun ++ rest → rest ≡ flat_map stamp_text stamps → note ≡ note_text k
    → known_from number begun stamps check ≡ restarted k check
note_same k check number begun stamps note after rest notable fits_number fits_begun fit first second third is =
    let low : next_number k.current.number < 2 ^ 64 = omega arith in
    let since : List Stamp = drop k.done k.may in
    let numbers = number_same number (next_number k.current.number) after (to_be_bytes w64 (k.begun - k.done) ++ flat_map stamp_text since) fits_number low (sym first ∙ is) in
    let begins = number_same begun (k.begun - k.done) rest (flat_map stamp_text since) fits_begun notable.begun (sym second ∙ numbers.1) in
    let same = stamps_same stamps since fit notable.stamps (sym third ∙ begins.1) in
    ap (λ (n : ℕ). known_from n begun stamps check) numbers.0 ∙ ap (λ (b : ℕ). known_from (next_number k.current.number) b stamps check) begins.0
    ∙ ap (λ (ss : List Stamp). known_from (next_number k.current.number) (k.begun - k.done) ss check) same
