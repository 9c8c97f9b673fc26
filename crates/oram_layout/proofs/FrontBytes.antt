-- What the first bytes of a file say.
use Rattle.std.proofs.Common.{◌≡◌, ℕ, ◌^◌, ◌<◌, ◌≤◌, Bool, List, [], ◌++◌, length, take, drop, Decides, refl, sym, ◌∙◌, ap, arith, eqb}
use Rattle.std.specs.Cmp.Lexicographic.{pointwise}
use Rattle.std.proofs.lemmas.Bool.Decides.{Decides-eqb}
use Rattle.std.proofs.lemmas.List.{drop-take, drop_at, length-append, take-append-drop, length-take, take_at, take-take, append_cancel_left, append-nil, drop_all}
use Rattle.std.proofs.lemmas.Slice.Eq.{slice_eq-Decides}
use borrow.Rule.Slice.PartMut.{put_mid}
use Rattle.oram_pair.specs.Fronts.{IsFront}
use Rattle.oram_layout.specs.Fronts.{IsNewer, IsOlder, bucket_name}
use Rattle.oram_pair.specs.Fronts.{eight_bytes}
use Rattle.oram_layout.specs.Header.{letters}
use Rattle.oram_pair.specs.declared.fronts.Identity.{Identity}
use Rattle.oram_pair.proofs.EightBytes.{eight_bytes_one, length-eight_bytes}
use Rattle.oram_pair.proofs.FrontBytes.{front_letters_are}

letters_spelled : letters ≡ bucket_name ++ eight_bytes 3
unfolding eight_bytes
letters_spelled = refl

-- a file of this version isn't of a newer one
pub ours_not_newer : (identity : Identity) (bytes : List ℕ) → IsFront letters identity bytes → IsNewer bytes → ⊥
ours_not_newer identity bytes is newer =
    let same : bucket_name ++ eight_bytes newer.version ≡ bucket_name ++ eight_bytes 3 = sym newer.begins ∙ front_letters_are letters identity bytes refl is ∙ letters_spelled in
    let two : newer.version ≡ 3 = eight_bytes_one newer.version 3 newer.fits (omega arith) (append_cancel_left bucket_name (eight_bytes newer.version) (eight_bytes 3) same) in
    absurd (omega (arith, newer.above, two))

-- and not of an older one
pub ours_not_older : (identity : Identity) (bytes : List ℕ) → IsFront letters identity bytes → IsOlder bytes → ⊥
ours_not_older identity bytes is older =
    let same : bucket_name ++ eight_bytes older.version ≡ bucket_name ++ eight_bytes 3 = sym older.begins ∙ front_letters_are letters identity bytes refl is ∙ letters_spelled in
    let two : older.version ≡ 3 = eight_bytes_one older.version 3 (omega (arith, older.below)) (omega arith) (append_cancel_left bucket_name (eight_bytes older.version) (eight_bytes 3) same) in
    absurd (omega (arith, older.below, two))

-- a file has one version
pub newer_not_older : (bytes : List ℕ) → IsNewer bytes → IsOlder bytes → ⊥
newer_not_older bytes newer older =
    let same : newer.version ≡ older.version = eight_bytes_one newer.version older.version newer.fits (omega (arith, older.below))
    (append_cancel_left bucket_name (eight_bytes newer.version) (eight_bytes older.version) (sym newer.begins ∙ older.begins)) in
    absurd (omega (arith, newer.above, older.below, same))

pub older_long : (bytes : List ℕ) → IsOlder bytes → 16 ≤ length bytes
older_long bytes older = omega (arith, ap length older.begins, length-take 16 bytes, length-append bucket_name (eight_bytes older.version), length-eight_bytes older.version)

pub older_name : (bytes : List ℕ) → IsOlder bytes → bucket_name ≡ take 8 bytes
older_name bytes older = sym (take_at bucket_name (eight_bytes older.version) 8 refl) ∙ ap (λ (l : List ℕ). take 8 l) (sym older.begins) ∙ take-take 8 16 bytes (omega arith)

pub newer_long : (bytes : List ℕ) → IsNewer bytes → 16 ≤ length bytes
newer_long bytes newer = omega (arith, ap length newer.begins, length-take 16 bytes, length-append bucket_name (eight_bytes newer.version), length-eight_bytes newer.version)

pub newer_name : (bytes : List ℕ) → IsNewer bytes → bucket_name ≡ take 8 bytes
newer_name bytes newer = sym (take_at bucket_name (eight_bytes newer.version) 8 refl) ∙ ap (λ (l : List ℕ). take 8 l) (sym newer.begins) ∙ take-take 8 16 bytes (omega arith)

first_sixteen : (bytes : List ℕ) → take 16 bytes ≡ take 8 bytes ++ take 8 (drop 8 bytes)
first_sixteen bytes =
    sym (take-append-drop 8 (take 16 bytes)) ∙ ap (λ (l : List ℕ). l ++ drop 8 (take 16 bytes)) (take-take 8 16 bytes (omega arith))
    ∙ ap (λ (l : List ℕ). take 8 bytes ++ l) (drop-take 8 8 bytes)

pub newer_from : (bytes : List ℕ) (version : ℕ) → bucket_name ≡ take 8 bytes → eight_bytes version ≡ take 8 (drop 8 bytes) → version < 2 ^ 64 → 3 < version → IsNewer bytes
newer_from bytes version named said fits above = record {
  version = version;
  above = above;
  fits = fits;
  begins = first_sixteen bytes ∙ ap (λ (l : List ℕ). l ++ take 8 (drop 8 bytes)) (sym named) ∙ ap (λ (l : List ℕ). bucket_name ++ l) (sym said);
}

pub newer_version : (bytes : List ℕ) (version : ℕ) → eight_bytes version ≡ take 8 (drop 8 bytes) → version < 2 ^ 64 → IsNewer bytes → 3 < version
newer_version bytes version said fits newer =
    let its : eight_bytes newer.version ≡ take 8 (drop 8 bytes) =
    sym (drop_at bucket_name (eight_bytes newer.version) 8 refl) ∙ ap (λ (l : List ℕ). drop 8 l) (sym newer.begins) ∙ drop-take 8 8 bytes in
    let same : newer.version ≡ version = eight_bytes_one newer.version version newer.fits fits (its ∙ sym said) in
    omega (arith, newer.above, same)

pub older_from : (bytes : List ℕ) (version : ℕ) → bucket_name ≡ take 8 bytes → eight_bytes version ≡ take 8 (drop 8 bytes) → version < 3 → IsOlder bytes
older_from bytes version named said below = record {
  version = version;
  below = below;
  begins = first_sixteen bytes ∙ ap (λ (l : List ℕ). l ++ take 8 (drop 8 bytes)) (sym named) ∙ ap (λ (l : List ℕ). bucket_name ++ l) (sym said);
}

pub older_version : (bytes : List ℕ) (version : ℕ) → eight_bytes version ≡ take 8 (drop 8 bytes) → version < 2 ^ 64 → IsOlder bytes → version < 3
older_version bytes version said fits older =
    let its : eight_bytes older.version ≡ take 8 (drop 8 bytes) =
    sym (drop_at bucket_name (eight_bytes older.version) 8 refl) ∙ ap (λ (l : List ℕ). drop 8 l) (sym older.begins) ∙ drop-take 8 8 bytes in
    let same : older.version ≡ version = eight_bytes_one older.version version (omega (arith, older.below)) fits (its ∙ sym said) in
    omega (arith, older.below, same)
