-- What the first bytes of a file say.
use Rattle.std.proofs.Common.{◌≡◌, ℕ, ◌≤◌, Bool, List, [], ◌++◌, length, take, drop, Decides, sym, ◌∙◌, ap, arith, eqb}
use Rattle.std.specs.Cmp.Lexicographic.{pointwise}
use Rattle.std.proofs.lemmas.Bool.Decides.{Decides-eqb}
use Rattle.std.proofs.lemmas.List.{drop_at, length-append, length-take, take_at, take-take, append-nil, drop_all}
use Rattle.std.proofs.lemmas.Slice.Eq.{slice_eq-Decides}
use borrow.Rule.Slice.PartMut.{put_mid}
use Rattle.oram_pair.specs.Fronts.{IsFront}
use Rattle.oram_pair.specs.declared.fronts.Identity.{Identity}

pub front_long : (front_letters : List ℕ) (identity : Identity) (bytes : List ℕ) → length front_letters ≡ 16 → IsFront front_letters identity bytes → 32 ≤ length bytes
front_long front_letters identity bytes long is =
    omega (arith, ap length is.begins, length-take 32 bytes, length-append front_letters identity.0, long, is.whole)

pub front_letters_are : (front_letters : List ℕ) (identity : Identity) (bytes : List ℕ) → length front_letters ≡ 16 → IsFront front_letters identity bytes → take 16 bytes ≡ front_letters
front_letters_are front_letters identity bytes long is =
    sym (take-take 16 32 bytes (omega arith)) ∙ ap (λ (l : List ℕ). take 16 l) is.begins ∙ take_at front_letters identity.0 16 long

-- what `starts_with` says
pub starts_so : (needle bytes : List ℕ) (r : Bool) → r ≡ pointwise eqb needle (take (length needle) bytes) → Decides r (needle ≡ take (length needle) bytes)
starts_so needle bytes r e = slice_eq-Decides Decides-eqb needle (take (length needle) bytes) r e

pub two_halves : (a b zeros : List ℕ) → length a ≡ 16 → length b ≡ 16 → length zeros ≡ 16 → put_mid 16 16 (a ++ zeros) b ≡ a ++ b
two_halves a b zeros la lb lz =
    let front : take 16 (a ++ zeros) ≡ a = take_at a zeros 16 la in
    let behind : drop 16 (drop 16 (a ++ zeros)) ≡ [] = ap (λ (l : List ℕ). drop 16 l) (drop_at a zeros 16 la) ∙ drop_all 16 zeros (omega arith) in
    ap (λ (l : List ℕ). l ++ (b ++ drop 16 (drop 16 (a ++ zeros)))) front ∙ ap (λ (l : List ℕ). a ++ (b ++ l)) behind ∙ ap (λ (l : List ℕ). a ++ l) (append-nil b)
