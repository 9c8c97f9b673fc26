-- Reads of any length, by calls of the system that may give less than they are asked for.
use Rattle.std.proofs.Common.{◌≡◌, ℕ, zero, suc, ◌+◌, ◌-◌, ◌≤◌, true, List, [], ◌∷◌, ◌++◌, length, take, drop, refl, sym, ◌∙◌, ap, subst, arith, length-append}
use Rattle.std.specs.Prelude.{replicate}
use Rattle.std.proofs.lemmas.List.{length-take, length-drop, take-append-le, take_all, drop_all, append-nil}
use Rattle.std.proofs.Math.Seq.{take-append-add}
use Rattle.std.proofs.lemmas.Slice.{take-put_mid_below}
use borrow.Rule.Slice.PartMut.{put_mid, post_of}
use Rattle.oram_redo.specs.Content.{Content, bytes_at}
use Rattle.oram_redo.specs.Note.{Call}
use Rattle.oram_redo.specs.Opened.{Opened}
use Rattle.oram_redo.specs.System.{EndsAt, IsHonestHistory, TouchedNothing, seen_after}
use Rattle.oram_redo.specs.declared.file_pair.FileKind.{FileKind}
use Rattle.oram_redo.proofs.Bytes.{bytes_at-add, bytes_at-agrees, length-bytes_at}
use Rattle.oram_redo.proofs.Touched.{nothing_seen, touched_then, touched_read}

pub nothing_then : (old mid new : List Call) → TouchedNothing old mid → TouchedNothing mid new → TouchedNothing old new
nothing_then old mid new one two first file at n = touched_then first file at n old mid new (one first file at n) (two first file at n)

-- one more read, into the bytes behind those that were read
module _ (old mid later : List Call) (file : FileKind) (at from got : ℕ) (here : from ≡ at + got) (nothing : TouchedNothing old mid) where
  module _ (given : List ℕ) (is : later ≡ record { kind = 2; file = file; at = from; is_ok = true; bytes = given } ∷ mid) where
    pub still_nothing : TouchedNothing old later
    still_nothing = nothing_then old mid later nothing (touched_read mid later file from given is)

    module _ (first : Opened) (honest : IsHonestHistory first later) where
      abbrev told : IsHonestHistory first (record { kind = 2; file = file; at = from; is_ok = true; bytes = given } ∷ mid)
      told = subst (λ (l : List Call). IsHonestHistory first l) is honest

      pub honest_before : IsHonestHistory first mid
      honest_before = told.3

      pub given_is : given ≡ bytes_at (length given) (at + got) (seen_after first old file)
      given_is =
          told.0 refl ∙ ap (λ (k : ℕ). bytes_at (length given) k (seen_after first mid file)) here
          ∙ bytes_at-agrees (length given) (at + got) (seen_after first mid file) (seen_after first old file) (λ i low high. nothing_seen first old mid nothing file i)

      pub ends_there : length given ≡ 0 → EndsAt (seen_after first old file) (at + got)
      ends_there none i low =
          sym (nothing_seen first old mid nothing file i) ∙ told.1 refl (empty given none) i (omega (arith, low, here))
        where
          empty : (l : List ℕ) → length l ≡ 0 → l ≡ []
          empty [] e = refl
          empty (x ∷ xs) e = absurd (omega (arith, e))

pub more_read : (bytes piece : List ℕ) (c : Content) (at got n k : ℕ) → got ≤ length bytes → n ≤ length piece → take got bytes ≡ bytes_at got at c → take n piece ≡ bytes_at (length (take n piece)) (at + got) c
    → take (got + n) (put_mid got k bytes piece) ≡ bytes_at (got + n) at c
more_read bytes piece c at got n k low less before now =
    ap (λ (m : ℕ). take (m + n) (put_mid got k bytes piece)) (sym front) ∙ take-append-add (take got bytes) _ n ∙ ap (λ (l : List ℕ). take got bytes ++ l) (take-append-le n piece _ less)
    ∙ ap (λ (l : List ℕ). l ++ take n piece) before ∙ ap (λ (l : List ℕ). bytes_at got at c ++ l) (now ∙ ap (λ (m : ℕ). bytes_at m (at + got) c) back) ∙ sym (bytes_at-add got n at c)
  where
    front : length (take got bytes) ≡ got
    front = omega (arith, length-take got bytes, low)

    back : length (take n piece) ≡ n
    back = omega (arith, length-take n piece, less)

-- the rest of the bytes, which the system was given
pub length-rest : (bytes piece : List ℕ) (got : ℕ) → got ≤ length bytes → length piece ≡ length (take (length bytes - got) (drop got bytes)) → length piece ≡ length bytes - got
length-rest bytes piece got low same = omega (arith, low, same, length-take (length bytes - got) (drop got bytes), length-drop got bytes)

pub length-put_mid : (bytes piece : List ℕ) (got : ℕ) → got ≤ length bytes → length piece ≡ length (take (length bytes - got) (drop got bytes)) → length (put_mid got (length bytes - got) bytes piece) ≡ length bytes
length-put_mid bytes piece got low same =
    let front = length-append (take got bytes) (piece ++ post_of got (length bytes - got) bytes) in
    let back = length-append piece (post_of got (length bytes - got) bytes) in
    let after = length-drop (length bytes - got) (drop got bytes) in
    omega (arith, low, length-rest bytes piece got low same, front, back, after, length-take got bytes, length-drop got bytes)

-- bytes put in place of all that come behind others
put_end : (xs ys : List ℕ) (a : ℕ) → a ≤ length xs → put_mid a (length xs - a) xs ys ≡ take a xs ++ ys
put_end xs ys a low =
    let none : post_of a (length xs - a) xs ≡ [] = drop_all (length xs - a) (drop a xs) (omega (arith, length-drop a xs)) in
    ap (λ (l : List ℕ). take a xs ++ (ys ++ l)) none ∙ ap (λ (l : List ℕ). take a xs ++ l) (append-nil ys)

-- zeros where a content has ended
pub zeros_at : (n at : ℕ) (c : Content) → EndsAt c at → bytes_at n at c ≡ replicate n 0
zeros_at zero at c ends = refl
zeros_at (suc n) at c ends =
    let here : c at ≡ 0 = ends at (omega arith) in
    let rest : bytes_at n (suc at) c ≡ replicate n 0 = zeros_at n (suc at) c (λ i low. ends i (omega (arith, low))) in
    cc

-- the file ended: what was read, and zeros behind it
pub ended : (bytes piece zeros : List ℕ) (c : Content) (at got : ℕ) → got ≤ length bytes → length piece ≡ length (take (length bytes - got) (drop got bytes))
    → zeros ≡ replicate (length (take (length (put_mid got (length bytes - got) bytes piece) - got) (drop got (put_mid got (length bytes - got) bytes piece)))) 0
    → take got bytes ≡ bytes_at got at c → EndsAt c (at + got)
    → put_mid got (length (put_mid got (length bytes - got) bytes piece) - got) (put_mid got (length bytes - got) bytes piece) zeros
    ≡ bytes_at (length (put_mid got (length (put_mid got (length bytes - got) bytes piece) - got) (put_mid got (length bytes - got) bytes piece) zeros)) at c
ended bytes piece zeros c at got low same are read ends =
    let rest : zeros ≡ bytes_at k (at + got) c = are ∙ ap (λ (m : ℕ). replicate m 0) many ∙ sym (zeros_at k (at + got) c ends) in
    let whole : all ≡ bytes_at (got + k) at c =
    put_end mid zeros got low_mid ∙ ap (λ (l : List ℕ). l ++ zeros) (front ∙ read) ∙ ap (λ (l : List ℕ). bytes_at got at c ++ l) rest ∙ sym (bytes_at-add got k at c) in
    whole ∙ ap (λ (m : ℕ). bytes_at m at c) (sym (ap length whole ∙ length-bytes_at (got + k) at c))
  where
    k : ℕ
    k = length bytes - got

    mid : List ℕ
    mid = put_mid got (length bytes - got) bytes piece

    all : List ℕ
    all = put_mid got (length mid - got) mid zeros

    long : length mid ≡ length bytes
    long = length-put_mid bytes piece got low same

    many : length (take (length mid - got) (drop got mid)) ≡ length bytes - got
    many = omega (arith, low, long, length-take (length mid - got) (drop got mid), length-drop got mid)

    low_mid : got ≤ length mid
    low_mid = omega (arith, low, long)

    front : take got mid ≡ take got bytes
    front = take-put_mid_below got (length bytes - got) bytes piece got (omega arith) low

-- the bytes of a vector whose end was filled
pub grown : (old whole piece beside : List ℕ) (start m : ℕ) → start ≡ length old → take start whole ≡ old → start ≤ length whole → m ≡ start + length piece
    → take m ((take start whole ++ (piece ++ post_of start (length whole - start) whole)) ++ beside) ≡ old ++ piece
grown old whole piece beside start m here front low long =
    take-append-le m filled beside (omega (arith, long, long_filled)) ∙ take_all m filled (omega (arith, long, long_filled)) ∙ put_end whole piece start low ∙ ap (λ (l : List ℕ). l ++ piece) front
  where
    filled : List ℕ
    filled = take start whole ++ (piece ++ post_of start (length whole - start) whole)

    long_filled : length filled ≡ start + length piece
    long_filled = ap length (put_end whole piece start low) ∙ ap (λ (l : List ℕ). length (l ++ piece)) front ∙ length-append old piece ∙ ap (λ (n : ℕ). n + length piece) (sym here)

-- a vector that was made longer by zeros begins with what it held
pub kept_front : (old whole zeros : List ℕ) (start end : ℕ) → start ≡ length old → start ≤ end → whole ≡ take end old ++ zeros → take start whole ≡ old
kept_front old whole zeros start end here low is =
    ap (λ (l : List ℕ). take start l) (is ∙ ap (λ (l : List ℕ). l ++ zeros) (take_all end old (omega (arith, here, low)))) ∙ take-append-le start old zeros (omega (arith, here)) ∙ take_all start old (omega (arith, here))

-- the bytes were filled
pub full : (bytes : List ℕ) (c : Content) (at got : ℕ) → got ≤ length bytes → length bytes ≤ got → take got bytes ≡ bytes_at got at c → bytes ≡ bytes_at (length bytes) at c
full bytes c at got low high read =
    let same : got ≡ length bytes = omega (arith, low, high) in
    sym (take_all got bytes high) ∙ read ∙ ap (λ (m : ℕ). bytes_at m at c) same
