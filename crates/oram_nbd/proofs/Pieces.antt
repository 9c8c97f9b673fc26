-- Messages that come or go piece by piece.
use Rattle.std.proofs.Common.{◌≡◌, ℕ, ◌+◌, ◌<◌, List, [], ◌++◌, length, Option, Result, Ok, Err, IfErr, sym, ap, ◌∙◌, subst, arith, length-append, take, take_all, le_refl, append-nil}
use Rattle.std.specs.Io.KnownBytes.{Appends, Consumes}
use Rattle.std.proofs.KnownBytes.{Appends-trans, Consumes-trans}
use Rattle.std.proofs.Math.Seq.{take-append-add}
use Rattle.oram_wire.specs.FrameIo.{TakesPart}
use Rattle.oram_nbd.specs.Streams.{ComesShort, IsBegunText, IsSkip}
use Rattle.oram_nbd.specs.declared.faults.NbdFault.TheVariants as fault

-- what is known of the error that a `?` passed on
pub if_err : {T E : Type 0} (r : Result T E) (y f : E) (P : E → Type 0) → r ≡ Err y → y ≡ f → P f → IfErr r P
if_err (Ok x) y f P a b h = absurd cc
if_err (Err e) y f P a b h = let same : e ≡ f = cc in subst P (sym same) h

-- ---- reading

pub skip_more : (old mid new : Option (List ℕ)) (n m k : ℕ) (bytes : List ℕ) → IsSkip old mid n → Consumes mid new bytes → length bytes ≡ m → n + m ≡ k → IsSkip old new k
skip_more old mid new n m k bytes (front, long, came) more count all =
    (front ++ bytes, length-append front bytes ∙ ap (λ (x : ℕ). x + length bytes) long ∙ ap (λ (x : ℕ). n + x) count ∙ all, Consumes-trans old mid new front bytes came more)

-- some bytes were skipped, and then only a part of the rest came
pub skip_short : (old mid new : Option (List ℕ)) (n k : ℕ) (part : List ℕ) → IsSkip old mid n → Consumes mid new part → n + length part < k → ComesShort 0 k fault.Read old new
skip_short old mid new n k part (front, long, came) more few =
    (front ++ part, (let h : length (front ++ part) < k = omega (arith, length-append front part) in h), Consumes-trans old mid new front part came more)

-- ---- writing

pub begun_second : (a b c : Option (List ℕ)) (first second : List ℕ) → Appends a b first → TakesPart b c second → IsBegunText a c (first ++ second)
begun_second a b c first second wrote (count, few, more) =
    (length first + count, subst (Appends a c) (sym (take-append-add first second count)) (Appends-trans a b c first (take count second) wrote more))

pub begun_all : (a b : Option (List ℕ)) (text : List ℕ) → Appends a b text → IsBegunText a b text
begun_all a b text wrote = (length text, subst (Appends a b) (sym (take_all (length text) text (le_refl _))) wrote)

-- a message in one piece
pub begun_same : (a b : Option (List ℕ)) (text : List ℕ) → IsBegunText a b (text ++ []) → IsBegunText a b text
begun_same a b text h = subst (IsBegunText a b) (append-nil text) h

pub appends_same : (a b : Option (List ℕ)) (text : List ℕ) → Appends a b (text ++ []) → Appends a b text
appends_same a b text h = subst (Appends a b) (append-nil text) h
