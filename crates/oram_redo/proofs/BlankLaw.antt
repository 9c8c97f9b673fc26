-- From a blank place on, an honest file holds zeros.
use Rattle.std.proofs.Common.{◌≡◌, inl, inr, ℕ, zero, suc, ◌+◌, ◌≤◌, true, false, List, [], ◌∷◌, length, refl, ◌∙◌, subst, arith}
use Rattle.std.specs.Prelude.{if◌then◌else◌, Bool, ◌==◌, ◌&&◌}
use Rattle.std.proofs.lemmas.Bool.Decides.{nat_tests}
use Rattle.oram_redo.specs.Laws.{BlanksAreZeros, BlanksExample, one_byte}
use Rattle.oram_redo.specs.Note.{Call}
use Rattle.oram_redo.specs.Opened.{Opened, contents_in}
use Rattle.oram_redo.specs.FilePair.{Contents}
use Rattle.oram_redo.specs.System.{EndsAt, put_in, seen_after}
use Rattle.oram_redo.specs.declared.file_pair.FileKind.{FileKind}
use Rattle.oram_redo.specs.declared.file_pair.FileKind.TheVariants.{Records, Log}
use Rattle.oram_redo.proofs.Bytes.{put_outside}

outside_put : (file other : FileKind) (at : ℕ) (bytes : List ℕ) (seen : Contents) (i : ℕ) → (other ≡ file → at + length bytes ≤ i) → put_in other at bytes seen file i ≡ seen file i
outside_put Records Records at bytes seen i beyond = put_outside bytes at (seen Records) i (inr (beyond refl))
outside_put Records Log at bytes seen i beyond = refl
outside_put Log Records at bytes seen i beyond = refl
outside_put Log Log at bytes seen i beyond = put_outside bytes at (seen Log) i (inr (beyond refl))

is_write : (k : ℕ) (ok : Bool) → ((k == 1) && ok) ≡ true → k ≡ 1
is_write k ok e = grind (arith, nat_tests)

-- a call that doesn't write at the place, or doesn't write
kept : (first : Opened) (calls : List Call) (call : Call) (file : FileKind) (i : ℕ) (b : Bool) → ((call.kind == 1) && call.is_ok) ≡ b → (call.kind ≡ 1 → call.file ≡ file → call.at + length call.bytes ≤ i)
    → (if b then put_in call.file call.at call.bytes (seen_after first calls) else seen_after first calls) file i ≡ seen_after first calls file i
kept first calls call file i true e beyond = outside_put file call.file call.at call.bytes (seen_after first calls) i (beyond (is_write call.kind call.is_ok e))
kept first calls call file i false e beyond = refl

-- a question for the length writes nothing
not_written : (k : ℕ) → k ≡ 4 → k ≡ 1 → ⊥
not_written k four one = absurd (omega (arith, four, one))

pub blanks_are_zeros : BlanksAreZeros
blanks_are_zeros first file at [] blank honest = absurd blank
blanks_are_zeros first file at (call ∷ calls) (inl asked) honest = λ i low.
    kept first calls call file i ((call.kind == 1) && call.is_ok) refl (λ write same. absurd (not_written call.kind asked.0 write))
    ∙ subst (λ (f : FileKind). seen_after first calls f i ≡ 0) asked.1 (honest.2 asked.0 i (omega (arith, asked.2, low)))
blanks_are_zeros first file at (call ∷ calls) (inr rest) honest = λ i low.
    kept first calls call file i ((call.kind == 1) && call.is_ok) refl (λ write same. omega (arith, rest.0 write same, low))
    ∙ blanks_are_zeros first file at calls rest.1 honest.3 i low

-- a log of one byte holds zeros behind that
ends_at_one : EndsAt (contents_in one_byte Log) 1
ends_at_one zero low = absurd (omega (arith, low))
ends_at_one (suc i) low = refl

pub blanks_example : BlanksExample
blanks_example = (inl (refl, refl, omega arith), ((λ read. absurd (omega (arith, read))), (λ read none. absurd (omega (arith, read))), (λ asked. ends_at_one), tt))
