-- What a crash may leave after a write that was not synced: any bytes in its range.
use Rattle.std.proofs.Common.{◌≡◌, ◌⊎◌, inl, inr, ⊎_elim, ℕ, ◌+◌, ◌<◌, ◌≤◌, List, length, refl, sym, ◌∙◌, ap, subst, arith}
use Rattle.std.specs.Prelude.{if◌then◌else◌, nat_lt, ◌&&◌, nat_le}
use Rattle.std.proofs.lemmas.Bool.Decides.{nat_tests}
use Rattle.oram_redo.specs.Content.{Content}
use Rattle.oram_redo.specs.FilePair.{Contents, Torn, Wrote, other_than}
use Rattle.oram_redo.specs.Memory.{IsOutside, LeavesBut}
use Rattle.oram_redo.specs.declared.file_pair.FileKind.{FileKind}
use Rattle.oram_redo.specs.declared.file_pair.FileKind.TheVariants.{Records, Log}
use Rattle.oram_redo.specs.declared.memory.Range.{Range}
use Rattle.oram_redo.proofs.Bytes.{put_outside}

pub kind_is : (file f : FileKind) → (f ≡ file) ⊎ (f ≡ other_than file)
kind_is Records Records = inl refl
kind_is Records Log = inr refl
kind_is Log Records = inr refl
kind_is Log Log = inl refl

other_not : (file : FileKind) → file ≡ other_than file → ⊥
other_not Records e = cc
other_not Log e = cc

pub torn_not : (file : FileKind) (at n : ℕ) (c : Contents) → Torn file at n c c
torn_not file at n c = record { before = λ i low. refl; after = λ i high. refl; other = λ i. refl }

pub wrote_torn : (file : FileKind) (at : ℕ) (bytes : List ℕ) (old new : Contents) → Wrote file at bytes old new → Torn file at (length bytes) old new
wrote_torn file at bytes old new wrote = record {
  before = λ i low. wrote.there i ∙ put_outside bytes at (old file) i (inl low);
  after = λ i high. wrote.there i ∙ put_outside bytes at (old file) i (inr high);
  other = wrote.other;
}

-- one content within a range, and another outside it
within : ℕ → ℕ → Content → Content → Content
within at n inside outside i = if nat_le at i && nat_lt i (at + n) then inside i else outside i

within_in : (at n : ℕ) (inside outside : Content) (i : ℕ) → at ≤ i → i < at + n → within at n inside outside i ≡ inside i
unfolding within
within_in at n inside outside i low high = grind (arith, nat_tests)

within_out : (at n : ℕ) (inside outside : Content) (i : ℕ) → (i < at ⊎ at + n ≤ i) → within at n inside outside i ≡ outside i
unfolding within
within_out at n inside outside i out = grind (arith, nat_tests)

-- the same in one of the files
mended : FileKind → ℕ → ℕ → Contents → Contents → Contents
mended Records at n inside outside Records = within at n (inside Records) (outside Records)
mended Records at n inside outside Log = outside Log
mended Log at n inside outside Records = outside Records
mended Log at n inside outside Log = within at n (inside Log) (outside Log)

mended_same : (file : FileKind) (at n : ℕ) (inside outside : Contents) → mended file at n inside outside file ≡ within at n (inside file) (outside file)
unfolding mended
mended_same Records at n inside outside = refl
mended_same Log at n inside outside = refl

mended_other : (file : FileKind) (at n : ℕ) (inside outside : Contents) → mended file at n inside outside (other_than file) ≡ outside (other_than file)
unfolding mended
mended_other Records at n inside outside = refl
mended_other Log at n inside outside = refl

-- The write goes from `old` to `new`, and its range joins those that no sync has covered.
module _ (old new : Contents) (before_ranges ranges : List Range) (file : FileKind) (at n : ℕ) (torn : Torn file at n old new)
    (more : (f : FileKind) (i : ℕ) → IsOutside before_ranges f i → (file ≡ f → (i < at ⊎ at + n ≤ i)) → IsOutside ranges f i) (c : Contents) (left : LeavesBut ranges new c) where
  -- a file where the write was not
  before : Contents
  before = mended file at n old c

  inside : (i : ℕ) → IsOutside before_ranges file i → before file i ≡ old file i
  unfolding before
  inside i out = elim (places i) [
    | inl outer ↦
        ap (λ (x : Content). x i) (mended_same file at n old c) ∙ within_out at n (old file) (c file) i outer ∙ left file i (more file i out (λ e. outer))
        ∙ ⊎_elim (λ low. torn.before i low) (λ high. torn.after i high) outer
    | inr inner ↦ ap (λ (x : Content). x i) (mended_same file at n old c) ∙ within_in at n (old file) (c file) i inner.0 inner.1
  ]
    where
      places : (i : ℕ) → ((i < at ⊎ at + n ≤ i) ⊎ (at ≤ i × i < at + n))
      places i = grind arith

  beside : (i : ℕ) → IsOutside before_ranges (other_than file) i → before (other_than file) i ≡ old (other_than file) i
  unfolding before
  beside i out =
      ap (λ (x : Content). x i) (mended_other file at n old c) ∙ left (other_than file) i (more (other_than file) i out (λ e. absurd (other_not file e))) ∙ torn.other i

  left_before : LeavesBut before_ranges old before
  left_before f i out = elim (kind_is file f) [
    | inl same ↦ subst (λ (k : FileKind). IsOutside before_ranges k i → before k i ≡ old k i) (sym same) (inside i) out
    | inr other ↦ subst (λ (k : FileKind). IsOutside before_ranges k i → before k i ≡ old k i) (sym other) (beside i) out
  ]

  torn_before : Torn file at n before c
  unfolding before
  torn_before = record {
    before = λ i low. sym (ap (λ (x : Content). x i) (mended_same file at n old c) ∙ within_out at n (old file) (c file) i (inl low));
    after = λ i high. sym (ap (λ (x : Content). x i) (mended_same file at n old c) ∙ within_out at n (old file) (c file) i (inr high));
    other = λ i. sym (ap (λ (x : Content). x i) (mended_other file at n old c));
  }

  pub leaves_torn : (d : Contents) × LeavesBut before_ranges old d × Torn file at n d c
  leaves_torn = (before, left_before, torn_before)
