-- A pair of the system's files fulfils the contract of a pair, by the history of its calls.
use Rattle.std.proofs.Common.{◌≡◌, inl, inr, ⊎_elim, ℕ, suc, ◌-◌, ◌≤◌, true, false, List, [], ◌∷◌, length, refl, sym, subst, arith}
use Rattle.std.specs.Prelude.{if◌then◌else◌, Bool}
use Rattle.oram_redo.specs.FilePair.{Contents, Torn, Wrote, Elapses}
use Rattle.oram_redo.specs.Memory.{IsOutside, LeavesBut}
use Rattle.oram_redo.specs.Note.{Call}
use Rattle.oram_redo.specs.Opened.{Opened}
use Rattle.oram_redo.specs.System.{put_in, is_same, ranges_of_other, MayLeaveAfter, HadLeftBefore, LeftSince}
use Rattle.oram_redo.specs.declared.file_pair.FileKind.{FileKind}
use Rattle.oram_redo.specs.declared.file_pair.FileKind.TheVariants.{Records, Log}
use Rattle.oram_redo.specs.declared.memory.Range.{Range}
use Rattle.oram_redo.proofs.TornWrites.{leaves_torn}

pub wrote_put : (file : FileKind) (at : ℕ) (bytes : List ℕ) (seen : Contents) → Wrote file at bytes seen (put_in file at bytes seen)
wrote_put Records at bytes seen = record { there = λ i. refl; other = λ i. refl }
wrote_put Log at bytes seen = record { there = λ i. refl; other = λ i. refl }

-- a write: its range joins the others
pub write_leaves : (old new : Contents) (ranges : List Range) (file : FileKind) (at n : ℕ) → Torn file at n old new → (c : Contents) → LeavesBut (record { file = file; at = at; len = n } ∷ ranges) new c
    → (d : Contents) × LeavesBut ranges old d × Torn file at n d c
write_leaves old new ranges file at n torn c left = leaves_torn old new ranges (record { file = file; at = at; len = n } ∷ ranges) file at n torn (λ f i out here. (here, out)) c left

-- a sync: no range of its file is left
differ : (file other : FileKind) → other ≡ file → is_same other file ≡ false → ⊥
differ Records Records same e = cc
differ Records Log same e = cc
differ Log Records same e = cc
differ Log Log same e = cc

none_more : (file : FileKind) (r : Range) (rs : List Range) (i : ℕ) (b : Bool) → is_same r.file file ≡ b → IsOutside (ranges_of_other file rs) file i
    → IsOutside (if b then ranges_of_other file rs else r ∷ ranges_of_other file rs) file i
none_more file r rs i true e rest = rest
none_more file r rs i false e rest = ((λ same. absurd (differ file r.file same e)), rest)

pub none_of_file : (file : FileKind) (rs : List Range) (i : ℕ) → IsOutside (ranges_of_other file rs) file i
none_of_file file [] i = tt
none_of_file file (r ∷ rs) i = none_more file r rs i (is_same r.file file) refl (none_of_file file rs i)

fewer_more : (file : FileKind) (r : Range) (rs : List Range) (f : FileKind) (i : ℕ) (b : Bool) → IsOutside (r ∷ rs) f i → IsOutside (ranges_of_other file rs) f i
    → IsOutside (if b then ranges_of_other file rs else r ∷ ranges_of_other file rs) f i
fewer_more file r rs f i true out rest = rest
fewer_more file r rs f i false out rest = (out.0, rest)

pub fewer_ranges : (file : FileKind) (rs : List Range) (f : FileKind) (i : ℕ) → IsOutside rs f i → IsOutside (ranges_of_other file rs) f i
fewer_ranges file [] f i out = tt
fewer_ranges file (r ∷ rs) f i out = fewer_more file r rs f i (is_same r.file file) out (fewer_ranges file rs f i out.1)

pub elapses_call : (first : Opened) (calls : List Call) (call : Call)
    → Elapses (length calls) (suc (length calls)) (LeftSince first calls) (LeftSince first (call ∷ calls)) (MayLeaveAfter first (call ∷ calls))
elapses_call first calls call = record {
  later = omega arith;
  nothing_else = λ t c le left. ⊎_elim (λ now. inr now) (λ had. inl (subst (λ (n : ℕ). HadLeftBefore first (call ∷ calls) n c) (steps t le) had)) left;
  keeps = λ t c le left. inr (subst (λ (n : ℕ). HadLeftBefore first (call ∷ calls) n c) (sym (steps t le)) left);
}
  where
    steps : (t : ℕ) → t ≤ length calls → suc (length calls) - t ≡ suc (length calls - t)
    steps t le = omega arith

-- no call: no time goes by
pub elapses_none : (first : Opened) (calls : List Call) → Elapses (length calls) (length calls) (LeftSince first calls) (LeftSince first calls) (MayLeaveAfter first calls)
elapses_none first calls = record { later = omega arith; nothing_else = λ t c le left. inl left; keeps = λ t c le past. past }

-- some calls and then others, if a crash between them leaves only what it may leave after them
pub elapses_then : (first : Opened) (old mid new : List Call)
    → Elapses (length old) (length mid) (LeftSince first old) (LeftSince first mid) (MayLeaveAfter first mid)
    → Elapses (length mid) (length new) (LeftSince first mid) (LeftSince first new) (MayLeaveAfter first new)
    → ((c : Contents) → MayLeaveAfter first mid c → MayLeaveAfter first new c)
    → Elapses (length old) (length new) (LeftSince first old) (LeftSince first new) (MayLeaveAfter first new)
elapses_then first old mid new one two keeps = record {
  later = omega (arith, one.later, two.later);
  nothing_else = λ t c le left. ⊎_elim (λ was. ⊎_elim (λ past. inl past) (λ between. inr (keeps c between)) (one.nothing_else t c le was)) (λ now. inr now) (two.nothing_else t c (next t le) left);
  keeps = λ t c le past. two.keeps t c (next t le) (one.keeps t c le past);
}
  where
    next : (t : ℕ) → t ≤ length old → t ≤ length mid
    next t le = omega (arith, le, one.later)
