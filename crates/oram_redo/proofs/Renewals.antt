-- A copy of a log takes its place.
use Rattle.std.proofs.Common.{◌≡◌, ◌⊎◌, inl, inr, ℕ, zero, suc, ◌+◌, ◌<◌, ◌≤◌, Bool, true, false, List, [], ◌∷◌, ◌++◌, length, take, refl, sym, ◌∙◌, ap, subst, arith}
use Rattle.std.proofs.Math.Nat.{eq-or-lt_of_le}
use Rattle.std.proofs.lemmas.Bool.{cases_lt}
use Rattle.std.proofs.lemmas.Bool.Decides.{nat_tests}
use Rattle.std.proofs.lemmas.List.{length-take, take-append-le}
use Rattle.oram_redo.specs.Content.{Content, bytes_at, put}
use Rattle.oram_redo.specs.Log.{IsLog, Patch, entry, entries}
use Rattle.oram_redo.specs.Memory.{byte_of}
use Rattle.oram_redo.specs.NamedLog.{HasOnlyRead, AreDone, HasRead, IsLeft, IsOnDisk, IsUnnamed, MayBeCopy, MayBeFound, copied}
use Rattle.oram_redo.specs.Note.{Call}
use Rattle.oram_redo.specs.Opened.{Opened}
use Rattle.oram_redo.specs.Renewal.{AgreesBelow, AtEachMoment, BothSyncsAreNeeded, HasEntriesOf, IsAsBefore, IsCopy, IsEnough, IsRenewed, KeepsEntries, NeverLosesEntries, RenewalExample, RenewedFilesStand, call, is_copied, is_renamed, is_renewed, short_log}
use Rattle.oram_redo.specs.System.{EndsAt}
use Rattle.oram_redo.specs.declared.bounds.Bounds.{Bounds}
use Rattle.oram_redo.specs.declared.file_pair.FileKind.TheVariants.{Log, Records}
use Rattle.oram_redo.proofs.Bytes.{has_front, put_outside}
use Rattle.oram_redo.proofs.Heal.{put_all_heals}
use Rattle.oram_redo.proofs.Logs.{entry_gate, log_kept, log_none}

-- A log whose first gate is shut has no entries.
shut_none : (bounds : Bounds) (ps : List Patch) (log : Content) → log bounds.log_start ≡ 15 → IsLog bounds ps log → ps ≡ []
shut_none bounds [] log gate is = refl
shut_none bounds (p ∷ ps) log gate is =
    let opened : log bounds.log_start ≡ 255 = entry_gate p bounds.log_start log (has_front (entry p) (entries ps) bounds.log_start log is.stands) in
    absurd (omega (arith, opened, gate))

shut_log : (bounds : Bounds) (log copy : Content) → bounds.log_start < bounds.log_end → log bounds.log_start ≡ 15 → copy bounds.log_start ≡ 15 → (ps : List Patch) → IsLog bounds ps log → IsLog bounds ps copy
shut_log bounds log copy room gate same ps is =
    subst (λ (qs : List Patch). IsLog bounds qs copy) (sym (shut_none bounds ps log gate is)) (log_none bounds copy room (λ opened. omega (arith, opened, same)))

-- a copy of enough bytes has the entries
pub has_entries : (bounds : Bounds) (log copy : Content) (end : ℕ) → bounds.log_start < bounds.log_end → IsEnough bounds log end → AgreesBelow end log copy → HasEntriesOf bounds log copy
has_entries bounds log copy end room (inl all) same = record {
  front = λ i low. same i (omega (arith, all, low, room));
  each = λ ps. (
    (λ is. log_kept bounds ps log copy is (λ i low. same i (omega (arith, all, low, is.within)))),
    (λ is. log_kept bounds ps copy log is (λ i low. sym (same i (omega (arith, all, low, is.within))))),
  );
  gate = λ ps is. same (bounds.log_start + length (entries ps)) (omega (arith, all, is.within));
}
has_entries bounds log copy end room (inr shut) same =
    let gate : copy bounds.log_start ≡ 15 = same bounds.log_start (omega (arith, shut.0)) ∙ shut.1 in
    record {
      front = λ i low. same i (omega (arith, shut.0, low));
      each = λ ps. (shut_log bounds log copy room shut.1 gate ps, shut_log bounds copy log room gate shut.1 ps);
      gate = λ ps is.
          subst (λ (qs : List Patch). copy (bounds.log_start + length (entries qs)) ≡ log (bounds.log_start + length (entries qs))) (sym (shut_none bounds ps log shut.1 is))
          (same (bounds.log_start + 0) (omega (arith, shut.0)));
    }

-- a log with the same bytes has the entries, too
has_entries_along : (bounds : Bounds) (log copy c : Content) (end : ℕ) → bounds.log_start < bounds.log_end → IsEnough bounds log end → AgreesBelow end log copy → ((i : ℕ) → c i ≡ copy i) → HasEntriesOf bounds log c
has_entries_along bounds log copy c end room enough same agrees = has_entries bounds log c end room enough (λ i low. agrees i ∙ same i low)

unnamed_copy : (calls : List Call) → IsUnnamed calls → MayBeCopy calls → ⊥
unnamed_copy [] unnamed may = may
unnamed_copy (call ∷ calls) unnamed (inl renames) = unnamed.0 renames
unnamed_copy (call ∷ calls) unnamed (inr may) = unnamed_copy calls unnamed.1 may

-- before the copy is renamed, the name is the log's
pub unnamed_left : (calls : List Call) → IsUnnamed calls → IsAsBefore calls
unnamed_left calls unnamed held c (inl found) = found.1
unnamed_left calls unnamed held c (inr found) = absurd (unnamed_copy calls unnamed found.0)

unnamed_moments : (bounds : Bounds) (held : Opened) (calls : List Call) → IsUnnamed calls → AtEachMoment (KeepsEntries bounds held) calls
unnamed_moments bounds held [] unnamed = λ c found. inl (unnamed_left [] unnamed held c found)
unnamed_moments bounds held (call ∷ calls) unnamed =
    ((λ c found. inl (unnamed_left (call ∷ calls) unnamed held c found)), unnamed_moments bounds held calls unnamed.1)

pub unnamed_never : (bounds : Bounds) (calls : List Call) → IsUnnamed calls → NeverLosesEntries bounds calls
unnamed_never bounds calls unnamed held read = unnamed_moments bounds held calls unnamed

-- A whole copy, which is on the disk, was renamed, or that was tried.
module _ (bounds : Bounds) (made : List Call) (room : bounds.log_start < bounds.log_end) (unnamed : IsUnnamed made) (done : AreDone made) (synced : IsOnDisk made) (copy : IsCopy bounds made) (ok : Bool) where
  abbrev pub renamed : List Call
  renamed = record { kind = 5; file = Log; at = 0; is_ok = ok; bytes = [] } ∷ made

  -- The folder is synced then, or that fails.
  abbrev pub in_folder : Bool → List Call
  in_folder synced_folder = record { kind = 6; file = Log; at = 0; is_ok = synced_folder; bytes = [] } ∷ renamed

  module _ (held : Opened) (read : HasRead (byte_of held.log) made) (c : Content) where
    whole : ((i : ℕ) → c i ≡ copied made i) → HasEntriesOf bounds (byte_of held.log) c
    whole same =
        let parts = copy (byte_of held.log) read in
        has_entries_along bounds (byte_of held.log) (copied made) c parts.0 room parts.1 parts.2 same

    renamed_keeps : MayBeFound held renamed c → IsLeft held c ⊎ HasEntriesOf bounds (byte_of held.log) c
    renamed_keeps (inl found) = inl found.1
    renamed_keeps (inr found) = inr (whole (found.1 ((λ write. absurd (omega (arith, write))), inr synced)))

    folder_keeps : (folder : Bool) → MayBeFound held (in_folder folder) c → IsLeft held c ⊎ HasEntriesOf bounds (byte_of held.log) c
    folder_keeps folder (inl found) = inl found.1
    folder_keeps folder (inr found) = inr (whole (found.1 ((λ write. absurd (omega (arith, write))), inr ((λ write. absurd (omega (arith, write))), inr synced))))

  pub renamed_never : NeverLosesEntries bounds renamed
  renamed_never held read = (renamed_keeps held read.2, unnamed_moments bounds held made unnamed)

  pub folder_never : (folder : Bool) → NeverLosesEntries bounds (in_folder folder)
  folder_never folder held read = ((λ c. folder_keeps held read.2.2 c folder), renamed_never held read.2)

  not_false : (b : Bool) → b ≡ true → b ≡ false → ⊥
  not_false b is isnt = cc

  pub folder_renewed : ok ≡ true → IsRenewed bounds (in_folder true)
  folder_renewed was_done held read c (inl found) = absurd (not_false ok was_done ((found.0.0 refl (refl, (was_done, done))).0 refl))
  folder_renewed was_done held read c (inr found) = whole held read.2.2 c (found.1 ((λ write. absurd (omega (arith, write))), inr ((λ write. absurd (omega (arith, write))), inr synced)))

-- calls that only read
pub only_read_unnamed : (calls : List Call) → HasOnlyRead calls → IsUnnamed calls
only_read_unnamed [] only = tt
only_read_unnamed (call ∷ calls) only = ((λ renames. absurd (omega (arith, renames, only.0))), only_read_unnamed calls only.2)

pub only_read_done : (calls : List Call) → HasOnlyRead calls → AreDone calls
only_read_done [] only = tt
only_read_done (call ∷ calls) only = (only.1, only_read_done calls only.2)

pub only_read_blank : (calls : List Call) (i : ℕ) → HasOnlyRead calls → copied calls i ≡ 0
only_read_blank [] i only = refl
only_read_blank (call ∷ calls) i only =
    let rest = only_read_blank calls i only.2 in
    let is = only.0 in
    grind (arith, nat_tests)

-- what is put where it was read
put_read : (n at i : ℕ) (log c : Content) → at ≤ i → i < at + n → put (bytes_at n at log) at c i ≡ log i
put_read zero at i log c low high = absurd (omega (arith, low, high))
put_read (suc n) at i log c low high = elim (eq-or-lt_of_le low) [
  | inl here ↦ first here
  | inr past ↦ later past (put_read n (suc at) i log c (omega (arith, past)) (omega (arith, high)))
]
  where
    first : at ≡ i → put (bytes_at (suc n) at log) at c i ≡ log i
    first here = grind (arith, nat_tests)

    later : at < i → put (bytes_at n (suc at) log) (suc at) c i ≡ log i → put (bytes_at (suc n) at log) at c i ≡ log i
    later past rest = grind (arith, nat_tests)

take_read : (n m at : ℕ) (log : Content) → n ≤ m → take n (bytes_at m at log) ≡ bytes_at n at log
take_read zero m at log low = refl
take_read (suc n) zero at log low = absurd (omega (arith, low))
take_read (suc n) (suc m) at log low = ap (λ (l : List ℕ). log at ∷ l) (take_read n m (suc at) log (omega (arith, low)))

-- One more piece is read, and the system takes n bytes of it.
module _ (mid : List Call) (at n : ℕ) (given : List ℕ) (less : n ≤ length given) where
  abbrev pub was_read : List Call
  was_read = record { kind = 2; file = Log; at = at; is_ok = true; bytes = given } ∷ mid

  abbrev pub was_written : List Call
  was_written = record { kind = 1; file = Log; at = at; is_ok = true; bytes = take n given } ∷ was_read

  pub written_is : (read later : List Call) (wrote : List ℕ) → wrote ≡ given → read ≡ was_read → later ≡ record { kind = 1; file = Log; at = at; is_ok = true; bytes = take n wrote } ∷ read → later ≡ was_written
  written_is read later wrote same is_read is =
      is ∙ ap (λ (l : List ℕ). record { kind = 1; file = Log; at = at; is_ok = true; bytes = take n l } ∷ read) same
      ∙ ap (λ (l : List Call). record { kind = 1; file = Log; at = at; is_ok = true; bytes = take n given } ∷ l) is_read

  module _ (log : Content) (read : HasRead log was_written) where
    taken : take n given ≡ bytes_at n at log
    taken = ap (take n) (read.2.0 refl refl) ∙ take_read n (length given) at log less

    pub more_below : ((i : ℕ) → i < at → copied mid i ≡ log i) → (i : ℕ) → i < at + n → copied was_written i ≡ log i
    more_below before i high = elim (cases_lt i at) [ inl below ↦ old below | inr here ↦ new here ]
      where
        old : i < at → copied was_written i ≡ log i
        old below = put_outside (take n given) at (copied was_read) i (inl below) ∙ before i below

        new : at ≤ i → copied was_written i ≡ log i
        new here = ap (λ (l : List ℕ). put l at (copied was_read) i) taken ∙ put_read n at i log (copied was_read) here high

  pub more_reads : (log : Content) → HasRead log was_written → HasRead log mid
  more_reads log read = read.2.2

  pub more_above : ((i : ℕ) → at ≤ i → copied mid i ≡ 0) → (i : ℕ) → at + n ≤ i → copied was_written i ≡ 0
  more_above before i low = put_outside (take n given) at (copied was_read) i (inr (omega (arith, low, length-take n given, less))) ∙ before i (omega (arith, low))

-- the log has ended where nothing was given
pub ended_same : (mid : List Call) (at len : ℕ) (piece : List ℕ) (log : Content) → len ≡ 0 → HasRead log (record { kind = 2; file = Log; at = at; is_ok = true; bytes = take len piece } ∷ mid)
    → ((i : ℕ) → i < at → copied mid i ≡ log i) → ((i : ℕ) → at ≤ i → copied mid i ≡ 0) → (i : ℕ) → copied mid i ≡ log i
ended_same mid at len piece log none read below above i =
    elim (cases_lt i at) [
      | inl low ↦ below i low
      | inr high ↦ above i high ∙ sym (read.1 refl refl (ap (λ (n : ℕ). take n piece) none) i high)
    ]

-- the bytes that are written: those that were read
pub written_again : (piece beside : List ℕ) (len : ℕ) → len ≤ length piece → take len (piece ++ beside) ≡ take len piece
written_again piece beside len less = take-append-le len piece beside less

-- after a call that isn't a rename
pub unnamed_then : (kind : ℕ) (ok : Bool) (calls later : List Call) → (kind ≡ 5 → ⊥) → IsUnnamed calls → later ≡ record { kind = kind; file = Log; at = 0; is_ok = ok; bytes = [] } ∷ calls → IsUnnamed later
unnamed_then kind ok calls later other unnamed is = subst IsUnnamed (sym is) (other, unnamed)

-- a copy that is synced then
pub synced_copy : (bounds : Bounds) (calls later : List Call) → later ≡ record { kind = 3; file = Log; at = 0; is_ok = true; bytes = [] } ∷ calls
    → ((log : Content) → HasRead log calls → (end : ℕ) × IsEnough bounds log end × AgreesBelow end log (copied calls)) → IsCopy bounds later
synced_copy bounds calls later is copy = subst (λ (l : List Call). IsCopy bounds l) (sym is) (λ log read. copy log read.2)

-- files stand for the same records with a renewed log
pub renewed_stand : RenewedFilesStand
renewed_stand bounds loose records old new has same stands = record {
  patches = stands.patches;
  log = (has.each stands.patches).0 stands.log;
  gives = λ i spared. put_all_heals stands.patches (new Records) (old Records) i (λ any. same i) ∙ stands.gives i spared;
}

-- the example's calls
ends_behind : (at : ℕ) → 1 ≤ at → EndsAt (byte_of short_log.log) at
ends_behind at low zero past = absurd (omega (arith, low, past))
ends_behind at low (suc i) past = refl

reads_copied : HasRead (byte_of short_log.log) is_copied
reads_copied = (
  (λ is ok. refl),
  (λ is ok none. ends_behind 1 (omega arith)),
  (
    (λ is. absurd (omega (arith, is))),
    (λ is. absurd (omega (arith, is))),
    ((λ is ok. refl), (λ is ok none. absurd (omega (arith, ap length none))), ((λ is ok. refl), (λ is ok none. ends_behind 4096 (omega arith)), tt)),
  ),
)

-- after one more call that isn't a read
reads_on : (kind : ℕ) (calls : List Call) → (kind ≡ 2 → ⊥) → HasRead (byte_of short_log.log) calls → HasRead (byte_of short_log.log) (call kind 0 [] ∷ calls)
reads_on kind calls other read = ((λ is. absurd (other is)), (λ is. absurd (other is)), read)

reads_renamed : HasRead (byte_of short_log.log) is_renamed
reads_renamed = reads_on 5 (call 3 0 [] ∷ is_copied) (λ is. omega (arith, is)) (reads_on 3 is_copied (λ is. omega (arith, is)) reads_copied)

reads_renewed : HasRead (byte_of short_log.log) is_renewed
reads_renewed = reads_on 6 is_renamed (λ is. omega (arith, is)) reads_renamed

-- a log with another byte, which the example's log leaves since no sync has covered it
other_log : Content
other_log = byte_of (8 ∷ [])

other_left : IsLeft short_log other_log
unfolding other_log
other_left zero outside = elim (outside.0 refl) [ inl low ↦ absurd (omega (arith, low)) | inr high ↦ absurd (omega (arith, high)) ]
other_left (suc i) outside = refl

other_found : MayBeFound short_log is_renamed other_log
other_found = inl (
  (
    (λ is. absurd (omega (arith, is))),
    (
      (λ is. absurd (omega (arith, is))),
      ((λ is. absurd (omega (arith, is))), ((λ is. absurd (omega (arith, is))), ((λ is. absurd (omega (arith, is))), ((λ is. absurd (omega (arith, is))), tt)))),
    ),
  ),
  other_left,
)

same_copied : (i : ℕ) → byte_of short_log.log i ≡ copied is_copied i
same_copied zero = refl
same_copied (suc i) = sym (put_outside (7 ∷ []) 0 (λ k. 0) (suc i) (inr (omega arith)))

pub renewal_example : RenewalExample
unfolding other_log
renewal_example = (reads_renewed, other_found, inr (inl refl, λ disk. same_copied), inr (inr (inl refl), λ disk. same_copied))

never_synced : IsOnDisk is_copied → ⊥
never_synced disk = elim disk.1 [ inl synced ↦ omega (arith, synced.0) | inr before ↦ before.0 refl ]

unsynced_on : (kind : ℕ) (calls : List Call) → (kind ≡ 3 → ⊥) → (IsOnDisk calls → ⊥) → IsOnDisk (call kind 0 [] ∷ calls) → ⊥
unsynced_on kind calls other before disk = elim disk.1 [ inl synced ↦ other synced.0 | inr old ↦ before old ]

-- a log with the other byte doesn't have the entries
not_other : (bounds : Bounds) → 0 < bounds.log_start → HasEntriesOf bounds (byte_of short_log.log) other_log → ⊥
unfolding other_log
not_other bounds room has = omega (arith, has.front 0 room)

synced_log : Opened
synced_log = record { records = []; log = 7 ∷ []; unsynced = [] }

copy_is_lost : (bounds : Bounds) → 0 < bounds.log_start → NeverLosesEntries bounds (call 6 0 [] ∷ call 5 0 [] ∷ is_copied) → ⊥
unfolding synced_log other_log
copy_is_lost bounds room never =
    let read : HasRead (byte_of short_log.log) (call 6 0 [] ∷ call 5 0 [] ∷ is_copied) = reads_on 6 (call 5 0 [] ∷ is_copied) (λ is. omega (arith, is)) (reads_on 5 is_copied (λ is. omega (arith, is)) reads_copied) in
    let lost = (never synced_log read).0 other_log (inr (inr (inl refl), λ disk. absurd (unsynced_on 6 (call 5 0 [] ∷ is_copied) (λ is. omega (arith, is)) (unsynced_on 5 is_copied (λ is. omega (arith, is)) never_synced) disk))) in
    elim lost [ inl left ↦ omega (arith, left 0 tt) | inr has ↦ not_other bounds room has ]

pub both_syncs_are_needed : BothSyncsAreNeeded
both_syncs_are_needed bounds room = (copy_is_lost bounds room, λ renewed. not_other bounds room (renewed short_log reads_renamed other_log other_found))
