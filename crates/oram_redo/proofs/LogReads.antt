-- What recovery has read of a log so far.
use Rattle.std.proofs.Common.{◌≡◌, ◌⊎◌, ⊎_elim, ℕ, zero, suc, ◌+◌, ◌^◌, ◌<◌, ◌≤◌, List, [], ◌∷◌, ◌++◌, ◌-◌, length, take, drop, refl, sym, ◌∙◌, ap, subst, arith, length-append}
use Rattle.std.proofs.lemmas.List.{append-nil, take_at, drop_at, take_rest}
use Rattle.std.proofs.lemmas.List.Elements.{All-append}
use Rattle.std.specs.Prelude.{All}
use Rattle.oram_redo.specs.Content.{Content, Agrees, Has, bytes_at}
use Rattle.oram_redo.specs.Log.{Patch, Fits, HasOddGate, IsLog, check_bytes, entry_text, entry, entries, place_and_length, put_all}
use Rattle.oram_redo.specs.FilePair.{Contents}
use Rattle.oram_redo.specs.Recovery.{IsEntryAt, IsDamagedAt, IsEndAt, IsWholeAt}
use Rattle.oram_redo.specs.declared.file_pair.FileKind.TheVariants.{Records, Log}
use Rattle.oram_redo.specs.declared.bounds.Bounds.{Bounds}
use Rattle.oram_redo.specs.declared.recovery.Entry.{Entry}
use Rattle.oram_redo.proofs.Bytes.{bytes_at-add, length-bytes_at, has_along, has_front, has_back, has_length, has-append, has_one, has_read}
use Rattle.oram_redo.proofs.Moments.{same_content}
use Rattle.oram_redo.proofs.Logs.{length-entry, length-entry_text, length-check_bytes, length-place_and_length, place_and_length_one, entries-append, entry_gate, entry_head, entry_says, entry_check, entry_read, entry_one, all_first, all_rest, follows}

-- the entries of these patches are in the log, up to this place
pub record Opens (bounds : Bounds) (done : List Patch) (log : Content) (at : ℕ) : Type 0 where
  pub stands : Has (entries done) bounds.log_start log
  pub ends : at ≡ bounds.log_start + length (entries done)
  pub each : All (Fits bounds) done

gate_of : (at a b : ℕ) (log : Content) → bytes_at 13 at log ≡ 255 ∷ place_and_length a b → log at ≡ 255
gate_of at a b log is = cc

-- what an entry says and its checksum, read in one piece
pub text_and_check : (len at : ℕ) (bytes : List ℕ) (log : Content) → bytes ≡ bytes_at (12 + len + 8) (at + 1) log
    → (take (length bytes - (12 + len)) (drop (12 + len) bytes) ≡ bytes_at 8 (at + 13 + len) log) × (take (12 + len) bytes ≡ bytes_at (12 + len) (at + 1) log)
text_and_check len at bytes log is =
    let text : List ℕ = bytes_at (12 + len) (at + 1) log in
    let long : length text ≡ 12 + len = length-bytes_at (12 + len) (at + 1) log in
    let next : at + 1 + (12 + len) ≡ at + 13 + len = omega arith in
    let both : bytes ≡ text ++ bytes_at 8 (at + 13 + len) log = is ∙ bytes_at-add (12 + len) 8 (at + 1) log ∙ ap (λ (k : ℕ). text ++ bytes_at 8 k log) next in (
      take_rest bytes (12 + len) ∙ ap (λ (l : List ℕ). drop (12 + len) l) both ∙ drop_at text (bytes_at 8 (at + 13 + len) log) (12 + len) long,
      ap (λ (l : List ℕ). take (12 + len) l) both ∙ take_at text (bytes_at 8 (at + 13 + len) log) (12 + len) long,
    )

-- an entry with this head is of a patch with its place and its length
head_parts_are : (bounds : Bounds) (log : Content) (at a b : ℕ) → bytes_at 13 at log ≡ 255 ∷ place_and_length a b → a < 2 ^ 64 → b < 2 ^ 32
    → (p : Patch) → Fits bounds p → Has (entry p) at log → (p.0 ≡ a) × (length p.1 ≡ b)
head_parts_are bounds log at a b is ha hb p fits has =
    let first : Has (255 ∷ place_and_length a b) at log = has_read 13 at log (255 ∷ place_and_length a b) (sym is) in
    let heads : place_and_length p.0 (length p.1) ≡ place_and_length a b = has_one _ _ (suc at) log
    (length-place_and_length p.0 (length p.1) ∙ sym (length-place_and_length a b)) (entry_head p at log has) (rest first) in
    place_and_length_one p.0 (length p.1) a b fits.place_fits fits.length_fits ha hb heads
  where
    rest : Has (255 ∷ place_and_length a b) at log → Has (place_and_length a b) (suc at) log
    rest h = cc

-- a checksum that isn't that of what the entry says
pub damaged_check : (bounds : Bounds) (log : Content) (at a b : ℕ) → bytes_at 13 at log ≡ 255 ∷ place_and_length a b → a < 2 ^ 64 → b < 2 ^ 32
    → (IsWholeAt log at b → ⊥) → IsDamagedAt bounds log at
damaged_check bounds log at a b is ha hb bad = record {
  no_end = λ shut low. shut (gate_of at a b log is);
  no_entry = λ p fits has room.
      let parts = head_parts_are bounds log at a b is ha hb p fits has in
      bad (whole_of p at b log parts.1 has);
}
  where
    whole_of : (p : Patch) (at b : ℕ) (log : Content) → length p.1 ≡ b → Has (entry p) at log → IsWholeAt log at b
    whole_of p at b log long has =
        let said : bytes_at (12 + b) (at + 1) log ≡ entry_text p = has_length (entry_text p) (suc at) (at + 1) (12 + b) log (omega arith) (omega (arith, length-entry_text p, long)) (entry_says p at log has) in
        let check : bytes_at 8 (at + 13 + b) log ≡ check_bytes (entry_text p) =
        has_length (check_bytes (entry_text p)) (at + 13 + length p.1) (at + 13 + b) 8 log (omega (arith, long)) (sym (length-check_bytes (entry_text p))) (entry_check p at log has) in
        check ∙ ap check_bytes (sym said)

pub damaged_head : (bounds : Bounds) (log : Content) (at a b : ℕ) → bytes_at 13 at log ≡ 255 ∷ place_and_length a b → a < 2 ^ 64 → b < 2 ^ 32
    → (bounds.log_end ≤ at + 21 + b ⊎ bounds.records_end < a + b) → IsDamagedAt bounds log at
damaged_head bounds log at a b is ha hb bad = record {
  no_end = λ shut low. shut (gate_of at a b log is);
  no_entry = λ p fits has room.
      let parts = head_parts_are bounds log at a b is ha hb p fits has in
      ⊎_elim (λ long. absurd (omega (arith, long, room, length-entry p, parts.1))) (λ far. absurd (omega (arith, far, fits.within, parts.0, parts.1))) bad;
}

module _ (bounds : Bounds) (log : Content) where
  -- the patch of an entry that was found
  abbrev pub patch_at : ℕ → Entry → Patch
  patch_at at found = (found.at, bytes_at found.len (at + 13) log)

  pub patch_stands : (at : ℕ) (found : Entry) → IsEntryAt bounds log at found → (length (patch_at at found).1 ≡ found.len) × Has (entry (patch_at at found)) at log
  patch_stands at found is = entry_read found.at found.len at (bytes_at found.len (at + 13) log) log is.head refl is.whole

  pub patch_fits : (at : ℕ) (found : Entry) → IsEntryAt bounds log at found → Fits bounds (patch_at at found)
  patch_fits at found is = record {
    within = omega (arith, is.within, (patch_stands at found is).0);
    place_fits = is.place_fits;
    length_fits = omega (arith, is.length_fits, (patch_stands at found is).0);
  }

  pub opens_more : (done : List Patch) (at : ℕ) (found : Entry) → Opens bounds done log at → IsEntryAt bounds log at found → Opens bounds (done ++ patch_at at found ∷ []) log found.next
  opens_more done at found so_far is =
      let p : Patch = patch_at at found in
      let one = patch_stands at found is in
      let last : entries (done ++ p ∷ []) ≡ entries done ++ entry p = entries-append done (p ∷ []) ∙ ap (λ (l : List ℕ). entries done ++ l) (append-nil (entry p)) in
      let both : Has (entries done ++ entry p) bounds.log_start log = has-append (entries done) (entry p) bounds.log_start log so_far.stands (has_along (entry p) at _ log so_far.ends one.1) in
      record {
        stands = subst (λ (l : List ℕ). Has l bounds.log_start log) (sym last) both;
        ends = omega (arith, is.next, so_far.ends, ap length last, length-append (entries done) (entry p), length-entry p, one.0);
        each = All-append (Fits bounds) done (p ∷ []) so_far.each (λ k d h. only p (patch_fits at found is) k d h);
      }
    where
      only : (p : Patch) → Fits bounds p → All (Fits bounds) (p ∷ [])
      only p fits zero d h = fits
      only p fits (suc k) d h = absurd (omega arith)

  -- the patches that are still to be read
  pub opens_rest : (done ps : List Patch) (at : ℕ) → Opens bounds done log at → IsLog bounds ps log → (rest : List Patch) × (ps ≡ done ++ rest)
  opens_rest done ps at so_far is = follows bounds done ps bounds.log_start log so_far.each is.each so_far.stands is.stands is.shut

  rest_log : (done rest : List Patch) (at : ℕ) → Opens bounds done log at → IsLog bounds (done ++ rest) log → Has (entries rest) at log
  rest_log done rest at so_far is =
      let whole : Has (entries done ++ entries rest) bounds.log_start log = subst (λ (l : List ℕ). Has l bounds.log_start log) (entries-append done rest) is.stands in
      has_along (entries rest) _ at log (sym so_far.ends) (has_back (entries done) (entries rest) bounds.log_start log whole)

  rest_end : (done rest : List Patch) (at : ℕ) → Opens bounds done log at → bounds.log_start + length (entries (done ++ rest)) ≡ at + length (entries rest)
  rest_end done rest at so_far = omega (arith, so_far.ends, ap length (entries-append done rest), length-append (entries done) (entries rest))

  fits_rest : (done rest : List Patch) → All (Fits bounds) (done ++ rest) → All (Fits bounds) rest
  fits_rest [] rest all = all
  fits_rest (d ∷ ds) rest all = fits_rest ds rest (all_rest (Fits bounds) d (ds ++ rest) all)

  opens_damaged_rest : (done rest : List Patch) (at : ℕ) → Opens bounds done log at → IsDamagedAt bounds log at → IsLog bounds (done ++ rest) log → ⊥
  opens_damaged_rest done [] at so_far bad is =
      let end = rest_end done [] at so_far in
      bad.no_end (λ gate. is.shut (ap log (omega (arith, end)) ∙ gate)) (omega (arith, end, is.within))
  opens_damaged_rest done (p ∷ rest) at so_far bad is =
      let end = rest_end done (p ∷ rest) at so_far in
      bad.no_entry p (all_first (Fits bounds) p rest (fits_rest done (p ∷ rest) is.each)) (has_front (entry p) (entries rest) at log (rest_log done (p ∷ rest) at so_far is))
      (omega (arith, end, is.within, length-append (entry p) (entries rest)))

  pub opens_damaged : (done ps : List Patch) (at : ℕ) → Opens bounds done log at → IsDamagedAt bounds log at → IsLog bounds ps log → ⊥
  opens_damaged done ps at so_far bad is =
      let rest = opens_rest done ps at so_far is in
      opens_damaged_rest done rest.0 at so_far bad (subst (λ (qs : List Patch). IsLog bounds qs log) rest.1 is)

  -- the entry that was found is that of the next patch
  next_rest : (done rest : List Patch) (at : ℕ) (found : Entry) → Opens bounds done log at → IsEntryAt bounds log at found → IsLog bounds (done ++ rest) log → (more : List Patch) × (rest ≡ patch_at at found ∷ more)
  next_rest done [] at found so_far one is =
      let end = rest_end done [] at so_far in
      absurd (is.shut (ap log (omega (arith, end)) ∙ gate_of at found.at found.len log one.head))
  next_rest done (p ∷ rest) at found so_far one is =
      let same : p ≡ patch_at at found = entry_one bounds p (patch_at at found) at log (all_first (Fits bounds) p rest (fits_rest done (p ∷ rest) is.each)) (patch_fits at found one)
      (has_front (entry p) (entries rest) at log (rest_log done (p ∷ rest) at so_far is)) (patch_stands at found one).1 in
      (rest, (λ i. same i ∷ rest))

  pub next_patch : (done ps : List Patch) (at : ℕ) (found : Entry) → Opens bounds done log at → IsEntryAt bounds log at found → IsLog bounds ps log → (more : List Patch) × (ps ≡ done ++ patch_at at found ∷ more)
  next_patch done ps at found so_far one is =
      let rest = opens_rest done ps at so_far is in
      let next = next_rest done rest.0 at found so_far one (subst (λ (qs : List Patch). IsLog bounds qs log) rest.1 is) in
      (next.0, rest.1 ∙ ap (λ (qs : List Patch). done ++ qs) next.1)

  -- at the end, all have been read
  end_rest : (done rest : List Patch) (at : ℕ) → Opens bounds done log at → IsEndAt bounds log at → IsLog bounds (done ++ rest) log → rest ≡ []
  end_rest done [] at so_far end is = refl
  end_rest done (p ∷ rest) at so_far end is = absurd (end.shut (entry_gate p at log (has_front (entry p) (entries rest) at log (rest_log done (p ∷ rest) at so_far is))))

  pub all_read : (done ps : List Patch) (at : ℕ) → Opens bounds done log at → IsEndAt bounds log at → IsLog bounds ps log → ps ≡ done
  all_read done ps at so_far end is =
      let rest = opens_rest done ps at so_far is in
      rest.1 ∙ ap (λ (qs : List Patch). done ++ qs) (end_rest done rest.0 at so_far end (subst (λ (qs : List Patch). IsLog bounds qs log) rest.1 is)) ∙ append-nil done

-- the same for a log that agrees
pub entry_along : (bounds : Bounds) (log other : Content) (at : ℕ) (found : Entry) → Agrees other log → IsEntryAt bounds other at found → IsEntryAt bounds log at found
entry_along bounds log other at found same is = subst (λ (l : Content). IsEntryAt bounds l at found) (same_content other log same) is

pub damaged_along : (bounds : Bounds) (log other : Content) (at : ℕ) → Agrees other log → IsDamagedAt bounds other at → IsDamagedAt bounds log at
damaged_along bounds log other at same is = subst (λ (l : Content). IsDamagedAt bounds l at) (same_content other log same) is

pub whole_along : (log other : Content) (at len : ℕ) → Agrees other log → IsWholeAt other at len → IsWholeAt log at len
whole_along log other at len same is = subst (λ (l : Content). IsWholeAt l at len) (same_content other log same) is

pub odd_along : (bounds : Bounds) (log other : Content) → Agrees other log → HasOddGate bounds other → HasOddGate bounds log
odd_along bounds log other same is = subst (λ (l : Content). HasOddGate bounds l) (same_content other log same) is

pub end_along : (bounds : Bounds) (log other : Content) (at : ℕ) → Agrees other log → IsEndAt bounds other at → IsEndAt bounds log at
end_along bounds log other at same is = subst (λ (l : Content). IsEndAt bounds l at) (same_content other log same) is

-- The patches that have been read are in their places.
pub record Replayed (bounds : Bounds) (old new : Contents) (at : ℕ) : Type 0 where
  pub done : List Patch
  pub opens : Opens bounds done (old Log) at
  pub records : Agrees (new Records) (put_all done (old Records))
