-- One step of a replay: the next entry is found and read, and its patch is written.
use Rattle.std.proofs.Common.{◌≡◌, ◌⊎◌, ℕ, ◌+◌, ◌<◌, ◌≤◌, List, [], ◌∷◌, ◌++◌, length, sym, ◌∙◌, ap, subst}
use Rattle.oram_redo.specs.Content.{Content, Agrees, put, bytes_at}
use Rattle.oram_redo.specs.FilePair.{Contents, FileModel, Follows, LeavesOnly, Same, TimeGoesOn, Torn, WritesNothing, Wrote}
use Rattle.oram_redo.specs.Log.{Patch, IsLog, Spares, Smeared, put_all}
use Rattle.oram_redo.specs.Recovery.{IsEntryAt}
use Rattle.oram_redo.specs.Steps.{Smears}
use Rattle.oram_redo.specs.declared.bounds.Bounds.{Bounds}
use Rattle.oram_redo.specs.declared.recovery.Entry.{Entry}
use Rattle.oram_redo.specs.declared.file_pair.FileKind.TheVariants.{Records, Log}
use Rattle.oram_redo.proofs.Heal.{put_heals, put_all-append, spares-append}
use Rattle.oram_redo.proofs.Moments.{same_content, goes_on, then_leaves}
use Rattle.oram_redo.proofs.LogReads.{Replayed, patch_at, next_patch, opens_more, entry_along}
use Rattle.oram_redo.proofs.Smears.{smears_more}

module _ (bounds : Bounds) (seen0 seen1 : Contents) (at : ℕ) (found : Entry) (bytes : List ℕ) (log_same : Agrees (seen1 Log) (seen0 Log)) (so_far : Replayed bounds seen0 seen1 at)
    (is : IsEntryAt bounds (seen1 Log) at found) (seen2 : Contents) (same2 : Same seen2 seen1) (read : bytes ≡ bytes_at found.len (at + 13) (seen2 Log)) where
  is_entry : IsEntryAt bounds (seen0 Log) at found
  is_entry = entry_along bounds (seen0 Log) (seen1 Log) at found log_same is

  bytes_are : bytes ≡ (patch_at bounds (seen0 Log) at found).1
  bytes_are = read ∙ ap (λ (l : Content). bytes_at found.len (at + 13) l) (same_content (seen2 Log) (seen0 Log) (λ i. same2 Log i ∙ log_same i))

  pub spared : (ps : List Patch) → IsLog bounds ps (seen0 Log) → (i : ℕ) → Spares ps i → (i < found.at ⊎ found.at + length bytes ≤ i)
  spared ps log i spares =
      let next = next_patch bounds (seen0 Log) so_far.done ps at found so_far.opens is_entry log in
      let both = spares-append so_far.done (patch_at bounds (seen0 Log) at found ∷ next.0) i (subst (λ (qs : List Patch). Spares qs i) next.1 spares) in
      subst (λ (bs : List ℕ). (i < found.at ⊎ found.at + length bs ≤ i)) (sym bytes_are) both.1.0

  pub replayed_more : (seen3 seen4 : Contents) → Same seen3 seen2 → Wrote Records found.at bytes seen3 seen4 → Replayed bounds seen0 seen4 found.next
  replayed_more seen3 seen4 same3 wrote =
      let patch : Patch = patch_at bounds (seen0 Log) at found in
      let before : (i : ℕ) → seen3 Records i ≡ put_all so_far.done (seen0 Records) i = λ i. same3 Records i ∙ same2 Records i ∙ so_far.records i in
      record {
        done = so_far.done ++ patch ∷ [];
        opens = opens_more bounds (seen0 Log) so_far.done at found so_far.opens is_entry;
        records = λ i.
            wrote.there i ∙ put_heals bytes found.at (seen3 Records) (put_all so_far.done (seen0 Records)) i (λ any. before i)
            ∙ ap (λ (bs : List ℕ). put bs found.at (put_all so_far.done (seen0 Records)) i) bytes_are
            ∙ ap (λ (c : Content). c i) (sym (put_all-append so_far.done (patch ∷ []) (seen0 Records)));
      }

module _ {D : Type 0} (model : FileModel D) (ps : List Patch) (old one two three four : D) (at n : ℕ)
    (crash : Follows (Smeared ps) (model.may_leave old) (model.may_leave one)) (found : WritesNothing model one two) (read : WritesNothing model two three)
    (torn : Follows (Torn Records at n) (model.may_leave three) (model.may_leave four)) (outside : (i : ℕ) → Spares ps i → (i < at ⊎ at + n ≤ i)) where
  pub crash_more : Follows (Smeared ps) (model.may_leave old) (model.may_leave four)
  crash_more = smears_more model ps old three four at n (λ c now. crash c (found.leaves c (read.leaves c now))) torn outside

  pub moments_read : LeavesOnly model old one (Smears ps (model.may_leave old)) → LeavesOnly model old three (Smears ps (model.may_leave old))
  moments_read so_far =
      let at_found = then_leaves model old one two (Smears ps (model.may_leave old)) (model.may_leave one) so_far found.moments crash in
      then_leaves model old two three (Smears ps (model.may_leave old)) (model.may_leave two) at_found read.moments (λ c now. crash c (found.leaves c now))

  pub moments_more : LeavesOnly model old one (Smears ps (model.may_leave old)) → TimeGoesOn model three four
      → LeavesOnly model old four (Smears ps (model.may_leave old))
  moments_more so_far time = goes_on model old three four (Smears ps (model.may_leave old)) (model.may_leave four) (moments_read so_far) time crash_more
