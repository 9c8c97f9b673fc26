-- The files of a text, once they are opened, or when they couldn't be.
use Rattle.std.proofs.Common.{◌≡◌, ◌⊎◌, inl, inr, ⊎_elim, ℕ, ◌≤◌, [], sym, ap, subst}
use Rattle.oram_kept.specs.Kept.{Finds, Keeps, KeptValue, bounds}
use Rattle.oram_kept.specs.Layout.{Holds}
use Rattle.oram_kept.specs.Opening.{FindsSame, IsNotOpened}
use Rattle.oram_kept.specs.Text.{Parts}
use Rattle.oram_kept.specs.declared.opening.OpenError.{OpenError}
use Rattle.oram_kept.specs.declared.opening.OpenError.TheVariants as opening
use Rattle.oram_redo.specs.Content.{Agrees, Content}
use Rattle.oram_redo.specs.FilePair.{ComesAfter, Contents, FileModel, HasFailed, LeavesOnly, WritesNothing}
use Rattle.oram_redo.specs.Log.{HasOddGate, Keeps as LogKeeps, StandsAlike, StandsFor}
use Rattle.oram_redo.specs.Redo.{IsCrashConsistent, bounds_of}
use Rattle.oram_redo.specs.declared.bounds.Bounds.{Bounds}
use Rattle.oram_redo.specs.declared.redo.Redo.{Redo}
use Rattle.oram_redo.specs.declared.faults.RedoError.{RedoError}
use Rattle.oram_redo.specs.declared.faults.RedoError.TheVariants as error
use Rattle.oram_redo.specs.declared.file_pair.FileKind.TheVariants.{Log, Records}
use Rattle.oram_redo.proofs.LawProofs.{files_stand_for_one}
use Rattle.oram_redo.proofs.Moments.{leads_to, same_content, then_leaves}

-- files stand for one content
same_records : (r s : Content) (files : Contents) → StandsFor bounds [] r files → StandsFor bounds [] s files → r ≡ s
same_records r s files first second = same_content r s (λ i. files_stand_for_one bounds [] r s files first second i tt)

-- the text that is found is in the records that the files stand for
pub found_is_held : (p : Parts) (r : Content) (files : Contents) → StandsFor bounds [] r files → Finds bounds p files → Holds p r
found_is_held p r files stands finds = subst (λ (s : Content). Holds p s) (same_records finds.records r files finds.stands stands) finds.holds

-- files that stand for the same records have the same text
one_text_in : (r : Content) (old new : Contents) → StandsFor bounds [] r old → StandsFor bounds [] r new → FindsSame old new
one_text_in r old new was is p finds = record { records = r; stands = is; holds = found_is_held p r old was finds }

pub alike_finds : (old new : Contents) → StandsAlike bounds old new → FindsSame old new
alike_finds old new alike = one_text_in alike.records old new alike.was alike.is

module _ {F : Type 0} (model : FileModel F) where
  pub text_stays : (old new : F) → LeavesOnly model old new (λ c. model.may_leave old c ⊎ StandsAlike bounds (model.seen old) c)
      → LeavesOnly model old new (λ c. model.may_leave old c ⊎ FindsSame (model.seen old) c)
  text_stays old new moments =
      leads_to model old new _ (λ c. model.may_leave old c ⊎ FindsSame (model.seen old) c) moments
      (λ c either. ⊎_elim (λ before. inl before) (λ alike. inr (alike_finds (model.seen old) c alike)) either)

  -- nothing more is written
  pub opens_on : (old mid new : F) → LeavesOnly model old mid (λ c. model.may_leave old c ⊎ StandsAlike bounds (model.seen old) c) → WritesNothing model mid new
      → ((t : ℕ) (c : Contents) → t ≤ model.moment mid → model.may_leave mid c → model.left_since mid t c)
      → LeavesOnly model old new (λ c. model.may_leave old c ⊎ FindsSame (model.seen old) c)
  opens_on old mid new first nothing counts_now =
      text_stays old new (then_leaves model old mid new (λ c. model.may_leave old c ⊎ StandsAlike bounds (model.seen old) c) (model.may_leave mid) first nothing.moments
      (λ c now. first.each c (counts_now (model.moment old) c first.later now)))

  -- the text that was read is kept
  pub keeps_on : (p : Parts) (mid : F) (k : KeptValue F) → IsCrashConsistent model k.redo [] mid → ((loose : _) → IsCrashConsistent model k.redo loose mid → IsCrashConsistent model k.redo loose k.files)
      → WritesNothing model mid k.files → Holds p (model.seen mid Records) → k.table ≡ p.table → k.records ≡ p.records → bounds_of k.redo ≡ bounds → Keeps model p k
  keeps_on p mid k sure goes_on nothing holds table records bounded = record {
    consistent = goes_on [] sure;
    holds = subst (λ (c : Content). Holds p c) (sym (same_content (model.seen k.files Records) (model.seen mid Records) (nothing.seen_same Records))) holds;
    table = table;
    records = records;
    bounded = bounded;
  }

  -- the log is emptied after that
  pub emptied_on : (redo : Redo) (old mid new : F) → LeavesOnly model old mid (λ c. model.may_leave old c ⊎ FindsSame (model.seen old) c) → StandsFor bounds [] (model.seen mid Records) (model.seen old)
      → bounds_of redo ≡ bounds → LeavesOnly model mid new (LogKeeps (bounds_of redo) [] (model.seen mid)) → LeavesOnly model old new (λ c. model.may_leave old c ⊎ FindsSame (model.seen old) c)
  emptied_on redo old mid new first stands bounded second =
      then_leaves model old mid new (λ c. model.may_leave old c ⊎ FindsSame (model.seen old) c) _ first second
      (λ c keeps. inr (one_text_in (model.seen mid Records) (model.seen old) c stands (subst (λ (b : Bounds). StandsFor b [] (model.seen mid Records) c) bounded keeps.stands)))

  pub keeps_emptied : (p : Parts) (mid : F) (k : KeptValue F) → IsCrashConsistent model k.redo [] k.files → Agrees (model.seen k.files Records) (model.seen mid Records) → Holds p (model.seen mid Records)
      → k.table ≡ p.table → k.records ≡ p.records → bounds_of k.redo ≡ bounds → Keeps model p k
  keeps_emptied p mid k sure same holds table records bounded = record {
    consistent = sure;
    holds = subst (λ (c : Content). Holds p c) (sym (same_content (model.seen k.files Records) (model.seen mid Records) same)) holds;
    table = table;
    records = records;
    bounded = bounded;
  }

  pub comes_then : (old mid new : F) → ComesAfter model old mid → ComesAfter model mid new → ComesAfter model old new
  comes_then old mid new first second = record {
    honest = λ h. first.honest (second.honest h);
    failed = λ n h. second.failed n (first.failed n h);
    short = λ n h. second.short n (first.short n h);
  }

  pub failed_later : (old mid new : F) → ComesAfter model old mid → HasFailed model mid new → HasFailed model old new
  failed_later old mid new first (inl more) = inl (λ n h. more n (first.failed n h))
  failed_later old mid new first (inr more) = inr (λ n h. more n (first.short n h))

  -- the redo log can't be recovered
  pub not_recovered : (e : RedoError) (old new : F) → (e ≡ error.Memory) ⊎ (e ≡ error.Failed) ⊎ (e ≡ error.Damaged)
      → ComesAfter model old new → (model.is_honest new → LeavesOnly model old new (λ c. model.may_leave old c ⊎ StandsAlike bounds (model.seen old) c))
      → (model.is_honest new → e ≡ error.Damaged → (c : Content) → StandsFor bounds [] c (model.seen old) → HasOddGate bounds (model.seen old Log)) → (e ≡ error.Failed → HasFailed model old new)
      → IsNotOpened model (opening.Files e) old new
  not_recovered e old new errors after moments damaged failed = record {
    after = after;
    any_moment = λ honest. text_stays old new (moments honest);
    none = λ is. cc;
    damaged = λ is honest p finds. damaged honest (cc is) finds.records finds.stands;
    failed = λ is. failed (cc is);
    which = ⊎_elim (λ memory. inl (ap opening.Files memory)) (λ rest. ⊎_elim (λ is. inr (inl (ap opening.Files is))) (λ is. inr (inr (inl (ap opening.Files is)))) rest) errors;
  }

  -- no text is read
  pub not_read : (why : OpenError) (old mid new : F) → (why ≡ opening.Files error.Memory) ⊎ (why ≡ opening.Files error.Failed) ⊎ (why ≡ opening.NoText)
      → ComesAfter model old mid → ComesAfter model mid new → (model.is_honest new → LeavesOnly model old new (λ c. model.may_leave old c ⊎ FindsSame (model.seen old) c))
      → (model.is_honest mid → StandsFor bounds [] (model.seen mid Records) (model.seen old))
      → (why ≡ opening.NoText → model.is_honest new → (p : Parts) → Holds p (model.seen mid Records) → ⊥) → (why ≡ opening.Files error.Failed → HasFailed model mid new)
      → IsNotOpened model why old new
  not_read why old mid new which first second moments stood none failed = record {
    after = comes_then old mid new first second;
    any_moment = moments;
    none = λ is honest p finds. none is honest p (found_is_held p (model.seen mid Records) (model.seen old) (stood (second.honest honest)) finds);
    damaged = λ is. absurd (⊎_elim (λ memory. cc) (λ rest. ⊎_elim (λ io. cc) (λ other. cc) rest) which);
    failed = λ is. failed_later old mid new first (failed is);
    which = ⊎_elim (λ memory. inl memory) (λ rest. ⊎_elim (λ io. inr (inl io)) (λ other. inr (inr (inr other))) rest) which;
  }

  -- the log can't be emptied
  pub not_emptied : (e : RedoError) (old mid new : F) → e ≡ error.Failed → ComesAfter model old mid → ComesAfter model mid new → HasFailed model mid new
      → (model.is_honest new → LeavesOnly model old new (λ c. model.may_leave old c ⊎ FindsSame (model.seen old) c)) → IsNotOpened model (opening.Files e) old new
  not_emptied e old mid new is first second failed moments = record {
    after = comes_then old mid new first second;
    any_moment = moments;
    none = λ none. cc;
    damaged = λ damaged. cc;
    failed = λ so. failed_later old mid new first failed;
    which = inr (inl (ap opening.Files is));
  }
