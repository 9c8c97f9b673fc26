-- Making and opening files.
use Rattle.std.proofs.Common.{◌≡◌, ◌⊎◌, inl, inr, ⊎_elim, ℕ, ◌≤◌, false, List, [], length, None, refl, sym, ◌∙◌, ap, subst, arith}
use Rattle.std.specs.Prelude.{replicate}
use Rattle.oram_redo.specs.Content.{Content, Agrees, Has, put}
use Rattle.oram_redo.specs.FilePair.{ComesAfter, Contents, FileModel, HasFailed, WritesNothing}
use Rattle.oram_redo.specs.Log.{HasOddGate, StandsAlike, StandsFor}
use Rattle.oram_redo.specs.Redo.{bounds_of}
use Rattle.oram_redo.specs.declared.faults.RedoError.{RedoError}
use Rattle.oram_redo.specs.declared.faults.RedoError.TheVariants as error
use Rattle.oram_redo.specs.declared.file_pair.FileKind.TheVariants.{Log, Records}
use Rattle.oram_redo.specs.declared.redo.Redo.{Redo}
use Rattle.oram_redo.proofs.Bytes.{has_same, has-put}
use Rattle.oram_redo.proofs.LawProofs.{files_stand_for_one}
use Rattle.oram_redo.proofs.Moments.{then_leaves}
use Rattle.oram_layout.specs.BucketFile.{IsBucketFile}
use Rattle.oram_pair.specs.Fronts.{front_bytes}
use Rattle.oram_layout.specs.Header.{HasTrees, letters}
use Rattle.oram_layout.specs.Records.{AreKept, records_in}
use Rattle.oram_layout.specs.Trees.{AreApart, Trees}
use Rattle.oram_layout.specs.declared.faults.LayoutFault.{LayoutFault}
use Rattle.oram_layout.specs.declared.faults.LayoutFault.TheVariants as layout
use Rattle.oram_pair.specs.declared.fronts.Identity.{Identity}
use Rattle.oram_layout.proofs.Added.{file_at_first, has_no_tree}
use Rattle.oram_layout.proofs.Contents.{content_is}
use Rattle.oram_layout.proofs.TreeEntries.{trees_one}
use Rattle.oram_store.specs.Faults.{fault_in, fault_of}
use Rattle.oram_store.specs.KeptRecords.{IsSound, StoreValue, records_of}
use Rattle.oram_store.specs.OpenOutcomes.{IsNotOpened, IsOpened, OpensAlike}
use Rattle.oram_store.specs.RecordFile.{bounds}
use Rattle.oram_store.specs.declared.faults.StoreFault.{StoreFault}
use Rattle.oram_store.specs.declared.faults.StoreFault.TheVariants as fault

-- a front that was put into an empty file
pub put_in_empty : (front : List ℕ) (empty filled : Content) → Agrees empty (λ i. 0) → Agrees filled (put front 0 empty) → Agrees filled (put front 0 (λ i. 0))
put_in_empty front empty filled zeros put_there i = put_there i ∙ ap (λ (c : Content). put front 0 c i) (content_is (λ k. 0) empty zeros)

pub front_stands : (front : List ℕ) (c : Content) → Agrees c (put front 0 (λ i. 0)) → Has front 0 c
front_stands front c same = has_same front 0 (put front 0 (λ i. 0)) c (λ i from below. same i) (has-put front 0 (λ i. 0))

pub first_file : (n : ℕ) (identity : Identity) (front : List ℕ) (c : Content) → n ≡ 256 → front ≡ front_bytes letters identity → length identity.0 ≡ 16
    → Agrees c (put front 0 (λ i. 0)) → IsBucketFile (replicate n None) c
first_file n identity front c all is whole same =
    file_at_first (replicate n None) identity c (has_no_tree n (replicate n None) all refl) whole (λ i. same i ∙ ap (λ (bytes : List ℕ). put bytes 0 (λ k. 0) i) is)

pub same_contents : (mid c : Content) (files : Contents) → StandsFor bounds [] mid files → StandsFor bounds [] c files → mid ≡ c
same_contents mid c files one two = content_is c mid (λ i. files_stand_for_one bounds [] mid c files one two i tt)

module _ {F : Type 0} (model : FileModel F) where
  pub comes_then : (old mid new : F) → ComesAfter model old mid → ComesAfter model mid new → ComesAfter model old new
  comes_then old mid new first second = record {
    honest = λ h. first.honest (second.honest h);
    failed = λ n h. second.failed n (first.failed n h);
    short = λ n h. second.short n (first.short n h);
  }

  pub failed_later : (old mid new : F) → ComesAfter model old mid → HasFailed model mid new → HasFailed model old new
  failed_later old mid new first (inl more) = inl (λ n h. more n (first.failed n h))
  failed_later old mid new first (inr more) = inr (λ n h. more n (first.short n h))

module _ {F : Type 0} (model : FileModel F) where
  -- nothing more is written
  pub opens_on : (old mid new : F) → OpensAlike model old mid → WritesNothing model mid new
      → ((t : ℕ) (c : Contents) → t ≤ model.moment mid → model.may_leave mid c → model.left_since mid t c) → OpensAlike model old new
  opens_on old mid new first nothing counts_now =
      then_leaves model old mid new (λ c. model.may_leave old c ⊎ StandsAlike bounds (model.seen old) c) (model.may_leave mid) first nothing.moments
      (λ c now. first.each c (counts_now (model.moment old) c first.later now))

  -- the redo log can't be recovered
  pub not_recovered : (e : RedoError) (old new : F) → (e ≡ error.Memory) ⊎ (e ≡ error.Failed) ⊎ (e ≡ error.Damaged)
      → ComesAfter model old new → (model.is_honest new → OpensAlike model old new)
      → (model.is_honest new → e ≡ error.Damaged → (c : Content) → StandsFor bounds [] c (model.seen old) → HasOddGate bounds (model.seen old Log)) → (e ≡ error.Failed → HasFailed model old new)
      → IsNotOpened model (fault_of e) old new
  not_recovered error.Memory old new errors after moments damaged failed =
      record { after = after; any_moment = moments; damaged = λ is. cc; log_damaged = λ is. cc; failed = λ is. cc; which = inl refl }
  not_recovered error.NoRoom old new errors after moments damaged failed = absurd (⊎_elim (λ is. cc) (λ rest. ⊎_elim (λ is. cc) (λ is. cc) rest) errors)
  not_recovered error.LogFull old new errors after moments damaged failed = absurd (⊎_elim (λ is. cc) (λ rest. ⊎_elim (λ is. cc) (λ is. cc) rest) errors)
  not_recovered error.Failed old new errors after moments damaged failed =
      record { after = after; any_moment = moments; damaged = λ is. cc; log_damaged = λ is. cc; failed = λ is. failed refl; which = inr (inl refl) }
  not_recovered error.Damaged old new errors after moments damaged failed =
      record {
        after = after;
        any_moment = moments;
        damaged = λ is. cc;
        log_damaged = λ is honest c stands. damaged honest refl c stands;
        failed = λ is. cc;
        which = inr (inr (inr refl));
      }

  -- the header can't be read
  pub not_read : (why : StoreFault) (old mid new : F) → (why ≡ fault.OutOfMemory) ⊎ (why ≡ fault.Io)
      → ComesAfter model old mid → ComesAfter model mid new
      → (model.is_honest new → OpensAlike model old new) → (why ≡ fault.Io → HasFailed model mid new)
      → IsNotOpened model why old new
  not_read why old mid new which first second moments failed = record {
    after = comes_then model old mid new first second;
    any_moment = moments;
    damaged = λ is. absurd (⊎_elim (λ memory. cc) (λ io. cc) which);
    log_damaged = λ is. absurd (⊎_elim (λ memory. cc) (λ io. cc) which);
    failed = λ is. failed_later model old mid new first (failed is);
    which = ⊎_elim (λ memory. inl memory) (λ io. inr (inl io)) which;
  }

  -- its entries aren't those of trees
  pub not_trees : (e : LayoutFault) (bytes : List ℕ) (old mid new : F) → ComesAfter model old mid → ComesAfter model mid new
      → (model.is_honest new → OpensAlike model old new)
      → (model.is_honest mid → StandsFor bounds [] (model.seen mid Records) (model.seen old)) → (model.is_honest new → Has bytes 4096 (model.seen mid Records))
      → (e ≡ layout.Damaged → (trees : Trees) (c : Content) → Has bytes 4096 c → HasTrees trees c → AreApart trees → ⊥)
      → IsNotOpened model (fault_in e) old new
  not_trees layout.OutOfMemory bytes old mid new first second moments stood has damaged =
      record { after = comes_then model old mid new first second; any_moment = moments; damaged = λ is. cc; log_damaged = λ is. cc; failed = λ is. cc; which = inl refl }
  not_trees layout.Damaged bytes old mid new first second moments stood has damaged = record {
    after = comes_then model old mid new first second;
    any_moment = moments;
    damaged = λ is honest trees c stands file.
        let same = same_contents (model.seen mid Records) c (model.seen old) (stood (second.honest honest)) stands in
        damaged refl trees (model.seen mid Records) (has honest) (subst (λ (d : Content). HasTrees trees d) (sym same) file.trees_stand) file.apart;
    log_damaged = λ is. cc;
    failed = λ is. cc;
    which = inr (inr (inl refl));
  }

  -- a store over files that were opened
  abbrev pub fresh : F → Redo → Trees → StoreValue F
  fresh files redo trees = record { file = record { files = files; redo = redo; is_loose = false; has_stopped = false }; trees = trees; pending = []; failure = None }

  pub fresh_found : (redo : Redo) (opened : Trees) (old new : F) → IsOpened model redo opened old new → bounds_of redo ≡ bounds
      → (trees : Trees) (c : Content) → StandsFor bounds [] c (model.seen old) → IsBucketFile trees c
      → (opened ≡ trees) × IsSound model (fresh new redo opened) × AreKept (records_in trees c) (records_of model (fresh new redo opened))
  fresh_found redo opened old new is bounded trees c stands file =
      let same : model.seen new Records ≡ c = same_contents (model.seen new Records) c (model.seen old) is.stands stands in
      let has : HasTrees opened c = subst (λ (d : Content). HasTrees opened d) same is.trees_stand in
      let one : opened ≡ trees = trees_one opened trees c has file.trees_stand in
      let file_now : IsBucketFile opened (model.seen new Records) = subst (λ (ts : Trees). IsBucketFile ts (model.seen new Records)) (sym one) (subst (λ (d : Content). IsBucketFile trees d) (sym same) file) in (
        one,
        record {
          file = record {
            loose = [];
            steady = record { bounded = bounded; consistent = is.consistent; sure = λ none. is.consistent };
            off = λ k d h. absurd (omega arith);
            file = file_now;
          };
          cells = λ k d h. absurd (omega arith);
        },
        λ tree node. ap (λ (ts : Trees). records_in ts (model.seen new Records) tree node) one ∙ ap (λ (d : Content). records_in trees d tree node) same,
      )
