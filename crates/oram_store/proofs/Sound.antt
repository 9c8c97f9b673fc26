-- Calls that change no record.
use Rattle.std.proofs.Common.{◌≡◌, ◌⊎◌, inl, inr, ⊎_elim, ℕ, zero, suc, ◌+◌, ◌<◌, ◌≤◌, true, false, true≢false, List, [], ◌∷◌, ◌++◌, length, refl, sym, ◌∙◌, ap, subst, arith, Result, Ok, Err}
use Rattle.std.specs.Prelude.{All, IsErr, OnErr, OnOk, ⊤}
use Rattle.std.proofs.lemmas.Bool.{cases_Bool}
use Rattle.oram_layout.specs.BucketFile.{IsBucketFile}
use Rattle.oram_layout.specs.Changes.{IsOffRecords}
use Rattle.oram_layout.specs.Records.{AreKept, Records as RecordsOf, records_in}
use Rattle.oram_layout.specs.Trees.{Trees}
use Rattle.oram_layout.proofs.Changes.{loose_kept, off_stays}
use Rattle.oram_layout.proofs.Contents.{content_is}
use Rattle.oram_redo.specs.Content.{Agrees, Content, bytes_at, put}
use Rattle.oram_redo.specs.FilePair.{Contents, FileModel}
use Rattle.oram_redo.specs.Log.{AgreesBut, Patch, put_all}
use Rattle.oram_redo.specs.Redo.{IsCrashConsistent, bounds_of}
use Rattle.oram_redo.specs.declared.file_pair.FileKind.TheVariants.{Records}
use Rattle.oram_redo.specs.declared.redo.Redo.{Redo}
use Rattle.oram_redo.proofs.Moments.{leads_to, nothing_more_written, nothing_yet_written}
use Rattle.oram_redo.proofs.Consistent.{consistent_same}
use Rattle.oram_layout.specs.Limits.{TreeShape}
use Rattle.oram_store.specs.KeptRecords.{Changes, Holds, IsSoundFile, LeavesRecords, Puts, Stores}
use Rattle.oram_store.specs.declared.faults.StoreFault.{StoreFault}
use Rattle.oram_store.specs.RecordFile.{Commits, FileValue, Finds, IsSteady, OnlyIf, Passes, ReadsOnly}
use Rattle.oram_store.proofs.Crashes.{found_leads, found_more, found_now, found_then, same_front}

pub length-bytes_at : (n at : ℕ) (c : Content) → length (bytes_at n at c) ≡ n
length-bytes_at zero at c = refl
length-bytes_at (suc n) at c = ap suc (length-bytes_at n (suc at) c)

-- a torn write has put some bytes
torn_at : (n at : ℕ) (new c : Content) (i : ℕ) → ((i < at ⊎ at + n ≤ i) → new i ≡ c i) → new i ≡ put (bytes_at n at new) at c i
torn_at zero at new c i out = out (grind arith)
torn_at (suc n) at new c i out =
    let tail = torn_at n (suc at) new c i in
    grind arith

pub torn_is_put : (p : Patch) (new c : Content) → AgreesBut (p ∷ []) new c → Agrees new (put (bytes_at (length p.1) p.0 new) p.0 c)
torn_is_put p new c but i = torn_at (length p.1) p.0 new c i (λ out. but i (out, tt))

all_first : {A : Type 0} (Q : A → Type 0) (x : A) (xs : List A) → Q x → All Q xs → All Q (x ∷ xs)
all_first Q x xs first all zero d h = first
all_first Q x xs first all (suc k) d h = all k d (omega arith)

all_front : {A : Type 0} (Q : A → Type 0) (xs ys : List A) → All Q (xs ++ ys) → All Q xs
all_front Q [] ys all k d h = absurd (omega arith)
all_front Q (x ∷ xs) ys all zero d h = all zero d (omega arith)
all_front Q (x ∷ xs) ys all (suc k) d h = all_front Q xs ys (λ j e l. all (suc j) e (omega arith)) k d (omega arith)

-- A write that touches no record, even if only part of it was done, leaves loose patches off the records.
pub off_still : (trees : Trees) (loose : List Patch) (c new : Content) (p : Patch) → IsBucketFile trees c → All (IsOffRecords trees c) loose → IsOffRecords trees c p → AgreesBut (p ∷ []) new c
    → All (IsOffRecords trees new) (p ∷ loose)
off_still trees loose c new p is off one but =
    let q : Patch = (p.0, bytes_at (length p.1) p.0 new) in
    let long : length q.1 ≡ length p.1 = length-bytes_at (length p.1) p.0 new in
    let as_put : IsOffRecords trees c q = record { number = one.number; tree = one.tree; node = one.node; is_there = one.is_there; within = one.within; behind = one.behind; ends = omega (arith, one.ends, long); unset = one.unset } in
    let last = off_stays trees [] c new q is (λ k d h. absurd (omega arith)) as_put (torn_is_put p new c but) zero q (omega arith) in
    all_first (IsOffRecords trees new) p loose
    (record { number = last.number; tree = last.tree; node = last.node; is_there = last.is_there; within = last.within; behind = last.behind; ends = omega (arith, last.ends, long); unset = last.unset })
    (all_front (IsOffRecords trees new) loose (q ∷ []) (off_stays trees loose c new q is off as_put (torn_is_put p new c but)))

pub holds_but : (trees : Trees) (loose : List Patch) (c r : Content) → IsBucketFile trees c → All (IsOffRecords trees c) loose → AgreesBut loose r c → Holds trees (records_in trees c) r
holds_but trees loose c r is off but =
    let kept = loose_kept trees loose c r is off (λ i spared. sym (but i spared)) in
    record { file = kept.is_file; kept = kept.kept }

pub holds_then : (trees : Trees) (one two : RecordsOf) (r : Content) → AreKept one two → Holds trees two r → Holds trees one r
holds_then trees one two r same holds = record { file = holds.file; kept = λ tree node. holds.kept tree node ∙ same tree node }

module _ {F : Type 0} (model : FileModel F) where
  pub steady_same : (old new : FileValue F) (loose : List Patch) → IsSteady model old loose → ReadsOnly model old new → IsSteady model new loose
  steady_same old new loose s reads = record {
    bounded = ap bounds_of reads.redo ∙ s.bounded;
    consistent = consistent loose s.consistent;
    sure = λ none. consistent [] (s.sure (sym reads.loose ∙ none));
  }
    where
      consistent : (l : List Patch) → IsCrashConsistent model old.redo l old.files → IsCrashConsistent model new.redo l new.files
      consistent l was = subst (λ (r : Redo). IsCrashConsistent model r l new.files) (sym reads.redo)
          (consistent_same old.redo l (model.seen old.files) (model.may_leave old.files) was (model.seen new.files) (model.may_leave new.files) reads.nothing.seen_same reads.nothing.leaves)

  -- what only reads, or writes into the fronts, keeps what a crash finds
  pub reads_passes : (old new : FileValue F) (loose : List Patch) → IsSteady model old loose → ReadsOnly model old new → Passes model loose (λ r. AgreesBut loose r (model.seen old.files Records)) old new
  reads_passes old new loose s reads = record {
    steady = λ running. steady_same old new loose s reads;
    moments = leads_to model old.files new.files (model.may_leave old.files) (Finds (model.seen old.files) (λ r. AgreesBut loose r (model.seen old.files Records))) reads.nothing.moments
        (λ c now. found_now model old loose c s now);
  }

  pub holds_now : (trees : Trees) (v : FileValue F) (c : Contents) → IsSoundFile model trees v → model.may_leave v.files c → Finds (model.seen v.files) (Holds trees (records_in trees (model.seen v.files Records))) c
  holds_now trees v c s now =
      found_more (model.seen v.files) c (λ r. AgreesBut s.loose r (model.seen v.files Records)) (Holds trees (records_in trees (model.seen v.files Records)))
      (λ r but. holds_but trees s.loose (model.seen v.files Records) r s.file s.off but) (found_now model v s.loose c s.steady now)

  pub reads_leave : (trees : Trees) (old new : FileValue F) → IsSoundFile model trees old → ReadsOnly model old new → LeavesRecords model trees old new
  reads_leave trees old new s reads =
      let same : model.seen new.files Records ≡ model.seen old.files Records = content_is (model.seen old.files Records) (model.seen new.files Records) (reads.nothing.seen_same Records) in
      record {
        sound = λ running. record {
          loose = s.loose;
          steady = steady_same old new s.loose s.steady reads;
          off = subst (λ (c : Content). All (IsOffRecords trees c) s.loose) (sym same) s.off;
          file = subst (λ (c : Content). IsBucketFile trees c) (sym same) s.file;
        };
        kept = λ running tree node. ap (λ (c : Content). records_in trees c tree node) same;
        moments = leads_to model old.files new.files (model.may_leave old.files) (Finds (model.seen old.files) (Holds trees (records_in trees (model.seen old.files Records)))) reads.nothing.moments
            (λ c now. holds_now trees old c s now);
      }

  pub loose_leaves : (trees : Trees) (old new : FileValue F) (p : Patch) → IsSoundFile model trees old → IsOffRecords trees (model.seen old.files Records) p
      → ((loose : List Patch) → IsSteady model old loose → Passes model (p ∷ loose) (λ r. AgreesBut (p ∷ loose) r (model.seen old.files Records)) old new)
      → AgreesBut (p ∷ []) (model.seen new.files Records) (model.seen old.files Records) → LeavesRecords model trees old new
  loose_leaves trees old new p s one passes but =
      let passed = passes s.loose s.steady in
      let all = all_first (IsOffRecords trees (model.seen old.files Records)) p s.loose one s.off in
      let holds = holds_but trees (p ∷ []) (model.seen old.files Records) (model.seen new.files Records) s.file (all_first (IsOffRecords trees (model.seen old.files Records)) p [] one (λ k d h. absurd (omega arith))) but in
      record {
        sound = λ running. record {
          loose = p ∷ s.loose;
          steady = passed.steady running;
          off = off_still trees s.loose (model.seen old.files Records) (model.seen new.files Records) p s.file s.off one but;
          file = holds.file;
        };
        kept = λ running. holds.kept;
        moments = found_leads model old.files new.files (λ r. AgreesBut (p ∷ s.loose) r (model.seen old.files Records)) (Holds trees (records_in trees (model.seen old.files Records))) passed.moments
            (λ r agrees. holds_but trees (p ∷ s.loose) (model.seen old.files Records) r s.file all agrees);
      }

  -- one more call
  pub leaves_then : (trees : Trees) (old mid new : FileValue F) → LeavesRecords model trees old mid
      → (IsSoundFile model trees mid → LeavesRecords model trees mid new) → (mid.has_stopped ≡ true → new ≡ mid)
      → ((t : ℕ) (c : Contents) → t ≤ model.moment mid.files → model.may_leave mid.files c → model.left_since mid.files t c) → model.may_leave mid.files (model.seen mid.files)
      → LeavesRecords model trees old new
  leaves_then trees old mid new first second stays counts_now whole = elim (cases_Bool mid.has_stopped) [
    | inl stopped ↦ subst (λ (v : FileValue F). LeavesRecords model trees old v) (sym (stays stopped)) first
    | inr running ↦ (
        let then = second (first.sound running) in
        record {
          sound = then.sound;
          kept = λ still tree node. then.kept still tree node ∙ first.kept running tree node;
          moments = found_then model old.files mid.files new.files (Holds trees (records_in trees (model.seen old.files Records))) (Holds trees (records_in trees (model.seen mid.files Records)))
              (Holds trees (records_in trees (model.seen old.files Records)))
              (same_front model old.files mid.files (Holds trees (records_in trees (model.seen old.files Records))) first.moments counts_now whole)
              first.moments then.moments (λ r holds. holds) (λ r holds. holds_then trees (records_in trees (model.seen old.files Records)) (records_in trees (model.seen mid.files Records)) r (first.kept running) holds);
        })
  ]

  -- nothing is called
  pub reads_nothing : (v : FileValue F) → ((c : Contents) → model.left_since v.files (model.moment v.files) c → model.may_leave v.files c) → ReadsOnly model v v
  reads_nothing v only_now = record { nothing = nothing_yet_written model v.files only_now; redo = refl; loose = refl }

  pub reads_then : (old mid new : FileValue F) → ReadsOnly model old mid → ReadsOnly model mid new → ReadsOnly model old new
  reads_then old mid new first second = record {
    nothing = nothing_more_written model old.files mid.files new.files first.nothing second.nothing;
    redo = second.redo ∙ first.redo;
    loose = second.loose ∙ first.loose;
  }

  -- patches that change the records in this way
  pub commits_change : (trees : Trees) (change : RecordsOf → RecordsOf → Type 0) (batch : List Patch) (result : Result Unit StoreFault) (old new : FileValue F) → IsSoundFile model trees old
      → Commits model batch result old new
      → ((c : Content) → Agrees c (put_all batch (model.seen old.files Records)) → IsBucketFile trees c × change (records_in trees (model.seen old.files Records)) (records_in trees c))
      → Changes model trees change result old new
  commits_change trees change batch result old new s commits makes = record {
    sound = sound result commits;
    done = done result commits;
    undone = undone result commits;
    moments = found_leads model old.files new.files (λ r. AgreesBut s.loose r (model.seen old.files Records) ⊎ OnlyIf (OnErr result (new.has_stopped ≡ true)) (Agrees r (put_all batch (model.seen old.files Records))))
        (λ c. Holds trees (records_in trees (model.seen old.files Records)) c ⊎ OnlyIf (OnErr result (new.has_stopped ≡ true)) (IsBucketFile trees c × change (records_in trees (model.seen old.files Records)) (records_in trees c)))
        (commits.moments s.loose s.steady)
        (λ r found. ⊎_elim (λ but. inl (holds_but trees s.loose (model.seen old.files Records) r s.file s.off but)) (λ made. inr (record { allowed = made.allowed; holds = makes r made.holds })) found);
  }
    where
      sound : (r : Result Unit StoreFault) → Commits model batch r old new → new.has_stopped ≡ false → IsSoundFile model trees new
      sound (Ok x) commits running = record {
        loose = [];
        steady = commits.sure s.loose s.steady running;
        off = λ k d h. absurd (omega arith);
        file = (makes (model.seen new.files Records) commits.done).0;
      }
      sound (Err e) commits running =
          let same : model.seen new.files Records ≡ model.seen old.files Records = content_is (model.seen old.files Records) (model.seen new.files Records) (commits.undone running) in
          record {
            loose = s.loose;
            steady = commits.steady s.loose s.steady running;
            off = subst (λ (c : Content). All (IsOffRecords trees c) s.loose) (sym same) s.off;
            file = subst (λ (c : Content). IsBucketFile trees c) (sym same) s.file;
          }

      done : (r : Result Unit StoreFault) → Commits model batch r old new
          → OnOk r (new.has_stopped ≡ false → change (records_in trees (model.seen old.files Records)) (records_in trees (model.seen new.files Records)))
      done (Ok x) commits = λ running. (makes (model.seen new.files Records) commits.done).1
      done (Err e) commits = tt

      undone : (r : Result Unit StoreFault) → Commits model batch r old new
          → OnErr r (new.has_stopped ≡ false → AreKept (records_in trees (model.seen old.files Records)) (records_in trees (model.seen new.files Records)))
      undone (Ok x) commits = tt
      undone (Err e) commits = λ running tree node.
          ap (λ (c : Content). records_in trees c tree node) (content_is (model.seen old.files Records) (model.seen new.files Records) (commits.undone running))

  -- a change after calls that change no record
  pub changes_then : (trees : Trees) (change : RecordsOf → RecordsOf → Type 0) (result : Result Unit StoreFault) (old mid new : FileValue F)
      → ((one two three : RecordsOf) → AreKept one two → change two three → change one three)
      → LeavesRecords model trees old mid → (IsSoundFile model trees mid → Changes model trees change result mid new)
      → (mid.has_stopped ≡ true → new ≡ mid)
      → ((t : ℕ) (c : Contents) → t ≤ model.moment mid.files → model.may_leave mid.files c → model.left_since mid.files t c) → model.may_leave mid.files (model.seen mid.files)
      → Changes model trees change result old new
  changes_then trees change result old mid new keeps first second stays counts_now whole = elim (cases_Bool mid.has_stopped) [
    | inl stopped ↦ subst (λ (v : FileValue F). Changes model trees change result old v) (sym (stays stopped)) (stopped_changes result stopped)
    | inr running ↦ (let then = second (first.sound running) in record {
      sound = then.sound;
      done = done result running then;
      undone = undone result running then;
      moments = found_then model old.files mid.files new.files (Holds trees (records_in trees (model.seen old.files Records)))
          (λ c. Holds trees (records_in trees (model.seen mid.files Records)) c ⊎ OnlyIf (OnErr result (new.has_stopped ≡ true)) (IsBucketFile trees c × change (records_in trees (model.seen mid.files Records)) (records_in trees c)))
          (λ c. Holds trees (records_in trees (model.seen old.files Records)) c ⊎ OnlyIf (OnErr result (new.has_stopped ≡ true)) (IsBucketFile trees c × change (records_in trees (model.seen old.files Records)) (records_in trees c)))
          (same_front model old.files mid.files (Holds trees (records_in trees (model.seen old.files Records))) first.moments counts_now whole)
          first.moments then.moments (λ r holds. inl holds)
          (λ r either. ⊎_elim (λ holds. inl (holds_then trees (records_in trees (model.seen old.files Records)) (records_in trees (model.seen mid.files Records)) r (first.kept running) holds))
          (λ made. inr (record { allowed = made.allowed; holds = (made.holds.0, keeps _ _ _ (first.kept running) made.holds.1) })) either);
    })
  ]
    where
      stopped_changes : (r : Result Unit StoreFault) → mid.has_stopped ≡ true → Changes model trees change r old mid
      stopped_changes (Ok x) stopped = record {
        sound = λ running. absurd (true≢false (sym stopped ∙ running));
        done = λ running. absurd (true≢false (sym stopped ∙ running));
        undone = tt;
        moments = found_leads model old.files mid.files (Holds trees (records_in trees (model.seen old.files Records)))
            (λ c. Holds trees (records_in trees (model.seen old.files Records)) c ⊎ OnlyIf ⊤ (IsBucketFile trees c × change (records_in trees (model.seen old.files Records)) (records_in trees c))) first.moments (λ r holds. inl holds);
      }
      stopped_changes (Err e) stopped = record {
        sound = λ running. absurd (true≢false (sym stopped ∙ running));
        done = tt;
        undone = λ running. absurd (true≢false (sym stopped ∙ running));
        moments = found_leads model old.files mid.files (Holds trees (records_in trees (model.seen old.files Records)))
            (λ c. Holds trees (records_in trees (model.seen old.files Records)) c ⊎ OnlyIf (mid.has_stopped ≡ true) (IsBucketFile trees c × change (records_in trees (model.seen old.files Records)) (records_in trees c))) first.moments (λ r holds. inl holds);
      }

      done : (r : Result Unit StoreFault) → mid.has_stopped ≡ false → Changes model trees change r mid new
          → OnOk r (new.has_stopped ≡ false → change (records_in trees (model.seen old.files Records)) (records_in trees (model.seen new.files Records)))
      done (Ok x) running then = λ still. keeps _ _ _ (first.kept running) (then.done still)
      done (Err e) running then = tt

      undone : (r : Result Unit StoreFault) → mid.has_stopped ≡ false → Changes model trees change r mid new
          → OnErr r (new.has_stopped ≡ false → AreKept (records_in trees (model.seen old.files Records)) (records_in trees (model.seen new.files Records)))
      undone (Ok x) running then = tt
      undone (Err e) running then = λ still tree node. then.undone still tree node ∙ first.kept running tree node

  -- an error before the change
  pub changes_err : (trees : Trees) (change : RecordsOf → RecordsOf → Type 0) (result : Result Unit StoreFault) (old new : FileValue F) → IsErr result
      → LeavesRecords model trees old new → Changes model trees change result old new
  changes_err trees change (Ok x) old new is leaves = absurd (not_err is)
    where
      not_err : IsErr {E = StoreFault} (Ok x) → ⊥
      not_err h = cc
  changes_err trees change (Err e) old new is leaves = record {
    sound = leaves.sound;
    done = tt;
    undone = leaves.kept;
    moments = found_leads model old.files new.files (Holds trees (records_in trees (model.seen old.files Records)))
        (λ c. Holds trees (records_in trees (model.seen old.files Records)) c ⊎ OnlyIf (new.has_stopped ≡ true) (IsBucketFile trees c × change (records_in trees (model.seen old.files Records)) (records_in trees c))) leaves.moments (λ r holds. inl holds);
  }

pub stores_keep : (tree : ℕ) (s : TreeShape) (leaf : ℕ) (bytes : List ℕ) (one two three : RecordsOf) → AreKept one two → Stores tree s leaf bytes two three → Stores tree s leaf bytes one three
stores_keep tree s leaf bytes one two three same stores = (stores.0, λ other node differ. stores.1 other node differ ∙ same other node)

pub puts_keep : (tree node : ℕ) (bytes : List ℕ) (one two three : RecordsOf) → AreKept one two → Puts tree node bytes two three → Puts tree node bytes one three
puts_keep tree node bytes one two three same puts = (puts.0, λ other n differ. puts.1 other n differ ∙ same other n)
