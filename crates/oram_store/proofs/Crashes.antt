-- What a crash finds, call by call of the file.
use Rattle.std.proofs.Common.{◌≡◌, ◌⊎◌, inl, inr, ⊎_elim, ℕ, suc, ◌≤◌, Bool, true, false, true≢false, List, [], ◌∷◌, refl, sym, ◌∙◌, ap, subst, Result, Ok, Err}
use Rattle.std.specs.Prelude.{IfErr, IsErr, IsErrAnd, OnErr, OnOk}
use Rattle.std.proofs.lemmas.Bool.{cases_Bool}
use Rattle.oram_redo.specs.Content.{Agrees, Content}
use Rattle.oram_redo.specs.FilePair.{Contents, FileModel, LeavesOnly}
use Rattle.oram_redo.specs.Log.{AgreesBut, Keeps, Patch, SameFront, put_all}
use Rattle.oram_redo.specs.Redo.{AreCrashConsistent, IsCrashConsistent, bounds_of}
use Rattle.oram_redo.specs.declared.bounds.Bounds.{Bounds}
use Rattle.oram_redo.specs.declared.file_pair.FileKind.TheVariants.{Records}
use Rattle.oram_redo.specs.declared.redo.Redo.{Redo}
use Rattle.oram_redo.proofs.Heal.{put_all_heals}
use Rattle.oram_redo.proofs.Moments.{leads_to, started, then_leaves}
use Rattle.oram_redo.proofs.Consistent.{keeps_now}
use Rattle.oram_store.specs.RecordFile.{Calls, Commits, FileValue, Finds, IsReason, IsSteady, MayHave, OnlyIf, Passes, Runs, bounds}
use Rattle.oram_store.specs.declared.faults.StoreFault.{StoreFault}
use Rattle.oram_store.specs.declared.faults.StoreFault.TheVariants as fault

pub found_kept : (b : Bounds) (loose : List Patch) (before c : Contents) → b ≡ bounds → Keeps b loose before c → Finds before (λ r. AgreesBut loose r (before Records)) c
found_kept b loose before c is keeps =
    let kept = subst (λ (x : Bounds). Keeps x loose before c) is keeps in
    record {
      front = kept.front;
      records = put_all kept.stands.patches (c Records);
      stands = record { patches = kept.stands.patches; log = kept.stands.log; gives = λ i spared. refl };
      are = kept.stands.gives;
    }

pub found_more : (before c : Contents) (Q P : Content → Type 0) → ((r : Content) → Q r → P r) → Finds before Q c → Finds before P c
found_more before c Q P leads found = record { front = found.front; records = found.records; stands = found.stands; are = leads found.records found.are }

pub found_from : (before mid c : Contents) (Q : Content → Type 0) → SameFront bounds before mid → Finds mid Q c → Finds before Q c
found_from before mid c Q front found = record {
  front = λ i low. found.front i low ∙ front i low;
  records = found.records;
  stands = found.stands;
  are = found.are;
}

-- files that are crash consistent stay so if more places count as loose
pub consistent_more : (redo : Redo) (loose : List Patch) (seen : Contents) (leave : Contents → Type 0) → AreCrashConsistent redo [] seen leave → AreCrashConsistent redo loose seen leave
consistent_more redo loose seen leave s = record { patches = s.patches; log = s.log; end = s.end; sure = s.sure; stands = λ c now i spared. s.stands c now i tt }

module _ {F : Type 0} (model : FileModel F) where
  pub found_now : (v : FileValue F) (loose : List Patch) (c : Contents) → IsSteady model v loose → model.may_leave v.files c
      → Finds (model.seen v.files) (λ r. AgreesBut loose r (model.seen v.files Records)) c
  found_now v loose c s now = found_kept (bounds_of v.redo) loose (model.seen v.files) c s.bounded (keeps_now v.redo loose _ _ s.consistent c now)

  pub more_loose : (v : FileValue F) (loose : List Patch) → IsSteady model v [] → IsSteady model v loose
  more_loose v loose s = record { bounded = s.bounded; consistent = consistent_more v.redo loose _ _ s.consistent; sure = s.sure }

  -- before the first call
  pub not_begun : (v : FileValue F) (loose : List Patch) (Q : Content → Type 0) → IsSteady model v loose
      → ((c : Contents) → model.left_since v.files (model.moment v.files) c → model.may_leave v.files c)
      → ((r : Content) → AgreesBut loose r (model.seen v.files Records) → Q r) → LeavesOnly model v.files v.files (Finds (model.seen v.files) Q)
  not_begun v loose Q s only_now leads =
      started model v.files (Finds (model.seen v.files) Q)
      (λ c left. found_more (model.seen v.files) c (λ r. AgreesBut loose r (model.seen v.files Records)) Q leads (found_now v loose c s (only_now c left)))

  -- a run of calls, and one more
  pub found_then : (old mid new : F) (Q P R : Content → Type 0) → SameFront bounds (model.seen old) (model.seen mid)
      → LeavesOnly model old mid (Finds (model.seen old) Q) → LeavesOnly model mid new (Finds (model.seen mid) P)
      → ((r : Content) → Q r → R r) → ((r : Content) → P r → R r) → LeavesOnly model old new (Finds (model.seen old) R)
  found_then old mid new Q P R front first second one two =
      then_leaves model old mid new (Finds (model.seen old) R) (Finds (model.seen mid) P)
      (leads_to model old mid (Finds (model.seen old) Q) (Finds (model.seen old) R) first (λ c found. found_more (model.seen old) c Q R one found))
      second (λ c found. found_from (model.seen old) (model.seen mid) c R front (found_more (model.seen mid) c P R two found))

  pub found_leads : (old new : F) (Q R : Content → Type 0) → LeavesOnly model old new (Finds (model.seen old) Q)
      → ((r : Content) → Q r → R r) → LeavesOnly model old new (Finds (model.seen old) R)
  found_leads old new Q R leaves leads = leads_to model old new (Finds (model.seen old) Q) (Finds (model.seen old) R) leaves (λ c found. found_more (model.seen old) c Q R leads found)

  -- what is read is found, because a crash may leave everything that was written
  pub same_front : (old new : F) (Q : Content → Type 0) → LeavesOnly model old new (Finds (model.seen old) Q)
      → ((t : ℕ) (c : Contents) → t ≤ model.moment new → model.may_leave new c → model.left_since new t c) → model.may_leave new (model.seen new) → SameFront bounds (model.seen old) (model.seen new)
  same_front old new Q leaves counts_now whole = (leaves.each (model.seen new) (counts_now (model.moment old) (model.seen new) leaves.later whole)).front

  -- what a call has kept, as what a crash finds
  pub found_by : (v : FileValue F) (new : F) (loose : List Patch) (Q : Content → Type 0) → bounds_of v.redo ≡ bounds
      → LeavesOnly model v.files new (Keeps (bounds_of v.redo) loose (model.seen v.files))
      → ((r : Content) → AgreesBut loose r (model.seen v.files Records) → Q r) → LeavesOnly model v.files new (Finds (model.seen v.files) Q)
  found_by v new loose Q is leaves leads =
      leads_to model v.files new (Keeps (bounds_of v.redo) loose (model.seen v.files)) (Finds (model.seen v.files) Q) leaves
      (λ c keeps. found_more (model.seen v.files) c (λ r. AgreesBut loose r (model.seen v.files Records)) Q leads (found_kept (bounds_of v.redo) loose (model.seen v.files) c is keeps))

  -- a file that has stopped does nothing
  pub stopped_passes : (v : FileValue F) (loose more : List Patch) (Q : Content → Type 0) → IsSteady model v loose → v.has_stopped ≡ true
      → ((c : Contents) → model.left_since v.files (model.moment v.files) c → model.may_leave v.files c)
      → ((r : Content) → AgreesBut loose r (model.seen v.files Records) → Q r) → Passes model more Q v v
  stopped_passes v loose more Q s stopped only_now leads = record {
    steady = λ running. absurd (true≢false (sym stopped ∙ running));
    moments = not_begun v loose Q s only_now leads;
  }

  pub loose_passes : (v new : FileValue F) (files : F) (p : Patch) (loose : List Patch) → IsSteady model v loose → new.files ≡ files → new.redo ≡ v.redo → new.is_loose ≡ true
      → IsCrashConsistent model v.redo (p ∷ loose) files → LeavesOnly model v.files files (Keeps (bounds_of v.redo) (p ∷ loose) (model.seen v.files))
      → Passes model (p ∷ loose) (λ r. AgreesBut (p ∷ loose) r (model.seen v.files Records)) v new
  loose_passes v new files p loose s is redo_is loose_is consistent leaves = record {
    steady = λ running. record {
      bounded = ap bounds_of redo_is ∙ s.bounded;
      consistent = subst (λ (r : Redo). IsCrashConsistent model r (p ∷ loose) new.files) (sym redo_is) (subst (λ (f : F). IsCrashConsistent model v.redo (p ∷ loose) f) (sym is) consistent);
      sure = λ none. absurd (true≢false (sym loose_is ∙ none));
    };
    moments = subst (λ (f : F). LeavesOnly model v.files f (Finds (model.seen v.files) (λ r. AgreesBut (p ∷ loose) r (model.seen v.files Records)))) (sym is)
        (found_by v files (p ∷ loose) (λ r. AgreesBut (p ∷ loose) r (model.seen v.files Records)) s.bounded leaves (λ r agrees. agrees));
  }

  pub restart_passes : (v : FileValue F) (files : F) (redo : Redo) (stopped : Bool) (loose : List Patch) → IsSteady model v loose
      → bounds_of redo ≡ bounds_of v.redo → IsCrashConsistent model redo [] files → LeavesOnly model v.files files (Keeps (bounds_of v.redo) loose (model.seen v.files))
      → Passes model [] (λ r. AgreesBut loose r (model.seen v.files Records)) v (record { files = files; redo = redo; is_loose = false; has_stopped = stopped })
  restart_passes v files redo stopped loose s same consistent leaves = record {
    steady = λ running. record { bounded = same ∙ s.bounded; consistent = consistent; sure = λ none. consistent };
    moments = found_by v files loose (λ r. AgreesBut loose r (model.seen v.files Records)) s.bounded leaves (λ r agrees. agrees);
  }

  -- a call that has failed stops the file
  pub failed_passes : (v new : FileValue F) (files : F) (loose more : List Patch) (Q : Content → Type 0) → bounds_of v.redo ≡ bounds → new.files ≡ files → new.has_stopped ≡ true
      → LeavesOnly model v.files files (Finds (model.seen v.files) Q) → Passes model more Q v new
  failed_passes v new files loose more Q bounded is stopped leaves = record {
    steady = λ running. absurd (true≢false (sym stopped ∙ running));
    moments = subst (λ (f : F). LeavesOnly model v.files f (Finds (model.seen v.files) Q)) (sym is) leaves;
  }

  -- one more call
  pub passes_then : (old mid new : FileValue F) (loose more : List Patch) (Q P R : Content → Type 0) → Passes model loose Q old mid
      → (IsSteady model mid loose → Passes model more P mid new) → (mid.has_stopped ≡ true → new ≡ mid)
      → ((t : ℕ) (c : Contents) → t ≤ model.moment mid.files → model.may_leave mid.files c → model.left_since mid.files t c) → model.may_leave mid.files (model.seen mid.files)
      → ((r : Content) → Q r → R r) → ((r : Content) → P r → R r) → Passes model more R old new
  passes_then old mid new loose more Q P R first second stays counts_now whole one two = elim (cases_Bool mid.has_stopped) [
    | inl stopped ↦ subst (λ (v : FileValue F). Passes model more R old v) (sym (stays stopped)) (record {
      steady = λ running. absurd (true≢false (sym stopped ∙ running));
      moments = found_leads old.files mid.files Q R first.moments one;
    })
    | inr running ↦ (
        let then = second (first.steady running) in
        record {
          steady = then.steady;
          moments = found_then old.files mid.files new.files Q P R (same_front old.files mid.files Q first.moments counts_now whole) first.moments then.moments one two;
        })
  ]

  pub sure_restarted : (may_be is : Type 0) (batch : List Patch) (old mid new : FileValue F) → (may_be → is) → Passes model [] (MayHave model may_be batch old) old mid
      → Agrees (model.seen mid.files Records) (model.seen old.files Records)
      → (IsSteady model mid [] → Passes model [] (λ r. AgreesBut [] r (model.seen mid.files Records)) mid new) → (mid.has_stopped ≡ true → new ≡ mid)
      → ((t : ℕ) (c : Contents) → t ≤ model.moment mid.files → model.may_leave mid.files c → model.left_since mid.files t c) → model.may_leave mid.files (model.seen mid.files)
      → Passes model [] (MayHave model is batch old) old new
  sure_restarted may_be is batch old mid new allows first same second stays counts_now whole =
      passes_then old mid new [] [] (MayHave model may_be batch old) (λ r. AgreesBut [] r (model.seen mid.files Records)) (MayHave model is batch old) first second stays counts_now whole
      (λ r q. ⊎_elim (λ agrees. inl agrees) (λ found. inr (record { allowed = allows found.allowed; holds = found.holds })) q) (λ r agrees. inl (λ i. agrees i tt ∙ same i))

  pub sure_again : (may_be is : Type 0) (batch : List Patch) (old mid new : FileValue F) → (may_be → is) → Passes model [] (MayHave model is batch old) old mid
      → Agrees (model.seen mid.files Records) (model.seen old.files Records)
      → (IsSteady model mid [] → Passes model [] (MayHave model may_be batch mid) mid new) → (mid.has_stopped ≡ true → new ≡ mid)
      → ((t : ℕ) (c : Contents) → t ≤ model.moment mid.files → model.may_leave mid.files c → model.left_since mid.files t c) → model.may_leave mid.files (model.seen mid.files)
      → Passes model [] (MayHave model is batch old) old new
  sure_again may_be is batch old mid new allows first same second stays counts_now whole =
      passes_then old mid new [] [] (MayHave model is batch old) (MayHave model may_be batch mid) (MayHave model is batch old) first second stays counts_now whole (λ r q. q)
      (λ r q. ⊎_elim (λ agrees. inl (λ i. agrees i ∙ same i))
      (λ found. inr (record { allowed = allows found.allowed; holds = λ i. found.holds i ∙ put_all_heals batch (model.seen mid.files Records) (model.seen old.files Records) i (λ spared. same i) })) q)

  -- the batch may be found in more cases
  pub may_have_more : (may_be is : Type 0) (batch : List Patch) (old new : FileValue F) → (may_be → is) → Passes model [] (MayHave model may_be batch old) old new
      → Passes model [] (MayHave model is batch old) old new
  may_have_more may_be is batch old new allows passes = record {
    steady = passes.steady;
    moments = found_leads old.files new.files (MayHave model may_be batch old) (MayHave model is batch old) passes.moments
        (λ r q. ⊎_elim (λ agrees. inl agrees) (λ found. inr (record { allowed = allows found.allowed; holds = found.holds })) q);
  }

  -- what is written is made durable first
  pub commits_err : (batch : List Patch) (old new : FileValue F) (result : Result Unit StoreFault) → IsErr result
      → ((loose : List Patch) → IsSteady model old loose → Passes model [] (λ r. AgreesBut loose r (model.seen old.files Records)) old new)
      → Agrees (model.seen new.files Records) (model.seen old.files Records) → Commits model batch result old new
  commits_err batch old new (Ok x) is passes same = absurd (not_err is)
    where
      not_err : IsErr {E = StoreFault} (Ok x) → ⊥
      not_err h = cc
  commits_err batch old new (Err fault) is passes same = record {
    done = tt;
    sure = tt;
    undone = λ running. same;
    steady = λ loose s running. more_loose new loose ((passes loose s).steady running);
    moments = λ loose s. found_leads old.files new.files (λ r. AgreesBut loose r (model.seen old.files Records)) (λ r. AgreesBut loose r (model.seen old.files Records) ⊎ OnlyIf (new.has_stopped ≡ true) (Agrees r (put_all batch (model.seen old.files Records))))
        (passes loose s).moments (λ r agrees. inl agrees);
  }

  -- an error before the first call
  pub commits_none : (batch : List Patch) (v : FileValue F) (result : Result Unit StoreFault) → IsErr result
      → ((c : Contents) → model.left_since v.files (model.moment v.files) c → model.may_leave v.files c) → Commits model batch result v v
  commits_none batch v (Ok x) is only_now = absurd (not_err is)
    where
      not_err : IsErr {E = StoreFault} (Ok x) → ⊥
      not_err h = cc
  commits_none batch v (Err fault) is only_now = record {
    done = tt;
    sure = tt;
    undone = λ running i. refl;
    steady = λ loose s running. s;
    moments = λ loose s. not_begun v loose (λ r. AgreesBut loose r (model.seen v.files Records) ⊎ OnlyIf (v.has_stopped ≡ true) (Agrees r (put_all batch (model.seen v.files Records)))) s only_now (λ r agrees. inl agrees);
  }

  pub commits_then : (batch : List Patch) (old mid new : FileValue F) (result : Result Unit StoreFault)
      → ((loose : List Patch) → IsSteady model old loose → Passes model [] (λ r. AgreesBut loose r (model.seen old.files Records)) old mid)
      → Agrees (model.seen mid.files Records) (model.seen old.files Records)
      → (IsSteady model mid [] → Passes model [] (MayHave model (OnErr result (new.has_stopped ≡ true)) batch mid) mid new) → (mid.has_stopped ≡ true → new ≡ mid)
      → OnOk result (Agrees (model.seen new.files Records) (put_all batch (model.seen mid.files Records))) → OnErr result (new.has_stopped ≡ false → Agrees (model.seen new.files Records) (model.seen mid.files Records))
      → ((t : ℕ) (c : Contents) → t ≤ model.moment mid.files → model.may_leave mid.files c → model.left_since mid.files t c) → model.may_leave mid.files (model.seen mid.files)
      → Commits model batch result old new
  commits_then batch old mid new result first same second stays done undone counts_now whole = record {
    done = on_ok result done;
    sure = sure_ok result;
    undone = on_err result undone;
    steady = steady_err result;
    moments = λ loose s. (all loose s).moments;
  }
    where
      all : (loose : List Patch) → IsSteady model old loose
          → Passes model [] (λ r. AgreesBut loose r (model.seen old.files Records) ⊎ OnlyIf (OnErr result (new.has_stopped ≡ true)) (Agrees r (put_all batch (model.seen old.files Records)))) old new
      all loose s =
          passes_then old mid new [] [] (λ r. AgreesBut loose r (model.seen old.files Records)) (MayHave model (OnErr result (new.has_stopped ≡ true)) batch mid)
          (λ r. AgreesBut loose r (model.seen old.files Records) ⊎ OnlyIf (OnErr result (new.has_stopped ≡ true)) (Agrees r (put_all batch (model.seen old.files Records))))
          (first loose s) second stays counts_now whole (λ r agrees. inl agrees)
          (λ r q. ⊎_elim (λ agrees. inl (λ i spared. agrees i ∙ same i))
          (λ found. inr (record { allowed = found.allowed; holds = λ i. found.holds i ∙ put_all_heals batch (model.seen mid.files Records) (model.seen old.files Records) i (λ spared. same i) })) q)

      on_ok : (r : Result Unit StoreFault) → OnOk r (Agrees (model.seen new.files Records) (put_all batch (model.seen mid.files Records))) → OnOk r (Agrees (model.seen new.files Records) (put_all batch (model.seen old.files Records)))
      on_ok (Ok x) agrees = λ i. agrees i ∙ put_all_heals batch (model.seen mid.files Records) (model.seen old.files Records) i (λ spared. same i)
      on_ok (Err e) none = none

      sure_ok : (r : Result Unit StoreFault) → OnOk r ((loose : List Patch) → IsSteady model old loose → new.has_stopped ≡ false → IsSteady model new [])
      sure_ok (Ok x) = λ loose s running. (all loose s).steady running
      sure_ok (Err e) = tt

      on_err : (r : Result Unit StoreFault) → OnErr r (new.has_stopped ≡ false → Agrees (model.seen new.files Records) (model.seen mid.files Records)) → OnErr r (new.has_stopped ≡ false → Agrees (model.seen new.files Records) (model.seen old.files Records))
      on_err (Ok x) none = none
      on_err (Err e) agrees = λ running i. agrees running i ∙ same i

      steady_err : (r : Result Unit StoreFault) → OnErr r ((loose : List Patch) → IsSteady model old loose → new.has_stopped ≡ false → IsSteady model new loose)
      steady_err (Ok x) = tt
      steady_err (Err e) = λ loose s running. more_loose new loose ((all loose s).steady running)

-- the error of a call is passed on
pub error_is : {T : Type 0} (result : Result T StoreFault) (fault : StoreFault) (P : StoreFault → Type 0) → IsErrAnd result (λ e. e ≡ fault) → P fault → IfErr result P
error_is (Ok x) fault P is holds = absurd is
error_is (Err e) fault P is holds = subst P (sym is) holds

pub agrees_all : (ps : List Patch) (c d : Content) → Agrees c d → Agrees (put_all ps c) (put_all ps d)
agrees_all ps c d same i = put_all_heals ps c d i (λ spared. same i)

module _ {F : Type 0} (model : FileModel F) where
  pub runs_then : (old mid new : FileValue F) → Runs model old mid → Runs model mid new → Runs model old new
  runs_then old mid new first second = record {
    after = record {
      honest = λ h. first.after.honest (second.after.honest h);
      failed = λ n h. second.after.failed n (first.after.failed n h);
      short = λ n h. second.after.short n (first.after.short n h);
    };
    stops = λ stopped. ⊎_elim
        (λ mid_stopped. ⊎_elim (λ was. inl was) (λ failed. inr (⊎_elim (λ f. inl (λ n h. second.after.failed (suc n) (f n h))) (λ f. inr (λ n h. second.after.short (suc n) (f n h))) failed)) (first.stops mid_stopped))
        (λ failed. inr (⊎_elim (λ f. inl (λ n h. f n (first.after.failed n h))) (λ f. inr (λ n h. f n (first.after.short n h))) failed)) (second.stops stopped);
    stays = λ stopped. let same = first.stays stopped in second.stays (ap (λ (v : FileValue F). v.has_stopped) same ∙ stopped) ∙ same;
  }

  pub runs_none : (v : FileValue F) → Runs model v v
  runs_none v = record {
    after = record { honest = λ h. h; failed = λ n h. h; short = λ n h. h };
    stops = λ stopped. inl stopped;
    stays = λ stopped. refl;
  }

  pub reason_then : (old mid new : FileValue F) (fault : StoreFault) → Runs model old mid → mid.has_stopped ≡ old.has_stopped → IsReason model mid new fault → IsReason model old new fault
  reason_then old mid new fault.Closed runs same reason = sym same ∙ reason
  reason_then old mid new fault.Io runs same reason = (reason.0, ⊎_elim (λ f. inl (λ n h. f n (runs.after.failed n h))) (λ f. inr (λ n h. f n (runs.after.short n h))) reason.1)
  reason_then old mid new fault.NoRoom runs same reason = λ n h. reason n (runs.after.short n h)
  reason_then old mid new fault.OutOfMemory runs same reason = reason
  reason_then old mid new fault.Busy runs same reason = reason
  reason_then old mid new fault.Missing runs same reason = reason
  reason_then old mid new fault.Exists runs same reason = reason
  reason_then old mid new fault.NewFileTaken runs same reason = reason
  reason_then old mid new fault.NewLogTaken runs same reason = reason
  reason_then old mid new fault.CutShort runs same reason = reason
  reason_then old mid new fault.NotABucketFile runs same reason = reason
  reason_then old mid new fault.OlderVersion runs same reason = reason
  reason_then old mid new fault.NewerKind runs same reason = reason
  reason_then old mid new fault.WithoutLog runs same reason = reason
  reason_then old mid new fault.LogOfAnotherFile runs same reason = reason
  reason_then old mid new fault.LogWithoutFile runs same reason = reason
  reason_then old mid new fault.LogOlder runs same reason = reason
  reason_then old mid new fault.LogNewer runs same reason = reason
  reason_then old mid new fault.Damaged runs same reason = reason
  reason_then old mid new fault.LogDamaged runs same reason = reason

  pub calls_then : {T : Type 0} (result : Result T StoreFault) (old mid new : FileValue F) → Runs model old mid → mid.has_stopped ≡ old.has_stopped
      → Calls model result mid new → Calls model result old new
  calls_then (Ok x) old mid new runs same calls = record { runs = runs_then old mid new runs calls.runs; goes_on = calls.goes_on ∙ same; reason = tt }
  calls_then (Err fault) old mid new runs same calls = record { runs = runs_then old mid new runs calls.runs; goes_on = tt; reason = reason_then old mid new fault runs same calls.reason }

  -- an error is the error of the last call
  pub calls_err : {T U : Type 0} (fault : StoreFault) (old new : FileValue F) → Calls {T = T} model (Err fault) old new → Calls {T = U} model (Err fault) old new
  calls_err fault old new calls = record { runs = calls.runs; goes_on = tt; reason = calls.reason }

  -- a value in place of another
  pub calls_ok : {T U : Type 0} (x : T) (y : U) (old new : FileValue F) → Calls model (Ok x) old new → Calls model (Ok y) old new
  calls_ok x y old new calls = record { runs = calls.runs; goes_on = calls.goes_on; reason = tt }

  pub calls_residual : {T U : Type 0} (result : Result U StoreFault) (fault : StoreFault) (old mid new : FileValue F) → IsErrAnd result (λ e. e ≡ fault) → Runs model old mid → mid.has_stopped ≡ old.has_stopped
      → Calls {T = T} model (Err fault) mid new → Calls model result old new
  calls_residual {T} (Ok x) fault old mid new is runs same calls = absurd is
  calls_residual {T} {U} (Err e) fault old mid new is runs same calls =
      subst (λ (f : StoreFault). Calls {T = U} model (Err f) old new) (sym is)
      (calls_err {T = T} fault old new (calls_then {T = T} (Err fault) old mid new runs same calls))
