-- What a function owes where it ends early, because a call in it has failed.
use Rattle.std.proofs.Common.{◌≡◌, true, false, true≢false, inl, sym, ◌∙◌, subst, Result, Ok, Err}
use Rattle.std.specs.Prelude.{IfErr, IsErrAnd, OnErr}
use Rattle.oram_redo.specs.FilePair.{ComesAfter, FileModel}
use Rattle.oram_redo.proofs.Outcomes.{on_ok_holds}
use Rattle.oram_store.specs.RecordFile.{Calls, FileValue, IsReason, Runs}
use Rattle.oram_store.specs.declared.faults.StoreFault.{StoreFault}
use Rattle.oram_store.specs.declared.faults.StoreFault.TheVariants.{Closed, OutOfMemory}
use Rattle.oram_store.proofs.Crashes.{calls_err, runs_none}

pub on_err_holds : {T E : Type 0} (result : Result T E) (P : Type 0) → P → OnErr result P
on_err_holds (Ok x) P holds = tt
on_err_holds (Err e) P holds = holds

module _ {F : Type 0} (model : FileModel F) where
  -- the error of the only call is passed on
  pub calls_passed : {T U : Type 0} (result : Result U StoreFault) (fault : StoreFault) (old new : FileValue F) → IsErrAnd result (λ e. e ≡ fault)
      → Calls {T = T} model (Err fault) old new → Calls model result old new
  calls_passed {T} (Ok x) fault old new is calls = absurd is
  calls_passed {T} {U} (Err e) fault old new is calls =
      subst (λ (f : StoreFault). Calls {T = U} model (Err f) old new) (sym is) (calls_err model {T = T} fault old new calls)

  -- memory ran out after calls that went well
  pub calls_memory : {U : Type 0} (result : Result U StoreFault) (old new : FileValue F) → IsErrAnd result (λ e. e ≡ OutOfMemory) → Runs model old new
      → Calls model result old new
  calls_memory (Ok x) old new is runs = absurd is
  calls_memory (Err e) old new is runs = record { runs = runs; goes_on = tt; reason = subst (λ (f : StoreFault). IsReason model old new f) (sym is) tt }

  -- a call after which the file goes on
  pub calls_made : {T : Type 0} (result : Result T StoreFault) (old new : FileValue F) → old.has_stopped ≡ false → ComesAfter model old.files new.files
      → new.has_stopped ≡ old.has_stopped → IfErr result (IsReason model old new) → Calls model result old new
  calls_made result old new running after same reason = record {
    runs = record { after = after; stops = λ stopped. inl (sym same ∙ stopped); stays = λ stopped. absurd (true≢false (sym stopped ∙ running)) };
    goes_on = on_ok_holds result _ same;
    reason = reason;
  }

  -- a call of a file that has stopped
  pub calls_closed : {T : Type 0} (v : FileValue F) → v.has_stopped ≡ true → Calls {T = T} model (Err Closed) v v
  calls_closed v stopped = record { runs = runs_none model v; goes_on = tt; reason = stopped }
