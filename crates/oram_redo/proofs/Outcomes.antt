-- What a function owes where it ends early, because a call in it has failed, and how several calls add up.
use Rattle.std.proofs.Common.{◌≡◌, ◌⊎◌, ⊎_elim, inl, inr, true, ap, subst, sym, ◌∙◌, Result, Ok, Err, is_err, Option, Some, None}
use Rattle.std.specs.Prelude.{IfErr, IfOk, IfSome, IsErr, IsErrAnd, IsErrOf, OnOk}
use Rattle.oram_redo.specs.FilePair.{ComesAfter, FileModel, HasCause, HasFailed}
use Rattle.oram_redo.specs.Redo.{IsRefused}
use Rattle.oram_redo.specs.declared.faults.RedoError.{RedoError}
use Rattle.oram_redo.specs.declared.faults.RedoError.TheVariants.{Damaged, Failed, LogFull, Memory, NoRoom}

-- a clause about success says nothing of an error
pub on_ok_none : {T E : Type 0} (result : Result T E) (P : Type 0) → IsErr result → OnOk result P
on_ok_none {T} {E} (Ok x) P is = absurd (not_err is)
  where
    not_err : IsErr {E = E} (Ok x) → ⊥
    not_err h = cc
on_ok_none (Err e) P is = tt

pub if_ok_none : {T E : Type 0} (result : Result T E) (P : T → Type 0) → IsErr result → IfOk result P
if_ok_none {T} {E} (Ok x) P is = absurd (not_err is)
  where
    not_err : IsErr {E = E} (Ok x) → ⊥
    not_err h = cc
if_ok_none (Err e) P is = tt

-- and a clause about an error says nothing of success
pub no_error : {T E : Type 0} (x : T) (e : E) (P : Type 0) → IsErrOf (Ok x) e → P
no_error x e P is = cc

-- an error that is passed on
pub if_err_passed : {T E : Type 0} (result : Result T E) (error : E) (P : E → Type 0) → IsErrAnd result (λ e. e ≡ error) → P error → IfErr result P
if_err_passed (Ok x) error P is holds = absurd is
if_err_passed (Err e) error P is holds = subst P (sym is) holds

-- what follows from one error, if it is passed on
pub if_of_passed : {T U E : Type 0} (result : Result U E) (error which : E) (P : Type 0) → IsErrAnd result (λ e. e ≡ error) → (IsErrOf {T = T} (Err error) which → P) → IsErrOf result which → P
if_of_passed (Ok x) error which P is follows of = absurd is
if_of_passed (Err e) error which P is follows of = follows cc

-- one error isn't another
pub not_damaged : {T : Type 0} (result : Result T RedoError) (P : Type 0) → IfErr result (λ e. e ≡ Memory ⊎ e ≡ Failed) → IsErrOf result Damaged → P
not_damaged (Ok x) P errors is = cc
not_damaged (Err e) P (inl memory) is = cc
not_damaged (Err e) P (inr failed) is = cc

pub failed_not_damaged : {T : Type 0} (P : Type 0) → IsErrOf {T = T} (Err Failed) Damaged → P
failed_not_damaged P is = cc

pub spelled_not_room : {T : Type 0} (result : Result T RedoError) (P : Type 0) → IfErr result (λ e. e ≡ Memory ⊎ e ≡ LogFull) → IsErrOf result NoRoom → P
spelled_not_room (Ok x) P errors is = cc
spelled_not_room (Err e) P (inl memory) is = cc
spelled_not_room (Err e) P (inr full) is = cc

pub spelled_not_failed : {T : Type 0} (result : Result T RedoError) (P : Type 0) → IfErr result (λ e. e ≡ Memory ⊎ e ≡ LogFull) → IsErrOf result Failed → P
spelled_not_failed (Ok x) P errors is = cc
spelled_not_failed (Err e) P (inl memory) is = cc
spelled_not_failed (Err e) P (inr full) is = cc

pub spelled_not_damaged : {T : Type 0} (result : Result T RedoError) (P : Type 0) → IfErr result (λ e. e ≡ Memory ⊎ e ≡ LogFull) → IsErrOf result Damaged → P
spelled_not_damaged (Ok x) P errors is = cc
spelled_not_damaged (Err e) P (inl memory) is = cc
spelled_not_damaged (Err e) P (inr full) is = cc

pub written_not_full : {T : Type 0} (result : Result T RedoError) (P : Type 0) → IfErr result (λ e. e ≡ NoRoom ⊎ e ≡ Failed) → IsErrOf result LogFull → P
written_not_full (Ok x) P errors is = cc
written_not_full (Err e) P (inl room) is = cc
written_not_full (Err e) P (inr failed) is = cc

pub written_not_damaged : {T : Type 0} (result : Result T RedoError) (P : Type 0) → IfErr result (λ e. e ≡ NoRoom ⊎ e ≡ Failed) → IsErrOf result Damaged → P
written_not_damaged (Ok x) P errors is = cc
written_not_damaged (Err e) P (inl room) is = cc
written_not_damaged (Err e) P (inr failed) is = cc

-- an error that is Failed is no other, and no refusal
module _ {T : Type 0} (error : RedoError) (P : Type 0) (failed : error ≡ Failed) where
  pub passed_not_full : (result : Result T RedoError) → IsErrAnd result (λ e. e ≡ error) → IsErrOf result LogFull → P
  passed_not_full (Ok x) passed is = absurd passed
  passed_not_full (Err e) passed is = cc

  pub passed_not_room : (result : Result T RedoError) → IsErrAnd result (λ e. e ≡ error) → IsErrOf result NoRoom → P
  passed_not_room (Ok x) passed is = absurd passed
  passed_not_room (Err e) passed is = cc

  pub passed_not_damaged : (result : Result T RedoError) → IsErrAnd result (λ e. e ≡ error) → IsErrOf result Damaged → P
  passed_not_damaged (Ok x) passed is = absurd passed
  passed_not_damaged (Err e) passed is = cc

pub not_refused : (error : RedoError) (P : Type 0) → error ≡ Failed → (result : Result Unit RedoError) → IsErrAnd result (λ e. e ≡ error) → IsRefused result → P
not_refused error P failed (Ok x) passed refused = absurd passed
not_refused error P failed (Err e) passed refused = absurd (subst (λ (x : RedoError). IsRefused (Err x)) (passed ∙ failed) refused)

if_same : {T U E : Type 0} (e error which : E) → e ≡ error → IsErrOf {T = U} (Err e) which → IsErrOf {T = T} (Err error) which
if_same e error which is of = cc

module _ {F : Type 0} (model : FileModel F) where
  -- no call
  pub after_none : (old : F) → ComesAfter model old old
  after_none old = record { honest = λ h. h; failed = λ n had. had; short = λ n had. had }

  -- one call after another
  pub after_then : (old mid new : F) → ComesAfter model old mid → ComesAfter model mid new → ComesAfter model old new
  after_then old mid new first second = record {
    honest = λ h. first.honest (second.honest h);
    failed = λ n had. second.failed n (first.failed n had);
    short = λ n had. second.short n (first.short n had);
  }

  -- the last call failed
  pub failed_last : (old mid new : F) → ComesAfter model old mid → HasFailed model mid new → HasFailed model old new
  failed_last old mid new first has = ⊎_elim (λ rises. inl (λ n had. rises n (first.failed n had))) (λ rises. inr (λ n had. rises n (first.short n had))) has

  -- a call that found no room, or failed otherwise
  pub has_failed : {T : Type 0} (result : Result T RedoError) (old new : F) → is_err result ≡ true → IfErr result (λ e. e ≡ NoRoom ⊎ e ≡ Failed) → HasCause model old new result
      → HasFailed model old new
  has_failed (Ok x) old new is errors cause = cc
  has_failed (Err e) old new is (inl full) cause = inr (cause.no_room (ap Err full))
  has_failed (Err e) old new is (inr failed) cause = inl (cause.failed (ap Err failed))

  pub cause_of : {T : Type 0} (error : RedoError) (old new : F) → (error ≡ NoRoom ⊎ error ≡ Failed) → HasCause {T = T} model old new (Err error) → HasFailed model old new
  cause_of error old new (inl full) cause = inr (cause.no_room (ap Err full))
  cause_of error old new (inr failed) cause = inl (cause.failed (ap Err failed))

  pub cause_passed : {T U : Type 0} (result : Result U RedoError) (error : RedoError) (old new : F) → IsErrAnd result (λ e. e ≡ error) → HasCause {T = T} model old new (Err error)
      → HasCause model old new result
  cause_passed (Ok x) error old new is cause = absurd is
  cause_passed (Err e) error old new is cause = record { failed = λ of. cause.failed (if_same e error Failed is of); no_room = λ of. cause.no_room (if_same e error NoRoom is of) }

  -- the last call's cause
  pub cause_last : {T : Type 0} (result : Result T RedoError) (old mid new : F) → ComesAfter model old mid → HasCause model mid new result → HasCause model old new result
  cause_last result old mid new first cause = record {
    failed = λ of n had. cause.failed of n (first.failed n had);
    no_room = λ of n had. cause.no_room of n (first.short n had);
  }

pub either_failed : {T : Type 0} (result : Result T RedoError) → IfErr result (λ e. e ≡ Failed) → IfErr result (λ e. e ≡ NoRoom ⊎ e ≡ Failed)
either_failed (Ok x) errors = tt
either_failed (Err e) errors = inr errors

pub on_ok_holds : {T E : Type 0} (result : Result T E) (P : Type 0) → P → OnOk result P
on_ok_holds (Ok x) P holds = holds
on_ok_holds (Err e) P holds = tt

pub some_none : {T : Type 0} (result : Option T) (P : T → Type 0) → result ≡ None → IfSome result P
some_none (Some x) P is = absurd cc
some_none None P is = tt
