-- The contents of a pair of files, what the calls do to them, and what a crash may leave.
use Rattle.std.specs.Prelude.{◌≡◌, ◌⊎◌, ◌<◌, ◌≤◌, ℕ, suc, ◌+◌, ◌++◌, List, length, Result, IsErrOf}
use Rattle.oram_redo.specs.Content.{Content, Agrees, bytes_at, put}
use Rattle.oram_redo.specs.declared.file_pair.FileKind.{FileKind}
use Rattle.oram_redo.specs.declared.file_pair.FileKind.TheVariants.{Records, Log}
use Rattle.oram_redo.specs.declared.faults.RedoError.{RedoError}
use Rattle.oram_redo.specs.declared.faults.RedoError.TheVariants.{Failed, NoRoom}

abbrev pub Contents : Type 0
Contents = FileKind → Content

-- What contracts say of a pair of files of the type D.
pub record FileModel (D : Type 0) : Type 1 where
  -- what a read returns
  pub seen : D → Contents
  -- what a crash at this moment may leave
  pub may_leave : D → Contents → Type 0
  -- the current moment, as a number that never falls
  pub moment : D → ℕ
  -- what a crash at the given moment or a later one might have left, during a call or between two
  pub left_since : D → ℕ → Contents → Type 0
  -- Each read has returned what was there. Code can't find out whether that is so, so only theorems about values may rest on
  -- it.
  pub is_honest : D → Type 0
  -- at least the given number of calls have failed
  pub failures : D → ℕ → Type 0
  -- at least the given number of writes have found no room
  pub shortages : D → ℕ → Type 0

abbrev pub other_than : FileKind → FileKind
other_than Records = Log
other_than Log = Records

abbrev pub Same : Contents → Contents → Type 0
Same c d = (file : FileKind) → Agrees (c file) (d file)

-- the file has these bytes at that place, and the other file is as it was
pub record Wrote (file : FileKind) (at : ℕ) (bytes : List ℕ) (old new : Contents) : Type 0 where
  pub there : Agrees (new file) (put bytes at (old file))
  pub other : Agrees (new (other_than file)) (old (other_than file))

-- n bytes were appended; if the content is known, they are its bytes from `at` on
pub record ReadOnto (n at : ℕ) (c : Content) (is_known : Type 0) (old new : List ℕ) : Type 0 where
  pub read : List ℕ
  pub long : length read ≡ n
  pub grown : new ≡ old ++ read
  pub is : is_known → read ≡ bytes_at n at c

-- A write of n bytes that was cut short: its range may have any bytes, and no other byte changed. Several such writes,
-- one after the other, leave any bytes in all their ranges. That includes any part of the writes, in any order, torn at
-- any byte.
pub record Torn (file : FileKind) (at n : ℕ) (old new : Contents) : Type 0 where
  pub before : (i : ℕ) → i < at → new file i ≡ old file i
  pub after : (i : ℕ) → at + n ≤ i → new file i ≡ old file i
  pub other : Agrees (new (other_than file)) (old (other_than file))

-- a crash leaves of this file what a read returns
abbrev pub IsSure : {D : Type 0} → FileModel D → FileKind → D → Type 0
IsSure model file files = (c : Contents) → model.may_leave files c → Agrees (c file) (model.seen files file)

-- each new outcome of a crash is an old outcome after `step`
abbrev pub Follows : (Contents → Contents → Type 0) → (Contents → Type 0) → (Contents → Type 0) → Type 0
Follows step old new = (c : Contents) → new c → (d : Contents) × old d × step d c

-- Time goes on from the moment `before` to `now`: a crash since t might have left what it might have left before, or what
-- it may leave now.
pub record Elapses (before now : ℕ) (past since : ℕ → Contents → Type 0) (may_leave : Contents → Type 0) : Type 0 where
  pub later : before ≤ now
  pub nothing_else : (t : ℕ) (c : Contents) → t ≤ before → since t c → past t c ⊎ may_leave c
  pub keeps : (t : ℕ) (c : Contents) → t ≤ before → past t c → since t c

-- time goes on from one state of a pair to another
abbrev pub TimeGoesOn : {D : Type 0} → FileModel D → D → D → Type 0
TimeGoesOn model old new = Elapses (model.moment old) (model.moment new) (model.left_since old) (model.left_since new) (model.may_leave new)

-- A crash at any moment since `old` leaves files that P holds of.
pub record LeavesOnly {D : Type 0} (model : FileModel D) (old new : D) (P : Contents → Type 0) : Type 0 where
  pub later : model.moment old ≤ model.moment new
  pub each : (c : Contents) → model.left_since new (model.moment old) c → P c
  -- for a run that began earlier
  pub before : (t : ℕ) (c : Contents) → t ≤ model.moment old → model.left_since new t c → model.left_since old t c ⊎ P c

-- Nothing is written: a read returns what it returned before, and a crash leaves what it might have left before.
pub record WritesNothing {D : Type 0} (model : FileModel D) (old new : D) : Type 0 where
  pub seen_same : Same (model.seen new) (model.seen old)
  pub leaves : (c : Contents) → model.may_leave new c → model.may_leave old c
  pub moments : LeavesOnly model old new (model.may_leave old)

-- One state of a pair comes after another: the counts of failed calls and of writes that found no room don't fall, and
-- if the pair is honest now, it was honest before.
pub record ComesAfter {D : Type 0} (model : FileModel D) (old new : D) : Type 0 where
  pub honest : model.is_honest new → model.is_honest old
  pub failed : (n : ℕ) → model.failures old n → model.failures new n
  pub short : (n : ℕ) → model.shortages old n → model.shortages new n

-- the count has risen by at least one
abbrev pub Rises : {D : Type 0} → (D → ℕ → Type 0) → D → D → Type 0
Rises count old new = (n : ℕ) → count old n → count new (suc n)

-- An error of the files comes only if its count has risen.
pub record HasCause {D T : Type 0} (model : FileModel D) (old new : D) (result : Result T RedoError) : Type 0 where
  pub failed : IsErrOf result Failed → Rises model.failures old new
  pub no_room : IsErrOf result NoRoom → Rises model.shortages old new

-- a call has failed since, or a write has found no room
abbrev pub HasFailed : {D : Type 0} → FileModel D → D → D → Type 0
HasFailed model old new = Rises model.failures old new ⊎ Rises model.shortages old new
