-- Nothing is lost while two files are opened.
use Rattle.std.proofs.Common.{◌≡◌, inl, inr, ℕ, zero, suc, ◌<◌, List, [], ◌∷◌, true, refl, sym, ◌∙◌, ap, subst, arith}
use Rattle.oram_redo.specs.Content.{Content}
use Rattle.oram_redo.specs.FilePair.{Contents}
use Rattle.oram_redo.specs.Log.{Patch, StandsAlike, StandsFor}
use Rattle.oram_redo.specs.Memory.{IsOutside, LeavesBut, byte_of}
use Rattle.oram_redo.specs.NamedLog.{AreDone, HasRead, IsLeft, IsOnDisk, IsUnnamed, copied}
use Rattle.oram_redo.specs.Note.{Call}
use Rattle.oram_redo.specs.Opened.{Opened, contents_in}
use Rattle.oram_redo.specs.Opening.{AreDurable, AreDurableNow, OpeningExample, RecoveriesLoseNothing, RenewalsLoseNothing, with_log}
use Rattle.oram_redo.specs.Renewal.{AtEachMoment, HasEntriesOf, IsCopy, KeepsEntries, call, is_copied, is_renewed, short_log}
use Rattle.oram_redo.specs.declared.bounds.Bounds.{Bounds}
use Rattle.oram_redo.specs.declared.file_pair.FileKind.TheVariants.{Log, Records}
use Rattle.oram_redo.proofs.Bytes.{put_outside}
use Rattle.oram_redo.proofs.LawProofs.{files_stand_for_one}
use Rattle.oram_redo.proofs.Logs.{log_none}
use Rattle.oram_redo.proofs.Moments.{same_content}
use Rattle.oram_redo.proofs.Recorded.{fewer_ranges, none_of_file}
use Rattle.oram_redo.proofs.Renewals.{folder_never, folder_renewed, renewal_example, renewed_stand}

-- what holds whenever something else does holds at each moment that the other does
each_moment : (P Q : List Call → Type 0) → ((calls : List Call) → P calls → Q calls) → (calls : List Call) → AtEachMoment P calls → AtEachMoment Q calls
each_moment P Q leads [] at = leads [] at
each_moment P Q leads (call ∷ calls) at = (leads (call ∷ calls) at.0, each_moment P Q leads calls at.1)

-- a file of records beside another log
beside : Contents → Content → Contents
beside c log Records = c Records
beside c log Log = log

module _ (bounds : Bounds) (loose : List Patch) (records : Content) (held : Opened) (durable : AreDurable bounds loose records held) where
  module _ (c : Contents) (file : (i : ℕ) → IsOutside held.unsynced Records i → c Records i ≡ byte_of held.records i) where
    -- the log itself
    old_log : IsLeft held (c Log) → LeavesBut held.unsynced (contents_in held) c
    old_log left Records i outside = file i outside
    old_log left Log i outside = left i outside

    whole_log : LeavesBut held.unsynced (contents_in held) (beside c (byte_of held.log))
    unfolding beside
    whole_log Records i outside = file i outside
    whole_log Log i outside = refl

    -- a log with the same entries
    new_log : HasEntriesOf bounds (byte_of held.log) (c Log) → StandsFor bounds loose records c
    unfolding beside
    new_log has = renewed_stand bounds loose records (beside c (byte_of held.log)) c has (λ i. refl) (durable (beside c (byte_of held.log)) whole_log)

  durable_now : (calls : List Call) → KeepsEntries bounds held calls → AreDurableNow bounds loose records held calls
  durable_now calls keeps c found = elim (keeps (c Log) found.1) [
    | inl left ↦ durable c (old_log c found.0 left)
    | inr has ↦ new_log c found.0 has
  ]

  -- the pair that is made afterwards
  durable_with : (log : List ℕ) → HasEntriesOf bounds (byte_of held.log) (byte_of log) → AreDurable bounds loose records (with_log held log)
  durable_with log has c left =
      let same : byte_of log ≡ c Log = sym (same_content (c Log) (byte_of log) (λ i. left Log i (none_of_file Log held.unsynced i))) in
      new_log c (λ i outside. left Records i (fewer_ranges Log held.unsynced Records i outside)) (subst (λ (l : Content). HasEntriesOf bounds (byte_of held.log) l) same has)

pub renewals_lose_nothing : RenewalsLoseNothing
renewals_lose_nothing bounds loose records held calls durable read = record {
  any_moment = λ never. each_moment (KeepsEntries bounds held) (AreDurableNow bounds loose records held) (durable_now bounds loose records held durable) calls (never held read);
  after = λ renewed log found. durable_with bounds loose records held durable log (renewed held read (byte_of log) found);
}

-- files that stand for what other files stand for
pub alike_stands : (bounds : Bounds) (loose : List Patch) (records : Content) (before c : Contents) → StandsFor bounds loose records before → StandsAlike bounds before c → StandsFor bounds loose records c
alike_stands bounds loose records before c stands alike = record {
  patches = alike.is.patches;
  log = alike.is.log;
  gives = λ i spared. alike.is.gives i tt ∙ files_stand_for_one bounds loose alike.records records before alike.was stands i spared;
}

pub recoveries_lose_nothing : RecoveriesLoseNothing
recoveries_lose_nothing bounds loose records held c durable (inl left) = durable c left
recoveries_lose_nothing bounds loose records held c durable (inr alike) = alike_stands bounds loose records (contents_in held) c (durable (contents_in held) (λ file i outside. refl)) alike

-- the example
abbrev made : List Call
made = call 3 0 [] ∷ is_copied

made_unnamed : IsUnnamed made
made_unnamed = (
  (λ is. absurd (omega (arith, is))),
  ((λ is. absurd (omega (arith, is))), ((λ is. absurd (omega (arith, is))), ((λ is. absurd (omega (arith, is))), ((λ is. absurd (omega (arith, is))), tt)))),
)

made_done : AreDone made
made_done = (refl, (refl, (refl, (refl, (refl, tt)))))

made_synced : IsOnDisk made
unfolding made_done
made_synced = ((λ is. absurd (omega (arith, is))), inl (refl, made_done))

-- the only byte of the short log is its first one
short_ends : (i : ℕ) → 0 < i → byte_of short_log.log i ≡ 0
short_ends zero low = absurd (omega (arith, low))
short_ends (suc i) low = refl

module _ (bounds : Bounds) (front : 0 < bounds.log_start) (room : bounds.log_start < bounds.log_end) where
  same_log : (log : Content) → HasRead log made → (i : ℕ) → copied made i ≡ log i
  same_log log read zero = ap (λ (bytes : List ℕ). byte_of bytes 0) (read.2.2.2.0 refl refl)
  same_log log read (suc i) = put_outside (7 ∷ []) 0 (λ k. 0) (suc i) (inr (omega arith)) ∙ sym (read.2.1 refl refl refl (suc i) (omega arith))

  made_copy : IsCopy bounds made
  made_copy log read = (bounds.log_end, inl refl, λ i low. same_log log read i)

  log_start_kept : (c : Contents) → LeavesBut short_log.unsynced (contents_in short_log) c → c Log bounds.log_start ≡ 0
  log_start_kept c left = left Log bounds.log_start ((λ same. inr (omega (arith, front))), tt) ∙ short_ends bounds.log_start front

  no_records : (c : Contents) → LeavesBut short_log.unsynced (contents_in short_log) c → (i : ℕ) → c Records i ≡ 0
  no_records c left i = left Records i ((λ same. absurd cc), tt)

  short_durable : AreDurable bounds [] (λ i. 0) short_log
  short_durable c left = record { patches = []; log = log_none bounds (c Log) room (λ gate. omega (arith, gate, log_start_kept c left)); gives = λ i spared. no_records c left i }

  pub opening_example : OpeningExample bounds
  opening_example = record {
    durable = short_durable;
    read = renewal_example.0;
    never = folder_never bounds made room made_unnamed made_done made_synced made_copy true true;
    renewed = folder_renewed bounds made room made_unnamed made_done made_synced made_copy true refl;
    found = renewal_example.3;
    loses = renewals_lose_nothing bounds [] (λ i. 0) short_log is_renewed short_durable renewal_example.0;
  }
