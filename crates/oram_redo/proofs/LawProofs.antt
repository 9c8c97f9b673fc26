-- The laws of the definitions.
use Rattle.std.proofs.Common.{◌≡◌, ℕ, ◌+◌, List, [], ◌∷◌, length, refl, sym, ◌∙◌, ap, arith}
use Rattle.oram_redo.specs.Content.{Content, Agrees}
use Rattle.oram_redo.specs.FilePair.{Contents}
use Rattle.oram_redo.specs.Log.{HasOddGate, Patch, IsLog, AgreesBut, StandsFor, entry, entries, put_all}
use Rattle.oram_redo.specs.declared.bounds.Bounds.{Bounds}
use Rattle.oram_redo.specs.declared.file_pair.FileKind.TheVariants.{Records, Log}
use Rattle.oram_redo.proofs.Bytes.{has_front}
use Rattle.oram_redo.proofs.Heal.{put_all_heals}
use Rattle.oram_redo.proofs.Logs.{entry_gate}
use Rattle.oram_redo.proofs.LogReads.{all_read}

pub logs_are_one : (bounds : Bounds) (ps qs : List Patch) (log : Content) → IsLog bounds ps log → IsLog bounds qs log → ps ≡ qs
logs_are_one bounds ps qs log p q =
    all_read bounds log qs ps (bounds.log_start + length (entries qs)) (record { stands = q.stands; ends = refl; each = q.each }) (record { shut = q.shut; room = q.within }) p

-- the gate after a log's last entry
module _ (bounds : Bounds) (ps : List Patch) (log : Content) (end : ℕ) (is : IsLog bounds ps log) (ends : end ≡ bounds.log_start + length (entries ps)) where
  pub odd_gate : (log end ≡ 15 → ⊥) → HasOddGate bounds log
  odd_gate odd = record { patches = ps; is = is; odd = λ zero. odd (ap log ends ∙ zero) }

  pub no_odd_gate : log end ≡ 15 → HasOddGate bounds log → ⊥
  no_odd_gate zero has =
      let same : has.patches ≡ ps = logs_are_one bounds has.patches ps log has.is is in
      has.odd (ap (λ (qs : List Patch). log (bounds.log_start + length (entries qs))) same ∙ ap log (sym ends) ∙ zero)

pub files_stand_for_one : (bounds : Bounds) (loose : List Patch) (r s : Content) (files : Contents) → StandsFor bounds [] r files → StandsFor bounds loose s files → AgreesBut loose r s
files_stand_for_one bounds loose r s files a b i spared =
    let same : a.patches ≡ b.patches = logs_are_one bounds a.patches b.patches (files Log) a.log b.log in
    sym (a.gives i tt) ∙ ap (λ (ps : List Patch). put_all ps (files Records) i) same ∙ b.gives i spared

pub replay_heals : (ps : List Patch) (c d : Content) → AgreesBut ps c d → Agrees (put_all ps c) (put_all ps d)
replay_heals ps c d same i = put_all_heals ps c d i (same i)

-- records of zeros, and a log whose first gate is shut, stand for zeros
pub empty_stands : (bounds : Bounds) (ps : List Patch) (files : Contents) → ((i : ℕ) → files Records i ≡ 0) → files Log bounds.log_start ≡ 15 → IsLog bounds ps (files Log) → (i : ℕ) → put_all ps (files Records) i ≡ 0
empty_stands bounds [] files empty gate log i = empty i
empty_stands bounds (p ∷ ps) files empty gate log i =
    let open_gate : files Log bounds.log_start ≡ 255 = entry_gate p bounds.log_start (files Log) (has_front (entry p) (entries ps) bounds.log_start (files Log) log.stands) in
    absurd (omega (arith, open_gate, gate))
