-- The first text of new files.
use Rattle.std.proofs.Common.{◌≡◌, inl, ℕ, ◌+◌, ◌<◌, List, [], ◌∷◌, length, refl, sym, ap, ◌∙◌, subst, arith}
use Rattle.oram_kept.specs.Kept.{bounds}
use Rattle.oram_kept.specs.Laws.{WrittenFilesHold}
use Rattle.oram_kept.specs.Layout.{Holds, after_at, before_at}
use Rattle.oram_kept.specs.Pages.{batch_for}
use Rattle.oram_kept.specs.Text.{Parts}
use Rattle.oram_kept.proofs.Renewed.{AreWithin}
use Rattle.oram_redo.specs.Content.{Content}
use Rattle.oram_redo.specs.FilePair.{FileModel}
use Rattle.oram_redo.specs.Log.{IsLog, Patch, put_all}
use Rattle.oram_redo.specs.declared.file_pair.FileKind.TheVariants.{Log, Records}
use Rattle.oram_redo.proofs.Heal.{put_all-append, put_all_spares}
use Rattle.oram_redo.proofs.Moments.{same_content}

-- the front of the file stays as it is
pub front_stays : (p : Parts) (title rest : List ℕ) (pages : List Patch) (head : List ℕ) (c : Content) → AreWithin 8192 (before_at p) pages
    → (i : ℕ) → i < 4096 → put_all (batch_for pages p title rest head) c i ≡ c i
front_stays p title rest pages head c within i below =
    ap (λ (d : Content). d i) (put_all-append pages last c)
    ∙ put_all_spares last (put_all pages c) i (inl (omega (arith, below)), (inl (omega (arith, below)), (inl (omega (arith, below)), (inl below, tt))))
    ∙ put_all_spares pages c i (within.spares i (inl (omega (arith, below))))
  where
    last : List Patch
    last = (before_at p, title) ∷ (before_at p + length title, rest) ∷ (after_at p, p.after) ∷ (4096, head) ∷ []

-- a log whose first gate is shut has no entries
new_log : (log : Content) → log 4096 ≡ 15 → IsLog bounds [] log
new_log log gate = record { stands = refl; shut = λ is. absurd (omega (arith, gate, is)); within = omega arith; each = λ k d below. absurd (omega arith) }

pub written_files_hold : {F : Type 0} (model : FileModel F) → WrittenFilesHold model
written_files_hold model files p holds shut sure c left =
    let records : c Records ≡ model.seen files Records = same_content (c Records) (model.seen files Records) (sure Records c left) in
    record {
      records = c Records;
      stands = record { patches = []; log = new_log (c Log) (sure Log c left 4096 ∙ shut); gives = λ i spared. refl };
      holds = subst (λ (d : Content). Holds p d) (sym records) holds;
    }
