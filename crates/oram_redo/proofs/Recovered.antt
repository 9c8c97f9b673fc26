-- What a crash leaves of a replay, and what files stand for after it.
use Rattle.std.proofs.Common.{◌≡◌, ℕ, ◌+◌, List, [], length, refl, sym, ◌∙◌}
use Rattle.oram_redo.specs.Content.{Agrees}
use Rattle.oram_redo.specs.FilePair.{Contents, Same, Follows}
use Rattle.oram_redo.specs.Log.{Patch, IsLog, StandsFor, StandsAlike, Smeared, entries, put_all}
use Rattle.oram_redo.specs.Redo.{AreCrashConsistent}
use Rattle.oram_redo.specs.Steps.{Smears}
use Rattle.oram_redo.specs.declared.bounds.Bounds.{Bounds}
use Rattle.oram_redo.specs.declared.file_pair.FileKind.TheVariants.{Records, Log}
use Rattle.oram_redo.proofs.Heal.{put_all_heals}
use Rattle.oram_redo.proofs.Logs.{log_kept}

module _ (bounds : Bounds) (ps : List Patch) (seen mid : Contents) (leave : Contents → Type 0) (same : Same mid seen) (log : IsLog bounds ps (seen Log))
    (sure_log : (c : Contents) → leave c → Agrees (c Log) (seen Log)) (sure_records : (c : Contents) → leave c → Agrees (c Records) (seen Records)) where
  -- the log heals whatever a crash has left in the places
  healed : (c d : Contents) → leave d → Smeared ps d c → (i : ℕ) → put_all ps (c Records) i ≡ put_all ps (seen Records) i
  healed c d was smeared i = put_all_heals ps (c Records) (seen Records) i (λ spared. smeared.records i spared ∙ sure_records d was i)

  log_same : (c d : Contents) → leave d → Smeared ps d c → Agrees (c Log) (seen Log)
  log_same c d was smeared i = smeared.log i ∙ sure_log d was i

  pub alike : (c : Contents) → Smears ps leave c → StandsAlike bounds seen c
  alike c (d, was, smeared) = record {
    front = λ i low. log_same c d was smeared i;
    records = put_all ps (seen Records);
    was = record { patches = ps; log = log; gives = λ i spared. refl };
    is = record { patches = ps; log = log_kept bounds ps (seen Log) (c Log) log (λ i le. log_same c d was smeared i); gives = λ i spared. healed c d was smeared i };
  }

  module _ (after : Contents) (records : Agrees (after Records) (put_all ps (mid Records))) where
    replayed : (i : ℕ) → put_all ps (seen Records) i ≡ after Records i
    replayed i = sym (records i ∙ put_all_heals ps (mid Records) (seen Records) i (λ any. same Records i))

    pub stands : StandsFor bounds [] (after Records) seen
    stands = record { patches = ps; log = log; gives = λ i spared. replayed i }

    pub consistent : (end : ℕ) (leave' : Contents → Type 0) → end ≡ bounds.log_start + length (entries ps) → Agrees (after Log) (mid Log) → Follows (Smeared ps) leave leave'
        → AreCrashConsistent (record { bounds = bounds; end = end }) [] after leave'
    consistent end leave' ends kept follows = record {
      patches = ps;
      log = log_kept bounds ps (seen Log) (after Log) log (λ i le. kept i ∙ same Log i);
      end = ends;
      sure = λ c now i le. let from = follows c now in log_same c from.0 from.1 from.2 i ∙ sym (kept i ∙ same Log i);
      stands = λ c now i spared. let from = follows c now in healed c from.0 from.1 from.2 i ∙ replayed i;
    }
