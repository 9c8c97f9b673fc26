-- What a crash leaves in each step of a loose write and of a restart.
use Rattle.std.proofs.Common.{◌≡◌, ◌≢◌, ◌⊎◌, inl, inr, ⊎_elim, ℕ, ◌+◌, ◌<◌, ◌≤◌, List, [], ◌∷◌, length, sym, ◌∙◌, ap, subst, arith}
use Rattle.std.proofs.lemmas.Bool.{cases_eq}
use Rattle.std.proofs.lemmas.Bool.Decides.{nat_tests}
use Rattle.oram_redo.specs.Content.{Agrees, Content, put}
use Rattle.oram_redo.specs.FilePair.{Contents, Same, Follows, Torn, Wrote}
use Rattle.oram_redo.specs.Log.{Patch, IsLog, put_all, Spares, entry, entries, StandsFor, Keeps}
use Rattle.oram_redo.specs.Redo.{AreCrashConsistent, bounds_of, end_of}
use Rattle.oram_redo.specs.Steps.{Tears}
use Rattle.oram_redo.specs.declared.bounds.Bounds.{Bounds}
use Rattle.oram_redo.specs.declared.redo.Redo.{Redo}
use Rattle.oram_redo.specs.declared.file_pair.FileKind.TheVariants.{Records, Log}
use Rattle.oram_redo.proofs.Bytes.{has_front}
use Rattle.oram_redo.proofs.Heal.{put_all_heals}
use Rattle.oram_redo.proofs.Logs.{log_kept, log_none, entries_none, entry_gate}

keeps_more : (bounds : Bounds) (p : Patch) (loose : List Patch) (before c : Contents) → Keeps bounds loose before c → Keeps bounds (p ∷ loose) before c
keeps_more bounds p loose before c keeps = record {
  front = keeps.front;
  stands = record { patches = keeps.stands.patches; log = keeps.stands.log; gives = λ i spared. keeps.stands.gives i spared.1 };
}

pub gate_written : (b at : ℕ) (c : Content) → put (b ∷ []) at c at ≡ b
gate_written b at c = grind (arith, nat_tests)

module _ (redo : Redo) (loose : List Patch) (seen : Contents) (leave : Contents → Type 0) (s : AreCrashConsistent redo loose seen leave) where
  pub keeps_now : (c : Contents) → leave c → Keeps (bounds_of redo) loose seen c
  keeps_now c now = record {
    front = λ i low. s.sure c now i (omega (arith, s.end));
    stands = record {
      patches = s.patches;
      log = log_kept (bounds_of redo) s.patches (seen Log) (c Log) s.log (λ i le. s.sure c now i (omega (arith, s.end)));
      gives = s.stands c now;
    };
  }

  -- nothing was written
  pub consistent_same : (seen' : Contents) (leave' : Contents → Type 0) → Same seen' seen → ((c : Contents) → leave' c → leave c) → AreCrashConsistent redo loose seen' leave'
  consistent_same seen' leave' same fewer = record {
    patches = s.patches;
    log = log_kept (bounds_of redo) s.patches (seen Log) (seen' Log) s.log (λ i le. same Log i);
    end = s.end;
    sure = λ c now i le. s.sure c (fewer c now) i le ∙ sym (same Log i);
    stands = λ c now i spared. s.stands c (fewer c now) i spared ∙ sym (same Records i);
  }

  -- a loose patch, written in part or whole
  module _ (p : Patch) where
    outside : (old new : Contents) → Torn Records p.0 (length p.1) old new → (i : ℕ) → (i < p.0 ⊎ p.0 + length p.1 ≤ i) → new Records i ≡ old Records i
    outside old new torn i out = ⊎_elim (λ low. torn.before i low) (λ high. torn.after i high) out

    torn_gives : (d c : Contents) → leave d → Torn Records p.0 (length p.1) d c → (i : ℕ) → Spares (p ∷ loose) i → put_all s.patches (c Records) i ≡ seen Records i
    torn_gives d c was torn i spared = put_all_heals s.patches (c Records) (d Records) i (λ any. outside d c torn i spared.0) ∙ s.stands d was i spared.1

    pub consistent_loose : (seen' : Contents) (leave' : Contents → Type 0) → Torn Records p.0 (length p.1) seen seen' → Follows (Torn Records p.0 (length p.1)) leave leave' → AreCrashConsistent redo (p ∷ loose) seen' leave'
    consistent_loose seen' leave' torn follows = record {
      patches = s.patches;
      log = log_kept (bounds_of redo) s.patches (seen Log) (seen' Log) s.log (λ i le. torn.other i);
      end = s.end;
      sure = λ c now i le. let from = follows c now in from.2.other i ∙ s.sure from.0 from.1 i le ∙ sym (torn.other i);
      stands = λ c now i spared. let from = follows c now in torn_gives from.0 c from.1 from.2 i spared ∙ sym (outside seen seen' torn i spared.0);
    }

    pub keeps_loose : (leave' : Contents → Type 0) → Follows (Torn Records p.0 (length p.1)) leave leave' → (c : Contents) → leave' c → Keeps (bounds_of redo) (p ∷ loose) seen c
    keeps_loose leave' follows c now =
        let from = follows c now in
        record {
          front = λ i low. from.2.other i ∙ s.sure from.0 from.1 i (omega (arith, s.end));
          stands = record {
            patches = s.patches;
            log = log_kept (bounds_of redo) s.patches (seen Log) (c Log) s.log (λ i le. from.2.other i ∙ s.sure from.0 from.1 i (omega (arith, s.end)));
            gives = λ i spared. torn_gives from.0 c from.1 from.2 i spared;
          };
        }

    pub keeps_before : (c : Contents) → leave c → Keeps (bounds_of redo) (p ∷ loose) seen c
    keeps_before c now = keeps_more (bounds_of redo) p loose seen c (keeps_now c now)

  -- The records are on the disk, so the log may be emptied.
  module _ (sure : (c : Contents) → leave c → Agrees (c Records) (seen Records)) where
    pub consistent_empty : end_of redo ≡ redo.bounds.log_start → AreCrashConsistent redo [] seen leave
    consistent_empty empty =
        let none : s.patches ≡ [] = entries_none s.patches (omega (arith, s.end, empty)) in
        record {
          patches = [];
          log = subst (λ (ps : List Patch). IsLog (bounds_of redo) ps (seen Log)) none s.log;
          end = omega (arith, empty);
          sure = s.sure;
          stands = λ c now i spared. sure c now i;
        }

    first_gate : (ps : List Patch) → IsLog (bounds_of redo) ps (seen Log) → end_of redo ≡ redo.bounds.log_start + length (entries ps) → (end_of redo ≡ redo.bounds.log_start → ⊥) → seen Log redo.bounds.log_start ≡ 255
    first_gate [] log end full = absurd (full (omega (arith, end)))
    first_gate (p ∷ ps) log end full = entry_gate p redo.bounds.log_start (seen Log) (has_front (entry p) (entries ps) redo.bounds.log_start (seen Log) log.stands)

    pub keeps_shut : (end_of redo ≡ redo.bounds.log_start → ⊥) → (c : Contents) → Tears Log redo.bounds.log_start 1 leave c → Keeps (bounds_of redo) loose seen c
    keeps_shut full c (d, was, torn) = record {
      front = λ i low. torn.before i low ∙ s.sure d was i (omega (arith, s.end));
      stands = elim (cases_eq (c Log redo.bounds.log_start) 255) [ inl gate ↦ open_still gate | inr gate ↦ shut_now gate ];
    }
      where
        same : c Log redo.bounds.log_start ≡ 255 → (i : ℕ) → i ≤ redo.bounds.log_start + length (entries s.patches) → c Log i ≡ seen Log i
        same gate i le = elim (cases_eq i redo.bounds.log_start) [
          | inl here ↦ ap (c Log) here ∙ gate ∙ sym (first_gate s.patches s.log s.end full) ∙ ap (seen Log) (sym here)
          | inr other ↦ elsewhere other
        ]
          where
            elsewhere : i ≢ redo.bounds.log_start → c Log i ≡ seen Log i
            elsewhere ne = ⊎_elim (λ low. torn.before i low) (λ high. torn.after i high) (sides ne) ∙ s.sure d was i (omega (arith, s.end))
              where
                sides : i ≢ redo.bounds.log_start → (i < redo.bounds.log_start ⊎ redo.bounds.log_start + 1 ≤ i)
                sides not_here = grind arith

        open_still : c Log redo.bounds.log_start ≡ 255 → StandsFor (bounds_of redo) loose (seen Records) c
        open_still gate = record {
          patches = s.patches;
          log = log_kept (bounds_of redo) s.patches (seen Log) (c Log) s.log (same gate);
          gives = λ i spared. put_all_heals s.patches (c Records) (d Records) i (λ any. torn.other i) ∙ s.stands d was i spared;
        }

        shut_now : (c Log redo.bounds.log_start ≡ 255 → ⊥) → StandsFor (bounds_of redo) loose (seen Records) c
        shut_now gate = record {
          patches = [];
          log = log_none (bounds_of redo) (c Log) (omega (arith, s.log.within)) gate;
          gives = λ i spared. torn.other i ∙ sure d was i;
        }

    pub consistent_shut : (seen' : Contents) (leave' : Contents → Type 0) → Wrote Log redo.bounds.log_start (15 ∷ []) seen seen' → ((c : Contents) → leave' c → Agrees (c Log) (seen' Log))
        → Follows (Torn Log redo.bounds.log_start 1) leave leave' → AreCrashConsistent (record { bounds = redo.bounds; end = redo.bounds.log_start }) [] seen' leave'
    consistent_shut seen' leave' wrote log_sure follows =
        let gate : seen' Log redo.bounds.log_start ≡ 15 = wrote.there redo.bounds.log_start ∙ gate_written 15 redo.bounds.log_start (seen Log) in
        record {
          patches = [];
          log = log_none (bounds_of redo) (seen' Log) (omega (arith, s.log.within)) (λ one. absurd (omega (arith, gate, one)));
          end = omega arith;
          sure = λ c now i le. log_sure c now i;
          stands = λ c now i spared. let from = follows c now in from.2.other i ∙ sure from.0 from.1 i ∙ sym (wrote.other i);
        }
