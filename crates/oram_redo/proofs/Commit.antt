-- What a crash leaves in each step of a commit.
use Rattle.std.proofs.Common.{◌≡◌, ◌⊎◌, inl, inr, ⊎_elim, ℕ, suc, ◌+◌, ◌<◌, ◌≤◌, List, [], ◌∷◌, ◌++◌, length, sym, ◌∙◌, ap, subst, arith, length-append, take, drop, ◌-◌}
use Rattle.std.proofs.lemmas.Bool.{cases_eq}
use Rattle.std.proofs.lemmas.List.{take_rest}
use Rattle.std.specs.Prelude.{All}
use Rattle.oram_redo.specs.Content.{Content, Agrees, Has, put}
use Rattle.oram_redo.specs.FilePair.{Contents, Follows, Torn, Wrote}
use Rattle.oram_redo.specs.Log.{Patch, Fits, IsLog, put_all, Spares, entries, StandsFor, Keeps, AllOrNothing, Smeared}
use Rattle.oram_redo.specs.Redo.{AreCrashConsistent, bounds_of, end_of}
use Rattle.oram_redo.specs.Steps.{Tears, Smears}
use Rattle.oram_redo.specs.declared.bounds.Bounds.{Bounds}
use Rattle.oram_redo.specs.declared.redo.Redo.{Redo}
use Rattle.oram_redo.specs.declared.file_pair.FileKind.TheVariants.{Records, Log}
use Rattle.oram_redo.proofs.Bytes.{has_same, has_front, has_back, has-append, has-put, put_outside}
use Rattle.oram_redo.proofs.Heal.{put_all_heals, put_all-append}
use Rattle.oram_redo.proofs.Logs.{log_kept, log_more, entries-append}
use Rattle.oram_redo.proofs.Consistent.{gate_written}

pub nothing_yet : (bounds : Bounds) (loose : List Patch) (before : Contents) (batch : List Patch) (c : Contents) → Keeps bounds loose before c → AllOrNothing bounds loose before batch c
nothing_yet bounds loose before batch c keeps = record { front = keeps.front; stands = inl keeps.stands }

-- what was written after the shut gate
pub tail_written : (batch : List Patch) (tail body : List ℕ) (at : ℕ) (seen seen' : Contents) → entries batch ≡ 255 ∷ tail → body ≡ entries batch ++ 15 ∷ []
    → Wrote Log at (take (length body - 1) (drop 1 body)) seen seen' → Has (tail ++ 15 ∷ []) at (seen' Log)
tail_written batch tail body at seen seen' spelled is wrote =
    let written : List ℕ = take (length body - 1) (drop 1 body) in
    let rest : written ≡ tail ++ 15 ∷ [] = take_rest body 1 ∙ ap (λ (l : List ℕ). drop 1 l) is ∙ ap (λ (l : List ℕ). drop 1 (l ++ 15 ∷ [])) spelled in
    let there : Has written at (seen' Log) = has_same written at (put written at (seen Log)) (seen' Log) (λ i low high. wrote.there i) (has-put written at (seen Log)) in
    subst (λ (l : List ℕ). Has l at (seen' Log)) rest there

-- a write after the shut gate
module _ (redo : Redo) (loose : List Patch) (seen : Contents) (leave : Contents → Type 0) (s : AreCrashConsistent redo loose seen leave) (at n : ℕ) (behind : end_of redo < at) where
  pub keeps_behind : (c : Contents) → Tears Log at n leave c → Keeps (bounds_of redo) loose seen c
  keeps_behind c (d, was, torn) =
      let same : (i : ℕ) → i ≤ end_of redo → c Log i ≡ seen Log i = λ i le. torn.before i (omega arith) ∙ s.sure d was i le in
      record {
        front = λ i low. same i (omega (arith, s.end));
        stands = record {
          patches = s.patches;
          log = log_kept (bounds_of redo) s.patches (seen Log) (c Log) s.log (λ i le. same i (omega (arith, s.end)));
          gives = λ i spared. put_all_heals s.patches (c Records) (d Records) i (λ any. torn.other i) ∙ s.stands d was i spared;
        };
      }

  pub consistent_behind : (seen' : Contents) (leave' : Contents → Type 0) → Torn Log at n seen seen' → Follows (Torn Log at n) leave leave' → AreCrashConsistent redo loose seen' leave'
  consistent_behind seen' leave' torn follows = record {
    patches = s.patches;
    log = log_kept (bounds_of redo) s.patches (seen Log) (seen' Log) s.log (λ i le. torn.before i (omega (arith, s.end)));
    end = s.end;
    sure = λ c now i le. let from = follows c now in from.2.before i (omega arith) ∙ s.sure from.0 from.1 i le ∙ sym (torn.before i (omega arith));
    stands = λ c now i spared.
        let from = follows c now in
        put_all_heals s.patches (c Records) (from.0 Records) i (λ any. from.2.other i) ∙ s.stands from.0 from.1 i spared ∙ sym (torn.other i);
  }

  pub alike_behind : (seen' : Contents) (batch : List Patch) (c : Contents) → Torn Log at n seen seen' → AllOrNothing (bounds_of redo) loose seen' batch c → AllOrNothing (bounds_of redo) loose seen batch c
  alike_behind seen' batch c torn all = record {
    front = λ i low. all.front i low ∙ torn.before i (omega (arith, s.end));
    stands = ⊎_elim (λ without. inl (none without)) (λ whole. inr (every whole)) all.stands;
  }
    where
      none : StandsFor (bounds_of redo) loose (seen' Records) c → StandsFor (bounds_of redo) loose (seen Records) c
      none stands = record { patches = stands.patches; log = stands.log; gives = λ i spared. stands.gives i spared ∙ torn.other i }

      every : StandsFor (bounds_of redo) loose (put_all batch (seen' Records)) c → StandsFor (bounds_of redo) loose (put_all batch (seen Records)) c
      every stands = record {
        patches = stands.patches;
        log = stands.log;
        gives = λ i spared. stands.gives i spared ∙ put_all_heals batch (seen' Records) (seen Records) i (λ any. torn.other i);
      }

-- The batch's entries are after the shut gate, all but their first gate, and a shut gate is after them.
module _ (redo : Redo) (loose : List Patch) (seen : Contents) (leave : Contents → Type 0) (s : AreCrashConsistent redo loose seen leave) (sure : (c : Contents) → leave c → Agrees (c Log) (seen Log))
    (batch : List Patch) (tail : List ℕ) (spelled : entries batch ≡ 255 ∷ tail) (whole : Has (tail ++ 15 ∷ []) (end_of redo + 1) (seen Log))
    (room : end_of redo + length (entries batch) < redo.bounds.log_end) (fits : All (Fits (bounds_of redo)) batch) where
  abbrev end : ℕ
  end = end_of redo

  long : length (entries batch) ≡ suc (length tail)
  long = ap length spelled

  log_open : (l : Content) → ((i : ℕ) → (i < end ⊎ end + 1 ≤ i) → l i ≡ seen Log i) → l end ≡ 255 → IsLog (bounds_of redo) (s.patches ++ batch) l
  log_open l same gate =
      let behind : Has (tail ++ 15 ∷ []) (end + 1) l = has_same (tail ++ 15 ∷ []) (end + 1) (seen Log) l (λ i low high. same i (inr low)) whole in
      let rest : Has tail (end + 1) l = has_front tail (15 ∷ []) (end + 1) l behind in
      let one : Has (255 ∷ []) end l = (λ i. gate i ∷ []) in
      let both : Has (255 ∷ tail) end l = has-append (255 ∷ []) tail end l one rest in
      let last : Has (15 ∷ []) (end + 1 + length tail) l = has_back tail (15 ∷ []) (end + 1) l behind in
      let shut_at : l (end + 1 + length tail) ≡ 15 = cc in
      log_more (bounds_of redo) s.patches batch (seen Log) l end s.log s.end (λ i low. same i (inl low))
      (subst (λ (bs : List ℕ). Has bs end l) (sym spelled) both)
      (λ is. absurd (omega (arith, shut_at, sym (ap l (moved)) ∙ is))) room fits
    where
      moved : end + length (entries batch) ≡ end + 1 + length tail
      moved = omega (arith, long)

  log_shut : (l : Content) → ((i : ℕ) → (i < end ⊎ end + 1 ≤ i) → l i ≡ seen Log i) → (l end ≡ 255 → ⊥) → IsLog (bounds_of redo) s.patches l
  log_shut l same gate = record {
    stands = has_same (entries s.patches) redo.bounds.log_start (seen Log) l (λ i low high. same i (inl (omega (arith, s.end)))) s.log.stands;
    shut = λ is. gate (ap l s.end ∙ is);
    within = s.log.within;
    each = s.log.each;
  }

  -- what the patches and the batch give when they are put over what a crash leaves
  gives_all : (c d : Contents) → leave d → Agrees (c Records) (d Records) → (i : ℕ) → Spares loose i → put_all (s.patches ++ batch) (c Records) i ≡ put_all batch (seen Records) i
  gives_all c d was same i spared =
      ap (λ (x : Content). x i) (put_all-append s.patches batch (c Records))
      ∙ put_all_heals batch (put_all s.patches (c Records)) (seen Records) i (λ any. put_all_heals s.patches (c Records) (d Records) i (λ all. same i) ∙ s.stands d was i spared)

  around : (d c : Contents) → leave d → Torn Log end 1 d c → (i : ℕ) → (i < end ⊎ end + 1 ≤ i) → c Log i ≡ seen Log i
  around d c was torn i out = ⊎_elim (λ low. torn.before i low) (λ high. torn.after i high) out ∙ sure d was i

  pub gate_torn : (c : Contents) → Tears Log end 1 leave c → AllOrNothing (bounds_of redo) loose seen batch c
  gate_torn c (d, was, torn) = record {
    front = λ i low. around d c was torn i (inl (omega (arith, s.end)));
    stands = elim (cases_eq (c Log end) 255) [
      | inl gate ↦ inr (record { patches = s.patches ++ batch; log = log_open (c Log) (around d c was torn) gate; gives = gives_all c d was torn.other })
      | inr gate ↦ inl (without gate)
    ];
  }
    where
      without : (c Log end ≡ 255 → ⊥) → StandsFor (bounds_of redo) loose (seen Records) c
      without gate = record {
        patches = s.patches;
        log = log_shut (c Log) (around d c was torn) gate;
        gives = λ i spared. put_all_heals s.patches (c Records) (d Records) i (λ any. torn.other i) ∙ s.stands d was i spared;
      }

  -- the gate is open
  module _ (seen' : Contents) (leave' : Contents → Type 0) (wrote : Wrote Log end (255 ∷ []) seen seen') (sure' : (c : Contents) → leave' c → Agrees (c Log) (seen' Log)) (follows : Follows (Torn Log end 1) leave leave') where
    opened : IsLog (bounds_of redo) (s.patches ++ batch) (seen' Log)
    opened = log_open (seen' Log) (λ i out. wrote.there i ∙ put_outside (255 ∷ []) end (seen Log) i out) (wrote.there end ∙ gate_written 255 end (seen Log))

    -- the places may have any bytes: the log heals them
    healed : (c d : Contents) → leave' d → Smeared batch d c → (i : ℕ) → Spares loose i → put_all (s.patches ++ batch) (c Records) i ≡ put_all batch (seen Records) i
    healed c d was smeared i spared =
        let from = follows d was in
        ap (λ (x : Content). x i) (put_all-append s.patches batch (c Records))
        ∙ put_all_heals batch (put_all s.patches (c Records)) (put_all s.patches (d Records)) i (λ out. put_all_heals s.patches (c Records) (d Records) i (λ any. smeared.records i out))
        ∙ ap (λ (x : Content). x i) (sym (put_all-append s.patches batch (d Records)))
        ∙ gives_all d from.0 from.1 from.2.other i spared

    pub places_torn : (c : Contents) → Smears batch leave' c → AllOrNothing (bounds_of redo) loose seen batch c
    places_torn c (d, was, smeared) = record {
      front = λ i low. smeared.log i ∙ sure' d was i ∙ wrote.there i ∙ put_outside (255 ∷ []) end (seen Log) i (inl (omega (arith, s.end)));
      stands = inr (record {
        patches = s.patches ++ batch;
        log = log_kept (bounds_of redo) (s.patches ++ batch) (seen' Log) (c Log) opened (λ i le. smeared.log i ∙ sure' d was i);
        gives = healed c d was smeared;
      });
    }

    pub consistent_after : (after : ℕ) (seen'' : Contents) (leave'' : Contents → Type 0) → after ≡ end + length (entries batch) → Agrees (seen'' Records) (put_all batch (seen' Records)) → Agrees (seen'' Log) (seen' Log)
        → Follows (Smeared batch) leave' leave'' → AreCrashConsistent (record { bounds = redo.bounds; end = after }) loose seen'' leave''
    consistent_after after seen'' leave'' is records log then_follows = record {
      patches = s.patches ++ batch;
      log = log_kept (bounds_of redo) (s.patches ++ batch) (seen' Log) (seen'' Log) opened (λ i le. log i);
      end = is ∙ omega (arith, s.end, ap length (entries-append s.patches batch), length-append (entries s.patches) (entries batch));
      sure = λ c now i le. let from = then_follows c now in from.2.log i ∙ sure' from.0 from.1 i ∙ sym (log i);
      stands = λ c now i spared.
          let from = then_follows c now in
          healed c from.0 from.1 from.2 i spared ∙ sym (records i ∙ put_all_heals batch (seen' Records) (seen Records) i (λ any. wrote.other i));
    }
