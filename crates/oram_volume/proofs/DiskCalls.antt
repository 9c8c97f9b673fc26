-- What a volume does as a disk of bytes, by what it does to arrays of blocks.
use Rattle.std.proofs.Common.{◌≡◌, ℕ, Bool, true, false, List, [], ◌∷◌, ◌++◌, IfSome, Option, None, Some, refl, sym, ap, ◌∙◌, subst, inl, inr, append_assoc}
use Rattle.std.proofs.lemmas.Grind.{flat_map-append}
use Rattle.std.specs.List.{FoldsTo, flat_map}
use Rattle.oram_bucket.specs.Cipher.{Cipher}
use Rattle.oram_geometry.specs.declared.Sizes.{Sizes}
use Rattle.oram_core.specs.Core.{IsSameDevice}
use Rattle.oram_link_laws.specs.Runs.{Exchange}
use Rattle.oram_link_laws.proofs.Exchanged.{folds_join}
use Rattle.oram_nbd.specs.Beside.{GoesOn, Arrays, HasArrays}
use Rattle.oram_nbd.specs.Calls.{SavesAll, SavesPart}
use Rattle.oram_nbd.proofs.Beside.{one_call}
use Rattle.oram_rounds.specs.Batches.{BatchOutcome}
use Rattle.oram_rounds.specs.Process.Act.{Keeps}
use Rattle.oram_volume.specs.Blocks.{IsLaidOut, blocks_from}
use Rattle.oram_rounds.specs.ProcessSteps.{ProcessStep, exchanges_in}
use Rattle.oram_volume.specs.CarriedOut.{Had, Stops, TakesStep, TakesSteps}
use Rattle.oram_rounds.specs.ProcessSteps.ProcessStep.{Acts, Takes}
use Rattle.oram_volume.specs.DiskCalls.{VolumeGoesOn}
use Rattle.oram_volume.proofs.KeptFirst.{sends_join}
use Rattle.oram_volume.specs.HeldArrays.{HostBeside, HostHears, HoldsArray, HoldsBytes, KeepsArray, KeepsBytes, Running, running}
use Rattle.oram_volume.specs.Parts.{VolumeParts as Volume}

module _ {B K : Type 0} (batches : B → List (List ℕ) → BatchOutcome → List Exchange → B → Type 0) (reads_back : K → List ℕ → Type 0) where
  -- calls that were made one after the other are one call with the exchanges of them all
  all_had : (calls : List (List Exchange)) (p q : Running B K) → FoldsTo {P = Running B K} {A = List Exchange} (Had batches reads_back) p calls q
      → Had batches reads_back p (flat_map (λ (es : List Exchange). es) calls) q
  all_had [] p q same = ([], same, refl, tt)
  all_had (exchanges ∷ calls) p q all =
      let rest = all_had calls all.0 q all.2 in (
        all.1.0 ++ rest.0,
        folds_join {P = Running B K} {A = ProcessStep} (TakesStep batches reads_back) p all.0 q all.1.0 rest.0 all.1.1 rest.1,
        flat_map-append exchanges_in all.1.0 rest.0 ∙ ap (λ (es : List Exchange). es ++ flat_map exchanges_in rest.0) all.1.2
            ∙ ap (λ (es : List Exchange). exchanges ++ es) rest.2,
        sends_join true all.1.0 rest.0 all.1.3 rest.3,
      )

  -- what has stopped a process has stopped it over a longer time
  stops_behind : (steps : List ProcessStep) (p mid q : Running B K) → TakesSteps batches reads_back p steps mid → Stops batches reads_back mid q → Stops batches reads_back p q
  stops_behind steps p mid q taken stop = (
    steps ++ stop.0,
    folds_join {P = Running B K} {A = ProcessStep} (TakesStep batches reads_back) p mid q steps stop.0 taken stop.1,
    elim stop.2 [
      | inl stalls ↦ inl stalls
      | inr other ↦ elim other [
        | inl unkept ↦ inr (inl (steps ++ unkept.0, ap (λ (l : List ProcessStep). steps ++ l) unkept.1 ∙ sym (append_assoc steps unkept.0 (Acts (Keeps false) ∷ []))))
        | inr refused ↦ inr (inr (
          steps ++ refused.0,
          refused.1,
          refused.2,
          refused.3,
          ap (λ (l : List ProcessStep). steps ++ l) refused.4 ∙ sym (append_assoc steps refused.0 (Takes refused.2 ∷ refused.1)),
        ))
      ]
    ],
  )

-- what is saved has these bytes
abbrev pub AreLaid : Sizes → Option (ℕ → List ℕ) → Option (List ℕ) → Type 0
AreLaid d None None = Unit {0}
AreLaid d None (Some bytes) = ⊥
AreLaid d (Some array) None = ⊥
AreLaid d (Some array) (Some bytes) = IsLaidOut d array bytes

-- what is known of bytes is known of the arrays that have these bytes
pub record IsLaid (d : Sizes) (arrays : Arrays (ℕ → List ℕ)) (bytes : Arrays (List ℕ)) : Type 0 where
  pub held : IsLaidOut d arrays.held bytes.held
  pub saved : AreLaid d arrays.saved bytes.saved

module _ (d : Sizes) (from to : Arrays (ℕ → List ℕ)) (bytes : Arrays (List ℕ)) (laid : IsLaid d from bytes) where
  -- a call has done all, in arrays and so in bytes
  pub laid_all : {touched touched' : Type 0} → SavesAll touched from to → (now : List ℕ) → IsLaidOut d to.held now → (touched' → touched)
      → (next : Arrays (List ℕ)) × (next.held ≡ now) × IsLaid d to next × SavesAll touched' bytes next
  laid_all k now there less = elim k.either [
    | inl saved ↦ (
      record { held = now; saved = Some now },
      refl,
      record { held = there; saved = subst (λ (o : Option (ℕ → List ℕ)). AreLaid d o (Some now)) (sym saved) there },
      record { either = inl refl },
    )
    | inr rest ↦ (
      bytes,
      laid.held.all ∙ ap (λ (h : Arrays (ℕ → List ℕ)). blocks_from h.held 0 d.blocks) (sym rest.1) ∙ sym there.all,
      subst (λ (h : Arrays (ℕ → List ℕ)). IsLaid d h bytes) (sym rest.1) laid,
      record { either = inr ((λ t. rest.0 (less t)), refl) },
    )
  ]

  -- a call has failed
  pub laid_part : {begun : (ℕ → List ℕ) → (ℕ → List ℕ) → Type 0} (begun' : List ℕ → List ℕ → Type 0) → SavesPart begun from to
      → ((part : ℕ → List ℕ) → begun from.held part → (b : List ℕ) × begun' bytes.held b × IsLaidOut d part b) → (now : List ℕ) → IsLaidOut d to.held now
      → (next : Arrays (List ℕ)) × (next.held ≡ now) × IsLaid d to next × SavesPart begun' bytes next
  laid_part begun' k parts now there = elim k.either [
    | inl same ↦ (
      record { held = now; saved = bytes.saved },
      refl,
      record { held = there; saved = subst (λ (o : Option (ℕ → List ℕ)). AreLaid d o bytes.saved) (sym same) laid.saved },
      record { either = inl refl },
    )
    | inr part ↦
        let b = parts part.0 part.1 in (
          record { held = now; saved = Some b.0 },
          refl,
          record { held = there; saved = subst (λ (o : Option (ℕ → List ℕ)). AreLaid d o (Some b.0)) (sym part.2) b.2 },
          record { either = inr (b.0, b.1, refl) },
        )
  ]

-- a process that keeps an array holds it
keeps_hold : {B K : Type 0} (reads_back : K → List ℕ → Type 0) (may_lie : Bool) (p : Running B K) (w : HostBeside) (before array : ℕ → List ℕ) → KeepsArray reads_back may_lie p w before array → HoldsArray may_lie p w array
keeps_hold reads_back may_lie p w before array k = record {
  same = k.same;
  device = k.device;
  same_device = k.safe.device;
  same_len = k.safe.record_len_is;
  will_hold = k.safe.live;
  ahead = k.safe.ahead;
}

module _ {S B K T : Type 0} (cipher : S → Cipher) (words : T → ℕ → ℕ → List ℕ) (batches : B → List (List ℕ) → BatchOutcome → List Exchange → B → Type 0) (reads_back : K → List ℕ → Type 0) where
  -- what is known of the bytes of a volume, as what is known of its array
  in_arrays : (d : Volume S B K T) (may_lie : Bool) (w : HostBeside) (now : List ℕ) (saved : Option (List ℕ)) → HoldsBytes may_lie (running cipher words d) w now
      → IfSome saved (λ bytes. KeepsBytes reads_back may_lie (running cipher words d) w bytes now)
      → (from : Arrays (ℕ → List ℕ)) × HasArrays HoldsArray (KeepsArray reads_back) may_lie (running cipher words d) w from × IsLaid d.core.device from (record { held = now; saved = saved })
  in_arrays d may_lie w now None h k = (record { held = h.array; saved = None }, (h.holds, tt), record { held = h.laid; saved = tt })
  in_arrays d may_lie w now (Some bytes) h k = (
    record { held = k.array; saved = Some k.before },
    (keeps_hold reads_back may_lie (running cipher words d) w k.before k.array k.keeps, k.keeps),
    record { held = k.laid; saved = k.laid_before },
  )

  -- and back
  saved_bytes : (d : Volume S B K T) (may_lie : Bool) (w : HostBeside) (array : ℕ → List ℕ) (now : List ℕ) (saved : Option (ℕ → List ℕ)) (saved' : Option (List ℕ)) → IsLaidOut d.core.device array now
      → IfSome saved (λ before. KeepsArray reads_back may_lie (running cipher words d) w before array) → AreLaid d.core.device saved saved' → IfSome saved' (λ bytes. KeepsBytes reads_back may_lie (running cipher words d) w bytes now)
  saved_bytes d may_lie w array now None None laid k are = tt
  saved_bytes d may_lie w array now None (Some bytes) laid k are = absurd are
  saved_bytes d may_lie w array now (Some before) None laid k are = absurd are
  saved_bytes d may_lie w array now (Some before) (Some bytes) laid k are = record { before = before; array = array; keeps = k; laid_before = are; laid = laid }

  -- What a volume does to arrays of blocks, it does to their bytes.
  pub as_bytes : (old new : Volume S B K T) → IsSameDevice old.core new.core → {step : Bool → Arrays (ℕ → List ℕ) → Arrays (ℕ → List ℕ) → Type 0} {step' : Bool → Arrays (List ℕ) → Arrays (List ℕ) → Type 0}
      → GoesOn (Had batches reads_back) HostHears (HasArrays HoldsArray (KeepsArray reads_back)) (running cipher words old) step (running cipher words new)
      → ((may_lie : Bool) (from to : Arrays (ℕ → List ℕ)) (bytes : Arrays (List ℕ)) → IsLaid old.core.device from bytes → step may_lie from to
      → (next : Arrays (List ℕ)) × step' may_lie bytes next × IsLaid old.core.device to next)
      → VolumeGoesOn cipher words batches reads_back old step' new
  as_bytes old new kept g laid = one_call (flat_map (λ (es : List Exchange). es) g.calls)
      (all_had batches reads_back g.calls (running cipher words old) (running cipher words new) g.made)
      (λ may_lie world later run bytes h.
      let k = in_arrays old may_lie world bytes.held bytes.saved h.0 h.1 in
      let j = g.leads may_lie world later run k.0 k.1 in
      let r = laid may_lie k.0 j.0 bytes k.2 j.1 in
      let there : IsLaid new.core.device j.0 r.0 = subst (λ (d : Sizes). IsLaid d j.0 r.0) (sym kept.0) r.2 in
      (r.0, r.1, (record { array = j.0.held; holds = j.2.0; laid = there.held }, saved_bytes new may_lie later j.0.held r.0.held j.0.saved r.0.saved there.held j.2.1 there.saved)))

  -- A volume that stops after it has gone on has stopped since then.
  pub stops_after : (old mid new : Volume S B K T) {step : Bool → Arrays (ℕ → List ℕ) → Arrays (ℕ → List ℕ) → Type 0}
      → GoesOn (Had batches reads_back) HostHears (HasArrays HoldsArray (KeepsArray reads_back)) (running cipher words old) step (running cipher words mid)
      → Stops batches reads_back (running cipher words mid) (running cipher words new) → Stops batches reads_back (running cipher words old) (running cipher words new)
  stops_after old mid new g stop =
      let was = all_had batches reads_back g.calls (running cipher words old) (running cipher words mid) g.made in
      stops_behind batches reads_back was.0 (running cipher words old) (running cipher words mid) (running cipher words new) was.1 stop

-- What holds nothing in a world that doesn't lie has failed by lies.
pub by_lies : (H : Bool → Type 0) (may_lie : Bool) → H may_lie → (H false → ⊥) → may_lie ≡ true
by_lies H true h never = refl
by_lies H false h never = absurd (never h)
