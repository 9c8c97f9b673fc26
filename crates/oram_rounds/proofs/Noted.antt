-- What a process does, where each keeping is with the note of its link.
use Rattle.std.proofs.Common.{◌≡◌, ◌⊎◌, ℕ, true, false, List, [], ◌∷◌, ◌++◌, refl, sym, ap, ◌∙◌, subst, inl, inr}
use Rattle.std.proofs.lemmas.Grind.{flat_map-append}
use Rattle.std.specs.List.{flat_map}
use Rattle.oram_semantics.specs.Scheme.{Scheme}
use Rattle.oram_semantics.specs.State.{State}
use Rattle.oram_semantics.specs.declared.events.Reply.{Reply}
use Rattle.oram_link_laws.specs.Runs.{Exchange}
use Rattle.oram_link_laws.proofs.Exchanged.{folds_join}
use Rattle.oram_rounds.specs.Batches.{BatchOutcome}
use Rattle.oram_rounds.specs.Files.{IsFile, IsFileWith, check_of}
use Rattle.oram_rounds.specs.Keeping.{DoesAllNoted, IsKeptWithNote, IsNoted, MayBeKeptWithNote}
use Rattle.oram_rounds.specs.Law.{LearningSendsNothing}
use Rattle.oram_rounds.specs.LinkNotes.{LinkNote}
use Rattle.oram_rounds.specs.Process.{Act, Does, DoesAll, HasTalked, Process, TalksAll, replies_of}
use Rattle.oram_rounds.specs.Process.Act.{Calls, GoesAhead, Hears, Keeps, Misses}
use Rattle.oram_rounds.specs.Rounds.{Round, waiting}

module _ {B K : Type 0} (batches : B → List (List ℕ) → BatchOutcome → List Exchange → B → Type 0) (notes : B → LinkNote) (learns : B → ℕ → B → Type 0) (reads_back : K → List ℕ → Type 0) where
  abbrev pub DoesNoted : Scheme → Process B K → Act → Process B K → Type 0
  DoesNoted v p act q = Does v batches reads_back p act q × IsNoted v notes learns reads_back p act q

  abbrev pub AllNoted : Scheme → Process B K → List Act → Process B K → Type 0
  AllNoted v p acts q = DoesAllNoted v notes learns reads_back batches p acts q

  abbrev at : State × Round B → K → Process B K
  at p keeper = record { core = p.0; link = p.1; keeper = keeper }

  -- such acts are acts of the process
  pub noted_does : (v : Scheme) (acts : List Act) (p q : Process B K) → AllNoted v p acts q → DoesAll v batches reads_back p acts q
  noted_does v [] p q all = all
  noted_does v (act ∷ acts) p q all = (all.0, all.1.0, noted_does v acts all.0 q all.2)

  -- the process keeps itself with the note
  pub keeps_noted : LearningSendsNothing batches learns → (v : Scheme) (p q : Process B K) → IsKeptWithNote v notes learns reads_back p q → q.core ≡ p.core
      → q.link ≡ record p.link { inner = q.link.inner; kept = waiting p.link; held = []; ahead = [] } → DoesNoted v p (Keeps true) q
  keeps_noted quiet v p q kept core link = (
    (
      λ bytes back. subst (λ (b : List ℕ). IsFile v b (waiting p.link) p.core) (sym (kept.only bytes back)) kept.is.0,
      core,
      link,
      quiet p.link.inner q.link.inner (check_of v (waiting p.link) (notes p.link.inner) p.core) kept.learned,
    ),
    kept,
  )

  -- the keeper fails
  pub keeps_not : (v : Scheme) (p q : Process B K) → MayBeKeptWithNote v notes learns reads_back p q → q.core ≡ p.core → q.link ≡ p.link → DoesNoted v p (Keeps false) q
  keeps_not v p q kept core link = ((λ bytes back. either bytes (kept bytes back), core, link), kept)
    where
      either : (bytes : List ℕ) → IsFileWith v bytes (waiting p.link) (notes p.link.inner) p.core ⊎ reads_back p.keeper bytes → IsFile v bytes (waiting p.link) p.core ⊎ reads_back p.keeper bytes
      either bytes (inl new) = inl new.0
      either bytes (inr old) = inr old

  -- while a core and its link talk, the keeper stays as it is
  pub talks_beside : (v : Scheme) (keeper : K) (acts : List Act) (p q : State × Round B) → TalksAll v batches p acts q → AllNoted v (at p keeper) acts (at q keeper)
  talks_beside v keeper [] p q all = ap (λ (r : State × Round B). at r keeper) all
  talks_beside v keeper (Hears event x ∷ acts) p q all = (at all.0 keeper, ((all.1, refl), tt), talks_beside v keeper acts all.0 q all.2)
  talks_beside v keeper (Calls o exchanges x ∷ acts) p q all = (at all.0 keeper, ((all.1, refl), tt), talks_beside v keeper acts all.0 q all.2)
  talks_beside v keeper (Misses o exchanges ∷ acts) p q all = (at all.0 keeper, ((all.1, refl), tt), talks_beside v keeper acts all.0 q all.2)
  talks_beside v keeper (GoesAhead exchanges ∷ acts) p q all = (at all.0 keeper, ((all.1, refl), tt), talks_beside v keeper acts all.0 q all.2)
  talks_beside v keeper (Keeps done ∷ acts) p q all = absurd all.1

  -- what a process does after its core and its link have talked without a reply
  pub done_after : (v u : Scheme) (keeper : K) (p q : State × Round B) (r : Process B K) (acts : List Act) → u ≡ v → (talk : HasTalked v batches p [] q)
      → AllNoted u (at q keeper) acts r
      → (all : List Act) × (flat_map replies_of all ≡ flat_map replies_of acts) × AllNoted v (at p keeper) all r × (all ≡ talk.acts ++ acts)
  done_after v u keeper p q r acts same talk does =
      let first : AllNoted v (at p keeper) talk.acts (at q keeper) = talks_beside v keeper talk.acts p q talk.talks in
      let second : AllNoted v (at q keeper) acts r = subst (λ (w : Scheme). AllNoted w (at q keeper) acts r) same does in (
        talk.acts ++ acts,
        flat_map-append replies_of talk.acts acts ∙ ap (λ (rs : List Reply). rs ++ flat_map replies_of acts) talk.replied,
        folds_join {P = Process B K} {A = Act} (DoesNoted v) (at p keeper) (at q keeper) r talk.acts acts first second,
        refl,
      )

  -- the keeper fails after that
  pub kept_not : (v u : Scheme) (keeper : K) (p q : State × Round B) (r : Process B K) → u ≡ v → HasTalked v batches p [] q → AllNoted u (at q keeper) (Keeps false ∷ []) r
      → (acts : List Act) × AllNoted v (at p keeper) (acts ++ Keeps false ∷ []) r
  kept_not v u keeper p q r same talk does =
      let first : AllNoted v (at p keeper) talk.acts (at q keeper) = talks_beside v keeper talk.acts p q talk.talks in
      let second : AllNoted v (at q keeper) (Keeps false ∷ []) r = subst (λ (w : Scheme). AllNoted w (at q keeper) (Keeps false ∷ []) r) same does in
      (talk.acts, folds_join {P = Process B K} {A = Act} (DoesNoted v) (at p keeper) (at q keeper) r talk.acts (Keeps false ∷ []) first second)
