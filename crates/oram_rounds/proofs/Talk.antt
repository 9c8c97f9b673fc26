-- What a core and its link do while messages are exchanged, as acts.
use Rattle.std.proofs.Common.{◌≡◌, ℕ, true, List, [], ◌∷◌, ◌++◌, Some, refl, sym, ap, ◌∙◌, subst, inl, inr, append-nil}
use Rattle.std.proofs.lemmas.Grind.{flat_map-append}
use Rattle.std.proofs.lemmas.List.Elements.{All-head, All-tail}
use Rattle.std.specs.List.{All, FoldsTo, flat_map}
use Rattle.oram_semantics.specs.Progress.Status.{Waiting}
use Rattle.oram_semantics.specs.Run.{Shown}
use Rattle.oram_semantics.specs.Scheme.{Scheme}
use Rattle.oram_semantics.specs.State.{State, status_in}
use Rattle.oram_semantics.specs.declared.events.Event.TheVariants.{Reopen, Retry}
use Rattle.oram_semantics.specs.declared.events.Reply.{Reply}
use Rattle.oram_core.specs.PlainSteps.{Done as Did, stalled_by}
use Rattle.oram_core.specs.Steps.{Steps, did}
use Rattle.oram_session.specs.Exchanges.{Delivery, IsCutOff, IsSent, Runs, event_of, is_stall, retried}
use Rattle.oram_session.specs.Outcome.{Outcome}
use Rattle.oram_session.specs.CoreWork.{outstanding}
use Rattle.oram_session.proofs.CoreSteps.{retried_is, stalled}
use Rattle.oram_session.proofs.Honesty.{waits_by}
use Rattle.oram_link_laws.specs.Runs.{Exchange}
use Rattle.oram_link_laws.proofs.Exchanged.{folds_join}
use Rattle.oram_rounds.specs.Batches.{BatchOutcome}
use Rattle.oram_rounds.specs.Process.{Act, HasTalked, KeepsNothing, Talks, TalksAll, replies_of}
use Rattle.oram_rounds.specs.Process.Act.{Calls, GoesAhead, Hears, Keeps, Misses}
use Rattle.oram_rounds.specs.Rounds.{IsCounted, Round}

module _ {B : Type 0} (batches : B → List (List ℕ) → BatchOutcome → List Exchange → B → Type 0) (v : Scheme) where
  abbrev pub Side : Type 0
  Side = State × Round B

  abbrev CallsWith : List ℕ → Round B → Outcome → Round B → Type 0
  CallsWith message l o m = IsCounted batches l message o m

  -- one after the other
  pub talked_more : (p q r : Side) (first second : List Reply) → HasTalked v batches p first q → HasTalked v batches q second r → HasTalked v batches p (first ++ second) r
  talked_more p q r first second one two = record {
    acts = one.acts ++ two.acts;
    talks = folds_join {P = Side} {A = Act} (Talks v batches) p q r one.acts two.acts one.talks two.talks;
    replied = flat_map-append replies_of one.acts two.acts ∙ ap (λ (rs : List Reply). rs ++ flat_map replies_of two.acts) one.replied ∙ ap (λ (rs : List Reply). first ++ rs) two.replied;
  }

  -- the link is called, and the core hears what came of it
  called_once : (s t : State) (l m : Round B) (message : List ℕ) (o : Outcome) (x : Shown) → outstanding s ≡ Some message → IsCounted batches l message o m
      → Steps v s (event_of o) x t → HasTalked v batches (s, l) x.replies (t, m)
  called_once s t l m message o x out call step = record {
    acts = Calls o call.exchanges x ∷ [];
    talks = ((t, m), (message, out, call.call, step), refl);
    replied = append-nil x.replies;
  }

  -- a core that waits is sent on after a stall: it hears of the stall, and sends its message again
  stalled_once : (s u t : State) (l m : Round B) (message : List ℕ) (o : Outcome) (x y : Shown) → status_in s ≡ Waiting → is_stall o ≡ true → outstanding s ≡ Some message
      → IsCounted batches l message o m → Steps v s (event_of o) x u → Steps v u Retry y t → HasTalked v batches (s, l) [] (s, m) × (x.replies ≡ []) × (y.replies ≡ []) × (t ≡ s)
  stalled_once s u t l m message o x y waits stall out call step again =
      let st : did x u ≡ stalled_by s = stalled v s u o x waits stall step in
      let none : x.replies ≡ [] = ap (λ (d : Did). d.replies) st in
      let back = retried_is v s u t y waits (ap (λ (d : Did). d.state) st) again in
      let retry : HasTalked v batches (u, m) [] (s, m) = record {
        acts = Hears Retry y ∷ [];
        talks = ((s, m), (inr refl, subst (Steps v u Retry y) back.1 again, refl), refl);
        replied = refl;
      } in
      let first : HasTalked v batches (s, l) [] (u, m) = subst (λ (rs : List Reply). HasTalked v batches (s, l) rs (u, m)) none (called_once s u l m message o x out call step) in
      (talked_more (s, l) (u, m) (s, m) [] [] first retry, none, back.0, back.1)

  -- Calls stall, and the core sends its message again after each. Then there is one more call. The core hears of it, or
  -- memory runs out first.

  delivered : (stalls : List Outcome) (o : Outcome) (s t : State) (l m : Round B) (message : List ℕ) (replies : List Reply) → status_in s ≡ Waiting → outstanding s ≡ Some message
      → All (λ k. is_stall k ≡ true) stalls → FoldsTo {P = Round B} {A = Outcome} (CallsWith message) l (stalls ++ o ∷ []) m → Runs v s (retried stalls ++ event_of o ∷ []) replies t
      → HasTalked v batches (s, l) replies (t, m)
  delivered [] o s t l m message replies waits out stall link run =
      let x : Shown = run.0 in
      let once : HasTalked v batches (s, l) x.replies (run.1, link.0) = called_once s run.1 l link.0 message o x out link.1 run.3 in
      let all : x.replies ≡ replies = sym (run.5 ∙ ap (λ (rs : List Reply). x.replies ++ rs) run.4.0 ∙ append-nil x.replies) in
      subst (λ (k : State). HasTalked v batches (s, l) replies (k, m)) run.4.1
      (subst (λ (k : Round B). HasTalked v batches (s, l) replies (run.1, k)) link.2
      (subst (λ (rs : List Reply). HasTalked v batches (s, l) rs (run.1, link.0)) all once))
  delivered (k ∷ stalls) o s t l m message replies waits out stall link run =
      let again = run.4 in
      let one = stalled_once s run.1 again.1 l link.0 message k run.0 again.0 waits (All-head (λ j. is_stall j ≡ true) k stalls stall) out link.1 run.3 again.3 in
      let rest : Runs v s (retried stalls ++ event_of o ∷ []) again.2 t = subst (λ (b : State). Runs v b (retried stalls ++ event_of o ∷ []) again.2 t) one.3 again.4 in
      let more = delivered stalls o s t link.0 m message again.2 waits out (All-tail (λ j. is_stall j ≡ true) k stalls stall) link.2 rest in
      let later : run.2 ≡ again.2 = again.5 ∙ ap (λ (rs : List Reply). rs ++ again.2) one.2 in
      let all : replies ≡ again.2 = run.5 ∙ ap (λ (rs : List Reply). rs ++ run.2) one.1 ∙ later in
      subst (λ (rs : List Reply). HasTalked v batches (s, l) rs (t, m)) (sym all) (talked_more (s, l) (s, link.0) (t, m) [] again.2 one.0 more)

  missed : (stalls : List Outcome) (o : Outcome) (s t : State) (l m : Round B) (message : List ℕ) (replies : List Reply) → status_in s ≡ Waiting → outstanding s ≡ Some message
      → All (λ k. is_stall k ≡ true) stalls → FoldsTo {P = Round B} {A = Outcome} (CallsWith message) l (stalls ++ o ∷ []) m → Runs v s (retried stalls) replies t
      → HasTalked v batches (s, l) replies (t, m)
  missed [] o s t l m message replies waits out stall link run =
      let once : HasTalked v batches (s, l) [] (t, link.0) = record {
        acts = Misses o link.1.exchanges ∷ [];
        talks = ((t, link.0), (message, out, link.1.call, sym run.1), refl);
        replied = refl;
      } in
      subst (λ (k : Round B). HasTalked v batches (s, l) replies (t, k)) link.2 (subst (λ (rs : List Reply). HasTalked v batches (s, l) rs (t, link.0)) (sym run.0) once)
  missed (k ∷ stalls) o s t l m message replies waits out stall link run =
      let again = run.4 in
      let one = stalled_once s run.1 again.1 l link.0 message k run.0 again.0 waits (All-head (λ j. is_stall j ≡ true) k stalls stall) out link.1 run.3 again.3 in
      let rest : Runs v s (retried stalls) again.2 t = subst (λ (b : State). Runs v b (retried stalls) again.2 t) one.3 again.4 in
      let more = missed stalls o s t link.0 m message again.2 waits out (All-tail (λ j. is_stall j ≡ true) k stalls stall) link.2 rest in
      let later : run.2 ≡ again.2 = again.5 ∙ ap (λ (rs : List Reply). rs ++ again.2) one.2 in
      let all : replies ≡ again.2 = run.5 ∙ ap (λ (rs : List Reply). rs ++ run.2) one.1 ∙ later in
      subst (λ (rs : List Reply). HasTalked v batches (s, l) rs (t, m)) (sym all) (talked_more (s, l) (s, link.0) (t, m) [] again.2 one.0 more)

  pub sent_talks : (most : ℕ) (p : Side) (x : Delivery) (q : Side) → IsSent v (IsCounted batches) most p x q → HasTalked v batches p x.replies q
  sent_talks most p x q sent =
      let waits = waits_by p.0 (status_in p.0) x.message refl sent.message in
      delivered x.stalls x.last p.0 q.0 p.1 q.1 x.message x.replies waits.0 sent.message sent.stalls sent.link sent.core

  pub cut_talks : (most : ℕ) (p : Side) (x : Delivery) (q : Side) → IsCutOff v (IsCounted batches) most p x q → (replies : List Reply) × HasTalked v batches p replies q
  cut_talks most p x q cut =
      let waits = waits_by p.0 (status_in p.0) x.message refl cut.message in
      elim cut.core [
        | inl before ↦ ([], missed x.stalls x.last p.0 q.0 p.1 q.1 x.message [] waits.0 cut.message cut.stalls cut.link before)
        | inr after ↦ (x.replies, delivered x.stalls x.last p.0 q.0 p.1 q.1 x.message x.replies waits.0 cut.message cut.stalls cut.link after)
      ]

  -- the keeper isn't asked to keep anything
  pub talks_keep_nothing : (acts : List Act) (p q : Side) → TalksAll v batches p acts q → KeepsNothing acts
  talks_keep_nothing [] p q all = tt
  talks_keep_nothing (Hears event x ∷ acts) p q all = talks_keep_nothing acts all.0 q all.2
  talks_keep_nothing (Calls o exchanges x ∷ acts) p q all = talks_keep_nothing acts all.0 q all.2
  talks_keep_nothing (Misses o exchanges ∷ acts) p q all = talks_keep_nothing acts all.0 q all.2
  talks_keep_nothing (GoesAhead exchanges ∷ acts) p q all = talks_keep_nothing acts all.0 q all.2
  talks_keep_nothing (Keeps done ∷ acts) p q all = absurd all.1

  -- a core that was reopened, and has sent its message again or not

  pub reopened_talks : (s t : State) (l : Round B) → Runs v s (Reopen ∷ Retry ∷ []) [] t
      → (x y : Shown) × (talk : HasTalked v batches (s, l) [] (t, l)) × (talk.acts ≡ Hears Reopen x ∷ Hears Retry y ∷ [])
  reopened_talks s t l run =
      let again = run.4 in (
        run.0,
        again.0,
        record {
          acts = Hears Reopen run.0 ∷ Hears Retry again.0 ∷ [];
          talks = ((run.1, l), (inl refl, run.3, refl), ((again.1, l), (inr refl, again.3, refl), ap (λ (k : State). let p : Side = (k, l) in p) again.4.1));
          replied = refl;
        },
        refl,
      )

  pub lost_talks : (s t : State) (l : Round B) → Runs v s (Reopen ∷ []) [] t
      → (x : Shown) × (talk : HasTalked v batches (s, l) [] (t, l)) × (talk.acts ≡ Hears Reopen x ∷ [])
  lost_talks s t l run = (
    run.0,
    record {
      acts = Hears Reopen run.0 ∷ [];
      talks = ((run.1, l), (inl refl, run.3, refl), ap (λ (k : State). let p : Side = (k, l) in p) run.4.1);
      replied = refl;
    },
    refl,
  )
