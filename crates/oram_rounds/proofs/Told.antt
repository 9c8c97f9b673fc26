-- Whatever a core and its link do, the link goes on telling of each record that differs from those that were kept.
use Rattle.std.proofs.Common.{◌≡◌, ◌≢◌, ℕ, List, [], ◌∷◌, ◌++◌, inl, inr, subst, sym, ap, refl, arith, length, length-append}
use Rattle.oram_link_laws.specs.Runs.{Exchange}
use Rattle.oram_semantics.specs.Scheme.{Scheme}
use Rattle.oram_semantics.specs.State.{State}
use Rattle.oram_semantics.specs.declared.events.Reply.{Reply}
use Rattle.oram_session.specs.Outcome.{Outcome}
use Rattle.oram_rounds.specs.Batches.{BatchOutcome}
use Rattle.oram_rounds.specs.LinkNotes.{BatchesAreTold, LinkNote}
use Rattle.oram_rounds.specs.Process.{Act, HasTalked, Talks, TalksAll}
use Rattle.oram_rounds.specs.Process.Act.{Calls, GoesAhead, Hears, Keeps, Misses}
use Rattle.oram_rounds.specs.Rounds.{Round, RoundCall, WentAhead}

some_last : (front : List (List ℕ)) (body : List ℕ) → front ++ body ∷ [] ≢ []
some_last front body none = omega (arith, ap length none, length-append front (body ∷ []))

some_first : (bodies behind : List (List ℕ)) → bodies ≢ [] → bodies ++ behind ≢ []
some_first [] behind some none = some refl
some_first (body ∷ bodies) behind some none = omega (arith, ap length none)

module _ {B : Type 0} (batches : B → List (List ℕ) → BatchOutcome → List Exchange → B → Type 0) (notes : B → LinkNote) (tells : B → List ℕ → Type 0) (are : BatchesAreTold notes tells batches) (old : List ℕ) where
  same_told : (l m : B) → m ≡ l → tells l old → tells m old
  same_told l m same told = subst (λ (b : B). tells b old) (sym same) told

  call_told : (l m : Round B) (body : List ℕ) (o : Outcome) (exchanges : List Exchange) → RoundCall batches l body o exchanges m → tells l.inner old → tells m.inner old
  call_told l m body o exchanges call told = elim call.does [
    | inl holds ↦ same_told l.inner m.inner holds.same told
    | inr (inl fetches) ↦ are l.inner m.inner _ fetches.outcome exchanges old (some_last l.kept body) fetches.batch told
    | inr (inr (inl declines)) ↦ same_told l.inner m.inner declines.same told
    | inr (inr (inr takes)) ↦ same_told l.inner m.inner takes.same told
  ]

  ahead_told : (l m : Round B) (fetches : List (List ℕ)) (exchanges : List Exchange) → WentAhead batches l fetches exchanges m → tells l.inner old → tells m.inner old
  ahead_told l m fetches exchanges went told = elim went.does [
    | inl sends ↦ are l.inner m.inner _ sends.outcome exchanges old (some_first fetches l.kept sends.some) sends.batch told
    | inr none ↦ same_told l.inner m.inner none.same told
  ]

  act_told : (v : Scheme) (p q : State × Round B) (act : Act) → Talks v batches p act q → tells p.1.inner old → tells q.1.inner old
  act_told v p q (Hears event x) does told = same_told p.1.inner q.1.inner (ap (λ (l : Round B). l.inner) does.2) told
  act_told v p q (Calls o exchanges x) does told = call_told p.1 q.1 does.0 o exchanges does.2 told
  act_told v p q (Misses o exchanges) does told = call_told p.1 q.1 does.0 o exchanges does.2 told
  act_told v p q (GoesAhead exchanges) does told = ahead_told p.1 q.1 _ exchanges does.0 told
  act_told v p q (Keeps done) does told = absurd does

  talks_told : (v : Scheme) (acts : List Act) (p q : State × Round B) → TalksAll v batches p acts q → tells p.1.inner old → tells q.1.inner old
  talks_told v [] p q all told = subst (λ (r : State × Round B). tells r.1.inner old) all told
  talks_told v (act ∷ acts) p q all told = talks_told v acts all.0 q all.2 (act_told v p all.0 act all.1 told)

  -- FETCHes go ahead, and then the core and the link talk
  pub round_told : (v : Scheme) (l m n : Round B) (fetches : List (List ℕ)) (exchanges : List Exchange) (s t : State) (replies : List Reply) → WentAhead batches l fetches exchanges m
      → HasTalked v batches (s, m) replies (t, n) → tells l.inner old → tells n.inner old
  round_told v l m n fetches exchanges s t replies went talked told = talks_told v talked.acts (s, m) (t, n) talked.talks (ahead_told l m fetches exchanges went told)
