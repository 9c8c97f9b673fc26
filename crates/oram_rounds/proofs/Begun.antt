-- A batch was begun, and its answers arrived while a core and its link talked.
use Rattle.std.proofs.Common.{◌≡◌, ◌≢◌, ◌⊎◌, inl, inr, Result, Ok, Err, List, ℕ, [], ◌∷◌, ◌++◌, false, refl, sym, ap, ◌∙◌, subst}
use Rattle.std.specs.List.{AllByRecursion}
use Rattle.std.specs.Prelude.{IfOk, OnErr}
use Rattle.oram_semantics.specs.Scheme.{Scheme}
use Rattle.oram_semantics.specs.State.{State}
use Rattle.oram_semantics.specs.declared.events.Reply.{Reply}
use Rattle.oram_link_laws.specs.Runs.{Exchange}
use Rattle.oram_rounds.specs.Arrivals.{AreArriving, Awaited, GoesAheadAndTalks, WasBegun, ended}
use Rattle.oram_rounds.specs.Batches.{BatchOutcome}
use Rattle.oram_rounds.specs.PathMessages.{IsPathFetch}
use Rattle.oram_rounds.specs.Process.{Act, HasTalked, KeepsNothing, next_bodies}
use Rattle.oram_rounds.specs.Process.Act.{GoesAhead}
use Rattle.oram_rounds.specs.Rounds.{Round, WentAhead}
use Rattle.oram_rounds.proofs.Arriving.{just_begun}
use Rattle.oram_rounds.proofs.Meanwhile.{Along, AlongUntilCut}
use Rattle.oram_rounds.proofs.Talk.{talked_more, talks_keep_nothing}

module _ {B : Type 0} (v : Scheme) (batches : B → List (List ℕ) → BatchOutcome → List Exchange → B → Type 0) (streams : B → List (List ℕ) → List (List ℕ) → B → Type 0) where
  -- a link ends the batch that was begun, and becomes another one
  abbrev pub Settles : Awaited → Round B → Round B → Type 0
  Settles a p o = (r : Round B) (fetches : List (List ℕ)) (put : List Exchange) → fetches ≢ [] → AllByRecursion (IsPathFetch r.device) fetches → r.held ≡ [] → AreArriving batches streams r fetches put a p
      → (exchanges more : List Exchange) × WentAhead batches r fetches exchanges (record r { inner = o.inner; kept = o.kept; ahead = put ++ more }) × (o ≡ ended p o.inner o.kept more)

  module _ (l m p o : Round B) (fetches : List (List ℕ)) (some : fetches ≢ []) (paths : AllByRecursion (IsPathFetch m.device) fetches) (begun : WasBegun streams l fetches m) (s t : State) (a : Awaited) (settles : Settles a p o) where
    awaited : Awaited
    awaited = record { due = fetches; full = false; broken = false }

    first : AreArriving batches streams l fetches [] (record { due = fetches; full = false; broken = false }) m
    first = just_begun batches streams l fetches m begun.same begun.begun

    paths_there : AllByRecursion (IsPathFetch l.device) fetches
    paths_there = subst (λ (r : Round B). AllByRecursion (IsPathFetch r.device) fetches) begun.same paths

    from_start : (inner : B) (kept : List (List ℕ)) (es : List Exchange) → (let r : Round B = record l { inner = inner; kept = kept; ahead = es } in ended m inner kept es ≡ r)
    from_start inner kept es =
        ap (λ (r : Round B). ended r inner kept es) begun.same ∙ ap (λ (ahead : List Exchange). let r : Round B = record l { inner = inner; kept = kept; ahead = ahead ++ es } in r) begun.ahead

    goes : (put : List Exchange) → AreArriving batches streams l fetches put a p
        → (replies : List Reply) → ((more : List Exchange) → HasTalked v batches (s, ended m o.inner o.kept (put ++ more)) replies (t, ended p o.inner o.kept more)) → GoesAheadAndTalks v batches (s, l) fetches replies (t, o)
    goes put arriving replies talks =
        let up = settles l fetches put some paths_there begun.held arriving in
        record {
          exchanges = up.0;
          link = record l { inner = o.inner; kept = o.kept; ahead = put ++ up.1 };
          went = up.2;
          talked = subst (λ (r : Round B). HasTalked v batches (s, record l { inner = o.inner; kept = o.kept; ahead = put ++ up.1 }) replies (t, r)) (sym up.3)
              (subst (λ (r : Round B). HasTalked v batches (s, r) replies (t, ended p o.inner o.kept up.1)) (from_start o.inner o.kept (put ++ up.1)) (talks up.1));
        }

    pub settled_talks : (replies : List Reply) → Along v batches streams s m (record { due = fetches; full = false; broken = false }) replies a t p → GoesAheadAndTalks v batches (s, l) fetches replies (t, o)
    settled_talks replies along = let now = along l fetches first in goes now.0 now.1 replies (λ more. now.2 o.inner o.kept more)

    pub settled_cut : AlongUntilCut v batches streams s m (record { due = fetches; full = false; broken = false }) a t p → (replies : List Reply) × GoesAheadAndTalks v batches (s, l) fetches replies (t, o)
    settled_cut along =
        let now = along l fetches first in
        let up = settles l fetches now.0 some paths_there begun.held now.1 in
        let talks = now.2 o.inner o.kept up.1 in (
          talks.0,
          record {
            exchanges = up.0;
            link = record l { inner = o.inner; kept = o.kept; ahead = now.0 ++ up.1 };
            went = up.2;
            talked = subst (λ (r : Round B). HasTalked v batches (s, record l { inner = o.inner; kept = o.kept; ahead = now.0 ++ up.1 }) talks.0 (t, r)) (sym up.3)
                (subst (λ (r : Round B). HasTalked v batches (s, r) talks.0 (t, ended p o.inner o.kept up.1)) (from_start o.inner o.kept (now.0 ++ up.1)) talks.1);
          },
        )

-- and they talk on
pub goes_more : {B : Type 0} (v : Scheme) (batches : B → List (List ℕ) → BatchOutcome → List Exchange → B → Type 0) (p q r : State × Round B) (fetches : List (List ℕ)) (first second : List Reply)
    → GoesAheadAndTalks v batches p fetches first q → HasTalked v batches q second r → GoesAheadAndTalks v batches p fetches (first ++ second) r
goes_more v batches p q r fetches first second one two =
    record { exchanges = one.exchanges; link = one.link; went = one.went; talked = talked_more batches v (p.0, one.link) q r first second one.talked two }

-- No batch was begun, and the FETCHes go ahead in one that is answered as a whole.
pub not_begun_talks : {B : Type 0} (v : Scheme) (batches : B → List (List ℕ) → BatchOutcome → List Exchange → B → Type 0) (s t : State) (l m n o : Round B) (fetches : List (List ℕ)) (exchanges : List Exchange) (replies : List Reply)
    → fetches ≡ next_bodies v.device s → (m ≡ l) ⊎ ((before : List Exchange) × WentAhead batches l fetches before m) → WentAhead batches m fetches exchanges n → HasTalked v batches (s, n) replies (t, o)
    → GoesAheadAndTalks v batches (s, l) fetches replies (t, o)
not_begun_talks v batches s t l m n o fetches exchanges replies next (inl same) went talked =
    record { exchanges = exchanges; link = n; went = subst (λ (r : Round _). WentAhead batches r fetches exchanges n) same went; talked = talked }
not_begun_talks v batches s t l m n o fetches exchanges replies next (inr lost) went talked = record {
  exchanges = lost.0;
  link = m;
  went = lost.1;
  talked = record {
    acts = GoesAhead exchanges ∷ talked.acts;
    talks = ((s, n), (subst (λ (bodies : List (List ℕ)). WentAhead batches m bodies exchanges n) next went, refl), talked.talks);
    replied = talked.replied;
  };
}

-- as acts of a process
pub as_acts : {B : Type 0} (v : Scheme) (batches : B → List (List ℕ) → BatchOutcome → List Exchange → B → Type 0) (s t : State) (l o : Round B) (fetches : List (List ℕ)) (replies : List Reply)
    → fetches ≡ next_bodies v.device s → GoesAheadAndTalks v batches (s, l) fetches replies (t, o)
    → (talked : HasTalked v batches (s, l) replies (t, o)) × (exchanges : List Exchange) × (rest : List Act) × (talked.acts ≡ GoesAhead exchanges ∷ rest) × KeepsNothing rest
as_acts v batches s t l o fetches replies next goes = (
  record {
    acts = GoesAhead goes.exchanges ∷ goes.talked.acts;
    talks = ((s, goes.link), (subst (λ (bodies : List (List ℕ)). WentAhead batches l bodies goes.exchanges goes.link) next goes.went, refl), goes.talked.talks);
    replied = goes.talked.replied;
  },
  goes.exchanges,
  goes.talked.acts,
  refl,
  talks_keep_nothing batches v goes.talked.acts (s, goes.link) (t, o) goes.talked.talks,
)

-- what follows from what holds of a result
pub if_ok : {A E : Type 0} (r : Result A E) (P Q : A → Type 0) → ((x : A) → P x → Q x) → IfOk r P → IfOk r Q
if_ok (Ok x) P Q more holds = more x holds
if_ok (Err e) P Q more holds = tt

pub if_err : {A E : Type 0} (r : Result A E) (P Q : Type 0) → (P → Q) → OnErr r P → OnErr r Q
if_err (Ok x) P Q more holds = tt
if_err (Err e) P Q more holds = more holds
