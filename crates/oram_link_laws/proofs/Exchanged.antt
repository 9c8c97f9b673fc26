-- The exchanges of a session: its link has them, and the session is one over each link that has them.
use Rattle.std.proofs.Common.{◌≡◌, ℕ, List, [], ◌∷◌, ◌++◌, map, refl, sym, ap, ◌∙◌, subst, inl, inr}
use Rattle.std.specs.List.{FoldsTo, flat_map}
use Rattle.oram_semantics.specs.Scheme.{Scheme}
use Rattle.oram_semantics.specs.State.{State}
use Rattle.oram_semantics.specs.declared.events.Note.{Note}
use Rattle.oram_semantics.specs.declared.events.Note.TheVariants as note
use Rattle.oram_session.specs.Exchanges.{Delivery, IsSent, AllSent, outcomes_of}
use Rattle.oram_session.specs.Outcome.{Outcome}
use Rattle.oram_session.specs.Turns.{Turn, IsReply, IsTurn, most_retries}
use Rattle.oram_link_laws.specs.Runs.{Exchange, LinkRun, exchanges_in, exchanges_of}

-- a run over a list of two parts is a run over each of them
pub folds_split : {P A : Type 0} (R : P → A → P → Type 0) (p q : P) (xs ys : List A) → FoldsTo R p (xs ++ ys) q
    → (mid : P) × FoldsTo R p xs mid × FoldsTo R mid ys q
folds_split R p q [] ys fold = (p, refl, fold)
folds_split R p q (x ∷ xs) ys fold =
    let rest = folds_split R fold.0 q xs ys fold.2 in (rest.0, (fold.0, fold.1, rest.1), rest.2)

pub folds_join : {P A : Type 0} (R : P → A → P → Type 0) (p mid q : P) (xs ys : List A) → FoldsTo R p xs mid → FoldsTo R mid ys q → FoldsTo R p (xs ++ ys) q
folds_join {P} R p mid q [] ys first second = subst (λ (z : P). FoldsTo R z ys q) (sym first) second
folds_join R p mid q (x ∷ xs) ys first second = (first.0, first.1, folds_join R first.0 mid q xs ys first.2 second)

-- a session's calls are a run of its link
module _ {L : Type 0} (calls : L → List ℕ → Outcome → L → Type 0) where
  called_with : (message : List ℕ) (outcomes : List Outcome) (l m : L) → FoldsTo {P = L} (λ a o b. calls a message o b) l outcomes m
      → LinkRun calls l (map {B = Exchange} (λ o. (message, o)) outcomes) m
  called_with message [] l m link = link
  called_with message (o ∷ outcomes) l m link = (link.0, link.1, called_with message outcomes link.0 m link.2)

  joined : (l mid m : L) (xs ys : List Exchange) → LinkRun calls l xs mid → LinkRun calls mid ys m → LinkRun calls l (xs ++ ys) m
  joined l mid m xs ys first second = folds_join {P = L} {A = Exchange} (λ a e b. calls a e.0 e.1 b) l mid m xs ys first second

  all_ran : (v : Scheme) (most : ℕ) (xs : List Delivery) (p q : State × L) → AllSent v calls most p xs q → LinkRun calls p.1 (flat_map exchanges_of xs) q.1
  all_ran v most [] p q sent = ap (λ (z : State × L). z.1) sent
  all_ran v most (x ∷ xs) p q sent =
      joined p.1 sent.0.1 q.1 (exchanges_of x) (flat_map exchanges_of xs)
      (called_with x.message (outcomes_of x) p.1 sent.0.1 sent.1.0.link) (all_ran v most xs sent.0 q sent.2)

  module _ (v : Scheme) (words : ℕ → ℕ → List ℕ) (session : ℕ) where
    none_ran : (p q : State × L) (turn : Turn) → turn.sendings ≡ [] → p ≡ q → LinkRun calls p.1 (flat_map exchanges_of turn.sendings) q.1
    none_ran p q turn none same =
        subst (λ (xs : List Delivery). LinkRun calls p.1 (flat_map exchanges_of xs) q.1) (sym none) (ap (λ (z : State × L). z.1) same)

    replied_ran : (n : Note) (p q : State × L) (turn : Turn) → IsReply v calls words session n p turn q
        → LinkRun calls p.1 (flat_map exchanges_of turn.sendings) q.1
    replied_ran (note.Accepted ticket) p q turn r = all_ran v most_retries turn.sendings p q r.0
    replied_ran (note.Refused why) p q turn r = none_ran p q turn r.0 r.2
    replied_ran note.Taken p q turn r = absurd r
    replied_ran note.Stalled p q turn r = absurd r
    replied_ran (note.FailedNow why) p q turn r = absurd r
    replied_ran note.Resent p q turn r = absurd r
    replied_ran note.Unexpected p q turn r = absurd r

    turn_ran : (p q : State × L) (turn : Turn) → IsTurn v calls words session p turn q → LinkRun calls p.1 (flat_map exchanges_of turn.sendings) q.1
    turn_ran p q turn (inl u) = none_ran p q turn u.sendings u.same
    turn_ran p q turn (inr s) = replied_ran s.shown.note (s.begun, p.1) q turn s.replied

    pub turns_ran : (turns : List Turn) (p q : State × L) → FoldsTo {P = State × L} (IsTurn v calls words session) p turns q
        → LinkRun calls p.1 (exchanges_in turns) q.1
    turns_ran [] p q fold = ap (λ (z : State × L). z.1) fold
    turns_ran (turn ∷ turns) p q fold =
        joined p.1 fold.0.1 q.1 (flat_map exchanges_of turn.sendings) (exchanges_in turns)
        (turn_ran p fold.0 turn fold.1) (turns_ran turns fold.0 q fold.2)

-- the state of the core, with the other link
abbrev over : {L M : Type 0} → State × L → M → State × M
over p l = (p.0, l)

over_same : {L M : Type 0} (p q : State × L) (l m : M) → p ≡ q → l ≡ m → over p l ≡ over q m
over_same {L} {M} p q l m same is = ap (λ (z : State × L). over z l) same ∙ ap (λ (k : M). over q k) is

-- from one link to another
module _ (v : Scheme) {L M : Type 0} (calls : L → List ℕ → Outcome → L → Type 0) (others : M → List ℕ → Outcome → M → Type 0) where
  called_over : (message : List ℕ) (outcomes : List Outcome) (l m : M) → LinkRun others l (map {B = Exchange} (λ o. (message, o)) outcomes) m
      → FoldsTo {P = M} (λ a o b. others a message o b) l outcomes m
  called_over message [] l m run = run
  called_over message (o ∷ outcomes) l m run = (run.0, run.1, called_over message outcomes run.0 m run.2)

  sent_over : (most : ℕ) (p q : State × L) (x : Delivery) (l m : M) → IsSent v calls most p x q → LinkRun others l (exchanges_of x) m
      → IsSent v others most (p.0, l) x (q.0, m)
  sent_over most p q x l m sent run = record {
    message = sent.message;
    stalls = sent.stalls;
    few = sent.few;
    link = called_over x.message (outcomes_of x) l m run;
    core = sent.core;
  }

  all_over : (most : ℕ) (xs : List Delivery) (p q : State × L) (l m : M) → AllSent v calls most p xs q → LinkRun others l (flat_map exchanges_of xs) m
      → AllSent v others most (p.0, l) xs (q.0, m)
  all_over most [] p q l m sent run = over_same p q l m sent run
  all_over most (x ∷ xs) p q l m sent run =
      let two = folds_split {P = M} {A = Exchange} (λ a e b. others a e.0 e.1 b) l m (exchanges_of x) (flat_map exchanges_of xs) run in (
        (sent.0.0, two.0),
        (sent_over most p sent.0 x l two.0 sent.1.0 two.1, sent.1.1),
        all_over most xs sent.0 q two.0 m sent.2 two.2,
      )

  module _ (words : ℕ → ℕ → List ℕ) (session : ℕ) where
    nothing_over : (p q : State × L) (turn : Turn) (l m : M) → turn.sendings ≡ [] → p ≡ q → LinkRun others l (flat_map exchanges_of turn.sendings) m
        → over p l ≡ over q m
    nothing_over p q turn l m none same run =
        over_same p q l m same (subst (λ (xs : List Delivery). LinkRun others l (flat_map exchanges_of xs) m) none run)

    replied_over : (n : Note) (p q : State × L) (turn : Turn) (l m : M) → IsReply v calls words session n p turn q
        → LinkRun others l (flat_map exchanges_of turn.sendings) m → IsReply v others words session n (p.0, l) turn (q.0, m)
    replied_over (note.Accepted ticket) p q turn l m r run =
        (all_over most_retries turn.sendings p q l m r.0 run, r.1, r.2, r.3, r.4)
    replied_over (note.Refused why) p q turn l m r run = (r.0, r.1, nothing_over p q turn l m r.0 r.2 run)
    replied_over note.Taken p q turn l m r run = r
    replied_over note.Stalled p q turn l m r run = r
    replied_over (note.FailedNow why) p q turn l m r run = r
    replied_over note.Resent p q turn l m r run = r
    replied_over note.Unexpected p q turn l m r run = r

    turn_over : (p q : State × L) (turn : Turn) (l m : M) → IsTurn v calls words session p turn q
        → LinkRun others l (flat_map exchanges_of turn.sendings) m → IsTurn v others words session (p.0, l) turn (q.0, m)
    turn_over p q turn l m (inl u) run =
        inl (record { none = u.none; sendings = u.sendings; reply = u.reply; same = nothing_over p q turn l m u.sendings u.same run })
    turn_over p q turn l m (inr s) run = inr (record {
      shown = s.shown;
      begun = s.begun;
      begins = record { message = s.begins.message; request = s.begins.request; step = s.begins.step };
      replied = replied_over s.shown.note (s.begun, p.1) q turn l m s.replied run;
    })

    pub turns_over : (turns : List Turn) (p q : State × L) (l m : M) → FoldsTo {P = State × L} (IsTurn v calls words session) p turns q
        → LinkRun others l (exchanges_in turns) m → FoldsTo {P = State × M} (IsTurn v others words session) (p.0, l) turns (q.0, m)
    turns_over [] p q l m fold run = over_same p q l m fold run
    turns_over (turn ∷ turns) p q l m fold run =
        let two = folds_split {P = M} {A = Exchange} (λ a e b. others a e.0 e.1 b) l m (flat_map exchanges_of turn.sendings) (exchanges_in turns) run in (
          (fold.0.0, two.0),
          turn_over p fold.0 turn l two.0 fold.1 two.1,
          turns_over turns fold.0 q two.0 m fold.2 two.2,
        )
