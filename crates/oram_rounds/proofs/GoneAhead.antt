-- FETCHes that go ahead of STOREs have the answers of the host that has carried these out, once their records are laid over them.
use Rattle.std.proofs.Common.{◌≡◌, ◌⊎◌, ℕ, zero, suc, arith, Bool, List, [], ◌∷◌, ◌++◌, ◌≤◌, length, length-append, take, Ok, Err, refl, sym, ap, ◌∙◌, subst, inl, inr, append-nil, append_assoc}
use Rattle.std.specs.Prelude.{MatchResult}
use Rattle.std.proofs.Math.Seq.{take-length}
use Rattle.std.specs.List.{AllByRecursion}
use Rattle.oram_geometry.specs.declared.Sizes.{Sizes}
use Rattle.oram_host.specs.Host.{Host}
use Rattle.oram_semantics.specs.Scheme.{Scheme, record_len}
use Rattle.oram_link_laws.specs.Repair.{AreAmong, IsAmong}
use Rattle.oram_link_laws.specs.Runs.{Exchange, bodies_of}
use Rattle.oram_link_laws.proofs.Exchanged.{folds_split}
use Rattle.oram_rounds.specs.Batches.{BatchOutcome, IsBatch, answered}
use Rattle.oram_rounds.specs.CatchUp.{CatchesUp, IsPlainCall, PlainRun}
use Rattle.oram_rounds.specs.Law.{AheadIsOfTheHost, AreAhead, AreBatches, IsFetchNow}
use Rattle.oram_rounds.specs.Overlay.{AreOverlaid}
use Rattle.oram_rounds.specs.PathMessages.{IsPathFetch}
use Rattle.oram_rounds.specs.Process.{AreSentAhead}
use Rattle.oram_rounds.specs.Rounds.{BreaksAhead, GivesAhead, LeavesAhead, Round, SendsAhead, SendsNone, WentAhead, waiting}
use Rattle.oram_rounds.proofs.Calls.{plain_later}
use Rattle.oram_rounds.proofs.CatchUp.{IsWaitingOrFetch, acked_catches, acked_caught, run_catches}
use Rattle.oram_rounds.proofs.Sent.{all_among, answered_among, batch_among}
use Rattle.oram_rounds.proofs.Tries.{among_front, among_turned, answered_join}
use Rattle.oram_rounds.proofs.Unchanged.{fetch_same, none_ahead, run_same}

-- what goes to the host are tries of the FETCHes, and of the STOREs that are kept
pub ahead_sent : {B : Type 0} (batches : B → List (List ℕ) → BatchOutcome → List Exchange → B → Type 0) → AreBatches batches → (l m : Round B) (fetches : List (List ℕ)) (exchanges : List Exchange)
    → WentAhead batches l fetches exchanges m → AreSentAhead l fetches exchanges
ahead_sent batches are l m fetches exchanges went = elim went.does [
  | inl s ↦ inr (
    s.paths,
    among_turned (bodies_of exchanges) fetches l.kept (batch_among (fetches ++ l.kept) s.outcome exchanges (are l.inner m.inner (fetches ++ l.kept) s.outcome exchanges s.batch)),
  )
  | inr none ↦ inl none.none
]

-- afterwards no other STOREs are kept than before
pub ahead_fewer : {B : Type 0} (batches : B → List (List ℕ) → BatchOutcome → List Exchange → B → Type 0) (l m : Round B) (fetches : List (List ℕ)) (exchanges : List Exchange)
    → WentAhead batches l fetches exchanges m → (b : List ℕ) → IsAmong b m.kept → IsAmong b l.kept
ahead_fewer {B} batches l m fetches exchanges went b among = elim went.does [ inl s ↦ by s.outcome s.gives | inr none ↦ subst (IsAmong b) none.kept among ]
  where
    by : (outcome : BatchOutcome)
        → MatchResult outcome (λ answers. GivesAhead batches l.device l.record_len l fetches answers m) (λ fault. BreaksAhead batches l.device l.record_len l fetches exchanges m)
        → IsAmong b l.kept
    by (Err fault) g = subst (IsAmong b) g.leaves.kept among
    by (Ok answers) g = elim g.either [ inl done ↦ absurd (subst (IsAmong b) done.1 among) | inr refused ↦ subst (IsAmong b) refused.1.kept among ]

-- STOREs that wait and FETCHes after them
pub all_sent : (v : Scheme) (stores kept fetches : List (List ℕ)) → ((x : List ℕ) → IsAmong x kept → IsAmong x stores) → AllByRecursion (IsPathFetch v.device) fetches
    → AllByRecursion (IsWaitingOrFetch v stores) (kept ++ fetches)
all_sent v stores [] [] inside paths = tt
all_sent v stores [] (f ∷ fetches) inside paths = (inr paths.0, all_sent v stores [] fetches inside paths.1)
all_sent v stores (b ∷ kept) fetches inside paths = (inl (inside b (inl refl)), all_sent v stores kept fetches (λ x k. inside x (inr k)) paths)

-- each of these FETCHes was answered by the host that is there after them
gathered : (may_lie : Bool) (v : Scheme) (fetches answers : List (List ℕ)) (host after : Host) → AllByRecursion (IsPathFetch v.device) fetches
    → PlainRun may_lie v host (answered fetches answers) after → after ≡ host → AllByRecursion (IsFetchNow may_lie v after) (answered fetches answers)
gathered may_lie v [] answers host after paths run same = tt
gathered may_lie v (f ∷ fetches) [] host after paths run same = tt
gathered may_lie v (f ∷ fetches) (a ∷ answers) host after paths run same =
    let next : run.0 ≡ host = fetch_same may_lie v host run.0 f (Ok a) paths.0 run.1 in (
      (paths.0, (run.0, subst (λ (h : Host). IsPlainCall may_lie v h f (Ok a) run.0) (sym same) run.1)),
      gathered may_lie v fetches answers run.0 after paths.1 run.2 (same ∙ sym next),
    )

-- The host that has carried out the STOREs gives the answers with their records laid over them. The first FETCHes have answers.
overlaid_now : (may_lie : Bool) (v : Scheme) (stores : List (List ℕ)) (host after : Host) → CatchesUp v host stores after → (fetches answers laid : List (List ℕ))
    → AreOverlaid v.device (record_len v) stores (take (length answers) fetches) answers laid → AllByRecursion (IsFetchNow may_lie v host) (answered fetches answers)
    → AllByRecursion (IsFetchNow may_lie v after) (answered fetches laid)
overlaid_now may_lie v stores host after c [] answers laid over each = tt
overlaid_now may_lie v stores host after c (f ∷ fetches) [] [] over each = tt
overlaid_now may_lie v stores host after c (f ∷ fetches) [] (x ∷ laid) over each = absurd (let none : x ∷ laid ≡ [] = over.1 in cc)
overlaid_now may_lie v stores host after c (f ∷ fetches) (a ∷ answers) [] over each = absurd over
overlaid_now may_lie v stores host after c (f ∷ fetches) (a ∷ answers) (x ∷ laid) over each = (
  (over.0.0, (after, plain_later v host after stores c f over.0.0 may_lie a x each.0.1.0 each.0.1.1 over.0.1)),
  overlaid_now may_lie v stores host after c fetches answers laid over.1 each.1,
)

-- what holds of all holds of the first few
all_taken : (P : Exchange → Type 0) (count : ℕ) (xs : List Exchange) → AllByRecursion P xs → AllByRecursion P (take count xs)
all_taken P zero xs all = tt
all_taken P (suc count) [] all = tt
all_taken P (suc count) (x ∷ xs) all = (all.0, all_taken P count xs all.1)

-- the answers to the first messages
pub answered_first : (fetches kept given : List (List ℕ)) → length given ≤ length fetches → answered (fetches ++ kept) given ≡ answered fetches given
answered_first [] [] [] few = refl
answered_first [] (k ∷ kept) [] few = refl
answered_first [] kept (a ∷ given) few = absurd (omega (arith, few))
answered_first (f ∷ fetches) kept [] few = refl
answered_first (f ∷ fetches) kept (a ∷ given) few = ap (λ (es : List Exchange). (f, Ok a) ∷ es) (answered_first fetches kept given (omega (arith, few)))

module _ {B : Type 0} (batches : B → List (List ℕ) → BatchOutcome → List Exchange → B → Type 0) (are : AreBatches batches) (may_lie : Bool) (v : Scheme) (l m : Round B) (fetches : List (List ℕ)) (exchanges : List Exchange) (host after later : Host) (c : CatchesUp v host (waiting l) later) (run : PlainRun may_lie v host exchanges after) (held : m.held ≡ l.held) where
  abbrev Gone : Type 0
  Gone = CatchesUp v after (waiting m) later × AreAhead may_lie v after m

  all_heard : AllByRecursion (IsPathFetch v.device) fetches → (bodies : List (List ℕ)) → AreAmong bodies (fetches ++ l.kept) → AllByRecursion (IsWaitingOrFetch v (waiting l)) bodies
  all_heard paths bodies among =
      all_among (IsWaitingOrFetch v (waiting l)) (l.kept ++ fetches) bodies (all_sent v (waiting l) l.kept fetches (λ x k. among_front l.kept l.held x k) paths)
      (among_turned bodies fetches l.kept among)

  nothing : m.kept ≡ l.kept → m.ahead ≡ [] → AllByRecursion (IsWaitingOrFetch v (waiting l)) (bodies_of exchanges) → Gone
  nothing kept none all = (still_waits kept all, none_ahead may_lie v l m host after none)
    where
      still_waits : m.kept ≡ l.kept → AllByRecursion (IsWaitingOrFetch v (waiting l)) (bodies_of exchanges) → CatchesUp v after (waiting m) later
      still_waits k a =
          let same : waiting m ≡ waiting l = ap (λ (x : List (List ℕ)). x ++ m.held) k ∙ ap (λ (x : List (List ℕ)). l.kept ++ x) held in
          subst (λ (x : List (List ℕ)). CatchesUp v after x later) (sym same) (run_catches v (waiting l) later may_lie exchanges host after a run c)

  -- Tries, and then the answers to the first FETCHes, and then more. These answers are those of the host that is there behind them.
  module _ (paths : AllByRecursion (IsPathFetch v.device) fetches) (given : List (List ℕ)) (tries more : List Exchange) (tried : AreAmong (bodies_of tries) (fetches ++ l.kept)) (split : exchanges ≡ tries ++ (answered fetches given ++ more)) where
    abbrev Call : Host → Exchange → Host → Type 0
    Call h e g = IsPlainCall may_lie v h e.0 e.1 g

    record Given : Type 0 where
      at : Host
      fetched : AllByRecursion (IsFetchNow may_lie v at) (answered fetches given)
      caught : CatchesUp v at (waiting l) later
      left : PlainRun may_lie v at more after

    are_given : Given
    are_given =
        let ran : PlainRun may_lie v host (tries ++ (answered fetches given ++ more)) after = subst (λ (xs : List Exchange). PlainRun may_lie v host xs after) split run in
        let first = folds_split {P = Host} {A = Exchange} Call host after tries (answered fetches given ++ more) ran in
        let second = folds_split {P = Host} {A = Exchange} Call first.0 after (answered fetches given) more first.2 in
        let caught = run_catches v (waiting l) later may_lie tries host first.0 (all_heard paths (bodies_of tries) tried) first.1 c in
        let fetched : AllByRecursion (IsPathFetch v.device) (bodies_of (answered fetches given)) =
        all_among (IsPathFetch v.device) fetches (bodies_of (answered fetches given)) paths (answered_among fetches given fetches (λ x k. k)) in
        let still : second.0 ≡ first.0 = run_same may_lie v (answered fetches given) first.0 second.0 fetched second.1 in
        record {
          at = second.0;
          fetched = gathered may_lie v fetches given first.0 second.0 paths second.1 still;
          caught = subst (λ (h : Host). CatchesUp v h (waiting l) later) (sym still) caught;
          left = second.2;
        }

    -- STOREs that are kept stay, and no others are held back: the host that is caught up to gives what is ahead
    left_ahead : AllByRecursion (IsWaitingOrFetch v (waiting l)) (bodies_of exchanges) → LeavesAhead batches v.device (record_len v) l fetches given m → Gone
    left_ahead all g = elim g.either [
      | inl none ↦ nothing g.kept none all
      | inr laid ↦
          let now = are_given in
          let none : waiting l ≡ l.kept = ap (λ (x : List (List ℕ)). l.kept ++ x) laid.0 ∙ append-nil l.kept in
          let from : CatchesUp v now.at l.kept later = subst (λ (x : List (List ℕ)). CatchesUp v now.at x later) none now.caught in
          let all_now = overlaid_now may_lie v l.kept now.at later from fetches given laid.1 laid.2 now.fetched in
          let each : AllByRecursion (IsFetchNow may_lie v later) m.ahead =
          subst (AllByRecursion (IsFetchNow may_lie v later)) (sym laid.4) (all_taken (IsFetchNow may_lie v later) laid.3 (answered fetches laid.1) all_now) in
          let end : CatchesUp v after (waiting l) later = run_catches v (waiting l) later may_lie exchanges host after all run c in
          let same : waiting m ≡ waiting l = ap (λ (x : List (List ℕ)). x ++ m.held) g.kept ∙ ap (λ (x : List (List ℕ)). l.kept ++ x) held in (
            subst (λ (x : List (List ℕ)). CatchesUp v after x later) (sym same) end,
            inr (later, subst (λ (x : List (List ℕ)). CatchesUp v after x later) (none ∙ sym g.kept) end, each),
          )
    ]

  module _ (paths : AllByRecursion (IsPathFetch v.device) fetches) (answers : List (List ℕ)) (gives : GivesAhead batches v.device (record_len v) l fetches answers m) (batch : IsBatch (fetches ++ l.kept) (Ok answers) exchanges) where
    few : length gives.acks ≡ length l.kept
    few = omega (arith, batch.0, ap length gives.all, gives.count, length-append gives.given gives.acks, length-append fetches l.kept)

    split_up : exchanges ≡ batch.1 ++ (answered fetches gives.given ++ answered l.kept gives.acks)
    split_up =
        batch.3 ∙ ap (λ (a : List (List ℕ)). batch.1 ++ answered (fetches ++ l.kept) a) gives.all
        ∙ ap (λ (xs : List Exchange). batch.1 ++ xs) (answered_join fetches gives.given l.kept gives.acks gives.count)

    now : Given paths gives.given batch.1 (answered l.kept gives.acks) batch.2 split_up
    now = are_given paths gives.given batch.1 (answered l.kept gives.acks) batch.2 split_up

    all_gone : Gone
    all_gone = elim gives.either [
      | inl done ↦
          let beside : CatchesUp v now.at l.kept after = acked_caught may_lie v l.kept l.held gives.acks now.at after later few done.0 now.left now.caught in
          let caught : CatchesUp v after l.held later = acked_catches may_lie v l.kept l.held gives.acks now.at after later few done.0 now.left now.caught in
          let alone : CatchesUp v after [] after = acked_catches may_lie v l.kept [] gives.acks now.at after after few done.0 now.left
          (subst (λ (x : List (List ℕ)). CatchesUp v now.at x after) (sym (append-nil l.kept)) beside) in
          let whole : take (length gives.given) fetches ≡ fetches = ap (λ (n : ℕ). take n fetches) gives.count ∙ take-length fetches in
          let over = subst (λ (fs : List (List ℕ)). AreOverlaid v.device (record_len v) l.kept fs gives.given done.2) (sym whole) done.3 in
          let all_now = overlaid_now may_lie v l.kept now.at after beside fetches gives.given done.2 over now.fetched in
          let each : AllByRecursion (IsFetchNow may_lie v after) m.ahead =
          subst (AllByRecursion (IsFetchNow may_lie v after)) (sym done.5) (all_taken (IsFetchNow may_lie v after) done.4 (answered fetches done.2) all_now) in
          let same : waiting m ≡ l.held = ap (λ (k : List (List ℕ)). k ++ m.held) done.1 ∙ held in (
            subst (λ (k : List (List ℕ)). CatchesUp v after k later) (sym same) caught,
            inr (after, subst (λ (k : List (List ℕ)). CatchesUp v after k after) (sym done.1) alone, each),
          )
      | inr refused ↦
          left_ahead paths gives.given batch.1 (answered l.kept gives.acks) batch.2 split_up
          (all_heard paths (bodies_of exchanges) (batch_among (fetches ++ l.kept) (Ok answers) exchanges batch)) refused.1
    ]

  all_broken : AllByRecursion (IsPathFetch v.device) fetches → AreAmong (bodies_of exchanges) (fetches ++ l.kept) → BreaksAhead batches v.device (record_len v) l fetches exchanges m → Gone
  all_broken paths among g =
      let b = g.breaks in
      let join : (more : List Exchange) × (answered (fetches ++ l.kept) (g.given ++ g.acks) ≡ answered fetches g.given ++ more) = elim g.in_turn [
        | inl whole ↦ (answered l.kept g.acks, answered_join fetches g.given l.kept g.acks whole)
        | inr none ↦ (
          [],
          ap (λ (a : List (List ℕ)). answered (fetches ++ l.kept) a) (ap (λ (a : List (List ℕ)). g.given ++ a) none ∙ append-nil g.given)
              ∙ answered_first fetches l.kept g.given g.few ∙ sym (append-nil (answered fetches g.given)),
        )
      ] in
      let split : exchanges ≡ b.0 ++ (answered fetches g.given ++ (join.0 ++ b.1)) =
      b.4 ∙ append_assoc b.0 (answered (fetches ++ l.kept) (g.given ++ g.acks)) b.1 ∙ ap (λ (xs : List Exchange). b.0 ++ (xs ++ b.1)) join.1 ∙ ap (λ (xs : List Exchange). b.0 ++ xs) (append_assoc (answered fetches g.given) join.0 b.1) in
      left_ahead paths g.given b.0 (join.0 ++ b.1) b.2 split (all_heard paths (bodies_of exchanges) among) g.leaves

  all_sent_ahead : SendsAhead batches v.device (record_len v) l fetches exchanges m → Gone
  all_sent_ahead s = by s.outcome (are l.inner m.inner (fetches ++ l.kept) s.outcome exchanges s.batch) s.gives
    where
      by : (outcome : BatchOutcome) → IsBatch (fetches ++ l.kept) outcome exchanges
          → MatchResult outcome (λ answers. GivesAhead batches v.device (record_len v) l fetches answers m) (λ fault. BreaksAhead batches v.device (record_len v) l fetches exchanges m) → Gone
      by (Err fault) among g = all_broken s.paths among g
      by (Ok answers) batch g = all_gone s.paths answers g batch

  pub gone : SendsAhead batches v.device (record_len v) l fetches exchanges m ⊎ SendsNone batches v.device (record_len v) l fetches exchanges m → Gone
  gone (inl s) = all_sent_ahead s
  gone (inr n) = nothing n.kept n.ahead (subst (λ (xs : List Exchange). AllByRecursion (IsWaitingOrFetch v (waiting l)) (bodies_of xs)) (sym n.none) tt)

pub ahead_is_of_the_host : {B : Type 0} (batches : B → List (List ℕ) → BatchOutcome → List Exchange → B → Type 0) → AheadIsOfTheHost batches
ahead_is_of_the_host batches are may_lie v l m fetches exchanges host after later device len c went run =
    gone batches are may_lie v l m fetches exchanges host after later c run went.held
    (subst (λ (n : ℕ). SendsAhead batches v.device n l fetches exchanges m ⊎ SendsNone batches v.device n l fetches exchanges m) len
    (subst (λ (d : Sizes). SendsAhead batches d l.record_len l fetches exchanges m ⊎ SendsNone batches d l.record_len l fetches exchanges m) device went.does))
