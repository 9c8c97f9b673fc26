-- What a FETCH of a link that holds STOREs back does, by what the batch gave.
use Rattle.std.proofs.Common.{◌≡◌, ◌≢◌, ◌⊎◌, ℕ, arith, ◌+◌, Bool, false, true, List, [], ◌∷◌, ◌++◌, length, Result, Ok, Err, refl, sym, ap, ◌∙◌, subst, inl, inr, append-nil}
use Rattle.oram_wire.specs.HostMessages.{done_answer}
use Rattle.std.specs.Global.{Vec}
use Rattle.std.specs.Prelude.{MatchResult, is_err, min}
use Rattle.std.specs.List.{AllByRecursion}
use Rattle.std.proofs.Math.Seq.{take-length}
use Rattle.oram_session.specs.Outcome.{Outcome, outcome_of}
use Rattle.oram_session.specs.declared.link.LinkFault.{LinkFault}
use Rattle.oram_session.specs.declared.link.LinkFault.TheVariants.{Closed, OutOfMemory}
use Rattle.oram_link_laws.specs.Repair.{AreAmong, IsAmong}
use Rattle.oram_link_laws.specs.Runs.{Exchange, bodies_of}
use Rattle.oram_rounds.specs.Batches.{BatchOutcome, BreaksOff, answered}
use Rattle.oram_rounds.specs.Law.{AreBatches}
use Rattle.oram_rounds.specs.Streams.{BeginsBatch}
use Rattle.oram_rounds.specs.Overlay.{AreOverlaid, IsOverlaid}
use Rattle.oram_rounds.specs.PathMessages.{IsPathFetch, IsPathStore}
use Rattle.oram_rounds.specs.Rounds.{AreDone, Does, Fetches, Gives, IsCounted, IsFirstAhead, Round, WentAhead, refused_with}
use Rattle.oram_rounds.proofs.NextAnswers.{answered_none}

-- of a link before (i, which is l) and after
module _ {B : Type 0} (batches : B → List (List ℕ) → BatchOutcome → List Exchange → B → Type 0) (i l m : Round B) (is : i ≡ l) (body : List ℕ) (f : IsPathFetch l.device body) (apart : ¬ IsFirstAhead l.ahead body) (exchanges : List Exchange) where
  pub fetch_failed : (fault : LinkFault) → batches i.inner (i.kept ++ body ∷ []) (Err fault) exchanges m.inner → m.kept ≡ i.kept → m.held ≡ i.held → m.ahead ≡ i.ahead
      → Fetches batches l.device l.record_len l body (Err fault) exchanges m
  fetch_failed fault batch kept held ahead =
      let P : Round B → Type 0 = λ r. batches r.inner (r.kept ++ body ∷ []) (Err fault) exchanges m.inner in
      record {
        path = f;
        not_ahead = apart;
        outcome = Err fault;
        batch = subst P is batch;
        held = subst (λ (r : Round B). m.held ≡ r.held) is held;
        ahead = subst (λ (r : Round B). m.ahead ≡ r.ahead) is ahead;
        gives = (refl, subst (λ (r : Round B). m.kept ≡ r.kept) is kept);
      }

  pub fetch_refused : (answers acks : List (List ℕ)) (answer refusal given : List ℕ) → given ≡ refused_with refusal → answers ≡ acks ++ answer ∷ [] → batches i.inner (i.kept ++ body ∷ []) (Ok answers) exchanges m.inner
      → m.kept ≡ i.kept → m.held ≡ i.held → m.ahead ≡ i.ahead → IsAmong refusal acks → refusal ≢ done_answer → Fetches batches l.device l.record_len l body (Ok given) exchanges m
  fetch_refused answers acks answer refusal given outcome_is all batch kept held ahead among other =
      let P : Round B → Type 0 = λ r. batches r.inner (r.kept ++ body ∷ []) (Ok answers) exchanges m.inner in
      record {
        path = f;
        not_ahead = apart;
        outcome = Ok answers;
        batch = subst P is batch;
        held = subst (λ (r : Round B). m.held ≡ r.held) is held;
        ahead = subst (λ (r : Round B). m.ahead ≡ r.ahead) is ahead;
        gives = record { acks = acks; answer = answer; all = all; either = inr (subst (λ (r : Round B). m.kept ≡ r.kept) is kept, refusal, among, other, ap (λ (b : List ℕ). let o : Outcome = Ok b in o) outcome_is) };
      }

  pub fetch_given : (answers acks : List (List ℕ)) (answer given : List ℕ) → answers ≡ acks ++ answer ∷ [] → batches i.inner (i.kept ++ body ∷ []) (Ok answers) exchanges m.inner
      → m.kept ≡ [] → m.held ≡ i.held → m.ahead ≡ i.ahead → AreDone acks → IsOverlaid i.device i.record_len f.tree f.leaf i.held answer given
      → Fetches batches l.device l.record_len l body (Ok given) exchanges m
  fetch_given answers acks answer given all batch none held ahead done over =
      let P : Round B → Type 0 = λ r. batches r.inner (r.kept ++ body ∷ []) (Ok answers) exchanges m.inner in
      record {
        path = f;
        not_ahead = apart;
        outcome = Ok answers;
        batch = subst P is batch;
        held = subst (λ (r : Round B). m.held ≡ r.held) is held;
        ahead = subst (λ (r : Round B). m.ahead ≡ r.ahead) is ahead;
        gives = record { acks = acks; answer = answer; all = all; either = inl (done, none, given, refl, subst (λ (r : Round B). IsOverlaid r.device r.record_len f.tree f.leaf r.held answer given) is over) };
      }

-- what a STORE does, and a message that is declined
module _ {B : Type 0} (batches : B → List (List ℕ) → BatchOutcome → List Exchange → B → Type 0) (l m : Round B) (body : List ℕ) where
  pub hold_does : (r : Result (Vec ℕ) LinkFault) → IsPathStore l.device l.record_len body
      → MatchResult r (λ answer. (answer.items ≡ done_answer) × (m ≡ record l { held = l.held ++ body ∷ [] })) (λ fault. (fault ≡ OutOfMemory) × (m ≡ l))
      → (exchanges : List Exchange) × Does batches l.device l.record_len l body (outcome_of r) exchanges m
  hold_does (Ok answer) path a = (
    [],
    inl (record {
      path = path;
      answer = ap (λ (b : List ℕ). Ok b) a.0;
      none = refl;
      same = ap (λ (r : Round B). r.inner) a.1;
      kept = ap (λ (r : Round B). r.kept) a.1;
      held = ap (λ (r : Round B). r.held) a.1;
      ahead = ap (λ (r : Round B). r.ahead) a.1;
    }),
  )
  hold_does (Err fault) path a = ([], declined_does fault a.0 a.1)
    where
      declined_does : (fault : LinkFault) → fault ≡ OutOfMemory → m ≡ l → Does batches l.device l.record_len l body (Err fault) [] m
      declined_does fault memory same = inr (inr (inl (record {
        fault = fault;
        why = inl memory;
        answer = refl;
        none = refl;
        same = ap (λ (r : Round B). r.inner) same;
        kept = ap (λ (r : Round B). r.kept) same;
        held = ap (λ (r : Round B). r.held) same;
        ahead = ap (λ (r : Round B). r.ahead) same;
      })))

pub declines : {B : Type 0} (batches : B → List (List ℕ) → BatchOutcome → List Exchange → B → Type 0) (l : Round B) (body : List ℕ) (fault : LinkFault)
    → (fault ≡ OutOfMemory) ⊎ ((fault ≡ Closed) × (¬ IsPathFetch l.device body) × (¬ IsPathStore l.device l.record_len body))
    → (exchanges : List Exchange) × Does batches l.device l.record_len l body (Err fault) exchanges l
declines batches l body fault why = ([], inr (inr (inl (record { fault = fault; why = why; answer = refl; none = refl; same = refl; kept = refl; held = refl; ahead = refl }))))

-- all STOREs are kept now
pub marked : {B : Type 0} (i l : Round B) (is : i ≡ l) (inner : B) (kept held : List (List ℕ)) (ahead : List Exchange) → kept ≡ i.kept ++ i.held → held ≡ [] → ahead ≡ []
    → (let now : Round B = record i { inner = inner; kept = kept; held = held; ahead = ahead } in let then : Round B = record l { inner = inner; kept = l.kept ++ l.held; held = []; ahead = [] } in now ≡ then)
marked {B} i l is inner kept held ahead whole none nothing =
    ap (λ (k : List (List ℕ)). let r : Round B = record i { inner = inner; kept = k; held = held; ahead = ahead } in r) whole
    ∙ ap (λ (h : List (List ℕ)). let r : Round B = record i { inner = inner; kept = i.kept ++ i.held; held = h; ahead = ahead } in r) none
    ∙ ap (λ (a : List Exchange). let r : Round B = record i { inner = inner; kept = i.kept ++ i.held; held = []; ahead = a } in r) nothing
    ∙ ap (λ (r : Round B). let q : Round B = record r { inner = inner; kept = r.kept ++ r.held; held = []; ahead = [] } in q) is

-- of what went ahead, by what the batch gave
module _ {B : Type 0} (batches : B → List (List ℕ) → BatchOutcome → List Exchange → B → Type 0) (i l : Round B) (is : i ≡ l) (fetches : List (List ℕ)) (inner : B) (exchanges : List Exchange) (answers given acks : List (List ℕ))
    (some : fetches ≢ []) (paths : AllByRecursion (IsPathFetch i.device) fetches) (batch : batches i.inner (fetches ++ i.kept) (Ok answers) exchanges inner) (all : answers ≡ given ++ acks) (count : length given ≡ length fetches) where
  -- not each STORE was carried out
  pub goes_refused : (nothing : List Exchange) → nothing ≡ [] → ¬ AreDone acks → WentAhead batches l fetches exchanges (record i { inner = inner; ahead = nothing })
  goes_refused nothing none refused = subst (λ (r : Round B). WentAhead batches r fetches exchanges (record i { inner = inner; ahead = nothing })) is (record {
    device = refl;
    record_len = refl;
    held = refl;
    does = inl (record { some = some; paths = paths; outcome = Ok answers; batch = batch; gives = record { given = given; acks = acks; all = all; count = count; either = inr (refused, record { kept = refl; either = inl none }) } });
  })

  -- each was
  pub goes_answered : (laid : List (List ℕ)) → AreOverlaid i.device i.record_len i.kept fetches given laid → (m : Round B)
      → m ≡ record i { inner = inner; kept = []; ahead = answered fetches laid } → AreDone acks → WentAhead batches l fetches exchanges m
  goes_answered laid over m same done =
      subst (λ (r : Round B). WentAhead batches l fetches exchanges r) (sym same)
      (subst (λ (r : Round B). WentAhead batches r fetches exchanges (record i { inner = inner; kept = []; ahead = answered fetches laid })) is (record {
        device = refl;
        record_len = refl;
        held = refl;
        does = inl (record { some = some; paths = paths; outcome = Ok answers; batch = batch; gives = record { given = given; acks = acks; all = all; count = count; either = inl (done, refl, laid, over, length (answered fetches laid), sym (take-length (answered fetches laid))) } });
      }))

-- a batch that broke off before any answer came
pub none_came : (bodies : List (List ℕ)) (exchanges : List Exchange) → AreAmong (bodies_of exchanges) bodies → BreaksOff bodies [] exchanges
none_came bodies exchanges among = (
  exchanges,
  [],
  among,
  tt,
  sym (append-nil (exchanges ++ answered bodies []) ∙ ap (λ (es : List Exchange). exchanges ++ es) (answered_none bodies) ∙ append-nil exchanges),
)

-- the batch had no answers
pub goes_lost : {B : Type 0} (batches : B → List (List ℕ) → BatchOutcome → List Exchange → B → Type 0) → AreBatches batches → (i l : Round B) (is : i ≡ l) (fetches : List (List ℕ)) (inner : B) (exchanges : List Exchange)
    (fault : LinkFault) → fetches ≢ [] → AllByRecursion (IsPathFetch i.device) fetches → batches i.inner (fetches ++ i.kept) (Err fault) exchanges inner → (nothing : List Exchange) → nothing ≡ []
    → WentAhead batches l fetches exchanges (record i { inner = inner; ahead = nothing })
goes_lost {B} batches are i l is fetches inner exchanges fault some paths batch nothing none =
    subst (λ (r : Round B). WentAhead batches r fetches exchanges (record i { inner = inner; ahead = nothing })) is (record {
      device = refl;
      record_len = refl;
      held = refl;
      does = inl (record {
        some = some;
        paths = paths;
        outcome = Err fault;
        batch = batch;
        gives = record {
          given = [];
          acks = [];
          few = omega arith;
          breaks = none_came (fetches ++ i.kept) exchanges (are i.inner inner (fetches ++ i.kept) (Err fault) exchanges batch);
          in_turn = inr refl;
          leaves = record { kept = refl; either = inl none };
        };
      });
    })

-- no batch was begun: nothing has happened, or the batch had no answers
pub not_begun : {B : Type 0} (batches : B → List (List ℕ) → BatchOutcome → List Exchange → B → Type 0) (streams : B → List (List ℕ) → List (List ℕ) → B → Type 0) → AreBatches batches → (i l : Round B) (is : i ≡ l)
    (fetches : List (List ℕ)) (inner : B) → fetches ≢ [] → AllByRecursion (IsPathFetch i.device) fetches → l.ahead ≡ [] → (begun : Bool) → BeginsBatch batches streams i.inner (fetches ++ i.kept) begun inner → ¬ (begun ≡ true)
    → (let m : Round B = record i { inner = inner } in (m ≡ l) ⊎ ((exchanges : List Exchange) × WentAhead batches l fetches exchanges m))
not_begun batches streams are i l is fetches inner some paths none true begins apart = absurd (apart refl)
not_begun {B} batches streams are i l is fetches inner some paths none false begins apart = elim begins [
  | inl same ↦ inl (ap (λ (b : B). let r : Round B = record i { inner = b } in r) same ∙ is)
  | inr lost ↦ inr (lost.1, goes_lost batches are i l is fetches inner lost.1 lost.0 some paths lost.2 i.ahead (ap (λ (r : Round B). r.ahead) is ∙ none))
]

-- a FETCH that went ahead is answered from there
pub taken_does : {B : Type 0} (batches : B → List (List ℕ) → BatchOutcome → List Exchange → B → Type 0) (l m : Round B) (body answer given : List ℕ) (f : IsPathFetch l.device body)
    → l.ahead ≡ (body, Ok answer) ∷ m.ahead → m ≡ record l { ahead = m.ahead } → IsOverlaid l.device l.record_len f.tree f.leaf l.held answer given
    → (exchanges : List Exchange) × Does batches l.device l.record_len l body (Ok given) exchanges m
taken_does {B} batches l m body answer given f next same over = (
  [],
  inr (inr (inr (record {
    path = f;
    answer = answer;
    next = next;
    given = given;
    reported = refl;
    over = over;
    none = refl;
    same = ap (λ (r : Round B). r.inner) same;
    kept = ap (λ (r : Round B). r.kept) same;
    held = ap (λ (r : Round B). r.held) same;
  }))),
)

-- a call that has a fault, and the number of faults after it
module _ {B : Type 0} (batches : B → List (List ℕ) → BatchOutcome → List Exchange → B → Type 0) (l p : Round B) (body : List ℕ) where
  -- what a call has done stays so where only that number changes

  given_still : (faults : ℕ) (o : Outcome) (outcome : BatchOutcome) (path : IsPathFetch l.device body)
      → MatchResult outcome (λ answers. Gives batches l.device l.record_len l path answers o p) (λ fault. (o ≡ Err fault) × (p.kept ≡ l.kept))
      → MatchResult outcome (λ answers. Gives batches l.device l.record_len l path answers o (record p { faults = faults })) (λ fault. (o ≡ Err fault) × (p.kept ≡ l.kept))
  given_still faults o (Ok answers) path g = record { acks = g.acks; answer = g.answer; all = g.all; either = g.either }
  given_still faults o (Err fault) path g = g

  does_still : (faults : ℕ) (o : Outcome) (exchanges : List Exchange) → Does batches l.device l.record_len l body o exchanges p
      → Does batches l.device l.record_len l body o exchanges (record p { faults = faults })
  does_still faults o exchanges (inl h) =
      inl (record { path = h.path; answer = h.answer; none = h.none; same = h.same; kept = h.kept; held = h.held; ahead = h.ahead })
  does_still faults o exchanges (inr (inl h)) = inr (inl (record {
    path = h.path;
    not_ahead = h.not_ahead;
    outcome = h.outcome;
    batch = h.batch;
    held = h.held;
    ahead = h.ahead;
    gives = given_still faults o h.outcome h.path h.gives;
  }))
  does_still faults o exchanges (inr (inr (inl h))) = inr (inr (inl (record {
    fault = h.fault;
    why = h.why;
    answer = h.answer;
    none = h.none;
    same = h.same;
    kept = h.kept;
    held = h.held;
    ahead = h.ahead;
  })))
  does_still faults o exchanges (inr (inr (inr h))) = inr (inr (inr (record {
    path = h.path;
    answer = h.answer;
    next = h.next;
    given = h.given;
    reported = h.reported;
    over = h.over;
    none = h.none;
    same = h.same;
    kept = h.kept;
    held = h.held;
  })))

  pub fault_counted : (r : Result (Vec ℕ) LinkFault) (faults : ℕ) → is_err r ≡ true → p ≡ record l { inner = p.inner; kept = p.kept; held = p.held; ahead = p.ahead }
      → faults ≡ min (p.faults + 1) 18446744073709551615
      → (exchanges : List Exchange) × Does batches l.device l.record_len l body (outcome_of r) exchanges p
      → IsCounted batches l body (outcome_of r) (record p { faults = faults })
  fault_counted (Ok answer) faults err same count did = absurd cc
  fault_counted (Err fault) faults err same count did = record {
    exchanges = did.0;
    call = record {
      device = ap (λ (r : Round B). r.device) same;
      record_len = ap (λ (r : Round B). r.record_len) same;
      does = does_still faults (Err fault) did.0 did.1;
    };
    faults = count ∙ ap (λ (r : Round B). min (r.faults + 1) 18446744073709551615) same;
  }
