-- FETCHes that went ahead, whose answers arrive one by one.
use Rattle.std.proofs.Common.{◌≡◌, ◌≢◌, ◌⊎◌, ◌≤◌, ◌+◌, ◌&&◌, ℕ, zero, suc, arith, Bool, true, false, List, [], ◌∷◌, ◌++◌, drop, take, length, Ok, Err, refl, sym, ap, ◌∙◌, subst, inl, inr, append-nil, append_assoc}
use Rattle.std.specs.Prelude.{MatchBool}
use Rattle.std.specs.List.{AllByRecursion}
use Rattle.std.proofs.Math.Seq.{drop-append-add, take-length}
use Rattle.std.proofs.lemmas.List.{drop-append-le, length-append, length-drop, take-append-le}
use Rattle.oram_geometry.specs.declared.Sizes.{Sizes}
use Rattle.oram_wire.specs.HostMessages.{done_answer}
use Rattle.oram_session.specs.declared.link.LinkFault.{LinkFault}
use Rattle.oram_link_laws.specs.Runs.{Exchange}
use Rattle.oram_rounds.specs.Arrivals.{AreArriving, Awaited, EndsAcks, HasBroken, ended}
use Rattle.oram_rounds.specs.Batches.{BatchOutcome, BreaksOff, answered}
use Rattle.oram_rounds.specs.Overlay.{AreOverlaid, IsOverlaid}
use Rattle.oram_rounds.specs.PathMessages.{IsPathFetch}
use Rattle.oram_rounds.specs.Rounds.{AreDone, LeavesAhead, Round, WentAhead}
use Rattle.oram_rounds.specs.Streams.{EndsAsBatch, GivesNext}
use Rattle.oram_rounds.proofs.NextAnswers.{answered_next}

-- lists that are laid over have one length

pub laid_count : (d : Sizes) (len : ℕ) (stores fetches given laid : List (List ℕ)) → AreOverlaid d len stores fetches given laid → length laid ≡ length given
laid_count d len stores [] given laid over = ap length over.1 ∙ sym (ap length over.0)
laid_count d len stores (f ∷ fetches) [] laid over = absurd over
laid_count d len stores (f ∷ fetches) (a ∷ given) [] over = absurd over
laid_count d len stores (f ∷ fetches) (a ∷ given) (x ∷ laid) over = omega (arith, laid_count d len stores fetches given laid over.1)

-- one more answer, with the records laid over it
pub laid_more : (d : Sizes) (len : ℕ) (stores fetches given laid rest : List (List ℕ)) (f a x : List ℕ) → AreOverlaid d len stores (take (length given) fetches) given laid → drop (length given) fetches ≡ f ∷ rest
    → ((p : IsPathFetch d f) × IsOverlaid d len p.tree p.leaf stores a x) → AreOverlaid d len stores (take (length (given ++ a ∷ [])) fetches) (given ++ a ∷ []) (laid ++ x ∷ [])
laid_more d len stores [] [] laid rest f a x over next one = absurd cc
laid_more d len stores [] (g ∷ given) laid rest f a x over next one = absurd cc
laid_more d len stores (b ∷ fetches) [] [] rest f a x over next one =
    let same : f ≡ b = cc in
    (subst (λ (m : List ℕ). (p : IsPathFetch d m) × IsOverlaid d len p.tree p.leaf stores a x) same one, (refl, refl))
laid_more d len stores (b ∷ fetches) [] (y ∷ laid) rest f a x over next one = absurd (let none : y ∷ laid ≡ [] = over.1 in cc)
laid_more d len stores (b ∷ fetches) (g ∷ given) [] rest f a x over next one = absurd over
laid_more d len stores (b ∷ fetches) (g ∷ given) (y ∷ laid) rest f a x over next one = (over.0, laid_more d len stores fetches given laid rest f a x over.1 next one)

-- as many exchanges as answers
answered_count : (fetches laid : List (List ℕ)) → length laid ≤ length fetches → length (answered fetches laid) ≡ length laid
answered_count [] [] few = refl
answered_count [] (x ∷ laid) few = absurd (omega (arith, few))
answered_count (f ∷ fetches) [] few = refl
answered_count (f ∷ fetches) (x ∷ laid) few = omega (arith, answered_count fetches laid (omega (arith, few)))

drop_next : (n : ℕ) (xs rest : List (List ℕ)) (x : List ℕ) → drop n xs ≡ x ∷ rest → (drop (n + 1) xs ≡ rest) × (n + 1 ≤ length xs)
drop_next zero [] rest x next = absurd cc
drop_next zero (y ∷ xs) rest x next = (let same : xs ≡ rest = cc in same, omega arith)
drop_next (suc n) [] rest x next = absurd cc
drop_next (suc n) (y ∷ xs) rest x next =
    let more = drop_next n xs rest x next in
    (ap (λ (k : ℕ). drop k (y ∷ xs)) (let same : suc n + 1 ≡ suc (n + 1) = omega arith in same) ∙ more.0, omega (arith, more.1))

-- each of these answers is an acknowledgement, or not each is, and then there is one more

all_done : (acks : List (List ℕ)) (a : List ℕ) → AreDone acks → a ≡ done_answer → AreDone (acks ++ a ∷ [])
all_done [] a are is = (is, tt)
all_done (x ∷ acks) a are is = (are.0, all_done acks a are.1 is)

done_apart : (acks : List (List ℕ)) (a : List ℕ) → AreDone (acks ++ a ∷ []) → AreDone acks × (a ≡ done_answer)
done_apart [] a are = (tt, are.0)
done_apart (x ∷ acks) a are = let rest = done_apart acks a are.1 in ((are.0, rest.0), rest.1)

pub one_ack : (acks : List (List ℕ)) (a : List ℕ) (done one : Bool) → MatchBool done (AreDone acks) (¬ AreDone acks) → (one ≡ true → a ≡ done_answer) → (a ≡ done_answer → one ≡ true)
    → MatchBool (done && one) (AreDone (acks ++ a ∷ [])) (¬ AreDone (acks ++ a ∷ []))
one_ack acks a true true before is tests = all_done acks a before (is refl)
one_ack acks a true false before is tests = λ are. absurd (let both : false ≡ true = tests (done_apart acks a are).1 in cc)
one_ack acks a false one before is tests = λ are. before (done_apart acks a are).0

-- the next STORE of a batch, if the messages before the STOREs have answers, and so have the first of these
pub next_store : (before given acks stores rest : List (List ℕ)) (x : List ℕ) → length given ≡ length before → drop (length acks) stores ≡ x ∷ rest → drop (length (given ++ acks)) (before ++ stores) ≡ x ∷ rest
next_store before given acks stores rest x count next =
    let long : length (given ++ acks) ≡ length before + length acks = length-append given acks ∙ ap (λ (n : ℕ). n + length acks) count in
    ap (λ (n : ℕ). drop n (before ++ stores)) long ∙ drop-append-add before stores (length acks) ∙ next

-- a link below becomes another one as the answers to these STOREs are received, which are the last messages of a batch
abbrev pub AcksOf : {B : Type 0} → (B → List (List ℕ) → BatchOutcome → List Exchange → B → Type 0) → (B → List (List ℕ) → List (List ℕ) → B → Type 0) → List (List ℕ) → B → Bool → B → Type 0
AcksOf {B} batches streams stores old done new =
    (b : B) (front given : List (List ℕ)) → length given ≡ length front → streams b (front ++ stores) given old → (acks : List (List ℕ)) × EndsAcks batches streams b front stores given acks done new

-- what holds of all holds of those behind the first
pub all_behind : (P : List ℕ → Type 0) (xs : List (List ℕ)) → AllByRecursion P xs → AllByRecursion P (drop 1 xs)
all_behind P [] all = tt
all_behind P (x ∷ xs) all = all.1

-- exchanges that were put ahead, and then others
pub put_twice : {B : Type 0} (m n o : Round B) (first second : List Exchange) → n ≡ record m { inner = n.inner; ahead = m.ahead ++ first } → o ≡ record n { inner = o.inner; ahead = n.ahead ++ second }
    → o ≡ record m { inner = o.inner; ahead = m.ahead ++ (first ++ second) }
put_twice {B} m n o first second one two =
    two ∙ ap (λ (r : Round B). let q : Round B = record r { inner = o.inner; ahead = r.ahead ++ second } in q) one
    ∙ ap (λ (es : List Exchange). let q : Round B = record m { inner = o.inner; ahead = es } in q) (append_assoc m.ahead first second)

module _ {B : Type 0} (batches : B → List (List ℕ) → BatchOutcome → List Exchange → B → Type 0) (streams : B → List (List ℕ) → List (List ℕ) → B → Type 0) (l : Round B) (fetches : List (List ℕ)) where
  -- no answer has come yet
  pub just_begun : (m : Round B) → m ≡ record l { inner = m.inner } → streams l.inner (fetches ++ l.kept) [] m.inner
      → AreArriving batches streams l fetches [] (record { due = fetches; full = false; broken = false }) m
  just_begun m same begun = record {
    same = of_inner;
    given = [];
    few = omega arith;
    laid = [];
    over = (refl, refl);
    count = 0;
    are_put = refl;
    count_few = omega arith;
    all_put = λ _. refl;
    come = (begun, refl);
  }
    where
      of_inner : m ≡ record l { inner = m.inner; held = m.held; ahead = m.ahead; faults = m.faults }
      of_inner = cc

  module _ (put : List Exchange) (a : Awaited) (m : Round B) (k : AreArriving batches streams l fetches put a m) (whole : a.broken ≡ false) (f : List ℕ) (rest : List (List ℕ)) (due : a.due ≡ f ∷ rest) (inner : B) where
    still_comes : streams l.inner (fetches ++ l.kept) k.given m.inner × (a.due ≡ drop (length k.given) fetches)
    still_comes = subst (λ (b : Bool). MatchBool b (HasBroken batches streams l fetches k.given m.inner) (streams l.inner (fetches ++ l.kept) k.given m.inner × (a.due ≡ drop (length k.given) fetches))) whole k.come

    next_due : drop (length k.given) fetches ≡ f ∷ rest
    next_due = sym still_comes.1 ∙ due

    next_sent : drop (length k.given) (fetches ++ l.kept) ≡ f ∷ (rest ++ l.kept)
    next_sent = drop-append-le (length k.given) fetches l.kept k.few ∙ ap (λ (xs : List (List ℕ)). xs ++ l.kept) next_due

    more_given : (answer : List ℕ) → length (k.given ++ answer ∷ []) ≡ length k.given + 1
    more_given answer = omega (arith, length-append k.given (answer ∷ []))

    due_after : (answer : List ℕ) → rest ≡ drop (length (k.given ++ answer ∷ [])) fetches
    due_after answer = sym (drop_next (length k.given) fetches rest f next_due).0 ∙ ap (λ (n : ℕ). drop n fetches) (sym (more_given answer))

    few_after : (answer : List ℕ) → length (k.given ++ answer ∷ []) ≤ length fetches
    few_after answer = omega (arith, more_given answer, (drop_next (length k.given) fetches rest f next_due).1)

    laid_as_many : length k.laid ≡ length k.given
    laid_as_many = laid_count l.device l.record_len l.kept (take (length k.given) fetches) k.given k.laid k.over

    -- what is put ahead with one more answer
    all_ahead : (x : List ℕ) → answered fetches (k.laid ++ x ∷ []) ≡ answered fetches k.laid ++ (f, Ok x) ∷ []
    all_ahead x = answered_next fetches k.laid rest f x (ap (λ (n : ℕ). drop n fetches) laid_as_many ∙ next_due)

    as_many : length (answered fetches k.laid) ≡ length k.given
    as_many = answered_count fetches k.laid (omega (arith, laid_as_many, k.few)) ∙ laid_as_many

    -- an answer comes, and isn't put ahead
    pub one_dropped : (answer x : List ℕ) (full : Bool) → full ≡ true → ((p : IsPathFetch l.device f) × IsOverlaid l.device l.record_len p.tree p.leaf l.kept answer x)
        → streams l.inner (fetches ++ l.kept) (k.given ++ answer ∷ []) inner → AreArriving batches streams l fetches put (record { due = rest; full = full; broken = false }) (record m { inner = inner })
    one_dropped answer x full is over on = record {
      same = ap (λ (r : Round B). let q : Round B = record r { inner = inner } in q) k.same;
      given = k.given ++ answer ∷ [];
      few = few_after answer;
      laid = k.laid ++ x ∷ [];
      over = laid_more l.device l.record_len l.kept fetches k.given k.laid rest f answer x k.over next_due over;
      count = k.count;
      are_put = k.are_put ∙ sym (take-append-le k.count (answered fetches k.laid) ((f, Ok x) ∷ []) (omega (arith, as_many, k.count_few))) ∙ ap (λ (es : List Exchange). take k.count es) (sym (all_ahead x));
      count_few = omega (arith, more_given answer, k.count_few);
      all_put = λ no. absurd (let both : true ≡ false = sym is ∙ no in cc);
      come = (on, due_after answer);
    }

    -- an answer comes, and is put ahead
    pub one_put : (answer x : List ℕ) → a.full ≡ false → ((p : IsPathFetch l.device f) × IsOverlaid l.device l.record_len p.tree p.leaf l.kept answer x)
        → streams l.inner (fetches ++ l.kept) (k.given ++ answer ∷ []) inner
        → AreArriving batches streams l fetches (put ++ (f, Ok x) ∷ []) (record { due = rest; full = false; broken = false }) (record m { inner = inner; ahead = m.ahead ++ (f, Ok x) ∷ [] })
    one_put answer x room over on = record {
      same = ap (λ (r : Round B). let q : Round B = record r { inner = inner; ahead = m.ahead ++ (f, Ok x) ∷ [] } in q) k.same;
      given = k.given ++ answer ∷ [];
      few = few_after answer;
      laid = k.laid ++ x ∷ [];
      over = laid_more l.device l.record_len l.kept fetches k.given k.laid rest f answer x k.over next_due over;
      count = length (k.given ++ answer ∷ []);
      are_put =
          let all : put ≡ answered fetches k.laid = k.are_put ∙ ap (λ (n : ℕ). take n (answered fetches k.laid)) (k.all_put room ∙ sym as_many) ∙ take-length (answered fetches k.laid) in
          let now : put ++ (f, Ok x) ∷ [] ≡ answered fetches (k.laid ++ x ∷ []) = ap (λ (es : List Exchange). es ++ (f, Ok x) ∷ []) all ∙ sym (all_ahead x) in
          let long : length (answered fetches (k.laid ++ x ∷ [])) ≡ length (k.given ++ answer ∷ []) =
          ap length (all_ahead x) ∙ omega (arith, length-append (answered fetches k.laid) ((f, Ok x) ∷ []), as_many, more_given answer) in
          now ∙ sym (take-length (answered fetches (k.laid ++ x ∷ []))) ∙ ap (λ (n : ℕ). take n (answered fetches (k.laid ++ x ∷ []))) long;
      count_few = omega arith;
      all_put = λ _. refl;
      come = (on, due_after answer);
    }

    -- the batch breaks off
    pub one_lost : (fault : LinkFault) (left : List (List ℕ)) → (exchanges : List Exchange) × batches l.inner (fetches ++ l.kept) (Err fault) exchanges inner × BreaksOff (fetches ++ l.kept) k.given exchanges
        → AreArriving batches streams l fetches put (record { due = left; full = a.full; broken = true }) (record m { inner = inner })
    one_lost fault left broke = record {
      same = ap (λ (r : Round B). let q : Round B = record r { inner = inner } in q) k.same;
      given = k.given;
      few = k.few;
      laid = k.laid;
      over = k.over;
      count = k.count;
      are_put = k.are_put;
      count_few = k.count_few;
      all_put = k.all_put;
      come = (fault, broke.0, broke.1, broke.2);
    }

    -- a FETCH was put ahead, or memory ran out
    abbrev pub Puts : Awaited → Round B → List ℕ → Awaited → Round B → Type 0
    Puts b n x c o =
        ((b.full ≡ false) × (c ≡ b) × (o ≡ record n { ahead = n.ahead ++ (f, Ok x) ∷ [] })) ⊎ ((c ≡ record b { full = true }) × (o ≡ n))

    abbrev pub MoreArrive : Awaited → Round B → Type 0
    MoreArrive c o = (more : List Exchange) × AreArriving batches streams l fetches (put ++ more) c o × (o ≡ record m { inner = o.inner; ahead = m.ahead ++ more })

    laid_there : (answer x : List ℕ) → ((p : IsPathFetch m.device f) × IsOverlaid m.device m.record_len p.tree p.leaf m.kept answer x)
        → (p : IsPathFetch l.device f) × IsOverlaid l.device l.record_len p.tree p.leaf l.kept answer x
    laid_there answer x over = subst (λ (r : Round B). (p : IsPathFetch r.device f) × IsOverlaid r.device r.record_len p.tree p.leaf r.kept answer x) k.same over

    goes_on : (answer : List ℕ) → GivesNext batches streams m.inner f (Ok answer) inner → streams l.inner (fetches ++ l.kept) (k.given ++ answer ∷ []) inner
    goes_on answer next = next l.inner (fetches ++ l.kept) k.given (rest ++ l.kept) still_comes.0 next_sent

    pub received : (answer x : List ℕ) → ((p : IsPathFetch m.device f) × IsOverlaid m.device m.record_len p.tree p.leaf m.kept answer x) → GivesNext batches streams m.inner f (Ok answer) inner
        → (c : Awaited) (o : Round B) → Puts (record a { due = rest }) (record m { inner = inner }) x c o → MoreArrive c o
    received answer x over next c o (inl done) =
        let room : a.full ≡ false = done.0 in
        let is : c ≡ record { due = rest; full = false; broken = false } =
        done.1 ∙ ap (λ (b : Bool). let w : Awaited = record a { due = rest; full = b } in w) room ∙ ap (λ (b : Bool). let w : Awaited = record { due = rest; full = false; broken = b } in w) whole in (
          (f, Ok x) ∷ [],
          subst (λ (n : Round B). AreArriving batches streams l fetches (put ++ (f, Ok x) ∷ []) c n) (sym done.2)
              (subst (λ (w : Awaited). AreArriving batches streams l fetches (put ++ (f, Ok x) ∷ []) w (record m { inner = inner; ahead = m.ahead ++ (f, Ok x) ∷ [] })) (sym is)
              (one_put answer x room (laid_there answer x over) (goes_on answer next))),
          subst (λ (n : Round B). n ≡ record m { inner = n.inner; ahead = m.ahead ++ (f, Ok x) ∷ [] }) (sym done.2) refl,
        )
    received answer x over next c o (inr full) =
        let is : c ≡ record { due = rest; full = true; broken = false } =
        full.0 ∙ ap (λ (b : Bool). let w : Awaited = record { due = rest; full = true; broken = b } in w) whole in (
          [],
          subst (λ (es : List Exchange). AreArriving batches streams l fetches es c o) (sym (append-nil put))
              (subst (λ (n : Round B). AreArriving batches streams l fetches put c n) (sym full.1)
              (subst (λ (w : Awaited). AreArriving batches streams l fetches put w (record m { inner = inner })) (sym is)
              (one_dropped answer x true refl (laid_there answer x over) (goes_on answer next)))),
          subst (λ (n : Round B). n ≡ record m { inner = n.inner; ahead = m.ahead ++ [] }) (sym full.1)
              (ap (λ (es : List Exchange). let n : Round B = record m { inner = inner; ahead = es } in n) (sym (append-nil m.ahead))),
        )

    pub lost_next : (fault : LinkFault) → GivesNext batches streams m.inner f (Err fault) inner → MoreArrive (record a { due = rest; broken = true }) (record m { inner = inner })
    lost_next fault next = (
      [],
      subst (λ (es : List Exchange). AreArriving batches streams l fetches es (record a { due = rest; broken = true }) (record m { inner = inner })) (sym (append-nil put))
          (one_lost fault rest (next l.inner (fetches ++ l.kept) k.given (rest ++ l.kept) still_comes.0 next_sent)),
      ap (λ (es : List Exchange). let n : Round B = record m { inner = inner; ahead = es } in n) (sym (append-nil m.ahead)),
    )

  pub none_more : (put : List Exchange) (a : Awaited) (m : Round B) → AreArriving batches streams l fetches put a m
      → (more : List Exchange) × AreArriving batches streams l fetches (put ++ more) a m × (m ≡ record m { inner = m.inner; ahead = m.ahead ++ more })
  none_more put a m k = (
    [],
    subst (λ (es : List Exchange). AreArriving batches streams l fetches es a m) (sym (append-nil put)) k,
    ap (λ (es : List Exchange). let n : Round B = record m { ahead = es } in n) (sym (append-nil m.ahead)),
  )

  -- Once the answers to all FETCHes have come, or the batch has broken off, and the STOREs have answers, too, or the batch has broken off.
  module _ (ends : EndsAsBatch batches streams) (some : fetches ≢ []) (paths : AllByRecursion (IsPathFetch l.device) fetches) (none_held : l.held ≡ []) (put : List Exchange) (a : Awaited) (m : Round B) (k : AreArriving batches streams l fetches put a m) where
    Ended : B → List (List ℕ) → Type 0
    Ended inner kept = (exchanges : List Exchange) × WentAhead batches l fetches exchanges (record l { inner = inner; kept = kept; ahead = put })

    leaves : (inner : B) → LeavesAhead batches l.device l.record_len l fetches k.given (record l { inner = inner; ahead = put })
    leaves inner = record { kept = refl; either = inr (none_held, k.laid, k.over, k.count, k.are_put) }

    broke : (inner : B) (acks : List (List ℕ)) → (length k.given ≡ length fetches) ⊎ (acks ≡ [])
        → ((fault : LinkFault) × (exchanges : List Exchange) × batches l.inner (fetches ++ l.kept) (Err fault) exchanges inner × BreaksOff (fetches ++ l.kept) (k.given ++ acks) exchanges)
        → (exchanges : List Exchange) × WentAhead batches l fetches exchanges (record l { inner = inner; ahead = put })
    broke inner acks turn b = (
      b.1,
      record {
        device = refl;
        record_len = refl;
        held = refl;
        does = inl (record {
          some = some;
          paths = paths;
          outcome = Err b.0;
          batch = b.2;
          gives = record { given = k.given; acks = acks; few = k.few; breaks = b.3; in_turn = turn; leaves = leaves inner };
        });
      },
    )

    pub ends_broken : a.broken ≡ true → (exchanges : List Exchange) × WentAhead batches l fetches exchanges (record l { inner = m.inner; ahead = put })
    ends_broken is =
        let b = subst (λ (x : Bool). MatchBool x (HasBroken batches streams l fetches k.given m.inner) (streams l.inner (fetches ++ l.kept) k.given m.inner × (a.due ≡ drop (length k.given) fetches))) is k.come in
        broke m.inner [] (inr refl) (b.0, b.1, b.2, subst (λ (g : List (List ℕ)). BreaksOff (fetches ++ l.kept) g b.1) (sym (append-nil k.given)) b.3)

    module _ (whole : a.broken ≡ false) (all : a.due ≡ []) where
      came : streams l.inner (fetches ++ l.kept) k.given m.inner × (a.due ≡ drop (length k.given) fetches)
      came = subst (λ (x : Bool). MatchBool x (HasBroken batches streams l fetches k.given m.inner) (streams l.inner (fetches ++ l.kept) k.given m.inner × (a.due ≡ drop (length k.given) fetches))) whole k.come

      pub all_came : length k.given ≡ length fetches
      all_came = omega (arith, k.few, ap length (sym came.1 ∙ all), length-drop (length k.given) fetches)

      pub ends_unsettled : (inner : B) (acks : List (List ℕ)) → EndsAcks batches streams l.inner fetches l.kept k.given acks false inner
          → (exchanges : List Exchange) × WentAhead batches l fetches exchanges (record l { inner = inner; ahead = put })
      ends_unsettled inner acks (inr b) = broke inner acks (inl all_came) (b.1, b.2, b.3, b.4)
      ends_unsettled inner acks (inl given) =
          let long : length (k.given ++ acks) ≡ length (fetches ++ l.kept) = omega (arith, length-append k.given acks, length-append fetches l.kept, all_came, given.1) in
          let batch = ends l.inner inner (fetches ++ l.kept) (k.given ++ acks) given.0 long in (
            batch.0,
            record {
              device = refl;
              record_len = refl;
              held = refl;
              does = inl (record {
                some = some;
                paths = paths;
                outcome = Ok (k.given ++ acks);
                batch = batch.1;
                gives = record { given = k.given; acks = acks; all = refl; count = all_came; either = inr (given.2, leaves inner) };
              });
            },
          )

      pub ends_settled : (inner : B) (acks : List (List ℕ)) → EndsAcks batches streams l.inner fetches l.kept k.given acks true inner
          → (exchanges : List Exchange) × WentAhead batches l fetches exchanges (record l { inner = inner; kept = []; ahead = put })
      ends_settled inner acks (inr b) = absurd (let both : true ≡ false = b.0 in cc)
      ends_settled inner acks (inl given) =
          let long : length (k.given ++ acks) ≡ length (fetches ++ l.kept) = omega (arith, length-append k.given acks, length-append fetches l.kept, all_came, given.1) in
          let batch = ends l.inner inner (fetches ++ l.kept) (k.given ++ acks) given.0 long in
          let over = subst (λ (fs : List (List ℕ)). AreOverlaid l.device l.record_len l.kept fs k.given k.laid) (ap (λ (n : ℕ). take n fetches) all_came ∙ take-length fetches) k.over in (
            batch.0,
            record {
              device = refl;
              record_len = refl;
              held = refl;
              does = inl (record {
                some = some;
                paths = paths;
                outcome = Ok (k.given ++ acks);
                batch = batch.1;
                gives = record { given = k.given; acks = acks; all = refl; count = all_came; either = inl (given.2, refl, k.laid, over, k.count, k.are_put) };
              });
            },
          )

    -- What a link becomes that ends a batch. It was `before`, put some more FETCHes ahead, and became `m`; it becomes the last one.
    abbrev pub EndsUp : Round B → List Exchange → Round B → Type 0
    EndsUp before front o =
        (exchanges more : List Exchange) × WentAhead batches l fetches exchanges (record l { inner = o.inner; kept = o.kept; ahead = front ++ more }) × (o ≡ ended before o.inner o.kept more)

    module _ (before : Round B) (front more : List Exchange) (is_put : put ≡ front ++ more) (grown : m ≡ record before { inner = m.inner; ahead = before.ahead ++ more }) where
      kept_there : m.kept ≡ l.kept
      kept_there = ap (λ (r : Round B). r.kept) k.same

      up : (o : Round B) → (exchanges : List Exchange) → WentAhead batches l fetches exchanges (record l { inner = o.inner; kept = o.kept; ahead = put }) → o ≡ record m { inner = o.inner; kept = o.kept } → EndsUp before front o
      up o exchanges went is = (
        exchanges,
        more,
        subst (λ (es : List Exchange). WentAhead batches l fetches exchanges (record l { inner = o.inner; kept = o.kept; ahead = es })) is_put went,
        is ∙ ap (λ (r : Round B). let q : Round B = record r { inner = o.inner; kept = o.kept } in q) grown,
      )

      -- as many STOREs are kept as before
      stays : (o : Round B) → o.kept ≡ m.kept → (exchanges : List Exchange) × WentAhead batches l fetches exchanges (record l { inner = o.inner; ahead = put }) → o ≡ record m { inner = o.inner; kept = o.kept }
          → EndsUp before front o
      stays o kept went is =
          up o went.0 (subst (λ (ks : List (List ℕ)). WentAhead batches l fetches went.0 (record l { inner = o.inner; kept = ks; ahead = put })) (sym (kept ∙ kept_there)) went.1) is

      pub up_broken : a.broken ≡ true → EndsUp before front m
      up_broken is = stays m refl (ends_broken is) refl

      module _ (whole : a.broken ≡ false) (all : a.due ≡ []) where
        acks_here : (done : Bool) (inner : B) → AcksOf batches streams m.kept m.inner done inner → (acks : List (List ℕ)) × EndsAcks batches streams l.inner fetches l.kept k.given acks done inner
        acks_here done inner acknowledges =
            let on : streams l.inner (fetches ++ m.kept) k.given m.inner = subst (λ (ks : List (List ℕ)). streams l.inner (fetches ++ ks) k.given m.inner) (sym kept_there) (came whole all).0 in
            let acks = acknowledges l.inner fetches k.given (all_came whole all) on in
            (acks.0, subst (λ (ks : List (List ℕ)). EndsAcks batches streams l.inner fetches ks k.given acks.0 done inner) kept_there acks.1)

        pub up_unsettled : (inner : B) → AcksOf batches streams m.kept m.inner false inner → EndsUp before front (record m { inner = inner })
        up_unsettled inner acknowledges =
            let acks = acks_here false inner acknowledges in
            stays (record m { inner = inner }) refl (ends_unsettled whole all inner acks.0 acks.1) refl

        pub up_settled : (inner : B) → AcksOf batches streams m.kept m.inner true inner → EndsUp before front (record m { inner = inner; kept = [] })
        up_settled inner acknowledges =
            let acks = acks_here true inner acknowledges in
            let went = ends_settled whole all inner acks.0 acks.1 in
            up (record m { inner = inner; kept = [] }) went.0 went.1 refl
