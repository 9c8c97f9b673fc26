-- Answers to a batch of the link below that are taken one by one.
use Rattle.std.proofs.Common.{◌≡◌, ℕ, ◌+◌, arith, List, [], ◌∷◌, ◌++◌, drop, length, Option, None, Result, Ok, Err, refl, sym, ap, ◌∙◌, subst, inr, append_assoc, append-nil}
use Rattle.std.proofs.Math.Seq.{drop-append_seam}
use Rattle.std.proofs.lemmas.List.{length-append}
use Rattle.oram_session.specs.declared.link.LinkFault.{LinkFault}
use Rattle.oram_link_laws.specs.Repair.{AreAmong, IsAmong}
use Rattle.oram_link_laws.specs.Runs.{Exchange, bodies_of}
use Rattle.oram_rounds.specs.Batches.{BatchOutcome, BreaksOff, IsBatch, answered}
use Rattle.oram_rounds.specs.Law.{AreBatches}
use Rattle.oram_rounds.specs.Streams.{EndsAsBatch, GivesNext}
use Rattle.oram_rounds.proofs.NextAnswers.{answered_none}
use Rattle.oram_rounds.proofs.Sent.{among_append, answered_among}
use Rattle.oram_near.specs.NearCalls.{IsRefusal}
use Rattle.oram_near.specs.NearStreams.{Hears, PassesOver}

nothing_behind : (front rest : List (List ℕ)) → [] ≡ front ++ rest → [] ≡ rest
nothing_behind [] rest is = is
nothing_behind (f ∷ front) rest is = absurd cc

-- what comes next in a batch, once the answers to some of its messages have come
pub next_at : (all answers more front rest : List (List ℕ)) → drop (length answers) all ≡ front ++ rest → length more ≡ length front → drop (length (answers ++ more)) all ≡ rest
next_at all [] more front rest is count = ap (λ (n : ℕ). drop n all) count ∙ ap (drop (length front)) is ∙ drop-append_seam front rest
next_at [] (a ∷ answers) more front rest is count = nothing_behind front rest is
next_at (b ∷ all) (a ∷ answers) more front rest is count = next_at all answers more front rest is count

answered_more : (bodies answers more : List (List ℕ)) → answered bodies (answers ++ more) ≡ answered bodies answers ++ answered (drop (length answers) bodies) more
answered_more [] [] more = refl
answered_more [] (a ∷ answers) more = refl
answered_more (b ∷ bodies) [] more = refl
answered_more (b ∷ bodies) (a ∷ answers) more = ap (λ (es : List Exchange). (b, Ok a) ∷ es) (answered_more bodies answers more)

among_dropped : (bodies answers : List (List ℕ)) (x : List ℕ) → IsAmong x (drop (length answers) bodies) → IsAmong x bodies
among_dropped bodies [] x among = among
among_dropped [] (a ∷ answers) x among = absurd among
among_dropped (b ∷ bodies) (a ∷ answers) x among = inr (among_dropped bodies answers x among)

-- A batch that broke off once some messages had answers broke off once the first of these had theirs.
pub shorter : (bodies answers more : List (List ℕ)) (exchanges : List Exchange) → BreaksOff bodies (answers ++ more) exchanges → BreaksOff bodies answers exchanges
shorter bodies answers more exchanges b =
    let behind : List Exchange = answered (drop (length answers) bodies) more in (
      b.0,
      behind ++ b.1,
      b.2,
      among_append behind b.1 bodies (answered_among (drop (length answers) bodies) more bodies (among_dropped bodies answers)) b.3,
      b.4 ∙ ap (λ (es : List Exchange). b.0 ++ es ++ b.1) (answered_more bodies answers more)
          ∙ ap (λ (es : List Exchange). es ++ b.1) (sym (append_assoc b.0 (answered bodies answers) behind)) ∙ append_assoc (b.0 ++ answered bodies answers) behind b.1,
    )

-- A batch whose messages all have their answers has those of the first ones.
pub whole_broke : (bodies answers more : List (List ℕ)) (exchanges : List Exchange) → IsBatch bodies (Ok (answers ++ more)) exchanges → BreaksOff bodies answers exchanges
whole_broke bodies answers more exchanges batch =
    shorter bodies answers more exchanges
    (batch.1, [], batch.2, tt, batch.3 ∙ sym (append-nil (batch.1 ++ answered bodies (answers ++ more))))

-- A batch without answers broke off before the first one.
pub none_broke : (bodies : List (List ℕ)) (exchanges : List Exchange) → AreAmong (bodies_of exchanges) bodies → BreaksOff bodies [] exchanges
none_broke bodies exchanges among =
    (exchanges, [], among, tt, sym (append-nil (exchanges ++ answered bodies []) ∙ ap (λ (es : List Exchange). exchanges ++ es) (answered_none bodies) ∙ append-nil exchanges))

module _ {B : Type 0} (batches : B → List (List ℕ) → BatchOutcome → List Exchange → B → Type 0) (streams : B → List (List ℕ) → List (List ℕ) → B → Type 0) where
  pub hears_none : (k : B) → Hears batches streams k [] (Ok None) k
  hears_none k l bodies answers rest come is = ([], refl, subst (λ (as' : List (List ℕ)). streams l bodies as' k) (sym (append-nil answers)) come, tt)

  -- one more answer has come
  pub hears_more : (k m n : B) (front : List (List ℕ)) (body answer : List ℕ) (refusal refusal' : Option (List ℕ)) → Hears batches streams k front (Ok refusal) m
      → GivesNext batches streams m body (Ok answer) n → ((heard : List (List ℕ)) → IsRefusal heard refusal → IsRefusal (heard ++ answer ∷ []) refusal')
      → Hears batches streams k (front ++ body ∷ []) (Ok refusal') n
  hears_more k m n front body answer refusal refusal' heard gives refused l bodies answers rest come is =
      let h = heard l bodies answers (body ∷ rest) come (is ∙ append_assoc front (body ∷ []) rest) in
      let next = next_at bodies answers h.0 front (body ∷ rest) (is ∙ append_assoc front (body ∷ []) rest) h.1 in
      let given = gives l bodies (answers ++ h.0) rest h.2 next in (
        h.0 ++ answer ∷ [],
        length-append h.0 (answer ∷ []) ∙ ap (λ (n : ℕ). n + 1) h.1 ∙ sym (length-append front (body ∷ [])),
        subst (λ (as' : List (List ℕ)). streams l bodies as' n) (append_assoc answers h.0 (answer ∷ [])) given,
        refused h.0 h.3,
      )

  -- or it doesn't come
  pub hears_fault : (k m n : B) (front rest : List (List ℕ)) (body : List ℕ) (refusal : Option (List ℕ)) (fault : LinkFault) → Hears batches streams k front (Ok refusal) m
      → GivesNext batches streams m body (Err fault) n → Hears batches streams k (front ++ body ∷ rest) (Err fault) n
  hears_fault k m n front rest body refusal fault heard gives l bodies answers later come is =
      let at : drop (length answers) bodies ≡ front ++ (body ∷ rest ++ later) = is ∙ append_assoc front (body ∷ rest) later in
      let h = heard l bodies answers (body ∷ rest ++ later) come at in
      let broke = gives l bodies (answers ++ h.0) (rest ++ later) h.2 (next_at bodies answers h.0 front (body ∷ rest ++ later) at h.1) in
      (broke.0, broke.1, shorter bodies answers h.0 broke.0 broke.2)

  pub passes_fault : (k m : B) (fetches stores : List (List ℕ)) (fault : LinkFault) → Hears batches streams k fetches (Err fault) m → PassesOver batches streams k (fetches ++ stores) m
  passes_fault k m fetches stores fault heard l bodies answers come is count =
      let broke = heard l bodies answers stores come is in (Err fault, broke.0, broke.1, broke.2)

  pub passes_over : AreBatches batches → EndsAsBatch batches streams → (k m n : B) (fetches stores : List (List ℕ)) (refusal : Option (List ℕ)) (last : Result (Option (List ℕ)) LinkFault)
      → Hears batches streams k fetches (Ok refusal) m → Hears batches streams m stores last n → PassesOver batches streams k (fetches ++ stores) n
  passes_over are ends k m n fetches stores refusal (Err fault) heard heard_last l bodies answers come is count =
      let h = heard l bodies answers stores come is in
      let at : drop (length (answers ++ h.0)) bodies ≡ stores ++ [] = next_at bodies answers h.0 fetches stores is h.1 ∙ sym (append-nil stores) in
      let broke = heard_last l bodies (answers ++ h.0) [] h.2 at in
      (Err fault, broke.0, broke.1, shorter bodies answers h.0 broke.0 broke.2)
  passes_over are ends k m n fetches stores refusal (Ok other) heard heard_last l bodies answers come is count =
      let h = heard l bodies answers stores come is in
      let at : drop (length (answers ++ h.0)) bodies ≡ stores ++ [] = next_at bodies answers h.0 fetches stores is h.1 ∙ sym (append-nil stores) in
      let g = heard_last l bodies (answers ++ h.0) [] h.2 at in
      let long : length ((answers ++ h.0) ++ g.0) ≡ length bodies =
      omega (arith, length-append (answers ++ h.0) g.0, length-append answers h.0, h.1, g.1, count, length-append fetches stores) in
      let all = ends l n bodies ((answers ++ h.0) ++ g.0) g.2 long in
      let batch = are l n bodies (Ok ((answers ++ h.0) ++ g.0)) all.0 all.1 in (
        Ok ((answers ++ h.0) ++ g.0),
        all.0,
        all.1,
        shorter bodies answers h.0 all.0 (whole_broke bodies (answers ++ h.0) g.0 all.0 batch),
      )
