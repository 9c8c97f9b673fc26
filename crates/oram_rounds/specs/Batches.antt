-- Several messages that go to the host at once.
use Rattle.std.specs.Prelude.{◌≡◌, ◌⊎◌, ℕ, List, [], ◌∷◌, ◌++◌, length, map, Result, Ok, Err}
use Rattle.std.specs.Global.{Vec}
use Rattle.oram_session.specs.declared.link.LinkFault.{LinkFault}
use Rattle.oram_link_laws.specs.Repair.{AreAmong}
use Rattle.oram_link_laws.specs.Runs.{Exchange, bodies_of}

-- the answers to all messages, in their order, or why there are none
abbrev pub BatchOutcome : Type 0
BatchOutcome = Result (List (List ℕ)) LinkFault

-- lists of bytes, without their places in memory
abbrev pub texts : List (Vec ℕ) → List (List ℕ)
texts vecs = map (λ v. v.items) vecs

abbrev pub batch_outcome_of : Result (Vec (Vec ℕ)) LinkFault → BatchOutcome
batch_outcome_of (Ok answers) = Ok (texts answers.items)
batch_outcome_of (Err fault) = Err fault

-- each message with its answer
abbrev pub answered : List (List ℕ) → List (List ℕ) → List Exchange
answered [] answers = []
answered (body ∷ bodies) [] = []
answered (body ∷ bodies) (answer ∷ answers) = (body, Ok answer) ∷ answered bodies answers

-- the link stays as it is, or does what it may do in a batch of no messages
abbrev pub SendsNothing : {B : Type 0} → (B → List (List ℕ) → BatchOutcome → List Exchange → B → Type 0) → B → B → Type 0
SendsNothing batches l m = (m ≡ l) ⊎ batches l [] (Ok []) [] m

-- The exchanges of a batch with this outcome: tries of its messages, with any outcomes; and if there are answers, each
-- message once more, with its answer.
abbrev pub IsBatch : List (List ℕ) → BatchOutcome → List Exchange → Type 0
IsBatch bodies (Ok answers) exchanges =
    (length answers ≡ length bodies) × (tries : List Exchange) × AreAmong (bodies_of tries) bodies × (exchanges ≡ tries ++ answered bodies answers)
IsBatch bodies (Err fault) exchanges = AreAmong (bodies_of exchanges) bodies

-- A batch that broke off once its first messages had these answers: tries of its messages, with any outcomes; then the first messages, each
-- with its answer; then tries again.
abbrev pub BreaksOff : List (List ℕ) → List (List ℕ) → List Exchange → Type 0
BreaksOff bodies answers exchanges =
    (tries more : List Exchange) × AreAmong (bodies_of tries) bodies × AreAmong (bodies_of more) bodies × (exchanges ≡ tries ++ answered bodies answers ++ more)
