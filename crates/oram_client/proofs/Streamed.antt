-- Batches over a reader whose bytes are known.
use Rattle.std.proofs.Common.{◌≡◌, ℕ, Bool, true, false, List, [], ◌∷◌, ◌++◌, length, take, drop, Option, Some, None, Ok, Err, MatchBool, refl, sym, ap, ◌∙◌, subst, inl, inr, arith}
use Rattle.std.specs.Int.{w32, to_be_bytes}
use Rattle.std.specs.List.{flat_map}
use Rattle.std.proofs.lemmas.List.{append_assoc, drop_at, take_at}
use Rattle.std.proofs.lemmas.List.Elements.{All-head, All-tail}
use Rattle.byteorder.specs.Numbers.{big_number-reads_back}
use Rattle.oram_wire.specs.FrameStream.{IsBody, frame, length_at}
use Rattle.oram_wire.specs.HostMessages.{answer_body}
use Rattle.oram_host.specs.Host.{Host}
use Rattle.oram_session.specs.declared.link.LinkFault.{LinkFault}
use Rattle.oram_link_laws.specs.Runs.{Exchange, HostRun}
use Rattle.oram_link_laws.specs.Streamed.{Supplies}
use Rattle.oram_rounds.specs.Batches.{BatchOutcome, answered}
use Rattle.oram_client.specs.OneHost.{StreamBatchesAreRun}
use Rattle.oram_client.specs.AnswerLengths.{longest_answer}
use Rattle.oram_client.specs.StreamBatches.{Carries, Connection, GivesFrames, IsClosed, cut_short}

length_at-frame : (body after : List ℕ) → IsBody body → length_at (frame body ++ after) ≡ length body
length_at-frame body after fits = ap length_at (append_assoc (to_be_bytes w32 (length body)) body after) ∙ big_number-reads_back 4 (length body) (body ++ after) (omega arith)

-- bytes begin with only one frame
pub same_frame : (b c u v : List ℕ) → IsBody b → IsBody c → frame b ++ u ≡ frame c ++ v → (b ≡ c) × (u ≡ v)
same_frame b c u v b_fits c_fits e =
    let count : length b ≡ length c = sym (length_at-frame b u b_fits) ∙ ap length_at e ∙ length_at-frame c v c_fits in
    let left : drop 4 (frame b ++ u) ≡ b ++ u = ap (drop 4) (append_assoc (to_be_bytes w32 (length b)) b u) ∙ drop_at (to_be_bytes w32 (length b)) (b ++ u) 4 refl in
    let right : drop 4 (frame c ++ v) ≡ c ++ v = ap (drop 4) (append_assoc (to_be_bytes w32 (length c)) c v) ∙ drop_at (to_be_bytes w32 (length c)) (c ++ v) 4 refl in
    let behind : b ++ u ≡ c ++ v = sym left ∙ ap (drop 4) e ∙ right in (
      sym (take_at b u (length b) refl) ∙ ap (take (length b)) behind ∙ take_at c v (length b) (sym count),
      sym (drop_at b u (length b) refl) ∙ ap (drop (length b)) behind ∙ drop_at c v (length b) (sym count),
    )

-- the frame of the first answer, and those after it
first_of : (bytes : List ℕ) (new : Option (List ℕ)) (answer : List ℕ) (answers : List (List ℕ)) (expected rest : List ℕ) → IsBody expected → bytes ≡ frame expected ++ rest
    → GivesFrames (Some bytes) new (answer ∷ answers) → (answer ≡ expected) × GivesFrames (Some rest) new answers
first_of bytes None answer answers expected rest fits is gives = absurd gives.1
first_of bytes (Some left) answer answers expected rest fits is gives =
    let others = flat_map frame answers in
    let whole : frame answer ++ (others ++ left) ≡ frame expected ++ rest = sym (append_assoc (frame answer) others left) ∙ sym gives.1 ∙ is in
    let both = same_frame answer expected (others ++ left) rest (All-head IsBody answer answers gives.0) fits whole in
    (both.0, (All-tail IsBody answer answers gives.0, sym both.1))

-- no answer came to any of the messages, and the host has heard none of them
unheard : (host : Host) (bodies : List (List ℕ)) (fault : LinkFault) → HostRun host (cut_short bodies [] fault) host
unheard host [] fault = refl
unheard host (b ∷ bodies) fault = (host, inl refl, unheard host bodies fault)

-- the answers that came are the server's

all_answered : (bodies answers : List (List ℕ)) (host : Host) (bytes : List ℕ) (new : Option (List ℕ)) → Supplies host bodies bytes → GivesFrames (Some bytes) new answers
    → (left : Host) × HostRun host (answered bodies answers) left
all_answered [] answers host bytes new supplies gives = (host, refl)
all_answered (b ∷ bodies) [] host bytes new supplies gives = (host, refl)
all_answered (b ∷ bodies) (a ∷ answers) host bytes new supplies gives =
    let first = first_of bytes new a answers (answer_body supplies.0) supplies.2 supplies.4 supplies.6 gives in
    let rest = all_answered bodies answers supplies.1 supplies.2 new supplies.7 first.1 in
    (rest.0, (supplies.1, (supplies.0, supplies.3, first.0, supplies.5), rest.1))

some_answered : (bodies answers : List (List ℕ)) (fault : LinkFault) (host : Host) (bytes : List ℕ) (new : Option (List ℕ)) → Supplies host bodies bytes
    → GivesFrames (Some bytes) new answers → (left : Host) × HostRun host (cut_short bodies answers fault) left
some_answered [] answers fault host bytes new supplies gives = (host, refl)
some_answered (b ∷ bodies) [] fault host bytes new supplies gives = (host, unheard host (b ∷ bodies) fault)
some_answered (b ∷ bodies) (a ∷ answers) fault host bytes new supplies gives =
    let first = first_of bytes new a answers (answer_body supplies.0) supplies.2 supplies.4 supplies.6 gives in
    let rest = some_answered bodies answers fault supplies.1 supplies.2 new supplies.7 first.1 in
    (rest.0, (supplies.1, (supplies.0, supplies.3, first.0, supplies.5), rest.1))

module _ {R W : Type 0} (remaining : R → Option (List ℕ)) (contents : W → Option (List ℕ)) where
  ran : (closed : Bool) (l m : Connection R W) (bodies : List (List ℕ)) (o : BatchOutcome) (exchanges : List Exchange) (host : Host) (bytes : List ℕ)
      → remaining l.reader ≡ Some bytes → Supplies host bodies bytes
      → MatchBool closed (IsClosed l o exchanges m) (Carries remaining contents (longest_answer l.disk) l.reader l.writer bodies o exchanges m.reader m.writer)
      → (left : Host) × HostRun host exchanges left
  ran true l m bodies o exchanges host bytes known supplies h = (host, subst (λ (es : List Exchange). HostRun host es host) (sym h.none) refl)
  ran false l m bodies (Ok answers) exchanges host bytes known supplies h =
      let read : GivesFrames (Some bytes) (remaining m.reader) answers = subst (λ (old : Option (List ℕ)). GivesFrames old (remaining m.reader) answers) known h.0.received.read in
      let run = all_answered bodies answers host bytes (remaining m.reader) supplies read in
      (run.0, subst (λ (es : List Exchange). HostRun host es run.0) (sym h.1) run.1)
  ran false l m bodies (Err fault) exchanges host bytes known supplies h = elim h.2 [
    | inl unsent ↦
        let none : exchanges ≡ cut_short bodies [] fault = h.1 ∙ ap (λ (as' : List (List ℕ)). cut_short bodies as' fault) unsent.none in
        (host, subst (λ (es : List Exchange). HostRun host es host) (sym none) (unheard host bodies fault))
    | inr cut ↦
        let read : GivesFrames (Some bytes) cut.stops.mid h.0 = subst (λ (old : Option (List ℕ)). GivesFrames old cut.stops.mid h.0) known cut.stops.received.read in
        let run = some_answered bodies h.0 fault host bytes cut.stops.mid supplies read in
        (run.0, subst (λ (es : List Exchange). HostRun host es run.0) (sym h.1) run.1)
  ]

  pub stream_batches_are_run : StreamBatchesAreRun remaining contents
  stream_batches_are_run l m bodies o exchanges host bytes known supplies h = ran l.closed l m bodies o exchanges host bytes known supplies h.carried
