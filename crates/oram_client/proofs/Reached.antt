-- A batch over a connection that leads to a host, and may break off.
use Rattle.std.proofs.Common.{◌≡◌, ℕ, Bool, true, false, List, [], ◌∷◌, ◌++◌, length, Option, Some, None, Ok, Err, MatchBool, refl, sym, ap, ◌∙◌, subst, inl, inr, arith}
use Rattle.std.specs.Prelude.{is_ok}
use Rattle.std.specs.List.{All, flat_map}
use Rattle.std.proofs.lemmas.Bool.{true≢false}
use Rattle.std.proofs.lemmas.List.{append_assoc}
use Rattle.std.proofs.lemmas.List.Elements.{All-head, All-tail}
use Rattle.oram_wire.specs.FrameStream.{IsBody, frame}
use Rattle.oram_wire.specs.HostMessages.{answer_body}
use Rattle.oram_host.specs.Host.{Host}
use Rattle.oram_session.specs.declared.link.LinkFault.{LinkFault}
use Rattle.oram_link_laws.specs.Runs.{Exchange, HostRun}
use Rattle.oram_rounds.specs.Batches.{BatchOutcome, answered}
use Rattle.oram_client.specs.OneHost.{AnswersFirst, LeadsToHost, StreamBatchesReachTheHost}
use Rattle.oram_client.specs.AnswerLengths.{longest_answer}
use Rattle.oram_client.specs.StreamBatches.{Carries, Connection, GivesFrames, IsClosed, cut_short}
use Rattle.oram_client.proofs.Streamed.{same_frame}

-- a frame has bytes
no_frame : (body behind : List ℕ) → frame body ++ behind ≡ [] → ⊥
no_frame body behind e = cc

none_left : (bytes lost : List ℕ) → bytes ++ lost ≡ [] → bytes ≡ []
none_left [] lost e = refl
none_left (b ∷ bytes) lost e = absurd cc

-- the host received none of these messages
not_received : (bodies : List (List ℕ)) (fault : LinkFault) (host after : Host) → after ≡ host → HostRun host (cut_short bodies [] fault) after
not_received [] fault host after same = sym same
not_received (b ∷ bodies) fault host after same = (host, inl refl, not_received bodies fault host after same)

-- no answer came to any of the messages; the host may have received some of them
unheard : (bodies : List (List ℕ)) (fault : LinkFault) (host after : Host) (answers : List ℕ) → AnswersFirst host bodies answers after → HostRun host (cut_short bodies [] fault) after
unheard [] fault host after answers given = sym given.1
unheard (b ∷ bodies) fault host after answers (inl none) = not_received (b ∷ bodies) fault host after none.1
unheard (b ∷ bodies) fault host after answers (inr more) = (more.1, inr (more.0, more.5), unheard bodies fault more.1 after more.2 more.7)

-- the first answer that was read is the host's, and so are those after it
next_answer : (expected rest bytes lost answer others left all : List ℕ) → IsBody expected → IsBody answer → all ≡ frame expected ++ rest → bytes ++ lost ≡ all
    → bytes ≡ (frame answer ++ others) ++ left → (answer ≡ expected) × ((others ++ left) ++ lost ≡ rest)
next_answer expected rest bytes lost answer others left all fits read is come gives =
    let whole : frame answer ++ ((others ++ left) ++ lost) ≡ frame expected ++ rest =
    sym (append_assoc (frame answer) (others ++ left) lost) ∙ ap (λ (l : List ℕ). l ++ lost) (sym (append_assoc (frame answer) others left) ∙ sym gives) ∙ come ∙ is in
    same_frame answer expected ((others ++ left) ++ lost) rest read fits whole

-- a host that answered nothing gave no frame
not_given : (bytes lost answer others left all : List ℕ) → all ≡ [] → bytes ++ lost ≡ all → bytes ≡ (frame answer ++ others) ++ left → ⊥
not_given bytes lost answer others left all none come gives =
    no_frame answer (others ++ left) (sym (append_assoc (frame answer) others left) ∙ sym gives ∙ none_left bytes lost (come ∙ none))

all_heard : (bodies answers : List (List ℕ)) (host after : Host) (all bytes lost left : List ℕ) → AnswersFirst host bodies all after → bytes ++ lost ≡ all
    → All IsBody answers → bytes ≡ flat_map frame answers ++ left → length answers ≡ length bodies → HostRun host (answered bodies answers) after × (left ≡ [])
all_heard [] [] host after all bytes lost left given come fits gives count = (sym given.1, sym gives ∙ none_left bytes lost (come ∙ given.0))
all_heard [] (a ∷ answers) host after all bytes lost left given come fits gives count = absurd (omega (arith, count))
all_heard (b ∷ bodies) [] host after all bytes lost left given come fits gives count = absurd (omega (arith, count))
all_heard (b ∷ bodies) (a ∷ answers) host after all bytes lost left (inl none) come fits gives count =
    absurd (not_given bytes lost a (flat_map frame answers) left all none.0 come gives)
all_heard (b ∷ bodies) (a ∷ answers) host after all bytes lost left (inr more) come fits gives count =
    let first = next_answer (answer_body more.0) more.2 bytes lost a (flat_map frame answers) left all more.4 (All-head IsBody a answers fits) more.6 come gives in
    let rest = all_heard bodies answers more.1 after more.2 (flat_map frame answers ++ left) lost left more.7 first.1 (All-tail IsBody a answers fits) refl (omega (arith, count)) in
    ((more.1, (more.0, more.3, first.0, more.5), rest.0), rest.1)

some_heard : (bodies answers : List (List ℕ)) (fault : LinkFault) (host after : Host) (all bytes lost left : List ℕ) → AnswersFirst host bodies all after → bytes ++ lost ≡ all
    → All IsBody answers → bytes ≡ flat_map frame answers ++ left → HostRun host (cut_short bodies answers fault) after
some_heard [] answers fault host after all bytes lost left given come fits gives = sym given.1
some_heard (b ∷ bodies) [] fault host after all bytes lost left given come fits gives = unheard (b ∷ bodies) fault host after all given
some_heard (b ∷ bodies) (a ∷ answers) fault host after all bytes lost left (inl none) come fits gives =
    absurd (not_given bytes lost a (flat_map frame answers) left all none.0 come gives)
some_heard (b ∷ bodies) (a ∷ answers) fault host after all bytes lost left (inr more) come fits gives =
    let first = next_answer (answer_body more.0) more.2 bytes lost a (flat_map frame answers) left all more.4 (All-head IsBody a answers fits) more.6 come gives in
    let rest = some_heard bodies answers fault more.1 after more.2 (flat_map frame answers ++ left) lost left more.7 first.1 (All-tail IsBody a answers fits) refl in
    (more.1, (more.0, more.3, first.0, more.5), rest)

-- what was read of known bytes

read_all : (new : Option (List ℕ)) (bodies answers : List (List ℕ)) (host after : Host) (bytes : List ℕ) → LeadsToHost host bodies bytes after → GivesFrames (Some bytes) new answers
    → length answers ≡ length bodies → HostRun host (answered bodies answers) after × (new ≡ Some [])
read_all None bodies answers host after bytes leads gives count = absurd gives.1
read_all (Some left) bodies answers host after bytes leads gives count =
    let done = all_heard bodies answers host after leads.answers bytes leads.lost left leads.given leads.come gives.0 gives.1 count in
    (done.0, ap (λ (l : List ℕ). Some l) done.1)

pub read_some : (new : Option (List ℕ)) (bodies answers : List (List ℕ)) (fault : LinkFault) (host after : Host) (bytes : List ℕ) → LeadsToHost host bodies bytes after
    → GivesFrames (Some bytes) new answers → HostRun host (cut_short bodies answers fault) after
read_some None bodies answers fault host after bytes leads gives = absurd gives.1
read_some (Some left) bodies answers fault host after bytes leads gives =
    some_heard bodies answers fault host after leads.answers bytes leads.lost left leads.given leads.come gives.0 gives.1

module _ {R W : Type 0} (remaining : R → Option (List ℕ)) (contents : W → Option (List ℕ)) where
  reached : (closed : Bool) (l m : Connection R W) (bodies : List (List ℕ)) (o : BatchOutcome) (exchanges : List Exchange) (host after : Host) (bytes : List ℕ)
      → closed ≡ false → remaining l.reader ≡ Some bytes → LeadsToHost host bodies bytes after
      → MatchBool closed (IsClosed l o exchanges m) (Carries remaining contents (longest_answer l.disk) l.reader l.writer bodies o exchanges m.reader m.writer)
      → HostRun host exchanges after × (is_ok o ≡ true → remaining m.reader ≡ Some [])
  reached true l m bodies o exchanges host after bytes unclosed known leads h = absurd (true≢false unclosed)
  reached false l m bodies (Ok answers) exchanges host after bytes unclosed known leads h =
      let read : GivesFrames (Some bytes) (remaining m.reader) answers = subst (λ (old : Option (List ℕ)). GivesFrames old (remaining m.reader) answers) known h.0.received.read in
      let done = read_all (remaining m.reader) bodies answers host after bytes leads read h.0.received.count in
      (subst (λ (es : List Exchange). HostRun host es after) (sym h.1) done.0, λ ok. done.1)
  reached false l m bodies (Err fault) exchanges host after bytes unclosed known leads h = (
    elim h.2 [
      | inl unsent ↦
          let none : exchanges ≡ cut_short bodies [] fault = h.1 ∙ ap (λ (as' : List (List ℕ)). cut_short bodies as' fault) unsent.none in
          subst (λ (es : List Exchange). HostRun host es after) (sym none) (unheard bodies fault host after leads.answers leads.given)
      | inr cut ↦
          let read : GivesFrames (Some bytes) cut.stops.mid h.0 = subst (λ (old : Option (List ℕ)). GivesFrames old cut.stops.mid h.0) known cut.stops.received.read in
          subst (λ (es : List Exchange). HostRun host es after) (sym h.1) (read_some cut.stops.mid bodies h.0 fault host after bytes leads read)
    ],
    λ ok. absurd (true≢false (sym ok)),
  )

  pub stream_batches_reach_the_host : StreamBatchesReachTheHost remaining contents
  stream_batches_reach_the_host l m bodies o exchanges host after bytes unclosed known leads h = reached l.closed l m bodies o exchanges host after bytes unclosed known leads h.carried
