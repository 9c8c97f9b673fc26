-- Answers that are received one after the other.
use Rattle.std.proofs.Common.{◌≡◌, ℕ, ◌+◌, ◌≤◌, List, [], ◌∷◌, ◌++◌, length, take, drop, Option, Result, Ok, Err, ◌⊎◌, refl, sym, ap, ◌∙◌, subst, length-append, append_assoc, append-nil, arith}
use Rattle.std.specs.Prelude.{IfErr, OnOk}
use Rattle.std.specs.Io.KnownBytes.{Consumes}
use Rattle.std.specs.List.{All, flat_map}
use Rattle.std.proofs.KnownBytes.{Consumes-nil, Consumes-trans}
use Rattle.std.proofs.lemmas.Grind.{flat_map-append}
use Rattle.std.proofs.lemmas.List.Elements.{All-append, All-cons, All-nil}
use Rattle.oram_wire.specs.FrameStream.{IsBody, frame}
use Rattle.oram_session.specs.declared.link.LinkFault.{LinkFault}
use Rattle.oram_session.specs.declared.link.LinkFault.TheVariants.{OutOfMemory}
use Rattle.oram_client.specs.StreamBatches.{AreAdded, AreReceived, AreWithin, ReceivesWithin, StopsAfter}

within_both : (longest : List ℕ → ℕ) (first last as' bs : List (List ℕ)) → length as' ≡ length first → AreWithin longest first as' → AreWithin longest last bs
    → AreWithin longest (first ++ last) (as' ++ bs)
within_both longest [] last [] bs count one two = two
within_both longest [] last (a ∷ as') bs count one two = absurd (omega (arith, count))
within_both longest (b ∷ first) last [] bs count one two = absurd (omega (arith, count))
within_both longest (b ∷ first) last (a ∷ as') bs count one two = (one.0, within_both longest first last as' bs (omega (arith, count)) one.1 two)

module _ (longest : List ℕ → ℕ) where
  pub received_both : (x y z : Option (List ℕ)) (first last as' bs : List (List ℕ)) → AreReceived longest x y first as' → AreReceived longest y z last bs
      → AreReceived longest x z (first ++ last) (as' ++ bs)
  received_both x y z first last as' bs one two = record {
    count = length-append as' bs ∙ omega (arith, one.count, two.count) ∙ sym (length-append first last);
    read = (
      All-append IsBody as' bs one.read.0 two.read.0,
      subst (Consumes x z) (sym (flat_map-append frame as' bs)) (Consumes-trans x y z (flat_map frame as') (flat_map frame bs) one.read.1 two.read.1),
    );
    within = within_both longest first last as' bs one.count one.within two.within;
  }

  pub received_none : (x : Option (List ℕ)) → AreReceived longest x x [] []
  received_none x = record { count = refl; read = (All-nil IsBody, Consumes-nil x); within = tt }

  pub received_one : (x y : Option (List ℕ)) (body answer : List ℕ) → ReceivesWithin (longest body) x y (Ok answer) → AreReceived longest x y (body ∷ []) (answer ∷ [])
  received_one x y body answer ((fits, read), within) = record {
    count = refl;
    read = (All-cons IsBody answer [] fits (All-nil IsBody), subst (Consumes x y) (sym (append-nil (frame answer))) read);
    within = (within, tt);
  }

  -- answers added to a list

  pub added_none : (x : Option (List ℕ)) (before : List (List ℕ)) → AreAdded longest x x [] before before
  added_none x before = record { answers = []; received = received_none x; added = sym (append-nil before) }

  pub added_both : (x y z : Option (List ℕ)) (first last before mid after : List (List ℕ)) → AreAdded longest x y first before mid → AreAdded longest y z last mid after
      → AreAdded longest x z (first ++ last) before after
  added_both x y z first last before mid after one two = record {
    answers = one.answers ++ two.answers;
    received = received_both x y z first last one.answers two.answers one.received two.received;
    added = two.added ∙ ap (λ (l : List (List ℕ)). l ++ two.answers) one.added ∙ append_assoc before one.answers two.answers;
  }

  pub added_one : (x y z : Option (List ℕ)) (first next before mid after : List (List ℕ)) (body answer : List ℕ) → next ≡ first ++ body ∷ [] → AreAdded longest x y first before mid
      → ReceivesWithin (longest body) y z (Ok answer) → after ≡ mid ++ answer ∷ [] → AreAdded longest x z next before after
  added_one x y z first next before mid after body answer is one read more =
      subst (λ (l : List (List ℕ)). AreAdded longest x z l before after) (sym is)
      (added_both x y z first (body ∷ []) before mid after one (record { answers = answer ∷ []; received = received_one y z body answer read; added = more }))

  -- a list that had no answers has all of them
  pub all_added : (x y z : Option (List ℕ)) (first last none mid after : List (List ℕ)) → none ≡ [] → AreAdded longest x y first none mid → AreAdded longest y z last mid after
      → AreReceived longest x z (first ++ last) after
  all_added x y z first last none mid after empty one two =
      let both = added_both x y z first last none mid after one two in
      subst (λ (l : List (List ℕ)). AreReceived longest x z (first ++ last) l) (sym (both.added ∙ ap (λ (l : List (List ℕ)). l ++ both.answers) empty)) both.received

  -- the answer that doesn't come

  pub stops_later : (x y z : Option (List ℕ)) (first last as' bs : List (List ℕ)) (fault : LinkFault) → AreReceived longest x y first as' → StopsAfter longest y z last bs fault
      → StopsAfter longest x z (first ++ last) (as' ++ bs) fault
  stops_later x y z first last as' bs fault one stops = record {
    first = first ++ stops.first;
    next = stops.next;
    others = stops.others;
    all = ap (λ (l : List (List ℕ)). first ++ l) stops.all ∙ sym (append_assoc first stops.first (stops.next ∷ stops.others));
    mid = stops.mid;
    received = received_both x y stops.mid first stops.first as' bs one stops.received;
    stop = stops.stop;
  }

  pub stops_before : (x y : Option (List ℕ)) (first last answers : List (List ℕ)) (fault : LinkFault) → StopsAfter longest x y first answers fault
      → StopsAfter longest x y (first ++ last) answers fault
  stops_before x y first last answers fault stops = record {
    first = stops.first;
    next = stops.next;
    others = stops.others ++ last;
    all = ap (λ (l : List (List ℕ)). l ++ last) stops.all ∙ append_assoc stops.first (stops.next ∷ stops.others) last;
    mid = stops.mid;
    received = stops.received;
    stop = stops.stop;
  }

  -- once the first ones of the messages have answers, the next one has none
  pub stops_here : (x y z : Option (List ℕ)) (bodies before mid : List (List ℕ)) (i longest_here : ℕ) (body : List ℕ) (fault : LinkFault)
      → take i bodies ++ body ∷ drop (i + 1) bodies ≡ bodies → AreAdded longest x y (take i bodies) before mid → longest_here ≡ longest body
      → (ReceivesWithin longest_here y z (Err fault) ⊎ ((fault ≡ OutOfMemory) × (answer : List ℕ) × ReceivesWithin longest_here y z (Ok answer)))
      → (more : List (List ℕ)) × StopsAfter longest x z bodies more fault
  stops_here x y z bodies before mid i longest_here body fault all added is stop = (
    added.answers,
    record {
      first = take i bodies;
      next = body;
      others = drop (i + 1) bodies;
      all = sym all;
      mid = y;
      received = added.received;
      stop = subst (λ (n : ℕ). ReceivesWithin n y z (Err fault) ⊎ ((fault ≡ OutOfMemory) × (answer : List ℕ) × ReceivesWithin n y z (Ok answer))) is stop;
    },
  )

  -- what the second part of the messages comes to, after the first part

  pub added_ok : (x y z : Option (List ℕ)) (first last before mid after : List (List ℕ)) (result : Result Unit LinkFault) → AreAdded longest x y first before mid
      → OnOk result (AreAdded longest y z last mid after) → OnOk result (AreAdded longest x z (first ++ last) before after)
  added_ok x y z first last before mid after (Ok u) one two = added_both x y z first last before mid after one two
  added_ok x y z first last before mid after (Err fault) one two = two

  pub stopped_later : (x y z : Option (List ℕ)) (first last before mid : List (List ℕ)) (result : Result Unit LinkFault) → AreAdded longest x y first before mid
      → IfErr result (λ fault. (more : List (List ℕ)) × StopsAfter longest y z last more fault)
      → IfErr result (λ fault. (more : List (List ℕ)) × StopsAfter longest x z (first ++ last) more fault)
  stopped_later x y z first last before mid (Ok u) one stops = stops
  stopped_later x y z first last before mid (Err fault) one stops = (one.answers ++ stops.0, stops_later x y z first last one.answers stops.0 fault one.received stops.1)
