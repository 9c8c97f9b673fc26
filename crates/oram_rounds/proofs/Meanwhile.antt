-- A core and its link talk while answers arrive, and the host takes no part.
use Rattle.std.proofs.Common.{◌≡◌, ◌≤◌, ℕ, arith, true, List, [], ◌∷◌, ◌++◌, length, refl, sym, ap, ◌∙◌, subst, inl, inr, append-nil, append_assoc, drop, get_or, ◌-◌}
use Rattle.std.specs.List.{FoldsTo}
use Rattle.oram_geometry.specs.declared.Sizes.{Sizes}
use Rattle.oram_semantics.specs.Scheme.{Scheme}
use Rattle.oram_semantics.specs.State.{State, status_in}
use Rattle.oram_semantics.specs.declared.events.Reply.{Reply}
use Rattle.std.specs.Prelude.{MatchBool}
use Rattle.oram_semantics.specs.Progress.Status.{Waiting}
use Rattle.oram_core.specs.PlainSteps.{Done as Did, stalled_by}
use Rattle.oram_core.specs.Steps.{did}
use Rattle.oram_session.specs.Exchanges.{Delivery, IsCutOff, IsSent, Runs, event_of, is_stall, outcomes_of, retried}
use Rattle.oram_session.proofs.CoreSteps.{stalled}
use Rattle.oram_session.specs.Outcome.{Outcome}
use Rattle.oram_link_laws.specs.Runs.{Exchange}
use Rattle.oram_rounds.specs.Arrivals.{AreArriving, Awaited, HasBroken, IsAnsweredHere, TalksMeanwhile, TalksUntilCut, ended}
use Rattle.oram_rounds.specs.Batches.{BatchOutcome}
use Rattle.oram_rounds.specs.PathMessages.{IsPathFetch}
use Rattle.oram_rounds.specs.Process.{HasTalked}
use Rattle.oram_rounds.specs.Rounds.{Does, IsCounted, IsFirstAhead, Round}
use Rattle.oram_rounds.proofs.AheadInTurn.{fetch_or_store}
use Rattle.oram_rounds.proofs.Talk.{cut_talks, sent_talks, talked_more}

-- a link whose link below stays as it is, and so do the STOREs that it keeps
abbrev pub Unmoved : {B : Type 0} → Round B → Round B → Type 0
Unmoved l m = m ≡ record l { held = m.held; ahead = m.ahead; faults = m.faults }

module _ {B : Type 0} (batches : B → List (List ℕ) → BatchOutcome → List Exchange → B → Type 0) (l m : Round B) (message : List ℕ) (here : IsAnsweredHere l message) (inner : B) (kept : List (List ℕ)) (more : List Exchange) where
  no_fetch : (p : IsPathFetch l.device message) → ¬ IsFirstAhead l.ahead message → ⊥
  no_fetch p apart = elim here [
    | inl s ↦ fetch_or_store p.tree p.leaf s.tree s.leaf s.records (sym p.named ∙ s.named)
    | inr first ↦ apart first
  ]

  answered_so : (o : Outcome) (exchanges : List Exchange) → Does batches l.device l.record_len l message o exchanges m → Does batches l.device l.record_len (ended l inner kept more) message o exchanges (ended m inner kept more)
  answered_so o exchanges (inl h) = inl (record {
    path = h.path;
    answer = h.answer;
    none = h.none;
    same = refl;
    kept = refl;
    held = h.held;
    ahead = ap (λ (es : List Exchange). es ++ more) h.ahead;
  })
  answered_so o exchanges (inr (inl f)) = absurd (no_fetch f.path f.not_ahead)
  answered_so o exchanges (inr (inr (inl d))) = inr (inr (inl (record {
    fault = d.fault;
    why = d.why;
    answer = d.answer;
    none = d.none;
    same = refl;
    kept = refl;
    held = d.held;
    ahead = ap (λ (es : List Exchange). es ++ more) d.ahead;
  })))
  answered_so o exchanges (inr (inr (inr t))) = inr (inr (inr (record {
    path = t.path;
    answer = t.answer;
    next = ap (λ (es : List Exchange). es ++ more) t.next;
    given = t.given;
    reported = t.reported;
    over = t.over;
    none = t.none;
    same = refl;
    kept = refl;
    held = t.held;
  })))

  -- the same call, of the link as it will be
  called_so : (o : Outcome) → IsCounted batches l message o m → IsCounted batches (ended l inner kept more) message o (ended m inner kept more)
  called_so o c = record {
    exchanges = c.exchanges;
    call = record { device = c.call.device; record_len = c.call.record_len; does = answered_so o c.exchanges c.call.does };
    faults = c.faults;
  }

  -- the link below and the STOREs that are kept stay
  called_same : (o : Outcome) → IsCounted batches l message o m → Unmoved l m
  called_same o c = unmoved (inner_same c.exchanges c.call.does) c.call.device c.call.record_len (kept_same c.exchanges c.call.does)
    where
      inner_same : (exchanges : List Exchange) → Does batches l.device l.record_len l message o exchanges m → m.inner ≡ l.inner
      inner_same es (inl h) = h.same
      inner_same es (inr (inl f)) = absurd (no_fetch f.path f.not_ahead)
      inner_same es (inr (inr (inl d))) = d.same
      inner_same es (inr (inr (inr t))) = t.same

      kept_same : (exchanges : List Exchange) → Does batches l.device l.record_len l message o exchanges m → m.kept ≡ l.kept
      kept_same es (inl h) = h.kept
      kept_same es (inr (inl f)) = absurd (no_fetch f.path f.not_ahead)
      kept_same es (inr (inr (inl d))) = d.kept
      kept_same es (inr (inr (inr t))) = t.kept

      unmoved : m.inner ≡ l.inner → m.device ≡ l.device → m.record_len ≡ l.record_len → m.kept ≡ l.kept → Unmoved l m
      unmoved a b c d =
          ap (λ (i : B). let q : Round B = record m { inner = i } in q) a ∙ ap (λ (k : Sizes). let q : Round B = record m { inner = l.inner; device = k } in q) b
          ∙ ap (λ (n : ℕ). let q : Round B = record m { inner = l.inner; device = l.device; record_len = n } in q) c
          ∙ ap (λ (ks : List (List ℕ)). let q : Round B = record m { inner = l.inner; device = l.device; record_len = l.record_len; kept = ks } in q) d

  none_stalled : (stalls : List Outcome) → length stalls ≤ 0 → stalls ≡ []
  none_stalled [] few = refl
  none_stalled (o ∷ stalls) few = absurd (omega (arith, few))

  once_so : (x : Delivery) → x.message ≡ message → x.stalls ≡ [] → FoldsTo {P = Round B} {A = Outcome} (λ a o b. IsCounted batches a x.message o b) l (outcomes_of x) m
      → FoldsTo {P = Round B} {A = Outcome} (λ a o b. IsCounted batches a x.message o b) (ended l inner kept more) (outcomes_of x) (ended m inner kept more)
  once_so x is none fold =
      let Calls : List Outcome → Round B → Round B → Type 0 = λ os a b. FoldsTo {P = Round B} {A = Outcome} (λ c o d. IsCounted batches c x.message o d) a os b in
      let one : Calls (x.last ∷ []) l m = subst (λ (os : List Outcome). Calls (os ++ x.last ∷ []) l m) none fold in
      let call : IsCounted batches l x.message x.last m = subst (λ (r : Round B). IsCounted batches l x.message x.last r) one.2 one.1 in
      let so : IsCounted batches (ended l inner kept more) x.message x.last (ended m inner kept more) =
      subst (λ (b : List ℕ). IsCounted batches (ended l inner kept more) b x.last (ended m inner kept more)) (sym is) (called_so x.last (subst (λ (b : List ℕ). IsCounted batches l b x.last m) is call)) in
      subst (λ (os : List Outcome). Calls (os ++ x.last ∷ []) (ended l inner kept more) (ended m inner kept more)) (sym none) (ended m inner kept more, so, refl)

  module _ (v : Scheme) (s t : State) (x : Delivery) (is : x.message ≡ message) where
    pub sent_so : IsSent v (IsCounted batches) 0 (s, l) x (t, m) → HasTalked v batches (s, ended l inner kept more) x.replies (t, ended m inner kept more)
    sent_so sent = sent_talks batches v 0 (s, ended l inner kept more) x (t, ended m inner kept more)
        (record { message = sent.message; stalls = sent.stalls; few = sent.few; link = once_so x is (none_stalled x.stalls sent.few) sent.link; core = sent.core })

    pub sent_same : FoldsTo {P = Round B} {A = Outcome} (λ a o b. IsCounted batches a x.message o b) l (outcomes_of x) m → length x.stalls ≤ 0 → Unmoved l m
    sent_same fold few =
        let Calls : List Outcome → Round B → Round B → Type 0 = λ os a b. FoldsTo {P = Round B} {A = Outcome} (λ c o d. IsCounted batches c x.message o d) a os b in
        let one : Calls (x.last ∷ []) l m = subst (λ (os : List Outcome). Calls (os ++ x.last ∷ []) l m) (none_stalled x.stalls few) fold in
        let call : IsCounted batches l x.message x.last m = subst (λ (r : Round B). IsCounted batches l x.message x.last r) one.2 one.1 in
        called_same x.last (subst (λ (b : List ℕ). IsCounted batches l b x.last m) is call)

    pub cut_so : IsCutOff v (IsCounted batches) 0 (s, l) x (t, m) → (replies : List Reply) × HasTalked v batches (s, ended l inner kept more) replies (t, ended m inner kept more)
    cut_so cut = cut_talks batches v 0 (s, ended l inner kept more) x (t, ended m inner kept more)
        (record { message = cut.message; stalls = cut.stalls; few = cut.few; link = once_so x is (none_stalled x.stalls cut.few) cut.link; core = cut.core })

-- more is put ahead, and then they talk on
pub talks_on : {B : Type 0} (v : Scheme) (batches : B → List (List ℕ) → BatchOutcome → List Exchange → B → Type 0) (s t u : State) (l m n o : Round B) (put new : List Exchange) (first second : List Reply)
    → TalksMeanwhile v batches s l put first t m → n ≡ record m { inner = n.inner; ahead = m.ahead ++ new }
    → ((inner : B) (kept : List (List ℕ)) (more : List Exchange) → HasTalked v batches (t, ended n inner kept more) second (u, ended o inner kept more)) → TalksMeanwhile v batches s l (put ++ new) (first ++ second) u o
talks_on {B} v batches s t u l m n o put new first second talks grown later = λ inner kept more.
    let there : ended n inner kept more ≡ ended m inner kept (new ++ more) =
    ap (λ (r : Round B). ended r inner kept more) grown ∙ ap (λ (es : List Exchange). let q : Round B = record m { inner = inner; kept = kept; ahead = es } in q) (append_assoc m.ahead new more) in
    let one = talks inner kept (new ++ more) in
    let two = subst (λ (r : Round B). HasTalked v batches (t, r) second (u, ended o inner kept more)) there (later inner kept more) in
    let both = talked_more batches v (s, ended l inner kept (put ++ (new ++ more))) (t, ended m inner kept (new ++ more)) (u, ended o inner kept more) first second one two in
    subst (λ (es : List Exchange). HasTalked v batches (s, ended l inner kept es) (first ++ second) (u, ended o inner kept more)) (sym (append_assoc put new more)) both

-- nothing has been said
pub talks_none : {B : Type 0} (v : Scheme) (batches : B → List (List ℕ) → BatchOutcome → List Exchange → B → Type 0) (s : State) (l : Round B) → TalksMeanwhile v batches s l [] [] s l
talks_none v batches s l = λ inner kept more. record { acts = []; talks = refl; replied = refl }

-- From the beginning: whichever batch the link began, this is how far it has come, and what the core and the link have said.
module _ {B : Type 0} (v : Scheme) (batches : B → List (List ℕ) → BatchOutcome → List Exchange → B → Type 0) (streams : B → List (List ℕ) → List (List ℕ) → B → Type 0) (s : State) (l : Round B) (a : Awaited) where
  abbrev pub Along : List Reply → Awaited → State → Round B → Type 0
  Along replies b t m = (r : Round B) (fetches : List (List ℕ)) → AreArriving batches streams r fetches [] a l
      → (put : List Exchange) × AreArriving batches streams r fetches put b m × TalksMeanwhile v batches s l put replies t m

  abbrev pub AlongUntilCut : Awaited → State → Round B → Type 0
  AlongUntilCut b t m = (r : Round B) (fetches : List (List ℕ)) → AreArriving batches streams r fetches [] a l
      → (put : List Exchange) × AreArriving batches streams r fetches put b m × TalksUntilCut v batches s l put t m

  pub along_none : Along [] a s l
  along_none r fetches k = ([], k, talks_none v batches s l)

  -- some answers arrive
  abbrev pub Arrives : Awaited → Round B → Awaited → Round B → Type 0
  Arrives b m c n = (r : Round B) (fetches : List (List ℕ)) (put : List Exchange) → AreArriving batches streams r fetches put b m
      → (more : List Exchange) × AreArriving batches streams r fetches (put ++ more) c n × (n ≡ record m { inner = n.inner; ahead = m.ahead ++ more })

  pub along_arrives : (replies : List Reply) (b c : Awaited) (t : State) (m n : Round B) → Along replies b t m → Arrives b m c n → Along replies c t n
  along_arrives replies b c t m n along arrives r fetches k =
      let now = along r fetches k in
      let more = arrives r fetches now.0 now.1 in (
        now.0 ++ more.0,
        more.1,
        subst (λ (rs : List Reply). TalksMeanwhile v batches s l (now.0 ++ more.0) rs t n) (append-nil replies)
            (talks_on v batches s t t l m n n now.0 more.0 replies [] now.2 more.2 (λ inner kept es. record { acts = []; talks = refl; replied = refl })),
      )

  same_arriving : (r : Round B) (fetches : List (List ℕ)) (put : List Exchange) (b : Awaited) (m n : Round B) → Unmoved m n → AreArriving batches streams r fetches put b m → AreArriving batches streams r fetches put b n
  same_arriving r fetches put b m n same k =
      let inner : n.inner ≡ m.inner = ap (λ (q : Round B). q.inner) same in
      record {
        same = same ∙ ap (λ (q : Round B). let p : Round B = record q { held = n.held; ahead = n.ahead; faults = n.faults } in p) k.same
            ∙ ap (λ (i : B). let p : Round B = record r { inner = i; held = n.held; ahead = n.ahead; faults = n.faults } in p) (sym inner);
        given = k.given;
        few = k.few;
        laid = k.laid;
        over = k.over;
        count = k.count;
        are_put = k.are_put;
        count_few = k.count_few;
        all_put = k.all_put;
        come = subst (λ (i : B). MatchBool b.broken (HasBroken batches streams r fetches k.given i) (streams r.inner (fetches ++ r.kept) k.given i × (b.due ≡ drop (length k.given) fetches))) (sym inner) k.come;
      }

  -- a message is answered here
  module _ (replies : List Reply) (b : Awaited) (t u : State) (m n : Round B) (along : Along replies b t m) (message : List ℕ) (here : IsAnsweredHere m message) (x : Delivery) (is : x.message ≡ message) where
    said : (more : List Exchange) (inner : B) (kept : List (List ℕ)) → m ≡ record m { inner = m.inner; ahead = m.ahead ++ [] }
    said more inner kept = ap (λ (es : List Exchange). let q : Round B = record m { ahead = es } in q) (sym (append-nil m.ahead))

    pub along_sent : IsSent v (IsCounted batches) 0 (t, m) x (u, n) → Along (replies ++ x.replies) b u n
    along_sent sent r fetches k =
        let now = along r fetches k in
        let still : m ≡ record m { inner = m.inner; ahead = m.ahead ++ [] } = said [] m.inner [] in
        let talks = talks_on v batches s t u l m m n now.0 [] replies x.replies now.2 still (λ inner kept more. sent_so batches m n message here inner kept more v t u x is sent) in (
          now.0,
          same_arriving r fetches now.0 b m n (sent_same batches m n message here m.inner [] [] v t u x is sent.link sent.few) now.1,
          subst (λ (es : List Exchange). TalksMeanwhile v batches s l es (replies ++ x.replies) u n) (append-nil now.0) talks,
        )

    pub along_cut : IsCutOff v (IsCounted batches) 0 (t, m) x (u, n) → AlongUntilCut b u n
    along_cut cut r fetches k =
        let now = along r fetches k in (
          now.0,
          same_arriving r fetches now.0 b m n (sent_same batches m n message here m.inner [] [] v t u x is cut.link cut.few) now.1,
          λ inner kept more.
              let two = cut_so batches m n message here inner kept more v t u x is cut in
              (replies ++ two.0, talked_more batches v (s, ended l inner kept (now.0 ++ more)) (t, ended m inner kept more) (u, ended n inner kept more) replies two.0 (now.2 inner kept more) two.1),
        )

  -- the core hears something, and the link takes no part
  pub along_heard : (replies : List Reply) (b : Awaited) (t u : State) (m : Round B) → Along replies b t m → ((q : Round B) → HasTalked v batches (t, q) [] (u, q)) → Along replies b u m
  along_heard replies b t u m along heard r fetches k =
      let now = along r fetches k in (
        now.0,
        now.1,
        λ inner kept more. subst (λ (rs : List Reply). HasTalked v batches (s, ended l inner kept (now.0 ++ more)) rs (u, ended m inner kept more)) (append-nil replies)
            (talked_more batches v (s, ended l inner kept (now.0 ++ more)) (t, ended m inner kept more) (u, ended m inner kept more) replies [] (now.2 inner kept more) (heard (ended m inner kept more))),
      )

  pub until_cut : (replies : List Reply) (b : Awaited) (t : State) (m : Round B) → Along replies b t m → AlongUntilCut b t m
  until_cut replies b t m along r fetches k = let now = along r fetches k in (now.0, now.1, λ inner kept more. (replies, now.2 inner kept more))

-- a message that stalls has no reply, and changes no queue
pub stall_silent : {L : Type 0} (calls : L → List ℕ → Outcome → L → Type 0) (v : Scheme) (s t : State) (l m : L) (x : Delivery) → status_in s ≡ Waiting → IsSent v calls 0 (s, l) x (t, m) → is_stall x.last ≡ true
    → (x.replies ≡ []) × (t.queue ≡ s.queue)
stall_silent {L} calls v s t l m x waits sent stalls =
    let none : x.stalls ≡ [] = none_of x.stalls sent.few in
    let run = subst (λ (os : List Outcome). Runs v s (retried os ++ event_of x.last ∷ []) x.replies t) none sent.core in
    let st : did run.0 run.1 ≡ stalled_by s = stalled v s run.1 x.last run.0 waits stalls run.3 in (
      run.5 ∙ ap (λ (rs : List Reply). rs ++ run.2) (ap (λ (d : Did). d.replies) st) ∙ run.4.0,
      ap (λ (q : State). q.queue) (sym run.4.1) ∙ ap (λ (d : Did). d.state.queue) st,
    )
  where
    none_of : (stalls : List Outcome) → length stalls ≤ 0 → stalls ≡ []
    none_of [] few = refl
    none_of (o ∷ os) few = absurd (omega (arith, few))

-- the message that a core's reaction has

pub one_message : (sends : List (List ℕ)) (message sent : List ℕ) → message ≡ get_or sends (length sends - 1) message → sends ≡ sent ∷ [] → message ≡ sent
one_message sends message sent last is = last ∙ ap (λ (xs : List (List ℕ)). get_or xs (length xs - 1) message) is
