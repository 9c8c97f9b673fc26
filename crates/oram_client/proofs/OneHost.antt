-- A batch over a link that tries again, beside one host.
use Rattle.std.proofs.Common.{◌≡◌, ℕ, ◌++◌, Bool, true, List, [], ◌∷◌, Option, None, Some, Ok, Err, MatchOption, inl, inr, sym, ap, ◌∙◌, subst, append_assoc, append-nil}
use Rattle.std.specs.List.{FoldsTo, flat_map}
use Rattle.oram_wire.specs.HostMessages.{no_room_answer}
use Rattle.oram_host.specs.Host.{Host}
use Rattle.oram_semantics.specs.Scheme.{Scheme}
use Rattle.oram_link_laws.specs.Repair.{IsAmong}
use Rattle.oram_link_laws.specs.Runs.{Exchange}
use Rattle.oram_link_laws.proofs.Exchanged.{folds_join, folds_split}
use Rattle.oram_rounds.specs.Batches.{BatchOutcome, IsBatch, answered}
use Rattle.oram_rounds.specs.CatchUp.{IsPlainCall, PlainRun}
use Rattle.oram_client.specs.OneHost.{AnswersAreTheHosts, AreTries, ExchangesAreOfTheTries, FaultsAreOfMemory, TriesRun}
use Rattle.oram_client.specs.Attempts.{Attempt, link_outcome}
use Rattle.oram_client.specs.Reconnect.{DialerKind, IsDelayed, IsGivenUp, IsTried, IsTroubleIn, MakesTries, NextTry, ReconnectState, SentBatch, VainTry}
use Rattle.oram_session.specs.declared.link.LinkFault.{LinkFault}
use Rattle.oram_session.specs.declared.link.LinkFault.TheVariants.{Io, Closed, TooLong, TooLarge, OutOfMemory}
use Rattle.oram_client.specs.Dialer.{fault_of, lacks_memory}
use Rattle.oram_client.specs.declared.dialer.Limits.{Limits}
use Rattle.oram_client.specs.declared.dialer.Trouble.{Trouble}
use Rattle.oram_client.specs.declared.dialer.Trouble.TheVariants.{OutOfReach, NoRoom, AnotherDisk, NoDisk, OlderState, OlderHost, NoStamps}
use Rattle.oram_client.specs.BatchExchanges.{sent_are_batches}

module _ (may_lie : Bool) (v : Scheme) where
  abbrev Calls : Host → Exchange → Host → Type 0
  Calls h e g = IsPlainCall may_lie v h e.0 e.1 g

  tries_join : (tries : List (List Exchange)) (host after : Host) → TriesRun may_lie v host tries after
      → PlainRun may_lie v host (flat_map (λ (xs : List Exchange). xs) tries) after
  tries_join [] host after run = run
  tries_join (xs ∷ tries) host after run =
      folds_join {P = Host} {A = Exchange} Calls host run.0 after xs (flat_map (λ (ys : List Exchange). ys) tries) run.1 (tries_join tries run.0 after run.2)

  tries_split : (tries : List (List Exchange)) (host after : Host) → PlainRun may_lie v host (flat_map (λ (xs : List Exchange). xs) tries) after
      → TriesRun may_lie v host tries after
  tries_split [] host after run = run
  tries_split (xs ∷ tries) host after run =
      let parts = folds_split {P = Host} {A = Exchange} Calls host after xs (flat_map (λ (ys : List Exchange). ys) tries) run in
      (parts.0, parts.1, tries_split tries parts.0 after parts.2)

-- the exchanges of tries that failed, as a list for each
abbrev lists_of : List VainTry → List (List Exchange)
lists_of [] = []
lists_of (v ∷ vain) = v.exchanges ∷ lists_of vain

lists_joined : (vain : List VainTry) (heard : List Exchange)
    → flat_map (λ (xs : List Exchange). xs) (lists_of vain ++ heard ∷ []) ≡ flat_map (λ (v : VainTry). v.exchanges) vain ++ heard
lists_joined [] heard = append-nil heard
lists_joined (v ∷ vain) heard =
    ap (λ (es : List Exchange). v.exchanges ++ es) (lists_joined vain heard)
    ∙ sym (append_assoc v.exchanges (flat_map (λ (u : VainTry). u.exchanges) vain) heard)

ok_same : (answers others : List (List ℕ)) → (let k : BatchOutcome = Ok answers in k) ≡ Ok others → answers ≡ others
ok_same answers others e = cc

err_same : (fault other : LinkFault) → (let o : BatchOutcome = Err fault in o) ≡ Err other → fault ≡ other
err_same fault other e = cc

-- a trouble that is only a lack of memory is reported as such
memory_fault : (why : Trouble) (fault : LinkFault) → fault ≡ fault_of why → lacks_memory why ≡ true → fault ≡ OutOfMemory
memory_fault (OutOfReach Io) fault e lacks = cc
memory_fault (OutOfReach Closed) fault e lacks = cc
memory_fault (OutOfReach TooLong) fault e lacks = cc
memory_fault (OutOfReach TooLarge) fault e lacks = cc
memory_fault (OutOfReach OutOfMemory) fault e lacks = e
memory_fault NoRoom fault e lacks = cc
memory_fault AnotherDisk fault e lacks = cc
memory_fault NoDisk fault e lacks = cc
memory_fault OlderState fault e lacks = cc
memory_fault OlderHost fault e lacks = cc
memory_fault NoStamps fault e lacks = cc

unretried : (came : Attempt) (fault : LinkFault) (trouble : Option Trouble) → (let o : BatchOutcome = Err fault in o) ≡ link_outcome came → IsTroubleIn came trouble → trouble ≡ None
    → fault ≡ OutOfMemory
unretried (Ok answers) fault trouble says shows none = cc
unretried (Err why) fault None says shows none = memory_fault why fault (err_same fault (fault_of why) says) shows
unretried (Err why) fault (Some trouble) says shows none = cc

module _ {D L : Type 0} (kind : DialerKind D L) where
  one_try : (dialer dialer' : D) (line line' : Option L) (limits : Limits) (bodies : List (List ℕ)) (came : Attempt) (exchanges : List Exchange)
      → IsTried kind.opens kind.fails kind.carries dialer line limits bodies came exchanges dialer' line' → AreTries kind.carries bodies (exchanges ∷ [])
  one_try dialer dialer' line line' limits bodies came exchanges (inl unopened) = (inl unopened.unsent, tt)
  one_try dialer dialer' line line' limits bodies came exchanges (inr called) = (inr (called.mid, dialer', called.way, called.way', came, called.called), tt)

  tries_more : (bodies : List (List ℕ)) (first second : List (List Exchange)) → AreTries kind.carries bodies first → AreTries kind.carries bodies second → AreTries kind.carries bodies (first ++ second)
  tries_more bodies [] second one two = two
  tries_more bodies (xs ∷ first) second one two = (one.0, tries_more bodies first second one.1 two)

  vain_tries : (reconnect_timeout : ℕ) (begin : Option ℕ) (bodies : List (List ℕ)) (w x : NextTry D L) (vain : List VainTry)
      → FoldsTo (IsDelayed kind reconnect_timeout begin bodies) w vain x → AreTries kind.carries bodies (lists_of vain)
  vain_tries reconnect_timeout begin bodies w x [] folds = tt
  vain_tries reconnect_timeout begin bodies w x (v ∷ vain) folds =
      let one = folds.1 in
      let here = one_try w.dialer one.mid w.line folds.0.line _ bodies one.came v.exchanges one.tried in
      (here.0, vain_tries reconnect_timeout begin bodies folds.0 x vain folds.2)

  -- the exchanges are those of the tries
  abbrev Divided : List (List ℕ) → List Exchange → Type 0
  Divided bodies exchanges = (tries : List (List Exchange)) × AreTries kind.carries bodies tries × (exchanges ≡ flat_map (λ (xs : List Exchange). xs) tries)

  divided : (gave_up : Option Trouble) (l m : ReconnectState D L) (bodies : List (List ℕ)) (o : BatchOutcome) (exchanges : List Exchange)
      → MatchOption gave_up (MakesTries kind l bodies o exchanges m) (λ why. IsGivenUp kind l o exchanges m)
      → Divided bodies exchanges
  divided None l m bodies o exchanges h = (
    lists_of h.vain ++ h.heard ∷ [],
    tries_more bodies (lists_of h.vain) (h.heard ∷ []) (vain_tries l.reconnect_timeout h.begin bodies _ h.last h.vain h.delays)
        (one_try h.last.dialer h.mid h.last.line m.line _ bodies h.came h.heard h.tried),
    h.all ∙ sym (lists_joined h.vain h.heard),
  )
  divided (Some why) l m bodies o exchanges h = ([], tt, h.unsent)

  sent : (l m : ReconnectState D L) (bodies : List (List ℕ)) (o : BatchOutcome) (exchanges : List Exchange) → SentBatch kind l bodies o exchanges m → Divided bodies exchanges
  sent l m bodies o exchanges (inl h) = divided l.trouble l m bodies o exchanges h.passed
  sent l m bodies o exchanges (inr h) = (exchanges ∷ [], (inr (l.dialer, m.dialer, h.line, h.line', h.came, h.called), tt), sym (append-nil exchanges))

  pub exchanges_are_of_the_tries : ExchangesAreOfTheTries kind
  exchanges_are_of_the_tries l m bodies o exchanges h =
      let parts : Divided bodies exchanges = sent l m bodies o exchanges h in (
        parts.0,
        parts.1,
        (λ may_lie v host after. (
          (λ run. subst (λ (es : List Exchange). PlainRun may_lie v host es after) (sym parts.2) (tries_join may_lie v parts.0 host after run)),
          (λ run. tries_split may_lie v parts.0 host after (subst (λ (es : List Exchange). PlainRun may_lie v host es after) parts.2 run)),
        )),
      )

  -- answers that a link gives while it has not given up
  with_room : (came : Attempt) (answers : List (List ℕ)) (trouble : Option Trouble) → Ok answers ≡ link_outcome came → IsTroubleIn came trouble → trouble ≡ None
      → ¬ IsAmong no_room_answer answers
  with_room (Ok others) answers None says shows none = λ among. shows (subst (IsAmong no_room_answer) (ok_same answers others says) among)
  with_room (Ok others) answers (Some trouble) says shows none = cc
  with_room (Err why) answers trouble says shows none = cc

  roomy : (gave_up : Option Trouble) (l m : ReconnectState D L) (bodies answers : List (List ℕ)) (exchanges : List Exchange)
      → MatchOption gave_up (MakesTries kind l bodies (Ok answers) exchanges m)
      (λ why. IsGivenUp kind l (Ok answers) exchanges m)
      → m.trouble ≡ None → ¬ IsAmong no_room_answer answers
  roomy None l m bodies answers exchanges h none = with_room h.came answers m.trouble h.says h.shows none
  roomy (Some why) l m bodies answers exchanges h none = let says = h.says in cc

  pub answers_are_the_hosts : AnswersAreTheHosts kind
  answers_are_the_hosts law may_lie v l m bodies answers exchanges host after h run =
      let batch : IsBatch bodies (Ok answers) exchanges = sent_are_batches kind law l m bodies (Ok answers) exchanges h in
      let whole : PlainRun may_lie v host (batch.1 ++ answered bodies answers) after = subst (λ (es : List Exchange). PlainRun may_lie v host es after) batch.3 run in
      (batch.1, batch.2, folds_split {P = Host} {A = Exchange} (Calls may_lie v) host after batch.1 (answered bodies answers) whole, λ tried. roomy l.trouble l m bodies answers exchanges tried.passed)

  faulty : (gave_up : Option Trouble) (l m : ReconnectState D L) (bodies : List (List ℕ)) (fault : LinkFault) (exchanges : List Exchange)
      → MatchOption gave_up (MakesTries kind l bodies (Err fault) exchanges m)
      (λ why. IsGivenUp kind l (Err fault) exchanges m)
      → gave_up ≡ None → m.trouble ≡ None → fault ≡ OutOfMemory
  faulty None l m bodies fault exchanges h begun none = unretried h.came fault m.trouble h.says h.shows none
  faulty (Some why) l m bodies fault exchanges h begun none = cc

  pub faults_are_of_memory : FaultsAreOfMemory kind
  faults_are_of_memory l m bodies fault exchanges h begun none = faulty l.trouble l m bodies fault exchanges h.passed begun none
