-- All connections of a link lead to one host, so its exchanges are those of that host.
use Rattle.std.proofs.Common.{◌≡◌, ℕ, ◌++◌, Bool, List, [], ◌∷◌, Option, None, Some, Ok, Err, MatchOption, MatchResult, inl, inr, refl, sym, ap, ◌∙◌, subst}
use Rattle.std.specs.List.{FoldsTo, flat_map}
use Rattle.oram_host.specs.Host.{Host}
use Rattle.oram_semantics.specs.Scheme.{Scheme}
use Rattle.oram_link_laws.specs.Runs.{Exchange, HostRun}
use Rattle.oram_link_laws.proofs.Exchanged.{folds_join}
use Rattle.oram_rounds.specs.Batches.{BatchOutcome}
use Rattle.oram_rounds.specs.CatchUp.{IsPlainCall, PlainRun}
use Rattle.oram_client.specs.OneHost.{ExchangesAreOfOneHost, LeadToOneHost}
use Rattle.oram_client.specs.Attempts.{Attempt}
use Rattle.oram_client.specs.Reconnect.{DialerKind, HasLine, IsDelayed, IsGivenUp, IsTimedOut, IsTried, MakesTries, NextTry, ReconnectState, SentBatch, VainTry}
use Rattle.oram_client.specs.declared.dialer.Limits.{Limits}
use Rattle.oram_client.specs.declared.dialer.Trouble.{Trouble}

-- the exchanges of an honest host are also possible for a host that may lie
pub plain_run : (may_lie : Bool) (v : Scheme) (exchanges : List Exchange) (host after : Host) → HostRun host exchanges after → PlainRun may_lie v host exchanges after
plain_run may_lie v [] host after run = run
plain_run may_lie v (e ∷ exchanges) host after run = (run.0, inl run.1, plain_run may_lie v exchanges run.0 after run.2)

module _ {D L : Type 0} (kind : DialerKind D L)
    (may_lie : Bool) (v : Scheme) (bodies : List (List ℕ)) (host_of : D → Option L → Option Host)
    (law : LeadToOneHost kind may_lie v bodies host_of) where
  abbrev Calls : Host → Exchange → Host → Type 0
  Calls h e g = IsPlainCall may_lie v h e.0 e.1 g

  -- the exchanges are of the host, and the dialer and its connection lead to it afterwards
  abbrev Reached : Host → List Exchange → D → Option L → Type 0
  Reached host exchanges d line = (after : Host) × PlainRun may_lie v host exchanges after × (host_of d line ≡ Some after)

  none_heard : (host : Host) (exchanges : List Exchange) → exchanges ≡ [] → PlainRun may_lie v host exchanges host
  none_heard host exchanges unsent = subst (λ (es : List Exchange). PlainRun may_lie v host es host) (sym unsent) refl

  has_line : (line : Option L) (dialer dialer' : D) (limits : Limits) (way : L) (host : Host) → host_of dialer line ≡ Some host → HasLine kind.opens kind.fails kind.carries dialer line limits way dialer'
      → host_of dialer' (Some way) ≡ Some host
  has_line None dialer dialer' limits way host is had = law.opened dialer dialer' limits way host is had
  has_line (Some held) dialer dialer' limits way host is had =
      ap (λ (d : D). host_of d (Some way)) had.1 ∙ ap (λ (l : L). host_of dialer (Some l)) had.0 ∙ is

  called_over : (came : Attempt) (dialer dialer' : D) (way way' : L) (line' : Option L) (exchanges : List Exchange) (host : Host) → host_of dialer (Some way) ≡ Some host
      → kind.carries dialer way bodies came exchanges dialer' way' → MatchResult came (λ answers. line' ≡ Some way') (λ trouble. line' ≡ None)
      → Reached host exchanges dialer' line'
  called_over (Ok answers) dialer dialer' way way' line' exchanges host is called after =
      let done = law.answered_over dialer dialer' way way' answers exchanges host is called in
      (done.0, done.1, ap (λ (l : Option L). host_of dialer' l) after ∙ done.2)
  called_over (Err trouble) dialer dialer' way way' line' exchanges host is called after =
      let done = law.broken_off dialer dialer' way way' trouble exchanges host is called in
      (done.0, done.1, ap (λ (l : Option L). host_of dialer' l) after ∙ done.2)

  tried_once : (dialer dialer' : D) (line line' : Option L) (limits : Limits) (came : Attempt) (exchanges : List Exchange) (host : Host) → host_of dialer line ≡ Some host
      → IsTried kind.opens kind.fails kind.carries dialer line limits bodies came exchanges dialer' line' → Reached host exchanges dialer' line'
  tried_once dialer dialer' line line' limits came exchanges host is (inl unopened) =
      let before : host_of dialer None ≡ Some host = ap (λ (l : Option L). host_of dialer l) (sym unopened.none) ∙ is in (
        host,
        none_heard host exchanges unopened.unsent,
        ap (λ (l : Option L). host_of dialer' l) unopened.still_none ∙ law.unopened dialer dialer' limits unopened.why host before unopened.failed,
      )
  tried_once dialer dialer' line line' limits came exchanges host is (inr called) =
      called_over came called.mid dialer' called.way called.way' line' exchanges host
      (has_line line dialer called.mid limits called.way host is called.had) called.called called.after

  joined : (first second : List Exchange) (host mid after : Host) → PlainRun may_lie v host first mid → PlainRun may_lie v mid second after → PlainRun may_lie v host (first ++ second) after
  joined first second host mid after one two = folds_join {P = Host} {A = Exchange} Calls host mid after first second one two

  tries_before : (reconnect_timeout : ℕ) (begin : Option ℕ) (w x : NextTry D L) (vain : List VainTry) (host : Host) → host_of w.dialer w.line ≡ Some host
      → FoldsTo (IsDelayed kind reconnect_timeout begin bodies) w vain x
      → Reached host (flat_map (λ (u : VainTry). u.exchanges) vain) x.dialer x.line
  tries_before reconnect_timeout begin w x [] host is folds = (host, refl, subst (λ (y : NextTry D L). host_of y.dialer y.line ≡ Some host) folds is)
  tries_before reconnect_timeout begin w x (u ∷ vain) host is folds =
      let next = folds.0 in
      let one = folds.1 in
      let here = tried_once w.dialer one.mid w.line next.line _ one.came u.exchanges host is one.tried in
      let read : host_of one.paused.mid next.line ≡ Some here.0 = law.clock_read one.mid one.paused.mid next.line one.paused.now here.0 here.2 one.paused.read in
      let waited : host_of next.dialer next.line ≡ Some here.0 = law.paused one.paused.mid next.dialer next.line _ here.0 read one.paused.paused in
      let later = tries_before reconnect_timeout begin next x vain here.0 waited folds.2 in
      (later.0, joined u.exchanges (flat_map (λ (t : VainTry). t.exchanges) vain) host here.0 later.0 here.1 later.1, later.2)

  ended : (trouble : Option Trouble) (reconnect_timeout left : ℕ) (begin : Option ℕ) (mid dialer : D) (line : Option L) (host : Host) → host_of mid line ≡ Some host
      → MatchOption trouble (dialer ≡ mid) (λ why. IsTimedOut kind.pauses kind.reads reconnect_timeout begin mid left why dialer) → host_of dialer line ≡ Some host
  ended None reconnect_timeout left begin mid dialer line host is ends = ap (λ (d : D). host_of d line) ends ∙ is
  ended (Some why) reconnect_timeout left begin mid dialer line host is ends = law.clock_read mid dialer line ends.now host is ends.read

  passed : (gave_up : Option Trouble) (l m : ReconnectState D L) (o : BatchOutcome) (exchanges : List Exchange) (host : Host) → host_of l.dialer l.line ≡ Some host
      → MatchOption gave_up (MakesTries kind l bodies o exchanges m) (λ why. IsGivenUp kind l o exchanges m)
      → Reached host exchanges m.dialer m.line
  passed None l m o exchanges host is h =
      let begun : host_of h.first l.line ≡ Some host = law.clock_read l.dialer h.first l.line h.begin host is h.read in
      let before = tries_before l.reconnect_timeout h.begin _ h.last h.vain host begun h.delays in
      let last = tried_once h.last.dialer h.mid h.last.line m.line _ h.came h.heard before.0 before.2 h.tried in
      let vain : List Exchange = flat_map (λ (u : VainTry). u.exchanges) h.vain in (
        last.0,
        subst (λ (es : List Exchange). PlainRun may_lie v host es last.0) (sym h.all) (joined vain h.heard host before.0 last.0 before.1 last.1),
        ended m.trouble l.reconnect_timeout h.last.left h.begin h.mid m.dialer m.line last.0 last.2 h.ends,
      )
  passed (Some why) l m o exchanges host is h = (
    host,
    none_heard host exchanges h.unsent,
    ap (λ (d : D). host_of d m.line) h.same_dialer ∙ ap (λ (line : Option L). host_of l.dialer line) h.same_line ∙ is,
  )

  sent : (l m : ReconnectState D L) (o : BatchOutcome) (exchanges : List Exchange) (host : Host) → host_of l.dialer l.line ≡ Some host → SentBatch kind l bodies o exchanges m
      → Reached host exchanges m.dialer m.line
  sent l m o exchanges host is (inl h) = passed l.trouble l m o exchanges host is h.passed
  sent l m o exchanges host is (inr h) =
      called_over h.came l.dialer m.dialer h.line h.line' m.line exchanges host (ap (λ (o : Option L). host_of l.dialer o) (sym h.was_open) ∙ is) h.called h.after

pub exchanges_are_of_one_host : {D L : Type 0} (kind : DialerKind D L) → ExchangesAreOfOneHost kind
exchanges_are_of_one_host kind may_lie v bodies host_of law l m o exchanges host is h = sent kind may_lie v bodies host_of law l m o exchanges host is h
