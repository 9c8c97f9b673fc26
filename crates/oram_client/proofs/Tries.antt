-- The tries of a batch, one after the other.
use Rattle.std.proofs.Common.{◌≡◌, ℕ, List, [], ◌∷◌, ◌++◌, Option, None, Some, refl, sym, ap, ◌∙◌, subst}
use Rattle.std.specs.Prelude.{MatchOption}
use Rattle.std.specs.List.{FoldsTo, flat_map}
use Rattle.std.proofs.lemmas.Fn.{FoldsTo-push}
use Rattle.oram_link_laws.specs.Runs.{Exchange}
use Rattle.oram_rounds.specs.Batches.{BatchOutcome}
use Rattle.oram_client.specs.declared.dialer.Trouble.{Trouble}
use Rattle.oram_client.specs.Attempts.{Attempt, link_outcome}
use Rattle.oram_client.specs.Pipelined.{GoesOn}
use Rattle.oram_client.specs.Reconnect.{DialerKind, IsDelayed, IsPaused, IsTimedOut, IsTried, IsTroubleIn, MakesTries, NextTry, ReconnectState, VainTry, first_pause, limits}

module _ {D L : Type 0} (kind : DialerKind D L) where
  -- the tries since the link was `l` and its clock was read; the last one came to `came` and made the link `b`
  pub record Since (l : ReconnectState D L) (begin : Option ℕ) (bodies : List (List ℕ)) (first : D) (b : ReconnectState D L) (came : Attempt) (pause left : ℕ) : Type 0 where
    pub vain : List VainTry
    pub before : D
    pub line : Option L
    pub delays : FoldsTo {P = NextTry D L} (IsDelayed kind l.reconnect_timeout begin bodies)
        (record { dialer = first; line = l.line; pause = first_pause; left = l.reconnect_timeout }) vain (record { dialer = before; line = line; pause = pause; left = left })
    pub heard : List Exchange
    pub tried : IsTried kind.opens kind.fails kind.carries before line (limits l.reconnect_timeout left) bodies came heard b.dialer b.line

  -- whatever the link was before the first of the tries, which came to `first_came` and made it `a`
  abbrev pub Tried : Option ℕ → ReconnectState D L → List (List ℕ) → Attempt → ReconnectState D L → Attempt → ℕ → ℕ → Type 0
  Tried begin a bodies first_came b came pause left = (l : ReconnectState D L) (first : D) (heard : List Exchange) → a.reconnect_timeout ≡ l.reconnect_timeout
      → IsTried kind.opens kind.fails kind.carries first l.line (limits l.reconnect_timeout l.reconnect_timeout) bodies first_came heard a.dialer a.line
      → Since l begin bodies first b came pause left

  -- there was one try
  pub tried_once : (begin : Option ℕ) (a : ReconnectState D L) (bodies : List (List ℕ)) (came : Attempt) (left : ℕ) → left ≡ a.reconnect_timeout
      → Tried begin a bodies came a came first_pause left
  tried_once begin a bodies came left is l first heard whole tried =
      let all : l.reconnect_timeout ≡ left = sym (is ∙ whole) in
      record {
        vain = [];
        before = first;
        line = l.line;
        delays = λ k. record { dialer = first; line = l.line; pause = first_pause; left = all k };
        heard = heard;
        tried = subst (λ (n : ℕ). IsTried kind.opens kind.fails kind.carries first l.line (limits l.reconnect_timeout n) bodies came heard a.dialer a.line) all tried;
      }

  -- One more try: the link `b` becomes `t` by reporting the trouble, `w` by pausing, and `x` by trying again.
  pub tried_again : (begin : Option ℕ) (a : ReconnectState D L) (bodies : List (List ℕ)) (first_came : Attempt) (b t w x : ReconnectState D L) (came again : Attempt) (pause left pause' left' : ℕ)
      (trouble : Trouble) (more : List Exchange) → Tried begin a bodies first_came b came pause left → b.reconnect_timeout ≡ a.reconnect_timeout
      → IsTroubleIn came (Some trouble) → t ≡ b → IsPaused kind.pauses kind.reads t.reconnect_timeout begin t.dialer pause left trouble w.dialer pause' left' → w ≡ record t { dialer = w.dialer }
      → IsTried kind.opens kind.fails kind.carries w.dialer w.line (limits w.reconnect_timeout left') bodies again more x.dialer x.line
      → Tried begin a bodies first_came x again pause' left'
  tried_again begin a bodies first_came b t w x came again pause left pause' left' trouble more before same shows told_of paused later tried_more l first heard whole tried =
      let since = before l first heard whole tried in
      let timeout : t.reconnect_timeout ≡ l.reconnect_timeout = ap (λ (p : ReconnectState D L). p.reconnect_timeout) told_of ∙ same ∙ whole in
      let line : w.line ≡ b.line = ap (λ (p : ReconnectState D L). p.line) later ∙ ap (λ (p : ReconnectState D L). p.line) told_of in
      record {
        vain = since.vain ++ record { trouble = trouble; exchanges = since.heard } ∷ [];
        before = w.dialer;
        line = w.line;
        delays = FoldsTo-push (IsDelayed kind l.reconnect_timeout begin bodies) _ since.vain _ (record { trouble = trouble; exchanges = since.heard }) _ since.delays (record {
          came = came;
          mid = b.dialer;
          tried = subst (λ (o : Option L). IsTried kind.opens kind.fails kind.carries since.before since.line (limits l.reconnect_timeout left) bodies came since.heard b.dialer o) (sym line) since.tried;
          shows = shows;
          paused = subst (λ (n : ℕ). IsPaused kind.pauses kind.reads n begin b.dialer pause left trouble w.dialer pause' left') timeout
              (subst (λ (d : D). IsPaused kind.pauses kind.reads t.reconnect_timeout begin d pause left trouble w.dialer pause' left') (ap (λ (p : ReconnectState D L). p.dialer) told_of) paused);
        });
        heard = more;
        tried = subst (λ (n : ℕ). IsTried kind.opens kind.fails kind.carries w.dialer w.line (limits n left') bodies again more x.dialer x.line)
            (ap (λ (p : ReconnectState D L). p.reconnect_timeout) later ∙ timeout) tried_more;
      }

  -- The rest of the link is as before.
  pub rest_same : (reconnect_timeout : ℕ) (b t w x : ReconnectState D L) → b.reconnect_timeout ≡ reconnect_timeout → b.trouble ≡ None
      → t ≡ b → w ≡ record t { dialer = w.dialer } → x ≡ record w { dialer = x.dialer; line = x.line }
      → (x.reconnect_timeout ≡ reconnect_timeout) × (x.trouble ≡ None)
  rest_same reconnect_timeout b t w x whole none told_of later after = (
    ap (λ (p : ReconnectState D L). p.reconnect_timeout) after ∙ ap (λ (p : ReconnectState D L). p.reconnect_timeout) later ∙ ap (λ (p : ReconnectState D L). p.reconnect_timeout) told_of ∙ whole,
    ap (λ (p : ReconnectState D L). p.trouble) after ∙ ap (λ (p : ReconnectState D L). p.trouble) later ∙ ap (λ (p : ReconnectState D L). p.trouble) told_of ∙ none,
  )

  -- Answers end the tries.
  pub answered_behind : (begin : Option ℕ) (a : ReconnectState D L) (bodies : List (List ℕ)) (first_came : Attempt) (b m : ReconnectState D L) (came : Attempt) (pause left : ℕ) (outcome : BatchOutcome)
      → Tried begin a bodies first_came b came pause left → b.trouble ≡ None → IsTroubleIn came None → m ≡ b → outcome ≡ link_outcome came
      → GoesOn kind begin a bodies first_came outcome m
  answered_behind begin a bodies first_came b m came pause left outcome before none shows told_of says l first heard read whole tried =
      let since = before l first heard whole tried in
      let none_here : m.trouble ≡ None = ap (λ (p : ReconnectState D L). p.trouble) told_of ∙ none in (
        flat_map (λ (v : VainTry). v.exchanges) since.vain ++ since.heard,
        record {
          begin = begin;
          first = first;
          read = read;
          vain = since.vain;
          last = record { dialer = since.before; line = since.line; pause = pause; left = left };
          delays = since.delays;
          came = came;
          heard = since.heard;
          mid = b.dialer;
          tried = subst (λ (o : Option L). IsTried kind.opens kind.fails kind.carries since.before since.line (limits l.reconnect_timeout left) bodies came since.heard b.dialer o)
              (ap (λ (p : ReconnectState D L). p.line) (sym told_of)) since.tried;
          shows = subst (λ (o : Option Trouble). IsTroubleIn came o) (sym none_here) shows;
          ends = subst (λ (o : Option Trouble). MatchOption o (m.dialer ≡ b.dialer) (λ trouble. IsTimedOut kind.pauses kind.reads l.reconnect_timeout begin b.dialer left trouble m.dialer))
              (sym none_here) (ap (λ (p : ReconnectState D L). p.dialer) told_of);
          says = says;
          all = refl;
        },
      )

  -- Or no time is left: the link `b` becomes `t` by reporting the trouble, and `w` by reading the clock, and gives up.
  pub given_up_behind : (begin : Option ℕ) (a : ReconnectState D L) (bodies : List (List ℕ)) (first_came : Attempt) (b t w m : ReconnectState D L) (came : Attempt) (pause left : ℕ) (trouble : Trouble) (outcome : BatchOutcome)
      → Tried begin a bodies first_came b came pause left → b.reconnect_timeout ≡ a.reconnect_timeout
      → IsTroubleIn came (Some trouble) → t ≡ b → IsTimedOut kind.pauses kind.reads t.reconnect_timeout begin t.dialer left trouble w.dialer → w ≡ record t { dialer = w.dialer }
      → m ≡ record w { trouble = Some trouble } → outcome ≡ link_outcome came → GoesOn kind begin a bodies first_came outcome m
  given_up_behind begin a bodies first_came b t w m came pause left trouble outcome before same shows told_of used later is says l first heard read whole tried =
      let since = before l first heard whole tried in
      let timeout : t.reconnect_timeout ≡ l.reconnect_timeout = ap (λ (p : ReconnectState D L). p.reconnect_timeout) told_of ∙ same ∙ whole in
      let used_here : IsTimedOut kind.pauses kind.reads l.reconnect_timeout begin b.dialer left trouble m.dialer =
      subst (λ (d : D). IsTimedOut kind.pauses kind.reads l.reconnect_timeout begin b.dialer left trouble d) (ap (λ (p : ReconnectState D L). p.dialer) (sym is))
      (subst (λ (n : ℕ). IsTimedOut kind.pauses kind.reads n begin b.dialer left trouble w.dialer) timeout
      (subst (λ (d : D). IsTimedOut kind.pauses kind.reads t.reconnect_timeout begin d left trouble w.dialer) (ap (λ (p : ReconnectState D L). p.dialer) told_of) used)) in (
        flat_map (λ (v : VainTry). v.exchanges) since.vain ++ since.heard,
        record {
          begin = begin;
          first = first;
          read = read;
          vain = since.vain;
          last = record { dialer = since.before; line = since.line; pause = pause; left = left };
          delays = since.delays;
          came = came;
          heard = since.heard;
          mid = b.dialer;
          tried = subst (λ (o : Option L). IsTried kind.opens kind.fails kind.carries since.before since.line (limits l.reconnect_timeout left) bodies came since.heard b.dialer o)
              (sym (ap (λ (p : ReconnectState D L). p.line) is ∙ ap (λ (p : ReconnectState D L). p.line) later ∙ ap (λ (p : ReconnectState D L). p.line) told_of)) since.tried;
          shows = subst (λ (o : Option Trouble). IsTroubleIn came o) (ap (λ (p : ReconnectState D L). p.trouble) (sym is)) shows;
          ends = subst (λ (o : Option Trouble). MatchOption o (m.dialer ≡ b.dialer) (λ why. IsTimedOut kind.pauses kind.reads l.reconnect_timeout begin b.dialer left why m.dialer))
              (ap (λ (p : ReconnectState D L). p.trouble) (sym is)) used_here;
          says = says;
          all = refl;
        },
      )

  -- All tries of a batch: the link `l` becomes `n` by reading the clock, and `a` by the first try.
  pub all_tries : (begin : Option ℕ) (l n a m : ReconnectState D L) (bodies : List (List ℕ)) (came : Attempt) (outcome : BatchOutcome) (left : ℕ) (heard : List Exchange)
      → kind.reads l.dialer begin n.dialer → n ≡ record l { dialer = n.dialer } → left ≡ n.reconnect_timeout
      → IsTried kind.opens kind.fails kind.carries n.dialer n.line (limits n.reconnect_timeout left) bodies came heard a.dialer a.line → a ≡ record n { dialer = a.dialer; line = a.line }
      → GoesOn kind begin a bodies came outcome m → (exchanges : List Exchange) × MakesTries kind l bodies outcome exchanges m
  all_tries begin l n a m bodies came outcome left heard read same is tried after goes =
      let timeout : n.reconnect_timeout ≡ l.reconnect_timeout = ap (λ (p : ReconnectState D L). p.reconnect_timeout) same in
      goes l n.dialer heard read (ap (λ (p : ReconnectState D L). p.reconnect_timeout) after ∙ timeout)
      (subst (λ (o : Option L). IsTried kind.opens kind.fails kind.carries n.dialer o (limits l.reconnect_timeout l.reconnect_timeout) bodies came heard a.dialer a.line) (ap (λ (p : ReconnectState D L). p.line) same)
      (subst (λ (k : ℕ). IsTried kind.opens kind.fails kind.carries n.dialer n.line (limits l.reconnect_timeout k) bodies came heard a.dialer a.line) (is ∙ timeout)
      (subst (λ (k : ℕ). IsTried kind.opens kind.fails kind.carries n.dialer n.line (limits k left) bodies came heard a.dialer a.line) timeout tried)))
