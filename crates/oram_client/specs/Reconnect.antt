-- A link that tries until its host answers or its reconnect timeout has passed. All times are in milliseconds.
use Rattle.std.specs.Prelude.{◌≡◌, ℕ, ◌-◌, ◌*◌, ◌<◌, min, max, cond, true, false, List, [], ◌++◌, Option, None, Some, Result, Ok, Err, IsOk, MatchOption, MatchResult, ◌⊎◌}
use Rattle.std.specs.List.{FoldsTo, flat_map}
use Rattle.oram_wire.specs.HostMessages.{no_room_answer}
use Rattle.oram_session.specs.declared.link.LinkFault.TheVariants.{Closed}
use Rattle.oram_link_laws.specs.Repair.{IsAmong}
use Rattle.oram_link_laws.specs.Runs.{Exchange}
use Rattle.oram_rounds.specs.Batches.{BatchOutcome}
use Rattle.oram_client.specs.Attempts.{Attempt, link_outcome}
use Rattle.oram_client.specs.Dialer.{lacks_memory, may_pass}
use Rattle.oram_client.specs.declared.awaited.Awaited.{Awaited}
use Rattle.oram_client.specs.declared.dialer.Limits.{Limits}
use Rattle.oram_client.specs.declared.dialer.Trouble.{Trouble}
use Rattle.oram_client.specs.declared.dialer.Trouble.TheVariants.{OutOfReach, NoRoom}

-- the state of such a link: what opens its connections, and the open connection
pub record ReconnectState (D L : Type 0) : Type 0 where
  pub dialer : D
  pub line : Option L
  pub reconnect_timeout : ℕ
  pub trouble : Option Trouble  -- why it gave up, once it has
  pub awaited : Option (Awaited L)  -- a batch whose answers are still to be received; it has the open connection then

-- Why an attempt has to be made again: not all messages were answered, or the host had no room for one of them. `None` if
-- the attempt has something for the caller: the answers, or that memory ran out.
abbrev pub IsTroubleIn : Attempt → Option Trouble → Type 0
IsTroubleIn (Ok answers) None = ¬ IsAmong no_room_answer answers
IsTroubleIn (Ok answers) (Some trouble) = IsAmong no_room_answer answers × (trouble ≡ NoRoom)
IsTroubleIn (Err why) None = lacks_memory why ≡ true
IsTroubleIn (Err why) (Some trouble) = (trouble ≡ why) × (lacks_memory why ≡ false)

-- what a program learns when it asks whether its host is there: that the host has answered, or why it hasn't
abbrev pub IsReached : {A : Type 0} → BatchOutcome → Option Trouble → Result A Trouble → Type 0
IsReached outcome None result = MatchResult outcome (λ answers. IsOk result) (λ fault. result ≡ Err (OutOfReach fault))
IsReached outcome (Some trouble) result = result ≡ Err trouble

-- the first pause, and the longest
abbrev pub first_pause : ℕ
first_pause = 100

abbrev pub most_pause : ℕ
most_pause = 5000

-- how long a try may take, given the reconnect timeout and the time that is left of it; a batch over an open connection may take as
-- long as the reconnect timeout, and 20 seconds at least
abbrev pub limits : ℕ → ℕ → Limits
limits reconnect_timeout left = record { opening = max left 1; silence = max 1000 (min reconnect_timeout 60000); batch = max reconnect_timeout 20000 }

-- the time between two readings of the clock, or 0 if one of them failed
abbrev pub elapsed : Option ℕ → Option ℕ → ℕ
elapsed (Some from) (Some to) = to - from
elapsed (Some from) None = 0
elapsed None to = 0

-- The time that is left of the reconnect timeout after a trouble, when the clock reads `now`. Pauses count even if
-- the clock can't be read, and no time is left if the trouble won't pass.
abbrev pub time_left : (reconnect_timeout : ℕ) (begin : Option ℕ) (left : ℕ) → Trouble → (now : Option ℕ) → ℕ
time_left reconnect_timeout begin left trouble now = cond (may_pass trouble) (min left (reconnect_timeout - elapsed begin now)) 0

-- for dialers that open connections by `opens` or fail by `fails`, and carry batches over them by `carries`
module _ {D L : Type 0} (opens : D → Limits → L → D → Type 0) (fails : D → Limits → Trouble → D → Type 0)
    (carries : D → L → List (List ℕ) → Attempt → List Exchange → D → L → Type 0) where
  -- the open connection, or a new one
  abbrev pub HasLine : D → Option L → Limits → L → D → Type 0
  HasLine dialer line limits way dialer' = MatchOption line (opens dialer limits way dialer') (λ held. (way ≡ held) × (dialer' ≡ dialer))

  -- The dialer opens no connection to the host, so nothing is sent.
  pub record IsUnopened (dialer : D) (line : Option L) (limits : Limits) (came : Attempt) (exchanges : List Exchange) (dialer' : D) (line' : Option L) : Type 0 where
    pub none : line ≡ None
    pub why : Trouble
    pub failed : fails dialer limits why dialer'
    pub says : came ≡ Err why
    pub unsent : exchanges ≡ []
    pub still_none : line' ≡ None

  -- All messages go over a connection once. If the batch has a fault, the connection is closed.
  pub record IsCalled (dialer : D) (line : Option L) (limits : Limits) (bodies : List (List ℕ)) (came : Attempt) (exchanges : List Exchange) (dialer' : D) (line' : Option L) : Type 0 where
    pub mid : D
    pub way : L
    pub had : HasLine dialer line limits way mid
    pub way' : L
    pub called : carries mid way bodies came exchanges dialer' way'
    pub after : MatchResult came (λ answers. line' ≡ Some way') (λ trouble. line' ≡ None)

  abbrev pub IsTried : D → Option L → Limits → List (List ℕ) → Attempt → List Exchange → D → Option L → Type 0
  IsTried dialer line limits bodies came exchanges dialer' line' =
      IsUnopened dialer line limits came exchanges dialer' line' ⊎ IsCalled dialer line limits bodies came exchanges dialer' line'

-- for dialers that pause by `pauses` and read the clock by `reads`, with this reconnect timeout since the clock read
-- `begin`
module _ {D : Type 0} (pauses : D → ℕ → D → Type 0) (reads : D → Option ℕ → D → Type 0) (reconnect_timeout : ℕ) (begin : Option ℕ) where
  -- There is a pause, which isn't longer than the time that is left. The next one is twice as long, up to the longest.
  pub record IsPaused (dialer : D) (pause left : ℕ) (trouble : Trouble) (dialer' : D) (pause' left' : ℕ) : Type 0 where
    pub now : Option ℕ
    pub mid : D
    pub read : reads dialer now mid
    pub more : 0 < time_left reconnect_timeout begin left trouble now
    pub paused : pauses mid (min pause (time_left reconnect_timeout begin left trouble now)) dialer'
    pub next : pause' ≡ min (2 * pause) most_pause
    pub less : left' ≡ time_left reconnect_timeout begin left trouble now - min pause (time_left reconnect_timeout begin left trouble now)

  -- No time is left.
  pub record IsTimedOut (dialer : D) (left : ℕ) (trouble : Trouble) (dialer' : D) : Type 0 where
    pub now : Option ℕ
    pub read : reads dialer now dialer'
    pub none_left : time_left reconnect_timeout begin left trouble now ≡ 0

-- what the next try starts with
pub record NextTry (D L : Type 0) : Type 0 where
  pub dialer : D
  pub line : Option L
  pub pause : ℕ  -- the next one
  pub left : ℕ  -- what is left of the reconnect timeout

-- a try that failed: why, and the exchanges over its connection
pub record VainTry : Type 0 where
  pub trouble : Trouble
  pub exchanges : List Exchange

-- A kind of dialer, in the words of the trait `Dial`: how it opens a connection or fails to, how it pauses and reads its clock,
-- and how it carries a batch over a connection.
pub record DialerKind (D L : Type 0) : Type 1 where
  pub opens : D → Limits → L → D → Type 0
  pub fails : D → Limits → Trouble → D → Type 0
  pub pauses : D → ℕ → D → Type 0
  pub reads : D → Option ℕ → D → Type 0
  pub carries : D → L → List (List ℕ) → Attempt → List Exchange → D → L → Type 0

abbrev pub dialer_kind : {D L : Type 0} → (D → Limits → L → D → Type 0) → (D → Limits → Trouble → D → Type 0) → (D → ℕ → D → Type 0) → (D → Option ℕ → D → Type 0)
    → (D → L → List (List ℕ) → Attempt → List Exchange → D → L → Type 0) → DialerKind D L
dialer_kind opens fails pauses reads carries = record { opens = opens; fails = fails; pauses = pauses; reads = reads; carries = carries }

-- for dialers and connections of this kind
module _ {D L : Type 0} (kind : DialerKind D L) where
  -- A try fails, and there is a pause.
  pub record IsDelayed (reconnect_timeout : ℕ) (begin : Option ℕ) (bodies : List (List ℕ)) (w : NextTry D L) (vain : VainTry) (x : NextTry D L) : Type 0 where
    pub came : Attempt
    pub mid : D
    pub tried : IsTried kind.opens kind.fails kind.carries w.dialer w.line (limits reconnect_timeout w.left) bodies came vain.exchanges mid x.line
    pub shows : IsTroubleIn came (Some vain.trouble)
    pub paused : IsPaused kind.pauses kind.reads reconnect_timeout begin mid w.pause w.left vain.trouble x.dialer x.pause x.left

  -- All messages are tried again and again, with a pause after each try but the last. The last try has answers for the
  -- caller, or memory ran out in it, or no time is left after it.
  pub record MakesTries (l : ReconnectState D L) (bodies : List (List ℕ)) (outcome : BatchOutcome) (exchanges : List Exchange) (m : ReconnectState D L) : Type 0 where
    pub begin : Option ℕ
    pub first : D
    pub read : kind.reads l.dialer begin first
    pub vain : List VainTry
    pub last : NextTry D L
    pub delays : FoldsTo (IsDelayed l.reconnect_timeout begin bodies) (record { dialer = first; line = l.line; pause = first_pause; left = l.reconnect_timeout }) vain last
    pub came : Attempt
    pub heard : List Exchange  -- those of the last try
    pub mid : D
    pub tried : IsTried kind.opens kind.fails kind.carries last.dialer last.line (limits l.reconnect_timeout last.left) bodies came heard mid m.line
    pub shows : IsTroubleIn came m.trouble
    pub ends : MatchOption m.trouble (m.dialer ≡ mid) (λ why. IsTimedOut kind.pauses kind.reads l.reconnect_timeout begin mid last.left why m.dialer)
    pub says : outcome ≡ link_outcome came
    pub all : exchanges ≡ flat_map (λ v. v.exchanges) vain ++ heard

  -- A link that has given up tries nothing.
  pub record IsGivenUp (l : ReconnectState D L) (outcome : BatchOutcome) (exchanges : List Exchange) (m : ReconnectState D L) : Type 0 where
    pub says : outcome ≡ Err Closed
    pub unsent : exchanges ≡ []
    pub same_dialer : m.dialer ≡ l.dialer
    pub same_line : m.line ≡ l.line
    pub same_trouble : m.trouble ≡ l.trouble

  abbrev pub Passes : ReconnectState D L → List (List ℕ) → BatchOutcome → List Exchange → ReconnectState D L → Type 0
  Passes l bodies outcome exchanges m = MatchOption l.trouble (MakesTries l bodies outcome exchanges m) (λ why. IsGivenUp l outcome exchanges m)

  pub record ReconnectBatch (l : ReconnectState D L) (bodies : List (List ℕ)) (outcome : BatchOutcome) (exchanges : List Exchange) (m : ReconnectState D L) : Type 0 where
    pub passed : Passes l bodies outcome exchanges m
    pub reconnect_timeout : m.reconnect_timeout ≡ l.reconnect_timeout

  -- A batch whose answers were taken one by one is one try over the open connection, and nothing more, whatever it came to. If it broke off, the
  -- connection is closed.
  pub record GoesOnce (l : ReconnectState D L) (bodies : List (List ℕ)) (outcome : BatchOutcome) (exchanges : List Exchange) (m : ReconnectState D L) : Type 0 where
    pub going : l.trouble ≡ None
    pub line : L
    pub was_open : l.line ≡ Some line
    pub came : Attempt
    pub line' : L
    pub called : kind.carries l.dialer line bodies came exchanges m.dialer line'
    pub after : MatchResult came (λ answers. m.line ≡ Some line') (λ trouble. m.line ≡ None)
    pub says : outcome ≡ link_outcome came
    pub still_going : m.trouble ≡ None
    pub reconnect_timeout : m.reconnect_timeout ≡ l.reconnect_timeout

  -- a batch of messages, with as many tries as it needs or with one
  abbrev pub SentBatch : ReconnectState D L → List (List ℕ) → BatchOutcome → List Exchange → ReconnectState D L → Type 0
  SentBatch l bodies outcome exchanges m = ReconnectBatch l bodies outcome exchanges m ⊎ GoesOnce l bodies outcome exchanges m

-- the link learns that its process was kept, and has this check
abbrev pub LinkLearns : {D L : Type 0} → (D → ℕ → D → Type 0) → ReconnectState D L → ℕ → ReconnectState D L → Type 0
LinkLearns learns l check m = learns l.dialer check m.dialer × (m ≡ record l { dialer = m.dialer })

-- no messages, and nothing is sent
pub record HasLearnt {D L : Type 0} (learns : D → ℕ → D → Type 0) (l : ReconnectState D L) (bodies : List (List ℕ)) (outcome : BatchOutcome) (exchanges : List Exchange) (m : ReconnectState D L) : Type 0 where
  pub no_bodies : bodies ≡ []
  pub no_answers : outcome ≡ Ok []
  pub unsent : exchanges ≡ []
  pub check : ℕ
  pub learnt : LinkLearns learns l check m

-- A batch over such a link. A link that learns that its process was kept does no more than in a batch of no messages.
abbrev pub LinkBatch : {D L : Type 0} → DialerKind D L → (D → ℕ → D → Type 0) → ReconnectState D L → List (List ℕ) → BatchOutcome → List Exchange → ReconnectState D L → Type 0
LinkBatch kind learns l bodies outcome exchanges m = SentBatch kind l bodies outcome exchanges m ⊎ HasLearnt learns l bodies outcome exchanges m
