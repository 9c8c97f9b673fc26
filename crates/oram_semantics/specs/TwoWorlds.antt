-- Two runs whose commands go to different addresses, and what the host sees of them.
use Rattle.std.specs.Prelude.{◌≡◌, ℕ, false, List, [], ◌∷◌, length, take, map}
use Rattle.std.specs.Io.{StartsWith}
use Rattle.oram_trace.specs.TapeRearrangement.{tape_len, rearranged_tape, ShowsAlike}
use Rattle.oram_semantics.specs.Events.{addresses, tape}
use Rattle.oram_semantics.specs.Progress.{Setting, Step, accepted}
use Rattle.oram_semantics.specs.Run.{Shown, step_of, shows_pair, AllRight}
use Rattle.oram_semantics.specs.declared.events.Event.{Event}

-- Two messages differ at most in the bytes of their records: they have the same length and the same first six bytes,
-- which say what is asked and for which path.
pub record LooksLike (m n : List ℕ) : Type 0 where
  pub length_is : length m ≡ length n
  pub header : take 6 m ≡ take 6 n

-- the two lists have equally many messages, which look alike pair by pair
abbrev pub LookAlike : List (List ℕ) → List (List ℕ) → Type 0
LookAlike [] [] = Unit {0}
LookAlike (m ∷ ms) (n ∷ ns) = LooksLike m n × LookAlike ms ns
LookAlike [] (n ∷ ns) = ⊥
LookAlike (m ∷ ms) [] = ⊥

-- the past after these events, on top of an earlier past
abbrev pub past_of : List Step → List Event → List Shown → List Step
past_of past events [] = past
past_of past [] (x ∷ xs) = past
past_of past (event ∷ events) (x ∷ xs) = past_of (step_of event x ∷ past) events xs

-- the accepted commands of a past are the first of the commands with these addresses and this tape
pub record AreFirstOf (all words : List ℕ) (past : List Step) : Type 0 where
  pub addresses_are : StartsWith all (addresses (accepted past))
  pub tape_is : StartsWith words (tape (accepted past))

-- one of two runs: what it runs on, its events, the reactions to them, and the addresses of its commands
pub record OneRun : Type 0 where
  pub setting : Setting
  pub events : List Event
  pub reactions : List Shown
  pub addresses : List ℕ

-- Two runs on one device, under sealers with the same overhead, with the same notes. The words are the tape of the
-- first. The second has this tape rearranged, by q, so that its addresses show the paths of the first.
pub record AreTwoWorlds (first second : OneRun) (words q : List ℕ) : Type 0 where
  pub device : second.setting.scheme.device ≡ first.setting.scheme.device
  pub overhead : second.setting.scheme.cipher.overhead ≡ first.setting.scheme.cipher.overhead
  pub notes : map (λ x. x.note) first.reactions ≡ map (λ y. y.note) second.reactions
  pub words_are : length words ≡ tape_len first.setting.scheme.device (length first.addresses)
  pub alike : ShowsAlike first.setting.scheme.device first.addresses second.addresses q
  pub first_is : AreFirstOf first.addresses words (past_of [] first.events first.reactions)
  pub second_is : AreFirstOf second.addresses (rearranged_tape q words) (past_of [] second.events second.reactions)

-- At each event from some moment on, the messages sent in one run look like those sent in the other, until an answer shows
-- two records with the same digest in either run. The pasts are those of the two runs at that moment.
abbrev pub LookAlikeFrom : (first second : Setting) (past other_past : List Step) (events other_events : List Event)
    (reactions other_reactions : List Shown) → Type 0
LookAlikeFrom v u past other events others [] [] = Unit {0}
LookAlikeFrom v u past other (event ∷ events) (beside ∷ others) (x ∷ xs) (y ∷ ys) =
    shows_pair v past event ≡ false → shows_pair u other beside ≡ false
    → LookAlike x.sends y.sends × LookAlikeFrom v u (step_of event x ∷ past) (step_of beside y ∷ other) events others xs ys
LookAlikeFrom v u past other events others xs ys = ⊥

-- the two runs look alike from their beginnings on
abbrev pub RunsLookAlike : OneRun → OneRun → Type 0
RunsLookAlike first second =
    LookAlikeFrom first.setting second.setting [] [] first.events second.events first.reactions second.reactions

-- The messages of two right runs in two worlds differ at most in the bytes of records.
abbrev pub TwoWorldsLookAlike : Type 0
TwoWorldsLookAlike =
    (first second : OneRun) (words q : List ℕ) → AreTwoWorlds first second words q
    → AllRight first.setting [] first.events first.reactions → AllRight second.setting [] second.events second.reactions
    → RunsLookAlike first second
