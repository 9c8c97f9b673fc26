-- A batch whose answers are taken one by one, over a dialer that puts a stamp with it.
use Rattle.std.specs.Prelude.{◌≡◌, ◌≢◌, ◌⊎◌, ℕ, ◌+◌, ◌-◌, ◌<◌, Bool, true, false, List, [], ◌∷◌, length, Option, None, Some, Result, Ok, Err, IsOk, MatchBool, MatchOption, MatchResult, cond}
use Rattle.std.specs.Global.{Vec}
use Rattle.oram_link_laws.specs.Repair.{IsAmong}
use Rattle.oram_link_laws.specs.Runs.{Exchange}
use Rattle.oram_rounds.specs.Streams.{GivesNext}
use Rattle.oram_session.specs.Outcome.{Outcome}
use Rattle.oram_session.specs.declared.link.LinkFault.{LinkFault}
use Rattle.oram_stamps.specs.Known.{IsSent, IsSettled, Stamps, answered, next_stamp}
use Rattle.oram_stamps.specs.declared.stamp.Place.TheVariants.{Begun, Done}
use Rattle.oram_wire.specs.HostMessages.{done_answer, no_room_answer}
use Rattle.oram_client.specs.Dialer.{Destination}
use Rattle.oram_client.specs.StampMessages.{stamp_put}
use Rattle.oram_client.specs.Stamped.{IsBetween, IsPutFor, between, with_known}
use Rattle.oram_client.specs.StreamBatches.{Connection, StreamBatch, Streams}
use Rattle.oram_client.specs.declared.awaited.Progress.{Progress}
use Rattle.oram_client.specs.declared.dialer.Trouble.{Trouble}
use Rattle.oram_client.specs.declared.dialer.Trouble.TheVariants.{OutOfReach}

-- one more of a batch's own messages has its answer
pub record CountsAnswer (progress : Progress) (answer : List ℕ) (progress' : Progress) : Type 0 where
  pub left : progress'.left ≡ progress.left - 1
  pub begun : progress'.begun ≡ progress.begun
  pub done : progress'.done ≡ progress.done
  pub room : MatchBool progress'.no_room ((progress.no_room ≡ true) ⊎ (answer ≡ no_room_answer)) ((progress.no_room ≡ false) × (answer ≢ no_room_answer))

-- what is known once the host has put a batch's stamp as done, given whether it had no room for one of the messages
abbrev pub learnt_done : Destination → Bool → Destination
learnt_done d no_room = cond no_room d (with_known d (answered d.known))

-- for streams whose bytes `remaining` and `contents` give
module _ {S : Type 0} (remaining contents : S → Option (List ℕ)) where
  abbrev Way : Type 0
  Way = Connection S S

  -- The messages of a batch that needs no stamp were sent, and these answers were read.
  pub record StreamsPlainly (d : Destination) (line : Way) (bodies answers : List (List ℕ)) (progress : Progress) (e : Destination) (line' : Way) : Type 0 where
    pub settled : IsSettled d.known
    pub not_begun : progress.begun ≡ None
    pub not_done : progress.done ≡ None
    pub read : Streams remaining contents line bodies answers line'
    pub same : e ≡ d

  -- The messages of a batch were sent between those that put its stamp. The answer to the first of these two is read before all others, and it is
  -- that the stamp is put. The answer to the last one isn't read yet, and so nothing is known of it.
  pub record StreamsBetween (d : Destination) (line : Way) (bodies answers : List (List ℕ)) (progress : Progress) (e : Destination) (line' : Way) : Type 0 where
    pub known : Stamps
    pub sent : IsSent d.known known
    pub done : Vec ℕ
    pub due : progress.done ≡ Some done
    pub puts_done : done.items ≡ stamp_put d.key Done (next_stamp d.known)
    pub room : MatchBool progress.no_room (IsAmong no_room_answer answers) (¬ IsAmong no_room_answer answers)
    pub read : MatchOption progress.begun
        (Streams remaining contents line (between (stamp_put d.key Begun (next_stamp d.known)) bodies (stamp_put d.key Done (next_stamp d.known))) (done_answer ∷ answers) line')
        (λ begun. (begun.items ≡ stamp_put d.key Begun (next_stamp d.known)) × (answers ≡ [])
        × Streams remaining contents line (between (stamp_put d.key Begun (next_stamp d.known)) bodies (stamp_put d.key Done (next_stamp d.known))) [] line')
    pub after : e ≡ with_known d known

  -- How far a batch has come. Once its own messages have their answers, so have those that put its stamp.
  abbrev pub StreamsStamped : Destination → Way → List (List ℕ) → List (List ℕ) → Progress → Destination → Way → Type 0
  StreamsStamped d line bodies answers progress e line' = (progress.left + length answers ≡ length bodies) × (
      StreamsPlainly d line bodies answers progress e line'
      ⊎ ((0 < progress.left) × StreamsBetween d line bodies answers progress e line')
      ⊎ ((progress.left ≡ 0) × ((exchanges : List Exchange) × IsBetween remaining contents d line bodies (Ok answers) exchanges e line')))

  -- The next answer over a connection is read, which is the one to a message that puts a stamp. The host has put it, or this trouble comes of it.
  abbrev pub HearsStamp : List ℕ → Way → Result (Unit {0}) Trouble → Way → Type 0
  HearsStamp message line result line' = (o : Outcome) × GivesNext (StreamBatch remaining contents) (Streams remaining contents) line message o line'
      × MatchResult o (λ answer. MatchResult result (λ put. answer ≡ done_answer) (λ trouble. IsPutFor answer trouble)) (λ fault. result ≡ Err (OutOfReach fault))

  -- The answer to the message that puts the stamp as begun is read, if it is still to be read.
  abbrev pub HearsBegun : Way → Progress → Result (Unit {0}) Trouble → Way → Progress → Type 0
  HearsBegun line progress result line' progress' =
      MatchOption progress.begun (IsOk result × (line' ≡ line) × (progress' ≡ progress)) (λ begun. HearsStamp begun.items line result line' × (progress' ≡ record progress { begun = None }))

  -- The answer to one of the batch's own messages is read.
  abbrev pub HearsOwn : Way → Progress → List ℕ → Result (Vec ℕ) Trouble → Way → Progress → Type 0
  HearsOwn line progress body result line' progress' = (o : Outcome) × GivesNext (StreamBatch remaining contents) (Streams remaining contents) line body o line'
      × MatchResult result (λ answer. (o ≡ Ok answer.items) × CountsAnswer progress answer.items progress') (λ trouble. (fault : LinkFault) × (o ≡ Err fault) × (trouble ≡ OutOfReach fault))

  -- The answer to the message that puts the stamp as done is read, once all others were. Only then it is known what the host has done.
  pub record HearsDone (d : Destination) (line : Way) (progress : Progress) (result : Result (Unit {0}) Trouble) (e : Destination) (line' : Way) (progress' : Progress) : Type 0 where
    pub not_due : (0 < progress.left) ⊎ (progress.done ≡ None) → IsOk result × (e ≡ d) × (line' ≡ line) × (progress' ≡ progress)
    pub due : (done : Vec ℕ) → progress.left ≡ 0 → progress.done ≡ Some done
        → HearsStamp done.items line result line' × (progress' ≡ record progress { done = None })
        × MatchResult result (λ put. e ≡ learnt_done d progress.no_room) (λ trouble. e ≡ d)
