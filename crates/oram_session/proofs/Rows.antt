-- Worked rows, by computing.
use Rattle.std.proofs.Common.{◌≡◌, ℕ, ◌-◌, ◌^◌, List, [], ◌∷◌, Ok, Err, true, false, replicate, refl}
use Rattle.rand_core.specs.Steps.{u32_at}
use Rattle.rand_chacha.specs.Block.{quarter_round, column_round, diagonal_round, double_rounds, block_word}
use Rattle.oram_wire.specs.declared.session_messages.SessionReply.TheVariants.{Refused}
use Rattle.oram_semantics.specs.declared.events.Event.TheVariants.{Answer, Lost, Retry}
use Rattle.oram_semantics.specs.declared.events.ReplyBody.TheVariants.{Failed}
use Rattle.oram_session.specs.Exchanges.{Delivery, is_stall, events_of}
use Rattle.oram_session.specs.Links.{Faulty, is_due}
use Rattle.oram_session.specs.Outcome.{faults_after}
use Rattle.oram_session.specs.Requests.{session_reply}
use Rattle.oram_host.specs.Answered.{frames_of}
use Rattle.oram_session.specs.Sessions.{reply_body}
use Rattle.oram_session.specs.Tapes.{list_words, chacha_words}
use Rattle.oram_session.specs.Turns.{Turn}
use Rattle.oram_session.specs.declared.link.LinkFault.TheVariants.{Io}

-- tapes: ticket 1 of three words, with two words a ticket; the first word of the zero key

of_a_list : list_words (6 ∷ 3 ∷ 7 ∷ []) 1 2 ≡ 7 ∷ 0 ∷ []
of_a_list = refl

of_the_zero_key : chacha_words (replicate 32 0) 1 0 1 ≡ 0x903df1a0ade0b876 ∷ []
unfolding u32_at quarter_round column_round diagonal_round double_rounds block_word
of_the_zero_key = refl

-- links: the third of three calls with a fault, and the call after it; the greatest count

faulty : ℕ → Faulty ℕ
faulty calls = record { inner = 0; at = 2; times = 3; after = false; calls = calls; faults = 0 }

before_them : is_due (faulty 1) ≡ false
unfolding faulty
before_them = refl

last_of_them : is_due (faulty 4) ≡ true
unfolding faulty
last_of_them = refl

behind_them : is_due (faulty 5) ≡ false
unfolding faulty
behind_them = refl

one_more : faults_after 6 (Err Io) ≡ 7
one_more = refl

no_more : faults_after (2 ^ 64 - 1) (Err Io) ≡ 2 ^ 64 - 1
no_more = refl

-- a message that stalls twice, once without an answer and once without room, and then has its answer

sending : Delivery
sending = record { message = 1 ∷ []; stalls = Err Io ∷ Ok (129 ∷ 8 ∷ []) ∷ []; last = Ok (128 ∷ []); replies = [] }

events_given : events_of sending ≡ Lost ∷ Retry ∷ Answer (129 ∷ 8 ∷ []) ∷ Retry ∷ Answer (128 ∷ []) ∷ []
unfolding sending
events_given = refl

no_room : is_stall (Ok (129 ∷ 8 ∷ [])) ≡ true
no_room = refl

done : is_stall (Ok (128 ∷ [])) ≡ false
done = refl

-- a session: a body without bytes, and a write of a block that doesn't exist

turns : List Turn
turns =
    (record { body = []; sendings = []; reply = Refused 7 })
    ∷ (record { body = 18 ∷ 0 ∷ 0 ∷ 0 ∷ 64 ∷ []; sendings = []; reply = Refused 1 })
    ∷ []

read : frames_of (λ (x : Turn). x.body) turns ≡ 0 ∷ 0 ∷ 0 ∷ 0 ∷ 0 ∷ 0 ∷ 0 ∷ 5 ∷ 18 ∷ 0 ∷ 0 ∷ 0 ∷ 64 ∷ []
unfolding turns
read = refl

written : frames_of reply_body turns ≡ 0 ∷ 0 ∷ 0 ∷ 2 ∷ 146 ∷ 7 ∷ 0 ∷ 0 ∷ 0 ∷ 2 ∷ 146 ∷ 1 ∷ []
unfolding turns
written = refl

failure : session_reply Failed ≡ Refused 6
failure = refl
