-- Examples that meet the premises of the laws: a host with one tree of depth 1, whose records have one byte, and a STORE
-- to each of its two leaves; and a device of one block.
use Rattle.std.specs.Prelude.{◌≡◌, ℕ, Bool, false, List, [], ◌∷◌, replicate, Option, Some, None, Ok, Err}
use Rattle.std.specs.List.{AllByRecursion, FoldsTo}
use Rattle.sha2.specs.Sha256.{sha256}
use Rattle.oram_geometry.specs.Sizes.{IsDevice}
use Rattle.oram_bucket.specs.Cipher.{plain_cipher}
use Rattle.oram_wire.specs.HostMessages.{done_answer, fetch_body, payload_answer, store_body}
use Rattle.oram_wire.specs.FrameStream.{IsBody, frame}
use Rattle.oram_wire.specs.declared.session_messages.SessionReply.TheVariants.{Refused}
use Rattle.oram_host.specs.Answers.{IsFetched}
use Rattle.oram_host.specs.Host.{Host, IsHost}
use Rattle.oram_semantics.specs.Scheme.{Scheme}
use Rattle.oram_semantics.specs.State.{State}
use Rattle.oram_core.specs.Formatting.{IsNew}
use Rattle.oram_session.specs.Formatting.{TakesMessage}
use Rattle.oram_session.specs.Links.{DirectCall, ToServer}
use Rattle.oram_session.specs.Streams.{StreamCall, ToStreams}
use Rattle.oram_session.specs.Turns.{Turn, IsTurn}
use Rattle.oram_session.specs.declared.link.LinkFault.TheVariants.{Io}
use Rattle.oram_link_laws.specs.Repair.{AreAmong, HearsEach}
use Rattle.oram_link_laws.specs.Overlay.{LaysAllOver, fetched_path}
use Rattle.oram_link_laws.specs.ResentStores.{AreStores, TakesEach}
use Rattle.oram_link_laws.specs.Runs.{Exchange, HeardRun, HostRun, IsHeldBy, LinkRun, acknowledged, bodies_of, exchanges_in}
use Rattle.oram_link_laws.specs.Streamed.{Supplies}

-- the host's tree 0 has the byte `root` at node 0, `left` at node 1 (leaf 0), and `right` at node 2 (leaf 1)
abbrev pub small_host : ℕ → ℕ → ℕ → Host
small_host root left right =
    (0, record { depth = 1; record_len = 1; records = (0, root ∷ []) ∷ (1, left ∷ []) ∷ (2, right ∷ []) ∷ [] }) ∷ []

-- a STORE to each leaf
abbrev pub store_left : List ℕ
store_left = store_body 0 0 (20 ∷ 21 ∷ [])

abbrev pub store_right : List ℕ
store_right = store_body 0 1 (30 ∷ 31 ∷ [])

abbrev pub both_stores : List (List ℕ)
both_stores = store_left ∷ store_right ∷ []

-- The host carried out both STOREs once; or the first one, and then both. It answered each of them with done.
abbrev pub ResendingExample : Type 0
ResendingExample = AreStores both_stores × IsHost (small_host 30 21 31)
    × TakesEach (small_host 10 11 12) both_stores (small_host 30 21 31)
    × TakesEach (small_host 10 11 12) (store_left ∷ []) (small_host 20 21 12)
    × TakesEach (small_host 20 21 12) both_stores (small_host 30 21 31)
    × HostRun (small_host 10 11 12) (acknowledged both_stores) (small_host 30 21 31)
    × HostRun (small_host 10 11 12) (acknowledged (store_left ∷ [])) (small_host 20 21 12)
    × HostRun (small_host 20 21 12) (acknowledged both_stores) (small_host 30 21 31)

-- the first STORE, whose answer was lost, and the same STORE again, which was acknowledged
abbrev pub heard_twice : List Exchange
heard_twice = (store_left, Err Io) ∷ (store_left, Ok done_answer) ∷ []

-- The host received the first STORE twice, and then carried out both.
abbrev pub MendingExample : Type 0
MendingExample = AreStores both_stores × AreAmong (bodies_of heard_twice) both_stores
    × TakesEach (small_host 10 11 12) both_stores (small_host 30 21 31)
    × HearsEach (small_host 10 11 12) (bodies_of heard_twice) (small_host 20 21 12)
    × ((may_lie : Bool) (v : Scheme) → HeardRun may_lie v (small_host 10 11 12) heard_twice (small_host 20 21 12))
    × TakesEach (small_host 20 21 12) both_stores (small_host 30 21 31)

-- The path of leaf 0 was fetched, and then the host carried out the STORE to leaf 1. The two paths share only the root.
abbrev pub OverlayExample : Type 0
OverlayExample = (are : AreStores (store_right ∷ [])) × (fetched : IsFetched (small_host 10 11 12) 0 0 (10 ∷ 11 ∷ []))
    × TakesEach (small_host 10 11 12) (store_right ∷ []) (small_host 30 11 31)
    × LaysAllOver (fetched_path fetched) (store_right ∷ []) are (10 ∷ 11 ∷ []) (30 ∷ 11 ∷ [])

-- the bytes of such a reader or writer are known
abbrev pub known : List ℕ → Option (List ℕ)
known bytes = Some bytes

-- a link over lists of bytes
abbrev pub over_bytes : List ℕ → List ℕ → ToStreams (List ℕ) (List ℕ)
over_bytes unread written = record { reader = unread; writer = written; faults = 0 }

-- a FETCH of the path of leaf 0, and its answer
abbrev pub one_fetch : List Exchange
one_fetch = (fetch_body 0 0, Ok (payload_answer (10 ∷ 11 ∷ []))) ∷ []

-- the frame of this answer
abbrev pub answer_bytes : List ℕ
answer_bytes = 0 ∷ 0 ∷ 0 ∷ 3 ∷ payload_answer (10 ∷ 11 ∷ [])

-- The reader has the frame of the answer to a FETCH.
abbrev pub StreamExample : Type 0
StreamExample = Supplies (small_host 10 11 12) (bodies_of one_fetch) answer_bytes
    × LinkRun (StreamCall known known) (over_bytes answer_bytes []) one_fetch (over_bytes [] (frame (fetch_body 0 0)))

-- The server behind a link in memory is honest in the exchanges of a session.
abbrev pub DirectSessionsAreRun : Type 0
DirectSessionsAreRun = (v : Scheme) (words : ℕ → ℕ → List ℕ) (session : ℕ) (p q : State × ToServer) (turns : List Turn)
    → FoldsTo {P = State × ToServer} (IsTurn v DirectCall words session) p turns q → HostRun p.1.host (exchanges_in turns) q.1.host

-- each call gave an answer, and the message and the answer fit in frames
abbrev pub AreAnswered : List Exchange → Type 0
AreAnswered exchanges = AllByRecursion (λ (e : Exchange). (answer : List ℕ) × (e.1 ≡ Ok answer) × IsBody e.0 × IsBody answer) exchanges

-- The same session is one over a link whose reader has the frames of the server's answers.
abbrev pub DirectSessionsAreStreamed : Type 0
DirectSessionsAreStreamed = (v : Scheme) (words : ℕ → ℕ → List ℕ) (session : ℕ) (p q : State × ToServer) (turns : List Turn)
    → FoldsTo {P = State × ToServer} (IsTurn v DirectCall words session) p turns q → AreAnswered (exchanges_in turns)
    → (bytes : List ℕ) × (written : List ℕ) × Supplies p.1.host (bodies_of (exchanges_in turns)) bytes
    × FoldsTo {P = State × ToStreams (List ℕ) (List ℕ)} (IsTurn v (StreamCall known known) words session)
    (p.0, over_bytes bytes []) turns (q.0, over_bytes [] written)

-- a device of one block of 16 bytes, whose sealer changes nothing
abbrev pub one_block : Scheme
one_block = record {
  device = record { blocks = 1; block_bytes = 16; slots = 1; top = 1; lifetime = 1; leaf_load = 1 };
  cipher = plain_cipher;
}

-- its core after the formatting, and the host: there is one tree of one node, whose record is 88 zeros
abbrev pub new_core : State
new_core = record {
  table = 0 ∷ [];
  trees = (record { number = 0; root = sha256 (replicate 88 0); stash = [] }) ∷ [];
  next = 0;
  nonce = 1;
  queue = [];
  entry_number = 0;
  held_entry = 0;
  held_data = [];
  message = [];
  lost = false;
  failure = None;
}

abbrev pub new_host : Host
new_host = (0, record { depth = 0; record_len = 88; records = (0, replicate 88 0) ∷ [] }) ∷ []

abbrev pub new_server : ToServer
new_server = record { host = new_host; faults = 0 }

-- The device was formatted over a server in memory that kept nothing before, and acknowledged each message.
abbrev pub NewDeviceExample : Type 0
NewDeviceExample = (new : IsNew one_block (TakesMessage DirectCall) (record { host = []; faults = 0 }) new_core new_server)
    × HostRun [] (acknowledged new.format) new_host

-- a body without bytes, which is no request
abbrev pub no_request : List Turn
no_request = (record { body = []; sendings = []; reply = Refused 7 }) ∷ []

-- The host holds the new device, with an array of zeros, and there is a session.
abbrev pub SessionExample : Type 0
SessionExample = IsDevice one_block.device × IsHeldBy one_block new_core new_host (λ a. replicate 16 0)
    × ((words : ℕ → ℕ → List ℕ) (session : ℕ)
    → FoldsTo {P = State × ToServer} (IsTurn one_block DirectCall words session) (new_core, new_server) no_request (new_core, new_server))
    × HostRun new_host (exchanges_in no_request) new_host
    × ((may_lie : Bool) → HeardRun may_lie one_block new_host (exchanges_in no_request) new_host)
