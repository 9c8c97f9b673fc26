-- The host of a dialer that puts stamps between the messages of its batches.
use Rattle.std.specs.Prelude.{true, ◌≡◌, ◌⊎◌, ℕ, false, List, [], ◌∷◌, ◌++◌, Ok, Err, Option, Some, replicate}
use Rattle.std.specs.List.{AllByRecursion, flat_map}
use Rattle.oram_geometry.specs.declared.Sizes.{Sizes}
use Rattle.oram_geometry.specs.Sizes.{IsDevice}
use Rattle.oram_wire.specs.FrameStream.{frame}
use Rattle.oram_wire.specs.HostMessages.{done_answer, fetch_body, no_room_answer, payload_answer}
use Rattle.oram_host.specs.Host.{Host, Kept}
use Rattle.oram_link_laws.specs.Examples.{known}
use Rattle.oram_link_laws.specs.Runs.{Exchange, HostRun}
use Rattle.oram_rounds.specs.PathMessages.{IsPathFetch, IsPathStore}
use Rattle.oram_stamps.specs.Known.{first_stamp, next_stamp, settled}
use Rattle.oram_stamps.specs.Stamps.{record_text}
use Rattle.oram_stamps.specs.declared.stamp.Place.TheVariants.{Begun, Done}
use Rattle.oram_stamps.specs.declared.stamp.Stamp.{Stamp}
use Rattle.oram_client.specs.Attempts.{Attempt}
use Rattle.oram_client.specs.Dialer.{Destination}
use Rattle.oram_client.specs.OneHost.{LeadsToHost, this_disk}
use Rattle.oram_client.specs.StampMessages.{stamp_put}
use Rattle.oram_client.specs.Stamped.{IsBetween, IsStopped, between}
use Rattle.oram_client.specs.StreamBatches.{Connection, connection}
use Rattle.oram_client.specs.TreesApart.{AgreeBeside, IsAboutAnother, fetched_alone, no_stamps, one_path, one_record}
use Rattle.oram_client.specs.declared.dialer.Trouble.TheVariants.{NoRoom}
use Rattle.oram_client.specs.declared.identity.TheConstants.{STAMP_TREE}
use Rattle.oram_session.specs.declared.link.LinkFault.TheVariants.{Closed}

-- A batch goes between its stamps over a connection that leads to a host. Or it stops there, since the host refuses the first stamp. What that host is sent, and answers, has the messages that put
-- the stamps in it. Then a host that keeps the same of every tree but the stamps' is honest in the exchanges of the batch's own messages,
-- as if no stamps had been put, and afterwards both keep the same of every other tree again.
abbrev pub StampedBatchesReachTheHost : {S : Type 0} → (S → Option (List ℕ)) → (S → Option (List ℕ)) → Type 0
StampedBatchesReachTheHost {S} remaining contents =
    (d e : Destination) (line line' : Connection S S) (bodies : List (List ℕ)) (came : Attempt) (exchanges : List Exchange) (host other after : Host) (bytes : List ℕ)
    → AllByRecursion (IsAboutAnother STAMP_TREE) bodies → AgreeBeside STAMP_TREE host other → line.closed ≡ false → remaining line.reader ≡ Some bytes
    → IsBetween remaining contents d line bodies came exchanges e line' ⊎ IsStopped remaining contents d line bodies came exchanges e line'
    → LeadsToHost host (between (stamp_put d.key Begun (next_stamp d.known)) bodies (stamp_put d.key Done (next_stamp d.known))) bytes after
    → (rest : Host) × HostRun other exchanges rest × AgreeBeside STAMP_TREE after rest

-- The messages of a core at work are about other trees than the stamps'.
abbrev pub PathMessagesAreAboutOthers : Type 0
PathMessagesAreAboutOthers = (d : Sizes) → IsDevice d
    → ((record_len : ℕ) (body : List ℕ) → IsPathStore d record_len body → IsAboutAnother STAMP_TREE body) × ((body : List ℕ) → IsPathFetch d body → IsAboutAnother STAMP_TREE body)

-- An example: the host of a disk with one record of two bytes, which has the first stamps. They are put there under a key of zeros.
abbrev pub zero_key : List ℕ
zero_key = replicate 32 0

abbrev pub stamped_host : Stamp → Stamp → Host
stamped_host begun done =
    let stamps : Kept = record { depth = 1; record_len = 48; records = (0, record_text zero_key Begun begun) ∷ (1, record_text zero_key Done done) ∷ [] } in
    (0, one_record) ∷ (STAMP_TREE, stamps) ∷ []

-- A dialer that knows that the host has the first stamps fetches the path. The stamp of this batch is put before.
abbrev pub stamped_dialer : Destination
stamped_dialer = record { address = []; identity = []; key = zero_key; known = settled first_stamp; disk = this_disk }

abbrev pub second_stamp : Stamp
second_stamp = next_stamp (settled first_stamp)

abbrev pub stamped_messages : List (List ℕ)
stamped_messages = between (stamp_put zero_key Begun second_stamp) (fetch_body 0 0 ∷ []) (stamp_put zero_key Done second_stamp)

-- what comes back: the stamps are put, and the path comes between
abbrev pub stamped_answers : List ℕ
stamped_answers = frame done_answer ++ frame (payload_answer one_path) ++ frame done_answer

abbrev pub stamped_line : Connection (List ℕ) (List ℕ)
stamped_line = connection stamped_answers [] this_disk

abbrev pub stamped_way : Connection (List ℕ) (List ℕ)
stamped_way = record { reader = []; writer = flat_map frame stamped_messages; disk = this_disk; closed = false; due = record { unsent = []; left = 0 } }

-- the connection whose first answer alone was read, while two more are to come
abbrev pub stopped_way : Connection (List ℕ) (List ℕ)
stopped_way = record stamped_way { closed = true; due = record { unsent = []; left = 2 } }

-- the dialer knows then that the host has put the second stamp at both places
abbrev pub answered_dialer : Destination
answered_dialer = record stamped_dialer { known = settled second_stamp }

-- Or the host has no room for the first of the two stamps, and answers nothing else. Then the path is fetched in vain.
abbrev pub full_line : Connection (List ℕ) (List ℕ)
full_line = connection (frame no_room_answer) [] this_disk

abbrev pub fetched_in_vain : List Exchange
fetched_in_vain = (fetch_body 0 0, Err Closed) ∷ []

-- the dialer knows then that it has sent the second stamp
abbrev pub asking_dialer : Destination
asking_dialer = record stamped_dialer { known = record { may = first_stamp ∷ []; begun = 0; done = 0; current = second_stamp } }

-- The premises of the law about batches between their stamps hold: the host with stamps, and one without them.
abbrev pub StampedBatchExample : Type 0
StampedBatchExample = AllByRecursion (IsAboutAnother STAMP_TREE) (fetch_body 0 0 ∷ []) × AgreeBeside STAMP_TREE (stamped_host first_stamp first_stamp) no_stamps
    × IsBetween known known stamped_dialer stamped_line (fetch_body 0 0 ∷ []) (Ok (payload_answer one_path ∷ [])) fetched_alone answered_dialer stamped_way
    × LeadsToHost (stamped_host first_stamp first_stamp) stamped_messages stamped_answers (stamped_host second_stamp second_stamp)
    × IsStopped known known stamped_dialer full_line (fetch_body 0 0 ∷ []) (Err NoRoom) fetched_in_vain asking_dialer stopped_way
    × LeadsToHost (stamped_host first_stamp first_stamp) stamped_messages (frame no_room_answer) (stamped_host first_stamp first_stamp)
