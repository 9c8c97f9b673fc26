-- How to read a state file from front to back, up to its first fault.
use Rattle.std.specs.Prelude.{◌≡◌, ℕ, zero, suc, ◌+◌, ◌-◌, ◌*◌, Bool, true, false, ◌&&◌, ◌||◌, ◌==◌, nat_eq, nat_lt, nat_le, if◌then◌else◌, List, [], ◌∷◌, length, take, drop, slice_range, codes, Option, Some, None, Result, Ok, Err, ⊤}
use Rattle.std.specs.Int.{Width, w16, w32, w64, byte_len, from_be_bytes}
use Rattle.std.specs.List.{starts_with}
use Rattle.std.specs.Cmp.Lexicographic.{pointwise}
use Rattle.sha2.specs.Sha256.{sha256}
use Rattle.oram_geometry.specs.declared.Sizes.{Sizes}
use Rattle.oram_geometry.specs.declared.ShapeFault.{ShapeFault}
use Rattle.oram_geometry.specs.Sizes.{device_of, is_between, trees_of}
use Rattle.oram_bucket.specs.Cell.{Cell}
use Rattle.oram_tree.specs.Parts.{Parts as TreeParts}
use Rattle.oram_tree.specs.declared.faults.PartsFault.{PartsFault}
use Rattle.oram_tree.specs.declared.faults.PartsFault.TheVariants as parts_fault
use Rattle.oram_semantics.specs.declared.events.Command.{Command}
use Rattle.oram_semantics.specs.declared.events.Command.TheVariants.{Read, Write, Discard}
use Rattle.oram_semantics.specs.declared.events.Reason.{Reason}
use Rattle.oram_semantics.specs.declared.events.Reason.TheVariants.{Malformed, Tampered, HostRefused}
use Rattle.oram_core.specs.declared.parts.Pending.{Pending}
use Rattle.oram_state.specs.declared.fault.StateFault.{StateFault}
use Rattle.oram_state.specs.declared.fault.StateFault.TheVariants.{Magic, Version, Length, Digest, Content, OutOfMemory}
use Rattle.oram_state.specs.declared.mode.Mode.{Mode}
use Rattle.oram_state.specs.declared.mode.Mode.TheVariants.{Idle, Failed, Waiting, Stalled}
use Rattle.oram_state.specs.declared.saved.Head.{Head}
use Rattle.oram_state.specs.declared.saved.Saved.{Saved}
use Rattle.oram_state.specs.StateBytes.{Work}
use Rattle.oram_state.specs.WellSized.{held_len, no_work, table_len, tree_count}

-- the number by which messages name a fault of a state file; a lack of memory has none
abbrev pub fault_number : StateFault → Option ℕ
fault_number Magic = Some 1
fault_number Version = Some 2
fault_number Length = Some 3
fault_number Digest = Some 4
fault_number Content = Some 5
fault_number OutOfMemory = None

abbrev pub fault_of_parts : PartsFault → StateFault
fault_of_parts parts_fault.Content = Content
fault_of_parts parts_fault.OutOfMemory = OutOfMemory

infixl 10 ◌>>=◌
abbrev pub ◌>>=◌ : {X Y : Type 0} → Result X StateFault → (X → Result Y StateFault) → Result Y StateFault
(Ok x) >>= next = next x
(Err why) >>= next = Err why

-- The fault OutOfMemory says nothing about the result of reading.
abbrev pub Fails : {Y : Type 0} → StateFault → Result Y StateFault → Type 0
Fails OutOfMemory read = ⊤
Fails why read = read ≡ Err why

-- the code's result, seen by `view`, is the result of reading
abbrev pub Gives : {X Y : Type 0} → (X → Y) → Result X StateFault → Result Y StateFault → Type 0
Gives view (Ok x) read = read ≡ Ok (view x)
Gives view (Err why) read = Fails why read

-- the result of reading at the front of a text: a value, and the text after it
abbrev pub Reading : Type 0 → Type 0
Reading X = Result (X × List ℕ) StateFault

-- the fault `why`, unless the test is true
abbrev pub unless : StateFault → Bool → Result (Unit {0}) StateFault
unless why true = Ok tt
unless why false = Err why

unfoldable pub next_bytes : ℕ → List ℕ → Reading (List ℕ)
next_bytes n text = if nat_lt (length text) n then Err Content else Ok (take n text, drop n text)

unfoldable pub next_byte : List ℕ → Reading ℕ
next_byte [] = Err Content
next_byte (b ∷ text) = Ok (b, text)

unfoldable pub next_number : Width → List ℕ → Reading ℕ
next_number w text = if nat_lt (length text) (byte_len w) then Err Content else Ok (from_be_bytes w (take (byte_len w) text), drop (byte_len w) text)

-- `count` values of one kind
unfoldable pub many : {X : Type 0} → (List ℕ → Reading X) → ℕ → List ℕ → Reading (List X)
many next zero text = Ok ([], text)
many next (suc count) text = do
  first ← next text
  others ← many next count first.1
  Ok (first.0 ∷ others.0, others.1)

abbrev pub known : Result Sizes ShapeFault → Result Sizes StateFault
known (Ok d) = Ok d
known (Err why) = Err Content

unfoldable pub next_device : List ℕ → Reading Sizes
next_device text = do
  blocks ← next_number w32 text
  block_bytes ← next_number w32 blocks.1
  more_load ← next_number w16 block_bytes.1
  slots ← next_number w16 more_load.1
  top ← next_number w32 slots.1
  lifetime ← next_number w64 top.1
  device ← known (device_of (record { blocks = blocks.0; block_bytes = block_bytes.0; slots = slots.0; top = top.0; lifetime = lifetime.0; leaf_load = more_load.0 + 1 }))
  Ok (device, lifetime.1)

-- the mode for this byte; the first version has no files of cores at work
abbrev pub mode_in : ℕ → ℕ → Result Mode StateFault
mode_in version byte =
    if byte == 0 then Ok Idle
    else if byte == 1 then Ok Failed
    else if byte == 2 && version == 2 then Ok Waiting
    else if byte == 3 && version == 2 then Ok Stalled
    else Err Content

unfoldable pub next_head : ℕ → List ℕ → Reading Head
next_head version text = do
  device ← next_device text
  overhead ← next_number w32 device.1
  byte ← next_byte overhead.1
  mode ← mode_in version byte.0
  tickets ← next_number w64 byte.1
  nonce ← next_number w64 tickets.1
  Ok (record { device = device.0; overhead = overhead.0; mode = mode; tickets = tickets.0; nonce = nonce.0 }, nonce.1)

abbrev pub reason_in : ℕ → ℕ → ℕ → ℕ → Result Reason StateFault
reason_in kind tree level code =
    if kind == 1 && (tree == 0 && (level == 0 && code == 0)) then Ok Malformed
    else if kind == 2 && code == 0 then Ok (Tampered tree level)
    else if kind == 3 && (tree == 0 && level == 0) then Ok (HostRefused code)
    else Err Content

unfoldable pub next_reason : List ℕ → Reading Reason
next_reason text = do
  kind ← next_byte text
  tree ← next_byte kind.1
  level ← next_byte tree.1
  code ← next_byte level.1
  why ← reason_in kind.0 tree.0 level.0 code.0
  Ok (why, code.1)

unfoldable pub next_failure : Mode → List ℕ → Reading (Option Reason)
next_failure Failed text = do
  why ← next_reason text
  Ok (Some why.0, why.1)
next_failure mode text = Ok (None, text)

unfoldable pub next_block : Sizes → List ℕ → Reading Cell
next_block d text = do
  address ← next_number w32 text
  leaf ← next_number w32 address.1
  content ← next_bytes d.block_bytes leaf.1
  Ok (record { address = address.0; leaf = leaf.0; content = content.0 }, content.1)

unfoldable pub next_tree : Sizes → List ℕ → Reading TreeParts
next_tree d text = do
  root ← next_bytes 32 text
  count ← next_number w32 root.1
  stash ← many (next_block d) count.0 count.1
  Ok (record { root = root.0; stash = stash.0 }, stash.1)

unfoldable pub next_data : Sizes → ℕ → ℕ → List ℕ → Reading Command
next_data d op address text =
    if op == 17 then Ok (Read address, text)
    else if op == 18 then (next_bytes d.block_bytes text >>= λ content. Ok (Write address content.0, content.1))
    else if op == 19 then Ok (Discard address, text)
    else Err Content

unfoldable pub next_command : Sizes → List ℕ → Reading Command
next_command d text = do
  op ← next_byte text
  address ← next_number w32 op.1
  next_data d op.0 address.0 address.1

unfoldable pub next_pending : Sizes → List ℕ → Reading Pending
next_pending d text = do
  session ← next_number w32 text
  command ← next_command d session.1
  words ← many (next_number w64) (2 * trees_of d) command.1
  Ok (record { session = session.0; command = command.0; words = words.0 }, words.1)

unfoldable pub next_waiting : Sizes → List ℕ → Reading (List Pending)
next_waiting d text = do
  count ← next_number w32 text
  _ ← unless Content (is_between 1 64 count.0)
  many (next_pending d) count.0 count.1

unfoldable pub next_step : Sizes → List ℕ → Reading ℕ
next_step d text = do
  r ← next_number w32 text
  _ ← unless Content (nat_lt r.0 (2 * trees_of d))
  Ok r

unfoldable pub next_message : List ℕ → Reading (List ℕ)
next_message text = do
  len ← next_number w32 text
  next_bytes len.0 len.1

unfoldable pub next_work : Sizes → List ℕ → Reading Work
next_work d text = do
  waiting ← next_waiting d text
  r ← next_step d waiting.1
  entry ← next_number w32 r.1
  held ← next_bytes (held_len d r.0) entry.1
  message ← next_message held.1
  Ok (record { waiting = waiting.0; entry_number = r.0; held_entry = entry.0; held_data = held.0; message = message.0 }, message.1)

-- the work that comes next in a file of this mode; an idle or a failed core has none
unfoldable pub next_work_in : Sizes → Mode → List ℕ → Reading Work
next_work_in d Idle text = Ok (no_work, text)
next_work_in d Failed text = Ok (no_work, text)
next_work_in d Waiting text = next_work d text
next_work_in d Stalled text = next_work d text

abbrev pub is_stalled : Mode → Bool
is_stalled Stalled = true
is_stalled mode = false

abbrev pub saved_of : Head → Option Reason → List ℕ → List TreeParts → Work → Saved
saved_of head failure table trees work = record {
  overhead = head.overhead;
  parts = record {
    device = head.device;
    tickets = head.tickets;
    nonce = head.nonce;
    table = table;
    trees = trees;
    failure = failure;
    waiting = work.waiting;
    entry_number = work.entry_number;
    held_entry = work.held_entry;
    held_data = work.held_data;
    message = work.message;
    stalled = is_stalled head.mode;
  };
}

unfoldable pub next_saved : ℕ → List ℕ → Reading Saved
next_saved version text = do
  head ← next_head version text
  failure ← next_failure head.0.mode head.1
  table ← many (next_number w32) (table_len head.0.device failure.0) failure.1
  trees ← many (next_tree head.0.device) (tree_count head.0.device failure.0) table.1
  work ← next_work_in head.0.device head.0.mode trees.1
  Ok (saved_of head.0 failure.0 table.0 trees.0 work.0, work.1)

-- the fields, with nothing after them
unfoldable pub saved_in : ℕ → List ℕ → Result Saved StateFault
saved_in version text = do
  saved ← next_saved version text
  _ ← unless Content (length saved.1 == 0)
  Ok saved.0

-- whether a text ends with the digest of all bytes before the digest
abbrev pub ends_with_digest : List ℕ → Bool
ends_with_digest text = pointwise nat_eq (drop (length text - 32) text) (sha256 (take (length text - 32) text))

-- a file's version and its fields, or the first fault of the frame
unfoldable pub fields_in : List ℕ → Result (ℕ × List ℕ) StateFault
fields_in text = do
  _ ← unless Magic (starts_with nat_eq text (codes "PATHORAM"))
  _ ← unless Length (nat_le 12 (length text))
  let version = from_be_bytes w32 (slice_range text 8 12)
  _ ← unless Version (version == 1 || version == 2)
  _ ← unless Length (nat_le 52 (length text) && from_be_bytes w64 (slice_range text 12 20) == length text)
  _ ← unless Digest (ends_with_digest text)
  Ok (version, slice_range text 20 (length text - 32))

-- the content of a file, or its first fault; a file has a device with a leaf load of 1
unfoldable pub state_in : List ℕ → Result Saved StateFault
state_in text = do
  fields ← fields_in text
  saved ← saved_in fields.0 fields.1
  _ ← unless Content (saved.parts.device.leaf_load == 1)
  Ok saved
