-- The state file of a client: the bytes that spell the parts of a core. All numbers are big-endian.
use Rattle.std.specs.Prelude.{ℕ, ◌+◌, ◌-◌, Bool, true, false, List, [], ◌∷◌, ◌++◌, length, codes, Option, Some, None}
use Rattle.std.specs.List.{flat_map}
use Rattle.std.specs.Int.{w16, w32, w64, to_be_bytes}
use Rattle.sha2.specs.Sha256.{sha256}
use Rattle.oram_geometry.specs.declared.Sizes.{Sizes}
use Rattle.oram_bucket.specs.Cell.{Cell}
use Rattle.oram_tree.specs.Parts.{Parts as TreeParts}
use Rattle.oram_semantics.specs.declared.events.Command.{Command}
use Rattle.oram_semantics.specs.declared.events.Command.TheVariants.{Read, Write, Discard}
use Rattle.oram_semantics.specs.declared.events.Reason.{Reason}
use Rattle.oram_semantics.specs.declared.events.Reason.TheVariants.{Malformed, Tampered, HostRefused}
use Rattle.oram_core.specs.Parts.{Parts}
use Rattle.oram_core.specs.declared.parts.Pending.{Pending}
use Rattle.oram_state.specs.declared.mode.Mode.{Mode}
use Rattle.oram_state.specs.declared.mode.Mode.TheVariants.{Idle, Failed, Waiting, Stalled}

-- a number in two bytes, one in four, and one in eight
unfoldable pub half : ℕ → List ℕ
half n = to_be_bytes w16 n

unfoldable pub short : ℕ → List ℕ
short n = to_be_bytes w32 n

unfoldable pub long : ℕ → List ℕ
long n = to_be_bytes w64 n

-- the six numbers of a device; of the leaf load there is what it has more than 1, so that with a leaf load of 1 the slots
-- are a number in four bytes
abbrev pub device_text : Sizes → List ℕ
device_text d = short d.blocks ++ short d.block_bytes ++ half (d.leaf_load - 1) ++ half d.slots ++ short d.top ++ long d.lifetime

-- a block of a stash
abbrev pub block_text : Cell → List ℕ
block_text c = short c.address ++ short c.leaf ++ c.content

-- the digest of a tree's root record, the number of blocks in its stash, and these blocks
abbrev pub tree_text : TreeParts → List ℕ
tree_text t = t.root ++ short (length t.stash) ++ flat_map block_text t.stash

-- the command's first byte: 17 reads, 18 writes, 19 discards
abbrev pub command_text : Command → List ℕ
command_text (Read address) = 17 ∷ short address
command_text (Write address content) = 18 ∷ (short address ++ content)
command_text (Discard address) = 19 ∷ short address

-- a command without a reply, with its words
abbrev pub pending_text : Pending → List ℕ
pending_text q = short q.session ++ command_text q.command ++ flat_map long q.words

-- why a device failed: the reason's number, and then a tree, a level and a code, each 0 if the reason has none
abbrev pub reason_text : Reason → List ℕ
reason_text Malformed = 1 ∷ 0 ∷ 0 ∷ 0 ∷ []
reason_text (Tampered tree level) = 2 ∷ tree ∷ level ∷ 0 ∷ []
reason_text (HostRefused code) = 3 ∷ 0 ∷ 0 ∷ code ∷ []

-- only a core that failed has this field
abbrev pub failure_text : Option Reason → List ℕ
failure_text None = []
failure_text (Some why) = reason_text why

-- the parts that only a core at work has
pub record Work : Type 0 where
  pub waiting : List Pending
  pub entry_number : ℕ
  pub held_entry : ℕ
  pub held_data : List ℕ
  pub message : List ℕ

abbrev pub work_of : Parts → Work
work_of p = record { waiting = p.waiting; entry_number = p.entry_number; held_entry = p.held_entry; held_data = p.held_data; message = p.message }

-- the commands without a reply, how far the first of them is, and the message sent last
abbrev pub work_fields : Work → List ℕ
work_fields w =
    short (length w.waiting) ++ flat_map pending_text w.waiting ++ short w.entry_number ++ short w.held_entry ++ w.held_data
    ++ short (length w.message) ++ w.message

-- a core for which no command waits has no work
abbrev pub text_unless_idle : List Pending → List ℕ → List ℕ
text_unless_idle [] text = []
text_unless_idle (first ∷ others) text = text

abbrev pub work_text : Work → List ℕ
work_text w = text_unless_idle w.waiting (work_fields w)

-- the mode of a core, given why it failed, the commands that wait, and whether the last message counts as lost
abbrev pub mode_by : Option Reason → List Pending → Bool → Mode
mode_by (Some why) waiting stalled = Failed
mode_by None [] stalled = Idle
mode_by None (first ∷ others) false = Waiting
mode_by None (first ∷ others) true = Stalled

abbrev pub mode_of : Parts → Mode
mode_of p = mode_by p.failure p.waiting p.stalled

-- a mode's number in the file
abbrev pub mode_number : Mode → ℕ
mode_number Idle = 0
mode_number Failed = 1
mode_number Waiting = 2
mode_number Stalled = 3

-- the device, the sealer's overhead, the mode, the tickets and the next nonce
abbrev pub head_text : ℕ → Parts → List ℕ
head_text overhead p = device_text p.device ++ short overhead ++ mode_number (mode_of p) ∷ (long p.tickets ++ long p.nonce)

-- the entries of a table
abbrev pub table_text : List ℕ → List ℕ
table_text table = flat_map short table

-- one text, then a table, and then another text
abbrev pub with_table : List ℕ → List ℕ → List ℕ → List ℕ
with_table before table after = before ++ (table_text table ++ after)

-- the trees and the work, which stand after the table
abbrev pub after_text : Parts → List ℕ
after_text p = flat_map tree_text p.trees ++ work_text (work_of p)

-- why the core failed; or its table, its trees and its work
abbrev pub rest_text : Parts → List ℕ
rest_text p = failure_text p.failure ++ table_text p.table ++ after_text p

abbrev pub fields_text : ℕ → Parts → List ℕ
fields_text overhead p = head_text overhead p ++ rest_text p

-- the fields before the table
abbrev pub before_text : ℕ → Parts → List ℕ
before_text overhead p = head_text overhead p ++ failure_text p.failure

-- the eight letters, the version, the length of the whole file, and the fields
abbrev pub body : ℕ → List ℕ → List ℕ
body version fields = codes "PATHORAM" ++ short version ++ long (52 + length fields) ++ fields

-- a text followed by its digest
abbrev pub with_digest : List ℕ → List ℕ
with_digest text = text ++ sha256 text

-- the file of a core with these parts, whose sealer has this overhead
abbrev pub state_file : ℕ → ℕ → Parts → List ℕ
state_file version overhead p = with_digest (body version (fields_text overhead p))
