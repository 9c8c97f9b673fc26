-- The commands of operations on whole blocks.
use Rattle.std.specs.Prelude.{◌≡◌, ℕ, zero, suc, ◌/◌, ◌<◌, List, [], ◌∷◌, ◌++◌, length, take, drop}
use Rattle.std.specs.List.{flat_map}
use Rattle.oram_geometry.specs.declared.Sizes.{Sizes}
use Rattle.oram_nbd.specs.declared.operations.Operation.{Operation}
use Rattle.oram_nbd.specs.declared.operations.Operation.TheVariants as operation
use Rattle.oram_semantics.specs.declared.events.Command.{Command}
use Rattle.oram_semantics.specs.declared.events.Command.TheVariants.{Discard, Read, Write}

-- the commands that read n blocks, from the block `first` on
abbrev pub read_commands : ℕ → ℕ → List Command
read_commands first zero = []
read_commands first (suc n) = Read first ∷ read_commands (suc first) n

-- the commands that discard n blocks, from the block `first` on
abbrev pub discard_commands : ℕ → ℕ → List Command
discard_commands first zero = []
discard_commands first (suc n) = Discard first ∷ discard_commands (suc first) n

-- The payload is cut into n blocks of `block` bytes each, and each command writes one of them.
abbrev pub write_commands : ℕ → ℕ → ℕ → List ℕ → List Command
write_commands block first zero payload = []
write_commands block first (suc n) payload = Write first (take block payload) ∷ write_commands block (suc first) n (drop block payload)

-- the commands of an operation, in blocks of `block` bytes, and those of several operations
abbrev pub commands_of : ℕ → Operation → List Command
commands_of block (operation.Read at count) = read_commands (at / block) (count / block)
commands_of block (operation.Write at payload) = write_commands block (at / block) (length payload / block) payload
commands_of block (operation.Zero at count) = discard_commands (at / block) (count / block)

abbrev pub all_commands : ℕ → List Operation → List Command
all_commands block ops = flat_map (commands_of block) ops

-- the commands that are left after the first `done` blocks of the first operation, or of operation `number`
abbrev pub rest_in : ℕ → List Operation → ℕ → List Command
rest_in block [] done = []
rest_in block (op ∷ ops) done = drop done (commands_of block op) ++ all_commands block ops

abbrev pub rest_of : ℕ → List Operation → ℕ → ℕ → List Command
rest_of block ops number done = rest_in block (drop number ops) done

-- the command is on a block of the device, and what it writes is as long as a block is
abbrev pub FitsDevice : Sizes → Command → Type 0
FitsDevice d (Read a) = a < d.blocks
FitsDevice d (Write a payload) = (a < d.blocks) × (length payload ≡ d.block_bytes)
FitsDevice d (Discard a) = a < d.blocks
