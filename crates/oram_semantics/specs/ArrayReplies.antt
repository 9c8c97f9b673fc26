-- The replies of a core with an unknown past: those of a plain array that begins with what tree 0 holds.
use Rattle.std.specs.Prelude.{◌≡◌, ℕ, ◌<◌, ◌+◌, ◌*◌, ◌==◌, ◌⊎◌, if◌then◌else◌, List, [], ◌∷◌, replicate}
use Rattle.oram_geometry.specs.declared.Sizes.{Sizes}
use Rattle.oram_geometry.specs.Sizes.{trees_of}
use Rattle.oram_semantics.specs.Scheme.{Scheme}
use Rattle.oram_semantics.specs.Events.{address_of}
use Rattle.oram_semantics.specs.Blocks.{found_in, body_from}
use Rattle.oram_semantics.specs.State.{State, World}
use Rattle.oram_semantics.specs.declared.events.Command.{Command}
use Rattle.oram_semantics.specs.declared.events.Command.TheVariants.{Read, Write, Discard}
use Rattle.oram_semantics.specs.declared.events.Reply.{Reply}
use Rattle.oram_semantics.specs.declared.events.Submission.{Submission}

-- the data that tree 0 holds, by address
abbrev pub array_in : Scheme → World → ℕ → List ℕ
array_in v w a = found_in v.device (w.content 0 a)

-- an array after a command
abbrev pub array_after : Sizes → Command → (ℕ → List ℕ) → ℕ → List ℕ
array_after d (Read a) array b = array b
array_after d (Write a bytes) array b = if b == a then bytes else array b
array_after d (Discard a) array b = if b == a then replicate d.block_bytes 0 else array b

-- the array's reply to a command
abbrev pub reply_by : (ℕ → List ℕ) → Submission → Reply
reply_by array x = record { session = x.session; ticket = x.ticket; body = body_from (array (address_of x.command)) x.command }

-- Tree 0 holds the array as the commands with a reply have left it. But from the last access of a command to its
-- reply, tree 0 holds the array after that command, and the data that the command found is kept.
pub record ServesAmid (v : Scheme) (s : State) (w : World) (array : ℕ → List ℕ) (x : Submission) : Type 0 where
  pub before : s.entry_number + 1 < 2 * trees_of v.device → (a : ℕ) → array_in v w a ≡ array a
  pub found : s.entry_number + 1 ≡ 2 * trees_of v.device → s.held_data ≡ array (address_of x.command)
  pub after : s.entry_number + 1 ≡ 2 * trees_of v.device → (a : ℕ) → array_in v w a ≡ array_after v.device x.command array a

abbrev pub ServesBy : Scheme → State → World → (ℕ → List ℕ) → List Submission → Type 0
ServesBy v s w array [] = (a : ℕ) → array_in v w a ≡ array a
ServesBy v s w array (x ∷ rest) = ServesAmid v s w array x

abbrev pub ServesArray : Scheme → State → World → (ℕ → List ℕ) → Type 0
ServesArray v s w array = ServesBy v s w array s.queue

-- an event gave no reply, or the array's reply to the oldest command
abbrev pub HasServed : Scheme → State → State → World → (ℕ → List ℕ) → List Reply → Type 0
HasServed v s t w array replies =
    ((replies ≡ []) × ServesArray v t w array)
    ⊎ ((x : Submission) × (rest : List Submission) × (s.queue ≡ x ∷ rest) × (replies ≡ reply_by array x ∷ []) × ServesArray v t w (array_after v.device x.command array))
