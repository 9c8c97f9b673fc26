-- A core as plain data, and the properties that every core has.
use Rattle.std.specs.Prelude.{◌≡◌, ℕ, ◌+◌, ◌-◌, ◌*◌, ◌%◌, ◌^◌, ◌<◌, ◌≤◌, ◌==◌, if◌then◌else◌, false, List, [], ◌∷◌, length, slice_index_or, Option, Some, None, ⊤}
use Rattle.std.specs.List.{All}
use Rattle.oram_geometry.specs.declared.Sizes.{Sizes}
use Rattle.oram_geometry.specs.Sizes.{IsDevice, trees_of, depth_of, blocks_in, record_len_of}
use Rattle.oram_bucket.specs.Cipher.{Cipher}
use Rattle.oram_bucket.specs.Bucket.{IsBlockOf}
use Rattle.oram_tree.specs.State.{State as Tree}
use Rattle.oram_wire.specs.HostMessages.{store_body}
use Rattle.oram_semantics.specs.Agree.{IsAllowed, TicketsFrom}
use Rattle.oram_semantics.specs.Scheme.{Scheme}
use Rattle.oram_semantics.specs.Content.{entry_tree}
use Rattle.oram_semantics.specs.Moves.{fetch_at}
use Rattle.oram_semantics.specs.Nonces.{next_nonce}
use Rattle.oram_semantics.specs.State.{State, failed_state, map_entry_now, no_tree}
use Rattle.oram_semantics.specs.declared.events.Event.{Event}
use Rattle.oram_semantics.specs.declared.events.Event.TheVariants.{Submit, Answer, Lost, Reopen, Retry}
use Rattle.oram_semantics.specs.declared.events.Reason.{Reason}
use Rattle.oram_semantics.specs.declared.events.Reason.TheVariants.{Malformed, Tampered, HostRefused}
use Rattle.oram_semantics.specs.declared.events.Submission.{Submission}
use Rattle.oram_core.specs.Changes.{AreNoted, Noted}
use Rattle.oram_core.specs.PlainSteps.{fetch_of}

-- a core, as the clauses of contracts see it
pub record CoreValue (S : Type 0) : Type 0 where
  pub device : Sizes
  pub sealer : S
  pub state : State
  pub noted : Noted  -- the entries of the table that may have changed since the changes were last forgotten

-- a device with a sealer, given by what the sealer does
abbrev pub scheme_with : {S : Type 0} → (S → Cipher) → Sizes → S → Scheme
scheme_with cipher d s = record { device = d; cipher = cipher s }

-- the scheme of a core
abbrev pub scheme_of : {S : Type 0} → (S → Cipher) → CoreValue S → Scheme
scheme_of cipher c = scheme_with cipher c.device c.sealer

-- the device and the sealer are the same
abbrev pub IsSameDevice : {S : Type 0} → CoreValue S → CoreValue S → Type 0
IsSameDevice c d = (d.device ≡ c.device) × (d.sealer ≡ c.sealer)

-- the core has noted each entry of its table that differs from this table
abbrev pub IsNotedSince : {S : Type 0} → List ℕ → CoreValue S → Type 0
IsNotedSince table c = AreNoted c.noted table c.state.table

-- the event is no answer of the host, so it changes no table
abbrev pub IsNoAnswer : Event → Type 0
IsNoAnswer (Answer bytes) = ⊥
IsNoAnswer (Submit session c words) = ⊤
IsNoAnswer Lost = ⊤
IsNoAnswer Reopen = ⊤
IsNoAnswer Retry = ⊤

-- whatever a core has noted, it notes what changes of its table, too
abbrev pub NotesChanges : {S : Type 0} → CoreValue S → CoreValue S → Type 0
NotesChanges c d = (table : List ℕ) → IsNotedSince table c → IsNotedSince table d

-- the core's tree i has this number and only blocks that can be in tree i
pub record IsTreeKept (d : Sizes) (i : ℕ) (t : Tree) : Type 0 where
  pub number : t.number ≡ i
  pub blocks : All (IsBlockOf d i) t.stash

-- the STORE of this path of tree i
pub record IsPathStore (d : Sizes) (overhead i leaf : ℕ) (message : List ℕ) : Type 0 where
  pub records : List ℕ
  pub long : length records ≡ (depth_of d i + 1) * record_len_of d overhead
  pub body : message ≡ store_body i leaf records

-- a STORE of some path of tree i
pub record IsStoreOf (d : Sizes) (overhead i : ℕ) (message : List ℕ) : Type 0 where
  pub leaf : ℕ
  pub inside : leaf < 2 ^ depth_of d i
  pub stores : IsPathStore d overhead i leaf message

-- The greatest map entry that can be held at this stage of a command: a leaf of the tree that is fetched next, or was
-- fetched last, plus one. It is 0 at the first FETCH, whose entry is in the table, and at the last STORE, which no
-- FETCH follows.
abbrev pub most_map_entry : Sizes → ℕ → ℕ
most_map_entry d entry_number = if entry_number == 0 then 0 else if entry_number + 1 == 2 * trees_of d then 0 else 2 ^ depth_of d (entry_tree d (entry_number + entry_number % 2))

-- The oldest command is at work: the message sent last is its FETCH of the leaf that the map names for its block, or a
-- STORE of a path of that tree. The block of tree 0 is held at the last STORE.
pub record IsAtWork (d : Sizes) (overhead : ℕ) (s : State) (x : Submission) : Type 0 where
  pub entry_number : s.entry_number < 2 * trees_of d
  pub fetch : s.entry_number % 2 ≡ 0 → s.message ≡ fetch_of (fetch_at d s.entry_number (map_entry_now d s x) x)
  pub store : s.entry_number % 2 ≡ 1 → IsStoreOf d overhead (entry_tree d s.entry_number) s.message
  pub held_entry : s.held_entry ≤ most_map_entry d s.entry_number
  pub held_data : length s.held_data ≡ (if s.entry_number + 1 == 2 * trees_of d then d.block_bytes else 0)

-- no command is at work
pub record IsResting (s : State) : Type 0 where
  pub entry_number : s.entry_number ≡ 0
  pub held_entry : s.held_entry ≡ 0
  pub held_data : s.held_data ≡ []
  pub message : s.message ≡ []
  pub lost : s.lost ≡ false

abbrev pub AtWork : Sizes → ℕ → State → List Submission → Type 0
AtWork d overhead s [] = IsResting s
AtWork d overhead s (x ∷ rest) = IsAtWork d overhead s x

-- the state of a core that hasn't failed
pub record IsHealthy (d : Sizes) (overhead : ℕ) (s : State) : Type 0 where
  pub table : length s.table ≡ blocks_in d (trees_of d - 1)
  pub map_entries : All (λ e. e ≤ 2 ^ depth_of d (trees_of d - 1)) s.table
  pub count : length s.trees ≡ trees_of d
  pub kept : (i : ℕ) → i < trees_of d → IsTreeKept d i (slice_index_or s.trees i no_tree)
  pub queue : All (IsAllowed d) s.queue
  pub tickets : TicketsFrom (s.next - length s.queue) s.queue
  pub most : length s.queue ≤ 64
  pub begun : length s.queue ≤ s.next
  pub work : AtWork d overhead s s.queue
  pub nonce : s.nonce ≡ next_nonce d (s.next - length s.queue) s.entry_number

-- the reason names a tree of the device and a level of that tree, or a code of the host
abbrev pub IsReasonOf : Sizes → Reason → Type 0
IsReasonOf d Malformed = Unit {0}
IsReasonOf d (Tampered i level) = (i < trees_of d) × (level ≤ depth_of d i)
IsReasonOf d (HostRefused code) = (0 < code) × (code < 8)

-- the state is healthy, or it is that of a failed core, which holds nothing else
abbrev pub IsWhole : Sizes → ℕ → State → Option Reason → Type 0
IsWhole d overhead s None = IsHealthy d overhead s
IsWhole d overhead s (Some e) = IsReasonOf d e × (s ≡ failed_state s.next s.nonce e)

-- the properties of every core, under a sealer with this overhead
pub record IsSound (d : Sizes) (overhead : ℕ) (s : State) : Type 0 where
  pub ranges : IsDevice d
  pub small : overhead ≤ 64
  pub next : s.next ≤ d.lifetime
  pub whole : IsWhole d overhead s s.failure
