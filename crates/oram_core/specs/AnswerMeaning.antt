-- What an answer means to a core that waits for it, judged by the root digests, the stashes and the map that the core
-- itself has.
use Rattle.std.specs.Prelude.{◌≡◌, ℕ, ◌+◌, ◌*◌, ◌%◌, ◌≤◌, ◌⊎◌, ◌↔◌, ◌==◌, ◌&&◌, Bool, true, false, if◌then◌else◌, List, [], ◌∷◌, length, slice_index_or, Result, Err, IsOk, MatchResult}
use Rattle.oram_geometry.specs.Sizes.{depth_of}
use Rattle.oram_bucket.specs.Cell.{Cell}
use Rattle.oram_bucket.specs.SealedBlocks.{Reads}
use Rattle.oram_hash.specs.declared.HashFault.{HashFault}
use Rattle.oram_hash.specs.declared.HashFault.TheVariants as fault
use Rattle.oram_hash.specs.Path.{Path, path_of, HasLength, IsAccepted, IsTamperedAt}
use Rattle.oram_hash.specs.Tree.{IsStored, IsPathOf, Collides}
use Rattle.oram_hash.specs.Verdict.{IsFaultOf}
use Rattle.oram_tree.specs.Access.{IsLookup, IsNear, IsReadable}
use Rattle.oram_tree.specs.State.{State as Tree}
use Rattle.oram_semantics.specs.Answers.{is_refusal}
use Rattle.oram_semantics.specs.Content.{block_of, entry_tree}
use Rattle.oram_semantics.specs.Messages.{requested}
use Rattle.oram_semantics.specs.Scheme.{Scheme, record_len}
use Rattle.oram_semantics.specs.State.{State, no_tree}
use Rattle.oram_semantics.specs.declared.events.Note.{Note}
use Rattle.oram_semantics.specs.declared.events.Note.TheVariants.{Accepted, Refused, Taken, Stalled, FailedNow, Resent, Unexpected}
use Rattle.oram_semantics.specs.declared.events.Reason.{Reason}
use Rattle.oram_semantics.specs.declared.events.Reason.TheVariants.{Malformed, Tampered, HostRefused}
use Rattle.oram_semantics.specs.declared.events.Submission.{Submission}
use Rattle.oram_core.specs.PlainSteps.{is_misled}
use Rattle.oram_wire.specs.HostMessages.{done_answer, payload_answer, refusal_answer}
use Rattle.oram_wire.specs.declared.host_messages.TheConstants.{GOOD}

-- the tree of the outstanding path, as the core has it
abbrev pub tree_now : Scheme → State → Tree
tree_now v s = slice_index_or s.trees (entry_tree v.device s.entry_number) no_tree

-- these bytes, taken as the outstanding path
abbrev pub path_now : Scheme → State → List ℕ → Path
path_now v s records = path_of v.device (entry_tree v.device s.entry_number) (requested s.message).leaf v.cipher.overhead records

-- relates a sealed bucket of that tree to the blocks that it reads as
abbrev pub reads_now : Scheme → State → List ℕ → List Cell → Type 0
reads_now v s = Reads v.cipher.opening v.device (entry_tree v.device s.entry_number)

-- The result of checking these records as that path, under the root digest of its tree: in terms of digests, and
-- compared with every stored tree under this root digest.
pub record IsChecked {A : Type 0} (v : Scheme) (s : State) (records : List ℕ) (checked : Result A HashFault) : Type 0 where
  pub accepted : IsOk checked ↔ IsAccepted (path_now v s records) (tree_now v s).root
  pub short : (checked ≡ Err fault.Length) ↔ (¬ HasLength (path_now v s records))
  pub tampered : (level : ℕ) → (checked ≡ Err (fault.Tampered level)) ↔ IsTamperedAt (path_now v s records) (tree_now v s).root level
  pub judged : (stored : ℕ → List ℕ) → IsStored (depth_of v.device (entry_tree v.device s.entry_number)) (record_len v) (tree_now v s).root stored →
      MatchResult checked (λ _. IsPathOf stored (path_now v s records)) (IsFaultOf stored (path_now v s records)) ⊎ Collides stored (path_now v s records)

-- the number of bytes that should follow the first byte of the answer: those of a path after a FETCH, none after a STORE
abbrev pub answer_len : Scheme → State → ℕ
answer_len v s = if s.entry_number % 2 == 0 then (depth_of v.device (entry_tree v.device s.entry_number) + 1) * record_len v else 0

-- the answer is byte 0x80 and the right number of bytes
abbrev pub is_formed : Scheme → State → List ℕ → Bool
is_formed v s [] = false
is_formed v s (first ∷ rest) = (first == GOOD) && (length rest == answer_len v s)

abbrev pub IsReadableNow : Scheme → State → Path → Type 0
IsReadableNow v s p = IsReadable (reads_now v s) p (tree_now v s).stash

-- The path is readable, and `lookup` is the result of looking for the oldest command's block on it and in the stash.
-- `astray` says whether the map has led astray: it names a block that isn't found, or the block's entry for the next
-- tree is no leaf there.
pub record LooksUp (v : Scheme) (s : State) (p : Path) (astray : Bool) : Type 0 where
  pub readable : IsReadableNow v s p
  pub oldest : Submission
  pub rest : List Submission
  pub queue : s.queue ≡ oldest ∷ rest
  pub found : Bool
  pub before : List ℕ
  pub lookup : IsLookup (IsNear (reads_now v s) p (tree_now v s).stash) v.device.block_bytes (block_of v.device (entry_tree v.device s.entry_number) oldest) found before
  pub led : is_misled v s oldest found before ≡ astray

-- the path can't be read, or the map has led astray
abbrev pub IsUseless : Scheme → State → Path → Type 0
IsUseless v s p = (¬ IsReadableNow v s p) ⊎ LooksUp v s p true

-- the note that the core gives when it uses a path that passed the check
abbrev pub IsUseOf : Scheme → State → Path → Note → Type 0
IsUseOf v s p (FailedNow e) = (e ≡ Tampered (entry_tree v.device s.entry_number) 0) × IsUseless v s p
IsUseOf v s p Taken = LooksUp v s p false
IsUseOf v s p (Accepted t) = ⊥
IsUseOf v s p (Refused e) = ⊥
IsUseOf v s p Stalled = ⊥
IsUseOf v s p Resent = ⊥
IsUseOf v s p Unexpected = ⊥

-- a path of the right length that is tampered with: at the first record that doesn't have its expected digest, or, at
-- level 0, as a path that is useless though it passes the check
pub record IsSpoilt (v : Scheme) (s : State) (bytes : List ℕ) (level : ℕ) : Type 0 where
  pub fetched : s.entry_number % 2 ≡ 0
  pub records : List ℕ
  pub answer : bytes ≡ payload_answer records
  pub spoilt : IsTamperedAt (path_now v s records) (tree_now v s).root level
      ⊎ ((level ≡ 0) × IsAccepted (path_now v s records) (tree_now v s).root × IsUseless v s (path_now v s records))

-- why the answer fails the device
abbrev pub IsReasonFor : Scheme → State → List ℕ → Reason → Type 0
IsReasonFor v s bytes (HostRefused code) = (bytes ≡ refusal_answer code) × (1 ≤ code) × (code ≤ 7)
IsReasonFor v s bytes Malformed = (is_refusal bytes ≡ false) × (is_formed v s bytes ≡ false)
IsReasonFor v s bytes (Tampered i level) = (i ≡ entry_tree v.device s.entry_number) × IsSpoilt v s bytes level

-- the answer is a path that passes the check and can be used
pub record IsUseful (v : Scheme) (s : State) (bytes : List ℕ) : Type 0 where
  pub records : List ℕ
  pub answer : bytes ≡ payload_answer records
  pub accepted : IsAccepted (path_now v s records) (tree_now v s).root
  pub leads : LooksUp v s (path_now v s records) false

-- the answer is good, as far as the core can tell
pub record IsGood (v : Scheme) (s : State) (bytes : List ℕ) : Type 0 where
  pub fetched : s.entry_number % 2 ≡ 0 → IsUseful v s bytes
  pub stored : s.entry_number % 2 ≡ 1 → bytes ≡ done_answer

-- the note that the core gives for an answer that it waits for, except for the refusal for lack of room
abbrev pub IsVerdict : Scheme → State → List ℕ → Note → Type 0
IsVerdict v s bytes (FailedNow e) = IsReasonFor v s bytes e
IsVerdict v s bytes Taken = IsGood v s bytes
IsVerdict v s bytes (Accepted t) = ⊥
IsVerdict v s bytes (Refused e) = ⊥
IsVerdict v s bytes Stalled = ⊥
IsVerdict v s bytes Resent = ⊥
IsVerdict v s bytes Unexpected = ⊥
