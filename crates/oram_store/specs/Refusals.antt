-- Which requests the trees of a store refuse, before any record is read.
use Rattle.std.specs.Prelude.{◌≡◌, ◌⊎◌, ℕ, ◌+◌, ◌-◌, ◌*◌, ◌^◌, ◌==◌, ◌&&◌, nat_lt, is_none, is_some, if◌then◌else◌, Bool, length, Option, Some, None}
use Rattle.oram_wire.specs.declared.host_messages.HostAnswer.{HostAnswer}
use Rattle.oram_wire.specs.declared.host_messages.HostAnswer.TheVariants as answer
use Rattle.oram_wire.specs.declared.host_messages.HostRequest.{HostRequest}
use Rattle.oram_wire.specs.declared.host_messages.HostRequest.TheVariants as request
use Rattle.oram_host.specs.ImageReader.{is_shape}
use Rattle.oram_host.specs.Refusals.{code_of}
use Rattle.oram_host.specs.declared.refusals.HostRefusal.{HostRefusal}
use Rattle.oram_host.specs.declared.refusals.HostRefusal.TheVariants.{NoShape, BadLeaf, BadNode, BadLength, ShapeTaken, Missing, OutOfMemory}
use Rattle.oram_layout.specs.Limits.{TreeShape}
use Rattle.oram_store.specs.declared.store.TheConstants.{DISK_IDENTITY_TREE}
use Rattle.oram_layout.specs.Trees.{Trees, shape_at}

-- the refusal `why` if the condition doesn't hold, or else `rest`
abbrev pub unless : Bool → HostRefusal → Option HostRefusal → Option HostRefusal
unless holds why rest = if holds then rest else Some why

-- the refusal `why` if the condition holds, or else `rest`
abbrev pub when : Bool → HostRefusal → Option HostRefusal → Option HostRefusal
when holds why rest = if holds then Some why else rest

-- A tree whose records stay as they are: the one with the identity of a disk, once there is the tree with the disk's blocks.
abbrev pub is_fixed : Trees → ℕ → Bool
is_fixed trees tree = (tree == DISK_IDENTITY_TREE) && is_some (shape_at trees 0)

abbrev pub by_shape : Option TreeShape → (TreeShape → Option HostRefusal) → Option HostRefusal
by_shape None rest = Some NoShape
by_shape (Some shape) rest = rest shape

-- why the records of a tree can't be changed, if they can't: there is no such tree, or its records stay as they are; or else `rest`, by its shape
abbrev pub by_changeable : Trees → ℕ → (TreeShape → Option HostRefusal) → Option HostRefusal
by_changeable trees tree rest = by_shape (shape_at trees tree) (λ s. when (is_fixed trees tree) ShapeTaken (rest s))

-- why these trees refuse a request, if they do; if there are several reasons, the one that is checked first
abbrev pub refusal_by : Trees → HostRequest → Option HostRefusal
refusal_by trees (request.Fetch tree leaf) = by_shape (shape_at trees tree) (λ s. unless (nat_lt leaf (2 ^ s.depth)) BadLeaf None)
refusal_by trees (request.Store tree leaf records) =
    by_changeable trees tree (λ s. unless (nat_lt leaf (2 ^ s.depth)) BadLeaf (unless (length records == (s.depth + 1) * s.record_len) BadLength None))
refusal_by trees (request.Put tree node bytes) =
    by_changeable trees tree (λ s. unless (nat_lt node (2 ^ (s.depth + 1) - 1)) BadNode (unless (length bytes == s.record_len) BadLength None))
refusal_by trees (request.Shape tree depth record_len) = unless (is_shape depth record_len) BadLength (unless (is_none (shape_at trees tree)) ShapeTaken None)

-- the trees before and after a request that was carried out
abbrev pub ChangesTrees : Trees → HostRequest → Trees → Type 0
ChangesTrees old (request.Shape tree depth record_len) new =
    (other : ℕ) → shape_at new other ≡ (if other == tree then Some (record { depth = depth; record_len = record_len }) else shape_at old other)
ChangesTrees old message new = new ≡ old

-- why a request that the trees don't refuse may not be carried out: a record is missing, or there is no room
abbrev MayFail : HostRequest → HostRefusal → Type 0
MayFail (request.Fetch tree leaf) why = (why ≡ Missing) ⊎ (why ≡ OutOfMemory)
MayFail message why = why ≡ OutOfMemory

abbrev pub IsRefused : Trees → HostRequest → HostRefusal → Type 0
IsRefused trees message why = (refusal_by trees message ≡ Some why) ⊎ ((refusal_by trees message ≡ None) × MayFail message why)

-- the answer to a request, and the trees after it
abbrev pub RespondsWith : Trees → HostRequest → HostAnswer → Trees → Type 0
RespondsWith old message (answer.Refused code) new = (why : HostRefusal) × (code ≡ code_of why) × IsRefused old message why × (new ≡ old)
RespondsWith old (request.Fetch tree leaf) (answer.Payload bytes) new = (refusal_by old (request.Fetch tree leaf) ≡ None) × (new ≡ old)
RespondsWith old (request.Fetch tree leaf) answer.Done new = ⊥
RespondsWith old message answer.Done new = (refusal_by old message ≡ None) × ChangesTrees old message new
RespondsWith old message (answer.Payload bytes) new = ⊥
