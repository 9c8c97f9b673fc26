-- How a client introduces a disk to its host: what it sends, and what the host answers.
use Rattle.std.specs.Prelude.{◌≡◌, ◌≢◌, ◌⊎◌, ℕ, List, [], ◌∷◌, ◌++◌, Ok, Err, map}
use Rattle.std.specs.List.{AllByRecursion, FoldsTo, range_with_len}
use Rattle.oram_geometry.specs.declared.Sizes.{Sizes}
use Rattle.oram_geometry.specs.Sizes.{depth_of, record_len_of, trees_of}
use Rattle.oram_wire.specs.HostMessages.{done_answer, fetch_body, no_room_answer, payload_answer, put_body, refusal_answer, shape_body}
use Rattle.oram_host.specs.Refusals.{code_of}
use Rattle.oram_host.specs.declared.refusals.HostRefusal.TheVariants as host
use Rattle.oram_session.specs.declared.link.LinkFault.{LinkFault}
use Rattle.oram_session.specs.declared.link.LinkFault.TheVariants as link
use Rattle.oram_link_laws.specs.Repair.{IsAmong}
use Rattle.oram_link_laws.specs.Runs.{Exchange}
use Rattle.oram_rounds.specs.Batches.{BatchOutcome}
use Rattle.oram_stamps.specs.Known.{first_stamp}
use Rattle.oram_stamps.specs.Stamps.{shown_text}
use Rattle.oram_stamps.specs.declared.stamp.Place.TheVariants.{Begun, Done}
use Rattle.oram_client.specs.StampMessages.{stamp_put, stamps_shape_body}
use Rattle.oram_client.specs.declared.faults.IntroductionFault.{IntroductionFault}
use Rattle.oram_client.specs.declared.faults.IntroductionFault.TheVariants.{Taken, Used, NoRoom, Refused, Link, NotStored, OutOfMemory}
use Rattle.oram_client.specs.declared.identity.TheConstants.{IDENTITY_TREE, IDENTITY_LEN, STAMP_TREE}
use Rattle.oram_client.specs.declared.introduction.Wanted.{Wanted}
use Rattle.oram_client.specs.declared.introduction.Wanted.TheVariants as wanted

-- the messages of a batch, and what came of them
abbrev pub Turn : Type 0
Turn = List (List ℕ) × BatchOutcome

-- a link with this relation carried these batches, one after the other
abbrev pub TurnsRun : {L : Type 0} → (L → List (List ℕ) → BatchOutcome → List Exchange → L → Type 0) → L → List Turn → L → Type 0
TurnsRun {L} batches l turns m = FoldsTo {P = L} {A = Turn} (λ a t b. (exchanges : List Exchange) × batches a t.0 t.1 exchanges b) l turns m

-- a tree that a host keeps of a disk beside those of the device
pub record OwnTree : Type 0 where
  pub shape : List ℕ  -- the message that makes the tree
  pub question : List ℕ  -- the message that asks for its records
  pub kept : List ℕ  -- its records
  pub puts : List (List ℕ)  -- the messages that put them there

-- the tree that has a disk's identity
abbrev pub identity_tree : List ℕ → OwnTree
identity_tree identity = record {
  shape = shape_body IDENTITY_TREE 0 IDENTITY_LEN;
  question = fetch_body IDENTITY_TREE 0;
  kept = identity;
  puts = put_body IDENTITY_TREE 0 identity ∷ [];
}

-- the tree that has a new disk's stamps
abbrev pub stamps_tree : List ℕ → OwnTree
stamps_tree key = record {
  shape = stamps_shape_body;
  question = fetch_body STAMP_TREE 0;
  kept = shown_text key (record { begun = first_stamp; done = first_stamp });
  puts = stamp_put key Begun first_stamp ∷ stamp_put key Done first_stamp ∷ [];
}

-- the message that gives a tree of a device its shape
abbrev pub tree_shape : Sizes → ℕ → ℕ → List ℕ
tree_shape d overhead tree = shape_body tree (depth_of d tree) (record_len_of d overhead)

-- those for all trees, in their order
abbrev pub shapes : Sizes → ℕ → List (List ℕ)
shapes d overhead = map (tree_shape d overhead) (range_with_len 0 (trees_of d))

-- the host's answers that a tree has a shape already, and that a node of a path was never given a record
abbrev pub has_shape : List ℕ
has_shape = refusal_answer (code_of host.ShapeTaken)

abbrev pub has_no_record : List ℕ
has_no_record = refusal_answer (code_of host.Missing)

-- The host says that it has done what it was asked to. Asked to make a tree, it may also say that the tree has a shape already.
abbrev pub Suits : Wanted → List ℕ → Type 0
Suits wanted.Done answer = answer ≡ done_answer
Suits wanted.Made answer = (answer ≡ done_answer) ⊎ (answer ≡ has_shape)

-- what an answer that isn't wanted says: the host has no room, or refuses
abbrev pub Says : List ℕ → IntroductionFault → Type 0
Says answer fault = ((answer ≡ no_room_answer) × (fault ≡ NoRoom)) ⊎ ((answer ≢ no_room_answer) × (fault ≡ Refused))

-- One of the answers isn't wanted, and the fault is what it says.
abbrev pub HasOther : Wanted → List (List ℕ) → IntroductionFault → Type 0
HasOther wanted answers fault = (answer : List ℕ) × IsAmong answer answers × (¬ Suits wanted answer) × Says answer fault

-- the fault for a fault of the link
abbrev pub introduction_fault : LinkFault → IntroductionFault
introduction_fault link.Io = Link
introduction_fault link.Closed = Link
introduction_fault link.TooLong = Link
introduction_fault link.TooLarge = Link
introduction_fault link.OutOfMemory = OutOfMemory

-- The host was asked to make trees, and then something else. It has made each of them, now or before, and answered so.
abbrev pub IsAsked : List (List ℕ) → List ℕ → List ℕ → List Turn → Type 0
IsAsked makings question answer turns = (made : List (List ℕ)) × AllByRecursion (Suits wanted.Made) made × (turns ≡ (makings ++ question ∷ [], Ok (made ++ answer ∷ [])) ∷ [])

-- It was asked, and an answer is missing, or it hasn't made one of the trees.
abbrev pub IsUnasked : List (List ℕ) → List ℕ → List Turn → IntroductionFault → Type 0
IsUnasked makings question turns fault =
    ((why : LinkFault) × (turns ≡ (makings ++ question ∷ [], Err why) ∷ []) × (fault ≡ introduction_fault why))
    ⊎ ((made : List (List ℕ)) × (answer : List ℕ) × (turns ≡ (makings ++ question ∷ [], Ok (made ++ answer ∷ [])) ∷ []) × HasOther wanted.Made made fault)

-- The host did what each of these messages asks for.
abbrev pub AreDone : List (List ℕ) → List Turn → Type 0
AreDone bodies turns = (answers : List (List ℕ)) × AllByRecursion (Suits wanted.Done) answers × (turns ≡ (bodies, Ok answers) ∷ [])

-- It was asked to, and an answer is missing, or it didn't do all of it.
abbrev pub AreUndone : List (List ℕ) → List Turn → IntroductionFault → Type 0
AreUndone bodies turns fault =
    ((why : LinkFault) × (turns ≡ (bodies, Err why) ∷ []) × (fault ≡ introduction_fault why))
    ⊎ ((answers : List (List ℕ)) × (turns ≡ (bodies, Ok answers) ∷ []) × HasOther wanted.Done answers fault)

-- A host that is asked for the records of a tree gives other ones, for which `other` is the fault; or it answers with something else, which
-- isn't that a node has no record.
abbrev pub ShowsOther : List ℕ → IntroductionFault → List ℕ → IntroductionFault → Type 0
ShowsOther kept other answer fault =
    ((records : List ℕ) × (answer ≡ payload_answer records) × (records ≢ kept) × (fault ≡ other))
    ⊎ (((records : List ℕ) → answer ≢ payload_answer records) × (answer ≢ has_no_record) × Says answer fault)

-- The host keeps the tree: it gave its records; or a node of it had no record, and then the host took all of them.
abbrev pub IsOwned : OwnTree → List Turn → Type 0
IsOwned own turns =
    IsAsked (own.shape ∷ []) own.question (payload_answer own.kept) turns
    ⊎ ((asked : List Turn) × (put : List Turn) × IsAsked (own.shape ∷ []) own.question has_no_record asked × AreDone own.puts put × (turns ≡ asked ++ put))

-- The host doesn't keep the tree, and perhaps wasn't asked since memory ran out. If it has other records there, `other` is the fault, and
-- it wasn't sent the right ones.
abbrev pub IsUnowned : OwnTree → IntroductionFault → List Turn → IntroductionFault → Type 0
IsUnowned own other turns fault =
    ((turns ≡ []) × (fault ≡ OutOfMemory))
    ⊎ IsUnasked (own.shape ∷ []) own.question turns fault
    ⊎ ((answer : List ℕ) × IsAsked (own.shape ∷ []) own.question answer turns × ShowsOther own.kept other answer fault)
    ⊎ ((asked : List Turn) × (put : List Turn) × IsAsked (own.shape ∷ []) own.question has_no_record asked × AreUndone own.puts put fault × (turns ≡ asked ++ put))

-- The host was asked for the trees of the device, and for the identity behind them; but it didn't make one of the trees, or didn't give the
-- identity.
abbrev pub IsUnconfirmed : Sizes → ℕ → List ℕ → List Turn → IntroductionFault → Type 0
IsUnconfirmed d overhead identity turns fault =
    ((turns ≡ []) × (fault ≡ OutOfMemory))
    ⊎ IsUnasked (shapes d overhead) (identity_tree identity).question turns fault
    ⊎ ((answer : List ℕ) × IsAsked (shapes d overhead) (identity_tree identity).question answer turns × (answer ≢ payload_answer identity) × (fault ≡ NotStored))

-- The host keeps the identity of the disk, and the first stamps. It has made the trees of the device, now or before, and then gave back the
-- identity.
pub record IsIntroduced (d : Sizes) (overhead : ℕ) (identity key : List ℕ) (turns : List Turn) : Type 0 where
  pub named : List Turn
  pub stamped : List Turn
  pub shaped : List Turn
  pub turns_are : turns ≡ named ++ stamped ++ shaped
  pub identity_kept : IsOwned (identity_tree identity) named
  pub stamps_kept : IsOwned (stamps_tree key) stamped
  pub trees_made : IsAsked (shapes d overhead) (identity_tree identity).question (payload_answer identity) shaped

-- Something of this stopped, and nothing was sent after it.
abbrev pub IsUnintroduced : Sizes → ℕ → List ℕ → List ℕ → List Turn → IntroductionFault → Type 0
IsUnintroduced d overhead identity key turns fault =
    IsUnowned (identity_tree identity) Taken turns fault
    ⊎ ((named : List Turn) × (stamped : List Turn) × (turns ≡ named ++ stamped) × IsOwned (identity_tree identity) named × IsUnowned (stamps_tree key) Used stamped fault)
    ⊎ ((named : List Turn) × (stamped : List Turn) × (shaped : List Turn) × (turns ≡ named ++ stamped ++ shaped) × IsOwned (identity_tree identity) named
    × IsOwned (stamps_tree key) stamped × IsUnconfirmed d overhead identity shaped fault)
