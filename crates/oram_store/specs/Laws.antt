-- What a store's first STORE leaves, and what no request changes.
use Rattle.std.specs.Prelude.{◌≡◌, ℕ, List, None, Some, is_some, true}
use Rattle.oram_redo.specs.Content.{Content}
use Rattle.oram_layout.specs.BucketFile.{IsBucketFile}
use Rattle.oram_layout.specs.Limits.{TreeShape}
use Rattle.oram_layout.specs.Records.{Records, records_in}
use Rattle.oram_layout.specs.Trees.{Trees, shape_at}
use Rattle.oram_store.specs.KeptRecords.{Stores}
use Rattle.oram_store.specs.Messages.{IsAnswered, Message, Responds}
use Rattle.oram_store.specs.declared.store.TheConstants.{DISK_IDENTITY_TREE}
use Rattle.oram_wire.specs.declared.host_messages.HostAnswer.{HostAnswer}

abbrev pub no_records : Records
no_records tree node = None

-- The content is that of a bucket file. It has a tree of this shape, the records of one leaf's path, and no others.
pub record HoldsPath (trees : Trees) (tree : ℕ) (s : TreeShape) (leaf : ℕ) (bytes : List ℕ) (c : Content) : Type 0 where
  pub file : IsBucketFile trees c
  pub shape : shape_at trees tree ≡ Some s
  pub records : Stores tree s leaf bytes no_records (records_in trees c)

-- Once a disk has its first tree, no request changes the disk's identity, whatever it is answered.
abbrev pub IdentityStays : Type 0
IdentityStays = (trees after : Trees) (message : Message) (answer : HostAnswer) (old new : Records) (node : ℕ) → is_some (shape_at trees 0) ≡ true
    → Responds trees message answer after → IsAnswered trees old message answer new → new DISK_IDENTITY_TREE node ≡ old DISK_IDENTITY_TREE node
