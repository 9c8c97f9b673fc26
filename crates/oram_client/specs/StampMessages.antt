-- The messages that put a disk's stamps at its host.
use Rattle.std.specs.Prelude.{ℕ, List, [], ◌∷◌}
use Rattle.oram_wire.specs.HostMessages.{put_body, shape_body}
use Rattle.oram_stamps.specs.Known.{first_stamp}
use Rattle.oram_stamps.specs.Stamps.{record_text}
use Rattle.oram_stamps.specs.declared.stamp.Place.{Place}
use Rattle.oram_stamps.specs.declared.stamp.Place.TheVariants.{Begun, Done}
use Rattle.oram_stamps.specs.declared.stamp.Stamp.{Stamp}
use Rattle.oram_stamps.specs.declared.stamp.TheConstants.{RECORD_LEN}
use Rattle.oram_client.specs.declared.identity.TheConstants.{STAMP_TREE}

-- the node of the stamps' tree that has the stamp of a place
abbrev pub stamp_node : Place → ℕ
stamp_node Begun = 0
stamp_node Done = 1

-- the message that puts a stamp at a place
abbrev pub stamp_put : List ℕ → Place → Stamp → List ℕ
stamp_put key place stamp = put_body STAMP_TREE (stamp_node place) (record_text key place stamp)

-- the message that makes the stamps' tree: a root, and a node below it on the path to each of two leaves
abbrev pub stamps_shape_body : List ℕ
stamps_shape_body = shape_body STAMP_TREE 1 RECORD_LEN

-- the messages that put a new disk's stamps
abbrev pub stamp_messages : List ℕ → List (List ℕ)
stamp_messages key = stamps_shape_body ∷ stamp_put key Begun first_stamp ∷ stamp_put key Done first_stamp ∷ []
