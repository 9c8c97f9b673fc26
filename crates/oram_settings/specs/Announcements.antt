-- What the program says when all goes well.
use Rattle.std.specs.Prelude.{ℕ, List, [], ◌∷◌, codes}
use Rattle.std.specs.List.{concat}
use Rattle.oram_settings.specs.Amounts.{amount, size_text}

-- what to do next, once the folder of a disk is made
abbrev pub next_text : List ℕ → List ℕ
next_text folder =
    concat (codes "Next, once host.toml is at the rented machine, and a tunnel leads there (ssh -N -o StreamLocalBindUnlink=yes -L " ∷ folder ∷ codes "/buckets.sock:/home/you/buckets.sock you@rented):\n  there:  oramdisk host --new host.toml\n  here:   oramdisk format " ∷ folder
    ∷ codes "/disk.toml\n  here:   oramdisk serve " ∷ folder ∷ codes "/disk.toml\nClients of NBD then connect to nbd+unix:///?socket=" ∷ folder ∷ codes "/disk.sock" ∷ [])

-- how many bytes the host stores of a disk at most, and how many its near records have
abbrev pub room_text : ℕ → ℕ → List ℕ
room_text stored near =
    concat (codes "its host will store up to about " ∷ amount stored ∷ codes " of it\noramdisk: the client keeps records of " ∷ amount near ∷ codes " itself" ∷ [])

-- what `new` prints: `size` is the disk's size, `stored` what the host stores of it, and `near` what its near records have, all in bytes
abbrev pub made_text : List ℕ → ℕ → ℕ → ℕ → List ℕ
made_text folder size stored near =
    concat (codes "oramdisk: made " ∷ folder ∷ codes " for a disk of " ∷ size_text size
    ∷ codes ": disk.toml with its key, which stays here, and host.toml for the rented machine\noramdisk: " ∷ room_text stored near ∷ codes "\n" ∷ next_text folder ∷ codes "\n" ∷ [])

-- what is printed before a formatting begins
abbrev pub begun_text : ℕ → List ℕ
begun_text stored = concat (codes "oramdisk: formatting: about " ∷ amount stored ∷ codes " of empty records are hashed here, and none of them is sent\n" ∷ [])

-- what a host prints when it serves a file of buckets
abbrev pub hosting_text : List ℕ → List ℕ → List ℕ
hosting_text file listen = concat (codes "oramdisk: listening at " ∷ listen ∷ codes ", with the buckets in " ∷ file ∷ codes "\n" ∷ [])

-- what `serve` prints: `size` is the disk's size in bytes
abbrev pub serving_text : ℕ → List ℕ → List ℕ
serving_text size uri = concat (codes "oramdisk: serving a disk of " ∷ size_text size ∷ codes " at " ∷ uri ∷ codes "\n" ∷ [])
