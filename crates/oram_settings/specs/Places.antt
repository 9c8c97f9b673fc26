-- Places where a program listens or is reached, as seen from the working directory.
use Rattle.std.specs.Prelude.{◌≡◌, ◌≢◌, ◌⊎◌, ◌++◌, ℕ, List, codes}
use Rattle.std.specs.Path.{path_with_file_name}

-- A place that the settings in `file` name: the name of a socket is relative to the file's folder, and an address stays as it is.
abbrev pub IsSeenFrom : List ℕ → List ℕ → List ℕ → Type 0
IsSeenFrom file place seen =
    ((name : List ℕ) × (place ≡ codes "unix:" ++ name) × (seen ≡ codes "unix:" ++ path_with_file_name file name))
    ⊎ (((name : List ℕ) → place ≢ codes "unix:" ++ name) × (seen ≡ place))
