-- The bodies in a list of vectors.
use Rattle.std.specs.Prelude.{ℕ, List, map}
use Rattle.std.specs.Global.{Vec}

-- the bodies as lists, without their places in memory
abbrev pub bodies_in : List (Vec ℕ) → List (List ℕ)
bodies_in bodies = map (λ body. body.items) bodies
