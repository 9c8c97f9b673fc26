-- What is still to come of a batch whose answers are taken one by one.
use Rattle.std.specs.Prelude.{ℕ, List, []}

pub record Coming : Type 0 where
  pub fetches : List (List ℕ)  -- the FETCHes of levels that the host hasn't answered yet
  pub ready : List (List ℕ)  -- the answers to STOREs, once the host has answered all of them

abbrev pub no_coming : Coming
no_coming = record { fetches = []; ready = [] }
