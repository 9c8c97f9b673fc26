-- What a command line names, by clap's own definitions.
use Rattle.std.specs.Prelude.{List, [], ◌∷◌, true, Option, None, codes, option_and_then, option_map}
use Rattle.clap.specs.Walk.{Row, Text, first_of}
use Rattle.clap.specs.Simple.{App, Shape, new_rule, new_shape, subcommand_of}
use Rattle.clap.specs.Kinds.{Kinds}
use Rattle.clap.specs.Faults.{fault_of}

-- a subcommand that takes one word
abbrev pub word_taker : Text → Shape
word_taker name = record (new_shape name) { rules = record (new_rule (codes "word")) { required = true } ∷ [] }

-- the name and the word in the matches of a subcommand
abbrev pub named_by : Text × List Row → Option (Text × Text)
named_by matches = option_map (λ word. (matches.0, word)) (first_of (codes "word") matches.1)

-- nothing if clap finds a fault
abbrev pub unless_faulty : Kinds → Option (Text × Text) → Option (Text × Text)
unless_faulty [] named = named
unless_faulty (fault ∷ more) named = None

-- the subcommand that clap's matches of the words name, and its word
abbrev pub named_in : App → List Text → Option (Text × Text)
named_in program words = unless_faulty (fault_of program words) (option_and_then named_by (subcommand_of program words))
