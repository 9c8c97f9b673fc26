-- The definitions on words and a document that are written out.
use Rattle.std.proofs.Common.{◌≡◌, refl, [], ◌∷◌, Some, None, false, true, codes}
use Rattle.std.specs.Prelude.{pos}
use Rattle.clap.proofs.OnLiterals.{clap_on_literals}
use Rattle.clap.specs.Faults.{is_simple_and_free}
use Rattle.clap.specs.Simple.{App, new_shape}
use Rattle.toml.specs.Data.{member, no_members, string, integer}
use Rattle.toml.specs.Parse.{parse_document}
use Rattle.toml.proofs.OnLiterals.{toml_on_literals}
use Rattle.oram_cli.specs.CommandLine.{named_in, word_taker}

-- a program of one subcommand
abbrev a_program : App
a_program = record {
  top = record (new_shape (codes "edge")) { is_leaf = false; subcommand_required = true };
  subs = word_taker (codes "go") ∷ [];
}

is_free : is_simple_and_free a_program ≡ true
unfolding clap_on_literals
is_free = refl

a_name : named_in a_program (codes "edge" ∷ codes "go" ∷ codes "there" ∷ []) ≡ Some (codes "go", codes "there")
unfolding clap_on_literals
a_name = refl

no_word : named_in a_program (codes "edge" ∷ codes "go" ∷ []) ≡ None
unfolding clap_on_literals
no_word = refl

another_name : named_in a_program (codes "edge" ∷ codes "stay" ∷ codes "there" ∷ []) ≡ None
unfolding clap_on_literals
another_name = refl

a_document : parse_document (codes "image = \"i\"\nconnections = 3\n") ≡ Some (member (codes "connections") (integer (pos 3)) (member (codes "image") (string (codes "i")) no_members))
unfolding toml_on_literals
a_document = refl
