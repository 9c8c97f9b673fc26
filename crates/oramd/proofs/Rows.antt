-- The definitions on example words, a settings file and faults.
use Rattle.std.proofs.Common.{◌≡◌, refl, [], ◌∷◌, Some, None, codes}
use Rattle.std.specs.Prelude.{pos}
use Rattle.clap.proofs.OnLiterals.{clap_on_literals}
use Rattle.toml.specs.Data.{member, no_members, string, integer}
use Rattle.toml.specs.Parse.{parse_document}
use Rattle.toml.proofs.OnLiterals.{toml_on_literals}
use Rattle.oramd.specs.CommandLine.{request_in, run, loop}
use Rattle.oramd.specs.declared.command_line.Role.TheVariants.{Host, Format, Proxy}
use Rattle.oramd.specs.Faults.{line_of}
use Rattle.oramd.specs.declared.faults.Fault.TheVariants.{Hex, Stalled}

a_host : request_in (codes "oramd" ∷ codes "host" ∷ codes "h.toml" ∷ []) ≡ Some (run Host (codes "h.toml"))
unfolding clap_on_literals
a_host = refl

a_formatting : request_in (codes "oramd" ∷ codes "format" ∷ codes "f.toml" ∷ []) ≡ Some (run Format (codes "f.toml"))
unfolding clap_on_literals
a_formatting = refl

a_proxy : request_in (codes "oramd" ∷ codes "proxy" ∷ codes "p.toml" ∷ []) ≡ Some (run Proxy (codes "p.toml"))
unfolding clap_on_literals
a_proxy = refl

a_loop : request_in (codes "x" ∷ codes "loop" ∷ codes "00ff" ∷ []) ≡ Some (loop (codes "00ff"))
unfolding clap_on_literals
a_loop = refl

no_word : request_in (codes "oramd" ∷ codes "host" ∷ []) ≡ None
unfolding clap_on_literals
no_word = refl

two_words : request_in (codes "oramd" ∷ codes "host" ∷ codes "a" ∷ codes "b" ∷ []) ≡ None
unfolding clap_on_literals
two_words = refl

help : request_in (codes "oramd" ∷ codes "help" ∷ []) ≡ None
unfolding clap_on_literals
help = refl

a_document : parse_document (codes "image = \"i\"\nconnections = 3\n") ≡ Some (member (codes "connections") (integer (pos 3)) (member (codes "image") (string (codes "i")) no_members))
unfolding toml_on_literals
a_document = refl

a_line : line_of Hex ≡ codes "oramd: bad hex\n"
a_line = refl

another_line : line_of Stalled ≡ codes "oramd: stalled\n"
another_line = refl
