-- What clap reads from the command line.
use Rattle.std.specs.Prelude.{◌≡◌, ◌⊎◌, ℕ, List, [], ◌∷◌, map, true, false, Option, Some, None, codes, if◌then◌else◌, option_and_then, string_bytes}
use Rattle.std.specs.Str.{bytes_eq}
use Rattle.clap.specs.Walk.{Text}
use Rattle.clap.specs.Simple.{App, new_shape}
use Rattle.oram_cli.specs.CommandLine.{named_in, word_taker}
use Rattle.oramd.specs.declared.command_line.Role.{Role}
use Rattle.oramd.specs.declared.command_line.Role.TheVariants.{Host, Format, Proxy}
use Rattle.oramd.specs.declared.command_line.Subcommand.{Subcommand}
use Rattle.oramd.specs.declared.command_line.Subcommand.TheVariants as words

-- what a command line asks for: to take a role with its settings file, or to answer the frames in
-- hexadecimal digits
pub data Request : Type 0 where
  run : Role → List ℕ → Request
  loop : List ℕ → Request

-- the words of a command line as a request, without where the texts lie in memory
abbrev pub request_for : Subcommand → Request
request_for (words.Run role file) = run role (string_bytes file)
request_for (words.Loop digits) = loop (string_bytes digits)

-- the word asks for help
abbrev pub IsHelp : Text → Type 0
IsHelp word = (word ≡ codes "-h") ⊎ (word ≡ codes "--help")

-- the program's description for clap: one of four subcommands, with its word
abbrev pub program : App
program = record {
  top = record (new_shape (codes "oramd")) { is_leaf = false; subcommand_required = true };
  subs = map word_taker (codes "host" ∷ codes "format" ∷ codes "proxy" ∷ codes "loop" ∷ []);
}

-- what the subcommand `name` asks for with its word
abbrev pub request_of : Text → Text → Option Request
request_of name word =
    if bytes_eq name (codes "host") then Some (run Host word)
    else if bytes_eq name (codes "format") then Some (run Format word)
    else if bytes_eq name (codes "proxy") then Some (run Proxy word)
    else if bytes_eq name (codes "loop") then Some (loop word)
    else None

-- what clap's matches of the words ask for
abbrev pub request_in : List Text → Option Request
request_in words = option_and_then (λ (named : Text × Text). request_of named.0 named.1) (named_in program words)
