-- The command line of oramdisk, by clap's own definitions.
use Rattle.std.specs.Prelude.{◌≡◌, ◌≢◌, ◌⊎◌, ⊤, ℕ, Bool, List, [], ◌∷◌, true, false, Option, Some, None, codes, if◌then◌else◌, option_and_then, string_bytes}
use Rattle.std.specs.Str.{bytes_eq}
use Rattle.clap.specs.Walk.{Row, Rule, Text, first_of}
use Rattle.clap.specs.Simple.{App, Shape, new_rule, new_shape, on_top, subcommand_of}
use Rattle.clap.specs.Words.{new_app}
use Rattle.clap.specs.Kinds.{IsAmong, Kinds}
use Rattle.clap.specs.Faults.{fault_of}
use Rattle.clap.specs.declared.builder.action.ArgAction.TheVariants.{SetTrue}
use Rattle.clap.specs.declared.error.kind.ErrorKind.{ErrorKind}
use Rattle.clap.specs.declared.error.kind.ErrorKind.TheVariants as kind
use Rattle.oram_settings.specs.declared.command_line.NoRequest.{NoRequest}
use Rattle.oram_settings.specs.declared.command_line.NoRequest.TheVariants.{Help, Mistake, OutOfMemory}
use Rattle.oram_settings.specs.declared.command_line.Subcommand.{Subcommand}
use Rattle.oram_settings.specs.declared.command_line.Subcommand.TheVariants.{Check, Export, Format, Host, New, Retry, Serve, Status}

-- what a command line asks for: a host, with a new file of buckets or not; a folder for a disk of a size; or something
-- for a disk, by the file of its settings; of these, an export also names an image
pub data Request : Type 0 where
  host : List ℕ → Bool → Request
  folder : List ℕ → List ℕ → Request
  format : List ℕ → Request
  serve : List ℕ → Request
  status : List ℕ → Bool → Request
  retry : List ℕ → Request
  check : List ℕ → Bool → Request
  export : List ℕ → List ℕ → Bool → Request

-- a request by value, without the places of texts in memory
abbrev pub request_for : Subcommand → Request
request_for (Host name is_new) = host (string_bytes name) is_new
request_for (New name size) = folder (string_bytes name) (string_bytes size)
request_for (Format name) = format (string_bytes name)
request_for (Serve name) = serve (string_bytes name)
request_for (Status name is_json) = status (string_bytes name) is_json
request_for (Retry name) = retry (string_bytes name)
request_for (Check name is_salvage) = check (string_bytes name) is_salvage
request_for (Export name image is_salvage) = export (string_bytes name) (string_bytes image) is_salvage

-- the word that each subcommand takes, which help shows by a name
abbrev pub word_rule : Rule
word_rule = record (new_rule (codes "word")) { value_names = 1; required = true }

-- the subcommand that takes a word, and a size as an option
abbrev pub folder_maker : Shape
folder_maker = record (new_shape (codes "new")) {
  rules = word_rule ∷ record (new_rule (codes "size")) { long = Some (codes "size"); value_names = 1; required = true } ∷ [];
  has_version = true;
}

-- the subcommand that takes a word, and a flag
abbrev pub host_runner : Shape
host_runner = record (new_shape (codes "host")) {
  rules = word_rule ∷ record (new_rule (codes "new")) { long = Some (codes "new"); action = Some SetTrue } ∷ [];
  has_version = true;
}

-- the subcommand that takes a word, and another flag
abbrev pub status_printer : Shape
status_printer = record (new_shape (codes "status")) {
  rules = word_rule ∷ record (new_rule (codes "json")) { long = Some (codes "json"); action = Some SetTrue } ∷ [];
  has_version = true;
}

-- the flag for leaving out what is lost, and the word that names an image
abbrev pub salvage_rule : Rule
salvage_rule = record (new_rule (codes "salvage")) { long = Some (codes "salvage"); action = Some SetTrue }

abbrev pub image_rule : Rule
image_rule = record (new_rule (codes "image")) { value_names = 1; required = true }

-- the subcommand that takes a word, and this flag
abbrev pub checker : Shape
checker = record (new_shape (codes "check")) { rules = word_rule ∷ salvage_rule ∷ []; has_version = true }

-- the subcommand that takes two words, and this flag
abbrev pub exporter : Shape
exporter = record (new_shape (codes "export")) { rules = word_rule ∷ image_rule ∷ salvage_rule ∷ []; has_version = true }

-- a subcommand that takes a word
abbrev pub disk_command : Text → Shape
disk_command name = record (new_shape name) { rules = word_rule ∷ []; has_version = true }

-- the command without its subcommands
abbrev pub bare : App
bare = on_top (λ s. record s { has_version = true; subcommand_required = true }) (new_app (codes "oramdisk"))

-- the command line as clap needs it: one of eight subcommands, with its words, or a request for help or the version
abbrev pub program : App
program = record {
  top = record (new_shape (codes "oramdisk")) { is_leaf = false; has_version = true; subcommand_required = true };
  subs = folder_maker ∷ host_runner ∷ disk_command (codes "format") ∷ disk_command (codes "serve") ∷ status_printer ∷ disk_command (codes "retry") ∷ checker ∷ exporter ∷ [];
}

-- clap has this text for a flag that is given, and another one for a flag that isn't
abbrev pub is_given : Option Text → Bool
is_given (Some text) = bytes_eq text (codes "true")
is_given None = false

-- what a subcommand asks for, by its word, whether the flags for a new file, for JSON and for leaving out what is lost were given, and
-- perhaps a size or an image
abbrev pub request_of : Text → Text → Bool → Bool → Bool → Option Text → Option Text → Option Request
request_of name word is_new is_json is_salvage None None =
    if bytes_eq name (codes "host") then Some (host word is_new)
    else if bytes_eq name (codes "format") then Some (format word)
    else if bytes_eq name (codes "serve") then Some (serve word)
    else if bytes_eq name (codes "status") then Some (status word is_json)
    else if bytes_eq name (codes "retry") then Some (retry word)
    else if bytes_eq name (codes "check") then Some (check word is_salvage)
    else None
request_of name word is_new is_json is_salvage (Some size) None = if bytes_eq name (codes "new") then Some (folder word size) else None
request_of name word is_new is_json is_salvage None (Some image) = if bytes_eq name (codes "export") then Some (export word image is_salvage) else None
request_of name word is_new is_json is_salvage (Some size) (Some image) = None

-- what the matches of a subcommand ask for
abbrev pub request_by : Text × List Row → Option Request
request_by matches =
    option_and_then (λ word. request_of matches.0 word (is_given (first_of (codes "new") matches.1)) (is_given (first_of (codes "json") matches.1))
    (is_given (first_of (codes "salvage") matches.1)) (first_of (codes "size") matches.1) (first_of (codes "image") matches.1)) (first_of (codes "word") matches.1)

-- nothing if clap finds a fault
abbrev pub unless_faulty : Kinds → Option Request → Option Request
unless_faulty [] request = request
unless_faulty (fault ∷ more) request = None

-- what clap's matches of the words ask for
abbrev pub request_in : List Text → Option Request
request_in words = unless_faulty (fault_of program words) (option_and_then request_by (subcommand_of program words))

-- what an error of this kind may become: help, or a mistake
abbrev pub AnswersFault : ErrorKind → NoRequest → Type 0
AnswersFault k (Help text) = (k ≡ kind.DisplayHelp) ⊎ (k ≡ kind.DisplayVersion)
AnswersFault k (Mistake text) = (k ≢ kind.DisplayHelp) × (k ≢ kind.DisplayVersion) × (k ≢ kind.OutOfMemory)
AnswersFault k OutOfMemory = ⊤

-- The outcome of words in which clap finds faults of these kinds. Help comes only if its kind is among them, and a
-- mistake doesn't come if that kind is the only one.
abbrev pub AnswersFaults : Kinds → NoRequest → Type 0
AnswersFaults kinds (Help text) = IsAmong kind.DisplayHelp kinds ⊎ IsAmong kind.DisplayVersion kinds
AnswersFaults kinds (Mistake text) = (kinds ≢ kind.DisplayHelp ∷ []) × (kinds ≢ kind.DisplayVersion ∷ [])
AnswersFaults kinds OutOfMemory = ⊤
