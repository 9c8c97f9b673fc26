-- The answers of a server to the options of a handshake.
use Rattle.std.specs.Prelude.{◌≡◌, ◌⊎◌, ℕ, List, [], ◌∷◌, ◌++◌, length, Bool, true, false, Option, Some, None, replicate, if◌then◌else◌}
use Rattle.std.specs.Int.{w32, w64, to_be_bytes}
use Rattle.oram_nbd.specs.Options.{option_reply, IsMalformed, Wants}
use Rattle.oram_nbd.specs.declared.TheConstants.{LONGEST_PAYLOAD}
use Rattle.oram_nbd.specs.declared.handshake.Agreement.{Agreement}
use Rattle.oram_nbd.specs.declared.handshake.Agreement.TheVariants.{Transmission, Gone}
use Rattle.oram_nbd.specs.declared.options.HandshakeOption.{HandshakeOption}
use Rattle.oram_nbd.specs.declared.options.HandshakeOption.TheVariants as option
use Rattle.oram_nbd.specs.declared.options.ReplyKind.{ReplyKind}
use Rattle.oram_nbd.specs.declared.options.ReplyKind.TheVariants as kind

-- what a server says about its export: its name, its number of bytes, and the least and the preferred number of bytes of a
-- request
pub record ExportValue : Type 0 where
  pub name : List ℕ
  pub size : ℕ
  pub minimum : ℕ
  pub preferred : ℕ

abbrev pub export_value : List ℕ → ℕ → ℕ → ℕ → ExportValue
export_value name size minimum preferred = record { name = name; size = size; minimum = minimum; preferred = preferred }

-- the letters of a server, and its flags: it speaks the fixed newstyle, and supports clients that want no zeroes
abbrev pub greeting : List ℕ
greeting = to_be_bytes w64 0x4E42444D41474943 ++ to_be_bytes w64 0x49484156454F5054 ++ (0 ∷ 3 ∷ [])

-- The flags of a client that is served: bit 0 says that it speaks the fixed newstyle, and bit 1 that it wants no zeroes after the
-- answer to EXPORT_NAME. A client may leave out either (NBD's proto.md, "Handshake phase").
abbrev pub AreClientFlags : ℕ → Bool → Type 0
AreClientFlags flags true = (flags ≡ 0) ⊎ (flags ≡ 1)
AreClientFlags flags false = (flags ≡ 2) ⊎ (flags ≡ 3)

-- the flags of the export: it has flags, and serves FLUSH, FUA, TRIM and WRITE_ZEROES
abbrev pub export_flags : List ℕ
export_flags = 0 ∷ 109 ∷ []

abbrev pub size_text : ℕ → List ℕ
size_text size = (0 ∷ 0 ∷ []) ++ to_be_bytes w64 size ++ export_flags

-- the sizes of requests: at least `minimum` bytes, preferably `preferred` bytes, and at most as many as one may have
abbrev pub block_text : ℕ → ℕ → List ℕ
block_text minimum preferred = (0 ∷ 3 ∷ []) ++ to_be_bytes w32 minimum ++ to_be_bytes w32 preferred ++ to_be_bytes w32 LONGEST_PAYLOAD

-- the answer to EXPORT_NAME
abbrev pub export_text : ℕ → Bool → List ℕ
export_text size zeroes = to_be_bytes w64 size ++ export_flags ++ (if zeroes then replicate 124 0 else [])

abbrev pub refused : HandshakeOption → ReplyKind → List ℕ
refused o k = option_reply o k []

-- the empty name is that of the only export
abbrev pub IsNamed : List ℕ → List ℕ → Type 0
IsNamed name wanted = (wanted ≡ []) ⊎ (wanted ≡ name)

-- the description of an export of `size` bytes, for requests of at least `minimum` bytes and preferably of `preferred` bytes
abbrev pub described : ℕ → ℕ → ℕ → HandshakeOption → List ℕ
described size minimum preferred o = option_reply o kind.Info (size_text size) ++ option_reply o kind.Info (block_text minimum preferred) ++ option_reply o kind.Ack []

-- the answer to INFO and GO, and whether they ask for the export
abbrev pub Describes : ExportValue → HandshakeOption → List ℕ → List ℕ → Bool → Type 0
Describes e o content text true = (wanted : List ℕ) × Wants content wanted × IsNamed e.name wanted × (text ≡ described e.size e.minimum e.preferred o)
Describes e o content text false =
    (IsMalformed content × (text ≡ refused o kind.Invalid))
    ⊎ ((wanted : List ℕ) × Wants content wanted × (IsNamed e.name wanted → ⊥) × (text ≡ refused o kind.Unknown))

abbrev pub name_text : List ℕ → List ℕ
name_text name = to_be_bytes w32 (length name) ++ name

-- the answer to LIST, which carries nothing
abbrev pub list_text : List ℕ → List ℕ → List ℕ
list_text name [] = option_reply option.List kind.Server (name_text name) ++ option_reply option.List kind.Ack []
list_text name (b ∷ content) = refused option.List kind.Invalid

-- for this export; `zeroes` if the client wants zeroes
module _ (e : ExportValue) (zeroes : Bool) where
  -- The answer to each option, and how it ends the handshake, if it does.
  abbrev pub Answers : HandshakeOption → List ℕ → List ℕ → Option Agreement → Type 0
  Answers option.ExportName content text ends = IsNamed e.name content × (text ≡ export_text e.size zeroes) × (ends ≡ Some Transmission)
  Answers option.Abort content text ends = (text ≡ refused option.Abort kind.Ack) × (ends ≡ Some Gone)
  Answers option.List content text ends = (text ≡ list_text e.name content) × (ends ≡ None)
  Answers option.Info content text ends = (found : Bool) × Describes e option.Info content text found × (ends ≡ None)
  Answers option.Go content text ends = (found : Bool) × Describes e option.Go content text found × (ends ≡ (if found then Some Transmission else None))
  Answers (option.Other code) content text ends = (text ≡ refused (option.Other code) kind.Unsupported) × (ends ≡ None)
