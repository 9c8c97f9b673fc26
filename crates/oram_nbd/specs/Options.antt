-- Options of the handshake and replies to them, as bytes.
use Rattle.std.specs.Prelude.{◌≡◌, ◌≢◌, ℕ, ◌*◌, ◌<◌, ◌^◌, List, ◌++◌, length}
use Rattle.std.specs.Int.{w16, w32, w64, to_be_bytes}
use Rattle.oram_nbd.specs.declared.options.HandshakeOption.{HandshakeOption}
use Rattle.oram_nbd.specs.declared.options.HandshakeOption.TheVariants as option
use Rattle.oram_nbd.specs.declared.options.OptionHead.{OptionHead}
use Rattle.oram_nbd.specs.declared.options.ReplyKind.{ReplyKind}
use Rattle.oram_nbd.specs.declared.options.ReplyKind.TheVariants as kind

-- an option's number on the wire (NBD's proto.md, "Option types")
abbrev pub option_code : HandshakeOption → ℕ
option_code option.ExportName = 1
option_code option.Abort = 2
option_code option.List = 3
option_code option.Info = 6
option_code option.Go = 7
option_code (option.Other code) = code

-- an option that isn't answered has a number of its own
abbrev pub IsOption : HandshakeOption → Type 0
IsOption (option.Other code) = (code ≢ 1) × (code ≢ 2) × (code ≢ 3) × (code ≢ 6) × (code ≢ 7)
IsOption _ = Unit {0}

-- the 16 bytes of an option's head, and the whole option
abbrev pub option_head : HandshakeOption → ℕ → List ℕ
option_head o n = to_be_bytes w64 0x49484156454F5054 ++ to_be_bytes w32 (option_code o) ++ to_be_bytes w32 n

abbrev pub option_text : HandshakeOption → List ℕ → List ℕ
option_text o content = option_head o (length content) ++ content

-- a head that can be written: its numbers fit their fields
pub record IsHead (h : OptionHead) : Type 0 where
  pub known : IsOption h.option
  pub code : option_code h.option < 2 ^ 32
  pub length : h.length < 2 ^ 32

-- the number of a kind of reply to an option; the highest bit marks an error (NBD's proto.md, "Option reply types")
abbrev pub kind_code : ReplyKind → ℕ
kind_code kind.Ack = 1
kind_code kind.Server = 2
kind_code kind.Info = 3
kind_code kind.Unsupported = 0x80000001
kind_code kind.Invalid = 0x80000003
kind_code kind.Unknown = 0x80000006
kind_code kind.TooBig = 0x80000009

-- the 20 bytes of a reply's head, and the whole reply
abbrev pub option_reply_head : HandshakeOption → ReplyKind → ℕ → List ℕ
option_reply_head o k n = to_be_bytes w64 0x0003E889045565A9 ++ to_be_bytes w32 (option_code o) ++ to_be_bytes w32 (kind_code k) ++ to_be_bytes w32 n

abbrev pub option_reply : HandshakeOption → ReplyKind → List ℕ → List ℕ
option_reply o k body = option_reply_head o k (length body) ++ body

-- what INFO and GO carry: a name, and two bytes for each piece of information that is requested
abbrev pub wanted_text : List ℕ → ℕ → List ℕ → List ℕ
wanted_text name count requested = to_be_bytes w32 (length name) ++ name ++ to_be_bytes w16 count ++ requested

pub record Wants (content name : List ℕ) : Type 0 where
  pub count : ℕ
  pub requested : List ℕ
  pub few : count < 2 ^ 16
  pub whole : length requested ≡ 2 * count
  pub short : length name < 2 ^ 32
  pub text : content ≡ wanted_text name count requested

abbrev pub IsMalformed : List ℕ → Type 0
IsMalformed content = (name : List ℕ) → Wants content name → ⊥
