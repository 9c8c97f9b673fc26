-- What is read and written in a handshake, up to its end or a fault.
use Rattle.std.specs.Prelude.{◌≡◌, ◌≢◌, ◌⊎◌, ℕ, ◌<◌, ◌≤◌, ◌^◌, List, [], ◌++◌, length, take, Bool, Option, Some, None, All}
use Rattle.std.specs.Int.{w32, to_be_bytes}
use Rattle.std.specs.List.{flat_map}
use Rattle.std.specs.Io.KnownBytes.{Appends, Consumes, IsAtEnd}
use Rattle.oram_nbd.specs.Streams.{ComesShort, IsBegunText, Streams}
use Rattle.oram_nbd.specs.Options.{option_code, option_head, option_text, IsHead, IsOption}
use Rattle.oram_nbd.specs.Handshake.{greeting, refused, Answers, ExportValue, AreClientFlags, IsNamed}
use Rattle.oram_nbd.specs.declared.TheConstants.{LONGEST_OPTION, MOST_OPTIONS}
use Rattle.oram_nbd.specs.declared.faults.NbdFault.{NbdFault}
use Rattle.oram_nbd.specs.declared.faults.NbdFault.TheVariants.{Read, Truncated, Magic, Write, UnknownFlags, UnknownExport, TooManyOptions, OutOfMemory, Stopped}
use Rattle.oram_nbd.specs.declared.handshake.Agreement.{Agreement}
use Rattle.oram_nbd.specs.declared.handshake.Agreement.TheVariants.{Gone}
use Rattle.oram_nbd.specs.declared.options.HandshakeOption.{HandshakeOption}
use Rattle.oram_nbd.specs.declared.options.HandshakeOption.TheVariants.{ExportName}
use Rattle.oram_nbd.specs.declared.options.OptionHead.{OptionHead}
use Rattle.oram_nbd.specs.declared.options.ReplyKind.TheVariants.{TooBig}

-- an option, the bytes that it carries, and the answer to it
pub record AnsweredOption : Type 0 where
  pub option : HandshakeOption
  pub content : List ℕ
  pub answer : List ℕ

-- what the client sent
abbrev pub asking : AnsweredOption → List ℕ
asking x = option_text x.option x.content

abbrev pub options_text : List AnsweredOption → List ℕ
options_text xs = flat_map asking xs

abbrev pub answers_to_options : List AnsweredOption → List ℕ
answers_to_options xs = flat_map (λ x. x.answer) xs

-- less than a whole option: some of its 16 bytes, or all of these and some of the bytes that it carries
abbrev pub IsUnfinishedOption : List ℕ → Type 0
IsUnfinishedOption part =
    (length part < 16)
    ⊎ ((h : OptionHead) × (bytes : List ℕ) × IsHead h × (length bytes < h.length) × (part ≡ option_head h.option h.length ++ bytes))

-- 16 bytes that aren't the head of an option
abbrev pub IsNoOption : List ℕ → Type 0
IsNoOption part = (length part ≡ 16) × ((h : OptionHead) → IsHead h → part ≡ option_head h.option h.length → ⊥)

-- none of the bytes that an option carries, or all of them
abbrev pub IsNoneOrAll : ℕ → List ℕ → Type 0
IsNoneOrAll n content = (content ≡ []) ⊎ (length content ≡ n)

-- an option for which there was no memory: its 16 bytes alone, or all of it
abbrev pub IsUnanswered : List ℕ → Type 0
IsUnanswered part =
    (h : OptionHead) × (content : List ℕ) × IsHead h × IsNoneOrAll h.length content × (part ≡ option_head h.option h.length ++ content)

-- What is known if the handshake stops before the client's flags are known to be good.
abbrev pub StopsGreeting : NbdFault → Streams → Streams → Type 0
StopsGreeting Read before after = ComesShort 0 4 Read before.unread after.unread × Appends before.written after.written greeting
StopsGreeting Truncated before after = ComesShort 0 4 Truncated before.unread after.unread × Appends before.written after.written greeting
StopsGreeting Write before after = (after.unread ≡ before.unread) × IsBegunText before.written after.written greeting
StopsGreeting UnknownFlags before after =
    (flags : ℕ) × (flags < 2 ^ 32) × ((zeroes : Bool) → AreClientFlags flags zeroes → ⊥)
    × Consumes before.unread after.unread (to_be_bytes w32 flags) × Appends before.written after.written greeting
StopsGreeting Magic before after = ⊥
StopsGreeting UnknownExport before after = ⊥
StopsGreeting TooManyOptions before after = ⊥
StopsGreeting OutOfMemory before after = ⊥
StopsGreeting Stopped before after = ⊥

-- for this export
module _ (e : ExportValue) where
  -- An option that carries too much is refused, whichever it is, except EXPORT_NAME: the client would take any reply to
  -- that one for the size of the export.
  abbrev pub IsAnswered : Bool → HandshakeOption → List ℕ → List ℕ → Option Agreement → Type 0
  IsAnswered zeroes o content text ends =
      ((length content ≤ LONGEST_OPTION) × Answers e zeroes o content text ends)
      ⊎ ((LONGEST_OPTION < length content) × (o ≢ ExportName) × (text ≡ refused o TooBig) × (ends ≡ None))

  -- the option is answered so, and ends the handshake in this way, or the handshake goes on
  pub record IsAnsweredOption (zeroes : Bool) (x : AnsweredOption) (ends : Option Agreement) : Type 0 where
    pub known : IsOption x.option
    pub code : option_code x.option < 2 ^ 32
    pub short : length x.content < 2 ^ 32
    pub answer : IsAnswered zeroes x.option x.content x.answer ends

  -- What is known if the handshake stops at an option whose head was read.
  abbrev pub StopsAt : Bool → OptionHead → NbdFault → Streams → Streams → Type 0
  StopsAt zeroes h Read before after = ComesShort 0 h.length Read before.unread after.unread × Appends before.written after.written []
  StopsAt zeroes h Truncated before after = ComesShort 0 h.length Truncated before.unread after.unread × Appends before.written after.written []
  StopsAt zeroes h Write before after =
      (x : AnsweredOption) × (ends : Option Agreement) × (x.option ≡ h.option) × (length x.content ≡ h.length) × IsAnsweredOption zeroes x ends
      × Consumes before.unread after.unread x.content × IsBegunText before.written after.written x.answer
  StopsAt zeroes h UnknownExport before after =
      (content : List ℕ) × (h.option ≡ ExportName) × (length content ≡ h.length) × (IsNamed e.name content → ⊥)
      × Consumes before.unread after.unread content × Appends before.written after.written []
  StopsAt zeroes h OutOfMemory before after =
      (content : List ℕ) × IsNoneOrAll h.length content × Consumes before.unread after.unread content × Appends before.written after.written []
  StopsAt zeroes h Magic before after = ⊥
  StopsAt zeroes h UnknownFlags before after = ⊥
  StopsAt zeroes h TooManyOptions before after = ⊥
  StopsAt zeroes h Stopped before after = ⊥

  -- The client's flags were read, and options were answered that don't end the handshake. Then `part` was read, and
  -- `more` was written.
  pub record HasNegotiated (zeroes : Bool) (xs : List AnsweredOption) (part more : List ℕ) (before after : Streams) : Type 0 where
    pub flags : ℕ
    pub fixed : AreClientFlags flags zeroes
    pub each : All (λ x. IsAnsweredOption zeroes x None) xs
    pub read : Consumes before.unread after.unread (to_be_bytes w32 flags ++ options_text xs ++ part)
    pub wrote : Appends before.written after.written (greeting ++ answers_to_options xs ++ more)

  -- The handshake ended in this agreement: by a last option, or because the input ended where an option was due.
  pub record HasAgreed (agreement : Agreement) (before after : Streams) : Type 0 where
    pub zeroes : Bool
    pub xs : List AnsweredOption
    pub ended : ((agreement ≡ Gone) × IsAtEnd after.unread × HasNegotiated zeroes xs [] [] before after)
        ⊎ ((x : AnsweredOption) × IsAnsweredOption zeroes x (Some agreement) × HasNegotiated zeroes xs (asking x) x.answer before after)

  -- What is known if the handshake stops at the options.
  abbrev pub StopsChoosing : NbdFault → Streams → Streams → Type 0
  StopsChoosing Read before after =
      (zeroes : Bool) × (xs : List AnsweredOption) × (part : List ℕ) × HasNegotiated zeroes xs part [] before after × IsUnfinishedOption part
  StopsChoosing Truncated before after =
      (zeroes : Bool) × (xs : List AnsweredOption) × (part : List ℕ) × HasNegotiated zeroes xs part [] before after
      × IsUnfinishedOption part × (0 < length part) × IsAtEnd after.unread
  StopsChoosing Magic before after =
      (zeroes : Bool) × (xs : List AnsweredOption) × (part : List ℕ) × HasNegotiated zeroes xs part [] before after × IsNoOption part
  StopsChoosing Write before after =
      (zeroes : Bool) × (xs : List AnsweredOption) × (x : AnsweredOption) × (ends : Option Agreement) × (count : ℕ)
      × HasNegotiated zeroes xs (asking x) (take count x.answer) before after × IsAnsweredOption zeroes x ends
  StopsChoosing UnknownExport before after =
      (zeroes : Bool) × (xs : List AnsweredOption) × (content : List ℕ)
      × HasNegotiated zeroes xs (option_text ExportName content) [] before after × (IsNamed e.name content → ⊥)
  StopsChoosing TooManyOptions before after =
      (zeroes : Bool) × (xs : List AnsweredOption) × HasNegotiated zeroes xs [] [] before after × (length xs ≡ MOST_OPTIONS)
  StopsChoosing OutOfMemory before after =
      (zeroes : Bool) × (xs : List AnsweredOption) × (part : List ℕ) × HasNegotiated zeroes xs part [] before after × IsUnanswered part
  StopsChoosing UnknownFlags before after = ⊥
  StopsChoosing Stopped before after = ⊥

  abbrev pub StopsNegotiating : NbdFault → Streams → Streams → Type 0
  StopsNegotiating fault before after = StopsGreeting fault before after ⊎ StopsChoosing fault before after
