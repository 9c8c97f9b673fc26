-- What the lines of a script say.
use Rattle.std.specs.Prelude.{ℕ, ◌^◌, ◌==◌, ◌&&◌, not, nat_lt, Bool, if◌then◌else◌, List, [], ◌∷◌, length, slice_index, codes, Option, Some, None, option_and_then}
use Rattle.std.specs.List.{slice_split, list_all}
use Rattle.std.specs.Char.{is_ascii_digit}
use Rattle.std.specs.Result.{result_ok}
use Rattle.std.specs.Str.{bytes_eq}
use Rattle.std.specs.Str.Parse.{digits_value}
use Rattle.hex.specs.Hex.{decode_of}
use Rattle.oram_semantics.specs.declared.events.Command.TheVariants.{Read, Write, Discard}
use Rattle.oram_semantics.specs.declared.events.Event.TheVariants as event
use Rattle.oramsim.specs.declared.line.Line.{Line}
use Rattle.oramsim.specs.declared.line.Line.TheVariants.{Device, CoreEvent, Answer, Drain, Late, Reopen, Tamper, Swap, Snapshot, Restore}

infixl 10 ◌>>=◌
abbrev pub ◌>>=◌ : {A B : Type 0} → Option A → (A → Option B) → Option B
o >>= f = option_and_then f o

-- The lines of a text: each ends with the byte 10, which the last may lack.
abbrev pub onto_line : ℕ → List (List ℕ) → List (List ℕ)
onto_line x [] = (x ∷ []) ∷ []
onto_line x (line ∷ lines) = (x ∷ line) ∷ lines

abbrev pub lines_of : List ℕ → List (List ℕ)
lines_of [] = []
lines_of (x ∷ xs) = if x == 10 then [] ∷ lines_of xs else onto_line x (lines_of xs)

-- the fields of a line, which one space separates
abbrev pub fields_of : List ℕ → List (List ℕ)
fields_of line = slice_split (λ b. b == 32) line

-- the fields of the rest of a line, if there is any
abbrev pub fields_left : Option (List ℕ) → List (List ℕ)
fields_left None = []
fields_left (Some rest) = fields_of rest

abbrev pub has_leading_zero : List ℕ → Bool
has_leading_zero bytes = nat_lt 1 (length bytes) && slice_index bytes 0 == 48

-- a numeral: decimal digits, without leading zeros
abbrev pub is_numeral : List ℕ → Bool
is_numeral bytes = nat_lt 0 (length bytes) && not (has_leading_zero bytes) && list_all is_ascii_digit bytes

-- the number in a field, if it is below the limit
unfoldable pub number_below : ℕ → List ℕ → Option ℕ
number_below limit bytes =
    if is_numeral bytes && nat_lt (digits_value 10 bytes) limit then Some (digits_value 10 bytes) else None

-- the numbers in these fields, each below the limit
unfoldable pub numbers_below : ℕ → List (List ℕ) → Option (List ℕ)
numbers_below limit [] = Some []
numbers_below limit (field ∷ fields) = do
  number ← number_below limit field
  numbers ← numbers_below limit fields
  Some (number ∷ numbers)

-- the bytes that a field gives as pairs of hexadecimal digits, at least one
unfoldable pub hex_bytes : List ℕ → Option (List ℕ)
hex_bytes bytes = if length bytes == 0 then None else result_ok (decode_of bytes)

unfoldable pub device_from : List (List ℕ) → Option Line
device_from (n ∷ b ∷ z ∷ t ∷ l ∷ []) = do
  blocks ← number_below (2 ^ 64) n
  block_bytes ← number_below (2 ^ 64) b
  slots ← number_below (2 ^ 64) z
  top ← number_below (2 ^ 64) t
  lifetime ← number_below (2 ^ 64) l
  Some (Device blocks block_bytes slots top lifetime)
device_from _ = None

-- a session, an address and words: the fields of a command that brings no data
unfoldable pub addressed : List (List ℕ) → Option (ℕ × ℕ × List ℕ)
addressed (s ∷ a ∷ w) = do
  session ← number_below (2 ^ 32) s
  address ← number_below (2 ^ 32) a
  words ← numbers_below (2 ^ 64) w
  Some (session, address, words)
addressed _ = None

unfoldable pub read_from : List (List ℕ) → Option Line
read_from fields = do
  submitted ← addressed fields
  Some (CoreEvent (event.Submit submitted.0 (Read submitted.1) submitted.2))

unfoldable pub discard_from : List (List ℕ) → Option Line
discard_from fields = do
  submitted ← addressed fields
  Some (CoreEvent (event.Submit submitted.0 (Discard submitted.1) submitted.2))

unfoldable pub write_from : List (List ℕ) → Option Line
write_from (s ∷ a ∷ h ∷ w) = do
  session ← number_below (2 ^ 32) s
  address ← number_below (2 ^ 32) a
  bytes ← hex_bytes h
  words ← numbers_below (2 ^ 64) w
  Some (CoreEvent (event.Submit session (Write address bytes) words))
write_from _ = None

unfoldable pub raw_from : List (List ℕ) → Option Line
raw_from (h ∷ []) = do
  bytes ← hex_bytes h
  Some (CoreEvent (event.Answer bytes))
raw_from _ = None

unfoldable pub tamper_from : List (List ℕ) → Option Line
tamper_from (t ∷ n ∷ o ∷ []) = do
  tree ← number_below (2 ^ 64) t
  node ← number_below (2 ^ 64) n
  offset ← number_below (2 ^ 64) o
  Some (Tamper tree node offset)
tamper_from _ = None

unfoldable pub swap_from : List (List ℕ) → Option Line
swap_from (ta ∷ na ∷ tb ∷ nb ∷ []) = do
  tree_a ← number_below (2 ^ 64) ta
  node_a ← number_below (2 ^ 64) na
  tree_b ← number_below (2 ^ 64) tb
  node_b ← number_below (2 ^ 64) nb
  Some (Swap tree_a node_a tree_b node_b)
swap_from _ = None

-- the line that consists of this word alone
unfoldable pub named_line : List ℕ → Option Line
named_line word =
    if bytes_eq word (codes "answer") then Some Answer
    else if bytes_eq word (codes "drain") then Some Drain
    else if bytes_eq word (codes "lost") then Some (CoreEvent event.Lost)
    else if bytes_eq word (codes "late") then Some Late
    else if bytes_eq word (codes "retry") then Some (CoreEvent event.Retry)
    else if bytes_eq word (codes "reopen") then Some Reopen
    else if bytes_eq word (codes "snapshot") then Some Snapshot
    else if bytes_eq word (codes "restore") then Some Restore
    else None

-- a line of one word
abbrev pub alone : List ℕ → List (List ℕ) → Option Line
alone word [] = named_line word
alone word (field ∷ fields) = None

-- the line that a word and the fields after it make
unfoldable pub line_from : List ℕ → List (List ℕ) → Option Line
line_from word fields =
    if bytes_eq word (codes "device") then device_from fields
    else if bytes_eq word (codes "read") then read_from fields
    else if bytes_eq word (codes "write") then write_from fields
    else if bytes_eq word (codes "discard") then discard_from fields
    else if bytes_eq word (codes "raw") then raw_from fields
    else if bytes_eq word (codes "tamper") then tamper_from fields
    else if bytes_eq word (codes "swap") then swap_from fields
    else alone word fields

abbrev pub line_of_fields : List (List ℕ) → Option Line
line_of_fields [] = None
line_of_fields (word ∷ fields) = line_from word fields

-- the line of a script that these bytes make, if they make one
abbrev pub line_of : List ℕ → Option Line
line_of bytes = line_of_fields (fields_of bytes)
