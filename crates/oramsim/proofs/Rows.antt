-- Worked lines and texts.
use Rattle.std.proofs.Common.{◌≡◌, [], ◌∷◌, Some, None, refl}
use Rattle.std.specs.Prelude.{codes}
use Rattle.std.specs.Fmt.{digits}
use Rattle.hex.proofs.OnLiterals.{hex_on_literals}
use Rattle.hex.specs.Hex.{encode_with}
use Rattle.oram_semantics.specs.declared.events.Command.TheVariants.{Read, Write, Discard}
use Rattle.oram_semantics.specs.declared.events.Event.TheVariants as event
use Rattle.oram_semantics.specs.declared.events.Note.TheVariants.{Accepted, Refused, FailedNow, Resent}
use Rattle.oram_semantics.specs.declared.events.Reason.TheVariants.{Malformed, Tampered}
use Rattle.oram_semantics.specs.declared.events.Refusal.TheVariants.{Exhausted}
use Rattle.oram_semantics.specs.declared.events.ReplyBody.TheVariants.{Data}
use Rattle.oramsim.specs.Printer.{note_text, reply_text, send_text, error_text}
use Rattle.oramsim.specs.Lines.{lines_of, line_of, line_from, device_from, addressed, read_from, discard_from, write_from, raw_from, tamper_from, swap_from, named_line, number_below, numbers_below, hex_bytes}
use Rattle.oramsim.specs.declared.line.Line.TheVariants.{Device, CoreEvent, Drain, Reopen, Tamper, Swap, Restore}

lines_ended : lines_of (97 ∷ 10 ∷ 10 ∷ 98 ∷ 10 ∷ []) ≡ (97 ∷ []) ∷ [] ∷ (98 ∷ []) ∷ []
lines_ended = refl

last_lacks_its_end : lines_of (97 ∷ 13 ∷ 10 ∷ 98 ∷ []) ≡ (97 ∷ 13 ∷ []) ∷ (98 ∷ []) ∷ []
last_lacks_its_end = refl

device_line : line_of (codes "device 8 16 4 8 100") ≡ Some (Device 8 16 4 8 100)
unfolding line_from device_from number_below
device_line = refl

read_line : line_of (codes "read 1 0 18446744073709551615 0") ≡ Some (CoreEvent (event.Submit 1 (Read 0) (18446744073709551615 ∷ 0 ∷ [])))
unfolding line_from read_from addressed number_below numbers_below
read_line = refl

word_too_large : line_of (codes "read 1 0 18446744073709551616") ≡ None
unfolding line_from read_from addressed number_below numbers_below
word_too_large = refl

address_too_large : line_of (codes "read 1 4294967296") ≡ None
unfolding line_from read_from addressed number_below numbers_below
address_too_large = refl

no_words : line_of (codes "read 1 5") ≡ Some (CoreEvent (event.Submit 1 (Read 5) []))
unfolding line_from read_from addressed number_below numbers_below
no_words = refl

leading_zero : line_of (codes "read 01 5") ≡ None
unfolding line_from read_from addressed number_below numbers_below
leading_zero = refl

plus_sign : line_of (codes "read +1 5") ≡ None
unfolding line_from read_from addressed number_below numbers_below
plus_sign = refl

double_space : line_of (codes "read 1  5") ≡ None
unfolding line_from read_from addressed number_below numbers_below
double_space = refl

space_at_the_end : line_of (codes "drain ") ≡ None
unfolding line_from named_line
space_at_the_end = refl

drain_line : line_of (codes "drain") ≡ Some Drain
unfolding line_from named_line
drain_line = refl

discard_line : line_of (codes "discard 3 5 2 4") ≡ Some (CoreEvent (event.Submit 3 (Discard 5) (2 ∷ 4 ∷ [])))
unfolding line_from discard_from addressed number_below numbers_below
discard_line = refl

discard_of_nothing : line_of (codes "discard 3") ≡ None
unfolding line_from discard_from addressed
discard_of_nothing = refl

write_line : line_of (codes "write 2 3 0aFf 7") ≡ Some (CoreEvent (event.Submit 2 (Write 3 (10 ∷ 255 ∷ [])) (7 ∷ [])))
unfolding line_from write_from number_below numbers_below hex_bytes hex_on_literals
write_line = refl

odd_digits : line_of (codes "write 2 3 0aF 7") ≡ None
unfolding line_from write_from number_below numbers_below hex_bytes hex_on_literals
odd_digits = refl

raw_line : line_of (codes "raw 8106") ≡ Some (CoreEvent (event.Answer (129 ∷ 6 ∷ [])))
unfolding line_from raw_from hex_bytes hex_on_literals
raw_line = refl

raw_of_nothing : line_of (codes "raw") ≡ None
unfolding line_from raw_from hex_bytes hex_on_literals
raw_of_nothing = refl

tamper_line : line_of (codes "tamper 0 13 18446744073709551615") ≡ Some (Tamper 0 13 18446744073709551615)
unfolding line_from tamper_from number_below
tamper_line = refl

swap_line : line_of (codes "swap 2 0 1 18446744073709551615") ≡ Some (Swap 2 0 1 18446744073709551615)
unfolding line_from swap_from number_below
swap_line = refl

swap_of_one : line_of (codes "swap 2 0 1") ≡ None
unfolding line_from swap_from
swap_of_one = refl

swap_of_more : line_of (codes "swap 2 0 1 0 0") ≡ None
unfolding line_from swap_from
swap_of_more = refl

lost_line : line_of (codes "lost") ≡ Some (CoreEvent event.Lost)
unfolding line_from named_line
lost_line = refl

reopen_line : line_of (codes "reopen") ≡ Some Reopen
unfolding line_from named_line
reopen_line = refl

reopen_of_something : line_of (codes "reopen 1") ≡ None
unfolding line_from named_line
reopen_of_something = refl

restore_line : line_of (codes "restore") ≡ Some Restore
unfolding line_from named_line
restore_line = refl

restore_of_something : line_of (codes "restore 1") ≡ None
unfolding line_from named_line
restore_of_something = refl

no_digits : line_of (codes "write 2 3") ≡ None
unfolding line_from write_from
no_digits = refl

exhausted_text : note_text (Refused Exhausted) ≡ codes "refused 5 exhausted\n"
exhausted_text = refl

failed_text : note_text (FailedNow Malformed) ≡ codes "failed malformed\n"
failed_text = refl

tampered_text : note_text (FailedNow (Tampered 0 3)) ≡ codes "failed tampered 0 3\n"
unfolding digits
tampered_text = refl

resent_text : note_text Resent ≡ []
resent_text = refl

accepted_text : note_text (Accepted 10) ≡ codes "accepted 10\n"
unfolding digits
accepted_text = refl

fetch_text : send_text (1 ∷ 0 ∷ 0 ∷ 0 ∷ 1 ∷ 2 ∷ []) ≡ codes "fetch 0 258\n"
unfolding digits
fetch_text = refl

data_text : reply_text (record { session = 7; ticket = 0; body = Data (10 ∷ 255 ∷ []) }) ≡ codes "reply 7 0 data 0aff\n"
unfolding digits encode_with
data_text = refl

line_text : error_text 12 ≡ codes "error line 12\n"
unfolding digits
line_text = refl
