-- Worked rows, by computing.
use Rattle.std.proofs.Common.{◌≡◌, ℕ, List, [], ◌∷◌, ◌++◌, ◌^◌, Some, None, false, refl, arith}
use lib.Count.{ones}
use Rattle.oram_nbd.specs.Service.{after, given, refusal_of, replies_text, AnsweredRequest}
use Rattle.oram_nbd.specs.Messages.{reply_text, request_text}
use Rattle.oram_nbd.specs.Options.{option_text, wanted_text, Wants}
use Rattle.oram_nbd.specs.Handshake.{described, export_text, greeting, list_text, refused}
use Rattle.oram_nbd.specs.Accesses.{calls_of, range, request_calls}
use Rattle.oram_nbd.specs.Connection.{minimum_of, preferred_of}
use Rattle.oram_nbd.specs.declared.faults.NbdError.TheVariants.{Invalid, NoSpace}
use Rattle.oram_nbd.specs.declared.options.HandshakeOption.TheVariants as option
use Rattle.oram_nbd.specs.declared.options.ReplyKind.TheVariants as kind
use Rattle.oram_nbd.specs.Messages.SimpleReply.{Done, Refused}
use Rattle.oram_nbd.specs.declared.requests.Command.{Command}
use Rattle.oram_nbd.specs.declared.requests.Command.TheVariants.{Read, Write, Flush, Trim, WriteZeroes, Other}
use Rattle.oram_nbd.specs.declared.requests.Request.{Request}

greeting_row : greeting ≡ 78 ∷ 66 ∷ 68 ∷ 77 ∷ 65 ∷ 71 ∷ 73 ∷ 67 ∷ 73 ∷ 72 ∷ 65 ∷ 86 ∷ 69 ∷ 79 ∷ 80 ∷ 84 ∷ 0 ∷ 3 ∷ []
greeting_row = refl

-- GO for the empty name, which asks for the sizes of requests
go_row : option_text option.Go (wanted_text [] 1 (0 ∷ 3 ∷ [])) ≡ 73 ∷ 72 ∷ 65 ∷ 86 ∷ 69 ∷ 79 ∷ 80 ∷ 84 ∷ 0 ∷ 0 ∷ 0 ∷ 7 ∷ 0 ∷ 0 ∷ 0 ∷ 8 ∷ 0 ∷ 0 ∷ 0 ∷ 0 ∷ 0 ∷ 1 ∷ 0 ∷ 3 ∷ []
go_row = refl

wanted_row : Wants (0 ∷ 0 ∷ 0 ∷ 1 ∷ 100 ∷ 0 ∷ 1 ∷ 0 ∷ 3 ∷ []) (100 ∷ [])
wanted_row = record { count = 1; requested = 0 ∷ 3 ∷ []; few = omega arith; whole = refl; short = omega arith; text = refl }

-- its answer: size and flags, sizes of requests, and ACK
described_row : described 1048576 4096 4096 option.Go
    ≡ (0 ∷ 3 ∷ 232 ∷ 137 ∷ 4 ∷ 85 ∷ 101 ∷ 169 ∷ 0 ∷ 0 ∷ 0 ∷ 7 ∷ 0 ∷ 0 ∷ 0 ∷ 3 ∷ 0 ∷ 0 ∷ 0 ∷ 12 ∷ 0 ∷ 0 ∷ 0 ∷ 0 ∷ 0 ∷ 0 ∷ 0 ∷ 16 ∷ 0 ∷ 0 ∷ 0 ∷ 109 ∷ [])
    ++ (0 ∷ 3 ∷ 232 ∷ 137 ∷ 4 ∷ 85 ∷ 101 ∷ 169 ∷ 0 ∷ 0 ∷ 0 ∷ 7 ∷ 0 ∷ 0 ∷ 0 ∷ 3 ∷ 0 ∷ 0 ∷ 0 ∷ 14 ∷ 0 ∷ 3 ∷ 0 ∷ 0 ∷ 16 ∷ 0 ∷ 0 ∷ 0 ∷ 16 ∷ 0 ∷ 2 ∷ 0 ∷ 0 ∷ 0 ∷ [])
    ++ (0 ∷ 3 ∷ 232 ∷ 137 ∷ 4 ∷ 85 ∷ 101 ∷ 169 ∷ 0 ∷ 0 ∷ 0 ∷ 7 ∷ 0 ∷ 0 ∷ 0 ∷ 1 ∷ 0 ∷ 0 ∷ 0 ∷ 0 ∷ [])
described_row = refl

-- an option that isn't served
unsupported_row : refused (option.Other 5) kind.Unsupported ≡ 0 ∷ 3 ∷ 232 ∷ 137 ∷ 4 ∷ 85 ∷ 101 ∷ 169 ∷ 0 ∷ 0 ∷ 0 ∷ 5 ∷ 128 ∷ 0 ∷ 0 ∷ 1 ∷ 0 ∷ 0 ∷ 0 ∷ 0 ∷ []
unsupported_row = refl

-- LIST with something in it
list_row : list_text (100 ∷ []) (7 ∷ []) ≡ refused option.List kind.Invalid
list_row = refl

-- EXPORT_NAME, for a client that wants no zeroes
export_row : export_text 4096 false ≡ 0 ∷ 0 ∷ 0 ∷ 0 ∷ 0 ∷ 0 ∷ 16 ∷ 0 ∷ 0 ∷ 109 ∷ []
export_row = refl

least_row : minimum_of 4096 ∷ minimum_of 16 ∷ minimum_of 131072 ∷ minimum_of 1000 ∷ [] ≡ 4096 ∷ 16 ∷ 1 ∷ 1 ∷ []
unfolding ones
least_row = refl

-- Blocks of four bytes: a part of one block; a range over parts of two; one over three that ends with a block; whole blocks, before a
-- part and after it. The calls are the same for a read, a write and zeroes, and a request of no bytes makes none of its own.
part_row : calls_of 4 (range 1 2 ∷ []) ≡ (0 ∷ []) ∷ (0 ∷ []) ∷ []
part_row = refl

parts_row : calls_of 4 (range 3 2 ∷ range 5 7 ∷ []) ≡ (0 ∷ 1 ∷ []) ∷ (0 ∷ 1 ∷ []) ∷ (1 ∷ []) ∷ (1 ∷ 2 ∷ []) ∷ []
parts_row = refl

among_row : calls_of 4 (range 4 8 ∷ range 0 4 ∷ range 2 1 ∷ range 8 4 ∷ range 0 0 ∷ []) ≡ (1 ∷ 2 ∷ 0 ∷ []) ∷ (0 ∷ []) ∷ (0 ∷ []) ∷ (2 ∷ []) ∷ []
among_row = refl

best_row : preferred_of 512 ∷ preferred_of 16384 ∷ preferred_of 256 ∷ preferred_of 1000 ∷ [] ≡ 512 ∷ 16384 ∷ 4096 ∷ 4096 ∷ []
unfolding ones
best_row = refl

request : Command → ℕ → ℕ → Request
request command offset length = record { command = command; flags = 0; cookie = 258; offset = offset; length = length }

kinds_row : request_calls 4 16 (request Write 1 14 ∷ request Trim 0 4 ∷ request Read 7 0 ∷ []) ≡ request_calls 4 16 (request WriteZeroes 1 14 ∷ request Flush 9 9 ∷ request Write 7 0 ∷ [])
unfolding request
kinds_row = refl

request_row : request_text (request WriteZeroes 512 3) ≡ 37 ∷ 96 ∷ 149 ∷ 19 ∷ 0 ∷ 0 ∷ 0 ∷ 6 ∷ 0 ∷ 0 ∷ 0 ∷ 0 ∷ 0 ∷ 0 ∷ 1 ∷ 2 ∷ 0 ∷ 0 ∷ 0 ∷ 0 ∷ 0 ∷ 0 ∷ 2 ∷ 0 ∷ 0 ∷ 0 ∷ 0 ∷ 3 ∷ []
unfolding request
request_row = refl

reply_rows : reply_text 258 (Done (7 ∷ 8 ∷ [])) ++ reply_text 1 (Refused NoSpace)
    ≡ 103 ∷ 68 ∷ 102 ∷ 152 ∷ 0 ∷ 0 ∷ 0 ∷ 0 ∷ 0 ∷ 0 ∷ 0 ∷ 0 ∷ 0 ∷ 0 ∷ 1 ∷ 2 ∷ 7 ∷ 8 ∷ 103 ∷ 68 ∷ 102 ∷ 152 ∷ 0 ∷ 0 ∷ 0 ∷ 28 ∷ 0 ∷ 0 ∷ 0 ∷ 0 ∷ 0 ∷ 0 ∷ 0 ∷ 1 ∷ []
reply_rows = refl

-- a device of two blocks of four bytes
held : List ℕ
held = 1 ∷ 2 ∷ 3 ∷ 4 ∷ 5 ∷ 6 ∷ 7 ∷ 8 ∷ []

read_row : given Read held 2 4 ≡ 3 ∷ 4 ∷ 5 ∷ 6 ∷ []
unfolding held
read_row = refl

-- a write in a part of each of two blocks
write_row : after Write held 3 2 (9 ∷ 10 ∷ []) ≡ 1 ∷ 2 ∷ 3 ∷ 9 ∷ 10 ∷ 6 ∷ 7 ∷ 8 ∷ []
unfolding held
write_row = refl

-- a trim that covers the second block
trim_row : after Trim held 2 6 [] ≡ held
unfolding held
trim_row = refl

zeroes_row : after WriteZeroes held 1 6 [] ≡ 1 ∷ 0 ∷ 0 ∷ 0 ∷ 0 ∷ 0 ∷ 0 ∷ 8 ∷ []
unfolding held
zeroes_row = refl

-- ranges that go over the end, and one that ends with it
outside_row : refusal_of 8 (request Write 7 2) ∷ refusal_of 8 (request Read 7 2) ∷ refusal_of 8 (request Trim 9 0) ∷ refusal_of 8 (request Write 6 2) ∷ [] ≡ Some NoSpace ∷ Some Invalid ∷ Some Invalid ∷ None ∷ []
unfolding request
outside_row = refl

-- a read of too many bytes, and zeroes of as many; another command; a flush, wherever it is
other_rows : refusal_of (2 ^ 40) (request Read 0 33554433) ∷ refusal_of (2 ^ 40) (request WriteZeroes 0 33554433) ∷ refusal_of 8 (request (Other 5) 0 1) ∷ refusal_of 8 (request Flush 9 9) ∷ [] ≡ Some Invalid ∷ None ∷ Some Invalid ∷ None ∷ []
unfolding request
other_rows = refl

-- a read and its reply, one after the other
answered_read : AnsweredRequest
answered_read = record { request = request Read 0 1; payload = []; reply = Done (9 ∷ []) }

answered_row : replies_text (answered_read ∷ []) ≡ 103 ∷ 68 ∷ 102 ∷ 152 ∷ 0 ∷ 0 ∷ 0 ∷ 0 ∷ 0 ∷ 0 ∷ 0 ∷ 0 ∷ 0 ∷ 0 ∷ 1 ∷ 2 ∷ 9 ∷ []
unfolding answered_read request
answered_row = refl
