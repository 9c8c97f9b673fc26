-- Requests and replies as bytes. All numbers are big-endian.
use Rattle.std.specs.Prelude.{◌≢◌, ℕ, ◌<◌, ◌^◌, List, [], ◌++◌}
use Rattle.std.specs.Int.{w16, w32, w64, to_be_bytes}
use Rattle.oram_nbd.specs.Errors.{error_number}
use Rattle.oram_nbd.specs.declared.requests.Command.{Command}
use Rattle.oram_nbd.specs.declared.requests.Command.TheVariants as command
use Rattle.oram_nbd.specs.declared.requests.Request.{Request}
use Rattle.oram_nbd.specs.declared.faults.NbdError.{NbdError}

-- a command's number on the wire (NBD's proto.md, "Request types")
abbrev pub command_code : Command → ℕ
command_code command.Read = 0
command_code command.Write = 1
command_code command.Disconnect = 2
command_code command.Flush = 3
command_code command.Trim = 4
command_code command.WriteZeroes = 6
command_code (command.Other code) = code

-- a command that isn't served has a number of its own
abbrev pub HasOwnCode : Command → Type 0
HasOwnCode (command.Other code) = (code ≢ 0) × (code ≢ 1) × (code ≢ 2) × (code ≢ 3) × (code ≢ 4) × (code ≢ 6)
HasOwnCode _ = Unit {0}

-- the 28 bytes of a request
abbrev pub request_text : Request → List ℕ
request_text r =
    to_be_bytes w32 0x25609513 ++ to_be_bytes w16 r.flags ++ to_be_bytes w16 (command_code r.command)
    ++ to_be_bytes w64 r.cookie ++ to_be_bytes w64 r.offset ++ to_be_bytes w32 r.length

-- a request that can be written: its numbers fit their fields
pub record IsRequest (r : Request) : Type 0 where
  pub own_code : HasOwnCode r.command
  pub code : command_code r.command < 2 ^ 16
  pub flags : r.flags < 2 ^ 16
  pub cookie : r.cookie < 2 ^ 64
  pub offset : r.offset < 2 ^ 64
  pub length : r.length < 2 ^ 32

-- the number of bytes that follow a request
abbrev pub payload_len : Command → ℕ → ℕ
payload_len command.Write n = n
payload_len _ n = 0

-- a reply: the request was carried out, with the bytes of a read, or it was refused with an error
pub data SimpleReply : Type 0 where
  Done : List ℕ → SimpleReply
  Refused : NbdError → SimpleReply

-- the error number of a reply, 0 if the request was carried out
abbrev pub reply_number : SimpleReply → ℕ
reply_number (Done bytes) = 0
reply_number (Refused e) = error_number e

-- the bytes of a read
abbrev pub reply_bytes : SimpleReply → List ℕ
reply_bytes (Done bytes) = bytes
reply_bytes (Refused e) = []

-- the 16 bytes of a reply's head
abbrev pub reply_head : ℕ → SimpleReply → List ℕ
reply_head cookie r = to_be_bytes w32 0x67446698 ++ to_be_bytes w32 (reply_number r) ++ to_be_bytes w64 cookie

abbrev pub reply_text : ℕ → SimpleReply → List ℕ
reply_text cookie r = reply_head cookie r ++ reply_bytes r
