-- Messages are read in one way.
use Rattle.std.proofs.Common.{◌≡◌, ℕ, zero, suc, List, take, drop, refl, sym, ap, ◌∙◌}
use Rattle.std.specs.Int.{w16, w32, w64, from_be_bytes}
use Rattle.std.proofs.lemmas.Nat.{from_be_bytes-to_be_bytes_2, from_be_bytes-to_be_bytes_4, from_be_bytes-to_be_bytes_8}
use Rattle.oram_nbd.specs.Messages.{command_code, request_text, IsRequest, HasOwnCode}
use Rattle.oram_nbd.specs.Options.{option_code, option_head, IsHead, IsOption}
use Rattle.oram_nbd.specs.declared.options.HandshakeOption.{HandshakeOption}
use Rattle.oram_nbd.specs.declared.options.HandshakeOption.TheVariants as option
use Rattle.oram_nbd.specs.declared.options.OptionHead.{OptionHead}
use Rattle.oram_nbd.specs.declared.requests.Command.{Command}
use Rattle.oram_nbd.specs.declared.requests.Command.TheVariants.{Read, Write, Disconnect, Flush, Trim, WriteZeroes, Other}
use Rattle.oram_nbd.specs.declared.requests.Request.{Request}

abbrev command_of : ℕ → Command
command_of zero = Read
command_of (suc zero) = Write
command_of (suc (suc zero)) = Disconnect
command_of (suc (suc (suc zero))) = Flush
command_of (suc (suc (suc (suc zero)))) = Trim
command_of (suc (suc (suc (suc (suc zero))))) = Other 5
command_of (suc (suc (suc (suc (suc (suc zero)))))) = WriteZeroes
command_of (suc (suc (suc (suc (suc (suc (suc n))))))) = Other (suc (suc (suc (suc (suc (suc (suc n)))))))

command_is : (c : Command) → HasOwnCode c → c ≡ command_of (command_code c)
command_is Read h = refl
command_is Write h = refl
command_is Disconnect h = refl
command_is Flush h = refl
command_is Trim h = refl
command_is WriteZeroes h = refl
command_is (Other zero) h = absurd (h.0 refl)
command_is (Other (suc zero)) h = absurd (h.1 refl)
command_is (Other (suc (suc zero))) h = absurd (h.2 refl)
command_is (Other (suc (suc (suc zero)))) h = absurd (h.3 refl)
command_is (Other (suc (suc (suc (suc zero))))) h = absurd (h.4 refl)
command_is (Other (suc (suc (suc (suc (suc zero)))))) h = refl
command_is (Other (suc (suc (suc (suc (suc (suc zero))))))) h = absurd (h.5 refl)
command_is (Other (suc (suc (suc (suc (suc (suc (suc n)))))))) h = refl

same_command : (c d : Command) → HasOwnCode c → HasOwnCode d → command_code c ≡ command_code d → c ≡ d
same_command c d h k e = command_is c h ∙ ap command_of e ∙ sym (command_is d k)

abbrev at_2 : ℕ → List ℕ → ℕ
at_2 i text = from_be_bytes w16 (take 2 (drop i text))

abbrev at_4 : ℕ → List ℕ → ℕ
at_4 i text = from_be_bytes w32 (take 4 (drop i text))

abbrev at_8 : ℕ → List ℕ → ℕ
at_8 i text = from_be_bytes w64 (take 8 (drop i text))

pub same_request : (r q : Request) → IsRequest r → IsRequest q → request_text r ≡ request_text q → r ≡ q
same_request r q h k e =
    let flags : r.flags ≡ q.flags = sym (from_be_bytes-to_be_bytes_2 r.flags h.flags) ∙ ap (at_2 4) e ∙ from_be_bytes-to_be_bytes_2 q.flags k.flags in
    let code : command_code r.command ≡ command_code q.command = sym (from_be_bytes-to_be_bytes_2 (command_code r.command) h.code) ∙ ap (at_2 6) e ∙ from_be_bytes-to_be_bytes_2 (command_code q.command) k.code in
    let cookie : r.cookie ≡ q.cookie = sym (from_be_bytes-to_be_bytes_8 r.cookie h.cookie) ∙ ap (at_8 8) e ∙ from_be_bytes-to_be_bytes_8 q.cookie k.cookie in
    let offset : r.offset ≡ q.offset = sym (from_be_bytes-to_be_bytes_8 r.offset h.offset) ∙ ap (at_8 16) e ∙ from_be_bytes-to_be_bytes_8 q.offset k.offset in
    let length : r.length ≡ q.length = sym (from_be_bytes-to_be_bytes_4 r.length h.length) ∙ ap (at_4 24) e ∙ from_be_bytes-to_be_bytes_4 q.length k.length in
    let command : r.command ≡ q.command = same_command r.command q.command h.own_code k.own_code code in
    ap (λ (x : Command). let m : Request = record { command = x; flags = r.flags; cookie = r.cookie; offset = r.offset; length = r.length } in m) command
    ∙ ap (λ (x : ℕ). let m : Request = record { command = q.command; flags = x; cookie = r.cookie; offset = r.offset; length = r.length } in m) flags
    ∙ ap (λ (x : ℕ). let m : Request = record { command = q.command; flags = q.flags; cookie = x; offset = r.offset; length = r.length } in m) cookie
    ∙ ap (λ (x : ℕ). let m : Request = record { command = q.command; flags = q.flags; cookie = q.cookie; offset = x; length = r.length } in m) offset
    ∙ ap (λ (x : ℕ). let m : Request = record { command = q.command; flags = q.flags; cookie = q.cookie; offset = q.offset; length = x } in m) length

abbrev option_of : ℕ → HandshakeOption
option_of zero = option.Other 0
option_of (suc zero) = option.ExportName
option_of (suc (suc zero)) = option.Abort
option_of (suc (suc (suc zero))) = option.List
option_of (suc (suc (suc (suc zero)))) = option.Other 4
option_of (suc (suc (suc (suc (suc zero))))) = option.Other 5
option_of (suc (suc (suc (suc (suc (suc zero)))))) = option.Info
option_of (suc (suc (suc (suc (suc (suc (suc zero))))))) = option.Go
option_of (suc (suc (suc (suc (suc (suc (suc (suc n)))))))) = option.Other (suc (suc (suc (suc (suc (suc (suc (suc n))))))))

option_is : (o : HandshakeOption) → IsOption o → o ≡ option_of (option_code o)
option_is option.ExportName h = refl
option_is option.Abort h = refl
option_is option.List h = refl
option_is option.Info h = refl
option_is option.Go h = refl
option_is (option.Other zero) h = refl
option_is (option.Other (suc zero)) h = absurd (h.0 refl)
option_is (option.Other (suc (suc zero))) h = absurd (h.1 refl)
option_is (option.Other (suc (suc (suc zero)))) h = absurd (h.2 refl)
option_is (option.Other (suc (suc (suc (suc zero))))) h = refl
option_is (option.Other (suc (suc (suc (suc (suc zero)))))) h = refl
option_is (option.Other (suc (suc (suc (suc (suc (suc zero))))))) h = absurd (h.3 refl)
option_is (option.Other (suc (suc (suc (suc (suc (suc (suc zero)))))))) h = absurd (h.4 refl)
option_is (option.Other (suc (suc (suc (suc (suc (suc (suc (suc n))))))))) h = refl

pub same_head : (x y : OptionHead) → IsHead x → IsHead y → option_head x.option x.length ≡ option_head y.option y.length → x ≡ y
same_head x y h k e =
    let code : option_code x.option ≡ option_code y.option = sym (from_be_bytes-to_be_bytes_4 (option_code x.option) h.code) ∙ ap (at_4 8) e ∙ from_be_bytes-to_be_bytes_4 (option_code y.option) k.code in
    let length : x.length ≡ y.length = sym (from_be_bytes-to_be_bytes_4 x.length h.length) ∙ ap (at_4 12) e ∙ from_be_bytes-to_be_bytes_4 y.length k.length in
    let option : x.option ≡ y.option = option_is x.option h.known ∙ ap option_of code ∙ sym (option_is y.option k.known) in
    ap (λ (z : HandshakeOption). let m : OptionHead = record { option = z; length = x.length } in m) option
    ∙ ap (λ (z : ℕ). let m : OptionHead = record { option = y.option; length = z } in m) length
