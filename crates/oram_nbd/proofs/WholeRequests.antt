-- Whether bytes begin with a whole request.
use Rattle.std.proofs.Common.{◌≡◌, ℕ, ◌+◌, ◌-◌, ◌≤◌, List, ◌++◌, length, take, drop, sym, ap, ◌∙◌, arith, append_assoc, length-append, length-drop, length-take-le}
use Rattle.std.proofs.lemmas.List.{take-append-drop}
use Rattle.oram_nbd.specs.Messages.{payload_len, request_text, IsRequest}
use Rattle.oram_nbd.specs.Service.{BeginsWithRequest}
use Rattle.oram_nbd.specs.declared.requests.Request.{Request}

-- a head, and as many bytes after it as its write has
pub begins_by : (bytes head : List ℕ) (r : Request) → head ≡ take 28 bytes → IsRequest r → head ≡ request_text r → 28 ≤ length bytes → payload_len r.command r.length ≤ length bytes - 28 → BeginsWithRequest bytes
begins_by bytes head r front is text least enough =
    let n : ℕ = payload_len r.command r.length in
    let rest : length (drop 28 bytes) ≡ length bytes - 28 = length-drop 28 bytes in
    record {
      first = record { request = r; payload = take n (drop 28 bytes) };
      whole = record { request = is; payload = length-take-le n (drop 28 bytes) (omega (arith, rest, enough)) };
      rest = drop n (drop 28 bytes);
      split = sym (append_assoc (request_text r) (take n (drop 28 bytes)) (drop n (drop 28 bytes)) ∙ ap (λ (l : List ℕ). request_text r ++ l) (take-append-drop n (drop 28 bytes))
          ∙ ap (λ (l : List ℕ). l ++ drop 28 bytes) (sym text ∙ front) ∙ take-append-drop 28 bytes);
    }

module _ (bytes : List ℕ) (b : BeginsWithRequest bytes) where
  pub begins_long : length bytes ≡ 28 + payload_len b.first.request.command b.first.request.length + length b.rest
  begins_long =
      ap length b.split ∙ length-append (request_text b.first.request ++ b.first.payload) b.rest ∙ ap (λ (n : ℕ). n + length b.rest) (length-append (request_text b.first.request) b.first.payload)
      ∙ ap (λ (n : ℕ). 28 + n + length b.rest) b.whole.payload

  pub begins_head : take 28 bytes ≡ request_text b.first.request
  begins_head = ap (take 28) b.split
