use Rattle.std.proofs.Common.{◌≡◌, ◌∙◌, List, ℕ, IfOk, Result, Ok, Err, codes, decimal, string_bytes}
use Rattle.oram_settings.specs.Amounts.{counted}
use Rattle.oram_disk_host.specs.ConnectionLine.{ending, failing}
use Rattle.oram_disk_host.proofs.Lines.{grouped}
use Rattle.oram_disk_host.proofs.connection.line.Goals as goal

written : {T E : Type 0} (bytes : T → List ℕ) (r : Result T E) (a b : List ℕ) → IfOk r (λ t. bytes t ≡ a) → a ≡ b → IfOk r (λ t. bytes t ≡ b)
written bytes (Ok t) a b h e = h ∙ e
written bytes (Err x) a b h e = tt

pub returns : goal.returns
returns c =
    let v = c.args.report.now in
    written string_bytes c.format.result _ _ c.format.ensures.ok
    (rw (c.as_str-peer.ensures.value, c.as_str-from.ensures.value, c.as_str-until.ensures.value, c.as_str-messages.ensures.value, c.in_ok-messages.ensures, c.ending-ended.ensures, c.failing-failed.ensures, c.as_str-reason.ensures.value)
    (grouped (codes "oramdisk: ") (string_bytes v.peer) (codes " from ") (string_bytes v.from) (codes " until ") (string_bytes v.until) (codes ", ")
    (counted v.tally.messages (codes "message")) (codes ", ") (decimal v.tally.received) (codes " bytes in, ") (decimal v.tally.sent) (codes " bytes out")
    (ending v.ended) (failing v.tally.failure) (string_bytes v.reason) (codes "\n")))
