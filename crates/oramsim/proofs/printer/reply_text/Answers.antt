use Rattle.std.proofs.Common.{◌≡◌, ℕ, List, IfOk, Result, Ok, Err, ap, ◌∙◌}
use Rattle.oramsim.specs.Printer.{reply_line}
use Rattle.oramsim.proofs.printer.reply_text.Goals as goal

written : {T E : Type 0} (bytes : T → List ℕ) (r : Result T E) (a b : List ℕ) → IfOk r (λ t. bytes t ≡ a) → a ≡ b → IfOk r (λ t. bytes t ≡ b)
written bytes (Ok t) a b h e = h ∙ e
written bytes (Err x) a b h e = tt

pub returns : goal.returns
returns c = written _ c.format.result _ _ c.format.ensures.ok (ap (reply_line c.args.reply.now.session c.args.reply.now.ticket) (c.as_str.ensures.value ∙ c.in_ok-body.ensures))
