use Rattle.std.proofs.Common.{◌≡◌, ◌∙◌, OnOk, List, ◌∷◌, [], ◌++◌, ℕ, ap, append_assoc, rules}
use Rattle.std.proofs.lemmas.Result.{IfOk-weaker}
use Rattle.oram_state.specs.StateBytes.{device_text, long, mode_number, mode_of, short}
use Rattle.oram_state.proofs.writer.push_head.Goals as goal

-- what was appended piece by piece
pieced : (a b c d e f device overhead tickets nonce : List ℕ) (mode : ℕ) → b ≡ a ++ device → c ≡ b ++ overhead → d ≡ c ++ (mode ∷ []) → e ≡ d ++ tickets → f ≡ e ++ nonce
    → f ≡ a ++ ((device ++ overhead) ++ (mode ∷ (tickets ++ nonce)))
pieced a b c d e f device overhead tickets nonce mode p q r s t = t ∙ ap (λ (x : List ℕ). x ++ nonce) (s ∙ ap (λ (x : List ℕ). x ++ tickets) (r ∙ ap (λ (x : List ℕ). x ++ (mode ∷ [])) (q ∙ ap (λ (x : List ℕ). x ++ overhead) p))) ∙ regroup
  where
    regroup : ((((a ++ device) ++ overhead) ++ (mode ∷ [])) ++ tickets) ++ nonce ≡ a ++ ((device ++ overhead) ++ (mode ∷ (tickets ++ nonce)))
    regroup = simp append_assoc

pub returns-clause-spelled : goal.returns-clause-spelled
returns-clause-spelled c =
    let p = c.args.parts.now in
    let device : c.push_device.new.out.items ≡ c.args.out.now.items ++ device_text p.device = rw (← c.parts.view_is) c.in_ok-push_device.ensures in
    let mode : c.number.result ≡ mode_number (mode_of p) = search rules in
    let tickets : c.push_long.new.out.items ≡ c.push.new.self.items ++ long p.tickets = rw (← c.parts.view_is) c.in_ok-push_long.ensures in
    let nonce : OnOk c.push_long-2.result (c.push_long-2.new.out.items ≡ c.push_long.new.out.items ++ long p.nonce) = rw (← c.parts.view_is) c.push_long-2.ensures in
    IfOk-weaker c.push_long-2.result _ _ (λ _ last. pieced c.args.out.now.items c.push_device.new.out.items c.push_short.new.out.items c.push.new.self.items c.push_long.new.out.items c.push_long-2.new.out.items (device_text p.device) (short c.args.overhead) (long p.tickets) (long p.nonce) (mode_number (mode_of p))
    device c.in_ok-push_short.ensures (c.in_ok-push.ensures.items ∙ ap (λ (n : ℕ). c.push_short.new.out.items ++ (n ∷ [])) mode) tickets last) nonce
