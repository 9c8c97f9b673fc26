use Rattle.std.proofs.Common.{◌≡◌, ℕ, ◌*◌, take, drop, length, arith, sym, ap, ◌∙◌, take_all, inl, inr}
use Rattle.std.proofs.lemmas.Bool.{cases_lt}
use Rattle.std.proofs.lemmas.Slice.{between_to_end}
use Rattle.oram_kept.proofs.pages.bytes_on.Goals as goal

pub returns-in-Some : goal.returns-in-Some
returns-in-Some c =
    let rest : c.in-Some.rest.now ≡ drop (c.args.index * 1016) c.args.bytes.now =
    c.in-Some.ensures.lookup.0.2 ∙ between_to_end c.args.bytes.now (c.args.index * 1016) (length c.args.bytes.now) (omega arith) in
    let most : take c.min.result c.in-Some.rest.now ≡ take 1016 c.in-Some.rest.now =
    elim (cases_lt (length c.in-Some.rest.now) 1016) [
      | inl fewer ↦ take_all c.min.result c.in-Some.rest.now (omega (arith, c.min.ensures, fewer)) ∙ sym (take_all 1016 c.in-Some.rest.now (omega (arith, fewer)))
      | inr full ↦ ap (λ (k : ℕ). take k c.in-Some.rest.now) (let e : c.min.result ≡ 1016 = omega (arith, c.min.ensures, full) in e)
    ] in
    most ∙ ap (take 1016) rest
