use Rattle.std.proofs.Common.{◌≡◌, ◌≤◌, ℕ, ◌*◌, take, drop, length, arith, sym, ap, ◌∙◌, take_all, inl, inr, ⊎_elim}
use Rattle.std.proofs.Math.Seq.{take-nil}
use Rattle.std.proofs.lemmas.Bool.{cases_lt}
use Rattle.std.proofs.lemmas.List.{drop_all}
use Rattle.std.proofs.lemmas.Slice.{between_to_end}
use Rattle.oram_kept.specs.Text.{table_bytes}
use Rattle.oram_kept.proofs.Tables.{numbers_on}
use Rattle.oram_kept.proofs.pages.numbers_on.Goals as goal

pub returns-in-Some : goal.returns-in-Some
returns-in-Some c =
    let rest : c.in-Some.rest.now ≡ drop (c.args.index * 254) c.args.table.now =
    c.in-Some.ensures.lookup.0.2 ∙ between_to_end c.args.table.now (c.args.index * 254) (length c.args.table.now) (omega arith) in
    let most : take c.min.result c.in-Some.rest.now ≡ take 254 c.in-Some.rest.now =
    elim (cases_lt (length c.in-Some.rest.now) 254) [
      | inl fewer ↦ take_all c.min.result c.in-Some.rest.now (omega (arith, c.min.ensures, fewer)) ∙ sym (take_all 254 c.in-Some.rest.now (omega (arith, fewer)))
      | inr full ↦ ap (λ (k : ℕ). take k c.in-Some.rest.now) (let e : c.min.result ≡ 254 = omega (arith, c.min.ensures, full) in e)
    ] in
    ap table_bytes (most ∙ ap (take 254) rest) ∙ numbers_on c.args.table.now c.args.index

pub returns-in-None : goal.returns-in-None
returns-in-None c =
    let at : ℕ = c.args.index * 254 in
    let behind : length c.args.table.now ≤ at = ⊎_elim (λ past. omega (arith, past)) (λ never. omega (arith, never)) c.in-None.ensures.lookup.0 in
    ap table_bytes (sym (ap (take 254) (drop_all at c.args.table.now behind) ∙ take-nil 254)) ∙ numbers_on c.args.table.now c.args.index
