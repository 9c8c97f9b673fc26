use Rattle.std.proofs.lemmas.Result.{err_from_is_err_and}
use Rattle.oram_nbd.proofs.Beside.{at_rest, weaker}
use Rattle.oram_nbd.proofs.Saving.{part_at_rest}
use Rattle.oram_nbd.proofs.ListSteps.{begun_nothing, front_outcome, front_alone}
use Rattle.oram_nbd.proofs.lists.carry_out_front.Goals as goal
use Rattle.std.proofs.Common.{◌≡◌, ◌<◌, ℕ, false, List, [], ◌∷◌, All, drop, length, length-take-le, map, take, Result, Ok, Err, IfOk, OnOk, sym, ap, ◌∙◌, subst, arith, rules}
use Rattle.std.proofs.lemmas.List.{length-map}
use Rattle.oram_nbd.specs.Accesses.{begins_whole, is_part, range_of}
use Rattle.oram_nbd.specs.Operations.{read_len}
use Rattle.oram_nbd.proofs.Accesses.{asks_front, asks_part, first_is_part}

pub returns-then-count-gt0-clause-goes : goal.returns-then-count-gt0-clause-goes
returns-then-count-gt0-clause-goes g c =
    weaker c.carry_out.ensures.goes (λ may_lie world old new h step.
    (front_outcome c.carry_out.result (λ v. v.items) c.args.operations.now c.whole_front-count.result old new c.whole_front-count.ensures.most step.0 step.2, step.1))

pub returns-in_err-given-clause-goes : goal.returns-in_err-given-clause-goes
returns-in_err-given-clause-goes g c =
    let p = err_from_is_err_and c.from_residual.result c.from_residual.ensures.1 in
    rw p.1 (at_rest (λ may_lie world old h. ((begun_nothing c.args.operations.now old.held, part_at_rest), λ e. cc)))

-- what is known of a result and of what was done for it
both : {X Y : Type 0} (r : Result X Y) (P R : X → Type 0) {Q : Type 0} → IfOk r P → OnOk r Q → ((x : X) → P x → Q → R x) → IfOk r R
both (Ok x) P R p q f = f x p q
both (Err e) P R p q f = tt

pub returns-then-count-gt0-clause-asks : goal.returns-then-count-gt0-clause-asks
returns-then-count-gt0-clause-asks g c =
    let b = g.D.BlockDevice.block_len c.args.disk.now in
    let ops = c.args.operations.now in
    let n : ℕ = c.whole_front-count.result in
    let same : c.from.result ≡ b = c.from.ensures ∙ c.block_bytes.ensures.value in
    let long : length (take n ops) ≡ n = length-take-le n ops c.whole_front-count.ensures.most in
    both c.carry_out.result (λ given. map length given.items ≡ map read_len (take n ops)) _ c.carry_out.ensures.len c.carry_out.ensures.asks (λ given lens asked.
    asks_front g.D.BlockDevice.asked b ops n (length given.items) c.args.disk.now c.carry_out.new.self (omega (arith, long, c.if-count-gt0.true))
    (sym (length-map given.items length) ∙ ap length lens ∙ length-map (take n ops) read_len ∙ long)
    (subst (λ (k : ℕ). All (λ op. is_part k (range_of op) ≡ false) (take n ops)) same c.whole_front-count.ensures.no_parts)
    (subst (λ (k : ℕ). begins_whole k (map range_of (drop n ops)) ≡ false) same c.whole_front-count.ensures.next) asked)

pub returns-clause-goes : goal.returns-clause-goes
returns-clause-goes g c =
    let one : c.push.new.self.items ≡ c.in_ok-bytes.bytes ∷ [] = search rules in
    weaker c.in_ok-bytes.ensures.goes (λ may_lie world old new h step.
    (front_alone c.args.operations.now c.index-operations-0.result c.in_ok-bytes.bytes c.push.new.self.items old new c.requires.some c.index-operations-0.is one step.0.0 step.0.1 step.2, λ e. cc))

pub returns-clause-asks : goal.returns-clause-asks
returns-clause-asks g c =
    let b = g.D.BlockDevice.block_len c.args.disk.now in
    let ops = c.args.operations.now in
    let same : c.from.result ≡ b = c.from.ensures ∙ c.block_bytes.ensures.value in
    let none : c.whole_front-count.result ≡ 0 = omega (arith, c.if-count-gt0.false) in
    let one : c.push.new.self.items ≡ c.in_ok-bytes.bytes ∷ [] = search rules in
    let next : begins_whole b (map range_of (drop 0 ops)) ≡ false =
    subst (λ (k : ℕ). begins_whole b (map range_of (drop k ops)) ≡ false) none (subst (λ (k : ℕ). begins_whole k (map range_of (drop c.whole_front-count.result ops)) ≡ false) same c.whole_front-count.ensures.next) in
    asks_part g.D.BlockDevice.asked b ops (length c.push.new.self.items) c.index-operations-0.result c.args.disk.now c.carry_out_alone.new.disk c.requires.some (ap length one) c.index-operations-0.is
    (first_is_part b ops c.index-operations-0.result c.requires.some c.index-operations-0.is next) c.in_ok-bytes.ensures.asks
