use Rattle.std.proofs.Common.{◌≡◌, ◌+◌, ◌-◌, ◌*◌, ◌≤◌, ℕ, [], take, drop, refl, sym, ap, ◌∙◌, subst, arith, rules, ◌<◌, IfOk}
use Rattle.std.proofs.lemmas.Result.{err_from_is_err_and}
use Rattle.oram_nbd.specs.Bytes.{bytes_at}
use Rattle.oram_nbd.specs.declared.operations.Operation.TheVariants.{Read}
use Rattle.oram_nbd.proofs.Beside.{weaker, at_rest as calls_none}
use Rattle.oram_nbd.proofs.Edges.{after_at, after_none, back_whole, before_at, block_least, edge_either, front_whole, rest_of, mul-one}
use Rattle.oram_nbd.proofs.Saving.{all_at_rest, part_after_all}
use Rattle.oram_nbd.proofs.ranges.read_edges.Goals as goal
use Rattle.oram_nbd.proofs.Accesses.{asks_one, edge_is, one_asked, two_edges}
use Rattle.oram_nbd.specs.Accesses.{one_if}

pub returns-then-ahead-behind-eq0-clause-goes : goal.returns-then-ahead-behind-eq0-clause-goes
returns-then-ahead-behind-eq0-clause-goes g c =
    let b = g.D.BlockDevice.block_len c.args.disk.now in
    let same : c.from-block.result ≡ b = c.from-block.ensures ∙ c.block_bytes.ensures.value in
    let none : c.from_vec.result ≡ [] = c.from_vec.ensures ∙ c.new.ensures.items in
    let none' : c.from_vec-then-ahead-behind-eq0.result ≡ [] = c.from_vec-then-ahead-behind-eq0.ensures ∙ c.new-then-ahead-behind-eq0.ensures.items in
    let start : c.args.cover.start ≡ 0 = omega (arith, c.if-ahead-behind-eq0.true, c.edge_len-ahead.ensures.least) in
    let whole : c.from-block.result * c.args.cover.count ≡ c.args.cover.start + c.args.len =
    omega (arith, c.if-ahead-behind-eq0.true, c.edge_len-behind.ensures.least, subst (λ (n : ℕ). c.args.cover.start + c.args.len ≤ n * c.args.cover.count) (sym same) c.requires.covers) in
    let long : b * c.args.cover.count ≡ c.args.cover.start + c.args.len = ap (λ (n : ℕ). n * c.args.cover.count) (sym same) ∙ whole in
    calls_none (λ may_lie world old h. (
      (refl, all_at_rest (λ none. none)),
      (
        none ∙ sym (ap (λ (n : ℕ). take n (bytes_at old.held (b * c.args.cover.first) (b * c.args.cover.count))) start),
        none' ∙ after_none old.held (b * c.args.cover.first) (c.args.cover.start + c.args.len) (b * c.args.cover.count) long,
      ),
      λ e. cc,
    ))

pub returns-in_err-given-clause-goes : goal.returns-in_err-given-clause-goes
returns-in_err-given-clause-goes g c =
    let p = err_from_is_err_and c.from_residual.result c.from_residual.ensures.1 in
    rw p.1 (weaker c.in_err-given.ensures.goes (λ may_lie world old new h step. (step.0, tt, λ e. step.2 cc)))

pub returns-in_err-before-clause-goes : goal.returns-in_err-before-clause-goes
returns-in_err-before-clause-goes g c =
    let p = err_from_is_err_and c.from_residual-in_err-before.result c.from_residual-in_err-before.ensures.1 in
    rw p.1 (weaker c.in_ok-given.ensures.goes (λ may_lie world old new h step. ((step.0.0, part_after_all step.0.1 step.0.0), tt, λ e. cc)))

pub returns-in_err-after-clause-goes : goal.returns-in_err-after-clause-goes
returns-in_err-after-clause-goes g c =
    let p = err_from_is_err_and c.from_residual-in_err-after.result c.from_residual-in_err-after.ensures.1 in
    rw p.1 (weaker c.in_ok-given.ensures.goes (λ may_lie world old new h step. ((step.0.0, part_after_all step.0.1 step.0.0), tt, λ e. cc)))

pub read_two-requires-clause-whole : goal.read_two-requires-clause-whole
read_two-requires-clause-whole g c =
    let b = g.D.BlockDevice.block_len c.args.disk.now in
    let same : c.from-block.result ≡ b = c.from-block.ensures ∙ c.block_bytes.ensures.value in
    front_whole b c.args.cover.first c.args.cover.count (Read (c.from-block.result * c.args.cover.first) c.edge_len-ahead.result) c.edge_len-ahead.result (ap (λ (n : ℕ). n * c.args.cover.first) same) refl
    (edge_either b c.args.cover.start c.edge_len-ahead.result c.edge_len-ahead.ensures.none (λ some. c.edge_len-ahead.ensures.one some ∙ same))

pub read_two-requires-clause-whole_last : goal.read_two-requires-clause-whole_last
read_two-requires-clause-whole_last g c =
    let b = g.D.BlockDevice.block_len c.args.disk.now in
    let same : c.from-block.result ≡ b = c.from-block.ensures ∙ c.block_bytes.ensures.value in
    back_whole b c.args.cover.first c.args.cover.count _ c.edge_len-behind.result c.requires.some
    (ap (λ (n : ℕ). (n * c.args.cover.first + n * c.args.cover.count) - c.edge_len-behind.result) same) refl
    (edge_either b _ c.edge_len-behind.result c.edge_len-behind.ensures.none (λ some. c.edge_len-behind.ensures.one some ∙ same))

pub returns-clause-goes : goal.returns-clause-goes
returns-clause-goes g c =
    let b = g.D.BlockDevice.block_len c.args.disk.now in
    let k : ℕ = c.from-block.result in
    let first : ℕ = c.args.cover.first in
    let count : ℕ = c.args.cover.count in
    let e : ℕ = c.args.cover.start + c.args.len in
    let same : c.from-block.result ≡ b = c.from-block.ensures ∙ c.block_bytes.ensures.value in
    let covers : e ≤ k * count = subst (λ (n : ℕ). e ≤ n * count) (sym same) c.requires.covers in
    let least : b ≤ b * count = block_least b count c.requires.some in
    let short : c.edge_len-behind.result ≤ k * count =
    subst (λ (n : ℕ). c.edge_len-behind.result ≤ n * count) (sym same) (let few : c.edge_len-behind.result ≤ b * count = omega (arith, least, c.edge_len-behind.ensures.most, same) in few) in
    let rest : ℕ = k * count - e in
    let in_all : (k * first + k * count) - k * first - e ≡ rest = omega arith in
    let enough : rest ≤ c.edge_len-behind.result = subst (λ (n : ℕ). n ≤ c.edge_len-behind.result) in_all c.edge_len-behind.ensures.least in
    let whole : e + rest ≡ k * count = omega (arith, covers) in
    let ends : ((k * first + k * count) - c.edge_len-behind.result) + c.edge_len-behind.result ≡ k * first + (e + rest) = omega (arith, short, whole) in
    weaker c.in_ok-given.ensures.goes (λ may_lie world old new h step.
    let front : c.as_slice.result.now ≡ bytes_at old.held (k * first) c.edge_len-ahead.result = search rules in
    let back : c.as_slice-back.result.now ≡ bytes_at old.held ((k * first + k * count) - c.edge_len-behind.result) c.edge_len-behind.result = search rules in
    let cut : c.in_ok-before.before ≡ take c.args.cover.start c.as_slice.result.now = search rules in
    let cut' : c.in_ok-after.after ≡ drop (c.edge_len-behind.result - ((k * first + k * count) - k * first - e)) c.as_slice-back.result.now = c.in_ok-after.ensures ∙ rest_of _ c.as_slice-back.result.now in
    let before : c.in_ok-before.before ≡ take c.args.cover.start (bytes_at old.held (k * first) (k * count)) =
    cut ∙ ap (take c.args.cover.start) front
    ∙ before_at old.held (k * first) c.args.cover.start c.edge_len-ahead.result (k * count) c.edge_len-ahead.ensures.least (let less : c.args.cover.start ≤ k * count = omega (arith, covers) in less) in
    let after : c.in_ok-after.after ≡ drop e (bytes_at old.held (k * first) (k * count)) =
    cut' ∙ ap (λ (n : ℕ). drop (c.edge_len-behind.result - n) c.as_slice-back.result.now) in_all ∙ ap (drop (c.edge_len-behind.result - rest)) back
    ∙ after_at old.held (k * first) ((k * first + k * count) - c.edge_len-behind.result) e rest c.edge_len-behind.result enough ends
    ∙ ap (λ (n : ℕ). drop e (bytes_at old.held (k * first) n)) whole in (
      step.0,
      (
        subst (λ (n : ℕ). c.in_ok-before.before ≡ take c.args.cover.start (bytes_at old.held (n * first) (n * count))) same before,
        subst (λ (n : ℕ). c.in_ok-after.after ≡ drop e (bytes_at old.held (n * first) (n * count))) same after,
      ),
      λ e. cc,
    ))

pub returns-then-cover-eq1-clause-goes : goal.returns-then-cover-eq1-clause-goes
returns-then-cover-eq1-clause-goes g c =
    let b = g.D.BlockDevice.block_len c.args.disk.now in
    let one : b ≡ b * c.args.cover.count = sym (mul-one b) ∙ ap (λ (n : ℕ). b * n) (sym c.if-cover-eq1.true) in
    weaker c.read_one_edge.ensures.goes (λ may_lie world old new h step. (
      step.0,
      subst (λ (n : ℕ). IfOk c.read_one_edge.result (λ e. (e.before ≡ take c.args.cover.start (bytes_at old.held (b * c.args.cover.first) n)) × (e.after ≡ drop (c.args.cover.start + c.args.len) (bytes_at old.held (b * c.args.cover.first) n))))
          one step.1,
      step.2,
    ))

pub returns-clause-asks : goal.returns-clause-asks
returns-clause-asks g c = λ some_rest.
    let b = g.D.BlockDevice.block_len c.args.disk.now in
    let k : ℕ = c.from-block.result in
    let first : ℕ = c.args.cover.first in
    let count : ℕ = c.args.cover.count in
    let e : ℕ = c.args.cover.start + c.args.len in
    let same : c.from-block.result ≡ b = c.from-block.ensures ∙ c.block_bytes.ensures.value in
    let some : 0 < b = omega (arith, c.block_bytes.ensures.some, c.block_bytes.ensures.value) in
    let two : 1 < count = omega (arith, c.requires.some, c.if-cover-eq1.false) in
    let in_all : (k * first + k * count) - k * first - e ≡ k * count - e = omega arith in
    let rest : (k * first + k * count) - k * first - e ≡ b * count - e = in_all ∙ ap (λ (n : ℕ). n * count - e) same in
    let ahead : c.edge_len-ahead.result ≡ b * one_if c.args.cover.start =
    edge_is b c.args.cover.start c.edge_len-ahead.result c.edge_len-ahead.ensures.none (λ more. c.edge_len-ahead.ensures.one more ∙ same) in
    let behind : c.edge_len-behind.result ≡ b * one_if (b * count - e) =
    edge_is b (b * count - e) c.edge_len-behind.result (λ none. c.edge_len-behind.ensures.none (rest ∙ none)) (λ more. c.edge_len-behind.ensures.one (subst (λ (n : ℕ). 0 < n) (sym rest) more) ∙ same) in
    asks_one g.D.BlockDevice.asked c.args.disk.now c.read_two.new.disk _ _
    (two_edges b first count c.args.cover.start (b * count - e) _ _ _ _ some two (ap (λ (n : ℕ). n * first) same) ahead
    (ap (λ (n : ℕ). (n * first + n * count) - c.edge_len-behind.result) same ∙ ap (λ (n : ℕ). (b * first + b * count) - n) behind) behind) (one_asked g.D.BlockDevice.asked c.args.disk.now c.read_two.new.disk _ c.in_ok-given.ensures.asks)
