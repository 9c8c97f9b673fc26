use Rattle.std.proofs.Common.{◌≡◌, ◌+◌, ◌-◌, ◌*◌, ◌<◌, ◌≤◌, ◌++◌, ℕ, List, [], All, length, sym, ap, ◌∙◌, subst, arith, rules}
use Rattle.std.proofs.lemmas.Result.{err_from_is_err_and}
use Rattle.oram_nbd.specs.Bytes.{zeroes}
use Rattle.oram_nbd.specs.Operations.{AreBegun, IsWhole, IsWithin, TouchSomeByte, all_done}
use Rattle.oram_nbd.specs.declared.operations.Operation.{Operation}
use Rattle.oram_nbd.proofs.Beside.{weaker, at_rest as calls_none}
use Rattle.oram_nbd.proofs.Edges.{are_edges, zeroing, zeroing_begun, zeroing_done, zeroing_touches, zeroing_whole, zeroing_within}
use Rattle.oram_nbd.proofs.Saving.{all_weaker, part_at_rest, part_weaker}
use Rattle.oram_nbd.proofs.Splices.{begun_none}
use Rattle.oram_nbd.proofs.ranges.zero_between.Goals as goal
use Rattle.oram_nbd.proofs.Accesses.{asks_one, edge_is, edges_fit, filled_back, filled_front, zeroed_blocks}
use Rattle.oram_nbd.specs.Accesses.{one_if}
use Rattle.std.proofs.lemmas.List.{length-replicate}

pub returns-in_err-front-clause-goes : goal.returns-in_err-front-clause-goes
returns-in_err-front-clause-goes g c =
    let p = err_from_is_err_and c.from_residual.result c.from_residual.ensures.1 in
    rw p.1 (calls_none (λ may_lie world old h. (tt, begun_none old.held _ _, λ e. cc, part_at_rest)))

pub returns-in_err-back-clause-goes : goal.returns-in_err-back-clause-goes
returns-in_err-back-clause-goes g c =
    let p = err_from_is_err_and c.from_residual-in_err-back.result c.from_residual-in_err-back.ensures.1 in
    rw p.1 (calls_none (λ may_lie world old h. (tt, begun_none old.held _ _, λ e. cc, part_at_rest)))

pub returns-in_err-first-clause-goes : goal.returns-in_err-first-clause-goes
returns-in_err-first-clause-goes g c =
    let p = err_from_is_err_and c.from_residual-in_err-first.result c.from_residual-in_err-first.ensures.1 in
    rw p.1 (calls_none (λ may_lie world old h. (tt, begun_none old.held _ _, λ e. cc, part_at_rest)))

pub returns-in_err-last-clause-goes : goal.returns-in_err-last-clause-goes
returns-in_err-last-clause-goes g c =
    let p = err_from_is_err_and c.from_residual-in_err-last.result c.from_residual-in_err-last.ensures.1 in
    rw p.1 (calls_none (λ may_lie world old h. (tt, begun_none old.held _ _, λ e. cc, part_at_rest)))

pub overflow_sub-operations-2 : goal.overflow_sub-operations-2
overflow_sub-operations-2 g c =
    let b = g.D.BlockDevice.block_len c.args.disk.now in
    let first : ℕ = c.args.cover.first in
    let count : ℕ = c.args.cover.count in
    let before : List ℕ = c.args.edges.now.before in
    let after : List ℕ = c.args.edges.now.after in
    let a : ℕ = c.edge_len-ahead.result in
    let z : ℕ = c.edge_len-behind.result in
    let same : c.from-block.result ≡ b = c.from-block.ensures ∙ c.block_bytes.ensures.value in
    let positive : 0 < b = omega (arith, c.requires.before) in
    let edges = are_edges b c.from-block.result count before after c.args.len a z c.len.result c.len-2.result same c.requires.some c.requires.all c.requires.apart c.len.ensures c.edge_len-ahead.ensures.most
    c.edge_len-ahead.ensures.least c.edge_len-ahead.ensures.none c.edge_len-ahead.ensures.one c.len-2.ensures c.edge_len-behind.ensures.most c.edge_len-behind.ensures.least c.edge_len-behind.ensures.none
    c.edge_len-behind.ensures.one in
    let fits : a + z ≤ c.from-block.result * count = subst (λ (n : ℕ). a + z ≤ n * count) (sym same) edges.fits in
    omega (arith, fits)

pub carry_out-requires-clause-whole : goal.carry_out-requires-clause-whole
carry_out-requires-clause-whole g c =
    let b = g.D.BlockDevice.block_len c.args.disk.now in
    let first : ℕ = c.args.cover.first in
    let count : ℕ = c.args.cover.count in
    let before : List ℕ = c.args.edges.now.before in
    let after : List ℕ = c.args.edges.now.after in
    let a : ℕ = c.edge_len-ahead.result in
    let z : ℕ = c.edge_len-behind.result in
    let same : c.from-block.result ≡ b = c.from-block.ensures ∙ c.block_bytes.ensures.value in
    let positive : 0 < b = omega (arith, c.requires.before) in
    let edges = are_edges b c.from-block.result count before after c.args.len a z c.len.result c.len-2.result same c.requires.some c.requires.all c.requires.apart c.len.ensures c.edge_len-ahead.ensures.most
    c.edge_len-ahead.ensures.least c.edge_len-ahead.ensures.none c.edge_len-ahead.ensures.one c.len-2.ensures c.edge_len-behind.ensures.most c.edge_len-behind.ensures.least c.edge_len-behind.ensures.none
    c.edge_len-behind.ensures.one in
    let x : List ℕ = before ++ zeroes (a - length before) ++ [] in
    let w : List ℕ = [] ++ zeroes (z - length after) ++ after in
    let none : c.in_ok-front.front.items ≡ zeroes (a - length before) = search rules in
    let none' : c.in_ok-back.back.items ≡ zeroes (z - length after) = search rules in
    let is : c.from_vec.result ≡ x =
    c.from_vec.ensures ∙ c.in_ok-first.ensures ∙ ap (λ (l : List ℕ). l ++ c.deref.result.now ++ []) c.as_slice.ensures ∙ ap (λ (l : List ℕ). before ++ l ++ []) (c.deref.ensures.value ∙ none) in
    let is' : c.from_vec-2.result ≡ w =
    c.from_vec-2.ensures ∙ c.in_ok-last.ensures ∙ ap (λ (l : List ℕ). [] ++ c.deref-2.result.now ++ l) c.as_slice-2.ensures ∙ ap (λ (l : List ℕ). [] ++ l ++ after) (c.deref-2.ensures.value ∙ none') in
    let ops : zeroing c.from-block.result first count a z c.from_vec.result c.from_vec-2.result ≡ zeroing b first count a z x w =
    ap (λ (n : ℕ). zeroing n first count a z c.from_vec.result c.from_vec-2.result) same ∙ ap (λ (l : List ℕ). zeroing b first count a z l c.from_vec-2.result) is
    ∙ ap (λ (l : List ℕ). zeroing b first count a z x l) is' in
    subst (λ (l : List Operation). All (IsWhole b) l) (sym ops) (zeroing_whole b first count before after c.args.len a z positive c.requires.some edges)

pub carry_out-requires-clause-within : goal.carry_out-requires-clause-within
carry_out-requires-clause-within g c =
    let b = g.D.BlockDevice.block_len c.args.disk.now in
    let first : ℕ = c.args.cover.first in
    let count : ℕ = c.args.cover.count in
    let before : List ℕ = c.args.edges.now.before in
    let after : List ℕ = c.args.edges.now.after in
    let a : ℕ = c.edge_len-ahead.result in
    let z : ℕ = c.edge_len-behind.result in
    let same : c.from-block.result ≡ b = c.from-block.ensures ∙ c.block_bytes.ensures.value in
    let positive : 0 < b = omega (arith, c.requires.before) in
    let edges = are_edges b c.from-block.result count before after c.args.len a z c.len.result c.len-2.result same c.requires.some c.requires.all c.requires.apart c.len.ensures c.edge_len-ahead.ensures.most
    c.edge_len-ahead.ensures.least c.edge_len-ahead.ensures.none c.edge_len-ahead.ensures.one c.len-2.ensures c.edge_len-behind.ensures.most c.edge_len-behind.ensures.least c.edge_len-behind.ensures.none
    c.edge_len-behind.ensures.one in
    let x : List ℕ = before ++ zeroes (a - length before) ++ [] in
    let w : List ℕ = [] ++ zeroes (z - length after) ++ after in
    let none : c.in_ok-front.front.items ≡ zeroes (a - length before) = search rules in
    let none' : c.in_ok-back.back.items ≡ zeroes (z - length after) = search rules in
    let is : c.from_vec.result ≡ x =
    c.from_vec.ensures ∙ c.in_ok-first.ensures ∙ ap (λ (l : List ℕ). l ++ c.deref.result.now ++ []) c.as_slice.ensures ∙ ap (λ (l : List ℕ). before ++ l ++ []) (c.deref.ensures.value ∙ none) in
    let is' : c.from_vec-2.result ≡ w =
    c.from_vec-2.ensures ∙ c.in_ok-last.ensures ∙ ap (λ (l : List ℕ). [] ++ c.deref-2.result.now ++ l) c.as_slice-2.ensures ∙ ap (λ (l : List ℕ). [] ++ l ++ after) (c.deref-2.ensures.value ∙ none') in
    let ops : zeroing c.from-block.result first count a z c.from_vec.result c.from_vec-2.result ≡ zeroing b first count a z x w =
    ap (λ (n : ℕ). zeroing n first count a z c.from_vec.result c.from_vec-2.result) same ∙ ap (λ (l : List ℕ). zeroing b first count a z l c.from_vec-2.result) is
    ∙ ap (λ (l : List ℕ). zeroing b first count a z x l) is' in
    subst (λ (l : List Operation). All (IsWithin (g.D.BlockDevice.size c.args.disk.now)) l) (sym ops)
    (zeroing_within b first count before after c.args.len a z positive c.requires.some edges (g.D.BlockDevice.size c.args.disk.now) c.requires.within)

pub returns-in_err-carry_out-clause-goes : goal.returns-in_err-carry_out-clause-goes
returns-in_err-carry_out-clause-goes g c =
    let p = err_from_is_err_and c.from_residual-in_err-carry_out.result c.from_residual-in_err-carry_out.ensures.1 in
    let b = g.D.BlockDevice.block_len c.args.disk.now in
    let first : ℕ = c.args.cover.first in
    let count : ℕ = c.args.cover.count in
    let before : List ℕ = c.args.edges.now.before in
    let after : List ℕ = c.args.edges.now.after in
    let a : ℕ = c.edge_len-ahead.result in
    let z : ℕ = c.edge_len-behind.result in
    let same : c.from-block.result ≡ b = c.from-block.ensures ∙ c.block_bytes.ensures.value in
    let positive : 0 < b = omega (arith, c.requires.before) in
    let edges = are_edges b c.from-block.result count before after c.args.len a z c.len.result c.len-2.result same c.requires.some c.requires.all c.requires.apart c.len.ensures c.edge_len-ahead.ensures.most
    c.edge_len-ahead.ensures.least c.edge_len-ahead.ensures.none c.edge_len-ahead.ensures.one c.len-2.ensures c.edge_len-behind.ensures.most c.edge_len-behind.ensures.least c.edge_len-behind.ensures.none
    c.edge_len-behind.ensures.one in
    let x : List ℕ = before ++ zeroes (a - length before) ++ [] in
    let w : List ℕ = [] ++ zeroes (z - length after) ++ after in
    let none : c.in_ok-front.front.items ≡ zeroes (a - length before) = search rules in
    let none' : c.in_ok-back.back.items ≡ zeroes (z - length after) = search rules in
    let is : c.from_vec.result ≡ x =
    c.from_vec.ensures ∙ c.in_ok-first.ensures ∙ ap (λ (l : List ℕ). l ++ c.deref.result.now ++ []) c.as_slice.ensures ∙ ap (λ (l : List ℕ). before ++ l ++ []) (c.deref.ensures.value ∙ none) in
    let is' : c.from_vec-2.result ≡ w =
    c.from_vec-2.ensures ∙ c.in_ok-last.ensures ∙ ap (λ (l : List ℕ). [] ++ c.deref-2.result.now ++ l) c.as_slice-2.ensures ∙ ap (λ (l : List ℕ). [] ++ l ++ after) (c.deref-2.ensures.value ∙ none') in
    let ops : zeroing c.from-block.result first count a z c.from_vec.result c.from_vec-2.result ≡ zeroing b first count a z x w =
    ap (λ (n : ℕ). zeroing n first count a z c.from_vec.result c.from_vec-2.result) same ∙ ap (λ (l : List ℕ). zeroing b first count a z l c.from_vec-2.result) is
    ∙ ap (λ (l : List ℕ). zeroing b first count a z x l) is' in
    rw p.1 (weaker c.in_err-carry_out.ensures.goes (λ may_lie world old new h step.
    let within : b * first + b * count ≤ length old.held = subst (λ (n : ℕ). b * first + b * count ≤ n) (sym (c.blocks-blocks.ensures.held may_lie world old.held h.0)) c.requires.within in
    let begun = λ (x : List ℕ) (is : AreBegun (zeroing c.from-block.result first count a z c.from_vec.result c.from_vec-2.result) old.held x).
    zeroing_begun b first count before after c.args.len a z positive c.requires.some edges old.held within x (subst (λ (l : List Operation). AreBegun l old.held x) ops is) in
    (tt, begun new.held step.0, λ e. step.1 cc, part_weaker step.2 begun)))

pub returns-clause-goes : goal.returns-clause-goes
returns-clause-goes g c =
    let b = g.D.BlockDevice.block_len c.args.disk.now in
    let first : ℕ = c.args.cover.first in
    let count : ℕ = c.args.cover.count in
    let before : List ℕ = c.args.edges.now.before in
    let after : List ℕ = c.args.edges.now.after in
    let a : ℕ = c.edge_len-ahead.result in
    let z : ℕ = c.edge_len-behind.result in
    let same : c.from-block.result ≡ b = c.from-block.ensures ∙ c.block_bytes.ensures.value in
    let positive : 0 < b = omega (arith, c.requires.before) in
    let edges = are_edges b c.from-block.result count before after c.args.len a z c.len.result c.len-2.result same c.requires.some c.requires.all c.requires.apart c.len.ensures c.edge_len-ahead.ensures.most
    c.edge_len-ahead.ensures.least c.edge_len-ahead.ensures.none c.edge_len-ahead.ensures.one c.len-2.ensures c.edge_len-behind.ensures.most c.edge_len-behind.ensures.least c.edge_len-behind.ensures.none
    c.edge_len-behind.ensures.one in
    let x : List ℕ = before ++ zeroes (a - length before) ++ [] in
    let w : List ℕ = [] ++ zeroes (z - length after) ++ after in
    let none : c.in_ok-front.front.items ≡ zeroes (a - length before) = search rules in
    let none' : c.in_ok-back.back.items ≡ zeroes (z - length after) = search rules in
    let is : c.from_vec.result ≡ x =
    c.from_vec.ensures ∙ c.in_ok-first.ensures ∙ ap (λ (l : List ℕ). l ++ c.deref.result.now ++ []) c.as_slice.ensures ∙ ap (λ (l : List ℕ). before ++ l ++ []) (c.deref.ensures.value ∙ none) in
    let is' : c.from_vec-2.result ≡ w =
    c.from_vec-2.ensures ∙ c.in_ok-last.ensures ∙ ap (λ (l : List ℕ). [] ++ c.deref-2.result.now ++ l) c.as_slice-2.ensures ∙ ap (λ (l : List ℕ). [] ++ l ++ after) (c.deref-2.ensures.value ∙ none') in
    let ops : zeroing c.from-block.result first count a z c.from_vec.result c.from_vec-2.result ≡ zeroing b first count a z x w =
    ap (λ (n : ℕ). zeroing n first count a z c.from_vec.result c.from_vec-2.result) same ∙ ap (λ (l : List ℕ). zeroing b first count a z l c.from_vec-2.result) is
    ∙ ap (λ (l : List ℕ). zeroing b first count a z x l) is' in
    weaker c.in_ok-carry_out.ensures.goes (λ may_lie world old new h step.
    let within : b * first + b * count ≤ length old.held = subst (λ (n : ℕ). b * first + b * count ≤ n) (sym (c.blocks-blocks.ensures.held may_lie world old.held h.0)) c.requires.within in (
      step.0.1 ∙ ap (λ (l : List Operation). all_done l old.held) ops ∙ zeroing_done b first count before after c.args.len a z positive c.requires.some edges old.held within,
      tt,
      λ e. cc,
      all_weaker step.2 (λ some. subst TouchSomeByte (sym ops) (zeroing_touches b first count before after c.args.len a z positive c.requires.some edges)),
    ))

pub returns-clause-asks : goal.returns-clause-asks
returns-clause-asks g c =
    let b = g.D.BlockDevice.block_len c.args.disk.now in
    let first : ℕ = c.args.cover.first in
    let count : ℕ = c.args.cover.count in
    let before : List ℕ = c.args.edges.now.before in
    let after : List ℕ = c.args.edges.now.after in
    let a : ℕ = c.edge_len-ahead.result in
    let z : ℕ = c.edge_len-behind.result in
    let same : c.from-block.result ≡ b = c.from-block.ensures ∙ c.block_bytes.ensures.value in
    let positive : 0 < b = omega (arith, c.requires.before) in
    let none : c.in_ok-front.front.items ≡ zeroes (a - length before) = search rules in
    let none' : c.in_ok-back.back.items ≡ zeroes (z - length after) = search rules in
    let is : c.from_vec.result ≡ before ++ zeroes (a - length before) ++ [] =
    c.from_vec.ensures ∙ c.in_ok-first.ensures ∙ ap (λ (l : List ℕ). l ++ c.deref.result.now ++ []) c.as_slice.ensures ∙ ap (λ (l : List ℕ). before ++ l ++ []) (c.deref.ensures.value ∙ none) in
    let is' : c.from_vec-2.result ≡ [] ++ zeroes (z - length after) ++ after =
    c.from_vec-2.ensures ∙ c.in_ok-last.ensures ∙ ap (λ (l : List ℕ). [] ++ c.deref-2.result.now ++ l) c.as_slice-2.ensures ∙ ap (λ (l : List ℕ). [] ++ l ++ after) (c.deref-2.ensures.value ∙ none') in
    let ahead : a ≡ b * one_if (length before) =
    edge_is b (length before) a (λ e. c.edge_len-ahead.ensures.none (c.len.ensures ∙ e)) (λ more. c.edge_len-ahead.ensures.one (subst (λ (n : ℕ). 0 < n) (sym c.len.ensures) more) ∙ same) in
    let behind : z ≡ b * one_if (length after) =
    edge_is b (length after) z (λ e. c.edge_len-behind.ensures.none (c.len-2.ensures ∙ e)) (λ more. c.edge_len-behind.ensures.one (subst (λ (n : ℕ). 0 < n) (sym c.len-2.ensures) more) ∙ same) in
    let front_len : length c.from_vec.result ≡ a = ap length is ∙ filled_front before (zeroes (a - length before)) a (length-replicate (a - length before) 0) (subst (λ (n : ℕ). n ≤ a) c.len.ensures c.edge_len-ahead.ensures.least) in
    let back_len : length c.from_vec-2.result ≡ z = ap length is' ∙ filled_back after (zeroes (z - length after)) z (length-replicate (z - length after) 0) (subst (λ (n : ℕ). n ≤ z) c.len-2.ensures c.edge_len-behind.ensures.least) in
    let fits : one_if (length before) + one_if (length after) ≤ count = edges_fit (length before) (length after) count c.requires.some c.requires.apart in
    asks_one g.D.BlockDevice.asked c.args.disk.now c.carry_out.new.self _ _
    (zeroed_blocks b first count (one_if (length before)) (one_if (length after)) _ _ _ _ _ _ positive fits
    (ap (λ (n : ℕ). n * first) same) (front_len ∙ ahead) (ap (λ (n : ℕ). n * first + a) same ∙ ap (λ (n : ℕ). b * first + n) ahead)
    (ap (λ (n : ℕ). ((n * first + n * count) - z) - (n * first + a)) same ∙ ap (λ (n : ℕ). ((b * first + b * count) - n) - (b * first + a)) behind ∙ ap (λ (n : ℕ). ((b * first + b * count) - b * one_if (length after)) - (b * first + n)) ahead)
    (ap (λ (n : ℕ). (n * first + n * count) - z) same ∙ ap (λ (n : ℕ). (b * first + b * count) - n) behind) (back_len ∙ behind)) c.in_ok-carry_out.ensures.asks
