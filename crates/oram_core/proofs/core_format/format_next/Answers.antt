use Rattle.std.proofs.Common.{◌≡◌, ◌+◌, ◌*◌, ◌^◌, ◌≤◌, ℕ, inl, refl, sym, ap, subst, arith}
use Rattle.std.proofs.lemmas.Nat.{pow-add}
use Rattle.std.proofs.Math.Nat.{pow-le-pow_right}
use Rattle.oram_geometry.specs.Sizes.{depth_of}
use Rattle.oram_tree.specs.Content.{node_count}
use Rattle.oram_tree.specs.Format.{IsBegun, IsBrokenOff, IsFormat}
use Rattle.oram_tree.proofs.Puts.{if_err, broken_with}
use Rattle.oram_semantics.specs.Nonces.{formatted_below}
use Rattle.oram_semantics.proofs.NoncesApart.{formatted_small, node_count-small}
use Rattle.oram_semantics.proofs.Bounds.{depth_small}
use Rattle.oram_core.proofs.Made.{below_next, whole_begun}
use Rattle.std.proofs.lemmas.Result.{IfOk-from_err}
use Rattle.oram_core.proofs.core_format.format_next.Goals as goal

pub format-requires-clause-nonces : goal.format-requires-clause-nonces
format-requires-clause-nonces g c =
    let d = c.args.device.now in
    omega (arith, formatted_small d c.args.tree, node_count-small (depth_of d c.args.tree) (depth_small d c.args.tree))

pub returns-in_err-made-clause-broken_off : goal.returns-in_err-made-clause-broken_off
returns-in_err-made-clause-broken_off g c =
    let begins = λ (k : ℕ). IsBegun (g.S.Sealer.cipher c.args.sealer.now) c.args.device.now k c.args.tree in
    let B = λ (k : ℕ). IsBrokenOff g.K.Sink.putting g.K.Sink.refusing (begins k) c.args.sink.now c.in_err-made.field-0.0 c.format.new.sink in
    if_err c.from_residual.result _ _ c.from_residual.ensures.1
    (λ fault same. broken_with g.K.Sink.putting g.K.Sink.refusing (begins (formatted_below c.args.device.now c.args.tree)) c.args.sink.now c.format.new.sink fault c.in_err-made.field-0.0 same
    (subst B c.requires.nonce c.in_err-made.ensures.broken_off))

pub returns-in-Err-clause-broken_off : goal.returns-in-Err-clause-broken_off
returns-in-Err-clause-broken_off g c =
    let whole = c.in_ok-made.ensures.made in
    record {
      taken = whole.0;
      begun = whole_begun (g.S.Sealer.cipher c.args.sealer.now) c.args.device.now c.args.so_far.now.nonce (formatted_below c.args.device.now c.args.tree) c.args.tree c.in_ok-made.made whole.0
          c.requires.nonce c.in_ok-made.ensures.number c.in_ok-made.ensures.stash whole.2;
      mid = c.format.new.sink;
      puts = whole.1;
      ended = inl (c.into.ensures, refl);
    }

pub overflow_add-so_far : goal.overflow_add-so_far
overflow_add-so_far g c =
    let d = c.args.device.now in
    let most : 2 ^ c.depth.result ≤ 2 ^ 24 = pow-le-pow_right (omega arith) c.depth.ensures.range in
    omega (arith, formatted_small d c.args.tree)

pub returns-clause-nonce : goal.returns-clause-nonce
returns-clause-nonce g c =
    let d = c.args.device.now in
    let most : 2 ^ c.depth.result ≤ 2 ^ 24 = pow-le-pow_right (omega arith) c.depth.ensures.range in
    let twice : 2 ^ (c.depth.result + 1) ≡ 2 ^ c.depth.result * 2 = pow-add 2 c.depth.result 1 in
    let deep : node_count (depth_of d c.args.tree) ≡ node_count c.depth.result = ap node_count (sym c.depth.ensures.count) in
    omega (arith, c.requires.nonce, below_next d c.args.tree)

pub returns-clause-made : goal.returns-clause-made
returns-clause-made g c =
    let whole = c.in_ok-made.ensures.made in
    let N = λ (k : ℕ). IsFormat (g.S.Sealer.cipher c.args.sealer.now) c.args.device.now k c.in_ok-made.made whole.0 in
    record {
      tree = c.in_ok-made.made;
      messages = whole.0;
      puts = whole.1;
      made = record { number = c.in_ok-made.ensures.number; made = subst N c.requires.nonce whole.2 };
      empty = c.in_ok-made.ensures.stash;
      joined = c.in_default.ensures.items;
    }

pub returns-in_err-made-clause-nonce : goal.returns-in_err-made-clause-nonce
returns-in_err-made-clause-nonce g c = IfOk-from_err c.from_residual.result _ c.from_residual.ensures.0

pub returns-in_err-made-clause-made : goal.returns-in_err-made-clause-made
returns-in_err-made-clause-made g c = IfOk-from_err c.from_residual.result _ c.from_residual.ensures.0
