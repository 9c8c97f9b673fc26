use Rattle.std.proofs.Common.{◌≡◌, refl, ap, arith, length, sym, ◌∙◌, ◌++◌, ◌∷◌}
use Rattle.std.proofs.lemmas.List.{length-take}
use Rattle.oram_client.specs.DiskHead.{sealer_byte}
use Rattle.oram_client.proofs.Letters.{joined, parted}
use Rattle.oram_client.proofs.disk_head.read_head.Goals as goal

pub returns-in_err-of-clause-none : goal.returns-in_err-of-clause-none
returns-in_err-of-clause-none c none head others is whole =
    let salt = c.in_ok-salt.ensures.cases in
    let check = c.in_ok-check.ensures.cases in
    let first = c.in_ok-byte.ensures.cases in
    let byte : c.in_ok-byte.byte.now ∷ c.in_ok-byte.rest.now ≡ sealer_byte head.sealer ∷ others =
    sym first.0 ∙ parted head others c.args.rest.now c.in_ok-salt.rest.now c.in_ok-check.rest.now is whole salt.1 check.1 in
    c.in_err-of.ensures.none refl head.sealer (cc)

pub returns-clause-some : goal.returns-clause-some
returns-clause-some c =
    let salt = c.in_ok-salt.ensures.cases in
    let check = c.in_ok-check.ensures.cases in
    let first = c.in_ok-byte.ensures.cases in
    let kind = c.in_ok-of.ensures.some in
    joined c.args.rest.now c.in_ok-salt.salt.now c.in_ok-salt.rest.now c.in_ok-check.check.now c.in_ok-check.rest.now salt.0 salt.1 check.0 check.1
    ∙ ap (λ l. c.in_ok-salt.salt.now ++ (c.in_ok-check.check.now ++ l)) (first.0 ∙ ap (λ b. b ∷ c.in_ok-byte.rest.now) kind)

pub returns-clause-head : goal.returns-clause-head
returns-clause-head c =
    let salt = c.in_ok-salt.ensures.cases in
    let check = c.in_ok-check.ensures.cases in
    record {
      salt = omega (arith, ap length salt.0, length-take 32 c.args.rest.now, salt.2);
      key_check = omega (arith, ap length check.0, length-take 32 c.in_ok-salt.rest.now, check.2);
    }
