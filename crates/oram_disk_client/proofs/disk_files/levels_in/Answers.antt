use Rattle.std.proofs.Common.{◌≡◌, ◌∙◌, ℕ, ap, arith, subst, sym}
use Rattle.oram_empty.specs.KeptDigests.{digests_len}
use Rattle.oram_geometry.specs.declared.Sizes.{Sizes}
use Rattle.oram_settings.specs.NearRecords.{IsNearLevels, near_len}
use Rattle.oram_disk_client.proofs.NearLevels.{its_levels}
use Rattle.oram_disk_client.proofs.disk_files.levels_in.Goals as goal

pub returns-then-near_len-near : goal.returns-then-near_len-near
returns-then-near_len-near g c = λ levels has.
    let device = c.args.core.now.device in
    let overhead = (g.S.Sealer.cipher c.args.core.now.sealer).overhead in
    let near = c.in_ok-near.near in
    let digests : c.digests_len.result ≡ digests_len device = c.digests_len.ensures.value ∙ ap digests_len c.device-device.ensures.value in
    let bytes : near ≡ near_len device overhead levels = omega (arith, has.whole, digests, c.in_ok-near.ensures) in
    let again = subst (λ (d : Sizes). IsNearLevels d overhead near levels) (sym c.device-device.ensures.value) (its_levels device overhead levels near has.above_leaves bytes) in
    let same = c.near_levels-levels.ensures.only levels (subst (λ (o : ℕ). IsNearLevels c.device-device.result.now o near levels) (sym c.overhead.ensures) again) in
    let known : c.near_len.result ≡ near = cc (c.near_len.ensures.value, c.device-device.ensures.value, c.overhead-2.ensures, same, bytes) in
    c.if-near_len-near.true known
