use Rattle.std.proofs.Common.{◌≡◌, ℕ, List, ap, arith, sym}
use Rattle.std.proofs.lemmas.Result.{MatchResult-weaker}
use Rattle.oram_geometry.specs.Sizes.{record_len_of}
use Rattle.oram_near.specs.Near.{AreNoted, Near}
use Rattle.oram_rounds.specs.Batches.{texts}
use Rattle.oram_disk_client.proofs.Told.{noted_at_first, noted_behind_stores}
use Rattle.oram_disk_client.proofs.host_asked.path_link.Goals as goal

pub new-requires-clause-some : goal.new-requires-clause-some
unfolding record_len_of
new-requires-clause-some g c = omega (arith, c.record_len.ensures.value)

pub returns-clause-tells : goal.returns-clause-tells
returns-clause-tells g c =
    let kept = c.args.records.items in
    let bytes : kept ≡ c.in_ok-near.near.bytes = sym (ap (λ (n : Near). n.bytes) c.in_ok-near.ensures) in
    let noted : AreNoted kept c.forget_changes.new.self = noted_at_first c.in_ok-near.near c.forget_changes.new.self kept bytes c.forget_changes.ensures in
    MatchResult-weaker c.with_unsure.result c.with_unsure.ensures.ok (λ l takes. noted_behind_stores _ l (texts c.args.stores.now) kept noted takes) (λ fault none. tt)
