use Rattle.std.proofs.Common.{map, inl, inr, refl}
use Rattle.oram_trace.proofs.Apart.{places_apart}
use Rattle.oram_semantics.proofs.NoncesApart.{nonces_apart}
use Rattle.oram_semantics.specs.Run.{shown_by}
use Rattle.oram_wire.specs.ListOfBodies.{bodies_in}
use Rattle.oram_core.specs.Core.{scheme_of, scheme_with}
use Rattle.oram_core.proofs.WholeRuns.{cut_short, right_along, whole_along, new_scheme, all_carried, fewer_carried}
use Rattle.oram_core.proofs.whole.run.Goals as goal

pub returns-in_default-clause-places : goal.returns-in_default-clause-places
returns-in_default-clause-places g c = places_apart c.args.device

pub returns-in_default-clause-nonces : goal.returns-in_default-clause-nonces
returns-in_default-clause-nonces g c = nonces_apart c.args.device

pub returns-in_default-clause-formatted : goal.returns-in_default-clause-formatted
returns-in_default-clause-formatted g c =
    let v = scheme_with g.S.Sealer.cipher c.args.device c.args.sealer in
    inl (cut_short v c.in_default.field-0 c.new-sink.result c.format.new.sink _ c.new-sink.ensures c.into_bodies.ensures c.new-reactions.ensures.items refl c.in_default.ensures.broken_off)

pub returns-clause-right : goal.returns-clause-right
returns-clause-right g c =
    let v = scheme_with g.S.Sealer.cipher c.args.device c.args.sealer in
    let core = c.in-Ok.core in
    right_along v (scheme_of g.S.Sealer.cipher core) core.state c.new-sink.result c.format.new.sink (bodies_in c.into_bodies-2.result.items) c.args.events.now (map shown_by c.step_all-stepped.new.reactions.items) c.new-sink.ensures c.into_bodies-2.ensures
    (new_scheme g.S.Sealer.cipher core c.args.device c.args.sealer c.in-Ok.ensures.device c.in-Ok.ensures.sealer) c.in-Ok.ensures.made c.step_all-stepped.ensures.along

pub returns-clause-places : goal.returns-clause-places
returns-clause-places g c = places_apart c.args.device

pub returns-clause-nonces : goal.returns-clause-nonces
returns-clause-nonces g c = nonces_apart c.args.device

pub returns-clause-formatted : goal.returns-clause-formatted
returns-clause-formatted g c =
    let v = scheme_with g.S.Sealer.cipher c.args.device c.args.sealer in
    inr (record {
      whole = whole_along v c.in-Ok.core.state c.new-sink.result c.format.new.sink c.into_bodies-2.result.items c.new-sink.ensures c.into_bodies-2.ensures c.in-Ok.ensures.made;
      all = all_carried c.step_all-stepped.result c.is_err.result _ _ c.is_err.ensures.value c.step_all-stepped.ensures.complete;
      fewer = fewer_carried c.step_all-stepped.result c.is_err.result _ _ c.is_err.ensures.value c.step_all-stepped.ensures.fewer;
    })
