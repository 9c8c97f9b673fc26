use Rattle.std.proofs.Common.{ℕ, ◌+◌, ◌*◌, ◌++◌, List, [], ◌∷◌, map, arith, ap, sym, ◌∙◌, refl}
use Rattle.std.specs.List.{range_with_len}
use Rattle.std.proofs.lemmas.List.FromFn.{map-range_with_len_more}
use Rattle.oram_rounds.proofs.Texts.{texts_by}
use Rattle.oram_export.specs.Requests.{request_at}
use Rattle.oram_export.proofs.Asked.{batch_is}
use Rattle.oram_export.proofs.batches.Requests.batch.Goals as goal

pub loop-at-preserved : goal.loop-at-preserved
loop-at-preserved c =
    let r = c.args.self.now in
    let first = c.args.index * 16 in
    let at = c.loop-at.at in
    texts_by c.push.new.bodies.items c.loop-at.bodies.items c.in_ok-request.field-0 c.in_ok-push.ensures
    ∙ ap (λ (bodies : List (List ℕ)). bodies ++ c.in_ok-request.field-0.items ∷ []) c.loop-at.invariant
    ∙ ap (λ (body : List ℕ). map (request_at r) (range_with_len first at) ++ body ∷ []) c.in_ok-request.ensures
    ∙ sym (map-range_with_len_more (request_at r) first at (first + at) refl)

pub returns : goal.returns
returns c = c.loop-at.invariant ∙ batch_is c.args.self.now c.args.index c.loop-at.at (omega arith)
