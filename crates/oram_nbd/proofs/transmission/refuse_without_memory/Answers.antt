use Rattle.std.proofs.Common.{[], ◌∷◌, refl, sym, ◌∙◌, subst}
use Rattle.std.proofs.lemmas.Result.{err_from_is_err_and}
use Rattle.std.specs.Io.KnownBytes.{Appends}
use Rattle.oram_nbd.specs.Batches.{refusals_text}
use Rattle.oram_nbd.specs.Streams.{IsBegunText}
use Rattle.oram_nbd.specs.declared.requests.Request.{Request}
use Rattle.oram_nbd.proofs.Gathered.{without_memory_one}
use Rattle.oram_nbd.proofs.Pieces.{if_err}
use Rattle.oram_nbd.proofs.transmission.refuse_without_memory.Goals as goal

pub returns-in_ok-put_refusals-in-NoRoom-clause-ok : goal.returns-in_ok-put_refusals-in-NoRoom-clause-ok
returns-in_ok-put_refusals-in-NoRoom-clause-ok g c = λ part unread ends.
    let k = without_memory_one c.args.close c.in-NoRoom.request part unread c.in-NoRoom.is ends in (
      k.0 ∷ [],
      [],
      k.1,
      refl,
      subst (λ (r : Request). Appends (g.W.Write.contents c.args.writer.now) (g.W.Write.contents c.put_refusals.new.writer) (refusals_text c.args.size (r ∷ []) c.args.error)) (sym k.2)
          c.in_ok-put_refusals-in-NoRoom.ensures.ok,
    )

pub returns-in_err-put_refusals-in-NoRoom-clause-err : goal.returns-in_err-put_refusals-in-NoRoom-clause-err
returns-in_err-put_refusals-in-NoRoom-clause-err g c =
    let p = err_from_is_err_and c.from_residual.result c.from_residual.ensures.1 in
    if_err _ _ _ _ p.1 (p.2 ∙ c.in_err-put_refusals-in-NoRoom.ensures.err.0) (
      refl,
      λ part unread ends.
          let k = without_memory_one c.args.close c.in-NoRoom.request part unread c.in-NoRoom.is ends in (
            k.0 ∷ [],
            [],
            k.1,
            subst (λ (r : Request). IsBegunText (g.W.Write.contents c.args.writer.now) (g.W.Write.contents c.put_refusals.new.writer) (refusals_text c.args.size (r ∷ []) c.args.error)) (sym k.2)
                c.in_err-put_refusals-in-NoRoom.ensures.err.1,
          ),
    )
