use Rattle.std.proofs.Common.{ℕ, ◌+◌, ◌*◌, ◌∷◌, ◌++◌, [], List, slice_index, ap, sym, ◌∙◌, arith}
use Rattle.std.proofs.lemmas.List.FromFn.{map-range_with_len_more}
use Rattle.oram_session.specs.Tapes.{words_from}
use Rattle.oram_session.proofs.tapes.list.ListTapeTape.draw.Goals as goal

pub loop-j-preserved : goal.loop-j-preserved
loop-j-preserved c =
    let words = c.args.self.now.words.items in
    let start = c.from.result * c.args.count in
    let more = map-range_with_len_more (λ j. slice_index words (start + j)) 0 c.loop-j.j c.loop-j.j (omega arith) in
    c.in_ok-push.ensures.items ∙ ap (λ (xs : List ℕ). xs ++ c.word.result ∷ []) c.loop-j.invariant
    ∙ ap (λ (x : ℕ). words_from words start c.loop-j.j ++ x ∷ []) c.word.ensures ∙ sym more
