use Rattle.std.proofs.Common.{ℕ, List, [], ◌∷◌, sym, ap, ◌∙◌}
use Rattle.oram_bucket.proofs.KeystreamLemmas.{no_words, word_more, lanes_are}
use Rattle.oram_bucket.proofs.chacha.next_lanes.Goals as goal

pub returns : goal.returns
returns c =
    let start = c.args.generator.now in
    let words1 = word_more 0 start start c.next_word.new.self _ c.next_word.result (no_words start) c.next_word.ensures in
    let words2 = word_more 1 start c.next_word.new.self c.next_word-2.new.self _ c.next_word-2.result words1 c.next_word-2.ensures in
    let words3 = word_more 2 start c.next_word-2.new.self c.next_word-3.new.self _ c.next_word-3.result words2 c.next_word-3.ensures in
    let words4 = word_more 3 start c.next_word-3.new.self c.next_word-4.new.self _ c.next_word-4.result words3 c.next_word-4.ensures in
    let words5 = word_more 4 start c.next_word-4.new.self c.next_word-5.new.self _ c.next_word-5.result words4 c.next_word-5.ensures in
    let words6 = word_more 5 start c.next_word-5.new.self c.next_word-6.new.self _ c.next_word-6.result words5 c.next_word-6.ensures in
    let words7 = word_more 6 start c.next_word-6.new.self c.next_word-7.new.self _ c.next_word-7.result words6 c.next_word-7.ensures in
    let words8 = word_more 7 start c.next_word-7.new.self c.next_word-8.new.self _ c.next_word-8.result words7 c.next_word-8.ensures in
    let words9 = word_more 8 start c.next_word-8.new.self c.next_word-9.new.self _ c.next_word-9.result words8 c.next_word-9.ensures in
    let words10 = word_more 9 start c.next_word-9.new.self c.next_word-10.new.self _ c.next_word-10.result words9 c.next_word-10.ensures in
    let words11 = word_more 10 start c.next_word-10.new.self c.next_word-11.new.self _ c.next_word-11.result words10 c.next_word-11.ensures in
    let words12 = word_more 11 start c.next_word-11.new.self c.next_word-12.new.self _ c.next_word-12.result words11 c.next_word-12.ensures in
    let words13 = word_more 12 start c.next_word-12.new.self c.next_word-13.new.self _ c.next_word-13.result words12 c.next_word-13.ensures in
    let words14 = word_more 13 start c.next_word-13.new.self c.next_word-14.new.self _ c.next_word-14.result words13 c.next_word-14.ensures in
    let words15 = word_more 14 start c.next_word-14.new.self c.next_word-15.new.self _ c.next_word-15.result words14 c.next_word-15.ensures in
    let words16 = word_more 15 start c.next_word-15.new.self c.next_word-16.new.self _ c.next_word-16.result words15 c.next_word-16.ensures in
    ap (λ (l : List ℕ). (l, c.next_word-16.new.self)) (lanes_are (c.next_word.result ∷ c.next_word-2.result ∷ c.next_word-3.result ∷ c.next_word-4.result ∷ c.next_word-5.result ∷ c.next_word-6.result ∷ c.next_word-7.result ∷ c.next_word-8.result ∷ c.next_word-9.result ∷ c.next_word-10.result ∷ c.next_word-11.result ∷ c.next_word-12.result ∷ c.next_word-13.result ∷ c.next_word-14.result ∷ c.next_word-15.result ∷ c.next_word-16.result ∷ []) (c.next_word.type_inv, (c.next_word-2.type_inv, (c.next_word-3.type_inv, (c.next_word-4.type_inv, (c.next_word-5.type_inv, (c.next_word-6.type_inv, (c.next_word-7.type_inv, (c.next_word-8.type_inv, (c.next_word-9.type_inv, (c.next_word-10.type_inv, (c.next_word-11.type_inv, (c.next_word-12.type_inv, (c.next_word-13.type_inv, (c.next_word-14.type_inv, (c.next_word-15.type_inv, (c.next_word-16.type_inv, tt)))))))))))))))))
    ∙ sym words16
