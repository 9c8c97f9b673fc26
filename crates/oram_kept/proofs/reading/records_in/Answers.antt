use Rattle.std.proofs.Common.{◌≡◌, ℕ, List, ◌+◌, ◌-◌, ◌*◌, ◌<◌, take, drop, sym, ap, ◌∙◌, subst, arith}
use Rattle.std.specs.Prelude.{min, not}
use Rattle.oram_kept.specs.Layout.{bytes_on, page_at, page_of, pages_for}
use Rattle.oram_redo.specs.Content.{Has}
use Rattle.oram_kept.proofs.ReadPages.{bytes_are, none_of, one_moved, page_has, page_is, some_of}
use Rattle.oram_kept.proofs.reading.records_in.Goals as goal

pub returns-then-is_none-clause-none : goal.returns-then-is_none-clause-none
returns-then-is_none-clause-none c none start content has bytes long there =
    let pages : List ℕ = c.args.pages.items in
    let i : ℕ = c.loop-index.index in
    let k : ℕ = i * 1024 + c.min-on_page.result + 8 - i * 1024 in
    let is : k ≡ min (c.args.len - i * 1016) 1016 + 8 = omega (arith, c.min-on_page.ensures) in
    let within : i < pages_for c.args.len = omega (arith, c.loop-index-test.true, c.pages_for-index-end.ensures) in
    c.sound_bytes.ensures.none (none_of c.sound_bytes.result (c.is_none.ensures ∙ ap not c.if-is_none.true)) (bytes_on bytes i)
    (page_is pages c.args.len i k c.requires.whole within is start content has bytes long there ∙ sym (ap (take k) (ap (drop (i * 1024)) c.deref.ensures.value ∙ c.loop-index.invariant.rest)))

pub loop-index-preserved : goal.loop-index-preserved
loop-index-preserved c =
    let pages : List ℕ = c.args.pages.items in
    let i : ℕ = c.loop-index.index in
    let k : ℕ = i * 1024 + c.min-on_page.result + 8 - i * 1024 in
    let n : ℕ = i * 1024 + c.min-on_page.result - i * 1024 in
    let is : k ≡ min (c.args.len - i * 1016) 1016 + 8 = omega (arith, c.min-on_page.ensures) in
    let on : n ≡ min (c.args.len - i * 1016) 1016 = omega (arith, c.min-on_page.ensures) in
    let within : i < pages_for c.args.len = omega (arith, c.loop-index-test.true, c.pages_for-index-end.ensures) in
    let sound = some_of c.sound_bytes.result (c.is_none.ensures ∙ ap not c.if-is_none.false) c.sound_bytes.ensures.found in
    let bytes : List ℕ = sound.0.now in
    let page : page_of bytes ≡ take k (drop (i * 1024) pages) = sound.1 ∙ ap (take k) (ap (drop (i * 1024)) c.deref.ensures.value ∙ c.loop-index.invariant.rest) in
    one_moved pages c.args.len i n c.loop-index.pages.items c.copy_within.new.self.items c.requires.whole within on c.loop-index.invariant c.copy_within.ensures.items
    (λ start content has. subst (λ (l : List ℕ). Has (page_of l) (page_at start i) content) (bytes_are pages c.args.len i k c.requires.whole within is bytes n on page)
    (subst (λ (l : List ℕ). Has l (page_at start i) content) (sym page) (page_has pages c.args.len i k c.requires.whole within is start content has)))
