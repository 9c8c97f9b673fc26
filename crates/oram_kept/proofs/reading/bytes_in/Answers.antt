use Rattle.std.proofs.Common.{◌≡◌, ℕ, ◌+◌, ◌-◌, ◌*◌, sym, subst, arith, List}
use Rattle.std.specs.Prelude.{min}
use Rattle.oram_kept.specs.Layout.{bytes_on, page_at}
use Rattle.oram_redo.specs.Content.{Has}
use Rattle.oram_kept.proofs.ReadPages.{if_some, on_page, page_has, page_is}
use Rattle.oram_kept.proofs.reading.bytes_in.Goals as goal

pub returns-clause-long : goal.returns-clause-long
returns-clause-long c =
    let i : ℕ = c.args.index in
    let k : ℕ = i * 1024 + c.min-on_page.result + 8 - i * 1024 in
    let is : k ≡ min (c.args.len - i * 1016) 1016 + 8 = omega (arith, c.min-on_page.ensures) in
    if_some c.sound_bytes.result c.sound_bytes.ensures.found (λ bytes page. on_page c.args.pages.now c.args.len i k c.requires.whole c.requires.within is bytes.now page)

pub returns-clause-found : goal.returns-clause-found
returns-clause-found c =
    let i : ℕ = c.args.index in
    let k : ℕ = i * 1024 + c.min-on_page.result + 8 - i * 1024 in
    let is : k ≡ min (c.args.len - i * 1016) 1016 + 8 = omega (arith, c.min-on_page.ensures) in
    if_some c.sound_bytes.result c.sound_bytes.ensures.found
    (λ bytes page start content has. subst (λ (l : List ℕ). Has l (page_at start i) content) (sym page) (page_has c.args.pages.now c.args.len i k c.requires.whole c.requires.within is start content has))

pub returns-clause-none : goal.returns-clause-none
returns-clause-none c none start content has bytes long there =
    let i : ℕ = c.args.index in
    let k : ℕ = i * 1024 + c.min-on_page.result + 8 - i * 1024 in
    let is : k ≡ min (c.args.len - i * 1016) 1016 + 8 = omega (arith, c.min-on_page.ensures) in
    c.sound_bytes.ensures.none none (bytes_on bytes i) (page_is c.args.pages.now c.args.len i k c.requires.whole c.requires.within is start content has bytes long there)
