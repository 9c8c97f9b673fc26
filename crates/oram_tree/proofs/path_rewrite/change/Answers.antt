use Rattle.std.proofs.Common.{◌≡◌, ℕ, List, Err, Vec, Global, Contains, length, sym, ap, subst, ◌∙◌}
use Rattle.std.proofs.lemmas.List.Elements.{All-contains, Contains-append_left, Contains-append_right}
use Rattle.oram_bucket.specs.Cell.{Cell}
use Rattle.oram_tree.specs.Edits.{edited_content, HasRoomFor}
use Rattle.oram_tree.specs.Access.{content_in}
use Rattle.oram_tree.proofs.Gathered.{duplicate_is, block_at-contains}
use Rattle.oram_tree.proofs.Rewrites.{waits_from, not_twice, before_len, content_of_own, content_of_other}
use Rattle.oram_tree.proofs.path_rewrite.change.Goals as goal
use Rattle.oram_tree.proofs.path_rewrite.change.Goals.{in-Some+in_ok-content-in-Some, in-None+in_ok-content-in-None}

pub unreachable-requires : goal.unreachable-requires
unreachable-requires c =
    let block : Cell = record { address = c.args.address; leaf = c.args.leaf; content = c.match-get.content.items } in
    let same = duplicate_is c.in-Err-Duplicate.field-0 c.in-Err-Duplicate.field-0-0 block c.in-Err-Duplicate.field-0-is c.in-Err-Duplicate.ensures.returned in
    not_twice c.args.near.now c.take_content.new.stash c.args.address c.in_ok-before.ensures.others (c.in-Err-Duplicate.ensures.duplicate.0 (ap Err same))

-- the stash's own block is as long as a block
pub apply-requires : goal.apply-requires
apply-requires c =
    let L : Cell → Type 0 = λ (b : Cell). length b.content ≡ c.args.device.now.block_bytes in
    let inside = block_at-contains c.args.stash.now c.args.address c.in-Some.block.now (sym c.in-Some.ensures) in
    let whole = All-contains L _ c.in-Some.block.now c.requires.whole (Contains-append_left c.args.stash.now c.args.near.now c.in-Some.block.now inside) in
    let P : ℕ → Type 0 = λ n. HasRoomFor n c.args.edit in
    subst P (sym (ap length (c.deref.ensures.value ∙ ap (λ (b : Cell). b.content) c.block.view_is) ∙ whole)) c.requires.edit

pub apply-requires-in-None : goal.apply-requires-in-None
apply-requires-in-None c =
    let len = before_len (Contains c.args.near.now) c.args.device.now.block_bytes c.args.address c.in_ok-before.found c.in_ok-before.before.items c.in_ok-before.ensures.lookup
    (λ b there. All-contains (λ (b : Cell). length b.content ≡ c.args.device.now.block_bytes) _ b c.requires.whole (Contains-append_right c.args.stash.now c.args.near.now b there)) in
    let P : ℕ → Type 0 = λ n. HasRoomFor n c.args.edit in
    subst P (sym (ap length c.deref-in-None.ensures.value ∙ len)) c.requires.edit

pub returns-in-Ok-clause-waits : goal.returns-in-Ok-clause-waits
returns-in-Ok-clause-waits c =
    let block : List ℕ → Cell = λ bytes. record { address = c.args.address; leaf = c.args.leaf; content = bytes } in
    let data_is : c.match-get.content.items ≡ edited_content c.args.edit (content_in c.args.stash.now c.args.address c.in_ok-before.before.items) = elim c.match-get.branch [
      | in-Some+in_ok-content-in-Some w ↦ ap (λ (v : Vec ℕ Global). v.items) w.content-is ∙ w.in_ok-content-in-Some.ensures ∙ ap (edited_content c.args.edit)
          (w.deref.ensures.value ∙ ap (λ (b : Cell). b.content) w.block.view_is ∙ sym (content_of_own c.args.stash.now c.args.address c.in_ok-before.before.items w.in-Some.block.now (sym w.in-Some.ensures)))
      | in-None+in_ok-content-in-None w ↦ ap (λ (v : Vec ℕ Global). v.items) w.content-is ∙ w.in_ok-content-in-None.ensures ∙ ap (edited_content c.args.edit)
          (w.deref-in-None.ensures.value ∙ sym (content_of_other c.args.stash.now c.args.address c.in_ok-before.before.items (sym w.in-None.ensures)))
    ] in
    waits_from c.args.near.now c.take_content.new.stash c.absorb.new.self (block c.match-get.content.items) (block (edited_content c.args.edit (content_in c.args.stash.now c.args.address c.in_ok-before.before.items))) (ap block data_is) c.in-Ok.ensures.ok c.in_ok-before.ensures.others
