use Rattle.std.proofs.Common.{◌≡◌, ℕ, List, Err, sym, ap, subst, ◌∙◌}
use Rattle.std.proofs.lemmas.Result.{err_from_is_err_and}
use Rattle.oram_hash.specs.Path.{with_bytes}
use Rattle.oram_bucket.specs.Cell.{Cell}
use Rattle.oram_bucket.specs.SealedBlocks.{Reads}
use Rattle.oram_tree.specs.State.{State}
use Rattle.oram_tree.specs.Edits.{edited_block}
use Rattle.oram_tree.specs.Access.{IsNear, IsReadable, IsLookup, IsRewritten, IsUpdate}
use Rattle.oram_tree.proofs.Rewrites.{updated, readable_before, only_memory, moved, gained_is}
use Rattle.oram_tree.proofs.Tree.access_to.Goals as goal

-- a stored tree is readable, so memory ran out
pub returns-in_err-lookup-clause-updates : goal.returns-in_err-lookup-clause-updates
returns-in_err-lookup-clause-updates g c records content stored path named =
    let opening = (g.S.Sealer.cipher c.args.sealer.now).opening in
    let reads = λ (n : ℕ). Reads opening c.args.device.now n in
    let number_is : c.args.self.now.number ≡ c.self.inside.number = sym (ap (λ (t : State). t.number) c.self.view_is) in
    let stash_is : c.args.self.now.stash ≡ c.self.inside.stash = sym (ap (λ (t : State). t.stash) c.self.view_is) in
    let readable = moved (λ n xs. IsReadable (reads n) c.args.path.now xs) _ _ _ _ number_is stash_is
    (readable_before opening (g.S.Sealer.cipher c.args.sealer.now).overhead c.args.request.old_leaf c.args.device.now c.args.path.now c.args.self.now records content c.requires.path c.requires.old_leaf stored path) in
    let p = err_from_is_err_and c.from_residual.result c.from_residual.ensures.1 in
    rw p.1 (only_memory p.0 (λ unreadable. c.rewrite.ensures.unreadable (c.in_err-lookup.was ∙ ap Err (sym p.2 ∙ unreadable)) readable))

pub returns-clause-updates : goal.returns-clause-updates
returns-clause-updates g c records content stored path named gained e =
    let opening = (g.S.Sealer.cipher c.args.sealer.now).opening in
    let cipher = g.S.Sealer.cipher c.args.sealer.now in
    let overhead = (g.S.Sealer.cipher c.args.sealer.now).overhead in
    let device = c.args.device.now in
    let view = c.args.path.now in
    let lookup = c.in_ok-lookup.lookup in
    let root = c.in_ok-lookup.root in
    let stash = c.rewrite.new.stash in
    let w = c.in_ok-lookup.ensures.written in
    let bytes : List ℕ = w.0 in
    let cell = edited_block c.args.request.address c.args.request.new_leaf c.args.edit lookup.before.items in
    let number_is : c.self.inside.number ≡ c.args.self.now.number = ap (λ (t : State). t.number) c.self.view_is in
    let stash_is : c.self.inside.stash ≡ c.args.self.now.stash = ap (λ (t : State). t.stash) c.self.view_is in
    let reads = λ (n : ℕ). Reads opening device n in
    let looked = moved (λ n xs. IsLookup (IsNear (reads n) view xs) device.block_bytes c.args.request.address lookup.found lookup.before.items) _ _ _ _ number_is stash_is c.in_ok-lookup.ensures.lookup in
    let written = moved (λ n xs. IsRewritten (record { device = device; tree = n; cipher = cipher; path = view; nonce = c.args.request.nonce }) xs (with_bytes view bytes) cell stash) _ _ _ _ number_is stash_is w.3 in
    let P : ℕ → List ℕ → Type 0 = λ n bs. let after : State = record { number = n; root = root; stash = stash } in IsUpdate (record { device = device; cipher = cipher; path = view; written = with_bytes view bs; records = records; content = content; block = cell; found = lookup.found; before = lookup.before.items; after = after }) in
    let is : bytes ≡ gained = gained_is c.args.out.now.items c.rewrite.new.out.items bytes gained w.1 e in
    subst (P c.self.inside.number) is (let Q : ℕ → Type 0 = λ n. P n bytes in subst Q (sym number_is)
    (updated cipher c.args.request.nonce c.args.request.old_leaf device view bytes c.args.self.now root stash records content cell lookup.found lookup.before.items
    c.trees.ensures.ranges c.requires.path c.requires.old_leaf stored path named looked written w.4))

pub returns-clause-written : goal.returns-clause-written
returns-clause-written g c gained e =
    let device = c.args.device.now in
    let view = c.args.path.now in
    let w = c.in_ok-lookup.ensures.written in
    let cell = edited_block c.args.request.address c.args.request.new_leaf c.args.edit c.in_ok-lookup.lookup.before.items in
    let number_is : c.self.inside.number ≡ c.args.self.now.number = ap (λ (t : State). t.number) c.self.view_is in
    let stash_is : c.self.inside.stash ≡ c.args.self.now.stash = ap (λ (t : State). t.stash) c.self.view_is in
    let W = λ (n : ℕ) (xs : List Cell) (bs : List ℕ). IsRewritten (record { device = device; tree = n; cipher = g.S.Sealer.cipher c.args.sealer.now; path = view; nonce = c.args.request.nonce }) xs (with_bytes view bs) cell c.rewrite.new.stash in
    let is : w.0 ≡ gained = gained_is c.args.out.now.items c.rewrite.new.out.items w.0 gained w.1 e in
    let P : List ℕ → Type 0 = W c.args.self.now.number c.args.self.now.stash in
    subst P is (moved (λ n xs. W n xs w.0) _ _ _ _ number_is stash_is w.3)
