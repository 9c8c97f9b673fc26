use Rattle.std.proofs.Common.{◌≡◌, ◌++◌, if◌then◌else◌, ℕ, slice_set, ◌+◌, ◌*◌, ◌^◌, ◌<◌, length, ap, MatchResult, OnOk, Err, ◌∷◌, List, slice_index_or, refl, sym, ◌∙◌, subst, ◌%◌}
use Rattle.std.specs.List.{All}
use Rattle.oram_geometry.specs.Sizes.{depth_of, trees_of, blocks_in}
use Rattle.oram_bucket.specs.Bucket.{IsBlockOf}
use Rattle.oram_semantics.specs.Content.{block_of, new_leaf}
use Rattle.oram_semantics.specs.declared.events.Submission.{Submission}
use Rattle.oram_core.specs.Core.{CoreValue, IsNotedSince, IsSound, scheme_of}
use Rattle.oram_core.proofs.Sound.{nonce_small, stage_within}
use Rattle.oram_semantics.specs.Content.{entry_tree}
use Rattle.oram_semantics.specs.declared.events.Reason.TheVariants as reason
use Rattle.oram_core.specs.PlainSteps.{done, failed_by, stored_by, is_misled}
use Rattle.oram_core.specs.Steps.{Heard}
use Rattle.oram_core.proofs.Heard.{taken_heard, failed_heard, on_err}
use Rattle.oram_core.proofs.Judged.{access_used, unreadable_used, readable_now, readable_in, looked_now}
use Rattle.oram_core.proofs.LocalRule.{Waits, waits}
use Rattle.oram_core.proofs.AnswerVerdicts.{lends, gives_back, lent_within}
use Rattle.oram_core.proofs.Accesses.{access_moves, ready_tree}
use Rattle.oram_hash.specs.Path.{Path, path_of, with_bytes}
use Rattle.oram_bucket.specs.Cell.{Cell}
use Rattle.oram_bucket.specs.SealedBlocks.{Reads}
use Rattle.oram_hash.specs.Tree.{IsPathOf}
use Rattle.oram_tree.specs.Content.{Map}
use Rattle.oram_tree.specs.State.{IsStoredWith}
use Rattle.oram_tree.specs.Access.{IsAtOrAbsent, IsLookup, IsNear, IsReadable, IsRewritten, IsUpdate}
use Rattle.oram_tree.specs.Edits.{edited_block, edited_content}
use Rattle.oram_tree.specs.declared.faults.TreeFault.TheVariants as fault
use Rattle.oram_semantics.specs.Blocks.{block_after}
use Rattle.oram_wire.specs.HostMessages.{store_body}
use Rattle.oram_semantics.specs.Messages.{requested}
use Rattle.oram_semantics.specs.Scheme.{record_len}
use Rattle.std.proofs.lemmas.Result.{IfOk-from_err}
use Rattle.oram_semantics.specs.Progress.Status.{Waiting}
use Rattle.oram_semantics.specs.State.{status_in}
use Rattle.oram_core.proofs.Lengths.{from_root, levels_fit, path_fits, message_fits, store_fits}
use Rattle.oram_core.proofs.machine.Core.store.Goals as goal

pub access_to-looked-requires-clause-old_leaf : goal.access_to-looked-requires-clause-old_leaf
access_to-looked-requires-clause-old_leaf g c =
    let h = lends g.S.Sealer.cipher _ c.args.self.now c.index_mut.result.now c.from.result c.path_access-path_access.result.tree c.self.view_is c.self.invariant c.requires.waiting c.from.ensures c.path_access-path_access.ensures.tree c.index_mut.ensures.value in
    subst (λ (u : CoreValue g.row.S.Denot). c.path_access-path_access.result.leaf < 2 ^ depth_of u.device c.index_mut.result.now.number) (sym c.self.view_is) (rw h.number c.path_access-path_access.ensures.ranges.2)

pub access_to-looked-requires-clause-new_leaf : goal.access_to-looked-requires-clause-new_leaf
access_to-looked-requires-clause-new_leaf g c =
    let h = lends g.S.Sealer.cipher _ c.args.self.now c.index_mut.result.now c.from.result c.path_access-path_access.result.tree c.self.view_is c.self.invariant c.requires.waiting c.from.ensures c.path_access-path_access.ensures.tree c.index_mut.ensures.value in
    subst (λ (u : CoreValue g.row.S.Denot). c.path_access-path_access.result.new_leaf < 2 ^ depth_of u.device c.index_mut.result.now.number) (sym c.self.view_is) (rw h.number c.path_access-path_access.ensures.ranges.3)

pub access_to-looked-requires-clause-nonces : goal.access_to-looked-requires-clause-nonces
access_to-looked-requires-clause-nonces g c =
    let now = c.args.self.now in
    let v = scheme_of g.S.Sealer.cipher now in
    let h = lends g.S.Sealer.cipher _ c.args.self.now c.index_mut.result.now c.from.result c.path_access-path_access.result.tree c.self.view_is c.self.invariant c.requires.waiting c.from.ensures c.path_access-path_access.ensures.tree c.index_mut.ensures.value in
    subst (λ (u : CoreValue g.row.S.Denot). u.state.nonce + depth_of u.device c.index_mut.result.now.number < 2 ^ 64) (sym c.self.view_is) (rw h.at.number (nonce_small v.device v.cipher.overhead now.state h.sound (waits now.state c.requires.waiting).healthy))

pub access_to-looked-requires-clause-edit : goal.access_to-looked-requires-clause-edit
access_to-looked-requires-clause-edit g c =
    let h = lends g.S.Sealer.cipher _ c.args.self.now c.index_mut.result.now c.from.result c.path_access-path_access.result.tree c.self.view_is c.self.invariant c.requires.waiting c.from.ensures c.path_access-path_access.ensures.tree c.index_mut.ensures.value in
    rw h.number c.edit_for.ensures.edit

pub access_to-looked-requires-clause-blocks : goal.access_to-looked-requires-clause-blocks
access_to-looked-requires-clause-blocks g c =
    let h = lends g.S.Sealer.cipher _ c.args.self.now c.index_mut.result.now c.from.result c.path_access-path_access.result.tree c.self.view_is c.self.invariant c.requires.waiting c.from.ensures c.path_access-path_access.ensures.tree c.index_mut.ensures.value in
    subst (λ (u : CoreValue g.row.S.Denot). All (IsBlockOf u.device c.index_mut.result.now.number) c.index_mut.result.now.stash) (sym c.self.view_is) (rw h.at.number h.at.blocks)

pub adopt_access-requires-clause-oldest : goal.adopt_access-requires-clause-oldest
adopt_access-requires-clause-oldest g c =
    subst (λ (u : CoreValue g.row.S.Denot). (x : Submission) (rest : List Submission) → u.state.queue ≡ x ∷ rest → (c.path_access-path_access.result.block ≡ block_of u.device c.path_access-path_access.result.tree x) × (c.path_access-path_access.result.new_leaf ≡ new_leaf u.device c.path_access-path_access.result.tree x)) (sym c.self.view_is) c.path_access-path_access.ensures.oldest

pub invariant_of-self : goal.invariant_of-self
invariant_of-self g c =
    let h = lends g.S.Sealer.cipher _ c.args.self.now c.index_mut.result.now c.from.result c.path_access-path_access.result.tree c.self.view_is c.self.invariant c.requires.waiting c.from.ensures c.path_access-path_access.ensures.tree c.index_mut.ensures.value in
    gives_back g.S.Sealer.cipher _ c.args.self.now c.index_mut.result.now c.access_to-looked.new.self c.from.result c.path_access-path_access.result.tree c.self.view_is c.self.invariant c.requires.waiting c.from.ensures c.path_access-path_access.ensures.ranges.0 h.number c.access_to-looked.ensures.number c.access_to-looked.ensures.blocks

pub invariant_of-self-in-Unreadable : goal.invariant_of-self-in-Unreadable
invariant_of-self-in-Unreadable g c =
    let h = lends g.S.Sealer.cipher _ c.args.self.now c.index_mut.result.now c.from.result c.path_access-path_access.result.tree c.self.view_is c.self.invariant c.requires.waiting c.from.ensures c.path_access-path_access.ensures.tree c.index_mut.ensures.value in
    gives_back g.S.Sealer.cipher _ c.args.self.now c.index_mut.result.now c.access_to-looked.new.self c.from.result c.path_access-path_access.result.tree c.self.view_is c.self.invariant c.requires.waiting c.from.ensures c.path_access-path_access.ensures.ranges.0 h.number c.access_to-looked.ensures.number c.access_to-looked.ensures.blocks

pub returns-in-Ok-clause-moves : goal.returns-in-Ok-clause-moves
returns-in-Ok-clause-moves g c = λ w fits on_path.
    let now = c.args.self.now in
    let v = scheme_of g.S.Sealer.cipher now in
    let tree_lent = c.index_mut.result.now in
    let h = lends g.S.Sealer.cipher _ c.args.self.now c.index_mut.result.now c.from.result c.path_access-path_access.result.tree c.self.view_is c.self.invariant c.requires.waiting c.from.ensures c.path_access-path_access.ensures.tree c.index_mut.ensures.value in
    let o : Waits now.state = waits now.state c.requires.waiting in
    let i = entry_tree now.device now.state.entry_number in
    let new = c.access_to-looked.new.self in
    let before = c.in-Ok.lookup.before.items in
    let records = c.in-Ok.ensures.appends.0 in
    let message = c.access_to-looked.new.out.items in
    let header = c.in_ok-message.message.items in
    let gained : message ≡ header ++ records = c.in-Ok.ensures.appends.1 in
    let body : message ≡ store_body c.path_access-path_access.result.tree c.path_access-path_access.result.leaf records = gained ∙ c.in_ok-message.ensures.items records in
    let found = c.in-Ok.lookup.found in
    let path = c.args.path.now in
    let why = reason.Tampered i 0 in
    let does = subst (λ (u : CoreValue g.row.S.Denot). (x : Submission) (rest : List Submission) (records : List ℕ) → u.state.queue ≡ x ∷ rest → message ≡ store_body c.path_access-path_access.result.tree c.path_access-path_access.result.leaf records → done c.adopt_access.result c.adopt_access.new.self.state ≡ (let s' = record u.state { trees = slice_set u.state.trees c.from.result new } in if is_misled (scheme_of g.S.Sealer.cipher u) s' x found before then failed_by s' (reason.Tampered (entry_tree u.device u.state.entry_number) 0) else stored_by (scheme_of g.S.Sealer.cipher u) s' x before records)) c.self.view_is c.adopt_access.ensures.ok in
    let does_at = subst (λ (k : ℕ). done c.adopt_access.result c.adopt_access.new.self.state ≡ (let s' = record now.state { trees = slice_set now.state.trees k new } in if is_misled v s' o.oldest found before then failed_by s' why else stored_by v s' o.oldest before records)) (c.from.ensures ∙ c.path_access-path_access.ensures.tree) (does o.oldest o.rest records o.queue body) in
    let block : Cell = edited_block c.path_access-path_access.result.block c.path_access-path_access.result.new_leaf c.edit_for.result before in
    let written : IsRewritten (record { device = now.device; tree = tree_lent.number; cipher = v.cipher; path = path; nonce = now.state.nonce }) tree_lent.stash (with_bytes path records) block new.stash =
    subst (λ (u : CoreValue g.row.S.Denot). IsRewritten (record { device = u.device; tree = tree_lent.number; cipher = g.S.Sealer.cipher u.sealer; path = path; nonce = u.state.nonce }) tree_lent.stash (with_bytes path records) block new.stash) c.self.view_is (c.in-Ok.ensures.written records gained) in
    let long : length records ≡ (depth_of now.device i + 1) * record_len v = c.in-Ok.ensures.whole records gained ∙ ap (λ (p : Path). (p.depth + 1) * p.record_len) c.requires.path in
    let x = o.oldest in
    let tree = c.path_access-path_access.ensures.tree in
    let ob = c.path_access-path_access.ensures.oldest o.oldest o.rest o.queue in
    let at_block : c.path_access-path_access.result.block ≡ block_of now.device i x = ob.0 ∙ ap (λ (k : ℕ). block_of now.device k x) tree in
    let at_leaf : c.path_access-path_access.result.new_leaf ≡ new_leaf now.device i x = ob.1 ∙ ap (λ (k : ℕ). new_leaf now.device k x) tree in
    let first : c.index.result.now ≡ x = subst (λ (u : CoreValue g.row.S.Denot). c.index.result.now ≡ slice_index_or u.state.queue 0 c.index.result.now) c.self.view_is c.index.ensures ∙ ap (λ q. slice_index_or q 0 c.index.result.now) o.queue in
    let content : edited_content c.edit_for.result before ≡ block_after now.device i x before =
    subst (λ (u : CoreValue g.row.S.Denot). edited_content c.edit_for.result before ≡ block_after u.device c.path_access-path_access.result.tree c.index.result.now before) c.self.view_is (c.edit_for.ensures.block before)
    ∙ ap (λ (k : ℕ). block_after now.device k c.index.result.now before) tree ∙ ap (λ (y : Submission). block_after now.device i y before) first in
    let cell : Cell = record { address = block_of now.device i x; leaf = new_leaf now.device i x; content = block_after now.device i x before } in
    let same : block ≡ cell =
    ap (λ (k : ℕ). let d : Cell = record { address = k; leaf = c.path_access-path_access.result.new_leaf; content = edited_content c.edit_for.result before } in d) at_block
    ∙ ap (λ (k : ℕ). let d : Cell = record { address = block_of now.device i x; leaf = k; content = edited_content c.edit_for.result before } in d) at_leaf
    ∙ ap (λ (b : List ℕ). let d : Cell = record { address = block_of now.device i x; leaf = new_leaf now.device i x; content = b } in d) content in
    let ready = ready_tree v now.state w tree_lent o h.sound c.requires.entry_number fits h.at in
    let absent : IsAtOrAbsent (w.content i) c.path_access-path_access.result.block c.path_access-path_access.result.leaf =
    subst (λ (k : ℕ). IsAtOrAbsent (w.content i) c.path_access-path_access.result.block k) (sym c.path_access-path_access.ensures.leaf)
    (subst (λ (k : ℕ). IsAtOrAbsent (w.content i) k (requested now.state.message).leaf) (sym at_block) ready.at_leaf) in
    let updates = subst (λ (u : CoreValue g.row.S.Denot). (rs : ℕ → List ℕ) (held : Map) → IsStoredWith (g.S.Sealer.cipher u.sealer).opening (g.S.Sealer.cipher u.sealer).overhead u.device tree_lent rs held → IsPathOf rs path → IsAtOrAbsent held c.path_access-path_access.result.block c.path_access-path_access.result.leaf
    → MatchResult c.access_to-looked.result (λ a. (gained : List ℕ) → message ≡ header ++ gained → IsUpdate (record { device = u.device; cipher = g.S.Sealer.cipher u.sealer; path = path; written = with_bytes path gained; records = rs; content = held; block = edited_block c.path_access-path_access.result.block c.path_access-path_access.result.new_leaf c.edit_for.result a.before.items; found = a.found; before = a.before.items; after = new })) (λ f. f ≡ fault.OutOfMemory)) c.self.view_is c.access_to-looked.ensures.updates in
    let update_if_ok = subst (λ r. MatchResult r (λ a. (gained : List ℕ) → message ≡ header ++ gained → IsUpdate (record { device = now.device; cipher = v.cipher; path = path; written = with_bytes path gained; records = w.records i; content = w.content i; block = edited_block c.path_access-path_access.result.block c.path_access-path_access.result.new_leaf c.edit_for.result a.before.items; found = a.found; before = a.before.items; after = new })) (λ f. f ≡ fault.OutOfMemory)) c.in-Ok.is (updates (w.records i) (w.content i) ready.stored on_path absent) in
    let Updates : Cell → Type 0 = λ d. IsUpdate (record { device = now.device; cipher = v.cipher; path = path; written = with_bytes path records; records = w.records i; content = w.content i; block = d; found = found; before = before; after = new }) in
    let update : Updates cell = subst Updates same (update_if_ok records gained) in
    let made : IsRewritten (record { device = now.device; tree = tree_lent.number; cipher = v.cipher; path = path; nonce = now.state.nonce }) tree_lent.stash (with_bytes path records) cell new.stash =
    subst (λ (d : Cell). IsRewritten (record { device = now.device; tree = tree_lent.number; cipher = v.cipher; path = path; nonce = now.state.nonce }) tree_lent.stash (with_bytes path records) d new.stash) same written in
    access_moves v now.state w tree_lent new path found before records why c.adopt_access.result c.adopt_access.new.self.state o h.sound c.requires.entry_number fits h.at c.requires.path long c.access_to-looked.ensures.number update made does_at

pub returns-in-Unreadable-clause-moves : goal.returns-in-Unreadable-clause-moves
returns-in-Unreadable-clause-moves g c = λ w fits on_path.
    let now = c.args.self.now in
    let v = scheme_of g.S.Sealer.cipher now in
    let tree_lent = c.index_mut.result.now in
    let h = lends g.S.Sealer.cipher _ c.args.self.now c.index_mut.result.now c.from.result c.path_access-path_access.result.tree c.self.view_is c.self.invariant c.requires.waiting c.from.ensures c.path_access-path_access.ensures.tree c.index_mut.ensures.value in
    let o : Waits now.state = waits now.state c.requires.waiting in
    let i = entry_tree now.device now.state.entry_number in
    let new = c.access_to-looked.new.self in
    let message = c.access_to-looked.new.out.items in
    let header = c.in_ok-message.message.items in
    let path = c.args.path.now in
    let x = o.oldest in
    let tree = c.path_access-path_access.ensures.tree in
    let ob = c.path_access-path_access.ensures.oldest o.oldest o.rest o.queue in
    let at_block : c.path_access-path_access.result.block ≡ block_of now.device i x = ob.0 ∙ ap (λ (k : ℕ). block_of now.device k x) tree in
    let ready = ready_tree v now.state w tree_lent o h.sound c.requires.entry_number fits h.at in
    let absent : IsAtOrAbsent (w.content i) c.path_access-path_access.result.block c.path_access-path_access.result.leaf =
    subst (λ (k : ℕ). IsAtOrAbsent (w.content i) c.path_access-path_access.result.block k) (sym c.path_access-path_access.ensures.leaf)
    (subst (λ (k : ℕ). IsAtOrAbsent (w.content i) k (requested now.state.message).leaf) (sym at_block) ready.at_leaf) in
    let updates = subst (λ (u : CoreValue g.row.S.Denot). (rs : ℕ → List ℕ) (held : Map) → IsStoredWith (g.S.Sealer.cipher u.sealer).opening (g.S.Sealer.cipher u.sealer).overhead u.device tree_lent rs held → IsPathOf rs path → IsAtOrAbsent held c.path_access-path_access.result.block c.path_access-path_access.result.leaf
    → MatchResult c.access_to-looked.result (λ a. (gained : List ℕ) → message ≡ header ++ gained → IsUpdate (record { device = u.device; cipher = g.S.Sealer.cipher u.sealer; path = path; written = with_bytes path gained; records = rs; content = held; block = edited_block c.path_access-path_access.result.block c.path_access-path_access.result.new_leaf c.edit_for.result a.before.items; found = a.found; before = a.before.items; after = new })) (λ f. f ≡ fault.OutOfMemory)) c.self.view_is c.access_to-looked.ensures.updates in
    let update_if_ok = subst (λ r. MatchResult r (λ a. (gained : List ℕ) → message ≡ header ++ gained → IsUpdate (record { device = now.device; cipher = v.cipher; path = path; written = with_bytes path gained; records = w.records i; content = w.content i; block = edited_block c.path_access-path_access.result.block c.path_access-path_access.result.new_leaf c.edit_for.result a.before.items; found = a.found; before = a.before.items; after = new })) (λ f. f ≡ fault.OutOfMemory)) (c.in-Err.is ∙ ap Err c.in-Unreadable.is) (updates (w.records i) (w.content i) ready.stored on_path absent) in
    absurd (let no_way : fault.Unreadable ≡ fault.OutOfMemory = update_if_ok in cc)

pub returns-in-Ok-clause-heard : goal.returns-in-Ok-clause-heard
returns-in-Ok-clause-heard g c =
    let now = c.args.self.now in
    let v = scheme_of g.S.Sealer.cipher now in
    let sound : IsSound v.device v.cipher.overhead now.state = subst (λ (u : CoreValue g.row.S.Denot). IsSound u.device (g.S.Sealer.cipher u.sealer).overhead u.state) c.self.view_is c.self.invariant in
    let o : Waits now.state = waits now.state c.requires.waiting in
    let new = c.access_to-looked.new.self in
    let before = c.in-Ok.lookup.before.items in
    let records = c.in-Ok.ensures.appends.0 in
    let message = c.access_to-looked.new.out.items in
    let body : message ≡ store_body c.path_access-path_access.result.tree c.path_access-path_access.result.leaf records = c.in-Ok.ensures.appends.1 ∙ c.in_ok-message.ensures.items records in
    let does = subst (λ (u : CoreValue g.row.S.Denot). (x : Submission) (rest : List Submission) (records : List ℕ) → u.state.queue ≡ x ∷ rest → message ≡ store_body c.path_access-path_access.result.tree c.path_access-path_access.result.leaf records → done c.adopt_access.result c.adopt_access.new.self.state ≡ (let after = record u.state { trees = slice_set u.state.trees c.from.result new } in if is_misled (scheme_of g.S.Sealer.cipher u) after x c.in-Ok.lookup.found before then failed_by after (reason.Tampered (entry_tree u.device u.state.entry_number) 0) else stored_by (scheme_of g.S.Sealer.cipher u) after x before records)) c.self.view_is c.adopt_access.ensures.ok in
    subst (Heard v now.state) (sym (does o.oldest o.rest records o.queue body))
    (taken_heard v now.state (slice_set now.state.trees c.from.result new) o.oldest c.in-Ok.lookup.found before records (reason.Tampered (entry_tree now.device now.state.entry_number) 0) c.requires.waiting c.requires.entry_number (stage_within v.device v.cipher.overhead now.state sound))

pub returns-in-Unreadable-clause-heard : goal.returns-in-Unreadable-clause-heard
returns-in-Unreadable-clause-heard g c =
    let now = c.args.self.now in
    let v = scheme_of g.S.Sealer.cipher now in
    let new = c.access_to-looked.new.self in
    let e = reason.Tampered c.path_access-path_access.result.tree 0 in
    let does = subst (λ (u : CoreValue g.row.S.Denot). done c.fail.result c.fail.new.self.state ≡ failed_by (record u.state { trees = slice_set u.state.trees c.from.result new }) e) c.self.view_is c.fail.ensures.ok in
    subst (Heard v now.state) (sym does) (failed_heard v now.state (record now.state { trees = slice_set now.state.trees c.from.result new }) e refl refl refl)

pub returns-in-Ok-clause-uses : goal.returns-in-Ok-clause-uses
returns-in-Ok-clause-uses g c =
    let now = c.args.self.now in
    let v = scheme_of g.S.Sealer.cipher now in
    let tree_lent = c.index_mut.result.now in
    let h = lends g.S.Sealer.cipher _ c.args.self.now c.index_mut.result.now c.from.result c.path_access-path_access.result.tree c.self.view_is c.self.invariant c.requires.waiting c.from.ensures c.path_access-path_access.ensures.tree c.index_mut.ensures.value in
    let o : Waits now.state = waits now.state c.requires.waiting in
    let i = entry_tree now.device now.state.entry_number in
    let new = c.access_to-looked.new.self in
    let before = c.in-Ok.lookup.before.items in
    let found = c.in-Ok.lookup.found in
    let records = c.in-Ok.ensures.appends.0 in
    let message = c.access_to-looked.new.out.items in
    let body : message ≡ store_body c.path_access-path_access.result.tree c.path_access-path_access.result.leaf records = c.in-Ok.ensures.appends.1 ∙ c.in_ok-message.ensures.items records in
    let path = c.args.path.now in
    let readable = subst (λ (u : CoreValue g.row.S.Denot). OnOk c.access_to-looked.result (IsReadable (Reads (g.S.Sealer.cipher u.sealer).opening u.device tree_lent.number) path tree_lent.stash)) c.self.view_is c.access_to-looked.ensures.readable in
    let read : IsReadable (Reads v.cipher.opening now.device tree_lent.number) path tree_lent.stash = subst (λ r. OnOk r (IsReadable (Reads v.cipher.opening now.device tree_lent.number) path tree_lent.stash)) c.in-Ok.is readable in
    let looked = subst (λ (u : CoreValue g.row.S.Denot). IsLookup (IsNear (Reads (g.S.Sealer.cipher u.sealer).opening u.device tree_lent.number) path tree_lent.stash) u.device.block_bytes c.path_access-path_access.result.block found before) c.self.view_is c.in-Ok.ensures.lookup in
    let ob = c.path_access-path_access.ensures.oldest o.oldest o.rest o.queue in
    let at_block : c.path_access-path_access.result.block ≡ block_of now.device i o.oldest = ob.0 ∙ ap (λ (k : ℕ). block_of now.device k o.oldest) c.path_access-path_access.ensures.tree in
    let does = subst (λ (u : CoreValue g.row.S.Denot). (x : Submission) (rest : List Submission) (records : List ℕ) → u.state.queue ≡ x ∷ rest → message ≡ store_body c.path_access-path_access.result.tree c.path_access-path_access.result.leaf records → done c.adopt_access.result c.adopt_access.new.self.state ≡ (let after = record u.state { trees = slice_set u.state.trees c.from.result new } in if is_misled (scheme_of g.S.Sealer.cipher u) after x found before then failed_by after (reason.Tampered (entry_tree u.device u.state.entry_number) 0) else stored_by (scheme_of g.S.Sealer.cipher u) after x before records)) c.self.view_is c.adopt_access.ensures.ok in
    access_used v now.state (slice_set now.state.trees c.from.result new) o.oldest o.rest path found before records c.adopt_access.result c.adopt_access.new.self.state o.queue
    (readable_now v now.state tree_lent path h.at read)
    (looked_now v now.state tree_lent path c.path_access-path_access.result.block o.oldest found before h.at at_block looked)
    (does o.oldest o.rest records o.queue body)

pub returns-in-Unreadable-clause-uses : goal.returns-in-Unreadable-clause-uses
returns-in-Unreadable-clause-uses g c =
    let now = c.args.self.now in
    let v = scheme_of g.S.Sealer.cipher now in
    let tree_lent = c.index_mut.result.now in
    let h = lends g.S.Sealer.cipher _ c.args.self.now c.index_mut.result.now c.from.result c.path_access-path_access.result.tree c.self.view_is c.self.invariant c.requires.waiting c.from.ensures c.path_access-path_access.ensures.tree c.index_mut.ensures.value in
    let new = c.access_to-looked.new.self in
    let path = c.args.path.now in
    let e = reason.Tampered c.path_access-path_access.result.tree 0 in
    let unreadable = subst (λ (u : CoreValue g.row.S.Denot). c.access_to-looked.result ≡ Err fault.Unreadable → ¬ IsReadable (Reads (g.S.Sealer.cipher u.sealer).opening u.device tree_lent.number) path tree_lent.stash) c.self.view_is c.access_to-looked.ensures.unreadable in
    let does = subst (λ (u : CoreValue g.row.S.Denot). done c.fail.result c.fail.new.self.state ≡ failed_by (record u.state { trees = slice_set u.state.trees c.from.result new }) e) c.self.view_is c.fail.ensures.ok in
    unreadable_used v now.state (record now.state { trees = slice_set now.state.trees c.from.result new }) c.fail.new.self.state c.path_access-path_access.result.tree path c.fail.result c.path_access-path_access.ensures.tree
    (λ so. unreadable (c.in-Err.is ∙ ap Err c.in-Unreadable.is) (readable_in v now.state tree_lent path h.at so)) does

pub path_access-path_access-requires : goal.path_access-path_access-requires
path_access-path_access-requires g c = c.requires.waiting

pub depth-requires : goal.depth-requires
depth-requires g c = subst (λ (u : CoreValue g.row.S.Denot). c.path_access-path_access.result.tree < trees_of u.device) (sym c.self.view_is) c.path_access-path_access.ensures.ranges.0

pub overflow_add-levels : goal.overflow_add-levels
overflow_add-levels g c = record { fits = levels_fit _ _ c.from-levels.ensures c.depth.ensures.range }

pub record_len-requires : goal.record_len-requires
record_len-requires g c = rw c.overhead.ensures c.self.invariant.small

pub overflow_mul-path_len : goal.overflow_mul-path_len
overflow_mul-path_len g c = record { fits = path_fits _ _ _ c.from-levels.ensures c.depth.ensures.range c.record_len.ensures.range }

pub overflow_add-path_len : goal.overflow_add-path_len
overflow_add-path_len g c = record { fits = message_fits _ _ _ c.from-levels.ensures c.depth.ensures.range c.record_len.ensures.range }

pub begun_store-requires : goal.begun_store-requires
begun_store-requires g c = store_fits _ _ _ c.from-levels.ensures c.depth.ensures.range c.record_len.ensures.range

pub same-self : goal.same-self
same-self g c = refl

pub returns-in_err-room-clause-kept : goal.returns-in_err-room-clause-kept
returns-in_err-room-clause-kept g c = (refl, refl)

pub returns-in_err-room-clause-moves : goal.returns-in_err-room-clause-moves
returns-in_err-room-clause-moves g c = λ w fits on_path. IfOk-from_err c.from_residual.result _ c.from_residual.ensures.0

pub returns-in_err-room-clause-heard : goal.returns-in_err-room-clause-heard
returns-in_err-room-clause-heard g c = IfOk-from_err c.from_residual.result _ c.from_residual.ensures.0

pub returns-in_err-room-clause-uses : goal.returns-in_err-room-clause-uses
returns-in_err-room-clause-uses g c = IfOk-from_err c.from_residual.result _ c.from_residual.ensures.0

pub returns-in_err-room-clause-err : goal.returns-in_err-room-clause-err
returns-in_err-room-clause-err g c = on_err _ c.from_residual.result refl

pub same-self-in_err-message : goal.same-self-in_err-message
same-self-in_err-message g c = refl

pub returns-in_err-message-clause-kept : goal.returns-in_err-message-clause-kept
returns-in_err-message-clause-kept g c = (refl, refl)

pub returns-in_err-message-clause-moves : goal.returns-in_err-message-clause-moves
returns-in_err-message-clause-moves g c = λ w fits on_path. IfOk-from_err c.from_residual-in_err-message.result _ c.from_residual-in_err-message.ensures.0

pub returns-in_err-message-clause-heard : goal.returns-in_err-message-clause-heard
returns-in_err-message-clause-heard g c = IfOk-from_err c.from_residual-in_err-message.result _ c.from_residual-in_err-message.ensures.0

pub returns-in_err-message-clause-uses : goal.returns-in_err-message-clause-uses
returns-in_err-message-clause-uses g c = IfOk-from_err c.from_residual-in_err-message.result _ c.from_residual-in_err-message.ensures.0

pub returns-in_err-message-clause-err : goal.returns-in_err-message-clause-err
returns-in_err-message-clause-err g c = on_err _ c.from_residual-in_err-message.result refl

pub edit_for-requires-clause-tree : goal.edit_for-requires-clause-tree
edit_for-requires-clause-tree g c = subst (λ (u : CoreValue g.row.S.Denot). c.path_access-path_access.result.tree < trees_of u.device) (sym c.self.view_is) c.path_access-path_access.ensures.ranges.0

pub adopt_access-requires-clause-waiting : goal.adopt_access-requires-clause-waiting
adopt_access-requires-clause-waiting g c = subst (λ (u : CoreValue g.row.S.Denot). status_in u.state ≡ Waiting) (sym c.self.view_is) c.requires.waiting

pub adopt_access-requires-clause-entry_number : goal.adopt_access-requires-clause-entry_number
adopt_access-requires-clause-entry_number g c = subst (λ (u : CoreValue g.row.S.Denot). u.state.entry_number % 2 ≡ 0) (sym c.self.view_is) c.requires.entry_number

pub adopt_access-requires-clause-tree : goal.adopt_access-requires-clause-tree
adopt_access-requires-clause-tree g c = subst (λ (u : CoreValue g.row.S.Denot). c.path_access-path_access.result.tree ≡ entry_tree u.device u.state.entry_number) (sym c.self.view_is) c.path_access-path_access.ensures.tree

pub adopt_access-requires-clause-leaf : goal.adopt_access-requires-clause-leaf
adopt_access-requires-clause-leaf g c = subst (λ (u : CoreValue g.row.S.Denot). c.path_access-path_access.result.leaf ≡ (requested u.state.message).leaf) (sym c.self.view_is) c.path_access-path_access.ensures.leaf

pub adopt_access-requires-clause-ranges : goal.adopt_access-requires-clause-ranges
adopt_access-requires-clause-ranges g c = subst (λ (u : CoreValue g.row.S.Denot). (c.path_access-path_access.result.tree < trees_of u.device) × (c.path_access-path_access.result.block < blocks_in u.device c.path_access-path_access.result.tree) × (c.path_access-path_access.result.leaf < 2 ^ depth_of u.device c.path_access-path_access.result.tree) × (c.path_access-path_access.result.new_leaf < 2 ^ depth_of u.device c.path_access-path_access.result.tree)) (sym c.self.view_is) c.path_access-path_access.ensures.ranges

pub invariant_of-self-in-Err : goal.invariant_of-self-in-Err
invariant_of-self-in-Err g c =
    let h = lends g.S.Sealer.cipher _ c.args.self.now c.index_mut.result.now c.from.result c.path_access-path_access.result.tree c.self.view_is c.self.invariant c.requires.waiting c.from.ensures c.path_access-path_access.ensures.tree c.index_mut.ensures.value in
    gives_back g.S.Sealer.cipher _ c.args.self.now c.index_mut.result.now c.access_to-looked.new.self c.from.result c.path_access-path_access.result.tree c.self.view_is c.self.invariant c.requires.waiting c.from.ensures c.path_access-path_access.ensures.ranges.0 h.number c.access_to-looked.ensures.number c.access_to-looked.ensures.blocks

pub returns-in-Ok-clause-kept : goal.returns-in-Ok-clause-kept
returns-in-Ok-clause-kept g c = (c.adopt_access.ensures.kept.0 ∙ ap (λ (u : CoreValue g.row.S.Denot). u.device) c.self.view_is, c.adopt_access.ensures.kept.1 ∙ ap (λ (u : CoreValue g.row.S.Denot). u.sealer) c.self.view_is)

pub returns-in-Unreadable-clause-kept : goal.returns-in-Unreadable-clause-kept
returns-in-Unreadable-clause-kept g c = (c.fail.ensures.kept.0 ∙ ap (λ (u : CoreValue g.row.S.Denot). u.device) c.self.view_is, c.fail.ensures.kept.1 ∙ ap (λ (u : CoreValue g.row.S.Denot). u.sealer) c.self.view_is)

pub returns-in-OutOfMemory-clause-kept : goal.returns-in-OutOfMemory-clause-kept
returns-in-OutOfMemory-clause-kept g c = (ap (λ (u : CoreValue g.row.S.Denot). u.device) c.self.view_is, ap (λ (u : CoreValue g.row.S.Denot). u.sealer) c.self.view_is)

pub index_mut-requires : goal.index_mut-requires
index_mut-requires g c = lent_within g.S.Sealer.cipher _ c.args.self.now c.from.result c.path_access-path_access.result.tree _ c.self.view_is c.self.invariant c.requires.waiting c.from.ensures c.path_access-path_access.ensures.ranges.0 c.self.inside.trees.ok.0

pub access_to-looked-requires-clause-number : goal.access_to-looked-requires-clause-number
access_to-looked-requires-clause-number g c =
    let h = lends g.S.Sealer.cipher _ c.args.self.now c.index_mut.result.now c.from.result c.path_access-path_access.result.tree c.self.view_is c.self.invariant c.requires.waiting c.from.ensures c.path_access-path_access.ensures.tree c.index_mut.ensures.value in
    subst (λ (u : CoreValue g.row.S.Denot). c.index_mut.result.now.number < trees_of u.device) (sym c.self.view_is) (rw h.number c.path_access-path_access.ensures.ranges.0)

pub access_to-looked-requires-clause-address : goal.access_to-looked-requires-clause-address
access_to-looked-requires-clause-address g c =
    let h = lends g.S.Sealer.cipher _ c.args.self.now c.index_mut.result.now c.from.result c.path_access-path_access.result.tree c.self.view_is c.self.invariant c.requires.waiting c.from.ensures c.path_access-path_access.ensures.tree c.index_mut.ensures.value in
    subst (λ (u : CoreValue g.row.S.Denot). c.path_access-path_access.result.block < blocks_in u.device c.index_mut.result.now.number) (sym c.self.view_is) (rw h.number c.path_access-path_access.ensures.ranges.1)

pub returns-in-Ok-clause-err : goal.returns-in-Ok-clause-err
returns-in-Ok-clause-err g c = tt

pub returns-in-Unreadable-clause-err : goal.returns-in-Unreadable-clause-err
returns-in-Unreadable-clause-err g c = tt

pub returns-in-OutOfMemory-clause-moves : goal.returns-in-OutOfMemory-clause-moves
returns-in-OutOfMemory-clause-moves g c = λ w fits on_path. tt

pub returns-in-OutOfMemory-clause-heard : goal.returns-in-OutOfMemory-clause-heard
returns-in-OutOfMemory-clause-heard g c = tt

pub returns-in-OutOfMemory-clause-uses : goal.returns-in-OutOfMemory-clause-uses
returns-in-OutOfMemory-clause-uses g c = tt

pub adopt_access-requires-clause-whole : goal.adopt_access-requires-clause-whole
adopt_access-requires-clause-whole g c = c.in-Ok.ensures.data_len

pub fail-requires-clause-replies : goal.fail-requires-clause-replies
fail-requires-clause-replies g c = c.fail-replies.ensures

pub fail-requires-clause-reason : goal.fail-requires-clause-reason
fail-requires-clause-reason g c = (subst (λ (u : CoreValue g.row.S.Denot). c.path_access-path_access.result.tree < trees_of u.device) (sym c.self.view_is) c.path_access-path_access.ensures.ranges.0, from_root _)

pub access_to-looked-requires-clause-path : goal.access_to-looked-requires-clause-path
access_to-looked-requires-clause-path g c =
    let h = lends g.S.Sealer.cipher _ c.args.self.now c.index_mut.result.now c.from.result c.path_access-path_access.result.tree c.self.view_is c.self.invariant c.requires.waiting c.from.ensures c.path_access-path_access.ensures.tree c.index_mut.ensures.value in
    subst (λ (u : CoreValue g.row.S.Denot). c.args.path.now ≡ path_of u.device c.index_mut.result.now.number c.path_access-path_access.result.leaf (g.S.Sealer.cipher u.sealer).overhead c.args.path.now.bytes) (sym c.self.view_is)
    (rw (h.number, c.path_access-path_access.ensures.tree, c.path_access-path_access.ensures.leaf) c.requires.path)

pub returns-in-Ok-clause-noted : goal.returns-in-Ok-clause-noted
returns-in-Ok-clause-noted g c = λ table noted.
    c.adopt_access.ensures.noted table (subst (λ (u : CoreValue g.row.S.Denot). IsNotedSince table u) (sym c.self.view_is) noted)

pub returns-in-Unreadable-clause-noted : goal.returns-in-Unreadable-clause-noted
returns-in-Unreadable-clause-noted g c = λ table noted.
    c.fail.ensures.noted table (subst (λ (u : CoreValue g.row.S.Denot). IsNotedSince table u) (sym c.self.view_is) noted)
