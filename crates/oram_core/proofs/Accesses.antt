-- An access to the tree at work, over a world that fits.
use Rattle.std.proofs.Common.{◌≡◌, ℕ, ◌+◌, ◌*◌, ◌%◌, ◌==◌, Bool, true, false, if◌then◌else◌, List, ◌∷◌, length, slice_index_or, slice_set, refl, ap, sym, ◌∙◌, subst, arith}
use Rattle.std.proofs.lemmas.Bool.Decides.{nat_tests}
use Rattle.oram_geometry.specs.Sizes.{depth_of}
use Rattle.oram_trace.specs.declared.entries.Entry.{Entry}
use Rattle.oram_hash.specs.Path.{Path, path_of, with_bytes}
use Rattle.oram_bucket.specs.Cell.{Cell}
use Rattle.oram_tree.specs.State.{State as Tree, IsStoredWith}
use Rattle.oram_tree.specs.Access.{IsAtOrAbsent, IsRewritten, IsUpdate}
use Rattle.oram_semantics.specs.Answers.Outcome.{Good}
use Rattle.oram_semantics.specs.Blocks.{block_after}
use Rattle.oram_semantics.specs.Content.{block_of, new_leaf, entry_tree}
use Rattle.oram_semantics.specs.Messages.{requested}
use Rattle.oram_semantics.specs.Moves.{Moved, MovesTo, Fits, IsReady, IsReadyFor, goes_on, on_answer, stores}
use Rattle.oram_semantics.specs.Progress.Status.{Waiting}
use Rattle.oram_semantics.specs.Run.{shown_by}
use Rattle.oram_semantics.specs.Scheme.{Scheme, record_len}
use Rattle.oram_semantics.specs.State.{State, World, AllStand, map_entry_now, no_tree}
use Rattle.oram_semantics.specs.Trees.{Stands}
use Rattle.oram_semantics.specs.declared.events.Reaction.{Reaction}
use Rattle.oram_semantics.specs.declared.events.Reason.{Reason}
use Rattle.oram_semantics.specs.declared.events.Submission.{Submission}
use Rattle.oram_semantics.proofs.PlacedStores.{at_leaf}
use Rattle.oram_core.specs.Core.{IsSound}
use Rattle.oram_core.specs.PlainSteps.{Done, done, failed_by, stored_by, is_misled}
use Rattle.oram_core.proofs.Quiet.{Meets}
use Rattle.oram_core.proofs.TakenPaths.{IsAccess, not_misled, stores_met}
use Rattle.oram_core.proofs.Sound.{Outstanding, at_hand, tree_within}
use Rattle.oram_core.proofs.LocalRule.{Waits}
use Rattle.oram_core.proofs.AnswerVerdicts.{IsTreeAt}

-- the tree at work stands in the world, and has the command's block at the leaf whose path was fetched, or not at all
pub record IsReadyTree (v : Scheme) (s : State) (w : World) (x : Submission) (t : Tree) : Type 0 where
  pub stored : IsStoredWith v.cipher.opening v.cipher.overhead v.device t (w.records (entry_tree v.device s.entry_number)) (w.content (entry_tree v.device s.entry_number))
  pub at_leaf : IsAtOrAbsent (w.content (entry_tree v.device s.entry_number)) (block_of v.device (entry_tree v.device s.entry_number) x) (requested s.message).leaf
  pub ready : IsReadyFor v s w x

pub ready_tree : (v : Scheme) (s : State) (w : World) (t : Tree) (o : Waits s) → IsSound v.device v.cipher.overhead s → s.entry_number % 2 ≡ 0 → Fits v s w → IsTreeAt v s t → IsReadyTree v s w o.oldest t
ready_tree v s w t o h even fits at =
    let i : ℕ = entry_tree v.device s.entry_number in
    let x : Submission = o.oldest in
    let holds : AllStand v s w = (fits o.healthy).0 in
    let all : IsReady v s w (o.oldest ∷ o.rest) = subst (IsReady v s w) o.queue (fits o.healthy).1 in
    let ready : IsReadyFor v s w x = all even in
    let work : Outstanding v.device s x = at_hand v.device v.cipher.overhead s x o.rest h o.healthy o.queue in
    let stands : Stands v i (slice_index_or s.trees i no_tree) (w.records i) (w.content i) = holds i (tree_within v.device v.cipher.overhead s h) in
    record {
      stored = subst (λ (u : Tree). IsStoredWith v.cipher.opening v.cipher.overhead v.device u (w.records i) (w.content i)) (sym at.is) stands.stored;
      at_leaf = subst (λ (k : ℕ). IsAtOrAbsent (w.content i) (block_of v.device i x) k) (sym (ap (λ (e : Entry). e.leaf) (work.fetch even))) (at_leaf v.device i (block_of v.device i x) (map_entry_now v.device s x) x (w.content i) ready.held_entry);
      ready = ready;
    }

-- the core takes over an access of the tree by the rule
pub access_moves : (v : Scheme) (s : State) (w : World) (t new : Tree) (path : Path) (found : Bool) (before records : List ℕ) (why : Reason) (y : Reaction) (u : State) (o : Waits s) → IsSound v.device v.cipher.overhead s → s.entry_number % 2 ≡ 0 → Fits v s w → IsTreeAt v s t →
    path ≡ path_of v.device (entry_tree v.device s.entry_number) (requested s.message).leaf v.cipher.overhead path.bytes → length records ≡ (depth_of v.device (entry_tree v.device s.entry_number) + 1) * record_len v → new.number ≡ t.number →
    (let i = entry_tree v.device s.entry_number in let c : Cell = record { address = block_of v.device i o.oldest; leaf = new_leaf v.device i o.oldest; content = block_after v.device i o.oldest before } in
    IsUpdate (record { device = v.device; cipher = v.cipher; path = path; written = with_bytes path records; records = w.records i; content = w.content i; block = c; found = found; before = before; after = new })) →
    (let i = entry_tree v.device s.entry_number in let c : Cell = record { address = block_of v.device i o.oldest; leaf = new_leaf v.device i o.oldest; content = block_after v.device i o.oldest before } in
    IsRewritten (record { device = v.device; tree = t.number; cipher = v.cipher; path = path; nonce = s.nonce }) t.stash (with_bytes path records) c new.stash) →
    (let s' : State = record s { trees = slice_set s.trees (entry_tree v.device s.entry_number) new } in
    done y u ≡ (if is_misled v s' o.oldest found before then failed_by s' why else stored_by v s' o.oldest before records)) →
    MovesTo v s w (on_answer v s w Waiting Good) (shown_by y) u
access_moves v s w t new path found before records why y u o h even fits at path_is long number update rewritten does =
    let i : ℕ = entry_tree v.device s.entry_number in
    let x : Submission = o.oldest in
    let c : Cell = record { address = block_of v.device i x; leaf = new_leaf v.device i x; content = block_after v.device i x before } in
    let s' : State = record s { trees = slice_set s.trees i new } in
    let r = ready_tree v s w t o h even fits at in
    let work : Outstanding v.device s x = at_hand v.device v.cipher.overhead s x o.rest h o.healthy o.queue in
    let a : IsAccess v s w x path new found before records = record {
      number = number ∙ at.number;
      path_is = path_is;
      long = long;
      rewritten = subst (λ (q : Tree). IsRewritten (record { device = v.device; tree = i; cipher = v.cipher; path = path; nonce = s.nonce }) q.stash (with_bytes path records) c new.stash) at.is
          (subst (λ (k : ℕ). IsRewritten (record { device = v.device; tree = k; cipher = v.cipher; path = path; nonce = s.nonce }) t.stash (with_bytes path records) c new.stash) at.number rewritten);
      update = update;
    } in
    let fine : is_misled v s' x found before ≡ false = not_misled v s w x path new found before records r.ready a in
    let e : done y u ≡ stored_by v s' x before records = does ∙ ap (λ (b : Bool). if b then failed_by s' why else stored_by v s' x before records) fine in
    let turn : (s.entry_number % 2 == 0) ≡ true = grind (arith, nat_tests) in
    let rule : goes_on v s w s.queue ≡ stores v s w x = ap (goes_on v s w) o.queue ∙ rw turn refl in
    subst (λ (m : Moved). MovesTo v s w m (shown_by y) u) (sym rule)
    (subst (λ (d : Done). Meets v s w (stores v s w x) d) (sym e) (stores_met v s w x path new found before records h o.healthy work (fits o.healthy).0 a))
