use Rattle.std.proofs.Common.{◌≡◌, ℕ, Bool, true, false, if◌then◌else◌, ap, sym, ◌∙◌, ◌<◌, refl, subst}
use Rattle.oram_semantics.specs.Content.{entry_tree}
use Rattle.oram_semantics.specs.Messages.{requested}
use Rattle.oram_semantics.specs.Blocks.{next_map_entry}
use Rattle.oram_wire.specs.HostMessages.{store_body}
use Rattle.oram_semantics.specs.declared.events.Reason.TheVariants as reason
use Rattle.oram_semantics.specs.declared.events.Submission.{Submission}
use Rattle.oram_core.specs.Core.{CoreValue, scheme_of}
use Rattle.oram_core.specs.PlainSteps.{failed_by, stored_by, is_misled}
use Rattle.oram_core.proofs.LocalRule.{Waits, waits}
use Rattle.oram_core.proofs.MethodEnds.{stored_so, led_right}
use Rattle.oram_geometry.specs.Sizes.{trees_of}
use Rattle.oram_core.proofs.machine.Core.adopt_access.Goals as goal

pub returns-then-is_misled-clause-ok : goal.returns-then-is_misled-clause-ok
returns-then-is_misled-clause-ok g c = λ x rest records q m.
    let now = c.args.self.now in
    let v = scheme_of g.S.Sealer.cipher now in
    let tree = c.args.path_access.tree in
    let before = c.args.lookup.before.items in
    let device_is : c.self.inside.device ≡ now.device = ap (λ (u : CoreValue g.row.S.Denot). u.device) c.self.view_is in
    let first : c.oldest.result.now ≡ x = c.oldest.ensures.first x rest q in
    let same : c.deref.result.now ≡ before = c.deref.ensures.value in
    let map_entry_is : c.map_entry_below-map_entry.result ≡ next_map_entry now.device tree x before = c.map_entry_below-map_entry.ensures ∙ cc in
    let of = c.requires.oldest x rest q in
    let test = sym (c.is_misled.ensures x before of.0 map_entry_is) in
    let yes : is_misled v now.state x c.args.lookup.found before ≡ true = test ∙ c.if-is_misled.true in
    c.fail.ensures.ok ∙ ap (λ (i : ℕ). failed_by now.state (reason.Tampered i 0)) c.requires.tree
    ∙ sym (ap (λ (b : Bool). if b then failed_by now.state (reason.Tampered (entry_tree now.device now.state.entry_number) 0) else stored_by v now.state x before records) yes)

pub commit-requires-clause-oldest : goal.commit-requires-clause-oldest
commit-requires-clause-oldest g c = λ x rest q.
    let now = c.args.self.now in
    let v = scheme_of g.S.Sealer.cipher now in
    let tree = c.args.path_access.tree in
    let before = c.args.lookup.before.items in
    let device_is : c.self.inside.device ≡ now.device = ap (λ (u : CoreValue g.row.S.Denot). u.device) c.self.view_is in
    let first : c.oldest.result.now ≡ x = c.oldest.ensures.first x rest q in
    let same : c.deref.result.now ≡ before = c.deref.ensures.value in
    let map_entry_is : c.map_entry_below-map_entry.result ≡ next_map_entry now.device tree x before = c.map_entry_below-map_entry.ensures ∙ cc in
    let of = c.requires.oldest x rest q in
    (of.0, of.1, map_entry_is)

pub commit-requires-clause-map_entry : goal.commit-requires-clause-map_entry
commit-requires-clause-map_entry g c =
    let now = c.args.self.now in
    let v = scheme_of g.S.Sealer.cipher now in
    let tree = c.args.path_access.tree in
    let before = c.args.lookup.before.items in
    let o : Waits now.state = waits now.state c.requires.waiting in
    let x : Submission = o.oldest in
    let device_is : c.self.inside.device ≡ now.device = ap (λ (u : CoreValue g.row.S.Denot). u.device) c.self.view_is in
    let first : c.oldest.result.now ≡ x = c.oldest.ensures.first x o.rest o.queue in
    let same : c.deref.result.now ≡ before = c.deref.ensures.value in
    let map_entry_is : c.map_entry_below-map_entry.result ≡ next_map_entry now.device tree x before = c.map_entry_below-map_entry.ensures ∙ cc in
    let no : is_misled v now.state x c.args.lookup.found before ≡ false = sym (c.is_misled.ensures x before (c.requires.oldest x o.rest o.queue).0 map_entry_is) ∙ c.if-is_misled.false in
    led_right v now.state x c.args.lookup.found before tree c.map_entry_below-map_entry.result no c.requires.tree map_entry_is

pub returns-clause-ok : goal.returns-clause-ok
returns-clause-ok g c = λ x rest records q m.
    let now = c.args.self.now in
    let v = scheme_of g.S.Sealer.cipher now in
    let tree = c.args.path_access.tree in
    let before = c.args.lookup.before.items in
    let device_is : c.self.inside.device ≡ now.device = ap (λ (u : CoreValue g.row.S.Denot). u.device) c.self.view_is in
    let first : c.oldest.result.now ≡ x = c.oldest.ensures.first x rest q in
    let same : c.deref.result.now ≡ before = c.deref.ensures.value in
    let map_entry_is : c.map_entry_below-map_entry.result ≡ next_map_entry now.device tree x before = c.map_entry_below-map_entry.ensures ∙ cc in
    let of = c.requires.oldest x rest q in
    let test = sym (c.is_misled.ensures x before of.0 map_entry_is) in
    let no : is_misled v now.state x c.args.lookup.found before ≡ false = test ∙ c.if-is_misled.false in
    let kept : c.send.result.kept ≡ store_body tree (requested now.state.message).leaf records = c.send.ensures.kept ∙ m ∙ ap (λ (l : ℕ). store_body tree l records) c.requires.leaf in
    c.commit.ensures.ok ∙ stored_so v now.state x tree c.args.path_access.block c.args.path_access.new_leaf c.map_entry_below-map_entry.result before records c.send.result.kept c.requires.tree of.0 of.1 map_entry_is kept
    ∙ sym (ap (λ (b : Bool). if b then failed_by now.state (reason.Tampered (entry_tree now.device now.state.entry_number) 0) else stored_by v now.state x before records) no)

pub map_entry_below-map_entry-requires-clause-tree : goal.map_entry_below-map_entry-requires-clause-tree
map_entry_below-map_entry-requires-clause-tree g c = subst (λ (u : CoreValue g.row.S.Denot). c.args.path_access.tree < trees_of u.device) (sym c.self.view_is) c.requires.ranges.0

pub is_misled-requires-clause-tree : goal.is_misled-requires-clause-tree
is_misled-requires-clause-tree g c = c.requires.tree

pub is_misled-requires-clause-range : goal.is_misled-requires-clause-range
is_misled-requires-clause-range g c = c.requires.ranges.0

pub is_misled-requires-clause-block : goal.is_misled-requires-clause-block
is_misled-requires-clause-block g c = c.requires.ranges.1

pub same-self : goal.same-self
same-self g c = refl

pub same-self-else-is_misled : goal.same-self-else-is_misled
same-self-else-is_misled g c = refl

pub returns-then-is_misled-clause-kept : goal.returns-then-is_misled-clause-kept
returns-then-is_misled-clause-kept g c = c.fail.ensures.kept

pub returns-clause-kept : goal.returns-clause-kept
returns-clause-kept g c = c.commit.ensures.kept

pub commit-requires-clause-waiting : goal.commit-requires-clause-waiting
commit-requires-clause-waiting g c = c.requires.waiting

pub commit-requires-clause-entry_number : goal.commit-requires-clause-entry_number
commit-requires-clause-entry_number g c = c.requires.entry_number

pub commit-requires-clause-tree : goal.commit-requires-clause-tree
commit-requires-clause-tree g c = c.requires.tree

pub commit-requires-clause-whole : goal.commit-requires-clause-whole
commit-requires-clause-whole g c = c.requires.whole

pub commit-requires-clause-block : goal.commit-requires-clause-block
commit-requires-clause-block g c = c.requires.ranges.1

pub commit-requires-clause-leaf : goal.commit-requires-clause-leaf
commit-requires-clause-leaf g c = c.requires.ranges.3
