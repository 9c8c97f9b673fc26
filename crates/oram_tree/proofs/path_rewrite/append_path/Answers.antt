use Rattle.std.proofs.Common.{◌≡◌, ◌-◌, length, take, drop, refl, ◌∙◌, rules}
use Rattle.oram_hash.specs.Rebuild.{joined_from}
use Rattle.oram_tree.proofs.Sealed.{lent, cut_back, gained_part, written_back, joined_whole, appended}
use Rattle.oram_tree.proofs.path_rewrite.append_path.Goals as goal

pub relink-requires : goal.relink-requires
relink-requires g c =
    let s = c.in-Ok.ensures.sealed in
    let now = c.deref_mut.result.now in
    let n = c.len-start.result in (
      s.parts,
      joined_whole _ (lent c.args.lists.now)
          (length c.args.lists.now) c.args.out.now.items c.seal_path.new.out.items _ s c.requires.levels
          (gained_part c.args.out.now.items (joined_from c.args.path.now 0 s.parts) now n (length now - n) (c.deref_mut.ensures.value ∙ s.gained) (c.len-start.ensures ∙ c.args.out.now.ok.0) refl),
    )

pub returns-in-Ok-clause-appended : goal.returns-in-Ok-clause-appended
returns-in-Ok-clause-appended g c =
    let s = c.in-Ok.ensures.sealed in
    let now = c.deref_mut.result.now in
    let n = c.len-start.result in
    let p = c.args.path.now in
    let part = gained_part c.args.out.now.items (joined_from p 0 s.parts) now n (length now - n) (c.deref_mut.ensures.value ∙ s.gained) (c.len-start.ensures ∙ c.args.out.now.ok.0) refl in
    let kept : length c.relink.new.records ≡ length (take (length now - n) (drop n now)) = search rules in
    appended _ (lent c.args.lists.now) (length c.args.lists.now) c.args.out.now.items c.seal_path.new.out.items _ c.relink.new.records c.relink.result s c.requires.levels
    (written_back c.seal_path.new.out c.args.out.now.items (joined_from p 0 s.parts) now c.relink.new.records n (length now - n) s.gained c.deref_mut.ensures.value (c.len-start.ensures ∙ c.args.out.now.ok.0) refl kept)
    (c.relink.ensures.rebuilt s.parts (joined_whole _ (lent c.args.lists.now) (length c.args.lists.now) c.args.out.now.items c.seal_path.new.out.items _ s c.requires.levels part))
    c.relink.ensures.stands

pub returns-in-Err-clause-err : goal.returns-in-Err-clause-err
returns-in-Err-clause-err g c =
    let keeps = c.seal_path.ensures.keeps in
    c.truncate.ensures.items ∙ cut_back c.args.out.now.items c.seal_path.new.out.items keeps.0 c.len-start.result (c.len-start.ensures ∙ c.args.out.now.ok.0) keeps.1
