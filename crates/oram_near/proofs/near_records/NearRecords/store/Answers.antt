use Rattle.std.proofs.Common.{◌≡◌, ℕ, List, drop, refl, sym, ap, ◌∙◌, subst}
use Rattle.std.proofs.lemmas.List.{with_items_is}
use Rattle.std.specs.Vec.{with_items}
use Rattle.oram_geometry.specs.Sizes.{depth_of}
use Rattle.oram_near.specs.NearLevels.{near_len}
use Rattle.oram_near.specs.Near.{HasRoomFor, Near, Noted, NotesNodes, PutsPath, StoresNear, path_nodes}
use Rattle.oram_near.proofs.near_records.NearRecords.store.Goals as goal

-- by the parts of the near records
stores : (depth leaf : ℕ) (path : List ℕ) (levels len : ℕ) (old new : List ℕ) (was now : Noted) → PutsPath depth leaf levels len path old new
    → drop (near_len levels len) new ≡ drop (near_len levels len) old → NotesNodes (path_nodes depth leaf levels) was now → HasRoomFor levels was now
    → StoresNear depth leaf path (record { levels = levels; record_len = len; bytes = old; noted = was }) (record { levels = levels; record_len = len; bytes = new; noted = now })
stores depth leaf path levels len old new was now puts rest notes room = record { levels = refl; record_len = refl; records = puts; rest = rest; noted = notes; room = room }

pub returns : goal.returns
returns c =
    let i = c.self.inside in
    let depth = depth_of c.args.device.now 0 in
    let puts = subst (λ (old : List ℕ). PutsPath depth c.args.leaf i.levels i.record_len c.args.path.now old c.put_path.new.records) c.deref_mut.ensures.value c.put_path.ensures.puts in
    let rest = c.put_path.ensures.rest ∙ ap (drop (near_len i.levels i.record_len)) c.deref_mut.ensures.value in
    let new : List ℕ = c.put_path.new.records in
    let is = with_items_is i.bytes new (c.put_path.auto.records ∙ c.deref_mut.ensures.len) in
    subst (λ (near : Near). StoresNear depth c.args.leaf c.args.path.now near
    (record { levels = i.levels; record_len = i.record_len; bytes = (with_items i.bytes new).items; noted = c.note_path.new.self })) c.self.view_is
    (subst (λ (bytes : List ℕ). StoresNear depth c.args.leaf c.args.path.now (record { levels = i.levels; record_len = i.record_len; bytes = i.bytes.items; noted = i.noted })
    (record { levels = i.levels; record_len = i.record_len; bytes = bytes; noted = c.note_path.new.self })) (sym is)
    (stores depth c.args.leaf c.args.path.now i.levels i.record_len i.bytes.items new i.noted c.note_path.new.self puts rest c.note_path.ensures.noted c.note_path.ensures.room))
