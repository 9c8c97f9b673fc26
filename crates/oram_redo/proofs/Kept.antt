-- A pair in memory fulfils the contract of a pair: what a crash may leave after a write, and which moments it keeps.
use Rattle.std.proofs.Common.{◌≡◌, ◌⊎◌, inl, inr, ⊎_elim, ℕ, zero, suc, ◌+◌, ◌<◌, ◌≤◌, List, [], ◌∷◌, ◌++◌, length, drop, refl, sym, ◌∙◌, ap, subst, arith, length-append}
use Rattle.oram_redo.specs.Content.{Content}
use Rattle.oram_redo.specs.FilePair.{Contents, Torn, Wrote, Elapses}
use Rattle.oram_redo.specs.Memory.{byte_of, contents_of, IsOutside, IsCopy, MayLeave, HadLeft}
use Rattle.oram_redo.specs.declared.file_pair.FileKind.{FileKind}
use Rattle.oram_redo.specs.declared.file_pair.FileKind.TheVariants.{Records, Log}
use Rattle.oram_redo.specs.declared.memory.Range.{Range}
use Rattle.oram_redo.specs.declared.memory.Snapshot.{Snapshot}
use Rattle.oram_redo.proofs.TornWrites.{torn_not, wrote_torn, leaves_torn}

pub outside_more : (rs : List Range) (r : Range) (file : FileKind) (i : ℕ) → IsOutside rs file i → (r.file ≡ file → (i < r.at ⊎ r.at + r.len ≤ i)) → IsOutside (rs ++ r ∷ []) file i
outside_more [] r file i out here = (here, tt)
outside_more (q ∷ qs) r file i out here = (out.0, outside_more qs r file i out.1 here)

-- the moments that are kept
keeps : (past : List Snapshot) (v : Snapshot) (c : Contents) → HadLeft past c → HadLeft (past ++ v ∷ []) c
keeps [] v c had = absurd had
keeps (p ∷ past) v c (inl here) = inl here
keeps (p ∷ past) v c (inr there) = inr (keeps past v c there)

adds : (past : List Snapshot) (v : Snapshot) (c : Contents) → HadLeft (past ++ v ∷ []) c → HadLeft past c ⊎ MayLeave v c
adds [] v c (inl here) = inr here
adds [] v c (inr none) = absurd none
adds (p ∷ past) v c (inl here) = inl (inl here)
adds (p ∷ past) v c (inr there) = ⊎_elim (λ had. inl (inr had)) (λ new. inr new) (adds past v c there)

newest : (past : List Snapshot) (v : Snapshot) (c : Contents) → MayLeave v c → HadLeft (past ++ v ∷ []) c
newest [] v c is = inl is
newest (p ∷ past) v c is = inr (newest past v c is)

drop_push : (t : ℕ) (past : List Snapshot) (v : Snapshot) → t ≤ length past → drop t (past ++ v ∷ []) ≡ drop t past ++ v ∷ []
drop_push zero past v le = refl
drop_push (suc t) [] v le = absurd (omega arith)
drop_push (suc t) (p ∷ past) v le = drop_push t past v (omega arith)

-- a copy has the same contents as the original
copy_contents : (held copy : Snapshot) → IsCopy held copy → (file : FileKind) → contents_of copy file ≡ contents_of held file
copy_contents held copy is Records = ap (λ (l : List ℕ). λ i. byte_of l i) is.records
copy_contents held copy is Log = ap (λ (l : List ℕ). λ i. byte_of l i) is.log

copy_left : (held copy : Snapshot) → IsCopy held copy → (c : Contents) → MayLeave held c → MayLeave copy c
copy_left held copy is c left file i out = left file i (subst (λ (rs : List Range). IsOutside rs file i) is.unsynced out) ∙ ap (λ (x : Content). x i) (sym (copy_contents held copy is file))

left_copy : (held copy : Snapshot) → IsCopy held copy → (c : Contents) → MayLeave copy c → MayLeave held c
left_copy held copy is c left file i out = left file i (subst (λ (rs : List Range). IsOutside rs file i) (sym is.unsynced) out) ∙ ap (λ (x : Content). x i) (copy_contents held copy is file)

-- what a crash since t might have left
abbrev Since : List Snapshot → Snapshot → ℕ → Contents → Type 0
Since past held t c = MayLeave held c ⊎ HadLeft (drop t past) c

elapses_push : (past : List Snapshot) (copy old new : Snapshot) → IsCopy old copy → Elapses (length past) (length (past ++ copy ∷ [])) (Since past old) (Since (past ++ copy ∷ []) new) (MayLeave new)
elapses_push past copy old new is = record {
  later = omega (arith, length-append past (copy ∷ []));
  nothing_else = λ t c le left. ⊎_elim (λ now. inr now) (λ had. inl (was t c (adds (drop t past) copy c (subst (λ (l : List Snapshot). HadLeft l c) (drop_push t past copy le) had)))) left;
  keeps = λ t c le left.
      inr (subst (λ (l : List Snapshot). HadLeft l c) (sym (drop_push t past copy le)) (⊎_elim (λ now. newest (drop t past) copy c (copy_left old copy is c now)) (keeps (drop t past) copy c) left));
}
  where
    was : (t : ℕ) (c : Contents) → HadLeft (drop t past) c ⊎ MayLeave copy c → Since past old t c
    was t c (inl had) = inr had
    was t c (inr new) = inl (left_copy old copy is c new)

pub elapses_to : (past later : List Snapshot) (copy old new : Snapshot) → IsCopy old copy → later ≡ past ++ copy ∷ [] → Elapses (length past) (length later) (Since past old) (Since later new) (MayLeave new)
elapses_to past later copy old new is same = subst (λ (l : List Snapshot). Elapses (length past) (length l) (Since past old) (Since l new) (MayLeave new)) (sym same) (elapses_push past copy old new is)

-- outside the first ranges, and outside the one after them
pub outside_front : (rs : List Range) (r : Range) (file : FileKind) (i : ℕ) → IsOutside (rs ++ r ∷ []) file i → IsOutside rs file i × (r.file ≡ file → (i < r.at ⊎ r.at + r.len ≤ i))
outside_front [] r file i out = (tt, out.0)
outside_front (q ∷ qs) r file i out = let rest = outside_front qs r file i out.1 in ((out.0, rest.0), rest.1)

-- the write, given what the pair holds
pub write_leaves : (held next after : Snapshot) (file : FileKind) (at : ℕ) (bytes : List ℕ) → Wrote file at bytes (contents_of held) (contents_of next)
    → next.unsynced.items ≡ held.unsynced.items ++ record { file = file; at = at; len = length bytes } ∷ [] → after ≡ next → (c : Contents) → MayLeave after c → (d : Contents) × MayLeave held d × Torn file at (length bytes) d c
write_leaves held next after file at bytes wrote ranges same c left =
    leaves_torn (contents_of held) (contents_of next) held.unsynced.items next.unsynced.items file at (length bytes) (wrote_torn file at bytes (contents_of held) (contents_of next) wrote)
    more c (subst (λ (s : Snapshot). MayLeave s c) same left)
  where
    more : (f : FileKind) (i : ℕ) → IsOutside held.unsynced.items f i → (file ≡ f → (i < at ⊎ at + length bytes ≤ i)) → IsOutside next.unsynced.items f i
    more f i out here =
        let r : Range = record { file = file; at = at; len = length bytes } in
        subst (λ (rs : List Range). IsOutside rs f i) (sym ranges) (outside_more held.unsynced.items r f i out here)

pub nothing_left : (held after : Snapshot) (file : FileKind) (at n : ℕ) → after ≡ held → (c : Contents) → MayLeave after c → (d : Contents) × MayLeave held d × Torn file at n d c
nothing_left held after file at n same c left = (c, subst (λ (s : Snapshot). MayLeave s c) same left, torn_not file at n c)
