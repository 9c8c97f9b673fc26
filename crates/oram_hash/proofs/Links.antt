-- How joined records are linked, from the leaf's record up.
use Rattle.std.proofs.Common.{◌≡◌, ℕ, ◌+◌, ◌-◌, ◌*◌, ◌<◌, ◌≤◌, refl, sym, arith, ap, subst, ◌∙◌, List, [], ◌++◌, length, drop, slice_index_or, append_assoc, length-append, length-drop, true, false}
use borrow.Rule.Slice.PartMut.{put_mid}
use Rattle.std.proofs.Math.Nat.{mul-le-mul_right}
use Rattle.std.proofs.lemmas.List.{take_at, drop_at, take_all, drop-take, append-nil}
use Rattle.std.proofs.lemmas.Grind.{common_steps}
use Rattle.std.proofs.lemmas.Slice.{take-put_mid_below}
use Rattle.sha2.specs.Sha256.{sha256}
use Rattle.oram_hash.specs.Record.{left_digest, right_digest, is_left_child}
use Rattle.oram_hash.specs.Path.{Path, HasLength, with_bytes, record_at, node_at, record_over, digests_at}
use Rattle.oram_hash.specs.Rebuild.{IsJoined, IsRebuilt}
use Rattle.oram_hash.proofs.Joins.{HasDigests, digests_at-leaf, digests_at-above, joined_whole, record_at-joined}
use Rattle.oram_hash.proofs.Rebuilds.{IsBuiltFrom, length-record_at, length-left_digest, length-right_digest, record_at-here, built_more, built_whole}

-- a write over the first of two digests, and over the second
put_first : (part l r below : List ℕ) (a k : ℕ) → length part ≡ a → length l ≡ k → put_mid a k (part ++ (l ++ r)) below ≡ part ++ below ++ r
put_first part l r below a k at width =
    let rest = drop_at part (l ++ r) a at in
    rw (take_at part (l ++ r) a at, rest, drop_at l r k width) (sym (append_assoc part below r))

put_second : (part l r below : List ℕ) (a k : ℕ) → length (part ++ l) ≡ a → length r ≤ k → put_mid a k (part ++ l ++ r) below ≡ part ++ l ++ below
put_second part l r below a k at width =
    rw (take_at (part ++ l) r a at, drop_at (part ++ l) r a at, drop_all k r width, append-nil below) refl
  where
    drop_all : (k : ℕ) (xs : List ℕ) → length xs ≤ k → drop k xs ≡ []
    drop_all k xs h = grind (arith, common_steps)

pub link_left : (p : Path) (level : ℕ) (part below bytes : List ℕ) (a k : ℕ) → HasLength p → 64 ≤ p.record_len → level < p.depth → is_left_child (node_at p (level + 1)) ≡ true
    → length bytes ≡ p.record_len → a ≡ p.record_len - 64 → k ≡ 32 → bytes ≡ part ++ digests_at p level → put_mid a k bytes below ≡ record_over p level part below
link_left p level part below bytes a k whole room h side len at width joined =
    let long : 64 ≤ length (record_at p level) = omega (arith, length-record_at p level whole (omega arith)) in
    let l = length-left_digest (record_at p level) long in
    let r = length-right_digest (record_at p level) long in
    let is : bytes ≡ part ++ (left_digest (record_at p level) ++ right_digest (record_at p level)) = joined ∙ ap (λ (ds : List ℕ). part ++ ds) (digests_at-above p level h) in
    let start : length part ≡ a =
    omega (arith, ap length is, length-append part (left_digest (record_at p level) ++ right_digest (record_at p level)), length-append (left_digest (record_at p level)) (right_digest (record_at p level)), l, r) in
    rw side (ap (λ (bs : List ℕ). put_mid a k bs below) is ∙ put_first part (left_digest (record_at p level)) (right_digest (record_at p level)) below a k start (l ∙ sym width))

pub link_right : (p : Path) (level : ℕ) (part below bytes : List ℕ) (a k : ℕ) → HasLength p → 64 ≤ p.record_len → level < p.depth → is_left_child (node_at p (level + 1)) ≡ false
    → length bytes ≡ p.record_len → a ≡ p.record_len - 32 → 32 ≤ k → bytes ≡ part ++ digests_at p level → put_mid a k bytes below ≡ record_over p level part below
link_right p level part below bytes a k whole room h side len at width joined =
    let long : 64 ≤ length (record_at p level) = omega (arith, length-record_at p level whole (omega arith)) in
    let l = length-left_digest (record_at p level) long in
    let r = length-right_digest (record_at p level) long in
    let is : bytes ≡ part ++ left_digest (record_at p level) ++ right_digest (record_at p level) =
    joined ∙ ap (λ (ds : List ℕ). part ++ ds) (digests_at-above p level h) ∙ sym (append_assoc part (left_digest (record_at p level)) (right_digest (record_at p level))) in
    let start : length (part ++ left_digest (record_at p level)) ≡ a =
    omega (arith, ap length is, length-append (part ++ left_digest (record_at p level)) (right_digest (record_at p level)), r) in
    rw side (ap (λ (bs : List ℕ). put_mid a k bs below) is ∙ put_second part (left_digest (record_at p level)) (right_digest (record_at p level)) below a k start (omega (arith, r)))

-- from this level on the records are linked; above it they are still as joined
pub record IsLinkedFrom (p : Path) (parts : List (List ℕ)) (bytes digest : List ℕ) (level : ℕ) : Type 0 where
  pub within : level ≤ p.depth
  pub built : IsBuiltFrom p parts bytes level
  pub top : digest ≡ sha256 (record_at (with_bytes p bytes) level)
  pub above : (l : ℕ) → l < level → record_at (with_bytes p bytes) l ≡ slice_index_or parts l [] ++ digests_at p l

-- the last record goes to the end
record_at-last : (p : Path) (bytes : List ℕ) → HasLength (with_bytes p bytes) → record_at (with_bytes p bytes) p.depth ≡ drop (p.depth * p.record_len) bytes
unfolding record_at
record_at-last p bytes whole =
    let row : (p.depth + 1) * p.record_len ≡ p.depth * p.record_len + p.record_len = omega arith in
    take_all p.record_len (drop (p.depth * p.record_len) bytes) (omega (arith, length-drop (p.depth * p.record_len) bytes, row))

pub linked_leaf : (p : Path) (parts : List (List ℕ)) (bytes digest : List ℕ) (level a : ℕ) → level ≡ p.depth → HasDigests p → IsJoined p parts bytes → a ≡ p.depth * p.record_len → digest ≡ sha256 (drop a bytes)
    → IsLinkedFrom p parts bytes digest level
linked_leaf p parts bytes digest level a end digests joined at is =
    let whole = joined_whole p parts bytes digests joined in
    let P : ℕ → Type 0 = IsLinkedFrom p parts bytes digest in
    let last = record_at-last p bytes whole in
    subst P (sym end) (record {
      within = omega arith;
      built = record {
        whole = whole;
        last = record_at-joined p parts bytes p.depth digests joined (omega arith)
            ∙ ap (λ (ds : List ℕ). slice_index_or parts p.depth [] ++ ds) (digests_at-leaf p p.depth refl) ∙ sym (append_assoc (slice_index_or parts p.depth []) _ _);
        inner = λ l low high. absurd (omega arith);
      };
      top = is ∙ ap (λ (n : ℕ). sha256 (drop n bytes)) at ∙ ap sha256 (sym last);
      above = λ l h. record_at-joined p parts bytes l digests joined (omega arith);
    })

-- a write to one record leaves the records before it unchanged
record_at-before : (p : Path) (bytes piece : List ℕ) (level l a k : ℕ) → HasLength (with_bytes p bytes) → l < level → level ≤ p.depth → a ≡ level * p.record_len
    → record_at (with_bytes p (put_mid a k bytes piece)) l ≡ record_at (with_bytes p bytes) l
unfolding record_at
record_at-before p bytes piece level l a k whole before h at =
    let upto : l * p.record_len + p.record_len ≤ a = omega (arith, mul-le-mul_right p.record_len before) in
    let within : a ≤ length bytes = omega (arith, mul-le-mul_right p.record_len h) in
    sym (drop-take (l * p.record_len) p.record_len (put_mid a k bytes piece))
    ∙ ap (drop (l * p.record_len)) (take-put_mid_below a k bytes piece (l * p.record_len + p.record_len) upto within)
    ∙ drop-take (l * p.record_len) p.record_len bytes

pub linked_more : (p : Path) (parts : List (List ℕ)) (bytes mid piece below digest : List ℕ) (next level a k : ℕ) → next ≡ level + 1 → IsLinkedFrom p parts bytes below next → length piece ≡ p.record_len
    → a ≡ level * p.record_len → k ≡ p.record_len → mid ≡ record_at (with_bytes p bytes) level
    → ((part : List ℕ) → mid ≡ part ++ digests_at p level → piece ≡ record_over p level part below) → digest ≡ sha256 piece
    → IsLinkedFrom p parts (put_mid a k bytes piece) digest level
linked_more p parts bytes mid piece below digest next level a k up linked len at width here link top =
    let P : ℕ → Type 0 = IsLinkedFrom p parts bytes below in
    let was = subst P up linked in
    let within : level < p.depth = omega (arith, was.within) in
    record {
      within = omega arith;
      built = built_more p parts bytes piece below level a k was.built within len at width was.top (link (slice_index_or parts level []) (here ∙ was.above level (omega arith)));
      top = top ∙ ap sha256 (sym (record_at-here p bytes piece level a k was.built.whole (omega arith) len at width));
      above = λ l h. record_at-before p bytes piece level l a k was.built.whole h (omega arith) at ∙ was.above l (omega arith);
    }

pub linked_whole : (p : Path) (parts : List (List ℕ)) (bytes root : List ℕ) → HasLength p → 64 ≤ p.record_len → IsLinkedFrom p parts bytes root 0 → IsRebuilt p parts bytes root
linked_whole p parts bytes root whole room linked = built_whole p parts bytes root whole room linked.built linked.top
