-- What calls of the system do to what a read returns and to what a crash may leave.
use Rattle.std.proofs.Common.{◌≡◌, ◌⊎◌, inl, inr, ⊎_elim, ℕ, suc, ◌+◌, ◌≤◌, true, false, List, [], ◌∷◌, ◌++◌, length, refl, sym, ◌∙◌, ap, subst, arith}
use Rattle.std.specs.Prelude.{Bool, not, if◌then◌else◌}
use Rattle.std.proofs.lemmas.Bool.Decides.{nat_tests}
use Rattle.oram_redo.specs.Content.{Content, Agrees, put}
use Rattle.oram_redo.specs.FilePair.{Contents, Elapses, Torn, Wrote, Same, other_than}
use Rattle.oram_redo.specs.Memory.{LeavesBut}
use Rattle.oram_redo.specs.Note.{Call}
use Rattle.oram_redo.specs.Opened.{Opened}
use Rattle.oram_redo.specs.System.{put_in, seen_after, ranges_after, IsHonestHistory, LeftSince, MayLeaveAfter, Touched, TouchedNothing, has_failed_sync, ranges_of_other}
use Rattle.oram_redo.specs.declared.file_pair.FileKind.{FileKind}
use Rattle.oram_redo.specs.declared.file_pair.FileKind.TheVariants.{Log}
use Rattle.oram_redo.specs.declared.memory.Range.{Range}
use Rattle.oram_redo.proofs.Bytes.{put_outside}
use Rattle.oram_redo.proofs.Recorded.{wrote_put, write_leaves, none_of_file, fewer_ranges, elapses_call, elapses_none, elapses_then}
use Rattle.oram_redo.proofs.TornWrites.{torn_not, wrote_torn, kind_is}

torn_then : (file : FileKind) (at n : ℕ) (a b c : Contents) → Torn file at n a b → Torn file at n b c → Torn file at n a c
torn_then file at n a b c one two = record {
  before = λ i low. two.before i low ∙ one.before i low;
  after = λ i high. two.after i high ∙ one.after i high;
  other = λ i. two.other i ∙ one.other i;
}

-- a wider range
torn_within : (file : FileKind) (at n from m : ℕ) (a b : Contents) → at ≤ from → from + m ≤ at + n → Torn file from m a b → Torn file at n a b
torn_within file at n from m a b low high torn = record {
  before = λ i less. torn.before i (omega (arith, less, low));
  after = λ i more. torn.after i (omega (arith, more, high));
  other = torn.other;
}

pub touched_none : (first : Opened) (file : FileKind) (at n : ℕ) (calls : List Call) → Touched first file at n calls calls
touched_none first file at n calls = record {
  torn = torn_not file at n (seen_after first calls);
  crash = λ c left. (c, left, torn_not file at n c);
  keeps = λ c left. left;
  time = elapses_none first calls;
  honest = λ h. h;
  syncs = refl;
}

pub touched_then : (first : Opened) (file : FileKind) (at n : ℕ) (old mid new : List Call) → Touched first file at n old mid → Touched first file at n mid new → Touched first file at n old new
touched_then first file at n old mid new one two = record {
  torn = torn_then file at n (seen_after first old) (seen_after first mid) (seen_after first new) one.torn two.torn;
  crash = λ c left.
      let between = two.crash c left in
      let before = one.crash between.0 between.1 in
      (before.0, before.1, torn_then file at n before.0 between.0 c before.2 between.2);
  keeps = λ c left. two.keeps c (one.keeps c left);
  time = elapses_then first old mid new one.time two.time two.keeps;
  honest = λ h. one.honest (two.honest h);
  syncs = two.syncs ∙ one.syncs;
}

-- a call that writes nothing
touched_still : (first : Opened) (file : FileKind) (at n : ℕ) (calls : List Call) (call : Call) → seen_after first (call ∷ calls) ≡ seen_after first calls → ranges_after first (call ∷ calls) ≡ ranges_after first calls
    → has_failed_sync (call ∷ calls) ≡ has_failed_sync calls → Touched first file at n calls (call ∷ calls)
touched_still first file at n calls call seen ranges syncs = record {
  torn = subst (λ (s : Contents). Torn file at n (seen_after first calls) s) (sym seen) (torn_not file at n (seen_after first calls));
  crash = λ c left. (c, subst (λ (r : List Range). LeavesBut r (seen_after first calls) c) ranges (subst (λ (s : Contents). LeavesBut (ranges_after first (call ∷ calls)) s c) seen left), torn_not file at n c);
  keeps = λ c left. subst (λ (r : List Range). LeavesBut r (seen_after first (call ∷ calls)) c) (sym ranges) (subst (λ (s : Contents). LeavesBut (ranges_after first calls) s c) (sym seen) left);
  time = elapses_call first calls call;
  honest = λ h. h.3;
  syncs = syncs;
}

pub touched_read : (calls later : List Call) (file : FileKind) (at : ℕ) (bytes : List ℕ) → later ≡ record { kind = 2; file = file; at = at; is_ok = true; bytes = bytes } ∷ calls → TouchedNothing calls later
touched_read calls later file at bytes is = subst (λ (l : List Call). TouchedNothing calls l) (sym is) (λ first f from n. touched_still first f from n calls (record { kind = 2; file = file; at = at; is_ok = true; bytes = bytes }) refl refl refl)

pub touched_length : (calls later : List Call) (file : FileKind) (at : ℕ) → later ≡ record { kind = 4; file = file; at = at; is_ok = true; bytes = [] } ∷ calls → TouchedNothing calls later
touched_length calls later file at is = subst (λ (l : List Call). TouchedNothing calls l) (sym is) (λ first f from n. touched_still first f from n calls (record { kind = 4; file = file; at = at; is_ok = true; bytes = [] }) refl refl refl)

-- a write, whole or failed: what a crash may leave before it, it may leave after it
write_keeps : (seen new : Contents) (ranges : List Range) (file : FileKind) (at n : ℕ) → Torn file at n seen new → (c : Contents) → LeavesBut ranges seen c → LeavesBut (record { file = file; at = at; len = n } ∷ ranges) new c
write_keeps seen new ranges file at n torn c left f i out = ⊎_elim (λ same. left f i out.1 ∙ sym (there same)) (λ other. left f i out.1 ∙ sym (beside other)) (kind_is file f)
  where
    there : f ≡ file → new f i ≡ seen f i
    there same = subst (λ (k : FileKind). new k i ≡ seen k i) (sym same) (⊎_elim (λ low. torn.before i low) (λ high. torn.after i high) (out.0 (sym same)))

    beside : f ≡ other_than file → new f i ≡ seen f i
    beside other = subst (λ (k : FileKind). new k i ≡ seen k i) (sym other) (torn.other i)

module _ (first : Opened) (calls : List Call) (file : FileKind) (at n from : ℕ) (bytes : List ℕ) (low : at ≤ from) (high : from + length bytes ≤ at + n) where
  touched_call : (is_ok : Bool) → Torn file from (length bytes) (seen_after first calls) (seen_after first (record { kind = 1; file = file; at = from; is_ok = is_ok; bytes = bytes } ∷ calls))
      → Touched first file at n calls (record { kind = 1; file = file; at = from; is_ok = is_ok; bytes = bytes } ∷ calls)
  touched_call is_ok torn = record {
    torn = torn_within file at n from (length bytes) (seen_after first calls) new low high torn;
    crash = λ c left.
        let before = write_leaves (seen_after first calls) new (ranges_after first calls) file from (length bytes) torn c left in
        (before.0, before.1, torn_within file at n from (length bytes) before.0 c low high before.2);
    keeps = write_keeps (seen_after first calls) new (ranges_after first calls) file from (length bytes) torn;
    time = elapses_call first calls (record { kind = 1; file = file; at = from; is_ok = is_ok; bytes = bytes });
    honest = λ h. h.3;
    syncs = refl;
  }
    where
      new : Contents
      new = seen_after first (record { kind = 1; file = file; at = from; is_ok = is_ok; bytes = bytes } ∷ calls)

  pub touched_write : (later : List Call) → later ≡ record { kind = 1; file = file; at = from; is_ok = true; bytes = bytes } ∷ calls → Touched first file at n calls later
  touched_write later is = subst (λ (l : List Call). Touched first file at n calls l) (sym is)
      (touched_call true (wrote_torn file from bytes (seen_after first calls) (put_in file from bytes (seen_after first calls)) (wrote_put file from bytes (seen_after first calls))))

  pub touched_failed : (later : List Call) → later ≡ record { kind = 1; file = file; at = from; is_ok = false; bytes = bytes } ∷ calls → Touched first file at n calls later
  touched_failed later is = subst (λ (l : List Call). Touched first file at n calls l) (sym is) (touched_call false (torn_not file from (length bytes) (seen_after first calls)))

pub wrote_call : (first : Opened) (calls later : List Call) (file : FileKind) (at : ℕ) (bytes : List ℕ) → later ≡ record { kind = 1; file = file; at = at; is_ok = true; bytes = bytes } ∷ calls
    → Wrote file at bytes (seen_after first calls) (seen_after first later)
wrote_call first calls later file at bytes is = subst (λ (l : List Call). Wrote file at bytes (seen_after first calls) (seen_after first l)) (sym is) (wrote_put file at bytes (seen_after first calls))

-- calls that wrote nothing: a read returns what it returned before
pub nothing_seen : (first : Opened) (old new : List Call) → TouchedNothing old new → Same (seen_after first new) (seen_after first old)
nothing_seen first old new nothing file = λ i. (nothing first file 0 0).torn.after i (omega arith)

pub nothing_left : (first : Opened) (old new : List Call) → TouchedNothing old new → (c : Contents) → MayLeaveAfter first new c → MayLeaveAfter first old c
nothing_left first old new nothing c left f i out =
    let before = (nothing first f 0 0).crash c left in
    before.2.after i (omega arith) ∙ before.1 f i out

-- Calls after which a read returns what it returned before, and a crash leaves nothing else.
pub record Stilled (first : Opened) (old new : List Call) : Type 0 where
  pub seen : Same (seen_after first new) (seen_after first old)
  pub crash : (c : Contents) → MayLeaveAfter first new c → MayLeaveAfter first old c
  pub time : Elapses (length old) (length new) (LeftSince first old) (LeftSince first new) (MayLeaveAfter first new)
  pub honest : IsHonestHistory first new → IsHonestHistory first old

pub stilled_nothing : (first : Opened) (old new : List Call) → TouchedNothing old new → Stilled first old new
stilled_nothing first old new nothing = record {
  seen = nothing_seen first old new nothing;
  crash = nothing_left first old new nothing;
  time = (nothing first Log 0 0).time;
  honest = (nothing first Log 0 0).honest;
}

pub stilled_then : (first : Opened) (old mid new : List Call) → Stilled first old mid → Stilled first mid new → Stilled first old new
stilled_then first old mid new one two = record {
  seen = λ f i. two.seen f i ∙ one.seen f i;
  crash = λ c left. one.crash c (two.crash c left);
  time = record {
    later = omega (arith, one.time.later, two.time.later);
    nothing_else = λ t c le left. ⊎_elim
        (λ was. ⊎_elim (λ past. inl past) (λ between. inl (inl (one.crash c between))) (one.time.nothing_else t c le was))
        (λ now. inr now)
        (two.time.nothing_else t c (next t le) left);
    keeps = λ t c le past. two.time.keeps t c (next t le) (one.time.keeps t c le past);
  };
  honest = λ h. one.honest (two.honest h);
}
  where
    next : (t : ℕ) → t ≤ length old → t ≤ length mid
    next t le = omega (arith, le, one.time.later)

abbrev sync_call : FileKind → Bool → Call
sync_call file ok = record { kind = 3; file = file; at = 0; is_ok = ok; bytes = [] }

-- a sync after which a crash leaves nothing else, whether it was done or failed
stilled_call : (first : Opened) (old later : List Call) (file : FileKind) (ok : Bool) → later ≡ sync_call file ok ∷ old
    → ((c : Contents) → MayLeaveAfter first (sync_call file ok ∷ old) c → MayLeaveAfter first old c) → Stilled first old later
stilled_call first old later file ok is crash = subst (λ (l : List Call). Stilled first old l) (sym is) (record {
  seen = λ f i. refl;
  crash = crash;
  time = elapses_call first old (sync_call file ok);
  honest = λ h. h.3;
})

-- one that has failed covers nothing
pub stilled_failed : (first : Opened) (old later : List Call) (file : FileKind) → later ≡ record { kind = 3; file = file; at = 0; is_ok = false; bytes = [] } ∷ old → Stilled first old later
stilled_failed first old later file is = stilled_call first old later file false is (λ c left. left)

-- a sync, if none has failed before
module _ (first : Opened) (old mid : List Call) (file : FileKind) (none_failed : has_failed_sync old ≡ false) (is : mid ≡ record { kind = 3; file = file; at = 0; is_ok = true; bytes = [] } ∷ old) where
  covered : ranges_after first (sync_call file true ∷ old) ≡ ranges_of_other file (ranges_after first old)
  covered = ap (λ (b : Bool). if not b then ranges_of_other file (ranges_after first old) else ranges_after first old) none_failed

  left_synced : (c : Contents) → MayLeaveAfter first (sync_call file true ∷ old) c → LeavesBut (ranges_of_other file (ranges_after first old)) (seen_after first old) c
  left_synced c left = subst (λ (r : List Range). LeavesBut r (seen_after first old) c) covered left

  pub stilled_synced : Stilled first old mid
  stilled_synced = stilled_call first old mid file true is (λ c left f i out. left_synced c left f i (fewer_ranges file (ranges_after first old) f i out))

  pub still_none_failed : has_failed_sync mid ≡ false
  still_none_failed = ap has_failed_sync is ∙ none_failed

  -- a crash after that, and after calls that wrote nothing, leaves what a read returns
  pub synced_sure : (later : List Call) → TouchedNothing mid later → (c : Contents) → MayLeaveAfter first later c → Agrees (c file) (seen_after first later file)
  synced_sure later nothing c left i =
      left_synced c (subst (λ (l : List Call). MayLeaveAfter first l c) is (nothing_left first mid later nothing c left)) file i (none_of_file file (ranges_after first old) i)
      ∙ sym (nothing_seen first mid later nothing file i ∙ ap (λ (l : List Call). seen_after first l file i) is)

-- two writes, one behind the other
put_same : (bs : List ℕ) (at : ℕ) (c d : Content) (i : ℕ) → c i ≡ d i → put bs at c i ≡ put bs at d i
put_same [] at c d i same = same
put_same (b ∷ bs) at c d i same =
    let tail = put_same bs (suc at) c d i same in
    grind (arith, nat_tests)

put_append : (xs ys : List ℕ) (at : ℕ) (c : Content) (i : ℕ) → put (xs ++ ys) at c i ≡ put ys (at + length xs) (put xs at c) i
put_append [] ys at c i =
    let here : at + 0 ≡ at = omega arith in
    ap (λ (k : ℕ). put ys k c i) (sym here) ∙ put_same ys (at + 0) c (put [] at c) i refl
put_append (x ∷ xs) ys at c i = ⊎_elim at_head (past (put_append xs ys (suc at) c i)) (split i at)
  where
    split : (i at : ℕ) → (i ≡ at) ⊎ (i ≡ at → ⊥)
    split i at = grind arith

    moved : suc at + length xs ≡ at + suc (length xs)
    moved = omega arith

    head : i ≡ at → put (x ∷ xs) at c i ≡ x
    head e = grind (arith, nat_tests)

    whole : i ≡ at → put ((x ∷ xs) ++ ys) at c i ≡ x
    whole e = grind (arith, nat_tests)

    at_head : i ≡ at → put ((x ∷ xs) ++ ys) at c i ≡ put ys (at + suc (length xs)) (put (x ∷ xs) at c) i
    at_head e = whole e ∙ sym (put_outside ys (at + suc (length xs)) (put (x ∷ xs) at c) i (inl (omega (arith, e))) ∙ head e)

    tail : (i ≡ at → ⊥) → put (x ∷ xs) at c i ≡ put xs (suc at) c i
    tail e = grind (arith, nat_tests)

    rest : (i ≡ at → ⊥) → put ((x ∷ xs) ++ ys) at c i ≡ put (xs ++ ys) (suc at) c i
    rest e = grind (arith, nat_tests)

    past : put (xs ++ ys) (suc at) c i ≡ put ys (suc at + length xs) (put xs (suc at) c) i → (i ≡ at → ⊥) → put ((x ∷ xs) ++ ys) at c i ≡ put ys (at + suc (length xs)) (put (x ∷ xs) at c) i
    past next e =
        rest e ∙ next ∙ ap (λ (k : ℕ). put ys k (put xs (suc at) c) i) moved
        ∙ put_same ys (at + suc (length xs)) (put xs (suc at) c) (put (x ∷ xs) at c) i (sym (tail e))

pub wrote_then : (file : FileKind) (at : ℕ) (xs ys : List ℕ) (a b c : Contents) → Wrote file at xs a b → Wrote file (at + length xs) ys b c → Wrote file at (xs ++ ys) a c
wrote_then file at xs ys a b c one two = record {
  there = λ i. two.there i ∙ put_same ys (at + length xs) (b file) (put xs at (a file)) i (one.there i) ∙ sym (put_append xs ys at (a file) i);
  other = λ i. two.other i ∙ one.other i;
}

-- a write after calls that wrote nothing
pub wrote_after : (file : FileKind) (at : ℕ) (bytes : List ℕ) (a b c : Contents) → Same b a → Wrote file at bytes b c → Wrote file at bytes a c
wrote_after file at bytes a b c same wrote = record {
  there = λ i. wrote.there i ∙ put_same bytes at (b file) (a file) i (same file i);
  other = λ i. wrote.other i ∙ same (other_than file) i;
}
