-- The code's verdict on an answer is the one that the core's own digests, stashes and map give.
use Rattle.std.proofs.Common.{◌≡◌, ◌≢◌, ℕ, ◌+◌, ◌*◌, ◌%◌, ◌<◌, ◌≤◌, ◌==◌, ◌&&◌, Bool, true, false, if◌then◌else◌, List, [], ◌∷◌, length, drop, slice_index, nat_le, Some, None, refl, ap, sym, ◌∙◌, subst, arith, inl, inr}
use Rattle.std.proofs.lemmas.Bool.Decides.{nat_tests}
use Rattle.oram_geometry.specs.Sizes.{depth_of}
use Rattle.oram_hash.specs.Path.{Path, HasLength, IsAccepted, IsTamperedAt}
use Rattle.oram_bucket.specs.SealedBlocks.{Reads}
use Rattle.oram_tree.specs.Access.{IsLookup, IsNear, IsReadable}
use Rattle.oram_tree.specs.State.{State as Tree}
use Rattle.oram_semantics.specs.Answers.{is_refusal}
use Rattle.oram_semantics.specs.Content.{block_of, entry_tree}
use Rattle.oram_semantics.specs.Scheme.{Scheme, record_len}
use Rattle.oram_semantics.specs.State.{State}
use Rattle.oram_semantics.specs.declared.events.Note.{Note}
use Rattle.oram_semantics.specs.declared.events.Note.TheVariants.{Accepted, Refused, Taken, Stalled, FailedNow, Resent, Unexpected}
use Rattle.oram_semantics.specs.declared.events.Reaction.{Reaction}
use Rattle.oram_semantics.specs.declared.events.Reason.TheVariants.{Malformed, Tampered, HostRefused}
use Rattle.oram_semantics.specs.declared.events.Submission.{Submission}
use Rattle.oram_core.specs.PlainSteps.{Done, done, failed_by, stored_by, is_misled}
use Rattle.oram_core.specs.AnswerMeaning.{IsReadableNow, IsReasonFor, IsUseless, IsUseOf, IsVerdict, LooksUp, answer_len, is_formed, path_now, reads_now, tree_now}
use Rattle.oram_core.specs.Verdicts.{Tells, refusal_in}
use Rattle.oram_core.specs.declared.verdicts.Verdict.{Verdict}
use Rattle.oram_core.specs.declared.verdicts.Verdict.TheVariants as verdict
use Rattle.oram_core.proofs.AnswerVerdicts.{IsRefused, IsTreeAt, refused_so, not_refused}

-- from the use of a path to the verdict on the answer
pub use_verdict : (v : Scheme) (s : State) (bytes : List ℕ) (p : Path) (n : Note) → Tells v s bytes (verdict.Path p) → IsUseOf v s p n → IsVerdict v s bytes n
use_verdict v s bytes p (FailedNow e) t u =
    let q : Path = path_now v s p.bytes in
    let root : List ℕ = (tree_now v s).root in
    let accepted : IsAccepted q root = subst (λ (x : Path). IsAccepted x root) t.2 t.3 in
    let useless : IsUseless v s q = subst (IsUseless v s) t.2 u.1 in
    subst (IsReasonFor v s bytes) (sym u.0) (refl, record { fetched = t.0; records = p.bytes; answer = t.1; spoilt = inr (refl, accepted, useless) })
use_verdict v s bytes p Taken t leads =
    let root : List ℕ = (tree_now v s).root in
    record {
      fetched = λ even. record {
        records = p.bytes;
        answer = t.1;
        accepted = subst (λ (x : Path). IsAccepted x root) t.2 t.3;
        leads = subst (λ (x : Path). LooksUp v s x false) t.2 leads;
      };
      stored = λ odd. absurd (let even : s.entry_number % 2 ≡ 0 = t.0 in omega arith);
    }
use_verdict v s bytes p (Accepted k) t u = absurd u
use_verdict v s bytes p (Refused e) t u = absurd u
use_verdict v s bytes p Stalled t u = absurd u
use_verdict v s bytes p Resent t u = absurd u
use_verdict v s bytes p Unexpected t u = absurd u

-- a STORE with a good answer
pub stored_verdict : (v : Scheme) (s : State) (bytes : List ℕ) → Tells v s bytes verdict.Stored → IsVerdict v s bytes Taken
stored_verdict v s bytes t = record {
  fetched = λ even. absurd (let odd : s.entry_number % 2 ≡ 1 = t.0 in omega arith);
  stored = λ odd. t.1;
}

-- an access that was made, and what the core does with it
use_by : (v : Scheme) (s : State) (trees : List Tree) (x : Submission) (rest : List Submission) (p : Path) (found : Bool) (before records : List ℕ) (b : Bool) → s.queue ≡ x ∷ rest → IsReadableNow v s p →
    IsLookup (IsNear (reads_now v s) p (tree_now v s).stash) v.device.block_bytes (block_of v.device (entry_tree v.device s.entry_number) x) found before → is_misled v s x found before ≡ b →
    (let t : State = record s { trees = trees } in
    let d : Done = if b then failed_by t (Tampered (entry_tree v.device s.entry_number) 0) else stored_by v t x before records in
    IsUseOf v s p d.note)
use_by v s trees x rest p found before records true q readable lookup led =
    (refl, inr (record { readable = readable; oldest = x; rest = rest; queue = q; found = found; before = before; lookup = lookup; led = led }))
use_by v s trees x rest p found before records false q readable lookup led =
    record { readable = readable; oldest = x; rest = rest; queue = q; found = found; before = before; lookup = lookup; led = led }

pub access_used : (v : Scheme) (s : State) (trees : List Tree) (x : Submission) (rest : List Submission) (p : Path) (found : Bool) (before records : List ℕ) (y : Reaction) (u : State) → s.queue ≡ x ∷ rest → IsReadableNow v s p →
    IsLookup (IsNear (reads_now v s) p (tree_now v s).stash) v.device.block_bytes (block_of v.device (entry_tree v.device s.entry_number) x) found before →
    (let t : State = record s { trees = trees } in
    done y u ≡ (if is_misled v t x found before then failed_by t (Tampered (entry_tree v.device s.entry_number) 0) else stored_by v t x before records)) →
    IsUseOf v s p y.note
access_used v s trees x rest p found before records y u q readable lookup does =
    subst (λ (d : Done). IsUseOf v s p d.note) (sym does) (use_by v s trees x rest p found before records (is_misled v s x found before) q readable lookup refl)

-- a path that can't be read
pub unreadable_used : (v : Scheme) (s t u : State) (tree : ℕ) (p : Path) (y : Reaction) → tree ≡ entry_tree v.device s.entry_number → ¬ IsReadableNow v s p → done y u ≡ failed_by t (Tampered tree 0) → IsUseOf v s p y.note
unreadable_used v s t u tree p y here unreadable does =
    let note : y.note ≡ FailedNow (Tampered tree 0) = ap (λ (d : Done). d.note) does in
    subst (IsUseOf v s p) (sym note) (ap (λ (i : ℕ). Tampered i 0) here, inl unreadable)

-- the tree at work is the one whose path is outstanding
pub readable_now : (v : Scheme) (s : State) (t : Tree) (p : Path) → IsTreeAt v s t → IsReadable (Reads v.cipher.opening v.device t.number) p t.stash → IsReadableNow v s p
readable_now v s t p at h =
    subst (λ (k : Tree). IsReadable (reads_now v s) p k.stash) at.is (subst (λ (i : ℕ). IsReadable (Reads v.cipher.opening v.device i) p t.stash) at.number h)

pub readable_in : (v : Scheme) (s : State) (t : Tree) (p : Path) → IsTreeAt v s t → IsReadableNow v s p → IsReadable (Reads v.cipher.opening v.device t.number) p t.stash
readable_in v s t p at h =
    subst (λ (i : ℕ). IsReadable (Reads v.cipher.opening v.device i) p t.stash) (sym at.number) (subst (λ (k : Tree). IsReadable (reads_now v s) p k.stash) (sym at.is) h)

pub looked_now : (v : Scheme) (s : State) (t : Tree) (p : Path) (block : ℕ) (x : Submission) (found : Bool) (before : List ℕ) → IsTreeAt v s t → block ≡ block_of v.device (entry_tree v.device s.entry_number) x →
    IsLookup (IsNear (Reads v.cipher.opening v.device t.number) p t.stash) v.device.block_bytes block found before →
    IsLookup (IsNear (reads_now v s) p (tree_now v s).stash) v.device.block_bytes (block_of v.device (entry_tree v.device s.entry_number) x) found before
looked_now v s t p block x found before at here h =
    subst (λ (b : ℕ). IsLookup (IsNear (reads_now v s) p (tree_now v s).stash) v.device.block_bytes b found before) here
    (subst (λ (k : Tree). IsLookup (IsNear (reads_now v s) p k.stash) v.device.block_bytes block found before) at.is
    (subst (λ (i : ℕ). IsLookup (IsNear (Reads v.cipher.opening v.device i) p t.stash) v.device.block_bytes block found before) at.number h))

-- the code's verdict on an answer, case by case

nothing : (bytes : List ℕ) → length bytes ≡ 0 → bytes ≡ []
nothing [] none = refl
nothing (x ∷ bytes) none = absurd (omega arith)

formed_first : (v : Scheme) (s : State) (bytes : List ℕ) → slice_index bytes 0 ≢ 128 → is_formed v s bytes ≡ false
formed_first v s [] other = refl
formed_first v s (x ∷ bytes) other = let no : (x == 128) ≡ false = grind (arith, nat_tests, other) in rw no refl

pub other_tells : (v : Scheme) (s : State) (bytes : List ℕ) → refusal_in bytes ≡ None → slice_index bytes 0 ≢ 128 → IsReasonFor v s bytes Malformed
other_tells v s bytes none first = ((not_refused bytes none).refusal, formed_first v s bytes first)

pub empty_tells : (v : Scheme) (s : State) (bytes : List ℕ) → refusal_in bytes ≡ None → length bytes ≡ 0 → IsReasonFor v s bytes Malformed
empty_tells v s bytes none empty = ((not_refused bytes none).refusal, ap (is_formed v s) (nothing bytes empty))

pub payload_tells : (v : Scheme) (s : State) (bytes xs : List ℕ) (r : Verdict) → Tells v s (128 ∷ xs) r → xs ≡ drop 1 bytes → slice_index bytes 0 ≡ 128 → Tells v s bytes r
payload_tells v s [] xs r tells is first = absurd (omega arith)
payload_tells v s (x ∷ bytes) xs r tells is first =
    let whole : 128 ∷ xs ≡ x ∷ bytes = cc in
    subst (λ (ys : List ℕ). Tells v s ys r) whole tells

-- byte 0x80 begins no refusal
payload_is_none : (xs : List ℕ) → is_refusal (128 ∷ xs) ≡ false
payload_is_none xs = elim (length (128 ∷ xs) == 2) as (λ a. (a && (128 == 129) && nat_le 1 (slice_index (128 ∷ xs) 1) && nat_le (slice_index (128 ∷ xs) 1) 7) ≡ false) [ true ↦ refl | false ↦ refl ]

formed_len : (v : Scheme) (s : State) (xs : List ℕ) → length xs ≢ answer_len v s → is_formed v s (128 ∷ xs) ≡ false
formed_len v s xs other = grind (arith, nat_tests, other)

-- bytes after the first one aren't the answer to a STORE
pub longer_tells : (v : Scheme) (s : State) (xs : List ℕ) → s.entry_number % 2 ≡ 1 → 0 < length xs → IsReasonFor v s (128 ∷ xs) Malformed
longer_tells v s xs odd some =
    let turn : (s.entry_number % 2 == 0) ≡ false = grind (arith, nat_tests) in
    let none : answer_len v s ≡ 0 = rw turn refl in
    (payload_is_none xs, formed_len v s xs (λ same. omega (arith, none, same, some)))

pub stored_tells : (v : Scheme) (s : State) (xs : List ℕ) → s.entry_number % 2 ≡ 1 → length xs ≡ 0 → Tells v s (128 ∷ xs) verdict.Stored
stored_tells v s xs odd none = (odd, ap (λ r. 128 ∷ r) (nothing xs none))

-- a path of another length than the outstanding one
pub short_tells : (v : Scheme) (s : State) (xs : List ℕ) → s.entry_number % 2 ≡ 0 → ¬ HasLength (path_now v s xs) → IsReasonFor v s (128 ∷ xs) Malformed
short_tells v s xs even short =
    let turn : (s.entry_number % 2 == 0) ≡ true = grind (arith, nat_tests) in
    let len : answer_len v s ≡ (depth_of v.device (entry_tree v.device s.entry_number) + 1) * record_len v = rw turn refl in
    (payload_is_none xs, formed_len v s xs (λ same. short (same ∙ len)))

pub forged_tells : (v : Scheme) (s : State) (xs : List ℕ) (i level : ℕ) → s.entry_number % 2 ≡ 0 → i ≡ entry_tree v.device s.entry_number → IsTamperedAt (path_now v s xs) (tree_now v s).root level → IsReasonFor v s (128 ∷ xs) (Tampered i level)
forged_tells v s xs i level even here forged = (here, record { fetched = even; records = xs; answer = refl; spoilt = inl forged })

pub path_tells : (v : Scheme) (s : State) (xs : List ℕ) (p : Path) → s.entry_number % 2 ≡ 0 → p ≡ path_now v s xs → IsAccepted (path_now v s xs) (tree_now v s).root → Tells v s (128 ∷ xs) (verdict.Path p)
path_tells v s xs p even is accepted =
    let bytes : p.bytes ≡ xs = ap (λ (q : Path). q.bytes) is in
    (even, ap (λ b. 128 ∷ b) (sym bytes), is ∙ ap (λ b. path_now v s b) (sym bytes), subst (λ (q : Path). IsAccepted q (tree_now v s).root) (sym is) accepted)

pub refused_tells : (v : Scheme) (s : State) (bytes : List ℕ) (code : ℕ) → refusal_in bytes ≡ Some code → code ≢ 8 → IsReasonFor v s bytes (HostRefused code)
refused_tells v s bytes code refused other =
    let r : IsRefused bytes code = refused_so bytes code refused in
    let high : code ≤ 8 = r.high in
    (r.is, r.low, omega (arith, high, other))
