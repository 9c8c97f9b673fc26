-- The code's verdict on an answer agrees with what the answer means.
use Rattle.std.proofs.Common.{◌≡◌, ◌≢◌, ◌⊎◌, ◌↔◌, ℕ, ◌+◌, ◌*◌, ◌%◌, ◌^◌, ◌<◌, ◌≤◌, ◌==◌, ◌&&◌, Bool, true, false, if◌then◌else◌, List, [], ◌∷◌, length, drop, slice_index, slice_index_or, slice_set, nat_le, nat_lt, not, Some, None, Result, Ok, Err, IsOk, MatchResult, refl, ap, sym, ◌∙◌, subst, arith, inl, inr}
use Rattle.std.specs.List.{All}
use Rattle.std.proofs.lemmas.List.{get_or_read}
use Rattle.std.proofs.lemmas.Bool.{cases_eq}
use Rattle.std.proofs.lemmas.Bool.Decides.{nat_tests}
use Rattle.oram_geometry.specs.declared.Sizes.{Sizes}
use Rattle.oram_geometry.specs.Sizes.{depth_of, trees_of}
use Rattle.oram_bucket.specs.Cipher.{Cipher}
use Rattle.oram_bucket.specs.Bucket.{IsBlockOf}
use Rattle.oram_trace.specs.declared.entries.Entry.{Entry}
use Rattle.oram_hash.specs.declared.HashFault.{HashFault}
use Rattle.oram_hash.specs.declared.HashFault.TheVariants as fault
use Rattle.oram_hash.specs.Path.{Path, path_of, HasLength, IsAccepted, IsTamperedAt}
use Rattle.oram_hash.specs.Tree.{IsStored, IsPathOf, Collides}
use Rattle.oram_hash.specs.Verdict.{IsFaultOf}
use Rattle.oram_tree.specs.State.{State as Tree}
use Rattle.oram_semantics.specs.Answers.{answered_path, outcome_of, outcome_by, pair_in, is_payload, is_refusal}
use Rattle.oram_semantics.specs.Answers.Outcome.{Good, Fails}
use Rattle.oram_semantics.specs.Content.{entry_tree}
use Rattle.oram_semantics.specs.Messages.{requested}
use Rattle.oram_semantics.specs.Moves.{Fits}
use Rattle.oram_semantics.specs.Progress.Status.{Waiting}
use Rattle.oram_semantics.specs.Scheme.{Scheme, record_len}
use Rattle.oram_semantics.specs.State.{State, World, no_tree, status_in}
use Rattle.oram_semantics.specs.Trees.{Stands}
use Rattle.oram_semantics.proofs.Judged.{pair_is}
use Rattle.oram_semantics.specs.declared.events.Reason.TheVariants.{Malformed}
use Rattle.oram_semantics.proofs.Outcomes.{fetched_is, stored_is, malformed_store, malformed_is}
use Rattle.oram_core.specs.Core.{CoreValue, IsSound, IsTreeKept, scheme_of}
use Rattle.oram_core.specs.AnswerMeaning.{IsChecked, path_now, tree_now}
use Rattle.oram_core.specs.Verdicts.{Means, refusal_in}
use Rattle.oram_core.specs.declared.verdicts.Verdict.{Verdict}
use Rattle.oram_core.proofs.LocalRule.{waits, holds_of}
use Rattle.oram_core.proofs.Sound.{Outstanding, at_hand, healthy_of, sound_accessed, tree_within}

-- a checked path of the right length is the tree's, unless it shows two records with the same digest
path_unless_pair : (v : Scheme) (records : ℕ → ℕ → List ℕ) (e : Entry) (bytes : List ℕ) → e.fetch ≡ true → HasLength (answered_path v e (128 ∷ bytes)) → pair_in v records e (128 ∷ bytes) ≡ false →
    (IsPathOf (records e.tree) (answered_path v e (128 ∷ bytes)) ⊎ Collides (records e.tree) (answered_path v e (128 ∷ bytes))) → IsPathOf (records e.tree) (answered_path v e (128 ∷ bytes))
path_unless_pair v records e bytes fetch whole apart (inl path) = path
path_unless_pair v records e bytes fetch whole apart (inr pair) =
    let long : (length (128 ∷ bytes) == 1 + (depth_of v.device e.tree + 1) * record_len v) ≡ true = grind (arith, nat_tests, whole) in
    let payload : is_payload v e (128 ∷ bytes) ≡ true = rw (fetch, long) refl in
    absurd (let both : true ≡ false = sym (pair_is v records e (128 ∷ bytes) payload pair) ∙ apart in cc)

-- the outstanding fetch
fetch_out : (v : Scheme) (s : State) → IsSound v.device v.cipher.overhead s → status_in s ≡ Waiting → s.entry_number % 2 ≡ 0 → ((requested s.message).fetch ≡ true) × ((requested s.message).tree ≡ entry_tree v.device s.entry_number) × ((requested s.message).leaf < 2 ^ depth_of v.device (entry_tree v.device s.entry_number))
fetch_out v s h now even =
    let o = waits s now in
    let work : Outstanding v.device s o.oldest = at_hand v.device v.cipher.overhead s o.oldest o.rest h o.healthy o.queue in
    let e = work.fetch even in
    (ap (λ (x : Entry). x.fetch) e, ap (λ (x : Entry). x.tree) e, work.leaf)

-- the host's records are stored under the root digest of the tree at work
stored_now : (v : Scheme) (s : State) (w : World) → IsSound v.device v.cipher.overhead s → status_in s ≡ Waiting → Fits v s w →
    IsStored (depth_of v.device (entry_tree v.device s.entry_number)) (record_len v) (tree_now v s).root (w.records (entry_tree v.device s.entry_number))
stored_now v s w h now fits =
    let i : ℕ = entry_tree v.device s.entry_number in
    let stands : Stands v i (tree_now v s) (w.records i) (w.content i) = holds_of v s w fits (waits s now).healthy i (tree_within v.device v.cipher.overhead s h) in
    subst (λ (k : ℕ). IsStored (depth_of v.device k) (record_len v) (tree_now v s).root (w.records i)) stands.number stands.stored.stands

-- the answer means what its check says
pub path_means : {A : Type 0} (v : Scheme) (s : State) (w : World) (bytes : List ℕ) (r : Result A HashFault) → IsSound v.device v.cipher.overhead s → status_in s ≡ Waiting → s.entry_number % 2 ≡ 0 → Fits v s w →
    pair_in v w.records (requested s.message) (128 ∷ bytes) ≡ false → IsChecked v s bytes r → outcome_of v w.records (requested s.message) (128 ∷ bytes) ≡ outcome_by (entry_tree v.device s.entry_number) r
path_means v s w bytes r h now even fits apart checked =
    let i : ℕ = entry_tree v.device s.entry_number in
    let out = fetch_out v s h now even in
    let e : Entry = requested s.message in
    let root : List ℕ = (tree_now v s).root in
    let stored = stored_now v s w h now fits in
    subst (λ (k : ℕ). outcome_of v w.records e (128 ∷ bytes) ≡ outcome_by k r) out.1
    (fetched_is v w.records e (128 ∷ bytes) root r out.0 refl
    (subst (λ (k : ℕ). e.leaf < 2 ^ depth_of v.device k) (sym out.1) out.2)
    (subst (λ (k : ℕ). IsStored (depth_of v.device k) (record_len v) root (w.records k)) (sym out.1) stored)
    apart
    (subst (λ (k : ℕ). (r ≡ Err fault.Length) ↔ (¬ HasLength (path_of v.device k e.leaf v.cipher.overhead bytes))) (sym out.1) checked.short)
    (subst (λ (k : ℕ). MatchResult r (λ _. IsPathOf (w.records k) (path_of v.device k e.leaf v.cipher.overhead bytes)) (IsFaultOf (w.records k) (path_of v.device k e.leaf v.cipher.overhead bytes)) ⊎ Collides (w.records k) (path_of v.device k e.leaf v.cipher.overhead bytes)) (sym out.1)
    (checked.judged (w.records i) stored)))

-- the path that is checked
pub path_same : (v : Scheme) (s : State) (number leaf overhead : ℕ) (device : Sizes) (bytes : List ℕ) → device ≡ v.device → number ≡ entry_tree v.device s.entry_number → leaf ≡ (requested s.message).leaf → overhead ≡ v.cipher.overhead →
    path_of device number leaf overhead bytes ≡ path_now v s bytes
path_same v s number leaf overhead device bytes d n l o = cc

-- the result of the check, case by case
pub checked_as : {A : Type 0} (v : Scheme) (s : State) (number leaf overhead : ℕ) (device : Sizes) (t : Tree) (bytes : List ℕ) (r : Result A HashFault) → device ≡ v.device → number ≡ entry_tree v.device s.entry_number → leaf ≡ (requested s.message).leaf → overhead ≡ v.cipher.overhead → t ≡ tree_now v s →
    (let p = path_of device number leaf overhead bytes in IsOk r ↔ IsAccepted p t.root) →
    (let p = path_of device number leaf overhead bytes in (r ≡ Err fault.Length) ↔ (¬ HasLength p)) →
    (let p = path_of device number leaf overhead bytes in (level : ℕ) → (r ≡ Err (fault.Tampered level)) ↔ IsTamperedAt p t.root level) →
    (let p = path_of device number leaf overhead bytes in
    (records : ℕ → List ℕ) → IsStored p.depth p.record_len t.root records → MatchResult r (λ _. IsPathOf records p) (IsFaultOf records p) ⊎ Collides records p) →
    IsChecked v s bytes r
checked_as v s number leaf overhead device t bytes r d n l o is accepted short tampered judged =
    let same = path_same v s number leaf overhead device bytes d n l o in
    let root : t.root ≡ (tree_now v s).root = ap (λ (k : Tree). k.root) is in
    record {
      accepted = subst (λ (p : Path). IsOk r ↔ IsAccepted p (tree_now v s).root) same (subst (λ (k : List ℕ). IsOk r ↔ IsAccepted (path_of device number leaf overhead bytes) k) root accepted);
      short = subst (λ (p : Path). (r ≡ Err fault.Length) ↔ (¬ HasLength p)) same short;
      tampered = subst (λ (p : Path). (level : ℕ) → (r ≡ Err (fault.Tampered level)) ↔ IsTamperedAt p (tree_now v s).root level) same
          (subst (λ (k : List ℕ). (level : ℕ) → (r ≡ Err (fault.Tampered level)) ↔ IsTamperedAt (path_of device number leaf overhead bytes) k level) root tampered);
      judged = subst (λ (p : Path). (records : ℕ → List ℕ) → IsStored p.depth p.record_len (tree_now v s).root records → MatchResult r (λ _. IsPathOf records p) (IsFaultOf records p) ⊎ Collides records p) same
          (subst (λ (k : List ℕ). let p = path_of device number leaf overhead bytes in (records : ℕ → List ℕ) → IsStored p.depth p.record_len k records → MatchResult r (λ _. IsPathOf records p) (IsFaultOf records p) ⊎ Collides records p) root judged);
    }

whole_by : {A : Type 0} (p : Path) (a : A) (r : Result A HashFault) → r ≡ Ok a → (r ≡ Err fault.Length) ↔ (¬ HasLength p) → HasLength p
whole_by p a r ok short = elim (cases_eq (length p.bytes) ((p.depth + 1) * p.record_len)) [
  | inl whole ↦ whole
  | inr other ↦ absurd (let no_way : Ok a ≡ Err fault.Length = sym ok ∙ short.1 other in cc)
]

judged_ok : {A P C : Type 0} (Q : HashFault → Type 0) (r : Result A HashFault) (a : A) → r ≡ Ok a → MatchResult r (λ _. P) Q ⊎ C → P ⊎ C
judged_ok {A} {P} {C} Q r a ok h = subst (λ (o : Result A HashFault). MatchResult o (λ _. P) Q ⊎ C) ok h

-- and a path that passes the check is the one last stored
pub path_stands : {A : Type 0} (v : Scheme) (s : State) (w : World) (bytes : List ℕ) (a : A) (r : Result A HashFault) → IsSound v.device v.cipher.overhead s → status_in s ≡ Waiting → s.entry_number % 2 ≡ 0 → Fits v s w →
    pair_in v w.records (requested s.message) (128 ∷ bytes) ≡ false → IsChecked v s bytes r → r ≡ Ok a → IsPathOf (w.records (entry_tree v.device s.entry_number)) (path_now v s bytes)
path_stands v s w bytes a r h now even fits apart checked ok =
    let out = fetch_out v s h now even in
    let e : Entry = requested s.message in
    let whole : HasLength (path_now v s bytes) = whole_by (path_now v s bytes) a r ok checked.short in
    subst (λ (k : ℕ). IsPathOf (w.records k) (path_of v.device k e.leaf v.cipher.overhead bytes)) out.1
    (path_unless_pair v w.records e bytes out.0 (subst (λ (k : ℕ). HasLength (path_of v.device k e.leaf v.cipher.overhead bytes)) (sym out.1) whole) apart
    (subst (λ (k : ℕ). IsPathOf (w.records k) (path_of v.device k e.leaf v.cipher.overhead bytes) ⊎ Collides (w.records k) (path_of v.device k e.leaf v.cipher.overhead bytes)) (sym out.1)
    (judged_ok _ r a ok (checked.judged (w.records (entry_tree v.device s.entry_number)) (stored_now v s w h now fits)))))

-- the tree at work, as the code reads it
pub record IsTreeAt (v : Scheme) (s : State) (t : Tree) : Type 0 where
  pub is : t ≡ slice_index_or s.trees (entry_tree v.device s.entry_number) no_tree
  pub number : t.number ≡ entry_tree v.device s.entry_number
  pub blocks : All (IsBlockOf v.device (entry_tree v.device s.entry_number)) t.stash

pub tree_at : (v : Scheme) (s : State) (t : Tree) (i tree : ℕ) → IsSound v.device v.cipher.overhead s → status_in s ≡ Waiting → i ≡ tree → tree ≡ entry_tree v.device s.entry_number → t ≡ slice_index_or s.trees i t → IsTreeAt v s t
tree_at v s t i tree h now from of read =
    let q = healthy_of v.device v.cipher.overhead s h (waits s now).healthy in
    let n : ℕ = entry_tree v.device s.entry_number in
    let same : i ≡ n = from ∙ of in
    let within : n < trees_of v.device = tree_within v.device v.cipher.overhead s h in
    let inside : n < length s.trees = let count : length s.trees ≡ trees_of v.device = q.count in omega arith in
    let is : t ≡ slice_index_or s.trees n no_tree = get_or_read s.trees n t inside (subst (λ (k : ℕ). t ≡ slice_index_or s.trees k t) same read) no_tree in
    let kept : IsTreeKept v.device n t = subst (IsTreeKept v.device n) (sym is) (q.kept n within) in
    record { is = is; number = kept.number; blocks = kept.blocks }

-- A core from which a method borrows the tree at work: inside the method it is the same as outside.
pub record Lends (v : Scheme) (s : State) (t : Tree) (tree : ℕ) : Type 0 where
  pub sound : IsSound v.device v.cipher.overhead s
  pub at : IsTreeAt v s t
  pub number : t.number ≡ tree

pub lends : {S : Type 0} (cipher : S → Cipher) (inside now : CoreValue S) (t : Tree) (i tree : ℕ) → inside ≡ now →
    IsSound inside.device (cipher inside.sealer).overhead inside.state → status_in now.state ≡ Waiting → i ≡ tree → tree ≡ entry_tree now.device now.state.entry_number → t ≡ slice_index_or inside.state.trees i t →
    Lends (scheme_of cipher now) now.state t tree
lends cipher inside now t i tree same sound waiting from of read =
    let v = scheme_of cipher now in
    let here : IsSound v.device v.cipher.overhead now.state = subst (λ (u : CoreValue _). IsSound u.device (cipher u.sealer).overhead u.state) same sound in
    let at : IsTreeAt v now.state t = tree_at v now.state t i tree here waiting from of (subst (λ (u : CoreValue _). t ≡ slice_index_or u.state.trees i t) same read) in
    record { sound = here; at = at; number = at.number ∙ sym of }

-- The index of the tree at work is one of the trees' indices.
pub lent_within : {S : Type 0} (cipher : S → Cipher) (inside now : CoreValue S) (i tree count : ℕ) → inside ≡ now → IsSound inside.device (cipher inside.sealer).overhead inside.state → status_in now.state ≡ Waiting → i ≡ tree → tree < trees_of now.device →
    count ≡ length inside.state.trees → i < count
lent_within cipher inside now i tree count same sound waiting from within all =
    let here : IsSound now.device (cipher now.sealer).overhead now.state = subst (λ (u : CoreValue _). IsSound u.device (cipher u.sealer).overhead u.state) same sound in
    let whole : length now.state.trees ≡ trees_of now.device = (healthy_of now.device (cipher now.sealer).overhead now.state here (waits now.state waiting).healthy).count in
    let kept : length inside.state.trees ≡ length now.state.trees = ap (λ (u : CoreValue _). length u.state.trees) same in
    omega (arith, whole, kept, all, from, within)

-- The core is sound again with another tree in place of that one.
pub gives_back : {S : Type 0} (cipher : S → Cipher) (inside now : CoreValue S) (t new : Tree) (i tree : ℕ) → inside ≡ now → IsSound inside.device (cipher inside.sealer).overhead inside.state → status_in now.state ≡ Waiting →
    i ≡ tree → tree < trees_of now.device → t.number ≡ tree → new.number ≡ t.number → All (IsBlockOf inside.device t.number) new.stash →
    IsSound inside.device (cipher inside.sealer).overhead (record inside.state { trees = slice_set inside.state.trees i new })
gives_back cipher inside now t new i tree same sound waiting from within number kept blocks =
    let at : t.number ≡ i = number ∙ sym from in
    subst (λ (u : CoreValue _). IsSound u.device (cipher u.sealer).overhead (record u.state { trees = slice_set u.state.trees i new })) (sym same)
    (sound_accessed now.device (cipher now.sealer).overhead now.state i new (subst (λ (u : CoreValue _). IsSound u.device (cipher u.sealer).overhead u.state) same sound) (waits now.state waiting).healthy (rw from within)
    (record { number = kept ∙ at; blocks = subst (λ (k : ℕ). All (IsBlockOf now.device k) new.stash) at (subst (λ (u : CoreValue _). All (IsBlockOf u.device t.number) new.stash) same blocks) }))

-- a refusal, by its code
pub record IsRefused (bytes : List ℕ) (code : ℕ) : Type 0 where
  pub is : bytes ≡ 129 ∷ code ∷ []
  pub low : 1 ≤ code
  pub high : code ≤ 8

refused_two : (x y code : ℕ) (a b c : Bool) → (x == 129) ≡ a → (y == 0) ≡ b → nat_lt 8 y ≡ c → (if not a then None else if b then None else if c then None else Some y) ≡ Some code → IsRefused (x ∷ y ∷ []) code
refused_two x y code false b c p q r e = absurd (let no_way : None ≡ Some code = e in cc)
refused_two x y code true true c p q r e = absurd (let no_way : None ≡ Some code = e in cc)
refused_two x y code true false true p q r e = absurd (let no_way : None ≡ Some code = e in cc)
refused_two x y code true false false p q r e =
    let first : x ≡ 129 = grind (arith, nat_tests) in
    let second : y ≡ code = let some : Some y ≡ Some code = e in cc in
    let low : 1 ≤ y = grind (arith, nat_tests) in
    let high : y ≤ 8 = grind (arith, nat_tests) in
    record { is = cc; low = omega arith; high = omega arith }

both_true : (a b : Bool) → (a && b) ≡ true → (a ≡ true) × (b ≡ true)
both_true true b e = (refl, e)
both_true false b e = (e, absurd (let no_way : false ≡ true = e in cc))

is_refused : (bytes : List ℕ) → is_refusal bytes ≡ true → refusal_in bytes ≡ Some (slice_index bytes 1)
is_refused bytes test =
    let three = both_true ((length bytes == 2) && (slice_index bytes 0 == 129) && nat_le 1 (slice_index bytes 1)) (nat_le (slice_index bytes 1) 7) test in
    let two = both_true ((length bytes == 2) && (slice_index bytes 0 == 129)) (nat_le 1 (slice_index bytes 1)) three.0 in
    let one = both_true (length bytes == 2) (slice_index bytes 0 == 129) two.0 in
    let some : (slice_index bytes 1 == 0) ≡ false = grind (arith, nat_tests, two.1) in
    let few : nat_lt 8 (slice_index bytes 1) ≡ false = grind (arith, nat_tests, three.1) in
    rw (one.0, one.1, some, few) refl

pub refused_so : (bytes : List ℕ) (code : ℕ) → refusal_in bytes ≡ Some code → IsRefused bytes code
refused_so [] code e = absurd (let no_way : None ≡ Some code = e in cc)
refused_so (x ∷ []) code e = absurd (let no_way : None ≡ Some code = e in cc)
refused_so (x ∷ y ∷ []) code e = refused_two x y code (x == 129) (y == 0) (nat_lt 8 y) refl refl refl e
refused_so (x ∷ y ∷ z ∷ more) code e =
    let long : (length (x ∷ y ∷ z ∷ more) == 2) ≡ false = grind (arith, nat_tests) in
    absurd (let no_way : None ≡ Some code = sym (ap (λ (b : Bool). if not b then None else if not (x == 129) then None else if y == 0 then None else if nat_lt 8 y then None else Some y) long) ∙ e in cc)

-- the answer is no refusal
pub record IsNoRefusal (bytes : List ℕ) : Type 0 where
  pub refusal : is_refusal bytes ≡ false
  pub room : bytes ≢ 129 ∷ 8 ∷ []

pub not_refused : (bytes : List ℕ) → refusal_in bytes ≡ None → IsNoRefusal bytes
not_refused bytes none = record {
  refusal = elim (is_refusal bytes) as (λ b. is_refusal bytes ≡ b → b ≡ false) [ true ↦ λ test. absurd (let no_way : Some (slice_index bytes 1) ≡ None = sym (is_refused bytes test) ∙ none in cc) | false ↦ λ test. refl ] refl;
  room = λ is. absurd (let no_way : Some 8 ≡ None = sym (ap refusal_in is) ∙ none in cc);
}

store_out : (v : Scheme) (s : State) → IsSound v.device v.cipher.overhead s → status_in s ≡ Waiting → s.entry_number % 2 ≡ 1 → (requested s.message).fetch ≡ false
store_out v s h now odd =
    let o = waits s now in
    let work : Outstanding v.device s o.oldest = at_hand v.device v.cipher.overhead s o.oldest o.rest h o.healthy o.queue in
    ap (λ (x : Entry). x.fetch) (work.store odd)

nothing : (bytes : List ℕ) → length bytes ≡ 0 → bytes ≡ []
nothing [] none = refl
nothing (x ∷ bytes) none = absurd (omega arith)

-- byte 0x80 alone is a good answer to a STORE,
pub stored_means : (v : Scheme) (s : State) (w : World) (records : List ℕ) → IsSound v.device v.cipher.overhead s → status_in s ≡ Waiting → s.entry_number % 2 ≡ 1 → length records ≡ 0 → outcome_of v w.records (requested s.message) (128 ∷ records) ≡ Good
stored_means v s w records h now odd none = stored_is v w.records (requested s.message) (128 ∷ records) (store_out v s h now odd) (ap (λ r. 128 ∷ r) (nothing records none))

-- more bytes than that are not,
pub longer_means : (v : Scheme) (s : State) (w : World) (records : List ℕ) → IsSound v.device v.cipher.overhead s → status_in s ≡ Waiting → s.entry_number % 2 ≡ 1 → 0 < length records → outcome_of v w.records (requested s.message) (128 ∷ records) ≡ Fails Malformed
longer_means v s w records h now odd some = malformed_store v w.records (requested s.message) (128 ∷ records) (store_out v s h now odd) refl (λ same. absurd (omega (arith, ap length same)))

-- and nothing else begins a good answer
pub other_means : (v : Scheme) (s : State) (w : World) (bytes : List ℕ) → refusal_in bytes ≡ None → slice_index bytes 0 ≢ 128 → outcome_of v w.records (requested s.message) bytes ≡ Fails Malformed
other_means v s w bytes none first = malformed_is v w.records (requested s.message) bytes first (not_refused bytes none).room (not_refused bytes none).refusal

pub empty_means : (v : Scheme) (s : State) (w : World) (bytes : List ℕ) → refusal_in bytes ≡ None → length bytes ≡ 0 → outcome_of v w.records (requested s.message) bytes ≡ Fails Malformed
empty_means v s w bytes none empty = other_means v s w bytes none (λ first. absurd (let zero : slice_index bytes 0 ≡ 0 = ap (λ xs. slice_index xs 0) (nothing bytes empty) in omega arith))

-- byte 0x80 and the bytes after it
pub payload_means : (v : Scheme) (s : State) (bytes xs : List ℕ) (r : Verdict) → ((w : World) → Fits v s w → pair_in v w.records (requested s.message) (128 ∷ xs) ≡ false → Means v s w (128 ∷ xs) r) → xs ≡ drop 1 bytes → slice_index bytes 0 ≡ 128 →
    (w : World) → Fits v s w → pair_in v w.records (requested s.message) bytes ≡ false → Means v s w bytes r
payload_means v s [] xs r meant is first = absurd (omega arith)
payload_means v s (x ∷ bytes) xs r meant is first =
    let whole : 128 ∷ xs ≡ x ∷ bytes = cc in
    λ w fits apart. subst (λ (ys : List ℕ). pair_in v w.records (requested s.message) ys ≡ false → Means v s w ys r) whole (meant w fits) apart
