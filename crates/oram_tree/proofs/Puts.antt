-- The PUTs of a subtree, joined.
use Rattle.std.proofs.Common.{◌≡◌, ℕ, zero, suc, ◌+◌, ◌-◌, ◌*◌, ◌^◌, ◌<◌, ◌≤◌, List, [], ◌∷◌, ◌++◌, Result, Ok, Err, IfErr, inl, inr, refl, sym, ap, subst, ◌∙◌, append_assoc, arith}
use Rattle.std.specs.Result.{IsErrAnd}
use Rattle.std.proofs.lemmas.Nat.{pow-add, pow_pos}
use Rattle.sha2.specs.Sha256.{sha256}
use Rattle.oram_hash.specs.Record.{no_digest}
use Rattle.oram_tree.specs.Faults.{format_fault}
use Rattle.oram_tree.specs.Format.{PutsAll, IsBrokenOff}
use Rattle.oram_tree.specs.Subtree.{puts, root_record, IsStartOf}
use Rattle.oram_tree.specs.declared.faults.FormatFault.{FormatFault}
use Rattle.oram_tree.specs.declared.faults.FormatFault.TheVariants.{OutOfMemory}
use Rattle.oram_wire.specs.declared.sinks.SinkFault.{SinkFault}
use Rattle.oram_wire.specs.HostMessages.{put_body}
use Rattle.oram_tree.specs.Content.{node_count}

pub twice_pow : (h : ℕ) → 0 < h → 2 ^ h ≡ 2 ^ (h - 1) * 2
twice_pow h some = ap (λ (k : ℕ). 2 ^ k) (let e : h ≡ h - 1 + 1 = omega arith in e) ∙ pow-add 2 (h - 1) 1

left_lem : (n p m : ℕ) → (n + 2) * (p * 2) ≤ m → (2 * n + 1 + 2) * p ≤ m
left_lem n p m h = let e : (n + 2) * (p * 2) ≡ (2 * n + 1 + 2) * p + p = omega arith in omega arith

pub left_nodes : (n h m : ℕ) → 0 < h → (n + 2) * 2 ^ h ≤ m → (2 * n + 1 + 2) * 2 ^ (h - 1) ≤ m
left_nodes n h m some fits = left_lem n (2 ^ (h - 1)) m (rw (twice_pow h some) at fits)

right_lem : (n p m : ℕ) → (n + 2) * (p * 2) ≤ m → (2 * n + 2 + 2) * p ≤ m
right_lem n p m h = let e : (n + 2) * (p * 2) ≡ (2 * n + 2 + 2) * p = omega arith in omega arith

pub right_nodes : (n h m : ℕ) → 0 < h → (n + 2) * 2 ^ h ≤ m → (2 * n + 2 + 2) * 2 ^ (h - 1) ≤ m
right_nodes n h m some fits = right_lem n (2 ^ (h - 1)) m (rw (twice_pow h some) at fits)

pub node_count-twice : (h : ℕ) → 0 < h → node_count h ≡ 2 * node_count (h - 1) + 1
node_count-twice h some =
    let up : 2 ^ (h + 1) ≡ 2 ^ h * 2 = pow-add 2 h 1 in
    let back : 2 ^ (h - 1 + 1) ≡ 2 ^ h = ap (λ (k : ℕ). 2 ^ k) (let e : h - 1 + 1 ≡ h = omega arith in e) in
    let pos : 2 ^ h ≡ 2 ^ (h - 1) * 2 = twice_pow h some in
    let one : 1 ≤ 2 ^ h = pow_pos h in
    omega arith

pub PutsAll-append : {K : Type 0} (putting : K → List ℕ → K → Type 0) (from next to : K) (bs cs : List (List ℕ)) → PutsAll putting from bs next → PutsAll putting next cs to → PutsAll putting from (bs ++ cs) to
PutsAll-append {K} putting from next to [] cs first second = let P : K → Type 0 = λ k. PutsAll putting k cs to in subst P (sym first) second
PutsAll-append {K} putting from next to (b ∷ bs) cs first second = (first.0, first.1, PutsAll-append putting first.0 next to bs cs first.2 second)

pub if_err : {T E : Type 0} (r : Result T E) (P Q : E → Type 0) → IsErrAnd r P → ((e : E) → P e → Q e) → IfErr r Q
if_err (Ok x) P Q h f = tt
if_err (Err e) P Q h f = f e h

-- a formatting that is broken off before its first body, at the first body, and after some bodies

pub stands_still : {K : Type 0} (putting : K → List ℕ → K → Type 0) (refusing : K → List ℕ → SinkFault → K → Type 0) (Begins : List (List ℕ) → Type 0) (from to : K) (fault : FormatFault) → Begins [] → fault ≡ OutOfMemory → to ≡ from → IsBrokenOff putting refusing Begins from fault to
stands_still putting refusing Begins from to fault begun memory same = record { taken = []; begun = begun; mid = from; puts = refl; ended = inl (memory, same) }

pub refused_first : {K : Type 0} (putting : K → List ℕ → K → Type 0) (refusing : K → List ℕ → SinkFault → K → Type 0) (Begins : List (List ℕ) → Type 0) (from to : K) (fault : FormatFault) (body : List ℕ) (why : SinkFault) → Begins [] → Begins (body ∷ []) → refusing from body why to → fault ≡ format_fault why → IsBrokenOff putting refusing Begins from fault to
refused_first putting refusing Begins from to fault body why begun next refused reported = record { taken = []; begun = begun; mid = from; puts = refl; ended = inr (record { body = body; begun = next; why = why; refused = refused; reported = reported }) }

pub broken_after : {K : Type 0} (putting : K → List ℕ → K → Type 0) (refusing : K → List ℕ → SinkFault → K → Type 0) (P Q : List (List ℕ) → Type 0) (from next to : K) (fault : FormatFault) (bs : List (List ℕ)) → ((xs : List (List ℕ)) → P xs → Q (bs ++ xs)) → PutsAll putting from bs next → IsBrokenOff putting refusing P next fault to → IsBrokenOff putting refusing Q from fault to
broken_after putting refusing P Q from next to fault bs on before b = record {
  taken = bs ++ b.taken;
  begun = on b.taken b.begun;
  mid = b.mid;
  puts = PutsAll-append putting from next b.mid bs b.taken before b.puts;
  ended = elim b.ended [
    | inl own ↦ inl own
    | inr r ↦ inr (record { body = r.body; begun = subst Q (sym (append_assoc bs b.taken (r.body ∷ []))) (on (b.taken ++ r.body ∷ []) r.begun); why = r.why; refused = r.refused; reported = r.reported })
  ];
}

pub puts-leaf : {K : Type 0} (putting : K → List ℕ → K → Type 0) (from to : K) (seal : ℕ → List ℕ) (tree h k n : ℕ) → h ≡ 0 → putting from (put_body tree n (seal k ++ no_digest ++ no_digest)) to → PutsAll putting from (puts seal tree h k n) to
unfolding puts root_record
puts-leaf putting from to seal tree zero k n none done = (to, done, refl)
puts-leaf putting from to seal tree (suc h) k n none done = absurd (omega arith)

pub root_record-leaf : (seal : ℕ → List ℕ) (h k : ℕ) → h ≡ 0 → root_record seal h k ≡ seal k ++ no_digest ++ no_digest
unfolding root_record
root_record-leaf seal zero k none = refl
root_record-leaf seal (suc h) k none = absurd (omega arith)

pub root_record-inner : (seal : ℕ → List ℕ) (h k b : ℕ) (l r : List ℕ) → 0 < h → b ≡ node_count (h - 1) → l ≡ sha256 (root_record seal (h - 1) k) → r ≡ sha256 (root_record seal (h - 1) (k + b)) → root_record seal h k ≡ seal (k + 2 * b) ++ l ++ r
unfolding root_record
root_record-inner seal zero k b l r some below left right = absurd (omega arith)
root_record-inner seal (suc h) k b l r some below left right =
    let e : suc h - 1 ≡ h = omega arith in
    let b_is : b ≡ node_count h = below ∙ ap node_count e in
    let l_is : l ≡ sha256 (root_record seal h k) = left ∙ ap (λ (g : ℕ). sha256 (root_record seal g k)) e in
    let r_is : r ≡ sha256 (root_record seal h (k + node_count h)) = right ∙ ap (λ (g : ℕ). sha256 (root_record seal g (k + b))) e ∙ ap (λ (x : ℕ). sha256 (root_record seal h (k + x))) b_is in
    rw (l_is, r_is) (ap (λ (x : ℕ). seal (k + 2 * x) ++ sha256 (root_record seal h k) ++ sha256 (root_record seal h (k + node_count h))) (sym b_is))

pub puts-inner : {K : Type 0} (putting : K → List ℕ → K → Type 0) (from left right to : K) (seal : ℕ → List ℕ) (tree h k n b : ℕ) (r : List ℕ) → 0 < h → b ≡ node_count (h - 1)
    → PutsAll putting from (puts seal tree (h - 1) k (2 * n + 1)) left → PutsAll putting left (puts seal tree (h - 1) (k + b) (2 * n + 2)) right
    → putting right (put_body tree n r) to → r ≡ root_record seal h k → PutsAll putting from (puts seal tree h k n) to
unfolding puts
puts-inner putting from left right to seal tree zero k n b r some below first second done record_is = absurd (omega arith)
puts-inner putting from left right to seal tree (suc h) k n b r some below first second done record_is =
    let e : suc h - 1 ≡ h = omega arith in
    let b_is : b ≡ node_count h = below ∙ ap node_count e in
    let P = λ (g : ℕ). PutsAll putting from (puts seal tree g k (2 * n + 1)) left in
    let Q = λ (g : ℕ). PutsAll putting left (puts seal tree g (k + b) (2 * n + 2)) right in
    let R = λ (x : ℕ). PutsAll putting left (puts seal tree h (k + x) (2 * n + 2)) right in
    let D = λ (x : List ℕ). putting right (put_body tree n x) to in
    PutsAll-append putting from right to (puts seal tree h k (2 * n + 1) ++ puts seal tree h (k + node_count h) (2 * n + 2)) (put_body tree n (root_record seal (suc h) k) ∷ [])
    (PutsAll-append putting from left right (puts seal tree h k (2 * n + 1)) (puts seal tree h (k + node_count h) (2 * n + 2)) (subst P e first) (subst R b_is (subst Q e second)))
    (to, subst D record_is done, refl)

pub broken_with : {K : Type 0} (putting : K → List ℕ → K → Type 0) (refusing : K → List ℕ → SinkFault → K → Type 0) (Begins : List (List ℕ) → Type 0) (from to : K) (fault why : FormatFault) → fault ≡ why → IsBrokenOff putting refusing Begins from why to → IsBrokenOff putting refusing Begins from fault to
broken_with putting refusing Begins from to fault why same b = subst (λ (f : FormatFault). IsBrokenOff putting refusing Begins from f to) (sym same) b

-- beginnings of a subtree's PUTs

pub starts-leaf : (seal : ℕ → List ℕ) (tree h k n : ℕ) (xs : List (List ℕ)) → h ≡ 0 → IsStartOf (put_body tree n (seal k ++ no_digest ++ no_digest) ∷ []) xs → IsStartOf (puts seal tree h k n) xs
unfolding puts root_record
starts-leaf seal tree zero k n xs none s = s
starts-leaf seal tree (suc h) k n xs none s = absurd (omega arith)

within_left : (whole left rest xs : List (List ℕ)) → whole ≡ left ++ rest → IsStartOf left xs → IsStartOf whole xs
within_left whole left rest xs is s = (s.0 ++ rest, sym (append_assoc xs s.0 rest) ∙ ap (λ ys. ys ++ rest) s.1 ∙ sym is)

within_next : (whole left next rest xs : List (List ℕ)) → whole ≡ left ++ (next ++ rest) → IsStartOf next xs → IsStartOf whole (left ++ xs)
within_next whole left next rest xs is s = (s.0 ++ rest, append_assoc left xs (s.0 ++ rest) ∙ ap (λ ys. left ++ ys) (sym (append_assoc xs s.0 rest) ∙ ap (λ ys. ys ++ rest) s.1) ∙ sym is)

pub puts_split : (seal : ℕ → List ℕ) (tree h k n b : ℕ) (r : List ℕ) → 0 < h → b ≡ node_count (h - 1) → r ≡ root_record seal h k → puts seal tree h k n ≡ puts seal tree (h - 1) k (2 * n + 1) ++ puts seal tree (h - 1) (k + b) (2 * n + 2) ++ put_body tree n r ∷ []
unfolding puts
puts_split seal tree zero k n b r some below record_is = absurd (omega arith)
puts_split seal tree (suc h) k n b r some below record_is =
    let e : suc h - 1 ≡ h = omega arith in
    let b_is : b ≡ node_count h = below ∙ ap node_count e in
    ap (λ (x : List ℕ). puts seal tree h k (2 * n + 1) ++ puts seal tree h (k + node_count h) (2 * n + 2) ++ put_body tree n x ∷ []) (sym record_is)
    ∙ ap (λ (x : ℕ). puts seal tree h k (2 * n + 1) ++ puts seal tree h (k + x) (2 * n + 2) ++ put_body tree n r ∷ []) (sym b_is)
    ∙ ap (λ (g : ℕ). puts seal tree g k (2 * n + 1) ++ puts seal tree g (k + b) (2 * n + 2) ++ put_body tree n r ∷ []) (sym e)

pub starts-left : (seal : ℕ → List ℕ) (tree h k n b : ℕ) (xs : List (List ℕ)) → 0 < h → b ≡ node_count (h - 1) → IsStartOf (puts seal tree (h - 1) k (2 * n + 1)) xs → IsStartOf (puts seal tree h k n) xs
starts-left seal tree h k n b xs some below s =
    let top = root_record seal h k in
    within_left _ (puts seal tree (h - 1) k (2 * n + 1)) (puts seal tree (h - 1) (k + b) (2 * n + 2) ++ put_body tree n top ∷ []) xs
    (puts_split seal tree h k n b top some below refl ∙ append_assoc (puts seal tree (h - 1) k (2 * n + 1)) (puts seal tree (h - 1) (k + b) (2 * n + 2)) (put_body tree n top ∷ [])) s

pub starts-right : (seal : ℕ → List ℕ) (tree h k n b : ℕ) (xs : List (List ℕ)) → 0 < h → b ≡ node_count (h - 1) → IsStartOf (puts seal tree (h - 1) (k + b) (2 * n + 2)) xs → IsStartOf (puts seal tree h k n) (puts seal tree (h - 1) k (2 * n + 1) ++ xs)
starts-right seal tree h k n b xs some below s =
    let top = root_record seal h k in
    within_next _ (puts seal tree (h - 1) k (2 * n + 1)) (puts seal tree (h - 1) (k + b) (2 * n + 2)) (put_body tree n top ∷ []) xs
    (puts_split seal tree h k n b top some below refl ∙ append_assoc (puts seal tree (h - 1) k (2 * n + 1)) (puts seal tree (h - 1) (k + b) (2 * n + 2)) (put_body tree n top ∷ [])) s

pub starts-top : (seal : ℕ → List ℕ) (tree h k n b : ℕ) (r : List ℕ) (xs : List (List ℕ)) → 0 < h → b ≡ node_count (h - 1) → r ≡ root_record seal h k → IsStartOf (put_body tree n r ∷ []) xs → IsStartOf (puts seal tree h k n) ((puts seal tree (h - 1) k (2 * n + 1) ++ puts seal tree (h - 1) (k + b) (2 * n + 2)) ++ xs)
starts-top seal tree h k n b r xs some below record_is s =
    within_next _ (puts seal tree (h - 1) k (2 * n + 1) ++ puts seal tree (h - 1) (k + b) (2 * n + 2)) (put_body tree n r ∷ []) [] xs
    (puts_split seal tree h k n b r some below record_is) s
