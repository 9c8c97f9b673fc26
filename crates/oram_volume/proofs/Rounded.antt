-- How the blocks of a call are cut into rounds.
use Rattle.std.proofs.Common.{◌≡◌, ◌⊎◌, ℕ, zero, suc, ◌/◌, ◌<◌, ◌≤◌, List, [], ◌∷◌, ◌++◌, drop, length, length-append, map, take, refl, sym, ap, ◌∙◌, subst, arith, inl, inr}
use Rattle.std.proofs.lemmas.List.{append-nil, drop_all, drop_at, map-append, take_all, take_at}
use Rattle.oram_nbd.specs.Accesses.{blocks_of, numbers_from, range_of, whole_blocks}
use Rattle.oram_nbd.specs.declared.operations.Operation.{Operation}
use Rattle.oram_nbd.specs.declared.operations.Operation.TheVariants as operation
use Rattle.oram_semantics.specs.Events.{address_of}
use Rattle.oram_volume.specs.CarriedOut.{AreRounds}
use Rattle.oram_volume.specs.RangeCommands.{all_commands, commands_of, discard_commands, read_commands, write_commands}

reads_at : (n first : ℕ) → map address_of (read_commands first n) ≡ numbers_from first n
reads_at zero first = refl
reads_at (suc n) first = ap (λ (l : List ℕ). first ∷ l) (reads_at n (suc first))

discards_at : (n first : ℕ) → map address_of (discard_commands first n) ≡ numbers_from first n
discards_at zero first = refl
discards_at (suc n) first = ap (λ (l : List ℕ). first ∷ l) (discards_at n (suc first))

writes_at : (b n first : ℕ) (payload : List ℕ) → map address_of (write_commands b first n payload) ≡ numbers_from first n
writes_at b zero first payload = refl
writes_at b (suc n) first payload = ap (λ (l : List ℕ). first ∷ l) (writes_at b n (suc first) (drop b payload))

-- an operation has a command on each of its blocks, whatever it does
commands_at : (b : ℕ) (op : Operation) → map address_of (commands_of b op) ≡ whole_blocks b (range_of op)
commands_at b (operation.Read at count) = reads_at (count / b) (at / b)
commands_at b (operation.Write at payload) = writes_at b (length payload / b) (at / b) payload
commands_at b (operation.Zero at count) = discards_at (count / b) (at / b)

pub all_at : (b : ℕ) (ops : List Operation) → map address_of (all_commands b ops) ≡ blocks_of b ops
all_at b [] = refl
all_at b (op ∷ ops) =
    map-append address_of (commands_of b op) (all_commands b ops) ∙ ap (λ (l : List ℕ). l ++ map address_of (all_commands b ops)) (commands_at b op)
    ∙ ap (λ (l : List ℕ). whole_blocks b (range_of op) ++ l) (all_at b ops)

-- the next round is as long as it can be
next_cut : (most : ℕ) (xs ys : List ℕ) → length xs ≤ most → (length xs ≡ most) ⊎ (ys ≡ []) → (xs ≡ take most (xs ++ ys)) × (drop most (xs ++ ys) ≡ ys)
next_cut most xs ys few (inl full) = (sym (take_at xs ys most full), drop_at xs ys most full)
next_cut most xs ys few (inr none) = (
  sym (ap (λ (l : List ℕ). take most (xs ++ l)) none ∙ ap (take most) (append-nil xs) ∙ take_all most xs few),
  ap (λ (l : List ℕ). drop most (xs ++ l)) none ∙ ap (drop most) (append-nil xs) ∙ drop_all most xs few ∙ sym none,
)

-- Rounds so far: whatever rounds the rest is cut into, together they are those of all blocks.
abbrev pub CutSoFar : ℕ → List ℕ → List (List ℕ) → List ℕ → Type 0
CutSoFar most all rounds rest = (more : List (List ℕ)) → AreRounds most rest more → AreRounds most all (rounds ++ more)

pub cut_none : (most : ℕ) (all rest : List ℕ) → rest ≡ all → CutSoFar most all [] rest
cut_none most all rest same more h = subst (λ (l : List ℕ). AreRounds most l more) same h

pub cut_next : (most : ℕ) (all : List ℕ) (rounds : List (List ℕ)) (rest round after : List ℕ) → CutSoFar most all rounds rest → rest ≡ round ++ after → 0 < length round → length round ≤ most → (length round ≡ most) ⊎ (after ≡ [])
    → CutSoFar most all (rounds ++ round ∷ []) after
cut_next most all rounds rest round after so_far is some few full more h =
    let k = next_cut most round after few full in
    let long : 0 < length (round ++ after) = omega (arith, some, length-append round after) in
    let here : AreRounds most (round ++ after) (round ∷ more) = (long, k.0, subst (λ (l : List ℕ). AreRounds most l more) (sym k.1) h) in
    subst (λ (l : List (List ℕ)). AreRounds most all l) (sym (one_more rounds)) (so_far (round ∷ more) (subst (λ (l : List ℕ). AreRounds most l (round ∷ more)) (sym is) here))
  where
    one_more : (rs : List (List ℕ)) → (rs ++ round ∷ []) ++ more ≡ rs ++ round ∷ more
    one_more [] = refl
    one_more (r ∷ rs) = ap (λ (l : List (List ℕ)). r ∷ l) (one_more rs)

pub cut_all : (most : ℕ) (all : List ℕ) (rounds : List (List ℕ)) (rest : List ℕ) → CutSoFar most all rounds rest → rest ≡ [] → AreRounds most all rounds
cut_all most all rounds rest so_far none = subst (λ (l : List (List ℕ)). AreRounds most all l) (append-nil rounds) (so_far [] none)
