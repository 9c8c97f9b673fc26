-- The commands of operations, one block after the other.
use Rattle.std.proofs.Common.{◌≡◌, ℕ, zero, suc, ◌+◌, ◌*◌, ◌/◌, ◌<◌, ◌≤◌, List, [], ◌∷◌, ◌++◌, length, take, drop, get_or, drop-cons, refl, sym, ap, ◌∙◌, subst, arith, append_assoc, mul-suc, mul-zero}
use Rattle.std.proofs.lemmas.List.{drop-drop, drop_all}
use Rattle.oram_nbd.specs.Operations.{len_of, place_of}
use Rattle.oram_nbd.specs.declared.operations.Operation.{Operation}
use Rattle.oram_nbd.specs.declared.operations.Operation.TheVariants as operation
use Rattle.oram_semantics.specs.declared.events.Command.{Command}
use Rattle.oram_semantics.specs.declared.events.Command.TheVariants.{Discard, Read, Write}
use Rattle.oram_volume.specs.RangeCommands.{all_commands, commands_of, discard_commands, read_commands, rest_in, rest_of, write_commands}

drop_reads : (n first k : ℕ) → k < n → drop k (read_commands first n) ≡ Read (first + k) ∷ drop (suc k) (read_commands first n)
drop_reads zero first k some = absurd (omega (arith, some))
drop_reads (suc n) first zero some = ap (λ (a : ℕ). Read a ∷ read_commands (suc first) n) (let same : first ≡ first + 0 = omega arith in same)
drop_reads (suc n) first (suc k) some =
    drop_reads n (suc first) k (omega (arith, some)) ∙ ap (λ (a : ℕ). Read a ∷ drop (suc k) (read_commands (suc first) n)) (let same : suc first + k ≡ first + suc k = omega arith in same)

drop_discards : (n first k : ℕ) → k < n → drop k (discard_commands first n) ≡ Discard (first + k) ∷ drop (suc k) (discard_commands first n)
drop_discards zero first k some = absurd (omega (arith, some))
drop_discards (suc n) first zero some = ap (λ (a : ℕ). Discard a ∷ discard_commands (suc first) n) (let same : first ≡ first + 0 = omega arith in same)
drop_discards (suc n) first (suc k) some =
    drop_discards n (suc first) k (omega (arith, some)) ∙ ap (λ (a : ℕ). Discard a ∷ drop (suc k) (discard_commands (suc first) n)) (let same : suc first + k ≡ first + suc k = omega arith in same)

drop_writes : (b n first k : ℕ) (payload : List ℕ) → k < n → drop k (write_commands b first n payload) ≡ Write (first + k) (take b (drop (b * k) payload)) ∷ drop (suc k) (write_commands b first n payload)
drop_writes b zero first k payload some = absurd (omega (arith, some))
drop_writes b (suc n) first zero payload some =
    ap (λ (a : ℕ). Write a (take b payload) ∷ write_commands b (suc first) n (drop b payload)) (let same : first ≡ first + 0 = omega arith in same)
    ∙ ap (λ (i : ℕ). Write (first + 0) (take b (drop i payload)) ∷ write_commands b (suc first) n (drop b payload)) (sym (mul-zero b))
drop_writes b (suc n) first (suc k) payload some =
    let place : b + b * k ≡ b * suc k = (let more : b * suc k ≡ b * k + b = mul-suc b k in omega arith) in
    drop_writes b n (suc first) k (drop b payload) (omega (arith, some))
    ∙ ap (λ (a : ℕ). Write a (take b (drop (b * k) (drop b payload))) ∷ drop (suc k) (write_commands b (suc first) n (drop b payload))) (let same : suc first + k ≡ first + suc k = omega arith in same)
    ∙ ap (λ (l : List ℕ). Write (first + suc k) (take b l) ∷ drop (suc k) (write_commands b (suc first) n (drop b payload))) (drop-drop (b * k) b payload ∙ ap (λ (i : ℕ). drop i payload) place)

-- the command of one block
pub read_at : (b at count k : ℕ) (op : Operation) → op ≡ operation.Read at count → k < len_of op / b → drop k (commands_of b op) ≡ Read (place_of op / b + k) ∷ drop (k + 1) (commands_of b op)
read_at b at count k op is some =
    let low : k < count / b = subst (λ (o : Operation). k < len_of o / b) is some in
    let one : suc k ≡ k + 1 = omega arith in
    ap (λ (o : Operation). drop k (commands_of b o)) is ∙ drop_reads (count / b) (at / b) k low
    ∙ ap (λ (n : ℕ). Read (at / b + k) ∷ drop n (read_commands (at / b) (count / b))) one
    ∙ sym (ap (λ (o : Operation). Read (place_of o / b + k) ∷ drop (k + 1) (commands_of b o)) is)

pub discard_at : (b at count k : ℕ) (op : Operation) → op ≡ operation.Zero at count → k < len_of op / b → drop k (commands_of b op) ≡ Discard (place_of op / b + k) ∷ drop (k + 1) (commands_of b op)
discard_at b at count k op is some =
    let low : k < count / b = subst (λ (o : Operation). k < len_of o / b) is some in
    let one : suc k ≡ k + 1 = omega arith in
    ap (λ (o : Operation). drop k (commands_of b o)) is ∙ drop_discards (count / b) (at / b) k low
    ∙ ap (λ (n : ℕ). Discard (at / b + k) ∷ drop n (discard_commands (at / b) (count / b))) one
    ∙ sym (ap (λ (o : Operation). Discard (place_of o / b + k) ∷ drop (k + 1) (commands_of b o)) is)

pub write_at : (b at k : ℕ) (payload part : List ℕ) (op : Operation) → op ≡ operation.Write at payload → k < len_of op / b → part ≡ take b (drop (b * k) payload)
    → drop k (commands_of b op) ≡ Write (place_of op / b + k) part ∷ drop (k + 1) (commands_of b op)
write_at b at k payload part op is some copied =
    let low : k < length payload / b = subst (λ (o : Operation). k < len_of o / b) is some in
    let one : suc k ≡ k + 1 = omega arith in
    ap (λ (o : Operation). drop k (commands_of b o)) is ∙ drop_writes b (length payload / b) (at / b) k payload low
    ∙ ap (λ (l : List ℕ). Write (at / b + k) l ∷ drop (suc k) (write_commands b (at / b) (length payload / b) payload)) (sym copied)
    ∙ ap (λ (n : ℕ). Write (at / b + k) part ∷ drop n (write_commands b (at / b) (length payload / b) payload)) one
    ∙ sym (ap (λ (o : Operation). Write (place_of o / b + k) part ∷ drop (k + 1) (commands_of b o)) is)

length_reads : (n first : ℕ) → length (read_commands first n) ≡ n
length_reads zero first = refl
length_reads (suc n) first = ap (λ (k : ℕ). suc k) (length_reads n (suc first))

length_discards : (n first : ℕ) → length (discard_commands first n) ≡ n
length_discards zero first = refl
length_discards (suc n) first = ap (λ (k : ℕ). suc k) (length_discards n (suc first))

length_writes : (b n first : ℕ) (payload : List ℕ) → length (write_commands b first n payload) ≡ n
length_writes b zero first payload = refl
length_writes b (suc n) first payload = ap (λ (k : ℕ). suc k) (length_writes b n (suc first) (drop b payload))

-- an operation has a command for each block
pub length_commands : (b : ℕ) (op : Operation) → length (commands_of b op) ≡ len_of op / b
length_commands b (operation.Read at count) = length_reads (count / b) (at / b)
length_commands b (operation.Write at payload) = length_writes b (length payload / b) (at / b) payload
length_commands b (operation.Zero at count) = length_discards (count / b) (at / b)

-- ---- A list of operations, from some place on

there : (ops : List Operation) (i : ℕ) (op : Operation) → i < length ops → op ≡ get_or ops i op → drop i ops ≡ op ∷ drop (suc i) ops
there ops i op more is = drop-cons ops i op more ∙ ap (λ (o : Operation). o ∷ drop (suc i) ops) (sym is)

-- the next command
pub rest_next : (b : ℕ) (ops : List Operation) (i k : ℕ) (op : Operation) (c : Command) → i < length ops → op ≡ get_or ops i op → drop k (commands_of b op) ≡ c ∷ drop (k + 1) (commands_of b op)
    → rest_of b ops i k ≡ c ∷ rest_of b ops i (k + 1)
rest_next b ops i k op c more is first =
    let here = there ops i op more is in
    ap (λ (l : List Operation). rest_in b l k) here ∙ ap (λ (l : List Command). l ++ all_commands b (drop (suc i) ops)) first ∙ ap (λ (l : List Operation). c ∷ rest_in b l (k + 1)) (sym here)

-- an operation that is finished is passed over
pub rest_passed : (b : ℕ) (ops : List Operation) (i k : ℕ) (op : Operation) → i < length ops → op ≡ get_or ops i op → len_of op / b ≤ k → rest_of b ops i k ≡ rest_of b ops (i + 1) 0
rest_passed b ops i k op more is done =
    let here = there ops i op more is in
    let one : suc i ≡ i + 1 = omega arith in
    ap (λ (l : List Operation). rest_in b l k) here ∙ ap (λ (l : List Command). l ++ all_commands b (drop (suc i) ops)) (drop_all k (commands_of b op) (omega (arith, done, length_commands b op)))
    ∙ ap (λ (n : ℕ). all_commands b (drop n ops)) one ∙ from_start (drop (i + 1) ops)
  where
    from_start : (l : List Operation) → all_commands b l ≡ rest_in b l 0
    from_start [] = refl
    from_start (o ∷ l) = refl

pub rest_all : (b : ℕ) (ops : List Operation) → rest_of b ops 0 0 ≡ all_commands b ops
rest_all b [] = refl
rest_all b (op ∷ ops) = refl

-- one more command of a round
pub round_more : (all so_far left left' : List Command) (c : Command) → all ≡ so_far ++ left → left ≡ c ∷ left' → all ≡ (so_far ++ c ∷ []) ++ left'
round_more all so_far left left' c is next = is ∙ ap (λ (l : List Command). so_far ++ l) next ∙ sym (append_assoc so_far (c ∷ []) left')
