-- What a method has to prove at its end: the fields that it leaves are sound, and it has done what it should.
use Rattle.std.proofs.Common.{◌≡◌, ℕ, ◌+◌, ◌-◌, ◌*◌, ◌%◌, ◌^◌, ◌<◌, ◌≤◌, ◌==◌, ◌&&◌, ◌||◌, not, nat_lt, Bool, true, false, inl, inr, if◌then◌else◌, List, [], ◌∷◌, ◌++◌, length, drop, Result, IfOk, slice_set, refl, ap, sym, ◌∙◌, subst, arith}
use Rattle.std.proofs.lemmas.Bool.{cases_eq}
use Rattle.std.proofs.lemmas.Bool.Decides.{nat_tests}
use Rattle.oram_geometry.specs.declared.Sizes.{Sizes}
use Rattle.oram_geometry.specs.Sizes.{trees_of, depth_of, record_len_of}
use Rattle.oram_geometry.proofs.DeviceSizes.{trees_of-few}
use Rattle.oram_wire.specs.HostMessages.{store_body}
use Rattle.oram_semantics.specs.Content.{block_of, new_leaf, entry_tree}
use Rattle.oram_semantics.specs.Messages.{requested}
use Rattle.oram_semantics.specs.Moves.{fetch_at, latest}
use Rattle.oram_semantics.specs.Blocks.{next_map_entry, kept_of, body_from}
use Rattle.oram_semantics.specs.Scheme.{Scheme}
use Rattle.oram_semantics.specs.Progress.Status.{Waiting}
use Rattle.oram_semantics.specs.State.{State, status_in, map_entry_now}
use Rattle.oram_semantics.specs.declared.events.Note.TheVariants.{Accepted, Taken}
use Rattle.oram_semantics.specs.declared.events.Reaction.{Reaction}
use Rattle.oram_semantics.specs.declared.events.Reply.{Reply}
use Rattle.oram_semantics.specs.declared.events.Submission.{Submission}
use Rattle.oram_core.specs.Core.{IsSound, IsPathStore}
use Rattle.oram_core.specs.PlainSteps.{Done, done, accepted_by, sent_if_idle, fetch_of, first_message, first_messages, fetched_by, finished_by, stored_by, is_misled}
use Rattle.oram_core.proofs.Heard.{if_ok}
use Rattle.oram_core.proofs.Small.{map_entry_none}
use Rattle.oram_core.proofs.Sound.{HasOldest, has_oldest, stage_within, fetched_as, finished_as, stored_as}

-- the number of stages is small
pub stage_small : (d : Sizes) (o : ℕ) (s : State) → IsSound d o s → s.entry_number < 28
stage_small d o s h =
    let few : trees_of d ≤ 14 = trees_of-few d h.ranges in
    let within : s.entry_number < 2 * trees_of d = stage_within d o s h in
    omega (arith, few, within)

-- the leaf of the outstanding message is one of its tree's
pub leaf_here : (d : Sizes) (o : ℕ) (s : State) → IsSound d o s → status_in s ≡ Waiting → (requested s.message).leaf < 2 ^ depth_of d (entry_tree d s.entry_number)
leaf_here d o s h now = (has_oldest d o s h now).work.leaf

-- a path is stored
pub commit_sound : (d : Sizes) (o : ℕ) (s : State) (tree block leaf map_entry nonce : ℕ) (before table kept last : List ℕ) → IsSound d o s → status_in s ≡ Waiting → s.entry_number % 2 ≡ 0 → tree ≡ entry_tree d s.entry_number →
    length before ≡ d.block_bytes → IsPathStore d o tree (requested s.message).leaf last →
    ((x : Submission) (rest : List Submission) → s.queue ≡ x ∷ rest → (block ≡ block_of d tree x) × (leaf ≡ new_leaf d tree x) × (map_entry ≡ next_map_entry d tree x before)) →
    map_entry ≤ 2 ^ depth_of d (tree - 1) →
    table ≡ (if s.entry_number == 0 then slice_set s.table block (leaf + 1) else s.table) → nonce ≡ s.nonce + (depth_of d tree + 1) → kept ≡ kept_of tree before →
    IsSound d o (record s { table = table; nonce = nonce; entry_number = s.entry_number + 1; held_entry = map_entry; held_data = kept; message = last })
commit_sound d o s tree block leaf map_entry nonce before table kept last h now even here long sent oldest low t n k =
    let w : HasOldest d s = has_oldest d o s h now in
    let x : Submission = w.oldest in
    let of = oldest x w.rest w.queue in
    let i : ℕ = entry_tree d s.entry_number in
    let block_is : block ≡ block_of d i x = of.0 ∙ ap (λ j. block_of d j x) here in
    let leaf_is : leaf ≡ new_leaf d i x = of.1 ∙ ap (λ j. new_leaf d j x) here in
    let map_entry_is : map_entry ≡ next_map_entry d i x before = of.2 ∙ ap (λ j. next_map_entry d j x before) here in
    let table_is : table ≡ (if s.entry_number == 0 then slice_set s.table (block_of d i x) (new_leaf d i x + 1) else s.table) =
    t ∙ ap (λ b. if s.entry_number == 0 then slice_set s.table b (leaf + 1) else s.table) block_is ∙ ap (λ l. if s.entry_number == 0 then slice_set s.table (block_of d i x) (l + 1) else s.table) leaf_is in
    let fits : next_map_entry d i x before ≤ 2 ^ depth_of d (i - 1) = subst (λ (z : ℕ). z ≤ 2 ^ depth_of d (i - 1)) map_entry_is (subst (λ (j : ℕ). map_entry ≤ 2 ^ depth_of d (j - 1)) here low) in
    stored_as d o s x w.rest before sent.records table nonce map_entry kept last h w.healthy w.queue even long (sent.long ∙ ap (λ j. (depth_of d j + 1) * record_len_of d o) here) fits table_is (n ∙ ap (λ j. s.nonce + (depth_of d j + 1)) here) map_entry_is (k ∙ ap (λ j. kept_of j before) here)
    (sent.body ∙ ap (λ j. store_body j (requested s.message).leaf sent.records) here)

-- the path of the next tree is fetched
pub fetch_sound : (d : Sizes) (o : ℕ) (s : State) (last : List ℕ) → IsSound d o s → status_in s ≡ Waiting → s.entry_number % 2 ≡ 1 → s.entry_number + 1 < 2 * trees_of d →
    ((x : Submission) (rest : List Submission) → s.queue ≡ x ∷ rest → last ≡ fetch_of (fetch_at d (s.entry_number + 1) s.held_entry x)) → IsSound d o (record s { entry_number = s.entry_number + 1; message = last })
fetch_sound d o s last h now odd more fetch =
    let w : HasOldest d s = has_oldest d o s h now in
    fetched_as d o s w.oldest w.rest last h w.healthy w.queue odd more (fetch w.oldest w.rest w.queue)

only_one : (x : Submission) (rest : List Submission) → length (x ∷ rest) ≡ 1 → rest ≡ []
only_one x [] one = refl
only_one x (y ∷ rest) one = absurd (omega arith)

-- the last command gets its reply
pub end_sound : (d : Sizes) (o : ℕ) (s : State) (queue : List Submission) (before last : List ℕ) → IsSound d o s → status_in s ≡ Waiting → s.entry_number + 1 ≡ 2 * trees_of d → length s.queue ≡ 1 →
    queue ≡ drop 1 s.queue → before ≡ [] → last ≡ [] → IsSound d o (record s { queue = queue; entry_number = 0; held_entry = 0; held_data = before; message = last })
end_sound d o s queue before last h now end alone q b l =
    let w : HasOldest d s = has_oldest d o s h now in
    let none : w.rest ≡ [] = only_one w.oldest w.rest (sym (ap length w.queue) ∙ alone) in
    finished_as d o s w.oldest w.rest queue before last h w.healthy w.queue w.calm end (q ∙ ap (drop 1) w.queue) b (l ∙ sym (ap (λ r. latest (first_messages d s r) []) none))

next_sent : (d : Sizes) (o : ℕ) (s : State) (x : Submission) (rest : List Submission) (last : List ℕ) → s.queue ≡ x ∷ rest → 1 < length s.queue →
    ((x y : Submission) (rest : List Submission) → s.queue ≡ x ∷ y ∷ rest → last ≡ first_message d s y) → last ≡ latest (first_messages d s rest) []
next_sent d o s x [] last q more next = absurd (omega (arith, ap length q))
next_sent d o s x (y ∷ rest) last q more next = next x y rest q

-- another command gets its reply, and the next one begins
pub pass_sound : (d : Sizes) (o : ℕ) (s : State) (queue : List Submission) (before last : List ℕ) → IsSound d o s → status_in s ≡ Waiting → s.entry_number + 1 ≡ 2 * trees_of d → 1 < length s.queue →
    ((x y : Submission) (rest : List Submission) → s.queue ≡ x ∷ y ∷ rest → last ≡ first_message d s y) →
    queue ≡ drop 1 s.queue → before ≡ [] → IsSound d o (record s { queue = queue; entry_number = 0; held_entry = 0; held_data = before; message = last })
pass_sound d o s queue before last h now end more next q b =
    let w : HasOldest d s = has_oldest d o s h now in
    finished_as d o s w.oldest w.rest queue before last h w.healthy w.queue w.calm end (q ∙ ap (drop 1) w.queue) b (next_sent d o s w.oldest w.rest last w.queue more next)

-- what the core did if no command waits after the oldest one
pub ended_by : (v : Scheme) (s : State) (x : Submission) (rest queue : List Submission) (replies : List Reply) (sends : List (List ℕ)) (before last : List ℕ) → IsSound v.device v.cipher.overhead s → s.queue ≡ x ∷ rest → length s.queue ≡ 1 →
    replies ≡ (record { session = x.session; ticket = x.ticket; body = body_from s.held_data x.command }) ∷ [] → sends ≡ [] → queue ≡ drop 1 s.queue → before ≡ [] → last ≡ [] →
    (let d : Done = record { note = Taken; replies = replies; sends = sends; state = record s { queue = queue; entry_number = 0; held_entry = 0; held_data = before; message = last } } in d ≡ finished_by v s x rest)
ended_by v s x [] queue replies sends before last h q alone r m k b l = let e : queue ≡ [] = k ∙ ap (drop 1) q in cc
ended_by v s x (y ∷ rest) queue replies sends before last h q alone r m k b l = absurd (omega (arith, ap length q))

-- and if one does
pub passed_by : (v : Scheme) (s : State) (x : Submission) (rest queue : List Submission) (replies : List Reply) (sends : List (List ℕ)) (before last : List ℕ) → IsSound v.device v.cipher.overhead s → s.queue ≡ x ∷ rest → 1 < length s.queue →
    ((x y : Submission) (rest : List Submission) → s.queue ≡ x ∷ y ∷ rest → last ≡ first_message v.device s y) →
    replies ≡ (record { session = x.session; ticket = x.ticket; body = body_from s.held_data x.command }) ∷ [] → sends ≡ last ∷ [] → queue ≡ drop 1 s.queue → before ≡ [] →
    (let d : Done = record { note = Taken; replies = replies; sends = sends; state = record s { queue = queue; entry_number = 0; held_entry = 0; held_data = before; message = last } } in d ≡ finished_by v s x rest)
passed_by v s x [] queue replies sends before last h q more next r m k b = absurd (omega (arith, ap length q))
passed_by v s x (y ∷ rest) queue replies sends before last h q more next r m k b =
    let e : queue ≡ y ∷ rest = k ∙ ap (drop 1) q in
    let l : last ≡ first_message v.device s y = next x y rest q in
    let one : sends ≡ first_message v.device s y ∷ [] = m ∙ ap (λ b. b ∷ []) l in
    cc

-- what the core did if it fetched another tree's path
pub fetched_so : (v : Scheme) (s : State) (x : Submission) (replies : List Reply) (sends : List (List ℕ)) (last : List ℕ) → IsSound v.device v.cipher.overhead s →
    last ≡ fetch_of (fetch_at v.device (s.entry_number + 1) s.held_entry x) → sends ≡ last ∷ [] → replies ≡ [] →
    (let d : Done = record { note = Taken; replies = replies; sends = sends; state = record s { entry_number = s.entry_number + 1; message = last } } in d ≡ fetched_by v s x)
fetched_so v s x replies sends last h l m r =
    let one : sends ≡ fetch_of (fetch_at v.device (s.entry_number + 1) s.held_entry x) ∷ [] = m ∙ ap (λ b. b ∷ []) l in
    cc

-- what the core did if it stored a path
pub stored_so : (v : Scheme) (s : State) (x : Submission) (tree block new map_entry : ℕ) (before records kept : List ℕ) → tree ≡ entry_tree v.device s.entry_number → block ≡ block_of v.device tree x → new ≡ new_leaf v.device tree x →
    map_entry ≡ next_map_entry v.device tree x before → kept ≡ store_body tree (requested s.message).leaf records →
    (let d : Done = record {
      note = Taken;
      replies = [];
      sends = kept ∷ [];
      state = record s { table = if s.entry_number == 0 then slice_set s.table block (new + 1) else s.table; nonce = s.nonce + (depth_of v.device tree + 1); entry_number = s.entry_number + 1; held_entry = map_entry; held_data = kept_of tree before; message = kept };
    } in d ≡ stored_by v s x before records)
stored_so v s x tree block new map_entry before records kept t b n m k =
    let i : ℕ = entry_tree v.device s.entry_number in
    let block_is : block ≡ block_of v.device i x = b ∙ ap (λ j. block_of v.device j x) t in
    let new_is : new ≡ new_leaf v.device i x = n ∙ ap (λ j. new_leaf v.device j x) t in
    let map_entry_is : map_entry ≡ next_map_entry v.device i x before = m ∙ ap (λ j. next_map_entry v.device j x before) t in
    let kept_is : kept ≡ store_body i (requested s.message).leaf records = k ∙ ap (λ j. store_body j (requested s.message).leaf records) t in
    let deep : depth_of v.device tree ≡ depth_of v.device i = ap (λ j. depth_of v.device j) t in
    let read : kept_of tree before ≡ kept_of i before = ap (λ j. kept_of j before) t in
    let table : (if s.entry_number == 0 then slice_set s.table block (new + 1) else s.table) ≡ (if s.entry_number == 0 then slice_set s.table (block_of v.device i x) (new_leaf v.device i x + 1) else s.table) =
    ap (λ a. if s.entry_number == 0 then slice_set s.table a (new + 1) else s.table) block_is ∙ ap (λ l. if s.entry_number == 0 then slice_set s.table (block_of v.device i x) (l + 1) else s.table) new_is in
    let nonce : s.nonce + (depth_of v.device tree + 1) ≡ s.nonce + (depth_of v.device i + 1) = ap (λ z. s.nonce + (z + 1)) deep in
    let sent : kept ∷ [] ≡ store_body i (requested s.message).leaf records ∷ [] = ap (λ body. body ∷ []) kept_is in
    cc

neither : (a b : Bool) → (a || b) ≡ false → b ≡ false
neither true b e = absurd (let no_way : true ≡ false = e in cc)
neither false b e = e

not_both : (a b : Bool) → a ≡ true → (a && b) ≡ false → b ≡ false
not_both true b first e = e
not_both false b first e = absurd (let no_way : false ≡ true = first in cc)

-- if the map hasn't led astray, it names a leaf of the tree below
pub led_right : (v : Scheme) (s : State) (x : Submission) (found : Bool) (before : List ℕ) (tree map_entry : ℕ) → is_misled v s x found before ≡ false → tree ≡ entry_tree v.device s.entry_number → map_entry ≡ next_map_entry v.device tree x before →
    map_entry ≤ 2 ^ depth_of v.device (tree - 1)
led_right v s x found before tree map_entry right t m =
    let i : ℕ = entry_tree v.device s.entry_number in
    let n : ℕ = next_map_entry v.device i x before in
    let low : (nat_lt 0 i && nat_lt (2 ^ depth_of v.device (i - 1)) n) ≡ false = neither (not (map_entry_now v.device s x == 0) && not found) _ right in
    let fits : n ≤ 2 ^ depth_of v.device (i - 1) = elim (cases_eq i 0) [
      | inl none ↦ subst (λ (z : ℕ). z ≤ 2 ^ depth_of v.device (i - 1)) (map_entry_none v.device i x before none) (omega arith)
      | inr some ↦ let positive : nat_lt 0 i ≡ true = grind (arith, nat_tests) in let small : nat_lt (2 ^ depth_of v.device (i - 1)) n ≡ false = not_both (nat_lt 0 i) _ positive low in grind (arith, nat_tests)
    ] in
    subst (λ (z : ℕ). z ≤ 2 ^ depth_of v.device (tree - 1)) (sym (m ∙ ap (λ j. next_map_entry v.device j x before) t)) (subst (λ (j : ℕ). n ≤ 2 ^ depth_of v.device (j - 1)) (sym t) fits)

first_sent : (queue : List Submission) (m : List ℕ) → length queue ≡ 0 → sent_if_idle queue m ≡ m ∷ []
first_sent [] m none = refl
first_sent (x ∷ rest) m none = absurd (omega arith)

none_sent : (queue : List Submission) (m : List ℕ) → 0 < length queue → sent_if_idle queue m ≡ []
none_sent [] m some = absurd (omega arith)
none_sent (x ∷ rest) m some = refl

-- what a core does with an accepted command, given what it sends
abbrev joined : State → Submission → List (List ℕ) → Done
joined s x sends = record { note = Accepted x.ticket; replies = []; sends = sends; state = record s { next = s.next + 1; queue = s.queue ++ x ∷ []; message = latest sends s.message } }

-- an idle core fetches the first path of the command,
pub begun_so : {E : Type 0} (v : Scheme) (s t : State) (x y : Submission) (r : Result Reaction E) → length s.queue ≡ 0 → y ≡ x → y.ticket ≡ s.next →
    IfOk r (λ a. done a t ≡ (let m = first_message v.device s y in record { note = Accepted s.next; replies = []; sends = m ∷ []; state = record s { next = s.next + 1; queue = s.queue ++ y ∷ []; message = m } })) → IfOk r (λ a. done a t ≡ accepted_by v s x)
begun_so v s t x y r none same ticket h =
    let m : List ℕ = first_message v.device s y in
    let numbered = ap (λ (n : ℕ). let d : Done = record { note = Accepted n; replies = []; sends = m ∷ []; state = record s { next = s.next + 1; queue = s.queue ++ y ∷ []; message = m } } in d) (sym ticket) in
    if_ok _ _ r (λ a e. e ∙ numbered ∙ ap (joined s y) (sym (first_sent s.queue m none)) ∙ ap (accepted_by v s) same) h

-- and in any other core the command waits
pub enqueued_so : {E : Type 0} (v : Scheme) (s t : State) (x y : Submission) (r : Result Reaction E) → 0 < length s.queue → y ≡ x → y.ticket ≡ s.next →
    IfOk r (λ a. done a t ≡ record { note = Accepted s.next; replies = []; sends = []; state = record s { next = s.next + 1; queue = s.queue ++ y ∷ [] } }) → IfOk r (λ a. done a t ≡ accepted_by v s x)
enqueued_so v s t x y r some same ticket h =
    let m : List ℕ = first_message v.device s y in
    let numbered = ap (λ (n : ℕ). let d : Done = record { note = Accepted n; replies = []; sends = []; state = record s { next = s.next + 1; queue = s.queue ++ y ∷ [] } } in d) (sym ticket) in
    if_ok _ _ r (λ a e. e ∙ numbered ∙ ap (joined s y) (sym (none_sent s.queue m some)) ∙ ap (accepted_by v s) same) h
