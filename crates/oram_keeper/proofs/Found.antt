-- The table in the text of a process that was found.
use Rattle.std.proofs.Common.{◌≡◌, ℕ, suc, ◌+◌, ◌*◌, ◌<◌, ◌≤◌, ◌^◌, List, [], ◌∷◌, ◌++◌, length, take, drop, get_or, arith, sym, ap, ◌∙◌, append-nil, append_assoc, take_all, drop_at}
use Rattle.std.specs.Prelude.{All}
use Rattle.std.specs.List.{flat_map}
use Rattle.std.proofs.Math.Seq.{take-suc}
use Rattle.std.proofs.lemmas.Grind.{flat_map-append}
use Rattle.oram_kept.specs.Text.{Parts, number_bytes}
use Rattle.oram_kept.proofs.Lists.{front_one}
use Rattle.oram_kept.proofs.One.{numbers_one}
use Rattle.oram_kept.proofs.Tables.{length-numbers}
use Rattle.oram_keeper.specs.Process.{IsFoundIn}
use Rattle.oram_keeper.specs.declared.found_process.FoundProcess.{FoundProcess}
use Rattle.oram_keeper.proofs.Texts.{same_table}

-- a number stands behind those before it
pub number_next : (table text rest four behind : List ℕ) (k : ℕ) → k < length table → text ≡ flat_map number_bytes (take k table) ++ rest → rest ≡ four ++ behind
    → number_bytes (get_or table k 0) ≡ four → text ≡ flat_map number_bytes (take (k + 1) table) ++ behind
number_next table text rest four behind k within was split is =
    let next : k + 1 ≡ suc k = omega arith in
    let more : flat_map number_bytes (take (k + 1) table) ≡ flat_map number_bytes (take k table) ++ four =
    ap (λ (n : ℕ). flat_map number_bytes (take n table)) next ∙ ap (flat_map number_bytes) (take-suc table k 0 within) ∙ flat_map-append number_bytes (take k table) (get_or table k 0 ∷ [])
    ∙ ap (λ (l : List ℕ). flat_map number_bytes (take k table) ++ l) (append-nil (number_bytes (get_or table k 0)) ∙ is) in
    was ∙ ap (λ (l : List ℕ). flat_map number_bytes (take k table) ++ l) split ∙ sym (append_assoc (flat_map number_bytes (take k table)) four behind) ∙ ap (λ (l : List ℕ). l ++ behind) (sym more)

pub all_next : (table text rest : List ℕ) (k : ℕ) → length table ≤ k → text ≡ flat_map number_bytes (take k table) ++ rest → text ≡ flat_map number_bytes table ++ rest
all_next table text rest k end was = was ∙ ap (λ (l : List ℕ). flat_map number_bytes l ++ rest) (take_all k table end)

-- only one table of its length stands at a place
pub one_table : (found : FoundProcess) (p : Parts) (table rest : List ℕ) → IsFoundIn found p → length table ≡ found.table_len → All (λ n. n < 2 ^ 32) table
    → drop found.table_at found.text.items ≡ flat_map number_bytes table ++ rest → table ≡ p.table
one_table found p table rest is long fit has =
    let count : length table ≡ length p.table = long ∙ sym is.count in
    let there : drop found.table_at found.text.items ≡ flat_map number_bytes p.table ++ p.after =
    ap (drop found.table_at) is.text ∙ drop_at is.before _ found.table_at is.place ∙ ap (λ (l : List ℕ). l ++ p.after) (sym (same_table p.table)) in
    numbers_one table p.table count fit is.numbers
    (front_one (flat_map number_bytes table) (flat_map number_bytes p.table) rest p.after (length-numbers table ∙ ap (λ (n : ℕ). 4 * n) count ∙ sym (length-numbers p.table)) (sym has ∙ there))
