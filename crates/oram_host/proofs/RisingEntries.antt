-- Entries by rising number.
use Rattle.std.proofs.Common.{◌≡◌, ℕ, ◌+◌, ◌<◌, ◌≤◌, Bool, true, false, cond, List, [], ◌∷◌, ◌++◌, length, filter, map, refl, ap, sym, ◌∙◌, arith}
use Rattle.std.specs.List.{AllByRecursion}
use Rattle.std.specs.List.Sorted.{IsStrictlySortedBy}
use Rattle.std.specs.Map.{keys_of}
use Rattle.std.specs.BTreeMap.{insert_entry}
use Rattle.std.specs.Ordering.{match_ordering, nat_cmp}
use Rattle.std.specs.declared.cmp.Ordering.{Ordering}
use Rattle.std.specs.declared.cmp.Ordering.TheVariants.{Less, Greater}
use Rattle.std.specs.Cmp.{nat_cmp_is}
use Rattle.std.proofs.lemmas.Cmp.{ranked}
use Rattle.std.proofs.lemmas.Map.Keys.{sorted_head, sorted_tail}
use Rattle.oram_host.specs.Host.{RisesFrom}

-- the least number that may follow
abbrev pub least_after : {X : Type 0} → ℕ → List (ℕ × X) → ℕ
least_after least [] = least
least_after least (e ∷ es) = least_after (e.0 + 1) es

pub least_after-grows : {X : Type 0} (es : List (ℕ × X)) (least : ℕ) → RisesFrom least es → least ≤ least_after least es
least_after-grows [] least rises = omega arith
least_after-grows (e ∷ es) least rises = omega (arith, rises.0, least_after-grows es (e.0 + 1) rises.1)

pub least_after-push : {X : Type 0} (es : List (ℕ × X)) (least number : ℕ) (x : X) → least_after least (es ++ (number, x) ∷ []) ≡ number + 1
least_after-push [] least number x = refl
least_after-push (e ∷ es) least number x = least_after-push es (e.0 + 1) number x

pub least_after-values : {X Y : Type 0} (f : X → Y) (es : List (ℕ × X)) (least : ℕ) → least_after least (map {B = ℕ × Y} (λ e. (e.0, f e.1)) es) ≡ least_after least es
least_after-values f [] least = refl
least_after-values f (e ∷ es) least = least_after-values f es (e.0 + 1)

pub RisesFrom-push : {X : Type 0} (es : List (ℕ × X)) (least number : ℕ) (x : X) → RisesFrom least es → least_after least es ≤ number → RisesFrom least (es ++ (number, x) ∷ [])
RisesFrom-push [] least number x rises above = (above, tt)
RisesFrom-push (e ∷ es) least number x rises above = (rises.0, RisesFrom-push es (e.0 + 1) number x rises.1 above)

RisesFrom-lower : {X : Type 0} (es : List (ℕ × X)) (least low : ℕ) → low ≤ least → RisesFrom least es → RisesFrom low es
RisesFrom-lower [] least low below rises = tt
RisesFrom-lower (e ∷ es) least low below rises = (omega (arith, rises.0), rises.1)

-- a number above all others goes to the end
pub insert_entry-last : {X : Type 0} (es : List (ℕ × X)) (least number : ℕ) (x : X) → RisesFrom least es → least_after least es ≤ number → insert_entry nat_cmp es number x ≡ es ++ (number, x) ∷ []
insert_entry-last [] least number x rises above = refl
insert_entry-last {X} (e ∷ es) least number x rises above =
    let below : e.0 < number = omega (arith, least_after-grows es (e.0 + 1) rises.1) in
    let greater : Greater ≡ nat_cmp number e.0 = nat_cmp_is number e.0 Greater below in
    ap (λ (o : Ordering). match_ordering o ((number, x) ∷ e ∷ es) ((e.0, x) ∷ es) (e ∷ insert_entry nat_cmp es number x)) (sym greater)
    ∙ ap (λ (more : List (ℕ × X)). e ∷ more) (insert_entry-last es (e.0 + 1) number x rises.1 above)

above_less : (number : ℕ) (numbers : List ℕ) → AllByRecursion (λ n. nat_cmp number n ≡ Less) numbers → AllByRecursion (λ n. number + 1 ≤ n) numbers
above_less number [] less = tt
above_less number (n ∷ numbers) less = (let h : number < n = ranked number n Less (sym less.0) in omega arith, above_less number numbers less.1)

rises_above : {X : Type 0} (es : List (ℕ × X)) (least : ℕ) → AllByRecursion (λ n. least ≤ n) (keys_of es) → IsStrictlySortedBy nat_cmp (keys_of es) → RisesFrom least es
rises_above [] least above sorted = tt
rises_above (e ∷ es) least above sorted = (above.0, rises_above es (e.0 + 1) (above_less e.0 (keys_of es) (sorted_head nat_cmp e.0 (keys_of es) sorted)) (sorted_tail nat_cmp e.0 (keys_of es) sorted))

all_from_zero : (numbers : List ℕ) → AllByRecursion (λ n. 0 ≤ n) numbers
all_from_zero [] = tt
all_from_zero (n ∷ numbers) = (omega arith, all_from_zero numbers)

-- the entries of a map rise
pub rises_from_sorted : {X : Type 0} (es : List (ℕ × X)) → IsStrictlySortedBy nat_cmp (keys_of es) → RisesFrom 0 es
rises_from_sorted es sorted = rises_above es 0 (all_from_zero (keys_of es)) sorted

rises_without : {X : Type 0} (b : Bool) (e : ℕ × X) (es : List (ℕ × X)) (least : ℕ) → least ≤ e.0 → RisesFrom (e.0 + 1) es → RisesFrom least (cond b (e ∷ es) es)
rises_without true e es least above rises = (above, rises)
rises_without false e es least above rises = RisesFrom-lower es (e.0 + 1) least (omega arith) rises

pub RisesFrom-filter : {X : Type 0} (keep : ℕ × X → Bool) (es : List (ℕ × X)) (least : ℕ) → RisesFrom least es → RisesFrom least (filter keep es)
RisesFrom-filter keep [] least rises = tt
RisesFrom-filter keep (e ∷ es) least rises = rises_without (keep e) e (filter keep es) least rises.0 (RisesFrom-filter keep es (e.0 + 1) rises.1)

pub RisesFrom-values : {X Y : Type 0} (f : X → Y) (es : List (ℕ × X)) (least : ℕ) → RisesFrom least es → RisesFrom least (map {B = ℕ × Y} (λ e. (e.0, f e.1)) es)
RisesFrom-values f [] least rises = tt
RisesFrom-values f (e ∷ es) least rises = (rises.0, RisesFrom-values f es (e.0 + 1) rises.1)

-- there are at most n rising numbers below n
pub few_rising : {X : Type 0} (es : List (ℕ × X)) (least n : ℕ) → RisesFrom least es → AllByRecursion (λ e. e.0 < n) es → least ≤ n → length es + least ≤ n
few_rising [] least n rises below h = omega arith
few_rising (e ∷ es) least n rises below h = omega (arith, rises.0, below.0, few_rising es (e.0 + 1) n rises.1 below.1 (omega (arith, below.0)))

pub rises_before : {X : Type 0} (es rest : List (ℕ × X)) (least : ℕ) → RisesFrom least (es ++ rest) → RisesFrom least es
rises_before [] rest least rises = tt
rises_before (e ∷ es) rest least rises = (rises.0, rises_before es rest (e.0 + 1) rises.1)

pub rises_next : {X : Type 0} (es rest : List (ℕ × X)) (least number : ℕ) (x : X) → RisesFrom least (es ++ (number, x) ∷ rest) → least_after least es ≤ number
rises_next [] rest least number x rises = rises.0
rises_next (e ∷ es) rest least number x rises = rises_next es rest (e.0 + 1) number x rises.1
