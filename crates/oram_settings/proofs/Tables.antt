-- What is found at a key of a table.
use Rattle.std.proofs.Common.{◌≡◌, ◌∙◌, ◌⊎◌, ℕ, ◌/◌, List, Option, Some, None, true, false, refl, is_some, Result, Ok, Err, codes, ap, arith, sym, subst, inl, inr}
use Rattle.std.specs.Prelude.{MatchOption, pos}
use Rattle.toml.specs.Data.{Data, Members, get_member, integer}
use Rattle.oram_cli.specs.Tables.{Finds, HasNumber, HasText, IsAddress, IsName}
use Rattle.oram_cli.specs.declared.input.InputFault.{InputFault}
use Rattle.oram_cli.specs.declared.input.InputFault.TheVariants.{Bad}
use Rattle.oram_settings.specs.Settings.{DiskValue, HasSealing, IsDisk, IsPlace, IsSocket, OrDefault, default_leaf_load, default_near, default_table, sealing_name}
use Rattle.oram_settings.specs.declared.disk_file.Sealing.{Sealing}
use Rattle.oram_settings.specs.declared.disk_file.Sealing.TheVariants.{Plain, ChaCha}

-- if there is no name at a key, there is no sealing
pub no_sealing : (t : Members) (key : List ℕ) (e : InputFault) → (e ≡ Bad → (x : List ℕ) → HasText t key x × IsName x → ⊥) → e ≡ Bad → (s : Sealing) → HasSealing t key s → ⊥
no_sealing t key e none bad Plain h = none bad (codes "plain") (h, omega arith)
no_sealing t key e none bad ChaCha h = none bad (codes "chacha") (h, omega arith)

-- if a value that the table of a disk has is bad, the table isn't a disk's
pub no_disk : {X : Type 0} {P : X → Type 0} (t : Members) (e : InputFault) → (e ≡ Bad → (x : X) → P x → ⊥) → (value : DiskValue → X) → ((s : DiskValue) → IsDisk t s → P (value s))
    → e ≡ Bad → (s : DiskValue) → IsDisk t s → ⊥
no_disk t e none value has bad s h = none bad (value s) (has s h)

-- there is only one number at a key, or the default
pub one_number : (t : Members) (key : List ℕ) (default x y : ℕ) → OrDefault t key default (HasNumber t key) x → OrDefault t key default (HasNumber t key) y → x ≡ y
one_number t key default x y h k = by_member (get_member key t) h k
  where
    by_member : (o : Option Data) → MatchOption o (x ≡ default) (λ _. o ≡ Some (integer (pos x))) → MatchOption o (y ≡ default) (λ _. o ≡ Some (integer (pos y))) → x ≡ y
    by_member None p q = p ∙ sym q
    by_member (Some d) p q = cc

-- the leaf load whose default goes by the slots
pub no_load : (t : Members) (e : InputFault) (slots : ℕ) → OrDefault t (codes "slots") 4 (HasNumber t (codes "slots")) slots
    → (e ≡ Bad → (x : ℕ) → OrDefault t (codes "leaf_load") (default_leaf_load slots) (HasNumber t (codes "leaf_load")) x → ⊥) → e ≡ Bad → (s : DiskValue) → IsDisk t s → ⊥
no_load t e slots has none bad s h =
    let same : slots ≡ s.slots = one_number t (codes "slots") 4 slots s.slots has h.slots in
    none bad s.leaf_load (subst (λ (n : ℕ). OrDefault t (codes "leaf_load") n (HasNumber t (codes "leaf_load")) s.leaf_load) (ap default_leaf_load (sym same)) h.leaf_load)

-- the table, whose default goes by the size and the block
pub no_table : (t : Members) (e : InputFault) (size block default : ℕ) → HasNumber t (codes "size") size → OrDefault t (codes "block") 4096 (HasNumber t (codes "block")) block
    → default ≡ default_table size block
    → (e ≡ Bad → (x : ℕ) → OrDefault t (codes "table") default (HasNumber t (codes "table")) x → ⊥) → e ≡ Bad → (s : DiskValue) → IsDisk t s → ⊥
no_table t e size block default of_size of_block is none bad s h =
    let same_size : size ≡ s.size = cc (sym of_size ∙ h.size) in
    let same_block : block ≡ s.block = one_number t (codes "block") 4096 block s.block of_block h.block in
    let same : default_table s.size s.block ≡ default = sym (is ∙ ap (λ (n : ℕ). n / block) same_size ∙ ap (λ (n : ℕ). s.size / n) same_block) in
    none bad s.table (subst (λ (n : ℕ). OrDefault t (codes "table") n (HasNumber t (codes "table")) s.table) same h.table)

-- the bytes of the near records, whose default goes by the size
pub no_near : (t : Members) (e : InputFault) (size default : ℕ) → HasNumber t (codes "size") size → default ≡ default_near size
    → (e ≡ Bad → (x : ℕ) → OrDefault t (codes "near") default (HasNumber t (codes "near")) x → ⊥) → e ≡ Bad → (s : DiskValue) → IsDisk t s → ⊥
no_near t e size default of_size is none bad s h =
    let same_size : size ≡ s.size = cc (sym of_size ∙ h.size) in
    let same : default_near s.size ≡ default = sym (is ∙ ap default_near same_size) in
    none bad s.near (subst (λ (n : ℕ). OrDefault t (codes "near") n (HasNumber t (codes "near")) s.near) same h.near)

-- there is only one text at a key
one_text : (t : Members) (key x y : List ℕ) → HasText t key x → HasText t key y → x ≡ y
one_text t key x y one other = cc (sym one ∙ other)

either_is_name : (x : List ℕ) → IsAddress x ⊎ IsSocket x → IsName x
either_is_name x (inl a) = subst IsName (sym a.2) (omega arith)
either_is_name x (inr s) = subst IsName (sym s.2) (omega arith)

-- if there is no name at a key, there is no place
pub no_place : (t : Members) (key : List ℕ) (e : InputFault) → (e ≡ Bad → (x : List ℕ) → HasText t key x × IsName x → ⊥) → e ≡ Bad → (x : List ℕ) → HasText t key x × IsPlace x → ⊥
no_place t key e none bad x h = none bad x (h.0, either_is_name x h.1.is_either)

other_place : (t : Members) (key text : List ℕ) → HasText t key text → (IsSocket text → ⊥) → (x : List ℕ) → (IsAddress x → ⊥) → HasText t key x → IsAddress x ⊎ IsSocket x → ⊥
other_place t key text has no_socket x no_address h (inl a) = no_address a
other_place t key text has no_socket x no_address h (inr s) = no_socket (subst IsSocket (one_text t key x text h has) s)

-- if the name at a key isn't a socket, a place there is an address
pub address_found : {Y : Type 0} (view : Y → List ℕ) (t : Members) (key text : List ℕ) → HasText t key text → (IsSocket text → ⊥) → (r : Result Y InputFault)
    → Finds view (λ s. HasText t key s × IsAddress s) r → Finds view (λ s. HasText t key s × IsPlace s) r
address_found view t key text has no_socket (Ok y) h = (h.0, record { is_either = inl h.1 })
address_found view t key text has no_socket (Err e) none = λ bad x h. other_place t key text has no_socket x (λ a. none bad x (h.0, a)) h.0 h.1.is_either

found_in : {X Y : Type 0} (view : Y → X) (o : Option Data) (default : X) (P : X → Type 0) (r : Result Y InputFault) → is_some o ≡ true → Finds view P r
    → Finds view (λ x. MatchOption o (x ≡ default) (λ _. P x)) r
found_in view None default P r there h = cc
found_in view (Some d) default P r there h = h

-- if the table has the key, what is found there counts instead of the default
pub found_or : {X Y : Type 0} (view : Y → X) (t : Members) (key : List ℕ) (default : X) (P : X → Type 0) (r : Result Y InputFault) → is_some (get_member key t) ≡ true
    → Finds view P r → Finds view (OrDefault t key default P) r
found_or view t key default P r there h = found_in view (get_member key t) default P r there h

default_in : {X : Type 0} (o : Option Data) (default : X) (P : X → Type 0) → is_some o ≡ false → MatchOption o (default ≡ default) (λ _. P default)
default_in None default P there = refl
default_in (Some d) default P there = absurd cc

-- and if it hasn't, the default counts
pub default_or : {X : Type 0} (t : Members) (key : List ℕ) (default : X) (P : X → Type 0) → is_some (get_member key t) ≡ false → OrDefault t key default P default
default_or t key default P there = default_in (get_member key t) default P there

-- no sealing has another name
pub no_name : (name : List ℕ) → (name ≡ codes "plain" → ⊥) → (name ≡ codes "chacha" → ⊥) → (s : Sealing) → name ≡ sealing_name s → ⊥
no_name name plain chacha Plain is = plain is
no_name name plain chacha ChaCha is = chacha is

pub some_name : {X : Type 0} (x : X) (P : Type 0) → Some x ≡ None → P
some_name x P is = cc
