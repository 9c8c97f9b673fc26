-- What is known of a process's bytes and of the records behind them, for the same bytes under other names.
use Rattle.std.proofs.Common.{◌≡◌, ◌++◌, ℕ, List, subst}
use Rattle.oram_geometry.specs.declared.Sizes.{Sizes}
use Rattle.oram_rounds.specs.Files.{IsFileOf}
use Rattle.oram_rounds.specs.LinkNotes.{LinkNote}
use Rattle.oram_semantics.specs.State.{State}
use Rattle.oram_disk_client.specs.Faults.{IsNoProcessFor}
use Rattle.oram_disk_host.specs.declared.faults.Fault.{Fault}

-- whatever holds of two lists of bytes
both_at : (P : List ℕ → List ℕ → Type 0) {x y r s : List ℕ} → x ≡ y → r ≡ s → P x r → P y s
both_at P {x} {y} {r} {s} same also known = subst (λ (b : List ℕ). P y b) also (subst (λ (b : List ℕ). P b r) same known)

pub noted_at : {overhead : ℕ} {d : Sizes} {stores : List (List ℕ)} {note : List ℕ} {core : State} {x y r s : List ℕ} → x ≡ y → r ≡ s
    → ((file : IsFileOf overhead d (x ++ r) stores core) × (file.note ≡ record { text = note; records = r }))
    → (file : IsFileOf overhead d (y ++ s) stores core) × (file.note ≡ record { text = note; records = s })
noted_at {overhead} {d} {stores} {note} {core} same also file =
    both_at (λ (b c : List ℕ). (f : IsFileOf overhead d (b ++ c) stores core) × (f.note ≡ record { text = note; records = c })) same also file

-- whatever holds of each process that the bytes are, and of the text of its note
pub each_at : (P : Sizes → List (List ℕ) → State → List ℕ → Type 0) {overhead : ℕ} {x y r s : List ℕ} → x ≡ y → r ≡ s
    → ((d : Sizes) (stores : List (List ℕ)) (core : State) → (file : IsFileOf overhead d (x ++ r) stores core) → file.note.records ≡ r → P d stores core file.note.text)
    → (d : Sizes) (stores : List (List ℕ)) (core : State) → (file : IsFileOf overhead d (y ++ s) stores core) → file.note.records ≡ s → P d stores core file.note.text
each_at P {overhead} same also known =
    both_at (λ (b c : List ℕ). (d : Sizes) (stores : List (List ℕ)) (core : State) → (file : IsFileOf overhead d (b ++ c) stores core) → file.note.records ≡ c → P d stores core file.note.text) same also known

pub no_process_at : {name : List ℕ} {fault : Fault} {x y r s : List ℕ} → x ≡ y → r ≡ s → IsNoProcessFor x r name fault → IsNoProcessFor y s name fault
no_process_at {name} {fault} same also told = both_at (λ (b c : List ℕ). IsNoProcessFor b c name fault) same also told
