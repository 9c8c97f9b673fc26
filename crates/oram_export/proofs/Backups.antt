-- What the commands that wait do to an image.
use Rattle.std.proofs.Common.{◌≡◌, ℕ, ◌+◌, ◌*◌, ◌<◌, ◌≤◌, ◌==◌, ◌⊎◌, inl, inr, if◌then◌else◌, arith, ap, sym, ◌∙◌, refl, subst, List, [], ◌∷◌, ◌++◌, length, map, replicate}
use Rattle.std.specs.List.{All, flat_map}
use Rattle.std.proofs.lemmas.Bool.{cases_eq, eq-eqb, ne_eqb}
use Rattle.std.proofs.lemmas.List.Folds.{flat_map-map}
use Rattle.oram_core.specs.Parts.{pending_of}
use Rattle.oram_core.specs.declared.parts.Pending.{Pending}
use Rattle.oram_geometry.specs.declared.Sizes.{Sizes}
use Rattle.oram_geometry.specs.Sizes.{trees_of}
use Rattle.oram_rounds.specs.Service.{after_all}
use Rattle.oram_semantics.specs.Agree.{IsOrderly}
use Rattle.oram_semantics.specs.ArrayReplies.{ServesAmid, ServesBy, array_after, array_in}
use Rattle.oram_semantics.specs.Law.{IsServing}
use Rattle.oram_semantics.specs.Scheme.{Scheme}
use Rattle.oram_semantics.specs.State.{State, World}
use Rattle.oram_semantics.specs.declared.events.Command.{Command}
use Rattle.oram_semantics.specs.declared.events.Command.TheVariants.{Read, Write, Discard}
use Rattle.oram_semantics.specs.declared.events.Submission.{Submission}
use Rattle.oram_export.specs.Images.{BlockWrite, IsBackup, IsImage, image_after, image_of, waiting_writes, writes_of}

abbrev zeros_of : Sizes → List ℕ
zeros_of d = replicate d.block_bytes 0

-- writes one after the other
image-append : (image : ℕ → List ℕ) (xs ys : List BlockWrite) (a : ℕ) → image_after image (xs ++ ys) a ≡ image_after (λ b. image_after image xs b) ys a
image-append image [] ys a = refl
image-append image (x ∷ xs) ys a = image-append (λ b. if x.address == b then x.content else image b) xs ys a

-- two images that are alike stay so
same_image : (image other : ℕ → List ℕ) (xs : List BlockWrite) (a : ℕ) → ((b : ℕ) → image b ≡ other b) → image_after image xs a ≡ image_after other xs a
same_image image other [] a same = same a
same_image image other (x ∷ xs) a same = same_image (λ b. if x.address == b then x.content else image b) (λ b. if x.address == b then x.content else other b) xs a (λ b. ap (λ bytes. if x.address == b then x.content else bytes) (same b))

-- arrays that are alike stay so
same_array : (d : Sizes) (c : Command) (f g : ℕ → List ℕ) → ((b : ℕ) → f b ≡ g b) → (a : ℕ) → array_after d c f a ≡ array_after d c g a
same_array d (Read x) f g same a = same a
same_array d (Write x bytes) f g same a = ap (λ old. if a == x then bytes else old) (same a)
same_array d (Discard x) f g same a = ap (λ old. if a == x then replicate d.block_bytes 0 else old) (same a)

same_arrays : (d : Sizes) (queue : List Submission) (f g : ℕ → List ℕ) → ((b : ℕ) → f b ≡ g b) → (a : ℕ) → after_all d queue f a ≡ after_all d queue g a
same_arrays d [] f g same a = same a
same_arrays d (x ∷ queue) f g same a = same_arrays d queue (array_after d x.command f) (array_after d x.command g) (λ b. same_array d x.command f g same b) a

-- a command that is carried out twice changes nothing more
twice : (d : Sizes) (c : Command) (f : ℕ → List ℕ) (a : ℕ) → array_after d c (array_after d c f) a ≡ array_after d c f a
twice d (Read x) f a = refl
twice d (Write x bytes) f a = elim (cases_eq a x) [
  | inl at ↦ rw (eq-eqb a x at) refl
  | inr other ↦ rw (ne_eqb a x other) refl
]
twice d (Discard x) f a = elim (cases_eq a x) [
  | inl at ↦ rw (eq-eqb a x at) refl
  | inr other ↦ rw (ne_eqb a x other) refl
]

-- a command's write makes of an image what the command makes of an array
written : (d : Sizes) (c : Command) (image : ℕ → List ℕ) (a : ℕ) → image_after image (writes_of (zeros_of d) c) a ≡ array_after d c image a
written d (Read x) image a = refl
written d (Write x bytes) image a = elim (cases_eq a x) [
  | inl at ↦ rw (eq-eqb a x at, eq-eqb x a (sym at)) refl
  | inr other ↦ rw (ne_eqb a x other, ne_eqb x a (λ e. other (sym e))) refl
]
written d (Discard x) image a = elim (cases_eq a x) [
  | inl at ↦ rw (eq-eqb a x at, eq-eqb x a (sym at)) refl
  | inr other ↦ rw (ne_eqb a x other, ne_eqb x a (λ e. other (sym e))) refl
]

all_written : (d : Sizes) (queue : List Submission) (image : ℕ → List ℕ) (a : ℕ) → image_after image (waiting_writes (zeros_of d) queue) a ≡ after_all d queue image a
all_written d [] image a = refl
all_written d (x ∷ queue) image a =
    image-append image (writes_of (zeros_of d) x.command) (waiting_writes (zeros_of d) queue) a
    ∙ same_image (λ b. image_after image (writes_of (zeros_of d) x.command) b) (array_after d x.command image) (waiting_writes (zeros_of d) queue) a (λ b. written d x.command image b)
    ∙ all_written d queue (array_after d x.command image) a

-- an image whose blocks are an array's or zeros stays one
right_or_zeros : (d : Sizes) (c : Command) (image array : ℕ → List ℕ) → ((b : ℕ) → (image b ≡ array b) ⊎ (image b ≡ zeros_of d)) → (a : ℕ)
    → (array_after d c image a ≡ array_after d c array a) ⊎ (array_after d c image a ≡ zeros_of d)
right_or_zeros d (Read x) image array each a = each a
right_or_zeros d (Write x bytes) image array each a = elim (cases_eq a x) [
  | inl at ↦ inl (rw (eq-eqb a x at) refl)
  | inr other ↦ rw (ne_eqb a x other) (each a)
]
right_or_zeros d (Discard x) image array each a = elim (cases_eq a x) [
  | inl at ↦ inl (rw (eq-eqb a x at) refl)
  | inr other ↦ rw (ne_eqb a x other) (each a)
]

all_right_or_zeros : (d : Sizes) (queue : List Submission) (image array : ℕ → List ℕ) → ((b : ℕ) → (image b ≡ array b) ⊎ (image b ≡ zeros_of d)) → (a : ℕ)
    → (after_all d queue image a ≡ after_all d queue array a) ⊎ (after_all d queue image a ≡ zeros_of d)
all_right_or_zeros d [] image array each a = each a
all_right_or_zeros d (x ∷ queue) image array each a =
    all_right_or_zeros d queue (array_after d x.command image) (array_after d x.command array) (λ b. right_or_zeros d x.command image array each b) a

-- the array that tree 0 holds, after the commands that wait
amid : (v : Scheme) (s : State) (w : World) (array : ℕ → List ℕ) (x : Submission) (rest : List Submission) → s.entry_number < 2 * trees_of v.device → ServesAmid v s w array x
    → (a : ℕ) → after_all v.device (x ∷ rest) (array_in v w) a ≡ after_all v.device (x ∷ rest) array a
amid v s w array x rest few serves a = elim (cases_eq (s.entry_number + 1) (2 * trees_of v.device)) [
  | inl last ↦
      let again : (b : ℕ) → array_after v.device x.command (array_in v w) b ≡ array_after v.device x.command array b =
      λ b. same_array v.device x.command (array_in v w) (array_after v.device x.command array) (serves.after last) b ∙ twice v.device x.command array b in
      same_arrays v.device rest (array_after v.device x.command (array_in v w)) (array_after v.device x.command array) again a
  | inr other ↦ same_arrays v.device (x ∷ rest) (array_in v w) array (serves.before (omega (arith, few, other))) a
]

waiting_by : (v : Scheme) (s : State) (w : World) (array : ℕ → List ℕ) (queue : List Submission) → s.entry_number < 2 * trees_of v.device → ServesBy v s w array queue
    → (a : ℕ) → after_all v.device queue (array_in v w) a ≡ after_all v.device queue array a
waiting_by v s w array [] few serves a = serves a
waiting_by v s w array (x ∷ rest) few serves a = amid v s w array x rest few serves a

-- the image of a tree's blocks, once the commands that wait have written
pub backed_up : (v : Scheme) (s : State) (w : World) (array : ℕ → List ℕ) (writes : List BlockWrite) (IsWhole : Type 0) → IsServing v s w array
    → IsImage v.device.block_bytes (array_in v w) writes IsWhole
    → IsBackup v.device.block_bytes (after_all v.device s.queue array) (writes ++ waiting_writes (zeros_of v.device) s.queue) IsWhole
backed_up v s w array writes IsWhole serving image = record {
  each = λ a. elim (all_right_or_zeros v.device s.queue (image_of v.device.block_bytes writes) (array_in v w) image.each a) [
    | inl right ↦ inl (made a ∙ right ∙ target a)
    | inr zeros ↦ inr (made a ∙ zeros)
  ];
  whole = λ whole a. made a ∙ same_arrays v.device s.queue (image_of v.device.block_bytes writes) (array_in v w) (image.whole whole) a ∙ target a;
}
  where
    made : (a : ℕ) → image_of v.device.block_bytes (writes ++ waiting_writes (zeros_of v.device) s.queue) a ≡ after_all v.device s.queue (image_of v.device.block_bytes writes) a
    made a =
        image-append (λ b. replicate v.device.block_bytes 0) writes (waiting_writes (zeros_of v.device) s.queue) a
        ∙ all_written v.device s.queue (image_of v.device.block_bytes writes) a

    target : (a : ℕ) → after_all v.device s.queue (array_in v w) a ≡ after_all v.device s.queue array a
    target = waiting_by v s w array s.queue serving.orderly.entry_number serving.serves

-- what the pending commands write is what the commands of the queue write
pub pending_writes : (zeros : List ℕ) (pendings : List Pending) (queue : List Submission) → pendings ≡ map pending_of queue
    → flat_map (λ p. writes_of zeros p.command) pendings ≡ waiting_writes zeros queue
pending_writes zeros pendings queue are = ap (λ (ps : List Pending). flat_map (λ p. writes_of zeros p.command) ps) are ∙ flat_map-map (λ (p : Pending). writes_of zeros p.command) pending_of queue
