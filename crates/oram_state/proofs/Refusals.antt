-- The fields of a file are refused with only one fault: Content.
use Rattle.std.proofs.Common.{◌≡◌, ℕ, zero, suc, ◌+◌, ◌*◌, Bool, true, false, cond, List, [], ◌∷◌, length, take, drop, Result, Ok, Err, refl, subst, inl, inr}
use Rattle.std.specs.Prelude.{IfErr, ◌==◌, ◌&&◌, ◌⊎◌, nat_lt}
use Rattle.std.specs.Int.{Width, w16, w32, w64, byte_len, from_be_bytes}
use Rattle.oram_geometry.specs.declared.Sizes.{Sizes}
use Rattle.oram_geometry.specs.declared.ShapeFault.{ShapeFault}
use Rattle.oram_geometry.specs.Sizes.{device_of, is_between, trees_of}
use Rattle.oram_state.specs.declared.fault.StateFault.{StateFault}
use Rattle.oram_state.specs.declared.fault.StateFault.TheVariants.{Magic, Version, Length, Digest, Content, OutOfMemory}
use Rattle.oram_state.specs.declared.mode.Mode.{Mode}
use Rattle.oram_state.specs.declared.mode.Mode.TheVariants.{Idle, Failed, Waiting, Stalled}
use Rattle.oram_state.specs.declared.saved.Saved.{Saved}
use Rattle.oram_state.specs.WellSized.{held_len, table_len, tree_count}
use Rattle.oram_state.specs.Parser.{◌>>=◌, Gives, Reading, known, many, mode_in, next_block, next_byte, next_bytes, next_command, next_data, next_device, next_failure, next_head, next_message, next_number, next_pending, next_reason, next_saved, next_step, next_tree, next_waiting, next_work, next_work_in, reason_in, saved_in, unless}

-- if it is an error, it is Content
abbrev pub Refuses : {Y : Type 0} → Result Y StateFault → Type 0
Refuses r = IfErr r (λ why. why ≡ Content)

both_steps : {A B : Type 0} (r : Result A StateFault) (f : A → Result B StateFault) → Refuses r → ((a : A) → Refuses (f a)) → Refuses (r >>= f)
both_steps (Ok a) f h k = k a
both_steps (Err why) f h k = h

either : {Y : Type 0} (b : Bool) (x y : Result Y StateFault) → Refuses x → Refuses y → Refuses (cond b x y)
either true x y h k = h
either false x y h k = k

unless_content : (b : Bool) → Refuses (unless Content b)
unless_content true = tt
unless_content false = refl

-- ---- fields

bytes_refuses : (n : ℕ) (text : List ℕ) → Refuses (next_bytes n text)
unfolding next_bytes
bytes_refuses n text = either (nat_lt (length text) n) (Err Content) (Ok (take n text, drop n text)) refl tt

byte_refuses : (text : List ℕ) → Refuses (next_byte text)
unfolding next_byte
byte_refuses [] = refl
byte_refuses (b ∷ text) = tt

number_refuses : (w : Width) (text : List ℕ) → Refuses (next_number w text)
unfolding next_number
number_refuses w text = either (nat_lt (length text) (byte_len w)) (Err Content) (Ok (from_be_bytes w (take (byte_len w) text), drop (byte_len w) text)) refl tt

many_refuses : {X : Type 0} (next : List ℕ → Reading X) → ((text : List ℕ) → Refuses (next text)) → (count : ℕ) (text : List ℕ) → Refuses (many next count text)
unfolding many
many_refuses next h zero text = tt
many_refuses next h (suc count) text =
    both_steps (next text) _ (h text) (λ a.
    both_steps (many next count a.1) _ (many_refuses next h count a.1) (λ b. tt))

-- ---- the head

known_refuses : (r : Result Sizes ShapeFault) → Refuses (known r)
known_refuses (Ok d) = tt
known_refuses (Err why) = refl

device_refuses : (text : List ℕ) → Refuses (next_device text)
unfolding next_device
device_refuses text =
    both_steps (next_number w32 text) _ (number_refuses w32 text) (λ a.
    both_steps (next_number w32 a.1) _ (number_refuses w32 a.1) (λ b.
    both_steps (next_number w16 b.1) _ (number_refuses w16 b.1) (λ m.
    both_steps (next_number w16 m.1) _ (number_refuses w16 m.1) (λ c.
    both_steps (next_number w32 c.1) _ (number_refuses w32 c.1) (λ e.
    both_steps (next_number w64 e.1) _ (number_refuses w64 e.1) (λ f.
    both_steps (known (device_of (record { blocks = a.0; block_bytes = b.0; slots = c.0; top = e.0; lifetime = f.0; leaf_load = m.0 + 1 }))) _
    (known_refuses (device_of (record { blocks = a.0; block_bytes = b.0; slots = c.0; top = e.0; lifetime = f.0; leaf_load = m.0 + 1 }))) (λ g. tt)))))))

mode_refuses : (version byte : ℕ) → Refuses (mode_in version byte)
mode_refuses version byte =
    either (byte == 0) _ _ tt
    (either (byte == 1) _ _ tt
    (either (byte == 2 && version == 2) _ _ tt
    (either (byte == 3 && version == 2) _ _ tt refl)))

head_refuses : (version : ℕ) (text : List ℕ) → Refuses (next_head version text)
unfolding next_head
head_refuses version text =
    both_steps (next_device text) _ (device_refuses text) (λ a.
    both_steps (next_number w32 a.1) _ (number_refuses w32 a.1) (λ b.
    both_steps (next_byte b.1) _ (byte_refuses b.1) (λ c.
    both_steps (mode_in version c.0) _ (mode_refuses version c.0) (λ e.
    both_steps (next_number w64 c.1) _ (number_refuses w64 c.1) (λ f.
    both_steps (next_number w64 f.1) _ (number_refuses w64 f.1) (λ g. tt))))))

-- ---- the failure, the trees and the work

reason_in_refuses : (kind tree level code : ℕ) → Refuses (reason_in kind tree level code)
reason_in_refuses kind tree level code =
    either (kind == 1 && (tree == 0 && (level == 0 && code == 0))) _ _ tt
    (either (kind == 2 && code == 0) _ _ tt
    (either (kind == 3 && (tree == 0 && level == 0)) _ _ tt refl))

reason_refuses : (text : List ℕ) → Refuses (next_reason text)
unfolding next_reason
reason_refuses text =
    both_steps (next_byte text) _ (byte_refuses text) (λ a.
    both_steps (next_byte a.1) _ (byte_refuses a.1) (λ b.
    both_steps (next_byte b.1) _ (byte_refuses b.1) (λ c.
    both_steps (next_byte c.1) _ (byte_refuses c.1) (λ e.
    both_steps (reason_in a.0 b.0 c.0 e.0) _ (reason_in_refuses a.0 b.0 c.0 e.0) (λ f. tt)))))

failure_refuses : (mode : Mode) (text : List ℕ) → Refuses (next_failure mode text)
unfolding next_failure
failure_refuses Failed text = both_steps (next_reason text) _ (reason_refuses text) (λ a. tt)
failure_refuses Idle text = tt
failure_refuses Waiting text = tt
failure_refuses Stalled text = tt

block_refuses : (d : Sizes) (text : List ℕ) → Refuses (next_block d text)
unfolding next_block
block_refuses d text =
    both_steps (next_number w32 text) _ (number_refuses w32 text) (λ a.
    both_steps (next_number w32 a.1) _ (number_refuses w32 a.1) (λ b.
    both_steps (next_bytes d.block_bytes b.1) _ (bytes_refuses d.block_bytes b.1) (λ c. tt)))

tree_refuses : (d : Sizes) (text : List ℕ) → Refuses (next_tree d text)
unfolding next_tree
tree_refuses d text =
    both_steps (next_bytes 32 text) _ (bytes_refuses 32 text) (λ a.
    both_steps (next_number w32 a.1) _ (number_refuses w32 a.1) (λ b.
    both_steps (many (next_block d) b.0 b.1) _ (many_refuses (next_block d) (block_refuses d) b.0 b.1) (λ c. tt)))

data_refuses : (d : Sizes) (op address : ℕ) (text : List ℕ) → Refuses (next_data d op address text)
unfolding next_data
data_refuses d op address text =
    either (op == 17) _ _ tt
    (either (op == 18) _ _ (both_steps (next_bytes d.block_bytes text) _ (bytes_refuses d.block_bytes text) (λ a. tt))
    (either (op == 19) _ _ tt refl))

command_refuses : (d : Sizes) (text : List ℕ) → Refuses (next_command d text)
unfolding next_command
command_refuses d text =
    both_steps (next_byte text) _ (byte_refuses text) (λ a.
    both_steps (next_number w32 a.1) _ (number_refuses w32 a.1) (λ b. data_refuses d a.0 b.0 b.1))

pending_refuses : (d : Sizes) (text : List ℕ) → Refuses (next_pending d text)
unfolding next_pending
pending_refuses d text =
    both_steps (next_number w32 text) _ (number_refuses w32 text) (λ a.
    both_steps (next_command d a.1) _ (command_refuses d a.1) (λ b.
    both_steps (many (next_number w64) (2 * trees_of d) b.1) _ (many_refuses (next_number w64) (number_refuses w64) (2 * trees_of d) b.1) (λ c. tt)))

waiting_refuses : (d : Sizes) (text : List ℕ) → Refuses (next_waiting d text)
unfolding next_waiting
waiting_refuses d text =
    both_steps (next_number w32 text) _ (number_refuses w32 text) (λ a.
    both_steps (unless Content (is_between 1 64 a.0)) _ (unless_content (is_between 1 64 a.0)) (λ _.
    many_refuses (next_pending d) (pending_refuses d) a.0 a.1))

step_refuses : (d : Sizes) (text : List ℕ) → Refuses (next_step d text)
unfolding next_step
step_refuses d text =
    both_steps (next_number w32 text) _ (number_refuses w32 text) (λ a.
    both_steps (unless Content (nat_lt a.0 (2 * trees_of d))) _ (unless_content (nat_lt a.0 (2 * trees_of d))) (λ _. tt))

message_refuses : (text : List ℕ) → Refuses (next_message text)
unfolding next_message
message_refuses text = both_steps (next_number w32 text) _ (number_refuses w32 text) (λ a. bytes_refuses a.0 a.1)

work_refuses : (d : Sizes) (text : List ℕ) → Refuses (next_work d text)
unfolding next_work
work_refuses d text =
    both_steps (next_waiting d text) _ (waiting_refuses d text) (λ a.
    both_steps (next_step d a.1) _ (step_refuses d a.1) (λ b.
    both_steps (next_number w32 b.1) _ (number_refuses w32 b.1) (λ c.
    both_steps (next_bytes (held_len d b.0) c.1) _ (bytes_refuses (held_len d b.0) c.1) (λ e.
    both_steps (next_message e.1) _ (message_refuses e.1) (λ f. tt)))))

work_in_refuses : (d : Sizes) (mode : Mode) (text : List ℕ) → Refuses (next_work_in d mode text)
unfolding next_work_in
work_in_refuses d Idle text = tt
work_in_refuses d Failed text = tt
work_in_refuses d Waiting text = work_refuses d text
work_in_refuses d Stalled text = work_refuses d text

-- ---- the whole

saved_refuses : (version : ℕ) (text : List ℕ) → Refuses (next_saved version text)
unfolding next_saved
saved_refuses version text =
    both_steps (next_head version text) _ (head_refuses version text) (λ a.
    both_steps (next_failure a.0.mode a.1) _ (failure_refuses a.0.mode a.1) (λ b.
    both_steps (many (next_number w32) (table_len a.0.device b.0) b.1) _ (many_refuses (next_number w32) (number_refuses w32) (table_len a.0.device b.0) b.1) (λ c.
    both_steps (many (next_tree a.0.device) (tree_count a.0.device b.0) c.1) _ (many_refuses (next_tree a.0.device) (tree_refuses a.0.device) (tree_count a.0.device b.0) c.1) (λ e.
    both_steps (next_work_in a.0.device a.0.mode e.1) _ (work_in_refuses a.0.device a.0.mode e.1) (λ f. tt)))))

all_refuses : (version : ℕ) (text : List ℕ) → Refuses (saved_in version text)
unfolding saved_in
all_refuses version text =
    both_steps (next_saved version text) _ (saved_refuses version text) (λ a.
    both_steps (unless Content (length a.1 == 0)) _ (unless_content (length a.1 == 0)) (λ _. tt))

-- Reading fields fails because of what they are, or because memory runs out.
abbrev pub IsContentOrMemory : StateFault → Type 0
IsContentOrMemory why = (why ≡ Content) ⊎ (why ≡ OutOfMemory)

other : (version : ℕ) (text : List ℕ) (why : StateFault) → saved_in version text ≡ Err why → why ≡ Content
other version text why e = subst Refuses e (all_refuses version text)

pub fields_fault : (version : ℕ) (text : List ℕ) (r : Result Saved StateFault) → Gives (λ s. s) r (saved_in version text) → IfErr r IsContentOrMemory
fields_fault version text (Ok s) e = tt
fields_fault version text (Err OutOfMemory) e = inr refl
fields_fault version text (Err Content) e = inl refl
fields_fault version text (Err Magic) e = inl (other version text Magic e)
fields_fault version text (Err Version) e = inl (other version text Version e)
fields_fault version text (Err Length) e = inl (other version text Length e)
fields_fault version text (Err Digest) e = inl (other version text Digest e)
