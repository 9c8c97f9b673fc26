-- The fields of a core at work.
use Rattle.std.proofs.Common.{◌≡◌, ℕ, ◌*◌, ◌<◌, ◌≤◌, Bool, true, false, cond, List, [], ◌∷◌, ◌++◌, length, Result, Ok, Err, refl, sym, ap, ◌∙◌, append_assoc, arith}
use Rattle.std.specs.Prelude.{IfOk, ◌==◌, nat_lt, nat_le}
use Rattle.std.specs.List.{flat_map, AllByRecursion}
use Rattle.std.proofs.lemmas.Bool.{eqb-true, lt-ltb, le-leb, ltb-true, leb-true}
use Rattle.std.specs.Int.{w32, w64}
use Rattle.oram_geometry.specs.declared.Sizes.{Sizes}
use Rattle.oram_geometry.specs.Sizes.{IsDevice, is_between, trees_of}
use Rattle.oram_geometry.proofs.DeviceSizes.{trees_of-few}
use Rattle.oram_semantics.specs.declared.events.Command.{Command}
use Rattle.oram_semantics.specs.declared.events.Command.TheVariants.{Read, Write, Discard}
use Rattle.oram_core.specs.declared.parts.Pending.{Pending}
use Rattle.oram_state.specs.declared.fault.StateFault.{StateFault}
use Rattle.oram_state.specs.declared.fault.StateFault.TheVariants.{Content}
use Rattle.oram_state.specs.declared.mode.Mode.{Mode}
use Rattle.oram_state.specs.declared.mode.Mode.TheVariants.{Idle, Failed, Waiting, Stalled}
use Rattle.oram_state.specs.StateBytes.{Work, short, long, command_text, pending_text, text_unless_idle, work_fields, work_text}
use Rattle.oram_state.specs.WellSized.{IsShort, IsLong, IsSizedCommand, IsSizedPending, IsSizedWork, held_len, no_work}
use Rattle.oram_state.specs.Parser.{◌>>=◌, Reading, many, next_byte, next_bytes, next_command, next_data, next_message, next_number, next_pending, next_step, next_waiting, next_work, next_work_in, unless}
use Rattle.oram_state.proofs.Tools.{IsBytes, Took, took_both, then_ok, goes, unless_ok, byte_takes, bytes_takes, bytes_again, short_takes, short_again, long_takes, long_again}
use Rattle.oram_state.proofs.Several.{Law, many_takes, many_again}
use Rattle.oram_state.proofs.Devices.{both_true}

-- ---- commands

-- what the reader takes for a command, after its first byte and its address
data_by_tests : (d : Sizes) (op address : ℕ) (text : List ℕ) (a b c : Bool) → a ≡ (op == 17) → b ≡ (op == 18) → c ≡ (op == 19) → IsShort address → IsBytes text
    → IfOk {T = Command × List ℕ} (cond a (Ok (Read address, text)) (cond b (next_bytes d.block_bytes text >>= λ x. Ok (Write address x.0, x.1)) (cond c (Ok (Discard address, text)) (Err Content))))
    (λ x. (before : List ℕ) (at : List ℕ) → Took before (op ∷ short address) text → Took before (command_text x.0) x.1 × IsSizedCommand d x.0)
data_by_tests d op address text true b c e f g short_one h = λ before at p. (rw (eqb-true op 17 (sym e)) at p, short_one)
data_by_tests d op address text false true c e f g short_one h =
    then_ok _ _ (next_bytes d.block_bytes text) _ (bytes_takes d.block_bytes text h) (λ x px. λ before at p. (rw (eqb-true op 18 (sym f)) at (took_both p px.0), (short_one, px.1)))
data_by_tests d op address text false false true e f g short_one h = λ before at p. (rw (eqb-true op 19 (sym g)) at p, short_one)
data_by_tests d op address text false false false e f g short_one h = tt

data_takes : (d : Sizes) (op address : ℕ) (text : List ℕ) → IsShort address → IsBytes text
    → IfOk (next_data d op address text) (λ x. (before : List ℕ) (at : List ℕ) → Took before (op ∷ short address) text → Took before (command_text x.0) x.1 × IsSizedCommand d x.0)
unfolding next_data
data_takes d op address text short_one h = data_by_tests d op address text (op == 17) (op == 18) (op == 19) refl refl refl short_one h

command_takes : (d : Sizes) (text : List ℕ) → IsBytes text → IfOk (next_command d text) (λ x. Took text (command_text x.0) x.1 × IsSizedCommand d x.0)
unfolding next_command
command_takes d text h =
    then_ok _ _ (next_byte text) _ (byte_takes text h) (λ a pa.
    then_ok _ _ (next_number w32 a.1) _ (short_takes a.1 pa.bytes) (λ b pb.
    weaker (next_data d a.0 b.0 b.1) _ _ (data_takes d a.0 b.0 b.1 pb.1 pb.0.bytes) (λ x px. px text [] (took_both pa pb.0))))
  where
    weaker : {A : Type 0} (r : Result A StateFault) (P Q : A → Type 0) → IfOk r P → ((a : A) → P a → Q a) → IfOk r Q
    weaker (Ok a) P Q p q = q a p
    weaker (Err why) P Q p q = tt

command_again : (d : Sizes) (c : Command) (rest : List ℕ) → IsSizedCommand d c → next_command d (command_text c ++ rest) ≡ Ok (c, rest)
unfolding next_command next_data next_byte
command_again d (Read address) rest h = goes _ _ _ _ (short_again address rest h) refl
command_again d (Write address content) rest h =
    ap (λ (x : List ℕ). next_command d (18 ∷ x)) (append_assoc (short address) content rest)
    ∙ goes _ _ _ _ (short_again address (content ++ rest) h.0) (goes _ _ _ _ (bytes_again d.block_bytes content rest h.1) refl)
command_again d (Discard address) rest h = goes _ _ _ _ (short_again address rest h) refl

long_law : Law long IsLong (next_number w64)
long_law = record { takes = long_takes; again = long_again }

pending_takes : (d : Sizes) (text : List ℕ) → IsBytes text → IfOk (next_pending d text) (λ x. Took text (pending_text x.0) x.1 × IsSizedPending d x.0)
unfolding next_pending
pending_takes d text h =
    then_ok _ _ (next_number w32 text) _ (short_takes text h) (λ a pa.
    then_ok _ _ (next_command d a.1) _ (command_takes d a.1 pa.0.bytes) (λ b pb.
    then_ok _ _ (many (next_number w64) (2 * trees_of d) b.1) _ (many_takes long IsLong (next_number w64) long_law (2 * trees_of d) b.1 pb.0.bytes) (λ c pc.
    (took_both (took_both pa.0 pb.0) pc.0, record { session = pa.1; command = pb.1; count = pc.1; words = pc.2 }))))

pending_again : (d : Sizes) (q : Pending) (rest : List ℕ) → IsSizedPending d q → next_pending d (pending_text q ++ rest) ≡ Ok (q, rest)
unfolding next_pending
pending_again d q rest h =
    let regrouped : pending_text q ++ rest ≡ short q.session ++ (command_text q.command ++ (flat_map long q.words ++ rest)) = simp append_assoc in
    let words : many (next_number w64) (2 * trees_of d) (flat_map long q.words ++ rest) ≡ Ok (q.words, rest) = rw (← h.count) (many_again long IsLong (next_number w64) long_law q.words rest h.words) in
    ap (next_pending d) regrouped
    ∙ goes _ _ _ _ (short_again q.session _ h.session)
    (goes _ _ _ _ (command_again d q.command _ h.command)
    (goes _ _ _ _ words refl))

pending_law : (d : Sizes) → Law pending_text (IsSizedPending d) (next_pending d)
pending_law d = record { takes = pending_takes d; again = pending_again d }

-- ---- those without a reply

-- there are some commands, and not too many
pub record AreWaiting (d : Sizes) (waiting : List Pending) : Type 0 where
  pub some : 1 ≤ length waiting
  pub few : length waiting ≤ 64
  pub commands : AllByRecursion (IsSizedPending d) waiting

waiting_takes : (d : Sizes) (text : List ℕ) → IsBytes text → IfOk (next_waiting d text) (λ x. Took text (short (length x.0) ++ flat_map pending_text x.0) x.1 × AreWaiting d x.0)
unfolding next_waiting
waiting_takes d text h =
    then_ok _ _ (next_number w32 text) _ (short_takes text h) (λ a pa.
    then_ok _ _ (unless Content (is_between 1 64 a.0)) _ (unless_ok Content (is_between 1 64 a.0)) (λ _ lawful.
    let between = both_true (nat_le 1 a.0) (nat_le a.0 64) lawful in
    counted a.0 pa.0 (leb-true 1 a.0 between.0) (leb-true a.0 64 between.1) (many (next_pending d) a.0 a.1) (many_takes pending_text (IsSizedPending d) (next_pending d) (pending_law d) a.0 a.1 pa.0.bytes)))
  where
    counted : {text mid : List ℕ} (n : ℕ) → Took text (short n) mid → 1 ≤ n → n ≤ 64 → (r : Reading (List Pending)) → IfOk r (λ x. Took mid (flat_map pending_text x.0) x.1 × (length x.0 ≡ n) × AllByRecursion (IsSizedPending d) x.0)
        → IfOk r (λ x. Took text (short (length x.0) ++ flat_map pending_text x.0) x.1 × AreWaiting d x.0)
    counted n p low high (Ok x) q = (rw q.1 (took_both p q.0), record { some = omega (arith, q.1); few = omega (arith, q.1); commands = q.2 })
    counted n p low high (Err why) q = tt

waiting_again : (d : Sizes) (waiting : List Pending) (rest : List ℕ) → AreWaiting d waiting → next_waiting d (short (length waiting) ++ (flat_map pending_text waiting ++ rest)) ≡ Ok (waiting, rest)
unfolding next_waiting
waiting_again d waiting rest h =
    let low = le-leb 1 (length waiting) h.some in
    let high = le-leb (length waiting) 64 h.few in
    let lawful : is_between 1 64 (length waiting) ≡ true = rw (low, high) refl in
    goes _ _ _ _ (short_again (length waiting) _ (omega (arith, h.few)))
    (rw lawful (many_again pending_text (IsSizedPending d) (next_pending d) (pending_law d) waiting rest h.commands))

-- ---- how far the first of them is

step_takes : (d : Sizes) (text : List ℕ) → IsBytes text → IfOk (next_step d text) (λ x. Took text (short x.0) x.1 × (x.0 < 2 * trees_of d))
unfolding next_step
step_takes d text h =
    then_ok _ _ (next_number w32 text) _ (short_takes text h) (λ a pa.
    then_ok _ _ (unless Content (nat_lt a.0 (2 * trees_of d))) _ (unless_ok Content (nat_lt a.0 (2 * trees_of d))) (λ _ lawful.
    (pa.0, ltb-true a.0 (2 * trees_of d) lawful)))

step_again : (d : Sizes) (r : ℕ) (rest : List ℕ) → r < 2 * trees_of d → IsShort r → next_step d (short r ++ rest) ≡ Ok (r, rest)
unfolding next_step
step_again d r rest h s = goes _ _ _ _ (short_again r rest s) (rw (lt-ltb r (2 * trees_of d) h) refl)

message_takes : (text : List ℕ) → IsBytes text → IfOk (next_message text) (λ x. Took text (short (length x.0) ++ x.0) x.1 × IsShort (length x.0))
unfolding next_message
message_takes text h = then_ok _ _ (next_number w32 text) _ (short_takes text h) (λ a pa. counted a.0 pa.0 pa.1 (next_bytes a.0 a.1) (bytes_takes a.0 a.1 pa.0.bytes))
  where
    counted : {text mid : List ℕ} (n : ℕ) → Took text (short n) mid → IsShort n → (r : Reading (List ℕ)) → IfOk r (λ x. Took mid x.0 x.1 × (length x.0 ≡ n)) → IfOk r (λ x. Took text (short (length x.0) ++ x.0) x.1 × IsShort (length x.0))
    counted n p fits (Ok x) q = (rw q.1 (took_both p q.0), rw q.1 fits)
    counted n p fits (Err why) q = tt

message_again : (message rest : List ℕ) → IsShort (length message) → next_message (short (length message) ++ (message ++ rest)) ≡ Ok (message, rest)
unfolding next_message
message_again message rest h = goes _ _ _ _ (short_again (length message) _ h) (bytes_again (length message) message rest refl)

-- ---- all of it

-- some commands wait
pub record IsAtWork (d : Sizes) (w : Work) : Type 0 where
  pub some : 1 ≤ length w.waiting
  pub sized : IsSizedWork d w

work_takes : (d : Sizes) (text : List ℕ) → IsBytes text → IfOk (next_work d text) (λ x. Took text (work_fields x.0) x.1 × IsAtWork d x.0)
unfolding next_work
work_takes d text h =
    then_ok _ _ (next_waiting d text) _ (waiting_takes d text h) (λ a pa.
    then_ok _ _ (next_step d a.1) _ (step_takes d a.1 pa.0.bytes) (λ b pb.
    then_ok _ _ (next_number w32 b.1) _ (short_takes b.1 pb.0.bytes) (λ c pc.
    then_ok _ _ (next_bytes (held_len d b.0) c.1) _ (bytes_takes (held_len d b.0) c.1 pc.0.bytes) (λ e pe.
    then_ok _ _ (next_message e.1) _ (message_takes e.1 pe.0.bytes) (λ f pf.
    let taken = took_both (took_both (took_both (took_both pa.0 pb.0) pc.0) pe.0) pf.0 in (
      record { parts = taken.parts ∙ ap (λ (x : List ℕ). x ++ f.1) (sym (append_assoc _ (short (length f.0)) f.0)); bytes = taken.bytes },
      record { some = pa.1.some; sized = record { few = pa.1.few; commands = pa.1.commands; step = pb.1; entry = pc.1; held = pe.1; message = pf.1 } },
    ))))))

work_again : (d : Sizes) (w : Work) (rest : List ℕ) → IsDevice d → IsAtWork d w → next_work d (work_fields w ++ rest) ≡ Ok (w, rest)
unfolding next_work
work_again d w rest device h =
    let s = h.sized in
    let regrouped : work_fields w ++ rest ≡ short (length w.waiting) ++ (flat_map pending_text w.waiting ++ (short w.entry_number ++ (short w.held_entry ++ (w.held_data ++ (short (length w.message) ++ (w.message ++ rest)))))) = simp append_assoc in
    ap (next_work d) regrouped
    ∙ goes _ _ _ _ (waiting_again d w.waiting _ (record { some = h.some; few = s.few; commands = s.commands }))
    (goes _ _ _ _ (step_again d w.entry_number _ s.step (omega (arith, s.step, trees_of-few d device)))
    (goes _ _ _ _ (short_again w.held_entry _ s.entry)
    (goes _ _ _ _ (bytes_again (held_len d w.entry_number) w.held_data _ s.held)
    (goes _ _ _ _ (message_again w.message rest s.message) refl))))

-- the work of a core in its mode
abbrev pub IsWorkOf : Sizes → Mode → Work → Type 0
IsWorkOf d Idle w = w ≡ no_work
IsWorkOf d Failed w = w ≡ no_work
IsWorkOf d Waiting w = IsAtWork d w
IsWorkOf d Stalled w = IsAtWork d w

unless_idle : (waiting : List Pending) (text : List ℕ) → 1 ≤ length waiting → text_unless_idle waiting text ≡ text
unless_idle [] text h = absurd (omega (arith, h))
unless_idle (first ∷ others) text h = refl

at_work : (d : Sizes) (text : List ℕ) (r : Reading Work) → IfOk r (λ x. Took text (work_fields x.0) x.1 × IsAtWork d x.0) → IfOk r (λ x. Took text (work_text x.0) x.1 × IsAtWork d x.0)
at_work d text (Ok x) p = (rw (unless_idle x.0.waiting (work_fields x.0) p.1.some) p.0, p.1)
at_work d text (Err why) p = tt

pub work_in_takes : (d : Sizes) (mode : Mode) (text : List ℕ) → IsBytes text → IfOk (next_work_in d mode text) (λ x. Took text (work_text x.0) x.1 × IsWorkOf d mode x.0)
unfolding next_work_in
work_in_takes d Idle text h = (record { parts = refl; bytes = h }, refl)
work_in_takes d Failed text h = (record { parts = refl; bytes = h }, refl)
work_in_takes d Waiting text h = at_work d text (next_work d text) (work_takes d text h)
work_in_takes d Stalled text h = at_work d text (next_work d text) (work_takes d text h)

pub work_in_again : (d : Sizes) (mode : Mode) (w : Work) (rest : List ℕ) → IsDevice d → IsWorkOf d mode w → next_work_in d mode (work_text w ++ rest) ≡ Ok (w, rest)
unfolding next_work_in
work_in_again d Idle w rest device h = rw h refl
work_in_again d Failed w rest device h = rw h refl
work_in_again d Waiting w rest device h = rw (unless_idle w.waiting (work_fields w) h.some) (work_again d w rest device h)
work_in_again d Stalled w rest device h = rw (unless_idle w.waiting (work_fields w) h.some) (work_again d w rest device h)
