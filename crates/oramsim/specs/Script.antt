-- The run of a script: what its lines do to a device and its host, and what it prints.
use Rattle.std.specs.Prelude.{◌≡◌, ◌≢◌, ◌⊎◌, ℕ, ◌+◌, Bool, true, false, List, [], ◌∷◌, ◌++◌, length, map, take, codes, Option, Some, None, Result, Ok, Err, ⊤}
use Rattle.std.specs.List.{AllByRecursion, flat_map, FoldsTo}
use Rattle.oram_geometry.specs.declared.Sizes.{Sizes}
use Rattle.oram_geometry.specs.declared.ShapeFault.{ShapeFault}
use Rattle.oram_geometry.specs.Sizes.{device_of, trees_of}
use Rattle.oram_bucket.specs.Cipher.{plain_cipher}
use Rattle.oram_wire.specs.HostMessages.{answer_body}
use Rattle.oram_wire.specs.declared.host_messages.HostAnswer.{HostAnswer}
use Rattle.oram_host.specs.Host.{Host}
use Rattle.oram_host.specs.Flips.{IsFlipped, IsByteless}
use Rattle.oram_host.specs.Swaps.{IsSwapped, LacksPair}
use Rattle.oram_host.specs.Service.{Serves}
use Rattle.oram_tree.specs.Format.{PutsAll}
use Rattle.oram_tree.specs.State.{State as Tree}
use Rattle.oram_semantics.specs.Scheme.{Scheme}
use Rattle.oram_semantics.specs.Progress.{Setting}
use Rattle.oram_semantics.specs.Formatting.{IsFormatted}
use Rattle.oram_semantics.specs.Run.{Shown, AllRight}
use Rattle.oram_semantics.specs.declared.events.Event.{Event}
use Rattle.oram_semantics.specs.declared.events.Event.TheVariants as event
use Rattle.oram_host_laws.specs.Honest.{Takes}
use Rattle.oramsim.specs.Printer.{reaction_text, ready_text, shape_text, error_text, memory_text}
use Rattle.oramsim.specs.Lines.{lines_of, line_of}
use Rattle.oramsim.specs.declared.line.Line.{Line}
use Rattle.oramsim.specs.declared.line.Line.TheVariants.{Device, CoreEvent, Answer, Drain, Late, Reopen, Tamper, Swap, Snapshot, Restore}
use Rattle.oramsim.specs.declared.script.Ending.{Ending}
use Rattle.oramsim.specs.declared.script.Ending.TheVariants.{End, BadLine}
use Rattle.oramsim.specs.declared.script.SimFault.{SimFault}
use Rattle.oramsim.specs.declared.script.SimFault.TheVariants.{OutOfMemory, Read, Write}

-- an event, and what the device showed at it
pub record Turn : Type 0 where
  pub event : Event
  pub shown : Shown

-- a device at work, and its host
pub record Running : Type 0 where
  pub setting : Setting  -- the device under its sealer, and the messages that formatted it
  pub turns : List Turn  -- so far, the oldest first
  pub message : Option (List ℕ)  -- the one that is outstanding
  pub host : Host
  pub copy : Option Host  -- the snapshot of it

abbrev pub events : Running → List Event
events r = map (λ t. t.event) r.turns

abbrev pub all_shown : Running → List Shown
all_shown r = map (λ t. t.shown) r.turns

-- the message that is still outstanding after an event: none after an answer or a loss
abbrev pub left_at : Event → Option (List ℕ) → Option (List ℕ)
left_at (event.Submit session c words) message = message
left_at (event.Answer bytes) message = None
left_at event.Lost message = None
left_at event.Reopen message = None
left_at event.Retry message = message

-- the newest of the messages that were sent, or the earlier one if none was
abbrev pub newest_of : List (List ℕ) → Option (List ℕ) → Option (List ℕ)
newest_of [] message = message
newest_of (m ∷ more) message = newest_of more (Some m)

-- the run after an event at which the device shows x
abbrev pub after_turn : Running → Event → Shown → Running
after_turn r e x = record r { turns = r.turns ++ (record { event = e; shown = x }) ∷ []; message = newest_of x.sends (left_at e r.message) }

abbrev pub with_host : Running → Host → Running
with_host r host = record r { host = host }

-- The host answers the outstanding message with these bytes; with none outstanding there are no bytes.
abbrev pub HostAnswers : Host → Option (List ℕ) → List ℕ → Host → Type 0
HostAnswers host None bytes after = (bytes ≡ []) × (after ≡ host)
HostAnswers host (Some message) bytes after = (answer : HostAnswer) × Serves host message answer after × (bytes ≡ answer_body answer)

-- The event is the host's answer to the outstanding message.
abbrev pub IsAnswered : Running → Shown → Running → Type 0
IsAnswered r x after = (bytes : List ℕ) × (host : Host) × HostAnswers r.host r.message bytes host × (after ≡ after_turn (with_host r host) (event.Answer bytes) x)

abbrev pub IsDrained : Running → Shown → Running → Type 0
IsDrained r x after = (r.message ≢ None) × IsAnswered r x after

abbrev pub AtEvent : Running → Event → Running → Type 0
AtEvent r e after = (x : Shown) × (after ≡ after_turn r e x)

-- the effect of a line on a device and its host
abbrev pub Obeys : Running → Line → Running → Type 0
Obeys r (Device blocks block_bytes slots top lifetime) after = ⊥
Obeys r (CoreEvent e) after = AtEvent r e after
Obeys r Answer after = (x : Shown) × IsAnswered r x after
Obeys r Drain after = (xs : List Shown) × FoldsTo IsDrained r xs after × (after.message ≡ None)
Obeys r Late after = (bytes : List ℕ) × (host : Host) × HostAnswers r.host r.message bytes host × AtEvent (with_host r host) event.Lost after
Obeys r Reopen after = AtEvent r event.Reopen after
Obeys r (Tamper tree node offset) after = (host : Host) × IsFlipped r.host tree node offset host × (after ≡ with_host r host)
Obeys r (Swap tree_a node_a tree_b node_b) after = (host : Host) × IsSwapped r.host tree_a node_a tree_b node_b host × (after ≡ with_host r host)
Obeys r Snapshot after = after ≡ record r { copy = Some r.host }
Obeys r Restore after = (host : Host) × (r.copy ≡ Some host) × (after ≡ with_host r host)

-- a device with the sealer that changes nothing
abbrev pub plain_scheme : Sizes → Scheme
plain_scheme d = record { device = d; cipher = plain_cipher }

-- a device that has just been formatted, on a host that kept nothing before
pub record IsNewRun (d : Sizes) (r : Running) : Type 0 where
  pub scheme : r.setting.scheme ≡ plain_scheme d
  pub trees : List Tree
  pub formatted : IsFormatted r.setting trees
  pub taken : PutsAll Takes [] r.setting.format r.host
  pub turns : r.turns ≡ []
  pub message : r.message ≡ None
  pub copy : r.copy ≡ None

-- the stage of a script: there is no device yet, or one is at work
abbrev pub Stage : Type 0
Stage = Option Running

-- a stage, and what was printed before the device's turns
pub record Point : Type 0 where
  pub stage : Stage
  pub head : List ℕ

abbrev pub start : Point
start = record { stage = None; head = [] }

-- what the device's turns have printed so far
abbrev pub stage_text : Stage → List ℕ
stage_text None = []
stage_text (Some r) = flat_map reaction_text (all_shown r)

abbrev pub text_at : Point → List ℕ
text_at p = p.head ++ stage_text p.stage

-- Five numbers make a device, or none.
abbrev pub Starts : List ℕ → Result Sizes ShapeFault → Point → Type 0
Starts head (Ok d) q = (r : Running) × IsNewRun d r × (q ≡ record { stage = Some r; head = head ++ ready_text (trees_of d) })
Starts head (Err fault) q = q ≡ record { stage = None; head = head ++ shape_text fault }

-- a line leads from one point of a script to another: before the device line it is that line, and after it any other
abbrev pub IsDone : Point → Stage → Line → Point → Type 0
IsDone p (Some r) line q = (later : Running) × Obeys r line later × (q ≡ record { stage = Some later; head = p.head })
IsDone p None (Device blocks block_bytes slots top lifetime) q =
    Starts p.head (device_of (record { blocks = blocks; block_bytes = block_bytes; slots = slots; top = top; lifetime = lifetime; leaf_load = 1 })) q
IsDone p None (CoreEvent e) q = ⊥
IsDone p None Answer q = ⊥
IsDone p None Drain q = ⊥
IsDone p None Late q = ⊥
IsDone p None Reopen q = ⊥
IsDone p None (Tamper tree node offset) q = ⊥
IsDone p None (Swap tree_a node_a tree_b node_b) q = ⊥
IsDone p None Snapshot q = ⊥
IsDone p None Restore q = ⊥

-- One line of the script is passed; an empty one does nothing.
abbrev pub IsPassed : Point → List ℕ → Point → Type 0
IsPassed p [] q = q ≡ p
IsPassed p (b ∷ bytes) q = (line : Line) × (line_of (b ∷ bytes) ≡ Some line) × IsDone p p.stage line q

-- a line that a device at work doesn't take: another device, a byte or a pair of records that isn't there, or a
-- restore without a snapshot
abbrev pub IsUnfit : Running → Line → Type 0
IsUnfit r (Device blocks block_bytes slots top lifetime) = ⊤
IsUnfit r (Tamper tree node offset) = IsByteless r.host tree node offset
IsUnfit r (Swap tree_a node_a tree_b node_b) = LacksPair r.host tree_a node_a tree_b node_b
IsUnfit r Restore = r.copy ≡ None
IsUnfit r (CoreEvent e) = ⊥
IsUnfit r Answer = ⊥
IsUnfit r Drain = ⊥
IsUnfit r Late = ⊥
IsUnfit r Reopen = ⊥
IsUnfit r Snapshot = ⊥

-- whether a line makes a device
abbrev pub is_device : Line → Bool
is_device (Device blocks block_bytes slots top lifetime) = true
is_device (CoreEvent e) = false
is_device Answer = false
is_device Drain = false
is_device Late = false
is_device Reopen = false
is_device (Tamper tree node offset) = false
is_device (Swap tree_a node_a tree_b node_b) = false
is_device Snapshot = false
is_device Restore = false

-- a line that the script can't have where it is: it is no line of a script, or makes no device where there is none
-- yet, or the device doesn't take it
abbrev pub IsRefusedLine : Stage → Option Line → Type 0
IsRefusedLine stage None = ⊤
IsRefusedLine None (Some line) = is_device line ≡ false
IsRefusedLine (Some r) (Some line) = IsUnfit r line

abbrev pub IsBad : Stage → List ℕ → Type 0
IsBad stage [] = ⊥
IsBad stage (b ∷ bytes) = IsRefusedLine stage (line_of (b ∷ bytes))

-- What the device showed at its events is right for a run.
abbrev pub HasRun : Stage → Type 0
HasRun None = ⊤
HasRun (Some r) = AllRight r.setting [] (events r) (all_shown r)

-- The text that is printed for an input, and how the run ends: each line is passed, or the last line of the text has
-- the number of the first line that the script can't have.
abbrev pub IsScriptText : List ℕ → List ℕ → Ending → Type 0
IsScriptText input text End = (q : Point) × FoldsTo IsPassed start (lines_of input) q × HasRun q.stage × (text ≡ text_at q)
IsScriptText input text (BadLine n) =
    (lines rest : List (List ℕ)) × (bad : List ℕ) × (q : Point)
    × (lines_of input ≡ lines ++ bad ∷ rest) × FoldsTo IsPassed start lines q × HasRun q.stage × IsBad q.stage bad × (n ≡ length lines + 1)
    × (text ≡ text_at q ++ error_text n)

-- A run is still at p, or, if the next line is a drain, after some of its answers.
abbrev pub IsWithin : Point → List (List ℕ) → Point → Type 0
IsWithin p [] q = q ≡ p
IsWithin p (line ∷ rest) q = (q ≡ p) ⊎ ((r later : Running) × (xs : List Shown) × (line_of line ≡ Some Drain) × (p.stage ≡ Some r)
    × FoldsTo IsDrained r xs later × (q ≡ record { stage = Some later; head = p.head }))

-- The run of an input has passed all lines but `rest`.
pub record HasPassed (input : List ℕ) (rest : List (List ℕ)) (q : Point) : Type 0 where
  pub lines : List (List ℕ)
  pub split : lines_of input ≡ lines ++ rest
  pub passed : FoldsTo IsPassed start lines q
  pub right : HasRun q.stage

-- The run of an input has passed its first lines, and is at a point there or within the next line.
abbrev pub GetsTo : List ℕ → Point → Type 0
GetsTo input q = (p : Point) × (rest : List (List ℕ)) × HasPassed input rest p × IsWithin p rest q × HasRun q.stage

-- What a run of the input has to write: everything up to a point that it reaches, perhaps with `out of memory` after
-- it, or the text with an error line.
abbrev pub IsDue : List ℕ → List ℕ → Type 0
IsDue input text = ((q : Point) × GetsTo input q × ((text ≡ text_at q) ⊎ (text ≡ text_at q ++ memory_text))) ⊎ ((n : ℕ) × IsScriptText input text (BadLine n))

abbrev pub IsBeginning : List ℕ → List ℕ → Type 0
IsBeginning text whole = (count : ℕ) × (text ≡ take count whole)

-- The text for an input whose run is given up. If memory runs out at an event or a line, nothing of that is printed,
-- only `out of memory`. If the input can't be read, the lines before that are passed. If writing fails, the text is a
-- beginning of what was due.
abbrev pub IsCutText : List ℕ → List ℕ → SimFault → Type 0
IsCutText input text OutOfMemory = (q : Point) × GetsTo input q × (text ≡ text_at q ++ memory_text)
IsCutText input text Read = (rest : List (List ℕ)) × (q : Point) × HasPassed input rest q × (text ≡ text_at q)
IsCutText input text Write = (whole : List ℕ) × IsDue input whole × IsBeginning text whole

-- whether an event is an answer of the host
abbrev pub is_answer : Event → Bool
is_answer (event.Submit session c words) = false
is_answer (event.Answer bytes) = true
is_answer event.Lost = false
is_answer event.Reopen = false
is_answer event.Retry = false

-- whether a line forges an answer, or changes what the host keeps
abbrev pub is_meddling : Line → Bool
is_meddling (CoreEvent e) = is_answer e
is_meddling (Tamper tree node offset) = true
is_meddling (Swap tree_a node_a tree_b node_b) = true
is_meddling Restore = true
is_meddling (Device blocks block_bytes slots top lifetime) = false
is_meddling Answer = false
is_meddling Drain = false
is_meddling Late = false
is_meddling Reopen = false
is_meddling Snapshot = false

abbrev pub IsHarmless : Option Line → Type 0
IsHarmless None = ⊤
IsHarmless (Some line) = is_meddling line ≡ false

-- No line of the script meddles with the host.
abbrev pub IsHarmlessScript : List ℕ → Type 0
IsHarmlessScript input = AllByRecursion (λ bytes. IsHarmless (line_of bytes)) (lines_of input)

-- the exit status of a run
abbrev pub exit_status : Result Ending SimFault → ℕ
exit_status (Ok End) = 0
exit_status (Ok (BadLine n)) = 2
exit_status (Err OutOfMemory) = 3
exit_status (Err Read) = 4
exit_status (Err Write) = 4

-- No line of the text reports a failure.
abbrev pub HasNoFailure : List ℕ → Type 0
HasNoFailure text = AllByRecursion (λ line. take 6 line ≢ codes "failed") (lines_of text)
