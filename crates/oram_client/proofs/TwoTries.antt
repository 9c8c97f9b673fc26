-- A batch whose first connection breaks off, step by step.
use Rattle.std.proofs.Common.{◌≡◌, ◌≢◌, ℕ, zero, suc, ◌≤◌, ◌||◌, arith, List, [], ◌∷◌, ◌++◌, length, Bool, true, false, Option, None, Some, Ok, Err, inl, inr, refl, sym, ap, ◌∙◌, subst, lit<, lit≤, bytes_eq}
use Rattle.std.specs.Prelude.{if◌then◌else◌, is_ok, unwrap_or}
use Rattle.std.specs.List.{All}
use Rattle.std.proofs.lemmas.List.Elements.{All-cons, All-nil}
use Rattle.std.proofs.lemmas.Slice.Eq.{bytes_eq-Decides}
use Rattle.oram_geometry.specs.Least.{least_from}
use Rattle.oram_geometry.specs.Sizes.{blocks_in, level_for, record_len_of, trees_of}
use Rattle.oram_wire.specs.FrameStream.{IsBody, frame}
use Rattle.oram_wire.specs.HostMessages.{done_answer, fetch_body, payload_answer, store_body}
use Rattle.oram_wire.specs.declared.host_messages.HostAnswer.TheVariants.{Done, Payload}
use Rattle.oram_host.specs.Answers.{IsFetched, IsStored}
use Rattle.oram_host.specs.Host.{Host, Kept, record_of, tree_at}
use Rattle.oram_host.specs.Path.{node_on, record_at}
use Rattle.oram_host.specs.Service.{Serves}
use Rattle.oram_session.specs.Honesty.{IsHonestCall}
use Rattle.oram_session.specs.declared.link.LinkFault.{LinkFault}
use Rattle.oram_session.specs.declared.link.LinkFault.TheVariants.{Closed}
use Rattle.oram_link_laws.specs.Examples.{known, one_block}
use Rattle.oram_link_laws.specs.Repair.{IsAmong}
use Rattle.oram_link_laws.specs.ResentStores.{IsStore}
use Rattle.oram_link_laws.specs.Runs.{Exchange, HostRun}
use Rattle.oram_link_laws.proofs.Put.{serves_so}
use Rattle.oram_link_laws.proofs.Same.{look_past}
use Rattle.oram_rounds.specs.Batches.{BatchOutcome}
use Rattle.oram_rounds.specs.CatchUp.{PlainRun}
use Rattle.oram_rounds.proofs.KeptPaths.{serves_fetch}
use Rattle.oram_client.specs.AnswerLengths.{longest_answer}
use Rattle.oram_client.specs.OneHost.{AnswersFirst, Bytes, LeadToOneHost, LeadsToHost, NeverFails, OpensNext, PausesBetween, ReadsNoClock, TwoTriesExample, comes_over, done_frame, done_link, emptied, fresh, host_after, host_now, host_over, messages, ones, ones_host, path_frame, second_opened, this_disk, two_tries}
use Rattle.oram_client.specs.Reconnect.{GoesOnce, IsDelayed, ReconnectBatch, dialer_kind, first_pause}
use Rattle.oram_client.specs.StreamBatches.{StreamBatch, connection}
use Rattle.oram_client.specs.Attempts.{Attempt, Plainly, attempt_for}
use Rattle.oram_client.specs.declared.dialer.Limits.{Limits}
use Rattle.oram_client.specs.declared.dialer.Trouble.{Trouble}
use Rattle.oram_client.specs.declared.dialer.Trouble.TheVariants.{OutOfReach}
use Rattle.oram_client.proofs.OneHostTries.{plain_run}
use Rattle.oram_client.proofs.Reached.{stream_batches_reach_the_host}

-- the host's only tree, whose only record is this
abbrev kept_with : List ℕ → Kept
kept_with bytes = record { depth = 0; record_len = 88; records = (0, bytes) ∷ [] }

abbrev host_with : List ℕ → Host
host_with bytes = (0, kept_with bytes) ∷ []

ones_at : record_of (kept_with ones) (node_on 0 0 0) ≡ Some (record_at 88 ones 0)
unfolding node_on
ones_at = refl

on_path : (level : ℕ) → level ≤ 0 → record_of (kept_with ones) (node_on 0 0 level) ≡ Some (record_at 88 ones level)
on_path level low =
    let none : 0 ≡ level = omega (arith, low) in
    let P : ℕ → Type 0 = λ k. record_of (kept_with ones) (node_on 0 0 k) ≡ Some (record_at 88 ones k) in subst P none ones_at

root : node_on 0 0 0 ≡ 0
unfolding node_on
root = refl

off_path : (bytes : List ℕ) (node : ℕ) → ((level : ℕ) → level ≤ 0 → node ≢ node_on 0 0 level) → record_of (kept_with ones) node ≡ record_of (kept_with bytes) node
off_path bytes node off =
    let new : ℕ × List ℕ = (0, ones) in
    let old : ℕ × List ℕ = (0, bytes) in
    let apart : 0 ≢ node = λ e. off 0 (omega arith) (sym e ∙ sym root) in
    look_past node new [] apart ∙ sym (look_past node old [] apart)

other_tree : (bytes : List ℕ) (other : ℕ) → other ≢ 0 → tree_at ones_host other ≡ tree_at (host_with bytes) other
other_tree bytes other apart =
    let new : ℕ × Kept = (0, kept_with ones) in
    let old : ℕ × Kept = (0, kept_with bytes) in
    look_past other new [] (λ e. apart (sym e)) ∙ sym (look_past other old [] (λ e. apart (sym e)))

stored : (bytes : List ℕ) → IsStored (host_with bytes) 0 0 ones ones_host
stored bytes = record {
  kept = kept_with bytes;
  stored = kept_with ones;
  shaped = refl;
  stores = record {
    depth = refl;
    record_len = refl;
    leaf_in = omega arith;
    path = record { whole = refl; each = on_path };
    others = off_path bytes;
  };
  keeps = record { here = refl; others = other_tree bytes };
}

abbrev is_store : IsStore (store_body 0 0 ones)
is_store = record { tree = 0; leaf = 0; records = ones; fits = omega arith; named = refl }

store_served : (bytes : List ℕ) → Serves (host_with bytes) (store_body 0 0 ones) Done ones_host
store_served bytes = serves_so (host_with bytes) ones_host (store_body 0 0 ones) is_store (stored bytes)

fetched : IsFetched ones_host 0 0 ones
fetched = record { kept = kept_with ones; shaped = refl; leaf_in = omega arith; path = record { whole = refl; each = on_path } }

fetch_served : Serves ones_host (fetch_body 0 0) (Payload ones) ones_host
fetch_served = serves_fetch ones_host ones_host 0 0 (Payload ones) (omega arith) (fetched, refl)

-- what comes over the connections

given : (bytes : List ℕ) → AnswersFirst (host_with bytes) messages (done_frame ++ (path_frame ++ [])) ones_host
given bytes = inr (
  Done,
  ones_host,
  path_frame ++ [],
  tt,
  lit≤ tt,
  store_served bytes,
  refl,
  inr (Payload ones, ones_host, [], omega arith, lit≤ tt, fetch_served, refl, (refl, refl)),
)

leads : (count : ℕ) → LeadsToHost (host_after count) messages (comes_over count) (host_after (suc count))
leads zero = record { answers = done_frame ++ (path_frame ++ []); given = given _; lost = path_frame; come = refl }
leads (suc zero) = record { answers = done_frame ++ (path_frame ++ []); given = given ones; lost = []; come = refl }
leads (suc (suc count)) = record { answers = []; given = inl (refl, refl); lost = []; come = refl }

spent : (host : Host) → LeadsToHost host messages [] host
spent host = record { answers = []; given = inl (refl, refl); lost = []; come = refl }

-- the host to which a connection leads

first_bytes : (count : ℕ) (byte : ℕ) (unread : List ℕ) → byte ∷ unread ≡ comes_over count → host_over count false (byte ∷ unread) ≡ Some (host_after count)
first_bytes count byte unread same =
    let test : bytes_eq (byte ∷ unread) (comes_over count) ≡ true = (bytes_eq-Decides (byte ∷ unread) (comes_over count)).1 same in
    ap (λ (b : Bool). let to : Option Host = Some (host_after count) in if b then to else None) test

opened_over : (count : ℕ) → host_over count false (comes_over count) ≡ Some (host_after count)
opened_over zero = first_bytes zero _ _ refl
opened_over (suc zero) = first_bytes (suc zero) _ _ refl
opened_over (suc (suc count)) = refl

some_host : (a b : Host) → (let one : Option Host = Some a in one) ≡ Some b → a ≡ b
some_host a b e = cc

-- what comes over an open connection is what the host sends
over_bytes : (count byte : ℕ) (unread : List ℕ) (test : Bool) (host : Host) → (test ≡ true → byte ∷ unread ≡ comes_over count)
    → (let to : Option Host = Some (host_after count) in if test then to else None) ≡ Some host
    → LeadsToHost host messages (byte ∷ unread) (host_after (suc count))
over_bytes count byte unread true host same e =
    subst (λ (h : Host). LeadsToHost h messages (byte ∷ unread) (host_after (suc count))) (some_host (host_after count) host e)
    (subst (λ (bytes : List ℕ). LeadsToHost (host_after count) messages bytes (host_after (suc count))) (sym (same refl)) (leads count))
over_bytes count byte unread false host same e = absurd cc

over_leads : (count : ℕ) (closed : Bool) (unread : List ℕ) (host : Host) → host_over count closed unread ≡ Some host
    → (closed ≡ false) × LeadsToHost host messages unread (host_after (suc count))
over_leads count true unread host e = absurd cc
over_leads count false [] host e =
    (refl, subst (λ (h : Host). LeadsToHost h messages [] (host_after (suc count))) (some_host (host_after (suc count)) host e) (spent (host_after (suc count))))
over_leads count false (byte ∷ unread) host e =
    (refl, over_bytes count byte unread (bytes_eq (byte ∷ unread) (comes_over count)) host (λ test. (bytes_eq-Decides (byte ∷ unread) (comes_over count)).0 test) e)

-- a batch over it
abbrev over : (count : ℕ) (line way : Bytes) (o : BatchOutcome) (exchanges : List Exchange) (host : Host) → host_over count line.closed line.reader ≡ Some host
    → StreamBatch known known line messages o exchanges way → HostRun host exchanges (host_after (suc count)) × (is_ok o ≡ true → known way.reader ≡ Some [])
over count line way o exchanges host e batch =
    let there = over_leads count line.closed line.reader host e in
    stream_batches_reach_the_host known known line way messages o exchanges host (host_after (suc count)) line.reader there.0 refl there.1 batch

-- afterwards the connection is open and gave all of its bytes
emptied_over : (count : ℕ) (closed : Bool) (unread : List ℕ) → closed ≡ false → known unread ≡ Some [] → host_over count closed unread ≡ Some (host_after (suc count))
emptied_over count closed unread unclosed all =
    let none : unread ≡ [] = ap (λ (o : Option (List ℕ)). unwrap_or o []) all in
    ap (λ (b : Bool). host_over count b unread) unclosed ∙ ap (λ (l : List ℕ). host_over count false l) none

-- what the outcome of a batch was, by the attempt that it came to
plain_ok : (o : BatchOutcome) (answers : List (List ℕ)) → (let came : Attempt = Ok answers in came) ≡ attempt_for o → o ≡ Ok answers
plain_ok (Ok others) answers e = cc
plain_ok (Err fault) answers e = cc

plain_err : (o : BatchOutcome) (trouble : Trouble) → (let came : Attempt = Err trouble in came) ≡ attempt_for o → (fault : LinkFault) × (o ≡ Err fault)
plain_err (Ok others) trouble e = absurd cc
plain_err (Err fault) trouble e = (fault, refl)

module _ (may_lie : Bool) where
  answered_over : (count : ℕ) (line way : Bytes) (answers : List (List ℕ)) (exchanges : List Exchange) (host : Host) → host_now count (Some line) ≡ Some host
      → StreamBatch known known line messages (Ok answers) exchanges way
      → (after : Host) × PlainRun may_lie one_block host exchanges after × (host_now count (Some way) ≡ Some after)
  answered_over zero line way answers exchanges host e batch = absurd cc
  answered_over (suc count) line way answers exchanges host e batch =
      let there = over_leads count line.closed line.reader host e in
      let run = over count line way (Ok answers) exchanges host e batch in
      let unclosed : way.closed ≡ false = batch.closed ∙ ap (λ (b : Bool). b || false) there.0 in (
        host_after (suc count),
        plain_run may_lie one_block exchanges host (host_after (suc count)) run.0,
        emptied_over count way.closed way.reader unclosed (run.1 refl),
      )

  broken_off : (count : ℕ) (line way : Bytes) (fault : LinkFault) (exchanges : List Exchange) (host : Host) → host_now count (Some line) ≡ Some host
      → StreamBatch known known line messages (Err fault) exchanges way
      → (after : Host) × PlainRun may_lie one_block host exchanges after × (host_now count None ≡ Some after)
  broken_off zero line way fault exchanges host e batch = absurd cc
  broken_off (suc count) line way fault exchanges host e batch =
      let run = over count line way (Err fault) exchanges host e batch in
      (host_after (suc count), plain_run may_lie one_block exchanges host (host_after (suc count)) run.0, refl)

  answered_plainly : (count more : ℕ) (line way : Bytes) (answers : List (List ℕ)) (exchanges : List Exchange) (host : Host) → host_now count (Some line) ≡ Some host
      → Plainly (StreamBatch known known) count line messages (Ok answers) exchanges more way
      → (after : Host) × PlainRun may_lie one_block host exchanges after × (host_now more (Some way) ≡ Some after)
  answered_plainly count more line way answers exchanges host e (o, called, came, same) =
      let done = answered_over count line way answers exchanges host e (subst (λ (k : BatchOutcome). StreamBatch known known line messages k exchanges way) (plain_ok o answers came) called) in
      (done.0, done.1, ap (λ (n : ℕ). host_now n (Some way)) same ∙ done.2)

  broken_plainly : (count more : ℕ) (line way : Bytes) (trouble : Trouble) (exchanges : List Exchange) (host : Host) → host_now count (Some line) ≡ Some host
      → Plainly (StreamBatch known known) count line messages (Err trouble) exchanges more way
      → (after : Host) × PlainRun may_lie one_block host exchanges after × (host_now more None ≡ Some after)
  broken_plainly count more line way trouble exchanges host e (o, called, came, same) =
      let fault = plain_err o trouble came in
      let done = broken_off count line way fault.0 exchanges host e (subst (λ (k : BatchOutcome). StreamBatch known known line messages k exchanges way) fault.1 called) in
      (done.0, done.1, ap (λ (n : ℕ). host_now n None) same ∙ done.2)

  opened : (count more : ℕ) (limits : Limits) (line : Bytes) (host : Host) → host_now count None ≡ Some host → OpensNext count limits line more → host_now more (Some line) ≡ Some host
  opened count more limits line host e opens =
      ap (λ (n : ℕ). host_now n (Some line)) opens.1 ∙ ap (λ (l : Bytes). host_over count l.closed l.reader) opens.0 ∙ opened_over count ∙ e

  one_host : LeadToOneHost (dialer_kind OpensNext NeverFails PausesBetween ReadsNoClock (Plainly (StreamBatch known known))) may_lie one_block messages host_now
  one_host = record {
    opened = opened;
    unopened = λ d e limits trouble host is failed. absurd failed;
    answered_over = answered_plainly;
    broken_off = broken_plainly;
    paused = λ d e line milliseconds host is same. ap (λ (n : ℕ). host_now n line) same ∙ is;
    clock_read = λ d e line now host is read. ap (λ (n : ℕ). host_now n line) read.1 ∙ is;
  }

-- the two batches

abbrev sent : List ℕ
sent = frame (store_body 0 0 ones) ++ frame (fetch_body 0 0)

abbrev first_line : Bytes
first_line = connection done_frame [] this_disk

abbrev second_line : Bytes
second_line = connection (done_frame ++ path_frame) [] this_disk

abbrev first_done : Bytes
first_done = record { reader = []; writer = sent; disk = this_disk; closed = true; due = record { unsent = []; left = 0 } }

abbrev first_exchanges : List Exchange
first_exchanges = (store_body 0 0 ones, Ok done_answer) ∷ (fetch_body 0 0, Err Closed) ∷ []

abbrev second_exchanges : List Exchange
second_exchanges = (store_body 0 0 ones, Ok done_answer) ∷ (fetch_body 0 0, Ok (payload_answer ones)) ∷ []

two_fit : (a b : List ℕ) → IsBody a → IsBody b → All IsBody (a ∷ b ∷ [])
two_fit a b one two = All-cons IsBody a (b ∷ []) one (All-cons IsBody b [] two (All-nil IsBody))

path_within : length (payload_answer ones) ≤ longest_answer this_disk (fetch_body 0 0)
unfolding record_len_of trees_of blocks_in level_for least_from
path_within = lit≤ tt

first_batch : StreamBatch known known first_line messages (Err Closed) first_exchanges first_done
first_batch = record {
  closed = refl;
  disk = refl;
  carried = (
    done_answer ∷ [],
    refl,
    inr (record {
      unsent = [];
      sends = record { fit = two_fit (store_body 0 0 ones) (fetch_body 0 0) (lit≤ tt) (lit≤ tt); wrote = (sent, refl, refl) };
      stops = record {
        first = store_body 0 0 ones ∷ [];
        next = fetch_body 0 0;
        others = [];
        all = refl;
        mid = Some [];
        received = record { count = refl; read = (All-cons IsBody done_answer [] (lit≤ tt) (All-nil IsBody), refl); within = (lit≤ tt, tt) };
        stop = inl (inl (refl, refl));
      };
    }),
  );
}

second_batch : StreamBatch known known second_line messages (Ok (done_answer ∷ payload_answer ones ∷ [])) second_exchanges emptied
second_batch = record {
  closed = refl;
  disk = refl;
  carried = (
    record {
      sent = record { fit = two_fit (store_body 0 0 ones) (fetch_body 0 0) (lit≤ tt) (lit≤ tt); wrote = refl };
      received = record { count = refl; read = (two_fit done_answer (payload_answer ones) (lit≤ tt) (lit≤ tt), refl); within = (lit≤ tt, (path_within, tt)) };
    },
    refl,
  );
}

first_try : IsDelayed (dialer_kind OpensNext NeverFails PausesBetween ReadsNoClock (Plainly (StreamBatch known known))) 1000 None messages
    (record { dialer = 0; line = None; pause = first_pause; left = 1000 })
    (record { trouble = OutOfReach Closed; exchanges = first_exchanges })
    (record { dialer = 1; line = None; pause = 200; left = 900 })
first_try = record {
  came = Err (OutOfReach Closed);
  mid = 1;
  tried = inr (record {
    mid = 1;
    way = first_line;
    had = (refl, refl);
    way' = first_done;
    called = (Err Closed, first_batch, refl, refl);
    after = refl;
  });
  shows = (refl, refl);
  paused = record {
    now = None;
    mid = 1;
    read = (refl, refl);
    more = lit< tt;
    paused = refl;
    next = refl;
    less = refl;
  };
}

not_full : IsAmong (129 ∷ 8 ∷ []) (done_answer ∷ payload_answer ones ∷ []) → ⊥
not_full (inl e) = cc
not_full (inr (inl e)) = cc
not_full (inr (inr none)) = none

batch : ReconnectBatch (dialer_kind OpensNext NeverFails PausesBetween ReadsNoClock (Plainly (StreamBatch known known))) fresh messages (Ok (done_answer ∷ payload_answer ones ∷ [])) two_tries done_link
batch = record {
  passed = record {
    begin = None;
    first = 0;
    read = (refl, refl);
    vain = record { trouble = OutOfReach Closed; exchanges = first_exchanges } ∷ [];
    last = record { dialer = 1; line = None; pause = 200; left = 900 };
    delays = (record { dialer = 1; line = None; pause = 200; left = 900 }, first_try, refl);
    came = Ok (done_answer ∷ payload_answer ones ∷ []);
    heard = second_exchanges;
    mid = 2;
    tried = inr (record {
      mid = 2;
      way = second_line;
      had = (refl, refl);
      way' = emptied;
      called = (Ok (done_answer ∷ payload_answer ones ∷ []), second_batch, refl, refl);
      after = refl;
    });
    shows = not_full;
    ends = refl;
    says = refl;
    all = refl;
  };
  reconnect_timeout = refl;
}

once : GoesOnce (dialer_kind OpensNext NeverFails PausesBetween ReadsNoClock (Plainly (StreamBatch known known))) second_opened messages (Ok (done_answer ∷ payload_answer ones ∷ [])) second_exchanges done_link
once = record {
  going = refl;
  line = second_line;
  was_open = refl;
  came = Ok (done_answer ∷ payload_answer ones ∷ []);
  line' = emptied;
  called = (Ok (done_answer ∷ payload_answer ones ∷ []), second_batch, refl, refl);
  after = refl;
  says = refl;
  still_going = refl;
  reconnect_timeout = refl;
}

honest_store : (bytes : List ℕ) → IsHonestCall (host_with bytes) (store_body 0 0 ones) (Ok done_answer) ones_host
honest_store bytes = (Done, tt, refl, store_served bytes)

honest_fetch : IsHonestCall ones_host (fetch_body 0 0) (Ok (payload_answer ones)) ones_host
honest_fetch = (Payload ones, omega arith, refl, fetch_served)

pub two_tries_example : TwoTriesExample
two_tries_example = (
  one_host,
  refl,
  batch,
  (ones_host, honest_store _, (ones_host, inl refl, (ones_host, honest_store ones, (ones_host, honest_fetch, refl)))),
  (Done, ones_host, path_frame, tt, lit≤ tt, store_served ones, refl, (Payload ones, ones_host, [], omega arith, lit≤ tt, fetch_served, refl, tt)),
  leads 0,
  refl,
  once,
  (ones_host, honest_store ones, (ones_host, honest_fetch, refl)),
)
