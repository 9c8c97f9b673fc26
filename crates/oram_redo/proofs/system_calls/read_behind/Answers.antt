use Rattle.std.proofs.Common.{◌≡◌, ℕ, ◌+◌, ◌-◌, length, drop, ◌∙◌, ap, arith}
use Rattle.std.proofs.lemmas.List.{length-take, length-drop}
use Rattle.oram_redo.specs.Calls.{calls_of}
use Rattle.oram_redo.specs.Content.{bytes_at}
use Rattle.oram_redo.specs.System.{seen_after}
use Rattle.oram_redo.proofs.SystemReads.{grown, kept_front}
use Rattle.oram_redo.proofs.Touched.{touched_none}
use Rattle.oram_redo.proofs.system_calls.read_behind.Goals as goal

pub returns-in_default-clause-nothing : goal.returns-in_default-clause-nothing
returns-in_default-clause-nothing c first file at n = touched_none first file at n (calls_of c.args.files.now)

pub returns-in_err-resize-clause-nothing : goal.returns-in_err-resize-clause-nothing
returns-in_err-resize-clause-nothing c first file at n = touched_none first file at n (calls_of c.args.files.now)

pub returns-clause-bytes : goal.returns-clause-bytes
returns-clause-bytes c first =
    let start = c.len-start.result in
    let whole = c.deref_mut.result.now in
    let place : c.in-Some.end ≡ start + c.args.len = c.in-Some.ensures.1 in
    let wide : length whole ≡ start + c.args.len = c.deref_mut.ensures.len ∙ c.in_ok-resize.ensures.len ∙ place in
    let long : length c.fill.new.bytes ≡ c.args.len = omega (arith, wide, c.fill.auto.bytes, length-take (length whole - start) (drop start whole), length-drop start whole) in
    let here : start ≡ length c.args.bytes.now.items = search in
    record {
      read = c.fill.new.bytes;
      long = long;
      grown = grown c.args.bytes.now.items whole c.fill.new.bytes _ start c.resize.new.self.len here
          (kept_front c.args.bytes.now.items whole _ start c.in-Some.end here (omega (arith, place)) (c.deref_mut.ensures.value ∙ c.in_ok-resize.ensures.items)) (omega (arith, wide)) (omega (arith, wide, long, c.deref_mut.ensures.len));
      is = λ h. c.in_ok-fill.ensures.bytes first h ∙ ap (λ (n : ℕ). bytes_at n c.args.at (seen_after first (calls_of c.args.files.now) c.args.file)) long;
    }
