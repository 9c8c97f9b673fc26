use Rattle.std.proofs.Common.{◌≡◌, ◌++◌, List, ℕ, Option, OnOk, IfErr, sym, ap, ◌∙◌, subst}
use Rattle.std.specs.Io.KnownBytes.{Appends}
use Rattle.oram_nbd.specs.Batches.{reply_if}
use Rattle.oram_nbd.specs.Messages.{reply_bytes, reply_head, reply_text}
use Rattle.oram_nbd.specs.Messages.SimpleReply.{Done}
use Rattle.oram_nbd.specs.Streams.{IsBegunText}
use Rattle.oram_nbd.specs.declared.faults.NbdError.{NbdError}
use Rattle.oram_nbd.specs.declared.faults.NbdFault.TheVariants.{Write}
use Rattle.oram_nbd.proofs.replies.put_reply.Goals as goal

-- the head, and then these bytes
text_is : (cookie : ℕ) (error o : Option NbdError) (bytes : List ℕ) (head : List ℕ) → error ≡ o → head ≡ reply_head cookie (reply_if error (Done bytes))
    → head ++ reply_bytes (reply_if o (Done bytes)) ≡ reply_text cookie (reply_if error (Done bytes))
text_is cookie error o bytes head is same =
    ap (λ (l : List ℕ). l ++ reply_bytes (reply_if o (Done bytes))) same ∙ ap (λ (x : Option NbdError). reply_head cookie (reply_if error (Done bytes)) ++ reply_bytes (reply_if x (Done bytes))) (sym is)

pub returns-in-None-clause-ok : goal.returns-in-None-clause-ok
returns-in-None-clause-ok g c =
    subst (λ (text : List ℕ). OnOk c.put.result (Appends (g.W.Write.contents c.args.writer.now) (g.W.Write.contents c.put.new.writer) text))
    (text_is c.args.cookie c.args.error _ c.args.bytes.now _ c.in-None.is (c.head_of-head.ensures c.args.bytes.now)) c.put.ensures.ok

pub returns-in-None-clause-err : goal.returns-in-None-clause-err
returns-in-None-clause-err g c =
    subst (λ (text : List ℕ). IfErr c.put.result (λ fault. (fault ≡ Write) × IsBegunText (g.W.Write.contents c.args.writer.now) (g.W.Write.contents c.put.new.writer) text))
    (text_is c.args.cookie c.args.error _ c.args.bytes.now _ c.in-None.is (c.head_of-head.ensures c.args.bytes.now)) c.put.ensures.err

pub returns-in-Some-clause-ok : goal.returns-in-Some-clause-ok
returns-in-Some-clause-ok g c =
    subst (λ (text : List ℕ). OnOk c.put-in-Some.result (Appends (g.W.Write.contents c.args.writer.now) (g.W.Write.contents c.put-in-Some.new.writer) text))
    (text_is c.args.cookie c.args.error _ c.args.bytes.now _ c.in-Some.is (c.head_of-head.ensures c.args.bytes.now)) c.put-in-Some.ensures.ok

pub returns-in-Some-clause-err : goal.returns-in-Some-clause-err
returns-in-Some-clause-err g c =
    subst (λ (text : List ℕ). IfErr c.put-in-Some.result (λ fault. (fault ≡ Write) × IsBegunText (g.W.Write.contents c.args.writer.now) (g.W.Write.contents c.put-in-Some.new.writer) text))
    (text_is c.args.cookie c.args.error _ c.args.bytes.now _ c.in-Some.is (c.head_of-head.ensures c.args.bytes.now)) c.put-in-Some.ensures.err
