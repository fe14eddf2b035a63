use Rattle.std.proofs.Common.{◌≡◌, ℕ, Option, Some, None, Result, Ok, Err, IfOk, IfSome, List, sym}
use Rattle.std.proofs.Common.{◌∙◌, ap}
use Rattle.mk_bytes.specs.declared.fault.NoMemory.{NoMemory}
use Rattle.mk_world.specs.declared.step.Op.{Op}
use Rattle.mk_filemon.specs.declared.record.Rec.{Rec}
use Rattle.mk_filemon.specs.Records.{IsLine, record_text, record_in}
use Rattle.mk_filemon.proofs.RecordLemmas.{record_in-again, record_in-written}
use Rattle.mk_filemon.proofs.record.read_op.Goals as goal

written : (text : List ℕ) (found : Option Rec) → found ≡ record_in text
    → IfSome found (λ one. IsLine one.line × (text ≡ record_text one.line one.op))
written text None is = tt
written text (Some one) is = record_in-written text one (sym is)

all_written : (text : List ℕ) (result : Result (Option Rec) NoMemory)
    → IfOk result (λ found. found ≡ record_in text)
    → IfOk result (λ found. IfSome found (λ one. IsLine one.line ×
    (text ≡ record_text one.line one.op)))
all_written text (Ok found) is = written text found is
all_written text (Err fault) is = tt

again : (text : List ℕ) (line : ℕ) (op : Op) (result : Result (Option Rec) NoMemory)
    → IfOk result (λ found. found ≡ record_in text) → IsLine line → text ≡ record_text line op
    → IfOk result (λ found. found ≡ Some (record { line = line; op = op }))
again text line op (Ok found) is lawful same =
    is ∙ ap record_in same ∙ record_in-again line op lawful
again text line op (Err fault) is lawful same = tt

pub returns-clause-found : goal.returns-clause-found
returns-clause-found c = all_written c.args.text.now c.read_record.result c.read_record.ensures

pub returns-clause-only : goal.returns-clause-only
returns-clause-only c = λ line op lawful same.
    again c.args.text.now line op c.read_record.result c.read_record.ensures lawful same
