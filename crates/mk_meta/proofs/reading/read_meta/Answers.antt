use Rattle.std.proofs.Common.{◌≡◌, Option, Some, None, Result, Ok, Err, IfOk, IfSome, List, ℕ, sym}
use Rattle.std.proofs.Common.{◌∙◌, ap}
use Rattle.mk_bytes.specs.declared.fault.NoMemory.{NoMemory}
use Rattle.mk_meta.specs.Lawful.{IsLawful}
use Rattle.mk_meta.specs.Reading.{meta_in}
use Rattle.mk_meta.specs.Texts.{meta_text}
use Rattle.mk_meta.specs.declared.meta.Meta.{Meta}
use Rattle.mk_meta.proofs.MetaLemmas.{meta_in-again, meta_in-written}
use Rattle.mk_meta.proofs.reading.read_meta.Goals as goal

written : (text : List ℕ) (found : Option Meta) → found ≡ meta_in text
    → IfSome found (λ meta. IsLawful meta × (text ≡ meta_text meta))
written text None is = tt
written text (Some meta) is = meta_in-written text meta (sym is)

all_written : (text : List ℕ) (result : Result (Option Meta) NoMemory)
    → IfOk result (λ found. found ≡ meta_in text)
    → IfOk result (λ found. IfSome found (λ meta. IsLawful meta × (text ≡ meta_text meta)))
all_written text (Ok found) is = written text found is
all_written text (Err fault) is = tt

again : (text : List ℕ) (meta : Meta) (result : Result (Option Meta) NoMemory)
    → IfOk result (λ found. found ≡ meta_in text) → IsLawful meta → text ≡ meta_text meta
    → IfOk result (λ found. found ≡ Some meta)
again text meta (Ok found) is lawful same = is ∙ ap meta_in same ∙ meta_in-again meta lawful
again text meta (Err fault) is lawful same = tt

pub returns-clause-found : goal.returns-clause-found
returns-clause-found c = all_written c.args.text.now c.read_whole.result c.read_whole.ensures

pub returns-clause-only : goal.returns-clause-only
returns-clause-only c = λ meta lawful same.
    again c.args.text.now meta c.read_whole.result c.read_whole.ensures lawful same
