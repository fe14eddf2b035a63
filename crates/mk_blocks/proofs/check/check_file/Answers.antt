use Rattle.std.proofs.Common.{◌≡◌, ◌⊎◌, inl, inr, ℕ, List, Ok, Err, refl, sym, ◌∙◌}
use Rattle.std.proofs.lemmas.Result.{err_from_is_err_and}
use Rattle.mk_lines.specs.Faults.{checked}
use Rattle.mk_lines.specs.declared.fault.LineFault.{LineFault}
use Rattle.mk_lines.specs.declared.fault.LineFault.TheVariants as of_line
use Rattle.mk_blocks.specs.FileFaults.{file_checked, line_fault}
use Rattle.mk_blocks.specs.Outcomes.{Outcome, silent}
use Rattle.mk_blocks.specs.Ties.{Does, Ties, sorted}
use Rattle.mk_blocks.specs.declared.fault.FileFault.{FileFault}
use Rattle.mk_blocks.specs.declared.fault.FileFault.TheVariants.{Bad, NoMemory}
use Rattle.mk_blocks.specs.declared.fault.LanguageFault.TheVariants.{Wrong}
use Rattle.mk_blocks.specs.declared.fault.Wrong.TheVariants as wrong
use Rattle.mk_blocks.proofs.TieLemmas.{Does-here, Does-refuse, Does-want}
use Rattle.mk_blocks.proofs.check.check_file.Goals as goal

-- the fault of a line, which may be that memory ran out
line-refused : {X W F A : Type 0} (ties : Ties X W F) (x : X) (name text : List ℕ)
    (fault : LineFault) (found : FileFault W F)
    {rest : ties.Answers → A → Outcome (Unit {0}) (FileFault W F)} → checked text ≡ Err fault
    → (found ≡ NoMemory) ⊎ (found ≡ line_fault name fault)
    → Does ties sorted x x rest (Err found) (λ answers. silent (file_checked ties.kind name text))
line-refused ties x name text fault found is (inl want) =
    rw want (Does-want ties sorted x NoMemory _ refl)
line-refused ties x name text (of_line.TooLong number) found is (inr at) =
    let own = Bad name number wrong.TooLong in
    rw (at, is) (Does-refuse ties sorted x own own _ refl (λ answers. refl))
line-refused ties x name text (of_line.Zero number) found is (inr at) =
    let own = Bad name number wrong.Zero in
    rw (at, is) (Does-refuse ties sorted x own own _ refl (λ answers. refl))
line-refused ties x name text of_line.NoMemory found is (inr at) =
    rw at (Does-want ties sorted x NoMemory _ refl)

-- a line out of its place, where memory may run out
block-refused : {X W F A : Type 0} (ties : Ties X W F) (x : X) (own found : FileFault W F)
    {rest : ties.Answers → A → Outcome (Unit {0}) (FileFault W F)}
    (defined : ties.Answers → Outcome (Unit {0}) (FileFault W F)) → sorted own ≡ Wrong own
    → ((answers : ties.Answers) → defined answers ≡ silent (Err own))
    → (found ≡ NoMemory) ⊎ (found ≡ own) → Does ties sorted x x rest (Err found) defined
block-refused ties x own found defined sort is (inl want) =
    rw want (Does-want ties sorted x NoMemory _ refl)
block-refused ties x own found defined sort is (inr at) =
    rw at (Does-refuse ties sorted x own own _ sort is)

pub returns-in-Err : goal.returns-in-Err
returns-in-Err g c =
    line-refused g.L.Language.ties c.args.language.now c.args.name.now c.args.text.now
    c.in-Err.fault c.line_fault.result (sym c.check.ensures ∙ c.in-Err.is) c.line_fault.ensures

pub returns-in_err-number : goal.returns-in_err-number
returns-in_err-number g c =
    let p = err_from_is_err_and c.from_residual.result c.from_residual.ensures.1 in
    rw (p.1, p.2) (Does-want g.L.Language.ties sorted _ _ _ refl)

pub returns-in-Some : goal.returns-in-Some
returns-in-Some g c =
    let lines : checked c.args.text.now ≡ Ok tt = sym c.check.ensures ∙ c.in_default.is in
    let blocks = rw c.in-Some.is at c.in_ok-number.ensures in
    block-refused g.L.Language.ties c.args.language.now
    (Bad c.args.name.now c.in-Some.number (wrong.Block c.in-Some.fault)) c.misplaced.result _ refl
    (λ answers. rw (lines, blocks) refl) c.misplaced.ensures

pub returns : goal.returns
returns g c =
    let lines : checked c.args.text.now ≡ Ok tt = sym c.check.ensures ∙ c.in_default.is in
    let blocks = rw c.in_default-2.is at c.in_ok-number.ensures in
    Does-here g.L.Language.ties sorted c.args.language.now tt _ (λ answers. rw (lines, blocks) refl)
