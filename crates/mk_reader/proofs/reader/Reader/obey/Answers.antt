use Rattle.std.proofs.Common.{refl}
use Rattle.mk_reader.proofs.StepLemmas.{here-given}
use Rattle.mk_reader.proofs.reader.Reader.obey.Goals as goal

pub returns-in-Undef : goal.returns-in-Undef
returns-in-Undef g c =
    rw c.in-Undef.is c.undefine.ensures

pub returns-in-Error : goal.returns-in-Error
returns-in-Error g c =
    rw c.in-Error.is c.stop.ensures

pub returns-in-Warning : goal.returns-in-Warning
returns-in-Warning g c =
    rw c.in-Warning.is c.inform.ensures

pub returns-in-Info : goal.returns-in-Info
returns-in-Info g c =
    rw c.in-Info.is c.inform-in-Info.ensures

pub returns-in-Export : goal.returns-in-Export
returns-in-Export g c =
    rw c.in-Export.is c.export.ensures

pub returns-in-Unexport : goal.returns-in-Unexport
returns-in-Unexport g c =
    rw c.in-Unexport.is c.unexport.ensures

pub returns-in-If : goal.returns-in-If
returns-in-If g c =
    here-given _ _ _ _ _ (λ answers. rw c.in-If.is refl)

pub returns-in-ElseIf : goal.returns-in-ElseIf
returns-in-ElseIf g c =
    here-given _ _ _ _ _ (λ answers. rw c.in-ElseIf.is refl)

pub returns-in-Else : goal.returns-in-Else
returns-in-Else g c =
    here-given _ _ _ _ _ (λ answers. rw c.in-Else.is refl)

pub returns-in-EndIf : goal.returns-in-EndIf
returns-in-EndIf g c =
    here-given _ _ _ _ _ (λ answers. rw c.in-EndIf.is refl)

pub returns-in-For : goal.returns-in-For
returns-in-For g c =
    here-given _ _ _ _ _ (λ answers. rw c.in-For.is refl)

pub returns-in-EndFor : goal.returns-in-EndFor
returns-in-EndFor g c =
    here-given _ _ _ _ _ (λ answers. rw c.in-EndFor.is refl)

pub returns-in-Break : goal.returns-in-Break
returns-in-Break g c =
    here-given _ _ _ _ _ (λ answers. rw c.in-Break.is refl)

pub returns-in-Include : goal.returns-in-Include
returns-in-Include g c =
    here-given _ _ _ _ _ (λ answers. rw c.in-Include.is refl)

pub returns-in-TryInclude : goal.returns-in-TryInclude
returns-in-TryInclude g c =
    here-given _ _ _ _ _ (λ answers. rw c.in-TryInclude.is refl)
