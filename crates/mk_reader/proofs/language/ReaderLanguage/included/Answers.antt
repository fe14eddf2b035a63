use Rattle.mk_reader.proofs.language.ReaderLanguage.included.Goals as goal

pub returns-in-Err : goal.returns-in-Err
returns-in-Err g c =
    rw c.language_fault.ensures
    (record { leads = c.in-Err.ensures.leads; gives = c.in-Err.ensures.gives })
