use Rattle.mk_mods.proofs.chain.replaced_or_picked.Goals as goal

pub returns-in-Subst-clause-shown : goal.returns-in-Subst-clause-shown
returns-in-Subst-clause-shown c =
    rw (c.in-Subst.is, ← c.bytes.ensures.value, ← c.bytes-in-Subst.ensures.value, ← c.as_slice.ensures.value)
    c.change_words.ensures.words

pub returns-in-Subst-clause-long : goal.returns-in-Subst-clause-long
returns-in-Subst-clause-long c =
    rw (c.in-Subst.is, ← c.bytes.ensures.value, ← c.bytes-in-Subst.ensures.value, ← c.as_slice.ensures.value)
    c.change_words.ensures.long

pub returns-in-Suffix-clause-shown : goal.returns-in-Suffix-clause-shown
returns-in-Suffix-clause-shown c =
    rw (c.in-Suffix.is, ← c.bytes-in-Suffix.ensures.value, ← c.bytes-in-Suffix-2.ensures.value, ← c.as_slice-in-Suffix.ensures.value)
    c.change_words-in-Suffix.ensures.words

pub returns-in-Suffix-clause-long : goal.returns-in-Suffix-clause-long
returns-in-Suffix-clause-long c =
    rw (c.in-Suffix.is, ← c.bytes-in-Suffix.ensures.value, ← c.bytes-in-Suffix-2.ensures.value, ← c.as_slice-in-Suffix.ensures.value)
    c.change_words-in-Suffix.ensures.long
