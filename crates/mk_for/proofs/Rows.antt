-- Rows that the definitions compute.
use Rattle.std.proofs.Common.{◌≡◌, [], ◌∷◌, Ok, Err, refl, codes}
use Rattle.mk_for.specs.Substitution.{replaced, replaced_behind}
use Rattle.mk_for.specs.Turns.{unrolled}
use Rattle.mk_for.specs.declared.unrolling.ForFault.TheVariants.{Count}

-- a reference, and a `$$` before the name
name_and_dollars : unrolled
    (record { first = 7; text = codes "X${i}=$$i" } ∷ []) (codes "i" ∷ []) (codes "1" ∷ [])
    ≡ Ok ((record { first = 7; text = codes "X${:U1}=$$i" } ∷ []) ∷ [])
unfolding replaced_behind
name_and_dollars = refl

-- each form quotes the bracket that would end it
quoted_words : replaced (codes "i" ∷ []) (codes "a:}$)\\" ∷ []) (codes "$i ${i:T} $(i)")
    ≡ codes "${:Ua\\:\\}\\$)\\\\} ${:Ua\\:\\}\\$)\\\\:T} $(:Ua\\:}\\$\\)\\\\)"
unfolding replaced_behind
quoted_words = refl

-- no part of a longer name, and no short form of a long name, is replaced
other_text : replaced (codes "ab" ∷ []) (codes "1" ∷ [])
    (codes "$ab ${abc} ${ab $(ab} ${ab:S/$(ab)//}")
    ≡ codes "$ab ${abc} ${ab $(ab} ${:U1:S/$(:U1)//}"
unfolding replaced_behind
other_text = refl

two_turns : unrolled
    (record { first = 3; text = codes "$a$b" } ∷ []) (codes "a" ∷ codes "b" ∷ [])
    (codes "1" ∷ codes "2" ∷ codes "3" ∷ codes "4" ∷ [])
    ≡ Ok ((record { first = 3; text = codes "${:U1}${:U2}" } ∷ [])
    ∷ (record { first = 3; text = codes "${:U3}${:U4}" } ∷ []) ∷ [])
unfolding replaced_behind
two_turns = refl

a_word_is_left_over : unrolled [] (codes "a" ∷ codes "b" ∷ [])
    (codes "1" ∷ codes "2" ∷ codes "3" ∷ []) ≡ Err (Count 3 2)
a_word_is_left_over = refl
