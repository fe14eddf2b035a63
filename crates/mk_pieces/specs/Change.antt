-- How the code changes words.
use Rattle.std.specs.Prelude.{◌≡◌, ℕ, false, ⊤, List, Option, position}
use Rattle.mk_pieces.specs.Letters.{recased}
use Rattle.mk_pieces.specs.Substitution.{substituted, suffixed, is_percent}
use Rattle.mk_pieces.specs.declared.replace.Change.{Change}
use Rattle.mk_pieces.specs.declared.replace.Change.TheVariants.{Subst, Suffix, Case}

-- what a word becomes, and nothing where it stays
abbrev pub changed_word : Change → List ℕ → Option (List ℕ)
changed_word (Subst from to at_start at_end all) word =
    substituted from.now to.now at_start at_end all word
changed_word (Suffix from to) word = suffixed from.now to.now word
changed_word (Case small) word = recased small word

-- What is found out of a change once, for all words: the text that is searched for, where it may
-- stand anywhere, and the first `%` of the end of a word.
abbrev pub IsSearchFor : Change → List ℕ → Option ℕ → Type 0
IsSearchFor (Subst from to at_start at_end all) text percent =
    at_start ≡ false → at_end ≡ false → text ≡ from.now
IsSearchFor (Suffix from to) text percent = percent ≡ position is_percent from.now
IsSearchFor (Case small) text percent = ⊤
