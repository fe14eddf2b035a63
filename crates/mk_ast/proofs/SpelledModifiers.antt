-- The rows of the table of modifiers, read and spelled.
use Rattle.std.proofs.Common.{◌≡◌, ℕ, ◌+◌, ◌-◌, ◌==◌, Bool, true, false, List, [], ◌∷◌, ◌++◌}
use Rattle.std.proofs.Common.{length, take, drop, codes, Option, Some, None, Ok, Err, refl, sym, ap}
use Rattle.std.proofs.Common.{◌∙◌, arith, append_assoc}
use Rattle.std.proofs.lemmas.Bool.{cond_both, eqb-true}
use Rattle.std.proofs.lemmas.List.{take-append-drop}
use Rattle.std.proofs.Common.{subst as transport}
use Rattle.mk_bytes.specs.Bytes.{colon, equals_sign, at_sign, square_close}
use Rattle.mk_ast.specs.Tree.{Tree, Mod, subst, separator, select, choose, each, suffix}
use Rattle.mk_ast.specs.Spell.{closer, spell, spell_mod}
use Rattle.mk_ast.specs.Places.{ends_modifier}
use Rattle.mk_ast.specs.Text.{Read, Refs, text_in}
use Rattle.mk_ast.specs.Rows.{is_end, is_empty, word_text, word_mod, row_of}
use Rattle.mk_ast.specs.Separators.{separator_len, name_len}
use Rattle.mk_ast.specs.Modifiers.{closed_at, ended, flags_at, subst_at, separator_of, select_at}
use Rattle.mk_ast.specs.Modifiers.{choose_at, each_of, new_at, suffix_at, row_at, modifier_at}
use Rattle.mk_ast.specs.declared.place.Place.TheVariants as place
use Rattle.mk_ast.specs.declared.row.Row.{Row}
use Rattle.mk_ast.specs.declared.row.Row.TheVariants as row
use Rattle.mk_ast.proofs.Spelled.{OnRead, OnRead-bind, OnRead-map, is_ended-is_empty}
use Rattle.mk_ast.proofs.Spelled.{is_end-is_empty, TextOf, ModOf, RefsSpell}
use Rattle.mk_ast.proofs.SpelledRows.{Begins, Fits, row_of-fits, word_mod-text, separator_len-ends}
use Rattle.mk_ast.proofs.SpelledRows.{name_len-at, separator_len-within, name_len-within}
use Rattle.mk_ast.proofs.SpelledTexts.{text_in-spelled}
use Rattle.mk_ast.specs.WellFormed.{FitsTree, FitsMod, FitsWord}
use Rattle.mk_ast.specs.Modifiers.{flags_len}
use Rattle.mk_ast.specs.declared.row.Word.{Word}
use Rattle.mk_ast.specs.declared.row.Word.TheVariants as word
use Rattle.mk_ast.proofs.SpelledArguments.{ClosedOf, FlagsOf, rest-shorter, behind-start, row-same}
use Rattle.mk_ast.proofs.SpelledArguments.{length-beginning}
use Rattle.mk_ast.proofs.SpelledArguments.{argument_at-spelled, closed_at-spelled, flags_at-spelled}

-- what stands behind the first byte of a modifier, which fits if it begins its row
abbrev BehindOf : ℕ → Bool → Row → ℕ → List ℕ → Mod → List ℕ → Type 0
BehindOf depth round r first bytes m rest =
    (first ∷ bytes ≡ spell_mod m ++ rest) × (is_empty round rest ≡ true)
    × (row_of round (spell_mod m ++ rest) ≡ r → FitsMod depth round m rest)

subst_at-spelled : (depth : ℕ) (refs : Refs) → RefsSpell depth refs
    → (start : ℕ) (round : Bool) (bytes : List ℕ)
    → OnRead (BehindOf depth round row.Subst 83 bytes) (subst_at refs start round bytes)
unfolding spell_mod FitsTree
subst_at-spelled depth refs good start round [] = tt
subst_at-spelled depth refs good start round (delim ∷ bytes) =
    let Q = BehindOf depth round row.Subst 83 (delim ∷ bytes) in
    cond_both (ends_modifier round delim) _ _ (OnRead Q)
    (λ _. tt)
    (λ goes. OnRead-bind (ClosedOf depth (place.From delim true) delim bytes) Q
    (closed_at refs start (place.From delim true) bytes) _
    (closed_at-spelled depth refs good (place.From delim true) start delim
    (λ byte is. eqb-true byte delim is) bytes)
    (λ from more h. OnRead-bind (ClosedOf depth (place.To delim) delim more) Q
    (closed_at refs start (place.To delim) more) _
    (closed_at-spelled depth refs good (place.To delim) start delim
    (λ byte is. eqb-true byte delim is) more)
    (λ to last g. OnRead-map (FlagsOf round last) Q (flags_at start round last)
    (subst delim from to) (flags_at-spelled start round last)
    (λ flags rest f.
    let new : more ≡ spell to ++ delim ∷ (flags ++ rest) = g.0
    ∙ ap (λ s. spell to ++ delim ∷ s) f.0 in (
      ap (λ s. codes "S" ++ delim ∷ s) (h.0 ∙ ap (λ s. spell from ++ delim ∷ s) new)
          ∙ simp append_assoc,
      f.1,
      λ begun. (
        begun,
        goes,
        transport (λ s. FitsTree depth (place.From delim true) from (delim ∷ s)) new h.1,
        transport (λ s. FitsTree depth (place.To delim) to (delim ∷ s)) f.0 g.1,
        transport (λ s. flags_len s ≡ length flags) f.0 f.2,
      ),
    )))))

separator_of-spelled : (depth : ℕ) (start : ℕ) (round : Bool) (bytes : List ℕ) (found : Option ℕ)
    → separator_len round (drop 2 bytes) ≡ found
    → Begins (codes "ts") bytes → row_of round bytes ≡ row.Separator
    → OnRead (ModOf depth round bytes) (separator_of start (drop 2 bytes) found)
unfolding spell_mod FitsTree
separator_of-spelled depth start round bytes None is begins begun = tt
separator_of-spelled depth start round bytes (Some len) is begins begun =
    let inside = drop 2 bytes in
    let written = take len inside in
    let rest = drop len inside in
    let same = take-append-drop len inside in
    let long = length-beginning len inside (separator_len-within round inside len is) in
    behind-start depth round (codes "ts") bytes (separator written) written rest begins
    (sym same) refl (separator_len-ends round inside len is)
    (λ all. (
      row-same round bytes (codes "ts" ++ written ++ rest) row.Separator begun all,
      ap
          (separator_len round) same ∙ is ∙ ap (λ n. Some n) (sym long),
    ))

ended-spelled : (depth : ℕ) (start : ℕ) (round : Bool) (r : Row) (first : ℕ) (bytes : List ℕ)
    (m : Mod) (rest : List ℕ)
    → first ∷ bytes ≡ spell_mod m ++ rest
    → (row_of round (spell_mod m ++ rest) ≡ r → FitsMod depth round m rest)
    → OnRead (BehindOf depth round r first bytes) (ended start round m rest)
ended-spelled depth start round r first bytes m rest is fits =
    cond_both (is_end round rest) (Ok (m, rest)) _ (OnRead (BehindOf depth round r first bytes))
    (λ ends. (is, is_end-is_empty round rest ends, fits))
    (λ _. tt)

select_at-spelled : (depth : ℕ) (refs : Refs) → RefsSpell depth refs
    → (start : ℕ) (round : Bool) (bytes : List ℕ)
    → OnRead (BehindOf depth round row.Select 91 bytes) (select_at refs start round bytes)
unfolding spell_mod FitsTree
select_at-spelled depth refs good start round bytes =
    OnRead-bind (ClosedOf depth place.Select square_close bytes)
    (BehindOf depth round row.Select 91 bytes) (closed_at refs start place.Select bytes) _
    (closed_at-spelled depth refs good place.Select start square_close
    (λ byte is. eqb-true byte square_close is) bytes)
    (λ t rest h. ended-spelled depth start round row.Select 91 bytes (select t) rest
    (ap (λ s. 91 ∷ s) h.0 ∙ simp append_assoc) (λ begun. (begun, h.1)))

choose_at-spelled : (depth : ℕ) (refs : Refs) → RefsSpell depth refs
    → (start : ℕ) (round : Bool) (bytes : List ℕ)
    → OnRead (BehindOf depth round row.Choose 63 bytes) (choose_at refs start round bytes)
unfolding spell_mod FitsTree
choose_at-spelled depth refs good start round bytes =
    let Q = BehindOf depth round row.Choose 63 bytes in
    OnRead-bind (ClosedOf depth (place.IfTrue round) colon bytes) Q
    (closed_at refs start (place.IfTrue round) bytes) _
    (closed_at-spelled depth refs good (place.IfTrue round) start colon
    (λ byte is. eqb-true byte colon is) bytes)
    (λ first more h. OnRead-bind (TextOf depth (place.IfFalse round) more) Q
    (text_in refs (place.IfFalse round) more) _
    (text_in-spelled depth refs good (place.IfFalse round) more)
    (λ second rest g. ended-spelled depth start round row.Choose 63 bytes (choose first second) rest
    (ap (λ s. 63 ∷ s) (h.0 ∙ ap (λ s. spell first ++ colon ∷ s) g.0) ∙ simp append_assoc)
    (λ begun. (
      begun,
      transport
          (λ s. FitsTree depth (place.IfTrue round) first (colon ∷ s)) g.0 h.1,
      g.3,
    ))))

each_of-spelled : (depth : ℕ) (refs : Refs) → RefsSpell depth refs
    → (start : ℕ) (round : Bool) (bytes : List ℕ) (found : Option ℕ) → name_len bytes ≡ found
    → OnRead (BehindOf depth round row.Each 64 bytes) (each_of refs start round bytes found)
unfolding spell_mod FitsTree
each_of-spelled depth refs good start round bytes None is = tt
each_of-spelled depth refs good start round bytes (Some len) is =
    let Q = BehindOf depth round row.Each 64 bytes in
    let name = take len bytes in
    let more = drop (len + 1) bytes in
    let long = length-beginning len bytes (name_len-within bytes len is) in
    OnRead-bind (ClosedOf depth place.Body at_sign more) Q (closed_at refs start place.Body more) _
    (closed_at-spelled depth refs good place.Body start at_sign
    (λ byte is. eqb-true byte at_sign is) more)
    (λ body rest h.
    let same : bytes ≡ name ++ at_sign ∷ (spell body ++ at_sign ∷ rest) = name_len-at bytes len is
    ∙ ap (λ s. name ++ at_sign ∷ s) h.0 in
    ended-spelled depth start round row.Each 64 bytes (each name body) rest
    (ap (λ s. 64 ∷ s) same ∙ simp append_assoc)
    (λ begun. (begun, ap name_len (sym same) ∙ is ∙ ap (λ n. Some n) (sym long), h.1)))

closer-ends : (round : Bool) (byte : ℕ) → (byte == closer round) ≡ true
    → ends_modifier round byte ≡ true
closer-ends round byte is = rw (eqb-true byte (closer round) is) (closer-is round)
  where
    closer-is : (round : Bool) → ends_modifier round (closer round) ≡ true
    closer-is true = refl
    closer-is false = refl

new_at-spelled : (depth : ℕ) (refs : Refs) → RefsSpell depth refs
    → (start opened : ℕ) (round : Bool) (old : Tree) (bytes more : List ℕ)
    → bytes ≡ spell old ++ more → FitsTree depth (place.Old round) old more → row_of round bytes
    ≡ row.Suffix
    → OnRead (ModOf depth round bytes) (new_at refs start opened round old more)
unfolding spell_mod FitsTree
new_at-spelled depth refs good start opened round old bytes [] is fits begun = tt
new_at-spelled depth refs good start opened round old bytes (byte ∷ more) is fits begun =
    cond_both (byte == equals_sign) _ _ (OnRead (ModOf depth round bytes))
    (λ equals. OnRead-map (TextOf depth (place.New round) more) (ModOf depth round bytes)
    (text_in refs (place.New round) more) (suffix old)
    (text_in-spelled depth refs good (place.New round) more)
    (λ new rest h.
    let same = eqb-true byte equals_sign equals in
    let all : bytes ≡ spell_mod (suffix old new) ++ rest = is ∙ ap (λ d. spell old ++ d ∷ more) same
    ∙ ap (λ s. spell old ++ equals_sign ∷ s) h.0 ∙ simp append_assoc in (
      all,
      rest-shorter bytes (spell_mod (suffix old new)) rest all,
      is_ended-is_empty (place.New round) round (closer-ends round) rest h.2,
      (
        row-same round bytes (spell_mod (suffix old new) ++ rest) row.Suffix begun all,
        transport (λ s. FitsTree depth (place.Old round) old (equals_sign ∷ s)) h.0
            (transport (λ d. FitsTree depth (place.Old round) old (d ∷ more)) same fits),
        h.3,
      ),
    )))
    (λ _. tt)

suffix_at-spelled : (depth : ℕ) (refs : Refs) → RefsSpell depth refs
    → (start opened : ℕ) (round : Bool) (bytes : List ℕ) → row_of round bytes ≡ row.Suffix
    → OnRead (ModOf depth round bytes) (suffix_at refs start opened round bytes)
suffix_at-spelled depth refs good start opened round bytes begun =
    OnRead-bind (TextOf depth (place.Old round) bytes) (ModOf depth round bytes)
    (text_in refs (place.Old round) bytes) _
    (text_in-spelled depth refs good (place.Old round) bytes)
    (λ old more h. new_at-spelled depth refs good start opened round old bytes more h.0 h.3 begun)

-- what is read behind a first byte, with that byte
with_first : (depth : ℕ) (round : Bool) (r : Row) (first : ℕ) (bytes : List ℕ) (read : Read Mod)
    → Begins (first ∷ []) bytes
    → row_of round bytes ≡ r
    → OnRead (BehindOf depth round r first (drop 1 bytes)) read
    → OnRead (ModOf depth round bytes) read
with_first depth round r first bytes (Ok m) begins begun h =
    let all : bytes ≡ spell_mod m.0 ++ m.1 = begins ∙ h.0 in (
      all,
      rest-shorter bytes (spell_mod m.0) m.1 all,
      h.1,
      h.2
          (row-same round bytes (spell_mod m.0 ++ m.1) r begun all),
    )
with_first depth round r first bytes (Err fault) begins begun h = tt

word-fits : (depth : ℕ) (round : Bool) (word : Word) (rest : List ℕ)
    → FitsWord round (word_mod word) rest
    → FitsMod depth round (word_mod word) rest
unfolding FitsTree
word-fits depth round word.Head rest h = h
word-fits depth round word.Tail rest h = h
word-fits depth round word.Root rest h = h
word-fits depth round word.Extension rest h = h
word-fits depth round word.Sort rest h = h
word-fits depth round word.SortBack rest h = h
word-fits depth round word.Unique rest h = h
word-fits depth round word.Lower rest h = h
word-fits depth round word.Upper rest h = h
word-fits depth round word.Quote rest h = h
word-fits depth round word.QuoteDollar rest h = h
word-fits depth round word.OneWord rest h = h
word-fits depth round word.OneWordStar rest h = h
word-fits depth round word.OneWordZero rest h = h
word-fits depth round word.ManyWords rest h = h
word-fits depth round word.ManyWordsAt rest h = h
word-fits depth round word.Range rest h = h
word-fits depth round word.NameOf rest h = h

row_at-spelled : (depth : ℕ) (refs : Refs) → RefsSpell depth refs
    → (start opened : ℕ) (round : Bool) (r : Row) (bytes : List ℕ) → Fits round bytes r
    → row_of round bytes ≡ r
    → OnRead (ModOf depth round bytes) (row_at refs start opened round r bytes)
unfolding spell_mod FitsTree
row_at-spelled depth refs good start opened round row.LeftOut bytes fits begun = tt
row_at-spelled depth refs good start opened round row.Empty bytes fits begun =
    (refl, omega arith, fits, begun)
row_at-spelled depth refs good start opened round (row.Word word) bytes fits begun =
    let rest = drop (length (word_text word)) bytes in
    let all : bytes ≡ spell_mod (word_mod word) ++ rest = rw (word_mod-text word) fits.0 in (
      all,
      rest-shorter bytes (spell_mod (word_mod word)) rest all,
      fits.1,
      word-fits depth round word rest (
        word,
        refl,
        row-same round bytes (spell_mod (word_mod word) ++ rest)
            (row.Word word) begun all,
      ),
    )
row_at-spelled depth refs good start opened round (row.Argument argument) bytes fits begun =
    argument_at-spelled depth refs good round argument bytes fits begun
row_at-spelled depth refs good start opened round row.Subst bytes fits begun =
    with_first depth round row.Subst 83 bytes (subst_at refs start round (drop 1 bytes)) fits begun
    (subst_at-spelled depth refs good start round (drop 1 bytes))
row_at-spelled depth refs good start opened round row.Separator bytes fits begun =
    separator_of-spelled depth start round bytes
    (separator_len round (drop 2 bytes)) refl fits begun
row_at-spelled depth refs good start opened round row.Select bytes fits begun =
    with_first depth round row.Select 91 bytes
    (select_at refs start round (drop 1 bytes)) fits begun
    (select_at-spelled depth refs good start round (drop 1 bytes))
row_at-spelled depth refs good start opened round row.Choose bytes fits begun =
    with_first depth round row.Choose 63 bytes
    (choose_at refs start round (drop 1 bytes)) fits begun
    (choose_at-spelled depth refs good start round (drop 1 bytes))
row_at-spelled depth refs good start opened round row.Each bytes fits begun =
    with_first depth round row.Each 64 bytes
    (each_of refs start round (drop 1 bytes) (name_len (drop 1 bytes))) fits begun
    (each_of-spelled depth refs good start round (drop 1 bytes) (name_len (drop 1 bytes)) refl)
row_at-spelled depth refs good start opened round row.Suffix bytes fits begun =
    suffix_at-spelled depth refs good start opened round bytes begun

pub modifier_at-spelled : (depth : ℕ) (refs : Refs) → RefsSpell depth refs
    → (total opened : ℕ) (round : Bool) (bytes : List ℕ)
    → OnRead (ModOf depth round bytes) (modifier_at refs total opened round bytes)
modifier_at-spelled depth refs good total opened round bytes =
    row_at-spelled depth refs good (total - length bytes) opened round (row_of round bytes) bytes
    (row_of-fits round bytes) refl
