-- Which trees a text is spelled by: where each part stands, it is the part that its bytes begin. So
-- neighbouring plain bytes are one part, and no plain part is empty.
use Rattle.std.specs.Prelude.{◌≡◌, ℕ, zero, suc, ◌<◌, ◌==◌, ◌||◌, Bool, true, false, List, [], ◌∷◌}
use Rattle.std.specs.Prelude.{◌++◌, length, Some}
use Rattle.mk_bytes.specs.Bytes.{dollar, round_open, curly_open, colon, equals_sign, at_sign}
use Rattle.mk_bytes.specs.Bytes.{square_close, backslash}
use Rattle.mk_ast.specs.Tree.{Tree, Part, Mods, Mod, end, part, plain, escaped, double, lone, short}
use Rattle.mk_ast.specs.Tree.{ref, no_mods, mod_then, keep, without, subst, separator, select}
use Rattle.mk_ast.specs.Tree.{range_to, if_undefined, if_defined, choose, each, suffix, empty}
use Rattle.mk_ast.specs.Spell.{opener, closer, spell, spell_mods, spell_mod}
use Rattle.mk_ast.specs.Places.{ends_modifier, ends, is_over, is_escape, is_anchor, after}
use Rattle.mk_ast.specs.Text.{is_lone_before, plain_run}
use Rattle.mk_ast.specs.Rows.{word_mod, row_of}
use Rattle.mk_ast.specs.Separators.{separator_len, name_len}
use Rattle.mk_ast.specs.Modifiers.{flags_len}
use Rattle.mk_ast.specs.References.{max_open}
use Rattle.mk_ast.specs.declared.place.Place.{Place}
use Rattle.mk_ast.specs.declared.place.Place.TheVariants as places
use Rattle.mk_ast.specs.declared.row.Argument.TheVariants as argument
use Rattle.mk_ast.specs.declared.row.Row.TheVariants as row
use Rattle.mk_ast.specs.declared.row.Word.{Word}

-- the place after these bytes
abbrev pub after_all : Place → List ℕ → Place
after_all place [] = place
after_all place (byte ∷ bytes) = after_all (after place byte) bytes

abbrev pub after_part : Place → Part → Place
after_part place (plain bytes) = after_all place bytes
after_part place (escaped byte) = after place backslash
after_part place p = after place dollar

-- whether a `$` before these bytes is itself
abbrev pub is_lone : Place → List ℕ → Bool
is_lone place [] = true
is_lone place (byte ∷ bytes) = is_anchor place byte || is_lone_before byte

-- whether a byte after a `$` is no name of its own
abbrev pub is_taken : ℕ → Bool
is_taken byte = byte == dollar || byte == curly_open || byte == round_open

-- what has to hold inside one more open reference, where one may be opened
abbrev pub Opened : ℕ → (ℕ → Type 0) → Type 0
Opened zero Inside = ⊥
Opened (suc depth) Inside = Inside depth

-- a modifier that is a word
abbrev pub FitsWord : Bool → Mod → List ℕ → Type 0
FitsWord round m more =
    (word : Word) × (m ≡ word_mod word) × (row_of round (spell_mod m ++ more) ≡ row.Word word)

unfoldable mutual
  -- A tree fits before these bytes, where so many references may be opened.
  pub FitsTree : ℕ → Place → Tree → List ℕ → Type 0
  FitsTree depth place end more = is_over place more ≡ true
  FitsTree depth place (part p tree) more =
      FitsPart depth place p (spell tree ++ more) × FitsTree depth (after_part place p) tree more

  -- Plain bytes are all that stand there, and every other part is the one that its bytes begin.
  pub FitsPart : ℕ → Place → Part → List ℕ → Type 0
  FitsPart depth place (plain bytes) more =
      (0 < length bytes) × (plain_run place (bytes ++ more) ≡ (bytes, after_all place bytes, more))
  FitsPart depth place (escaped byte) more =
      (ends place backslash ≡ false) × (is_escape place backslash (byte ∷ more) ≡ true)
  FitsPart depth place double more =
      (ends place dollar ≡ false) × (is_lone place (dollar ∷ more) ≡ false)
  FitsPart depth place lone more = (ends place dollar ≡ false) × (is_lone place more ≡ true)
  FitsPart depth place (short byte) more =
      (ends place dollar ≡ false) × (is_lone place (byte ∷ more) ≡ false) × (is_taken byte ≡ false)
  FitsPart depth place (ref round name mods) more =
      (ends place dollar ≡ false) × (is_lone place (opener round ∷ more) ≡ false)
      × Opened depth
      (λ inner. FitsTree inner (places.Name round 0) name (spell_mods mods ++ closer round ∷ more)
      × FitsMods inner round mods (closer round ∷ more))

  pub FitsMods : ℕ → Bool → Mods → List ℕ → Type 0
  FitsMods depth round no_mods more = Unit {0}
  FitsMods depth round (mod_then m mods) more =
      FitsMod depth round m (spell_mods mods ++ more) × FitsMods depth round mods more

  -- A modifier begins its own row, and its texts fit in their places.
  pub FitsMod : ℕ → Bool → Mod → List ℕ → Type 0
  FitsMod depth round (keep text) more =
      (row_of round (spell_mod (keep text) ++ more) ≡ row.Argument argument.Keep)
      × FitsTree depth (places.Pattern round) text more
  FitsMod depth round (without text) more =
      (row_of round (spell_mod (without text) ++ more) ≡ row.Argument argument.Without)
      × FitsTree depth (places.Pattern round) text more
  FitsMod depth round (subst delim from to flags) more =
      (row_of round (spell_mod (subst delim from to flags) ++ more) ≡ row.Subst)
      × (ends_modifier round delim ≡ false)
      × FitsTree depth (places.From delim true) from (delim ∷ (spell to ++ delim ∷ (flags ++ more)))
      × FitsTree depth (places.To delim) to (delim ∷ (flags ++ more))
      × (flags_len (flags ++ more) ≡ length flags)
  FitsMod depth round (separator written) more =
      (row_of round (spell_mod (separator written) ++ more) ≡ row.Separator)
      × (separator_len round (written ++ more) ≡ Some (length written))
  FitsMod depth round (select text) more =
      (row_of round (spell_mod (select text) ++ more) ≡ row.Select)
      × FitsTree depth places.Select text (square_close ∷ more)
  FitsMod depth round (range_to text) more =
      (row_of round (spell_mod (range_to text) ++ more) ≡ row.Argument argument.RangeTo)
      × FitsTree depth (places.Count round) text more
  FitsMod depth round (if_undefined text) more =
      (row_of round (spell_mod (if_undefined text) ++ more) ≡ row.Argument argument.IfUndefined)
      × FitsTree depth (places.Value round) text more
  FitsMod depth round (if_defined text) more =
      (row_of round (spell_mod (if_defined text) ++ more) ≡ row.Argument argument.IfDefined)
      × FitsTree depth (places.Value round) text more
  FitsMod depth round (choose first second) more =
      (row_of round (spell_mod (choose first second) ++ more) ≡ row.Choose)
      × FitsTree depth (places.IfTrue round) first (colon ∷ (spell second ++ more))
      × FitsTree depth (places.IfFalse round) second more
  FitsMod depth round (each name body) more =
      (row_of round (spell_mod (each name body) ++ more) ≡ row.Each)
      × (name_len (name ++ at_sign ∷ (spell body ++ at_sign ∷ more)) ≡ Some (length name))
      × FitsTree depth places.Body body (at_sign ∷ more)
  FitsMod depth round (suffix old new) more =
      (row_of round (spell_mod (suffix old new) ++ more) ≡ row.Suffix)
      × FitsTree depth (places.Old round) old (equals_sign ∷ (spell new ++ more))
      × FitsTree depth (places.New round) new more
  FitsMod depth round empty more = row_of round more ≡ row.Empty
  FitsMod depth round word more = FitsWord round word more

-- A tree is well formed where it fits as a whole text.
abbrev pub IsWellFormed : Tree → Type 0
IsWellFormed tree = FitsTree max_open places.Whole tree []
