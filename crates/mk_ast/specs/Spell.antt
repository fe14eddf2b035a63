-- The one spelling of a tree.
use Rattle.std.specs.Prelude.{ℕ, Bool, true, false, List, [], ◌∷◌, ◌++◌, codes}
use Rattle.mk_bytes.specs.Bytes.{dollar, round_open, round_close, curly_open, curly_close, colon}
use Rattle.mk_bytes.specs.Bytes.{equals_sign, question_mark, at_sign, square_open, square_close}
use Rattle.mk_bytes.specs.Bytes.{backslash}
use Rattle.mk_ast.specs.Tree.{Tree, Part, Mods, Mod, end, part, plain, escaped, double, lone, short}
use Rattle.mk_ast.specs.Tree.{ref, no_mods, mod_then, keep, without, subst, head, tail, root}
use Rattle.mk_ast.specs.Tree.{extension, sort, sort_back, unique, lower, upper, quote, quote_dollar}
use Rattle.mk_ast.specs.Tree.{separator, one_word, many_words, select, range, range_to}
use Rattle.mk_ast.specs.Tree.{if_undefined, if_defined, name_of, choose, each, suffix, empty}

-- what begins a reference after its `$`, and what ends it
abbrev pub opener : Bool → ℕ
opener true = round_open
opener false = curly_open

abbrev pub closer : Bool → ℕ
closer true = round_close
closer false = curly_close

unfoldable mutual
  pub spell : Tree → List ℕ
  spell end = []
  spell (part p tree) = spell_part p ++ spell tree

  pub spell_part : Part → List ℕ
  spell_part (plain bytes) = bytes
  spell_part (escaped byte) = backslash ∷ byte ∷ []
  spell_part double = dollar ∷ dollar ∷ []
  spell_part lone = dollar ∷ []
  spell_part (short byte) = dollar ∷ byte ∷ []
  spell_part (ref round name mods) =
      dollar ∷ opener round ∷ (spell name ++ (spell_mods mods ++ closer round ∷ []))

  pub spell_mods : Mods → List ℕ
  spell_mods no_mods = []
  spell_mods (mod_then m mods) = colon ∷ (spell_mod m ++ spell_mods mods)

  -- what is written after a modifier's `:`
  pub spell_mod : Mod → List ℕ
  spell_mod (keep pattern) = codes "M" ++ spell pattern
  spell_mod (without pattern) = codes "N" ++ spell pattern
  spell_mod (subst delim from to flags) =
      codes "S" ++ delim ∷ (spell from ++ delim ∷ (spell to ++ delim ∷ flags))
  spell_mod head = codes "H"
  spell_mod tail = codes "T"
  spell_mod root = codes "R"
  spell_mod extension = codes "E"
  spell_mod sort = codes "O"
  spell_mod sort_back = codes "Or"
  spell_mod unique = codes "u"
  spell_mod lower = codes "tl"
  spell_mod upper = codes "tu"
  spell_mod quote = codes "Q"
  spell_mod quote_dollar = codes "q"
  spell_mod (separator written) = codes "ts" ++ written
  spell_mod (one_word written) = written
  spell_mod (many_words written) = written
  spell_mod (select places) = square_open ∷ (spell places ++ square_close ∷ [])
  spell_mod range = codes "range"
  spell_mod (range_to count) = codes "range=" ++ spell count
  spell_mod (if_undefined text) = codes "U" ++ spell text
  spell_mod (if_defined text) = codes "D" ++ spell text
  spell_mod name_of = codes "L"
  spell_mod (choose first second) = question_mark ∷ (spell first ++ colon ∷ spell second)
  spell_mod (each name body) = at_sign ∷ (name ++ at_sign ∷ (spell body ++ at_sign ∷ []))
  spell_mod (suffix old new) = spell old ++ equals_sign ∷ spell new
  spell_mod empty = []
