-- Which texts refer to the sources that are newer than the target, by that name.
use Rattle.std.specs.Prelude.{ℕ, ◌||◌, Bool, false, List, [], ◌∷◌, codes}
use Rattle.std.specs.Str.{bytes_eq}
use Rattle.mk_ast.specs.Tree.{Tree, Part, Mods, Mod, end, part, plain, escaped, double, lone, short}
use Rattle.mk_ast.specs.Tree.{ref, no_mods, mod_then, keep, without, subst, head, tail, root}
use Rattle.mk_ast.specs.Tree.{extension, sort, sort_back, unique, lower, upper, quote, quote_dollar}
use Rattle.mk_ast.specs.Tree.{separator, one_word, many_words, select, range, range_to}
use Rattle.mk_ast.specs.Tree.{if_undefined, if_defined, name_of, choose, each, suffix, empty}

abbrev pub is_oodate : List ℕ → Bool
is_oodate name = bytes_eq name (codes ".OODATE") || bytes_eq name (codes "?")

abbrev pub is_oodate_part : Part → Bool
is_oodate_part (plain bytes) = is_oodate bytes
is_oodate_part other = false

-- a name that is written out, with no reference in it
abbrev pub is_plain_oodate : Tree → Bool
is_plain_oodate (part p end) = is_oodate_part p
is_plain_oodate tree = false

-- whether such a reference stands anywhere in a tree, also in names and in arguments of modifiers
unfoldable mutual
  pub refers : Tree → Bool
  refers end = false
  refers (part p tree) = part_refers p || refers tree

  pub part_refers : Part → Bool
  part_refers (plain bytes) = false
  part_refers (escaped byte) = false
  part_refers double = false
  part_refers lone = false
  part_refers (short byte) = is_oodate (byte ∷ [])
  part_refers (ref round name mods) = is_plain_oodate name || refers name || mods_refer mods

  pub mods_refer : Mods → Bool
  mods_refer no_mods = false
  mods_refer (mod_then m mods) = mod_refers m || mods_refer mods

  pub mod_refers : Mod → Bool
  mod_refers (keep pattern) = refers pattern
  mod_refers (without pattern) = refers pattern
  mod_refers (subst delim from to flags) = refers from || refers to
  mod_refers head = false
  mod_refers tail = false
  mod_refers root = false
  mod_refers extension = false
  mod_refers sort = false
  mod_refers sort_back = false
  mod_refers unique = false
  mod_refers lower = false
  mod_refers upper = false
  mod_refers quote = false
  mod_refers quote_dollar = false
  mod_refers (separator written) = false
  mod_refers (one_word written) = false
  mod_refers (many_words written) = false
  mod_refers (select places) = refers places
  mod_refers range = false
  mod_refers (range_to count) = refers count
  mod_refers (if_undefined text) = refers text
  mod_refers (if_defined text) = refers text
  mod_refers name_of = false
  mod_refers (choose first second) = refers first || refers second
  mod_refers (each name body) = refers body
  mod_refers (suffix old new) = refers old || refers new
  mod_refers empty = false
