-- Each step of an evaluation is the same where the raw values of the names that are looked up are.
use Rattle.std.proofs.Common.{ℕ, zero, suc, nat_lt, List, [], ◌∷◌, Option, Some, None, Err}
use Rattle.mk_bytes.specs.Texts.{is_among}
use Rattle.mk_ast.specs.Tree as tree
use Rattle.mk_ast.specs.Tree.{Tree, Part, Mods, end, part, plain, escaped, double, lone, short, ref}
use Rattle.mk_ast.specs.Tree.{no_mods, mod_then}
use Rattle.mk_cond.specs.Cond.{Cond, Conds, Side, any, all, negate, test, alone, both, no_more, cond_then}
use Rattle.mk_cond.specs.declared.cond.CmpOp.{CmpOp}
use Rattle.mk_cond.specs.declared.cond.Fun.{Fun}
use Rattle.mk_cond.specs.declared.cond.Fun.TheVariants.{Defined, Make, Empty, Exists, Target, Commands}
use Rattle.mk_mods.specs.Results.{no_results, with_result}
use Rattle.mk_mods.specs.State.{State, words_of}
use Rattle.mk_mods.specs.declared.modifier.Mod.{Mod}
use Rattle.mk_mods.specs.declared.modifier.Mod.TheVariants.{Keep, Without, Select, Range}
use Rattle.mk_values.specs.Chains as chain
use Rattle.mk_values.specs.Chains.{Chain, substitution, given_as, applied, with_state, name_condition}
use Rattle.mk_values.specs.Chains.{chain_of, undefined, defined_as}
use Rattle.mk_values.specs.Conditions as cond
use Rattle.mk_values.specs.Conditions.{trimmed, lone_reference}
use Rattle.mk_values.specs.Evaluators.{Counted, Finder, Progress, gives, noting, with_reference}
use Rattle.mk_values.specs.Limits.{max_open, max_references}
use Rattle.mk_looks.specs.Looks.{ConditionsAreByNames, Raw, TreesAreByNames, with_raw}
use Rattle.mk_values.specs.ModFaults.{with_fault}
use Rattle.mk_values.specs.Names.{Context, in_name, is_defined, last_value, or_below}
use Rattle.mk_values.specs.Names.{while_bound, while_open}
use Rattle.mk_values.specs.Parts as joint
use Rattle.mk_values.specs.Parts.{shown, double_value}
use Rattle.mk_values.specs.Substitutions.{without_anchors, old_in_tree}
use Rattle.mk_values.specs.Texts.{parsed}
use Rattle.mk_values.specs.Value as value
use Rattle.mk_values.specs.Value.{finder, found_at}
use Rattle.mk_values.specs.declared.chain.Found.{Found}
use Rattle.mk_values.specs.declared.fault.ExpandFault.TheVariants.{Recursive, TooDeep, TooManyReferences}
use Rattle.mk_looks.proofs.SameLemmas.{Same, Same-gives, Same-tried, Same-looking, Same-either, Same-then}

-- what references find is the same
abbrev pub IsByNames : Raw → Raw → Finder → Type 0
IsByNames one other find =
    (c : Context) (p : Progress) (reference : Part)
    → Same one other (find (with_raw one c) p reference) (find (with_raw other c) p reference)

module _ (one other : Raw) (find : Finder) (finds : IsByNames one other find) where
  -- Trees

  reference_value : (c : Context) (p : Progress) (reference : Part)
      → Same one other (joint.reference_value find (with_raw one c) p reference)
      (joint.reference_value find (with_raw other c) p reference)
  reference_value c p reference =
      Same-then one other _ _ _ _ (finds c p reference) (λ v. Same-gives one other _ _)

  part_value : (c : Context) (p : Progress) (one_part : Part)
      → Same one other (joint.part_value find (with_raw one c) p one_part)
      (joint.part_value find (with_raw other c) p one_part)
  part_value c p (plain bytes) = Same-gives one other _ _
  part_value c p (escaped byte) = Same-gives one other _ _
  part_value c p double = Same-gives one other _ _
  part_value c p lone = Same-gives one other _ _
  part_value c p (short byte) = reference_value c p (short byte)
  part_value c p (ref round name mods) = reference_value c p (ref round name mods)

  part_appended : (c : Context) (p : Progress) (text : List ℕ) (one_part : Part)
      → Same one other (joint.part_appended find (with_raw one c) p text one_part)
      (joint.part_appended find (with_raw other c) p text one_part)
  part_appended c p text one_part =
      Same-then one other _ _ _ _ (part_value c p one_part) (λ v. Same-tried one other _ _)

  joined : (c : Context) (p : Progress) (text : List ℕ) (tree : Tree)
      → Same one other (joint.joined find (with_raw one c) p text tree)
      (joint.joined find (with_raw other c) p text tree)
  unfolding joint.joined
  joined c p text end = Same-gives one other _ _
  joined c p text (part one_part tree) =
      Same-then one other _ _ _ _ (part_appended c p text one_part) (λ v. joined c v.1 v.0 tree)

  tree_value : (c : Context) (p : Progress) (tree : Tree)
      → Same one other (joint.tree_value find (with_raw one c) p tree)
      (joint.tree_value find (with_raw other c) p tree)
  tree_value c p tree = joined c p [] tree

  text_value : (c : Context) (p : Progress) (text : List ℕ)
      → Same one other (joint.text_value find (with_raw one c) p text)
      (joint.text_value find (with_raw other c) p text)
  text_value c p text =
      Same-then one other _ _ _ _ (Same-tried one other (parsed text) p) (λ v. tree_value c v.1 v.0)

  -- Conditions

  answer_of : (c : Context) (p : Progress) (fun : Fun) (text : List ℕ)
      → Same one other (cond.answer_of (with_raw one c) p fun text)
      (cond.answer_of (with_raw other c) p fun text)
  answer_of c p Defined text =
      Same-looking one other (trimmed text) _
      (λ raw. gives (is_defined (last_value c.bound (trimmed text)) raw) (noting (trimmed text) p))
      (Same-gives one other _ _)
  answer_of c p Empty text = Same-gives one other _ _
  answer_of c p Make text = Same-gives one other _ _
  answer_of c p Exists text = Same-gives one other _ _
  answer_of c p Target text = Same-gives one other _ _
  answer_of c p Commands text = Same-gives one other _ _

  test_truth : (c : Context) (p : Progress) (fun : Fun) (argument : Tree)
      → Same one other (cond.test_truth find (with_raw one c) p fun argument)
      (cond.test_truth find (with_raw other c) p fun argument)
  test_truth c p fun argument =
      Same-then one other _ _ _ _ (tree_value c p argument) (λ v. answer_of c v.1 fun v.0)

  unquoted_value : (c : Context) (p : Progress) (tree : Tree) (reference : Option Part)
      → Same one other (cond.unquoted_value find (with_raw one c) p tree reference)
      (cond.unquoted_value find (with_raw other c) p tree reference)
  unquoted_value c p tree None = tree_value c p tree
  unquoted_value c p tree (Some reference) =
      Same-then one other _ _ _ _ (finds c p reference) (λ v. Same-tried one other _ _)

  side_value : (c : Context) (p : Progress) (side : Side)
      → Same one other (cond.side_value find (with_raw one c) p side)
      (cond.side_value find (with_raw other c) p side)
  side_value c p side =
      Same-either one other side.quoted _ _ _ _ (tree_value c p side.text)
      (unquoted_value c p side.text (lone_reference side.text))

  alone_truth : (c : Context) (p : Progress) (side : Side)
      → Same one other (cond.alone_truth find (with_raw one c) p side)
      (cond.alone_truth find (with_raw other c) p side)
  alone_truth c p side =
      Same-then one other _ _ _ _ (side_value c p side) (λ v. Same-gives one other _ _)

  both_truth : (c : Context) (p : Progress) (left : Side) (op : CmpOp) (right : Side)
      → Same one other (cond.both_truth find (with_raw one c) p left op right)
      (cond.both_truth find (with_raw other c) p left op right)
  both_truth c p left op right =
      Same-then one other _ _ _ _ (side_value c p left)
      (λ l. Same-then one other _ _ _ _ (side_value c l.1 right) (λ r. Same-tried one other _ _))

  mutual
    unfolding cond.truth_of cond.any_truth cond.all_truth

    truth_of : (c : Context) (p : Progress) (one_cond : Cond)
        → Same one other (cond.truth_of find (with_raw one c) p one_cond)
        (cond.truth_of find (with_raw other c) p one_cond)
    truth_of c p (any conds) = any_truth c p conds
    truth_of c p (all conds) = all_truth c p conds
    truth_of c p (negate inner) =
        Same-then one other _ _ _ _ (truth_of c p inner) (λ v. Same-gives one other _ _)
    truth_of c p (test fun argument) = test_truth c p fun argument
    truth_of c p (alone side) = alone_truth c p side
    truth_of c p (both left op right) = both_truth c p left op right

    any_truth : (c : Context) (p : Progress) (conds : Conds)
        → Same one other (cond.any_truth find (with_raw one c) p conds)
        (cond.any_truth find (with_raw other c) p conds)
    any_truth c p no_more = Same-gives one other _ _
    any_truth c p (cond_then first conds) =
        Same-then one other _ _ _ _ (truth_of c p first)
        (λ v. Same-either one other v.0 _ _ _ _ (Same-gives one other _ _) (any_truth c v.1 conds))

    all_truth : (c : Context) (p : Progress) (conds : Conds)
        → Same one other (cond.all_truth find (with_raw one c) p conds)
        (cond.all_truth find (with_raw other c) p conds)
    all_truth c p no_more = Same-gives one other _ _
    all_truth c p (cond_then first conds) =
        Same-then one other _ _ _ _ (truth_of c p first)
        (λ v. Same-either one other v.0 _ _ _ _ (all_truth c v.1 conds) (Same-gives one other _ _))

  -- Modifiers

  with_text : (c : Context) (p : Progress) (text : Tree) (make : List ℕ → Mod)
      → Same one other (chain.with_text find (with_raw one c) p text make)
      (chain.with_text find (with_raw other c) p text make)
  with_text c p text make =
      Same-then one other _ _ _ _ (tree_value c p text) (λ v. Same-gives one other _ _)

  mod_of : (c : Context) (p : Progress) (m : tree.Mod)
      → Same one other (chain.mod_of find (with_raw one c) p m)
      (chain.mod_of find (with_raw other c) p m)
  mod_of c p (tree.keep pattern) = with_text c p pattern Keep
  mod_of c p (tree.without pattern) = with_text c p pattern Without
  mod_of c p (tree.subst delim from to flags) =
      Same-then one other _ _ _ _ (tree_value c p (without_anchors from))
      (λ old. Same-then one other _ _ _ _ (tree_value c old.1 (old_in_tree old.0 to))
      (λ new. Same-gives one other _ _))
  mod_of c p (tree.select places) = with_text c p places Select
  mod_of c p (tree.range_to number) = with_text c p number Range
  mod_of c p (tree.suffix from to) =
      Same-then one other _ _ _ _ (tree_value c p from)
      (λ old. Same-then one other _ _ _ _ (tree_value c old.1 to) (λ new. Same-gives one other _ _))
  mod_of c p m = Same-gives one other _ _

  given : (so_far : Chain) (first second : Counted (List ℕ)) → Same one other first second
      → Same one other (chain.given so_far first) (chain.given so_far second)
  given so_far first second is = Same-then one other _ _ _ _ is (λ v. Same-gives one other _ _)

  if_undefined : (c : Context) (p : Progress) (so_far : Chain) (text : Tree)
      → Same one other (chain.if_undefined find (with_raw one c) p so_far text)
      (chain.if_undefined find (with_raw other c) p so_far text)
  if_undefined c p so_far text =
      Same-either one other so_far.defined _ _ _ _ (Same-gives one other _ _)
      (given so_far _ _ (tree_value c p text))

  if_defined : (c : Context) (p : Progress) (so_far : Chain) (text : Tree)
      → Same one other (chain.if_defined find (with_raw one c) p so_far text)
      (chain.if_defined find (with_raw other c) p so_far text)
  if_defined c p so_far text =
      given so_far _ _
      (Same-either one other so_far.defined _ _ _ _ (tree_value c p text) (Same-gives one other _ _))

  chosen : (c : Context) (p : Progress) (name : List ℕ) (first second : Tree)
      → Same one other (chain.chosen find (with_raw one c) p name first second)
      (chain.chosen find (with_raw other c) p name first second)
  chosen c p name first second =
      Same-then one other _ _ _ _ (Same-tried one other (name_condition name) p)
      (λ v. Same-then one other _ _ _ _ (truth_of c v.1 v.0) (λ t. tree_value c t.1 _))

  each_behind : (c : Context) (p : Progress) (name : List ℕ) (body : Tree) (results : State)
      (words : List (List ℕ))
      → Same one other (chain.each_behind find (with_raw one c) p name body results words)
      (chain.each_behind find (with_raw other c) p name body results words)
  unfolding chain.each_behind
  each_behind c p name body results [] = Same-gives one other _ _
  each_behind c p name body results (word ∷ words) =
      Same-then one other _ _ _ _ (tree_value (while_bound c name word) p body)
      (λ v. Same-then one other _ _ _ _
      (Same-tried one other (with_fault (with_result results v.0)) v.1)
      (λ more. each_behind c more.1 name body more.0 words))

  each : (c : Context) (p : Progress) (so_far : Chain) (name : List ℕ) (body : Tree)
      → Same one other (chain.each find (with_raw one c) p so_far name body)
      (chain.each find (with_raw other c) p so_far name body)
  each c p so_far name body =
      Same-then one other _ _ _ _
      (each_behind c p name body (no_results so_far.state) (words_of so_far.state))
      (λ v. Same-gives one other _ _)

  word_modified : (c : Context) (p : Progress) (so_far : Chain) (m : tree.Mod)
      → Same one other (chain.word_modified find (with_raw one c) p so_far m)
      (chain.word_modified find (with_raw other c) p so_far m)
  word_modified c p so_far m =
      Same-then one other _ _ _ _ (mod_of c p m)
      (λ v. Same-then one other _ _ _ _ (Same-tried one other (applied v.0 so_far.state) v.1)
      (λ s. Same-gives one other _ _))

  given_modified : (c : Context) (p : Progress) (name : List ℕ) (so_far : Chain) (m : tree.Mod)
      → Same one other (chain.given_modified find (with_raw one c) p name so_far m)
      (chain.given_modified find (with_raw other c) p name so_far m)
  given_modified c p name so_far (tree.if_undefined text) = if_undefined c p so_far text
  given_modified c p name so_far (tree.if_defined text) = if_defined c p so_far text
  given_modified c p name so_far tree.name_of = Same-gives one other _ _
  given_modified c p name so_far m = word_modified c p so_far m

  modified : (c : Context) (p : Progress) (name : List ℕ) (so_far : Chain) (m : tree.Mod)
      → Same one other (chain.modified find (with_raw one c) p name so_far m)
      (chain.modified find (with_raw other c) p name so_far m)
  modified c p name so_far (tree.choose first second) =
      given so_far _ _ (chosen c p name first second)
  modified c p name so_far (tree.each variable body) = each c p so_far variable body
  modified c p name so_far m = given_modified c p name so_far m

  all_modified : (c : Context) (p : Progress) (name : List ℕ) (so_far : Chain) (mods : Mods)
      → Same one other (chain.all_modified find (with_raw one c) p name so_far mods)
      (chain.all_modified find (with_raw other c) p name so_far mods)
  unfolding chain.all_modified
  all_modified c p name so_far no_mods = Same-gives one other _ _
  all_modified c p name so_far (mod_then m mods) =
      Same-then one other _ _ _ _ (modified c p name so_far m)
      (λ v. all_modified c v.1 name v.0 mods)

  chained : (c : Context) (p : Progress) (name : List ℕ) (found : Found) (mods : Mods)
      → Same one other (chain.chained find (with_raw one c) p name found mods)
      (chain.chained find (with_raw other c) p name found mods)
  chained c p name found mods =
      Same-then one other _ _ _ _ (all_modified c p name (chain_of found) mods)
      (λ v. Same-gives one other _ _)

  -- References

  expanded : (c : Context) (p : Progress) (name : List ℕ) (raw : Option (List ℕ))
      → Same one other (value.expanded find (with_raw one c) p name raw)
      (value.expanded find (with_raw other c) p name raw)
  expanded c p name None = Same-gives one other _ _
  expanded c p name (Some raw) =
      Same-then one other _ _ _ _ (text_value (while_open c name) p raw)
      (λ v. Same-gives one other _ _)

  variable : (c : Context) (p : Progress) (name : List ℕ)
      → Same one other (value.variable find (with_raw one c) p name)
      (value.variable find (with_raw other c) p name)
  variable c p name =
      Same-looking one other name _
      (λ raw. value.variable_by find (with_raw other c) (noting name p) name
      (or_below (last_value c.bound name) raw))
      (Same-either one other (is_among c.open_names name) _ _ _ _
      (Same-tried one other (Err (Recursive name)) (noting name p))
      (Same-then one other _ _ _ _
      (Same-tried one other (or_below (last_value c.bound name) (one name)) (noting name p))
      (λ v. expanded c v.1 name v.0)))

  reference : (c : Context) (p : Progress) (name : Tree) (mods : Mods)
      → Same one other (value.reference find (with_raw one c) p name mods)
      (value.reference find (with_raw other c) p name mods)
  reference c p name mods =
      Same-then one other _ _ _ _ (tree_value (in_name c) p name)
      (λ n. Same-then one other _ _ _ _ (variable c n.1 n.0)
      (λ v. chained (in_name c) v.1 n.0 v.0 mods))

  found : (c : Context) (p : Progress) (one_part : Part)
      → Same one other (value.found find (with_raw one c) p one_part)
      (value.found find (with_raw other c) p one_part)
  found c p (short byte) = variable c p (byte ∷ [])
  found c p (ref round name mods) = reference c p name mods
  found c p (plain bytes) = Same-gives one other _ _
  found c p (escaped byte) = Same-gives one other _ _
  found c p double = Same-gives one other _ _
  found c p lone = Same-gives one other _ _

-- and so it is in all that references refer to
found_is : (one other : Raw) (room : ℕ) → IsByNames one other (found_at room)
unfolding found_at
found_is one other zero = λ c p reference. Same-tried one other {A = Found} (Err TooDeep) p
found_is one other (suc room) = λ c p reference.
    Same-either one other (nat_lt p.references max_references) _ _ _ _
    (found one other (found_at room) (found_is one other room) c (with_reference p) reference)
    (Same-tried one other {A = Found} (Err TooManyReferences) p)

pub trees_are_by_names : TreesAreByNames
trees_are_by_names c raw p tree agree =
    (tree_value c.raw raw finder (found_is c.raw raw max_open) c p tree).same [] agree

pub conditions_are_by_names : ConditionsAreByNames
conditions_are_by_names c raw p one_cond agree =
    (truth_of c.raw raw finder (found_is c.raw raw max_open) c p one_cond).same [] agree
