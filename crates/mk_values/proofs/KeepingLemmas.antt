-- Each step of an evaluation that keeps the names that it looks up is as where none are kept.
use Rattle.std.proofs.Common.{ℕ, zero, suc, nat_lt, List, [], ◌∷◌, ◌++◌, Option, Some, None, Err}
use Rattle.mk_bytes.specs.Texts.{is_among}
use Rattle.mk_ast.specs.Tree as tree
use Rattle.mk_ast.specs.Tree.{Tree, Part, Mods, end, part, plain, escaped, double, lone, short, ref}
use Rattle.mk_ast.specs.Tree.{no_mods, mod_then}
use Rattle.mk_cond.specs.Cond.{Cond, Conds, Side, any, all, negate, test, alone, both, no_more}
use Rattle.mk_cond.specs.Cond.{cond_then}
use Rattle.mk_cond.specs.declared.cond.CmpOp.{CmpOp}
use Rattle.mk_cond.specs.declared.cond.Fun.{Fun}
use Rattle.mk_cond.specs.declared.cond.Fun.TheVariants.{Defined, Make, Empty, Exists, Target}
use Rattle.mk_cond.specs.declared.cond.Fun.TheVariants.{Commands}
use Rattle.mk_mods.specs.Results.{no_results, with_result}
use Rattle.mk_mods.specs.State.{State, words_of}
use Rattle.mk_mods.specs.declared.modifier.Mod.{Mod}
use Rattle.mk_mods.specs.declared.modifier.Mod.TheVariants.{Keep, Without, Select, Range}
use Rattle.mk_values.specs.Chains as chain
use Rattle.mk_values.specs.Chains.{Chain, substitution, given_as, applied, with_state}
use Rattle.mk_values.specs.Chains.{name_condition}
use Rattle.mk_values.specs.Chains.{chain_of, undefined, defined_as}
use Rattle.mk_values.specs.Conditions as cond
use Rattle.mk_values.specs.Conditions.{trimmed, lone_reference}
use Rattle.mk_values.specs.Evaluators.{Counted, Finder, Progress, noting, with_reference}
use Rattle.mk_values.specs.Limits.{max_open, max_references}
use Rattle.mk_values.specs.ModFaults.{with_fault}
use Rattle.mk_values.specs.Names.{Context, in_name, is_defined, last_value, or_below}
use Rattle.mk_values.specs.Names.{while_bound, while_open}
use Rattle.mk_values.specs.Parts as joint
use Rattle.mk_values.specs.Parts.{shown, double_value}
use Rattle.mk_values.specs.Substitutions.{without_anchors, old_in_tree}
use Rattle.mk_values.specs.Texts.{parsed}
use Rattle.mk_values.specs.Value as value
use Rattle.mk_values.specs.Value.{finder, found_at}
use Rattle.mk_values.specs.declared.chain.Found.{Found}
use Rattle.mk_values.specs.declared.fault.ExpandFault.TheVariants.{Recursive, TooDeep}
use Rattle.mk_values.specs.declared.fault.ExpandFault.TheVariants.{TooManyReferences}
use Rattle.mk_values.proofs.KeptLemmas.{Kept, Kept-gives, Kept-tried, Kept-looking, Kept-either}
use Rattle.mk_values.proofs.KeptLemmas.{Kept-then, keeping}

-- what references find, where names are kept
abbrev pub KeepsNames : Finder → Type 0
KeepsNames find =
    (before : List (List ℕ)) (c : Context) (p : Progress) (reference : Part)
    → Kept before (find c p reference) (find c (keeping before p) reference)

module _ (find : Finder) (finds : KeepsNames find) where
  -- Trees

  reference_value : (before : List (List ℕ)) (c : Context) (p : Progress) (reference : Part)
      → Kept before (joint.reference_value find c p reference)
      (joint.reference_value find c (keeping before p) reference)
  reference_value before c p reference =
      Kept-then before _ _ _ (finds before c p reference) (λ more v. Kept-gives more _ _)

  part_value : (before : List (List ℕ)) (c : Context) (p : Progress) (one_part : Part)
      → Kept before (joint.part_value find c p one_part)
      (joint.part_value find c (keeping before p) one_part)
  part_value before c p (plain bytes) = Kept-gives before _ _
  part_value before c p (escaped byte) = Kept-gives before _ _
  part_value before c p double = Kept-gives before _ _
  part_value before c p lone = Kept-gives before _ _
  part_value before c p (short byte) = reference_value before c p (short byte)
  part_value before c p (ref round name mods) = reference_value before c p (ref round name mods)

  part_appended : (before : List (List ℕ)) (c : Context) (p : Progress)
      (text : List ℕ) (one_part : Part)
      → Kept before (joint.part_appended find c p text one_part)
      (joint.part_appended find c (keeping before p) text one_part)
  part_appended before c p text one_part =
      Kept-then before _ _ _ (part_value before c p one_part) (λ more v. Kept-tried more _ _)

  joined : (before : List (List ℕ)) (c : Context) (p : Progress) (text : List ℕ) (tree : Tree)
      → Kept before (joint.joined find c p text tree)
      (joint.joined find c (keeping before p) text tree)
  unfolding joint.joined
  joined before c p text end = Kept-gives before _ _
  joined before c p text (part one_part tree) =
      Kept-then before _ _ _ (part_appended before c p text one_part)
      (λ more v. joined more c v.1 v.0 tree)

  tree_value : (before : List (List ℕ)) (c : Context) (p : Progress) (tree : Tree)
      → Kept before (joint.tree_value find c p tree)
      (joint.tree_value find c (keeping before p) tree)
  tree_value before c p tree = joined before c p [] tree

  text_value : (before : List (List ℕ)) (c : Context) (p : Progress) (text : List ℕ)
      → Kept before (joint.text_value find c p text)
      (joint.text_value find c (keeping before p) text)
  text_value before c p text =
      Kept-then before _ _ _ (Kept-tried before (parsed text) p)
      (λ more v. tree_value more c v.1 v.0)

  -- Conditions

  answer_of : (before : List (List ℕ)) (c : Context) (p : Progress) (fun : Fun) (text : List ℕ)
      → Kept before (cond.answer_of c p fun text)
      (cond.answer_of c (keeping before p) fun text)
  answer_of before c p Defined text =
      Kept-looking before (trimmed text) _ _
      (Kept-gives (before ++ trimmed text ∷ []) _ (noting (trimmed text) p))
  answer_of before c p Empty text = Kept-gives before _ _
  answer_of before c p Make text = Kept-gives before _ _
  answer_of before c p Exists text = Kept-gives before _ _
  answer_of before c p Target text = Kept-gives before _ _
  answer_of before c p Commands text = Kept-gives before _ _

  test_truth : (before : List (List ℕ)) (c : Context) (p : Progress) (fun : Fun) (argument : Tree)
      → Kept before (cond.test_truth find c p fun argument)
      (cond.test_truth find c (keeping before p) fun argument)
  test_truth before c p fun argument =
      Kept-then before _ _ _ (tree_value before c p argument)
      (λ more v. answer_of more c v.1 fun v.0)

  unquoted_value : (before : List (List ℕ)) (c : Context) (p : Progress)
      (tree : Tree) (reference : Option Part)
      → Kept before (cond.unquoted_value find c p tree reference)
      (cond.unquoted_value find c (keeping before p) tree reference)
  unquoted_value before c p tree None = tree_value before c p tree
  unquoted_value before c p tree (Some reference) =
      Kept-then before _ _ _ (finds before c p reference) (λ more v. Kept-tried more _ _)

  side_value : (before : List (List ℕ)) (c : Context) (p : Progress) (side : Side)
      → Kept before (cond.side_value find c p side)
      (cond.side_value find c (keeping before p) side)
  side_value before c p side =
      Kept-either before side.quoted _ _ _ _ (tree_value before c p side.text)
      (unquoted_value before c p side.text (lone_reference side.text))

  alone_truth : (before : List (List ℕ)) (c : Context) (p : Progress) (side : Side)
      → Kept before (cond.alone_truth find c p side)
      (cond.alone_truth find c (keeping before p) side)
  alone_truth before c p side =
      Kept-then before _ _ _ (side_value before c p side) (λ more v. Kept-gives more _ _)

  both_truth : (before : List (List ℕ)) (c : Context) (p : Progress)
      (left : Side) (op : CmpOp) (right : Side)
      → Kept before (cond.both_truth find c p left op right)
      (cond.both_truth find c (keeping before p) left op right)
  both_truth before c p left op right =
      Kept-then before _ _ _ (side_value before c p left)
      (λ more l. Kept-then more _ _ _ (side_value more c l.1 right) (λ last r. Kept-tried last _ _))

  mutual
    unfolding cond.truth_of cond.any_truth cond.all_truth

    truth_of : (before : List (List ℕ)) (c : Context) (p : Progress) (one_cond : Cond)
        → Kept before (cond.truth_of find c p one_cond)
        (cond.truth_of find c (keeping before p) one_cond)
    truth_of before c p (any conds) = any_truth before c p conds
    truth_of before c p (all conds) = all_truth before c p conds
    truth_of before c p (negate inner) =
        Kept-then before _ _ _ (truth_of before c p inner) (λ more v. Kept-gives more _ _)
    truth_of before c p (test fun argument) = test_truth before c p fun argument
    truth_of before c p (alone side) = alone_truth before c p side
    truth_of before c p (both left op right) = both_truth before c p left op right

    any_truth : (before : List (List ℕ)) (c : Context) (p : Progress) (conds : Conds)
        → Kept before (cond.any_truth find c p conds)
        (cond.any_truth find c (keeping before p) conds)
    any_truth before c p no_more = Kept-gives before _ _
    any_truth before c p (cond_then first conds) =
        Kept-then before _ _ _ (truth_of before c p first)
        (λ more v. Kept-either more v.0 _ _ _ _ (Kept-gives more _ _) (any_truth more c v.1 conds))

    all_truth : (before : List (List ℕ)) (c : Context) (p : Progress) (conds : Conds)
        → Kept before (cond.all_truth find c p conds)
        (cond.all_truth find c (keeping before p) conds)
    all_truth before c p no_more = Kept-gives before _ _
    all_truth before c p (cond_then first conds) =
        Kept-then before _ _ _ (truth_of before c p first)
        (λ more v. Kept-either more v.0 _ _ _ _ (all_truth more c v.1 conds) (Kept-gives more _ _))

  -- Modifiers

  with_text : (before : List (List ℕ)) (c : Context) (p : Progress)
      (text : Tree) (make : List ℕ → Mod)
      → Kept before (chain.with_text find c p text make)
      (chain.with_text find c (keeping before p) text make)
  with_text before c p text make =
      Kept-then before _ _ _ (tree_value before c p text) (λ more v. Kept-gives more _ _)

  mod_of : (before : List (List ℕ)) (c : Context) (p : Progress) (m : tree.Mod)
      → Kept before (chain.mod_of find c p m)
      (chain.mod_of find c (keeping before p) m)
  mod_of before c p (tree.keep pattern) = with_text before c p pattern Keep
  mod_of before c p (tree.without pattern) = with_text before c p pattern Without
  mod_of before c p (tree.subst delim from to flags) =
      Kept-then before _ _ _ (tree_value before c p (without_anchors from))
      (λ more old. Kept-then more _ _ _ (tree_value more c old.1 (old_in_tree old.0 to))
      (λ last new. Kept-gives last _ _))
  mod_of before c p (tree.select places) = with_text before c p places Select
  mod_of before c p (tree.range_to number) = with_text before c p number Range
  mod_of before c p (tree.suffix from to) =
      Kept-then before _ _ _ (tree_value before c p from)
      (λ more old. Kept-then more _ _ _ (tree_value more c old.1 to)
      (λ last new. Kept-gives last _ _))
  mod_of before c p m = Kept-gives before _ _

  given : (before : List (List ℕ)) (so_far : Chain) (first second : Counted (List ℕ))
      → Kept before first second
      → Kept before (chain.given so_far first) (chain.given so_far second)
  given before so_far first second is = Kept-then before _ _ _ is (λ more v. Kept-gives more _ _)

  if_undefined : (before : List (List ℕ)) (c : Context) (p : Progress)
      (so_far : Chain) (text : Tree)
      → Kept before (chain.if_undefined find c p so_far text)
      (chain.if_undefined find c (keeping before p) so_far text)
  if_undefined before c p so_far text =
      Kept-either before so_far.defined _ _ _ _ (Kept-gives before _ _)
      (given before so_far _ _ (tree_value before c p text))

  if_defined : (before : List (List ℕ)) (c : Context) (p : Progress) (so_far : Chain) (text : Tree)
      → Kept before (chain.if_defined find c p so_far text)
      (chain.if_defined find c (keeping before p) so_far text)
  if_defined before c p so_far text =
      given before so_far _ _
      (Kept-either before so_far.defined _ _ _ _ (tree_value before c p text)
      (Kept-gives before _ _))

  chosen : (before : List (List ℕ)) (c : Context) (p : Progress)
      (name : List ℕ) (first second : Tree)
      → Kept before (chain.chosen find c p name first second)
      (chain.chosen find c (keeping before p) name first second)
  chosen before c p name first second =
      Kept-then before _ _ _ (Kept-tried before (name_condition name) p)
      (λ more v. Kept-then more _ _ _ (truth_of more c v.1 v.0) (λ last t. tree_value last c t.1 _))

  each_behind : (before : List (List ℕ)) (c : Context) (p : Progress)
      (name : List ℕ) (body : Tree) (results : State)
      (words : List (List ℕ))
      → Kept before (chain.each_behind find c p name body results words)
      (chain.each_behind find c (keeping before p) name body results words)
  unfolding chain.each_behind
  each_behind before c p name body results [] = Kept-gives before _ _
  each_behind before c p name body results (word ∷ words) =
      Kept-then before _ _ _ (tree_value before (while_bound c name word) p body)
      (λ more v. Kept-then more _ _ _
      (Kept-tried more (with_fault (with_result results v.0)) v.1)
      (λ last r. each_behind last c r.1 name body r.0 words))

  each : (before : List (List ℕ)) (c : Context) (p : Progress)
      (so_far : Chain) (name : List ℕ) (body : Tree)
      → Kept before (chain.each find c p so_far name body)
      (chain.each find c (keeping before p) so_far name body)
  each before c p so_far name body =
      Kept-then before _ _ _
      (each_behind before c p name body (no_results so_far.state) (words_of so_far.state))
      (λ more v. Kept-gives more _ _)

  word_modified : (before : List (List ℕ)) (c : Context) (p : Progress)
      (so_far : Chain) (m : tree.Mod)
      → Kept before (chain.word_modified find c p so_far m)
      (chain.word_modified find c (keeping before p) so_far m)
  word_modified before c p so_far m =
      Kept-then before _ _ _ (mod_of before c p m)
      (λ more v. Kept-then more _ _ _ (Kept-tried more (applied v.0 so_far.state) v.1)
      (λ last s. Kept-gives last _ _))

  given_modified : (before : List (List ℕ)) (c : Context) (p : Progress)
      (name : List ℕ) (so_far : Chain) (m : tree.Mod)
      → Kept before (chain.given_modified find c p name so_far m)
      (chain.given_modified find c (keeping before p) name so_far m)
  given_modified before c p name so_far (tree.if_undefined text) =
      if_undefined before c p so_far text
  given_modified before c p name so_far (tree.if_defined text) = if_defined before c p so_far text
  given_modified before c p name so_far tree.name_of = Kept-gives before _ _
  given_modified before c p name so_far m = word_modified before c p so_far m

  modified : (before : List (List ℕ)) (c : Context) (p : Progress)
      (name : List ℕ) (so_far : Chain) (m : tree.Mod)
      → Kept before (chain.modified find c p name so_far m)
      (chain.modified find c (keeping before p) name so_far m)
  modified before c p name so_far (tree.choose first second) =
      given before so_far _ _ (chosen before c p name first second)
  modified before c p name so_far (tree.each variable body) = each before c p so_far variable body
  modified before c p name so_far m = given_modified before c p name so_far m

  all_modified : (before : List (List ℕ)) (c : Context) (p : Progress)
      (name : List ℕ) (so_far : Chain) (mods : Mods)
      → Kept before (chain.all_modified find c p name so_far mods)
      (chain.all_modified find c (keeping before p) name so_far mods)
  unfolding chain.all_modified
  all_modified before c p name so_far no_mods = Kept-gives before _ _
  all_modified before c p name so_far (mod_then m mods) =
      Kept-then before _ _ _ (modified before c p name so_far m)
      (λ more v. all_modified more c v.1 name v.0 mods)

  chained : (before : List (List ℕ)) (c : Context) (p : Progress)
      (name : List ℕ) (found : Found) (mods : Mods)
      → Kept before (chain.chained find c p name found mods)
      (chain.chained find c (keeping before p) name found mods)
  chained before c p name found mods =
      Kept-then before _ _ _ (all_modified before c p name (chain_of found) mods)
      (λ more v. Kept-gives more _ _)

  -- References

  expanded : (before : List (List ℕ)) (c : Context) (p : Progress)
      (name : List ℕ) (raw : Option (List ℕ))
      → Kept before (value.expanded find c p name raw)
      (value.expanded find c (keeping before p) name raw)
  expanded before c p name None = Kept-gives before _ _
  expanded before c p name (Some raw) =
      Kept-then before _ _ _ (text_value before (while_open c name) p raw)
      (λ more v. Kept-gives more _ _)

  variable : (before : List (List ℕ)) (c : Context) (p : Progress) (name : List ℕ)
      → Kept before (value.variable find c p name)
      (value.variable find c (keeping before p) name)
  variable before c p name =
      let more = before ++ name ∷ [] in
      Kept-looking before name _ _
      (Kept-either more (is_among c.open_names name) _ _ _ _
      (Kept-tried more (Err (Recursive name)) (noting name p))
      (Kept-then more _ _ _
      (Kept-tried more (or_below (last_value c.bound name) (c.raw name)) (noting name p))
      (λ last v. expanded last c v.1 name v.0)))

  reference : (before : List (List ℕ)) (c : Context) (p : Progress) (name : Tree) (mods : Mods)
      → Kept before (value.reference find c p name mods)
      (value.reference find c (keeping before p) name mods)
  reference before c p name mods =
      Kept-then before _ _ _ (tree_value before (in_name c) p name)
      (λ more n. Kept-then more _ _ _ (variable more c n.1 n.0)
      (λ last v. chained last (in_name c) v.1 n.0 v.0 mods))

  found : (before : List (List ℕ)) (c : Context) (p : Progress) (one_part : Part)
      → Kept before (value.found find c p one_part)
      (value.found find c (keeping before p) one_part)
  found before c p (short byte) = variable before c p (byte ∷ [])
  found before c p (ref round name mods) = reference before c p name mods
  found before c p (plain bytes) = Kept-gives before _ _
  found before c p (escaped byte) = Kept-gives before _ _
  found before c p double = Kept-gives before _ _
  found before c p lone = Kept-gives before _ _

-- and so it is in all that references refer to
found_is : (room : ℕ) → KeepsNames (found_at room)
unfolding found_at
found_is zero = λ before c p reference. Kept-tried before {A = Found} (Err TooDeep) p
found_is (suc room) = λ before c p reference.
    Kept-either before (nat_lt p.references max_references) _ _ _ _
    (found (found_at room) (found_is room) before c (with_reference p) reference)
    (Kept-tried before {A = Found} (Err TooManyReferences) p)

pub tree_kept : (before : List (List ℕ)) (c : Context) (p : Progress) (tree : Tree)
    → Kept before (joint.tree_value finder c p tree)
    (joint.tree_value finder c (keeping before p) tree)
tree_kept = tree_value finder (found_is max_open)
