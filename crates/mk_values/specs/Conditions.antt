-- The truth of a condition (make(1), the directive `.if`). What does not decide is not evaluated.
use Rattle.std.specs.Prelude.{ℕ, ◌-◌, Bool, true, false, not, List, length, drop, take, position}
use Rattle.std.specs.Prelude.{Option, Some, None, is_none, unwrap_or, Result, Ok, Err}
use Rattle.std.specs.Prelude.{if◌then◌else◌}
use Rattle.std.specs.List.{suffix_len}
use Rattle.mk_bytes.specs.Paths.{clean}
use Rattle.mk_bytes.specs.Words.{is_white, is_no_white}
use Rattle.mk_ast.specs.Tree.{Tree, Part, end, part, short, ref}
use Rattle.mk_cond.specs.Cond.{Cond, Conds, Side, any, all, negate, test, alone, both, no_more}
use Rattle.mk_cond.specs.Cond.{cond_then}
use Rattle.mk_cond.specs.Truth.{truth, compare}
use Rattle.mk_cond.specs.declared.cond.CmpOp.{CmpOp}
use Rattle.mk_cond.specs.declared.cond.Fun.{Fun}
use Rattle.mk_cond.specs.declared.cond.Fun.TheVariants.{Defined, Make, Empty, Exists, Target}
use Rattle.mk_cond.specs.declared.cond.Fun.TheVariants.{Commands}
use Rattle.mk_cond.specs.declared.fault.NoNumber.{NoNumber}
use Rattle.mk_cond.specs.declared.walk.Leaf.{Leaf}
use Rattle.mk_cond.specs.declared.walk.Leaf.TheVariants as leaves
use Rattle.mk_cond.specs.View.{side_view}
use Rattle.mk_ast.specs.View.{tree_view}
use Rattle.mk_values.specs.Evaluators.{Progress, Counted, Finder, ◌>>=◌, either, gives, looking}
use Rattle.mk_values.specs.Evaluators.{tried}
use Rattle.mk_values.specs.Evaluators.{noting, with_asked}
use Rattle.mk_values.specs.Facts.{Answers, Lists, fact_of, asked_with}
use Rattle.mk_values.specs.declared.facts.Asked.{Asked}
use Rattle.mk_values.specs.Names.{Context, is_defined, last_value}
use Rattle.mk_values.specs.Parts.{tree_value}
use Rattle.mk_values.specs.declared.chain.Found.{Found}
use Rattle.mk_values.specs.declared.fault.ExpandFault.{ExpandFault}
use Rattle.mk_values.specs.declared.fault.ExpandFault.TheVariants as faults

-- Functions

-- a text without the white space that it begins with
unfoldable pub without_front : List ℕ → List ℕ
without_front text = drop (unwrap_or (position is_no_white text) (length text)) text

-- and without that which it ends in
unfoldable pub without_back : List ℕ → List ℕ
without_back text = take (length text - suffix_len is_white text) text

abbrev pub trimmed : List ℕ → List ℕ
trimmed text = without_back (without_front text)

abbrev pub is_white_alone : List ℕ → Bool
is_white_alone text = is_none (position is_no_white text)

-- the answer of a fact, and the questions behind it
abbrev pub fact : Lists → Answers → List Asked → Fun → List ℕ → Bool × List Asked
fact lists answers asked fun argument =
    let answer = fact_of lists answers asked fun argument in
    (answer, asked_with asked fun argument answer)

abbrev pub fact_answer : Context → Progress → Fun → List ℕ → Counted Bool
fact_answer c p fun argument =
    let told = fact c.lists c.answers p.asked fun argument in gives told.0 (with_asked p told.1)

abbrev pub path_answer : Context → Progress → Fun → List ℕ → Counted Bool
path_answer c p fun name = fact_answer c p fun (clean c.cwd name)

-- The name is looked up. No value is put together for it.
abbrev pub defined_answer : Context → Progress → List ℕ → Counted Bool
defined_answer c p name =
    looking name (gives (is_defined (last_value c.bound name) (c.raw name)) (noting name p))

-- The answer of a function to the value of its argument, which is trimmed. Paths are cleaned.
abbrev pub answer_of : Context → Progress → Fun → List ℕ → Counted Bool
answer_of c p Defined value = defined_answer c p (trimmed value)
answer_of c p Empty value = gives (is_white_alone value) p
answer_of c p Make value = fact_answer c p Make (trimmed value)
answer_of c p Exists value = path_answer c p Exists (trimmed value)
answer_of c p Target value = path_answer c p Target (trimmed value)
answer_of c p Commands value = path_answer c p Commands (trimmed value)

abbrev pub test_truth : Finder → Context → Progress → Fun → Tree → Counted Bool
test_truth find c p fun argument =
    tree_value find c p argument >>= λ v. answer_of c v.1 fun v.0

-- Sides

abbrev pub is_reference : Part → Bool
is_reference (short byte) = true
is_reference (ref round name mods) = true
is_reference _ = false

abbrev pub reference_part : Part → Option Part
reference_part one = if is_reference one then Some one else None

-- the one reference that a tree is
abbrev pub lone_reference : Tree → Option Part
lone_reference end = None
lone_reference (part one end) = reference_part one
lone_reference (part one (part other tree)) = None

abbrev pub if_defined : Found → Result (List ℕ) ExpandFault
if_defined found = if found.defined then Ok found.value else Err faults.Undefined

abbrev pub unquoted_value : Finder → Context → Progress → Tree → Option Part → Counted (List ℕ)
unquoted_value find c p tree None = tree_value find c p tree
unquoted_value find c p tree (Some reference) =
    find c p reference >>= λ found. tried (if_defined found.0) found.1

-- The value of a side. One that is not quoted and is one reference has to be defined.
abbrev pub side_value : Finder → Context → Progress → Side → Counted (List ℕ)
side_value find c p side =
    either side.quoted (tree_value find c p side.text)
    (unquoted_value find c p side.text (lone_reference side.text))

abbrev pub alone_truth : Finder → Context → Progress → Side → Counted Bool
alone_truth find c p side =
    side_value find c p side >>= λ v. gives (truth v.0 side.quoted) v.1

abbrev pub of_numbers : Result Bool NoNumber → Result Bool ExpandFault
of_numbers (Ok answer) = Ok answer
of_numbers (Err fault) = Err faults.NoNumber

-- Both sides are evaluated before they are compared.
abbrev pub both_truth : Finder → Context → Progress → Side → CmpOp → Side → Counted Bool
both_truth find c p left op right =
    side_value find c p left
    >>= λ l. side_value find c l.1 right
    >>= λ r. tried (of_numbers (compare l.0 left.quoted op r.0 right.quoted)) r.1

-- Conditions

abbrev pub turned_round : Counted Bool → Counted Bool
turned_round found = found >>= λ t. gives (not t.0) t.1

unfoldable mutual
  -- The truth of a condition.
  pub truth_of : Finder → Context → Progress → Cond → Counted Bool
  truth_of find c p (any conds) = any_truth find c p conds
  truth_of find c p (all conds) = all_truth find c p conds
  truth_of find c p (negate cond) = turned_round (truth_of find c p cond)
  truth_of find c p (test fun argument) = test_truth find c p fun argument
  truth_of find c p (alone side) = alone_truth find c p side
  truth_of find c p (both left op right) = both_truth find c p left op right

  -- the first that is true decides
  pub any_truth : Finder → Context → Progress → Conds → Counted Bool
  any_truth find c p no_more = gives false p
  any_truth find c p (cond_then cond conds) =
      truth_of find c p cond
      >>= λ t. either t.0 (gives true t.1) (any_truth find c t.1 conds)

  -- the first that is false decides
  pub all_truth : Finder → Context → Progress → Conds → Counted Bool
  all_truth find c p no_more = gives true p
  all_truth find c p (cond_then cond conds) =
      truth_of find c p cond
      >>= λ t. either t.0 (all_truth find c t.1 conds) (gives false t.1)

-- the truth of a condition of the code without conditions inside
abbrev pub leaf_truth : Finder → Context → Progress → Leaf → Counted Bool
leaf_truth find c p (leaves.Known truth) = gives truth p
leaf_truth find c p (leaves.Test fun argument) = test_truth find c p fun (tree_view argument.now)
leaf_truth find c p (leaves.Alone side) = alone_truth find c p (side_view side.now)
leaf_truth find c p (leaves.Both left op right) =
    both_truth find c p (side_view left.now) op (side_view right.now)
