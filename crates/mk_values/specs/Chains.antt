-- What a reference has found, through its modifiers.
use Rattle.std.specs.Prelude.{ℕ, ◌==◌, Bool, true, false, List, [], ◌∷◌, Option, Some, None, Result}
use Rattle.std.specs.Prelude.{Ok, Err, if◌then◌else◌, codes}
use Rattle.std.specs.List.{list_any}
use Rattle.mk_ast.specs.Tree as tree
use Rattle.mk_ast.specs.Tree.{Tree, Mods, no_mods, mod_then}
use Rattle.mk_cond.specs.Conditions.{condition_of}
use Rattle.mk_cond.specs.Cond.{Cond}
use Rattle.mk_cond.specs.declared.cond.Form.TheVariants.{Inner}
use Rattle.mk_cond.specs.declared.fault.CondFault.{CondFault}
use Rattle.mk_cond.specs.declared.fault.CondFault.TheVariants as of_conds
use Rattle.mk_mods.specs.Modifiers.{apply}
use Rattle.mk_mods.specs.Results.{no_results, with_result}
use Rattle.mk_mods.specs.State.{State, plain, text_of, words_of, with_items, items_of}
use Rattle.mk_mods.specs.declared.modifier.Mod.{Mod}
use Rattle.mk_mods.specs.declared.modifier.Mod.TheVariants.{Keep, Without, Subst, Suffix, Head}
use Rattle.mk_mods.specs.declared.modifier.Mod.TheVariants.{Tail}
use Rattle.mk_mods.specs.declared.modifier.Mod.TheVariants.{Root, Extension, Sort, SortBack, Unique}
use Rattle.mk_mods.specs.declared.modifier.Mod.TheVariants.{Lower, Upper, Quote, QuoteDollar}
use Rattle.mk_mods.specs.declared.modifier.Mod.TheVariants.{Separator, OneWord, ManyWords, Select}
use Rattle.mk_mods.specs.declared.modifier.Mod.TheVariants.{Range}
use Rattle.mk_values.specs.Conditions.{truth_of}
use Rattle.mk_values.specs.Evaluators.{Progress, Counted, Finder, ◌>>=◌, either, gives, tried}
use Rattle.mk_values.specs.ModFaults.{with_fault}
use Rattle.mk_values.specs.Names.{Context, while_bound}
use Rattle.mk_values.specs.Parts.{tree_value}
use Rattle.mk_values.specs.Separators.{separator_of}
use Rattle.mk_values.specs.Substitutions.{at_start, at_end, without_anchors, old_in_tree}
use Rattle.mk_values.specs.declared.chain.Found.{Found}
use Rattle.mk_values.specs.declared.fault.ExpandFault.{ExpandFault}
use Rattle.mk_values.specs.declared.fault.ExpandFault.TheVariants.{NoMemory}
use Rattle.mk_values.specs.declared.fault.ExpandFault.TheVariants as faults

-- a reference to a variable without a value
abbrev pub undefined : Found
undefined = record { value = []; defined = false }

abbrev pub defined_as : List ℕ → Found
defined_as value = record { value = value; defined = true }

-- a text that is the value
abbrev pub found_as : Counted (List ℕ) → Counted Found
found_as text = text >>= λ v. gives (defined_as v.0) v.1

-- A modifier of words without a text that has to be evaluated. The others are none.
abbrev pub textless : tree.Mod → Option Mod
textless tree.head = Some Head
textless tree.tail = Some Tail
textless tree.root = Some Root
textless tree.extension = Some Extension
textless tree.sort = Some Sort
textless tree.sort_back = Some SortBack
textless tree.unique = Some Unique
textless tree.lower = Some Lower
textless tree.upper = Some Upper
textless tree.quote = Some Quote
textless tree.quote_dollar = Some QuoteDollar
textless (tree.separator written) = Some (Separator (separator_of written))
textless (tree.one_word written) = Some OneWord
textless (tree.many_words written) = Some ManyWords
textless tree.range = Some (Range (codes "0"))
textless _ = None

abbrev pub with_text : Finder → Context → Progress → Tree → (List ℕ → Mod) → Counted (Option Mod)
with_text find c p text make = tree_value find c p text >>= λ v. gives (Some (make v.0)) v.1

abbrev pub has_flag : List ℕ → ℕ → Bool
has_flag flags flag = list_any (λ byte. byte == flag) flags

-- `:S` with its two texts; its flags are `g`, `1` and `W`
abbrev pub substitution : Tree → List ℕ → List ℕ → List ℕ → Mod
substitution from flags old new =
    Subst old new (at_start from) (at_end from) (has_flag flags 103) (has_flag flags 49)
    (has_flag flags 87)

abbrev pub subst_of : Finder → Context → Progress → Tree → Tree → List ℕ → Counted (Option Mod)
subst_of find c p from to flags =
    tree_value find c p (without_anchors from)
    >>= λ old. tree_value find c old.1 (old_in_tree old.0 to)
    >>= λ new. gives (Some (substitution from flags old.0 new.0)) new.1

abbrev pub suffix_of : Finder → Context → Progress → Tree → Tree → Counted (Option Mod)
suffix_of find c p from to =
    tree_value find c p from
    >>= λ old. tree_value find c old.1 to
    >>= λ new. gives (Some (Suffix old.0 new.0)) new.1

-- A modifier of words with its texts evaluated from left to right.
abbrev pub mod_of : Finder → Context → Progress → tree.Mod → Counted (Option Mod)
mod_of find c p (tree.keep pattern) = with_text find c p pattern Keep
mod_of find c p (tree.without pattern) = with_text find c p pattern Without
mod_of find c p (tree.subst delim from to flags) = subst_of find c p from to flags
mod_of find c p (tree.select places) = with_text find c p places Select
mod_of find c p (tree.range_to number) = with_text find c p number Range
mod_of find c p (tree.suffix from to) = suffix_of find c p from to
mod_of find c p m = gives (textless m) p

abbrev pub applied : Option Mod → State → Result State ExpandFault
applied None state = Ok state
applied (Some one) state = with_fault (apply one state)

-- what a chain works on: a state, and whether the value is defined
pub record Chain : Type 0 where
  pub state : State
  pub defined : Bool

abbrev pub with_state : Chain → State → Chain
with_state chain state = record { state = state; defined = chain.defined }

-- A text in place of the value is its one item, or none where it is empty. It is defined.
abbrev pub given_as : Chain → List ℕ → Chain
given_as chain text =
    record { state = with_items chain.state (items_of text); defined = true }

abbrev pub given : Chain → Counted (List ℕ) → Counted Chain
given chain value = value >>= λ v. gives (given_as chain v.0) v.1

-- `:U` gives its text where the value is undefined
abbrev pub if_undefined : Finder → Context → Progress → Chain → Tree → Counted Chain
if_undefined find c p chain text =
    either chain.defined (gives chain p) (given chain (tree_value find c p text))

-- `:D` gives its text where the value is defined, and else nothing
abbrev pub if_defined : Finder → Context → Progress → Chain → Tree → Counted Chain
if_defined find c p chain text =
    given chain (either chain.defined (tree_value find c p text) (gives [] p))

-- a fault in the condition of a `:?`; want of memory is what it is everywhere
abbrev pub of_cond : CondFault → ExpandFault
of_cond (of_conds.Bad at) = faults.Cond at
of_cond (of_conds.Tree fault) = faults.Tree fault
of_cond (of_conds.TooDeep at) = faults.Cond at
of_cond of_conds.NoMemory = NoMemory

abbrev pub with_cond_fault : Result Cond CondFault → Result Cond ExpandFault
with_cond_fault (Ok cond) = Ok cond
with_cond_fault (Err fault) = Err (of_cond fault)

-- the condition that the name of a `:?` is
abbrev pub name_condition : List ℕ → Result Cond ExpandFault
name_condition name = with_cond_fault (condition_of Inner name)

abbrev pub chosen : Finder → Context → Progress → List ℕ → Tree → Tree → Counted (List ℕ)
chosen find c p name first second =
    tried (name_condition name) p
    >>= λ cond. truth_of find c cond.1 cond.0
    >>= λ t. tree_value find c t.1 (if t.0 then first else second)

-- The body of `:@` for each word, for which its variable stands, behind the results so far. They
-- are too long from the first one on with which their printed text is.
unfoldable pub each_behind : Finder → Context → Progress → List ℕ → Tree → State → List (List ℕ)
    → Counted State
each_behind find c p name body results [] = gives results p
each_behind find c p name body results (word ∷ words) =
    tree_value find (while_bound c name word) p body
    >>= λ v. tried (with_fault (with_result results v.0)) v.1
    >>= λ more. each_behind find c more.1 name body more.0 words

-- `:@`: the results are the items
abbrev pub each : Finder → Context → Progress → Chain → List ℕ → Tree → Counted Chain
each find c p chain name body =
    each_behind find c p name body (no_results chain.state) (words_of chain.state)
    >>= λ results. gives (with_state chain results.0) results.1

abbrev pub word_modified : Finder → Context → Progress → Chain → tree.Mod → Counted Chain
word_modified find c p chain m =
    mod_of find c p m
    >>= λ one. tried (applied one.0 chain.state) one.1
    >>= λ state. gives (with_state chain state.0) state.1

-- `:?` gives what it chooses
abbrev pub choose : Finder → Context → Progress → List ℕ → Chain → Tree → Tree → Counted Chain
choose find c p name chain first second = given chain (chosen find c p name first second)

abbrev pub given_modified : Finder → Context → Progress → List ℕ → Chain → tree.Mod
    → Counted Chain
given_modified find c p name chain (tree.if_undefined text) = if_undefined find c p chain text
given_modified find c p name chain (tree.if_defined text) = if_defined find c p chain text
given_modified find c p name chain tree.name_of = gives (given_as chain name) p
given_modified find c p name chain m = word_modified find c p chain m

-- One modifier of a reference to a name. Only what is chosen is evaluated.
abbrev pub modified : Finder → Context → Progress → List ℕ → Chain → tree.Mod → Counted Chain
modified find c p name chain (tree.choose first second) = choose find c p name chain first second
modified find c p name chain (tree.each variable body) = each find c p chain variable body
modified find c p name chain m = given_modified find c p name chain m

-- the modifiers from left to right
unfoldable pub all_modified : Finder → Context → Progress → List ℕ → Chain → Mods → Counted Chain
all_modified find c p name chain no_mods = gives chain p
all_modified find c p name chain (mod_then m mods) =
    modified find c p name chain m >>= λ more. all_modified find c more.1 name more.0 mods

abbrev pub chain_of : Found → Chain
chain_of found = record { state = plain found.value; defined = found.defined }

-- the value of a reference to a name, behind its modifiers
abbrev pub chained : Finder → Context → Progress → List ℕ → Found → Mods → Counted Found
chained find c p name found mods =
    all_modified find c p name (chain_of found) mods
    >>= λ s. gives (record { value = text_of s.0.state; defined = s.0.defined }) s.1
