-- The value of a text, and the truth of a condition.
use Rattle.std.specs.Prelude.{ℕ, zero, suc, Bool, false, nat_lt, List, [], ◌∷◌, ◌++◌, Option, Some}
use Rattle.std.specs.Prelude.{None}
use Rattle.std.specs.Prelude.{Result, Ok, Err}
use Rattle.mk_bytes.specs.Texts.{is_among}
use Rattle.mk_ast.specs.Tree.{Tree, Part, Mods, short, ref}
use Rattle.mk_cond.specs.Cond.{Cond}
use Rattle.mk_scopes.specs.Scopes.{Variables}
use Rattle.mk_values.specs.Chains.{undefined, defined_as, chained}
use Rattle.mk_values.specs.Conditions.{truth_of}
use Rattle.mk_values.specs.Evaluators.{Answer, Progress, Counted, Finder, ◌>>=◌, either, gives}
use Rattle.mk_values.specs.Evaluators.{looking}
use Rattle.mk_values.specs.Evaluators.{noting, progress, tried, with_reference}
use Rattle.mk_values.specs.Facts.{Answers, Lists}
use Rattle.mk_values.specs.declared.facts.Asked.{Asked}
use Rattle.mk_values.specs.Limits.{max_open, max_references}
use Rattle.mk_values.specs.Names.{Context, context, in_name, while_open, raw_of}
use Rattle.mk_values.specs.Parts.{tree_value, text_value}
use Rattle.mk_values.specs.declared.chain.Found.{Found}
use Rattle.mk_values.specs.declared.fault.ExpandFault.{ExpandFault}
use Rattle.mk_values.specs.declared.fault.ExpandFault.TheVariants.{Recursive, TooDeep}
use Rattle.mk_values.specs.declared.fault.ExpandFault.TheVariants.{TooManyReferences}
use Rattle.mk_values.specs.declared.local.Locals.{Locals}

-- a raw value is a text, whose variable's name is open while it is evaluated
abbrev pub opened_value : Finder → Context → Progress → List ℕ → List ℕ → Counted Found
opened_value find c p name raw =
    text_value find (while_open c name) p raw >>= λ v. gives (defined_as v.0) v.1

abbrev pub expanded : Finder → Context → Progress → List ℕ → Option (List ℕ) → Counted Found
expanded find c p name None = gives undefined p
expanded find c p name (Some raw) = opened_value find c p name raw

-- what a variable with this raw value gives, where its own value must not refer to its name
abbrev pub variable_by : Finder → Context → Progress → List ℕ
    → Result (Option (List ℕ)) ExpandFault → Counted Found
variable_by find c p name raw =
    either (is_among c.open_names name) (tried (Err (Recursive name)) p)
    (tried raw p >>= λ raw. expanded find c raw.1 name raw.0)

-- A variable, whose name is looked up.
abbrev pub variable : Finder → Context → Progress → List ℕ → Counted Found
variable find c p name = looking name (variable_by find c (noting name p) name (raw_of c name))

-- The name is expanded first, then the variable's value, and then come the modifiers. Nothing of
-- the name and the modifiers stays as it is written.
abbrev pub reference : Finder → Context → Progress → Tree → Mods → Counted Found
reference find c p name mods =
    tree_value find (in_name c) p name
    >>= λ n. variable find c n.1 n.0
    >>= λ v. chained find (in_name c) v.1 n.0 v.0 mods

-- what a part finds that is a reference
abbrev pub found : Finder → Context → Progress → Part → Counted Found
found find c p (short byte) = variable find c p (byte ∷ [])
found find c p (ref round name mods) = reference find c p name mods
found find c p _ = gives undefined p

-- What a reference finds, with room for so many open ones. It is counted and opened before anything
-- of it is evaluated.
unfoldable pub found_at : ℕ → Finder
found_at zero c p part = tried (Err TooDeep) p
found_at (suc room) c p part =
    either (nat_lt p.references max_references) (found (found_at room) c (with_reference p) part)
    (tried (Err TooManyReferences) p)

-- what references find, with no other one open
abbrev pub finder : Finder
finder = found_at max_open

-- what is found or the first fault, and the questions behind what is found
abbrev pub with_asked : {A : Type 0} → Answer A → Result (A × List Asked) ExpandFault
with_asked (Ok found) = Ok (found.0, found.1.asked)
with_asked (Err fault) = Err fault.0

-- the questions behind what is found, or behind the first fault
abbrev pub questions_of : {A : Type 0} → Answer A → List Asked
questions_of (Ok found) = found.1.asked
questions_of (Err fault) = fault.1.asked

-- What a tree gives, with the flag of `:=` or without it, behind earlier questions.
abbrev pub of_tree : Variables → Locals → Lists → Answers → Bool → List Asked → Tree
    → Counted (List ℕ)
of_tree variables locals lists answers keep asked tree =
    tree_value finder (context variables locals lists answers keep) (progress 0 asked) tree

-- What a text gives.
abbrev pub of_text : Variables → Locals → Lists → Answers → Bool → List Asked → List ℕ
    → Counted (List ℕ)
of_text variables locals lists answers keep asked text =
    text_value finder (context variables locals lists answers keep) (progress 0 asked) text

-- What a condition gives.
abbrev pub of_condition : Variables → Locals → Lists → Answers → List Asked → Cond → Counted Bool
of_condition variables locals lists answers asked cond =
    truth_of finder (context variables locals lists answers false) (progress 0 asked) cond

-- The value of a tree, or the first fault.
abbrev pub value : Variables → Locals → Lists → Answers → Bool → List Asked → Tree
    → Result (List ℕ × List Asked) ExpandFault
value variables locals lists answers keep asked tree =
    with_asked (of_tree variables locals lists answers keep asked tree).answer

-- The value of a text, or the first fault.
abbrev pub value_of_text : Variables → Locals → Lists → Answers → Bool → List Asked → List ℕ
    → Result (List ℕ × List Asked) ExpandFault
value_of_text variables locals lists answers keep asked text =
    with_asked (of_text variables locals lists answers keep asked text).answer

-- The truth of a condition, or the first fault.
abbrev pub truth : Variables → Locals → Lists → Answers → List Asked → Cond
    → Result (Bool × List Asked) ExpandFault
truth variables locals lists answers asked cond =
    with_asked (of_condition variables locals lists answers asked cond).answer

-- The names that are looked up where a tree is evaluated.
abbrev pub names : Variables → Locals → Lists → Answers → Bool → List Asked → Tree → List (List ℕ)
names variables locals lists answers keep asked tree =
    (of_tree variables locals lists answers keep asked tree).names []

-- these names and the questions, where something is found, or the first fault
abbrev pub names_where : {A : Type 0} → Answer A → List (List ℕ)
    → Result (List (List ℕ) × List Asked) ExpandFault
names_where (Ok found) names = Ok (names, found.1.asked)
names_where (Err fault) names = Err fault.0

-- The names of before, and behind them those that are looked up where a tree is evaluated; or its
-- first fault.
abbrev pub names_behind : Variables → Locals → Lists → Answers → List Asked → Tree → List (List ℕ)
    → Result (List (List ℕ) × List Asked) ExpandFault
names_behind variables locals lists answers asked tree before =
    names_where (of_tree variables locals lists answers false asked tree).answer
    (before ++ names variables locals lists answers false asked tree)
