-- How a node is made.
use Rattle.std.specs.Prelude.{ℕ, zero, suc, Bool, false, List, [], length, get_or, codes}
use Rattle.std.specs.Prelude.{Option, Some, None, Result, Ok, Err, if◌then◌else◌}
use Rattle.mk_bytes.specs.Agrees.{◌>>=◌}
use Rattle.mk_closure.specs.Means.{has_commands}
use Rattle.mk_closure.specs.Names.{name_in, numbered}
use Rattle.mk_closure.specs.Parts.{State, is_open, with_way}
use Rattle.mk_closure.specs.declared.fault.CloseFault.{CloseFault}
use Rattle.mk_closure.specs.declared.fault.CloseFault.TheVariants.{NoRule}
use Rattle.mk_closure.specs.declared.means.Means.{Means}
use Rattle.mk_closure.specs.declared.means.Means.TheVariants as mean
use Rattle.mk_closure.specs.declared.part.Way.TheVariants.{Own, Rule, Placed, Default, Dropped}
use Rattle.mk_graph.specs.Marks.{has}
use Rattle.mk_graph.specs.Nodes.{Node, node_at, number_of}
use Rattle.mk_graph.specs.declared.attr.Attr.TheVariants.{Optional}
use Rattle.mk_suffix.specs.declared.chain.Chain.{Chain}

-- a walk so far, or its refusal
abbrev pub Walk : Type 0
Walk = Result State CloseFault

-- a name is made by a rule from a source, whose number is answered too
abbrev pub linked_to : State → ℕ → ℕ → List ℕ → Result (State × ℕ) CloseFault
linked_to s n rule source =
    numbered s source >>= λ found. Ok (with_way found.0 n (Rule rule found.1), found.1)

-- The first links of a chain, so many, from the last of them on, which makes this name. One that
-- is decided stays so, and so do those before it.
unfoldable pub linked : State → ℕ → Chain → ℕ → Walk
linked s n chain zero = Ok s
linked s n chain (suc links) =
    if is_open s n
    then (linked_to s n (get_or chain.rules links 0) (get_or chain.names links [])
    >>= λ found. linked found.0 found.1 chain links)
    else Ok s

abbrev pub serves_at : List Node → Option ℕ → Bool
serves_at nodes None = false
serves_at nodes (Some n) = has_commands nodes n

-- whether `.DEFAULT` has commands; without them it serves nobody
abbrev pub has_default : List Node → Bool
has_default nodes = serves_at nodes (number_of nodes (codes ".DEFAULT"))

abbrev pub is_optional : List Node → ℕ → Bool
is_optional nodes n = has (node_at nodes n).marks Optional

-- a name that nothing else makes
abbrev pub missing : State → ℕ → Walk
missing s n =
    if has_default s.nodes then Ok (with_way s n Default)
    else (if is_optional s.nodes n then Ok (with_way s n Dropped)
    else Err (NoRule (name_in s n)))

-- the node of its place stands for a node
abbrev pub placed : State → ℕ → List ℕ → Walk
placed s n place = numbered s place >>= λ found. Ok (with_way found.0 n (Placed found.1))

-- a node is made by what there is
abbrev pub decided : State → ℕ → Means → Walk
decided s n mean.Own = Ok (with_way s n Own)
decided s n (mean.Chained chain) = linked s n chain (length chain.rules)
decided s n (mean.Placed place) = placed s n place
decided s n mean.Missing = missing s n
