-- Names and their numbers: those of the nodes, and behind them those that were added.
use Rattle.std.specs.Prelude.{ℕ, ◌+◌, ◌-◌, ◌==◌, Bool, ◌||◌, nat_lt, List, [], length, get_or}
use Rattle.std.specs.Prelude.{position, codes}
use Rattle.std.specs.Prelude.{Option, Some, None, Result, Ok, Err, if◌then◌else◌}
use Rattle.std.specs.Str.{bytes_eq}
use Rattle.mk_closure.specs.Parts.{State, with_name}
use Rattle.mk_closure.specs.declared.fault.CloseFault.{CloseFault}
use Rattle.mk_closure.specs.declared.fault.CloseFault.TheVariants.{Full}
use Rattle.mk_graph.specs.Nodes.{node_at, number_of}
use Rattle.mk_pool.specs.declared.pool.TheConstants.{MAX_NAMES}

-- a number, where there is none the one behind so many
abbrev pub or_behind : ℕ → Option ℕ → Option ℕ → Option ℕ
or_behind count (Some n) place = Some n
or_behind count None None = None
or_behind count None (Some place) = Some (count + place)

abbrev pub number_in : State → List ℕ → Option ℕ
number_in s name =
    or_behind (length s.nodes) (number_of s.nodes name) (position (bytes_eq name) s.added)

abbrev pub name_in : State → ℕ → List ℕ
name_in s n =
    if nat_lt n (length s.nodes) then (node_at s.nodes n).name
    else get_or s.added (n - length s.nodes) []

abbrev pub numbered_as : State → List ℕ → Option ℕ → Result (State × ℕ) CloseFault
numbered_as s name (Some n) = Ok (s, n)
numbered_as s name None =
    if length s.parts == MAX_NAMES then Err Full else Ok (with_name s name, length s.parts)

-- the number of a name, which is added where it has none
abbrev pub numbered : State → List ℕ → Result (State × ℕ) CloseFault
numbered s name = numbered_as s name (number_in s name)

-- the targets around a build, which no walk meets
abbrev pub is_frame : List ℕ → Bool
is_frame name = bytes_eq name (codes ".BEGIN") || bytes_eq name (codes ".END")
