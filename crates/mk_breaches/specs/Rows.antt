-- What is known of each path, in one table: it is told from the nodes one after the other.
use Rattle.std.specs.Prelude.{ℕ, ◌+◌, ◌==◌, ◌||◌, Bool, true, false, not, List, [], ◌∷◌, Option}
use Rattle.std.specs.Prelude.{Some, None, if◌then◌else◌}
use Rattle.std.specs.Map.{lookup}
use Rattle.std.specs.Option.{unwrap_or}
use Rattle.std.specs.Str.{bytes_eq}
use Rattle.mk_filemon.specs.Outer.{ops_of}
use Rattle.mk_world.specs.declared.step.Op.{Op}
use Rattle.mk_world.specs.declared.step.Op.TheVariants.{Read, Miss, Write, Delete, Move}
use Rattle.mk_breaches.specs.declared.node.NodeFacts.{NodeFacts}
use Rattle.mk_breaches.specs.declared.table.Naming.{Naming}
use Rattle.mk_breaches.specs.declared.table.Naming.TheVariants.{Nowhere, Once, Often}
use Rattle.mk_breaches.specs.declared.table.Row.{Row}

abbrev pub Rows : Type 0
Rows = List ℕ → Row

abbrev pub no_row : Row
no_row = record { node = false; maker = None; changed = false; naming = Nowhere }

abbrev pub no_rows : Rows
no_rows path = no_row

abbrev pub with_row : Rows → List ℕ → Row → Rows
with_row rows path row = λ other. if bytes_eq path other then row else rows other

-- a node's records name the path too
abbrev pub named_too : ℕ → Naming → Naming
named_too n Nowhere = Once n
named_too n (Once other) = if other == n then Once other else Often
named_too n Often = Often

-- whether the records of another node name the path
abbrev pub by_other : ℕ → Naming → Bool
by_other n Nowhere = false
by_other n (Once other) = not (other == n)
by_other n Often = true

-- the first maker stays
abbrev pub made_too : ℕ → Bool → Option ℕ → Option ℕ
made_too n made (Some maker) = Some maker
made_too n true None = Some n
made_too n false None = None

-- a node's path
abbrev pub node_row : ℕ → Bool → Row → Row
node_row n made row = record row { node = true; maker = made_too n made row.maker }

-- a path that a record names, and says or does not say was changed
abbrev pub named_row : ℕ → Bool → Row → Row
named_row n changed row =
    record row { changed = row.changed || changed; naming = named_too n row.naming }

abbrev pub noted_path : ℕ → Bool → Rows → List ℕ → Rows
noted_path n changed rows path = with_row rows path (named_row n changed (rows path))

abbrev pub noted_op : ℕ → Rows → Op → Rows
noted_op n rows (Read path) = noted_path n false rows path
noted_op n rows (Miss path) = noted_path n false rows path
noted_op n rows (Write path) = noted_path n true rows path
noted_op n rows (Delete path) = noted_path n true rows path
noted_op n rows (Move from to) = noted_path n true (noted_path n true rows from) to

abbrev pub noted_ops : ℕ → Rows → List Op → Rows
noted_ops n rows [] = rows
noted_ops n rows (op ∷ ops) = noted_ops n (noted_op n rows op) ops

abbrev pub noted_node : ℕ → Rows → NodeFacts → Rows
noted_node n rows node =
    noted_ops n (with_row rows node.name (node_row n node.made (rows node.name))) (ops_of node.records)

-- nodes one after the other, of which the first has this number
abbrev pub noted_from : ℕ → Rows → List NodeFacts → Rows
noted_from n rows [] = rows
noted_from n rows (node ∷ nodes) = noted_from (n + 1) (noted_node n rows node) nodes
