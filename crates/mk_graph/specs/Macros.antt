-- Macros, the nodes with `.USE` or `.USEBEFORE`, and what targets take of them.
use Rattle.std.specs.Prelude.{ℕ, zero, suc, List, [], ◌∷◌, ◌++◌, length, map}
use Rattle.std.specs.Prelude.{get_or, Option, Some, None, if◌then◌else◌}
use Rattle.mk_graph.specs.Marks.{is_macro, takes_macros, taken_marks}
use Rattle.mk_graph.specs.Nodes.{Node, names_of}
use Rattle.mk_graph.specs.View.{nodes_of}
use Rattle.mk_graph.specs.Walks.{is_among}
use Rattle.mk_graph.specs.declared.attr.Marks.{Marks}
use Rattle.mk_graph.specs.declared.links.Links.{Links}

-- what a node is as a macro
abbrev pub macro_of : Links → Option Links
macro_of links = if is_macro links.marks then Some links else None

abbrev pub macros_of : List Links → List (Option Links)
macros_of all = map macro_of all

abbrev pub macro_at : List (Option Links) → ℕ → Option Links
macro_at macros n = get_or macros n None

-- the sources that are kept, and the macros that are taken, both in order
pub record Parted : Type 0 where
  pub kept : List ℕ
  pub taken : List ℕ

-- what parts the sources that are left, where some were kept and some macros taken
abbrev pub Part : Type 0
Part = List ℕ → List ℕ → List ℕ → Parted

abbrev pub by_source : Option Links → Parted → (Links → Parted) → Parted
by_source None plain macro = plain
by_source (Some links) plain macro = macro links

-- A source that is no macro is kept. A macro that was taken is dropped. Another one is taken, and
-- its sources are gone through behind those that are left.
unfoldable pub all_parted : List (Option Links) → Part → Part
all_parted macros further kept taken [] = record { kept = kept; taken = taken }
all_parted macros further kept taken (n ∷ more) =
    by_source (macro_at macros n)
    (all_parted macros further (kept ++ n ∷ []) taken more)
    (λ links. if is_among taken n then all_parted macros further kept taken more
    else further kept (taken ++ n ∷ []) (more ++ links.sources))

-- Each macro is taken once, so there is never need of more room than there are nodes.
unfoldable pub parted : ℕ → List (Option Links) → Part
parted zero macros kept taken sources = record { kept = kept; taken = taken }
parted (suc room) macros kept taken sources =
    all_parted macros (parted room macros) kept taken sources

-- all sources of a target, parted
abbrev pub sources_parted : List (Option Links) → List ℕ → Parted
sources_parted macros sources = parted (suc (length macros)) macros [] [] sources

-- the commands of `.USE` go behind those that there are, and the others before them
abbrev pub commands_by : Option Links → List (List ℕ) → List (List ℕ)
commands_by None own = own
commands_by (Some links) own =
    if links.marks.macro_behind then own ++ links.commands else links.commands ++ own

abbrev pub all_commands : List (Option Links) → List (List ℕ) → List ℕ → List (List ℕ)
all_commands macros own [] = own
all_commands macros own (n ∷ more) =
    all_commands macros (commands_by (macro_at macros n) own) more

abbrev pub marks_by : Option Links → Marks → Marks
marks_by None own = own
marks_by (Some links) own = taken_marks own links.marks

abbrev pub all_marks : List (Option Links) → Marks → List ℕ → Marks
all_marks macros own [] = own
all_marks macros own (n ∷ more) = all_marks macros (marks_by (macro_at macros n) own) more

abbrev pub with_taken : List (Option Links) → Links → Parted → Links
with_taken macros own sources = record {
  sources = sources.kept;
  ordered = own.ordered;
  commands = all_commands macros own.commands sources.taken;
  marks = all_marks macros own.marks sources.taken;
}

-- a target with what it takes
abbrev pub with_macros : List (Option Links) → Links → Links
with_macros macros own =
    if takes_macros own.marks
    then with_taken macros own (sources_parted macros own.sources) else own

abbrev pub all_with_macros : List Links → List Links
all_with_macros all = map (with_macros (macros_of all)) all

abbrev pub links_of : Node → Links
links_of node = record {
  sources = node.sources;
  ordered = node.ordered;
  commands = node.commands;
  marks = node.marks;
}

-- Each target that is no macro takes the macros among its sources.
abbrev pub graph_with_macros : List Node → List Node
graph_with_macros nodes = nodes_of (names_of nodes) (all_with_macros (map links_of nodes))
