-- The line of a breach. Names and paths stand in it as they are.
use Rattle.std.specs.Prelude.{ℕ, List, [], ◌∷◌, ◌++◌, codes, flat_map}
use Rattle.mk_bytes.specs.Bytes.{newline, space}
use Rattle.mk_oodate.specs.declared.reason.Why.{Why}
use Rattle.mk_oodate.specs.declared.reason.Why.TheVariants as why
use Rattle.mk_breaches.specs.Breaches.{name_at}
use Rattle.mk_breaches.specs.declared.breach.Breach.{Breach}
use Rattle.mk_breaches.specs.declared.breach.Breach.TheVariants.{Mode, Asks, Differs, Unmeta}
use Rattle.mk_breaches.specs.declared.breach.Breach.TheVariants.{Task, Oodate, Exists, Unrecorded}
use Rattle.mk_breaches.specs.declared.breach.Breach.TheVariants.{Stale, ReadsMade, ReadsChanged}
use Rattle.mk_breaches.specs.declared.breach.Breach.TheVariants.{Changes, Unwritten, Meta}
use Rattle.mk_breaches.specs.declared.node.NodeFacts.{NodeFacts}

-- the word of a reason, without its number
abbrev pub reason_word : Why → List ℕ
reason_word why.Always = codes "always"
reason_word why.Missing = codes "missing"
reason_word (why.Newer place) = codes "newer"
reason_word why.NoMeta = codes "nometa"
reason_word why.Touched = codes "touched"
reason_word why.Command = codes "command"
reason_word why.NoRecords = codes "norecords"
reason_word (why.Read place) = codes "read"
reason_word (why.Appeared place) = codes "appeared"
reason_word (why.Left place) = codes "left"

-- a line of a word and a name
abbrev pub node_line : List ℕ → List ℕ → List ℕ
node_line word name = word ++ (space ∷ (name ++ newline ∷ []))

-- a line of a word, a name, and what is told of it
abbrev pub told_line : List ℕ → List ℕ → List ℕ → List ℕ
told_line word name told = word ++ (space ∷ (name ++ (space ∷ (told ++ newline ∷ []))))

abbrev pub line_of : List NodeFacts → Breach → List ℕ
line_of nodes Mode = codes "mode\n"
line_of nodes Asks = codes "asks\n"
line_of nodes Differs = codes "differs\n"
line_of nodes (Unmeta n) = node_line (codes "unmeta") (name_at nodes n)
line_of nodes (Task n) = node_line (codes "task") (name_at nodes n)
line_of nodes (Oodate n) = node_line (codes "oodate") (name_at nodes n)
line_of nodes (Exists n path) = told_line (codes "exists") (name_at nodes n) path
line_of nodes (Unrecorded n) = node_line (codes "unrecorded") (name_at nodes n)
line_of nodes (Stale n reason) = told_line (codes "stale") (name_at nodes n) (reason_word reason)
line_of nodes (ReadsMade n path) = told_line (codes "reads-made") (name_at nodes n) path
line_of nodes (ReadsChanged n path) = told_line (codes "reads-changed") (name_at nodes n) path
line_of nodes (Changes n path) = told_line (codes "changes") (name_at nodes n) path
line_of nodes (Unwritten n) = node_line (codes "unwritten") (name_at nodes n)
line_of nodes (Meta n path) = told_line (codes "meta") (name_at nodes n) path

abbrev pub lines_of : List NodeFacts → List Breach → List ℕ
lines_of nodes all = flat_map (line_of nodes) all
