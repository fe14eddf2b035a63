-- Small plans, and how old their nodes are.
use Rattle.std.proofs.Common.{◌≡◌, ℕ, List, [], ◌∷◌, codes, Some, None, true, false, inl, inr, refl}
use Rattle.mk_graph.specs.Marks.{no_marks}
use Rattle.mk_graph.specs.declared.attr.Marks.{Marks}
use Rattle.mk_graph.specs.declared.mode.Mode.{Mode}
use Rattle.mk_plan.specs.declared.plan.PlanNode.{PlanNode}
use Rattle.mk_world.specs.declared.time.When.{When}
use Rattle.mk_world.specs.declared.time.When.TheVariants.{Missing, At, Unknown}
use Rattle.mk_decision.specs.Ages.{age, source_ages, AreSeen}
use Rattle.mk_decision.specs.Reasons.{by_times}
use Rattle.mk_decision.specs.Tests.{newer_names, node_mode}
use Rattle.mk_oodate.specs.declared.reason.Age.TheVariants as of
use Rattle.mk_oodate.specs.declared.reason.Why.TheVariants as why
use Rattle.mk_world.specs.declared.command.Task.{Task}
use Rattle.mk_decision.specs.declared.sight.Sighting.{Sighting}

abbrev node : List ℕ → List ℕ → List (List ℕ) → Marks → PlanNode
node name sources commands marks = record {
  name = name;
  sources = sources;
  before = sources;
  commands = commands;
  implied = [];
  marks = marks;
}

abbrev at : ℕ → When → Sighting
at place when = record { place = place; when = when }

-- no word of `.MAKE.MODE`
abbrev no_mode : Mode
no_mode = record {
  meta = false;
  curdir_ok = false;
  missing_meta = false;
  missing_filemon = false;
  nofilemon = false;
  ignore_cmd = false;
  silent = false;
  one_job = false;
  delete_on_error = false;
  ignore_paths = [];
  exports = [];
}

abbrev time : ℕ → When
time number = At (record { 0 = number })

-- a file; three nodes without files over it, with nothing, with commands and with `.EXEC`; a node
-- over all of them, which has no file either; and a phony node
abbrev plan : List PlanNode
plan = node (codes "a") [] [] no_marks
    ∷ node (codes "b") (0 ∷ []) [] no_marks
    ∷ node (codes "c") (0 ∷ []) (codes "make c" ∷ []) no_marks
    ∷ node (codes "d") (0 ∷ []) [] (record no_marks { exec = true })
    ∷ node (codes "e") (1 ∷ 3 ∷ []) [] no_marks
    ∷ node (codes "f") [] [] (record no_marks { phony = true })
    ∷ node (codes "t") (4 ∷ 3 ∷ []) (codes "make t" ∷ []) no_marks
    ∷ []

abbrev seen : List Sighting
seen = at 4 Missing ∷ at 3 Missing ∷ at 1 Missing ∷ at 0 (time 5) ∷ []

-- the looks for the last node go back to the file
looked : AreSeen plan 6 (4 ∷ 3 ∷ []) seen
looked =
    inl (
      refl,
      inr (
        refl,
        Missing,
        _,
        refl,
        inr (
          refl,
          Missing,
          _,
          refl,
          inl (
            refl,
            inr (
              refl,
              Missing,
              _,
              refl,
              inr (refl, time 5, _, refl, refl),
            ),
          ),
        ),
      ),
    )

of_file : age plan seen 0 ≡ of.At (record { 0 = 5 })
of_file = refl

of_sources : age plan seen 4 ≡ of.At (record { 0 = 5 })
of_sources = refl

of_exec : age plan seen 3 ≡ of.Old
of_exec = refl

of_commands : age plan (at 2 Missing ∷ []) 2 ≡ of.New
of_commands = refl

of_nothing : age plan (at 0 Missing ∷ []) 0 ≡ of.New
of_nothing = refl

of_unknown : age plan (at 0 Unknown ∷ []) 0 ≡ of.New
of_unknown = refl

of_phony : age plan (at 5 Missing ∷ []) 5 ≡ of.New
of_phony = refl

of_all : source_ages plan 6 seen ≡ of.At (record { 0 = 5 }) ∷ of.Old ∷ []
of_all = refl

abbrev task : Task
task = record { lines = []; cwd = codes "/w"; target = codes "t"; exports = [] }

-- a file that is as old as the newest source is kept, an older one is not
kept : by_times (node_mode no_mode no_marks) task (time 5) (source_ages plan 6 seen) ≡ None
kept = refl

made : by_times (node_mode no_mode no_marks) task (time 4) (source_ages plan 6 seen)
    ≡ Some (why.Newer 0)
made = refl

always : by_times (node_mode no_mode (record no_marks { remake = true })) task (time 5) []
    ≡ Some why.Always
always = refl

newer : newer_names (time 4) (codes "e" ∷ codes "d" ∷ []) (source_ages plan 6 seen)
    ≡ codes "e" ∷ []
newer = refl

newer_than_none : newer_names Missing (codes "e" ∷ codes "d" ∷ []) (source_ages plan 6 seen)
    ≡ codes "e" ∷ codes "d" ∷ []
newer_than_none = refl
