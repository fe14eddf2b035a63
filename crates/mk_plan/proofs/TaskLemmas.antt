-- Command lines that are expanded one after the other.
use Rattle.std.proofs.Common.{◌≡◌, ◌∙◌, ◌⊎◌, ℕ, ◌+◌, length, List, [], ◌∷◌, ◌++◌, Ok, Err, Result, inl, inr, refl, length-append, arith}
use Rattle.std.proofs.lemmas.Grind.{common_steps}
use Rattle.mk_bytes.specs.Agrees.{◌>>=◌}
use Rattle.mk_bytes.specs.declared.pair.Pair.{Pair}
use Rattle.mk_values.specs.Facts.{IsOutside}
use Rattle.mk_values.specs.declared.facts.Asked.{Asked}
use Rattle.mk_values.specs.declared.fault.ExpandFault.{ExpandFault}
use Rattle.mk_values.specs.declared.local.Locals.{Locals}
use Rattle.mk_flags.specs.declared.Flags.{Flags}
use Rattle.mk_graph.specs.declared.mode.Mode.{Mode}
use Rattle.mk_scopes.specs.Scopes.{Variables}
use Rattle.mk_world.specs.declared.command.Task.{Task}
use Rattle.mk_world.specs.declared.command.TaskLine.{TaskLine}
use Rattle.mk_plan.specs.Refusals.{IsTaskFault}
use Rattle.mk_plan.specs.Plans.{node_at}
use Rattle.mk_plan.specs.Tasks.{Setting, at_line, line_of, line_questions, lines_from, locals_of, manner_of, questions_from}
use Rattle.mk_plan.specs.Tasks.{task_of, task_with}
use Rattle.mk_plan.specs.declared.plan.PlanNode.{PlanNode}
use Rattle.mk_plan.specs.declared.tasks.Manner.{Manner}
use Rattle.mk_plan.specs.declared.fault.TaskFault.{TaskFault}

pub lines_from-end : (s : Setting) (l : Locals) (m : Manner) (lines : List TaskLine) (number : ℕ)
    (asked : List Asked) → lines_from s l m lines number asked [] ≡ Ok (lines, asked)
unfolding lines_from
lines_from-end s l m lines number asked = refl

-- one line more
pub lines_from-line : (s : Setting) (l : Locals) (m : Manner) (lines : List TaskLine) (number : ℕ)
    (asked now : List Asked) (rest : List (List ℕ)) (raw : List ℕ) (more : List (List ℕ))
    (line : TaskLine)
    → rest ≡ raw ∷ more → line_of s l m asked raw ≡ Ok (line, now)
    → lines_from s l m lines number asked rest
    ≡ lines_from s l m (lines ++ line ∷ []) (number + 1) now more
unfolding lines_from
lines_from-line s l m lines number asked now rest raw more line are is = rw (are, is) refl

-- a line's fault is that of all
pub lines_from-fault : (s : Setting) (l : Locals) (m : Manner) (lines : List TaskLine) (number : ℕ)
    (asked : List Asked) (rest : List (List ℕ)) (raw : List ℕ) (more : List (List ℕ))
    (what : ExpandFault)
    → rest ≡ raw ∷ more → IsOutside what ⊎ (line_of s l m asked raw ≡ Err what)
    → IsTaskFault (record { line = number; what = what }) (lines_from s l m lines number asked rest)
unfolding lines_from
lines_from-fault s l m lines number asked rest raw more what are (inl free) = inl free
lines_from-fault s l m lines number asked rest raw more what are (inr is) = rw (are, is) (inr refl)

pub questions_from-end : (s : Setting) (l : Locals) (m : Manner) (asked : List Asked)
    → questions_from s l m asked [] ≡ asked
unfolding questions_from
questions_from-end s l m asked = refl

-- the questions behind one line more
pub questions_from-line : (s : Setting) (l : Locals) (m : Manner) (asked now : List Asked)
    (rest : List (List ℕ)) (raw : List ℕ) (more : List (List ℕ)) (line : TaskLine)
    → rest ≡ raw ∷ more → line_of s l m asked raw ≡ Ok (line, now)
    → questions_from s l m asked rest ≡ questions_from s l m now more
unfolding questions_from
questions_from-line s l m asked now rest raw more line are is = rw (are, is) refl

-- those behind a line's fault are those behind all lines
pub questions_from-fault : (s : Setting) (l : Locals) (m : Manner) (asked now : List Asked)
    (rest : List (List ℕ)) (raw : List ℕ) (more : List (List ℕ)) (what : ExpandFault)
    → rest ≡ raw ∷ more
    → IsOutside what ⊎ (line_of s l m asked raw ≡ Err what)
    → IsOutside what ⊎ (line_questions s l asked raw ≡ now)
    → IsOutside what ⊎ (questions_from s l m asked rest ≡ now)
unfolding questions_from
questions_from-fault s l m asked now rest raw more what are (inl free) told = inl free
questions_from-fault s l m asked now rest raw more what are (inr is) (inl free) = inl free
questions_from-fault s l m asked now rest raw more what are (inr is) (inr told) =
    inr (rw (are, is) told)

bind-ok : {A B E : Type 0} (first : Result A E) (next : A → Result B E) (value : B)
    → (first >>= next) ≡ Ok value → (given : A) × (first ≡ Ok given) × (next given ≡ Ok value)
bind-ok (Ok given) next value is = (given, refl, is)
bind-ok (Err fault) next value is = cc

-- what is made of these lines is their task
task_is : (v : Variables) (e : List Pair) (name : List ℕ) (lines : List TaskLine) (asked now : List Asked)
    (task : Task) (result : Result (Task × List Asked) TaskFault)
    → result ≡ Ok (task_with v e name lines, asked) → result ≡ Ok (task, now)
    → task ≡ task_with v e name lines
task_is v e name lines asked now task result first second = grind (arith, common_steps)

-- as many lines as commands
lines_from-length : (s : Setting) (l : Locals) (m : Manner) (lines : List TaskLine) (number : ℕ)
    (asked now : List Asked) (raws : List (List ℕ)) (all : List TaskLine)
    → lines_from s l m lines number asked raws ≡ Ok (all, now)
    → length all ≡ length lines + length raws
unfolding lines_from
lines_from-length s l m lines number asked now [] all is =
    let same : lines ≡ all = grind (arith, common_steps) in rw (← same) (omega arith)
lines_from-length s l m lines number asked now (raw ∷ raws) all is =
    let parts = bind-ok (at_line number (line_of s l m asked raw))
    (λ line. lines_from s l m (lines ++ line.0 ∷ []) (number + 1) line.1 raws) (all, now) is in
    let more = lines_from-length s l m (lines ++ parts.0.0 ∷ []) (number + 1) parts.0.1 now raws all
    parts.2 in
    more ∙ rw (length-append lines (parts.0.0 ∷ [])) (omega arith)

-- the task of a node is that of its lines
task_of-lines : (s : Setting) (suffixes : List (List ℕ)) (nodes : List PlanNode) (n : ℕ)
    (oodate : List (List ℕ)) (mode : Mode) (f : Flags) (asked now : List Asked) (task : Task)
    → task_of s suffixes nodes n oodate mode f asked ≡ Ok (task, now)
    → (lines : List TaskLine) × (behind : List Asked)
    × (lines_from s (locals_of suffixes nodes n oodate) (manner_of mode f (node_at nodes n).marks) [] 1
    asked (node_at nodes n).commands ≡ Ok (lines, behind))
    × (task ≡ task_with s.variables mode.exports (node_at nodes n).name lines)
task_of-lines s suffixes nodes n oodate mode f asked now task is =
    let name = (node_at nodes n).name in
    let parts = bind-ok (lines_from s (locals_of suffixes nodes n oodate)
    (manner_of mode f (node_at nodes n).marks) [] 1 asked (node_at nodes n).commands)
    (λ lines. Ok (task_with s.variables mode.exports name lines.0, lines.1)) (task, now) is in (
      parts.0.0,
      parts.0.1,
      parts.1,
      task_is s.variables mode.exports name parts.0.0 parts.0.1 now task
          (Ok (task_with s.variables mode.exports name parts.0.0, parts.0.1)) refl parts.2,
    )

-- a task says nothing of a node but its lines, its name, the directory and the exported variables
pub task_of-with : (s : Setting) (suffixes : List (List ℕ)) (nodes : List PlanNode) (n : ℕ)
    (oodate : List (List ℕ)) (mode : Mode) (f : Flags) (asked now : List Asked) (task : Task)
    → task_of s suffixes nodes n oodate mode f asked ≡ Ok (task, now)
    → task ≡ task_with s.variables mode.exports (node_at nodes n).name task.lines
task_of-with s suffixes nodes n oodate mode f asked now task is =
    let made = task_of-lines s suffixes nodes n oodate mode f asked now task is in rw made.3 refl

-- the task of a node has a line for each of its commands
pub task_of-length : (s : Setting) (suffixes : List (List ℕ)) (nodes : List PlanNode) (n : ℕ)
    (oodate : List (List ℕ)) (mode : Mode) (f : Flags) (asked now : List Asked) (task : Task)
    → task_of s suffixes nodes n oodate mode f asked ≡ Ok (task, now)
    → length task.lines ≡ length (node_at nodes n).commands
task_of-length s suffixes nodes n oodate mode f asked now task is =
    let made = task_of-lines s suffixes nodes n oodate mode f asked now task is in
    rw made.3 (lines_from-length s (locals_of suffixes nodes n oodate)
    (manner_of mode f (node_at nodes n).marks) [] 1 asked made.1 (node_at nodes n).commands made.0
    made.2 ∙ omega arith)
