-- A job of a task has a meta file.
use Rattle.std.proofs.Common.{◌≡◌, ℕ, ◌+◌, ◌<◌, ◌≤◌, ◌^◌, true, List, [], ◌∷◌, ◌++◌}
use Rattle.std.proofs.Common.{length, map, Some, None, refl, ap, suc, arith}
use Rattle.std.proofs.lemmas.Bool.Decides.{nat_tests}
use Rattle.std.specs.List.{AllByRecursion}
use Rattle.mk_filemon.proofs.EscapeLemmas.{cases}
use Rattle.mk_filemon.specs.Records.{IsLine}
use Rattle.mk_filemon.specs.declared.record.Rec.{Rec}
use Rattle.mk_world.specs.declared.command.TaskLine.{TaskLine}
use Rattle.mk_world.specs.declared.step.Op.{Op}
use Rattle.mk_meta.specs.Jobs.{JobsAreLawful, is_empty, kept_line, numbered, records_from}
use Rattle.mk_meta.specs.Lawful.{IsKept, IsOfLines, is_command}
use Rattle.mk_meta.specs.TrueHistory.{NothingToTell}

abbrev Of : ℕ → Rec → Type 0
Of count one = IsOfLines count one

numbered-of : (count number : ℕ) (ops : List Op) → IsLine number → number ≤ count
    → AllByRecursion (Of count) (numbered number ops)
numbered-of count number [] is within = tt
numbered-of count number (one ∷ ops) is within =
    ((is, grind (arith, nat_tests)), numbered-of count number ops is within)

both : (count : ℕ) (first second : List Rec) → AllByRecursion (Of count) first
    → AllByRecursion (Of count) second → AllByRecursion (Of count) (first ++ second)
both count [] second all more = more
both count (one ∷ first) second all more = (all.0, both count first second all.1 more)

from : (count number : ℕ) (lines : List TaskLine) (children : List (List Op))
    → 1 ≤ number → number + length lines ≤ count + 1 → count < 2 ^ 32
    → AllByRecursion (Of count) (records_from number lines children)
from count number [] children least within few = tt
from count number (line ∷ lines) [] least within few = tt
from count number (line ∷ lines) (ops ∷ children) least within few =
    let here : number ≤ count = omega arith in
    let more : number + 1 + length lines ≤ count + 1 = omega arith in
    let small : number < 2 ^ 32 = omega arith in
    let next : 1 ≤ number + 1 = omega arith in
    cases (is_empty line.text)
    (λ is. rw is (from count (number + 1) lines (ops ∷ children) next more few))
    (λ none. rw none (both count (numbered number ops) (records_from (number + 1) lines children)
    (numbered-of count number ops (record { first = least; small = small }) here)
    (from count (number + 1) lines children next more few)))

kept : (lines : List TaskLine) → AllByRecursion (λ line. is_command line.text ≡ true) lines
    → AllByRecursion IsKept (map kept_line lines)
kept [] all = tt
kept (line ∷ lines) all =
    (record { command = all.0; silent = refl; always = refl; compared = refl }, kept lines all.1)

length-kept : (lines : List TaskLine) → length (map kept_line lines) ≡ length lines
length-kept [] = refl
length-kept (line ∷ lines) = ap suc (length-kept lines)

pub jobs_are_lawful : JobsAreLawful
jobs_are_lawful stamp task output None told early short = record {
  stamp = early;
  output = short;
  lines = kept task.lines told.commands;
  names = told.names;
  sorted = told.sorted;
  records = tt;
}
jobs_are_lawful stamp task output (Some children) told early short = record {
  stamp = early;
  output = short;
  lines = kept task.lines told.commands;
  names = told.names;
  sorted = told.sorted;
  records = rw (length-kept task.lines)
      (from (length task.lines) 1 task.lines children (omega arith) (omega arith) told.few);
}

pub nothing_to_tell : NothingToTell
nothing_to_tell next history none meta lawful stands = absurd (none meta lawful stands)
