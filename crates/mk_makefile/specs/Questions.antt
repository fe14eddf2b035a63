-- Questions that reading asks of the world, and their answers.
use Rattle.std.specs.Prelude.{◌≡◌, ℕ, not, List, [], ◌∷◌, ◌++◌, Option, Some, slice_get}
use Rattle.std.proofs.Common.{refl, ap}
use Rattle.mk_values.specs.Facts.{AnsweredBy}
use Rattle.mk_values.specs.Facts as expand
use Rattle.mk_values.specs.declared.facts.Asked.{Asked}
use Rattle.mk_world.specs.Looks.{DatesOnce, is_missing}
use Rattle.mk_world.specs.Runs.{Listed, Looked, RanAtMost}
use Rattle.mk_world.specs.Runs as runs
use Rattle.mk_world.specs.Talks.{Meaning}
use Rattle.mk_world.specs.declared.command.Cmd.{Cmd}
use Rattle.mk_world.specs.declared.history.History.{History}
use Rattle.mk_world.specs.declared.step.Ended.{Ended}
use Rattle.mk_world.specs.declared.time.When.{When}

pub data Question : Type 0 where
  -- the bytes of a path
  bytes_of : (path : List ℕ) → (found : Option (List ℕ)) → Question
  -- its time, for `exists`
  time_of : (path : List ℕ) → (when : When) → Question
  -- the names in a directory, for a name with wildcards
  names_of : (dir : List ℕ) → (names : Option (List (List ℕ))) → Question
  -- a command, for `!=`
  output_of : (cmd : Cmd) → (ended : Ended) → Question
  -- a command that was not answered
  cut : (cmd : Cmd) → Question

-- a file that was read
pub record Reading : Type 0 where
  pub path : List ℕ
  pub found : Option (List ℕ)

-- a directory that was listed
pub record Listing : Type 0 where
  pub dir : List ℕ
  pub names : Option (List (List ℕ))

-- a command that was run
pub record Running : Type 0 where
  pub cmd : Cmd
  pub ended : Ended

-- these are of `exists` alone
abbrev pub AreTimes : List Question → Type 0
AreTimes [] = Unit {0}
AreTimes (time_of path when ∷ more) = AreTimes more
AreTimes (bytes_of path found ∷ more) = ⊥
AreTimes (names_of dir names ∷ more) = ⊥
AreTimes (output_of cmd ended ∷ more) = ⊥
AreTimes (cut cmd ∷ more) = ⊥

-- the questions of each sort, in order; a file is there unless its time says that it is missing
abbrev pub times_in : List Question → List Asked
times_in [] = []
times_in (time_of path when ∷ more) =
    record { path = path; answer = not (is_missing when) } ∷ times_in more
times_in (bytes_of path found ∷ more) = times_in more
times_in (names_of dir names ∷ more) = times_in more
times_in (output_of cmd ended ∷ more) = times_in more
times_in (cut cmd ∷ more) = times_in more

abbrev pub readings_in : List Question → List Reading
readings_in [] = []
readings_in (bytes_of path found ∷ more) = record { path = path; found = found } ∷ readings_in more
readings_in (time_of path when ∷ more) = readings_in more
readings_in (names_of dir names ∷ more) = readings_in more
readings_in (output_of cmd ended ∷ more) = readings_in more
readings_in (cut cmd ∷ more) = readings_in more

abbrev pub listings_in : List Question → List Listing
listings_in [] = []
listings_in (names_of dir names ∷ more) = record { dir = dir; names = names } ∷ listings_in more
listings_in (bytes_of path found ∷ more) = listings_in more
listings_in (time_of path when ∷ more) = listings_in more
listings_in (output_of cmd ended ∷ more) = listings_in more
listings_in (cut cmd ∷ more) = listings_in more

abbrev pub runnings_in : List Question → List Running
runnings_in [] = []
runnings_in (output_of cmd ended ∷ more) = record { cmd = cmd; ended = ended } ∷ runnings_in more
runnings_in (bytes_of path found ∷ more) = runnings_in more
runnings_in (time_of path when ∷ more) = runnings_in more
runnings_in (names_of dir names ∷ more) = runnings_in more
runnings_in (cut cmd ∷ more) = runnings_in more

-- the commands that were not answered
abbrev pub cuts_in : List Question → List Cmd
cuts_in [] = []
cuts_in (cut cmd ∷ more) = cmd ∷ cuts_in more
cuts_in (bytes_of path found ∷ more) = cuts_in more
cuts_in (time_of path when ∷ more) = cuts_in more
cuts_in (names_of dir names ∷ more) = cuts_in more
cuts_in (output_of cmd ended ∷ more) = cuts_in more

pub times_in-append : (first second : List Question)
    → times_in (first ++ second) ≡ times_in first ++ times_in second
times_in-append [] second = refl
times_in-append (time_of path when ∷ more) second =
    ap (λ (l : List Asked). record { path = path; answer = not (is_missing when) } ∷ l)
    (times_in-append more second)
times_in-append (bytes_of path found ∷ more) second = times_in-append more second
times_in-append (names_of dir names ∷ more) second = times_in-append more second
times_in-append (output_of cmd ended ∷ more) second = times_in-append more second
times_in-append (cut cmd ∷ more) second = times_in-append more second

pub readings_in-append : (first second : List Question)
    → readings_in (first ++ second) ≡ readings_in first ++ readings_in second
readings_in-append [] second = refl
readings_in-append (bytes_of path found ∷ more) second =
    ap (λ (l : List Reading). record { path = path; found = found } ∷ l)
    (readings_in-append more second)
readings_in-append (time_of path when ∷ more) second = readings_in-append more second
readings_in-append (names_of dir names ∷ more) second = readings_in-append more second
readings_in-append (output_of cmd ended ∷ more) second = readings_in-append more second
readings_in-append (cut cmd ∷ more) second = readings_in-append more second

pub listings_in-append : (first second : List Question)
    → listings_in (first ++ second) ≡ listings_in first ++ listings_in second
listings_in-append [] second = refl
listings_in-append (names_of dir names ∷ more) second =
    ap (λ (l : List Listing). record { dir = dir; names = names } ∷ l)
    (listings_in-append more second)
listings_in-append (bytes_of path found ∷ more) second = listings_in-append more second
listings_in-append (time_of path when ∷ more) second = listings_in-append more second
listings_in-append (output_of cmd ended ∷ more) second = listings_in-append more second
listings_in-append (cut cmd ∷ more) second = listings_in-append more second

pub runnings_in-append : (first second : List Question)
    → runnings_in (first ++ second) ≡ runnings_in first ++ runnings_in second
runnings_in-append [] second = refl
runnings_in-append (output_of cmd ended ∷ more) second =
    ap (λ (l : List Running). record { cmd = cmd; ended = ended } ∷ l)
    (runnings_in-append more second)
runnings_in-append (time_of path when ∷ more) second = runnings_in-append more second
runnings_in-append (names_of dir names ∷ more) second = runnings_in-append more second
runnings_in-append (bytes_of path found ∷ more) second = runnings_in-append more second
runnings_in-append (cut cmd ∷ more) second = runnings_in-append more second

pub cuts_in-append : (first second : List Question)
    → cuts_in (first ++ second) ≡ cuts_in first ++ cuts_in second
cuts_in-append [] second = refl
cuts_in-append (cut cmd ∷ more) second = ap (λ (l : List Cmd). cmd ∷ l) (cuts_in-append more second)
cuts_in-append (bytes_of path found ∷ more) second = cuts_in-append more second
cuts_in-append (time_of path when ∷ more) second = cuts_in-append more second
cuts_in-append (names_of dir names ∷ more) second = cuts_in-append more second
cuts_in-append (output_of cmd ended ∷ more) second = cuts_in-append more second

-- What the outside answers: each sort of question by the number of those before it, and what is
-- asked.
pub record Answers : Type 0 where
  pub exists : expand.Answers
  pub contents : ℕ → List ℕ → Option (List ℕ)
  pub listings : ℕ → List ℕ → Option (List (List ℕ))
  pub outputs : ℕ → Cmd → List ℕ

-- These answers were given to these questions.
pub record Answered (answers : Answers) (questions : List Question) : Type 0 where
  pub exists : AnsweredBy answers.exists (times_in questions)
  pub contents : (place : ℕ) (one : Reading) → slice_get (readings_in questions) place ≡ Some one
      → one.found ≡ answers.contents place one.path
  pub listings : (place : ℕ) (one : Listing) → slice_get (listings_in questions) place ≡ Some one
      → one.names ≡ answers.listings place one.dir
  pub outputs : (place : ℕ) (one : Running) → slice_get (runnings_in questions) place ≡ Some one
      → one.ended.output ≡ answers.outputs place one.cmd

-- In the world

-- A question was answered with what stood in the world at its moment, and nothing else happened. A
-- command that was not answered may have been run.
abbrev pub IsAsked : Meaning → Question → History → History → Type 0
IsAsked meaning (bytes_of path found) old new = Looked path found old new
IsAsked meaning (time_of path when) old new =
    DatesOnce (record { path = path; when = when }) old new
IsAsked meaning (names_of dir names) old new = Listed dir names old new
IsAsked meaning (output_of cmd ended) old new = runs.Asked meaning cmd ended old new
IsAsked meaning (cut cmd) old new = RanAtMost meaning cmd old new

-- Questions were so answered, one after the other.
abbrev pub AreAsked : Meaning → List Question → History → History → Type 0
AreAsked meaning [] old new = new ≡ old
AreAsked meaning (question ∷ more) old new =
    (mid : History) × IsAsked meaning question old mid × AreAsked meaning more mid new
