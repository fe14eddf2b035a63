-- What several calls of a world add to its history.
use Rattle.std.specs.Prelude.{◌≡◌, ◌⊎◌, ℕ, List, [], ◌∷◌, ◌++◌, Option, None}
use Rattle.mk_world.specs.Calls.{Answers}
use Rattle.mk_world.specs.Deeds.{Store, put}
use Rattle.mk_world.specs.History.{May, MayAll, files_of, state_of}
use Rattle.mk_world.specs.Listings.{Lists}
use Rattle.mk_world.specs.Talks.{Meaning, after_doing, does}
use Rattle.mk_world.specs.Told.{Told}
use Rattle.mk_world.specs.declared.command.Cmd.{Cmd}
use Rattle.mk_world.specs.declared.history.Happening.{Happening}
use Rattle.mk_world.specs.declared.history.Happening.TheVariants.{Look, Gone, Ask}
use Rattle.mk_world.specs.declared.history.History.{History}
use Rattle.mk_world.specs.declared.history.Timed.{Timed}
use Rattle.mk_world.specs.declared.step.Ended.{Ended}

-- these events, each of which may happen, and nothing else
pub record Run (meaning : Meaning) (old new : History) : Type 0 where
  pub events : List Happening
  pub base : new.base ≡ old.base
  pub longer : new.events ≡ old.events ++ events
  pub lawful : MayAll meaning (state_of old) events

-- A fact on the files of a world before some calls: on those that its history has, where it tells,
-- and else on some files that nobody knows.
pub record OnFiles (before after : Option History) (Fact : Store → Type 0) : Type 0 where
  pub files : Store
  pub told : Told before after (λ old new. files ≡ files_of old)
  pub fact : Fact files

-- make looked at a path, and was answered with what stands there; nothing else happened
pub record Looked (path : List ℕ) (answer : Option (List ℕ)) (old new : History) : Type 0 where
  pub base : new.base ≡ old.base
  pub event : new.events ≡ old.events ++ Look path ∷ []
  pub answered : answer ≡ files_of old path

-- make looked at a directory, and was answered with the names of what stands below it; nothing else
-- happened
pub record Listed (dir : List ℕ) (names : Option (List (List ℕ))) (old new : History) : Type 0 where
  pub base : new.base ≡ old.base
  pub event : new.events ≡ old.events ++ Look dir ∷ []
  pub listed : Lists (files_of old) dir names

-- nothing happened
pub record Same (old new : History) : Type 0 where
  pub base : new.base ≡ old.base
  pub events : new.events ≡ old.events

-- make looked at this path alone, if at any, and nothing else happened
pub record LooksAt (path : List ℕ) (old new : History) : Type 0 where
  pub base : new.base ≡ old.base
  pub events : (new.events ≡ old.events) ⊎ (new.events ≡ old.events ++ Look path ∷ [])

-- make ran a command to its end, which may happen then, and the files are those after it; nothing
-- else happened
pub record Ran (meaning : Meaning) (cmd : Cmd) (old new : History) : Type 0 where
  pub steps : List Timed
  pub base : new.base ≡ old.base
  pub event : new.events ≡ old.events ++ Ask cmd steps ∷ []
  pub lawful : May meaning (state_of old) (Ask cmd steps)
  pub files : files_of new ≡ after_doing meaning cmd (files_of old)

-- make ran a command to its end, and was answered with what it does on the files
pub record Asked (meaning : Meaning) (cmd : Cmd) (ended : Ended) (old new : History) : Type 0 where
  pub ran : Ran meaning cmd old new
  pub answered : Answers (does meaning cmd (files_of old)) ended

-- make ran this command alone, if any, and nothing else happened
abbrev pub RanAtMost : Meaning → Cmd → History → History → Type 0
RanAtMost meaning cmd old new = Same old new ⊎ Ran meaning cmd old new

-- make removed a file, and it is missing now; nothing else happened
pub record Removed (path : List ℕ) (old new : History) : Type 0 where
  pub time : ℕ
  pub base : new.base ≡ old.base
  pub event : new.events ≡ old.events ++ Gone path time ∷ []
  pub files : files_of new ≡ put (files_of old) (record { path = path; bytes = None })
