-- Reading a map of files that no command changes.
use Rattle.std.specs.Prelude.{◌≡◌, ℕ, List, [], ◌∷◌, Option, Some, Result, is_some}
use Rattle.mk_cli.specs.declared.order.Order.{Order}
use Rattle.mk_graph.specs.declared.Made.{Made}
use Rattle.mk_makefile.specs.Acts.{acts_of}
use Rattle.mk_makefile.specs.Questions.{Answers, Listing, Running, cuts_in, listings_in}
use Rattle.mk_makefile.specs.Questions.{runnings_in}
use Rattle.mk_makefile.specs.ReadFaults.{Reads}
use Rattle.mk_makefile.specs.Reading.{reading}
use Rattle.mk_makefile.specs.declared.fault.ReadFault.{ReadFault}
use Rattle.mk_scopes.specs.declared.scopes.Env.{Env}
use Rattle.mk_world.specs.Deeds.{Store}
use Rattle.mk_world.specs.History.{files_of}
use Rattle.mk_world.specs.Listings.{Lists}
use Rattle.mk_world.specs.Talks.{Meaning, after_doing, does}
use Rattle.mk_world.specs.declared.history.History.{History}
use Rattle.mk_reader.specs.Results.{Gave, ReadBy}

-- the names in each directory, or none where there is no such directory
abbrev pub Listings : Type 0
Listings = List ℕ → Option (List (List ℕ))

-- what the outside answers where these are the files and directories whenever it is asked
abbrev pub answers_on : Meaning → Store → Listings → Answers
answers_on meaning store listings = record {
  exists = λ place path. is_some (store path);
  contents = λ place path. store path;
  listings = λ place dir. listings dir;
  outputs = λ place cmd. (does meaning cmd store).output;
}

-- The reading of a map of files, where no command of it changes the map.
abbrev pub reading_on : Meaning → Store → Listings → Env → Order → Reads Made
reading_on meaning store listings env order = reading (answers_on meaning store listings) env order

-- these are the names in each directory that was listed, as the map has them: it has one answer
abbrev pub AreOfTheMap : Store → Listings → List Listing → Type 0
AreOfTheMap store listings [] = Unit {0}
AreOfTheMap store listings (one ∷ more) =
    Lists store one.dir (listings one.dir) × AreOfTheMap store listings more

-- these commands change nothing of the map
abbrev pub LeaveAll : Meaning → Store → List Running → Type 0
LeaveAll meaning store [] = Unit {0}
LeaveAll meaning store (one ∷ more) =
    (after_doing meaning one.cmd store ≡ store) × LeaveAll meaning store more

-- Where each command of a reading was answered and changed nothing of the files that stood at its
-- beginning, what was read is the reading of that map, and the same files stand at its end.
abbrev pub ReadsTheMap : Type 0
ReadsTheMap =
    (meaning : Meaning) (old new : History) (held held_after : Option (List ℕ))
    (answer : Result Made ReadFault) (env : Env) (order : Order)
    (read : ReadBy meaning (Some old) (Some new) held held_after answer
    (λ answers. reading answers env order))
    → cuts_in read.questions ≡ []
    → LeaveAll meaning (files_of old) (runnings_in read.questions)
    → (listings : Listings) → AreOfTheMap (files_of old) listings (listings_in read.questions)
    → Gave held held_after (acts_of read.questions) answer
    (reading_on meaning (files_of old) listings env order)
    × (files_of new ≡ files_of old)
