-- Readings of files that no command of theirs changes.
use Rattle.std.specs.Prelude.{◌≡◌, ℕ, List, [], Option, Some, Result}
use Rattle.std.specs.List.{AllByRecursion}
use Rattle.mk_blocks.specs.Acts.{Act, wrote, looked, dated, listed, ran}
use Rattle.mk_cli.specs.declared.order.Order.{Order}
use Rattle.mk_graph.specs.declared.Made.{Made}
use Rattle.mk_makefile.specs.Acts.{acts_of}
use Rattle.mk_makefile.specs.Reading.{reading}
use Rattle.mk_makefile.specs.declared.fault.ReadFault.{ReadFault}
use Rattle.mk_meta.specs.TrueHistory.{changed_paths}
use Rattle.mk_reader.specs.OnMaps.{Listings, reading_on}
use Rattle.mk_reader.specs.Results.{Gave, ReadBy}
use Rattle.mk_scopes.specs.declared.scopes.Env.{Env}
use Rattle.mk_world.specs.Deeds.{Store}
use Rattle.mk_world.specs.History.{files_of}
use Rattle.mk_world.specs.Listings.{Lists}
use Rattle.mk_world.specs.Talks.{Meaning, does}
use Rattle.mk_world.specs.declared.history.History.{History}

-- A command that is run on these files changes none, not even to what it holds; and a directory
-- that is listed has these names, as the files have it.
abbrev pub ChangesNone : Meaning → Store → Listings → Act → Type 0
ChangesNone meaning files listings (ran cmd) = changed_paths (does meaning cmd files).deeds ≡ []
ChangesNone meaning files listings (listed dir) = Lists files dir (listings dir)
ChangesNone meaning files listings (wrote message) = Unit {0}
ChangesNone meaning files listings (looked path) = Unit {0}
ChangesNone meaning files listings (dated path) = Unit {0}

-- Where the commands that the reading of these files asks for change none of them, a reading in the
-- world, which answers each question at its moment, is that of the files that stood at its
-- beginning, whatever it gave: as far as it came, where the outside failed or memory ran out. What
-- it asked for are the files, times, listings and commands of that one, and perhaps further times;
-- so no command that was run changed a file.
abbrev pub WorldsAreReadAsFiles : Type 0
WorldsAreReadAsFiles =
    (meaning : Meaning) (old new : History) (held held_after : Option (List ℕ)) (answer : Result Made ReadFault)
    (env : Env) (order : Order) (listings : Listings)
    → AllByRecursion (ChangesNone meaning (files_of old) listings)
    (reading_on meaning (files_of old) listings env order).acts
    → (read : ReadBy meaning (Some old) (Some new) held held_after answer
    (λ answers. reading answers env order))
    → Gave held held_after (acts_of read.questions) answer (reading_on meaning (files_of old) listings env order)
    × AllByRecursion (ChangesNone meaning (files_of old) listings) (acts_of read.questions)
