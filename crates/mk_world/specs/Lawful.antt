-- Histories that may have come about.
use Rattle.mk_world.specs.History.{MayAll, first_state}
use Rattle.mk_world.specs.Runs.{Run}
use Rattle.mk_world.specs.Talks.{Meaning}
use Rattle.mk_world.specs.declared.history.History.{History}

-- A history is lawful: each of its events may happen behind those before it. The files at its
-- beginning may have any times; no change is earlier than the last of them.
pub record IsLawful (meaning : Meaning) (history : History) : Type 0 where
  pub events : MayAll meaning (first_state history.base) history.events

-- What a world adds to a lawful history leaves it lawful.
abbrev pub RunsStayLawful : Meaning → Type 0
RunsStayLawful meaning =
    (old new : History) → Run meaning old new → IsLawful meaning old → IsLawful meaning new
