-- What a run does before the line of its end is written, and what its sinks gain.
use Rattle.std.specs.Prelude.{◌≡◌, ◌⊎◌, ℕ, List, [], ◌∷◌, ◌++◌, Option}
use Rattle.std.specs.Prelude.{Result, Ok, Err}
use Rattle.mk_bytes.specs.Bytes.{newline}
use Rattle.mk_cli.specs.declared.order.Order.{Order}
use Rattle.mk_cli.specs.declared.order.Print.{Print}
use Rattle.mk_values.specs.Facts.{AsksMore, Lists}
use Rattle.mk_values.specs.declared.facts.Asked.{Asked}
use Rattle.mk_values.specs.declared.fault.ExpandFault.{ExpandFault}
use Rattle.mk_graph.specs.declared.Made.{Made}
use Rattle.mk_makefile.specs.Reading.{reading}
use Rattle.mk_makefile.specs.declared.fault.ReadFault.{ReadFault}
use Rattle.mk_plan.specs.Asking.{answers_by}
use Rattle.mk_plan.specs.Tasks.{setting_of}
use Rattle.mk_scopes.specs.Scopes.{Variables}
use Rattle.mk_reader.specs.Results.{ReadBy}
use Rattle.mk_scopes.specs.declared.scopes.Env.{Env}
use Rattle.mk_world.specs.Looks.{Dated, DatesAll}
use Rattle.mk_world.specs.Runs.{Same}
use Rattle.mk_world.specs.Sinks.{Gains, GainsPart}
use Rattle.mk_world.specs.Talks.{Meaning}
use Rattle.mk_world.specs.Told.{Told}
use Rattle.mk_world.specs.declared.history.History.{History}
use Rattle.mk_modes.specs.Auditing.{Audits}
use Rattle.mk_modes.specs.Building.{Point, point, Builds, unbuilt}
use Rattle.mk_modes.specs.Ends.{IsOutside}
use Rattle.mk_modes.specs.Explaining.{Explanation}
use Rattle.mk_modes.specs.Meaning.{Outcome, Meant, only, prints, audits, explains, queries, shows}
use Rattle.mk_modes.specs.Meaning.{builds, printed as all_printed, by_reading}
use Rattle.mk_modes.specs.Querying.{Queries}
use Rattle.mk_modes.specs.Showing.{Shows}
use Rattle.mk_modes.specs.declared.building.Went.{Went}
use Rattle.mk_modes.specs.declared.report.End.{End}
use Rattle.mk_modes.specs.declared.report.End.TheVariants.{Done, SinkFault}

-- lines, each with its newline
abbrev pub bytes_of : List (List ℕ) → List ℕ
bytes_of [] = []
bytes_of (line ∷ lines) = line ++ newline ∷ bytes_of lines

-- what a sink held before and after a run, where it tells
pub record Held : Type 0 where
  pub before : Option (List ℕ)
  pub after : Option (List ℕ)

-- A call of the world failed or memory ran out: the lines until then are the first ones of what is
-- meant.
pub record Stopped (stood meant : Outcome) : Type 0 where
  pub outside : IsOutside stood.end
  pub others : List (List ℕ)
  pub first : meant.lines ≡ stood.lines ++ others

-- a run came to what is meant, or was stopped before
abbrev pub Stands : Outcome → Outcome → Type 0
Stands stood meant = (stood ≡ meant) ⊎ Stopped stood meant

-- every line that the run came to is on standard output
pub record Whole (meant : Outcome) (out : Held) (end : End) : Type 0 where
  pub stood : Outcome
  pub stands : Stands stood meant
  pub is : end ≡ stood.end
  pub printed : Gains out.before out.after (bytes_of stood.lines)

-- a write of a line failed: standard output has a part of all lines, from their beginning
pub record CutShort (meant : Outcome) (out : Held) (end : End) : Type 0 where
  pub is : end ≡ SinkFault
  pub printed : GainsPart out.before out.after (bytes_of meant.lines)

-- What standard output has, and the end, before the line of the end is written.
abbrev pub Printed : Outcome → Held → End → Type 0
Printed meant out end = Whole meant out end ⊎ CutShort meant out end

-- a print went well, behind which these questions stand: its line and a newline are on standard
-- output
pub record PrintedLine (shown : Result (List ℕ × List Asked) ExpandFault) (asked : List Asked)
    (out : Held) : Type 0
  where
    pub line : List ℕ
    pub is : shown ≡ Ok (line, asked)
    pub gains : Gains out.before out.after (line ++ newline ∷ [])

-- the end of a run that went so far
abbrev pub end_of : Result (Unit {0}) End → End
end_of (Ok done) = Done
end_of (Err end) = end

-- a run that ends before it prints or builds: nothing in the world changes
pub record Only (outcome : Outcome) (first last : Point) (went : Went) : Type 0 where
  pub printed : Printed outcome (record { before = first.out; after = last.out }) went.end
  pub unbuilt : went ≡ unbuilt went.end
  pub same : Told first.history last.history Same

-- A run that prints: what it prints is meant by the answers to its questions of `exists`, each of
-- which was a look at the path's time. It builds nothing, and nothing else in the world changes.
pub record PrintsAll (variables : Variables) (lists : Lists) (all : List Print) (first last : Point)
    (went : Went) : Type 0
  where
    pub looked : List Dated
    pub told : Told first.history last.history (DatesAll looked)
    pub printed : Printed (all_printed (setting_of variables lists (answers_by looked)) [] 0 all)
        (record { before = first.out; after = last.out }) went.end
    pub unbuilt : went ≡ unbuilt went.end

-- what a run of this meaning does behind the reading
abbrev pub Goes : Meaning → Meant → Point → Point → Went → Type 0
Goes meaning (only outcome) first last went = Only outcome first last went
Goes meaning (prints variables lists all) first last went = PrintsAll variables lists all first last went
Goes meaning (audits env made order) first last went = Audits meaning env made order first last went
Goes meaning (explains made flags) first last went = Explanation meaning made flags first last went
Goes meaning (queries made flags) first last went = Queries made flags first last went
Goes meaning (shows made flags) first last went = Shows meaning made flags first last went
Goes meaning (builds made flags) first last went = Builds meaning made flags first last went

-- Reading asks the world its questions in order and writes messages on standard error, as is
-- defined by the answers; what follows depends on what it gave.
pub record Followed (meaning : Meaning) (env : Env) (order : Order) (first last : Point) (err : Held)
    (went : Went) : Type 0
  where
    pub read_at : Option History
    pub read : Result Made ReadFault
    pub reads : ReadBy meaning first.history read_at err.before err.after read
        (λ answers. reading answers env order)
    pub goes : Goes meaning (by_reading env order read) (point read_at first.out) last went

-- What a call asks of the facts: they lead from one to the other, the lists stay, and questions are
-- only added.
pub record Questions (leads : Type 0) (old_lists new_lists : Lists) (old new : List Asked) : Type 0
  where
    pub led : leads
    pub lists : new_lists ≡ old_lists
    pub asked : AsksMore old new
