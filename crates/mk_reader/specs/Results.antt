-- What reading gives.
use Rattle.std.specs.Prelude.{◌≡◌, ℕ, List, [], Option, Some, None, Result, Ok, Err}
use Rattle.mk_blocks.specs.Acts.{Act}
use Rattle.mk_blocks.specs.Outcomes.{done}
use Rattle.mk_blocks.specs.Runs.{Run, run_at}
use Rattle.mk_blocks.specs.Ties.{Does}
use Rattle.mk_world.specs.Talks.{Meaning}
use Rattle.mk_world.specs.Told.{Told}
use Rattle.mk_world.specs.declared.history.History.{History}
use Rattle.mk_graph.specs.declared.mode.Mode.{Mode}
use Rattle.mk_makefile.specs.Acts.{Did, DidPart, acts_of}
use Rattle.mk_makefile.specs.Moments.{Moment, moment_of}
use Rattle.mk_makefile.specs.Reading.{run_read}
use Rattle.mk_makefile.specs.Questions.{Answered, Answers, AreAsked, Question}
use Rattle.mk_makefile.specs.ReadFaults.{Reads, sorted}
use Rattle.mk_makefile.specs.declared.fault.Outside.{Outside}
use Rattle.mk_makefile.specs.declared.fault.Outside.TheVariants as outside
use Rattle.mk_makefile.specs.declared.fault.ReadFault.{ReadFault}
use Rattle.mk_makefile.specs.declared.fault.ReadFault.TheVariants.{World, Sink, NoMemory}
use Rattle.mk_makefile.specs.declared.fault.Stop.{Stop}
use Rattle.mk_reader.specs.Ties.{IsWhole, Outer, reader_ties}
use Rattle.mk_reader.specs.declared.reader.Reader.{Reader}

-- where a reader stands
abbrev pub standing : {W S : Type 0} → Reader W S → Moment
standing x = moment_of x.state.now x.order.now

-- A file was sought, with what is defined.
abbrev pub Found : {W S A : Type 0} → Outer W S → Reader W S → Reader W S → Result A Stop
    → (Answers → Moment → Reads (A × Moment)) → Type 0
Found outer x y answer question =
    Does (reader_ties outer) sorted x y (λ answers found. done (found, standing y)) answer
    (λ answers. question answers (standing x))

-- Files were read, with what is defined, and so many lines were counted before and behind them.
abbrev pub Went : {W S : Type 0} → Outer W S → Reader W S → Reader W S → ℕ → ℕ
    → Result (Unit {0}) Stop → (Answers → Run Moment → Reads (Run Moment)) → Type 0
Went outer x y before after answer question =
    Does (reader_ties outer) sorted x y (λ answers u. done (run_at (standing y) after)) answer
    (λ answers. question answers (run_at (standing x) before))

-- All was read, and how a build goes.
abbrev pub Ended : {W S : Type 0} → Outer W S → Reader W S → Reader W S → Result Mode Stop → Type 0
Ended outer x y answer =
    Does (reader_ties outer) sorted x y (λ answers mode. done (mode, standing y)) answer
    (λ answers. run_read answers (run_at (standing x) 0))

-- how the outside may have failed behind the questions
abbrev pub failure_by : ReadFault → Option Outside
failure_by World = Some outside.World
failure_by Sink = Some outside.Sink
failure_by NoMemory = Some outside.NoMemory
failure_by fault = None

abbrev pub failure_in : {A : Type 0} → Result A ReadFault → Option Outside
failure_in (Ok given) = None
failure_in (Err fault) = failure_by fault

-- A fault of the reading, behind all that is done before it: the same messages, files, times,
-- listings and commands. Before a fault of the outside or want of memory a first part of that was
-- done, and behind it the last evaluation may have asked for times.
abbrev pub Refused : {A : Type 0} → Option (List ℕ) → Option (List ℕ) → List Act → ReadFault
    → Reads A → Type 0
Refused before after asked World defined = DidPart before after [] asked defined.acts
Refused before after asked Sink defined = DidPart before after [] asked defined.acts
Refused before after asked NoMemory defined = DidPart before after [] asked defined.acts
Refused before after asked fault defined =
    (defined.answer ≡ Err fault) × Did before after [] asked defined.acts

-- An answer is what is defined, and exactly that was done outside which is defined: standard error
-- has gained the messages, and these files, times, listings and commands were asked for, in this
-- order.
abbrev pub Gave : {A : Type 0} → Option (List ℕ) → Option (List ℕ) → List Act
    → Result A ReadFault → Reads A → Type 0
Gave before after asked (Ok given) defined =
    (defined.answer ≡ Ok given) × Did before after [] asked defined.acts
Gave before after asked (Err fault) defined = Refused before after asked fault defined

-- The world was asked these questions in order, each answered with what stood there at its moment,
-- and nothing else happened in it. What is given is defined by the answers, whatever other
-- questions would be answered, and the questions are those of the definition, of files, times,
-- listings and commands alike: no more, no fewer, in its order. So they are behind a fault of the
-- makefiles too. Where the outside failed, or memory ran out, the last question may be that of a
-- command without an answer.
pub record ReadBy {A : Type 0} (meaning : Meaning) (before after : Option History)
    (held held_after : Option (List ℕ)) (answer : Result A ReadFault)
    (defined : Answers → Reads A) : Type 0
  where
    pub questions : List Question
    pub asked : Told before after (AreAsked meaning questions)
    pub whole : IsWhole (failure_in answer) questions
    pub gave : (answers : Answers) → Answered answers questions
        → Gave held held_after (acts_of questions) answer (defined answers)
