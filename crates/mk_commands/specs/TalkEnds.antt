-- Talks that are at their end after so many answers, whatever these are.
use Rattle.std.specs.Prelude.{ℕ, List, [], ◌∷◌, ◌++◌, Option, Some, None}
use Rattle.mk_world.specs.declared.step.Answer.{Answer}
use Rattle.mk_world.specs.declared.step.Answer.TheVariants.{Found, Missing, Stands, Done}
use Rattle.mk_world.specs.declared.step.Request.{Request}
use Rattle.mk_world.specs.declared.step.Request.TheVariants.{Look, Write, Delete, Move}
use Rattle.mk_commands.specs.Commands as spec
use Rattle.mk_commands.specs.Turns.{Turn, asks, ends, Talk, stops, asked, done, found, or_fails}
use Rattle.mk_commands.specs.Turns.{looks, reads, writes, deletes, moved, moves}

-- words that stand for as many answers
abbrev pub Words : Type 0
Words = List (List ℕ)

-- there is an answer for each of these words
abbrev pub Covers : Words → List Answer → Type 0
Covers [] answers = Unit {0}
Covers (word ∷ words) [] = ⊥
Covers (word ∷ words) (answer ∷ answers) = Covers words answers

-- a command is at its end, and leaves an answer for each of these words
abbrev pub Leaves : Words → Turn → Type 0
Leaves more (asks request) = ⊥
Leaves more (ends status output answers) = Covers more answers

-- a command that is at its end after an answer for each of its words
pub record EndsIn (words : Words) (talk : Talk) : Type 0 where
  pub leaves : (more : Words) (answers : List Answer) → Covers (words ++ more) answers
      → Leaves more (talk answers)

-- there are answers for fewer words
one_less : (word : List ℕ) (words : Words) (answers : List Answer) → Covers (word ∷ words) answers
    → Covers words answers
one_less word [] answers covers = tt
one_less word (next ∷ words) [] covers = absurd covers
one_less word (next ∷ words) (answer ∷ answers) covers = one_less next words answers covers

fewer : (words more : Words) (answers : List Answer) → Covers (words ++ more) answers
    → Covers more answers
fewer [] more answers covers = covers
fewer (word ∷ words) more answers covers =
    fewer words more answers (one_less word (words ++ more) answers covers)

-- each talk of Turns takes an answer for each word at most
pub stops_in : (words : Words) (status : ℕ) (output : List ℕ) → EndsIn words (stops status output)
stops_in words status output =
    record { leaves = λ more answers covers. fewer words more answers covers }

pub misused_in : (words : Words) → EndsIn words spec.misused
misused_in words = stops_in words 2 []

-- a request takes one answer
asked_leaves : (word : List ℕ) (words : Words) (request : Request) (go_on : Answer → Talk)
    → ((answer : Answer) → EndsIn words (go_on answer)) → (more : Words) (answers : List Answer)
    → Covers ((word ∷ words) ++ more) answers → Leaves more (asked request go_on answers)
asked_leaves word words request go_on ended more [] covers = absurd covers
asked_leaves word words request go_on ended more (answer ∷ answers) covers =
    (ended answer).leaves more answers covers

asked_in : (word : List ℕ) (words : Words) (request : Request) (go_on : Answer → Talk)
    → ((answer : Answer) → EndsIn words (go_on answer))
    → EndsIn (word ∷ words) (asked request go_on)
asked_in word words request go_on ended =
    record { leaves = asked_leaves word words request go_on ended }

pub writes_in : (word : List ℕ) (words : Words) (path bytes : List ℕ)
    → EndsIn (word ∷ words) (writes path bytes)
writes_in word words path bytes =
    asked_in word words (Write path bytes) done (λ answer. stops_in words 0 [])

pub deletes_in : (word : List ℕ) (words : Words) (path : List ℕ)
    → EndsIn (word ∷ words) (deletes path)
deletes_in word words path =
    asked_in word words (Delete path) done (λ answer. stops_in words 0 [])

moved_in : (words : Words) (answer : Answer) → EndsIn words (moved answer)
moved_in words Stands = stops_in words 0 []
moved_in words Missing = stops_in words 1 []
moved_in words (Found bytes) = stops_in words 1 []
moved_in words Done = stops_in words 1 []

pub moves_in : (word : List ℕ) (words : Words) (from to : List ℕ)
    → EndsIn (word ∷ words) (moves from to)
moves_in word words from to = asked_in word words (Move from to) moved (moved_in words)

pub looks_in : (word : List ℕ) (words : Words) (path : List ℕ) (go_on : Option (List ℕ) → Talk)
    → ((stands : Option (List ℕ)) → EndsIn words (go_on stands))
    → EndsIn (word ∷ words) (looks path go_on)
looks_in word words path go_on ended =
    asked_in word words (Look path) (λ answer. go_on (found answer))
    (λ answer. ended (found answer))

or_fails_in : (words : Words) (go_on : List ℕ → Talk)
    → ((bytes : List ℕ) → EndsIn words (go_on bytes)) → (stands : Option (List ℕ))
    → EndsIn words (or_fails go_on stands)
or_fails_in words go_on ended None = stops_in words 1 []
or_fails_in words go_on ended (Some bytes) = ended bytes

pub reads_in : (word : List ℕ) (words : Words) (path : List ℕ) (go_on : List ℕ → Talk)
    → ((bytes : List ℕ) → EndsIn words (go_on bytes)) → EndsIn (word ∷ words) (reads path go_on)
reads_in word words path go_on ended =
    looks_in word words path (or_fails go_on) (or_fails_in words go_on ended)

-- one word more
pub later_in : (word : List ℕ) (words : Words) (talk : Talk) → EndsIn words talk
    → EndsIn (word ∷ words) talk
later_in word words talk ended = record {
  leaves = λ more answers covers.
      ended.leaves more answers (one_less word (words ++ more) answers covers);
}
