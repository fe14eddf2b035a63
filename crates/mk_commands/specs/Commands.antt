-- What each command does. Paths are taken from the directory of the line and cleaned.
use Rattle.std.specs.Prelude.{ℕ, nat_le, ◌&&◌, List, [], ◌∷◌, ◌++◌, Option, Some, None, codes}
use Rattle.std.specs.Prelude.{if◌then◌else◌}
use Rattle.std.specs.Str.{bytes_eq}
use Rattle.mk_bytes.specs.Paths.{clean}
use Rattle.mk_bytes.specs.declared.pair.Pair.{Pair}
use Rattle.mk_world.specs.declared.command.Cmd.{Cmd}
use Rattle.mk_commands.specs.Turns.{Talk, stops, writes, deletes, looks, reads, moves}
use Rattle.mk_commands.specs.Words.{line_of, number_of, place_of, picked}
use Rattle.mk_commands.specs.declared.verb.Verb.{Verb}
use Rattle.mk_commands.specs.declared.verb.Verb.TheVariants.{Put, Cat, Copy, Move, Del, Show, Say}
use Rattle.mk_commands.specs.declared.verb.Verb.TheVariants.{Pick, Probe, Env, Fail}

-- a wrong number of words, or a word that is not the number it should be
abbrev pub misused : Talk
misused = stops 2 []

-- `put P w1 .. wn` writes the words to P as a line
abbrev pub put : List ℕ → List (List ℕ) → Talk
put cwd (path ∷ words) = writes (clean cwd path) (line_of words)
put cwd [] = misused

-- the contents of the sources follow a text, and all are written to the target
abbrev pub joins : List ℕ → List ℕ → List ℕ → List (List ℕ) → Talk
joins cwd target text [] = writes (clean cwd target) text
joins cwd target text (source ∷ sources) =
    reads (clean cwd source) (λ bytes. joins cwd target (text ++ bytes) sources)

-- `cat P S1 .. Sn` writes the contents of the sources to P, in order
abbrev pub cat : List ℕ → List (List ℕ) → Talk
cat cwd (target ∷ source ∷ sources) = joins cwd target [] (source ∷ sources)
cat cwd (target ∷ []) = misused
cat cwd [] = misused

-- `copy A B` writes the contents of A to B
abbrev pub copy : List ℕ → List (List ℕ) → Talk
copy cwd (source ∷ target ∷ []) = joins cwd target [] (source ∷ [])
copy cwd words = misused

-- `move A B` looks at A and gives it the path B
abbrev pub move : List ℕ → List (List ℕ) → Talk
move cwd (from ∷ to ∷ []) =
    reads (clean cwd from) (λ bytes. moves (clean cwd from) (clean cwd to))
move cwd words = misused

-- `del A` looks at A and removes it
abbrev pub del : List ℕ → List (List ℕ) → Talk
del cwd (path ∷ []) = reads (clean cwd path) (λ bytes. deletes (clean cwd path))
del cwd words = misused

-- `show S` prints the contents of S
abbrev pub show : List ℕ → List (List ℕ) → Talk
show cwd (path ∷ []) = reads (clean cwd path) (λ bytes. stops 0 bytes)
show cwd words = misused

-- `say w1 .. wn` prints the words as a line
abbrev pub say : List (List ℕ) → Talk
say words = stops 0 (line_of words)

-- the line at a place of the source is written to the target
abbrev pub picks : List ℕ → List ℕ → List ℕ → Option ℕ → Talk
picks cwd target source None = misused
picks cwd target source (Some place) =
    reads (clean cwd source) (λ bytes. writes (clean cwd target) (picked place bytes))

-- `pick P N S` writes line N of S to P
abbrev pub pick : List ℕ → List (List ℕ) → Talk
pick cwd (target ∷ number ∷ source ∷ []) = picks cwd target source (place_of number)
pick cwd words = misused

-- what `probe` writes
abbrev pub yes_or_no : Option (List ℕ) → List ℕ
yes_or_no (Some bytes) = line_of (codes "yes" ∷ [])
yes_or_no None = line_of (codes "no" ∷ [])

-- `probe P Q` writes to P whether Q stands
abbrev pub probe : List ℕ → List (List ℕ) → Talk
probe cwd (target ∷ path ∷ []) =
    looks (clean cwd path) (λ stands. writes (clean cwd target) (yes_or_no stands))
probe cwd words = misused

-- the value of an exported variable, or nothing
abbrev pub exported_in : List Pair → List ℕ → List ℕ
exported_in [] name = []
exported_in (pair ∷ pairs) name =
    if bytes_eq pair.name name then pair.value else exported_in pairs name

-- `env P N` writes the value of the exported variable N to P as a line
abbrev pub env : Cmd → List (List ℕ) → Talk
env cmd (path ∷ name ∷ []) =
    writes (clean cmd.cwd path) (line_of (exported_in cmd.exports name ∷ []))
env cmd words = misused

-- a status from 1 to 255
abbrev pub fails : Option ℕ → Talk
fails None = misused
fails (Some status) = if nat_le 1 status && nat_le status 255 then stops status [] else misused

-- `fail N` ends with status N
abbrev pub fail : List (List ℕ) → Talk
fail (number ∷ []) = fails (number_of number)
fail words = misused

-- the verb that a word is
abbrev pub verb_of : List ℕ → Option Verb
verb_of word =
    if bytes_eq word (codes "put") then Some Put
    else if bytes_eq word (codes "cat") then Some Cat
    else if bytes_eq word (codes "copy") then Some Copy
    else if bytes_eq word (codes "move") then Some Move
    else if bytes_eq word (codes "del") then Some Del
    else if bytes_eq word (codes "show") then Some Show
    else if bytes_eq word (codes "say") then Some Say
    else if bytes_eq word (codes "pick") then Some Pick
    else if bytes_eq word (codes "probe") then Some Probe
    else if bytes_eq word (codes "env") then Some Env
    else if bytes_eq word (codes "fail") then Some Fail
    else None

-- of the last six
abbrev pub other_verb_of : List ℕ → Option Verb
other_verb_of word =
    if bytes_eq word (codes "show") then Some Show
    else if bytes_eq word (codes "say") then Some Say
    else if bytes_eq word (codes "pick") then Some Pick
    else if bytes_eq word (codes "probe") then Some Probe
    else if bytes_eq word (codes "env") then Some Env
    else if bytes_eq word (codes "fail") then Some Fail
    else None

-- an unknown word gives status 127
abbrev pub does : Cmd → Option Verb → List (List ℕ) → Talk
does cmd None words = stops 127 []
does cmd (Some Put) words = put cmd.cwd words
does cmd (Some Cat) words = cat cmd.cwd words
does cmd (Some Copy) words = copy cmd.cwd words
does cmd (Some Move) words = move cmd.cwd words
does cmd (Some Del) words = del cmd.cwd words
does cmd (Some Show) words = show cmd.cwd words
does cmd (Some Say) words = say words
does cmd (Some Pick) words = pick cmd.cwd words
does cmd (Some Probe) words = probe cmd.cwd words
does cmd (Some Env) words = env cmd words
does cmd (Some Fail) words = fail words

-- One of the commands of a line is its verb and the words after it; one without words does nothing.
abbrev pub command : Cmd → List (List ℕ) → Talk
command cmd [] = stops 0 []
command cmd (word ∷ words) = does cmd (verb_of word) words
