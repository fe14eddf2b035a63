-- What the words of a command line ask for: the files that are looked at first, and what is then
-- done with their contents.
use Rattle.std.specs.Prelude.{ℕ, List, [], ◌∷◌, Bool, true, not, Option, Some, None, codes}
use Rattle.std.specs.Prelude.{if◌then◌else◌}
use Rattle.std.specs.Str.{bytes_eq}
use Rattle.fmrun.specs.Words.{line_of, place_of, status_of}
use Rattle.fmrun.specs.declared.request.Request.{Request}
use Rattle.fmrun.specs.declared.request.Act.{Act}
use Rattle.fmrun.specs.declared.request.Act.TheVariants as act
use Rattle.fmrun.specs.declared.verb.Verb.{Verb}
use Rattle.fmrun.specs.declared.verb.Verb.TheVariants.{Put, Cat, Copy, Move, Del, Show, Say}
use Rattle.fmrun.specs.declared.verb.Verb.TheVariants.{Pick, Probe, Fail, Env, Meet}

-- a request that looks at no file
abbrev pub at_once : Act → Request
at_once what = record { looks = []; act = what }

-- a request that looks at one file
abbrev pub behind : List ℕ → Act → Request
behind path what = record { looks = path ∷ []; act = what }

-- nothing is done but to end with this status
abbrev pub ends : ℕ → Request
ends status = at_once (act.End status)

-- a wrong number of words, or a word that is not the number it should be
abbrev pub misused : Request
misused = ends 2

-- `put P w1 .. wn` writes the words to P as a line
abbrev pub put : List (List ℕ) → Request
put (target ∷ words) = at_once (act.Write target (line_of words))
put [] = misused

-- `cat P S1 .. Sn` writes the contents of the sources to P, in order
abbrev pub cat : List (List ℕ) → Request
cat (target ∷ source ∷ sources) =
    record { looks = source ∷ sources; act = act.Join target }
cat (target ∷ []) = misused
cat [] = misused

-- `copy A B` writes the contents of A to B
abbrev pub copy : List (List ℕ) → Request
copy (source ∷ target ∷ []) = behind source (act.Join target)
copy words = misused

-- `move A B` looks at A and gives it the path B
abbrev pub move : List (List ℕ) → Request
move (from ∷ to ∷ []) = behind from (act.Move from to)
move words = misused

-- `del A` looks at A and removes it
abbrev pub del : List (List ℕ) → Request
del (path ∷ []) = behind path (act.Delete path)
del words = misused

-- `show S` prints the contents of S
abbrev pub show : List (List ℕ) → Request
show (path ∷ []) = behind path act.Show
show words = misused

-- `say w1 .. wn` prints the words as a line
abbrev pub say : List (List ℕ) → Request
say words = at_once (act.Say (line_of words))

-- the line at a place of the source is written to the target
abbrev pub picks : List ℕ → List ℕ → Option ℕ → Request
picks target source None = misused
picks target source (Some place) = behind source (act.Pick target place)

-- `pick P N S` writes line N of S to P
abbrev pub pick : List (List ℕ) → Request
pick (target ∷ number ∷ source ∷ []) = picks target source (place_of number)
pick words = misused

-- `probe P Q` writes to P whether Q stands
abbrev pub probe : List (List ℕ) → Request
probe (target ∷ path ∷ []) = behind path (act.Probe target)
probe words = misused

abbrev pub fails : Option ℕ → Request
fails None = misused
fails (Some status) = ends status

-- `fail N` ends with status N, which is 1 to 255
abbrev pub fail : List (List ℕ) → Request
fail (number ∷ []) = fails (status_of number)
fail words = misused

-- `env P N` writes to P the value of the variable N of the environment
abbrev pub env : List (List ℕ) → Request
env (target ∷ name ∷ []) = at_once (act.Env target name)
env words = misused

-- `meet A B` writes A, and then looks for B until it stands
abbrev pub meet : List (List ℕ) → Request
meet (own ∷ other ∷ []) = behind other (act.Meet own)
meet words = misused

-- the verb that a word is, of the last four
abbrev pub verb_behind_pick : List ℕ → Option Verb
verb_behind_pick word =
    if bytes_eq word (codes "probe") then Some Probe
    else if bytes_eq word (codes "fail") then Some Fail
    else if bytes_eq word (codes "env") then Some Env
    else if bytes_eq word (codes "meet") then Some Meet
    else None

-- of the last eight
abbrev pub verb_behind_move : List ℕ → Option Verb
verb_behind_move word =
    if bytes_eq word (codes "del") then Some Del
    else if bytes_eq word (codes "show") then Some Show
    else if bytes_eq word (codes "say") then Some Say
    else if bytes_eq word (codes "pick") then Some Pick
    else verb_behind_pick word

-- the verb that a word is
abbrev pub verb_of : List ℕ → Option Verb
verb_of word =
    if bytes_eq word (codes "put") then Some Put
    else if bytes_eq word (codes "cat") then Some Cat
    else if bytes_eq word (codes "copy") then Some Copy
    else if bytes_eq word (codes "move") then Some Move
    else verb_behind_move word

-- an unknown word ends with status 127
abbrev pub by_verb : Option Verb → List (List ℕ) → Request
by_verb None words = ends 127
by_verb (Some Put) words = put words
by_verb (Some Cat) words = cat words
by_verb (Some Copy) words = copy words
by_verb (Some Move) words = move words
by_verb (Some Del) words = del words
by_verb (Some Show) words = show words
by_verb (Some Say) words = say words
by_verb (Some Pick) words = pick words
by_verb (Some Probe) words = probe words
by_verb (Some Fail) words = fail words
by_verb (Some Env) words = env words
by_verb (Some Meet) words = meet words

-- A command line is its verb and the words after it; one without words does nothing.
abbrev pub asked : List (List ℕ) → Request
asked [] = ends 0
asked (word ∷ words) = by_verb (verb_of word) words

-- whether what is done is recorded: all but `meet`
abbrev pub is_recorded : List (List ℕ) → Bool
is_recorded [] = true
is_recorded (word ∷ words) = not (bytes_eq word (codes "meet"))
