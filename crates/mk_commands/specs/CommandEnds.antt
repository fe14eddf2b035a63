-- Every command is at its end after as many answers as it has words.
use Rattle.std.specs.Prelude.{ℕ, Bool, true, false, List, [], ◌∷◌, ◌++◌, Option, Some, None}
use Rattle.std.specs.Prelude.{if◌then◌else◌, ◌&&◌, nat_le}
use Rattle.mk_bytes.specs.Paths.{clean}
use Rattle.mk_world.specs.declared.command.Cmd.{Cmd}
use Rattle.mk_commands.specs.Commands as spec
use Rattle.mk_commands.specs.Turns.{stops, writes, deletes, moves}
use Rattle.mk_commands.specs.Words.{line_of, number_of, place_of, picked}
use Rattle.mk_commands.specs.declared.verb.Verb.{Verb}
use Rattle.mk_commands.specs.declared.verb.Verb.TheVariants as verb
use Rattle.mk_commands.specs.TalkEnds.{Words, EndsIn, stops_in, misused_in, writes_in, deletes_in}
use Rattle.mk_commands.specs.TalkEnds.{moves_in, looks_in, reads_in, later_in}

-- each command, by its verb and the words after it
put_in : (verb cwd : List ℕ) (words : Words) → EndsIn (verb ∷ words) (spec.put cwd words)
put_in verb cwd (path ∷ words) = writes_in verb (path ∷ words) (clean cwd path) (line_of words)
put_in verb cwd [] = misused_in (verb ∷ [])

joins_in : (word cwd target text : List ℕ) (sources : Words)
    → EndsIn (word ∷ sources) (spec.joins cwd target text sources)
joins_in word cwd target text [] = writes_in word [] (clean cwd target) text
joins_in word cwd target text (source ∷ sources) =
    reads_in word (source ∷ sources) (clean cwd source)
    (λ bytes. spec.joins cwd target (text ++ bytes) sources)
    (λ bytes. joins_in source cwd target (text ++ bytes) sources)

cat_in : (verb cwd : List ℕ) (words : Words) → EndsIn (verb ∷ words) (spec.cat cwd words)
cat_in verb cwd (target ∷ source ∷ sources) =
    later_in verb (target ∷ source ∷ sources) (spec.joins cwd target [] (source ∷ sources))
    (joins_in target cwd target [] (source ∷ sources))
cat_in verb cwd (target ∷ []) = misused_in (verb ∷ target ∷ [])
cat_in verb cwd [] = misused_in (verb ∷ [])

copy_in : (verb cwd : List ℕ) (words : Words) → EndsIn (verb ∷ words) (spec.copy cwd words)
copy_in verb cwd (source ∷ target ∷ []) =
    reads_in verb (source ∷ target ∷ []) (clean cwd source)
    (λ bytes. writes (clean cwd target) bytes)
    (λ bytes. writes_in source (target ∷ []) (clean cwd target) bytes)
copy_in verb cwd [] = misused_in (verb ∷ [])
copy_in verb cwd (a ∷ []) = misused_in (verb ∷ a ∷ [])
copy_in verb cwd (a ∷ b ∷ c ∷ words) = misused_in (verb ∷ a ∷ b ∷ c ∷ words)

move_in : (verb cwd : List ℕ) (words : Words) → EndsIn (verb ∷ words) (spec.move cwd words)
move_in verb cwd (from ∷ to ∷ []) =
    reads_in verb (from ∷ to ∷ []) (clean cwd from)
    (λ bytes. moves (clean cwd from) (clean cwd to))
    (λ bytes. moves_in from (to ∷ []) (clean cwd from) (clean cwd to))
move_in verb cwd [] = misused_in (verb ∷ [])
move_in verb cwd (a ∷ []) = misused_in (verb ∷ a ∷ [])
move_in verb cwd (a ∷ b ∷ c ∷ words) = misused_in (verb ∷ a ∷ b ∷ c ∷ words)

del_in : (verb cwd : List ℕ) (words : Words) → EndsIn (verb ∷ words) (spec.del cwd words)
del_in verb cwd (path ∷ []) =
    reads_in verb (path ∷ []) (clean cwd path) (λ bytes. deletes (clean cwd path))
    (λ bytes. deletes_in path [] (clean cwd path))
del_in verb cwd [] = misused_in (verb ∷ [])
del_in verb cwd (a ∷ b ∷ words) = misused_in (verb ∷ a ∷ b ∷ words)

show_in : (verb cwd : List ℕ) (words : Words) → EndsIn (verb ∷ words) (spec.show cwd words)
show_in verb cwd (path ∷ []) =
    reads_in verb (path ∷ []) (clean cwd path) (stops 0) (stops_in (path ∷ []) 0)
show_in verb cwd [] = misused_in (verb ∷ [])
show_in verb cwd (a ∷ b ∷ words) = misused_in (verb ∷ a ∷ b ∷ words)

picks_in : (verb word : List ℕ) (words : Words) (cwd target source : List ℕ) (place : Option ℕ)
    → EndsIn (verb ∷ word ∷ words) (spec.picks cwd target source place)
picks_in verb word words cwd target source None = misused_in (verb ∷ word ∷ words)
picks_in verb word words cwd target source (Some place) =
    reads_in verb (word ∷ words) (clean cwd source)
    (λ bytes. writes (clean cwd target) (picked place bytes))
    (λ bytes. writes_in word words (clean cwd target) (picked place bytes))

pick_in : (verb cwd : List ℕ) (words : Words) → EndsIn (verb ∷ words) (spec.pick cwd words)
pick_in verb cwd (target ∷ number ∷ source ∷ []) =
    picks_in verb target (number ∷ source ∷ []) cwd target source (place_of number)
pick_in verb cwd [] = misused_in (verb ∷ [])
pick_in verb cwd (a ∷ []) = misused_in (verb ∷ a ∷ [])
pick_in verb cwd (a ∷ b ∷ []) = misused_in (verb ∷ a ∷ b ∷ [])
pick_in verb cwd (a ∷ b ∷ c ∷ d ∷ words) = misused_in (verb ∷ a ∷ b ∷ c ∷ d ∷ words)

probe_in : (verb cwd : List ℕ) (words : Words) → EndsIn (verb ∷ words) (spec.probe cwd words)
probe_in verb cwd (target ∷ path ∷ []) =
    looks_in verb (target ∷ path ∷ []) (clean cwd path)
    (λ stands. writes (clean cwd target) (spec.yes_or_no stands))
    (λ stands. writes_in target (path ∷ []) (clean cwd target) (spec.yes_or_no stands))
probe_in verb cwd [] = misused_in (verb ∷ [])
probe_in verb cwd (a ∷ []) = misused_in (verb ∷ a ∷ [])
probe_in verb cwd (a ∷ b ∷ c ∷ words) = misused_in (verb ∷ a ∷ b ∷ c ∷ words)

stops_if : (words : Words) (status : ℕ) (test : Bool)
    → EndsIn words (if test then stops status [] else spec.misused)
stops_if words status true = stops_in words status []
stops_if words status false = misused_in words

fails_in : (words : Words) (status : Option ℕ) → EndsIn words (spec.fails status)
fails_in words None = misused_in words
fails_in words (Some status) = stops_if words status (nat_le 1 status && nat_le status 255)

fail_in : (verb : List ℕ) (words : Words) → EndsIn (verb ∷ words) (spec.fail words)
fail_in verb (number ∷ []) = fails_in (verb ∷ number ∷ []) (number_of number)
fail_in verb [] = misused_in (verb ∷ [])
fail_in verb (a ∷ b ∷ words) = misused_in (verb ∷ a ∷ b ∷ words)

env_in : (verb : List ℕ) (cmd : Cmd) (words : Words) → EndsIn (verb ∷ words) (spec.env cmd words)
env_in verb cmd (path ∷ name ∷ []) =
    writes_in verb (path ∷ name ∷ []) (clean cmd.cwd path)
    (line_of (spec.exported_in cmd.exports name ∷ []))
env_in verb cmd [] = misused_in (verb ∷ [])
env_in verb cmd (a ∷ []) = misused_in (verb ∷ a ∷ [])
env_in verb cmd (a ∷ b ∷ c ∷ words) = misused_in (verb ∷ a ∷ b ∷ c ∷ words)

does_in : (word : List ℕ) (cmd : Cmd) (verb : Option Verb) (words : Words)
    → EndsIn (word ∷ words) (spec.does cmd verb words)
does_in word cmd None words = stops_in (word ∷ words) 127 []
does_in word cmd (Some verb.Put) words = put_in word cmd.cwd words
does_in word cmd (Some verb.Cat) words = cat_in word cmd.cwd words
does_in word cmd (Some verb.Copy) words = copy_in word cmd.cwd words
does_in word cmd (Some verb.Move) words = move_in word cmd.cwd words
does_in word cmd (Some verb.Del) words = del_in word cmd.cwd words
does_in word cmd (Some verb.Show) words = show_in word cmd.cwd words
does_in word cmd (Some verb.Say) words = stops_in (word ∷ words) 0 (line_of words)
does_in word cmd (Some verb.Pick) words = pick_in word cmd.cwd words
does_in word cmd (Some verb.Probe) words = probe_in word cmd.cwd words
does_in word cmd (Some verb.Env) words = env_in word cmd words
does_in word cmd (Some verb.Fail) words = fail_in word words

-- Every command is at its end after an answer for each of its words.
pub command_in : (cmd : Cmd) (words : Words) → EndsIn words (spec.command cmd words)
command_in cmd [] = stops_in [] 0 []
command_in cmd (word ∷ words) = does_in word cmd (spec.verb_of word) words
