-- Command lines and what they ask, or how they end, and what they do where they are asked.
use Rattle.std.proofs.Common.{◌≡◌, ℕ, List, [], ◌∷◌, ◌++◌, Some, refl, codes}
use Rattle.mk_bytes.specs.Bytes.{newline}
use Rattle.mk_world.specs.declared.step.Answer.{Answer}
use Rattle.mk_world.specs.declared.step.Answer.TheVariants.{Found, Missing, Stands, Done}
use Rattle.mk_world.specs.declared.step.Next.{Next}
use Rattle.mk_world.specs.declared.step.Next.TheVariants.{More, Over}
use Rattle.mk_world.specs.declared.step.Request.TheVariants.{Look, Write, Delete, Move}
use Rattle.mk_world.specs.Talks.{does}
use Rattle.mk_world.specs.declared.step.Deed.TheVariants as deed
use Rattle.mk_world.specs.declared.step.Ended.{Ended}
use Rattle.mk_world.specs.declared.step.Op.TheVariants as op
use Rattle.mk_commands.specs.Clock.{timed}
use Rattle.mk_commands.specs.Language.{language_next}
use Rattle.mk_commands.specs.Meaning.{language}
use Rattle.mk_commands.specs.Rest.{answer_of}

-- a line in the directory `/w`, after these answers
abbrev line : List ℕ → List Answer → Next
line text answers =
    language_next (record { text = text; cwd = codes "/w"; exports = [] }) answers

abbrev text_line : List ℕ → List ℕ
text_line text = text ++ newline ∷ []

put_writes : line (codes "put p a  b") [] ≡ More (Write (codes "p") (text_line (codes "a b")))
put_writes = refl

put_is_done : line (codes "put p a  b") (Done ∷ []) ≡ Over 0 []
put_is_done = refl

put_without_words : line (codes "put p") [] ≡ More (Write (codes "p") (text_line []))
put_without_words = refl

paths_are_cleaned : line (codes "put ./x/../../y a") []
    ≡ More (Write (codes "/y") (text_line (codes "a")))
paths_are_cleaned = refl

cat_looks : line (codes "cat p s t") (Found (codes "1") ∷ []) ≡ More (Look (codes "t"))
cat_looks = refl

cat_writes : line (codes "cat p s t") (Found (codes "1") ∷ Found (codes "2") ∷ [])
    ≡ More (Write (codes "p") (codes "12"))
cat_writes = refl

cat_misses : line (codes "cat p s t") (Missing ∷ []) ≡ Over 1 []
cat_misses = refl

copy_writes : line (codes "copy p q") (Found (codes "1") ∷ [])
    ≡ More (Write (codes "q") (codes "1"))
copy_writes = refl

move_looks : line (codes "move a b") [] ≡ More (Look (codes "a"))
move_looks = refl

move_asks : line (codes "move a b") (Found [] ∷ []) ≡ More (Move (codes "a") (codes "b"))
move_asks = refl

move_is_done : line (codes "move a b") (Found [] ∷ Stands ∷ []) ≡ Over 0 []
move_is_done = refl

move_comes_late : line (codes "move a b") (Found [] ∷ Missing ∷ []) ≡ Over 1 []
move_comes_late = refl

del_asks : line (codes "del a") (Found [] ∷ []) ≡ More (Delete (codes "a"))
del_asks = refl

del_misses : line (codes "del a") (Missing ∷ []) ≡ Over 1 []
del_misses = refl

show_prints : line (codes "show s") (Found (codes "1") ∷ []) ≡ Over 0 (codes "1")
show_prints = refl

say_prints : line (codes "say a  b") [] ≡ Over 0 (text_line (codes "a b"))
say_prints = refl

pick_writes_a_line : line (codes "pick p 02 s") (Found (text_line (codes "1") ++ codes "2") ∷ [])
    ≡ More (Write (codes "p") (text_line (codes "2")))
pick_writes_a_line = refl

pick_finds_no_line : line (codes "pick p 2 s") (Found (text_line (codes "1")) ∷ [])
    ≡ More (Write (codes "p") [])
pick_finds_no_line = refl

pick_of_line_0 : line (codes "pick p 00 s") [] ≡ Over 2 []
pick_of_line_0 = refl

probe_finds : line (codes "probe p q") (Found [] ∷ [])
    ≡ More (Write (codes "p") (text_line (codes "yes")))
probe_finds = refl

probe_misses : line (codes "probe p q") (Missing ∷ [])
    ≡ More (Write (codes "p") (text_line (codes "no")))
probe_misses = refl

-- a line that finds an exported variable in its environment
abbrev told : List ℕ → Next
told text = language_next (record {
  text = text;
  cwd = codes "/w";
  exports = record { name = codes "A"; value = codes "1" }
      ∷ record { name = codes "B"; value = codes "2" } ∷ [];
}) []

env_writes : told (codes "env p B") ≡ More (Write (codes "p") (text_line (codes "2")))
env_writes = refl

env_of_an_unknown_name : told (codes "env p C") ≡ More (Write (codes "p") (text_line []))
env_of_an_unknown_name = refl

env_of_two_names : told (codes "env p A B") ≡ Over 2 []
env_of_two_names = refl

fail_ends : line (codes "fail 007") [] ≡ Over 7 []
fail_ends = refl

fail_of_256 : line (codes "fail 256") [] ≡ Over 2 []
fail_of_256 = refl

unknown_word : line (codes "make p") [] ≡ Over 127 []
unknown_word = refl

wrong_number_of_words : line (codes "copy p") [] ≡ Over 2 []
wrong_number_of_words = refl

no_words : line (text_line []) [] ≡ Over 0 []
no_words = refl

nothing_after_a_semicolon : line (codes "put p 1 ;") (Done ∷ []) ≡ Over 0 []
nothing_after_a_semicolon = refl

one_after_the_other : line (codes "put p 1 ; copy p q") (Done ∷ []) ≡ More (Look (codes "p"))
one_after_the_other = refl

outputs_are_joined : line (codes "say a ; show s ; say b") (Found (codes "1") ∷ [])
    ≡ Over 0 (text_line (codes "a") ++ codes "1" ++ text_line (codes "b"))
outputs_are_joined = refl

failure_in_the_middle : line (codes "say a ; fail 3 ; say b") [] ≡ Over 3 (text_line (codes "a"))
failure_in_the_middle = refl

-- a command that is asked where every file has the line `1`
abbrev asked : List ℕ → Ended
asked text =
    answer_of (does language (record { text = text; cwd = codes "/w"; exports = [] })
    (λ path. Some (text_line (codes "1"))))

asked_command_prints : asked (codes "show s ; put p a ; del ../q") ≡ record {
  ticket = record { 0 = 0 };
  status = 0;
  output = text_line (codes "1");
  records = Some (op.Read (codes "s") ∷ op.Write (codes "p") ∷ op.Read (codes "/q")
      ∷ op.Delete (codes "/q") ∷ []);
}
asked_command_prints = refl

asked_command_fails : asked (codes "say a ; fail 3") ≡ record {
  ticket = record { 0 = 0 };
  status = 3;
  output = text_line (codes "a");
  records = Some [];
}
asked_command_fails = refl

looks_take_no_number : timed 7 (deed.Write (codes "p") [] ∷ deed.Miss (codes "q")
    ∷ deed.Delete (codes "p") ∷ [])
    ≡ record { deed = deed.Write (codes "p") []; time = 8 }
    ∷ record { deed = deed.Miss (codes "q"); time = 8 }
    ∷ record { deed = deed.Delete (codes "p"); time = 9 } ∷ []
looks_take_no_number = refl
