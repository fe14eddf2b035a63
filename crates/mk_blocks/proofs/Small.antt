-- A small language of lines, for the rows.
use Rattle.std.specs.Prelude.{ℕ, zero, suc, ◌+◌, ◌-◌, ◌%◌, ◌==◌, Bool, true, false, List, [], ◌∷◌}
use Rattle.std.specs.Prelude.{◌++◌, length, drop, take, Option, Some, None, Result, Ok, Err, codes}
use Rattle.std.specs.Prelude.{if◌then◌else◌, nat_eq}
use Rattle.std.specs.List.{starts_with}
use Rattle.std.specs.Str.{bytes_eq}
use Rattle.mk_turns.specs.Turns.{Turn, loop_turns}
use Rattle.mk_blocks.specs.Acts.{wrote}
use Rattle.mk_blocks.specs.Languages.{LineMeaning}
use Rattle.mk_blocks.specs.Outcomes.{Outcome, done, refused}
use Rattle.mk_blocks.specs.declared.kind.LineKind.{LineKind}
use Rattle.mk_blocks.specs.declared.kind.LineKind.TheVariants as kind
use Rattle.mk_blocks.specs.declared.language.IncludedFile.{IncludedFile}

abbrev begins : List ℕ → List ℕ → Bool
begins start text = starts_with nat_eq text start

abbrev pub kind_of : List ℕ → LineKind
kind_of text =
    if begins (codes ".if ") text then kind.If
    else (if begins (codes ".elif ") text then kind.ElseIf
    else (if begins (codes ".else") text then kind.Else
    else (if begins (codes ".endif") text then kind.EndIf
    else (if begins (codes ".for ") text then kind.For
    else (if begins (codes ".endfor") text then kind.EndFor
    else (if begins (codes ".break") text then kind.Break
    else (if begins (codes ".include ") text then kind.Include
    else (if begins (codes ".-include ") text then kind.Include
    else (if begins (codes "#") text then kind.Uncounted
    else kind.Plain)))))))))

-- variables, the latest first, or files
abbrev pub Pairs : Type 0
Pairs = List (List ℕ × List ℕ)

-- the variables, and the files that are there
pub record State : Type 0 where
  pub vars : Pairs
  pub files : Pairs

pub data What : Type 0 where
  count : ℕ → ℕ → What
  form : What
  missing : List ℕ → What
  stopped : List ℕ → What

abbrev find : Pairs → List ℕ → Option (List ℕ)
find [] name = None
find (p ∷ pairs) name = if bytes_eq p.0 name then Some p.1 else find pairs name

-- `${:Uword}` is the word
abbrev expand : ℕ → Bool → List ℕ → List ℕ
expand skip inside [] = []
expand (suc n) inside (b ∷ bs) = expand n inside bs
expand zero true (b ∷ bs) = if b == 125 then expand 0 false bs else b ∷ expand 0 true bs
expand zero false (b ∷ bs) = if b == 36 then expand 3 true bs else b ∷ expand 0 false bs

abbrev put_first : ℕ → List (List ℕ) → List (List ℕ)
put_first b [] = (b ∷ []) ∷ []
put_first b (w ∷ ws) = (b ∷ w) ∷ ws

abbrev not_empty : List (List ℕ) → List (List ℕ)
not_empty [] = []
not_empty ([] ∷ ws) = not_empty ws
not_empty ((b ∷ bs) ∷ ws) = (b ∷ bs) ∷ not_empty ws

abbrev split : List ℕ → List (List ℕ)
split [] = [] ∷ []
split (b ∷ bs) = if b == 32 then [] ∷ split bs else put_first b (split bs)

abbrev words : List ℕ → List (List ℕ)
words text = not_empty (split text)

abbrev before_in : List (List ℕ) → List (List ℕ)
before_in [] = []
before_in (w ∷ ws) = if bytes_eq w (codes "in") then [] else w ∷ before_in ws

abbrev after_in : List (List ℕ) → List (List ℕ)
after_in [] = []
after_in (w ∷ ws) = if bytes_eq w (codes "in") then ws else after_in ws

abbrev all_expanded : List (List ℕ) → List (List ℕ)
all_expanded [] = []
all_expanded (w ∷ ws) = expand 0 false w ∷ all_expanded ws

abbrev turns_of : List (List ℕ) → List (List ℕ) → Result (List Turn) What
turns_of [] ws = Err form
turns_of (n ∷ names) ws =
    if length ws % length (n ∷ names) == 0 then Ok (loop_turns (n ∷ names) ws)
    else Err (count (length ws) (length (n ∷ names)))

abbrev answered : {A : Type 0} → State → Result A What → Outcome (A × State) What
answered s (Ok given) = done (given, s)
answered s (Err what) = refused what

abbrev loop_of : List ℕ → Result (List Turn) What
loop_of text = turns_of (before_in (words (drop 5 text))) (all_expanded (after_in (words text)))

abbrev compared : List (List ℕ) → Result Bool What
compared (a ∷ operator ∷ b ∷ []) = Ok (bytes_eq a b)
compared (name ∷ []) = Ok false
compared _ = Err form

abbrev after_blank : List ℕ → List ℕ
after_blank [] = []
after_blank (b ∷ bs) = if b == 32 then bs else after_blank bs

abbrev set : State → List ℕ → List ℕ → State
set s name value = record { vars = (name, value) ∷ s.vars; files = s.files }

abbrev appended : Option (List ℕ) → List ℕ → List ℕ
appended None value = value
appended (Some old) value = old ++ 32 ∷ value

-- the command `put F X` makes a file
abbrev ran : Pairs → List (List ℕ) → Pairs
ran files (p ∷ f ∷ x ∷ []) = (f, x) ∷ files
ran files _ = files

abbrev assigned : List ℕ → ℕ → List ℕ → State → Result State What
assigned name sign text s =
    if sign == 61 then Ok (set s name (drop 2 text))
    else (if sign == 43 then
    Ok (set s name (appended (find s.vars name) (expand 0 false (drop 3 text))))
    else (if sign == 33 then
    Ok (set (record { vars = s.vars; files = ran s.files (words (drop 3 text)) }) name
    (drop 3 text))
    else Err form))

abbrev second : List ℕ → ℕ
second (a ∷ b ∷ bs) = b
second _ = 0

abbrev stepped : Result State What → Outcome (Unit {0} × State) What
stepped (Ok s) = done (tt, s)
stepped (Err what) = refused what

-- `.info` writes the name of the file, the number of the line, and its text
abbrev step_of : List ℕ → ℕ → List ℕ → State → Outcome (Unit {0} × State) What
step_of name number text s =
    if begins (codes ".info ") text then
    record {
      acts = wrote (name ++ 58 ∷ (48 + number) ∷ drop 5 (expand 0 false text)) ∷ [];
      answer = Ok (tt, s);
    }
    else (if begins (codes ".error ") text then refused (stopped (drop 7 text))
    else (if begins (codes "#") text then done (tt, s)
    else stepped (assigned (take 1 text) (second text) text s)))

abbrev found : Bool → List ℕ → Option (List ℕ) → Result (Option IncludedFile) What
found may name (Some bytes) = Ok (Some (record { name = name; text = bytes }))
found true name None = Ok None
found false name None = Err (missing name)

abbrev unquoted : List ℕ → List ℕ
unquoted text = take (length text - 2) (drop 1 text)

abbrev wanted : List ℕ → State → Result (Option IncludedFile) What
wanted text s =
    let name = unquoted (after_blank text) in
    found (begins (codes ".-") text) name (find s.files name)

-- the end of a file sets the variable `E`
abbrev pub small : LineMeaning State What
small = record {
  step = step_of;
  condition = λ name number text s. answered s (compared (words (expand 0 false
      (after_blank text))));
  turns = λ name number text s. answered s (loop_of text);
  included = λ name number text s. answered s (wanted text s);
  closed = λ s. set s (codes "E") [];
}
