-- What directives print on standard error.
use Rattle.std.specs.Prelude.{ℕ, List, [], ◌∷◌, ◌++◌, codes, decimal}
use Rattle.mk_blocks.specs.Acts.{wrote}
use Rattle.mk_blocks.specs.Outcomes.{refused, ◌>>=◌}
use Rattle.mk_bytes.specs.Bytes.{newline}
use Rattle.mk_makefile.specs.Moments.{Doing, Moment}
use Rattle.mk_makefile.specs.Questions.{Answers}
use Rattle.mk_makefile.specs.Values.{asking, value}
use Rattle.std.specs.Prelude.{false}
use Rattle.mk_makefile.specs.declared.fault.What.TheVariants.{Error}

-- a message with the name of its file and the number of its line, and its newline
abbrev pub message_line : List ℕ → ℕ → List ℕ → List ℕ → List ℕ
message_line file number mark text =
    codes "bmake: \"" ++ (file ++ (codes "\" line " ++ (decimal number ++ (codes ": "
    ++ (mark ++ (text ++ newline ∷ []))))))

abbrev pub said : List ℕ → Moment → Doing (Unit {0})
said line s = asking (wrote line) tt s

-- `.info` prints its text expanded, and `.warning` behind a mark
abbrev pub message : Answers → List ℕ → ℕ → List ℕ → List ℕ → Moment → Doing (Unit {0})
message answers file number mark text s =
    value answers false text s >>= λ shown. said (message_line file number mark shown.0) shown.1

-- `.error` ends the reading with its text expanded
abbrev pub stop : Answers → List ℕ → Moment → Doing (Unit {0})
stop answers text s = value answers false text s >>= λ shown. refused (Error shown.0)
