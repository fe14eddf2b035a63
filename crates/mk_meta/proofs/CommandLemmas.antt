-- The lines of commands, read and written.
use Rattle.std.proofs.Common.{◌≡◌, ℕ, ◌==◌, Bool, true, false}
use Rattle.std.proofs.Common.{List}
use Rattle.std.proofs.Common.{[], ◌∷◌, ◌++◌, codes, Some}
use Rattle.std.proofs.Common.{option_and_then, refl, sym, ◌∙◌, ap, ap₂, subst, arith}
use Rattle.std.proofs.Common.{append_assoc}
use Rattle.std.proofs.lemmas.Bool.Decides.{nat_tests}
use Rattle.std.proofs.lemmas.Option.{option_and_then_some, cond_some}
use Rattle.mk_bytes.specs.Bytes.{newline, minus, backslash}
use Rattle.mk_filemon.specs.Escapes.{escaped, unescaped}
use Rattle.mk_filemon.proofs.CutLemmas.{IsWithout}
use Rattle.mk_filemon.proofs.EscapeLemmas.{cases, same_number}
use Rattle.mk_filemon.proofs.RecordLemmas.{unescaped-again}
use Rattle.mk_filemon.proofs.RecordLemmas.{unescaped-written}
use Rattle.mk_world.specs.declared.command.TaskLine.{TaskLine}
use Rattle.mk_meta.specs.Lawful.{is_command, IsKept}
use Rattle.mk_meta.specs.Reading.{stripped, line_read, kept}
use Rattle.mk_meta.specs.Reading.{command_of}
use Rattle.mk_meta.specs.Reading.{command_behind, command_in}
use Rattle.mk_meta.specs.Texts.{sign, command_line}
use Rattle.mk_meta.proofs.ManyLemmas.{IsWritten}
use Rattle.mk_meta.proofs.LineLemmas.{IsWithout-append, escaped-line, line_read-again}
use Rattle.mk_meta.proofs.LineLemmas.{line_read-written, stripped-again, stripped-written}

-- commands
kept-again : (ignore : Bool) (line : TaskLine) → IsKept line → line.ignore ≡ ignore
    → kept ignore line.text ≡ Some line
kept-again ignore line is same =
    rw is.command (λ i. Some (record {
      text = line.text;
      ignore = sym same i;
      silent = sym is.silent i;
      always = sym is.always i;
      compared = sym is.compared i;
    }))

-- the first byte of a command as it is written is no sign
not_sign : (byte : ℕ) (text : List ℕ) → is_command (byte ∷ text) ≡ true
    → (byte == minus) ≡ false
not_sign byte text is = grind (arith, nat_tests)

behind-plain : (text : List ℕ) → is_command text ≡ true
    → command_behind (escaped false text) ≡ command_of false (escaped false text)
behind-plain [] is = refl
behind-plain (byte ∷ text) is =
    cases (byte == backslash)
    (λ here. rw here refl)
    (λ apart. cases (byte == newline)
    (λ here. rw (apart, here) refl)
    (λ line. rw (apart, line) (rw (not_sign byte text is) refl)))

command_in-again : (line : TaskLine) → IsKept line
    → command_in (codes "CMD " ++ sign line.ignore ++ escaped false line.text) ≡ Some line
command_in-again line is =
    ap (λ found. option_and_then command_behind found)
    (stripped-again (codes "CMD ") (sign line.ignore ++ escaped false line.text))
    ∙ go line.ignore refl
  where
    go : (ignore : Bool) → line.ignore ≡ ignore
        → command_behind (sign ignore ++ escaped false line.text) ≡ Some line
    go true same = rw (unescaped-again line.text) (kept-again true line is same)
    go false same =
        behind-plain line.text is.command
        ∙ rw (unescaped-again line.text) (kept-again false line is same)

command-whole : (ignore text rest : List ℕ)
    → (codes "CMD " ++ ignore ++ text ++ newline ∷ []) ++ rest
    ≡ (codes "CMD " ++ ignore ++ text) ++ newline ∷ rest
command-whole ignore text rest = simp append_assoc

sign-line : (ignore : Bool) → IsWithout newline (sign ignore)
sign-line true = (refl, tt)
sign-line false = tt

pub command_line-again : (line : TaskLine) (rest : List ℕ) → IsKept line
    → line_read command_in (command_line line ++ rest) ≡ Some (line, rest)
command_line-again line rest is =
    ap (line_read command_in) (command-whole (sign line.ignore) (escaped false line.text) rest)
    ∙ line_read-again command_in (codes "CMD " ++ sign line.ignore ++ escaped false line.text) rest
    line (IsWithout-append newline (codes "CMD ") (sign line.ignore ++ escaped false line.text)
    (refl, (refl, (refl, (refl, tt)))) (IsWithout-append newline (sign line.ignore)
    (escaped false line.text) (sign-line line.ignore) (escaped-line false line.text)))
    (command_in-again line is)

kept-written : (ignore : Bool) (text : List ℕ) (line : TaskLine) → kept ignore text ≡ Some line
    → (line.ignore ≡ ignore) × (line.text ≡ text) × IsKept line
kept-written ignore text line is =
    let found = cond_some (is_command text) _ line is in (
      sym (ap (λ (l : TaskLine). l.ignore) found.1),
      sym (ap (λ (l : TaskLine). l.text) found.1),
      subst IsKept found.1
          (record { command = found.0; silent = refl; always = refl; compared = refl }),
    )

command_of-written : (ignore : Bool) (text : List ℕ) (line : TaskLine)
    → command_of ignore text ≡ Some line
    → (line.ignore ≡ ignore) × (text ≡ escaped false line.text) × IsKept line
command_of-written ignore text line is =
    option_and_then_some (kept ignore) (unescaped text) line is
    (λ plain at so. let found = kept-written ignore plain line so in
    (found.0, unescaped-written text plain at ∙ ap (escaped false) (sym found.1), found.2))

behind-written : (text : List ℕ) (line : TaskLine) → command_behind text ≡ Some line
    → (text ≡ sign line.ignore ++ escaped false line.text) × IsKept line
behind-written [] line is =
    let found = command_of-written false [] line is in
    (rw found.0 found.1, found.2)
behind-written (byte ∷ text) line is =
    cases (byte == minus)
    (λ here. let found = command_of-written true text line (rw here at is) in
    (rw found.0 (ap₂ (λ b t. b ∷ t) (same_number byte minus here) found.1), found.2))
    (λ apart. let found = command_of-written false (byte ∷ text) line (rw apart at is) in
    (rw found.0 found.1, found.2))

pub command_line-written : (text : List ℕ) (line : TaskLine) (rest : List ℕ)
    → line_read command_in text ≡ Some (line, rest) → IsWritten command_line IsKept text line rest
command_line-written text line rest is =
    let found = line_read-written command_in text line rest is in
    option_and_then_some command_behind (stripped (codes "CMD ") found.line) line found.holds_it
    (λ body at so. let right = behind-written body line so in
    record {
      is = found.is
          ∙ ap (λ l. l ++ newline ∷ rest) (stripped-written (codes "CMD ") found.line body at
          ∙ ap (λ b. codes "CMD " ++ b) right.0)
          ∙ sym (command-whole (sign line.ignore) (escaped false line.text) rest);
      right = right.1;
    })
