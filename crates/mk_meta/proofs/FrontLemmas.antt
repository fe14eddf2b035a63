-- The stamp, the commands and their directory, read and written.
use Rattle.std.proofs.Common.{◌≡◌, ℕ, ◌<◌, ◌^◌, false, List, ◌++◌}
use Rattle.std.proofs.Common.{length}
use Rattle.std.proofs.Common.{codes, flat_map, Some, None}
use Rattle.std.proofs.Common.{option_and_then, refl, sym, ◌∙◌, ap, subst, arith}
use Rattle.std.proofs.Common.{append_assoc}
use Rattle.std.proofs.lemmas.Option.{option_and_then_some}
use Rattle.std.specs.List.{AllByRecursion}
use Rattle.std.specs.Option.{option_map}
use Rattle.mk_bytes.specs.Bytes.{newline}
use Rattle.mk_filemon.specs.Escapes.{escaped}
use Rattle.mk_filemon.proofs.RecordLemmas.{option_map_some}
use Rattle.mk_world.specs.declared.command.TaskLine.{TaskLine}
use Rattle.mk_meta.specs.Lawful.{IsKept, IsLawful}
use Rattle.mk_meta.specs.Reading.{Front, Middle, line_read, text_in}
use Rattle.mk_meta.specs.Reading.{number_behind, command_in, all_of}
use Rattle.mk_meta.specs.Reading.{front_at, front_behind}
use Rattle.mk_meta.specs.Texts.{line_of, number_line, command_line}
use Rattle.mk_meta.specs.Texts.{front}
use Rattle.mk_meta.specs.declared.meta.Meta.{Meta}
use Rattle.mk_meta.proofs.CommandLemmas.{command_line-again, command_line-written}
use Rattle.mk_meta.proofs.LineLemmas.{regroup}
use Rattle.mk_meta.proofs.LineLemmas.{line_read-none}
use Rattle.mk_meta.proofs.LineLemmas.{escaped-line}
use Rattle.mk_meta.proofs.LineLemmas.{IsWithout-append, text_line-again, text_line-written}
use Rattle.mk_meta.proofs.LineLemmas.{number_line-again, number_line-written}
use Rattle.mk_meta.proofs.ManyLemmas.{all-again, many-written}

abbrev pub front_of : Meta → Front
front_of meta = record { stamp = meta.stamp.0; lines = meta.lines; cwd = meta.cwd }

abbrev pub middle_of : Meta → Middle
middle_of meta = record { exports = meta.exports; target = meta.target; output = meta.output }

pub three : (one two last rest : List ℕ) → (one ++ two ++ last) ++ rest ≡ one ++
    (two ++ (last ++ rest))
three one two last rest = simp append_assoc

pub four : (one two three last rest : List ℕ)
    → (one ++ two ++ three ++ last) ++ rest ≡ one ++ (two ++ (three ++ (last ++ rest)))
four one two three last rest = simp append_assoc

some_byte : (line : TaskLine) → 0 < length (command_line line)
some_byte line = omega arith

no_command : (cwd rest : List ℕ)
    → line_read command_in (line_of (codes "CWD ") cwd ++ rest) ≡ None
no_command cwd rest =
    ap (line_read command_in) (regroup (codes "CWD ") (escaped false cwd) rest)
    ∙ line_read-none command_in (codes "CWD " ++ escaped false cwd) rest
    (IsWithout-append newline (codes "CWD ") (escaped false cwd) (refl, (refl, (refl, (refl, tt))))
    (escaped-line false cwd)) refl

pub front-again : (meta : Meta) (rest : List ℕ) → IsLawful meta
    → front_at (front meta ++ rest) ≡ Some (front_of meta, rest)
front-again meta rest is =
    let stamp = number_line (codes "STAMP ") meta.stamp.0 in
    let lines = flat_map command_line meta.lines in
    let cwd = line_of (codes "CWD ") meta.cwd in
    ap front_at (three stamp lines cwd rest)
    ∙ ap (option_and_then (λ (s : ℕ × List ℕ). front_behind s.0
    (all_of (line_read command_in) s.1)))
    (number_line-again (codes "STAMP ") meta.stamp.0 (lines ++ (cwd ++ rest))
    (refl, (refl, (refl, (refl, (refl, (refl, tt)))))) is.stamp)
    ∙ ap (front_behind meta.stamp.0) (all-again (line_read command_in) command_line IsKept
    command_line-again some_byte meta.lines (cwd ++ rest) is.lines (no_command meta.cwd rest))
    ∙ ap (option_map (λ (c : List ℕ × List ℕ).
    (record { stamp = meta.stamp.0; lines = meta.lines; cwd = c.0 }, c.1)))
    (text_line-again (codes "CWD ") meta.cwd rest (refl, (refl, (refl, (refl, tt)))))

pub front-written : (text : List ℕ) (found : Front) (rest : List ℕ)
    → front_at text ≡ Some (found, rest)
    → (text ≡ (number_line (codes "STAMP ") found.stamp ++ flat_map command_line found.lines
    ++ line_of (codes "CWD ") found.cwd) ++ rest)
    × (found.stamp < 2 ^ 64) × AllByRecursion IsKept found.lines
front-written text found rest is =
    option_and_then_some (λ (s : ℕ × List ℕ). front_behind s.0 (all_of (line_read command_in) s.1))
    (line_read (number_behind (codes "STAMP ")) text) (found, rest) is
    (λ s at so.
    let many = all_of (line_read command_in) s.1 in
    let lines = many-written (line_read command_in) command_line IsKept command_line-written
    (length s.1) s.1 in
    let cwd = option_map_some (λ (c : List ℕ × List ℕ).
    (record { stamp = s.0; lines = many.0; cwd = c.0 }, c.1))
    (line_read (text_in (codes "CWD ")) many.1) (found, rest) so in
    let stamp = number_line-written (codes "STAMP ") text s.0 s.1 at in
    let last = text_line-written (codes "CWD ") many.1 cwd.0.0 cwd.0.1 cwd.1 in
    let same : ◌≡◌ {A = Front × List ℕ}
    (record { stamp = s.0; lines = many.0; cwd = cwd.0.0 }, cwd.0.1) (found, rest) = cwd.2 in
    let start = number_line (codes "STAMP ") s.0 in
    let all : text ≡ (start ++ flat_map command_line many.0 ++ line_of (codes "CWD ") cwd.0.0)
    ++ cwd.0.1
    = stamp.0 ∙ ap (λ t. start ++ t) (lines.is
    ∙ ap (λ t. flat_map command_line many.0 ++ t) last)
    ∙ sym (three start (flat_map command_line many.0) (line_of (codes "CWD ") cwd.0.0) cwd.0.1) in
    subst (λ (p : Front × List ℕ).
    (text ≡ (number_line (codes "STAMP ") p.0.stamp ++ flat_map command_line p.0.lines
    ++ line_of (codes "CWD ") p.0.cwd) ++ p.1)
    × (p.0.stamp < 2 ^ 64) × AllByRecursion IsKept p.0.lines) same
    (all, stamp.1, lines.each))
