-- The parts of a log that recorders write, each between a line that names its recorder and one that
-- counts its lines, after the end of filemon(4)'s logs.
use Rattle.std.specs.Prelude.{ℕ, Bool, true, false, not, ◌&&◌, ◌||◌, ◌==◌, ◌+◌, nat_eq, List, []}
use Rattle.std.specs.Prelude.{◌∷◌}
use Rattle.std.specs.Prelude.{Option, Some, None, option_and_then, drop, codes, if◌then◌else◌}
use Rattle.std.specs.List.{slice_split, starts_with}
use Rattle.std.specs.Str.{bytes_eq}
use Rattle.mk_bytes.specs.Bytes.{newline, space}
use Rattle.mk_filemon.specs.Escapes.{number_in, cut_at}
use Rattle.mk_filemon.specs.declared.part.Part.{Part}
use Rattle.mk_filemon.specs.declared.part.Part.TheVariants.{Outside, Inside, Broken}

abbrev pub is_newline : ℕ → Bool
is_newline byte = byte == newline

-- what the line that names a recorder begins with
abbrev pub head : List ℕ
head = codes "# recorder "

abbrev pub is_head : List ℕ → Bool
is_head line = starts_with nat_eq line head

-- `# Bye bye`, a space, the process, a space, its status, a space, and how many lines stand between
abbrev pub is_end : List ℕ → Bool
is_end line = starts_with nat_eq line (codes "# Bye bye ")

abbrev pub behind_word : List ℕ → Option (List ℕ)
behind_word text = option_and_then (λ parts. Some parts.1) (cut_at space text)

abbrev pub behind_end : List ℕ → Option (List ℕ)
behind_end line = if is_end line then Some (drop 10 line) else None

abbrev pub count_in : List ℕ → Option ℕ
count_in line = option_and_then number_in
    (option_and_then behind_word (option_and_then behind_word (behind_end line)))

abbrev pub is_count : ℕ → Option ℕ → Bool
is_count count None = false
is_count count (Some number) = number == count

-- A line inside of a part is counted, or ends it; a second head tells that the part was cut off.
abbrev pub inside : ℕ → List ℕ → Part
inside count line =
    if is_head line then Broken
    else (if is_end line then (if is_count count (count_in line) then Outside else Broken)
    else Inside (count + 1))

abbrev pub after_line : Part → List ℕ → Part
after_line Outside line = if is_head line then Inside 0 else Outside
after_line (Inside count) line = inside count line
after_line Broken line = Broken

-- whether a text is the beginning of a head, or of what stands behind one
abbrev pub is_cut_head : List ℕ → Bool
is_cut_head text = not (bytes_eq text []) && (is_head text || starts_with nat_eq head text)

-- whether a log may end with this behind its last newline
abbrev pub may_end : Part → List ℕ → Bool
may_end Outside last = not (is_cut_head last)
may_end (Inside count) last = false
may_end Broken last = false

abbrev pub are_whole : Part → List (List ℕ) → Bool
are_whole part [] = true
are_whole part (last ∷ []) = may_end part last
are_whole part (line ∷ next ∷ lines) = are_whole (after_line part line) (next ∷ lines)

-- A log is whole where something stands in it, and each part that a recorder began in it has its
-- end, with the count of its lines. Lines outside of such parts, as in a log without any, are as
-- they are.
abbrev pub is_whole : List ℕ → Bool
is_whole log =
    not (bytes_eq log []) && are_whole Outside (slice_split is_newline log)
