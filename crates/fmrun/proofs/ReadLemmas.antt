-- A log that is read again, line by line.
use Rattle.std.proofs.Common.{◌≡◌, ℕ, Bool, true, false, ◌&&◌, ◌==◌, ◌-◌, List, [], ◌∷◌, ◌++◌}
use Rattle.std.proofs.Common.{length, map, Some, codes, flat_map, refl, sym, ◌∙◌, ap, arith}
use Rattle.std.proofs.Common.{append_assoc}
use Rattle.std.proofs.Math.Seq.{get_or-append_seam, take-append_seam}
use Rattle.std.proofs.lemmas.Bool.Decides.{nat_tests}
use Rattle.std.proofs.lemmas.Grind.{common_steps}
use Rattle.std.specs.List.{slice_split, list_all}
use Rattle.std.specs.Str.{bytes_eq}
use Rattle.mk_bytes.specs.Bytes.{newline}
use Rattle.mk_world.specs.declared.step.Op.{Op}
use Rattle.mk_world.specs.declared.step.Op.TheVariants.{Read, Miss, Write, Delete, Move}
use Rattle.mk_filemon.specs.Escapes.{quote, cut_at}
use Rattle.mk_filemon.specs.Log.{Directories, no_directories, with_directory, directory_of}
use Rattle.mk_filemon.specs.Log.{directory_from, cut_at_gap, closed, pair_in}
use Rattle.mk_filemon.specs.Log.{lines_logged, all_logged}
use Rattle.mk_filemon.specs.Parts.{is_newline, are_whole, is_whole}
use Rattle.mk_filemon.specs.declared.part.Part.TheVariants.{Outside}
use Rattle.mk_filemon.proofs.EscapeLemmas.{cases}
use Rattle.mk_filemon.proofs.LogLemmas.{whole-next}
use Rattle.fmrun.specs.Logs.{is_not_empty, has_no, has_form, line, are_apart, move_lines, lines_of}
use Rattle.fmrun.specs.Logs.{log}
use Rattle.fmrun.specs.Readings.{has_lines, named, IsReadAs}

no_more : (byte one : ℕ) (text : List ℕ) → has_no byte (one ∷ text) ≡ true
    → ((one == byte) ≡ false) × (has_no byte text ≡ true)
no_more byte one text none =
    cases (one == byte)
    (λ is. let no : false ≡ true = rw is at none in absurd cc)
    (λ nor. (nor, rw nor at none))

-- a line is cut off at its newline
split-line : (line rest : List ℕ) → has_no newline line ≡ true
    → slice_split is_newline (line ++ newline ∷ rest) ≡ line ∷ slice_split is_newline rest
split-line [] rest none = refl
split-line (byte ∷ line) rest none =
    let more = no_more newline byte line none in
    rw (more.0, split-line line rest more.1) refl

apart_back : (one other : ℕ) → (one == other) ≡ false → (other == one) ≡ false
apart_back one other apart = grind (arith, nat_tests)

-- the first path of a move is cut off where the quotes are
gap-again : (from rest : List ℕ) → has_no quote from ≡ true
    → cut_at_gap (from ++ (codes "' '" ++ rest)) ≡ Some (from, rest)
unfolding cut_at_gap
gap-again [] rest none = refl
gap-again (byte ∷ from) rest none =
    let more = no_more quote byte from none in
    let apart : (quote == byte) ≡ false = apart_back byte quote more.0 in
    rw (apart, gap-again from rest more.1) refl

closed-again : (to : List ℕ) → closed (to ++ quote ∷ []) ≡ Some to
closed-again to =
    let at : length (to ++ quote ∷ []) - 1 ≡ length to = grind (arith, common_steps) in
    rw (at, get_or-append_seam to quote [] 0, take-append_seam to (quote ∷ [])) refl

both : (first second : Bool) → (first && second) ≡ true → (first ≡ true) × (second ≡ true)
both true second is = (refl, is)
both false second is = absurd cc

has_no-append : (byte : ℕ) (first second : List ℕ) → has_no byte first ≡ true
    → has_no byte second ≡ true → has_no byte (first ++ second) ≡ true
has_no-append byte [] second none nor = nor
has_no-append byte (one ∷ first) second none nor =
    let more = no_more byte one first none in
    rw more.0 (has_no-append byte first second more.1 nor)

-- a line with a path is cut off
line-split : (head path rest : List ℕ) → has_no newline head ≡ true → has_form path ≡ true
    → slice_split is_newline (line head path ++ rest) ≡ (head ++ path) ∷ slice_split is_newline rest
line-split head path rest none form =
    let within = both (is_not_empty path) (has_no newline path) form in
    rw (form, append_assoc (head ++ path) (newline ∷ []) rest) (split-line (head ++ path) rest (has_no-append newline head path none within.1))

-- a move, up to the quote that ends it
abbrev move_text : List ℕ → List ℕ → List ℕ
move_text from to = ((codes "M 1 '" ++ from) ++ codes "' '") ++ to

move_lines-apart : (from to : List ℕ) → are_apart from to ≡ true
    → move_lines from to ≡ move_text from to ++ (quote ∷ newline ∷ [])
move_lines-apart from to apart = rw apart refl

move-split : (from to rest : List ℕ) → are_apart from to ≡ true
    → slice_split is_newline (move_lines from to ++ rest)
    ≡ (move_text from to ++ (quote ∷ [])) ∷ slice_split is_newline rest
move-split from to rest apart =
    let first = both (has_form from) (has_form to && has_no quote from) apart in
    let second = both (has_form to) (has_no quote from) first.1 in
    let none = both (is_not_empty from) (has_no newline from) first.0 in
    let nor = both (is_not_empty to) (has_no newline to) second.0 in
    let parted : (move_text from to ++ (quote ∷ newline ∷ [])) ++ rest
    ≡ (move_text from to ++ (quote ∷ [])) ++ (newline ∷ rest) =
    append_assoc (move_text from to) (quote ∷ newline ∷ []) rest
    ∙ sym (append_assoc (move_text from to) (quote ∷ []) (newline ∷ rest)) in
    let gap : has_no newline ((codes "M 1 '" ++ from) ++ codes "' '") ≡ true =
    has_no-append newline (codes "M 1 '" ++ from) (codes "' '") none.1 refl in
    let text : has_no newline (move_text from to) ≡ true =
    has_no-append newline ((codes "M 1 '" ++ from) ++ codes "' '") to gap nor.1 in
    ap (λ lines. slice_split is_newline (lines ++ rest)) (move_lines-apart from to apart)
    ∙ ap (λ lines. slice_split is_newline lines) parted
    ∙ split-line (move_text from to ++ (quote ∷ [])) rest
    (has_no-append newline (move_text from to) (quote ∷ []) text refl)

pair-again : (from to : List ℕ) → has_no quote from ≡ true
    → pair_in (quote ∷ (((from ++ codes "' '") ++ to) ++ (quote ∷ []))) ≡ Some (from, to)
pair-again from to none =
    let parted : ((from ++ codes "' '") ++ to) ++ (quote ∷ [])
    ≡ from ++ (codes "' '" ++ (to ++ (quote ∷ []))) =
    append_assoc (from ++ codes "' '") to (quote ∷ [])
    ∙ append_assoc from (codes "' '") (to ++ (quote ∷ [])) in
    rw (parted, gap-again from (to ++ (quote ∷ [])) none, closed-again to) refl

-- the lines of an operation are read as it
lines-again : (cwd : List ℕ) (dirs : Directories) (op : Op) (rest : List ℕ) → has_lines op ≡ true
    → lines_logged cwd dirs (slice_split is_newline (lines_of op ++ rest))
    ≡ named cwd (directory_of cwd dirs (codes "1")) op
    ∷ lines_logged cwd dirs (slice_split is_newline rest)
unfolding cut_at
lines-again cwd dirs (Read []) rest is = absurd cc
lines-again cwd dirs (Read (byte ∷ path)) rest is =
    rw (line-split (codes "R 1 ") (byte ∷ path) rest refl is) refl
lines-again cwd dirs (Miss []) rest is = absurd cc
lines-again cwd dirs (Miss (byte ∷ path)) rest is =
    rw (line-split (codes "# N 1 ") (byte ∷ path) rest refl is) refl
lines-again cwd dirs (Write []) rest is = absurd cc
lines-again cwd dirs (Write (byte ∷ path)) rest is =
    rw (line-split (codes "W 1 ") (byte ∷ path) rest refl is) refl
lines-again cwd dirs (Delete []) rest is = absurd cc
lines-again cwd dirs (Delete (byte ∷ path)) rest is =
    rw (line-split (codes "D 1 ") (byte ∷ path) rest refl is) refl
lines-again cwd dirs (Move from to) rest is =
    let first = both (has_form from) (has_form to && has_no quote from) is in
    let second = both (has_form to) (has_no quote from) first.1 in
    rw (move-split from to rest is, pair-again from to second.1) refl

all-again : (cwd : List ℕ) (dirs : Directories) (ops : List Op) → list_all has_lines ops ≡ true
    → lines_logged cwd dirs (slice_split is_newline (flat_map lines_of ops))
    ≡ map (named cwd (directory_of cwd dirs (codes "1"))) ops
all-again cwd dirs [] are = refl
all-again cwd dirs (op ∷ ops) are =
    let each = both (has_lines op) (list_all has_lines ops) are in
    rw (lines-again cwd dirs op (flat_map lines_of ops) each.0)
    (ap (λ more. named cwd (directory_of cwd dirs (codes "1")) op ∷ more)
    (all-again cwd dirs ops each.1))

-- the lines of an operation begin no part of a log
lines-whole : (op : Op) (rest : List ℕ) → has_lines op ≡ true
    → are_whole Outside (slice_split is_newline (lines_of op ++ rest))
    ≡ are_whole Outside (slice_split is_newline rest)
lines-whole (Read path) rest is =
    rw (line-split (codes "R 1 ") path rest refl is) (whole-next Outside (codes "R 1 " ++ path) rest)
lines-whole (Miss path) rest is =
    rw (line-split (codes "# N 1 ") path rest refl is) (whole-next Outside (codes "# N 1 " ++ path) rest)
lines-whole (Write path) rest is =
    rw (line-split (codes "W 1 ") path rest refl is) (whole-next Outside (codes "W 1 " ++ path) rest)
lines-whole (Delete path) rest is =
    rw (line-split (codes "D 1 ") path rest refl is) (whole-next Outside (codes "D 1 " ++ path) rest)
lines-whole (Move from to) rest is =
    rw (move-split from to rest is) (whole-next Outside (move_text from to ++ (quote ∷ [])) rest)

all-whole : (ops : List Op) → list_all has_lines ops ≡ true
    → are_whole Outside (slice_split is_newline (flat_map lines_of ops)) ≡ true
all-whole [] are = refl
all-whole (op ∷ ops) are =
    let each = both (has_lines op) (list_all has_lines ops) are in
    lines-whole op (flat_map lines_of ops) each.0 ∙ all-whole ops each.1

log-something : (byte : ℕ) (directory : List ℕ) (ops : List Op) → has_form (byte ∷ directory) ≡ true
    → bytes_eq (log (byte ∷ directory) ops) [] ≡ false
log-something byte directory ops form = rw form refl

-- A log is whole.
log-whole : (directory : List ℕ) (ops : List Op) → has_form directory ≡ true
    → list_all has_lines ops ≡ true → is_whole (log directory ops) ≡ true
log-whole [] ops form are = absurd cc
log-whole (byte ∷ directory) ops form are =
    rw (
      log-something byte directory ops form,
      line-split (codes "C 1 ") (byte ∷ directory) (flat_map lines_of ops) refl form,
    )
    (whole-next Outside (codes "C 1 " ++ byte ∷ directory) (flat_map lines_of ops)
    ∙ all-whole ops are)

log-read : (directory : List ℕ) (ops : List Op) (cwd : List ℕ) → has_form directory ≡ true
    → list_all has_lines ops ≡ true
    → all_logged cwd (log directory ops) ≡ map (named cwd (directory_from cwd directory)) ops
unfolding cut_at
log-read [] ops cwd form are = absurd cc
log-read (byte ∷ directory) ops cwd form are =
    rw (line-split (codes "C 1 ") (byte ∷ directory) (flat_map lines_of ops) refl form)
    (all-again cwd
    (with_directory no_directories (codes "1") (directory_from cwd (byte ∷ directory))) ops are)

-- A log is read as the operations that were recorded.
pub log-again : (directory : List ℕ) (ops : List Op) → IsReadAs directory ops (log directory ops)
log-again directory ops cwd form are fits =
    rw (log-whole directory ops form are, fits) (ap Some (log-read directory ops cwd form are))
