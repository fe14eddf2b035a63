-- Reading the terms of a condition: functions, sides and words.
use Rattle.std.specs.Prelude.{ℕ, ◌-◌, ◌==◌, ◌||◌, ◌&&◌, Bool, true, false, if◌then◌else◌}
use Rattle.std.specs.Prelude.{List, [], ◌∷◌, length, drop, Option, Some, None, Result, Ok, Err}
use Rattle.std.specs.Prelude.{nat_eq, codes}
use Rattle.std.specs.List.{starts_with}
use Rattle.mk_bytes.specs.Agrees.{◌>>=◌}
use Rattle.mk_bytes.specs.Bytes.{is_digit, quote_mark, dollar, plus, minus}
use Rattle.mk_bytes.specs.Texts.{without_blanks_before}
use Rattle.mk_ast.specs.Tree.{Tree, end, part}
use Rattle.mk_ast.specs.References.{piece_at, bare_reference_at}
use Rattle.mk_ast.specs.declared.fault.AstFault.{AstFault}
use Rattle.mk_ast.specs.declared.fault.AstFault.TheVariants as ast
use Rattle.mk_ast.specs.declared.fault.TreeFault.TheVariants as tree
use Rattle.mk_ast.specs.declared.place.Piece.{Piece}
use Rattle.mk_ast.specs.declared.place.Piece.TheVariants.{Word, Quoted, Argument}
use Rattle.mk_cond.specs.Cond.{Cond, Side, negate, test, alone, both}
use Rattle.mk_cond.specs.declared.cond.CmpOp.{CmpOp}
use Rattle.mk_cond.specs.declared.cond.CmpOp.TheVariants as op
use Rattle.mk_cond.specs.declared.cond.Form.{Form}
use Rattle.mk_cond.specs.declared.cond.Form.TheVariants as form
use Rattle.mk_cond.specs.declared.cond.Fun.{Fun}
use Rattle.mk_cond.specs.declared.cond.Fun.TheVariants as fun
use Rattle.mk_cond.specs.declared.fault.CondFault.{CondFault}
use Rattle.mk_cond.specs.declared.fault.CondFault.TheVariants.{Bad, Tree as of_grammar, NoMemory}

-- what is read, and the bytes that follow it; or the first fault
abbrev pub Read : Type 0 → Type 0
Read A = Result (A × List ℕ) CondFault

-- a fault of the grammar of references; want of memory is what it is everywhere
abbrev pub of_tree : AstFault → CondFault
of_tree (ast.Unclosed at) = of_grammar (tree.Unclosed at)
of_tree (ast.UnknownModifier at) = of_grammar (tree.UnknownModifier at)
of_tree (ast.BadModifier at) = of_grammar (tree.BadModifier at)
of_tree (ast.TooDeep at) = of_grammar (tree.TooDeep at)
of_tree ast.NoMemory = NoMemory

abbrev pub with_fault : {A : Type 0} → Result A AstFault → Result A CondFault
with_fault (Ok given) = Ok given
with_fault (Err fault) = Err (of_tree fault)

-- in a text that is `total` bytes long, the first of these bytes does not fit
abbrev pub bad_at : {A : Type 0} → ℕ → List ℕ → Read A
bad_at total bytes = Err (Bad (total - length bytes))

unfoldable pub begins : List ℕ → List ℕ → Bool
begins start bytes = starts_with nat_eq bytes start

-- a text without the blanks that it begins with
unfoldable pub skip_blanks : List ℕ → List ℕ
skip_blanks bytes = without_blanks_before bytes

-- past the byte that ends a text, which is missing where nothing is left
abbrev pub past_end : ℕ → Tree × List ℕ → Read Tree
past_end total (text, []) = Err (Bad total)
past_end total (text, byte ∷ bytes) = Ok (text, bytes)

-- a text of a condition with the byte that ends it
abbrev pub ended_piece_at : ℕ → Piece → List ℕ → Read Tree
ended_piece_at total piece bytes =
    with_fault (piece_at total piece bytes) >>= λ text. past_end total text

-- Functions

abbrev pub fun_text : Fun → List ℕ
fun_text fun.Defined = codes "defined"
fun_text fun.Make = codes "make"
fun_text fun.Empty = codes "empty"
fun_text fun.Exists = codes "exists"
fun_text fun.Target = codes "target"
fun_text fun.Commands = codes "commands"

-- what stands behind the name of a function and the blanks there
abbrev pub behind_name : Fun → List ℕ → List ℕ
behind_name fun bytes = skip_blanks (drop (length (fun_text fun)) bytes)

-- a function is its name, blanks if any, and a parenthesis
unfoldable pub is_call : Fun → List ℕ → Bool
is_call fun bytes = begins (fun_text fun) bytes && begins (codes "(") (behind_name fun bytes)

-- the function that is called here
abbrev pub called : List ℕ → Option Fun
called bytes =
    if is_call fun.Defined bytes then Some fun.Defined
    else (if is_call fun.Make bytes then Some fun.Make
    else (if is_call fun.Empty bytes then Some fun.Empty
    else (if is_call fun.Exists bytes then Some fun.Exists
    else (if is_call fun.Target bytes then Some fun.Target
    else (if is_call fun.Commands bytes then Some fun.Commands
    else None)))))

-- The name and modifiers of `empty` have no `$` that could tell of a missing parenthesis, so that
-- is told like every other text that ends too early.
abbrev pub of_bare : ℕ → AstFault → CondFault
of_bare total (ast.Unclosed at) = if at == total then Bad total else of_grammar (tree.Unclosed at)
of_bare total fault = of_tree fault

abbrev pub with_bare_fault : ℕ → Result (Tree × List ℕ) AstFault → Read Tree
with_bare_fault total (Ok given) = Ok given
with_bare_fault total (Err fault) = Err (of_bare total fault)

-- the argument of a function, behind the parenthesis, up to the one that closes it
abbrev pub argument_at : ℕ → Fun → List ℕ → Read Tree
argument_at total fun.Empty bytes = with_bare_fault total (bare_reference_at total bytes)
argument_at total fun bytes = ended_piece_at total Argument bytes

abbrev pub call_at : ℕ → Fun → List ℕ → Read Cond
call_at total fun bytes =
    argument_at total fun (drop 1 (behind_name fun bytes)) >>= λ text. Ok (test fun text.0, text.1)

-- Sides

-- a word that is not there does not fit
abbrev pub some_word : ℕ → List ℕ → Tree × List ℕ → Read Tree
some_word total bytes (end, rest) = bad_at total bytes
some_word total bytes (part p text, rest) = Ok (part p text, rest)

abbrev pub word_at : ℕ → List ℕ → Read Tree
word_at total bytes = with_fault (piece_at total Word bytes) >>= λ text. some_word total bytes text

-- a quoted text, behind its first quote
abbrev pub quoted_at : ℕ → List ℕ → Read Side
quoted_at total bytes =
    ended_piece_at total Quoted bytes
    >>= λ text. Ok (record { text = text.0; quoted = true }, text.1)

abbrev pub unquoted : Tree → Side
unquoted text = record { text = text; quoted = false }

abbrev pub unquoted_at : ℕ → List ℕ → Read Side
unquoted_at total bytes = word_at total bytes >>= λ text. Ok (unquoted text.0, text.1)

abbrev pub side_at : ℕ → List ℕ → Read Side
side_at total bytes =
    if begins (codes "\"") bytes then quoted_at total (drop 1 bytes) else unquoted_at total bytes

-- an operator, and what is behind it
abbrev pub op_at : List ℕ → Option (CmpOp × List ℕ)
op_at bytes =
    if begins (codes "==") bytes then Some (op.Equal, drop 2 bytes)
    else (if begins (codes "!=") bytes then Some (op.NotEqual, drop 2 bytes)
    else (if begins (codes "<=") bytes then Some (op.LessOrEqual, drop 2 bytes)
    else (if begins (codes ">=") bytes then Some (op.GreaterOrEqual, drop 2 bytes)
    else (if begins (codes "<") bytes then Some (op.Less, drop 1 bytes)
    else (if begins (codes ">") bytes then Some (op.Greater, drop 1 bytes)
    else None)))))

-- a left side with the operator and the right side that may follow it
abbrev pub both_at : ℕ → Side → CmpOp × List ℕ → Read Cond
both_at total left op =
    side_at total (skip_blanks op.1) >>= λ right. Ok (both left op.0 right.0, right.1)

abbrev pub behind_left : ℕ → Side → List ℕ → Option (CmpOp × List ℕ) → Read Cond
behind_left total left bytes None = Ok (alone left, bytes)
behind_left total left bytes (Some op) = both_at total left op

abbrev pub sides_at : ℕ → List ℕ → Read Cond
sides_at total bytes =
    side_at total bytes >>= λ left. behind_left total left.0 left.1 (op_at (skip_blanks left.1))

-- Words

-- what a bare word asks
abbrev pub asked : Form → Tree → Cond
asked form.If word = test fun.Defined word
asked form.Def word = test fun.Defined word
asked form.Ndef word = negate (test fun.Defined word)
asked form.Make word = test fun.Make word
asked form.Nmake word = negate (test fun.Make word)
asked form.Inner word = test fun.Defined word

-- in the name of a `:?` a word is a left side where an operator follows
abbrev pub behind_word : ℕ → Tree → List ℕ → Option (CmpOp × List ℕ) → Read Cond
behind_word total word bytes None = Ok (asked form.Inner word, bytes)
behind_word total word bytes (Some op) = both_at total (unquoted word) op

abbrev pub asked_at : ℕ → Form → Tree × List ℕ → Read Cond
asked_at total form.Inner word = behind_word total word.0 word.1 (op_at (skip_blanks word.1))
asked_at total form word = Ok (asked form word.0, word.1)

abbrev pub word_term_at : ℕ → Form → List ℕ → Read Cond
word_term_at total form bytes = word_at total bytes >>= λ word. asked_at total form word

-- Terms

abbrev pub begins_digit : List ℕ → Bool
begins_digit [] = false
begins_digit (byte ∷ bytes) = is_digit byte

-- a left side begins with a reference, a quote, or a digit that may have a sign
abbrev pub begins_side : List ℕ → Bool
begins_side [] = false
begins_side (byte ∷ bytes) =
    byte == dollar || byte == quote_mark || is_digit byte
    || ((byte == plus || byte == minus) && begins_digit bytes)

abbrev pub side_or_word : ℕ → Form → List ℕ → Read Cond
side_or_word total form bytes =
    if begins_side bytes then sides_at total bytes
    else word_term_at total form bytes

abbrev pub term_of : ℕ → Form → List ℕ → Option Fun → Read Cond
term_of total form bytes (Some fun) = call_at total fun bytes
term_of total form bytes None = side_or_word total form bytes

-- A term of a text that is `total` bytes long. Functions come first.
abbrev pub term_at : ℕ → Form → List ℕ → Read Cond
term_at total form bytes = term_of total form bytes (called bytes)
