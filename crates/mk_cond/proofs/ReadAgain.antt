-- What is written so is read: terms.
use Rattle.std.proofs.Common.{◌≡◌, ◌⊎◌, inl, inr, ℕ, Bool, true, false, List, ◌∷◌, drop}
use Rattle.std.proofs.Common.{Option, Some, None, Ok, refl}
use Rattle.mk_bytes.specs.Bytes.{quote_mark, round_close}
use Rattle.mk_ast.specs.Tree.{Tree, end, part}
use Rattle.mk_ast.specs.Pieces.{IsPiece}
use Rattle.mk_ast.specs.declared.place.Piece.{Piece}
use Rattle.mk_ast.specs.declared.place.Piece.TheVariants.{Word, Quoted, Argument}
use Rattle.mk_ast.proofs.PieceLemmas.{piece_at-spell, bare_reference_at-spell}
use Rattle.mk_cond.specs.Cond.{Cond, Side, alone}
use Rattle.mk_cond.specs.Terms.{ended_piece_at, some_word, word_at, side_at}
use Rattle.mk_cond.specs.Terms.{behind_left, sides_at, asked_at, behind_word, word_term_at}
use Rattle.mk_cond.specs.Terms.{argument_at, call_at, term_of, term_at, called, behind_name}
use Rattle.mk_cond.specs.Terms.{begins_side, op_at, skip_blanks, begins, side_or_word}
use Rattle.mk_cond.specs.Grammar.{is_some, IsWord, IsSideText, IsSide, IsBoth, IsLone, IsSides}
use Rattle.mk_cond.specs.Grammar.{IsAsked, IsBareWord, IsArgument, IsCall, IsSidesOrWord, IsTermOf}
use Rattle.mk_cond.specs.declared.cond.Form.{Form}
use Rattle.mk_cond.specs.declared.cond.Form.TheVariants as form
use Rattle.mk_cond.specs.declared.cond.Fun.{Fun}
use Rattle.mk_cond.specs.declared.cond.Fun.TheVariants as fun

ended_piece_at-read : (total : ℕ) (piece : Piece) (closer : ℕ) (text : Tree) (bytes rest : List ℕ)
    → IsPiece piece text bytes (closer ∷ rest) → ended_piece_at total piece bytes ≡ Ok (text, rest)
ended_piece_at-read total piece closer text bytes rest is =
    rw (piece_at-spell total piece text bytes (closer ∷ rest) is) refl

some_word-read : (total : ℕ) (bytes : List ℕ) (text : Tree) (rest : List ℕ) → is_some text ≡ true
    → some_word total bytes (text, rest) ≡ Ok (text, rest)
some_word-read total bytes end rest some = cc
some_word-read total bytes (part p text) rest some = refl

word_at-read : (total : ℕ) (text : Tree) (bytes rest : List ℕ) → IsWord text bytes rest
    → word_at total bytes ≡ Ok (text, rest)
word_at-read total text bytes rest is =
    rw (piece_at-spell total Word text bytes rest is.1) (some_word-read total bytes text rest is.0)

side_at-text : (total : ℕ) (quoted : Bool) (text : Tree) (bytes rest : List ℕ)
    → IsSideText quoted text bytes rest
    → side_at total bytes ≡ Ok (record { text = text; quoted = quoted }, rest)
unfolding begins
side_at-text total true text bytes rest is =
    rw (is.1, ended_piece_at-read total Quoted quote_mark text is.0 rest is.2) refl
side_at-text total false text bytes rest is =
    rw (is.0, word_at-read total text bytes rest is.1) refl

side_at-read : (total : ℕ) (side : Side) (bytes rest : List ℕ) → IsSide side bytes rest
    → side_at total bytes ≡ Ok (side, rest)
side_at-read total side bytes rest is = side_at-text total side.quoted side.text bytes rest is

behind_left-read : (total : ℕ) (left : Side) (c : Cond) (bytes rest : List ℕ)
    → IsBoth left c bytes rest ⊎ IsLone (alone left) c bytes rest
    → behind_left total left bytes (op_at (skip_blanks bytes)) ≡ Ok (c, rest)
behind_left-read total left c bytes rest (inl is) =
    rw (is.4, is.3, side_at-read total is.1 (skip_blanks is.2) rest is.5) refl
behind_left-read total left c bytes rest (inr is) = rw (is.1, is.0, is.2) refl

sides_at-read : (total : ℕ) (c : Cond) (bytes rest : List ℕ) → IsSides c bytes rest
    → sides_at total bytes ≡ Ok (c, rest)
sides_at-read total c bytes rest is =
    rw (side_at-read total is.0 bytes is.1 is.2) (behind_left-read total is.0 c is.1 rest is.3)

behind_word-read : (total : ℕ) (word : Tree) (c : Cond) (bytes rest : List ℕ)
    → IsAsked form.Inner word c bytes rest
    → behind_word total word bytes (op_at (skip_blanks bytes)) ≡ Ok (c, rest)
behind_word-read total word c bytes rest (inl is) =
    rw (is.4, is.3, side_at-read total is.1 (skip_blanks is.2) rest is.5) refl
behind_word-read total word c bytes rest (inr is) = rw (is.1, is.0, is.2) refl

asked_at-read : (total : ℕ) (f : Form) (word : Tree) (c : Cond) (bytes rest : List ℕ)
    → IsAsked f word c bytes rest → asked_at total f (word, bytes) ≡ Ok (c, rest)
asked_at-read total form.If word c bytes rest is = rw (is.0, is.1) refl
asked_at-read total form.Def word c bytes rest is = rw (is.0, is.1) refl
asked_at-read total form.Ndef word c bytes rest is = rw (is.0, is.1) refl
asked_at-read total form.Make word c bytes rest is = rw (is.0, is.1) refl
asked_at-read total form.Nmake word c bytes rest is = rw (is.0, is.1) refl
asked_at-read total form.Inner word c bytes rest is = behind_word-read total word c bytes rest is

word_term_at-read : (total : ℕ) (f : Form) (c : Cond) (bytes rest : List ℕ)
    → IsBareWord f c bytes rest → word_term_at total f bytes ≡ Ok (c, rest)
word_term_at-read total f c bytes rest is =
    rw (word_at-read total is.0 bytes is.1 is.2) (asked_at-read total f is.0 c is.1 rest is.3)

argument_at-read : (total : ℕ) (f : Fun) (argument : Tree) (bytes rest : List ℕ)
    → IsArgument f argument bytes rest → argument_at total f bytes ≡ Ok (argument, rest)
argument_at-read total fun.Empty argument bytes rest is =
    rw (bare_reference_at-spell total argument bytes rest is) refl
argument_at-read total fun.Defined argument bytes rest is =
    ended_piece_at-read total Argument round_close argument bytes rest is
argument_at-read total fun.Make argument bytes rest is =
    ended_piece_at-read total Argument round_close argument bytes rest is
argument_at-read total fun.Exists argument bytes rest is =
    ended_piece_at-read total Argument round_close argument bytes rest is
argument_at-read total fun.Target argument bytes rest is =
    ended_piece_at-read total Argument round_close argument bytes rest is
argument_at-read total fun.Commands argument bytes rest is =
    ended_piece_at-read total Argument round_close argument bytes rest is

call_at-read : (total : ℕ) (f : Fun) (c : Cond) (bytes rest : List ℕ) → IsCall f c bytes rest
    → call_at total f bytes ≡ Ok (c, rest)
call_at-read total f c bytes rest is =
    rw (is.1, argument_at-read total f is.0 (drop 1 (behind_name f bytes)) rest is.2) refl

side_or_word-read : (total : ℕ) (f : Form) (c : Cond) (bytes rest : List ℕ) (b : Bool)
    → begins_side bytes ≡ b → IsSidesOrWord f b c bytes rest
    → side_or_word total f bytes ≡ Ok (c, rest)
side_or_word-read total f c bytes rest true side is =
    rw side (sides_at-read total c bytes rest is)
side_or_word-read total f c bytes rest false side is =
    rw side (word_term_at-read total f c bytes rest is)

term_of-read : (total : ℕ) (f : Form) (c : Cond) (bytes rest : List ℕ) (r : Option Fun)
    → IsTermOf f r c bytes rest → term_of total f bytes r ≡ Ok (c, rest)
term_of-read total f c bytes rest (Some g) is = call_at-read total g c bytes rest is
term_of-read total f c bytes rest None is =
    side_or_word-read total f c bytes rest (begins_side bytes) refl is

pub term_at-read : (total : ℕ) (f : Form) (c : Cond) (bytes rest : List ℕ)
    → IsTermOf f (called bytes) c bytes rest → term_at total f bytes ≡ Ok (c, rest)
term_at-read total f c bytes rest is = term_of-read total f c bytes rest (called bytes) is
