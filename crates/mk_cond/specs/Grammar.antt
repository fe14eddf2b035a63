-- The grammar of conditions: how each is written, before the rest of a text. Blanks may stand
-- before every part.
use Rattle.std.specs.Prelude.{◌≡◌, ◌⊎◌, ℕ, zero, suc, Bool, true, false, List, [], ◌∷◌, ◌++◌, drop}
use Rattle.std.specs.Prelude.{Option, Some, None, codes}
use Rattle.mk_bytes.specs.Bytes.{exclamation, quote_mark, round_open, round_close}
use Rattle.mk_ast.specs.Tree.{Tree, end, part}
use Rattle.mk_ast.specs.Pieces.{IsPiece, IsBareReference}
use Rattle.mk_ast.specs.declared.place.Piece.TheVariants.{Word, Quoted, Argument}
use Rattle.mk_cond.specs.Cond.{Cond, Conds, Side, negate, test, alone, both, no_more, cond_then}
use Rattle.mk_cond.specs.Conditions.{begins_joint, joint_text, joined, max_open}
use Rattle.mk_cond.specs.Terms.{skip_blanks, begins, called, behind_name, unquoted, op_at, asked}
use Rattle.mk_cond.specs.Terms.{begins_side}
use Rattle.mk_cond.specs.declared.cond.CmpOp.{CmpOp}
use Rattle.mk_cond.specs.declared.cond.Form.{Form}
use Rattle.mk_cond.specs.declared.cond.Form.TheVariants as form
use Rattle.mk_cond.specs.declared.cond.Fun.{Fun}
use Rattle.mk_cond.specs.declared.cond.Fun.TheVariants as fun
use Rattle.mk_cond.specs.declared.read.Joint.{Joint}
use Rattle.mk_cond.specs.declared.read.Joint.TheVariants.{Or, And}

-- `Rule c bytes rest`: the bytes begin with c, and the rest follows it
abbrev pub Rule : Type 1
Rule = Cond → List ℕ → List ℕ → Type 0

-- Sides

abbrev pub is_some : Tree → Bool
is_some end = false
is_some (part p text) = true

-- a word that is not empty
abbrev pub IsWord : Tree → List ℕ → List ℕ → Type 0
IsWord text bytes rest = (is_some text ≡ true) × IsPiece Word text bytes rest

-- a text between quotes, or a word that begins with none
abbrev pub IsSideText : Bool → Tree → List ℕ → List ℕ → Type 0
IsSideText true text bytes rest =
    (behind : List ℕ) × (bytes ≡ quote_mark ∷ behind)
    × IsPiece Quoted text behind (quote_mark ∷ rest)
IsSideText false text bytes rest =
    (begins (codes "\"") bytes ≡ false) × IsWord text bytes rest

abbrev pub IsSide : Side → List ℕ → List ℕ → Type 0
IsSide side bytes rest = IsSideText side.quoted side.text bytes rest

-- a comparison, from behind its left side
abbrev pub IsBoth : Side → Rule
IsBoth left c bytes rest =
    (op : CmpOp) × (right : Side) × (behind : List ℕ) × (c ≡ both left op right)
    × (op_at (skip_blanks bytes) ≡ Some (op, behind)) × IsSide right (skip_blanks behind) rest

-- what was read is all, as no operator follows
abbrev pub IsLone : Cond → Rule
IsLone lone c bytes rest =
    (c ≡ lone) × (op_at (skip_blanks bytes) ≡ None) × (bytes ≡ rest)

abbrev pub IsSides : Rule
IsSides c bytes rest =
    (left : Side) × (behind : List ℕ) × IsSide left bytes behind
    × (IsBoth left c behind rest ⊎ IsLone (alone left) c behind rest)

-- Words

-- what a word asks, from behind it
abbrev pub IsAsked : Form → Tree → Rule
IsAsked form.Inner word c bytes rest =
    IsBoth (unquoted word) c bytes rest ⊎ IsLone (asked form.Inner word) c bytes rest
IsAsked form word c bytes rest = (c ≡ asked form word) × (bytes ≡ rest)

abbrev pub IsBareWord : Form → Rule
IsBareWord form c bytes rest =
    (word : Tree) × (behind : List ℕ) × IsWord word bytes behind × IsAsked form word c behind rest

-- Functions

-- an argument with the parenthesis that closes it
abbrev pub IsArgument : Fun → Tree → List ℕ → List ℕ → Type 0
IsArgument fun.Empty argument bytes rest = IsBareReference argument bytes rest
IsArgument fun argument bytes rest = IsPiece Argument argument bytes (round_close ∷ rest)

abbrev pub IsCall : Fun → Rule
IsCall fun c bytes rest =
    (argument : Tree) × (c ≡ test fun argument)
    × IsArgument fun argument (drop 1 (behind_name fun bytes)) rest

-- Terms

abbrev pub IsSidesOrWord : Form → Bool → Rule
IsSidesOrWord form true c bytes rest = IsSides c bytes rest
IsSidesOrWord form false c bytes rest = IsBareWord form c bytes rest

abbrev pub IsTermOf : Form → Option Fun → Rule
IsTermOf form (Some fun) c bytes rest = IsCall fun c bytes rest
IsTermOf form None c bytes rest = IsSidesOrWord form (begins_side bytes) c bytes rest

-- a term begins with no `!` and no parenthesis
abbrev pub IsTerm : Form → Rule
IsTerm form c bytes rest =
    (begins (codes "!") bytes ≡ false) × (begins (codes "(") bytes ≡ false)
    × IsTermOf form (called bytes) c bytes rest

-- Joined conditions

-- conditions with the sign before each, behind the first
abbrev pub IsMore : Joint → Rule → Conds → List ℕ → List ℕ → Type 0
IsMore joint Parts no_more bytes rest = (begins_joint joint bytes ≡ false) × (bytes ≡ rest)
IsMore joint Parts (cond_then c conds) bytes rest =
    (behind : List ℕ) × (left : List ℕ) × (bytes ≡ joint_text joint ++ behind)
    × Parts c behind left × IsMore joint Parts conds (skip_blanks left) rest

abbrev pub IsJoined : Joint → Rule → Rule
IsJoined joint Parts c bytes rest =
    (first : Cond) × (more : Conds) × (left : List ℕ) × (c ≡ joined joint first more)
    × Parts first bytes left × IsMore joint Parts more (skip_blanks left) rest

abbrev pub IsPartOf : Joint → Rule → Rule
IsPartOf Or Units = IsJoined And Units
IsPartOf And Units = Units

abbrev pub IsOr : Rule → Rule
IsOr Units = IsJoined Or (IsPartOf Or Units)

-- Units

abbrev pub IsNegated : Rule → Rule
IsNegated Units c bytes rest =
    (inner : Cond) × (behind : List ℕ) × (c ≡ negate inner) × (bytes ≡ exclamation ∷ behind)
    × Units inner behind rest

abbrev pub IsGrouped : Rule → Rule
IsGrouped Units c bytes rest =
    (behind : List ℕ) × (bytes ≡ round_open ∷ behind) × IsOr Units c behind (round_close ∷ rest)

-- a unit, in which so many parentheses and `!` may be open at once
unfoldable pub IsUnit : Form → ℕ → Rule
IsUnit form zero c bytes rest = IsTerm form c (skip_blanks bytes) rest
IsUnit form (suc depth) c bytes rest =
    IsTerm form c (skip_blanks bytes) rest
    ⊎ (IsNegated (IsUnit form depth) c (skip_blanks bytes) rest
    ⊎ IsGrouped (IsUnit form depth) c (skip_blanks bytes) rest)

-- The text is this condition and nothing else.
abbrev pub IsCondition : Form → Cond → List ℕ → Type 0
IsCondition form c text = IsOr (IsUnit form max_open) c text []
