-- What is read is written so. Each reader also leaves no more than it was given.
use Rattle.std.proofs.Common.{◌≡◌, ◌⊎◌, inl, inr, ℕ, ◌≤◌, if◌then◌else◌, Bool}
use Rattle.std.proofs.Common.{true, false, List, [], ◌∷◌, ◌++◌, length, drop, Option, Some, None}
use Rattle.std.proofs.Common.{refl, ap, subst, arith, length-append, length-drop, codes}
use Rattle.std.specs.List.{prefix_len}
use Rattle.std.proofs.lemmas.Bool.{cond_both, eqb-true}
use Rattle.mk_bytes.specs.Bytes.{is_blank, quote_mark, round_close}
use Rattle.mk_ast.specs.Tree.{Tree, end, part}
use Rattle.mk_ast.specs.Spell.{spell, spell_mods}
use Rattle.mk_ast.specs.References.{piece_at, bare_reference_at}
use Rattle.mk_ast.specs.Pieces.{IsPiece, IsBareReference}
use Rattle.mk_ast.specs.declared.place.Piece.{Piece}
use Rattle.mk_ast.specs.declared.place.Piece.TheVariants.{Word, Quoted, Argument}
use Rattle.mk_ast.specs.declared.place.Place.TheVariants.{Piece as InCondition}
use Rattle.mk_ast.proofs.Spelled.{may_end}
use Rattle.mk_ast.proofs.PieceLemmas.{PieceOf, piece_at-spelled, bare_reference_at-spelled}
use Rattle.mk_cond.specs.Cond.{Cond, Side, test, alone, both}
use Rattle.mk_cond.specs.Terms.{Read, with_fault, with_bare_fault, past_end, ended_piece_at}
use Rattle.mk_cond.specs.Terms.{some_word, word_at, unquoted, side_at, both_at}
use Rattle.mk_cond.specs.Terms.{behind_left, sides_at, asked, behind_word, asked_at, word_term_at}
use Rattle.mk_cond.specs.Terms.{fun_text, argument_at, call_at, side_or_word, term_of, term_at}
use Rattle.mk_cond.specs.Terms.{called, behind_name, begins_side, op_at, skip_blanks, begins}
use Rattle.mk_cond.specs.Grammar.{IsWord, IsSide, IsBoth, IsLone, IsSides, IsAsked}
use Rattle.mk_cond.specs.Grammar.{IsBareWord, IsArgument, IsCall, IsSidesOrWord, IsTermOf}
use Rattle.mk_cond.specs.declared.cond.CmpOp.{CmpOp}
use Rattle.mk_cond.specs.declared.cond.Form.{Form}
use Rattle.mk_cond.specs.declared.cond.Form.TheVariants as form
use Rattle.mk_cond.specs.declared.cond.Fun.{Fun}
use Rattle.mk_cond.specs.declared.cond.Fun.TheVariants as fun
use Rattle.mk_cond.proofs.Given.{OnGiven, OnGiven-bind, OnGiven-map, OnGiven-weaken}
use Rattle.mk_cond.proofs.Given.{OnGiven-grammar, OnGiven-bare}

-- what is read, and no more is left than was there
abbrev pub Leaves : {A : Type 0} → (A → List ℕ → List ℕ → Type 0) → List ℕ → A → List ℕ → Type 0
Leaves Rule bytes x rest = Rule x bytes rest × (length rest ≤ length bytes)

abbrev pub Written : {A : Type 0} → (A → List ℕ → List ℕ → Type 0) → List ℕ → Read A → Type 0
Written Rule bytes read = OnGiven (Leaves Rule bytes) read

piece-shorter : (piece : Piece) (text : Tree) (bytes rest : List ℕ) → IsPiece piece text bytes rest
    → length rest ≤ length bytes
piece-shorter piece text bytes rest is =
    omega (arith, ap length is.0, length-append (spell text) rest)

pub skip_blanks-shorter : (bytes : List ℕ) → length (skip_blanks bytes) ≤ length bytes
unfolding skip_blanks
skip_blanks-shorter bytes =
    omega (arith, length-drop (prefix_len is_blank bytes) bytes)

-- Texts that end at their own byte

past_end-written : (total : ℕ) (piece : Piece) (closer : ℕ) (bytes : List ℕ)
    → ((byte : ℕ) → may_end (InCondition piece) byte ≡ true → byte ≡ closer)
    → (text : Tree) (rest : List ℕ) → PieceOf piece bytes text rest
    → OnGiven (λ t left. IsPiece piece t bytes (closer ∷ left)) (past_end total (text, rest))
past_end-written total piece closer bytes only text [] is = tt
past_end-written total piece closer bytes only text (byte ∷ rest) is =
    subst (λ b. IsPiece piece text bytes (b ∷ rest)) (only byte is.1) is.0

ended_piece_at-written : (total : ℕ) (piece : Piece) (closer : ℕ) (bytes : List ℕ)
    → ((byte : ℕ) → may_end (InCondition piece) byte ≡ true → byte ≡ closer)
    → OnGiven (λ t rest. IsPiece piece t bytes (closer ∷ rest)) (ended_piece_at total piece bytes)
ended_piece_at-written total piece closer bytes only =
    OnGiven-bind (PieceOf piece bytes) (λ t rest. IsPiece piece t bytes (closer ∷ rest))
    (with_fault (piece_at total piece bytes)) (past_end total)
    (OnGiven-grammar (PieceOf piece bytes) (piece_at total piece bytes)
    (piece_at-spelled total piece bytes))
    (past_end-written total piece closer bytes only)

-- Sides

some_word-written : (total : ℕ) (bytes : List ℕ) (text : Tree) (rest : List ℕ)
    → PieceOf Word bytes text rest → Written IsWord bytes (some_word total bytes (text, rest))
some_word-written total bytes end rest is = tt
some_word-written total bytes (part p text) rest is =
    ((refl, is.0), piece-shorter Word (part p text) bytes rest is.0)

word_at-written : (total : ℕ) (bytes : List ℕ) → Written IsWord bytes (word_at total bytes)
word_at-written total bytes =
    OnGiven-bind (PieceOf Word bytes) (Leaves IsWord bytes)
    (with_fault (piece_at total Word bytes)) (some_word total bytes)
    (OnGiven-grammar (PieceOf Word bytes) (piece_at total Word bytes)
    (piece_at-spelled total Word bytes))
    (some_word-written total bytes)

quote-first : (bytes : List ℕ) → begins (codes "\"") bytes ≡ true
    → bytes ≡ quote_mark ∷ drop 1 bytes
unfolding begins
quote-first [] is = cc
quote-first (byte ∷ bytes) is =
    let same : byte ≡ quote_mark = grind (arith, is) in ap (λ b. b ∷ bytes) same

side_at-written : (total : ℕ) (bytes : List ℕ) → Written IsSide bytes (side_at total bytes)
side_at-written total bytes =
    cond_both (begins (codes "\"") bytes) _ _ (Written IsSide bytes)
    (λ is. OnGiven-map (λ t rest. IsPiece Quoted t (drop 1 bytes) (quote_mark ∷ rest))
    (Leaves IsSide bytes) (ended_piece_at total Quoted (drop 1 bytes))
    (λ t. record { text = t; quoted = true })
    (ended_piece_at-written total Quoted quote_mark (drop 1 bytes)
    (λ byte ends. eqb-true byte quote_mark ends))
    (λ t rest h.
    let shorter = piece-shorter Quoted t (drop 1 bytes) (quote_mark ∷ rest) h in
    ((drop 1 bytes, quote-first bytes is, h), omega (arith, shorter, length-drop 1 bytes))))
    (λ other. OnGiven-map (Leaves IsWord bytes) (Leaves IsSide bytes)
    (word_at total bytes) unquoted (word_at-written total bytes)
    (λ t rest h. ((other, h.0), h.1)))

-- Operators

abbrev Within : List ℕ → Option (CmpOp × List ℕ) → Type 0
Within bytes None = Unit {0}
Within bytes (Some op) = length op.1 ≤ length bytes

op_at-within : (bytes : List ℕ) → Within bytes (op_at bytes)
op_at-within bytes =
    let one : length (drop 1 bytes) ≤ length bytes = omega (arith, length-drop 1 bytes) in
    let two : length (drop 2 bytes) ≤ length bytes = omega (arith, length-drop 2 bytes) in
    let P = Within bytes in
    cond_both (begins (codes "==") bytes) _ _ P (λ _. two)
    (λ _. cond_both (begins (codes "!=") bytes) _ _ P (λ _. two)
    (λ _. cond_both (begins (codes "<=") bytes) _ _ P (λ _. two)
    (λ _. cond_both (begins (codes ">=") bytes) _ _ P (λ _. two)
    (λ _. cond_both (begins (codes "<") bytes) _ _ P (λ _. one)
    (λ _. cond_both (begins (codes ">") bytes) _ _ P (λ _. one) (λ _. tt))))))

op_at-shorter : (bytes : List ℕ) (op : CmpOp × List ℕ) → op_at bytes ≡ Some op
    → length op.1 ≤ length bytes
op_at-shorter bytes op is = subst (Within bytes) is (op_at-within bytes)

both_at-written : (total : ℕ) (left : Side) (bytes : List ℕ) (op : CmpOp × List ℕ)
    → op_at (skip_blanks bytes) ≡ Some op → Written (IsBoth left) bytes (both_at total left op)
both_at-written total left bytes op is =
    let behind = skip_blanks op.1 in
    OnGiven-map (Leaves IsSide behind) (Leaves (IsBoth left) bytes)
    (side_at total behind) (λ right. both left op.0 right) (side_at-written total behind)
    (λ right rest h.
    let first = op_at-shorter (skip_blanks bytes) op is in (
      (op.0, right, op.1, refl, is, h.0),
      omega (arith, h.1, skip_blanks-shorter op.1, first, skip_blanks-shorter bytes),
    ))

abbrev IsBothOrLone : Side → Cond → Cond → List ℕ → List ℕ → Type 0
IsBothOrLone left lone c bytes rest = IsBoth left c bytes rest ⊎ IsLone lone c bytes rest

both-or-lone : (left : Side) (lone : Cond) (bytes : List ℕ) (read : Read Cond)
    → Written (IsBoth left) bytes read → Written (IsBothOrLone left lone) bytes read
both-or-lone left lone bytes read holds =
    OnGiven-weaken (Leaves (IsBoth left) bytes) (Leaves (IsBothOrLone left lone) bytes) read holds
    (λ c rest h. (inl h.0, h.1))

behind_left-written : (total : ℕ) (left : Side) (bytes : List ℕ) (r : Option (CmpOp × List ℕ))
    → op_at (skip_blanks bytes) ≡ r
    → Written (IsBothOrLone left (alone left)) bytes (behind_left total left bytes r)
behind_left-written total left bytes None is = (inr (refl, is, refl), omega arith)
behind_left-written total left bytes (Some op) is =
    both-or-lone left (alone left) bytes (both_at total left op)
    (both_at-written total left bytes op is)

sides_at-written : (total : ℕ) (bytes : List ℕ) → Written IsSides bytes (sides_at total bytes)
sides_at-written total bytes =
    OnGiven-bind (Leaves IsSide bytes) (Leaves IsSides bytes)
    (side_at total bytes) _ (side_at-written total bytes)
    (λ left behind h. OnGiven-weaken (Leaves (IsBothOrLone left (alone left)) behind)
    (Leaves IsSides bytes)
    (behind_left total left behind (op_at (skip_blanks behind)))
    (behind_left-written total left behind (op_at (skip_blanks behind)) refl)
    (λ c rest g. ((left, behind, h.0, g.0), omega (arith, h.1, g.1))))

-- Words

behind_word-written : (total : ℕ) (word : Tree) (bytes : List ℕ) (r : Option (CmpOp × List ℕ))
    → op_at (skip_blanks bytes) ≡ r
    → Written (IsAsked form.Inner word) bytes (behind_word total word bytes r)
behind_word-written total word bytes None is = (inr (refl, is, refl), omega arith)
behind_word-written total word bytes (Some op) is =
    both-or-lone (unquoted word) (asked form.Inner word) bytes (both_at total (unquoted word) op)
    (both_at-written total (unquoted word) bytes op is)

asked_at-written : (total : ℕ) (f : Form) (word : Tree) (bytes : List ℕ)
    → Written (IsAsked f word) bytes (asked_at total f (word, bytes))
asked_at-written total form.If word bytes = ((refl, refl), omega arith)
asked_at-written total form.Def word bytes = ((refl, refl), omega arith)
asked_at-written total form.Ndef word bytes = ((refl, refl), omega arith)
asked_at-written total form.Make word bytes = ((refl, refl), omega arith)
asked_at-written total form.Nmake word bytes = ((refl, refl), omega arith)
asked_at-written total form.Inner word bytes =
    behind_word-written total word bytes (op_at (skip_blanks bytes)) refl

word_term_at-written : (total : ℕ) (f : Form) (bytes : List ℕ)
    → Written (IsBareWord f) bytes (word_term_at total f bytes)
word_term_at-written total f bytes =
    OnGiven-bind (Leaves IsWord bytes) (Leaves (IsBareWord f) bytes)
    (word_at total bytes) (asked_at total f) (word_at-written total bytes)
    (λ word behind h. OnGiven-weaken (Leaves (IsAsked f word) behind) (Leaves (IsBareWord f) bytes)
    (asked_at total f (word, behind)) (asked_at-written total f word behind)
    (λ c rest g. ((word, behind, h.0, g.0), omega (arith, h.1, g.1))))

-- Functions

bare-shorter : (text : Tree) (bytes rest : List ℕ) → IsBareReference text bytes rest
    → length rest ≤ length bytes
bare-shorter text bytes rest is =
    omega (
      arith,
      ap length is.3,
      length-append (spell is.0) (spell_mods is.1 ++ round_close ∷ rest),
      length-append (spell_mods is.1) (round_close ∷ rest),
    )

closed-argument-written : (total : ℕ) (bytes : List ℕ)
    → OnGiven
    (λ t rest. IsPiece Argument t bytes (round_close ∷ rest) × (length rest ≤ length bytes))
    (ended_piece_at total Argument bytes)
closed-argument-written total bytes =
    OnGiven-weaken (λ t rest. IsPiece Argument t bytes (round_close ∷ rest)) _
    (ended_piece_at total Argument bytes)
    (ended_piece_at-written total Argument round_close bytes
    (λ byte ends. eqb-true byte round_close ends))
    (λ t rest h.
    let shorter = piece-shorter Argument t bytes (round_close ∷ rest) h in
    (h, omega (arith, shorter)))

argument_at-written : (total : ℕ) (f : Fun) (bytes : List ℕ)
    → Written (IsArgument f) bytes (argument_at total f bytes)
argument_at-written total fun.Empty bytes =
    OnGiven-weaken (λ t rest. IsBareReference t bytes rest) _
    (with_bare_fault total (bare_reference_at total bytes))
    (OnGiven-bare (λ t rest. IsBareReference t bytes rest) total (bare_reference_at total bytes)
    (bare_reference_at-spelled total bytes))
    (λ t rest h. (h, bare-shorter t bytes rest h))
argument_at-written total fun.Defined bytes = closed-argument-written total bytes
argument_at-written total fun.Make bytes = closed-argument-written total bytes
argument_at-written total fun.Exists bytes = closed-argument-written total bytes
argument_at-written total fun.Target bytes = closed-argument-written total bytes
argument_at-written total fun.Commands bytes = closed-argument-written total bytes

call_at-written : (total : ℕ) (f : Fun) (bytes : List ℕ)
    → Written (IsCall f) bytes (call_at total f bytes)
call_at-written total f bytes =
    let name = drop (length (fun_text f)) bytes in
    let inner = drop 1 (behind_name f bytes) in
    OnGiven-map (Leaves (IsArgument f) inner) (Leaves (IsCall f) bytes)
    (argument_at total f inner) (test f) (argument_at-written total f inner)
    (λ t rest h. (
      (t, refl, h.0),
      omega (
        arith,
        h.1,
        length-drop 1 (behind_name f bytes),
        skip_blanks-shorter name,
        length-drop (length (fun_text f)) bytes,
      ),
    ))

-- Terms

side_or_word-written : (total : ℕ) (f : Form) (bytes : List ℕ)
    → Written (IsSidesOrWord f (begins_side bytes)) bytes (side_or_word total f bytes)
side_or_word-written total f bytes = by (begins_side bytes)
  where
    by : (b : Bool) → Written (IsSidesOrWord f b) bytes
        (if b then sides_at total bytes else word_term_at total f bytes)
    by true = sides_at-written total bytes
    by false = word_term_at-written total f bytes

term_of-written : (total : ℕ) (f : Form) (bytes : List ℕ) (r : Option Fun)
    → Written (IsTermOf f r) bytes (term_of total f bytes r)
term_of-written total f bytes None = side_or_word-written total f bytes
term_of-written total f bytes (Some g) = call_at-written total g bytes

pub term_at-written : (total : ℕ) (f : Form) (bytes : List ℕ)
    → Written (IsTermOf f (called bytes)) bytes (term_at total f bytes)
term_at-written total f bytes = term_of-written total f bytes (called bytes)
