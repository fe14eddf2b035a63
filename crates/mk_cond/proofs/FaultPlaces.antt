-- Where faults stand. A reader is given an end of a text; it leaves an end of that text, and its
-- fault stands in it.
use Rattle.std.proofs.Common.{◌≡◌, ◌≢◌, inl, inr, ℕ, zero, suc, ◌-◌, ◌==◌, ◌||◌, true, false, List, [], ◌∷◌}
use Rattle.std.proofs.Common.{length, drop, slice_get, codes, Option, Some, None, Ok, Err, ap, subst, arith}
use Rattle.std.specs.List.{prefix_len}
use Rattle.std.proofs.lemmas.Bool.{cond_both, or_cases}
use Rattle.std.proofs.lemmas.Bool.Decides.{nat_tests}
use Rattle.mk_bytes.specs.Agrees.{AgreesErr, ◌>>=◌}
use Rattle.mk_bytes.specs.Bytes.{is_blank, exclamation, round_open}
use Rattle.mk_ast.specs.FaultPlaces as references
use Rattle.mk_ast.specs.References.{piece_at, bare_reference_at}
use Rattle.mk_ast.specs.Text as ast
use Rattle.mk_ast.specs.Tree.{Tree, end, part}
use Rattle.mk_ast.specs.declared.fault.AstFault.{AstFault}
use Rattle.mk_ast.specs.declared.fault.AstFault.TheVariants as of
use Rattle.mk_ast.specs.declared.place.Piece.{Piece}
use Rattle.mk_ast.specs.declared.place.Piece.TheVariants.{Word, Quoted, Argument}
use Rattle.mk_ast.proofs.Ends.{IsEnd, IsEnd-whole, IsEnd-drop, IsEnd-tail, IsEnd-at}
use Rattle.mk_ast.proofs.FaultPlaces as reading
use Rattle.mk_ast.proofs.FaultPlaces.{same, in_bare, StandsInBare, piece_at-placed}
use Rattle.mk_ast.proofs.FaultPlaces.{bare_reference_at-placed}
use Rattle.mk_cond.specs.Cond.{Cond, Conds, Side, negate, test, both, cond_then}
use Rattle.mk_cond.specs.Conditions.{Reader, joined, begins_joint, more_at, more_in, joined_at}
use Rattle.mk_cond.specs.Conditions.{parts_of, or_at, closed, inside_at}
use Rattle.mk_cond.specs.Conditions.{opened_at, unit_of, inner_at, unit_at, max_open, whole}
use Rattle.mk_cond.specs.Conditions.{condition_of}
use Rattle.mk_cond.specs.FaultPlaces.{StandsIn}
use Rattle.mk_cond.specs.Terms.{Read, of_tree, with_fault, skip_blanks, begins, past_end}
use Rattle.mk_cond.specs.Terms.{ended_piece_at, fun_text, behind_name, called, of_bare, with_bare_fault}
use Rattle.mk_cond.specs.Terms.{argument_at, call_at, some_word, word_at, unquoted}
use Rattle.mk_cond.specs.Terms.{side_at, op_at, both_at, behind_left, sides_at}
use Rattle.mk_cond.specs.Terms.{behind_word, asked_at, word_term_at, begins_side, side_or_word}
use Rattle.mk_cond.specs.Terms.{term_of}
use Rattle.mk_cond.specs.declared.cond.CmpOp.{CmpOp}
use Rattle.mk_cond.specs.declared.cond.Form.{Form}
use Rattle.mk_cond.specs.declared.cond.Form.TheVariants as form
use Rattle.mk_cond.specs.declared.cond.Fun.{Fun}
use Rattle.mk_cond.specs.declared.cond.Fun.TheVariants as fun
use Rattle.mk_cond.specs.declared.fault.CondFault.{CondFault}
use Rattle.mk_cond.specs.declared.fault.CondFault.TheVariants.{Bad, TooDeep}
use Rattle.mk_cond.specs.declared.fault.CondFault.TheVariants.{NoMemory as no_memory}
use Rattle.mk_cond.specs.declared.read.Joint.{Joint}
use Rattle.mk_cond.specs.declared.read.Joint.TheVariants.{Or, And}
use Rattle.mk_cond.proofs.WrittenConditions.{byte-first}

-- a fault of the grammar of references, as a fault of the condition
of_tree-stands : (text : List ℕ) (fault : AstFault) → references.StandsIn text fault
    → StandsIn text (of_tree fault)
of_tree-stands text (of.Unclosed at) is = is
of_tree-stands text (of.UnknownModifier at) is = is
of_tree-stands text (of.BadModifier at) is = is
of_tree-stands text (of.TooDeep at) is = is
of_tree-stands text of.NoMemory is = absurd is

bare-unclosed : (text : List ℕ) (at : ℕ) → StandsInBare text (of.Unclosed at)
    → (at == length text) ≡ false → references.StandsIn text (of.Unclosed at)
bare-unclosed text at (inl is) other = is
bare-unclosed text at (inr is) other =
    let same : at ≡ length text = cc in absurd (grind (arith, nat_tests, same, other))

of_bare-stands : (text : List ℕ) (fault : AstFault) → StandsInBare text fault
    → StandsIn text (of_bare (length text) fault)
of_bare-stands text (of.Unclosed at) is =
    cond_both (at == length text) _ _ (StandsIn text) (λ _. omega arith)
    (λ other. bare-unclosed text at is other)
of_bare-stands text (of.UnknownModifier at) (inl is) = is
of_bare-stands text (of.UnknownModifier at) (inr is) = cc
of_bare-stands text (of.BadModifier at) (inl is) = is
of_bare-stands text (of.BadModifier at) (inr is) = cc
of_bare-stands text (of.TooDeep at) (inl is) = is
of_bare-stands text (of.TooDeep at) (inr is) = cc
of_bare-stands text of.NoMemory (inl is) = absurd is
of_bare-stands text of.NoMemory (inr is) = cc

module _ (text : List ℕ) where
  -- what is left ends the text, and a fault stands in it
  abbrev Placed : {A : Type 0} → Read A → Type 0
  Placed (Ok x) = IsEnd text x.1
  Placed (Err fault) = StandsIn text fault

  both-placed : {A B : Type 0} (first : Read A) (next : A × List ℕ → Read B) → Placed first
      → ((x : A) (rest : List ℕ) → IsEnd text rest → Placed (next (x, rest)))
      → Placed (first >>= next)
  both-placed (Ok x) next holds goes = goes x.0 x.1 holds
  both-placed (Err fault) next holds goes = holds

  mapped : {A B : Type 0} (first : Read A) (f : A → B) → Placed first
      → Placed (first >>= λ x. Ok (f x.0, x.1))
  mapped (Ok x) f holds = holds
  mapped (Err fault) f holds = holds

  skip_blanks-ends : (bytes : List ℕ) → IsEnd text bytes → IsEnd text (skip_blanks bytes)
  unfolding skip_blanks
  skip_blanks-ends bytes is = IsEnd-drop text bytes (prefix_len is_blank bytes) is

  past_end-placed : (t : Tree) (rest : List ℕ) → IsEnd text rest
      → Placed (past_end (length text) (t, rest))
  past_end-placed t [] is = omega arith
  past_end-placed t (byte ∷ rest) is = IsEnd-tail text byte rest is

  grammar-placed : (piece : Piece) (bytes : List ℕ) → IsEnd text bytes
      → Placed (with_fault (piece_at (length text) piece bytes))
  grammar-placed piece bytes is =
      by (piece_at (length text) piece bytes) (piece_at-placed text piece bytes is)
    where
      by : (r : ast.Read Tree)
          → reading.Placed text (references.StandsIn text) (same text) r → Placed (with_fault r)
      by (Ok x) holds = holds
      by (Err fault) holds = of_tree-stands text fault holds

  ended_piece_at-placed : (piece : Piece) (bytes : List ℕ) → IsEnd text bytes
      → Placed (ended_piece_at (length text) piece bytes)
  ended_piece_at-placed piece bytes is =
      both-placed (with_fault (piece_at (length text) piece bytes)) (past_end (length text))
      (grammar-placed piece bytes is) past_end-placed

  -- Functions

  behind_name-ends : (f : Fun) (bytes : List ℕ) → IsEnd text bytes → IsEnd text (behind_name f bytes)
  behind_name-ends f bytes is =
      skip_blanks-ends (drop (length (fun_text f)) bytes) (IsEnd-drop text bytes _ is)

  bare-placed : (bytes : List ℕ) → IsEnd text bytes
      → Placed (with_bare_fault (length text) (bare_reference_at (length text) bytes))
  bare-placed bytes is =
      by (bare_reference_at (length text) bytes) (bare_reference_at-placed text bytes is)
    where
      by : (r : ast.Read Tree) → reading.Placed text (StandsInBare text) (in_bare text) r
          → Placed (with_bare_fault (length text) r)
      by (Ok x) holds = holds
      by (Err fault) holds = of_bare-stands text fault holds

  argument_at-placed : (f : Fun) (bytes : List ℕ) → IsEnd text bytes
      → Placed (argument_at (length text) f bytes)
  argument_at-placed fun.Empty bytes is = bare-placed bytes is
  argument_at-placed fun.Defined bytes is = ended_piece_at-placed Argument bytes is
  argument_at-placed fun.Make bytes is = ended_piece_at-placed Argument bytes is
  argument_at-placed fun.Exists bytes is = ended_piece_at-placed Argument bytes is
  argument_at-placed fun.Target bytes is = ended_piece_at-placed Argument bytes is
  argument_at-placed fun.Commands bytes is = ended_piece_at-placed Argument bytes is

  call_at-placed : (f : Fun) (bytes : List ℕ) → IsEnd text bytes
      → Placed (call_at (length text) f bytes)
  call_at-placed f bytes is =
      let inner = drop 1 (behind_name f bytes) in
      mapped (argument_at (length text) f inner) (test f)
      (argument_at-placed f inner
      (IsEnd-drop text (behind_name f bytes) 1 (behind_name-ends f bytes is)))

  -- Sides

  some_word-placed : (bytes : List ℕ) (word : Tree) (rest : List ℕ) → IsEnd text rest
      → Placed (some_word (length text) bytes (word, rest))
  some_word-placed bytes end rest is = omega arith
  some_word-placed bytes (part p word) rest is = is

  word_at-placed : (bytes : List ℕ) → IsEnd text bytes → Placed (word_at (length text) bytes)
  word_at-placed bytes is =
      both-placed (with_fault (piece_at (length text) Word bytes)) (some_word (length text) bytes)
      (grammar-placed Word bytes is) (some_word-placed bytes)

  side_at-placed : (bytes : List ℕ) → IsEnd text bytes → Placed (side_at (length text) bytes)
  side_at-placed bytes is =
      let P : Read Side → Type 0 = λ r. Placed r in
      cond_both (begins (codes "\"") bytes) _ _ P
      (λ _. mapped (ended_piece_at (length text) Quoted (drop 1 bytes))
      (λ t. record { text = t; quoted = true })
      (ended_piece_at-placed Quoted (drop 1 bytes) (IsEnd-drop text bytes 1 is)))
      (λ _. mapped (word_at (length text) bytes) unquoted (word_at-placed bytes is))

  -- what is behind an operator ends the text too
  abbrev OpEnds : Option (CmpOp × List ℕ) → Type 0
  OpEnds None = Unit {0}
  OpEnds (Some found) = IsEnd text found.1

  op_at-ends : (bytes : List ℕ) → IsEnd text bytes → OpEnds (op_at bytes)
  op_at-ends bytes is =
      let one = IsEnd-drop text bytes 1 is in
      let two = IsEnd-drop text bytes 2 is in
      cond_both (begins (codes "==") bytes) _ _ OpEnds (λ _. two)
      (λ _. cond_both (begins (codes "!=") bytes) _ _ OpEnds (λ _. two)
      (λ _. cond_both (begins (codes "<=") bytes) _ _ OpEnds (λ _. two)
      (λ _. cond_both (begins (codes ">=") bytes) _ _ OpEnds (λ _. two)
      (λ _. cond_both (begins (codes "<") bytes) _ _ OpEnds (λ _. one)
      (λ _. cond_both (begins (codes ">") bytes) _ _ OpEnds (λ _. one) (λ _. tt))))))

  both_at-placed : (left : Side) (found : CmpOp × List ℕ) → IsEnd text found.1
      → Placed (both_at (length text) left found)
  both_at-placed left found is =
      mapped (side_at (length text) (skip_blanks found.1)) (λ right. both left found.0 right)
      (side_at-placed (skip_blanks found.1) (skip_blanks-ends found.1 is))

  behind_left-placed : (left : Side) (bytes : List ℕ) (found : Option (CmpOp × List ℕ))
      → IsEnd text bytes → OpEnds found → Placed (behind_left (length text) left bytes found)
  behind_left-placed left bytes None is ends = is
  behind_left-placed left bytes (Some found) is ends = both_at-placed left found ends

  sides_at-placed : (bytes : List ℕ) → IsEnd text bytes → Placed (sides_at (length text) bytes)
  sides_at-placed bytes is =
      both-placed (side_at (length text) bytes) _ (side_at-placed bytes is)
      (λ left rest here. behind_left-placed left rest (op_at (skip_blanks rest)) here
      (op_at-ends (skip_blanks rest) (skip_blanks-ends rest here)))

  -- Words

  behind_word-placed : (word : Tree) (bytes : List ℕ) (found : Option (CmpOp × List ℕ))
      → IsEnd text bytes → OpEnds found → Placed (behind_word (length text) word bytes found)
  behind_word-placed word bytes None is ends = is
  behind_word-placed word bytes (Some found) is ends = both_at-placed (unquoted word) found ends

  asked_at-placed : (f : Form) (word : Tree) (rest : List ℕ) → IsEnd text rest
      → Placed (asked_at (length text) f (word, rest))
  asked_at-placed form.If word rest is = is
  asked_at-placed form.Def word rest is = is
  asked_at-placed form.Ndef word rest is = is
  asked_at-placed form.Make word rest is = is
  asked_at-placed form.Nmake word rest is = is
  asked_at-placed form.Inner word rest is =
      behind_word-placed word rest (op_at (skip_blanks rest)) is
      (op_at-ends (skip_blanks rest) (skip_blanks-ends rest is))

  word_term_at-placed : (f : Form) (bytes : List ℕ) → IsEnd text bytes
      → Placed (word_term_at (length text) f bytes)
  word_term_at-placed f bytes is =
      both-placed (word_at (length text) bytes) (asked_at (length text) f) (word_at-placed bytes is)
      (asked_at-placed f)

  -- Terms

  side_or_word-placed : (f : Form) (bytes : List ℕ) → IsEnd text bytes
      → Placed (side_or_word (length text) f bytes)
  side_or_word-placed f bytes is =
      let P : Read Cond → Type 0 = λ r. Placed r in
      cond_both (begins_side bytes) _ _ P (λ _. sides_at-placed bytes is)
      (λ _. word_term_at-placed f bytes is)

  term_of-placed : (f : Form) (bytes : List ℕ) (found : Option Fun) → IsEnd text bytes
      → Placed (term_of (length text) f bytes found)
  term_of-placed f bytes None is = side_or_word-placed f bytes is
  term_of-placed f bytes (Some fun) is = call_at-placed fun bytes is

  -- Conditions

  abbrev ReaderPlaced : Reader → Type 0
  ReaderPlaced read = (bytes : List ℕ) → IsEnd text bytes → Placed (read bytes)

  more_at-placed : (joint : Joint) (parts : Reader) → ReaderPlaced parts → (turns : ℕ)
      (bytes : List ℕ) → IsEnd text bytes → Placed (more_at joint parts turns bytes)
  unfolding more_at
  more_at-placed joint parts good zero bytes is = is
  more_at-placed joint parts good (suc turns) bytes is =
      let P : Read Conds → Type 0 = λ r. Placed r in
      cond_both (begins_joint joint bytes) _ _ P
      (λ _. both-placed (parts (drop 2 bytes)) _ (good (drop 2 bytes) (IsEnd-drop text bytes 2 is))
      (λ c rest here. mapped (more_at joint parts turns (skip_blanks rest)) (cond_then c)
      (more_at-placed joint parts good turns (skip_blanks rest) (skip_blanks-ends rest here))))
      (λ _. is)

  joined_at-placed : (joint : Joint) (parts : Reader) → ReaderPlaced parts
      → ReaderPlaced (joined_at joint parts)
  joined_at-placed joint parts good bytes is =
      both-placed (parts bytes) _ (good bytes is)
      (λ first rest here. mapped (more_in joint parts (skip_blanks rest)) (joined joint first)
      (more_at-placed joint parts good (length (skip_blanks rest)) (skip_blanks rest)
      (skip_blanks-ends rest here)))

  or_at-placed : (units : Reader) → ReaderPlaced units → ReaderPlaced (or_at units)
  or_at-placed units good = joined_at-placed Or (parts_of Or units) (joined_at-placed And units good)

  closed-placed : (c : Cond) (rest : List ℕ) → IsEnd text rest → Placed (closed (length text) (c, rest))
  closed-placed c rest is =
      let P : Read Cond → Type 0 = λ r. Placed r in
      cond_both (begins (codes ")") rest) _ _ P (λ _. IsEnd-drop text rest 1 is) (λ _. omega arith)

  inside_at-placed : (units : Reader) → ReaderPlaced units → ReaderPlaced (inside_at (length text) units)
  inside_at-placed units good bytes is =
      let P : Read Cond → Type 0 = λ r. Placed r in
      let behind = IsEnd-drop text bytes 1 is in
      cond_both (begins (codes "!") bytes) _ _ P
      (λ _. mapped (units (drop 1 bytes)) negate (good (drop 1 bytes) behind))
      (λ _. both-placed (or_at units (drop 1 bytes)) (closed (length text))
      (or_at-placed units good (drop 1 bytes) behind) closed-placed)

  -- the byte that opens a unit, where it is one
  opener-at : (byte : ℕ) (bytes : List ℕ) → IsEnd text bytes → begins (byte ∷ []) bytes ≡ true
      → slice_get text (length text - length bytes) ≡ Some byte
  opener-at byte bytes is begins =
      let first = byte-first byte bytes begins in
      let whole : IsEnd text (byte ∷ drop 1 bytes) = subst (IsEnd text) first is in
      IsEnd-at text byte (drop 1 bytes) _ whole (omega (arith, ap length first))

  too_deep : (bytes : List ℕ) → IsEnd text bytes
      → (begins (codes "!") bytes || begins (codes "(") bytes) ≡ true
      → StandsIn text (TooDeep (length text - length bytes))
  too_deep bytes is opens =
      elim (or_cases (begins (codes "!") bytes) (begins (codes "(") bytes) opens) [
        | inl first ↦ inl (opener-at exclamation bytes is first)
        | inr second ↦ inr (opener-at round_open bytes is second)
      ]

  term-or : (f : Form) (inner : Option Reader) (bytes : List ℕ) → IsEnd text bytes
      → ((begins (codes "!") bytes || begins (codes "(") bytes) ≡ true
      → Placed (opened_at (length text) inner bytes))
      → Placed (unit_of (length text) f inner bytes)
  term-or f inner bytes is opened =
      let P : Read Cond → Type 0 = λ r. Placed r in
      cond_both (begins (codes "!") bytes || begins (codes "(") bytes) _ _ P opened
      (λ _. term_of-placed f bytes (called bytes) is)

  unit_at-placed : (f : Form) (depth : ℕ) → ReaderPlaced (unit_at (length text) f depth)
  unfolding inner_at
  unit_at-placed f zero bytes is =
      let start = skip_blanks bytes in
      let here = skip_blanks-ends bytes is in
      term-or f None start here (too_deep start here)
  unit_at-placed f (suc depth) bytes is =
      let start = skip_blanks bytes in
      let here = skip_blanks-ends bytes is in
      let units = unit_at (length text) f depth in
      term-or f (Some units) start here
      (λ _. inside_at-placed units (unit_at-placed f depth) start here)

  whole-placed : (read : Read Cond) (fault : CondFault) → Placed read
      → (read >>= λ c. whole (length text) c) ≡ Err fault → StandsIn text fault
  whole-placed (Ok (c, [])) fault holds is = absurd cc
  whole-placed (Ok (c, byte ∷ rest)) fault holds is =
      let same : Bad (length text - length (byte ∷ rest)) ≡ fault = cc in
      subst (StandsIn text) same (omega arith)
  whole-placed (Err other) fault holds is =
      let same : other ≡ fault = cc in subst (StandsIn text) same holds

-- a fault of a condition stands in its text
pub condition_of-placed : (f : Form) (text : List ℕ) (fault : CondFault)
    → condition_of f text ≡ Err fault → StandsIn text fault
condition_of-placed f text fault is =
    whole-placed text (or_at (unit_at (length text) f max_open) text) fault
    (or_at-placed text (unit_at (length text) f max_open) (unit_at-placed text f max_open) text
    (IsEnd-whole text)) is

pub condition-placed : (f : Form) (text : List ℕ) (fault : CondFault)
    → AgreesErr no_memory fault (condition_of f text) → fault ≢ no_memory → StandsIn text fault
condition-placed f text fault (inl want) some = absurd (some want)
condition-placed f text fault (inr is) some = condition_of-placed f text fault is
