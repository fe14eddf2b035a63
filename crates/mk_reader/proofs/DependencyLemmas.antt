-- Dependency lines, by what their calls give.
use Rattle.std.proofs.Common.{◌≡◌, ◌⊎◌, ℕ, true, List, Option, Result, Ok, Err, inl, inr, refl, sym, ap, subst}
use Rattle.mk_blocks.specs.Outcomes.{done}
use Rattle.mk_ast.specs.declared.fault.AstFault.{AstFault}
use Rattle.mk_ast.specs.declared.fault.AstFault.TheVariants as ast
use Rattle.mk_bytes.specs.Agrees.{AgreesErr}
use Rattle.mk_depline.specs.Lines.{dep_line}
use Rattle.mk_depline.specs.declared.fault.DepFault.{DepFault}
use Rattle.mk_depline.specs.declared.fault.DepFault.TheVariants as line
use Rattle.mk_depline.specs.declared.line.DepLine.{DepLine}
use Rattle.mk_values.specs.Texts.{of_tree}
use Rattle.mk_makefile.specs.Dependencies.{Parted, of_line, parted, ruled}
use Rattle.mk_makefile.specs.DependencyView.{IsRefusedLine}
use Rattle.mk_makefile.specs.Questions.{Answers}
use Rattle.mk_makefile.specs.Refusals.{of_ast, of_line_fault}
use Rattle.mk_makefile.specs.Moments.{Doing, Moment}
use Rattle.mk_makefile.specs.Steps.{by_line, by_parts, dependency_read, line_added, line_opened, with_rules}
use Rattle.mk_makefile.specs.declared.fault.Refusal.{Refusal}
use Rattle.mk_makefile.specs.declared.fault.Refusal.TheVariants as refusal
use Rattle.mk_makefile.specs.declared.fault.What.{What}
use Rattle.mk_makefile.specs.declared.fault.What.TheVariants.{Expand}
use Rattle.mk_rules.specs.Rules.{Ruled}
use Rattle.mk_reader.specs.Ties.{Outer}
use Rattle.mk_reader.specs.declared.reader.Reader.{Reader}
use Rattle.mk_reader.proofs.GaveLemmas.{Given, Stays}
use Rattle.mk_reader.proofs.StepLemmas.{changed-given, changed-want, changed-wrong, here-want, here-wrong, stood}

-- Want of memory, or the own fault

line_sort : (fault : DepFault)
    → (of_line_fault fault ≡ refusal.NoMemory) ⊎ (of_line_fault fault ≡ refusal.Wrong (of_line fault))
line_sort line.NoOperator = inr refl
line_sort line.DoubleColon = inr refl
line_sort line.NoTargets = inr refl
line_sort line.MixedSpecial = inr refl
line_sort line.Brace = inr refl
line_sort line.RuleSources = inr refl
line_sort line.NoMemory = inl refl

ast_sort : (fault : AstFault)
    → (of_ast fault ≡ refusal.NoMemory) ⊎ (of_ast fault ≡ refusal.Wrong (Expand (of_tree fault)))
ast_sort (ast.Unclosed at) = inr refl
ast_sort (ast.UnknownModifier at) = inr refl
ast_sort (ast.BadModifier at) = inr refl
ast_sort (ast.TooDeep at) = inr refl
ast_sort ast.NoMemory = inl refl

-- A fault of a reference

module _ {W S : Type 0} (o : Outer W S) (x : Reader W S) (view : Unit {0} → Unit {0}) (text : List ℕ)
  where
    parted_refused : (fault : AstFault) (found : Result Parted AstFault)
        → (fault ≡ ast.NoMemory) ⊎ (found ≡ Err fault)
        → Given o x x view (Err (of_ast fault)) (λ answers. by_parts answers found (stood o x))
    parted_refused fault found (inl want) =
        subst (λ (f : AstFault). Given o x x view (Err (of_ast f))
        (λ answers. by_parts answers found (stood o x))) (sym want)
        (here-want o x view (λ answers. by_parts answers found (stood o x)))
    parted_refused fault found (inr is) = sorted_so (ast_sort fault)
      where
        sorted_so : (of_ast fault ≡ refusal.NoMemory)
            ⊎ (of_ast fault ≡ refusal.Wrong (Expand (of_tree fault)))
            → Given o x x view (Err (of_ast fault)) (λ answers. by_parts answers found (stood o x))
        sorted_so (inl want) =
            subst (λ (r : Refusal). Given o x x view (Err r)
            (λ answers. by_parts answers found (stood o x))) (sym want)
            (here-want o x view (λ answers. by_parts answers found (stood o x)))
        sorted_so (inr own) =
            subst (λ (r : Refusal). Given o x x view (Err r)
            (λ answers. by_parts answers found (stood o x))) (sym own)
            (here-wrong o x view (λ answers. by_parts answers found (stood o x))
            (Expand (of_tree fault)) (λ answers. rw is refl))

    pub part-refused : (fault : AstFault) → AgreesErr ast.NoMemory fault (parted text)
        → Given o x x view (Err (of_ast fault)) (λ answers. dependency_read answers text (stood o x))
    part-refused fault agrees = parted_refused fault (parted text) agrees

pub parts-read : (answers : Answers) (line : List ℕ) (parts : Parted) (s : Moment)
    → parted line ≡ Ok parts → dependency_read answers line s ≡ by_parts answers (Ok parts) s
parts-read answers line parts s is = ap (λ (p : Result Parted AstFault). by_parts answers p s) is

-- A fault of an expanded line

module _ {W S : Type 0} (o : Outer W S) (x : Reader W S) (view : Unit {0} → Unit {0})
    (command : Option (List ℕ)) (text : List ℕ)
  where
    line_refused : (fault : DepFault) (found : Result DepLine DepFault)
        → (fault ≡ line.NoMemory) ⊎ (found ≡ Err fault)
        → Given o x x view (Err (of_line_fault fault)) (λ answers. by_line answers command found (stood o x))
    line_refused fault found (inl want) =
        subst (λ (f : DepFault). Given o x x view (Err (of_line_fault f))
        (λ answers. by_line answers command found (stood o x))) (sym want)
        (here-want o x view (λ answers. by_line answers command found (stood o x)))
    line_refused fault found (inr is) = sorted_so (line_sort fault)
      where
        sorted_so : (of_line_fault fault ≡ refusal.NoMemory)
            ⊎ (of_line_fault fault ≡ refusal.Wrong (of_line fault))
            → Given o x x view (Err (of_line_fault fault))
            (λ answers. by_line answers command found (stood o x))
        sorted_so (inl want) =
            subst (λ (r : Refusal). Given o x x view (Err r)
            (λ answers. by_line answers command found (stood o x))) (sym want)
            (here-want o x view (λ answers. by_line answers command found (stood o x)))
        sorted_so (inr own) =
            subst (λ (r : Refusal). Given o x x view (Err r)
            (λ answers. by_line answers command found (stood o x))) (sym own)
            (here-wrong o x view (λ answers. by_line answers command found (stood o x))
            (of_line fault) (λ answers. rw is refl))

    pub line-refused : (fault : DepFault)
        → AgreesErr line.NoMemory fault
        (dep_line text x.state.now.made.scopes.cwd x.state.now.made.rules.suffixes)
        → Given o x x view (Err (of_line_fault fault))
        (λ answers. line_added answers command text (stood o x))
    line-refused fault agrees =
        line_refused fault
        (dep_line text x.state.now.made.scopes.cwd x.state.now.made.rules.suffixes) agrees

pub line-parsed : (answers : Answers) (command : Option (List ℕ)) (text : List ℕ) (line : DepLine)
    (s : Moment) → dep_line text s.made.scopes.cwd s.made.rules.suffixes ≡ Ok line
    → line_added answers command text s ≡ by_line answers command (Ok line) s
line-parsed answers command text line s is =
    ap (λ (found : Result DepLine DepFault). by_line answers command found s) is

-- A line was added, or refused

module _ {W S : Type 0} (o : Outer W S) (x y : Reader W S) (stays : Stays o x y)
    (world : y.world.now ≡ x.world.now)
    (noted : y.state.now.notes.items ≡ x.state.now.notes.items)
    (command : Option (List ℕ)) (line : DepLine)
  where
    abbrev found : Result Ruled What
    found = ruled x.state.now.made.rules command line

    abbrev whole : Answers → Doing (Unit {0})
    whole answers = line_opened command line (stood o x)

    pub added-refused : (fault : Refusal) → IsRefusedLine found fault
        → Given o x y (λ (u : Unit {0}). u) (Err fault) whole
    added-refused fault (inl want) =
        subst (λ (r : Refusal). Given o x y (λ (u : Unit {0}). u) (Err r) whole) (sym want)
        (changed-want o x y stays (λ (u : Unit {0}). u) whole world noted)
    added-refused fault (inr own) =
        subst (λ (r : Refusal). Given o x y (λ (u : Unit {0}). u) (Err r) whole) (sym own.2)
        (changed-wrong o x y stays (λ (u : Unit {0}). u) whole world noted own.0
        (λ answers. rw own.1 refl))

    pub added-given : (next : Ruled) → found ≡ Ok next
        → stood o y ≡ record (with_rules (stood o x) next) { in_group = true }
        → Given o x y (λ (u : Unit {0}). u) (Ok tt) whole
    added-given next is same =
        changed-given o x y stays (λ (u : Unit {0}). u) whole world noted tt
        (λ answers. rw is (ap (λ (s : Moment). done (tt {0}, s)) (sym same)))
