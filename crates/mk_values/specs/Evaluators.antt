-- How far an evaluation is, what it gives, and what evaluates references.
use Rattle.std.specs.Prelude.{ℕ, ◌+◌, Bool, List, [], ◌∷◌, ◌++◌, Option, Some, None, Result, Ok}
use Rattle.std.specs.Prelude.{Err}
use Rattle.std.specs.Prelude.{if◌then◌else◌}
use Rattle.mk_ast.specs.Tree.{Part}
use Rattle.mk_values.specs.declared.facts.Asked.{Asked}
use Rattle.mk_values.specs.Names.{Context}
use Rattle.mk_values.specs.declared.chain.Found.{Found}
use Rattle.mk_values.specs.declared.fault.ExpandFault.{ExpandFault}

-- the number of references evaluated so far; the paths that `exists` was asked of, with the
-- answers; and the names that were looked up, where they are kept
pub record Progress : Type 0 where
  pub references : ℕ
  pub asked : List Asked
  pub noted : Option (List (List ℕ))

abbrev pub progress_with : Option (List (List ℕ)) → ℕ → List Asked → Progress
progress_with noted references asked =
    record { references = references; asked = asked; noted = noted }

-- where no names are kept
abbrev pub progress : ℕ → List Asked → Progress
progress references asked = progress_with None references asked

abbrev pub with_reference : Progress → Progress
with_reference p = progress_with p.noted (p.references + 1) p.asked

abbrev pub with_asked : Progress → List Asked → Progress
with_asked p asked = progress_with p.noted p.references asked

-- a name behind those that are kept
abbrev pub noted_with : Option (List (List ℕ)) → List ℕ → Option (List (List ℕ))
noted_with None name = None
noted_with (Some names) name = Some (names ++ name ∷ [])

abbrev pub noting : List ℕ → Progress → Progress
noting name p = progress_with (noted_with p.noted name) p.references p.asked

-- What is found, or the first fault, and the progress behind it.
abbrev pub Answer : Type 0 → Type 0
Answer A = Result (A × Progress) (ExpandFault × Progress)

-- What an evaluation gives: its answer, and the names that are looked up in it, behind those of
-- before. They are the name of each reference that is evaluated, a variable of `:@` too, and each
-- argument of `defined`, in order, as often as they are looked up.
pub record Counted (A : Type 0) : Type 0 where
  pub answer : Answer A
  pub names : List (List ℕ) → List (List ℕ)

abbrev pub behind : {A : Type 0} → Result A ExpandFault → Progress → Answer A
behind (Ok found) p = Ok (found, p)
behind (Err fault) p = Err (fault, p)

-- what is found, or a fault, without a look at a name
abbrev pub tried : {A : Type 0} → Result A ExpandFault → Progress → Counted A
tried found p = record { answer = behind found p; names = λ before. before }

abbrev pub gives : {A : Type 0} → A → Progress → Counted A
gives found p = record { answer = Ok (found, p); names = λ before. before }

-- the same, where a name is looked up first
abbrev pub looking : {A : Type 0} → List ℕ → Counted A → Counted A
looking name found = record {
  answer = found.answer;
  names = λ before. found.names (before ++ name ∷ []);
}

-- one of two, of which the other is not evaluated
abbrev pub either : {A : Type 0} → Bool → Counted A → Counted A → Counted A
either first one other = record {
  answer = if first then one.answer else other.answer;
  names = λ before. if first then one.names before else other.names before;
}

abbrev pub answer_then : {A B : Type 0} → Answer A → (A × Progress → Counted B) → Answer B
answer_then (Ok found) next = (next found).answer
answer_then (Err fault) next = Err fault

abbrev pub names_then : {A B : Type 0} → Answer A → (A × Progress → Counted B) → List (List ℕ)
    → List (List ℕ)
names_then (Ok found) next before = (next found).names before
names_then (Err fault) next before = before

-- the second step on what the first one gives, or the first one's fault
infixl 10 ◌>>=◌
abbrev pub ◌>>=◌ : {A B : Type 0} → Counted A → (A × Progress → Counted B) → Counted B
first >>= next = record {
  answer = answer_then first.answer next;
  names = λ before. names_then first.answer next (first.names before);
}

-- what references find, by what names mean and the progress before
abbrev pub Finder : Type 0
Finder = Context → Progress → Part → Counted Found
