-- What is known of an answer that is a refusal.
use Rattle.std.proofs.Common.{◌≡◌, ◌⊎◌, ℕ, List, Option, Result, Ok, Err, refl}
use Rattle.std.proofs.Common.{IsErrAnd, OnOk}
use Rattle.mk_ast.specs.declared.fault.AstFault.{AstFault}
use Rattle.mk_ast.specs.declared.fault.AstFault.TheVariants as of_trees
use Rattle.mk_values.specs.Calls.{Asks, Gives, Keeps}
use Rattle.mk_values.specs.Evaluators.{Answer, Progress}
use Rattle.mk_values.specs.Facts.{IsOutside, Lists}
use Rattle.mk_values.specs.Texts.{of_tree}
use Rattle.mk_values.specs.declared.run.Run.{Run}
use Rattle.mk_values.specs.declared.facts.Asked.{Asked}
use Rattle.mk_values.specs.declared.fault.ExpandFault.{ExpandFault}
use Rattle.mk_values.specs.declared.fault.ExpandFault.TheVariants.{Failed}
use Rattle.mk_values.proofs.FactLemmas.{NeverFails, Keeps-then}

pub never-of_tree : (fault : AstFault) → of_tree fault ≡ Failed → ⊥
never-of_tree (of_trees.Unclosed at) is = cc
never-of_tree (of_trees.UnknownModifier at) is = cc
never-of_tree (of_trees.BadModifier at) is = cc
never-of_tree (of_trees.TooDeep at) is = cc
never-of_tree of_trees.NoMemory is = cc

pub Keeps-same : (run : Run) → Keeps run run
Keeps-same run = record { open_names = refl; bound = refl; region = refl }

pub Keeps-noted : (run : Run) (noted : Option (List (List ℕ)))
    → Keeps run (record run { noted = noted })
Keeps-noted run noted = record { open_names = refl; bound = refl; region = refl }

module _ {A : Type 0} where
  -- a run behind a call that went well and one more call
  pub Keeps-behind : (a b c : Run) (answer : Result A ExpandFault)
      → Keeps a b → OnOk answer (Keeps b c) → OnOk answer (Keeps a c)
  Keeps-behind a b c (Ok given) first second = Keeps-then a b c first second
  Keeps-behind a b c (Err fault) first second = tt

  -- a refusal with a fault that the definition has, or that the outside may have
  pub refused_as : {Y : Type 0} (view : A → Y) {p : Progress} {defined : Answer Y}
      {fault : ExpandFault} (answer : Result A ExpandFault)
      → IsErrAnd answer (λ one. one ≡ fault)
      → IsOutside fault ⊎ (defined ≡ Err (fault, p)) → Gives view p answer defined
  refused_as view (Ok given) is same = absurd is
  refused_as view (Err fault) is same = rw is same

  -- a refusal asks what is asked where its fault is the answer
  pub Asks-refused : {leads : Type 0} {l0 l1 : Lists} {a0 a1 : List Asked} {f0 f1 : ℕ}
      {fault : ExpandFault} (answer : Result A ExpandFault)
      → IsErrAnd answer (λ one. one ≡ fault)
      → Asks {A = A} leads l0 l1 a0 a1 f0 f1 (Err fault)
      → Asks leads l0 l1 a0 a1 f0 f1 answer
  Asks-refused (Ok given) is asks = absurd is
  Asks-refused (Err fault) is asks = rw is asks

-- an answer that is no failure, behind a call that went well
pub Asks-never : {A B : Type 0} {leads : Type 0} {l0 l1 : Lists} {a0 a1 : List Asked} {f0 f1 : ℕ}
    {given : A} (answer : Result B ExpandFault) → NeverFails answer
    → Asks leads l0 l1 a0 a1 f0 f1 (Ok given) → Asks leads l0 l1 a0 a1 f0 f1 answer
Asks-never answer never asks = record {
  led = asks.led;
  lists = asks.lists;
  asked = asks.asked;
  cause = record {
    kept = asks.cause.kept;
    answered = λ rose. let is = asks.cause.answered rose in absurd cc;
    rose = λ is. absurd (never is);
  };
}
