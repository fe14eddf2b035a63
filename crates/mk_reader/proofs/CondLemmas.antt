-- Faults of conditions' grammar.
use Rattle.std.proofs.Common.{◌≡◌, ◌⊎◌, Bool, inl, inr, Result, Err, sym, subst}
use Rattle.mk_bytes.specs.Agrees.{AgreesErr}
use Rattle.mk_cond.specs.Cond.{Cond}
use Rattle.mk_cond.specs.declared.fault.CondFault.{CondFault}
use Rattle.mk_cond.specs.declared.fault.CondFault.TheVariants as cond
use Rattle.mk_makefile.specs.Blocks.{cond_what, judged}
use Rattle.mk_makefile.specs.Refusals.{of_cond}
use Rattle.mk_makefile.specs.declared.fault.Refusal.{Refusal}
use Rattle.mk_makefile.specs.declared.fault.Refusal.TheVariants as refusal
use Rattle.mk_makefile.proofs.LineLemmas.{cond_sort, judged-fault}
use Rattle.mk_reader.specs.Ties.{Outer}
use Rattle.mk_reader.specs.declared.reader.Reader.{Reader}
use Rattle.mk_reader.proofs.GaveLemmas.{Given}
use Rattle.mk_reader.proofs.StepLemmas.{here-want, here-wrong, stood}

module _ {W S : Type 0} (o : Outer W S) (x : Reader W S) (view : Bool → Bool) where
  refused : (fault : CondFault) (found : Result Cond CondFault)
      → (fault ≡ cond.NoMemory) ⊎ (found ≡ Err fault)
      → Given o x x view (Err (of_cond fault)) (λ answers. judged answers found (stood o x))
  refused fault found (inl want) =
      subst (λ (f : CondFault). Given o x x view (Err (of_cond f))
      (λ answers. judged answers found (stood o x))) (sym want)
      (here-want o x view (λ answers. judged answers found (stood o x)))
  refused fault found (inr same) = sorted_so (cond_sort fault)
    where
      sorted_so : (of_cond fault ≡ refusal.NoMemory)
          ⊎ (of_cond fault ≡ refusal.Wrong (cond_what fault))
          → Given o x x view (Err (of_cond fault)) (λ answers. judged answers found (stood o x))
      sorted_so (inl want) =
          subst (λ (r : Refusal). Given o x x view (Err r)
          (λ answers. judged answers found (stood o x))) (sym want)
          (here-want o x view (λ answers. judged answers found (stood o x)))
      sorted_so (inr own) =
          subst (λ (r : Refusal). Given o x x view (Err r)
          (λ answers. judged answers found (stood o x))) (sym own)
          (here-wrong o x view (λ answers. judged answers found (stood o x)) (cond_what fault)
          (λ answers. judged-fault answers fault found (stood o x) same))

  pub cond-refused : (fault : CondFault) (found : Result Cond CondFault)
      → AgreesErr cond.NoMemory fault found
      → Given o x x view (Err (of_cond fault)) (λ answers. judged answers found (stood o x))
  cond-refused fault found agrees = refused fault found agrees
