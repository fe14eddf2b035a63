-- Files that have to be there.
use Rattle.std.proofs.Common.{◌≡◌, ◌⊎◌, ℕ, Bool, true, false, List, inl, inr, Option, Some, None, Result, Ok, Err}
use Rattle.std.proofs.Common.{refl, sym, subst}
use Rattle.mk_blocks.specs.Outcomes.{done, refused}
use Rattle.mk_blocks.specs.declared.language.IncludedFile.{IncludedFile}
use Rattle.mk_makefile.specs.Inclusions.{IsRequired, required}
use Rattle.mk_makefile.specs.Moments.{Moment}
use Rattle.mk_makefile.specs.declared.fault.Refusal.{Refusal}
use Rattle.mk_makefile.specs.declared.fault.Refusal.TheVariants.{NoMemory, Wrong}
use Rattle.mk_makefile.specs.declared.fault.What.TheVariants.{Include}
use Rattle.mk_reader.specs.Ties.{Outer}
use Rattle.mk_reader.specs.declared.reader.Reader.{Reader}
use Rattle.mk_reader.proofs.GaveLemmas.{Given}
use Rattle.mk_reader.proofs.StepLemmas.{here-given, here-want, here-wrong, stood}

required-ok : (optional : Bool) (name : List ℕ) (found file : Option IncludedFile) (s : Moment)
    → IsRequired optional name found (Ok file) → required optional name (found, s) ≡ done (file, s)
required-ok optional name (Some one) file s is = rw is.0 refl
required-ok true name None file s is = rw is.0 refl
required-ok false name None file s is = absurd cc

required-missing : (optional : Bool) (name : List ℕ) (found : Option IncludedFile) (s : Moment)
    → found ≡ None → optional ≡ false → required optional name (found, s) ≡ refused (Include name)
required-missing optional name found s missing needed = rw (missing, needed) refl

module _ {W S : Type 0} (o : Outer W S) (x : Reader W S) (view : Option IncludedFile → Option IncludedFile)
    (same : (file : Option IncludedFile) → view file ≡ file) (optional : Bool) (name : List ℕ)
    (found : Option IncludedFile)
  where
    refused_by : (fault : Refusal)
        → (fault ≡ NoMemory)
        ⊎ ((found ≡ None) × (optional ≡ false) × (fault ≡ Wrong (Include name)))
        → Given o x x view (Err fault) (λ answers. required optional name (found, stood o x))
    refused_by fault (inl want) =
        subst (λ (r : Refusal). Given o x x view (Err r)
        (λ answers. required optional name (found, stood o x))) (sym want)
        (here-want o x view (λ answers. required optional name (found, stood o x)))
    refused_by fault (inr is) =
        subst (λ (r : Refusal). Given o x x view (Err r)
        (λ answers. required optional name (found, stood o x))) (sym is.2)
        (here-wrong o x view (λ answers. required optional name (found, stood o x)) (Include name)
        (λ answers. required-missing optional name found (stood o x) is.0 is.1))

    pub gave-required : (answer : Result (Option IncludedFile) Refusal)
        → IsRequired optional name found answer
        → Given o x x view answer (λ answers. required optional name (found, stood o x))
    gave-required (Ok file) is =
        here-given o x view (λ answers. required optional name (found, stood o x)) file
        (λ answers. rw (same file) (required-ok optional name found file (stood o x) is))
    gave-required (Err fault) is = refused_by fault is
