-- What holds of what is read, through the steps of a reading.
use Rattle.std.proofs.Common.{◌≡◌, ℕ, List, Ok}
use Rattle.std.proofs.Common.{Err}
use Rattle.mk_bytes.specs.Agrees.{◌>>=◌}
use Rattle.mk_ast.specs.Text as ast
use Rattle.mk_ast.specs.Tree.{Tree}
use Rattle.mk_ast.proofs.Spelled.{OnRead}
use Rattle.mk_cond.specs.Terms.{Read, with_fault, with_bare_fault}

-- P of what is read and of what follows it
abbrev pub OnGiven : {A : Type 0} → (A → List ℕ → Type 0) → Read A → Type 0
OnGiven P (Ok x) = P x.0 x.1
OnGiven P (Err fault) = Unit {0}

pub OnGiven-bind : {A B : Type 0} (P : A → List ℕ → Type 0) (Q : B → List ℕ → Type 0)
    (first : Read A) (next : A × List ℕ → Read B) → OnGiven P first
    → ((x : A) (rest : List ℕ) → P x rest → OnGiven Q (next (x, rest)))
    → OnGiven Q (first >>= next)
OnGiven-bind P Q (Ok x) next holds goes = goes x.0 x.1 holds
OnGiven-bind P Q (Err fault) next holds goes = tt

pub OnGiven-map : {A B : Type 0} (P : A → List ℕ → Type 0) (Q : B → List ℕ → Type 0)
    (first : Read A) (f : A → B) → OnGiven P first
    → ((x : A) (rest : List ℕ) → P x rest → Q (f x) rest)
    → OnGiven Q (first >>= λ x. Ok (f x.0, x.1))
OnGiven-map P Q (Ok x) f holds goes = goes x.0 x.1 holds
OnGiven-map P Q (Err fault) f holds goes = tt

pub OnGiven-weaken : {A : Type 0} (P Q : A → List ℕ → Type 0) (read : Read A) → OnGiven P read
    → ((x : A) (rest : List ℕ) → P x rest → Q x rest) → OnGiven Q read
OnGiven-weaken P Q (Ok x) holds goes = goes x.0 x.1 holds
OnGiven-weaken P Q (Err fault) holds goes = tt

pub OnGiven-of : {A : Type 0} (P : A → List ℕ → Type 0) (read : Read A) (x : A) (rest : List ℕ)
    → OnGiven P read → read ≡ Ok (x, rest) → P x rest
OnGiven-of P read x rest holds is = rw is at holds

-- what the grammar of references gives
pub OnGiven-grammar : {A : Type 0} (P : A → List ℕ → Type 0) (read : ast.Read A) → OnRead P read
    → OnGiven P (with_fault read)
OnGiven-grammar P (Ok x) holds = holds
OnGiven-grammar P (Err fault) holds = tt

pub OnGiven-bare : (P : Tree → List ℕ → Type 0) (total : ℕ) (read : ast.Read Tree) → OnRead P read
    → OnGiven P (with_bare_fault total read)
OnGiven-bare P total (Ok x) holds = holds
OnGiven-bare P total (Err fault) holds = tt
