-- Places stay places.
use Rattle.std.proofs.Common.{◌≡◌, ℕ, ◌+◌, ◌<◌, ◌≤◌, ◌^◌, List, [], ◌∷◌, Some, None, length, sym}
use Rattle.std.proofs.Common.{ap, ◌∙◌, arith}
use Rattle.mk_turns.specs.declared.loops.OpenLoop.{OpenLoop}
use Rattle.mk_blocks.specs.Blocks.{Ending, Parsed, parsed, closed, is_closer, is_else}
use Rattle.mk_blocks.specs.Places.{Fits, FitsBehind, IsBehind, IsInside}
use Rattle.mk_blocks.specs.Skips.{Branch, next_branch, outside_of}
use Rattle.mk_blocks.specs.declared.kind.LineKind.{LineKind}
use Rattle.mk_blocks.proofs.SkipLemmas.{none_inv, nowhere, some_inv}

-- fewer if-blocks or fewer lines fit as well
pub Fits-less : (loops : List OpenLoop) (depth lines less few : ℕ)
    → Fits loops depth lines → few + less ≤ depth + lines → less ≤ lines → Fits loops few less
Fits-less [] depth lines less few fits sum le = omega arith
Fits-less (o ∷ outer) depth lines less few fits sum le = (
  omega (arith, fits.0),
  omega
      (arith, fits.1),
  fits.2,
)

pub Fits-few : (loops : List OpenLoop) (depth lines : ℕ) → Fits loops depth lines
    → depth + lines + length loops < 2 ^ 32
Fits-few [] depth lines fits = omega (arith, fits)
Fits-few (o ∷ outer) depth lines fits = fits.0

pub Fits-behind : (loops : List OpenLoop) (depth lines less : ℕ)
    → Fits loops depth lines → less ≤ lines → FitsBehind loops less
Fits-behind [] depth lines less fits le = tt
Fits-behind (o ∷ outer) depth lines less fits le = (omega (arith, fits.1), fits.2)

-- the first turn of a loop whose line was just taken
pub Fits-turn : (o : OpenLoop) (outer : List OpenLoop) → Fits outer o.depth (length o.body + 1)
    → Fits (o ∷ outer) 0 (length o.body)
Fits-turn o outer fits =
    let few = Fits-few outer o.depth (length o.body + 1) fits in
    (omega (arith, few), omega arith, fits)

module _ (kinds : List ℕ → LineKind) where
  -- the same lines end the bodies
  pub IsInside-same : (loops : List OpenLoop) (depth few : ℕ) (p q : Parsed)
      → closed (outside_of few q.endings) ≡ closed (outside_of depth p.endings)
      → IsInside kinds loops depth p → IsInside kinds loops few q
  IsInside-same [] depth few p q same inside = tt
  IsInside-same (o ∷ outer) depth few p q same inside = (same ∙ inside.0, inside.1)

  pub IsBehind-same : (loops : List OpenLoop) (depth : ℕ) (p q : Parsed)
      → q ≡ closed (outside_of depth p.endings)
      → IsInside kinds loops depth p → IsBehind kinds loops q
  IsBehind-same [] depth p q same inside = tt
  IsBehind-same (o ∷ outer) depth p q same inside = (same ∙ inside.0, inside.1)

-- behind a branch that may be chosen stands what is behind its block
pub behind-branch : (endings : List Ending) (branch : Branch) (q : Parsed)
    → next_branch endings ≡ (Some branch, q) → closed q.endings ≡ closed endings
unfolding closed
behind-branch [] branch q is = absurd (nowhere is)
behind-branch (e ∷ endings) branch q is =
    let i = some_inv (is_closer e.kind) (is_else e.kind, e.at) branch (parsed e.block endings)
    (parsed e.block endings) q is in
    rw i.0 (ap (λ z. closed z.endings) (sym i.2))

-- and where there is none, that is what stands there
pub behind-none : (endings : List Ending) (q : Parsed)
    → next_branch endings ≡ (None, q) → q ≡ closed endings
unfolding closed
behind-none [] q is = sym (ap (λ z. z.1) is)
behind-none (e ∷ endings) q is =
    let i = none_inv (is_closer e.kind) (is_else e.kind, e.at) (parsed e.block endings)
    (parsed e.block endings) q is in
    rw i.0 (sym i.1)
