-- Directories that are searched, one after the other.
use Rattle.std.proofs.Common.{◌≡◌, ◌∙◌, ℕ, Bool, true, false, List, [], ◌∷◌, Option, Some, None, is_none, is_some, refl, sym, ap}
use Rattle.mk_bytes.specs.Paths.{is_absolute}
use Rattle.mk_dirs.specs.Places.{found_below, or_else, first_below, place}
use Rattle.mk_world.specs.Deeds.{Store}

module _ (files : Store) (cwd name : List ℕ) (all rest : List (List ℕ))
    (so_far : first_below files cwd all name ≡ first_below files cwd rest name) where
  here : (dir : List ℕ) (more : List (List ℕ)) (found : Option (List ℕ)) → rest ≡ dir ∷ more
      → found ≡ found_below files cwd dir name
      → first_below files cwd all name ≡ or_else found (first_below files cwd more name)
  here dir more found are is =
      so_far ∙ (ap (λ dirs. first_below files cwd dirs name) are
      ∙ ap (λ one. or_else one (first_below files cwd more name)) (sym is))

  -- the file is not in the next one
  pub first_below-next : (dir : List ℕ) (more : List (List ℕ)) → rest ≡ dir ∷ more
      → None ≡ found_below files cwd dir name
      → first_below files cwd all name ≡ first_below files cwd more name
  first_below-next dir more are is = here dir more None are is

  -- or it is
  pub first_below-hit : (dir : List ℕ) (more : List (List ℕ)) (path : List ℕ) → rest ≡ dir ∷ more
      → Some path ≡ found_below files cwd dir name → Some path ≡ first_below files cwd all name
  first_below-hit dir more path are is = sym (here dir more (Some path) are is)

  -- or there is no next one
  pub first_below-end : rest ≡ [] → None ≡ first_below files cwd all name
  first_below-end none = sym (so_far ∙ ap (λ dirs. first_below files cwd dirs name) none)

none-some : (bytes : Option (List ℕ)) → is_none bytes ≡ true → is_some bytes ≡ false
none-some None missing = refl
none-some (Some bytes) missing = cc

-- a relative name that is no target and no file stands where it is found
pub place-below : (files : Store) (target : Bool) (paths : List (List ℕ)) (cwd name : List ℕ)
    (found : Option (List ℕ)) → target ≡ false → is_none (files name) ≡ true
    → is_absolute name ≡ false → found ≡ first_below files cwd paths name
    → found ≡ place files target paths cwd name
place-below files target paths cwd name found no_target missing relative is =
    let none = none-some (files name) missing in rw (no_target, none, relative) is
