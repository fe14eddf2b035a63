-- Nodes that no chain makes.
use Rattle.std.proofs.Common.{◌≡◌, ℕ, false, List, Option, Some, None, sym, ap}
use Rattle.std.proofs.lemmas.Bool.{cond_both}
use Rattle.std.specs.Str.{bytes_eq}
use Rattle.mk_closure.specs.Made.{HasChain}
use Rattle.mk_closure.specs.Means.{has_commands, chain_for, means_by, means_of}
use Rattle.mk_closure.specs.declared.means.Means.TheVariants.{Own, Placed}
use Rattle.mk_graph.specs.Nodes.{Node}
use Rattle.mk_suffix.specs.Found.{Seeking, place_of}
use Rattle.mk_world.specs.Deeds.{Store}

pub means-placed : (files : Store) (nodes : List Node) (seeking : Seeking) (name : List ℕ) (n : ℕ)
    (place : Option (List ℕ)) → has_commands nodes n ≡ false
    → chain_for files nodes seeking name n ≡ None → place ≡ place_of files nodes seeking name
    → means_of files nodes seeking name n ≡ means_by name place None
means-placed files nodes seeking name n place bare none is =
    rw (bare, none) (ap (λ one. means_by name one None) (sym is))

pub HasChain-by : (nodes : List Node) (name : List ℕ) (place : Option (List ℕ))
    → HasChain nodes (means_by name place None)
HasChain-by nodes name None = tt
HasChain-by nodes name (Some place) =
    cond_both (bytes_eq place name) Own (Placed place) (HasChain nodes) (λ same. tt) (λ other. tt)
