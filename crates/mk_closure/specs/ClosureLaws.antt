-- What holds of all closures.
use Rattle.std.specs.Prelude.{◌≡◌, ◌↔◌, ℕ, true, false, List, ◌++◌, length, IsTrue, Some, Ok}
use Rattle.std.specs.List.{Contains}
use Rattle.mk_closure.specs.Members.{sources_in}
use Rattle.mk_closure.specs.Names.{name_in, number_in, is_frame}
use Rattle.mk_closure.specs.Parts.{State, part_at}
use Rattle.mk_closure.specs.Walks.{closed}
use Rattle.mk_graph.specs.Nodes.{Node, IsGraph, names_of}
use Rattle.mk_graph.specs.Walks.{is_among}
use Rattle.mk_pool.specs.Pool.{AreDistinct}
use Rattle.mk_suffix.specs.Found.{Seeking}
use Rattle.mk_world.specs.Deeds.{Store}

-- the names of the graph's nodes, and behind them those that were added
abbrev pub all_names : State → List (List ℕ)
all_names s = names_of s.nodes ++ s.added

-- The nodes are those of the graph and of names that were added: each name stands once and has its
-- part, and what stands around a build was not met.
pub record IsNamed (nodes : List Node) (s : State) : Type 0 where
  pub graph : s.nodes ≡ nodes
  pub as_many : length s.parts ≡ length (all_names s)
  pub distinct : AreDistinct (all_names s)
  pub inner : (n : ℕ) → (part_at s n).met ≡ true → is_frame (name_in s n) ≡ false

-- Each closure of a graph with distinct names is so.
abbrev pub ClosuresAreNamed : Type 0
ClosuresAreNamed =
    (files : Store) (nodes : List Node) (seeking : Seeking) (wanted : List (List ℕ)) (s : State)
    → AreDistinct (names_of nodes) → closed files nodes seeking wanted ≡ Ok s → IsNamed nodes s

-- A node is needed where its name is wanted, or where it is a source of one that is needed, or
-- where it stands for one; but not what stands around a build.
pub data IsNeeded (s : State) (wanted : List (List ℕ)) : ℕ → Type 0 where
  by_name : {n : ℕ} (name : List ℕ) → Contains wanted name → is_frame name ≡ false
      → number_in s name ≡ Some n → IsNeeded s wanted n
  as_source : {n source : ℕ} → IsNeeded s wanted n → IsTrue (is_among (sources_in s n) source)
      → is_frame (name_in s source) ≡ false → IsNeeded s wanted source

-- The nodes that a closure has met are exactly those that are needed.
abbrev pub ClosuresAreNeeded : Type 0
ClosuresAreNeeded =
    (files : Store) (nodes : List Node) (seeking : Seeking) (wanted : List (List ℕ)) (s : State)
    → IsGraph nodes → closed files nodes seeking wanted ≡ Ok s
    → (n : ℕ) → ((part_at s n).met ≡ true) ↔ IsNeeded s wanted n
