-- Worked rows of macros: in each of them node 0 is the target, and its command is `t`.
use Rattle.std.proofs.Common.{◌≡◌, ℕ, List, [], ◌∷◌, codes, refl}
use Rattle.mk_graph.specs.Macros.{graph_with_macros, parted, all_parted}
use Rattle.mk_graph.specs.Marks.{no_marks, marked}
use Rattle.mk_graph.specs.Nodes.{Node, node_at}
use Rattle.mk_graph.specs.declared.attr.Attr.{Attr}
use Rattle.mk_graph.specs.declared.attr.Attr.TheVariants.{Phony, Macro, MacroBefore, Target, Silent}
use Rattle.mk_graph.specs.declared.attr.Marks.{Marks}

abbrev all_marked : Marks → List Attr → Marks
all_marked marks [] = marks
all_marked marks (attr ∷ more) = all_marked (marked marks attr) more

abbrev node : List ℕ → List ℕ → List Attr → Node
node name sources attrs = record {
  name = name;
  sources = sources;
  ordered = [];
  commands = name ∷ [];
  marks = all_marked no_marks attrs;
}

abbrev target : List ℕ → List Node → Node
target sources others =
    node_at (graph_with_macros (node (codes "t") sources (Target ∷ Phony ∷ []) ∷ others)) 0

behind : (target (1 ∷ []) (node (codes "u") [] (Target ∷ Macro ∷ []) ∷ [])).commands
    ≡ codes "t" ∷ codes "u" ∷ []
unfolding parted all_parted
behind = refl

-- the later ones go before the earlier ones
before :
    (target (1 ∷ 2 ∷ []) (node (codes "u") [] (MacroBefore ∷ [])
    ∷ node (codes "v") [] (MacroBefore ∷ []) ∷ [])).commands
    ≡ codes "v" ∷ codes "u" ∷ codes "t" ∷ []
unfolding parted all_parted
before = refl

both : (target (1 ∷ []) (node (codes "u") [] (MacroBefore ∷ Macro ∷ []) ∷ [])).commands
    ≡ codes "t" ∷ codes "u" ∷ []
unfolding parted all_parted
both = refl

-- a macro is dropped, and its sources go behind the others
sources : (target (1 ∷ 2 ∷ []) (node (codes "u") (3 ∷ 2 ∷ []) (Macro ∷ [])
    ∷ node (codes "a") [] [] ∷ node (codes "b") [] [] ∷ [])).sources
    ≡ 2 ∷ 3 ∷ 2 ∷ []
unfolding parted all_parted
sources = refl

-- a macro of a macro is taken, and each of them once
once :
    (target (1 ∷ 1 ∷ []) (node (codes "u") (2 ∷ 1 ∷ []) (Macro ∷ [])
    ∷ node (codes "v") (1 ∷ []) (Macro ∷ []) ∷ [])).commands
    ≡ codes "t" ∷ codes "u" ∷ codes "v" ∷ []
unfolding parted all_parted
once = refl

attributes : (target (1 ∷ []) (node (codes "u") [] (Macro ∷ Silent ∷ []) ∷ [])).marks
    ≡ all_marked no_marks (Target ∷ Phony ∷ Silent ∷ [])
unfolding parted all_parted
attributes = refl

-- a macro takes nothing itself
a_macro :
    (node_at (graph_with_macros (node (codes "u") (1 ∷ []) (Target ∷ Macro ∷ [])
    ∷ node (codes "v") [] (Macro ∷ []) ∷ [])) 0).sources ≡ 1 ∷ []
unfolding parted all_parted
a_macro = refl

-- nor does a node that is no target
no_target :
    (node_at (graph_with_macros (node (codes "a") (1 ∷ []) []
    ∷ node (codes "u") [] (Macro ∷ []) ∷ [])) 0).sources ≡ 1 ∷ []
unfolding parted all_parted
no_target = refl
