-- The files of a generated world: a makefile with so many targets, each made from two sources, and
-- the sources.
use Rattle.std.specs.Prelude.{ℕ, ◌+◌, ◌*◌, ◌%◌, List, [], ◌∷◌, ◌++◌, map, codes, decimal}
use Rattle.std.specs.List.{concat, range_with_len}
use Rattle.mk_bytes.specs.Bytes.{newline, space, tab}
use Rattle.mk_bytes.specs.declared.pair.Pair.{Pair}

-- the numbers below this one
abbrev pub below : ℕ → List ℕ
below n = range_with_len 0 n

abbrev pub line : List ℕ → List ℕ
line text = text ++ newline ∷ []

-- the names of a source and of a target: a letter and a number
abbrev pub source : ℕ → List ℕ
source i = codes "s" ++ decimal i

abbrev pub target : ℕ → List ℕ
target i = codes "o" ++ decimal i

-- the number of the other source of a target
abbrev pub other : ℕ → ℕ → ℕ
other n i = (7 * i + 3) % n

abbrev pub spaced : List ℕ → List ℕ
spaced name = space ∷ name

-- the rule of a target, of `n` in all
abbrev pub rule : ℕ → ℕ → List ℕ
rule n i =
    line (target i ++ codes ": " ++ source i)
    ++ line ((tab ∷ codes "cat ") ++ target i ++ spaced (source i) ++ spaced (source (other n i)))

-- a makefile whose first target is made of all others, in meta mode
abbrev pub makefile_of : ℕ → List ℕ
makefile_of n =
    line (codes ".MAKE.MODE=meta curdirOk=yes missing-meta=yes missing-filemon=yes")
    ++ line (codes "all:" ++ concat (map (λ i. spaced (target i)) (below n)))
    ++ line (codes ".PHONY: all")
    ++ concat (map (rule n) (below n))

abbrev pub file : List ℕ → List ℕ → Pair
file name text = record { name = name; value = text }

-- a source, which holds a number
abbrev pub source_file : ℕ → Pair
source_file i = file (source i) (line (decimal (i * i % 1000)))

-- the makefile, and the sources in order
abbrev pub files_of : ℕ → List Pair
files_of n = file (codes "makefile") (makefile_of n) ∷ map source_file (below n)
