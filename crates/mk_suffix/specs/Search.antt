-- How far a search for a chain has come: the chains by which suffixes were reached.
use Rattle.std.specs.Prelude.{◌≡◌, ℕ, ◌&&◌, Bool, not, List, [], ◌∷◌, ◌++◌}
use Rattle.std.specs.Prelude.{length, map, filter, get_or, if◌then◌else◌}
use Rattle.std.specs.Str.{bytes_eq}
use Rattle.mk_depline.specs.Names.{is_among}
use Rattle.mk_graph.specs.Nodes.{Node}
use Rattle.mk_suffix.specs.Chains.{Suffixes, first_of, chains_to}

-- the suffixes that chains begin with
abbrev pub firsts : List Suffixes → List (List ℕ)
firsts chains = map first_of chains

-- of the chains that begin with one suffix, the first; none for those that were reached before
abbrev pub fresh : List (List ℕ) → List Suffixes → List Suffixes
fresh reached [] = []
fresh reached (chain ∷ more) =
    if is_among reached (first_of chain) then fresh reached more
    else chain ∷ fresh (reached ++ first_of chain ∷ []) more

-- the first chain from each suffix, the target's own among them
abbrev pub first_chains : List Node → List (List ℕ) → List ℕ → List Suffixes
first_chains nodes known own = fresh [] ((own ∷ []) ∷ chains_to nodes known own)

-- a chain, with the nodes of its rules
pub record Way : Type 0 where
  pub suffixes : Suffixes
  pub rules : List ℕ

abbrev pub own_way : List ℕ → Way
own_way own = record { suffixes = own ∷ []; rules = [] }

-- by one rule more
abbrev pub way_by : Way → List ℕ → ℕ → Way
way_by way suffix rule =
    record { suffixes = suffix ∷ way.suffixes; rules = rule ∷ way.rules }

abbrev pub way_at : List Way → ℕ → Way
way_at ways at = get_or ways at (own_way [])

abbrev pub chains_of : List Way → List Suffixes
chains_of ways = map (λ way. way.suffixes) ways

-- the suffixes that were reached
abbrev pub reached : List Way → List (List ℕ)
reached ways = firsts (chains_of ways)

-- The chains that were found and the first ones of those that are left are all.
abbrev pub Leads : List Way → List Suffixes → List Suffixes → Type 0
Leads ways rest whole = whole ≡ chains_of ways ++ fresh (reached ways) rest

-- how many known suffixes were not reached
abbrev pub left_over : List (List ℕ) → List (List ℕ) → ℕ
left_over known names = length (filter (λ suffix. not (is_among names suffix)) known)

-- whether a suffix is that of a source; the own suffix is that of the name itself
abbrev pub is_source : (List ℕ → Bool) → List ℕ → List ℕ → List ℕ → Bool
is_source found base own suffix = not (bytes_eq own suffix) && found (base ++ suffix)
