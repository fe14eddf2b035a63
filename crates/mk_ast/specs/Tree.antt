-- The tree of a text with references, as plain data.
use Rattle.std.specs.Prelude.{ℕ, Bool, List}

mutual
  -- a text, part by part
  pub data Tree : Type 0 where
    end : Tree
    part : Part → Tree → Tree

  pub data Part : Type 0 where
    plain : List ℕ → Part
    escaped : ℕ → Part
    double : Part
    lone : Part
    short : ℕ → Part
    ref : (round : Bool) → (name : Tree) → (mods : Mods) → Part

  -- modifiers, from left to right
  pub data Mods : Type 0 where
    no_mods : Mods
    mod_then : Mod → Mods → Mods

  -- the rows of the table of modifiers, in its order
  pub data Mod : Type 0 where
    keep : Tree → Mod
    without : Tree → Mod
    subst : (delim : ℕ) → (from : Tree) → (to : Tree) → (flags : List ℕ) → Mod
    head : Mod
    tail : Mod
    root : Mod
    extension : Mod
    sort : Mod
    sort_back : Mod
    unique : Mod
    lower : Mod
    upper : Mod
    quote : Mod
    quote_dollar : Mod
    separator : List ℕ → Mod
    one_word : List ℕ → Mod
    many_words : List ℕ → Mod
    select : Tree → Mod
    range : Mod
    range_to : Tree → Mod
    if_undefined : Tree → Mod
    if_defined : Tree → Mod
    name_of : Mod
    choose : Tree → Tree → Mod
    each : (name : List ℕ) → (body : Tree) → Mod
    suffix : (old : Tree) → (new : Tree) → Mod
    empty : Mod

-- one tree after another
abbrev pub tree_append : Tree → Tree → Tree
tree_append end more = more
tree_append (part p tree) more = part p (tree_append tree more)

-- modifiers after others
abbrev pub mods_append : Mods → Mods → Mods
mods_append no_mods more = more
mods_append (mod_then m mods) more = mod_then m (mods_append mods more)
