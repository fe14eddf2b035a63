-- Examples of the modifiers, computed by their definitions.
use Rattle.std.specs.Prelude.{◌≡◌, refl, ℕ, Bool, true, false, List, [], ◌∷◌, Some, None}
use Rattle.std.specs.Prelude.{Result, Ok, Err, codes}
use Rattle.mk_bytes.specs.Agrees.{◌>>=◌}
use Rattle.mk_mods.specs.State.{State, plain, text_of}
use Rattle.mk_mods.specs.Modifiers.{apply}
use Rattle.mk_pieces.specs.Substitution.{replaced}
use Rattle.mk_pieces.specs.declared.fault.ModFault.{ModFault}
use Rattle.mk_pieces.specs.declared.fault.ModFault.TheVariants.{BadPlace}
use Rattle.mk_mods.specs.declared.modifier.Mod.{Mod}
use Rattle.mk_mods.specs.declared.modifier.Mod.TheVariants.{Keep, Subst, Suffix, Head, Tail, Root, Extension, Sort, SortBack, Unique, Lower, QuoteDollar, Separator, Select, Range}

abbrev chain : List Mod → State → Result State ModFault
chain [] state = Ok state
chain (modifier ∷ mods) state = apply modifier state >>= chain mods

abbrev printed : List Mod → List ℕ → Result (List ℕ) ModFault
printed mods text = chain mods (plain text) >>= λ state. Ok (text_of state)

abbrev subst : List ℕ → List ℕ → Bool → Bool → Mod
subst from to all once = Subst from to false false all once false

row_head : printed (Head ∷ []) (codes "d/x.tar.gz") ≡ Ok (codes "d")
row_head = refl

row_head_slashes : printed (Head ∷ []) (codes "x /y /") ≡ Ok (codes ". / /")
row_head_slashes = refl

row_tail : printed (Tail ∷ []) (codes "d/x.tar.gz x a/") ≡ Ok (codes "x.tar.gz x")
row_tail = refl

row_root : printed (Root ∷ []) (codes "d/x.tar.gz x a.b/c .") ≡ Ok (codes "d/x.tar x a")
row_root = refl

row_extension : printed (Extension ∷ []) (codes "d/x.tar.gz x a.b/c") ≡ Ok (codes "gz b/c")
row_extension = refl

row_once : printed (subst (codes "a") (codes "b") false true ∷ []) (codes "aa a") ≡ Ok (codes "ba a")
unfolding replaced
row_once = refl

row_once_all : printed (subst (codes "a") (codes "b") true true ∷ []) (codes "aa a") ≡ Ok (codes "bb a")
unfolding replaced
row_once_all = refl

row_all : printed (subst (codes "a") (codes "b") true false ∷ []) (codes "aa a") ≡ Ok (codes "bb b")
unfolding replaced
row_all = refl

row_whole : printed (Subst (codes " ") (codes "-") false false true false true ∷ []) (codes "a b c") ≡ Ok (codes "a-b-c")
unfolding replaced
row_whole = refl

row_whole_empty : printed (Subst [] (codes "x") true true false false true ∷ []) [] ≡ Ok (codes "x")
row_whole_empty = refl

row_empty : printed (Subst [] (codes "x") true true false false false ∷ []) [] ≡ Ok []
row_empty = refl

row_suffix : printed (Suffix (codes ".c") (codes ".o") ∷ []) (codes "a.c b.cc .c") ≡ Ok (codes "a.o b.cc .o")
row_suffix = refl

row_percent : printed (Suffix (codes "a%a") (codes "<%|%>") ∷ []) (codes "a aa axa axb") ≡ Ok (codes "a <|%> <x|%> axb")
row_percent = refl

row_places : printed (Separator (Some 44) ∷ Select (codes "2..1") ∷ []) (codes "a b c") ≡ Ok (codes "b,a")
row_places = refl

row_past : printed (Select (codes "7") ∷ []) (codes "a b c") ≡ Ok []
row_past = refl

row_last : printed (Select (codes "-1") ∷ []) (codes "a b c") ≡ Ok (codes "c")
row_last = refl

row_cut : printed (Select (codes "2..9") ∷ []) (codes "a b c") ≡ Ok (codes "b c")
row_cut = refl

row_back : printed (Select (codes "2..-9") ∷ []) (codes "a b c") ≡ Ok (codes "b a")
row_back = refl

row_front : printed (Select (codes "-5..2") ∷ []) (codes "a b c") ≡ Ok (codes "a b")
row_front = refl

row_bad : printed (Select (codes "1..x") ∷ []) (codes "a b c") ≡ Err BadPlace
row_bad = refl

row_zero : printed (Select (codes "00") ∷ []) (codes "a b c") ≡ Err BadPlace
row_zero = refl

row_no_place : printed (Select [] ∷ []) (codes "a b c") ≡ Err BadPlace
row_no_place = refl

row_plus : printed (Select (codes "+1") ∷ []) (codes "a b c") ≡ Ok (codes "a")
row_plus = refl

row_no_separator : printed (Separator None ∷ []) (codes "a b c") ≡ Ok (codes "abc")
row_no_separator = refl

row_sort : printed (Sort ∷ []) (codes "b a") ≡ Ok (codes "a b")
row_sort = refl

row_unique : printed (Unique ∷ []) (codes "a a b a") ≡ Ok (codes "a b a")
row_unique = refl

row_back_sort : printed (SortBack ∷ []) (codes "b c a b") ≡ Ok (codes "c b b a")
row_back_sort = refl

row_range_bad : printed (Range [] ∷ []) (codes "a b c") ≡ Err BadPlace
row_range_bad = refl

row_quote : printed (QuoteDollar ∷ []) (codes "a $x") ≡ Ok (codes "a\\ \\$\\$x")
row_quote = refl

row_lower : printed (Lower ∷ []) (codes "aB Z") ≡ Ok (codes "ab z")
row_lower = refl

row_keep : printed (Keep (codes "a*") ∷ []) (codes "ab b a") ≡ Ok (codes "ab a")
unfolding Rattle.mk_glob.specs.Patterns.parts_of
row_keep = refl
