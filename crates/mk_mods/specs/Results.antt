-- Results that become the items of a state one by one.
use Rattle.std.specs.Prelude.{ℕ, Bool, List, [], ◌∷◌, ◌++◌, Result, if◌then◌else◌}
use Rattle.mk_mods.specs.Limits.{within_limit}
use Rattle.mk_mods.specs.State.{State, items_of, with_items}
use Rattle.mk_pieces.specs.declared.fault.ModFault.{ModFault}
use Rattle.mk_mods.specs.declared.val.Separator.{Separator}

-- a state without items
abbrev pub none : Separator → Bool → State
none separator one_word = record { items = []; separator = separator; one_word = one_word }

-- a state before its first result
abbrev pub no_results : State → State
no_results state = none state.separator state.one_word

abbrev pub with_item : State → List ℕ → State
with_item state item = with_items state (state.items ++ item ∷ [])

-- a result is an item, but an empty one is none, unless the text is one word
abbrev pub result_items : State → List ℕ → List (List ℕ)
result_items state result = if state.one_word then result ∷ [] else items_of result

-- The state with one more result, unless its printed text would be too long.
abbrev pub with_result : State → List ℕ → Result State ModFault
with_result state result =
    within_limit (with_items state (state.items ++ result_items state result))
