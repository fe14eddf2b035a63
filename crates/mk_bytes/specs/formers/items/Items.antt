-- Where an `Items` holds its items, so that a type may lead back to itself through one.
use mathlib.Core.Former.{Former, this, list, via, children}
use mathlib.Core.List.{List, []}
use mathlib.Core.Path.{◌≡◌, refl, sym, subst}
use native.Mathlib.Bridge.{le_prop}
use Prim.Native.Nat.{◌<◌, ◌^◌}
use lib.ListN.{length-map}
use base.Stored.{code_map}
use denote.RattleType.{RattleType}
use denote.HoleLaws.{Alike}
use denote.HolePlaces.{Recodes, struct_places, laid}
use denote.Hole.Carrier.{listed, list-listed}
use denote.Hole.Fix.{over}
use denote.Model.Placed.{view_places}
use denote.Param.Weighed.{Weighed, w_list}
use Rattle.std.specs.contracts.alloc.Global as heap
use Rattle.std.specs.contracts.impls.GlobalAllocator.TheImpl.{ghosts}
use Rattle.std.specs.declared.alloc.Global.{Global}
use Rattle.std.specs.formers.vec.Vec as vec
use Rattle.mk_bytes.specs.contracts.items.Items as items
use Rattle.mk_bytes.specs.contracts.items.Items.TheInside as inside
use Rattle.mk_bytes.specs.declared.items.Items.TheInside.{Inside}
use Rattle.mk_bytes.specs.declared.items.Items.TheView.{view, invariant}

-- seen from outside, it is the list of its items
abbrev pub the_former : Former {0} → Former {0}
the_former item = list item

abbrev pub the_weighed : {item : Former {0}} → Weighed item → Weighed (the_former item)
the_weighed weighed = w_list weighed

abbrev pub the_empty : List ⊥
the_empty = []

abbrev pub the_items : (X : Type 0) → List X → List X
the_items X all = all

pub the_items_listed : (X : Type 0) (all : List X)
    → listed _ (children (the_former this) X all) ≡ the_items X all
the_items_listed X all = list-listed X all

-- inside, it is the one field, a vector
abbrev fields : Former {0}
fields =
    via (vec.the_former this Global) Inside (λ X list. list.items) (λ X held. record { items = held })
    (λ X list. refl) (λ X held. refl)

module _ (R S : RattleType) (h : R.Denot → S.Denot) where
  pub the_places : Alike R S h
      → Alike (items.the_row R) (items.the_row S) ((the_former this).map R.Denot S.Denot h)
  the_places alike =
      view_places fields (list this) view (λ X Y k u. refl) (λ X u. refl)
      R.Denot S.Denot h (items.the_row R).coded (items.the_row S).coded
      (invariant R.Denot) (invariant S.Denot)
      (λ u. le_prop) (λ u. le_prop)
      (λ u short. subst (λ n. n < 2 ^ 32) (sym (length-map u.items.items h)) short)
      (λ u short. subst (λ n. n < 2 ^ 32) (length-map u.items.items h) short)
      (over (inside.the_row R)) (over (inside.the_row S))
      (struct_places (inside.the_type R) (inside.the_type S) (vec.mapped h, tt) _ (λ u. refl) refl
      (laid _ _ _ (vec.the_places heap.the_row ghosts R S h alike), tt))

  pub the_codes_placed : Recodes R S h
      → Recodes (items.the_row R) (items.the_row S) ((the_former this).map R.Denot S.Denot h)
  the_codes_placed recodes all = sym (code_map R.coded.code S.coded.code h (λ x. sym (recodes x)) all)
