use Rattle.std.proofs.Common.{◌≡◌, ◌++◌, drop, flat_map, codes}
use Rattle.mk_listing.proofs.text.push_elements.Given as goal

-- the elements so far, and those that are left
abbrev pub invariant-loop-element : goal.invariant-loop-element
invariant-loop-element l =
    l.out ++ flat_map (λ element. codes ",\n" ++ element) (drop l.element-index l.elements)
    ≡ l.initial.out ++ flat_map (λ element. codes ",\n" ++ element) l.elements
