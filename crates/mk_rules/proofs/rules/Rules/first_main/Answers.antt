use Rattle.std.proofs.Common.{◌∙◌, length, sym}
use Rattle.mk_rules.proofs.KeepLemmas.{below_drop, first_main-behind, slice_behind}
use Rattle.mk_rules.proofs.rules.Rules.first_main.Goals as goal

pub first_main-requires : goal.first_main-requires
first_main-requires c =
    let inside = c.self.inside in
    rw (
      c.as_slice.ensures.value,
      slice_behind inside.targets inside.passed c.self.invariant.1.within,
    )
    (below_drop (length inside.graph) inside.passed inside.targets c.self.invariant.0.targets)

pub returns : goal.returns
returns c =
    let inside = c.self.inside in
    let is = rw (
      c.as_slice.ensures.value,
      slice_behind inside.targets inside.passed c.self.invariant.1.within,
    ) at c.first_main.ensures in
    rw (← c.self.view_is)
    (is ∙ sym (first_main-behind inside.graph inside.targets inside.passed c.self.invariant.1))
