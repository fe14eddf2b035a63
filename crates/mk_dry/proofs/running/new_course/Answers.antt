use Rattle.std.proofs.Common.{◌≡◌, ◌∙◌, refl, sym}
use Rattle.std.proofs.lemmas.Simd.{splat_is_map}
use Rattle.mk_dry.proofs.NodeLemmas.{stand-behind}
use Rattle.mk_plan.specs.declared.plan.NodeState.TheVariants.{Undecided}
use Rattle.mk_sched.specs.Schedule.{none_decided}
use Rattle.mk_dry.proofs.running.new_course.Goals as goal

pub returns-in-Ok : goal.returns-in-Ok
returns-in-Ok c =
    let nodes_are : c.in-Ok.nodes.items ≡ none_decided c.args.plan =
    c.in-Ok.ensures.items_if_clones_equal (λ y is. is)
    ∙ splat_is_map c.args.plan c.len-many.result Undecided (sym c.len-many.ensures.value) in
    record {
      plan_is = refl;
      nodes_are = nodes_are;
      ordered = stand-behind c.args.plan c.len-many.ensures.ordered;
      events = c.new.ensures.items;
      failure = refl;
    }
