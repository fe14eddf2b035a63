use Rattle.std.proofs.Common.{◌≡◌, ◌∙◌, ◌+◌, ◌<◌, ◌==◌, ℕ, List, if◌then◌else◌, subst, ap, arith, length, get_or}
use Rattle.std.proofs.lemmas.Simd.{splat_is_map}
use Rattle.mk_plan.specs.declared.plan.NodeState.{NodeState}
use Rattle.mk_plan.specs.declared.plan.NodeState.TheVariants.{Undecided}
use Rattle.mk_sched.specs.Least.{IsTournament, entry}
use Rattle.mk_sched.specs.Schedule.{none_decided, schedule_of}
use Rattle.mk_sched.proofs.StartLemmas.{kept_at_start}
use Rattle.mk_sched.proofs.sched.Sched.new.Goals as goal

pub entries_of-requires : goal.entries_of-requires
entries_of-requires c = record {
  short = omega (arith, c.in_ok-counts.ensures.short, c.in_ok-counts.ensures.long, ap length c.deref.ensures.value);
}

pub invariant_of-result : goal.invariant_of-result
invariant_of-result c =
    let plan = c.args.plan.now in
    let counts = c.in_ok-counts.counts.items in
    let entries = c.in_ok-entries_of.field-0.items in
    let long : length plan ≡ c.len.result = omega (arith, c.in_ok-counts.ensures.long, c.len.ensures) in
    let nodes_are : c.in_ok-vec.field-0.items ≡ none_decided plan = c.in_ok-vec.ensures.items_if_clones_equal (λ y is. is) ∙ splat_is_map plan c.len.result Undecided long in
    rw nodes_are (kept_at_start plan c.in_ok-followers_of.field-0.items counts entries
    c.in_ok-counts.ensures.short c.in_ok-followers_of.ensures c.in_ok-counts.ensures.long c.in_ok-counts.ensures.each
    (subst (λ (cs : List ℕ). IsTournament (length cs) entries) c.deref.ensures.value c.in_ok-entries_of.ensures.tournament)
    (subst (λ (cs : List ℕ). (node : ℕ) → node < length cs → entry entries (length cs + node)
    ≡ (if get_or cs node 0 == 0 then node else length cs)) c.deref.ensures.value c.in_ok-entries_of.ensures.each))

pub returns-clause-made : goal.returns-clause-made
returns-clause-made c =
    let plan = c.args.plan.now in
    let long : length plan ≡ c.len.result = omega (arith, c.in_ok-counts.ensures.long, c.len.ensures) in
    let nodes_are : c.in_ok-vec.field-0.items ≡ none_decided plan = c.in_ok-vec.ensures.items_if_clones_equal (λ y is. is) ∙ splat_is_map plan c.len.result Undecided long in
    ap (λ (nodes : List NodeState). schedule_of plan c.args.jobs c.args.keep_going nodes) nodes_are
