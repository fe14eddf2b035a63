use Rattle.mk_generate.specs.Inside as spec
use Rattle.mk_generate.proofs.InsideLemmas.{between-stops, first-stops, second-stops}
use Rattle.mk_generate.proofs.inside.run_in.Goals as goal

pub returns-in-Err-clause-ended : goal.returns-in-Err-clause-ended
returns-in-Err-clause-ended c =
    first-stops c.args.n c.args.world c.make_all.new.world c.in-Err.end c.requires.new c.in-Err.ensures.stops

pub returns-in-Err-make_all-clause-ended : goal.returns-in-Err-make_all-clause-ended
returns-in-Err-make_all-clause-ended c =
    let first = c.in-Ok.first in
    let changed : spec.IsChanged c.args.n c.change.new.world first = record {
      between = c.make_all.new.world;
      runs = record {
        before = c.args.world;
        is_new = c.requires.new;
        runs = c.in-Ok.ensures.made.0;
        made = c.in-Ok.ensures.made.1;
      };
      edited = c.in-Ok-change.ensures.edited;
    } in
    second-stops c.args.n c.change.new.world c.make_all-2.new.world first c.in-Err-make_all.end changed
    c.in-Err-make_all.ensures.stops

pub returns-in-Err-change-clause-ended : goal.returns-in-Err-change-clause-ended
returns-in-Err-change-clause-ended c =
    between-stops c.args.n c.args.world c.make_all.new.world c.in-Ok.first c.in-Err-change.end
    c.requires.new c.in-Ok.ensures.made.0 c.in-Ok.ensures.made.1 c.in-Err-change.ensures.late
