use Rattle.std.proofs.Common.{◌≡◌, [], Result, ap, refl, sym, ◌∙◌}
use Rattle.std.proofs.lemmas.Result.{err_from_is_err_and}
use Rattle.mk_blocks.specs.Outcomes.{done, ◌>>=◌}
use Rattle.mk_blocks.specs.Runs.{run_at}
use Rattle.mk_graph.specs.declared.Made.{Made}
use Rattle.mk_makefile.specs.Modes.{made_at}
use Rattle.mk_makefile.specs.Orders.{first_moment}
use Rattle.mk_makefile.specs.ReadFaults.{sorted}
use Rattle.mk_makefile.specs.Reading.{reading, run_read}
use Rattle.mk_makefile.specs.declared.fault.ReadFault.{ReadFault}
use Rattle.mk_makefile.specs.declared.fault.ReadFault.TheVariants as fault
use Rattle.mk_makefile.specs.declared.fault.Stop.TheVariants as stop
use Rattle.mk_world.specs.Causes.{HasCause}
use Rattle.mk_reader.specs.Results.{ReadBy, standing}
use Rattle.mk_reader.specs.Ties.{outer}
use Rattle.mk_reader.proofs.ReadByLemmas.{made_or_want, read_err, read_nothing, read_ok, sink_by, sink_ok, world_by}
use Rattle.mk_reader.proofs.ReadByLemmas.{world_ok}
use Rattle.mk_reader.proofs.TieLemmas.{does-as, first-refused, first-then, still-given, still-want}
use Rattle.mk_reader.proofs.reading.read.Goals as goal

pub returns-in_err-state-clause-reading : goal.returns-in_err-state-clause-reading
returns-in_err-state-clause-reading g c =
    let p = err_from_is_err_and c.from_residual.result c.from_residual.ensures.1 in
    rw (p.1, p.2) (read_nothing g.W.World.meaning _ _ _)

pub returns-in-Err-clause-reading : goal.returns-in-Err-clause-reading
returns-in-Err-clause-reading g c =
    let same = c.new-reader.ensures in
    let went = c.in-Err.ensures in
    let o = outer g.W.World.meaning g.W.World.history g.W.World.faults g.W.World.runs g.S.Sink.held
    g.S.Sink.faults in
    let start : standing c.new-reader.result ≡ first_moment c.args.env.now c.args.order.now =
    rw (same.state, same.order) c.in_ok-state.ensures.moment in
    let none : c.new-reader.result.state.now.notes.items ≡ [] = rw same.state c.in_ok-state.ensures.asked in
    let idle = rw (← same.world) at c.requires.idle in
    let whole = does-as _ sorted _ _ _ {rest = λ answers (made : Made). done made} _
    {whole = λ answers. reading answers c.args.env.now c.args.order.now}
    (λ answers.
    ap (λ s. run_read answers (run_at s 0) >>= λ end. done (made_at end.0 end.1)) (sym start))
    (first-refused _ sorted (λ answers end. done (made_at end.0 end.1)) went) in
    rw (
      c.from.ensures,
      c.world-1.given.1 (sym (went.leads.world ∙ same.same_world)),
      c.err-1.given.1 (sym (went.leads.err ∙ same.same_err)),
    )
    (rw (same.world, same.err) at (read_err o c.in-Err.stop none idle whole))

pub returns-in-Err-clause-world_cause : goal.returns-in-Err-clause-world_cause
returns-in-Err-clause-world_cause g c =
    let same = c.new-reader.ensures in
    let leads = c.in-Err.ensures.leads in
    rw (c.from.ensures, c.world-1.given.1 (sym (leads.world ∙ same.same_world)))
    (rw same.world at (world_by _ {A = Made} c.in-Err.stop leads))

pub returns-in-Err-clause-sink_cause : goal.returns-in-Err-clause-sink_cause
returns-in-Err-clause-sink_cause g c =
    let same = c.new-reader.ensures in
    let leads = c.in-Err.ensures.leads in
    rw (c.from.ensures, c.err-1.given.1 (sym (leads.err ∙ same.same_err)))
    (rw same.err at (sink_by _ {A = Made} c.in-Err.stop leads))

pub returns-in-Ok-clause-reading : goal.returns-in-Ok-clause-reading
returns-in-Ok-clause-reading g c =
    let same = c.new-reader.ensures in
    let went = c.in-Ok.ensures in
    let o = outer g.W.World.meaning g.W.World.history g.W.World.faults g.W.World.runs g.S.Sink.held
    g.S.Sink.faults in
    let end = c.read_to_end.new.self in
    let world = c.world-1.given.1 (sym (went.leads.world ∙ same.same_world)) in
    let err = c.err-1.given.1 (sym (went.leads.err ∙ same.same_err)) in
    let made = made_at c.in-Ok.mode (standing end) in
    let is =
    rw (c.into_made.ensures, c.state-3-1.given.1 (sym (went.leads.state ∙ same.same_state)))
    at c.made_of.ensures.made in
    let start : standing c.new-reader.result ≡ first_moment c.args.env.now c.args.order.now =
    rw (same.state, same.order) c.in_ok-state.ensures.moment in
    let none : c.new-reader.result.state.now.notes.items ≡ [] = rw same.state c.in_ok-state.ensures.asked in
    let idle = rw (← same.world) at c.requires.idle in
    let given = does-as _ sorted _ _ _ {rest = λ answers (made : Made). done made} _
    {whole = λ answers. reading answers c.args.env.now c.args.order.now}
    (λ answers.
    ap (λ s. run_read answers (run_at s 0) >>= λ end. done (made_at end.0 end.1)) (sym start))
    (first-then _ sorted (λ answers end. done (made_at end.0 end.1)) went
    (still-given _ sorted _ _ made (λ answers. refl))) in
    let want = does-as _ sorted _ _ _ {rest = λ answers (made : Made). done made} _
    {whole = λ answers. reading answers c.args.env.now c.args.order.now}
    (λ answers.
    ap (λ s. run_read answers (run_at s 0) >>= λ end. done (made_at end.0 end.1)) (sym start))
    (first-then _ sorted (λ answers end. done (made_at end.0 end.1)) went
    (still-want _ sorted _ _ stop.NoMemory refl)) in
    rw (world, err)
    (made_or_want
    (λ (r : Result Made ReadFault).
    ReadBy g.W.World.meaning (g.W.World.history c.args.world.now) (g.W.World.history end.world.now)
    (g.S.Sink.held c.args.err.now) (g.S.Sink.held end.err.now) r
    (λ answers. reading answers c.args.env.now c.args.order.now))
    made _ is c.made_of.ensures.want
    (rw (same.world, same.err) at (read_ok o made none idle given))
    (rw (same.world, same.err) at (read_err o stop.NoMemory none idle want)))

pub returns-in-Ok-clause-world_cause : goal.returns-in-Ok-clause-world_cause
returns-in-Ok-clause-world_cause g c =
    let same = c.new-reader.ensures in
    let went = c.in-Ok.ensures in
    let o = outer g.W.World.meaning g.W.World.history g.W.World.faults g.W.World.runs g.S.Sink.held
    g.S.Sink.faults in
    let end = c.read_to_end.new.self in
    let world = c.world-1.given.1 (sym (went.leads.world ∙ same.same_world)) in
    let made = made_at c.in-Ok.mode (standing end) in
    let is =
    rw (c.into_made.ensures, c.state-3-1.given.1 (sym (went.leads.state ∙ same.same_state)))
    at c.made_of.ensures.made in
    rw world
    (made_or_want
    (λ (r : Result Made ReadFault).
    HasCause fault.World (g.W.World.faults c.args.world.now) (g.W.World.faults end.world.now) r)
    made _ is c.made_of.ensures.want
    (rw same.world at (world_ok o made went.leads))
    (rw same.world at (world_by o {A = Made} stop.NoMemory went.leads)))

pub returns-in-Ok-clause-sink_cause : goal.returns-in-Ok-clause-sink_cause
returns-in-Ok-clause-sink_cause g c =
    let same = c.new-reader.ensures in
    let went = c.in-Ok.ensures in
    let o = outer g.W.World.meaning g.W.World.history g.W.World.faults g.W.World.runs g.S.Sink.held
    g.S.Sink.faults in
    let end = c.read_to_end.new.self in
    let err = c.err-1.given.1 (sym (went.leads.err ∙ same.same_err)) in
    let made = made_at c.in-Ok.mode (standing end) in
    let is =
    rw (c.into_made.ensures, c.state-3-1.given.1 (sym (went.leads.state ∙ same.same_state)))
    at c.made_of.ensures.made in
    rw err
    (made_or_want
    (λ (r : Result Made ReadFault).
    HasCause fault.Sink (g.S.Sink.faults c.args.err.now) (g.S.Sink.faults end.err.now) r)
    made _ is c.made_of.ensures.want
    (rw same.err at (sink_ok o made went.leads))
    (rw same.err at (sink_by o {A = Made} stop.NoMemory went.leads)))
