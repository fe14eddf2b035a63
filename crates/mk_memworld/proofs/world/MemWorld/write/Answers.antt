use Rattle.std.proofs.Common.{◌+◌, ◌<◌, ◌≤◌, refl, ◌∙◌, ap, arith}
use Rattle.std.proofs.lemmas.Grind.{common_steps}
use Rattle.mk_world.specs.History.{state_of, tickets_of}
use Rattle.mk_memworld.proofs.WriteLemmas.{adds_part, adds_write, same_children, same_children_part, unwritten_after}
use Rattle.mk_memworld.proofs.world.MemWorld.write.Goals as goal

pub returns-in_err-is_struck-clause-refused : goal.returns-in_err-is_struck-clause-refused
returns-in_err-is_struck-clause-refused c =
    unwritten_after _ c.args.writing c.args.path.now c.args.bytes.now c.args.self.now.chronicle
    c.begin_write.new.self.chronicle c.begin_write.new.self.chronicle c.begin_write.ensures.steps
    refl

pub returns-in_err-write_part-clause-refused : goal.returns-in_err-write_part-clause-refused
returns-in_err-write_part-clause-refused c =
    unwritten_after _ c.args.writing c.args.path.now c.args.bytes.now c.args.self.now.chronicle
    c.begin_write.new.self.chronicle c.write_part.new.self c.begin_write.ensures.steps
    c.in_err-write_part.ensures.err

pub returns-then-is_struck-clause-refused : goal.returns-then-is_struck-clause-refused
returns-then-is_struck-clause-refused c =
    let mid = c.begin_write.new.self.chronicle in
    let later : (state_of mid).clock < c.max-time.result + 1 = grind (arith, common_steps) in
    let stamped : (state_of mid).stamped ≤ (state_of mid).clock = grind (arith, common_steps) in
    adds_part c.args.writing c.args.path.now c.args.bytes.now (c.max-time.result + 1)
    c.next_left-left.result c.args.self.now.chronicle mid c.write_part.new.self
    c.begin_write.ensures.steps c.in_ok-write_part.ensures.ok
    stamped later

pub returns-then-is_struck-clause-children : goal.returns-then-is_struck-clause-children
returns-then-is_struck-clause-children c = λ kids runs.
    ap tickets_of (same_children_part c.begin_write.new.self.chronicle c.write_part.new.self
    c.args.writing c.args.path.now c.args.bytes.now (c.max-time.result + 1)
    c.next_left-left.result c.in_ok-write_part.ensures.ok)
    ∙ c.begin_write.ensures.tickets ∙ runs

pub returns-clause-done : goal.returns-clause-done
returns-clause-done c =
    let mid = c.begin_write.new.self.chronicle in
    let later : (state_of mid).clock < c.max-time.result + 1 = grind (arith, common_steps) in
    let stamped : (state_of mid).stamped ≤ (state_of mid).clock = grind (arith, common_steps) in
    adds_write c.args.self.now.chronicle mid c.write.new.self c.args.writing c.args.path.now
    c.args.bytes.now (c.max-time.result + 1) c.begin_write.ensures.steps c.in_ok-write.ensures.ok
    stamped later

pub returns-clause-children : goal.returns-clause-children
returns-clause-children c = λ kids runs.
    ap tickets_of (same_children c.begin_write.new.self.chronicle c.write.new.self c.args.writing
    c.args.path.now c.args.bytes.now (c.max-time.result + 1) c.in_ok-write.ensures.ok)
    ∙ c.begin_write.ensures.tickets ∙ runs
