use Rattle.std.proofs.Common.{sym, ◌∙◌, ◌||◌, ap}
use Rattle.std.proofs.lemmas.Bool.{or_left}
use Rattle.std.specs.Str.{bytes_eq}
use Rattle.mk_depline.specs.Names.{is_among}
use Rattle.mk_suffix.proofs.WayLemmas.{reached_are, has_step-among}
use Rattle.mk_suffix.specs.SearchView.{suffixes_of, has_step}
use Rattle.mk_suffix.proofs.step.Search.has_reached.Goals as goal

pub returns-then-eq : goal.returns-then-eq
returns-then-eq c =
    let own = c.self.inside.own.now in
    let steps = c.self.inside.steps in
    let suffix = c.args.suffix.now in
    let are = reached_are own steps c.args.self.now c.self.invariant c.self.view_is in
    c.if-eq.true ∙ sym (ap (λ l. is_among l suffix) are
    ∙ or_left (bytes_eq suffix own) (is_among (suffixes_of steps) suffix)
    (sym c.eq.ensures ∙ c.if-eq.true))

pub returns-else-eq : goal.returns-else-eq
returns-else-eq c =
    let own = c.self.inside.own.now in
    let steps = c.self.inside.steps in
    let suffix = c.args.suffix.now in
    let are = reached_are own steps c.args.self.now c.self.invariant c.self.view_is in
    c.is_step.ensures ∙ (ap (λ l. has_step l suffix) c.as_slice.ensures.value
    ∙ (has_step-among steps suffix
    ∙ sym (ap (λ l. is_among l suffix) are
    ∙ ap (λ b. b || is_among (suffixes_of steps) suffix) (sym c.eq.ensures ∙ c.if-eq.false))))
