use Rattle.std.proofs.Common.{◌≡◌, ◌∙◌, sym, ap}
use Rattle.std.proofs.lemmas.List.{get_or_default}
use Rattle.mk_driver.proofs.TicketLemmas.{job-taken, place-within}
use Rattle.mk_driver.specs.declared.job.Job.{Job}
use Rattle.mk_driver.proofs.job.take_job.Goals as goal

pub returns : goal.returns
returns c =
    let jobs = c.args.jobs.now.items in
    let place = c.jobs.place in
    let within = place-within c.args.ticket place jobs c.jobs.invariant in
    let found : c.remove.result ≡ c.index.result.now =
    c.remove.ensures.value ∙ (get_or_default jobs place c.remove.result c.index.result.now within
    ∙ sym c.index.ensures) in
    let same = ap (λ (job : Job). job.ticket) found ∙ c.jobs-test.false in
    job-taken c.args.ticket place jobs c.remove.new.self.items c.remove.result within
    c.remove.ensures.value same c.remove.ensures.items
