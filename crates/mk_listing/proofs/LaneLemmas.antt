-- Lanes for more jobs.
use Rattle.std.proofs.Common.{◌≡◌, ℕ, ◌≤◌, ◌&&◌, true, List, [], ◌∷◌, ◌++◌, sym, ap, ◌∙◌}
use Rattle.std.proofs.Common.{append_assoc}
use Rattle.std.proofs.lemmas.Bool.{le-leb}
use Rattle.std.proofs.lemmas.List.{append-nil}
use Rattle.mk_listing.specs.Timelines.{are_apart, end_in, ended_in}
use Rattle.mk_listing.specs.declared.timeline.Job.{Job}

-- a job in a lane that is free
pub apart-next : (all left rest : List Job) (job : Job) (lanes ends more-lanes new : List ℕ)
    (lane : ℕ)
    → ((more : List ℕ) → are_apart [] all (lanes ++ more) ≡ are_apart ends left more)
    → left ≡ job ∷ rest → end_in ends lane ≤ job.start → more-lanes ≡ lanes ++ lane ∷ []
    → new ≡ ended_in ends lane job.end
    → (more : List ℕ) → are_apart [] all (more-lanes ++ more) ≡ are_apart new rest more
apart-next all left rest job lanes ends more-lanes new lane so first free added noted more =
    ap (λ l. are_apart [] all (l ++ more)) added
    ∙ ap (are_apart [] all) (append_assoc lanes (lane ∷ []) more)
    ∙ so (lane ∷ more)
    ∙ ap (λ l. are_apart ends l (lane ∷ more)) first
    ∙ ap (λ b. b && are_apart (ended_in ends lane job.end) rest more)
    (le-leb (end_in ends lane) job.start free)
    ∙ ap (λ e. are_apart e rest more) (sym noted)

-- lanes for all jobs
pub all-apart : (all left : List Job) (lanes ends : List ℕ)
    → ((more : List ℕ) → are_apart [] all (lanes ++ more) ≡ are_apart ends left more)
    → left ≡ [] → are_apart [] all lanes ≡ true
all-apart all left lanes ends so over =
    ap (are_apart [] all) (sym (append-nil lanes)) ∙ so []
    ∙ ap (λ l. are_apart ends l []) over
