use Rattle.std.proofs.Common.{◌≡◌, ◌∙◌, List, Vec, ℕ, Global, sym, subst}
use Rattle.std.proofs.lemmas.Result.{IfOk-weaker}
use Rattle.std.specs.Map.{keys_of}
use Rattle.mk_world.specs.History.{contents}
use Rattle.mk_world.specs.Listings.{AreNamesBelow}
use Rattle.mk_commands.specs.Files.{files_in}
use Rattle.mk_commands.proofs.BelowLemmas.{all-led, names-below}
use Rattle.mk_commands.proofs.files.Files.names_below.Goals as goal

pub returns : goal.returns
returns c =
    let files = c.args.self.now in
    let dir = c.args.dir.now in
    let keys : List (Vec ℕ Global) = keys_of files.stored.entries in
    let first : List (Vec ℕ Global) = c.into_iter-path-iterator.result in
    let same : first ≡ keys =
    c.into_iter-path-iterator.ensures.into_iter_gives ∙ c.keys-path-items.ensures.rest in
    let are = names-below files dir c.loop-path.names c.texts.ensures.ordered
    (all-led dir c.loop-path.names c.loop-path.path-iterator first keys
    c.in-None.ensures.steps.0 same c.loop-path.invariant) in
    IfOk-weaker c.texts.result _ _
    (λ texts is. subst (AreNamesBelow (contents (files_in files)) dir) (sym is) are)
    c.texts.ensures.names
