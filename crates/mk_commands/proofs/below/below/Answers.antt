use Rattle.std.proofs.Common.{◌≡◌, ◌∷◌, [], None, Some, false, sym, ◌∙◌, ap}
use Rattle.std.specs.Option.{option_copied}
use Rattle.std.specs.Str.{bytes_eq}
use Rattle.mk_bytes.specs.Bytes.{dot, slash}
use Rattle.mk_commands.proofs.BelowLemmas.{below-other, then_behind}
use Rattle.mk_commands.proofs.below.below.Goals as goal

pub returns-in-None : goal.returns-in-None
returns-in-None c =
    let dir = c.args.dir.now in
    let no_dot : bytes_eq dir (dot ∷ []) ≡ false =
    ap (bytes_eq dir) (sym c.as_slice.ensures) ∙ sym c.eq.ensures ∙ c.if-eq.false in
    let no_slash : bytes_eq dir (slash ∷ []) ≡ false =
    ap (bytes_eq dir) (sym c.as_slice-2.ensures) ∙ sym c.eq-2.ensures ∙ c.if-eq-2.false in
    sym (below-other dir c.args.path.now no_dot no_slash
    ∙ ap (then_behind (slash ∷ [])) (sym c.behind-2.ensures ∙ ap option_copied c.in-None.is))

pub returns-in-Some : goal.returns-in-Some
returns-in-Some c =
    let dir = c.args.dir.now in
    let no_dot : bytes_eq dir (dot ∷ []) ≡ false =
    ap (bytes_eq dir) (sym c.as_slice.ensures) ∙ sym c.eq.ensures ∙ c.if-eq.false in
    let no_slash : bytes_eq dir (slash ∷ []) ≡ false =
    ap (bytes_eq dir) (sym c.as_slice-2.ensures) ∙ sym c.eq-2.ensures ∙ c.if-eq-2.false in
    c.behind-in-Some.ensures
    ∙ sym (below-other dir c.args.path.now no_dot no_slash
    ∙ ap (then_behind (slash ∷ [])) (sym c.behind-2.ensures ∙ ap option_copied c.in-Some.is))
