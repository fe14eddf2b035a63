use Rattle.std.proofs.Common.{◌≡◌, ℕ, List, [], ◌∷◌, ◌++◌, Option, false, true, sym, ap, ap₂, ◌∙◌, subst}
use Rattle.mk_world.specs.declared.time.When.TheVariants.{Missing}
use Rattle.mk_bytes.specs.Texts.{is_among}
use Rattle.mk_world.proofs.CallLemmas.{refused_same}
use Rattle.mk_world.proofs.SinkLemmas.{OnErr-from}
use Rattle.mk_world.specs.Calls.{Adds, OwnTime, OwnNothing}
use Rattle.mk_veil.specs.Veiled.{told_by}
use Rattle.mk_veil.proofs.VeilLemmas.{hidden-time, refused-below, visible-time}
use Rattle.mk_veil.proofs.veil.VeilWorld.time.Goals as goal

pub returns-in_err-look-clause-refused : goal.returns-in_err-look-clause-refused
returns-in_err-look-clause-refused g c =
    let veil = c.args.self.now in
    let below = g.W.World.history veil.world.now in
    refused_same g.W.World.meaning _ (told_by veil.hidden.now veil.looked.items veil.silent below)
    (told_by veil.hidden.now c.ready.new.looked.items veil.silent below)
    (ap (λ looked. told_by veil.hidden.now looked veil.silent below) c.ready.ensures.same)

pub returns-then-has-clause-done : goal.returns-then-has-clause-done
returns-then-has-clause-done g c =
    let veil = c.args.self.now in
    let below = g.W.World.history veil.world.now in
    let path = c.args.path.now in
    let is : is_among veil.hidden.now path ≡ true = sym c.has.ensures ∙ c.if-has.true in
    let items : c.note.new.looked.items ≡ veil.looked.items ++ path ∷ [] =
    c.note.ensures ∙ ap₂ (λ (looked : List (List ℕ)) (look : List ℕ). looked ++ look ∷ [])
    c.ready.ensures.same c.in_ok-look.ensures.copy in
    subst (λ looked. Adds g.W.World.meaning (told_by veil.hidden.now veil.looked.items veil.silent below)
    (told_by veil.hidden.now looked veil.silent below) (OwnTime path Missing)) (sym items)
    (hidden-time g.W.World.meaning veil.hidden.now veil.looked.items veil.silent path below is)

pub returns-in_err-when-clause-refused : goal.returns-in_err-when-clause-refused
returns-in_err-when-clause-refused g c =
    let veil = c.args.self.now in
    let before = g.W.World.history veil.world.now in
    let after = g.W.World.history c.time.new.self in
    OnErr-from _
    (subst (λ looked. Adds g.W.World.meaning (told_by veil.hidden.now veil.looked.items veil.silent before)
    (told_by veil.hidden.now looked veil.silent after) OwnNothing) (sym c.ready.ensures.same)
    (refused-below g.W.World.meaning veil.hidden.now veil.looked.items veil.silent before after
    c.in_err-when.ensures.refused))

pub returns-clause-done : goal.returns-clause-done
returns-clause-done g c =
    let veil = c.args.self.now in
    let before = g.W.World.history veil.world.now in
    let after = g.W.World.history c.time.new.self in
    let path = c.args.path.now in
    let off : is_among veil.hidden.now path ≡ false = sym c.has.ensures ∙ c.if-has.false in
    let items : c.note-2.new.looked.items ≡ veil.looked.items ++ path ∷ [] =
    c.note-2.ensures ∙ ap₂ (λ (looked : List (List ℕ)) (look : List ℕ). looked ++ look ∷ [])
    c.ready.ensures.same c.in_ok-look.ensures.copy in
    subst (λ looked. Adds g.W.World.meaning (told_by veil.hidden.now veil.looked.items veil.silent before)
    (told_by veil.hidden.now looked veil.silent after) (OwnTime path c.in_ok-when.when)) (sym items)
    (visible-time g.W.World.meaning veil.hidden.now veil.looked.items veil.silent path c.in_ok-when.when
    before after off c.in_ok-when.ensures.done)
