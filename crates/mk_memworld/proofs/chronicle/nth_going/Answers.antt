use Rattle.std.proofs.Common.{◌≡◌, ◌+◌, ◌∷◌, true, false, nat_eq, drop, sym, ap, ◌∙◌}
use Rattle.std.proofs.lemmas.List.{drop_more}
use Rattle.std.specs.List.{list_any}
use Rattle.mk_world.specs.History.{tickets_of}
use Rattle.mk_memworld.specs.Schedule.{going, named}
use Rattle.mk_memworld.proofs.TicketLemmas.{going-ended, going-going, named-here, named-later}
use Rattle.mk_memworld.proofs.chronicle.nth_going.Goals as goal

pub loop-child-preserved-then-contains : goal.loop-child-preserved-then-contains
loop-child-preserved-then-contains c =
    let i = c.loop-child.child-index in
    let children = c.args.children.now in
    let ended = c.args.ended.now in
    let child = c.child-item.result in
    let next : drop i children ≡ child ∷ drop (i + 1) children =
    drop_more children i child c.loop-child-test.true
    ∙ ap (λ one. one ∷ drop (i + 1) children) (sym c.child-item.is) in
    let any : list_any (λ one. nat_eq one child.ticket) ended ≡ true =
    sym c.contains.ensures.value ∙ c.if-contains.true in
    ap (named c.loop-child.left)
    (sym (going-ended ended child.ticket (tickets_of (drop (i + 1) children)) any)
    ∙ ap (λ cs. going ended (tickets_of cs)) (sym next))
    ∙ c.loop-child.invariant

pub returns-then-left-eq1 : goal.returns-then-left-eq1
returns-then-left-eq1 c =
    let i = c.loop-child.child-index in
    let children = c.args.children.now in
    let ended = c.args.ended.now in
    let child = c.child-item.result in
    let next : drop i children ≡ child ∷ drop (i + 1) children =
    drop_more children i child c.loop-child-test.true
    ∙ ap (λ one. one ∷ drop (i + 1) children) (sym c.child-item.is) in
    let any : list_any (λ one. nat_eq one child.ticket) ended ≡ false =
    sym c.contains.ensures.value ∙ c.if-contains.false in
    let others = tickets_of (drop (i + 1) children) in
    sym (named-here child.ticket (going ended others))
    ∙ ap (λ n. named n (child.ticket ∷ going ended others)) (sym c.if-left-eq1.true)
    ∙ ap (named c.loop-child.left) (sym (going-going ended child.ticket others any)
    ∙ ap (λ cs. going ended (tickets_of cs)) (sym next))
    ∙ c.loop-child.invariant

pub loop-child-preserved : goal.loop-child-preserved
loop-child-preserved c =
    let i = c.loop-child.child-index in
    let children = c.args.children.now in
    let ended = c.args.ended.now in
    let child = c.child-item.result in
    let next : drop i children ≡ child ∷ drop (i + 1) children =
    drop_more children i child c.loop-child-test.true
    ∙ ap (λ one. one ∷ drop (i + 1) children) (sym c.child-item.is) in
    let any : list_any (λ one. nat_eq one child.ticket) ended ≡ false =
    sym c.contains.ensures.value ∙ c.if-contains.false in
    let others = tickets_of (drop (i + 1) children) in
    ap (λ n. named n (going ended others)) c.saturating_sub-left.ensures
    ∙ sym (named-later c.loop-child.left child.ticket (going ended others) c.if-left-eq1.false)
    ∙ ap (named c.loop-child.left) (sym (going-going ended child.ticket others any)
    ∙ ap (λ cs. going ended (tickets_of cs)) (sym next))
    ∙ c.loop-child.invariant
