-- What is no main target stays none, whatever lines add.
use Rattle.std.proofs.Common.{◌≡◌, ◌∙◌, ℕ, zero, suc, ◌+◌, ◌<◌, ◌≤◌, ◌&&◌, ◌||◌, Bool, true, false, not}
use Rattle.std.proofs.Common.{List, [], ◌∷◌, ◌++◌, length, take, cond, refl, sym, ap, subst}
use Rattle.std.proofs.Common.{append_assoc, drop, slice_index_or, ◌-◌, arith, length-append, Option, Some, None, is_some, Result, Ok, Err}
use Rattle.std.proofs.Math.ListN.{get_or-append}
use Rattle.mk_bytes.specs.Agrees.{◌>>=◌}
use Rattle.mk_depline.specs.Names.{is_attribute}
use Rattle.mk_depline.specs.declared.line.DepLine.{DepLine}
use Rattle.mk_depline.specs.declared.name.Special.{Special}
use Rattle.mk_depline.specs.declared.name.Special.TheVariants as special
use Rattle.mk_graph.specs.Marks.{marked}
use Rattle.mk_graph.specs.Nodes.{Node, changed, is_named, new_node, node_at, with_command}
use Rattle.mk_graph.specs.Nodes.{with_mark, with_node, with_order, with_source}
use Rattle.mk_graph.specs.Numbers.{AreBelow}
use Rattle.mk_graph.specs.declared.attr.Attr.{Attr}
use Rattle.mk_graph.specs.declared.attr.Attr.TheVariants as attr
use Rattle.mk_graph.specs.declared.attr.Marks.{Marks}
use Rattle.mk_rules.specs.Lines.{Stood, all_stand, any_otherwise, is_target, line_stands}
use Rattle.mk_rules.specs.Lines.{marked_by, marked_where, marks_read, passed_over, sources_read, special_read}
use Rattle.mk_rules.specs.Lines.{with_everywhere, listed_with, stands, targets_read, with_main, with_marks, with_orders, with_sources}
use Rattle.mk_rules.specs.Names.{all_marked, all_named, all_sourced, is_too_many, named, neighbours_ordered, number_in}
use Rattle.mk_rules.specs.Names.{ordered_before, ordered_behind, sourced}
use Rattle.mk_rules.specs.Rules.{ArePassed, HavePassed, Ruled, all_commanded, first_main, is_plain}
use Rattle.mk_rules.specs.Rules.{is_reserved, may_be_main}
use Rattle.mk_rules.specs.Attributes.{attr_named}
use Rattle.mk_rules.specs.Sources.{Met, all_met, attributes_taken, is_wait, marked_as, none_met}
use Rattle.mk_rules.specs.Sources.{with_source_met, word_met}
use Rattle.mk_rules.specs.declared.fault.RuleFault.{RuleFault}
use Rattle.mk_rules.specs.declared.fault.RuleFault.TheVariants.{Operators, TooManyNames}
use Rattle.mk_rules.proofs.FoldLemmas.{below_take}

-- none of these nodes becomes a main target
pub record Keeps (old new : List Node) : Type 0 where
  pub longer : length old ≤ length new
  pub none : (n : ℕ) → n < length old → may_be_main (node_at old n) ≡ false
      → may_be_main (node_at new n) ≡ false

Keeps-same : (nodes : List Node) → Keeps nodes nodes
Keeps-same nodes = record { longer = omega arith; none = λ n within is. is }

Keeps-then : (a b c : List Node) → Keeps a b → Keeps b c → Keeps a c
Keeps-then a b c first second = record {
  longer = omega (arith, first.longer, second.longer);
  none = λ n within is.
      second.none n (omega (arith, within, first.longer)) (first.none n within is);
}

-- a change of one node
pub record IsKept (old new : Node) : Type 0 where
  pub none : may_be_main old ≡ false → may_be_main new ≡ false

Keeps-set : (change : Node → Node) → ((node : Node) → IsKept node (change node))
    → (nodes : List Node) (n : ℕ) → Keeps nodes (changed change nodes n)
Keeps-set change kept [] n = record { longer = omega arith; none = λ i within is. absurd (omega (arith, within)) }
Keeps-set change kept (node ∷ more) zero = record { longer = omega arith; none = at }
  where
    at : (i : ℕ) → i < suc (length more) → may_be_main (node_at (node ∷ more) i) ≡ false
        → may_be_main (node_at (change node ∷ more) i) ≡ false
    at zero within is = (kept node).none is
    at (suc i) within is = is
Keeps-set change kept (node ∷ more) (suc n) =
    let rest = Keeps-set change kept more n in
    record { longer = omega (arith, rest.longer); none = at rest }
  where
    at : Keeps more (changed change more n) → (i : ℕ) → i < suc (length more)
        → may_be_main (node_at (node ∷ more) i) ≡ false
        → may_be_main (node_at (node ∷ changed change more n) i) ≡ false
    at rest zero within is = is
    at rest (suc i) within is = rest.none i (omega (arith, within)) is

-- a mark more

and-kept : (p q r : Bool) → (p ≡ false → q ≡ false) → (p && r) ≡ false → (q && r) ≡ false
and-kept false q r keeps is = rw (keeps refl) refl
and-kept true false r keeps is = refl
and-kept true true r keeps is = is

plain-rule : (a b c : Bool) → not (true || (a || (b || c))) ≡ false
plain-rule a b c = refl

plain-behind : (a b c : Bool) → not (a || (true || (b || c))) ≡ false
plain-behind true b c = refl
plain-behind false b c = refl

plain-before : (a b c : Bool) → not (a || (b || (true || c))) ≡ false
plain-before true b c = refl
plain-before false true c = refl
plain-before false false c = refl

plain-not : (a b c : Bool) → not (a || (b || (c || true))) ≡ false
plain-not true b c = refl
plain-not false true c = refl
plain-not false false true = refl
plain-not false false false = refl

plain-kept : (marks : Marks) (mark : Attr) → is_plain marks ≡ false → is_plain (marked marks mark) ≡ false
plain-kept marks attr.Phony is = is
plain-kept marks attr.Exec is = is
plain-kept marks attr.Optional is = is
plain-kept marks attr.Precious is = is
plain-kept marks attr.Silent is = is
plain-kept marks attr.Ignore is = is
plain-kept marks attr.NotMain is = plain-not marks.rule marks.macro_behind marks.macro_before
plain-kept marks attr.Macro is = plain-behind marks.rule marks.macro_before marks.not_main
plain-kept marks attr.MacroBefore is = plain-before marks.rule marks.macro_behind marks.not_main
plain-kept marks attr.Wait is = is
plain-kept marks attr.Meta is = is
plain-kept marks attr.NoMeta is = is
plain-kept marks attr.NoMetaCmp is = is
plain-kept marks attr.Remake is = is
plain-kept marks attr.Target is = is
plain-kept marks attr.Rule is = refl

Keeps-mark : (nodes : List Node) (n : ℕ) (mark : Attr) → Keeps nodes (with_mark nodes n mark)
Keeps-mark nodes n mark =
    Keeps-set (λ node. record node { marks = marked node.marks mark })
    (λ node. record {
      none = and-kept (is_plain node.marks) (is_plain (marked node.marks mark))
          (not (is_reserved node.name)) (plain-kept node.marks mark);
    }) nodes n

Keeps-source : (nodes : List Node) (n source : ℕ) → Keeps nodes (with_source nodes n source)
Keeps-source nodes n source =
    Keeps-set (λ node. record node { sources = node.sources ++ source ∷ [] })
    (λ node. record { none = λ is. is }) nodes n

Keeps-order : (nodes : List Node) (first n : ℕ) → Keeps nodes (with_order nodes first n)
Keeps-order nodes first n =
    Keeps-set (λ node. record node { ordered = node.ordered ++ first ∷ [] })
    (λ node. record { none = λ is. is }) nodes n

Keeps-command : (nodes : List Node) (n : ℕ) (text : List ℕ) → Keeps nodes (with_command nodes n text)
Keeps-command nodes n text =
    Keeps-set (λ node. record node { commands = node.commands ++ text ∷ [] })
    (λ node. record { none = λ is. is }) nodes n

Keeps-node : (nodes : List Node) (name : List ℕ) → Keeps nodes (with_node nodes name)
Keeps-node nodes name = by (is_named nodes name)
  where
    by : (named : Bool) → Keeps nodes (cond named nodes (nodes ++ new_node name ∷ []))
    by true = Keeps-same nodes
    by false = record {
      longer = omega (arith, length-append nodes (new_node name ∷ []));
      none = λ n within is.
          ap may_be_main (get_or-append nodes (new_node name ∷ []) (new_node []) n within) ∙ is;
    }

-- all commands of a line
pub Keeps-commanded : (text : List ℕ) (nodes : List Node) (numbers : List ℕ)
    → Keeps nodes (all_commanded text nodes numbers)
Keeps-commanded text nodes [] = Keeps-same nodes
Keeps-commanded text nodes (n ∷ more) =
    Keeps-then nodes (with_command nodes n text) _ (Keeps-command nodes n text)
    (Keeps-commanded text (with_command nodes n text) more)

Keeps-marked : (mark : Attr) (nodes : List Node) (numbers : List ℕ)
    → Keeps nodes (all_marked mark nodes numbers)
Keeps-marked mark nodes [] = Keeps-same nodes
Keeps-marked mark nodes (n ∷ more) =
    Keeps-then nodes (with_mark nodes n mark) _ (Keeps-mark nodes n mark)
    (Keeps-marked mark (with_mark nodes n mark) more)

Keeps-sourced : (n : ℕ) (nodes : List Node) (sources : List ℕ) → Keeps nodes (sourced n nodes sources)
Keeps-sourced n nodes [] = Keeps-same nodes
Keeps-sourced n nodes (source ∷ more) =
    Keeps-then nodes (with_source nodes n source) _ (Keeps-source nodes n source)
    (Keeps-sourced n (with_source nodes n source) more)

Keeps-all_sourced : (sources : List ℕ) (nodes : List Node) (numbers : List ℕ)
    → Keeps nodes (all_sourced sources nodes numbers)
Keeps-all_sourced sources nodes [] = Keeps-same nodes
Keeps-all_sourced sources nodes (n ∷ more) =
    Keeps-then nodes (sourced n nodes sources) _ (Keeps-sourced n nodes sources)
    (Keeps-all_sourced sources (sourced n nodes sources) more)

Keeps-before : (n : ℕ) (nodes : List Node) (firsts : List ℕ) → Keeps nodes (ordered_before n nodes firsts)
Keeps-before n nodes [] = Keeps-same nodes
Keeps-before n nodes (first ∷ more) =
    Keeps-then nodes (with_order nodes first n) _ (Keeps-order nodes first n)
    (Keeps-before n (with_order nodes first n) more)

Keeps-behind : (first : ℕ) (nodes : List Node) (numbers : List ℕ)
    → Keeps nodes (ordered_behind first nodes numbers)
Keeps-behind first nodes [] = Keeps-same nodes
Keeps-behind first nodes (n ∷ more) =
    Keeps-then nodes (with_order nodes first n) _ (Keeps-order nodes first n)
    (Keeps-behind n (with_order nodes first n) more)

Keeps-neighbours : (nodes : List Node) (numbers : List ℕ) → Keeps nodes (neighbours_ordered nodes numbers)
Keeps-neighbours nodes [] = Keeps-same nodes
Keeps-neighbours nodes (first ∷ more) = Keeps-behind first nodes more

Keeps-taken : (targets : List ℕ) (nodes : List Node) (words : List (List ℕ))
    → Keeps nodes (attributes_taken targets nodes words)
Keeps-taken targets nodes [] = Keeps-same nodes
Keeps-taken targets nodes (word ∷ more) =
    Keeps-then nodes (marked_as (attr_named word) nodes targets) _ (by (attr_named word))
    (Keeps-taken targets (marked_as (attr_named word) nodes targets) more)
  where
    by : (mark : Option Attr) → Keeps nodes (marked_as mark nodes targets)
    by None = Keeps-same nodes
    by (Some mark) = Keeps-marked mark nodes targets

Keeps-where : (holds : Bool) (mark : Attr) (nodes : List Node) (targets : List ℕ)
    → Keeps nodes (marked_where holds mark nodes targets)
Keeps-where true mark nodes targets = Keeps-marked mark nodes targets
Keeps-where false mark nodes targets = Keeps-same nodes

Keeps-marked_by : (line : DepLine) (nodes : List Node) (targets : List ℕ)
    → Keeps nodes (marked_by line nodes targets)
Keeps-marked_by line nodes targets =
    let remade = marked_where line.remake attr.Remake nodes targets in
    Keeps-then nodes remade _ (Keeps-where line.remake attr.Remake nodes targets)
    (Keeps-where (is_some line.rule) attr.Rule remade targets)

Keeps-sources : (line : DepLine) (targets : List ℕ) (m : Met) → Keeps m.nodes (with_sources line targets m)
Keeps-sources line targets m =
    Keeps-then m.nodes (all_sourced m.sources m.nodes targets) _
    (Keeps-all_sourced m.sources m.nodes targets)
    (Keeps-taken targets (all_sourced m.sources m.nodes targets) line.sources)

-- targets that stand, behind those that stood
pub record Goes_on (old new : Stood) : Type 0 where
  pub nodes : Keeps old.nodes new.nodes
  pub more : List ℕ
  pub targets : new.targets ≡ old.targets ++ more

append_none : (items : List ℕ) → items ≡ items ++ []
append_none [] = refl
append_none (item ∷ more) = ap (λ l. item ∷ l) (append_none more)

stands-goes : (listed : Bool) (s : Stood) (n : ℕ) → Goes_on s (stands listed s n)
stands-goes listed s n = by (is_target s.nodes n) listed
  where
    by : (stood listed : Bool) → Goes_on s (cond stood s (record {
      nodes = with_mark s.nodes n attr.Target;
      targets = listed_with listed s.targets n;
    }))
    by true listed = record { nodes = Keeps-same s.nodes; more = []; targets = append_none s.targets }
    by false true =
        record { nodes = Keeps-mark s.nodes n attr.Target; more = n ∷ []; targets = refl }
    by false false =
        record { nodes = Keeps-mark s.nodes n attr.Target; more = []; targets = append_none s.targets }

Goes_on-then : (a b c : Stood) → Goes_on a b → Goes_on b c → Goes_on a c
Goes_on-then a b c first second = record {
  nodes = Keeps-then a.nodes b.nodes c.nodes first.nodes second.nodes;
  more = first.more ++ second.more;
  targets = second.targets ∙ (ap (λ l. l ++ second.more) first.targets
      ∙ append_assoc a.targets first.more second.more);
}

all_stand-goes : (listed : Bool) (s : Stood) (targets : List ℕ) → Goes_on s (all_stand listed s targets)
all_stand-goes listed s [] =
    record { nodes = Keeps-same s.nodes; more = []; targets = append_none s.targets }
all_stand-goes listed s (n ∷ more) =
    Goes_on-then s (stands listed s n) _ (stands-goes listed s n)
    (all_stand-goes listed (stands listed s n) more)

-- names that are made nodes

named-keeps : (nodes : List Node) (name : List ℕ) (one : List Node × ℕ) → named nodes name ≡ Ok one
    → Keeps nodes one.0
named-keeps nodes name one is = by (is_too_many nodes name) is
  where
    by : (many : Bool) → cond many (Err TooManyNames)
        (Ok (with_node nodes name, number_in (with_node nodes name) name)) ≡ Ok one
        → Keeps nodes one.0
    by true is = absurd cc
    by false is =
        let same : with_node nodes name ≡ one.0 = ap (λ r. first_of r) is in
        subst (Keeps nodes) same (Keeps-node nodes name)
      where
        first_of : Result (List Node × ℕ) RuleFault → List Node
        first_of (Ok one) = one.0
        first_of (Err fault) = []

all_named-keeps : (nodes : List Node) (numbers : List ℕ) (names : List (List ℕ))
    (all : List Node × List ℕ) → all_named nodes numbers names ≡ Ok all → Keeps nodes all.0
all_named-keeps nodes numbers [] all is =
    let same : nodes ≡ all.0 = cc in subst (Keeps nodes) same (Keeps-same nodes)
all_named-keeps nodes numbers (name ∷ more) all is =
    by (named nodes name) refl is
    (λ one rest. all_named-keeps one.0 (numbers ++ one.1 ∷ []) more all rest)
  where
    by : (found : Result (List Node × ℕ) RuleFault) → named nodes name ≡ found
        → (found >>= λ one. all_named one.0 (numbers ++ one.1 ∷ []) more) ≡ Ok all
        → ((one : List Node × ℕ) → all_named one.0 (numbers ++ one.1 ∷ []) more ≡ Ok all
        → Keeps one.0 all.0)
        → Keeps nodes all.0
    by (Err fault) there is rest = absurd cc
    by (Ok one) there is rest =
        Keeps-then nodes one.0 all.0 (named-keeps nodes name one there) (rest one is)

word-keeps : (m next : Met) (word : List ℕ) → word_met m word ≡ Ok next → Keeps m.nodes next.nodes
word-keeps m next word is = by (is_wait word) (is_attribute word) (named m.nodes word) refl is
  where
    by : (wait attribute : Bool) (found : Result (List Node × ℕ) RuleFault)
        → named m.nodes word ≡ found
        → cond wait (Ok (record m { waited = length m.sources }))
        (cond attribute (Ok m) (found >>= λ one. Ok (with_source_met m one))) ≡ Ok next
        → Keeps m.nodes next.nodes
    by true attribute found there is =
        let same : record m { waited = length m.sources } ≡ next = cc in
        subst (λ (n : Met). Keeps m.nodes n.nodes) same (Keeps-same m.nodes)
    by false true found there is =
        let same : m ≡ next = cc in
        subst (λ (n : Met). Keeps m.nodes n.nodes) same (Keeps-same m.nodes)
    by false false (Err fault) there is = absurd cc
    by false false (Ok one) there is =
        let same : with_source_met m one ≡ next = cc in
        subst (λ (n : Met). Keeps m.nodes n.nodes) same
        (Keeps-then m.nodes one.0 _ (named-keeps m.nodes word one there)
        (Keeps-before one.1 one.0 (take m.waited m.sources)))

all_met-keeps : (m found : Met) (words : List (List ℕ)) → all_met m words ≡ Ok found
    → Keeps m.nodes found.nodes
all_met-keeps m found [] is =
    let same : m ≡ found = cc in
    subst (λ (n : Met). Keeps m.nodes n.nodes) same (Keeps-same m.nodes)
all_met-keeps m found (word ∷ more) is =
    by (word_met m word) refl is (λ next rest. all_met-keeps next found more rest)
  where
    by : (one : Result Met RuleFault) → word_met m word ≡ one
        → (one >>= λ next. all_met next more) ≡ Ok found
        → ((next : Met) → all_met next more ≡ Ok found → Keeps next.nodes found.nodes)
        → Keeps m.nodes found.nodes
    by (Err fault) there is rest = absurd cc
    by (Ok next) there is rest =
        Keeps-then m.nodes next.nodes found.nodes (word-keeps m next word there) (rest next is)

-- What a line does

pub record Grows (old new : Ruled) : Type 0 where
  pub nodes : Keeps old.nodes new.nodes
  pub more : List ℕ
  pub targets : new.targets ≡ old.targets ++ more

Grows-nodes : (r s : Ruled) → Keeps r.nodes s.nodes → s.targets ≡ r.targets → Grows r s
Grows-nodes r s nodes targets =
    record { nodes = nodes; more = []; targets = targets ∙ append_none r.targets }

sources-grow : (r s : Ruled) (line : DepLine) (and_then : Met → Ruled)
    → ((m : Met) → Keeps m.nodes (and_then m).nodes) → ((m : Met) → (and_then m).targets ≡ r.targets)
    → sources_read r line and_then ≡ Ok s → Grows r s
sources-grow r s line and_then keeps targets is = by (all_met (none_met r.nodes) line.sources) refl is
  where
    by : (found : Result Met RuleFault) → all_met (none_met r.nodes) line.sources ≡ found
        → (found >>= λ m. Ok (passed_over (and_then m))) ≡ Ok s → Grows r s
    by (Err fault) there is = absurd cc
    by (Ok m) there is =
        let same : passed_over (and_then m) ≡ s = cc in
        subst (Grows r) same (Grows-nodes r (passed_over (and_then m))
        (Keeps-then r.nodes m.nodes _ (all_met-keeps (none_met r.nodes) m line.sources there) (keeps m))
        (targets m))

pub targets-grow : (listed : Bool) (r s : Ruled) (line : DepLine) → targets_read listed r line ≡ Ok s
    → Grows r s
targets-grow listed r s line is = by (any_otherwise r.nodes line.remake line.targets)
    (all_named r.nodes [] line.targets) refl is
  where
    met : (named : List Node × List ℕ) → all_named r.nodes [] line.targets ≡ Ok named
        → (found : Result Met RuleFault) → all_met (none_met named.0) line.sources ≡ found
        → (found >>= λ m. Ok (line_stands listed r line named.1 m)) ≡ Ok s → Grows r s
    met named there (Err fault) all is = absurd cc
    met named there (Ok m) all is =
        let same : line_stands listed r line named.1 m ≡ s = cc in
        let begun : Stood =
        record { nodes = with_sources line named.1 m; targets = r.targets } in
        let goes = all_stand-goes listed begun named.1 in
        let stood = all_stand listed begun named.1 in
        subst (Grows r) same (record {
          nodes =
              Keeps-then r.nodes named.0 _ (all_named-keeps r.nodes [] line.targets named there)
              (Keeps-then named.0 m.nodes _ (all_met-keeps (none_met named.0) m line.sources all)
              (Keeps-then m.nodes begun.nodes _ (Keeps-sources line named.1 m)
              (Keeps-then begun.nodes stood.nodes _ goes.nodes
              (Keeps-marked_by line stood.nodes named.1))));
          more = goes.more;
          targets = goes.targets;
        })

    by : (otherwise : Bool) (found : Result (List Node × List ℕ) RuleFault)
        → all_named r.nodes [] line.targets ≡ found
        → cond otherwise (Err Operators) (found >>= λ targets. all_met (none_met targets.0) line.sources
        >>= λ m. Ok (line_stands listed r line targets.1 m)) ≡ Ok s → Grows r s
    by true found there is = absurd cc
    by false (Err fault) there is = absurd cc
    by false (Ok named) there is = met named there (all_met (none_met named.0) line.sources) refl is

marks-grow : (mark : Attr) (everywhere r s : Ruled) (line : DepLine) (words : List (List ℕ))
    → everywhere.nodes ≡ r.nodes → everywhere.targets ≡ r.targets
    → marks_read mark everywhere r line words ≡ Ok s → Grows r s
marks-grow mark everywhere r s line [] nodes targets is =
    let same : passed_over everywhere ≡ s = cc in
    subst (Grows r) same (Grows-nodes r (passed_over everywhere)
    (subst (Keeps r.nodes) (sym nodes) (Keeps-same r.nodes)) targets)
marks-grow mark everywhere r s line (word ∷ more) nodes targets is =
    sources-grow r s line (with_marks mark r) (λ m. Keeps-marked mark m.nodes m.sources) (λ m. refl) is

abbrev done : Ruled → Result Ruled RuleFault
done r = Ok r

same-grows : (r t s : Ruled) → t.nodes ≡ r.nodes → t.targets ≡ r.targets → done t ≡ done s → Grows r s
same-grows r t s nodes targets is =
    let same : t ≡ s = cc in
    subst (Grows r) same
    (Grows-nodes r t (subst (Keeps r.nodes) (sym nodes) (Keeps-same r.nodes)) targets)

pub special-grows : (one : Special) (r s : Ruled) (line : DepLine) → special_read one r line ≡ Ok s
    → Grows r s
special-grows special.Main r s line is =
    sources-grow r s line (with_main r) (λ m. Keeps-same m.nodes) (λ m. refl) is
special-grows special.Begin r s line is = targets-grow false r s line is
special-grows special.End r s line is = targets-grow false r s line is
special-grows special.Default r s line is = targets-grow false r s line is
special-grows special.Order r s line is =
    sources-grow r s line (with_orders r) (λ m. Keeps-neighbours m.nodes m.sources) (λ m. refl) is
special-grows special.Suffixes r s line is = same-grows r _ s refl refl is
special-grows special.Path r s line is = same-grows r _ s refl refl is
special-grows special.NotParallel r s line is = same-grows r _ s refl refl is
special-grows special.DeleteOnError r s line is = same-grows r _ s refl refl is
special-grows special.Phony r s line is =
    sources-grow r s line (with_marks attr.Phony r) (λ m. Keeps-marked attr.Phony m.nodes m.sources)
    (λ m. refl) is
special-grows special.Precious r s line is =
    marks-grow attr.Precious (with_everywhere r (record r.everywhere { precious = true })) r s line
    line.sources refl refl is
special-grows special.Silent r s line is =
    marks-grow attr.Silent (with_everywhere r (record r.everywhere { silent = true })) r s line
    line.sources refl refl is
special-grows special.Ignore r s line is =
    marks-grow attr.Ignore (with_everywhere r (record r.everywhere { ignore = true })) r s line
    line.sources refl refl is

-- The targets that are passed over

pub passed_none : (nodes : List Node) (targets : List ℕ) → HavePassed nodes targets 0
passed_none nodes targets = record { within = omega arith; none = tt }

passed-kept : (old new : List Node) → Keeps old new → (targets : List ℕ)
    → AreBelow (length old) targets → ArePassed old targets → ArePassed new targets
passed-kept old new keeps [] below passed = tt
passed-kept old new keeps (n ∷ more) below passed =
    (keeps.none n below.0 passed.0, passed-kept old new keeps more below.1 passed.1)

pub below_drop : (bound count : ℕ) (nodes : List ℕ) → AreBelow bound nodes
    → AreBelow bound (drop count nodes)
below_drop bound zero nodes below = below
below_drop bound (suc count) [] below = tt
below_drop bound (suc count) (n ∷ more) below = below_drop bound count more below.1

take-before : (count : ℕ) (items more : List ℕ) → count ≤ length items
    → take count (items ++ more) ≡ take count items
take-before zero items more within = refl
take-before (suc count) [] more within = absurd (omega (arith, within))
take-before (suc count) (item ∷ items) more within =
    ap (λ l. item ∷ l) (take-before count items more (omega (arith, within)))

pub passed-grown : (r s : Ruled) (count : ℕ) → Grows r s → AreBelow (length r.nodes) r.targets
    → HavePassed r.nodes r.targets count → HavePassed s.nodes s.targets count
passed-grown r s count grows below passed = record {
  within = rw (grows.targets)
      (omega (arith, passed.within, length-append r.targets grows.more));
  none = rw (grows.targets, take-before count r.targets grows.more passed.within)
      (passed-kept r.nodes s.nodes grows.nodes (take count r.targets)
      (below_take (length r.nodes) count r.targets below) passed.none);
}

pub passed-commanded : (text : List ℕ) (nodes : List Node) (targets numbers : List ℕ) (count : ℕ)
    → AreBelow (length nodes) targets → HavePassed nodes targets count
    → HavePassed (all_commanded text nodes numbers) targets count
passed-commanded text nodes targets numbers count below passed = record {
  within = passed.within;
  none = passed-kept nodes (all_commanded text nodes numbers) (Keeps-commanded text nodes numbers)
      (take count targets) (below_take (length nodes) count targets below) passed.none;
}

-- none of them is the first main target
pub first_main-behind : (nodes : List Node) (targets : List ℕ) (count : ℕ)
    → HavePassed nodes targets count
    → first_main nodes targets ≡ first_main nodes (drop count targets)
first_main-behind nodes targets count passed = by targets count passed.none
  where
    by : (targets : List ℕ) (count : ℕ) → ArePassed nodes (take count targets)
        → first_main nodes targets ≡ first_main nodes (drop count targets)
    by targets zero passed = refl
    by [] (suc count) passed = refl
    by (n ∷ more) (suc count) passed = rw (passed.0) (by more count passed.1)

-- one more is passed over
pub passed-more : (nodes : List Node) (targets : List ℕ) (count n : ℕ) → count < length targets
    → n ≡ slice_index_or targets count 0 → may_be_main (node_at nodes n) ≡ false
    → HavePassed nodes targets count → HavePassed nodes targets (count + 1)
passed-more nodes targets count n within is none passed = record {
  within = omega (arith, within);
  none = by targets count within is passed.none;
}
  where
    by : (targets : List ℕ) (count : ℕ) → count < length targets → n ≡ slice_index_or targets count 0
        → ArePassed nodes (take count targets) → ArePassed nodes (take (count + 1) targets)
    by [] count within is passed = absurd (omega (arith, within))
    by (one ∷ more) zero within is passed =
        (ap (λ n. may_be_main (node_at nodes n)) (sym is) ∙ none, tt)
    by (one ∷ more) (suc count) within is passed =
        let next : suc count + 1 ≡ suc (count + 1) = omega arith in
        rw next (passed.0, by more count (omega (arith, within)) is passed.1)

-- one of them
pub below_at : (bound : ℕ) (nodes : List ℕ) (at : ℕ) → AreBelow bound nodes → at < length nodes
    → slice_index_or nodes at 0 < bound
below_at bound [] at below within = absurd (omega (arith, within))
below_at bound (n ∷ more) zero below within = below.0
below_at bound (n ∷ more) (suc at) below within =
    below_at bound more at below.1 (omega (arith, within))

-- what stands behind the first ones
pub slice_behind : (items : List ℕ) (count : ℕ) → count ≤ length items
    → take (length items - count) (drop count items) ≡ drop count items
slice_behind items zero within = whole items (length items - 0) (omega arith)
  where
    whole : (items : List ℕ) (n : ℕ) → length items ≡ n → take n items ≡ items
    whole [] zero is = refl
    whole [] (suc n) is = refl
    whole (item ∷ more) zero is = absurd (omega (arith, is))
    whole (item ∷ more) (suc n) is = ap (λ l. item ∷ l) (whole more n (omega (arith, is)))
slice_behind [] (suc count) within = absurd (omega (arith, within))
slice_behind (item ∷ more) (suc count) within =
    let same : suc (length more) - suc count ≡ length more - count = omega arith in
    rw same (slice_behind more count (omega (arith, within)))

-- what a line leaves, where it grows by the line
pub passed_by : (r s now : Ruled) (count : ℕ) → Grows r s → AreBelow (length r.nodes) r.targets
    → HavePassed r.nodes r.targets count → now ≡ s → HavePassed now.nodes now.targets count
passed_by r s now count grows below passed is = rw is (passed-grown r s count grows below passed)
