-- One suffix after the other, where rules to one are gone through.
use Rattle.std.proofs.Common.{◌≡◌, ◌∙◌, ℕ, ◌<◌, ◌&&◌, not, Bool, true, false}
use Rattle.std.proofs.Common.{inl, inr, List, [], ◌∷◌, ◌++◌, length, refl, sym, ap, subst, arith}
use Rattle.std.proofs.Common.{length-append, None, is_some}
use Rattle.std.proofs.Math.ListN.{get_or-append}
use Rattle.std.proofs.lemmas.Bool.{cases_Bool, and_parts, and_cases, cases_lt, false≢true}
use Rattle.mk_depline.specs.Names.{is_among}
use Rattle.mk_graph.specs.Nodes.{Node}
use Rattle.mk_suffix.specs.Chains.{Suffixes, first_of, rule_between, may_precede, extended}
use Rattle.mk_suffix.specs.Extends.{IsMade, IsWay, AreWays, IsNew, IsStepFrom, extended_by}
use Rattle.mk_suffix.specs.Extends.{Extends, IsHit}
use Rattle.mk_suffix.specs.Search.{Way, way_at, way_by, reached, Leads}
use Rattle.mk_suffix.specs.Search.{own_way}
use Rattle.mk_suffix.specs.SearchView.{way_of}
use Rattle.mk_suffix.specs.Table.{Rule, row, froms}
use Rattle.mk_suffix.specs.declared.step.Step.{Step}
use Rattle.mk_suffix.proofs.AmongLemmas.{Covers, Covers-then, Covers-cons, among-before}
use Rattle.mk_suffix.proofs.AmongLemmas.{among-behind}
use Rattle.mk_suffix.proofs.AmongLemmas.{among-head}
use Rattle.mk_suffix.proofs.LeftLemmas.{left_over-less}
use Rattle.mk_suffix.proofs.MadeLemmas.{rule-number, IsMade-by}
use Rattle.mk_suffix.proofs.SearchLemmas.{Leads-old, Leads-met, Leads-new, reached-append}
use Rattle.mk_suffix.proofs.TableLemmas.{froms-extend}
use Rattle.mk_suffix.proofs.WayLemmas.{get_or-behind}

module _ (nodes : List Node) (known : List (List ℕ)) (old now : List Way) (at : ℕ) where
  pub Extends-first : AreWays nodes old → Extends nodes known old old at known
  Extends-first ways = record {
    ways = ways;
    same = refl;
    longer = omega arith;
    fewer = omega arith;
    leads = λ rest whole leads. leads;
  }

  -- by the rules that lead to the suffix at the place
  pub Extends-row : AreWays nodes old → (to : List ℕ) → to ≡ first_of (way_at old at).suffixes
      → (rules : List Rule) → rules ≡ row nodes known to
      → Extends nodes known old old at (froms rules)
  Extends-row ways to is rules are = record {
    ways = ways;
    same = refl;
    longer = omega arith;
    fewer = omega arith;
    leads = λ rest whole leads.
        let chain = (way_at old at).suffixes in
        let those : rules ≡ row nodes known (first_of chain) = are ∙ ap (row nodes known) is in
        let same : extended_by nodes known chain (froms rules) ≡ extended nodes known chain =
        ap (λ l. extended_by nodes known chain (froms l)) those
        ∙ froms-extend nodes known chain known in
        subst (λ l. Leads old (l ++ rest) whole) (sym same) leads;
  }

  module _ (suffix : List ℕ) (more : List (List ℕ))
      (extends : Extends nodes known old now at (suffix ∷ more)) where
    -- the chain that is gone through
    abbrev pub chain : Suffixes
    chain = (way_at old at).suffixes

    chain_is : (way_at now at).suffixes ≡ chain
    chain_is = ap (λ (way : Way). way.suffixes) extends.same

    -- whether a rule leads to it
    leads_to : Bool
    leads_to = is_some (rule_between nodes known suffix (first_of (way_at now at).suffixes))

    may_is : may_precede nodes known chain suffix ≡ (leads_to && not (is_among chain suffix))
    unfolding leads_to
    may_is =
        ap (λ l. is_some (rule_between nodes known suffix (first_of l))
        && not (is_among chain suffix)) (sym chain_is)

    dropped : may_precede nodes known chain suffix ≡ false
        → extended_by nodes known chain (suffix ∷ more) ≡ extended_by nodes known chain more
    dropped is = rw is refl

    kept : may_precede nodes known chain suffix ≡ true
        → extended_by nodes known chain (suffix ∷ more)
        ≡ (suffix ∷ chain) ∷ extended_by nodes known chain more
    kept is = rw is refl

    pub Extends-skip : IsStepFrom nodes known now suffix at None
        → Extends nodes known old now at more
    unfolding leads_to
    Extends-skip none = record {
      ways = extends.ways;
      same = extends.same;
      longer = extends.longer;
      fewer = extends.fewer;
      leads = λ rest whole leads.
          let before = extends.leads rest whole leads in
          elim (cases_Bool (may_precede nodes known chain suffix)) [
            | inl may ↦
                let parts = and_parts leads_to (not (is_among chain suffix)) (sym may_is ∙ may) in
                let old_one : is_among (reached now) suffix ≡ true =
                elim (and_cases leads_to (not (is_among (reached now) suffix)) none) [
                  | inl no_rule ↦ absurd (false≢true (sym no_rule ∙ parts.0))
                  | inr reached_it ↦ not_so (is_among (reached now) suffix) reached_it
                ] in
                Leads-old now (suffix ∷ chain) (extended_by nodes known chain more ++ rest) whole
                old_one (subst (λ l. Leads now (l ++ rest) whole) (kept may) before)
            | inr may_not ↦ subst (λ l. Leads now (l ++ rest) whole) (dropped may_not) before
          ];
    }
      where
        not_so : (b : Bool) → not b ≡ false → b ≡ true
        not_so true is = refl
        not_so false is = sym is

    module _ (step : Step) (new : IsNew nodes known now suffix at step) (within : at < length now)
      where
        abbrev pub way : Way
        way = way_of now step

        way_is : way ≡ way_by (way_at now at) suffix step.rule
        way_is =
            ap (λ to. way_by (way_at now to) step.suffix.now step.rule) new.place
            ∙ ap (λ x. way_by (way_at now at) x step.rule) new.suffix_is

        suffixes_are : way.suffixes ≡ suffix ∷ chain
        suffixes_are = ap (λ (w : Way). w.suffixes) way_is ∙ ap (λ l. suffix ∷ l) chain_is

        made : IsMade nodes way
        made =
            subst (IsMade nodes) (sym way_is)
            (IsMade-by nodes (way_at now at) suffix step.rule (extends.ways at within).made
            (rule-number nodes known suffix (first_of (way_at now at).suffixes) step.rule new.rule)
            new.within)

        may : may_precede nodes known chain suffix ≡ true
        unfolding leads_to
        may = may_is ∙ rw (new.rule, outside) refl
          where
            outside : is_among chain suffix ≡ false
            outside =
                elim (cases_Bool (is_among chain suffix)) [
                  | inl inside ↦
                      absurd (false≢true (sym new.new ∙ (extends.ways at within).inner suffix
                      (subst (λ l. is_among l suffix ≡ true) (sym chain_is) inside)))
                  | inr apart ↦ apart
                ]

        -- the chains that were left begin with this one
        leads_here : (rest whole : List Suffixes)
            → Leads old (extended nodes known chain ++ rest) whole
            → Leads now (way.suffixes ∷ (extended_by nodes known chain more ++ rest)) whole
        leads_here rest whole leads =
            subst (λ l. Leads now (l ∷ (extended_by nodes known chain more ++ rest)) whole)
            (sym suffixes_are)
            (subst (λ l. Leads now (l ++ rest) whole) (kept may) (extends.leads rest whole leads))

        not_reached : is_among (reached now) (first_of way.suffixes) ≡ false
        not_reached =
            subst (λ l. is_among (reached now) (first_of l) ≡ false) (sym suffixes_are) new.new

        pub IsHit-here : IsHit nodes known old now at step
        IsHit-here = record {
          within = omega (arith, new.place);
          made = made;
          longer = extends.longer;
          new_one = subst (λ x. is_among (reached now) x ≡ false) (sym new.suffix_is) new.new;
          leads = λ rest whole leads. (
            _,
            Leads-met now way.suffixes
                (extended_by nodes known chain more ++ rest) whole not_reached
                (leads_here rest whole leads),
          );
        }

        reached_are : reached (now ++ way ∷ []) ≡ reached now ++ suffix ∷ []
        reached_are =
            reached-append now way
            ∙ ap (λ l. reached now ++ first_of l ∷ []) suffixes_are

        covers : Covers (reached (now ++ way ∷ [])) (reached now)
        covers x among = rw reached_are (among-before (reached now) (suffix ∷ []) x among)

        pub Extends-push : is_among known suffix ≡ true
            → Extends nodes known old (now ++ way ∷ []) at more
        Extends-push among = record {
          ways = ways;
          same = get_or-append now (way ∷ []) (own_way []) at within ∙ extends.same;
          longer = omega (arith, extends.longer, length-append now (way ∷ []));
          fewer =
              let less =
              left_over-less known (reached now) (reached (now ++ way ∷ [])) suffix covers
              among new.new here in
              omega (arith, less, extends.fewer, length-append now (way ∷ []));
          leads = λ rest whole leads. Leads-new now way (extended_by nodes known chain more ++ rest)
              whole not_reached (leads_here rest whole leads);
        }
          where
            here : is_among (reached (now ++ way ∷ [])) suffix ≡ true
            here =
                rw reached_are
                (among-behind (reached now) (suffix ∷ []) suffix (among-head suffix []))

            this : IsWay nodes (reached (now ++ way ∷ [])) way
            this = record {
              made = made;
              inner = λ x inside.
                  Covers-cons (reached (now ++ way ∷ [])) suffix (way_at now at).suffixes here
                  (Covers-then (reached (now ++ way ∷ [])) (reached now)
                  (way_at now at).suffixes covers
                  (extends.ways at within).inner) x
                  (subst (λ (w : Way). is_among w.suffixes x ≡ true) way_is inside);
            }

            ways : AreWays nodes (now ++ way ∷ [])
            ways i inside =
                elim (cases_lt i (length now)) [
                  | inl earlier ↦
                      let is = extends.ways i earlier in
                      subst (IsWay nodes (reached (now ++ way ∷ [])))
                      (sym (get_or-append now (way ∷ []) (own_way []) i earlier))
                      (record {
                        made = is.made;
                        inner = λ x among. covers x (is.inner x among);
                      })
                  | inr behind ↦
                      let place : i ≡ length now =
                      omega (arith, behind, inside, length-append now (way ∷ [])) in
                      subst (IsWay nodes (reached (now ++ way ∷ [])))
                      (sym (ap (way_at (now ++ way ∷ [])) place
                      ∙ get_or-behind now way (own_way []))) this
                ]
