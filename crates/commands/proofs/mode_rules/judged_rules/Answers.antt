-- The version that no rules of the launch have.
use Rattle.std.proofs.Common.{Option, ap, inl, inr, refl, subst, sym, ◌∙◌}
use Rattle.std.specs.Prelude.{option_map}
use Rattle.pd_base.specs.Links.{LinkList}
use Rattle.pd_base.specs.declared.links.Links.{Links}
use Rattle.commands.specs.Inside.InputJudging as judging
use Rattle.commands.specs.ModeRules.{AreRulesWith}
use Rattle.commands.proofs.ModeRules.{none_linked, none_unlinked}
use Rattle.commands.proofs.mode_rules.judged_rules.Goals as goal
use Rattle.commands.proofs.mode_rules.judged_rules.Goals.{in_default-via-in-None+in_default, in_default-via-in-Some+in_default}

pub returns-in_default-clause-fails : goal.returns-in_default-clause-fails
returns-in_default-clause-fails c =
    elim c.in_default.branch [
      | in_default-via-in-None+in_default w ↦
          judging.refused _ refl (record {
            none_has = λ rules of.
                none_unlinked c.args.version w.in_default.is-1.0.1 (λ two. w.in_default.is-1.1 (inl two)) (λ four. w.in_default.is-1.1 (inr four)) rules
                (subst (λ (links : Option LinkList). AreRulesWith links rules)
                (sym c.in_ok-launch_links.ensures.links
                ∙ ap (λ (found : Option Links). option_map (λ kept. kept.pairs) found) w.in_default.is-0) of);
            is = c.malformed.ensures;
          })
      | in_default-via-in-Some+in_default w ↦
          judging.refused _ refl (record {
            none_has = λ rules of.
                none_linked _ c.args.version (λ three. w.in_default.is-1.1 (inl three)) (λ five. w.in_default.is-1.1 (inr five)) rules
                (subst (λ (links : Option LinkList). AreRulesWith links rules)
                (sym c.in_ok-launch_links.ensures.links
                ∙ ap (λ (found : Option Links). option_map (λ kept. kept.pairs) found) w.in_default.is-0) of);
            is = c.malformed.ensures;
          })
    ]
