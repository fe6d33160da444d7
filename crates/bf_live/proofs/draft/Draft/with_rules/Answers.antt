use Rattle.std.proofs.Common.{◌≡◌, List, ◌∷◌, ◌++◌, true, false, map, sym, ap, ap₂, ◌∙◌}
use Rattle.std.specs.Map.Iter.{deref}
use Rattle.std.proofs.lemmas.List.{append-nil}
use Rattle.bf_base.specs.Lists.{has, in_order, name_cmp, rises, same_name}
use Rattle.bf_tree.specs.declared.catalog.IndexRule.{IndexRule}
use Rattle.bf_live.specs.Drafts.{Drafted, rule_named, staying_rules}
use Rattle.bf_live.proofs.Drafts.{left_in, name_of_rule, rule_is_new, rules_in_order, rules_rise}
use Rattle.bf_live.proofs.draft.Draft.with_rules.Goals as goal

pub with_rule-requires : goal.with_rule-requires
with_rule-requires c =
    let gone = c.args.gone.now in
    let so_far = map deref c.loop-rule.yielded in
    let rule = c.in-Some.rule.now in
    let rest = c.next.new.self in
    let whole : so_far ++ rule ∷ rest ≡ c.args.old.now.indexes = ap (λ (rs : List IndexRule). so_far ++ rs) (sym c.in-Some.ensures.steps) ∙ c.loop-rule.invariant.left in
    let stays : has same_name gone rule.table ≡ false = sym c.if-not-is_among.ensures in
    let parts : staying_rules gone c.args.old.now.indexes ≡ staying_rules gone so_far ++ rule ∷ staying_rules gone rest =
    ap (staying_rules gone) (sym whole) ∙ left_in (λ (r : IndexRule). has same_name gone r.table) so_far rest rule stays in
    let rise : rises name_cmp (map name_of_rule (in_order name_cmp name_of_rule (staying_rules gone so_far ++ rule ∷ staying_rules gone rest))) ≡ true =
    ap (λ (rs : List IndexRule). rises name_cmp (map name_of_rule (in_order name_cmp name_of_rule rs))) (sym parts) ∙ rules_rise gone c.args.old.now.indexes c.indexes-rule-items.ensures.by_name in
    ap₂ (λ (d : Drafted) (r : IndexRule). rule_named d.indexes r.name) c.loop-rule.invariant.drafted c.in_ok-copy.ensures
    ∙ rule_is_new (staying_rules gone so_far) (staying_rules gone rest) rule rise

pub returns : goal.returns
returns c =
    let gone = c.args.gone.now in
    let all : map deref c.loop-rule.yielded ≡ c.args.old.now.indexes = sym (append-nil (map deref c.loop-rule.yielded)) ∙ ap (λ (rs : List IndexRule). map deref c.loop-rule.yielded ++ rs) (sym c.in-None.ensures.steps.0) ∙ c.loop-rule.invariant.left in
    c.loop-rule.invariant.drafted
    ∙ ap (λ (rs : List IndexRule). record c.args.self { indexes = rs })
    (ap (λ (rs : List IndexRule). in_order name_cmp name_of_rule (staying_rules gone rs)) all ∙ rules_in_order gone c.args.old.now.indexes c.indexes-rule-items.ensures.by_name)
