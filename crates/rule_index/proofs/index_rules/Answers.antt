-- `rule_index::index_rules` meets its contract.
use Rattle.rule_index.proofs.Building.{index_whole}
use Rattle.rule_index.proofs.Kept.{same_on, ready_kept}
use Rattle.rule_index.proofs.index_rules.Goals as goal

pub add_rules-requires : goal.add_rules-requires
add_rules-requires c =
    (c.clear.ensures.0.size, ready_kept _ _ c.clear.ensures.0.rules _ c.requires.1, c.clear.ensures.1)

pub add_goals-requires : goal.add_goals-requires
add_goals-requires c =
    let same = same_on c.clear.ensures.0 c.add_rules.ensures.0 in
    (same.size, ready_kept _ _ same.rules _ c.requires.1, c.add_rules.ensures.1)

pub returns : goal.returns
returns c =
    let same = same_on (same_on c.clear.ensures.0 c.add_rules.ensures.0) c.add_goals.ensures.0 in
    (same.rules, index_whole c.add_goals.new.table _ _ same.size _ (ready_kept _ c.add_goals.new.table same.rules _ c.requires.1) c.add_goals.ensures.1 c.ends_of-all.ensures c.ends_of-low.ensures c.add_goals.ensures.2)
