use Rattle.checkfile.proofs.rule.FileRuleRankingU64.before.Goals as goal

pub returns-in-Cost : goal.returns-in-Cost
returns-in-Cost c = rw c.in-Cost.is c.before-in-Cost.ensures
