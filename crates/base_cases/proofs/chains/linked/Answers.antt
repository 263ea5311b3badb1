use Rattle.base_cases.proofs.chains.linked.Goals as goal

pub returns-in_ok-times-in-Times : goal.returns-in_ok-times-in-Times
returns-in_ok-times-in-Times c = (_, c.in_ok-times-in-Times.ensures c.requires.0 c.requires.1)
