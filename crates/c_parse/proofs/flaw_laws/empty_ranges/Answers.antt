use Rattle.c_parse.proofs.Flawless.{flaw-of-empty}
use Rattle.c_parse.proofs.RangeLaws.{range-found-at, range-at}
use Rattle.c_parse.proofs.flaw_laws.empty_ranges.Goals as goal

pub returns-clause-found : goal.returns-clause-found
returns-clause-found c = range-found-at

pub returns-clause-only : goal.returns-clause-only
returns-clause-only c = range-at

pub returns-clause-sound : goal.returns-clause-sound
returns-clause-sound c dialect ts i at none empty = flaw-of-empty dialect ts i at (range-found-at ts i at empty) none
