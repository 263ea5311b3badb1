use Rattle.c_parse.proofs.DialectItems.{unit-had}
use Rattle.c_parse.proofs.PrintedLaw.{printed}
use Rattle.c_parse.proofs.SoundUnits.{unit-clear}
use Rattle.c_parse.proofs.dialect_law.texts_are_of_dialects.Goals as goal

pub returns-clause-only : goal.returns-clause-only
returns-clause-only c = λ dialect end u ts text none. unit-had dialect end u ts text (record { none = none })

pub returns-clause-all : goal.returns-clause-all
returns-clause-all c = λ dialect u had.
    let text = printed dialect u had in
    record {
      tokens = text.tokens;
      end = text.end;
      read = text.read;
      spelled = text.spelled;
      clear = (unit-clear dialect u had text.tokens text.canonical).none;
      same = text.same;
    }
