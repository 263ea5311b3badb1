use Rattle.rts_laws.proofs.Sends.{sends}
use Rattle.rts_laws.proofs.sending.sent_while_sending.Goals as goal

pub returns : goal.returns
returns c = λ arch who before later event port value is act run. sends arch who before later event port value is act run
