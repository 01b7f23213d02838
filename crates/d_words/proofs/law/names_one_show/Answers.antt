use Rattle.d_words.proofs.ShowFound.{one_show, show_or_none, show_alone}
use Rattle.d_words.proofs.law.names_one_show.Goals as goal

pub returns-clause-one : goal.returns-clause-one
returns-clause-one c = one_show

pub returns-clause-decided : goal.returns-clause-decided
returns-clause-decided c = show_or_none

pub returns-clause-alone : goal.returns-clause-alone
returns-clause-alone c = show_alone
